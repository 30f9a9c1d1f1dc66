-- Sections and pairs, for the path `rel` relative to the text's directory.
use Rattle.std.specs.Prelude.{ℕ, Bool, false, ◌||◌, List, [], ◌∷◌, ltb, length}
use Rattle.rules.specs.Basics.{choose, codes, same}
use Rattle.rules.specs.declared.Resolved.{Resolved}
use Rattle.config_rules.specs.Globs.{matches}
use Rattle.config_rules.specs.Lines.{Line}
use Rattle.config_rules.specs.Lines.Line.{nothing, header, pair}
use Rattle.config_rules.specs.Values.{superseded}

-- before the first header only `root` counts, and its last value
unfoldable pub root_at : Bool → List Line → Bool
root_at root [] = root
root_at root (nothing ∷ ls) = root_at root ls
root_at root (header name ∷ ls) = root
root_at root (pair k v ∷ ls) = root_at (choose (same k (codes "root")) (same v (codes "true")) root) ls

-- after it, pairs under a name that matches; a later one supersedes an earlier one
unfoldable pub settings : List ℕ → Bool → Resolved → List Line → Resolved
settings rel applies r [] = r
settings rel applies r (nothing ∷ ls) = settings rel applies r ls
settings rel applies r (header name ∷ ls) = settings rel (matches name rel) r ls
settings rel applies r (pair k v ∷ ls) = settings rel applies (choose applies (superseded r k v) r) ls

unfoldable pub long_name : List Line → Bool
long_name [] = false
long_name (nothing ∷ ls) = long_name ls
long_name (header name ∷ ls) = ltb 1024 (length name) || long_name ls
long_name (pair k v ∷ ls) = long_name ls
