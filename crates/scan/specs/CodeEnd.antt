-- What a line's class bytes say of it: the code's way to ask for `code_part`, `comment_part` and `all_code_or_str`.
use Rattle.std.specs.Prelude.{ℕ, suc, Bool, true, ◌&&◌, List, [], ◌∷◌, ◌≡◌, eqb, length, get_or}
use Rattle.rules.specs.Basics.{choose}
use Rattle.rules.specs.Scan.{is_line_comment, is_code_or_str}
use Rattle.rules.specs.ClassBytes.{class_of}

-- how many class bytes stand before the first of a `//` comment
unfoldable pub code_length : List ℕ → ℕ
code_length [] = 0
code_length (k ∷ ks) = let r = suc (code_length ks) in choose (is_line_comment (class_of k)) 0 r

-- the class byte at i is one of a `//` comment
abbrev pub comment_at : List ℕ → ℕ → Bool
comment_at ks i = eqb (get_or ks i 0) 2

-- if r says so, none is
pub record NoComment (ks : List ℕ) (r : Bool) : Type 0 where
  pub none : r ≡ true → code_length ks ≡ length ks

-- every class byte is one of code or string
unfoldable pub only_code_or_str : List ℕ → Bool
only_code_or_str [] = true
only_code_or_str (k ∷ ks) = is_code_or_str (class_of k) && only_code_or_str ks
