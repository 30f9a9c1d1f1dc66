-- A name as code holds it: a kind and a character for each place.
use Rattle.std.specs.Prelude.{ℕ, ◌+◌, ◌≤◌, Bool, false, not, ◌&&◌, ◌||◌, List, [], ◌∷◌, ◌≡◌, length, drop, take, get_or}
use Rattle.rules.specs.Basics.{choose, is}
use Rattle.config_rules.specs.declared.Named.{Named}
use Rattle.config_rules.specs.Sets.{itself, names, fresh, in_set}
use Rattle.config_rules.specs.Numbers.{number_len}
use Rattle.config_rules.specs.Name.{Item, Token, not_slash, any_char}
use Rattle.config_rules.specs.Name.Item.{part, same, one, run, ahead, range}
use Rattle.config_rules.specs.Name.Token.{item, opens, comma, closes}
use Rattle.glob_pass.specs.declared.kinds.Brace.{Brace}
use Rattle.glob_pass.specs.declared.kinds.Kind.{Kind}

-- what stands before the first unescaped `]`, or all
unfoldable pub up_to : Bool → List ℕ → List ℕ
up_to esc [] = []
up_to esc (c ∷ s) = let r = c ∷ up_to (not esc && is "\\" c) s in choose (not esc && is "]" c) [] r

-- the range `m..n}` that s starts with
unfoldable pub range_in : List ℕ → Item
range_in s =
    range (take (number_len s) s) (take (number_len (drop (number_len s + 2) s)) (drop (number_len s + 2) s))

abbrev pub code_of : Brace → ℕ
code_of Brace.Closes = 125
code_of Brace.Comma = 44
code_of Brace.Opens = 123

unfoldable pub brace_of : Brace → Token
brace_of Brace.Closes = closes
brace_of Brace.Comma = comma
brace_of Brace.Opens = opens

-- the token of a kind whose characters s starts with
unfoldable pub held_at : Kind → List ℕ → Token
held_at Kind.Plain s = item (same (get_or s 0 0))
held_at Kind.Covered s = item part
held_at Kind.One s = item (one not_slash)
held_at Kind.Star s = item (run not_slash)
held_at Kind.Stars s = item (run any_char)
held_at Kind.Set s = item (one (in_set (up_to false (drop 1 s))))
held_at Kind.Range s = item (range_in (drop 1 s))
held_at Kind.Escape s = item (same (get_or s 1 0))
held_at Kind.Ahead s = item ahead
held_at Kind.LoneCloses s = item (same (code_of Brace.Closes))
held_at Kind.LoneComma s = item (same (code_of Brace.Comma))
held_at Kind.LoneOpens s = item (same (code_of Brace.Opens))
held_at Kind.Closes s = closes
held_at Kind.Comma s = comma
held_at Kind.Opens s = opens

unfoldable pub held : List Kind → List ℕ → List Token
held [] cs = []
held (k ∷ ks) [] = []
held (k ∷ ks) (c ∷ cs) = held_at k (c ∷ cs) ∷ held ks cs

-- the kind at a place, a character that stands for itself behind the last
abbrev pub kind_at : List Kind → ℕ → Kind
kind_at ks j = get_or ks j Kind.Plain

-- the end of a set names c
unfoldable pub last_names : Named → ℕ → Bool
last_names n c = itself n c || (n.dash && is "-" c)

-- the set goes on at i, n before it
pub record Naming (set : List ℕ) (c i : ℕ) (n : Named) : Type 0 where
  pub bound : i ≤ length set
  pub same : names fresh (up_to false set) c ≡ names n (up_to n.esc (drop i set)) c
