-- How the name of a section is read: in tokens, one for each of its characters.
use Rattle.std.specs.Prelude.{ℕ, zero, suc, ◌+◌, Bool, true, false, not, ◌&&◌, ◌||◌, List, [], ◌∷◌, ltb, length, drop, take}
use Rattle.std.proofs.Math.Option.{Option, none, some}
use Rattle.rules.specs.Basics.{choose, is, at, is_empty, first_is}
use Rattle.config_rules.specs.Sets.{in_set}
use Rattle.config_rules.specs.Numbers.{number_len}

pub data Item : Type 0 where
  part : Item  -- the rest of a token of several characters
  same : ℕ → Item  -- a character that stands for itself
  one : (ℕ → Bool) → Item  -- `?`, `[..]`: one character that passes
  run : (ℕ → Bool) → Item  -- `*`, `**`: any number of characters that pass
  ahead : Item  -- the first `/` of `/**/`
  range : List ℕ → List ℕ → Item  -- `{m..n}`

pub data Token : Type 0 where
  item : Item → Token
  opens comma closes : Token  -- `{` `,` `}` outside brackets

abbrev pub not_slash : ℕ → Bool
not_slash c = not (is "/" c)

abbrev pub any_char : ℕ → Bool
any_char c = true

-- a token, how many more characters it has, and whether a `/**/` goes on behind it
pub record Reading : Type 0 where
  pub token : Token
  pub more : ℕ
  pub deep : Bool

abbrev pub reading : Token → ℕ → Reading
reading t n = record { token = t; more = n; deep = false }

abbrev pub deeper : Token → ℕ → Bool → Reading
deeper t n d = record { token = t; more = n; deep = d }

-- a backslash with s after it: the next character is itself; a last one stands for itself
unfoldable pub escape_at : List ℕ → Reading
escape_at [] = reading (item (same 92)) 0
escape_at (c ∷ s) = reading (item (same c)) 1

-- brackets end at the first unescaped `]`; where there is none, `[` stands for itself
abbrev pub cons_to : ℕ → Option (List ℕ) → Option (List ℕ)
cons_to c none = none
cons_to c (some l) = some (c ∷ l)

unfoldable pub to_bracket : Bool → List ℕ → Option (List ℕ)
to_bracket esc [] = none
to_bracket esc (c ∷ s) =
    let r = cons_to c (to_bracket (not esc && is "\\" c) s) in choose (not esc && is "]" c) (some []) r

unfoldable pub bracket_at : Option (List ℕ) → Reading
bracket_at none = reading (item (same 91)) 0
bracket_at (some l) = reading (item (one (in_set l))) (suc (length l))

-- a brace with s after it: a range, `m..n}`, or an opening brace
unfoldable pub range_at : List ℕ → ℕ → List ℕ → ℕ → Reading
range_at s m t n =
    choose (ltb 0 m && at (drop m s) ".." && ltb 0 n && first_is (is "}") (drop n t))
    (reading (item (range (take m s) (take n t))) (m + n + 3))
    (reading opens 0)

unfoldable pub brace_at : List ℕ → Reading
brace_at s = range_at s (number_len s) (drop (number_len s + 2) s) (number_len (drop (number_len s + 2) s))

unfoldable pub star_at : Bool → List ℕ → Reading
star_at deep s = choose (first_is (is "*") s) (deeper (item (run any_char)) 1 deep) (reading (item (run not_slash)) 0)

-- the last `/` of a `/**/` starts no other
unfoldable pub slash_at : Bool → List ℕ → Reading
slash_at deep s = choose (not deep && at s "**/") (deeper (item ahead) 0 true) (reading (item (same 47)) 0)

-- the token that starts at c, which nothing escapes, with s after it
unfoldable pub reading_at : Bool → ℕ → List ℕ → Reading
reading_at deep c s =
    choose (is "\\" c) (escape_at s)
    (choose (is "[" c) (bracket_at (to_bracket false s))
    (choose (is "{" c) (brace_at s)
    (choose (is "*" c) (star_at deep s)
    (choose (is "/" c) (slash_at deep s)
    (choose (is "?" c) (reading (item (one not_slash)) 0)
    (choose (is "," c) (reading comma 0)
    (choose (is "}" c) (reading closes 0)
    (reading (item (same c)) 0))))))))

unfoldable pub tokens : ℕ → Bool → List ℕ → List Token
tokens k deep [] = []
tokens zero deep (c ∷ s) = (reading_at deep c s).token ∷ tokens (reading_at deep c s).more (reading_at deep c s).deep s
tokens (suc k) deep (c ∷ s) = item part ∷ tokens k deep s

-- ---- Braces that stand for themselves: never closed, never opened, with no comma of their own. A comma counts between
-- braces only.

-- Braces open on one side of a place, the innermost first, each with whether it has a comma there.
unfoldable pub with_comma : List Bool → List Bool
with_comma [] = []
with_comma (b ∷ bs) = true ∷ bs

unfoldable pub outer : List Bool → List Bool
outer [] = []
outer (b ∷ bs) = bs

abbrev pub innermost : List Bool → Bool
innermost [] = false
innermost (b ∷ bs) = b

-- the closing braces of a text that it does not open
unfoldable pub closers : Token → List Bool → List Bool
closers (item i) bs = bs
closers opens bs = outer bs
closers comma bs = with_comma bs
closers closes bs = false ∷ bs

unfoldable pub unopened : List Token → List Bool
unopened [] = []
unopened (t ∷ ts) = closers t (unopened ts)

-- the opening braces before a place that are not closed there
unfoldable pub openers : Token → List Bool → List Bool
openers (item i) bs = bs
openers opens bs = false ∷ bs
openers comma bs = with_comma bs
openers closes bs = outer bs

-- a token between the open braces `before` it and `after` it
unfoldable pub settled_at : List Bool → Token → List Bool → Token
settled_at before (item i) after = item i
settled_at before opens after = choose (innermost after) opens (item (same 123))
settled_at before comma after = choose (is_empty before || is_empty after) (item (same 44)) comma
settled_at before closes after = choose (innermost before) closes (item (same 125))

unfoldable pub settled : List Bool → List Token → List Token
settled before [] = []
settled before (t ∷ ts) = settled_at before t (unopened ts) ∷ settled (openers t before) ts

unfoldable pub tokens_of : List ℕ → List Token
tokens_of name = settled [] (tokens 0 false name)
