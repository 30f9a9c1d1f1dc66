-- A name read into kinds.
use Rattle.std.specs.Prelude.{ℕ, suc, ◌+◌, ◌≤◌, ◌<◌, Bool, true, false, List, ◌∷◌, ◌≡◌, eqb, length, get_or, drop, Option, Some, None}
use Rattle.std.specs.Option.{MatchOption}
use Rattle.std.proofs.Math.Option.{Option as Found, none, some}
use Rattle.rules.specs.Basics.{choose, is, at, first_is}
use Rattle.config_rules.specs.Numbers.{number_len}
use Rattle.config_rules.specs.Name.{Reading, to_bracket, reading_at, tokens}
use Rattle.glob_pass.specs.Kinds.{held_at, held, kind_at}
use Rattle.glob_pass.specs.declared.kinds.Kind.{Kind}
use Rattle.glob_name.specs.declared.read.Read.{Read}

-- n characters from `from` on, as many as x says
pub record Counted (chars : List ℕ) (from x n : ℕ) : Type 0 where
  pub is : n ≡ x
  pub fits : from + n ≤ length chars

-- n is how long the number is that stands at `from`
pub record NumberAt (chars : List ℕ) (from n : ℕ) : Type 0 where
  pub is : n ≡ number_len (drop from chars)
  pub some : 0 < n
  pub fits : from + n ≤ length chars

-- r is what x says, where 0 is none
abbrev pub Told : ℕ → Option ℕ → Type 0
Told x r = MatchOption r (x ≡ 0) (λ n. (n ≡ x) × (0 < n))

-- how many more characters a range has, 0 for none
unfoldable pub rest_more : List ℕ → ℕ → ℕ → ℕ
rest_more cs from m =
    let n = number_len (drop (from + m + 2) cs) in
    choose (eqb n 0) 0 (choose (first_is (is "}") (drop (from + m + 2 + n) cs)) (m + n + 3) 0)

unfoldable pub range_more : List ℕ → ℕ → ℕ
range_more cs from =
    let m = number_len (drop from cs) in
    choose (eqb m 0) 0
    (choose (first_is (is ".") (drop (from + m) cs))
    (choose (first_is (is ".") (drop (from + m + 1) cs)) (rest_more cs from m) 0)
    0)

-- how far the `]` is that ends a set, if one does
abbrev pub set_end : Found (List ℕ) → Option ℕ
set_end none = None
set_end (some l) = Some (suc (length l))

unfoldable pub set_more : Bool → List ℕ → Option ℕ
set_more esc s = set_end (to_bracket esc s)

abbrev pub longer : Option ℕ → Option ℕ
longer None = None
longer (Some n) = Some (n + 1)

pub record Ends (chars : List ℕ) (ends : List (Option ℕ)) : Type 0 where
  pub at : (j : ℕ) → j ≤ length chars → get_or ends j None ≡ set_more false (drop j chars)

-- ---- what is read at a character

abbrev pub plain_read : Kind → ℕ → Read
plain_read k n = record { kind = k; more = n; deep = false }

unfoldable pub star_read : Bool → List ℕ → Read
star_read deep s = choose (first_is (is "*") s) (record { kind = Kind.Stars; more = 1; deep = deep }) (plain_read Kind.Star 0)

unfoldable pub slash_read : Bool → List ℕ → Read
slash_read deep s =
    choose deep (plain_read Kind.Plain 0) (choose (at s "**/") (record { kind = Kind.Ahead; more = 0; deep = true }) (plain_read Kind.Plain 0))

unfoldable pub escape_read : Bool → Read
escape_read more = choose more (plain_read Kind.Escape 1) (plain_read Kind.Plain 0)

abbrev pub set_read : Option ℕ → Read
set_read None = plain_read Kind.Plain 0
set_read (Some n) = plain_read Kind.Set n

-- where a range has n characters more, 0 for none
unfoldable pub brace_read : ℕ → Read
brace_read n = choose (eqb n 0) (plain_read Kind.Opens 0) (plain_read Kind.Range n)

-- the same as the definitions read it, s from the character on
abbrev pub as_reading : Read → List ℕ → Reading
as_reading r s = record { token = held_at r.kind s; more = r.more; deep = r.deep }

-- the kinds that are read: no brace or comma is taken for itself yet
abbrev pub is_raw : Kind → Bool
is_raw Kind.Plain = true
is_raw Kind.Covered = true
is_raw Kind.One = true
is_raw Kind.Star = true
is_raw Kind.Stars = true
is_raw Kind.Set = true
is_raw Kind.Range = true
is_raw Kind.Escape = true
is_raw Kind.Ahead = true
is_raw Kind.LoneCloses = false
is_raw Kind.LoneComma = false
is_raw Kind.LoneOpens = false
is_raw Kind.Closes = true
is_raw Kind.Comma = true
is_raw Kind.Opens = true

-- the kind is one that is read; a range has x characters more
pub record Good (x : ℕ) (r : Read) : Type 0 where
  pub raw : is_raw r.kind ≡ true
  pub spans : r.kind ≡ Kind.Range → (r.more ≡ x) × (0 < r.more)

pub record TokenRead (cs : List ℕ) (i : ℕ) (deep : Bool) (r : Read) : Type 0 where
  pub is : as_reading r (get_or cs i 0 ∷ drop (i + 1) cs) ≡ reading_at deep (get_or cs i 0) (drop (i + 1) cs)
  pub good : Good (range_more cs (i + 1)) r

-- every kind is one of those that are read
pub record Raw (ks : List Kind) : Type 0 where
  pub at : (j : ℕ) → is_raw (kind_at ks j) ≡ true

-- where a range stands, its characters follow as parts
pub record Spaced (cs : List ℕ) (ks : List Kind) : Type 0 where
  pub some : (j : ℕ) → kind_at ks j ≡ Kind.Range → 0 < range_more cs (j + 1)
  pub parts : (j : ℕ) → kind_at ks j ≡ Kind.Range → (q : ℕ) → j < q → q ≤ j + range_more cs (j + 1) → q < length ks
      → kind_at ks q ≡ Kind.Covered

pub record RawKinds (cs : List ℕ) (ks : List Kind) : Type 0 where
  pub long : length ks ≡ length cs
  pub raw : Raw ks
  pub spaced : Spaced cs ks
  pub is : held ks cs ≡ tokens 0 false cs
