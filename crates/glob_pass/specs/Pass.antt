-- What one pass over a name finds.
use Rattle.std.specs.Prelude.{ℕ, zero, suc, ◌+◌, ◌≤◌, ◌<◌, Bool, false, ◌&&◌, ◌||◌, List, [], ◌∷◌, ◌≡◌, eqb, length, drop, get_or}
use Rattle.rules.specs.Basics.{is, is_empty}
use Rattle.config_rules.specs.Numbers.{in_range}
use Rattle.config_rules.specs.Name.{Item, Token}
use Rattle.config_rules.specs.Name.Item.{part, same, one, run, ahead, range}
use Rattle.config_rules.specs.Name.Token.{item, opens, comma, closes}
use Rattle.config_rules.specs.Globs.{Strings, Around, Place, some_then, place_at, place_of}
use Rattle.glob_pass.specs.declared.Known.{Known}
use Rattle.glob_pass.specs.declared.Side.{Side}
use Rattle.glob_pass.specs.declared.Braces.{Braces}
use Rattle.glob_pass.specs.declared.kinds.Brace.{Brace}
use Rattle.glob_pass.specs.Kinds.{brace_of}

-- what the name from a place on says of s
abbrev pub here_at : List Token → ℕ → Strings
here_at ts j = (place_of (drop j ts)).here

-- and of s without its first character; nothing, where it has none
unfoldable pub before : Strings → Strings
before k [] = false
before k (c ∷ s) = k s

-- the value at a place of an item, where c is the first character of s
unfoldable pub value_at : Item → ℕ → Known → Bool
value_at part c n = n.next
value_at (same d) c n = eqb d c && n.prior
value_at (one p) c n = p c && n.prior
value_at (run p) c n = n.next || (p c && n.old)
value_at ahead c n = is "/" c && n.next
value_at (range a b) c n = n.hit

-- c is the first character of s, or 0 where it has none
abbrev pub Heads : ℕ → List ℕ → Type 0
Heads c [] = c ≡ 0
Heads c (d ∷ s) = c ≡ d

-- ---- the stack of open braces at s, the innermost first

abbrev pub stacked : List Side → ℕ → List Side
stacked l zero = []
stacked l (suc n) = get_or l n (record { others = false; after = false }) ∷ stacked l n

abbrev pub open_braces : Braces → List Side
open_braces b = stacked b.sides b.depth

unfoldable pub seen : List ℕ → List Around → List Side
seen s [] = []
seen s (b ∷ bs) = record { others = b.others s; after = b.after s } ∷ seen s bs

pub record Turn (p : Place) (s : List ℕ) (next : Bool) (stack : List Side) : Type 0 where
  pub here : next ≡ p.here s
  pub around : stack ≡ seen s p.around

-- before a brace or a comma: its place's value and the open braces
pub record Braced (k : Brace) (b : Braces) (next : Bool) (b' : Braces) (r : Bool) : Type 0 where
  pub deep : b'.depth ≤ b.depth + 1
  pub room : length b'.sides ≡ length b.sides
  pub turn : (p : Place) (s : List ℕ) → Turn p s next (open_braces b) → Turn (place_at (brace_of k) p) s r (open_braces b')

-- at a token: its place's value and the open braces
abbrev pub Valued : Token → ℕ → Known → Braces → Braces → Bool → Type 0
Valued (item i) c n b b' r = (r ≡ value_at i c n) × (b' ≡ b)
Valued opens c n b b' r = Braced Brace.Opens b n.next b' r
Valued comma c n b b' r = Braced Brace.Comma b n.next b' r
Valued closes c n b b' r = Braced Brace.Closes b n.next b' r

-- ---- v holds the value of each place of the name at s; the values without the first character; the values of the
-- ranges

pub record Values (ts : List Token) (s : List ℕ) (v : List Bool) : Type 0 where
  pub at : (j : ℕ) → j ≤ length ts → get_or v j false ≡ here_at ts j s

pub record Olds (ts : List Token) (s : List ℕ) (v : List Bool) : Type 0 where
  pub at : (j : ℕ) → j ≤ length ts → get_or v j false ≡ before (here_at ts j) s

pub record Hits (ts : List Token) (s : List ℕ) (hits : List Bool) : Type 0 where
  pub at : (j : ℕ) (m n : List ℕ) (r : List Token) → drop j ts ≡ item (range m n) ∷ r
      → get_or hits j false ≡ some_then (in_range m n) (place_of r).here s

-- what is given to a pass at s
pub record Given (ts : List Token) (c : ℕ) (base : Bool) (hits olds : List Bool) (s : List ℕ) : Type 0 where
  pub first : Heads c s
  pub last : base ≡ is_empty s
  pub without : Olds ts s olds
  pub ranges : Hits ts s hits

pub record Passed (ts : List Token) (c : ℕ) (base : Bool) (hits olds new : List Bool) : Type 0 where
  pub room : length ts < length new
  pub is : (s : List ℕ) → Given ts c base hits olds s → Values ts s new
