-- Lists of texts that have characters alone: the pieces of a text, and what their bytes decode to.
use Prim.Native.Char.{Char}
use Prim.Native.Nat.{ℕ}
use mathlib.Core.Bool.{Bool, true, false}
use mathlib.Core.List.{List, [], ◌∷◌, map}
use mathlib.Core.Path.{◌≡◌, refl}
use lib.Dec.{T}
use Rattle.utf8.specs.Unicode.{is_scalar, Scalars, encode, decode}
use Rattle.utf8.proofs.Decode.{decode_encode}
use Rattle.rules.specs.Basics.{is, Pieces, pieces, at_sep, split_on}

abbrev pub AllScalars : List (List ℕ) → Type 0
AllScalars [] = Unit {0}
AllScalars (l ∷ ls) = Scalars l × AllScalars ls

pub all_decode : (ls : List (List ℕ)) → AllScalars ls → map decode (map encode ls) ≡ ls
all_decode [] s = refl
all_decode (l ∷ ls) s = rw (decode_encode l s.0, all_decode ls s.1)

at_scalars : (t : Bool) (c : ℕ) (p : Pieces) → T (is_scalar c) → AllScalars (pieces p) → AllScalars (pieces (at_sep t c p))
unfolding at_sep
at_scalars true c p s r = (tt, r)
at_scalars false c p s r = ((s, r.0), r.1)

pub split_scalars : (sep : Char) (l : List ℕ) → Scalars l → AllScalars (pieces (split_on sep l))
unfolding split_on
split_scalars sep [] s = (tt, tt)
split_scalars sep (c ∷ l) s = at_scalars (is sep c) c (split_on sep l) s.0 (split_scalars sep l s.1)
