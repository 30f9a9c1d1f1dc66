-- The lines of a well-formed source: each is well-formed, and their characters are the lines of its characters.
use Prim.Native.Nat.{ℕ}
use mathlib.Core.List.{List, [], ◌∷◌, map}
use mathlib.Core.Path.{◌≡◌, sym, ap, subst, ◌∙◌}
use Rattle.utf8.specs.Unicode.{Scalars, encode, decode, WellFormed}
use Rattle.utf8.proofs.Decode.{decode_scalars}
use Rattle.rules.specs.Basics.{pieces, split_on}
use Rattle.rules.specs.Lines.{drop_cr, lines_of}
use Rattle.rules.proofs.LinesBytes.{lines_encode}
use Rattle.rules.proofs.Scalars.{AllScalars, all_decode, split_scalars}
use Rattle.rules.proofs.StartsBytes.{on_decode}
use Rattle.line_ends.proofs.LineCuts.{cr_scalars}
use Rattle.split.specs.Text.{AllWell}
use Rattle.split.proofs.TextLaws.{all_well}

each_scalars : (ps : List (List ℕ)) → AllScalars ps → AllScalars (map drop_cr ps)
each_scalars [] s = tt
each_scalars (p ∷ ps) s = (cr_scalars p s.0, each_scalars ps s.1)

lines_scalars : (l : List ℕ) → Scalars l → AllScalars (lines_of l)
unfolding lines_of
lines_scalars l s = each_scalars (pieces (split_on "\n" l)) (split_scalars "\n" l s)

module _ (s : List ℕ) (w : WellFormed s) where
  lines_bytes : lines_of s ≡ map encode (lines_of (decode s))
  lines_bytes = on_decode lines_of (λ (l : List ℕ). map encode (lines_of l)) lines_encode s w

  pub lines_well : AllWell (lines_of s)
  lines_well = subst AllWell (sym lines_bytes) (all_well (lines_of (decode s)) (lines_scalars (decode s) (decode_scalars s)))

  pub lines_decode : map decode (lines_of s) ≡ lines_of (decode s)
  lines_decode = ap (map decode) lines_bytes ∙ all_decode (lines_of (decode s)) (lines_scalars (decode s) (decode_scalars s))
