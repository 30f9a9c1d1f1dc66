-- Each line has its own strings among the lines that are written.
use Prim.Native.Nat.{ℕ}
use mathlib.Core.Logic.{inl}
use mathlib.Core.List.{List, [], ◌∷◌, ◌++◌}
use mathlib.Core.Path.{◌≡◌, refl, ◌∙◌}
use Rattle.utf8.specs.Unicode.{trim}
use Rattle.utf8.proofs.Trim.{White}
use Rattle.rules.specs.Scan.{begin}
use Rattle.rules.specs.Spacing.{respaced}
use Rattle.rules.specs.Else.{join_else}
use Rattle.rules.specs.Line.{Formatter, as_written, lines_before}
use Rattle.rules.specs.Quoted.{Quoted, quoted_in, All}
use Rattle.rules.specs.declared.Carry.{Carry}
use Rattle.rules.proofs.Struck.{Like, like_eq, ◌then◌, flatten_back}
use Rattle.rules.proofs.LineLaws.{flatten_back_before}
use Rattle.quoted.proofs.Strings.{all_map}
use Rattle.quoted.proofs.White.{quoted_trim}
use Rattle.quoted.proofs.Place.{Placed, placed_from, placed_end, placed_indent, placed_raw, placed_spaced, In, joined_in}
use Rattle.quoted.proofs.Lines.{Written, kept, passed, blank, placed, joins}

placed_written : (y : Carry) (b raw : List ℕ) (x : Quoted) → Placed b raw x → Placed b (as_written y raw) x
unfolding as_written
placed_written Carry.Code b raw x p = p
placed_written (Carry.Block d) b raw x p = placed_end p
placed_written Carry.Prefab b raw x p = p

-- the strings of the line raw, before which b stands and y is open
abbrev New : Carry → List ℕ → List ℕ → List (List ℕ) → Type 0
New y b raw ms = All (In ms) (quoted_in b (begin y) raw)

module _ (f : Formatter) (b raw : List ℕ) (like : Like (flatten_back f.lines) b) where
  none_blank : trim raw ≡ [] → quoted_in b (begin Carry.Code) raw ≡ []
  none_blank z = (quoted_trim b raw).same ∙ rw z (unfold quoted_in in refl)

  new_kept : (z : Carry) → New f.carry b raw (as_written z raw ∷ f.lines)
  new_kept z =
      all_map (Placed b raw) (In (as_written z raw ∷ f.lines))
      (λ x p. inl (placed_written z (flatten_back f.lines) raw x (placed_from p (flatten_back f.lines) like)))
      (quoted_in b (begin f.carry) raw) (placed_raw f.carry b raw)

  new_placed : (indent : List ℕ) → White indent
      → New Carry.Code b raw ((indent ++ respaced (trim raw)) ∷ lines_before f (respaced (trim raw)))
  new_placed indent white =
      let line : List ℕ = respaced (trim raw) in
      let ls : List (List ℕ) = lines_before f line in
      let before : Like (flatten_back ls) b = like_eq (flatten_back_before f line) then like in
      all_map (Placed b line) (In ((indent ++ line) ∷ ls))
      (λ x p. inl (placed_indent (flatten_back ls) indent line x white (placed_from p (flatten_back ls) before)))
      (quoted_in b (begin Carry.Code) raw) (placed_spaced b raw)

  new_joins : New Carry.Code b raw (join_else (respaced (trim raw)) f.lines)
  new_joins =
      let line : List ℕ = respaced (trim raw) in
      all_map (Placed b line) (In (join_else line f.lines))
      (λ x p. joined_in line f.lines x (placed_from p (flatten_back f.lines) like))
      (quoted_in b (begin Carry.Code) raw)
      (placed_spaced b raw)

  pub new_line_law : (ms : List (List ℕ)) → Written f raw ms → New f.carry b raw ms
  unfolding lines_before
  new_line_law ms (kept z e) = rw e (new_kept z)
  new_line_law ms (passed c z e) = rw (c, none_blank z) tt
  new_line_law ms (blank c z e) = rw (c, none_blank z) tt
  new_line_law ms (placed c indent white e) = rw (e, c) (new_placed indent white)
  new_line_law ms (joins c e) = rw (e, c) new_joins
