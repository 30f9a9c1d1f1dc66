-- How a line of the source is written where no print width is set: as it stands, as a blank line or not at all, behind
-- an indent, or joined.
use Rattle.std.specs.Prelude.{None}
use Prim.Native.Nat.{ℕ}
use mathlib.Core.Bool.{Bool, true}
use mathlib.Core.List.{List, [], ◌∷◌, ◌++◌, reverse_aux}
use mathlib.Core.Path.{◌≡◌, refl, sym, ap, ◌∙◌}
use Rattle.utf8.specs.Unicode.{trim}
use Rattle.utf8.proofs.Trim.{White}
use Rattle.rules.specs.Basics.{choose, is_empty}
use Rattle.rules.specs.Options.{Options, indent_of, PrintWidth}
use Rattle.rules.specs.Scan.{classify, carry_after, final}
use Rattle.rules.specs.Spacing.{respaced}
use Rattle.rules.specs.Words.{is_marker}
use Rattle.rules.specs.Else.{join_else}
use Rattle.rules.specs.SplitImport.{Laid}
use Rattle.rules.specs.Line.{Formatter, scanned_part, kept_line, as_written, inside_line, blank_line, protected_line, else_line, lines_before, level_of, one_line, may_split, split_wide, laid, placed_line, spaced_line, code_line, in_code_now, any_line, format_line}
use Rattle.rules.specs.declared.Carry.{Carry}
use Rattle.rules.proofs.Choose.{choose_case}
use Rattle.rules.proofs.StartsBytes.{choose_both}
use Rattle.rules.proofs.SplitOperationLaws.{white_indent}
use Rattle.rules.proofs.Prefix.{never}
use Rattle.quoted.proofs.White.{carry_trim}
use Rattle.quoted.proofs.Carries.{carry_respaced}

-- ms, the lines after the line raw, before which the record was f
pub data Written (f : Formatter) (raw : List ℕ) (ms : List (List ℕ)) : Type 0 where
  kept : (y : Carry) → ms ≡ as_written y raw ∷ f.lines → Written f raw ms
  passed : f.carry ≡ Carry.Code → trim raw ≡ [] → ms ≡ f.lines → Written f raw ms
  blank : f.carry ≡ Carry.Code → trim raw ≡ [] → ms ≡ [] ∷ f.lines → Written f raw ms
  placed : f.carry ≡ Carry.Code → (indent : List ℕ) → White indent
      → ms ≡ (indent ++ respaced (trim raw)) ∷ lines_before f (respaced (trim raw)) → Written f raw ms
  joins : f.carry ≡ Carry.Code → ms ≡ join_else (respaced (trim raw)) f.lines → Written f raw ms

-- g is the record after it
pub record Goes (f : Formatter) (raw : List ℕ) (g : Formatter) : Type 0 where
  pub lines : Written f raw g.lines
  pub carry : g.carry ≡ carry_after f.carry raw

in_code : (y : Carry) → in_code_now y ≡ true → y ≡ Carry.Code
in_code Carry.Code h = refl
in_code (Carry.Block d) h = never h refl
in_code Carry.Prefab h = never h refl

empty_nil : (l : List ℕ) → is_empty l ≡ true → l ≡ []
empty_nil [] h = refl
empty_nil (c ∷ l) h = never h refl

-- what is open after the part that is scanned
scanned_carry : (y : Carry) (raw : List ℕ) → carry_after y (scanned_part y raw) ≡ carry_after y raw
unfolding scanned_part
scanned_carry Carry.Code raw = carry_trim raw
scanned_carry (Carry.Block d) raw = refl
scanned_carry Carry.Prefab raw = refl

module _ (o : Options) (off : o.print_width ≡ None) (white : White o.indent) (f : Formatter) (raw : List ℕ) where
  goes_inside : Goes f raw (inside_line f raw)
  unfolding kept_line
  goes_inside = record { lines = kept f.carry refl; carry = scanned_carry f.carry raw }

  goes_protected : Goes f raw (protected_line f raw)
  unfolding kept_line as_written
  goes_protected = record { lines = kept Carry.Code refl; carry = scanned_carry f.carry raw }

  module _ (e : f.carry ≡ Carry.Code) where
    -- what is open after the trimmed line, or the respaced one
    trimmed_carry : carry_after f.carry (trim raw) ≡ carry_after f.carry raw
    trimmed_carry = rw e (carry_trim raw)

    respaced_carry : carry_after Carry.Code (respaced (trim raw)) ≡ carry_after f.carry raw
    respaced_carry = carry_respaced (trim raw) ∙ rw e (carry_trim raw)

    goes_blank : trim raw ≡ [] → Goes f raw (blank_line f)
    unfolding blank_line
    goes_blank z =
        let still : f.carry ≡ carry_after f.carry raw =
        e ∙ sym (sym trimmed_carry ∙ rw (e, z) (unfold carry_after final in refl)) in
        choose_case (Goes f raw)
        (λ t. record { lines = passed e z refl; carry = still })
        (λ t. record { lines = blank e z refl; carry = still })

    goes_else : Goes f raw (else_line f (respaced (trim raw)))
    unfolding else_line
    goes_else = record { lines = joins e refl; carry = respaced_carry }

    laid_off : (marker : Bool) (line : List ℕ)
        → (laid o f marker line).lines ≡ (indent_of o (level_of f line) ++ line) ∷ []
    unfolding laid split_wide
    laid_off marker line =
        let l : Laid = one_line (indent_of o (level_of f line) ++ line) in
        ap (λ (w : PrintWidth). (choose (may_split f marker line) (split_wide w o (level_of f line) line) l).lines) off
        ∙ ap (λ (k : Laid). k.lines) (choose_both (may_split f marker line) l)

    goes_placed : (marker : Bool) → Goes f raw (placed_line o f marker (respaced (trim raw)))
    unfolding placed_line
    goes_placed marker =
        let line : List ℕ = respaced (trim raw) in
        let level : ℕ = level_of f line in
        let i : List ℕ = indent_of o level in
        record {
          lines =
              placed e i (white_indent o white level)
              (ap {B = List (List ℕ)} (λ m. reverse_aux m (lines_before f line)) (laid_off marker line));
          carry = respaced_carry;
        }

    goes_code : Goes f raw (code_line o f raw)
    unfolding code_line spaced_line
    goes_code =
        choose_case (Goes f raw) (λ t. goes_protected)
        (λ t. choose_case (Goes f raw) (λ u. goes_else) (λ u. goes_placed (is_marker (classify Carry.Code (trim raw)))))

  goes_any : Goes f raw (any_line o f raw)
  unfolding any_line
  goes_any =
      choose_case (Goes f raw) (λ s. goes_protected)
      (λ s. choose_case (Goes f raw)
      (λ t. let e = in_code f.carry t in
      choose_case (Goes f raw) (λ u. goes_blank e (empty_nil (trim raw) u)) (λ u. goes_code e))
      (λ t. goes_inside))

  -- only the lines and what is open count
  pub goes_line : Goes f raw (format_line o f raw)
  unfolding format_line
  goes_line = record { lines = goes_any.lines; carry = goes_any.carry }
