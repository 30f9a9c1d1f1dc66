-- What stands on one of the lines, the newest first, stays there when a line more is written.
use Prim.Native.Nat.{ℕ}
use mathlib.Core.Logic.{◌⊎◌, inl, inr}
use mathlib.Core.List.{List, [], ◌∷◌, ◌++◌}
use Rattle.utf8.specs.Unicode.{trim_end}
use Rattle.rules.specs.Basics.{codes}
use Rattle.rules.specs.Else.{join_else}
use Rattle.rules.specs.Line.{Formatter, drop_blank, lines_before}
use Rattle.rules.specs.Assembly.{drop_empty}
use Rattle.rules.proofs.Choose.{choose_case}
use Rattle.quoted.proofs.Lines.{Written, kept, passed, blank, placed, joins}

-- P of one of the lines and the lines before it
abbrev pub Among : (List (List ℕ) → List ℕ → Type 0) → List (List ℕ) → Type 0
Among P [] = ⊥
Among P (l ∷ ls) = P ls l ⊎ Among P ls

-- P is of no empty line, and stays true of a line that an else is joined to
pub record Lasts (P : List (List ℕ) → List ℕ → Type 0) : Type 0 where
  pub some : (ls : List (List ℕ)) → P ls [] → ⊥
  pub join : (ls : List (List ℕ)) (last line : List ℕ) → P ls last → P ls (trim_end last ++ (codes " " ++ line))

module _ (P : List (List ℕ) → List ℕ → Type 0) (lasts : Lasts P) where
  among_blank : (ls : List (List ℕ)) → Among P ls → Among P (drop_blank ls)
  unfolding drop_blank
  among_blank [] h = h
  among_blank ([] ∷ ls) (inl p) = absurd (lasts.some ls p)
  among_blank ([] ∷ ls) (inr h) = h
  among_blank ((c ∷ cs) ∷ ls) h = h

  pub among_empty : (ls : List (List ℕ)) → Among P ls → Among P (drop_empty ls)
  unfolding drop_empty
  among_empty [] h = h
  among_empty ([] ∷ ls) (inl p) = absurd (lasts.some ls p)
  among_empty ([] ∷ ls) (inr h) = among_empty ls h
  among_empty ((c ∷ cs) ∷ ls) h = h

  among_join : (line : List ℕ) (ls : List (List ℕ)) → Among P ls → Among P (join_else line ls)
  unfolding join_else
  among_join line [] h = absurd h
  among_join line (last ∷ ls) (inl p) = inl (lasts.join ls last line p)
  among_join line (last ∷ ls) (inr h) = inr h

  among_before : (f : Formatter) (line : List ℕ) → Among P f.lines → Among P (lines_before f line)
  unfolding lines_before
  among_before f line h = choose_case (Among P) (λ t. among_blank f.lines h) (λ t. h)

  pub among_line : (f : Formatter) (raw : List ℕ) (ms : List (List ℕ)) → Written f raw ms → Among P f.lines
      → Among P ms
  among_line f raw ms (kept y e) h = rw e (inr h)
  among_line f raw ms (passed c z e) h = rw e h
  among_line f raw ms (blank c z e) h = rw e (inr h)
  among_line f raw ms (placed c indent white e) h = rw e (inr (among_before f _ h))
  among_line f raw ms (joins c e) h = rw e (among_join _ f.lines h)
