-- What is left of a mark: a mark of class code is one character or an escaped pair; the rest of a comment's or a
-- prefab's end is not blank.
use Prim.Native.Nat.{ℕ, zero, suc}
use mathlib.Core.Bool.{Bool, true, false, ◌&&◌}
use mathlib.Core.List.{List, [], ◌∷◌}
use mathlib.Core.Path.{◌≡◌, refl, ap}
use lib.Dec.{eqb}
use borrow.Author.Tests.{eqb-true}
use Rattle.utf8.proofs.Tests.{and_left, and_right}
use Rattle.rules.specs.Basics.{is, codes, is_blank, starts_with}
use Rattle.rules.specs.Scan.{one, long, in_code, in_quoted, in_interp, in_inner, in_block, in_prefab, mark_at, next_of, next, begin, is_code}
use Rattle.rules.specs.Prefabs.{in_code_mode}
use Rattle.rules.specs.declared.Class.{Class}
use Rattle.rules.specs.declared.Carry.{Carry}
use Rattle.rules.specs.declared.Mode.{Mode}
use Rattle.rules.specs.declared.Mark.{Mark}
use Rattle.rules.proofs.Choose.{choose_case}
use Rattle.rules.proofs.Prefix.{never}

-- a mark of class code: a backslash with what it escapes, or one character
pub record CodeMark (c : ℕ) (u : Mark) : Type 0 where
  pub escape : is "\\" c ≡ true → u ≡ long 1 Class.Code Mode.Code
  pub other : is "\\" c ≡ false → u ≡ begin Carry.Code

unfoldable pub IfCode : ℕ → Mark → Type 0
IfCode c u = is_code u.class ≡ true → CodeMark c u

no_code : (c n : ℕ) (k : Class) (m : Mode) → is_code k ≡ false → IfCode c (long n k m)
unfolding IfCode
no_code c n k m e h = never h e

pub code_mark : (c : ℕ) (s : List ℕ) → IfCode c (in_code (c ∷ s))
unfolding in_code starts_with IfCode
code_mark c s =
    choose_case (IfCode c) (λ i h. record { escape = λ e. refl; other = λ e. never (and_left (eqb c 92) true i) e })
    (λ i. choose_case (IfCode c) (λ j. no_code c 0 Class.Str (Mode.Quoted true) refl)
    (λ j. choose_case (IfCode c) (λ k. no_code c 0 Class.Str (Mode.Quoted false) refl)
    (λ k. choose_case (IfCode c) (λ l. no_code c 0 Class.LineComment Mode.Line refl)
    (λ l. choose_case (IfCode c) (λ m. no_code c 1 Class.BlockComment (Mode.Block 1) refl)
    (λ m. choose_case (IfCode c) (λ n. no_code c 3 Class.Prefab Mode.Prefab refl)
    (λ n h. record { escape = λ e. never (ap (λ (b : Bool). b && true) e) i; other = λ e. refl }))))))

-- ---- what is left of a comment's or a prefab's end is not blank

unfoldable pub NotBlank : ℕ → List ℕ → Type 0
NotBlank zero s = Unit {0}
NotBlank (suc n) [] = Unit {0}
NotBlank (suc n) (c ∷ s) = (is_blank c ≡ false) × NotBlank n s

pub record Ending (s : List ℕ) (u : Mark) : Type 0 where
  pub not_blank : in_code_mode u.mode ≡ true → is_code u.class ≡ false → NotBlank u.more s

ending_other : (s : List ℕ) (n : ℕ) (k : Class) (m : Mode) → in_code_mode m ≡ false → Ending s (long n k m)
ending_other s n k m e = record { not_blank = λ h i. never h e }

pub ending_code : (s : List ℕ) (n : ℕ) (m : Mode) → Ending s (long n Class.Code m)
ending_code s n m = record { not_blank = λ h i. never refl i }

ending_one : (s : List ℕ) (k : Class) (m : Mode) → Ending s (one k m)
unfolding NotBlank
ending_one s k m = record { not_blank = λ h i. tt }

is_slash_law : (c : ℕ) → eqb c 47 ≡ true → is_blank c ≡ false
is_slash_law c h = ap is_blank (eqb-true c 47 h)

is_tick : (c : ℕ) → eqb c 96 ≡ true → is_blank c ≡ false
is_tick c h = ap is_blank (eqb-true c 96 h)

slash_left : (s : List ℕ) → starts_with s (codes "/") ≡ true → NotBlank 1 s
unfolding NotBlank starts_with
slash_left [] h = tt
slash_left (c ∷ s) h = (is_slash_law c (and_left (eqb c 47) true h), tt)

ticks_left : (s : List ℕ) → starts_with s (codes "``") ≡ true → NotBlank 2 s
unfolding NotBlank starts_with
ticks_left [] h = tt
ticks_left (c ∷ []) h = (is_tick c (and_left (eqb c 96) false h), tt)
ticks_left (c ∷ d ∷ s) h = (
  is_tick c (and_left (eqb c 96) (eqb d 96 && true) h),
  (is_tick d (and_left (eqb d 96) true (and_right (eqb c 96) (eqb d 96 && true) h)), tt),
)

ending_mark : (m : Mode) (c : ℕ) (s : List ℕ) → Ending s (mark_at m (c ∷ s))
unfolding in_code in_quoted in_interp in_inner in_block in_prefab starts_with
ending_mark Mode.Code c s =
    choose_case (Ending s) (λ i. ending_code s 1 Mode.Code)
    (λ i. choose_case (Ending s) (λ j. ending_one s Class.Str (Mode.Quoted true))
    (λ j. choose_case (Ending s) (λ k. ending_one s Class.Str (Mode.Quoted false))
    (λ k. choose_case (Ending s) (λ l. ending_one s Class.LineComment Mode.Line)
    (λ l. choose_case (Ending s) (λ m. ending_other s 1 Class.BlockComment (Mode.Block 1) refl)
    (λ m. choose_case (Ending s) (λ n. ending_other s 3 Class.Prefab Mode.Prefab refl)
    (λ n. ending_one s Class.Code Mode.Code))))))
ending_mark (Mode.Quoted q) c s =
    choose_case (Ending s) (λ i. ending_other s 1 Class.Str (Mode.Quoted q) refl)
    (λ i. choose_case (Ending s) (λ j. ending_other s 1 Class.Str (Mode.Interp q 1) refl)
    (λ j. choose_case (Ending s) (λ k. ending_one s Class.Str Mode.Code) (λ k. ending_one s Class.Str (Mode.Quoted q))))
ending_mark (Mode.Interp q d) c s =
    choose_case (Ending s) (λ i. ending_other s 1 _ _ refl)
    (λ i. choose_case (Ending s) (λ j. ending_one s _ _)
    (λ j. choose_case (Ending s) (λ k. ending_one s _ _)
    (λ k. choose_case (Ending s) (λ l. ending_one s _ _)
    (λ l. choose_case (Ending s) (λ m. choose_case (Ending s) (λ n. ending_one s _ _) (λ n. ending_one s _ _))
    (λ m. ending_one s _ _)))))
ending_mark (Mode.Inner q d k) c s =
    choose_case (Ending s) (λ i. ending_other s 1 _ _ refl)
    (λ i. choose_case (Ending s) (λ j. ending_one s _ _) (λ j. ending_one s _ _))
ending_mark Mode.Line c s = ending_one s Class.LineComment Mode.Line
ending_mark (Mode.Block d) c s =
    choose_case (Ending s) (λ i. ending_other s 1 _ _ refl)
    (λ i. choose_case (Ending s)
    (λ j. choose_case (Ending s)
    (λ k. record { not_blank = λ h l. slash_left s (and_right (eqb c 42) (starts_with s (codes "/")) j) })
    (λ k. ending_other s 1 _ _ refl))
    (λ j. ending_one s _ _))
ending_mark Mode.Prefab c s =
    choose_case (Ending s)
    (λ i. record { not_blank = λ h l. ticks_left s (and_right (eqb c 96) (starts_with s (codes "``")) i) })
    (λ i. ending_one s _ _)

ending_of_law : (n : ℕ) (k : Class) (m : Mode) (c : ℕ) (s : List ℕ) → Ending (c ∷ s) (long n k m)
    → Ending s (next_of n k m (c ∷ s))
unfolding NotBlank
ending_of_law zero k m c s e = ending_mark m c s
ending_of_law (suc n) k m c s e = record { not_blank = λ h i. (e.not_blank h i).1 }

pub ending_next : (t : Mark) (c : ℕ) (s : List ℕ) → Ending (c ∷ s) t → Ending s (next t (c ∷ s))
ending_next t c s e = ending_of_law t.more t.class t.mode c s e
