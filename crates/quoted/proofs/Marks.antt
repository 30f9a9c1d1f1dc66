-- Modes and marks: what opens at a mark in code; the class of a mark in other modes.
use Prim.Native.Nat.{ℕ}
use mathlib.Core.Bool.{Bool, true, false, ◌&&◌}
use mathlib.Core.List.{List}
use mathlib.Core.Path.{◌≡◌, refl, sym, ap, ◌∙◌}
use lib.Dec.{eqb}
use borrow.Author.Tests.{eqb-true}
use Rattle.utf8.proofs.Tests.{by_test, and_left, and_right}
use Rattle.rules.specs.Scan.{in_code, in_quoted, in_interp, in_inner, in_block, in_prefab, mark_at, ordinary, next, is_code}
use Rattle.rules.specs.Prefabs.{in_code_mode, in_prefab_mode, opens}
use Rattle.rules.specs.declared.Class.{Class}
use Rattle.rules.specs.declared.Mode.{Mode}
use Rattle.rules.specs.declared.Mark.{Mark}
use Rattle.rules.proofs.Choose.{choose_case}
use Rattle.rules.proofs.Prefix.{never}

pub code_mode : (m : Mode) → in_code_mode m ≡ true → m ≡ Mode.Code
code_mode Mode.Code h = refl
code_mode (Mode.Quoted q) h = never h refl
code_mode (Mode.Interp q d) h = never h refl
code_mode (Mode.Inner q d k) h = never h refl
code_mode Mode.Line h = never h refl
code_mode (Mode.Block d) h = never h refl
code_mode Mode.Prefab h = never h refl

pub prefab_mode : (m : Mode) → in_prefab_mode m ≡ true → m ≡ Mode.Prefab
prefab_mode Mode.Code h = never h refl
prefab_mode (Mode.Quoted q) h = never h refl
prefab_mode (Mode.Interp q d) h = never h refl
prefab_mode (Mode.Inner q d k) h = never h refl
prefab_mode Mode.Line h = never h refl
prefab_mode (Mode.Block d) h = never h refl
prefab_mode Mode.Prefab h = refl

-- what opens behind the mark t, at the head of s, opens in code
pub record InCode (p : Class → Bool) (t : Mark) (s : List ℕ) : Type 0 where
  pub is : next t s ≡ in_code s
  pub class : p (in_code s).class ≡ true

pub opens_code : (p : Class → Bool) (t : Mark) (s : List ℕ) → opens p t (next t s) ≡ true → InCode p t s
unfolding opens
opens_code p t s h =
    let b : Bool = eqb t.more 0 && in_code_mode t.mode in
    let a : b ≡ true = and_left b (p (next t s).class) h in
    let n : t.more ≡ 0 = eqb-true t.more 0 (and_left (eqb t.more 0) (in_code_mode t.mode) a) in
    let m : t.mode ≡ Mode.Code = code_mode t.mode (and_right (eqb t.more 0) (in_code_mode t.mode) a) in
    let e : next t s ≡ in_code s = rw (n, m) in
    record { is = e; class = ap (λ (u : Mark). p u.class) (sym e) ∙ and_right b (p (next t s).class) h }

-- in a mode other than code every mark has the mode's class
pub mark_class : (m : Mode) (s : List ℕ) → in_code_mode m ≡ false → (mark_at m s).class ≡ ordinary m
unfolding in_quoted in_interp in_inner in_block in_prefab
mark_class Mode.Code s h = never refl h
mark_class (Mode.Quoted q) s h =
    let P : Mark → Type 0 = λ u. u.class ≡ Class.Str in
    choose_case P (λ i. refl) (λ i. choose_case P (λ j. refl) (λ j. choose_case P (λ k. refl) (λ k. refl)))
mark_class (Mode.Interp q d) s h =
    let P : Mark → Type 0 = λ u. u.class ≡ Class.Str in
    choose_case P (λ i. refl)
    (λ i. choose_case P (λ j. refl)
    (λ j. choose_case P (λ k. refl)
    (λ k. choose_case P (λ l. refl)
    (λ l. choose_case P (λ m. choose_case P (λ n. refl) (λ n. refl)) (λ m. refl)))))
mark_class (Mode.Inner q d k) s h =
    let P : Mark → Type 0 = λ u. u.class ≡ Class.Str in
    choose_case P (λ i. refl) (λ i. choose_case P (λ j. refl) (λ j. refl))
mark_class Mode.Line s h = refl
mark_class (Mode.Block d) s h =
    let P : Mark → Type 0 = λ u. u.class ≡ Class.BlockComment in
    choose_case P (λ i. refl) (λ i. choose_case P (λ j. choose_case P (λ k. refl) (λ k. refl)) (λ j. refl))
mark_class Mode.Prefab s h =
    let P : Mark → Type 0 = λ u. u.class ≡ Class.Prefab in
    choose_case P (λ i. refl) (λ i. refl)

pub code_class : (m : Mode) (s : List ℕ) → is_code (mark_at m s).class ≡ true → m ≡ Mode.Code
code_class m s h = by_test (in_code_mode m) (code_mode m) (λ e. never h (ap is_code (mark_class m s e) ∙ e))
