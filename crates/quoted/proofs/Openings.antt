-- Where a prefab opens that its line leaves open: its place among the cells, and in the trimmed line.
use Prim.Native.Nat.{ℕ, zero, suc}
use mathlib.Core.Bool.{Bool, true, false, ◌&&◌}
use mathlib.Core.List.{List, [], ◌∷◌, ◌++◌, append_assoc, append-nil}
use mathlib.Core.Option.{Option, none, some}
use mathlib.Core.Path.{◌≡◌, refl, sym, ap, ◌∙◌}
use lib.Dec.{eqb}
use borrow.Author.Tests.{eqb-true}
use Rattle.utf8.proofs.Tests.{by_test, and_left, and_right}
use Rattle.utf8.proofs.Trim.{White}
use Rattle.rules.specs.Basics.{choose, starts_with, codes}
use Rattle.rules.specs.Scan.{in_code, next_of, next, Cell, cell, chars_of, scan, begin, is_prefab}
use Rattle.rules.specs.Prefabs.{Prefab, in_code_mode, in_prefab_mode, opens, stays, opened, left_open}
use Rattle.rules.specs.declared.Class.{Class}
use Rattle.rules.specs.declared.Carry.{Carry}
use Rattle.rules.specs.declared.Mode.{Mode}
use Rattle.rules.specs.declared.Mark.{Mark}
use Rattle.rules.proofs.Choose.{choose_case}
use Rattle.rules.proofs.ScanBytes.{label}
use Rattle.rules.proofs.Prefix.{never}
use Rattle.quoted.proofs.Marks.{prefab_mode, opens_code, mark_class}
use Rattle.quoted.proofs.Separators.{sep_white, sep_mode, not_open, next_ahead}
use Rattle.quoted.proofs.White.{blank_code}

prefab_class : (k : Class) → is_prefab k ≡ true → k ≡ Class.Prefab
prefab_class Class.Code h = never h refl
prefab_class Class.Str h = never h refl
prefab_class Class.LineComment h = never h refl
prefab_class Class.BlockComment h = never h refl
prefab_class Class.Prefab h = refl

-- ---- cells

next_class : (n : ℕ) (k : Class) (s : List ℕ) → k ≡ Class.Prefab → (next_of n k Mode.Prefab s).class ≡ Class.Prefab
next_class zero k s e = mark_class Mode.Prefab s refl
next_class (suc n) k s e = e

stays_cells : (t : Mark) (s : List ℕ) → t.class ≡ Class.Prefab → t.mode ≡ Mode.Prefab → stays t s ≡ true
    → scan t s ≡ label Class.Prefab s
unfolding stays scan label
stays_cells t [] k m h = refl
stays_cells t (c ∷ s) k m h =
    let u : Mark = next t (c ∷ s) in
    let e : u.class ≡ Class.Prefab =
    ap (λ (j : Mode). (next_of t.more t.class j (c ∷ s)).class) m ∙ next_class t.more t.class (c ∷ s) k in
    let n : u.mode ≡ Mode.Prefab = prefab_mode u.mode (and_left (in_prefab_mode u.mode) (stays u s) h) in
    ap {B = List Cell} (λ j. cell c j ∷ scan u s) e
    ∙ ap {B = List Cell} (λ xs. cell c Class.Prefab ∷ xs)
    (stays_cells u s e n (and_right (in_prefab_mode u.mode) (stays u s) h))

IfPrefab : ℕ → Mark → Type 0
IfPrefab c u = is_prefab u.class ≡ true → c ≡ 36

code_prefab : (c : ℕ) (s : List ℕ) → IfPrefab c (in_code (c ∷ s))
unfolding in_code starts_with IfPrefab
code_prefab c s =
    choose_case (IfPrefab c) (λ i h. never h refl)
    (λ i. choose_case (IfPrefab c) (λ j h. never h refl)
    (λ j. choose_case (IfPrefab c) (λ k h. never h refl)
    (λ k. choose_case (IfPrefab c) (λ l h. never h refl)
    (λ l. choose_case (IfPrefab c) (λ m h. never h refl)
    (λ m. choose_case (IfPrefab c) (λ n h. eqb-true c 36 (and_left (eqb c 36) (starts_with s (codes "```")) n))
    (λ n h. never h refl))))))

dollar : (t : Mark) (c : ℕ) (s : List ℕ) → opens is_prefab t (next t (c ∷ s)) ≡ true → c ≡ 36
unfolding IfPrefab
dollar t c s h = code_prefab c s (opens_code is_prefab t (c ∷ s) h).class

-- the opening, and all behind it, among the cells
pub record OpenCut (b : List ℕ) (t : Mark) (s : List ℕ) (q : Prefab) : Type 0 where
  pub front : List Cell
  pub whole : scan t s ≡ front ++ label Class.Prefab q.line
  pub before : q.before ≡ b ++ chars_of front
  pub rest : List ℕ
  pub starts : q.line ≡ 36 ∷ rest
  pub none : q.inner ≡ []

unfoldable pub Maybe : (Prefab → Type 0) → Option Prefab → Type 0
Maybe P none = Unit {0}
Maybe P (some q) = P q

pub maybe_map : (P Q : Prefab → Type 0) → ((q : Prefab) → P q → Q q) → (r : Option Prefab) → Maybe P r → Maybe Q r
unfolding Maybe
maybe_map P Q f none h = tt
maybe_map P Q f (some q) h = f q h

pub open_cut : (b : List ℕ) (t : Mark) (s : List ℕ) → Maybe (OpenCut b t s) (left_open b t s)
unfolding left_open Maybe
open_cut b t [] = tt
open_cut b t (c ∷ s) =
    let u : Mark = next t (c ∷ s) in
    choose_case (Maybe (OpenCut b t (c ∷ s))) (λ h. here h)
    (λ h. maybe_map (OpenCut (b ++ (c ∷ [])) u s) (OpenCut b t (c ∷ s)) (λ q k. later q k)
    (left_open (b ++ (c ∷ [])) u s) (open_cut (b ++ (c ∷ [])) u s))
  where
    later : (q : Prefab) → OpenCut (b ++ (c ∷ [])) (next t (c ∷ s)) s q → OpenCut b t (c ∷ s) q
    later q k = unfold scan chars_of in
        (record {
          front = cell c (next t (c ∷ s)).class ∷ k.front;
          whole = ap {B = List Cell} (λ xs. cell c (next t (c ∷ s)).class ∷ xs) k.whole;
          before = k.before ∙ append_assoc b (c ∷ []) (chars_of k.front);
          rest = k.rest;
          starts = k.starts;
          none = k.none;
        })

    here : opens is_prefab t (next t (c ∷ s)) && in_prefab_mode (next t (c ∷ s)).mode && stays (next t (c ∷ s)) s ≡ true
        → OpenCut b t (c ∷ s) (opened b (c ∷ s))
    here h = unfold scan chars_of label opens in
        (let u : Mark = next t (c ∷ s) in
        let o : Bool = opens is_prefab t u in
        let a : o && in_prefab_mode u.mode ≡ true = and_left (o && in_prefab_mode u.mode) (stays u s) h in
        let k : u.class ≡ Class.Prefab =
        prefab_class u.class
        (and_right (eqb t.more 0 && in_code_mode t.mode) (is_prefab u.class)
        (and_left o (in_prefab_mode u.mode) a)) in
        let m : u.mode ≡ Mode.Prefab = prefab_mode u.mode (and_right o (in_prefab_mode u.mode) a) in
        record {
          front = [];
          whole =
              ap {B = List Cell} (λ j. cell c j ∷ scan u s) k
              ∙ ap {B = List Cell} (λ xs. cell c Class.Prefab ∷ xs)
              (stays_cells u s k m (and_right (o && in_prefab_mode u.mode) (stays u s) h));
          before = sym (append-nil b);
          rest = s;
          starts = ap {B = List ℕ} (λ j. j ∷ s) (dollar t c s (and_left o (in_prefab_mode u.mode) a));
          none = refl;
        })

-- ---- white space at the line's ends

open_none : (b : List ℕ) (t : Mark) (w : List ℕ) → White w → left_open b t w ≡ none
unfolding left_open choose
open_none b t [] h = refl
open_none b t (c ∷ w) h =
    rw (not_open c (sep_white c h.0) is_prefab refl t w) (open_none (b ++ (c ∷ [])) (next t (c ∷ w)) w h.1)

pub open_before : (b w s : List ℕ) → White w
    → left_open b (begin Carry.Code) (w ++ s) ≡ left_open (b ++ w) (begin Carry.Code) s
unfolding left_open choose
open_before b [] s h = ap (λ (l : List ℕ). left_open l (begin Carry.Code) s) (sym (append-nil b))
open_before b (c ∷ w) s h =
    rw (not_open c (sep_white c h.0) is_prefab refl (begin Carry.Code) (w ++ s), blank_code c (w ++ s) h.0)
    (open_before (b ++ (c ∷ [])) w s h.1
    ∙ ap (λ (l : List ℕ). left_open l (begin Carry.Code) s) (append_assoc b (c ∷ []) w))

stays_white : (t : Mark) (w : List ℕ) → t.mode ≡ Mode.Prefab → White w → stays t w ≡ true
unfolding stays
stays_white t [] m h = refl
stays_white t (c ∷ w) m h =
    let e : (next t (c ∷ w)).mode ≡ Mode.Prefab = sep_mode c (sep_white c h.0) t w ∙ m in
    rw (ap in_prefab_mode e) (stays_white (next t (c ∷ w)) w e h.1)

stays_behind : (t : Mark) (s w : List ℕ) → t.mode ≡ Mode.Prefab → White w → stays t (s ++ w) ≡ stays t s
unfolding stays
stays_behind t [] w m h = stays_white t w m h
stays_behind t (c ∷ s) w m h =
    ap (λ (u : Mark). in_prefab_mode u.mode && stays u (s ++ w)) (next_ahead t (c ∷ s) w h)
    ∙ by_test (in_prefab_mode (next t (c ∷ s)).mode)
    (λ e. ap (λ (v : Bool). in_prefab_mode (next t (c ∷ s)).mode && v)
    (stays_behind (next t (c ∷ s)) s w (prefab_mode (next t (c ∷ s)).mode e) h))
    (λ e. rw e)

-- more at the end of the opening line
unfoldable pub more : List ℕ → Option Prefab → Option Prefab
more w none = none
more w (some q) = some (opened q.before (q.line ++ w))

pub open_behind : (b : List ℕ) (t : Mark) (s w : List ℕ) → White w → left_open b t (s ++ w) ≡ more w (left_open b t s)
unfolding left_open more choose
open_behind b t [] w h = open_none b t w h
open_behind b t (c ∷ s) w h =
    let u : Mark = next t (c ∷ s) in
    let o : Bool = opens is_prefab t u && in_prefab_mode u.mode in
    ap (λ (v : Mark). choose (opens is_prefab t v && in_prefab_mode v.mode && stays v (s ++ w))
    (some (opened b (c ∷ (s ++ w)))) (left_open (b ++ (c ∷ [])) v (s ++ w))) (next_ahead t (c ∷ s) w h)
    ∙ ap (choose (o && stays u (s ++ w)) (some (opened b (c ∷ (s ++ w))))) (open_behind (b ++ (c ∷ [])) u s w h)
    ∙ by_test o (λ e. ap (λ (v : Bool). choose (o && v) (some (opened b (c ∷ (s ++ w))))
    (more w (left_open (b ++ (c ∷ [])) u s)))
    (stays_behind u s w (prefab_mode u.mode (and_right (opens is_prefab t u) (in_prefab_mode u.mode) e)) h)
    ∙ push (o && stays u s))
    (λ e. rw e)
  where
    push : (v : Bool) → choose v (some (opened b (c ∷ (s ++ w)))) (more w (left_open (b ++ (c ∷ [])) (next t (c ∷ s)) s))
        ≡ more w (choose v (some (opened b (c ∷ s))) (left_open (b ++ (c ∷ [])) (next t (c ∷ s)) s))
    push true = refl
    push false = refl
