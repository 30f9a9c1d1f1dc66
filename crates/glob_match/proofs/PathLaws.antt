-- A path read from its end: the values at what is read of it.
use Prim.Native.Nat.{ℕ, ◌-◌, ◌≤◌}
use mathlib.Core.Bool.{Bool, true, false, ◌||◌, or_comm}
use mathlib.Core.List.{List, [], ◌∷◌, ◌++◌, append_assoc, append-nil}
use mathlib.Core.Path.{◌≡◌, refl, sym, ap, ◌∙◌}
use native.Mathlib.Omega.{arith}
use lib.ListN.{length, drop, take, get_or, replicate}
use lib.Seq.{take-length}
use Rattle.utf8.specs.Unicode.{decode, WellFormed, code_at, chars}
use Rattle.utf8.specs.Places.{Back}
use Rattle.rules.specs.Basics.{choose}
use Rattle.config_rules.specs.Globs.{suffix}
use Rattle.glob_pass.specs.Kinds.{held}
use Rattle.glob_pass.specs.declared.kinds.Kind.{Kind}
use Rattle.glob_pass.specs.Pass.{here_at, before, Values, Passed}
use Rattle.ranges.proofs.StepLaws.{none_kept}
use Rattle.ranges.specs.Ranges.{Empty}
use Rattle.ranges.specs.declared.State.{State}
use Rattle.glob_match.specs.Match.{SlotsAt, RangesNext, matches_at}
use Rattle.glob_match.proofs.SlotsLaws.{slots_start, hits_start}

-- what is known after s is read
pub record ReadAt (ks : List Kind) (cs : List ℕ) (s : List ℕ) (v : List Bool) (found : Bool) (t : State) : Type 0 where
  pub same : length ks ≡ length cs
  pub values : Values (held ks cs) s v
  pub kept : SlotsAt ks cs s t
  pub any : found ≡ suffix (here_at (held ks cs) 0) s

pub read_none : (ks : List Kind) (cs : List ℕ) (t : State) (m : ℕ) (new : List Bool) → length ks ≡ length cs → Empty t
    → Passed (held ks cs) 0 true (replicate m false) (replicate m false) new → ReadAt ks cs [] new (get_or new 0 false) t
unfolding before suffix
read_none ks cs t m new e z p =
    let U : Values (held ks cs) [] new =
    p.is [] (record { first = refl; last = refl; without = record { at = λ j x. none_kept m j false }; ranges = hits_start (held ks cs) (replicate m false) (λ j. none_kept m j false) }) in
    record {
      same = e;
      values = U;
      kept = slots_start ks cs t z;
      any = U.at 0 (omega arith);
    }

-- one character more
pub read_more : (ks : List Kind) (cs : List ℕ) (s : List ℕ) (v : List Bool) (found : Bool) (t : State) → ReadAt ks cs s v found t
    → (c : ℕ) (t' : State) (h' : List Bool) → RangesNext ks cs v c t t' h' → (new : List Bool) → Passed (held ks cs) c false h' v new
    → ReadAt ks cs (c ∷ s) new (found || get_or new 0 false) t'
unfolding before suffix
read_more ks cs s v found t w c t' h' R new p =
    let U : Values (held ks cs) (c ∷ s) new =
    p.is (c ∷ s) (record { first = refl; last = refl; without = record { at = w.values.at }; ranges = (R.is s w.values w.kept).0 }) in
    record {
      same = w.same;
      values = U;
      kept = (R.is s w.values w.kept).1;
      any = rw (w.any, U.at 0 (omega arith)) (or_comm (suffix (here_at (held ks cs) 0) s) (here_at (held ks cs) 0 (c ∷ s)));
    }

-- ---- the path

pub record Reading (ks : List Kind) (cs path : List ℕ) (e : ℕ) (v : List Bool) (found : Bool) (t : State) : Type 0 where
  pub bound : e ≤ length path
  pub well : WellFormed (take e path)
  pub text : List ℕ
  pub all : decode path ≡ decode (take e path) ++ text
  pub at : ReadAt ks cs text v found t

pub reading_start : (ks : List Kind) (cs path : List ℕ) (t : State) (m : ℕ) (new : List Bool) → WellFormed path → length ks ≡ length cs → Empty t
    → Passed (held ks cs) 0 true (replicate m false) (replicate m false) new → Reading ks cs path (length path) new (get_or new 0 false) t
reading_start ks cs path t m new w e z p =
    record {
      bound = omega arith;
      well = rw (take-length path) w;
      text = [];
      all = rw (take-length path) (sym (append-nil (decode path)));
      at = read_none ks cs t m new e z p;
    }

module _ (ks : List Kind) (cs path : List ℕ) (e : ℕ) (v : List Bool) (found : Bool) (t : State) (w : Reading ks cs path e v found t) where
  pub reading_more : (n c : ℕ) → Back path e n → c ≡ code_at (drop (e - n) path) → (t' : State) (h' : List Bool) → RangesNext ks cs v c t t' h'
      → (new : List Bool) → Passed (held ks cs) c false h' v new → Reading ks cs path (e - n) new (found || get_or new 0 false) t'
  reading_more n c b q t' h' R new p =
      record {
        bound = let x : e ≤ length path = w.bound in omega arith;
        well = b.well;
        text = c ∷ w.text;
        all = w.all ∙ ap (λ (x : List ℕ). x ++ w.text) b.text ∙ append_assoc (decode (take (e - n) path)) (code_at (drop (e - n) path) ∷ []) w.text
            ∙ ap (λ (x : ℕ). decode (take (e - n) path) ++ (x ∷ w.text)) (sym q);
        at = read_more ks cs w.text v found t w.at c t' h' R new p;
      }

  at_start : e ≤ 0 → w.text ≡ decode path
  unfolding chars
  at_start z =
      let y : e ≡ 0 = omega arith in
      let a : decode (take e path) ≡ [] = ap (λ (i : ℕ). decode (take i path)) y in
      sym (w.all ∙ ap (λ (x : List ℕ). x ++ w.text) a)

  module _ (z : e ≤ 0) (t' : State) (h' : List Bool) (R : RangesNext ks cs v 47 t t' h') (new : List Bool) (p : Passed (held ks cs) 47 false h' v new) where
    last : ReadAt ks cs (47 ∷ decode path) new (found || get_or new 0 false) t'
    last = rw (← at_start z) (read_more ks cs w.text v found t w.at 47 t' h' R new p)

    pub reading_levels : (b : Bool) → b ≡ true → (found || get_or new 0 false) ≡ matches_at (held ks cs) b (47 ∷ decode path)
    unfolding matches_at choose
    reading_levels b q = rw q last.any

    pub reading_whole : (b : Bool) → b ≡ false → get_or new 0 false ≡ matches_at (held ks cs) b (47 ∷ decode path)
    unfolding matches_at choose
    reading_whole b q = rw q (last.values.at 0 (omega arith))
