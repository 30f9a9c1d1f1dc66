-- One block more without a place that passes the test p.
use Rattle.std.proofs.Common.{ℕ, ◌+◌, ◌-◌, ◌<◌, ◌≤◌, ◌*◌, min, Bool, true, false, not, ◌||◌, ◌≡◌, ◌⊎◌, inl, inr, refl, arith}
use Rattle.std.proofs.lemmas.Bool.{cases_lt}
use Rattle.std.specs.Prelude.{Option, None, Some, MatchOption}
use Rattle.std.specs.Option.{unwrap_or}
use Rattle.blocks.specs.Blocks.{NoneAmong, NoneFrom, FirstFrom, NoneBefore}

module _ (p : ℕ → Bool) where
  -- the n places from `at` on are none, and so are those before i, which is no place before `at`
  joined : (from at i n : ℕ) → ((j : ℕ) → from ≤ j → j < i → p j ≡ false) → at ≤ i → ((j : ℕ) → j < n → p (at + j) ≡ false)
      → (j : ℕ) → from ≤ j → j < at + n → p j ≡ false
  joined from at i n f h a j l m = go (cases_lt j i)
    where
      go : (j < i) ⊎ (i ≤ j) → p j ≡ false
      go (inl k) = f j l k
      go (inr k) = let q : at + (j - at) ≡ j = omega arith in rw q at (a (j - at) (omega arith))

  -- the next block
  pub none_block : (at end i n : ℕ) (any : Bool) → NoneFrom p at end i → i + n ≤ end → NoneAmong p i n any → any ≡ false → NoneFrom p at end (i + n)
  none_block at end i n any f h a e =
      record { from = omega (arith, f.from); within = h; none = joined at i i n f.none (omega arith) (a.none e) }

  -- the last block, which may overlap the one before it
  pub none_last : (end i n : ℕ) (any : Bool) → NoneFrom p 0 end i → n ≤ end → end - n ≤ i → NoneAmong p (end - n) n any → NoneBefore p end (not any)
  none_last end i n true f h l a = record { none = λ e. absurd (cc) }
  none_last end i n false f h l a =
      record { none = λ e j m. joined 0 (end - n) i n f.none l (a.none refl) j (omega arith) (omega arith) }

  -- four blocks, which may overlap
  pub none_four : (n w u v : ℕ) (a b c d : Bool) → (w ≤ n) × (n ≤ 4 * w) → u ≡ min w (n - w) → v ≡ min (w + w) (n - w)
      → NoneAmong p 0 w a → NoneAmong p u w b → NoneAmong p v w c → NoneAmong p (n - w) w d → NoneBefore p n (not ((a || b) || (c || d)))
  none_four n w u v true b c d h e f x y z t = record { none = λ q. absurd (cc) }
  none_four n w u v false true c d h e f x y z t = record { none = λ q. absurd (cc) }
  none_four n w u v false false true d h e f x y z t = record { none = λ q. absurd (cc) }
  none_four n w u v false false false true h e f x y z t = record { none = λ q. absurd (cc) }
  none_four n w u v false false false false h e f x y z t =
      let one = joined 0 0 0 w (λ j l m. absurd (omega arith)) (omega arith) (x.none refl) in
      let two = joined 0 u (0 + w) w one (omega (arith, e)) (y.none refl) in
      let three = joined 0 v (u + w) w two (omega (arith, e, f)) (z.none refl) in
      let four = joined 0 (n - w) (v + w) w three (omega (arith, e, f, h)) (t.none refl) in
      record { none = λ q j l. four j (omega arith) (omega (arith, h)) }

  -- what a search over the range finds
  pub first_found : (at end : ℕ) (found : Option ℕ) (r : ℕ) → at ≤ end
      → MatchOption found ((k : ℕ) → at ≤ k → k < end → p k ≡ false)
      (λ i. (at ≤ i) × (i < end) × (p i ≡ true) × ((k : ℕ) → at ≤ k → k < i → p k ≡ false))
      → r ≡ unwrap_or found end → FirstFrom p at end r
  first_found at end None r h f e =
      rw e (record { from = h; within = omega arith; none = f; passes = λ l. absurd (omega arith) })
  first_found at end (Some i) r h f e =
      rw e (record { from = f.0; within = omega (arith, f.1); none = f.3; passes = λ l. f.2 })
