-- What is read in code, in block comments and in prefabs.
use Prim.Native.Nat.{ℕ, ◌+◌, ◌-◌, ◌<◌, ◌≤◌}
use mathlib.Core.Bool.{Bool, true, false, ◌||◌, true≢false}
use mathlib.Core.Path.{◌≡◌, refl}
use mathlib.Core.List.{List, [], ◌∷◌, ◌++◌}
use native.Mathlib.Nat.{le_refl}
use native.Mathlib.Omega.{arith}
use borrow.Author.Tests.{eqb-false}
use lib.Dec.{eqb}
use lib.ListN.{length, get_or, take, drop, set, replicate}
use Rattle.buffer.specs.Buffer.{put}
use Rattle.blocks.specs.Blocks.{FirstFrom}
use Rattle.rules.specs.declared.Class.{Class}
use Rattle.rules.specs.declared.Carry.{Carry}
use Rattle.rules.specs.declared.Mode.{Mode}
use Rattle.rules.specs.Basics.{starts_with, at}
use Rattle.rules.specs.Scan.{one, quote, mark_at, mode_of}
use Rattle.basics.specs.Depth.{carry_depth}
use Rattle.scan.specs.declared.Stop.{Stop}
use Rattle.scan.specs.Stretch.{Scanned, PairRead, Stretch, PlainComment, fresh, starts_in_code, turns_comment}
use Rattle.scan.specs.Marked.{Marked}
use Rattle.utf8.proofs.Tests.{neither_left, neither_right}
use Rattle.scan.proofs.RunLaws.{run_marked}
use Rattle.scan.proofs.StartsLaws.{starts_is, starts_not, starts_other, starts_more, starts_reach}
use Rattle.scan.proofs.MarkLaws.{code_escape, code_double, code_single, code_line_law, code_block, code_prefab, code_plain, block_open, block_end, block_close, block_plain, prefab_end, prefab_plain}
use Rattle.scan.proofs.MarkedLaws.{filled}
use Rattle.scan.proofs.ScannedLaws.{scanned_start, scanned_then, scanned_one, then_one, scanned_long, scanned_comment}

abbrev stop : ℕ → Carry → Stop
stop e y = record { at = e; carry = y }

none_of : (a b c d e : Bool) → (a || b || c || d || e) ≡ false → (a ≡ false) × (b ≡ false) × (c ≡ false) × (d ≡ false) × (e ≡ false)
none_of true b c d e h = absurd (true≢false h)
none_of false true c d e h = absurd (true≢false h)
none_of false false true d e h = absurd (true≢false h)
none_of false false false true e h = absurd (true≢false h)
none_of false false false false e h = (refl, refl, refl, refl, h)

module _ (line : List ℕ) (i : ℕ) (class : List ℕ) (l : i < length line) (room : length line ≤ length class) where
  to_stop : (e : ℕ) (y : Carry) (after : List ℕ) → Scanned line (fresh Mode.Code) i class (fresh (mode_of y)) e after → i < e → carry_depth y + i ≤ e → Stretch line Carry.Code i class (stop e y) after
  to_stop e y after p h d = record { scanned = p; further = h; depth = omega (arith, d) }

  to_code : mark_at Mode.Code (drop i line) ≡ one Class.Code Mode.Code → Stretch line Carry.Code i class (stop (i + 1) Carry.Code) (set class i 0)
  to_code e = to_stop (i + 1) Carry.Code (set class i 0) (scanned_one line Mode.Code i class Class.Code Mode.Code 0 l room e refl) (omega arith) (omega arith)

  module _ (f : get_or line i 0 ≡ 47) where
    slash_92 : false ≡ at (drop i line) "\\"
    slash_92 = starts_other line i 92 [] 47 l f (λ h. omega arith)

    slash_34 : false ≡ at (drop i line) "\""
    slash_34 = starts_other line i 34 [] 47 l f (λ h. omega arith)

    slash_39 : false ≡ at (drop i line) "'"
    slash_39 = starts_other line i 39 [] 47 l f (λ h. omega arith)

    pub slash_line : (y : List ℕ) → true ≡ starts_with (drop (i + 1) line) (47 ∷ []) → y ≡ replicate (length (take (length line - i) (drop i class))) 2
        → Stretch line Carry.Code i class (stop (length line) Carry.Code) (take i class ++ (y ++ drop (length line - i) (drop i class)))
    slash_line y e r =
        rw (filled class y i (length line - i) 2 (omega arith) r) (to_stop (length line) Carry.Code (put class i (replicate (length line - i) 2))
        (scanned_comment line i class room (code_line_law (drop i line) slash_92 slash_34 slash_39 (starts_more line i 47 (47 ∷ []) l f e)) l)
        l (omega arith))

    module _ (n : false ≡ starts_with (drop (i + 1) line) (47 ∷ [])) where
      pub slash_block : (e : ℕ) (after : List ℕ) → true ≡ starts_with (drop (i + 1) line) (42 ∷ []) → PairRead line i 3 class e after → Stretch line Carry.Code i class (stop e (Carry.Block 1)) after
      slash_block e after g r =
          to_stop e (Carry.Block 1) after
          (r.scanned Mode.Code (Mode.Block 1) Class.BlockComment refl (code_block (drop i line) slash_92 slash_34 slash_39 (starts_more line i 47 (47 ∷ []) l f n) (starts_more line i 47 (42 ∷ []) l f g)))
          (omega (arith, r.moved.on)) (omega (arith, r.moved.on))

      pub slash_code : false ≡ starts_with (drop (i + 1) line) (42 ∷ []) → Stretch line Carry.Code i class (stop (i + 1) Carry.Code) (set class i 0)
      slash_code g =
          to_code (code_plain (drop i line) slash_92 slash_34 slash_39 (starts_more line i 47 (47 ∷ []) l f n) (starts_more line i 47 (42 ∷ []) l f g) (starts_other line i 36 (96 ∷ 96 ∷ 96 ∷ []) 47 l f (λ h. omega arith)))

  module _ (f : get_or line i 0 ≡ 36) where
    dollar_92 : false ≡ at (drop i line) "\\"
    dollar_92 = starts_other line i 92 [] 36 l f (λ h. omega arith)

    dollar_34 : false ≡ at (drop i line) "\""
    dollar_34 = starts_other line i 34 [] 36 l f (λ h. omega arith)

    dollar_39 : false ≡ at (drop i line) "'"
    dollar_39 = starts_other line i 39 [] 36 l f (λ h. omega arith)

    dollar_line : false ≡ at (drop i line) "//"
    dollar_line = starts_other line i 47 (47 ∷ []) 36 l f (λ h. omega arith)

    dollar_block : false ≡ at (drop i line) "/*"
    dollar_block = starts_other line i 47 (42 ∷ []) 36 l f (λ h. omega arith)

    pub fence_opens : (y : List ℕ) → true ≡ starts_with (drop (i + 1) line) (96 ∷ 96 ∷ 96 ∷ []) → y ≡ replicate (length (take (i + 4 - i) (drop i class))) 4
        → Stretch line Carry.Code i class (stop (i + 4) Carry.Prefab) (take i class ++ (y ++ drop (i + 4 - i) (drop i class)))
    fence_opens y e r =
        let h = starts_reach line (i + 1) 96 (96 ∷ 96 ∷ []) e in
        let n : i + 4 - i ≡ 4 = omega arith in
        let g : y ≡ replicate (length (take 4 (drop i class))) 4 = rw n at r in
        rw (n, filled class y i 4 4 (omega arith) g) (to_stop (i + 4) Carry.Prefab (put class i (replicate 4 4))
        (scanned_long line i class room Mode.Code 3 Class.Prefab Mode.Prefab (code_prefab (drop i line) dollar_92 dollar_34 dollar_39 dollar_line dollar_block (starts_more line i 36 (96 ∷ 96 ∷ 96 ∷ []) l f e)) (omega arith))
        (omega arith) (omega arith))

    pub fence_code : false ≡ starts_with (drop (i + 1) line) (96 ∷ 96 ∷ 96 ∷ []) → Stretch line Carry.Code i class (stop (i + 1) Carry.Code) (set class i 0)
    fence_code e = to_code (code_plain (drop i line) dollar_92 dollar_34 dollar_39 dollar_line dollar_block (starts_more line i 36 (96 ∷ 96 ∷ 96 ∷ []) l f e))

  code_quote : (q : Bool) → get_or line i 0 ≡ quote q → mark_at Mode.Code (drop i line) ≡ one Class.Str (Mode.Quoted q)
  code_quote true f = code_double (drop i line) (starts_other line i 92 [] 34 l f (λ h. omega arith)) (starts_is line i 34 l f)
  code_quote false f = code_single (drop i line) (starts_other line i 92 [] 39 l f (λ h. omega arith)) (starts_other line i 34 [] 39 l f (λ h. omega arith)) (starts_is line i 39 l f)

  pub code_string : (q : Bool) (e : ℕ) (after : List ℕ) → get_or line i 0 ≡ quote q → Scanned line (fresh (Mode.Quoted q)) (i + 1) (set class i 1) (fresh Mode.Code) e after
      → Stretch line Carry.Code i class (stop e Carry.Code) after
  code_string q e after f p =
      to_stop e Carry.Code after (scanned_then (scanned_one line Mode.Code i class Class.Str (Mode.Quoted q) 1 l room (code_quote q f) refl) p)
      (omega (arith, p.moved.on)) (omega (arith, p.moved.on))

  pub plain_pair : (e : ℕ) (after : List ℕ) → get_or line i 0 ≡ 92 → PairRead line i 0 class e after → Scanned line (fresh Mode.Code) i class (fresh Mode.Code) e after
  plain_pair e after f r = r.scanned Mode.Code Mode.Code Class.Code refl (code_escape (drop i line) (starts_is line i 92 l f))

  pub code_escaped : (e : ℕ) (after : List ℕ) → get_or line i 0 ≡ 92 → PairRead line i 0 class e after → Stretch line Carry.Code i class (stop e Carry.Code) after
  code_escaped e after f r = to_stop e Carry.Code after (plain_pair e after f r) (omega (arith, r.moved.on)) (omega (arith, r.moved.on))

  -- a byte at which nothing starts
  no_start : (get_or line i 0 ≡ 92 → ⊥) → (get_or line i 0 ≡ 34 → ⊥) → (get_or line i 0 ≡ 39 → ⊥) → (get_or line i 0 ≡ 47 → ⊥) → (get_or line i 0 ≡ 36 → ⊥)
      → mark_at Mode.Code (drop i line) ≡ one Class.Code Mode.Code
  no_start a b c d e =
      code_plain (drop i line) (starts_not line i 92 [] l a) (starts_not line i 34 [] l b) (starts_not line i 39 [] l c)
      (starts_not line i 47 (47 ∷ []) l d) (starts_not line i 47 (42 ∷ []) l d) (starts_not line i 36 (96 ∷ 96 ∷ 96 ∷ []) l e)

  pub code_passed : (get_or line i 0 ≡ 34 → ⊥) → (get_or line i 0 ≡ 39 → ⊥) → (get_or line i 0 ≡ 47 → ⊥) → (get_or line i 0 ≡ 36 → ⊥) → (get_or line i 0 ≡ 92 → ⊥)
      → Stretch line Carry.Code i class (stop (i + 1) Carry.Code) (set class i 0)
  code_passed b c d e a = to_code (no_start a b c d e)

  not_among : starts_in_code (get_or line i 0) ≡ false → mark_at Mode.Code (drop i line) ≡ one Class.Code Mode.Code
  unfolding starts_in_code
  not_among e =
      let b : ℕ = get_or line i 0 in
      let n = none_of (eqb b 92) (eqb b 34) (eqb b 39) (eqb b 47) (eqb b 36) e in
      no_start (eqb-false b 92 n.0) (eqb-false b 34 n.1) (eqb-false b 39 n.2) (eqb-false b 47 n.3) (eqb-false b 36 n.4)

  pub plain_one : starts_in_code (get_or line i 0) ≡ false → Scanned line (fresh Mode.Code) i class (fresh Mode.Code) (i + 1) (set class i 0)
  plain_one e = scanned_one line Mode.Code i class Class.Code Mode.Code 0 l room (not_among e) refl

-- bytes of code at which nothing starts
pub code_run : (line : List ℕ) (a e : ℕ) (d z : List ℕ) → length line ≤ length d → FirstFrom (λ j. starts_in_code (get_or line j 0)) a (length line) e
    → Marked 0 a e (length line) d z → Scanned line (fresh Mode.Code) a d (fresh Mode.Code) e z
code_run line a e d z room f m =
    run_marked line Mode.Code Class.Code a e d z f.from f.within room (λ j h k. not_among line j d (omega (arith, f.within)) room (f.none j h k)) m

plain_in_comment : (line : List ℕ) (i d : ℕ) → i < length line → turns_comment (get_or line i 0) ≡ false → mark_at (Mode.Block d) (drop i line) ≡ one Class.BlockComment (Mode.Block d)
plain_in_comment line i d l h =
    let b : ℕ = get_or line i 0 in
    block_plain (drop i line) d (starts_not line i 47 (42 ∷ []) l (eqb-false b 47 (neither_left (eqb b 47) (eqb b 42) h)))
    (starts_not line i 42 (47 ∷ []) l (eqb-false b 42 (neither_right (eqb b 47) (eqb b 42) h)))

-- bytes of block comments at which none opens or ends
pub comment_run : (line : List ℕ) (a e : ℕ) (d z : List ℕ) → length line ≤ length d → FirstFrom (λ j. turns_comment (get_or line j 0)) a (length line) e
    → Marked 3 a e (length line) d z → PlainComment line a d e z
comment_run line a e d z room f m =
    record {
      moved = record { on = f.from; within = f.within; as_long = m.as_long };
      scanned = λ n. run_marked line (Mode.Block n) Class.BlockComment a e d z f.from f.within room (λ j h k. plain_in_comment line j n (omega (arith, f.within)) (f.none j h k)) m;
    }

-- in block comments, d of them
pub record InBlock (line : List ℕ) (a depth : ℕ) (class₀ class : List ℕ) (i d : ℕ) : Type 0 where
  pub scanned : Scanned line (fresh (Mode.Block depth)) a class₀ (fresh (Mode.Block d)) i class
  pub few : d + a ≤ depth + i

pub block_begins : (line : List ℕ) (a depth : ℕ) (class : List ℕ) → a < length line → InBlock line a depth class class a depth
block_begins line a depth class l = record { scanned = scanned_start line (fresh (Mode.Block depth)) a class (omega arith); few = le_refl _ }

module _ {line : List ℕ} {a depth : ℕ} {class₀ class : List ℕ} {i d : ℕ} (p : InBlock line a depth class₀ class i d) where
  pub block_plainly : {e : ℕ} {after : List ℕ} → PlainComment line i class e after → InBlock line a depth class₀ after e d
  block_plainly r = record { scanned = scanned_then p.scanned (r.scanned d); few = omega (arith, p.few, r.moved.on) }

  pub block_opens : {e : ℕ} {after : List ℕ} → true ≡ starts_with (drop i line) (47 ∷ 42 ∷ []) → PairRead line i 3 class e after → InBlock line a depth class₀ after e (d + 1)
  block_opens h r =
      record {
        scanned = scanned_then p.scanned (r.scanned (Mode.Block d) (Mode.Block (d + 1)) Class.BlockComment refl (block_open (drop i line) d h));
        few = omega (arith, p.few, r.moved.on);
      }

  module _ (n : false ≡ starts_with (drop i line) (47 ∷ 42 ∷ [])) where
    pub block_ends : {e : ℕ} {after : List ℕ} → true ≡ starts_with (drop i line) (42 ∷ 47 ∷ []) → PairRead line i 3 class e after → d ≤ 1
        → Stretch line (Carry.Block depth) a class₀ (stop e Carry.Code) after
    block_ends h r l =
        record {
          scanned = scanned_then p.scanned (r.scanned (Mode.Block d) Mode.Code Class.BlockComment refl (block_end (drop i line) d n h l));
          further = omega (arith, p.scanned.moved.on, r.moved.on);
          depth = omega (arith, p.scanned.moved.on, r.moved.on);
        }

    pub block_closes : {e : ℕ} {after : List ℕ} → true ≡ starts_with (drop i line) (42 ∷ 47 ∷ []) → PairRead line i 3 class e after → 1 < d → InBlock line a depth class₀ after e (d - 1)
    block_closes h r l =
        record {
          scanned = scanned_then p.scanned (r.scanned (Mode.Block d) (Mode.Block (d - 1)) Class.BlockComment refl (block_close (drop i line) d n h l));
          few = omega (arith, p.few, r.moved.on);
        }

    pub block_goes_on : i < length line → length line ≤ length class₀ → false ≡ starts_with (drop i line) (42 ∷ 47 ∷ []) → InBlock line a depth class₀ (set class i 3) (i + 1) d
    block_goes_on l room h =
        record {
          scanned = then_one Class.BlockComment (Mode.Block d) p.scanned l room (block_plain (drop i line) d n h);
          few = omega (arith, p.few);
        }

  pub block_stops : a < length line → length line ≤ i → Stretch line (Carry.Block depth) a class₀ (stop i (Carry.Block d)) class
  block_stops h l = record { scanned = p.scanned; further = omega arith; depth = p.few }

-- in a prefab
pub record InPrefab (line : List ℕ) (a : ℕ) (class₀ class : List ℕ) (i : ℕ) : Type 0 where
  pub scanned : Scanned line (fresh Mode.Prefab) a class₀ (fresh Mode.Prefab) i class

pub prefab_begins : (line : List ℕ) (a : ℕ) (class : List ℕ) → a < length line → InPrefab line a class class a
prefab_begins line a class l = record { scanned = scanned_start line (fresh Mode.Prefab) a class (omega arith) }

module _ {line : List ℕ} {a : ℕ} {class₀ class : List ℕ} {i : ℕ} (p : InPrefab line a class₀ class i) where
  pub prefab_ends : (y : List ℕ) → length line ≤ length class₀ → true ≡ starts_with (drop i line) (96 ∷ 96 ∷ 96 ∷ []) → y ≡ replicate (length (take (i + 3 - i) (drop i class))) 4
      → Stretch line Carry.Prefab a class₀ (stop (i + 3) Carry.Code) (take i class ++ (y ++ drop (i + 3 - i) (drop i class)))
  prefab_ends y room e r =
      let h = starts_reach line i 96 (96 ∷ 96 ∷ []) e in
      let k : length line ≤ length class = omega (arith, p.scanned.moved.as_long) in
      let n : i + 3 - i ≡ 3 = omega arith in
      let g : y ≡ replicate (length (take 3 (drop i class))) 4 = rw n at r in
      rw (n, filled class y i 3 4 (omega arith) g) (record {
        scanned = scanned_then p.scanned (scanned_long line i class k Mode.Prefab 2 Class.Prefab Mode.Code (prefab_end (drop i line) e) (omega arith));
        further = omega (arith, p.scanned.moved.on);
        depth = omega (arith, p.scanned.moved.on);
      })

  pub prefab_goes_on : i < length line → length line ≤ length class₀ → false ≡ starts_with (drop i line) (96 ∷ 96 ∷ 96 ∷ []) → InPrefab line a class₀ (set class i 4) (i + 1)
  prefab_goes_on l room h =
      record { scanned = then_one Class.Prefab Mode.Prefab p.scanned l room (prefab_plain (drop i line) h) }

  pub prefab_stops : a < length line → length line ≤ i → Stretch line Carry.Prefab a class₀ (stop i Carry.Prefab) class
  prefab_stops h l = record { scanned = p.scanned; further = omega arith; depth = omega (arith, p.scanned.moved.on) }
