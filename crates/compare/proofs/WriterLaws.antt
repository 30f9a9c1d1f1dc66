-- The writer's loops and pieces.
use Prim.Native.Nat.{ℕ, zero, suc, ◌+◌, ◌-◌, ◌≤◌, ◌<◌, ◌^◌, min, zero-le}
use native.Mathlib.Omega.{arith}
use mathlib.Core.Bool.{Bool, true, false}
use mathlib.Core.List.{List, [], ◌∷◌, ◌++◌, append_assoc, append-nil}
use mathlib.Core.Path.{◌≡◌, refl, sym, ap, ◌∙◌}
use mathlib.Core.Logic.{◌⊎◌, inl, inr}
use lib.Dec.{leb, eqb}
use borrow.Author.Tests.{le-leb, lt-leb, eq-eqb, ne_eqb}
use lib.ListN.{length, take, drop, replicate, length-append, length-drop, length-replicate, replicate-append-replicate, take-append-drop}
use lib.Seq.{length-take-le, take_all, take-append_seam, drop-drop}
use Rattle.utf8.proofs.Tests.{split}
use Rattle.buffer.specs.Buffer.{over, Appended, AllAre}
use Rattle.buffer.specs.Repeat.{times}
use Rattle.buffer.proofs.RegionLaws.{part_from}
use Rattle.buffer.proofs.RepeatLaws.{times_snoc, times_split, times_nil, times_alike}
use Rattle.buffer.proofs.AgreeLaws.{agree_nil, agree_cut, appended_agree}
use Rattle.buffer.proofs.OverLaws.{length_over, over_run}
use Rattle.rules.specs.Basics.{starts_with}
use Rattle.compare.specs.Common.{common, Agreeing, EndsAlike, StartsAlike, cell_size, cell_of, CellKept, Tracks, Keeps, Compared, LineAlike, Tells}
use Rattle.compare.proofs.CommonLaws.{common_nil, common_text, common_model, common_short, common_full, common_cut, starts_common, agreeing_end}

-- ---- `agree_levels`: the indent agrees level times over, and at is its length so far

pub record Leveling (m w : List ℕ) (levels at level : ℕ) : Type 0 where
  pub within : level ≤ levels
  pub reached : at ≡ length (times level w)
  pub agrees : at ≤ common m (times level w)

pub leveling_start : (m w : List ℕ) (levels : ℕ) → Leveling m w levels 0 0
unfolding times
leveling_start m w levels = record { within = zero-le; reached = refl; agrees = zero-le }

pub leveling_none : (m w : List ℕ) (levels : ℕ) → length w ≡ 0 → 0 ≡ common m (times levels w)
leveling_none m [] levels h = sym (rw times_nil (common_nil m))
leveling_none m (c ∷ w) levels h = absurd (omega arith)

first : (w : List ℕ) (n : ℕ) → 0 < n → times n w ≡ w ++ times (n - 1) w
first w zero h = absurd (omega arith)
first w (suc n) h =
    let e : suc n - 1 ≡ n = omega arith in
    rw e (unfold times in refl)

module _ (m w : List ℕ) (levels at level : ℕ) (r : Leveling m w levels at level) where
  pub leveling_in : at ≤ length m
  leveling_in = omega (arith, r.agrees, common_model m (times level w))

  next : (l : List ℕ) → common m (times level w ++ l) ≡ at + common (drop at m) l
  next l = rw r.reached (common_full m (times level w) l (omega (arith, r.reached, r.agrees)))

  pub leveling_room : (k : ℕ) → k ≡ common (take (length m - at) (drop at m)) w → at + k ≤ length m
  leveling_room k e =
      let f : k ≡ common (drop at m) w = e ∙ rw part_from in
      omega (arith, leveling_in, common_model (drop at m) w, length-drop at m)

  pub leveling_short : (k : ℕ) → k ≡ common (take (length m - at) (drop at m)) w → level < levels → k < length w → at + k ≡ common m (times levels w)
  leveling_short k e h b =
      let f : k ≡ common (drop at m) w = e ∙ rw part_from in
      let g : times levels w ≡ times level w ++ (w ++ times (levels - level - 1) w) =
      times_split level levels w r.within ∙ ap (λ (l : List ℕ). times level w ++ l) (first w (levels - level) (omega arith)) in
      let s = common_short (drop at m) w (times (levels - level - 1) w) (omega arith) in
      rw g (sym (next (w ++ times (levels - level - 1) w) ∙ rw (s, ← f)))

  pub leveling_more : (k : ℕ) → k ≡ common (take (length m - at) (drop at m)) w → level < levels → length w ≤ k
      → Leveling m w levels (at + length w) (level + 1)
  leveling_more k e h b =
      let f : k ≡ common (drop at m) w = e ∙ rw part_from in
      record {
        within = omega arith;
        reached = rw (times_snoc, length-append, ← r.reached);
        agrees = rw (times_snoc, next w) (omega arith);
      }

  pub leveling_end : levels ≤ level → at ≡ common m (times levels w)
  leveling_end h =
      let e : level ≡ levels = omega (arith, r.within) in
      let a = common_text m (times level w) in
      rw (← e) (omega (arith, r.reached, r.agrees))

-- ---- a piece more

pub agree_small : (m l : List ℕ) (n : ℕ) → n ≡ common m l → n ≤ length l
agree_small m l n e = rw e (common_text m l)

-- ---- the text is cut back: nothing is to be done

pub keeps_cut : (m x text : List ℕ) (k : ℕ) → Keeps m x text → Keeps m x (take k text)
unfolding Keeps
keeps_cut [] x text k g = agree_cut x text k g
keeps_cut (c ∷ m) x text k t = go (split (length text) k)
  where
    go : (length text < k) ⊎ (k ≤ length text) → Tracks (c ∷ m) x (take k text)
    go (inl h) = rw (take_all k text (omega arith)) t
    go (inr h) =
        let e : length (take k text) ≡ k = length-take-le k text h in
        record { room = t.room; small = t.small; same = rw e (omega (arith, t.same, common_cut (c ∷ m) text k)) }

-- ---- a text grows

appended_length : {x x' l : List ℕ} {at r : ℕ} → Appended x x' at l r → length x' ≡ length x
appended_length {x} {x'} {l} {at} w =
    omega (arith, ap length w.is, length-append (take at x) (over (drop at x) l), length_over (drop at x) l, length-append (take at x) (drop at x), ap length (take-append-drop at x))

-- with no model the output holds it
pub compared_out : {x x' l : List ℕ} {at r : ℕ} (m : List ℕ) → length m ≡ 0 → Appended x x' at l r → Compared m x x' at l r
unfolding Keeps
compared_out [] e w = record { next = w.next; size = appended_length w; holds = λ text h g. appended_agree w text h g }
compared_out (c ∷ m) e w = absurd (omega arith)

grows : (c : ℕ) (m x x' l : List ℕ) (at r : ℕ) → r ≡ at + length l → length x' ≡ length x
    → ((text : List ℕ) → length text ≡ at → Tracks (c ∷ m) x text → Tracks (c ∷ m) x' (text ++ l)) → Compared (c ∷ m) x x' at l r
unfolding Keeps
grows c m x x' l at r e s f = record { next = e; size = s; holds = f }

-- there is no room to compare
pub compared_none : (m x l : List ℕ) (at n : ℕ) → 0 < length m → n ≡ length l → length x < cell_size → Compared m x x at l (at + n)
compared_none [] x l at n some e h = absurd (omega arith)
compared_none (c ∷ m) x l at n some e h = grows c m x x l at (at + n) (omega arith) refl (λ text k t. absurd (omega (arith, t.room)))

-- the text differs already
pub compared_short : (m x l : List ℕ) (at n c : ℕ) → 0 < length m → n ≡ length l → c ≡ cell_of x → c < at → Compared m x x at l (at + n)
compared_short [] x l at n c some e f h = absurd (omega arith)
compared_short (a ∷ m) x l at n c some e f h =
    grows a m x x l at (at + n) (omega arith) refl
    (λ text k t. record { room = t.room; small = t.small; same = grow text (omega arith) t.same })
  where
    grow : (text : List ℕ) → cell_of x < length text → min (cell_of x) (length text) ≡ common (a ∷ m) text → min (cell_of x) (length (text ++ l)) ≡ common (a ∷ m) (text ++ l)
    grow text b e = omega (arith, common_short (a ∷ m) text l (omega arith), length-append text l)

-- it agrees as far as it goes
pub compared_on : (m x x' l : List ℕ) (at n c p k : ℕ) → 0 < length m → n ≡ length l → c ≡ cell_of x → at ≤ c → p ≡ min at (length m)
    → k ≡ common (take (length m - p) (drop p m)) l → CellKept x (length m) (at + k) (at + n) x' → Compared m x x' at l (at + n)
compared_on [] x x' l at n c p k some e b o q f w = absurd (omega arith)
compared_on (a ∷ m) x x' l at n c p k some e b o q f w =
    grows a m x x' l at (at + n) (omega arith) w.size
    (λ text h t.
    let s = common_model (a ∷ m) text in
    let i : p ≡ length text = omega (arith, t.same) in
    let g : k ≡ common (drop (length text) (a ∷ m)) l = f ∙ rw (part_from, i) in
    let j = common_text (drop (length text) (a ∷ m)) l in
    let u = common_full (a ∷ m) text l (omega (arith, t.same)) in
    let v = common_model (a ∷ m) (text ++ l) in
    let y : min (cell_of x') (at + n) ≡ at + k = w.is t.small (omega (arith, g, u, v)) (omega (arith, g, j)) in
    record { room = omega (arith, t.room, w.size); small = t.small; same = omega (arith, y, g, u, length-append text l) })

-- a line is an indent of one level
once : (l : List ℕ) → times 1 l ≡ l
unfolding times
once l = append-nil l

pub length_once : (l : List ℕ) → length (times 1 l) ≡ length l
length_once l = ap length (once l)

pub once_tracked : (m x y l : List ℕ) (at r : ℕ) → Compared m x y at (times 1 l) r → Compared m x y at l r
once_tracked m x y l at r w = rw once at w

pub compared_append : {m x y z l k : List ℕ} {at n r : ℕ} → Compared m x y at l n → Compared m y z n k r → Compared m x z at (l ++ k) r
compared_append {m} {x} {y} {z} {l} {k} a b =
    record {
      next = omega (arith, a.next, b.next, length-append l k);
      size = b.size ∙ a.size;
      holds = λ text h g. rw (← append_assoc) (b.holds (text ++ l) (omega (arith, a.next, length-append text l)) (a.holds text h g));
    }

-- less of it
pub compared_cut : {m x y l : List ℕ} {at n : ℕ} (k : List ℕ) → Compared m x y at (l ++ k) n → Compared m x y at l (at + length l)
compared_cut {m} {x} {y} {l} {at} k a =
    record {
      next = refl;
      size = a.size;
      holds = λ text h g.
          let e : take (length (text ++ l)) ((text ++ l) ++ k) ≡ text ++ l = take-append_seam (text ++ l) k in
          rw e at (keeps_cut m y ((text ++ l) ++ k) (length (text ++ l)) (rw append_assoc (a.holds text h g)));
    }

-- nothing goes behind it
pub compared_nil : (m x : List ℕ) (at : ℕ) → Compared m x x at [] at
compared_nil m x at = record { next = omega arith; size = refl; holds = λ text h g. rw append-nil g }

-- ---- a line with its ending and its indent is written

pub run_put : (x y : List ℕ) (at n b : ℕ) → at + n ≤ length x → y ≡ replicate (length (take (at + n - at) (drop at x))) b
    → Compared [] x (take at x ++ (y ++ drop (at + n - at) (drop at x))) at (replicate n b) (at + n)
run_put x y at n b h e =
    let k : at + n - at ≡ n = omega arith in
    let s : n ≤ length (drop at x) = omega (arith, length-drop at x) in
    let f : min n (length (drop at x)) ≡ n = omega arith in
    compared_out [] refl
    (record {
      next = rw length-replicate refl;
      is = rw (k, e, k, length-take-le n (drop at x) s) (ap (λ (l : List ℕ). take at x ++ l) (sym (over_run (drop at x) n b ∙ rw f refl)));
    })

pub pad_some : (w : List ℕ) (levels n : ℕ) → n ≡ length (times levels w) → (n ≡ 0 → ⊥) → 0 < length w
pad_some [] levels n e h = absurd (h (e ∙ ap length (times_nil levels)))
pad_some (c ∷ w) levels n e h = omega arith

pub pad_run : (x y w : List ℕ) (at levels n b k : ℕ) (same : Bool) → n ≡ length (times levels w) → n ≤ k → AllAre w b same → same ≡ true
    → Compared [] x y at (replicate k b) (at + k) → Compared [] x y at (times levels w) (at + length (times levels w))
pad_run x y w at levels n b k same e h a t v =
    let s : n + (k - n) ≡ k = omega arith in
    let g : replicate k b ≡ replicate n b ++ replicate (k - n) b = sym (replicate-append-replicate n (k - n) b ∙ ap (λ (i : ℕ). replicate i b) s) in
    rw (times_alike w levels b n same a t e) (compared_cut (replicate (k - n) b) (rw g at v))

pub pad_long : (x y l : List ℕ) (at r : ℕ) → Appended x y at (l ++ []) r → Compared [] x y at l (at + length l)
pad_long x y l at r v = compared_cut [] (compared_out [] refl v)

-- in the terms of the calls: a line's ending, its indent, and the line
pub parts_written : (x y z b e p : List ℕ) (at start r : ℕ) → b ≡ e → Appended x y at b start → Appended y z start p r → Compared [] x z at (e ++ p) r
parts_written x y z b e p at start r f v w = compared_append (compared_out [] refl (rw f at v)) (compared_out [] refl w)

pub line_written : (x y z u e p l : List ℕ) (at n k r : ℕ) → n ≡ length e → k ≡ length p → Compared [] x y at e (at + length e)
    → Compared [] y z (at + n) p (at + n + length p) → Appended z u (at + n + k) l r → Compared [] x u at (e ++ (p ++ l)) r
line_written x y z u e p l at n k r f g a b c = compared_append (rw (← f) at a) (compared_append (rw (← g) at b) (compared_out [] refl c))

-- ---- it is compared

-- all of it agrees, and what is kept reaches as far
on : (m x l : List ℕ) (at c : ℕ) → 0 < length m → c ≡ cell_of x → at + length l ≤ c → length l ≤ common (drop at m) l → Compared m x x at l (at + length l)
on [] x l at c some e h k = absurd (omega arith)
on (a ∷ m) x l at c some e h k =
    grows a m x x l at (at + length l) refl refl
    (λ text f t.
    let o = common_full (a ∷ m) text l (omega (arith, t.same)) in
    let j : length l ≤ common (drop (length text) (a ∷ m)) l = rw f k in
    let u = common_text (drop (length text) (a ∷ m)) l in
    record { room = t.room; small = t.small; same = omega (arith, o, length-append text l) })

common_both : (m a b : List ℕ) → length a ≤ common m a → length b ≤ common (drop (length a) m) b → length (a ++ b) ≤ common m (a ++ b)
common_both m a b h k = omega (arith, common_full m a b h, length-append a b)

pub line_on : (m x s p l : List ℕ) (at n k c : ℕ) (e h r : Bool) → n ≡ length s → k ≡ length p → 0 < length m → at + n + k + length l ≤ length m
    → c ≡ cell_of x → at + n + k + length l ≤ c → StartsAlike (drop at m) s e → e ≡ true
    → StartsAlike (take (length m - (at + n)) (drop (at + n) m)) p h → h ≡ true
    → EndsAlike (take (length m - (at + n + k)) (drop (at + n + k) m)) l (length l) r → LineAlike m x at (s ++ (p ++ l)) r
line_on m x s p l at n k c e h r en ek some fits kept far he te hp tp hl =
    record {
      is = λ t.
          on m x (s ++ (p ++ l)) at c some kept (omega (arith, length-append s (p ++ l), length-append p l))
          (common_both (drop at m) s (p ++ l) (he.is te)
          (rw s1 (common_both (drop (at + n) m) p l (rw part_from at (hp.is tp)) (rw s2 (whole t)))));
    }
  where
    s1 : drop (length s) (drop at m) ≡ drop (at + n) m
    s1 = drop-drop (length s) at m ∙ rw (← en)

    s2 : drop (length p) (drop (at + n) m) ≡ drop (at + n + k) m
    s2 = drop-drop (length p) (at + n) m ∙ rw (← ek)

    whole : r ≡ true → length l ≤ common (drop (at + n + k) m) l
    whole t =
        let g : Agreeing (drop (at + n + k) m) l (length l) (length l) = rw part_from at (hl.is t) in
        omega (arith, agreeing_end (drop (at + n + k) m) l (length l) (length l) (omega (arith, length-drop (at + n + k) m)) g (omega arith))

-- ---- nothing is there yet

pub keeps_out : (x : List ℕ) → Keeps [] x []
unfolding Keeps
keeps_out x = agree_nil x

pub keeps_start : (m x : List ℕ) → cell_size ≤ length x → length m < 2 ^ 24 → Keeps m x []
unfolding Keeps
keeps_start [] x r s = agree_nil x
keeps_start (c ∷ m) x r s = record { room = r; small = s; same = omega (arith, common_nil (c ∷ m)) }

-- ---- what is told of it

leb_min : (k a b : ℕ) → k ≤ b → leb k a ≡ leb k (min a b)
leb_min k a b h = go (split a k)
  where
    go : (a < k) ⊎ (k ≤ a) → leb k a ≡ leb k (min a b)
    go (inl l) = lt-leb k a l ∙ sym (lt-leb k (min a b) (omega arith))
    go (inr l) = le-leb k a l ∙ sym (le-leb k (min a b) (omega arith))

starts_none : (k : ℕ) (text : List ℕ) → suc k ≤ length text → false ≡ starts_with [] (take (suc k) text)
unfolding starts_with
starts_none k [] h = absurd (omega arith)
starts_none k (c ∷ text) h = refl

pub tells_none : (m x : List ℕ) (k : ℕ) → length m ≡ 0 → Tells m x k (eqb k 0)
unfolding starts_with
tells_none [] x zero e = record { is = λ text g h. eq-eqb 0 0 refl }
tells_none [] x (suc k) e = record { is = λ text g h. ne_eqb (suc k) 0 (λ p. omega arith) ∙ starts_none k text h }
tells_none (c ∷ m) x k e = absurd (omega arith)

pub tells_short : (m x : List ℕ) (k : ℕ) (r : Bool) → (length m ≡ 0 → ⊥) → length x < cell_size → Tells m x k r
unfolding Keeps
tells_short [] x k r e h = absurd (e refl)
tells_short (c ∷ m) x k r e h = record { is = λ text g b. absurd (omega (arith, g.room)) }

pub tells_cell : (m x : List ℕ) (k n : ℕ) → (length m ≡ 0 → ⊥) → n ≡ cell_of x → Tells m x k (leb k n)
unfolding Keeps
tells_cell [] x k n e f = absurd (e refl)
tells_cell (c ∷ m) x k n e f =
    record { is = λ text t b. rw f (leb_min k (cell_of x) (length text) b ∙ ap (leb k) t.same ∙ starts_common (c ∷ m) text k b) }
