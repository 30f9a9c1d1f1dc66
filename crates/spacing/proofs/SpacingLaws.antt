-- Laws of a text that grows at its end, and the loops of spacing.
use Prim.Native.Nat.{ℕ, zero, suc, ◌+◌, ◌-◌, ◌*◌, ◌≤◌, ◌<◌, zero-le}
use mathlib.Core.Bool.{Bool, true, false}
use mathlib.Core.List.{List, [], ◌∷◌, ◌++◌, foldl}
use mathlib.Core.Path.{◌≡◌, refl, sym, ap, ◌∙◌}
use native.Mathlib.Omega.{arith}
use borrow.Author.Tests.{eqb-true, ne_eqb, not-false}
use lib.Dec.{eqb}
use lib.ListN.{length, get_or, take, drop}
use lib.Seq.{take-suc, take-take, length-take-le}
use Rattle.std.proofs.Math.Seq.{length_front}
use Rattle.std.proofs.lemmas.List.{take_at}
use Rattle.std.proofs.lemmas.Slice.{drop-append-drop}
use Rattle.blocks.specs.Blocks.{FirstFrom}
use Rattle.buffer.specs.Buffer.{over}
use Rattle.rules.specs.Basics.{choose, is_blank}
use Rattle.rules.specs.Scan.{Cell, cell, is_code}
use Rattle.rules.specs.ClassBytes.{class_of, cells_of}
use Rattle.rules.specs.Spacing.{Spaced, spaced, cons_blank, trim_blanks, put_plain, put_at, space_step, normalize_spacing}
use Rattle.rules.specs.declared.Gap.{Gap}
use Rattle.rules.proofs.Choose.{choose_true, choose_false}
use Rattle.rules.proofs.CellsLaws.{cells_at, cells_end}
use Rattle.basics.specs.Region.{Only}
use Rattle.spacing.specs.Respaced.{spaced_at, Trimmed, Wrote, Plain, Dropped, other_at, Room, Copied, Normalized, Keeping, respaced_from}
use Rattle.spacing.specs.declared.Respaced.{Respaced}
use Rattle.basics.proofs.OnlyLaws.{only_same, only_wider, only_then}

-- ---- blanks at the end

cons_snoc : (x c : ℕ) (s : List ℕ) → cons_blank x (s ++ (c ∷ [])) ≡ x ∷ (s ++ (c ∷ []))
unfolding cons_blank
cons_snoc x c [] = refl
cons_snoc x c (y ∷ s) = refl

pub trim_snoc : (s : List ℕ) (c : ℕ) → trim_blanks (s ++ (c ∷ [])) ≡ choose (is_blank c) (trim_blanks s) (s ++ (c ∷ []))
unfolding trim_blanks cons_blank
trim_snoc [] c = refl
trim_snoc (x ∷ s) c = ap (cons_blank x) (trim_snoc s c) ∙ go (is_blank c)
  where
    go : (b : Bool) → cons_blank x (choose b (trim_blanks s) (s ++ (c ∷ []))) ≡ choose b (cons_blank x (trim_blanks s)) (x ∷ (s ++ (c ∷ [])))
    go true = ap (cons_blank x) (choose_true true _ _ refl) ∙ sym (choose_true true _ _ refl)
    go false = ap (cons_blank x) (choose_false false _ _ refl) ∙ cons_snoc x c s ∙ sym (choose_false false _ _ refl)

-- the first m bytes end with the byte before m
text_last : (text : List ℕ) (m : ℕ) → 0 < m → m ≤ length text → take m text ≡ take (m - 1) text ++ (get_or text (m - 1) 0 ∷ [])
text_last text m p h =
    let j : ℕ = m - 1 in
    let e : m ≡ suc j = omega arith in
    ap (λ (n : ℕ). take n text) e ∙ take-suc text j 0 (omega arith)

pub record Trimming (text : List ℕ) (m : ℕ) : Type 0 where
  pub most : m ≤ length text
  pub same : trim_blanks text ≡ trim_blanks (take m text)

module _ (text : List ℕ) (m : ℕ) (w : Trimming text m) where
  last : 0 < m → trim_blanks text ≡ choose (is_blank (get_or text (m - 1) 0)) (trim_blanks (take (m - 1) text)) (take m text)
  last p =
      let t = text_last text m p w.most in
      w.same ∙ ap trim_blanks t ∙ trim_snoc (take (m - 1) text) (get_or text (m - 1) 0) ∙ rw t

  pub trimming_more : (r : Bool) → 0 < m → r ≡ is_blank (get_or text (m - 1) 0) → r ≡ true → Trimming text (m - 1)
  trimming_more r p e q = record { most = omega (arith, w.most); same = last p ∙ choose_true _ _ _ (sym e ∙ q) }

  pub trimming_stop : (r : Bool) → 0 < m → r ≡ is_blank (get_or text (m - 1) 0) → r ≡ false → Trimmed text m
  trimming_stop r p e q = record { is = sym (last p ∙ choose_false _ _ _ (sym e ∙ q)); most = w.most }

  pub trimming_end : m ≤ 0 → Trimmed text m
  unfolding trim_blanks
  trimming_end h = let e : m ≡ 0 = omega arith in record { is = sym (w.same ∙ rw e); most = w.most }

-- ---- bytes written at the end

-- nothing is written
pub wrote_none : (w : Spaced) (buf : List ℕ) (n : ℕ) (g : Gap) → spaced (take n buf) g ≡ w → Wrote w 2 buf n buf (record { len = n; gap = g })
wrote_none w buf n g e = record { is = e; most = omega arith; only = only_same buf _ _ }

-- what a call wrote is what is asked
pub wrote_by : {v w : Spaced} {k : ℕ} {buf : List ℕ} {n : ℕ} {after : List ℕ} {r : Respaced} (m : ℕ) → Wrote v k buf n after r → k ≤ m → spaced_at after r ≡ w → Wrote w m buf n after r
wrote_by {v} {w} {k} {buf} {n} m x h e =
    record { is = e; most = omega (arith, x.most); only = only_wider 0 (n + m) x.only zero-le (omega arith) }

-- before a comma, the trimmed text
pub wrote_trimmed : {buf : List ℕ} {n m : ℕ} (c : ℕ) (g : Gap) {after : List ℕ} {r : Respaced} → n < length buf → Trimmed (take n buf) m
    → Wrote (spaced (take m buf ++ (c ∷ [])) g) 1 buf m after r → Wrote (spaced (trim_blanks (take n buf) ++ (c ∷ [])) g) 1 buf n after r
wrote_trimmed {buf} {n} {m} c g h t x =
    let k : m ≤ n = omega (arith, t.most, length-take-le n buf (omega arith)) in
    record {
      is = x.is ∙ ap (λ (o : List ℕ). spaced (o ++ (c ∷ [])) g) (sym (take-take m n buf k) ∙ t.is);
      most = omega (arith, x.most);
      only = only_wider 0 (n + 1) x.only zero-le (omega arith);
    }

-- a space, and then the byte
-- ---- a byte that goes on as it is

pub plain_char : (o : List ℕ) (c k : ℕ) → (c ≡ 32 → ⊥) → (c ≡ 44 → ⊥) → (c ≡ 92 → ⊥) → put_at Gap.Nothing o (cell c (class_of k)) ≡ spaced (o ++ (c ∷ [])) Gap.Nothing
unfolding put_at put_plain choose
plain_char o c k p q r = rw (ne_eqb c 92 r, ne_eqb c 44 q, ne_eqb c 32 p) (both (is_code (class_of k)))
  where
    both : (b : Bool) → choose b (spaced (o ++ (c ∷ [])) Gap.Nothing) (spaced (o ++ (c ∷ [])) Gap.Nothing) ≡ spaced (o ++ (c ∷ [])) Gap.Nothing
    both true = refl
    both false = refl

-- ---- the loop over the line

-- before byte i: what is left of the line, after the text so far, comes to the respaced line
pub record Reached (line ks buf₀ buf : List ℕ) (t : Respaced) (i : ℕ) : Type 0 where
  pub within : i ≤ length line
  pub same : normalize_spacing (cells_of line ks) ≡ (foldl space_step (spaced_at buf t) (cells_of (drop i line) (drop i ks))).out
  pub most : t.len ≤ 2 * i
  pub only : Only buf₀ buf 0 (2 * length line)

-- the first k bytes, which spacing leaves as they are, were copied
pub reached_kept : (line ks buf : List ℕ) (k : ℕ) → Keeping line ks k → take k buf ≡ take k line → Reached line ks buf buf (record { len = k; gap = Gap.Nothing }) k
unfolding respaced_from
reached_kept line ks buf k w e =
    record {
      within = w.within;
      same = w.same ∙ ap (λ (l : List ℕ). (foldl space_step (spaced l Gap.Nothing) (cells_of (drop k line) (drop k ks))).out) (sym e);
      most = omega arith;
      only = only_same buf _ _;
    }

-- a space after a space
space_again : (o : List ℕ) (g : Gap) (x : Cell) → g ≡ Gap.Space → x.ch ≡ 32 → spaced o g ≡ put_at g o x
unfolding put_at choose
space_again o g x e q = rw (e, q)

module _ {line ks buf₀ : List ℕ} (classes : length line ≤ length ks) where
  reached_next : {buf : List ℕ} {t : Respaced} {i : ℕ} (buf' : List ℕ) (u : Respaced) → Reached line ks buf₀ buf t i → i < length line
      → spaced_at buf' u ≡ put_at t.gap (take t.len buf) (cell (get_or line i 0) (class_of (get_or ks i 0))) → u.len ≤ 2 * (i + 1) → Only buf₀ buf' 0 (2 * length line)
      → Reached line ks buf₀ buf' u (i + 1)
  reached_next {buf} {t} {i} buf' u w h e m o =
      record {
        within = omega arith;
        same =
            w.same
            ∙ ap (λ (xs : List Cell). (foldl space_step (spaced_at buf t) xs).out) (cells_at line ks i h classes)
            ∙ ap (λ (s : Spaced). (foldl space_step s (cells_of (drop (i + 1) line) (drop (i + 1) ks))).out) (sym e);
        most = m;
        only = o;
      }

  reached_by : (buf : List ℕ) (t : Respaced) (n i : ℕ) → t.gap ≡ Gap.Space → i + n ≤ length line → ((j : ℕ) → i ≤ j → j < i + n → get_or line j 0 ≡ 32)
      → Reached line ks buf₀ buf t i → Reached line ks buf₀ buf t (i + n)
  reached_by buf t zero i g h s w = let e : i + 0 ≡ i = omega arith in rw e w
  reached_by buf t (suc n) i g h s w =
      let e : i + 1 + n ≡ i + suc n = omega arith in
      let v : Reached line ks buf₀ buf t (i + 1) =
      reached_next buf t w (omega arith) (space_again (take t.len buf) t.gap (cell (get_or line i 0) (class_of (get_or ks i 0))) g (s i (omega arith) (omega arith))) (omega (arith, w.most)) w.only in
      rw e at (reached_by buf t n (i + 1) g (omega arith) (λ j p q. s j (omega arith) (omega arith)) v)

module _ (line ks buf₀ buf : List ℕ) (t : Respaced) (i : ℕ) (p : Room (length line) ks buf₀) (w : Reached line ks buf₀ buf t i) where
  pub reached_more : (buf' : List ℕ) (u : Respaced) → i < length line → Wrote (put_at t.gap (take t.len buf) (cell (get_or line i 0) (class_of (get_or ks i 0)))) 2 buf t.len buf' u
      → Reached line ks buf₀ buf' u (i + 1)
  reached_more buf' u h v =
      reached_next p.classes buf' u w h v.is (omega (arith, w.most, v.most)) (only_then w.only (only_wider 0 (2 * length line) v.only zero-le (omega (arith, w.most))))

  pub reached_plain : (buf' : List ℕ) (u : Respaced) (r : Bool) → i < length line → Plain (get_or line i 0) t.gap r → r ≡ true
      → Wrote (spaced (take t.len buf ++ (get_or line i 0 ∷ [])) Gap.Nothing) 1 buf t.len buf' u
      → Reached line ks buf₀ buf' u (i + 1)
  reached_plain buf' u r h d q v =
      let g = d.yes q in
      let c = get_or line i 0 in
      let e = plain_char (take t.len buf) c (get_or ks i 0) g.1.1.1 g.1.1.0 g.1.0 in
      let a : put_at t.gap (take t.len buf) (cell c (class_of (get_or ks i 0))) ≡ spaced (take t.len buf ++ (c ∷ [])) Gap.Nothing = rw g.0 e in
      reached_more buf' u h (wrote_by 2 v (omega arith) (v.is ∙ sym a))

  pub reached_run : (r : Bool) (e : ℕ) → i < length line → Dropped (get_or line i 0) t.gap r → r ≡ true → FirstFrom (other_at line) (i + 1) (length line) e
      → Reached line ks buf₀ buf t e
  reached_run r e h d q u =
      let m : i + 1 + (e - (i + 1)) ≡ e = omega (arith, u.from) in
      let g = d.yes q in
      let v = reached_by p.classes buf t 1 i g.0 (omega arith) (λ j a b. let z : j ≡ i = omega arith in rw z g.1) w in
      rw m at (reached_by p.classes buf t (e - (i + 1)) (i + 1) g.0 (omega (arith, u.within, m)) (λ j a b. eqb-true (get_or line j 0) 32 (not-false (eqb (get_or line j 0) 32) (u.none j a (omega (arith, m))))) v)

  pub reached_end : length line ≤ i → Normalized (cells_of line ks) buf₀ buf (length line) t.len
  reached_end h =
      let d = ap (λ (xs : List Cell). (foldl space_step (spaced_at buf t) xs).out) (cells_end line ks i h) in
      record { is = sym (w.same ∙ d); most = omega (arith, w.most, w.within); only = w.only }

-- ---- the bytes that are copied

over_same : (d t : List ℕ) → length d ≡ length t → over d t ≡ t
unfolding over
over_same [] [] h = refl
over_same [] (a ∷ t) h = absurd (omega arith)
over_same (x ∷ d) [] h = absurd (omega arith)
over_same (x ∷ d) (a ∷ t) h = ap (λ (l : List ℕ). a ∷ l) (over_same d t (omega arith))

-- the line's first k, over the first k
pub put_over : (line buf new : List ℕ) (k : ℕ) → k ≤ length line → k ≤ length buf → new ≡ over (take k buf) (take k line) → Copied (take k line) buf (new ++ drop k buf) k
put_over line buf new k h l w =
    let m : length (take k line) ≡ k = length-take-le k line h in
    let n : length (take k buf) ≡ k = length-take-le k buf l in
    let e : new ≡ take k line = w ∙ over_same (take k buf) (take k line) (n ∙ sym m) in
    let c : Copied (take k line) buf (take k line ++ drop k buf) k =
    record {
      is = take_at (take k line) (drop k buf) k m;
      only = record { long = length_front buf (take k line) k (m ∙ sym n); front = refl; back = drop-append-drop k buf (take k line) k (omega arith) m };
    } in
    rw e c

-- the rest is written after them
module _ (line ks buf mid : List ℕ) (k : ℕ) (t : List ℕ) (c : Copied t buf mid k) where
  pub normalized_after : k ≤ length line → (after : List ℕ) (r : ℕ) → Normalized (cells_of line ks) mid after (length line) r → Normalized (cells_of line ks) buf after (length line) r
  normalized_after fits after r w =
      record { is = w.is; most = w.most; only = only_then (only_wider 0 (2 * length line) c.only zero-le (omega arith)) w.only }
