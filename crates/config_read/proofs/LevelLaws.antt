-- The levels of a path.
--     LevelScan     the loop of `level_from`
--     nearest_is, above_..., unslashed_...
--     resolved_all  the values of texts outward; relatives_of     the paths of the levels, by characters
use Rattle.std.specs.Prelude.{Option, Some, None}
use Rattle.std.specs.Option.{MatchOption, IsSomeAnd}
use Rattle.std.specs.Fn.{Called, Mut}
use Rattle.std.specs.List.{FoldsTo, push}
use Rattle.std.specs.Iterator.{Yields, FindsPositionBack}
use Rattle.std.specs.Slice.Iter.{iter_rest, iter_steps_back}
use Rattle.std.proofs.Common.{Iter, eqb}
use Rattle.std.proofs.lemmas.List.{length_push, same_from_push}
use Prim.Native.Nat.{ℕ, zero, suc, ◌+◌, ◌-◌, ◌≤◌, ◌<◌}
use mathlib.Core.Bool.{Bool, true, false}
use mathlib.Core.List.{List, [], ◌∷◌, ◌++◌, map, append_assoc, append-nil}
use mathlib.Core.Path.{◌≡◌, refl, sym, ap, ◌∙◌}
use native.Mathlib.Omega.{arith}
use borrow.Author.Tests.{ne_eqb, eq-eqb, eqb-true, eqb-false}
use lib.ListN.{length, take, drop, get_or}
use lib.Seq.{drop-cons, take-suc, take-length, drop-length, length-take-le}
use Rattle.utf8.specs.Unicode.{Scalars, chars, encode_char, encode, decode, WellFormed}
use Rattle.utf8.proofs.Table.{High, none, also, Bytes, single, several, bytes}
use Rattle.utf8.proofs.Tests.{by_test}
use Rattle.utf8.proofs.Decode.{decode_scalars}
use Rattle.utf8.proofs.Cut.{AsciiCut, ascii_cut}
use Rattle.buffer.proofs.RegionLaws.{part_from}
use Rattle.rules.specs.Basics.{choose, is, first_is}
use Rattle.rules.specs.declared.Resolved.{Resolved}
use Rattle.rules.proofs.Choose.{choose_case, choose_true, choose_false}
use Rattle.rules.proofs.StartsBytes.{on_decode, steady_is, first_encode}
use Rattle.config_rules.specs.Lines.{lines_of}
use Rattle.rules.specs.declared.IndentStyle.{IndentStyle}
use Rattle.rules.specs.declared.IndentSize.{IndentSize}
use Rattle.rules.specs.declared.MaxLineLen.{MaxLineLen}
use Rattle.rules.specs.declared.ConfigEnding.{ConfigEnding}
use Rattle.config_rules.specs.Values.{unset}
use Rattle.config_rules.specs.Sections.{root_at, settings}
use Rattle.config_rules.specs.Texts.{below_slashes, relatives, resolved}
use Rattle.rules.proofs.Scalars.{AllScalars, all_decode}
use denote.Ref.{Bor}
use Rattle.config_read.specs.Refusals.{bytes_of}
use Rattle.config_read.specs.Levels.{Unslashed, below, outward, rels_above, rels_at, rels_in, LevelFrom, Nearest, Above, resolved_at}

-- ---- what follows each slash

abbrev Lent : Type 0
Lent = Bor (List ℕ)

abbrev Rels : Type 0
Rels = List (List ℕ)

below_append : (u w : List ℕ) → below_slashes (u ++ w) ≡ below_slashes w ++ below u w
unfolding below_slashes below
below_append [] w = sym (append-nil (below_slashes w))
below_append (c ∷ u) w =
    let x : Rels = choose (is "/" c) ((u ++ w) ∷ []) [] in
    ap (λ (l : Rels). l ++ x) (below_append u w) ∙ append_assoc (below_slashes w) (below u w) x

below_snoc : (u : List ℕ) (c : ℕ) (w : List ℕ) → below (u ++ (c ∷ [])) w ≡ choose (is "/" c) (w ∷ []) [] ++ below u (c ∷ w)
unfolding below
below_snoc [] c w = sym (append-nil (choose (is "/" c) (w ∷ []) []))
below_snoc (d ∷ u) c w =
    let x : Rels = choose (is "/" c) (w ∷ []) [] in
    let y : Rels = choose (is "/" d) ((u ++ (c ∷ w)) ∷ []) [] in
    ap (λ (l : List ℕ). below (u ++ (c ∷ [])) w ++ choose (is "/" d) (l ∷ []) []) (append_assoc u (c ∷ []) w)
    ∙ ap (λ (l : Rels). l ++ y) (below_snoc u c w) ∙ append_assoc x (below u (c ∷ w)) y

outward_suc : (p : List ℕ) (i : ℕ) → i < length p → outward p (suc i) ≡ choose (is "/" (get_or p i 0)) (drop (suc i) p ∷ []) [] ++ outward p i
unfolding outward
outward_suc p i h =
    let c : ℕ = get_or p i 0 in
    let w : List ℕ = drop (suc i) p in
    let x : Rels = choose (is "/" c) (w ∷ []) [] in
    ap (λ (l : List ℕ). below l w ++ (p ∷ [])) (take-suc p i 0 h) ∙ ap (λ (l : Rels). l ++ (p ∷ [])) (below_snoc (take i p) c w)
    ∙ append_assoc x (below (take i p) (c ∷ w)) (p ∷ [])
    ∙ ap (λ (l : List ℕ). x ++ (below (take i p) l ++ (p ∷ []))) (sym (drop-cons p i 0 h))

outward_none : (p : List ℕ) → outward p 0 ≡ p ∷ []
unfolding outward below
outward_none p = refl

outward_all : (p : List ℕ) → outward p (length p) ≡ below_slashes p ++ (p ∷ [])
unfolding outward below_slashes
outward_all p =
    rw (take-length p, drop-length p)
    (ap (λ (l : Rels). l ++ (p ∷ [])) (sym (ap below_slashes (sym (append-nil p)) ∙ below_append p [])))

-- ---- level_from

pub record LevelScan (p : List ℕ) (e i : ℕ) : Type 0 where
  pub bound : i ≤ e
  pub is : outward p e ≡ outward p i

module _ (p : List ℕ) (e i : ℕ) (w : LevelScan p e i) (f : e ≤ length p) where
  scan_step : 0 < i → outward p e ≡ choose (is "/" (get_or p (i - 1) 0)) (drop i p ∷ []) [] ++ outward p (i - 1)
  scan_step h =
      let s : suc (i - 1) ≡ i = omega arith in
      w.is ∙ ap (outward p) (sym s) ∙ outward_suc p (i - 1) (omega (arith, w.bound))
      ∙ ap (λ (n : ℕ). choose (is "/" (get_or p (i - 1) 0)) (drop n p ∷ []) [] ++ outward p (i - 1)) s

  pub scan_found : WellFormed p → 0 < i → get_or p (i - 1) 0 ≡ 47 → LevelFrom p e (i - 1 + 1)
  scan_found v h c =
      let k : i - 1 + 1 ≡ i = omega arith in
      rw k
      (record {
        at = record { fits = omega (arith, w.bound); well = rw k at (ascii_cut p (i - 1) v (omega (arith, w.bound)) (omega (arith, c))).right };
        is =
            scan_step h ∙ ap (λ (l : Rels). l ++ outward p (i - 1)) (choose_true _ _ _ (eq-eqb (get_or p (i - 1) 0) 47 c))
            ∙ ap (λ (l : Rels). drop i p ∷ l) (sym (choose_false _ _ _ (ne_eqb i 0 (λ z. absurd (omega arith)))));
      })

  pub scan_more : 0 < i → (get_or p (i - 1) 0 ≡ 47 → ⊥) → LevelScan p e (i - 1)
  scan_more h n =
      record {
        bound = omega (arith, w.bound);
        is = scan_step h ∙ ap (λ (l : Rels). l ++ outward p (i - 1)) (choose_false _ _ _ (ne_eqb (get_or p (i - 1) 0) 47 n));
      }

  pub scan_end : WellFormed p → i ≤ 0 → LevelFrom p e 0
  scan_end v h =
      let z : i ≡ 0 = omega arith in
      record {
        at = record { fits = omega arith; well = v };
        is = w.is ∙ ap (outward p) z ∙ outward_none p ∙ ap (λ (l : Rels). p ∷ l) (sym (choose_true _ _ _ (eq-eqb 0 0 refl)));
      }

-- a search for a slash from the end of the first e bytes
module _ {F : Type 0} (g : Mut F (Bor ℕ × Unit {0}) Bool)
    (tells : (f : F) (x : Bor ℕ) (b : Bool) (f' : F) → Called g f (x, tt) b f' → b ≡ eqb x.now 47) (p : List ℕ)
  where
    -- what comes off the back of the first i bytes
    abbrev Off : ℕ → List ℕ → ℕ → Type 0
    Off i l x = (0 < i) × (l ≡ take (i - 1) p) × (x ≡ get_or p (i - 1) 0)

    back_one : (i : ℕ) (l : List ℕ) (x : ℕ) → i ≤ length p → take i p ≡ push l x → Off i l x
    back_one zero l x h e =
        let a : length (push l x) ≡ length l + 1 = length_push l x in
        let b : 0 ≡ length (push l x) = ap length e in
        absurd (omega arith)
    back_one (suc j) l x h e =
        let z : suc j - 1 ≡ j = omega arith in
        let q : take j p ++ (get_or p j 0 ∷ []) ≡ push l x = sym (take-suc p j 0 (omega arith)) ∙ e in
        let t : (take j p ≡ l) × (get_or p j 0 ≡ x) = same_from_push (take j p) l (get_or p j 0) x q in
        rw z (omega arith, sym t.0, sym t.1)

    module _ (e : ℕ) (f : e ≤ length p) where
      scan_back : (xs : List (Bor ℕ)) (s t : Iter ℕ) (k k' : F) (i : ℕ) → Yields iter_steps_back s xs t
          → FoldsTo (λ q x r. Called g q (x, tt) false r) k xs k' → iter_rest s ≡ take i p → LevelScan p e i
          → (length xs ≤ i) × (iter_rest t ≡ take (i - length xs) p) × LevelScan p e (i - length xs)
      scan_back [] s t k k' i y c q w =
          let z : i - 0 ≡ i = omega arith in
          rw z (omega arith, sym (ap (λ (a : Iter ℕ). iter_rest a) y) ∙ q, w)
      scan_back (x ∷ xs) s t k k' i y c q w =
          let l = iter_rest y.0 in
          let b : Off i l x.now = back_one i l x.now (omega (arith, w.bound)) (sym q ∙ y.1) in
          let a : get_or p (i - 1) 0 ≡ 47 → ⊥ = λ z. eqb-false x.now 47 (sym (tells k x false c.0 c.1)) (b.2 ∙ z) in
          let r = scan_back xs y.0 t c.0 k' (i - 1) y.2 c.2 b.1 (scan_more p e i w f b.0 a) in
          let z : i - suc (length xs) ≡ i - 1 - length xs = omega arith in
          rw z (omega (arith, b.0, r.0), r.1, r.2)

      pub level_back : WellFormed p → (s u : Iter ℕ) (k : F) (r : Option ℕ) (n m : ℕ) → iter_rest s ≡ take e p → m ≡ e
          → FindsPositionBack iter_steps_back g s k m r u → (P : ℕ → Type 0) → MatchOption r (n ≡ 0) P
          → ((i : ℕ) → P i → n ≡ i + 1) → LevelFrom p e n
      level_back v s u k r n m q z d P h plus = last d.1 d.3.2 d.5
        where
          i : ℕ
          i = e - length d.0

          found : (length d.0 ≤ e) × (iter_rest d.3.0 ≡ take i p) × LevelScan p e i
          found = scan_back d.0 s d.3.0 k d.2 e d.3.1 d.4 q (record { bound = omega arith; is = refl })

          behind : (r : Option ℕ) → IsSomeAnd r (λ j. j + 1 + length d.0 ≡ m) → MatchOption r (n ≡ 0) P → n ≡ i
          behind None a b = absurd a
          behind (Some j) a b = omega (arith, a, plus j b, z)

          last : (o : Option (Bor ℕ)) → iter_steps_back d.3.0 o u
              → MatchOption o (r ≡ None)
              (λ x. IsSomeAnd r (λ j. j + 1 + length d.0 ≡ m) × ((h : F) × Called g d.2 (x, tt) true h))
              → LevelFrom p e n
          last None a b =
              let l : length (take i p) ≡ i = length-take-le i p (omega arith) in
              let y : length (take i p) ≡ 0 = sym (ap length found.1) ∙ a.0 in
              rw (rw b at h) (scan_end p e i found.2 f v (omega arith))
          last (Some x) a b =
              let l = iter_rest u in
              let t : Off i l x.now = back_one i l x.now (omega arith) (sym found.1 ∙ a) in
              let y : n ≡ i - 1 + 1 = behind r b.0 h ∙ omega (arith, t.0) in
              rw y (scan_found p e i found.2 f v t.0 (sym t.2 ∙ eqb-true x.now 47 (sym (tells d.2 x true b.1.0 b.1.1))))

-- ---- levels

pub nearest_is : (p : List ℕ) (r : ℕ) → LevelFrom p (length p) r → Nearest p r
nearest_is p r f = record { at = f.at; is = sym f.is ∙ outward_all p }

module _ (p text : List ℕ) (r : ℕ) where
  pub above_top : r ≡ 0 → Above p text r None
  above_top z = record { at = tt; is = sym (choose_case (λ (x : Rels). x ≡ []) (λ y. refl) (λ y. choose_true _ _ _ (eq-eqb r 0 z))) }

  pub above_root : (b : Bool) → b ≡ root_at false (lines_of (decode text)) → b ≡ true → Above p text r None
  above_root b e y = record { at = tt; is = sym (choose_true _ _ _ (sym e ∙ y)) }

  pub above_next : (r ≡ 0 → ⊥) → (b : Bool) → b ≡ root_at false (lines_of (decode text)) → b ≡ false → (up : ℕ) → LevelFrom p (r - 1) up → Above p text r (Some up)
  above_next z b e n up f = record { at = f.at; is = sym f.is ∙ sym (choose_false _ _ _ (sym e ∙ n) ∙ choose_false _ _ _ (ne_eqb r 0 z)) }

-- ---- the values of texts

-- what is none in every field is unset
pub unset_is : (r : Resolved)
    → (r.style ≡ None) × ((r.size ≡ None) × ((r.tab ≡ None) × ((r.max ≡ None) × ((r.ending ≡ None) × (r.newline ≡ None)))))
    → r ≡ unset
unset_is r h = made r.style r.size r.tab r.max r.ending r.newline h.0 h.1.0 h.1.1.0 h.1.1.1.0 h.1.1.1.1.0 h.1.1.1.1.1
  where
    made : (s : Option IndentStyle) (n : Option IndentSize) (t : Option ℕ) (m : Option MaxLineLen) (e : Option ConfigEnding) (b : Option Bool)
        → s ≡ None → n ≡ None → t ≡ None → m ≡ None → e ≡ None → b ≡ None
        → ◌≡◌ {A = Resolved} (record { style = s; size = n; tab = t; max = m; ending = e; newline = b }) unset
    made s n t m e b p q u v w x = rw (p, q, u, v, w, x)

pub resolved_none : (ts : Rels) → resolved ts [] ≡ unset
unfolding resolved
resolved_none [] = refl
resolved_none (t ∷ ts) = refl

no_texts : (rs : Rels) → resolved [] rs ≡ unset
unfolding resolved
no_texts rs = refl

resolved_cons : (t : List ℕ) (ts : Rels) (r : List ℕ) (rs : Rels)
    → resolved (t ∷ ts) (r ∷ rs) ≡ settings r false (choose (root_at false (lines_of t)) unset (resolved ts rs)) (lines_of t)
unfolding resolved
resolved_cons t ts r rs = refl

-- no text is left
pub resolved_end : (p : List ℕ) (r : ℕ) (ts : List Lent) (d : Resolved) → length ts < 1 → d ≡ unset → d ≡ resolved_at p r (bytes_of ts)
resolved_end p r [] d h e = e ∙ sym (no_texts (map decode (rels_at p r)))
resolved_end p r (t ∷ ts) d h e = absurd (omega arith)

-- the first text before the others, which give `old` one directory up
pub resolved_more : (p : List ℕ) (r : ℕ) (ts : List Lent) (d : Lent) → 1 ≤ length ts → (up : Option ℕ) (old new : Resolved) → Above p (get_or ts 0 d).now r up
    → old ≡ resolved (map decode (bytes_of (take (length ts - 1) (drop 1 ts)))) (map decode (rels_in p up))
    → new ≡ settings (decode (take (length p - r) (drop r p))) false old (lines_of (decode (get_or ts 0 d).now))
    → new ≡ resolved_at p r (bytes_of ts)
resolved_more p r [] d h up old new a o n = absurd (omega arith)
resolved_more p r (t ∷ ts) d h up old new a o n =
    n ∙ ap (λ (x : List ℕ). settings (decode x) false old (lines_of (decode t.now))) (part_from p r)
    ∙ ap (λ (x : Resolved). settings (decode (drop r p)) false x (lines_of (decode t.now)))
    (by_test (root_at false (lines_of (decode t.now)))
    (λ y. all ∙ ap far (a.is ∙ choose_true _ _ _ y) ∙ resolved_none (map decode (bytes_of ts)) ∙ sym (choose_true _ _ _ y))
    (λ y. all ∙ ap far (a.is ∙ choose_false _ _ _ y) ∙ sym (choose_false _ _ _ y)))
    ∙ sym (resolved_cons (decode t.now) (map decode (bytes_of ts)) (decode (drop r p)) (map decode (rels_above p r)))
  where
    far : Rels → Resolved
    far x = resolved (map decode (bytes_of ts)) (map decode x)

    all : old ≡ far (rels_in p up)
    all =
        let e : suc (length ts) - 1 ≡ length ts = omega arith in
        o ∙ ap (λ (l : List Lent). resolved (map decode (bytes_of l)) (map decode (rels_in p up))) (ap (λ (n : ℕ). take n ts) e ∙ take-length ts)

-- ---- by characters

below_high : (bs s : List ℕ) → High bs → below_slashes (bs ++ s) ≡ below_slashes s
unfolding below_slashes choose
below_high bs s none = refl
below_high bs s (also {b = b} {bs = bs'} h hs) = rw (steady_is "/" refl b h) (append-nil (below_slashes (bs' ++ s)) ∙ below_high bs' s hs)

below_cons : (c : ℕ) (s : List ℕ) → below_slashes (c ∷ s) ≡ below_slashes s ++ choose (is "/" c) (s ∷ []) []
unfolding below_slashes
below_cons c s = refl

map_snoc : (f : List ℕ → List ℕ) (xs : Rels) (t : Bool) (s : List ℕ) → map f (xs ++ choose t (s ∷ []) []) ≡ map f xs ++ choose t (f s ∷ []) []
unfolding choose
map_snoc f [] true s = refl
map_snoc f [] false s = refl
map_snoc f (x ∷ xs) t s = ap (λ (l : Rels). f x ∷ l) (map_snoc f xs t s)

below_encode : (l : List ℕ) → below_slashes (encode l) ≡ map encode (below_slashes l)
unfolding encode
below_encode [] = below_none
  where
    below_none : below_slashes [] ≡ map encode (below_slashes [])
    below_none = unfold below_slashes in refl
below_encode (c ∷ cs) = go (encode_char c) (bytes c) (below_encode cs) ∙ sym (ap (map encode) (below_cons c cs) ∙ map_snoc encode (below_slashes cs) (is "/" c) cs)
  where
    go : (bs : List ℕ) → Bytes c bs → below_slashes (encode cs) ≡ map encode (below_slashes cs)
        → below_slashes (bs ++ encode cs) ≡ map encode (below_slashes cs) ++ choose (is "/" c) (encode cs ∷ []) []
    go bs (single h) i = below_cons c (encode cs) ∙ ap (λ (x : Rels). x ++ choose (is "/" c) (encode cs ∷ []) []) i
    go bs (several {b = b} {bs = bs'} hc hb hs) i =
        below_high (b ∷ bs') (encode cs) (also hb hs) ∙ i
        ∙ sym (ap (λ (x : Rels). map encode (below_slashes cs) ++ x) (choose_false _ _ _ (steady_is "/" refl c hc)) ∙ append-nil (map encode (below_slashes cs)))

snoc_scalars : (xs : Rels) (t : Bool) (s : List ℕ) → AllScalars xs → Scalars s → AllScalars (xs ++ choose t (s ∷ []) [])
unfolding choose
snoc_scalars [] true s a b = (b, tt)
snoc_scalars [] false s a b = tt
snoc_scalars (x ∷ xs) t s a b = (a.0, snoc_scalars xs t s a.1 b)

below_scalars : (l : List ℕ) → Scalars l → AllScalars (below_slashes l)
unfolding below_slashes
below_scalars [] s = tt
below_scalars (c ∷ l) s = snoc_scalars (below_slashes l) (is "/" c) l (below_scalars l s.1) s.1

map_one : (xs : Rels) (s : List ℕ) → map decode (xs ++ (s ∷ [])) ≡ map decode xs ++ (decode s ∷ [])
map_one [] s = refl
map_one (x ∷ xs) s = ap (λ (l : Rels). decode x ∷ l) (map_one xs s)

pub rels_decode : (p : List ℕ) → WellFormed p → map decode (below_slashes p ++ (p ∷ [])) ≡ below_slashes (decode p) ++ (decode p ∷ [])
rels_decode p w =
    map_one (below_slashes p) p
    ∙ ap (λ (l : Rels). l ++ (decode p ∷ []))
    (ap (map decode) (on_decode below_slashes (λ (l : List ℕ). map encode (below_slashes l)) below_encode p w)
    ∙ all_decode (below_slashes (decode p)) (below_scalars (decode p) (decode_scalars p)))

-- ---- the leading slash

decode_nil : decode [] ≡ []
unfolding chars
decode_nil = refl

first_of_law : (p : List ℕ) → 0 < length p → (q : ℕ → Bool) → first_is q p ≡ q (get_or p 0 0)
unfolding first_is
first_of_law [] h q = absurd (omega arith)
first_of_law (c ∷ p) h q = refl

first_slash : (path : List ℕ) → WellFormed path → first_is (is "/") path ≡ first_is (is "/") (decode path)
first_slash path w = on_decode (first_is (is "/")) (first_is (is "/")) (first_encode (is "/") false (steady_is "/" refl)) path w

module _ (path : List ℕ) (w : WellFormed path) where
  no_slash : first_is (is "/") path ≡ false → Unslashed path path
  no_slash n = record { well = w; is = sym (choose_false _ _ _ (sym (first_slash path w) ∙ n)) }

  pub slash_short : length path < 1 → Unslashed path path
  slash_short e = no_slash (none_first path e)
    where
      none_first : (p : List ℕ) → length p < 1 → first_is (is "/") p ≡ false
      none_first [] e = unfold first_is in refl
      none_first (c ∷ p) e = absurd (omega arith)

  module _ (h : 0 < length path) where
    pub slash_other : (get_or path 0 0 ≡ 47 → ⊥) → Unslashed path path
    slash_other n = no_slash (first_of_law path h (is "/") ∙ ne_eqb (get_or path 0 0) 47 n)

    pub slash_first : get_or path 0 0 ≡ 47 → Unslashed path (take (length path - 1) (drop 1 path))
    slash_first e =
        let q : AsciiCut path 0 = ascii_cut path 0 w h (omega (arith, e)) in
        let d : decode path ≡ get_or path 0 0 ∷ decode (drop 1 path) = q.text ∙ ap (λ (l : List ℕ). l ++ (get_or path 0 0 ∷ decode (drop 1 path))) decode_nil in
        rw (part_from path 1)
        (record {
          well = q.right;
          is =
              sym (choose_true _ _ _ (sym (first_slash path w) ∙ first_of_law path h (is "/") ∙ eq-eqb (get_or path 0 0) 47 e)
              ∙ ap (λ (l : List ℕ). drop 1 l) d);
        })

pub relatives_of : (path p : List ℕ) → Unslashed path p → relatives (decode path) ≡ below_slashes (decode p) ++ (decode p ∷ [])
unfolding relatives
relatives_of path p t = rw t.is
