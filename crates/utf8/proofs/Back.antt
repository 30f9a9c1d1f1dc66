-- Laws for a scan from the end: the last character before a place e, where the e bytes before it are well-formed.
--     Back, back      the last character takes r bytes
--     ends            there is a last character
--     end_bytes       its size is told by the last bytes
use Prim.Native.Nat.{ℕ, ◌+◌, ◌-◌, ◌/◌, ◌%◌, ◌<◌, ◌≤◌}
use mathlib.Core.List.{List, [], ◌∷◌, ◌++◌, append_assoc}
use mathlib.Core.Logic.{◌⊎◌, inl, inr, ⊎_elim}
use mathlib.Core.Path.{◌≡◌, refl, sym, ap, ◌∙◌, subst}
use native.Mathlib.Omega.{arith}
use lib.ListN.{length, get_or, take, drop, length-append, take-append-drop}
use lib.Seq.{take-take, take_at, drop_at, get_or-take, get_or-append-add, length-take-le}
use lib.Dec.{T}
use Rattle.utf8.specs.Unicode.{is_scalar, Scalars, encode_char, encode, size, decode, WellFormed}
use Rattle.utf8.specs.Places.{Back}
use Rattle.utf8.proofs.Table.{Shape, one, two, three, four, shape, Front, front}
use Rattle.utf8.proofs.Decode.{encode_append, encode_one, decode_encode, decode_scalars, scalars_left, scalars_right, wf_encode}

-- ---- the last character

pub snoc : (cs : List ℕ) → (cs ≡ []) ⊎ ((ds : List ℕ) × (c : ℕ) × (cs ≡ ds ++ (c ∷ [])))
snoc [] = inl refl
snoc (c ∷ cs) = ⊎_elim (λ e. inr ([], c, ap {B = List ℕ} (λ l. c ∷ l) e)) (λ r. inr (c ∷ r.0, r.1, ap {B = List ℕ} (λ l. c ∷ l) r.2)) (snoc cs)

pub record Ends (s : List ℕ) (e : ℕ) : Type 0 where
  pub init : List ℕ
  pub last : ℕ
  pub scalars : Scalars init
  pub scalar : T (is_scalar last)
  pub text : decode (take e s) ≡ init ++ (last ∷ [])
  pub bytes : take e s ≡ encode init ++ encode_char last
  pub long : size init + length (encode_char last) ≡ e

pub ends : (s : List ℕ) (e : ℕ) → 0 < e → e ≤ length s → WellFormed (take e s) → Ends s e
unfolding encode
ends s e h k w = go (snoc (decode (take e s)))
  where
    l : length (take e s) ≡ e
    l = length-take-le e s k

    go : (decode (take e s) ≡ []) ⊎ ((ds : List ℕ) × (c : ℕ) × (decode (take e s) ≡ ds ++ (c ∷ []))) → Ends s e
    go (inl n) = absurd (omega (arith, l, ap length (sym w ∙ ap encode n)))
    go (inr r) =
        let sc : Scalars (r.0 ++ (r.1 ∷ [])) = subst Scalars r.2 (decode_scalars (take e s)) in
        let b : take e s ≡ encode r.0 ++ encode_char r.1 = sym w ∙ ap encode r.2 ∙ encode_append r.0 (r.1 ∷ []) ∙ rw encode_one in
        record {
          init = r.0;
          last = r.1;
          scalars = scalars_left r.0 (r.1 ∷ []) sc;
          scalar = (scalars_right r.0 (r.1 ∷ []) sc).0;
          text = r.2;
          bytes = b;
          long = sym (length-append (encode r.0) (encode_char r.1)) ∙ sym (ap length b) ∙ l;
        }

module _ (s : List ℕ) (e : ℕ) (k : e ≤ length s) (q : Ends s e) where
  pub back : (r : ℕ) → r ≡ length (encode_char q.last) → Back s e r
  back r n =
      let m : e - r ≡ size q.init = omega (arith, q.long) in
      let t : take (e - r) s ≡ encode q.init =
      sym (take-take (e - r) e s (omega arith)) ∙ ap (take (e - r)) q.bytes ∙ take_at (encode q.init) (encode_char q.last) (e - r) (sym m) in
      let d : drop (e - r) s ≡ encode_char q.last ++ drop e s =
      ap (drop (e - r)) (sym (take-append-drop e s) ∙ ap {B = List ℕ} (λ l. l ++ drop e s) q.bytes ∙ append_assoc (encode q.init) (encode_char q.last) (drop e s))
      ∙ drop_at (encode q.init) (encode_char q.last ++ drop e s) (e - r) (sym m) in
      let f : Front q.last (drop e s) = front q.last (drop e s) q.scalar in
      record {
        some = omega (arith, f.some);
        fits = omega (arith, q.long);
        well = rw t (wf_encode q.init q.scalars);
        text = q.text ∙ rw (t, d, decode_encode q.init q.scalars, f.code);
      }

  -- the bytes of the last character, by their places in s
  pub end_byte : (j k : ℕ) → j + k ≡ length (encode_char q.last) → 0 < j → get_or s (e - j) 0 ≡ get_or (encode_char q.last) k 0
  end_byte j k h p =
      let m : e - j ≡ size q.init + k = omega (arith, q.long) in
      sym (get_or-take e s (e - j) 0 (omega (arith, q.long))) ∙ ap (λ (l : List ℕ). get_or l (e - j) 0) q.bytes ∙ rw m (get_or-append-add (encode q.init) (encode_char q.last) k 0)

-- ---- the size of the last character, by the bytes before e

pub data EndBytes (s : List ℕ) (e n : ℕ) : Type 0 where
  end_1 : n ≡ 1 → get_or s (e - 1) 0 < 0x80 → EndBytes s e n
  end_2 : n ≡ 2 → 2 ≤ e → 0x80 ≤ get_or s (e - 1) 0 → 0xC0 ≤ get_or s (e - 2) 0 → EndBytes s e n
  end_3 : n ≡ 3 → 3 ≤ e → 0x80 ≤ get_or s (e - 1) 0 → get_or s (e - 2) 0 < 0xC0 → 0xC0 ≤ get_or s (e - 3) 0 → EndBytes s e n
  end_4 : n ≡ 4 → 4 ≤ e → 0x80 ≤ get_or s (e - 1) 0 → get_or s (e - 2) 0 < 0xC0 → get_or s (e - 3) 0 < 0xC0 → EndBytes s e n

pub end_bytes : (s : List ℕ) (e : ℕ) → e ≤ length s → (q : Ends s e) → EndBytes s e (length (encode_char q.last))
end_bytes s e k q = go (shape q.last)
  where
    go : Shape q.last → EndBytes s e (length (encode_char q.last))
    go (one h b) =
        let n : length (encode_char q.last) ≡ 1 = ap length b in
        let y : get_or s (e - 1) 0 ≡ q.last = end_byte s e k q 1 0 (omega arith) (omega arith) ∙ rw b in
        end_1 n (omega arith)
    go (two h i b) =
        let n : length (encode_char q.last) ≡ 2 = ap length b in
        let y : get_or s (e - 1) 0 ≡ 0x80 + q.last % 64 = end_byte s e k q 1 1 (omega arith) (omega arith) ∙ rw b in
        let z : get_or s (e - 2) 0 ≡ 0xC0 + q.last / 64 = end_byte s e k q 2 0 (omega arith) (omega arith) ∙ rw b in
        end_2 n (omega (arith, q.long)) (omega arith) (omega arith)
    go (three h i b) =
        let n : length (encode_char q.last) ≡ 3 = ap length b in
        let y : get_or s (e - 1) 0 ≡ 0x80 + q.last % 64 = end_byte s e k q 1 2 (omega arith) (omega arith) ∙ rw b in
        let z : get_or s (e - 2) 0 ≡ 0x80 + q.last / 64 % 64 = end_byte s e k q 2 1 (omega arith) (omega arith) ∙ rw b in
        let x : get_or s (e - 3) 0 ≡ 0xE0 + q.last / 4096 = end_byte s e k q 3 0 (omega arith) (omega arith) ∙ rw b in
        end_3 n (omega (arith, q.long)) (omega arith) (omega arith) (omega arith)
    go (four h b) =
        let n : length (encode_char q.last) ≡ 4 = ap length b in
        let y : get_or s (e - 1) 0 ≡ 0x80 + q.last % 64 = end_byte s e k q 1 3 (omega arith) (omega arith) ∙ rw b in
        let z : get_or s (e - 2) 0 ≡ 0x80 + q.last / 64 % 64 = end_byte s e k q 2 2 (omega arith) (omega arith) ∙ rw b in
        let x : get_or s (e - 3) 0 ≡ 0x80 + q.last / 4096 % 64 = end_byte s e k q 3 1 (omega arith) (omega arith) ∙ rw b in
        end_4 n (omega (arith, q.long)) (omega arith) (omega arith) (omega arith)

-- what a test of one more byte back tells
module _ (s : List ℕ) (e n : ℕ) where
  is_1 : EndBytes s e n → get_or s (e - 1) 0 < 0x80 → 1 ≡ n
  is_1 (end_1 m a) h = omega arith
  is_1 (end_2 m f a b) h = omega arith
  is_1 (end_3 m f a b d) h = omega arith
  is_1 (end_4 m f a b d) h = omega arith

  over_1 : EndBytes s e n → 0x80 ≤ get_or s (e - 1) 0 → 2 ≤ e
  over_1 (end_1 m a) h = omega arith
  over_1 (end_2 m f a b) h = omega arith
  over_1 (end_3 m f a b d) h = omega arith
  over_1 (end_4 m f a b d) h = omega arith

  is_2 : EndBytes s e n → 0x80 ≤ get_or s (e - 1) 0 → 0xC0 ≤ get_or s (e - 2) 0 → 2 ≡ n
  is_2 (end_1 m a) h i = omega arith
  is_2 (end_2 m f a b) h i = omega arith
  is_2 (end_3 m f a b d) h i = omega arith
  is_2 (end_4 m f a b d) h i = omega arith

  over_2 : EndBytes s e n → 0x80 ≤ get_or s (e - 1) 0 → get_or s (e - 2) 0 < 0xC0 → 3 ≤ e
  over_2 (end_1 m a) h i = omega arith
  over_2 (end_2 m f a b) h i = omega arith
  over_2 (end_3 m f a b d) h i = omega arith
  over_2 (end_4 m f a b d) h i = omega arith

  is_3 : EndBytes s e n → 0x80 ≤ get_or s (e - 1) 0 → get_or s (e - 2) 0 < 0xC0 → 0xC0 ≤ get_or s (e - 3) 0 → 3 ≡ n
  is_3 (end_1 m a) h i j = omega arith
  is_3 (end_2 m f a b) h i j = omega arith
  is_3 (end_3 m f a b d) h i j = omega arith
  is_3 (end_4 m f a b d) h i j = omega arith

  is_4 : EndBytes s e n → 0x80 ≤ get_or s (e - 1) 0 → get_or s (e - 2) 0 < 0xC0 → get_or s (e - 3) 0 < 0xC0 → 4 ≡ n
  is_4 (end_1 m a) h i j = omega arith
  is_4 (end_2 m f a b) h i j = omega arith
  is_4 (end_3 m f a b d) h i j = omega arith
  is_4 (end_4 m f a b d) h i j = omega arith

module _ (s : List ℕ) (e : ℕ) (pre : (0 < e) × (e ≤ length s) × WellFormed (take e s)) where
  last_char : Ends s e
  last_char = ends s e pre.0 pre.1 pre.2

  last_bytes : EndBytes s e (length (encode_char last_char.last))
  last_bytes = end_bytes s e pre.1 last_char

  pub back_1 : get_or s (e - 1) 0 < 0x80 → Back s e 1
  back_1 h = back s e pre.1 last_char 1 (is_1 _ _ _ last_bytes h)

  pub beyond_1 : 0x80 ≤ get_or s (e - 1) 0 → 2 ≤ e
  beyond_1 h = over_1 _ _ _ last_bytes h

  pub back_2 : 0x80 ≤ get_or s (e - 1) 0 → 0xC0 ≤ get_or s (e - 2) 0 → Back s e 2
  back_2 h i = back s e pre.1 last_char 2 (is_2 _ _ _ last_bytes h i)

  pub beyond_2 : 0x80 ≤ get_or s (e - 1) 0 → get_or s (e - 2) 0 < 0xC0 → 3 ≤ e
  beyond_2 h i = over_2 _ _ _ last_bytes h i

  pub back_3 : 0x80 ≤ get_or s (e - 1) 0 → get_or s (e - 2) 0 < 0xC0 → 0xC0 ≤ get_or s (e - 3) 0 → Back s e 3
  back_3 h i j = back s e pre.1 last_char 3 (is_3 _ _ _ last_bytes h i j)

  pub back_4 : 0x80 ≤ get_or s (e - 1) 0 → get_or s (e - 2) 0 < 0xC0 → get_or s (e - 3) 0 < 0xC0 → Back s e 4
  back_4 h i j = back s e pre.1 last_char 4 (is_4 _ _ _ last_bytes h i j)
