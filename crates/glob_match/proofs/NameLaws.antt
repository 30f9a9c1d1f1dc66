-- A name: its characters, its slashes.
use Prim.Native.Nat.{ℕ, zero, suc, ◌+◌, ◌≤◌, ◌<◌}
use mathlib.Core.Bool.{Bool, true, false, not, ◌||◌, true≢false}
use mathlib.Core.List.{List, [], ◌∷◌, ◌++◌, append_assoc, append-nil}
use mathlib.Core.Path.{◌≡◌, refl, sym, ap, ◌∙◌}
use native.Mathlib.Numerals.{add-one}
use native.Mathlib.Omega.{arith}
use borrow.Author.Tests.{eq-eqb, ne_eqb}
use lib.ListN.{length, drop, take, get_or, set, length-set, length-append, replicate, length-replicate, drop_of_length-le}
use lib.Seq.{length-take-le, take-suc-set}
use Rattle.std.specs.List.{list_any, range_with_len}
use Rattle.utf8.specs.Unicode.{decode, WellFormed, code_at, chars}
use Rattle.utf8.specs.Places.{Step}
use Rattle.utf8.proofs.Tests.{by_test}
use Rattle.rules.specs.Basics.{choose, is, first_is}
use Rattle.rules.proofs.StartsBytes.{on_decode, first_encode, steady_is}
use Rattle.config_rules.specs.Name.{tokens_of}
use Rattle.config_rules.specs.Globs.{rooted, is_slash, has_slash, anchored, matches}
use Rattle.glob_pass.specs.Kinds.{range_in, held_at, held, kind_at}
use Rattle.glob_pass.specs.declared.kinds.Kind.{Kind}
use Rattle.glob_pass.proofs.TokenLaws.{length_held, held_at_law}
use Rattle.glob_name.specs.Read.{Spaced}
use Rattle.glob_match.specs.Match.{Decoded, first_place, matches_at, NameMatches}

-- ---- the first character

module _ (s : List ℕ) (w : WellFormed s) where
  first_decode : first_is (is "/") s ≡ first_is (is "/") (decode s)
  first_decode = on_decode (first_is (is "/")) (first_is (is "/")) (first_encode (is "/") false (steady_is "/" refl)) s w

  pub slash_none : length s < 1 → false ≡ first_is (is "/") (decode s)
  slash_none z = none s z ∙ first_decode
    where
      none : (s : List ℕ) → length s < 1 → false ≡ first_is (is "/") s
      none [] z = unfold first_is in refl
      none (c ∷ s) z = absurd (omega arith)

  pub slash_first : 1 ≤ length s → get_or s 0 0 ≡ 47 → true ≡ first_is (is "/") (decode s)
  slash_first h e = some s h e ∙ first_decode
    where
      some : (s : List ℕ) → 1 ≤ length s → get_or s 0 0 ≡ 47 → true ≡ first_is (is "/") s
      some [] h e = absurd (omega arith)
      some (c ∷ s) h e = unfold first_is in sym (eq-eqb c 47 e)

  pub slash_not : 1 ≤ length s → (get_or s 0 0 ≡ 47 → ⊥) → false ≡ first_is (is "/") (decode s)
  slash_not h n = other s h n ∙ first_decode
    where
      other : (s : List ℕ) → 1 ≤ length s → (get_or s 0 0 ≡ 47 → ⊥) → false ≡ first_is (is "/") s
      other [] h n = absurd (omega arith)
      other (c ∷ s) h n = unfold first_is in sym (ne_eqb c 47 n)

-- ---- the characters

pub record Decoding (name : List ℕ) (k : ℕ) (old : List ℕ) (i n : ℕ) (new : List ℕ) : Type 0 where
  pub bound : i ≤ length name
  pub well : WellFormed (drop i name)
  pub long : length new ≡ length old
  pub room : length old ≡ 1025
  pub fits : k + length (decode name) ≤ 1025
  pub done : List ℕ
  pub all : decode name ≡ done ++ decode (drop i name)
  pub end : n ≡ k + length done
  pub is : take n new ≡ take k old ++ done

pub decoding_start : (name : List ℕ) (k : ℕ) (old : List ℕ) → WellFormed name → k + length (decode name) ≤ 1025 → length old ≡ 1025 → Decoding name k old 0 k old
decoding_start name k old w f r =
    record { bound = omega arith; well = w; long = refl; room = r; fits = f; done = []; all = refl; end = omega arith; is = sym (append-nil (take k old)) }

module _ (name : List ℕ) (k : ℕ) (old : List ℕ) (i n : ℕ) (new : List ℕ) (w : Decoding name k old i n new) where
  pub decoding_end : length name ≤ i → Decoded name k old new n
  unfolding chars
  decoding_end z =
      let e : decode (drop i name) ≡ [] = ap decode (drop_of_length-le name {i = i} z) in
      let d : decode name ≡ w.done = w.all ∙ ap (λ (l : List ℕ). w.done ++ l) e ∙ append-nil w.done in
      record { long = w.long; end = w.end ∙ rw d; is = w.is ∙ rw d }

  sizes : (c m : ℕ) → Step name i m → length (decode name) ≡ length w.done + suc (length (decode (drop (i + m) name)))
  sizes c m S = ap length (w.all ∙ ap (λ (l : List ℕ). w.done ++ l) S.chars) ∙ length-append w.done (code_at (drop i name) ∷ decode (drop (i + m) name))

  pub decoding_more : (c m : ℕ) → c ≡ code_at (drop i name) → Step name i m → Decoding name k old (i + m) (n + 1) (set new n c)
  decoding_more c m q S =
      let f : k + length (decode name) ≤ 1025 = w.fits in
      let r : length old ≡ 1025 = w.room in
      let l : length new ≡ length old = w.long in
      let e : n ≡ k + length w.done = w.end in
      let h : n < length new = omega (arith, sizes c m S) in
      record {
        bound = S.fits;
        well = S.well w.well;
        long = length-set new n c ∙ w.long;
        room = r;
        fits = f;
        done = w.done ++ (code_at (drop i name) ∷ []);
        all = w.all ∙ ap (λ (l : List ℕ). w.done ++ l) S.chars ∙ sym (append_assoc w.done (code_at (drop i name) ∷ []) (decode (drop (i + m) name)));
        end = rw (length-append w.done (code_at (drop i name) ∷ [])) (omega arith);
        is =
            rw (add-one n, take-suc-set new n c h)
            (ap (λ (l : List ℕ). l ++ (c ∷ [])) w.is ∙ append_assoc (take k old) w.done (c ∷ [])
            ∙ ap (λ (x : ℕ). take k old ++ (w.done ++ (x ∷ []))) q);
      }

  pub decoding_room : (m : ℕ) → Step name i m → (n < 1025) × (n < length new)
  decoding_room m S =
      let f : k + length (decode name) ≤ 1025 = w.fits in
      let r : length old ≡ 1025 = w.room in
      let l : length new ≡ length old = w.long in
      (omega (arith, w.end, sizes 0 m S), omega (arith, w.end, sizes 0 m S))

-- ---- slashes

pub slash_no : (k : Kind) (s : List ℕ) → (k ≡ Kind.Plain → ⊥) → (k ≡ Kind.Escape → ⊥) → (k ≡ Kind.Ahead → ⊥) → false ≡ is_slash (held_at k s)
unfolding held_at is_slash range_in
slash_no Kind.Plain s x y z = absurd (x refl)
slash_no Kind.Covered s x y z = refl
slash_no Kind.One s x y z = refl
slash_no Kind.Star s x y z = refl
slash_no Kind.Stars s x y z = refl
slash_no Kind.Set s x y z = refl
slash_no Kind.Range s x y z = refl
slash_no Kind.Escape s x y z = absurd (y refl)
slash_no Kind.Ahead s x y z = absurd (z refl)
slash_no Kind.LoneCloses s x y z = refl
slash_no Kind.LoneComma s x y z = refl
slash_no Kind.LoneOpens s x y z = refl
slash_no Kind.Closes s x y z = refl
slash_no Kind.Comma s x y z = refl
slash_no Kind.Opens s x y z = refl

abbrev pub slash_in : List Kind → List ℕ → ℕ → Bool
slash_in ks cs i = is_slash (held_at (kind_at ks i) (drop i cs))

-- the slashes among the n tokens from i on, which are the last
pub slash_among : (ks : List Kind) (cs : List ℕ) → length ks ≡ length cs → (i n : ℕ) → i + n ≡ length ks
    → list_any (slash_in ks cs) (range_with_len i n) ≡ has_slash (drop i (held ks cs))
unfolding has_slash
slash_among ks cs e i zero h =
    sym (ap has_slash (drop_of_length-le (held ks cs) {i = i} (rw (length_held ks cs e) (omega (arith, h)))))
slash_among ks cs e i (suc n) h =
    ap (λ (b : Bool). slash_in ks cs i || b) (slash_among ks cs e (i + 1) n (omega (arith, h)))
    ∙ sym (rw (add-one i) (ap has_slash (held_at_law ks cs i Kind.Plain e (omega (arith, h)))))

-- ---- the whole

pub rooted_is : (name old new : List ℕ) (k n : ℕ) (b : Bool) → b ≡ first_is (is "/") (decode name) → (k ≡ first_place b) × (k ≤ 1)
    → Decoded name k (set old 0 47) new n → 0 < length old → take n new ≡ rooted (decode name)
unfolding rooted first_place choose
rooted_is name old new k n b e f d h =
    by_test b
    (λ t. rw (← e, t) (d.is ∙ rw (f.0, t)))
    (λ t. rw (← e, t) (d.is ∙ rw (f.0, t, first_one old h)))
  where
    first_one : (old : List ℕ) → 0 < length old → take 1 (set old 0 47) ≡ 47 ∷ []
    first_one [] h = absurd (omega arith)
    first_one (x ∷ old) h = refl

pub glob_is : (name path cs : List ℕ) (ks : List Kind) (b own r : Bool) → cs ≡ rooted name → b ≡ first_is (is "/") name → held ks cs ≡ tokens_of cs
    → own ≡ has_slash (drop 1 (held ks cs)) → r ≡ matches_at (held ks cs) (not (b || own)) (47 ∷ path) → r ≡ matches name path
unfolding matches_at matches anchored
glob_is name path cs ks b own r e f g h q =
    q ∙ rw (h, f, g, e)
    (by_test (first_is (is "/") name || has_slash (drop 1 (tokens_of (rooted name))))
    (λ t. rw t (unfold choose in refl))
    (λ t. rw t (unfold choose in refl)))

pub name_is : (path cs : List ℕ) (ks : List Kind) (b own r : Bool) → (length ks ≡ length cs) × (held ks cs ≡ tokens_of cs) × Spaced cs ks
    → own ≡ has_slash (drop 1 (held ks cs)) → r ≡ matches_at (held ks cs) (not (b || own)) (47 ∷ path) → NameMatches cs b path r
name_is path cs ks b own r w h q = record { is = λ name e f. glob_is name path cs ks b own r e f w.1 h q }

-- there is a character, and there is room
pub decoded_room : (name old new : List ℕ) (k n : ℕ) (b : Bool) → b ≡ first_is (is "/") (decode name) → (k ≡ first_place b) × (k ≤ 1) → length (decode name) ≤ 1024
    → Decoded name k (set old 0 47) new n → (n ≤ 1025) × (0 < n)
unfolding first_place choose
decoded_room name old new k n b e f h d =
    let a : n ≡ k + length (decode name) = d.end in (
      omega (arith, f.1),
      by_test b
          (λ t. let p : 0 < length (decode name) = some (decode name) (sym e ∙ t) in omega arith)
          (λ t. let p : k ≡ 1 = f.0 ∙ rw t in omega arith),
    )
  where
    some : (l : List ℕ) → first_is (is "/") l ≡ true → 0 < length l
    some [] q = absurd (true≢false (sym q ∙ (unfold first_is in refl)))
    some (c ∷ l) q = omega arith

pub slices : (name new : List ℕ) (k n : ℕ) (b : Bool) → b ≡ first_is (is "/") (decode name) → (k ≡ first_place b) × (k ≤ 1) → length (decode name) ≤ 1024
    → Decoded name k (set (replicate 1025 0) 0 47) new n
    → (n ≡ length (take n new)) × (n ≡ length (take {A = Kind} n (replicate 1025 Kind.Plain))) × (n < 1026) × (0 < n)
slices name new k n b e f h d =
    let r : (n ≤ 1025) × (0 < n) = decoded_room name (replicate 1025 0) new k n b e f h d in
    let z : length {A = ℕ} (replicate 1025 0) ≡ 1025 = length-replicate {A = ℕ} 1025 0 in
    let l : length new ≡ length {A = ℕ} (replicate 1025 0) = d.long ∙ length-set {A = ℕ} (replicate 1025 0) 0 47 in
    (sym (length-take-le n new (omega (arith, r.0))), sym (length-take-le n (replicate 1025 Kind.Plain) (let y : length {A = Kind} (replicate 1025 Kind.Plain) ≡ 1025 = length-replicate {A = Kind} 1025 Kind.Plain in omega (arith, r.0))), omega (arith, r.0), r.1)

pub rooted_are : (name new : List ℕ) (k n : ℕ) (b : Bool) → b ≡ first_is (is "/") (decode name) → (k ≡ first_place b) × (k ≤ 1)
    → Decoded name k (set (replicate 1025 0) 0 47) new n → take n new ≡ rooted (decode name)
rooted_are name new k n b e f d =
    rooted_is name (replicate 1025 0) new k n b e f d (let z : length {A = ℕ} (replicate 1025 0) ≡ 1025 = length-replicate {A = ℕ} 1025 0 in omega arith)
