-- The loop over the characters of a name.
use Prim.Native.Nat.{ℕ, zero, suc, ◌+◌, ◌-◌, ◌≤◌, ◌<◌}
use mathlib.Core.Bool.{Bool, true, false}
use mathlib.Core.List.{List, [], ◌∷◌, ◌++◌, append_assoc, append-nil}
use mathlib.Core.Logic.{◌⊎◌, inl, inr, ⊎_elim}
use mathlib.Core.Path.{◌≡◌, refl, sym, ap, ◌∙◌}
use native.Mathlib.Numerals.{add-one}
use native.Mathlib.Omega.{arith}
use lib.ListN.{length, drop, take, get_or, set, length-set, length-take, drop_of_length-le, get_or-eq_default}
use lib.Seq.{drop-cons, take-suc-set, get_or-set_same, get_or-set_other, take-length}
use Rattle.utf8.proofs.Tests.{split}
use Rattle.rules.specs.Basics.{choose}
use Rattle.config_rules.specs.Name.{Token, Reading, tokens}
use Rattle.glob_pass.specs.Kinds.{held_at, held, kind_at}
use Rattle.glob_pass.specs.declared.kinds.Kind.{Kind}
use Rattle.glob_name.specs.declared.read.Read.{Read}
use Rattle.glob_name.specs.Read.{range_more, is_raw, TokenRead, RawKinds}

abbrev plain_kind : Kind
plain_kind = Kind.Plain

abbrev covered_kind : Kind
covered_kind = Kind.Covered

abbrev range_kind : Kind
range_kind = Kind.Range

plain_range : plain_kind ≡ range_kind → ⊥
plain_range e = cc

covered_range : covered_kind ≡ range_kind → ⊥
covered_range e = cc

held_snoc : (l : List Kind) (k : Kind) (cs : List ℕ) → length l < length cs → held (l ++ (k ∷ [])) cs ≡ held l cs ++ (held_at k (drop (length l) cs) ∷ [])
unfolding held
held_snoc l k [] h = absurd (omega arith)
held_snoc [] k (c ∷ cs) h = refl
held_snoc (x ∷ l) k (c ∷ cs) h = ap (λ (r : List Token). held_at x (c ∷ cs) ∷ r) (held_snoc l k cs (omega arith))

pub record Scanning (cs : List ℕ) (i more : ℕ) (deep : Bool) (kinds : List Kind) : Type 0 where
  pub place : i ≤ length cs
  pub long : length kinds ≡ length cs
  pub raw : (j : ℕ) → j < i → is_raw (kind_at kinds j) ≡ true
  pub some : (j : ℕ) → j < i → kind_at kinds j ≡ range_kind → 0 < range_more cs (j + 1)
  pub parts : (j : ℕ) → j < i → kind_at kinds j ≡ range_kind → (q : ℕ) → j < q → q ≤ j + range_more cs (j + 1) → q < i → kind_at kinds q ≡ covered_kind
  pub covered : (j : ℕ) → j < i → kind_at kinds j ≡ range_kind → j + range_more cs (j + 1) < i + more
  pub is : held (take i kinds) cs ++ tokens more deep (drop i cs) ≡ tokens 0 false cs

pub scanning_start : (cs : List ℕ) (kinds : List Kind) → length kinds ≡ length cs → Scanning cs 0 0 false kinds
unfolding held
scanning_start cs kinds e = record { place = omega arith; long = e; raw = λ j h. absurd (omega arith); some = λ j h. absurd (omega arith); parts = λ j h. absurd (omega arith); covered = λ j h. absurd (omega arith); is = refl }

module _ (cs : List ℕ) (i more : ℕ) (deep : Bool) (kinds : List Kind) (w : Scanning cs i more deep kinds) where
  pub scanning_end : length cs ≤ i → RawKinds cs kinds
  unfolding tokens
  scanning_end h =
      let l : length kinds ≡ length cs = w.long in
      let p : i ≤ length cs = w.place in
      let e : i ≡ length kinds = omega arith in
      let n : drop i cs ≡ [] = drop_of_length-le cs {i = i} h in
      let nine : (j : ℕ) → kind_at kinds j ≡ range_kind → j < i =
      λ j x. ⊎_elim (λ (a : j < i). a) (λ (a : i ≤ j). let z : kind_at kinds j ≡ plain_kind = get_or-eq_default kinds plain_kind (omega arith) in absurd (plain_range (sym z ∙ x))) (split j i) in
      record {
        long = w.long;
        raw = record {
          at = λ j.
              ⊎_elim (λ (a : j < length kinds). w.raw j (omega arith))
              (λ (a : length kinds ≤ j). let z : kind_at kinds j ≡ plain_kind = get_or-eq_default kinds plain_kind a in ap is_raw z) (split j (length kinds));
        };
        spaced =
            record {
              some = λ j x. w.some j (nine j x) x;
              parts = λ j x q a b d. w.parts j (nine j x) x q a b (omega arith);
            };
        is =
            sym (append-nil (held kinds cs))
            ∙ ap (λ (k : List Kind). held k cs ++ []) (sym (take-length kinds) ∙ ap (λ (j : ℕ). take j kinds) (sym e))
            ∙ sym (ap (λ (k : List ℕ). held (take i kinds) cs ++ tokens more deep k) n) ∙ w.is;
      }

  scanning_on : i < length cs → (k : Kind) (m : ℕ) (d : Bool) → is_raw k ≡ true → (k ≡ range_kind → (m ≡ range_more cs (i + 1)) × (0 < m)) → i + more ≤ i + 1 + m → (more ≤ 0) ⊎ (k ≡ covered_kind)
      → held_at k (drop i cs) ∷ tokens m d (drop (suc i) cs) ≡ tokens more deep (drop i cs) → Scanning cs (i + 1) m d (set kinds i k)
  scanning_on h k m d r sp mo pt e =
      let l : length kinds ≡ length cs = w.long in
      let t : length (take i kinds) ≡ i = simp length-take (omega arith) in
      record {
        place = omega arith;
        long = length-set kinds i k ∙ w.long;
        raw = λ j a.
            ⊎_elim (λ (b : j < i). rw (get_or-set_other kinds i j k plain_kind (λ q. absurd (omega arith))) (w.raw j b))
            (λ (b : i ≤ j). let z : j ≡ i = omega arith in rw (z, get_or-set_same kinds i k plain_kind (omega arith)) r) (split j i);
        some = λ j a x.
            ⊎_elim (λ (b : j < i). w.some j b (sym (get_or-set_other kinds i j k plain_kind (λ q. absurd (omega arith))) ∙ x))
            (λ (b : i ≤ j).
            let z : j ≡ i = omega arith in
            let y : k ≡ range_kind = sym (get_or-set_same kinds i k plain_kind (omega arith)) ∙ ap (λ (n : ℕ). kind_at (set kinds i k) n) (sym z) ∙ x in
            rw z (omega (arith, (sp y).0, (sp y).1))) (split j i);
        parts = λ j a x q b u v.
            ⊎_elim
            (λ (t : j < i).
            let x' : kind_at kinds j ≡ range_kind = sym (get_or-set_other kinds i j k plain_kind (λ n. absurd (omega arith))) ∙ x in
            let cv : j + range_more cs (j + 1) < i + more = w.covered j t x' in
            ⊎_elim (λ (y : q < i). get_or-set_other kinds i q k plain_kind (λ n. absurd (omega arith)) ∙ w.parts j t x' q b u y)
            (λ (y : i ≤ q).
            let z : q ≡ i = omega arith in
            ⊎_elim (λ (n : more ≤ 0). absurd (omega arith)) (λ (n : k ≡ covered_kind). rw (z, get_or-set_same kinds i k plain_kind (omega arith)) n) pt) (split q i))
            (λ (t : i ≤ j). absurd (omega arith)) (split j i);
        covered = λ j a x.
            ⊎_elim
            (λ (t : j < i).
            let x' : kind_at kinds j ≡ range_kind = sym (get_or-set_other kinds i j k plain_kind (λ n. absurd (omega arith))) ∙ x in
            let cv : j + range_more cs (j + 1) < i + more = w.covered j t x' in omega arith)
            (λ (t : i ≤ j).
            let z : j ≡ i = omega arith in
            let y : k ≡ range_kind = sym (get_or-set_same kinds i k plain_kind (omega arith)) ∙ ap (λ (n : ℕ). kind_at (set kinds i k) n) (sym z) ∙ x in
            rw z (omega (arith, (sp y).0))) (split j i);
        is =
            rw (add-one i, take-suc-set kinds i k (omega arith))
            (ap (λ (x : List Token). x ++ tokens m d (drop (suc i) cs))
            (held_snoc (take i kinds) k cs (omega arith) ∙ ap (λ (n : ℕ). held (take i kinds) cs ++ (held_at k (drop n cs) ∷ [])) t)
            ∙ append_assoc (held (take i kinds) cs) (held_at k (drop i cs) ∷ []) (tokens m d (drop (suc i) cs))
            ∙ ap (λ (x : List Token). held (take i kinds) cs ++ x) e ∙ w.is);
      }

  pub scanning_part : i < length cs → 0 < more → Scanning cs (i + 1) (more - 1) deep (set kinds i covered_kind)
  scanning_part h a = scanning_on h covered_kind (more - 1) deep refl (λ q. absurd (covered_range q)) (omega arith) (inr refl) (part_is more a)
    where
      part_is : (n : ℕ) → 0 < n → held_at covered_kind (drop i cs) ∷ tokens (n - 1) deep (drop (suc i) cs) ≡ tokens n deep (drop i cs)
      part_is zero b = absurd (omega arith)
      part_is (suc n) b =
          unfold tokens in unfold held_at in unfold choose in
          let e : suc n - 1 ≡ n = omega arith in rw (e, drop-cons cs i 0 h)

  pub scanning_token : i < length cs → more ≤ 0 → (r : Read) → TokenRead cs i deep r → Scanning cs (i + 1) r.more r.deep (set kinds i r.kind)
  unfolding tokens
  scanning_token h z r t =
      let e : more ≡ 0 = omega arith in
      let d : drop i cs ≡ get_or cs i 0 ∷ drop (i + 1) cs = drop-cons cs i 0 h ∙ ap (λ (j : ℕ). get_or cs i 0 ∷ drop j cs) (sym (add-one i)) in
      scanning_on h r.kind r.more r.deep t.good.raw t.good.spans (omega arith) (inl z)
      (rw (e, d, ← add-one i) (ap (λ (x : Reading). x.token ∷ tokens x.more x.deep (drop (i + 1) cs)) t.is))
