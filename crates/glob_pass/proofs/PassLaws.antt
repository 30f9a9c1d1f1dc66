-- One pass: from the end of the name to its start, each place's value at s, and the stack of open braces.
use Prim.Native.Nat.{ℕ, suc, ◌+◌, ◌-◌, ◌≤◌, ◌<◌}
use mathlib.Core.Bool.{Bool, false}
use mathlib.Core.List.{List, ◌∷◌}
use mathlib.Core.Logic.{⊎_elim}
use mathlib.Core.Path.{◌≡◌, refl, sym, ap, ◌∙◌}
use native.Mathlib.Nat.{eq-or-lt_of_le}
use native.Mathlib.Omega.{arith}
use lib.ListN.{length, drop, get_or, set, length-set}
use lib.Seq.{get_or-set_same, get_or-set_other, drop-length, set-set, set-get_or}
use Rattle.rules.specs.Basics.{is_empty}
use Rattle.config_rules.specs.Name.{Item, Token}
use Rattle.config_rules.specs.Name.Token.{item, opens, comma, closes}
use Rattle.config_rules.specs.Globs.{Place, place_at, place_of}
use Rattle.glob_pass.specs.declared.Braces.{Braces}
use Rattle.glob_pass.specs.declared.kinds.Brace.{Brace}
use Rattle.glob_pass.specs.declared.kinds.Kind.{Kind}
use Rattle.glob_pass.specs.Kinds.{brace_of, held_at, held}
use Rattle.glob_pass.specs.Pass.{here_at, before, value_at, open_braces, seen, Turn, Braced, Valued, Given, Passed}
use Rattle.glob_pass.proofs.TokenLaws.{known, item_first, length_held, held_at_law}

pub record GoingAt (ts : List Token) (s : List ℕ) (p : ℕ) (v : List Bool) (prior : Bool) (b : Braces) (x : Bool) : Type 0 where
  pub turn : Turn (place_of (drop p ts)) s x (open_braces b)
  pub old : prior ≡ before (here_at ts p) s
  pub kept : (j : ℕ) → j < p → get_or v j false ≡ before (here_at ts j) s
  pub done : (j : ℕ) → p ≤ j → j ≤ length ts → get_or v j false ≡ here_at ts j s

pub record Going (ks : List Kind) (cs : List ℕ) (c : ℕ) (base : Bool) (hits olds : List Bool) (p : ℕ) (v : List Bool) (prior : Bool) (b : Braces) (x : Bool) : Type 0 where
  pub same : length ks ≡ length cs
  pub place : p ≤ length ks
  pub deep : b.depth + p ≤ length ks
  pub values : length ks < length v
  pub room : length ks < length b.sides
  pub at : (s : List ℕ) → Given (held ks cs) c base hits olds s → GoingAt (held ks cs) s p v prior b x

end_here : (ts : List Token) (s : List ℕ) → here_at ts (length ts) s ≡ is_empty s
unfolding place_of
end_here ts s = ap (λ (l : List Token). (place_of l).here s) (drop-length ts)

-- v with `base` at the end of the name, where `prior` was
start_at : (ts : List Token) (c : ℕ) (base prior : Bool) (hits v : List Bool) (b : Braces) (s : List ℕ) → b.depth ≡ 0 → length ts < length v
    → Given ts c base hits (set (set v (length ts) base) (length ts) prior) s
    → GoingAt ts s (length ts) (set v (length ts) base) prior b base
unfolding place_of seen
start_at ts c base prior hits v b s z h g =
    let u : List Bool = set v (length ts) base in
    let k : length u ≡ length v = length-set v (length ts) base in
    record {
      turn = record { here = g.last ∙ sym (end_here ts s); around = rw (z, drop-length) };
      old = sym (get_or-set_same u (length ts) prior false (omega arith)) ∙ g.without.at (length ts) (omega arith);
      kept = λ j k. sym (get_or-set_other u (length ts) j prior false (λ e. absurd (omega arith))) ∙ g.without.at j (omega arith);
      done = λ j k l.
          let e : j ≡ length ts = omega arith in
          ap (λ (i : ℕ). get_or u i false) e ∙ get_or-set_same v (length ts) base false h ∙ g.last ∙ sym (end_here ts s)
          ∙ ap (λ (i : ℕ). here_at ts i s) (sym e);
    }

pub going_start : (ks : List Kind) (cs : List ℕ) (c : ℕ) (base prior : Bool) (hits v : List Bool) (b : Braces) → length ks ≡ length cs
    → length ks < length v → length ks < length b.sides → b.depth ≡ 0
    → Going ks cs c base hits (set (set v (length ks) base) (length ks) prior) (length ks) (set v (length ks) base) prior b base
going_start ks cs c base prior hits v b e h hb z =
    record {
      same = e;
      place = omega arith;
      deep = omega arith;
      values = rw (length-set v (length ks) base) h;
      room = hb;
      at = λ s. rw (← length_held ks cs e) (start_at (held ks cs) c base prior hits v b s z (rw (length_held ks cs e) h));
    }

pub passed_set : (ts : List Token) (c : ℕ) (base : Bool) (hits v new : List Bool) (n : ℕ)
    → Passed ts c base hits (set (set v n base) n (get_or v n false)) new → Passed ts c base hits v new
passed_set ts c base hits v new n w =
    let e : set (set v n base) n (get_or v n false) ≡ v = set-set v n base (get_or v n false) ∙ set-get_or v n false in rw e at w

pub going_end : (ks : List Kind) (cs : List ℕ) (c : ℕ) (base : Bool) (hits olds : List Bool) (p : ℕ) (v : List Bool) (prior : Bool)
    (b : Braces) (x : Bool) → Going ks cs c base hits olds p v prior b x → p ≤ 0 → Passed (held ks cs) c base hits olds v
going_end ks cs c base hits olds p v prior b x w z =
    record {
      room = let h : length ks < length v = w.values in omega (arith, length_held ks cs w.same);
      is = λ s g. record { at = λ j h. (w.at s g).done j (omega arith) h };
    }

here_back : (ts : List Token) (q : ℕ) (t : Token) (r : List Token) → drop q ts ≡ t ∷ r → place_of (drop q ts) ≡ place_at t (place_of r)
unfolding place_of
here_back ts q t r e = ap place_of e

module _ (ks : List Kind) (cs : List ℕ) (c : ℕ) (base : Bool) (hits olds : List Bool) (q : ℕ) (v : List Bool) (prior : Bool) (b : Braces) (x : Bool)
    (w : Going ks cs c base hits olds (suc q) v prior b x) (k : Kind) where
  -- one place back: t stands there
  module _ (t : Token) (e : held_at (get_or ks q k) (drop q cs) ≡ t) (b' : Braces) (y : Bool) (n : b'.depth + q ≤ length ks)
      (hb : length ks < length b'.sides)
      (f : (s : List ℕ) → Given (held ks cs) c base hits olds s → Turn (place_at t (place_of (drop (suc q) (held ks cs)))) s y (open_braces b')) where
    token_at : drop q (held ks cs) ≡ t ∷ drop (suc q) (held ks cs)
    token_at =
        let b : suc q ≤ length ks = w.place in
        held_at_law ks cs q k w.same (omega arith) ∙ ap (λ (u : Token). u ∷ drop (suc q) (held ks cs)) e

    back_at : (s : List ℕ) → Given (held ks cs) c base hits olds s → GoingAt (held ks cs) s q (set v q y) (get_or v q false) b' y
    back_at s g =
        let m : GoingAt (held ks cs) s (suc q) v prior b x = w.at s g in
        let i : place_of (drop q (held ks cs)) ≡ place_at t (place_of (drop (suc q) (held ks cs))) = here_back (held ks cs) q t (drop (suc q) (held ks cs)) token_at in
        let z : y ≡ here_at (held ks cs) q s = (f s g).here ∙ ap (λ (p : Place). p.here s) (sym i) in
        let b : suc q ≤ length ks = w.place in
        let h : length ks < length v = w.values in
        record {
          turn = record { here = z; around = (f s g).around ∙ ap (λ (p : Place). seen s p.around) (sym i) };
          old = m.kept q (omega arith);
          kept = λ j n. get_or-set_other v q j y false (λ x. absurd (omega arith)) ∙ m.kept j (omega arith);
          done = λ j n l.
              ⊎_elim
              (λ (x : q ≡ j). ap (λ (i : ℕ). get_or (set v q y) i false) (sym x) ∙ get_or-set_same v q y false (omega arith) ∙ z
              ∙ ap (λ (i : ℕ). here_at (held ks cs) i s) x)
              (λ (x : suc q ≤ j). get_or-set_other v q j y false (λ y. absurd (omega arith)) ∙ m.done j x l)
              (eq-or-lt_of_le n);
        }

    going_back : Going ks cs c base hits olds q (set v q y) (get_or v q false) b' y
    going_back =
        record {
          same = w.same;
          place = let b : suc q ≤ length ks = w.place in omega arith;
          deep = n;
          values = rw (length-set v q y) w.values;
          room = hb;
          at = back_at;
        }

  brace_q : (r : Brace) → held_at (get_or ks q k) (drop q cs) ≡ brace_of r → (b' : Braces) (y : Bool) → Braced r b x b' y
      → Going ks cs c base hits olds q (set v q y) (get_or v q false) b' y
  brace_q r e b' y f =
      let dp : b.depth + suc q ≤ length ks = w.deep in
      let rd : b'.depth ≤ b.depth + 1 = f.deep in
      going_back (brace_of r) e b' y (omega arith)
      (rw f.room w.room)
      (λ s g. f.turn (place_of (drop (suc q) (held ks cs))) s (w.at s g).turn)

  plain_q : (i : Item) → held_at (get_or ks q k) (drop q cs) ≡ item i → (y : Bool)
      → y ≡ value_at i c (known x (get_or v q false) prior (get_or hits q false))
      → Going ks cs c base hits olds q (set v q y) (get_or v q false) b y
  unfolding place_at
  plain_q i h y f =
      let dp : b.depth + suc q ≤ length ks = w.deep in
      let P : Place = place_of (drop (suc q) (held ks cs)) in
      let b : suc q ≤ length ks = w.place in
      let ey : drop q (held ks cs) ≡ item i ∷ drop (suc q) (held ks cs) = held_at_law ks cs q k w.same (omega arith) ∙ ap (λ (u : Token). u ∷ drop (suc q) (held ks cs)) h in
      going_back (item i) h _ y (omega arith) w.room
      (λ s g.
      let m = w.at s g in
      let u : get_or v q false ≡ before (place_at (item i) P).here s =
      m.kept q (omega arith) ∙ ap (λ (p : Place). before p.here s) (here_back (held ks cs) q (item i) (drop (suc q) (held ks cs)) ey) in
      let n : value_at i c (known x (get_or v q false) prior (get_or hits q false))
      ≡ value_at i c (known (P.here s) (before (place_at (item i) P).here s) (before P.here s) (get_or hits q false)) =
      rw (m.turn.here, m.old, u) in
      record {
        here = f ∙ n ∙ sym (item_first i P.here s c (get_or hits q false) g.first
            (λ m n z. g.ranges.at q m n (drop (suc q) (held ks cs)) (ey ∙ ap (λ (j : Item). item j ∷ drop (suc q) (held ks cs)) z)));
        around = m.turn.around;
      })

  token_q : (t : Token) → held_at (get_or ks q k) (drop q cs) ≡ t → (b' : Braces) (y : Bool)
      → Valued t c (known x (get_or v q false) prior (get_or hits q false)) b b' y
      → Going ks cs c base hits olds q (set v q y) (get_or v q false) b' y
  unfolding brace_of
  token_q (item i) e b' y f = rw f.1 (plain_q i e y f.0)
  token_q opens e b' y f = brace_q Brace.Opens e b' y f
  token_q comma e b' y f = brace_q Brace.Comma e b' y f
  token_q closes e b' y f = brace_q Brace.Closes e b' y f

-- the same at p, of which the code goes to p - 1
module _ (ks : List Kind) (cs : List ℕ) (c : ℕ) (base : Bool) (hits olds : List Bool) (p : ℕ) (v : List Bool) (prior : Bool) (b : Braces) (x : Bool)
    (w : Going ks cs c base hits olds p v prior b x) (h : 0 < p) (k : Kind) where
  back : Going ks cs c base hits olds (suc (p - 1)) v prior b x
  back = let e : suc (p - 1) ≡ p = omega arith in rw e w

  pub going_token : (b' : Braces) (y : Bool)
      → Valued (held_at (get_or ks (p - 1) k) (drop (p - 1) cs)) c (known x (get_or v (p - 1) false) prior (get_or hits (p - 1) false)) b b' y
      → Going ks cs c base hits olds (p - 1) (set v (p - 1) y) (get_or v (p - 1) false) b' y
  going_token b' y f = token_q ks cs c base hits olds (p - 1) v prior b x back k _ refl b' y f
