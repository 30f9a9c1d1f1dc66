-- What is open after a line is open after the respaced line. The text so far and the rest of the source are read like
-- the source, at every step.
--     Comma         behind the text so far, without the blanks at its end, a comma leaves code
--     Ready, Escaped, Settled     what holds before the next character, by what was read last
--     carry_respaced    the law
use Prim.Native.Nat.{ℕ, zero, suc}
use native.Mathlib.Omega.{arith}
use mathlib.Core.Bool.{Bool, true, false, ◌||◌}
use mathlib.Core.List.{List, [], ◌∷◌, ◌++◌, foldl}
use mathlib.Core.Path.{◌≡◌, refl, sym, ap, ◌∙◌, subst}
use borrow.Author.Tests.{eqb-true}
use Rattle.utf8.proofs.Tests.{by_test, and_right}
use Rattle.rules.specs.Basics.{choose, is, codes, is_blank}
use Rattle.rules.specs.Scan.{one, long, in_code, mark_at, ordinary, next_of, next, cell, scan, final, begin, open_after, classify, carry_after, is_code}
use Rattle.rules.specs.Spacing.{Spaced, spaced, cons_blank, trim_blanks, put_plain, put_after_comma, put_at, space_step, normalize_spacing, respaced}
use Rattle.rules.specs.Prefabs.{in_code_mode}
use Rattle.rules.specs.declared.Class.{Class}
use Rattle.rules.specs.declared.Carry.{Carry}
use Rattle.rules.specs.declared.Gap.{Gap}
use Rattle.rules.specs.declared.Mode.{Mode}
use Rattle.rules.specs.declared.Mark.{Mark}
use Rattle.rules.proofs.Choose.{choose_case}
use Rattle.rules.proofs.SpacingLaws.{blank_white}
use Rattle.rules.proofs.Prefix.{never}
use Rattle.quoted.proofs.Marks.{code_class}
use Rattle.quoted.proofs.Separators.{Sep, sep_white, sep_comma, mark_sep, next_code}
use Rattle.quoted.proofs.Endings.{CodeMark, IfCode, code_mark, NotBlank, Ending, ending_code, ending_next}
use Rattle.quoted.proofs.SpacedStrings.{firm_at}
use Rattle.quoted.proofs.Through.{through, through_nil, through_snoc, through_sep}

abbrev B : Mark
B = begin Carry.Code

comma_sep : Sep 44
comma_sep = sep_comma 44 refl

blank_sep : (c : ℕ) → is_blank c ≡ true → Sep c
blank_sep c h = sep_white c (blank_white c h)

-- ---- blanks at the end of the text so far

trim_more : (o : List ℕ) (c : ℕ) → is_blank c ≡ true → trim_blanks (o ++ (c ∷ [])) ≡ trim_blanks o
unfolding trim_blanks cons_blank choose
trim_more [] c h = rw h
trim_more (x ∷ o) c h = ap (cons_blank x) (trim_more o c h)

trim_none : (o : List ℕ) (c : ℕ) → is_blank c ≡ false → trim_blanks (o ++ (c ∷ [])) ≡ o ++ (c ∷ [])
unfolding trim_blanks
trim_none o c h = firm_at o c [] h

record Comma (o : List ℕ) : Type 0 where
  after : (r : List ℕ) → through B (trim_blanks o ++ (44 ∷ [])) r ≡ B

-- behind p, which a separator follows now
comma_at : (o p : List ℕ) (m : Mark) (d : ℕ) (r : List ℕ) → Sep d → through B p (d ∷ r) ≡ m → trim_blanks o ≡ p
    → ((l : List ℕ) → next m (44 ∷ l) ≡ B) → Comma o
comma_at o p m d r sep e f n =
    record {
      after = λ l.
          ap (λ (k : List ℕ). through B (k ++ (44 ∷ [])) l) f ∙ through_snoc B p 44 l
          ∙ ap (λ (u : Mark). next u (44 ∷ l)) (through_sep 44 comma_sep B p l ∙ sym (through_sep d sep B p r) ∙ e)
          ∙ n l;
    }

comma_blank : (o : List ℕ) (c : ℕ) → is_blank c ≡ true → Comma o → Comma (o ++ (c ∷ []))
comma_blank o c h k =
    record { after = λ r. ap (λ (l : List ℕ). through B (l ++ (44 ∷ [])) r) (trim_more o c h) ∙ k.after r }

-- ---- what holds before s, where m is the source's mark

record Ready (o : List ℕ) (m : Mark) (s : List ℕ) : Type 0 where
  sync : through B o s ≡ m
  free : is_code m.class ≡ true → m.more ≡ 0
  comma : (d : ℕ) (r : List ℕ) → s ≡ d ∷ r → Sep d → m.more ≡ 0 → m.mode ≡ Mode.Code → Comma o
  ending : Ending s m

record Escaped (o : List ℕ) (m : Mark) (s : List ℕ) : Type 0 where
  sync : through B o s ≡ m
  mark : m ≡ long 1 Class.Code Mode.Code
  firm : trim_blanks o ≡ o

record Settled (o : List ℕ) (m : Mark) : Type 0 where
  sync : (r : List ℕ) → through B o r ≡ B
  mark : m ≡ B
  comma : Comma o

Inv : Gap → List ℕ → Mark → List ℕ → Type 0
Inv Gap.Nothing o m s = Ready o m s
Inv Gap.Escape o m s = Escaped o m s
Inv Gap.Comma o m s = Settled o m
Inv Gap.Space o m s = Settled o m

State : Mark → List ℕ → Spaced → Type 0
State m s t = Inv t.gap t.out m s

ready : (o : List ℕ) (m : Mark) (s : List ℕ) → Settled o m → Ready o m s
ready o m s h =
    record {
      sync = h.sync s ∙ sym h.mark;
      free = λ e. ap (λ (u : Mark). u.more) h.mark;
      comma = λ d r e p n k. h.comma;
      ending = subst (Ending s) (sym h.mark) (ending_code s 0 Mode.Code);
    }

grown : (o : List ℕ) (m : Mark) (c : ℕ) (s : List ℕ) → through B o (c ∷ s) ≡ m
    → through B (o ++ (c ∷ [])) s ≡ next m (c ∷ s)
grown o m c s e = through_snoc B o c s ∙ ap (λ (u : Mark). next u (c ∷ s)) e

-- a character that is no blank
comma_solid : (o : List ℕ) (m : Mark) (c : ℕ) (s : List ℕ) → through B (o ++ (c ∷ [])) s ≡ m → is_blank c ≡ false
    → (d : ℕ) (r : List ℕ) → s ≡ d ∷ r → Sep d → m.more ≡ 0 → m.mode ≡ Mode.Code → Comma (o ++ (c ∷ []))
comma_solid o m c s e h d r q sep n k =
    comma_at (o ++ (c ∷ [])) (o ++ (c ∷ [])) m d r sep (ap (through B (o ++ (c ∷ []))) (sym q) ∙ e) (trim_none o c h)
    (λ l. next_code 44 comma_sep m l n k)

-- where a mark of class code follows, the mode is code, and nothing is left of the mark before
record CodeNow (n : ℕ) (mo : Mode) : Type 0 where
  done : n ≡ 0
  code : mo ≡ Mode.Code

code_now : (n : ℕ) (k : Class) (mo : Mode) (s : List ℕ) → (is_code k ≡ true → n ≡ 0)
    → is_code (next_of n k mo s).class ≡ true → CodeNow n mo
code_now zero k mo s f h = record { done = refl; code = code_class mo s h }
code_now (suc n) k mo s f h = absurd (let z : suc n ≡ 0 = f h in omega arith)

-- where a character is not code and leaves code, it is no blank
left_solid : (n : ℕ) (k : Class) (mo : Mode) (c : ℕ) (s : List ℕ) → Ending (c ∷ s) (long n k mo)
    → is_code (next_of n k mo (c ∷ s)).class ≡ false
    → (next_of n k mo (c ∷ s)).mode ≡ Mode.Code → is_blank c ≡ false
unfolding NotBlank
left_solid (suc n) k mo c s e h m = (e.not_blank (ap in_code_mode m) h).0
left_solid zero k mo c s e h m =
    by_test (is_blank c)
    (λ b. let u : mark_at mo (c ∷ s) ≡ one (ordinary mo) mo = mark_sep c (blank_sep c b) mo s in
    let z : mo ≡ Mode.Code = sym (ap (λ (v : Mark). v.mode) u) ∙ m in
    never (ap (λ (j : Mode). is_code (ordinary j)) z) (sym (ap (λ (v : Mark). is_code v.class) u) ∙ h))
    (λ b. b)

module _ (o : List ℕ) (m : Mark) (c : ℕ) (s : List ℕ) (h : Ready o m (c ∷ s)) where
  -- a character that is added, after which nothing special is known
  plain_ready : (is_code (next m (c ∷ s)).class ≡ true → (next m (c ∷ s)).more ≡ 0)
      → ((d : ℕ) (r : List ℕ) → s ≡ d ∷ r → Sep d → (next m (c ∷ s)).more ≡ 0 → (next m (c ∷ s)).mode ≡ Mode.Code
      → Comma (o ++ (c ∷ [])))
      → Ready (o ++ (c ∷ [])) (next m (c ∷ s)) s
  plain_ready f k =
      record { sync = grown o m c s h.sync; free = f; comma = k; ending = ending_next m c s h.ending }

  plain_other : is_code (next m (c ∷ s)).class ≡ false → Ready (o ++ (c ∷ [])) (next m (c ∷ s)) s
  plain_other e =
      plain_ready (λ k. never k e)
      (λ d r q sep n k. comma_solid o (next m (c ∷ s)) c s (grown o m c s h.sync)
      (left_solid m.more m.class m.mode c s h.ending e k) d r q sep n k)

  module _ (e : is_code (next m (c ∷ s)).class ≡ true) where
    now : CodeNow m.more m.mode
    now = code_now m.more m.class m.mode (c ∷ s) h.free e

    as_code : next m (c ∷ s) ≡ in_code (c ∷ s)
    as_code = rw (now.done, now.code)

    marked : CodeMark c (next m (c ∷ s))
    unfolding IfCode
    marked = rw as_code (code_mark c s (sym (ap (λ (u : Mark). is_code u.class) as_code) ∙ e))

    comma_here : Sep c → Comma o
    comma_here sep = h.comma c s refl sep now.done now.code

    code_escape : is "\\" c ≡ true → Escaped (o ++ (c ∷ [])) (next m (c ∷ s)) s
    code_escape i =
        record {
          sync = grown o m c s h.sync;
          mark = marked.escape i;
          firm = trim_none o c
              (ap is_blank (eqb-true c 92 i));
        }

    code_comma : is "\\" c ≡ false → is "," c ≡ true → Settled (trim_blanks o ++ (c ∷ [])) (next m (c ∷ s))
    code_comma i j =
        let z : c ≡ 44 = eqb-true c 44 j in
        let k : Comma o = comma_here (sep_comma c z) in
        let p : List ℕ = trim_blanks o ++ (c ∷ []) in
        let settled : (r : List ℕ) → through B p r ≡ B =
        λ r. ap (λ (d : ℕ). through B (trim_blanks o ++ (d ∷ [])) r) z ∙ k.after r in
        record {
          sync = settled;
          mark = marked.other i;
          comma =
              comma_at p p B 44 [] comma_sep (settled (44 ∷ [])) (trim_none (trim_blanks o) c (ap is_blank z))
              (λ l. next_code 44 comma_sep B l refl refl);
        }

    code_space : is "\\" c ≡ false → is " " c ≡ true → Settled (o ++ (c ∷ [])) (next m (c ∷ s))
    code_space i j =
        let b : is_blank c ≡ true = ap (λ (t : Bool). t || is "\t" c) j in
        let sep : Sep c = blank_sep c b in
        record {
          sync = λ r.
              through_snoc B o c r
              ∙ ap (λ (u : Mark). next u (c ∷ r)) (through_sep c sep B o r ∙ sym (through_sep c sep B o s) ∙ h.sync)
              ∙ next_code c sep m r now.done now.code;
          mark = marked.other i;
          comma = comma_blank o c b (comma_here sep);
        }

    code_plain : is "\\" c ≡ false → Ready (o ++ (c ∷ [])) (next m (c ∷ s)) s
    code_plain i =
        plain_ready (λ k. ap (λ (u : Mark). u.more) (marked.other i))
        (λ d r q sep n k. by_test (is_blank c) (λ b. comma_blank o c b (comma_here (blank_sep c b)))
        (λ b. comma_solid o (next m (c ∷ s)) c s (grown o m c s h.sync) b d r q sep n k))

  state_plain : State (next m (c ∷ s)) s (put_plain o (cell c (next m (c ∷ s)).class))
  unfolding put_plain State Inv
  state_plain =
      let P : Spaced → Type 0 = λ t. Inv t.gap t.out (next m (c ∷ s)) s in
      choose_case P
      (λ e. choose_case P (λ i. code_escape e i)
      (λ i. choose_case P (λ j. code_comma e i j)
      (λ j. choose_case P (λ k. code_space e i k) (λ k. code_plain e i))))
      (λ e. plain_other e)

-- a blank that is left out, and a space that is put in
settled_skip : (o : List ℕ) (m : Mark) (c : ℕ) (s : List ℕ) → Settled o m → is_blank c ≡ true
    → Settled o (next m (c ∷ s))
settled_skip o m c s h b =
    record {
      sync = h.sync;
      mark = ap (λ (u : Mark). next u (c ∷ s)) h.mark
          ∙ next_code c (blank_sep c b) B s refl refl;
      comma = h.comma;
    }

settled_space : (o : List ℕ) (m : Mark) → Settled o m → Settled (o ++ codes " ") m
settled_space o m h =
    record {
      sync =
          λ r. through_snoc B o 32 r ∙ ap (λ (u : Mark). next u (32 ∷ r)) (h.sync (32 ∷ r))
          ∙ next_code 32 (blank_sep 32 refl) B r refl refl;
      mark = h.mark;
      comma = comma_blank o 32 refl h.comma;
    }

escaped_next : (o : List ℕ) (m : Mark) (c : ℕ) (s : List ℕ) → Escaped o m (c ∷ s)
    → Ready (o ++ (c ∷ [])) (next m (c ∷ s)) s
escaped_next o m c s h =
    let e : next m (c ∷ s) ≡ B = ap (λ (u : Mark). next u (c ∷ s)) h.mark in
    let g : through B (o ++ (c ∷ [])) s ≡ next m (c ∷ s) = grown o m c s h.sync in
    record {
      sync = g;
      free = λ k. ap (λ (u : Mark). u.more) e;
      comma = λ d r q sep n k.
          by_test (is_blank c)
          (λ b. comma_blank o c b
          (comma_at o o m c s (blank_sep c b) h.sync h.firm (λ l. ap (λ (u : Mark). next u (44 ∷ l)) h.mark)))
          (λ b. comma_solid o (next m (c ∷ s)) c s g b d r q sep n k);
      ending = subst (Ending s) (sym e) (ending_code s 0 Mode.Code);
    }

state_step : (g : Gap) (o : List ℕ) (m : Mark) (c : ℕ) (s : List ℕ) → Inv g o m (c ∷ s)
    → State (next m (c ∷ s)) s (put_at g o (cell c (next m (c ∷ s)).class))
unfolding put_at put_after_comma State Inv
state_step Gap.Nothing o m c s h = state_plain o m c s h
state_step Gap.Escape o m c s h = escaped_next o m c s h
state_step Gap.Comma o m c s h =
    let P : Spaced → Type 0 = λ t. Inv t.gap t.out (next m (c ∷ s)) s in
    choose_case P (λ e. settled_skip o m c s h (and_right (is_code (next m (c ∷ s)).class) (is_blank c) e))
    (λ e. choose_case P (λ i. state_plain o m c s (ready o m (c ∷ s) h))
    (λ i. state_plain (o ++ codes " ") m c s (ready (o ++ codes " ") m (c ∷ s) (settled_space o m h))))
state_step Gap.Space o m c s h =
    let P : Spaced → Type 0 = λ t. Inv t.gap t.out (next m (c ∷ s)) s in
    choose_case P (λ e. settled_skip o m c s h (ap (λ (t : Bool). t || is "\t" c) e))
    (λ e. state_plain o m c s (ready o m (c ∷ s) h))

state_end : (g : Gap) (o : List ℕ) (m : Mark) → Inv g o m [] → through B o [] ≡ m
unfolding Inv
state_end Gap.Nothing o m h = h.sync
state_end Gap.Escape o m h = h.sync
state_end Gap.Comma o m h = h.sync [] ∙ sym h.mark
state_end Gap.Space o m h = h.sync [] ∙ sym h.mark

fold_steady : (t : Spaced) (m : Mark) (s : List ℕ) → State m s t
    → through B (foldl space_step t (scan m s)).out [] ≡ final m s
unfolding scan final State
fold_steady t m [] h = state_end t.gap t.out m h
fold_steady t m (c ∷ s) h =
    fold_steady (space_step t (cell c (next m (c ∷ s)).class)) (next m (c ∷ s)) s (state_step t.gap t.out m c s h)

first : (l : List ℕ) → Ready [] B l
unfolding through trim_blanks
first l =
    record {
      sync = refl;
      free = λ e. refl;
      comma = λ d r e sep n k. record { after = λ q. next_code 44 comma_sep B q refl refl };
      ending = ending_code l 0 Mode.Code;
    }

pub carry_respaced : (l : List ℕ) → carry_after Carry.Code (respaced l) ≡ carry_after Carry.Code l
unfolding carry_after classify normalize_spacing State Inv
carry_respaced l =
    ap (λ (u : Mark). open_after u.mode)
    (sym (through_nil B (respaced l)) ∙ fold_steady (spaced [] Gap.Nothing) B l (first l))
