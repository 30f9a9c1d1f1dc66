-- Laws of the reader over a whole source.
use Prim.Native.Nat.{ℕ, zero, suc, ◌+◌, ◌*◌, ◌≤◌, ◌<◌, ◌^◌}
use mathlib.Core.Bool.{Bool, true, false}
use mathlib.Core.List.{List, [], ◌∷◌, ◌++◌, reverse, append-nil}
use mathlib.Core.Path.{◌≡◌, refl, ap, sym, ◌∙◌, subst}
use native.Mathlib.Omega.{arith}
use native.Mathlib.Numerals.{add-one}
use lib.ListN.{length, take, drop, get_or}
use lib.Seq.{drop-cons}
use Rattle.std.specs.Prelude.{Ok, Err}
use Rattle.buffer.specs.Buffer.{part}
use Rattle.rules.specs.Basics.{choose, one_of}
use Rattle.rules.specs.SplitOperation.{keywords}
use Rattle.rules.proofs.Choose.{choose_true, choose_false}
use Rattle.group_rules.specs.Expression.{max_depth, Token, word, Stage, due, in_name, in_number, after, in_operator, State, Step, due_step, after_step, stage_step, step, read, refused_at, ended, ending, on_step, read_from, reading_to, reading}
use Rattle.group_rules.specs.Passes.{coded}
use Rattle.group_read.specs.Read.{Next, Coded, stage_of, state_of, word_of, room_of, Holds, Went, StepIs, Steps, ReaderRoom, DueSteps, AfterSteps, ByteRoom, OperatorRoom, Codes, CodedIs, EndAs, SourceFits, CodedAs}
use Rattle.group_read.specs.declared.Phase.{Phase}
use Rattle.group_read.specs.declared.Phase.TheVariants.{Due, Name, Number, After, Operator}
use Rattle.group_read.specs.declared.Reader.{Reader}
use Rattle.group_rules.specs.declared.Fault.{Fault}
use Rattle.group_rules.specs.declared.NoText.{NoText}
use Rattle.group_read.proofs.ReadLaws.{coded_more}

-- ---- one character: what each phase asks, and what its step says

module _ {source l : List ℕ} {i : ℕ} {r : Reader} (h : ReaderRoom source l i r) where
  room_at : (p : Phase) → r.phase ≡ p → room_of p r.at i
  room_at p e = subst (λ x. room_of x r.at i) e h.room

  in_word_law : r.at ≤ 3 * i → ByteRoom source l r.start i r.depth r.at
  in_word_law k = record { inside = h.inside; started = h.started; fits = h.fits; written = k; shallow = h.shallow; small = h.small }

  module _ {l' : List ℕ} {q : Next} where
    steps_at : (p : Phase) → r.phase ≡ p → ((ts : List Token) → take r.at l ≡ coded (reverse ts) ++ word_of (stage_of source i p r.start)
        → StepIs source l' (suc i) (stage_step max_depth (stage_of source i p r.start) r.depth ts (get_or source i 0)) q)
        → length l' ≡ length l → Steps source l l' i r q
    steps_at p e f z =
        record {
          is = λ ts k. subst (λ x. StepIs source l' (suc i) (stage_step max_depth (stage_of source i x r.start) r.depth ts (get_or source i 0)) q) (sym e)
              (f ts (k.codes ∙ ap (λ x. coded (reverse ts) ++ word_of (stage_of source i x r.start)) e));
          size = z;
        }

    pub steps_due : (c : ℕ) → c ≡ get_or source i 0 → r.phase ≡ Due → DueSteps l l' i c r.depth r.at q → Steps source l l' i r q
    unfolding stage_step
    steps_due c u e d =
        steps_at Due e
        (λ ts g. subst (λ x. StepIs source l' (suc i) (due_step max_depth r.depth ts x) q) u
        (d.is source ts u h.inside h.fits (omega (arith, room_at Due e)) (g ∙ append-nil (coded (reverse ts)))))
        d.size

    pub steps_after : (c : ℕ) → c ≡ get_or source i 0 → r.phase ≡ After → AfterSteps l l' i c r.depth r.at q → Steps source l l' i r q
    unfolding stage_step
    steps_after c u e d =
        steps_at After e
        (λ ts g. subst (λ x. StepIs source l' (suc i) (after_step r.depth ts x) q) u
        (d.is source ts u h.inside h.fits (room_at After e) (g ∙ append-nil (coded (reverse ts)))))
        d.size

-- ---- the loop: what is read so far, and what is left

abbrev pub here : Fault → ℕ → NoText
here f i = record { fault = f; place = i }

pub record Reads (source l₀ l : List ℕ) (i : ℕ) (r : Reader) : Type 0 where
  pub tokens : List Token
  pub is : reading source ≡ read_from max_depth i (state_of source i r tokens) (drop i source)
  pub holds : Holds source l i r tokens
  pub within : i ≤ length source
  pub size : length l ≡ length l₀
  pub small : length source < 2 ^ 60

pub reads_start : {source l : List ℕ} → SourceFits source l → Reads source l l 0 (record { phase = Due; depth = 0; start = 0; at = 0 })
unfolding reading_to coded
reads_start h =
    record {
      tokens = [];
      is = refl;
      holds = record { codes = refl; room = omega arith; started = omega arith; shallow = omega arith; fits = h.fits };
      within = omega arith;
      size = refl;
      small = h.small;
    }

module _ {source l₀ l : List ℕ} {i : ℕ} {r : Reader} (h : Reads source l₀ l i r) where
  stepped : i < length source → reading source ≡ on_step i (step max_depth (state_of source i r h.tokens) (get_or source i 0)) (λ (t : State). read_from max_depth (suc i) t (drop (suc i) source))
  unfolding read_from
  stepped k = h.is ∙ ap (read_from max_depth i (state_of source i r h.tokens)) (drop-cons source i 0 k)

  module _ {l' : List ℕ} {q : Next} (k : i < length source) (s : Steps source l l' i r q) where
    pub reads_next : (p : Reader) → q ≡ Ok p → Reads source l₀ l' (i + 1) p
    unfolding on_step
    reads_next p z = subst (λ n. Reads source l₀ l' n p) (sym (add-one i)) (go ((s.is h.tokens h.holds).goes p z))
      where
        go : Went source l' (suc i) (step max_depth (state_of source i r h.tokens) (get_or source i 0)) p → Reads source l₀ l' (suc i) p
        go w =
            record {
              tokens = w.tokens;
              is = stepped k ∙ ap (λ (x : Step). on_step i x (λ (t : State). read_from max_depth (suc i) t (drop (suc i) source))) w.is;
              holds = w.holds;
              within = omega arith;
              size = s.size ∙ h.size;
              small = h.small;
            }

    pub reads_refused : (f : Fault) → q ≡ Err f → CodedAs source l₀ l' (Err (record { fault = f; place = i }))
    unfolding on_step
    reads_refused f e =
        record {
          is = record { yes = λ m x. absurd (no_count x); no = λ w x. whole ∙ ap (λ y. refused_at y.fault y.place) (why x) };
          size = s.size ∙ h.size;
        }
      where
        whole : reading source ≡ refused_at f i
        whole = stepped k ∙ ap (λ (y : Step). on_step i y (λ (t : State). read_from max_depth (suc i) t (drop (suc i) source))) ((s.is h.tokens h.holds).stops f e)

        no_count : {m : ℕ} → ◌≡◌ {A = Coded} (Err (here f i)) (Ok m) → ⊥
        no_count x = let z : ◌≡◌ {A = ℕ} 0 1 = cc in omega arith

        why : {w : NoText} → ◌≡◌ {A = Coded} (Err (here f i)) (Err w) → here f i ≡ w
        why x = cc

  pub reads_end : {q : Coded} → length source ≤ i → EndAs source r q → CodedAs source l₀ l q
  unfolding read_from
  reads_end {q} k e = record { is = subst (λ g. CodedIs l g (length source) q) (sym whole) (e.is l h.tokens (subst (λ n. Holds source l n r h.tokens) all h.holds)); size = h.size }
    where
      all : i ≡ length source
      all = omega (arith, h.within)

      nothing_left : (s : List ℕ) → drop (length s) s ≡ []
      nothing_left [] = refl
      nothing_left (x ∷ s) = nothing_left s

      whole : reading source ≡ ending (length source) (stage_of source (length source) r.phase r.start) r.depth h.tokens
      whole =
          h.is ∙ ap (λ n. read_from max_depth n (state_of source n r h.tokens) (drop n source)) all
          ∙ ap (read_from max_depth (length source) (state_of source (length source) r h.tokens)) (nothing_left source)

-- ---- the end

deep : (d i : ℕ) (ts : List Token) → 0 < d → ended i d ts ≡ refused_at Fault.NoExpression i
unfolding ended
deep zero i ts h = absurd (omega arith)
deep (suc d) i ts h = refl

deep_stage : (m : Stage) (d i : ℕ) (ts : List Token) → 0 < d → ending i m d ts ≡ refused_at Fault.NoExpression i
unfolding ending choose
deep_stage due d i ts h = refl
deep_stage (in_name w) d i ts h = go (one_of keywords w)
  where
    go : (b : Bool) → choose b (refused_at Fault.NoExpression i) (ended i d (word w ∷ ts)) ≡ refused_at Fault.NoExpression i
    go true = refl
    go false = deep d i (word w ∷ ts) h
deep_stage (in_number w) d i ts h = deep d i (word w ∷ ts) h
deep_stage after d i ts h = deep d i ts h
deep_stage (in_operator a) d i ts h = refl

module _ (source : List ℕ) (r : Reader) where
  abbrev pub early : Coded
  early = Err (here Fault.NoExpression (length source))

  end_refused : (z : Coded) → z ≡ early
      → ((ts : List Token) → ending (length source) (stage_of source (length source) r.phase r.start) r.depth ts ≡ refused_at Fault.NoExpression (length source)) → EndAs source r z
  end_refused z e f =
      subst (EndAs source r) (sym e)
      (record { is = λ l ts h. record { yes = λ m x. absurd (no_count x); no = λ w x. f ts ∙ ap (λ y. refused_at y.fault y.place) (why x) } })
    where
      no_count : {m : ℕ} → ◌≡◌ {A = Coded} early (Ok m) → ⊥
      no_count x = let z : ◌≡◌ {A = ℕ} 0 1 = cc in omega arith

      why : {w : NoText} → ◌≡◌ {A = Coded} early (Err w) → here Fault.NoExpression (length source) ≡ w
      why x = cc

  pub end_deep : (z : Coded) → z ≡ early → 0 < r.depth → EndAs source r z
  end_deep z e h = end_refused z e (λ ts. deep_stage (stage_of source (length source) r.phase r.start) r.depth (length source) ts h)

  ending_at : (p : Phase) → r.phase ≡ p → (ts : List Token) → ending (length source) (stage_of source (length source) r.phase r.start) r.depth ts
      ≡ ending (length source) (stage_of source (length source) p r.start) r.depth ts
  ending_at p e ts = ap (λ x. ending (length source) (stage_of source (length source) x r.start) r.depth ts) e

  pub end_due : (z : Coded) → z ≡ early → r.phase ≡ Due → EndAs source r z
  unfolding ending
  end_due z e p = end_refused z e (λ ts. ending_at Due p ts)

  pub end_operator : (z : Coded) → z ≡ early → r.phase ≡ Operator → EndAs source r z
  unfolding ending
  end_operator z e p = end_refused z e (λ ts. ending_at Operator p ts)

  pub end_keyword : (z : Coded) → z ≡ early → r.phase ≡ Name → (b : Bool) → b ≡ one_of keywords (part source r.start (length source)) → b ≡ true
      → EndAs source r z
  unfolding ending
  end_keyword z e p b u t = end_refused z e (λ ts. ending_at Name p ts ∙ choose_true (one_of keywords (part source r.start (length source))) _ _ (sym u ∙ t))

  -- the tokens us, whose codes all stand
  end_read : (us : List Token → List Token)
      → ((ts : List Token) → ending (length source) (stage_of source (length source) r.phase r.start) r.depth ts ≡ read (reverse (us ts)))
      → ((ts : List Token) → coded (reverse ts) ++ word_of (stage_of source (length source) r.phase r.start) ≡ coded (reverse (us ts)))
      → ((i : ℕ) → room_of r.phase r.at i → r.at ≤ 3 * i)
      → (z : Coded) → z ≡ Ok r.at → EndAs source r z
  end_read us f g room z e =
      subst (EndAs source r) (sym e)
      (record {
        is = λ l ts h. record {
          yes = λ m x. subst (Codes l (ending (length source) (stage_of source (length source) r.phase r.start) r.depth ts) (length source)) (count x)
              (record { tokens = reverse (us ts); is = f ts; codes = h.codes ∙ g ts; short = room (length source) h.room });
          no = λ w x. absurd (no_text x);
        };
      })
    where
      count : {m : ℕ} → ◌≡◌ {A = Coded} (Ok r.at) (Ok m) → r.at ≡ m
      count x = cc

      no_text : {w : NoText} → ◌≡◌ {A = Coded} (Ok r.at) (Err w) → ⊥
      no_text x = let z : ◌≡◌ {A = ℕ} 0 1 = cc in omega arith

  module _ (d : r.depth ≤ 0) where
    shallow : (ts : List Token) → ended (length source) r.depth ts ≡ read (reverse ts)
    unfolding ended
    shallow ts = let z : r.depth ≡ 0 = omega arith in ap (λ n. ended (length source) n ts) z

    word_codes : (p : Phase) → r.phase ≡ p → (ts : List Token) (w : List ℕ) → word_of (stage_of source (length source) p r.start) ≡ w
        → coded (reverse ts) ++ word_of (stage_of source (length source) r.phase r.start) ≡ coded (reverse (word w ∷ ts))
    word_codes p e ts w u =
        ap (λ x. coded (reverse ts) ++ word_of (stage_of source (length source) x r.start)) e ∙ ap (λ x. coded (reverse ts) ++ x) u ∙ sym (coded_more (word w) ts)

    pub end_name_law : r.phase ≡ Name → (b : Bool) → b ≡ one_of keywords (part source r.start (length source)) → b ≡ false
        → (z : Coded) → z ≡ Ok r.at → EndAs source r z
    unfolding ending
    end_name_law p b u t =
        end_read (λ ts. word (part source r.start (length source)) ∷ ts)
        (λ ts. ending_at Name p ts ∙ choose_false (one_of keywords (part source r.start (length source))) _ _ (sym u ∙ t) ∙ shallow (word (part source r.start (length source)) ∷ ts))
        (λ ts. word_codes Name p ts (part source r.start (length source)) refl)
        (λ i k. subst (λ x. room_of x r.at i) p k)

    pub end_number_law : r.phase ≡ Number → (z : Coded) → z ≡ Ok r.at → EndAs source r z
    unfolding ending
    end_number_law p =
        end_read (λ ts. word (part source r.start (length source)) ∷ ts)
        (λ ts. ending_at Number p ts ∙ shallow (word (part source r.start (length source)) ∷ ts))
        (λ ts. word_codes Number p ts (part source r.start (length source)) refl)
        (λ i k. subst (λ x. room_of x r.at i) p k)

    pub end_after : r.phase ≡ After → (z : Coded) → z ≡ Ok r.at → EndAs source r z
    unfolding ending
    end_after p =
        end_read (λ ts. ts)
        (λ ts. ending_at After p ts ∙ shallow ts)
        (λ ts. ap (λ x. coded (reverse ts) ++ word_of (stage_of source (length source) x r.start)) p ∙ append-nil (coded (reverse ts)))
        (λ i k. subst (λ x. room_of x r.at i) p k)
