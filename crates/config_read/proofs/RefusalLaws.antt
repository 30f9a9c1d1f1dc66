-- The refusals of all texts, by the worst rank.
use Prim.Native.Nat.{ℕ, ◌+◌, ◌≤◌, ◌<◌, max}
use mathlib.Core.Bool.{Bool, true, false, not}
use mathlib.Core.List.{List, [], ◌∷◌, ◌++◌, map}
use mathlib.Core.Path.{◌≡◌, refl, sym, ap, ◌∙◌}
use native.Mathlib.Omega.{arith}
use borrow.Author.Tests.{lt-ltb, le-ltb, ltb-true, ltb-false, not-false}
use lib.Dec.{ltb}
use denote.Ref.{Bor}
use native.Mathlib.Numerals.{add-one}
use lib.ListN.{length, take, get_or}
use lib.Seq.{take-suc}
use Rattle.std.proofs.lemmas.List.{map-append}
use Rattle.std.specs.Prelude.{Some, Ok, Err}
use Rattle.utf8.specs.Unicode.{prefix_len, decode, WellFormed, well_formed}
use Rattle.utf8.proofs.Tests.{by_test}
use Rattle.utf8.proofs.Decode.{test_wf, test_whole, test_part, wf_whole}
use Rattle.rules.specs.Basics.{choose}
use Rattle.rules.specs.declared.Resolved.{Resolved}
use Rattle.rules.proofs.Choose.{choose_true, choose_false}
use Rattle.config_rules.specs.Lines.{lines_of}
use Rattle.config_rules.specs.Sections.{long_name}
use Rattle.config_rules.specs.Texts.{below_slashes, resolved, relatives}
use Rattle.config_rules.specs.Call.{any_of, too_long, ill_formed, has_long_name, ConfigOutcome, read_editor_config}
use Rattle.config_rules.specs.declared.ConfigRefusal.{ConfigRefusal}
use Rattle.config_text.specs.Walk.{Readable}
use Rattle.config_text.specs.Steps.{Accepted}
use Rattle.config_read.specs.Levels.{Unslashed, Nearest, resolved_at}
use Rattle.config_read.specs.Refusals.{bytes_of, rank_number, rank_of, path_rank, worst, AllAccepted}
use Rattle.config_read.proofs.LevelLaws.{rels_decode, relatives_of}

abbrev Texts : Type 0
Texts = List (List ℕ)

-- ---- one text

pub readable : (t : List ℕ) (r : ℕ) → length t ≤ 65_536 → r ≡ prefix_len t → r ≡ length t → Readable t
readable t r h e f = record { short = h; well = wf_whole t (sym e ∙ f) }

module _ (t : List ℕ) where
  pub rank_long : 65_536 < length t → 3 ≡ rank_of t
  unfolding rank_of
  rank_long h = sym (choose_true _ _ _ (lt-ltb 65_536 (length t) h))

  module _ (h : length t ≤ 65_536) (r : ℕ) (e : r ≡ prefix_len t) where
    short : too_long t ≡ false
    short = le-ltb 65_536 (length t) h

    pub rank_ill : (r ≡ length t → ⊥) → 2 ≡ rank_of t
    unfolding rank_of
    rank_ill n = sym (choose_false _ _ _ short ∙ choose_true _ _ _ (ap not (test_part t (λ z. n (e ∙ z)))))

    module _ (f : r ≡ length t) (b : Bool) (q : b ≡ long_name (lines_of (decode t))) where
      well : ill_formed t ≡ false
      well = ap not (test_whole t (sym e ∙ f))

      pub rank_name : b ≡ true → 1 ≡ rank_of t
      unfolding rank_of
      rank_name y = sym (choose_false _ _ _ short ∙ choose_false _ _ _ well ∙ choose_true _ _ _ (sym q ∙ y))

      pub rank_none : b ≡ false → ◌≡◌ {A = ℕ} 0 (rank_of t)
      unfolding rank_of
      rank_none n = sym (choose_false _ _ _ short ∙ choose_false _ _ _ well ∙ choose_false _ _ _ (sym q ∙ n))

pub path_ill : (path : List ℕ) (r : ℕ) → r ≡ prefix_len path → (r ≡ length path → ⊥) → 2 ≡ path_rank path
unfolding path_rank
path_ill path r e n = sym (choose_true _ _ _ (ap not (test_part path (λ z. n (e ∙ z)))))

pub path_well : (path : List ℕ) (r : ℕ) → r ≡ prefix_len path → r ≡ length path → ◌≡◌ {A = ℕ} 0 (path_rank path)
unfolding path_rank
path_well path r e f = sym (choose_false _ _ _ (ap not (test_whole path (sym e ∙ f))))

-- ---- all of them

worst_cons : (t : List ℕ) (ts : Texts) → worst (t ∷ ts) ≡ max (rank_of t) (worst ts)
unfolding worst
worst_cons t ts = refl

worst_nil : worst [] ≡ 0
unfolding worst
worst_nil = refl

worst_append : (xs ys : Texts) → worst (xs ++ ys) ≡ max (worst xs) (worst ys)
worst_append [] ys = omega (arith, worst_nil)
worst_append (x ∷ xs) ys = omega (arith, worst_cons x (xs ++ ys), worst_cons x xs, worst_append xs ys)

pub worst_start : (m r : ℕ) → r ≡ m → r ≡ max m (worst [])
worst_start m r e = omega (arith, worst_nil)

-- one text more
pub worst_more : (ts : List (Bor (List ℕ))) (i : ℕ) (d : Bor (List ℕ)) (m r s : ℕ) → i < length ts → s ≡ max m (worst (bytes_of (take i ts)))
    → r ≡ max s (rank_of (get_or ts i d).now) → r ≡ max m (worst (bytes_of (take (i + 1) ts)))
worst_more ts i d m r s h e f =
    omega (
      arith,
      ap (λ (l : List (Bor (List ℕ))). worst (bytes_of l)) (ap (λ (n : ℕ). take n ts) (add-one i) ∙ take-suc ts i d h)
          ∙ ap worst (map-append (λ (t : Bor (List ℕ)). t.now) (take i ts) (get_or ts i d ∷ [])),
      worst_append (bytes_of (take i ts)) ((get_or ts i d).now ∷ []),
      worst_cons (get_or ts i d).now [],
      worst_nil,
    )

-- the rank of one text, and its tests
data Ranked (t : List ℕ) : Type 0 where
  long : too_long t ≡ true → rank_of t ≡ 3 → Ranked t
  ill : too_long t ≡ false → ill_formed t ≡ true → rank_of t ≡ 2 → Ranked t
  name : too_long t ≡ false → ill_formed t ≡ false → has_long_name t ≡ true → rank_of t ≡ 1 → Ranked t
  fine : too_long t ≡ false → ill_formed t ≡ false → has_long_name t ≡ false → rank_of t ≡ 0 → Ranked t

ranked : (t : List ℕ) → Ranked t
unfolding rank_of
ranked t =
    by_test (too_long t)
    (λ a. long a (choose_true _ _ _ a))
    (λ a.
    by_test (ill_formed t)
    (λ b. ill a b (choose_false _ _ _ a ∙ choose_true _ _ _ b))
    (λ b.
    by_test (has_long_name t)
    (λ c. name a b c (choose_false _ _ _ a ∙ choose_false _ _ _ b ∙ choose_true _ _ _ c))
    (λ c. fine a b c (choose_false _ _ _ a ∙ choose_false _ _ _ b ∙ choose_false _ _ _ c))))

any_nil : (p : List ℕ → Bool) → any_of p [] ≡ false
unfolding any_of
any_nil p = refl

any_yes : (p : List ℕ → Bool) (t : List ℕ) (ts : Texts) → p t ≡ true → any_of p (t ∷ ts) ≡ true
unfolding any_of
any_yes p t ts e = rw e

any_no : (p : List ℕ → Bool) (t : List ℕ) (ts : Texts) → p t ≡ false → any_of p (t ∷ ts) ≡ any_of p ts
unfolding any_of
any_no p t ts e = rw e

-- the worst rank is above k
abbrev over : ℕ → Texts → Bool
over k ts = ltb k (worst ts)

over_yes : (k : ℕ) (t : List ℕ) (ts : Texts) → k < rank_of t → over k (t ∷ ts) ≡ true
over_yes k t ts h = lt-ltb k (worst (t ∷ ts)) (omega (arith, worst_cons t ts))

over_no : (k : ℕ) (t : List ℕ) (ts : Texts) → rank_of t ≤ k → over k (t ∷ ts) ≡ over k ts
over_no k t ts h =
    by_test (over k ts)
    (λ e. lt-ltb k (worst (t ∷ ts)) (omega (arith, worst_cons t ts, ltb-true k (worst ts) e)) ∙ sym e)
    (λ e. le-ltb k (worst (t ∷ ts)) (omega (arith, worst_cons t ts, ltb-false k (worst ts) e)) ∙ sym e)

any_long : (ts : Texts) → any_of too_long ts ≡ over 2 ts
any_long [] = any_nil too_long ∙ sym (le-ltb 2 (worst []) (omega (arith, worst_nil)))
any_long (t ∷ ts) = go (ranked t) (any_long ts)
  where
    go : Ranked t → any_of too_long ts ≡ over 2 ts → any_of too_long (t ∷ ts) ≡ over 2 (t ∷ ts)
    go (long a r) i = any_yes too_long t ts a ∙ sym (over_yes 2 t ts (omega arith))
    go (ill a b r) i = any_no too_long t ts a ∙ i ∙ sym (over_no 2 t ts (omega arith))
    go (name a b c r) i = any_no too_long t ts a ∙ i ∙ sym (over_no 2 t ts (omega arith))
    go (fine a b c r) i = any_no too_long t ts a ∙ i ∙ sym (over_no 2 t ts (omega arith))

any_ill : (ts : Texts) → worst ts ≤ 2 → any_of ill_formed ts ≡ over 1 ts
any_ill [] h = any_nil ill_formed ∙ sym (le-ltb 1 (worst []) (omega (arith, worst_nil)))
any_ill (t ∷ ts) h = go (ranked t) (any_ill ts (omega (arith, worst_cons t ts)))
  where
    go : Ranked t → any_of ill_formed ts ≡ over 1 ts → any_of ill_formed (t ∷ ts) ≡ over 1 (t ∷ ts)
    go (long a r) i = absurd (omega (arith, h, worst_cons t ts))
    go (ill a b r) i = any_yes ill_formed t ts b ∙ sym (over_yes 1 t ts (omega arith))
    go (name a b c r) i = any_no ill_formed t ts b ∙ i ∙ sym (over_no 1 t ts (omega arith))
    go (fine a b c r) i = any_no ill_formed t ts b ∙ i ∙ sym (over_no 1 t ts (omega arith))

any_name : (ts : Texts) → worst ts ≤ 1 → any_of has_long_name ts ≡ over 0 ts
any_name [] h = any_nil has_long_name ∙ sym (le-ltb 0 (worst []) (omega (arith, worst_nil)))
any_name (t ∷ ts) h = go (ranked t) (any_name ts (omega (arith, worst_cons t ts)))
  where
    go : Ranked t → any_of has_long_name ts ≡ over 0 ts → any_of has_long_name (t ∷ ts) ≡ over 0 (t ∷ ts)
    go (long a r) i = absurd (omega (arith, h, worst_cons t ts))
    go (ill a b r) i = absurd (omega (arith, h, worst_cons t ts))
    go (name a b c r) i = any_yes has_long_name t ts c ∙ sym (over_yes 0 t ts (omega arith))
    go (fine a b c r) i = any_no has_long_name t ts c ∙ i ∙ sym (over_no 0 t ts (omega arith))

all_accepted : (ts : Texts) → worst ts ≤ 0 → AllAccepted ts
all_accepted [] h = tt
all_accepted (t ∷ ts) h = (go (ranked t), all_accepted ts (omega (arith, worst_cons t ts)))
  where
    go : Ranked t → Accepted t
    go (long a r) = absurd (omega (arith, h, worst_cons t ts))
    go (ill a b r) = absurd (omega (arith, h, worst_cons t ts))
    go (name a b c r) = absurd (omega (arith, h, worst_cons t ts))
    go (fine a b c r) =
        record {
          readable = record { short = ltb-false 65_536 (length t) a; well = test_wf t (not-false (well_formed t) b) };
          names = c;
        }

-- ---- the whole call

-- r is the worst rank of the path and the texts
pub record WorstOf (path : List ℕ) (ts : Texts) (r : ℕ) : Type 0 where
  pub is : r ≡ max (path_rank path) (worst ts)

data PathRanked (path : List ℕ) : Type 0 where
  bad : ill_formed path ≡ true → path_rank path ≡ 2 → PathRanked path
  good : ill_formed path ≡ false → path_rank path ≡ 0 → PathRanked path

path_ranked : (path : List ℕ) → PathRanked path
unfolding path_rank
path_ranked path = by_test (ill_formed path) (λ a. bad a (choose_true _ _ _ a)) (λ a. good a (choose_false _ _ _ a))

module _ (path : List ℕ) (ts : Texts) (r : ℕ) (w : WorstOf path ts r) where
  path_top : path_rank path ≤ 2
  path_top = go (path_ranked path)
    where
      go : PathRanked path → path_rank path ≤ 2
      go (bad a e) = omega arith
      go (good a e) = omega arith

  read_long : r ≡ 3 → Err ConfigRefusal.LongText ≡ read_editor_config path ts
  unfolding read_editor_config
  read_long e = sym (choose_true _ _ _ (any_long ts ∙ lt-ltb 2 (worst ts) (omega (arith, w.is, path_top))))

  ills : worst ts ≤ 2 → any_of ill_formed (path ∷ ts) ≡ ltb 1 r
  ills h = go (path_ranked path)
    where
      go : PathRanked path → any_of ill_formed (path ∷ ts) ≡ ltb 1 r
      go (bad a e) = any_yes ill_formed path ts a ∙ sym (lt-ltb 1 r (omega (arith, w.is)))
      go (good a e) = any_no ill_formed path ts a ∙ any_ill ts h ∙ ap (ltb 1) (let z : worst ts ≡ r = omega (arith, w.is) in z)

  read_ill : r ≡ 2 → Err ConfigRefusal.NotUtf8 ≡ read_editor_config path ts
  unfolding read_editor_config
  read_ill e =
      sym (choose_false _ _ _ (any_long ts ∙ le-ltb 2 (worst ts) (omega (arith, w.is)))
      ∙ choose_true _ _ _ (ills (omega (arith, w.is)) ∙ lt-ltb 1 r (omega arith)))

  readable_all : r ≤ 1 → read_editor_config path ts ≡ choose (any_of has_long_name ts) (Err ConfigRefusal.LongName) (Ok (resolved (map decode ts) (relatives (decode path))))
  unfolding read_editor_config
  readable_all h =
      choose_false _ _ _ (any_long ts ∙ le-ltb 2 (worst ts) (omega (arith, w.is)))
      ∙ choose_false _ _ _ (ills (omega (arith, w.is)) ∙ le-ltb 1 r h)

  read_name : r ≡ 1 → Err ConfigRefusal.LongName ≡ read_editor_config path ts
  read_name e =
      sym (readable_all (omega arith) ∙ choose_true _ _ _ (any_name ts (omega (arith, w.is)) ∙ lt-ltb 0 (worst ts) (go (path_ranked path))))
    where
      go : PathRanked path → 0 < worst ts
      go (bad a p) = absurd (omega (arith, w.is))
      go (good a p) = omega (arith, w.is)

  read_given : r ≡ 0 → (p : List ℕ) → Unslashed path p → (v : Resolved) → v ≡ resolved (map decode ts) (map decode (below_slashes p ++ (p ∷ [])))
      → Ok v ≡ read_editor_config path ts
  read_given e p t v s =
      sym (readable_all (omega arith) ∙ choose_false _ _ _ (any_name ts (omega (arith, w.is)) ∙ le-ltb 0 (worst ts) (omega (arith, w.is)))
      ∙ ap (λ (x : Texts). given (resolved (map decode ts) x)) (relatives_of path p t ∙ sym (rels_decode p t.well))
      ∙ ap given (sym s))
    where
      given : Resolved → ConfigOutcome
      given v = Ok v

-- the worst refusal, r, is told
pub read_refused : (path : List ℕ) (ts : Texts) (why : ConfigRefusal) → rank_number (Some why) ≡ max (path_rank path) (worst ts) → Err why ≡ read_editor_config path ts
read_refused path ts ConfigRefusal.LongName e = read_name path ts 1 (record { is = e }) refl
read_refused path ts ConfigRefusal.NotUtf8 e = read_ill path ts 2 (record { is = e }) refl
read_refused path ts ConfigRefusal.LongText e = read_long path ts 3 (record { is = e }) refl

-- nothing is refused
module _ (path : List ℕ) (ts : Texts) (e : ◌≡◌ {A = ℕ} 0 (max (path_rank path) (worst ts))) where
  pub path_fine : WellFormed path
  path_fine = go (path_ranked path)
    where
      go : PathRanked path → WellFormed path
      go (bad a p) = absurd (omega arith)
      go (good a p) = test_wf path (not-false (well_formed path) a)

  pub texts_fine : AllAccepted ts
  texts_fine = all_accepted ts (omega (arith, e))

  pub read_values : (p : List ℕ) (r : ℕ) (v : Resolved) → Unslashed path p → Nearest p r → v ≡ resolved_at p r ts → Ok v ≡ read_editor_config path ts
  read_values p r v u n q =
      read_given path ts 0 (record { is = e }) refl p u v (q ∙ ap (λ (x : Texts). resolved (map decode ts) (map decode x)) n.is)
