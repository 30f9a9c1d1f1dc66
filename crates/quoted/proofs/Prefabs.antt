-- C-22, prefabs: with no print width the lines within each closed prefab follow the line that it opens on.
--     Opened            the newest lines are those within a prefab, behind the one that it opens on
--     Closed            a line that is not empty stands behind such lines
use Rattle.std.specs.Prelude.{None}
use Prim.Native.Nat.{ℕ}
use mathlib.Core.Bool.{true, false, ◌&&◌}
use mathlib.Core.Logic.{inl, inr}
use mathlib.Core.List.{List, [], ◌∷◌, ◌++◌, map, foldl, reverse_aux, append_assoc, append-nil}
use mathlib.Core.Option.{Option, none, some}
use mathlib.Core.Path.{◌≡◌, refl, sym, ap, ◌∙◌, subst}
use Rattle.utf8.specs.Unicode.{trim_end}
use Rattle.utf8.proofs.Tests.{and_left, and_right}
use Rattle.utf8.proofs.Trim.{White}
use Rattle.rules.specs.Basics.{choose, codes, is_empty, pieces, split_on}
use Rattle.rules.specs.Lines.{as_str, drop_cr, lines_of}
use Rattle.rules.specs.Options.{Options, all_blank}
use Rattle.rules.specs.Scan.{next, final, begin, open_after, carry_after, is_prefab}
use Rattle.rules.specs.Line.{Formatter, start, kept_line, as_written, any_line, format_line}
use Rattle.rules.specs.Assembly.{ending_of, drop_empty, joined, last_ending, finish, format_lines, format_with}
use Rattle.rules.specs.Prefabs.{Prefab, in_prefab_mode, opens, stays, left_open, longer, prefabs_from, prefabs_of, ended, Follows}
use Rattle.rules.specs.Quoted.{All}
use Rattle.rules.specs.declared.Carry.{Carry}
use Rattle.rules.specs.declared.LineEnding.{LineEnding}
use Rattle.rules.specs.declared.Mark.{Mark}
use Rattle.rules.specs.declared.Mode.{Mode}
use Rattle.rules.proofs.Choose.{choose_case}
use Rattle.rules.proofs.Struck.{Like, like_refl, ◌then◌, like_append, like_after, flatten_back, kept_like}
use Rattle.rules.proofs.SpacingLaws.{all_white}
use Rattle.rules.proofs.LineLaws.{Holds}
use Rattle.rules.proofs.Demand3.{white_ending, like_joined}
use Rattle.rules.proofs.Prefix.{never}
use Rattle.quoted.proofs.Marks.{prefab_mode}
use Rattle.quoted.proofs.Strings.{all_append, all_map}
use Rattle.quoted.proofs.Lines.{Goes, goes_line}
use Rattle.quoted.proofs.Among.{Among, Lasts, among_empty, among_line}
use Rattle.quoted.proofs.Openings.{OpenCut, Maybe, maybe_map, open_cut}
use Rattle.quoted.proofs.OpeningLines.{Ends, On, on_line}
use Rattle.quoted.proofs.Text.{holds_next}
use Rattle.rules.proofs.SplitLines.{some_after}

-- ---- what is open

stays_final : (t : Mark) (s : List ℕ) → t.mode ≡ Mode.Prefab → stays t s ≡ true → (final t s).mode ≡ Mode.Prefab
unfolding stays final
stays_final t [] m h = m
stays_final t (c ∷ s) m h =
    let u : Mark = next t (c ∷ s) in
    stays_final u s (prefab_mode u.mode (and_left (in_prefab_mode u.mode) (stays u s) h))
    (and_right (in_prefab_mode u.mode) (stays u s) h)

stays_some : (t : Mark) (s : List ℕ) → stays t s ≡ false → is_empty s ≡ false
unfolding stays
stays_some t [] h = h
stays_some t (c ∷ s) h = refl

LeavesPrefab : Carry → List ℕ → Prefab → Type 0
LeavesPrefab y raw q = carry_after y raw ≡ Carry.Prefab

open_final : (b : List ℕ) (t : Mark) (s : List ℕ)
    → Maybe (λ (q : Prefab). (final t s).mode ≡ Mode.Prefab) (left_open b t s)
unfolding left_open final Maybe
open_final b t [] = tt
open_final b t (c ∷ s) =
    let u : Mark = next t (c ∷ s) in
    choose_case (Maybe (λ (q : Prefab). (final u s).mode ≡ Mode.Prefab))
    (λ h. stays_final u s
    (prefab_mode u.mode
    (and_right (opens is_prefab t u) (in_prefab_mode u.mode)
    (and_left (opens is_prefab t u && in_prefab_mode u.mode) (stays u s) h)))
    (and_right (opens is_prefab t u && in_prefab_mode u.mode) (stays u s) h))
    (λ h. open_final (b ++ (c ∷ [])) u s)

open_carry : (b : List ℕ) (y : Carry) (raw : List ℕ) → Maybe (LeavesPrefab y raw) (left_open b (begin y) raw)
unfolding LeavesPrefab carry_after
open_carry b y raw =
    maybe_map (λ (q : Prefab). (final (begin y) raw).mode ≡ Mode.Prefab) (LeavesPrefab y raw) (λ q h. ap open_after h)
    (left_open b (begin y) raw) (open_final b (begin y) raw)

stays_carry : (raw : List ℕ) → stays (begin Carry.Prefab) raw ≡ true → carry_after Carry.Prefab raw ≡ Carry.Prefab
unfolding carry_after
stays_carry raw h = ap open_after (stays_final (begin Carry.Prefab) raw refl h)

-- ---- among lines, the newest first

record Opened (ls : List (List ℕ)) (p : Prefab) : Type 0 where
  line : List ℕ
  older : List (List ℕ)
  lines : ls ≡ reverse_aux p.inner (line ∷ older)
  ends : Ends (flatten_back older) line p

abbrev Closed : Prefab → List (List ℕ) → List ℕ → Type 0
Closed p ls l = (is_empty l ≡ false) × Opened ls p

closed_lasts : (p : Prefab) → Lasts (Closed p)
closed_lasts p =
    record {
      some = λ ls h. never refl h.0;
      join = λ ls last line h. (some_after (trim_end last) 32 line, h.1);
    }

abbrev In : List (List ℕ) → Prefab → Type 0
In ls p = Among (Closed p) ls

-- the prefab that is open before the next line
record Now (f : Formatter) (p : Prefab) : Type 0 where
  carry : f.carry ≡ Carry.Prefab
  opened : Opened f.lines p

NowOf : Formatter → Option Prefab → Type 0
NowOf f none = Unit {0}
NowOf f (some p) = Now f p

ends_longer : (b l : List ℕ) (p : Prefab) (m : List ℕ) → Ends b l p → Ends b l (longer p m)
ends_longer b l p m e =
    record { front = e.front; line = e.line; whole = e.whole; behind = e.behind; opening = e.opening }

on_opened : (ls : List (List ℕ)) (q : Prefab) → q.inner ≡ [] → On ls q → Opened ls q
on_opened [] q e h = absurd h
on_opened (l ∷ ls) q e h = record { line = l; older = ls; lines = rw e; ends = h }

reverse_snoc : (ls : List (List ℕ)) (l : List ℕ) (acc : List (List ℕ))
    → reverse_aux (ls ++ (l ∷ [])) acc ≡ l ∷ reverse_aux ls acc
reverse_snoc [] l acc = refl
reverse_snoc (m ∷ ls) l acc = reverse_snoc ls l (m ∷ acc)

module _ (o : Options) (off : o.print_width ≡ None) (white : White o.indent) where
  prefab_line : (f : Formatter) (raw : List ℕ) → f.carry ≡ Carry.Prefab → (format_line o f raw).lines ≡ raw ∷ f.lines
  unfolding format_line any_line kept_line
  prefab_line f raw e =
      choose_case (λ (g : Formatter). g.lines ≡ raw ∷ f.lines) (λ t. refl) (λ t. rw e (unfold choose as_written in refl))

  module _ (f : Formatter) (b raw : List ℕ) (like : Like (flatten_back f.lines) b) where
    abbrev g : Formatter
    g = format_line o f raw

    goes : Goes f raw g
    goes = goes_line o off white f raw

    -- a prefab that the line leaves open
    begun_of : (r : Option Prefab) → Maybe (On g.lines) r → Maybe (LeavesPrefab f.carry raw) r
        → Maybe (OpenCut b (begin f.carry) raw) r
        → NowOf g r
    unfolding Maybe NowOf LeavesPrefab
    begun_of none h k c = tt
    begun_of (some q) h k c = record { carry = goes.carry ∙ k; opened = on_opened g.lines q c.none h }

    begun : NowOf g (left_open b (begin f.carry) raw)
    begun =
        begun_of (left_open b (begin f.carry) raw) (on_line f b raw like g.lines goes.lines)
        (open_carry b f.carry raw)
        (open_cut b (begin f.carry) raw)

    module _ (p : Prefab) (n : Now f p) where
      -- the line is within it, or closes it
      longer_now : stays (begin f.carry) raw ≡ true → NowOf g (some (longer p raw))
      unfolding NowOf
      longer_now e =
          record {
            carry =
                goes.carry ∙ ap (λ (y : Carry). carry_after y raw) n.carry ∙ stays_carry raw (rw n.carry at e);
            opened =
                record {
                  line = n.opened.line;
                  older = n.opened.older;
                  lines =
                      prefab_line f raw n.carry ∙ ap {B = List (List ℕ)} (λ ls. raw ∷ ls) n.opened.lines
                      ∙ sym (reverse_snoc p.inner raw (n.opened.line ∷ n.opened.older));
                  ends = ends_longer _ _ p raw n.opened.ends;
                };
          }

      closed_in : stays (begin f.carry) raw ≡ false → In g.lines p
      closed_in e = rw (prefab_line f raw n.carry) (inl (stays_some (begin f.carry) raw e, n.opened))

    old : (xs : List Prefab) → All (In f.lines) xs → All (In g.lines) xs
    old xs a =
        all_map (In f.lines) (In g.lines)
        (λ p i. among_line (Closed p) (closed_lasts p) f raw g.lines goes.lines i) xs a

  -- all lines, behind those of which xs are closed
  abbrev Lines : List (List ℕ) → Formatter → List Prefab → Type 0
  Lines ls f xs = All (In (foldl (format_line o) f (map drop_cr ls)).lines) xs

  module _ (l : List ℕ) (ls : List (List ℕ)) (b : List ℕ) (f : Formatter) (like : Like (flatten_back f.lines) b) where
    abbrev after : Formatter
    after = format_line o f (drop_cr l)

    -- the prefabs of the lines behind, where q is open
    abbrev rest : Option Prefab → List Prefab
    rest q = prefabs_from (b ++ (l ++ codes "\n")) (carry_after f.carry (drop_cr l)) q ls

    one_line_law : ((q : Option Prefab) → NowOf after q → (ys : List Prefab) → All (In after.lines) ys
        → Lines ls after (ys ++ rest q))
        → (p : Option Prefab) → NowOf f p → (xs : List Prefab) → All (In f.lines) xs
        → Lines ls after (xs ++ prefabs_from b f.carry p (l ∷ ls))
    unfolding prefabs_from NowOf
    one_line_law again none n xs a =
        again (left_open b (begin f.carry) (drop_cr l)) (begun f b (drop_cr l) like) xs (old f b (drop_cr l) like xs a)
    one_line_law again (some p) n xs a =
        let raw : List ℕ = drop_cr l in
        let a' : All (In after.lines) xs = old f b raw like xs a in
        let q : Option Prefab = left_open b (begin f.carry) raw in
        choose_case (λ (ys : List Prefab). Lines ls after (xs ++ ys))
        (λ e. again (some (longer p raw)) (longer_now f b raw like p n e) xs a')
        (λ e. subst (Lines ls after) (append_assoc xs (p ∷ []) (rest q))
        (again q (begun f b raw like) (xs ++ (p ∷ []))
        (all_append (In after.lines) xs (p ∷ []) a' (closed_in f b raw like p n e, tt))))

  all_lines : (ls : List (List ℕ)) (b : List ℕ) (f : Formatter) → Holds o b f → (p : Option Prefab) → NowOf f p
      → (xs : List Prefab)
      → All (In f.lines) xs → Lines ls f (xs ++ prefabs_from b f.carry p ls)
  unfolding prefabs_from
  all_lines [] b f h p n xs a = rw (append-nil xs) a
  all_lines (l ∷ ls) b f h p n xs a =
      let like : Like (flatten_back f.lines) b = record { same = h.unbroken off } in
      let g : Formatter = format_line o f (drop_cr l) in
      let c : List ℕ = b ++ (l ++ codes "\n") in
      one_line_law l ls b f like
      (λ q m ys k. subst (λ (y : Carry). Lines ls g (ys ++ prefabs_from c y q ls)) (goes f b (drop_cr l) like).carry
      (all_lines ls c g (holds_next o white l b f h) q m ys k))
      p n xs a

-- ---- in the text

module _ (eol : List ℕ) (white : White eol) where
  joined_inner : (inner : List (List ℕ)) (l m : List ℕ) (ms : List (List ℕ))
      → joined eol (l ∷ reverse_aux inner (m ∷ ms)) ≡ joined eol (m ∷ ms) ++ (eol ++ (ended eol inner ++ l))
  unfolding joined ended
  joined_inner [] l m ms = refl
  joined_inner (i ∷ inner) l m ms = joined_inner inner l i (m ∷ ms) ∙ simp append_assoc

  record Head (l : List ℕ) (ls : List (List ℕ)) : Type 0 where
    pre : List ℕ
    whole : joined eol (l ∷ ls) ≡ pre ++ l
    like : Like pre (flatten_back ls)

  head : (l : List ℕ) (ls : List (List ℕ)) → Head l ls
  unfolding joined flatten_back
  head l [] = record { pre = []; whole = refl; like = like_refl [] }
  head l (m ∷ ls) =
      record {
        pre = joined eol (m ∷ ls) ++ eol;
        whole = sym (append_assoc (joined eol (m ∷ ls)) eol l);
        like = like_after eol (joined eol (m ∷ ls)) white then like_joined eol white (m ∷ ls);
      }

  follows_more : (t r : List ℕ) (p : Prefab) → Follows eol t p → Follows eol (t ++ r) p
  follows_more t r p s =
      record {
        before = s.before;
        line = s.line;
        after = s.after ++ r;
        whole = ap {B = List ℕ} (λ k. k ++ r) s.whole ∙ simp append_assoc;
        behind = s.behind;
        opening = s.opening;
      }

  follows_here : (l : List ℕ) (ls : List (List ℕ)) (p : Prefab) → Opened ls p → Follows eol (joined eol (l ∷ ls)) p
  follows_here l ls p u =
      let d = head u.line u.older in
      let e = u.ends in
      record {
        before = d.pre ++ e.front;
        line = e.line;
        after = l;
        whole =
            ap {B = List ℕ} (λ m. joined eol (l ∷ m)) u.lines ∙ joined_inner p.inner l u.line u.older
            ∙ ap {B = List ℕ} (λ m. m ++ (eol ++ (ended eol p.inner ++ l)))
            (d.whole ∙ ap {B = List ℕ} (λ m. d.pre ++ m) e.whole)
            ∙ simp append_assoc;
        behind = (like_append d.like (like_refl e.front) then e.behind).same;
        opening = e.opening;
      }

  follows_lines : (ls : List (List ℕ)) (p : Prefab) → In ls p → Follows eol (joined eol ls) p
  unfolding joined
  follows_lines [] p h = absurd h
  follows_lines (l ∷ []) p (inl k) = follows_here l [] p k.1
  follows_lines (l ∷ []) p (inr h) = absurd h
  follows_lines (l ∷ m ∷ ls) p (inl k) = follows_here l (m ∷ ls) p k.1
  follows_lines (l ∷ m ∷ ls) p (inr h) = follows_more (joined eol (m ∷ ls)) (eol ++ l) p (follows_lines (m ∷ ls) p h)

  follows_text : (ls : List (List ℕ)) (r : List ℕ) (p : Prefab) → In ls p
      → Follows eol (joined eol (drop_empty ls) ++ r) p
  follows_text ls r p h =
      follows_more (joined eol (drop_empty ls)) r p
      (follows_lines (drop_empty ls) p (among_empty (Closed p) (closed_lasts p) ls h))

pub prefabs_follow : (o : Options) → all_blank o.indent ≡ true → o.print_width ≡ None → (source : List ℕ)
    → All (Follows (as_str (ending_of o.end_of_line source)) (format_with o source).text) (prefabs_of source)
unfolding format_with finish format_lines lines_of prefabs_of flatten_back NowOf
prefabs_follow o h off source =
    let w : White o.indent = all_white o.indent h in
    let e : LineEnding = ending_of o.end_of_line source in
    let f : Formatter = foldl (format_line o) start (lines_of source) in
    all_map (In f.lines) (Follows (as_str e) (format_with o source).text)
    (λ p i. follows_text (as_str e) (white_ending e) f.lines
    (last_ending o.insert_final_newline source (as_str e)) p i) (prefabs_of source)
    (all_lines o off w (pieces (split_on "\n" source)) [] start (kept_like (like_refl [])) none tt [] tt)
