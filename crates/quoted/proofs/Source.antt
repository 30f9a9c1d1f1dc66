-- The strings and the prefabs of a source are where `quoted_of` and `prefabs_of` say.
--     InSource, strings_in     a string stands in the source behind its `before`
--     PrefabIn, prefabs_in     so does a prefab's opening line, and behind it, line by line, what is within
use Prim.Native.Nat.{ℕ}
use mathlib.Core.Bool.{Bool, true, false}
use mathlib.Core.List.{List, [], ◌∷◌, ◌++◌, map, append_assoc, append-nil, append_cancel_left}
use mathlib.Core.Option.{Option, none, some}
use mathlib.Core.Path.{◌≡◌, refl, sym, ap, ◌∙◌, subst}
use borrow.Author.Tests.{eqb-true}
use Rattle.rules.specs.Basics.{choose, is, codes, Pieces, split_on, at_sep}
use Rattle.rules.specs.Lines.{drop_cr}
use Rattle.rules.specs.Scan.{chars_of, begin, carry_after}
use Rattle.rules.specs.Prefabs.{Prefab, left_open, longer, prefabs_from, prefabs_of, ended}
use Rattle.rules.specs.Quoted.{Quoted, quoted_in, quoted_from, quoted_of, All}
use Rattle.rules.specs.declared.Carry.{Carry}
use Rattle.rules.proofs.Choose.{choose_case}
use Rattle.quoted.proofs.Strings.{Cut, all_cut, all_append, all_map}
use Rattle.quoted.proofs.Place.{cut_line}
use Rattle.quoted.proofs.Openings.{OpenCut, Maybe, open_cut}
use Rattle.quoted.proofs.OpeningLines.{cut_chars}

-- ---- a source is its lines, with an LF between them

-- lines behind another
behind : List (List ℕ) → List ℕ
behind [] = []
behind (m ∷ ls) = codes "\n" ++ (m ++ behind ls)

lines_sep : (b : Bool) (c : ℕ) (p : Pieces) → is "\n" c ≡ b
    → (at_sep b c p).first ++ behind (at_sep b c p).rest ≡ c ∷ (p.first ++ behind p.rest)
unfolding behind at_sep
lines_sep true c p e = ap {B = List ℕ} (λ d. d ∷ (p.first ++ behind p.rest)) (sym (eqb-true c 10 e))
lines_sep false c p e = refl

lines_split : (s : List ℕ) → (split_on "\n" s).first ++ behind (split_on "\n" s).rest ≡ s
unfolding split_on behind
lines_split [] = refl
lines_split (c ∷ s) = lines_sep (is "\n" c) c (split_on "\n" s) refl ∙ ap {B = List ℕ} (λ l. c ∷ l) (lines_split s)

-- one line on
next_line_law : (b l m : List ℕ) (ls : List (List ℕ))
    → (b ++ (l ++ codes "\n")) ++ (m ++ behind ls) ≡ b ++ (l ++ behind (m ∷ ls))
unfolding behind
next_line_law b l m ls = simp append_assoc

-- the CR that is dropped
pub record WithCr (l : List ℕ) : Type 0 where
  pub end : List ℕ
  pub whole : l ≡ drop_cr l ++ end

pub with_cr : (l : List ℕ) → WithCr l
unfolding drop_cr
with_cr [] = record { end = []; whole = refl }
with_cr (c ∷ []) = go (is "\r" c) refl
  where
    go : (b : Bool) → is "\r" c ≡ b → WithCr (c ∷ [])
    go true e = record { end = c ∷ []; whole = unfold choose in rw e }
    go false e = record { end = []; whole = unfold choose in rw e }
with_cr (c ∷ d ∷ ds) =
    let r = with_cr (d ∷ ds) in record { end = r.end; whole = ap {B = List ℕ} (λ l. c ∷ l) r.whole }

-- ---- strings

pub record InSource (source : List ℕ) (x : Quoted) : Type 0 where
  pub after : List ℕ
  pub whole : source ≡ x.before ++ (x.string ++ after)

string_in : (y : Carry) (b l z : List ℕ) (x : Quoted) → Cut b (begin y) (drop_cr l) x
    → InSource (b ++ (l ++ z)) x
string_in y b l z x c =
    let w = with_cr l in
    let f : List ℕ = chars_of c.front in
    let r : List ℕ = chars_of c.back ++ (w.end ++ z) in
    let e : drop_cr l ≡ f ++ (x.string ++ chars_of c.back) = cut_line y b (drop_cr l) x c in
    record {
      after = r;
      whole =
          ap {B = List ℕ} (λ k. b ++ (k ++ z)) (w.whole ∙ ap {B = List ℕ} (λ k. k ++ w.end) e) ∙ simp append_assoc
          (sym (append_assoc b f (x.string ++ r)) ∙ ap {B = List ℕ} (λ k. k ++ (x.string ++ r)) (sym c.before));
    }

line_in_law : (y : Carry) (b l z : List ℕ) → All (InSource (b ++ (l ++ z))) (quoted_in b (begin y) (drop_cr l))
line_in_law y b l z =
    all_map (Cut b (begin y) (drop_cr l)) (InSource (b ++ (l ++ z))) (string_in y b l z)
    (quoted_in b (begin y) (drop_cr l)) (all_cut b (begin y) (drop_cr l))

lines_in : (ls : List (List ℕ)) (l b : List ℕ) (y : Carry)
    → All (InSource (b ++ (l ++ behind ls))) (quoted_from b y (l ∷ ls))
unfolding quoted_from
lines_in [] l b y =
    all_append (InSource (b ++ (l ++ behind []))) (quoted_in b (begin y) (drop_cr l)) [] (line_in_law y b l (behind [])) tt
lines_in (m ∷ ls) l b y =
    let c : List ℕ = b ++ (l ++ codes "\n") in
    let y' : Carry = carry_after y (drop_cr l) in
    all_append (InSource (b ++ (l ++ behind (m ∷ ls)))) (quoted_in b (begin y) (drop_cr l)) (quoted_from c y' (m ∷ ls))
    (line_in_law y b l (behind (m ∷ ls)))
    (subst (λ (t : List ℕ). All (InSource t) (quoted_from c y' (m ∷ ls))) (next_line_law b l m ls) (lines_in ls m c y'))

pub strings_in : (source : List ℕ) → All (InSource source) (quoted_of source)
unfolding quoted_of
strings_in source =
    let p : Pieces = split_on "\n" source in
    subst (λ (t : List ℕ). All (InSource t) (quoted_of source)) (lines_split source)
    (lines_in p.rest p.first [] Carry.Code)

-- ---- prefabs

-- behind b, the opening line from its $``` on and the lines within, as they stand in the source
record Begun (b : List ℕ) (p : Prefab) : Type 0 where
  last : List ℕ
  rows : List (List ℕ)
  whole : b ≡ p.before ++ (last ++ (codes "\n" ++ ended (codes "\n") rows))
  opens : drop_cr last ≡ p.line
  same : map drop_cr rows ≡ p.inner

pub record PrefabIn (source : List ℕ) (p : Prefab) : Type 0 where
  pub last : List ℕ
  pub rows : List (List ℕ)
  pub after : List ℕ
  pub whole : source ≡ p.before ++ (last ++ (codes "\n" ++ (ended (codes "\n") rows ++ after)))
  pub opens : drop_cr last ≡ p.line
  pub same : map drop_cr rows ≡ p.inner

prefab_in : (b z : List ℕ) (p : Prefab) → Begun b p → PrefabIn (b ++ z) p
prefab_in b z p n =
    record {
      last = n.last;
      rows = n.rows;
      after = z;
      whole = ap {B = List ℕ} (λ k. k ++ z) n.whole ∙ simp append_assoc;
      opens = n.opens;
      same = n.same;
    }

BegunOf : List ℕ → Option Prefab → Type 0
BegunOf b none = Unit {0}
BegunOf b (some p) = Begun b p

drop_behind : (a : List ℕ) (c : ℕ) (m : List ℕ) → drop_cr (a ++ (c ∷ m)) ≡ a ++ drop_cr (c ∷ m)
unfolding drop_cr
drop_behind [] c m = refl
drop_behind (x ∷ []) c m = refl
drop_behind (x ∷ y ∷ a) c m = ap {B = List ℕ} (λ k. x ∷ k) (drop_behind (y ∷ a) c m)

begun_cut : (y : Carry) (b l : List ℕ) (q : Prefab) → OpenCut b (begin y) (drop_cr l) q
    → Begun (b ++ (l ++ codes "\n")) q
unfolding ended
begun_cut y b l q c =
    let w = with_cr l in
    let f : List ℕ = chars_of c.front in
    let m : List ℕ = q.line ++ w.end in
    let e : drop_cr l ≡ f ++ q.line = cut_chars y b (drop_cr l) q c in
    let i : l ≡ f ++ m = w.whole ∙ ap {B = List ℕ} (λ k. k ++ w.end) e ∙ append_assoc f q.line w.end in
    let s : m ≡ 36 ∷ (c.rest ++ w.end) = ap {B = List ℕ} (λ k. k ++ w.end) c.starts in
    let d : drop_cr l ≡ f ++ drop_cr m =
    ap drop_cr i ∙ ap {B = List ℕ} (λ k. drop_cr (f ++ k)) s ∙ drop_behind f 36 (c.rest ++ w.end)
    ∙ ap {B = List ℕ} (λ k. f ++ drop_cr k) (sym s)
    in
    record {
      last = m;
      rows = [];
      whole =
          ap {B = List ℕ} (λ k. b ++ (k ++ codes "\n")) i ∙ simp append_assoc
          (sym (append_assoc b f (q.line ++ (w.end ++ codes "\n")))
          ∙ ap {B = List ℕ} (λ k. k ++ (q.line ++ (w.end ++ codes "\n"))) (sym c.before));
      opens = append_cancel_left f (drop_cr m) q.line (sym d ∙ e);
      same = sym c.none;
    }

begun_opens : (y : Carry) (b l : List ℕ) → BegunOf (b ++ (l ++ codes "\n")) (left_open b (begin y) (drop_cr l))
begun_opens y b l = go (left_open b (begin y) (drop_cr l)) (open_cut b (begin y) (drop_cr l))
  where
    go : (r : Option Prefab) → Maybe (OpenCut b (begin y) (drop_cr l)) r → BegunOf (b ++ (l ++ codes "\n")) r
    go none c = unfold BegunOf in tt
    go (some q) c = unfold BegunOf Maybe in begun_cut y b l q c

ended_snoc : (eol : List ℕ) (rows : List (List ℕ)) (l : List ℕ)
    → ended eol (rows ++ (l ∷ [])) ≡ ended eol rows ++ (l ++ eol)
unfolding ended
ended_snoc eol [] l = rw append-nil
ended_snoc eol (r ∷ rows) l = ap {B = List ℕ} (λ k. r ++ (eol ++ k)) (ended_snoc eol rows l) ∙ simp append_assoc

map_snoc : (rows : List (List ℕ)) (l : List ℕ) → map drop_cr (rows ++ (l ∷ [])) ≡ map drop_cr rows ++ (drop_cr l ∷ [])
map_snoc [] l = refl
map_snoc (r ∷ rows) l = ap {B = List (List ℕ)} (λ k. drop_cr r ∷ k) (map_snoc rows l)

begun_longer : (b l : List ℕ) (p : Prefab) → Begun b p → Begun (b ++ (l ++ codes "\n")) (longer p (drop_cr l))
begun_longer b l p n =
    record {
      last = n.last;
      rows = n.rows ++ (l ∷ []);
      whole =
          ap {B = List ℕ} (λ k. k ++ (l ++ codes "\n")) n.whole ∙ simp append_assoc
          (ap {B = List ℕ} (λ k. p.before ++ (n.last ++ (codes "\n" ++ k)))
          (sym (ended_snoc (codes "\n") n.rows l)));
      opens = n.opens;
      same = map_snoc n.rows l ∙ ap {B = List (List ℕ)} (λ k. k ++ (drop_cr l ∷ [])) n.same;
    }

module _ (l b : List ℕ) (y : Carry) (ls : List (List ℕ)) where
  abbrev rest : Option Prefab → List Prefab
  rest q = prefabs_from (b ++ (l ++ codes "\n")) (carry_after y (drop_cr l)) q ls

  one_line_law : ((q : Option Prefab) → BegunOf (b ++ (l ++ codes "\n")) q
      → All (PrefabIn (b ++ (l ++ behind ls))) (rest q))
      → (p : Option Prefab) → BegunOf b p → All (PrefabIn (b ++ (l ++ behind ls))) (prefabs_from b y p (l ∷ ls))
  unfolding prefabs_from BegunOf
  one_line_law again none n = again (left_open b (begin y) (drop_cr l)) (begun_opens y b l)
  one_line_law again (some p) n =
      choose_case (All (PrefabIn (b ++ (l ++ behind ls))))
      (λ e. again (some (longer p (drop_cr l))) (begun_longer b l p n))
      (λ e. (prefab_in b (l ++ behind ls) p n, again (left_open b (begin y) (drop_cr l)) (begun_opens y b l)))

all_in : (ls : List (List ℕ)) (l b : List ℕ) (y : Carry) (p : Option Prefab) → BegunOf b p
    → All (PrefabIn (b ++ (l ++ behind ls))) (prefabs_from b y p (l ∷ ls))
unfolding prefabs_from
all_in [] l b y p n = one_line_law l b y [] (λ q k. tt) p n
all_in (m ∷ ls) l b y p n =
    let c : List ℕ = b ++ (l ++ codes "\n") in
    let y' : Carry = carry_after y (drop_cr l) in
    one_line_law l b y (m ∷ ls)
    (λ q k. subst (λ (t : List ℕ). All (PrefabIn t) (prefabs_from c y' q (m ∷ ls))) (next_line_law b l m ls)
    (all_in ls m c y' q k)) p n

pub prefabs_in : (source : List ℕ) → All (PrefabIn source) (prefabs_of source)
unfolding prefabs_of BegunOf
prefabs_in source =
    let p : Pieces = split_on "\n" source in
    subst (λ (t : List ℕ). All (PrefabIn t) (prefabs_of source)) (lines_split source)
    (all_in p.rest p.first [] Carry.Code none tt)
