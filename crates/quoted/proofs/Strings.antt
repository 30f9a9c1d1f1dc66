-- The strings of a line among its cells.
--     Sealed            a text from quote to quote
--     reads             one character of a string: it goes on, or this is the quote that ends it
--     Cut, all_cut      each string of a line is a row of cells of class Str, from quote to quote
use Prim.Native.Nat.{ℕ}
use mathlib.Core.Bool.{Bool, true, false}
use mathlib.Core.List.{List, [], ◌∷◌, ◌++◌, append_assoc, append-nil}
use mathlib.Core.Option.{Option, none, some, map}
use mathlib.Core.Path.{◌≡◌, refl, sym, ap, ◌∙◌}
use lib.Dec.{eqb}
use borrow.Author.Tests.{eqb-true}
use Rattle.utf8.specs.Unicode.{is_white}
use Rattle.utf8.proofs.Tests.{and_left}
use Rattle.rules.specs.Basics.{choose, is, is_blank, is_closer, starts_with}
use Rattle.rules.specs.Scan.{quote, long, in_code, in_quoted, in_interp, in_inner, mark_at, next_of, next, Cell, cell, chars_of, scan, is_str}
use Rattle.rules.specs.Prefabs.{in_code_mode, opens}
use Rattle.rules.specs.Quoted.{Quoted, closing, found, quoted_at, quoted_in, All}
use Rattle.rules.specs.declared.Class.{Class}
use Rattle.rules.specs.declared.Mode.{Mode}
use Rattle.rules.specs.declared.Mark.{Mark}
use Rattle.rules.proofs.Choose.{choose_case}
use Rattle.rules.proofs.ScanBytes.{label}
use Rattle.rules.proofs.Prefix.{never}
use Rattle.quoted.proofs.Marks.{opens_code}

-- ---- of all members

pub all_append : {A : Type 0} (P : A → Type 0) (xs ys : List A) → All P xs → All P ys → All P (xs ++ ys)
all_append P [] ys h k = k
all_append P (x ∷ xs) ys h k = (h.0, all_append P xs ys h.1 k)

pub all_map : {A : Type 0} (P Q : A → Type 0) → ((x : A) → P x → Q x) → (xs : List A) → All P xs → All Q xs
all_map P Q f [] h = tt
all_map P Q f (x ∷ xs) h = (f x h.0, all_map P Q f xs h.1)

-- ---- from quote to quote

-- a character that spacing keeps, and before which it keeps the space behind a comma
pub record Edge (c : ℕ) : Type 0 where
  pub solid : is_white c ≡ false
  pub full : is_blank c ≡ false
  pub space : is " " c ≡ false
  pub opener : is_closer c ≡ false

pub record Sealed (l : List ℕ) : Type 0 where
  pub left : ℕ
  pub inner : List ℕ
  pub opened : l ≡ left ∷ inner
  pub left_edge : Edge left
  pub right : ℕ
  pub most : List ℕ
  pub closed : l ≡ most ++ (right ∷ [])
  pub right_edge : Edge right

pub edge_quote : (q : Bool) → Edge (quote q)
unfolding is_white
edge_quote true = record { solid = refl; full = refl; space = refl; opener = refl }
edge_quote false = record { solid = refl; full = refl; space = refl; opener = refl }

pub quote_solid : (q : Bool) → is_white (quote q) ≡ false
quote_solid q = (edge_quote q).solid

-- ---- marks of a string

abbrev pub in_string : Mode → Bool
in_string Mode.Code = false
in_string (Mode.Quoted q) = true
in_string (Mode.Interp q d) = true
in_string (Mode.Inner q d k) = true
in_string Mode.Line = false
in_string (Mode.Block d) = false
in_string Mode.Prefab = false

pub record Within (t : Mark) : Type 0 where
  pub class : t.class ≡ Class.Str
  pub mode : in_string t.mode ≡ true

pub data Reads (c : ℕ) (u : Mark) : Type 0 where
  goes : Within u → Reads c u
  ends : (q : Bool) → c ≡ quote q → u.class ≡ Class.Str → u.mode ≡ Mode.Code → Reads c u

go_on : (c n : ℕ) (m : Mode) → in_string m ≡ true → Reads c (long n Class.Str m)
go_on c n m h = goes (record { class = refl; mode = h })

reads_mark : (m : Mode) (c : ℕ) (s : List ℕ) → in_string m ≡ true → Reads c (mark_at m (c ∷ s))
unfolding in_quoted in_interp in_inner starts_with
reads_mark Mode.Code c s h = never h refl
reads_mark (Mode.Quoted q) c s h =
    choose_case (Reads c) (λ i. go_on c 1 (Mode.Quoted q) refl)
    (λ i. choose_case (Reads c) (λ j. go_on c 1 (Mode.Interp q 1) refl)
    (λ j. choose_case (Reads c) (λ k. ends q (eqb-true c (quote q) (and_left (eqb c (quote q)) true k)) refl refl)
    (λ k. go_on c 0 (Mode.Quoted q) refl)))
reads_mark (Mode.Interp q d) c s h =
    choose_case (Reads c) (λ i. go_on c 1 _ refl)
    (λ i. choose_case (Reads c) (λ j. go_on c 0 _ refl)
    (λ j. choose_case (Reads c) (λ k. go_on c 0 _ refl)
    (λ k. choose_case (Reads c) (λ l. go_on c 0 _ refl)
    (λ l. choose_case (Reads c) (λ m. choose_case (Reads c) (λ n. go_on c 0 _ refl) (λ n. go_on c 0 _ refl))
    (λ m. go_on c 0 _ refl)))))
reads_mark (Mode.Inner q d k) c s h =
    choose_case (Reads c) (λ i. go_on c 1 _ refl)
    (λ i. choose_case (Reads c) (λ j. go_on c 0 _ refl)
    (λ j. go_on c 0 _ refl))
reads_mark Mode.Line c s h = never h refl
reads_mark (Mode.Block d) c s h = never h refl
reads_mark Mode.Prefab c s h = never h refl

reads_next : (n : ℕ) (k : Class) (m : Mode) (c : ℕ) (s : List ℕ) → k ≡ Class.Str → in_string m ≡ true
    → Reads c (next_of n k m (c ∷ s))
reads_next ℕ.zero k m c s e h = reads_mark m c s h
reads_next (ℕ.suc n) k m c s e h = goes (record { class = e; mode = h })

pub reads : (t : Mark) (c : ℕ) (s : List ℕ) → Within t → Reads c (next t (c ∷ s))
reads t c s w = reads_next t.more t.class t.mode c s w.class w.mode

-- no mode of a string is code
pub not_code : (m : Mode) → in_string m ≡ true → in_code_mode m ≡ false
not_code Mode.Code h = sym h
not_code (Mode.Quoted q) h = refl
not_code (Mode.Interp q d) h = refl
not_code (Mode.Inner q d k) h = refl
not_code Mode.Line h = refl
not_code (Mode.Block d) h = refl
not_code Mode.Prefab h = refl

-- ---- where a string opens

pub record Opened (c : ℕ) (u : Mark) : Type 0 where
  pub within : Within u
  pub left : Bool
  pub at : c ≡ quote left

Opening : ℕ → Mark → Type 0
Opening c u = is_str u.class ≡ true → Opened c u

no_opening : (c n : ℕ) (k : Class) (m : Mode) → is_str k ≡ false → Opening c (long n k m)
unfolding Opening
no_opening c n k m e h = never h e

code_opening : (c : ℕ) (s : List ℕ) → Opening c (in_code (c ∷ s))
unfolding in_code starts_with Opening
code_opening c s =
    choose_case (Opening c) (λ i. no_opening c 1 Class.Code Mode.Code refl)
    (λ i. choose_case (Opening c)
    (λ j e. record {
      within = record { class = refl; mode = refl };
      left = true;
      at = eqb-true c 34
          (and_left (eqb c 34) true j);
    })
    (λ j. choose_case (Opening c)
    (λ k e. record {
      within = record { class = refl; mode = refl };
      left = false;
      at = eqb-true c 39
          (and_left (eqb c 39) true k);
    })
    (λ k. choose_case (Opening c) (λ l. no_opening c 0 Class.LineComment Mode.Line refl)
    (λ l. choose_case (Opening c) (λ m. no_opening c 1 Class.BlockComment (Mode.Block 1) refl)
    (λ m. choose_case (Opening c) (λ n. no_opening c 3 Class.Prefab Mode.Prefab refl)
    (λ n. no_opening c 0 Class.Code Mode.Code refl))))))

pub open_mark : (t : Mark) (c : ℕ) (s : List ℕ) → opens is_str t (next t (c ∷ s)) ≡ true → Opened c (next t (c ∷ s))
unfolding Opening
open_mark t c s h = let r = opens_code is_str t (c ∷ s) h in rw r.is (code_opening c s r.class)

-- ---- a string's cells

-- the rest of a string, up to the quote that ends it
pub record Rest (t : Mark) (s l : List ℕ) : Type 0 where
  pub back : List Cell
  pub cells : scan t s ≡ label Class.Str l ++ back
  pub right : Bool
  pub most : List ℕ
  pub closed : l ≡ most ++ (quote right ∷ [])

RestOf : Mark → List ℕ → Option (List ℕ) → Type 0
RestOf t s none = Unit {0}
RestOf t s (some l) = Rest t s l

rest_cons : (t : Mark) (c : ℕ) (s : List ℕ) (r : Option (List ℕ)) → (next t (c ∷ s)).class ≡ Class.Str
    → RestOf (next t (c ∷ s)) s r → RestOf t (c ∷ s) (map (λ (l : List ℕ). c ∷ l) r)
unfolding RestOf scan label
rest_cons t c s none e h = tt
rest_cons t c s (some l) e h =
    record {
      back = h.back;
      cells =
          ap {B = List Cell} (λ k. cell c k ∷ scan (next t (c ∷ s)) s) e
          ∙ ap {B = List Cell} (λ xs. cell c Class.Str ∷ xs) h.cells;
      right = h.right;
      most = c ∷ h.most;
      closed = ap {B = List ℕ} (λ m. c ∷ m) h.closed;
    }

rest_of : (t : Mark) (s : List ℕ) → Within t → RestOf t s (closing t s)
unfolding closing RestOf
rest_of t [] w = tt
rest_of t (c ∷ s) w = go (reads t c s w) (rest_of (next t (c ∷ s)) s)
  where
    go : Reads c (next t (c ∷ s)) → (Within (next t (c ∷ s)) → RestOf (next t (c ∷ s)) s (closing (next t (c ∷ s)) s))
        → RestOf t (c ∷ s) (closing t (c ∷ s))
    go (goes v) i =
        unfold choose in rw (not_code (next t (c ∷ s)).mode v.mode)
        (rest_cons t c s (closing (next t (c ∷ s)) s) v.class (i v))
    go (ends q e k m) i = unfold choose scan label in
        rw m
        (record {
          back = scan (next t (c ∷ s)) s;
          cells = ap {B = List Cell} (λ j. cell c j ∷ scan (next t (c ∷ s)) s) k;
          right = q;
          most = [];
          closed = ap {B = List ℕ} (λ j. j ∷ []) e;
        })

-- a string of a line that goes on with s behind the mark t, and before which b stands
pub record Cut (b : List ℕ) (t : Mark) (s : List ℕ) (x : Quoted) : Type 0 where
  pub front : List Cell
  pub back : List Cell
  pub whole : scan t s ≡ front ++ (label Class.Str x.string ++ back)
  pub before : x.before ≡ b ++ chars_of front
  pub is_sealed : Sealed x.string

cut_found : (b : List ℕ) (t : Mark) (c : ℕ) (s : List ℕ) → Opened c (next t (c ∷ s)) → (r : Option (List ℕ))
    → RestOf (next t (c ∷ s)) s r → All (Cut b t (c ∷ s)) (found b c r)
unfolding RestOf scan label chars_of
cut_found b t c s o none h = tt
cut_found b t c s o (some l) h = (
  record {
    front = [];
    back = h.back;
    whole =
        ap {B = List Cell} (λ k. cell c k ∷ scan (next t (c ∷ s)) s) o.within.class
        ∙ ap {B = List Cell} (λ xs. cell c Class.Str ∷ xs) h.cells;
    before = sym (append-nil b);
    is_sealed =
        record {
          left = quote o.left;
          inner = l;
          opened = ap {B = List ℕ} (λ j. j ∷ l) o.at;
          left_edge = edge_quote o.left;
          right = quote h.right;
          most = c ∷ h.most;
          closed = ap {B = List ℕ} (λ m. c ∷ m) h.closed;
          right_edge = edge_quote h.right;
        };
  },
  tt,
)

cut_at : (b : List ℕ) (t : Mark) (c : ℕ) (s : List ℕ)
    → All (Cut b t (c ∷ s)) (quoted_at b t (next t (c ∷ s)) c s)
unfolding quoted_at
cut_at b t c s =
    choose_case (All (Cut b t (c ∷ s)))
    (λ h. let o = open_mark t c s h in cut_found b t c s o (closing (next t (c ∷ s)) s)
    (rest_of (next t (c ∷ s)) s o.within))
    (λ h. tt)

cut_later : (b : List ℕ) (t : Mark) (c : ℕ) (s : List ℕ) (x : Quoted)
    → Cut (b ++ (c ∷ [])) (next t (c ∷ s)) s x → Cut b t (c ∷ s) x
unfolding scan chars_of
cut_later b t c s x h =
    record {
      front = cell c (next t (c ∷ s)).class ∷ h.front;
      back = h.back;
      whole = ap {B = List Cell} (λ xs. cell c (next t (c ∷ s)).class ∷ xs) h.whole;
      before = h.before ∙ append_assoc b (c ∷ []) (chars_of h.front);
      is_sealed = h.is_sealed;
    }

pub all_cut : (b : List ℕ) (t : Mark) (s : List ℕ) → All (Cut b t s) (quoted_in b t s)
unfolding quoted_in
all_cut b t [] = tt
all_cut b t (c ∷ s) =
    all_append (Cut b t (c ∷ s)) (quoted_at b t (next t (c ∷ s)) c s)
    (quoted_in (b ++ (c ∷ [])) (next t (c ∷ s)) s) (cut_at b t c s)
    (all_map (Cut (b ++ (c ∷ [])) (next t (c ∷ s)) s) (Cut b t (c ∷ s))
    (cut_later b t c s) (quoted_in (b ++ (c ∷ [])) (next t (c ∷ s)) s)
    (all_cut (b ++ (c ∷ [])) (next t (c ∷ s)) s))
