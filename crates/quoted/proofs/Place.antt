-- A string on a line, and among the lines that are written.
--     Placed                what stands before it there is, but for white space, what stands before it in the source
--     placed_raw, placed_spaced     the strings of a line, in the line as written and in the respaced one
--     In                    a string on one of the lines, the newest first
use Prim.Native.Nat.{ℕ}
use mathlib.Core.Logic.{inl, inr}
use mathlib.Core.List.{List, [], ◌∷◌, ◌++◌, append_assoc, append-nil, nil≢cons}
use mathlib.Core.Path.{◌≡◌, refl, sym, ap, ◌∙◌, subst}
use Rattle.utf8.specs.Unicode.{is_white, trim, trim_end}
use Rattle.utf8.proofs.Trim.{White, end_append, end_first}
use Rattle.rules.specs.Basics.{codes}
use Rattle.rules.specs.Scan.{chars_of, begin, classify}
use Rattle.rules.specs.Spacing.{normalize_spacing, respaced}
use Rattle.rules.specs.Else.{join_else}
use Rattle.rules.specs.Assembly.{drop_empty, joined}
use Rattle.rules.specs.Quoted.{Quoted, quoted_in, Stands, All}
use Rattle.rules.specs.declared.Class.{Class}
use Rattle.rules.specs.declared.Carry.{Carry}
use Rattle.rules.proofs.ScanBytes.{label, chars_append, chars_label, chars_classify}
use Rattle.rules.proofs.Demand3.{like_joined}
use Rattle.rules.proofs.Struck.{Like, like_eq, like_refl, like_sym, ◌then◌, like_append, like_after, like_trim_end, flatten_back}
use Rattle.quoted.proofs.Strings.{Sealed, Cut, all_cut, all_map}
use Rattle.quoted.proofs.SpacedStrings.{spaced_string}
use Rattle.quoted.proofs.White.{quoted_trim}
use Rattle.quoted.proofs.Among.{Among, Lasts, among_empty}

-- the string stands on the line l, before which stands b
pub record Placed (b l : List ℕ) (x : Quoted) : Type 0 where
  pub front : List ℕ
  pub back : List ℕ
  pub whole : l ≡ front ++ (x.string ++ back)
  pub behind : Like (b ++ front) x.before
  pub is_sealed : Sealed x.string

module _ {b l : List ℕ} {x : Quoted} (p : Placed b l x) where
  -- other white space before the line
  pub placed_from : (a : List ℕ) → Like a b → Placed a l x
  placed_from a e =
      record {
        front = p.front;
        back = p.back;
        whole = p.whole;
        behind = like_append e (like_refl p.front) then p.behind;
        is_sealed = p.is_sealed;
      }

  -- more text behind the line
  pub placed_more : (m : List ℕ) → Placed b (l ++ m) x
  placed_more m =
      record {
        front = p.front;
        back = p.back ++ m;
        whole = ap {B = List ℕ} (λ r. r ++ m) p.whole ∙ append_assoc p.front (x.string ++ p.back) m
            ∙ ap {B = List ℕ} (λ r. p.front ++ r) (append_assoc x.string p.back m);
        behind = p.behind;
        is_sealed = p.is_sealed;
      }

  -- white space at the line's end goes
  pub placed_end : Placed b (trim_end l) x
  placed_end =
      let s = p.is_sealed in
      let at : (r : List ℕ) → p.front ++ (x.string ++ r) ≡ p.front ++ s.most ++ (s.right ∷ r) =
      λ r. ap {B = List ℕ} (λ k. p.front ++ (k ++ r)) s.closed
      ∙ ap {B = List ℕ} (λ k. p.front ++ k) (append_assoc s.most (s.right ∷ []) r)
      ∙ sym (append_assoc p.front s.most (s.right ∷ r))
      in
      record {
        front = p.front;
        back = trim_end p.back;
        whole =
            ap trim_end (p.whole ∙ at p.back)
            ∙ end_append (p.front ++ s.most) (s.right ∷ p.back) s.right (trim_end p.back)
            (end_first s.right p.back s.right_edge.solid)
            ∙ sym (at (trim_end p.back));
        behind = p.behind;
        is_sealed = s;
      }

-- text before the line, that belongs to the line from now on
pub placed_after : (b m l : List ℕ) (x : Quoted) → Placed (b ++ m) l x → Placed b (m ++ l) x
placed_after b m l x p =
    record {
      front = m ++ p.front;
      back = p.back;
      whole = ap {B = List ℕ} (λ r. m ++ r) p.whole ∙ sym (append_assoc m p.front (x.string ++ p.back));
      behind = like_eq (sym (append_assoc b m p.front)) then p.behind;
      is_sealed = p.is_sealed;
    }

pub placed_indent : (b w l : List ℕ) (x : Quoted) → White w → Placed b l x → Placed b (w ++ l) x
placed_indent b w l x h p = placed_after b w l x (placed_from p (b ++ w) (like_after w b h))

-- a line without characters holds no string
none_placed : (b : List ℕ) (x : Quoted) → Placed b [] x → ⊥
none_placed b x p = go p.front (p.whole ∙ ap {B = List ℕ} (λ l. p.front ++ (l ++ p.back)) p.is_sealed.opened)
  where
    go : (f : List ℕ) → [] ≡ f ++ (p.is_sealed.left ∷ (p.is_sealed.inner ++ p.back)) → ⊥
    go [] e = nil≢cons e
    go (c ∷ f) e = nil≢cons e

-- ---- the strings of a line

pub cut_line : (y : Carry) (b raw : List ℕ) (x : Quoted) (c : Cut b (begin y) raw x)
    → raw ≡ chars_of c.front ++ (x.string ++ chars_of c.back)
unfolding classify
cut_line y b raw x c =
    sym (chars_classify y raw) ∙ ap chars_of c.whole ∙ chars_append c.front (label Class.Str x.string ++ c.back)
    ∙ ap {B = List ℕ} (λ r. chars_of c.front ++ r)
    (chars_append (label Class.Str x.string) c.back
    ∙ ap {B = List ℕ} (λ r. r ++ chars_of c.back) (chars_label Class.Str x.string))

placed_cut : (y : Carry) (b raw : List ℕ) (x : Quoted) → Cut b (begin y) raw x → Placed b raw x
placed_cut y b raw x c =
    record {
      front = chars_of c.front;
      back = chars_of c.back;
      whole = cut_line y b raw x c;
      behind = like_eq (sym c.before);
      is_sealed = c.is_sealed;
    }

pub placed_raw : (y : Carry) (b raw : List ℕ) → All (Placed b raw) (quoted_in b (begin y) raw)
placed_raw y b raw =
    all_map (Cut b (begin y) raw) (Placed b raw) (placed_cut y b raw) (quoted_in b (begin y) raw)
    (all_cut b (begin y) raw)

spaced_cut : (b w l : List ℕ) (x : Quoted) → White w
    → Cut (b ++ w) (begin Carry.Code) l x → Placed b (respaced l) x
unfolding classify
spaced_cut b w l x h c =
    let s = spaced_string c.front c.back x.string c.is_sealed in
    record {
      front = s.before;
      back = s.after;
      whole = ap normalize_spacing c.whole ∙ s.whole;
      behind = like_append (like_sym (like_after w b h)) s.behind then like_eq (sym c.before);
      is_sealed = c.is_sealed;
    }

pub placed_spaced : (b raw : List ℕ) → All (Placed b (respaced (trim raw))) (quoted_in b (begin Carry.Code) raw)
placed_spaced b raw =
    let r = quoted_trim b raw in
    rw r.same
    (all_map (Cut (b ++ r.left) (begin Carry.Code) (trim raw)) (Placed b (respaced (trim raw)))
    (λ x. spaced_cut b r.left (trim raw) x r.is_white)
    (quoted_in (b ++ r.left) (begin Carry.Code) (trim raw))
    (all_cut (b ++ r.left) (begin Carry.Code) (trim raw)))

-- ---- among lines, the newest first

abbrev pub Has : Quoted → List (List ℕ) → List ℕ → Type 0
Has x ls l = Placed (flatten_back ls) l x

pub has_lasts : (x : Quoted) → Lasts (Has x)
has_lasts x =
    record {
      some = λ ls p. none_placed (flatten_back ls) x p;
      join = λ ls last line p. placed_more (placed_end p) (codes " " ++ line);
    }

abbrev pub In : List (List ℕ) → Quoted → Type 0
In ls x = Among (Has x) ls

-- a string of the line that is joined
pub joined_in : (line : List ℕ) (ls : List (List ℕ)) (x : Quoted) → Placed (flatten_back ls) line x
    → In (join_else line ls) x
unfolding join_else flatten_back is_white
joined_in line [] x p = inl p
joined_in line (last ∷ ls) x p =
    inl (placed_after (flatten_back ls) (trim_end last) (codes " " ++ line) x
    (placed_indent (flatten_back ls ++ trim_end last) (codes " ") line x (refl, tt)
    (placed_from p (flatten_back ls ++ trim_end last) (like_append (like_refl (flatten_back ls)) (like_trim_end last)))))

-- ---- in the text

stands_placed : (a l r : List ℕ) (x : Quoted) → Placed a l x → Stands (a ++ (l ++ r)) x
stands_placed a l r x p =
    record {
      before = a ++ p.front;
      after = p.back ++ r;
      whole =
          ap {B = List ℕ} (λ k. a ++ (k ++ r)) p.whole
          ∙ ap {B = List ℕ} (λ k. a ++ k)
          (append_assoc p.front (x.string ++ p.back) r
          ∙ ap {B = List ℕ} (λ k. p.front ++ k) (append_assoc x.string p.back r))
          ∙ sym (append_assoc a p.front (x.string ++ (p.back ++ r)));
      behind = p.behind.same;
    }

stands_more : (t r : List ℕ) (x : Quoted) → Stands t x → Stands (t ++ r) x
stands_more t r x s =
    record {
      before = s.before;
      after = s.after ++ r;
      whole =
          ap {B = List ℕ} (λ k. k ++ r) s.whole ∙ append_assoc s.before (x.string ++ s.after) r
          ∙ ap {B = List ℕ} (λ k. s.before ++ k) (append_assoc x.string s.after r);
      behind = s.behind;
    }

module _ (eol : List ℕ) (white : White eol) where
  stands_lines : (ls : List (List ℕ)) (x : Quoted) → In ls x → Stands (joined eol ls) x
  unfolding joined flatten_back
  stands_lines [] x h = absurd h
  stands_lines (l ∷ []) x (inl p) = subst (λ (t : List ℕ). Stands t x) (append-nil l) (stands_placed [] l [] x p)
  stands_lines (l ∷ []) x (inr h) = absurd h
  stands_lines (l ∷ m ∷ ls) x (inl p) =
      subst (λ (t : List ℕ). Stands (joined eol (m ∷ ls) ++ (eol ++ t)) x) (append-nil l)
      (subst (λ (t : List ℕ). Stands t x) (append_assoc (joined eol (m ∷ ls)) eol (l ++ []))
      (stands_placed (joined eol (m ∷ ls) ++ eol) l [] x
      (placed_from p (joined eol (m ∷ ls) ++ eol)
      (like_after eol (joined eol (m ∷ ls)) white then like_joined eol white (m ∷ ls)))))
  stands_lines (l ∷ m ∷ ls) x (inr h) = stands_more (joined eol (m ∷ ls)) (eol ++ l) x (stands_lines (m ∷ ls) x h)

  pub stands_text : (ls : List (List ℕ)) (r : List ℕ) (x : Quoted) → In ls x → Stands (joined eol (drop_empty ls) ++ r) x
  stands_text ls r x h =
      stands_more (joined eol (drop_empty ls)) r x
      (stands_lines (drop_empty ls) x (among_empty (Has x) (has_lasts x) ls h))
