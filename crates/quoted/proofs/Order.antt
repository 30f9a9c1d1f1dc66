-- The strings of a source ascend, in the source and in a text in which they stand: each is behind those before it.
--     Behind, ascending     in the source
--     Later, strings_in_order     in the text
use Prim.Native.Nat.{ℕ, ◌+◌, ◌≤◌}
use native.Mathlib.Omega.{arith}
use mathlib.Core.Bool.{Bool, false, ◌&&◌, and-false}
use mathlib.Core.Logic.{◌⊎◌, inl, inr}
use mathlib.Core.List.{List, [], ◌∷◌, ◌++◌, append_assoc, nil≢cons, tail-eq_of_cons-eq, head-eq_of_cons-eq}
use mathlib.Core.Option.{Option, none, some, map}
use mathlib.Core.Path.{◌≡◌, refl, sym, ap, ◌∙◌, subst}
use lib.Dec.{eqb}
use lib.ListN.{length, length-append}
use Rattle.utf8.specs.Unicode.{is_white}
use Rattle.rules.specs.Basics.{choose, codes, keep, pieces, split_on}
use Rattle.rules.specs.Lines.{drop_cr}
use Rattle.rules.specs.Scan.{next, chars_of, begin, carry_after, is_str}
use Rattle.rules.specs.Demand3.{strike_white}
use Rattle.rules.specs.Prefabs.{in_code_mode, opens}
use Rattle.rules.specs.Quoted.{Quoted, closing, found, quoted_at, quoted_in, quoted_from, quoted_of, Stands, All}
use Rattle.rules.specs.declared.Carry.{Carry}
use Rattle.rules.specs.declared.Mark.{Mark}
use Rattle.rules.proofs.Choose.{choose_case}
use Rattle.rules.proofs.Struck.{strike_white_append}
use Rattle.quoted.proofs.Strings.{Sealed, Within, Reads, goes, ends, reads, not_code, open_mark, Cut, all_cut, all_append, all_map}
use Rattle.quoted.proofs.Place.{cut_line}
use Rattle.quoted.proofs.Source.{with_cr}

-- m starts with l
pub record From (l m : List ℕ) : Type 0 where
  pub gap : List ℕ
  pub is : m ≡ l ++ gap

from_more : {l m : List ℕ} (k : List ℕ) → From (l ++ k) m → From l m
from_more {l} k f = record { gap = k ++ f.gap; is = f.is ∙ append_assoc l k f.gap }

-- y is behind all of x
abbrev pub Behind : Quoted → Quoted → Type 0
Behind x y = From (x.before ++ x.string) y.before

abbrev pub Ascending : List Quoted → Type 0
Ascending [] = Unit
Ascending (x ∷ xs) = All (Behind x) xs × Ascending xs

ascending_append : (xs ys : List Quoted) → Ascending xs → Ascending ys → All (λ (x : Quoted). All (Behind x) ys) xs
    → Ascending (xs ++ ys)
ascending_append [] ys a b h = b
ascending_append (x ∷ xs) ys a b h = (all_append (Behind x) xs ys a.0 h.0, ascending_append xs ys a.1 b h.1)

-- ---- what a line's strings stand behind

from_line : (b : List ℕ) (t : Mark) (s : List ℕ) → All (λ (y : Quoted). From b y.before) (quoted_in b t s)
from_line b t s =
    all_map (Cut b t s) (λ (y : Quoted). From b y.before)
    (λ y c. record { gap = chars_of c.front; is = c.before })
    (quoted_in b t s) (all_cut b t s)

from_lines : (b : List ℕ) (y : Carry) (ls : List (List ℕ))
    → All (λ (x : Quoted). From b x.before) (quoted_from b y ls)
unfolding quoted_from
from_lines b y [] = tt
from_lines b y (l ∷ ls) =
    let c : List ℕ = b ++ (l ++ codes "\n") in
    all_append (λ (x : Quoted). From b x.before) (quoted_in b (begin y) (drop_cr l))
    (quoted_from c (carry_after y (drop_cr l)) ls)
    (from_line b (begin y) (drop_cr l))
    (all_map (λ (x : Quoted). From c x.before) (λ (x : Quoted). From b x.before)
    (λ x f. from_more (l ++ codes "\n") f)
    (quoted_from c (carry_after y (drop_cr l)) ls) (from_lines c (carry_after y (drop_cr l)) ls))

-- ---- none opens inside a string

shut : (t u : Mark) → Within t → opens is_str t u ≡ false
unfolding opens
shut t u w = rw (not_code t.mode w.mode) (ap (λ (b : Bool). b && is_str u.class) (and-false (eqb t.more 0)))

none_at : (b : List ℕ) (t : Mark) (c : ℕ) (s : List ℕ) → Within t → quoted_at b t (next t (c ∷ s)) c s ≡ []
unfolding quoted_at choose
none_at b t c s w = rw (shut t (next t (c ∷ s)) w)

-- those behind the mark t are behind the string that it is within, if that is closed
BehindAll : List ℕ → List Quoted → Option (List ℕ) → Type 0
BehindAll b ys none = Unit {0}
BehindAll b ys (some l) = All (λ (y : Quoted). From (b ++ l) y.before) ys

behind_cons : (b : List ℕ) (c : ℕ) (ys : List Quoted) (r : Option (List ℕ)) → BehindAll (b ++ (c ∷ [])) ys r
    → BehindAll b ys (map (λ (l : List ℕ). c ∷ l) r)
unfolding BehindAll
behind_cons b c ys none h = tt
behind_cons b c ys (some l) h = rw append_assoc at h

behind_string : (b : List ℕ) (t : Mark) (s : List ℕ) → Within t → BehindAll b (quoted_in b t s) (closing t s)
unfolding closing quoted_in BehindAll
behind_string b t [] w = tt
behind_string b t (c ∷ s) w =
    rw (none_at b t c s w) (go (reads t c s w) (behind_string (b ++ (c ∷ [])) (next t (c ∷ s)) s))
  where
    u : Mark
    u = next t (c ∷ s)

    ys : List Quoted
    ys = quoted_in (b ++ (c ∷ [])) u s

    go : Reads c u → (Within u → BehindAll (b ++ (c ∷ [])) ys (closing u s))
        → BehindAll b ys (choose (in_code_mode u.mode) (some (c ∷ []))
        (map (λ (l : List ℕ). c ∷ l) (closing u s)))
    go (goes v) i = unfold choose in rw (not_code u.mode v.mode) (behind_cons b c ys (closing u s) (i v))
    go (ends q e k m) i = unfold choose BehindAll in rw m (from_line (b ++ (c ∷ [])) u s)

-- ---- in the source

ascending_found : (b : List ℕ) (c : ℕ) (r : Option (List ℕ)) (ys : List Quoted) → BehindAll (b ++ (c ∷ [])) ys r
    → Ascending ys
    → Ascending (found b c r ++ ys)
unfolding BehindAll
ascending_found b c none ys h a = a
ascending_found b c (some l) ys h a = (rw append_assoc at h, a)

ascending_in : (b : List ℕ) (t : Mark) (s : List ℕ) → Ascending (quoted_in b t s)
unfolding quoted_in quoted_at
ascending_in b t [] = tt
ascending_in b t (c ∷ s) =
    let u : Mark = next t (c ∷ s) in
    let ys : List Quoted = quoted_in (b ++ (c ∷ [])) u s in
    let a : Ascending ys = ascending_in (b ++ (c ∷ [])) u s in
    choose_case (λ (xs : List Quoted). Ascending (xs ++ ys))
    (λ h. ascending_found b c (closing u s) ys (behind_string (b ++ (c ∷ [])) u s (open_mark t c s h).within) a)
    (λ h. a)

-- a string of a line, and those of the lines behind
behind_line : (y : Carry) (b l : List ℕ) (ys : List Quoted)
    → All (λ (z : Quoted). From (b ++ (l ++ codes "\n")) z.before) ys
    → (x : Quoted) → Cut b (begin y) (drop_cr l) x → All (Behind x) ys
behind_line y b l ys h x c =
    let w = with_cr l in
    let f : List ℕ = chars_of c.front in
    let k : List ℕ = chars_of c.back ++ (w.end ++ codes "\n") in
    let e : drop_cr l ≡ f ++ (x.string ++ chars_of c.back) = cut_line y b (drop_cr l) x c in
    let i : b ++ (l ++ codes "\n") ≡ (x.before ++ x.string) ++ k =
    ap {B = List ℕ} (λ m. b ++ (m ++ codes "\n")) (w.whole ∙ ap {B = List ℕ} (λ m. m ++ w.end) e)
    ∙ rw c.before (simp append_assoc)
    in
    all_map (λ (z : Quoted). From (b ++ (l ++ codes "\n")) z.before) (Behind x)
    (λ z g. from_more k (subst (λ (m : List ℕ). From m z.before) i g)) ys h

ascending_from : (b : List ℕ) (y : Carry) (ls : List (List ℕ)) → Ascending (quoted_from b y ls)
unfolding quoted_from
ascending_from b y [] = tt
ascending_from b y (l ∷ ls) =
    let c : List ℕ = b ++ (l ++ codes "\n") in
    let y' : Carry = carry_after y (drop_cr l) in
    let xs : List Quoted = quoted_in b (begin y) (drop_cr l) in
    let ys : List Quoted = quoted_from c y' ls in
    ascending_append xs ys (ascending_in b (begin y) (drop_cr l)) (ascending_from c y' ls)
    (all_map (Cut b (begin y) (drop_cr l)) (λ (x : Quoted). All (Behind x) ys)
    (behind_line y b l ys (from_lines c y' ls)) xs (all_cut b (begin y) (drop_cr l)))

pub ascending : (source : List ℕ) → Ascending (quoted_of source)
unfolding quoted_of
ascending source = ascending_from [] Carry.Code (pieces (split_on "\n" source))

-- ---- in a text

-- one of two beginnings of a text starts with the other
record Over (l m : List ℕ) : Type 0 where
  first : ℕ
  rest : List ℕ
  is : l ≡ m ++ (first ∷ rest)

compare : (l m a b : List ℕ) → l ++ a ≡ m ++ b → From l m ⊎ Over l m
compare [] m a b e = inl (record { gap = m; is = refl })
compare (c ∷ l) [] a b e = inr (record { first = c; rest = l; is = refl })
compare (c ∷ l) (d ∷ m) a b e = go (compare l m a b (tail-eq_of_cons-eq e))
  where
    h : c ≡ d
    h = head-eq_of_cons-eq e

    go : From l m ⊎ Over l m → From (c ∷ l) (d ∷ m) ⊎ Over (c ∷ l) (d ∷ m)
    go (inl f) = inl (record { gap = f.gap; is = rw h (ap {B = List ℕ} (λ k. d ∷ k) f.is) })
    go (inr o) = inr (record { first = o.first; rest = o.rest; is = rw h (ap {B = List ℕ} (λ k. d ∷ k) o.is) })

-- how many characters other than White_Space
abbrev solid : List ℕ → ℕ
solid l = length (strike_white l)

solid_append : (l m : List ℕ) → solid (l ++ m) ≡ solid l + solid m
solid_append l m = ap length (strike_white_append l m) ∙ length-append (strike_white l) (strike_white m)

solid_last : (k : List ℕ) (r : ℕ) → is_white r ≡ false → solid (k ++ (r ∷ [])) ≡ solid k + 1
unfolding strike_white keep
solid_last k r h = solid_append k (r ∷ []) ∙ rw h

-- a beginning of a text that ends in such a character has fewer of them
fewer : (k : List ℕ) (r : ℕ) (m : List ℕ) (c : ℕ) (g : List ℕ) → is_white r ≡ false → k ++ (r ∷ []) ≡ m ++ (c ∷ g)
    → solid m + 1 ≤ solid (k ++ (r ∷ []))
unfolding strike_white keep
fewer k r [] c g h e = omega (arith, solid_last k r h)
fewer [] r (d ∷ m) c g h e = absurd (none_empty m c g (tail-eq_of_cons-eq e))
  where
    none_empty : (m : List ℕ) (c : ℕ) (g : List ℕ) → [] ≡ m ++ (c ∷ g) → ⊥
    none_empty [] c g e = nil≢cons e
    none_empty (d ∷ m) c g e = nil≢cons e
fewer (x ∷ k) r (d ∷ m) c g h e =
    let i = fewer k r m c g h (tail-eq_of_cons-eq e) in
    let y : solid (d ∷ []) ≡ solid (x ∷ []) = ap (λ (z : ℕ). solid (z ∷ [])) (sym (head-eq_of_cons-eq e)) in
    omega (arith, i, y, solid_append (d ∷ []) m, solid_append (x ∷ []) (k ++ (r ∷ [])))

-- a string that stands behind another in the source stands behind it in the text
in_order : (text : List ℕ) (x y : Quoted) → Sealed x.string → Behind x y → (s : Stands text x) (t : Stands text y)
    → From (s.before ++ x.string) t.before
in_order text x y w b s t =
    go (compare (s.before ++ x.string) t.before s.after (y.string ++ t.after)
    (append_assoc s.before x.string s.after ∙ sym s.whole ∙ t.whole))
  where
    go : From (s.before ++ x.string) t.before ⊎ Over (s.before ++ x.string) t.before
        → From (s.before ++ x.string) t.before
    go (inl f) = f
    go (inr o) =
        let k : List ℕ = s.before ++ w.most in
        let e : s.before ++ x.string ≡ k ++ (w.right ∷ []) =
        ap {B = List ℕ} (λ l. s.before ++ l) w.closed ∙ sym (append_assoc s.before w.most (w.right ∷ [])) in
        let less = fewer k w.right t.before o.first o.rest w.right_edge.solid (sym e ∙ o.is) in
        absurd (omega (
          arith,
          less,
          ap solid e,
          ap length s.behind,
          ap length t.behind ∙ ap solid b.is,
          solid_append s.before x.string,
          solid_append (x.before ++ x.string) b.gap,
          solid_append x.before x.string,
        ))

abbrev IsSealed : Quoted → Type 0
IsSealed x = Sealed x.string

sealed_from : (b : List ℕ) (y : Carry) (ls : List (List ℕ)) → All IsSealed (quoted_from b y ls)
unfolding quoted_from
sealed_from b y [] = tt
sealed_from b y (l ∷ ls) =
    let xs : List Quoted = quoted_in b (begin y) (drop_cr l) in
    let c : List ℕ = b ++ (l ++ codes "\n") in
    let y' : Carry = carry_after y (drop_cr l) in
    all_append IsSealed xs (quoted_from c y' ls)
    (all_map (Cut b (begin y) (drop_cr l)) IsSealed (λ x k. k.is_sealed) xs (all_cut b (begin y) (drop_cr l)))
    (sealed_from c y' ls)

pub record Later (text : List ℕ) (x y : Quoted) : Type 0 where
  pub behind : (s : Stands text x) (t : Stands text y) → From (s.before ++ x.string) t.before

-- wherever two of them stand in the text as C-22 says, the later is behind the earlier
abbrev pub InOrder : List ℕ → List Quoted → Type 0
InOrder text [] = Unit
InOrder text (x ∷ xs) = All (Later text x) xs × InOrder text xs

in_order_of : (text : List ℕ) (xs : List Quoted) → All IsSealed xs → Ascending xs → InOrder text xs
in_order_of text [] w a = tt
in_order_of text (x ∷ xs) w a = (
  all_map (Behind x) (Later text x) (λ y b. record { behind = in_order text x y w.0 b }) xs
      a.0,
  in_order_of text xs w.1 a.1,
)

pub strings_in_order : (text source : List ℕ) → InOrder text (quoted_of source)
unfolding quoted_of
strings_in_order text source =
    in_order_of text (quoted_of source) (sealed_from [] Carry.Code (pieces (split_on "\n" source))) (ascending source)
