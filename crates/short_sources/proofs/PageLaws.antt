-- A page, source by source; and all pages.
--     Filling    the loop of `fill`: what stands in the page, then what is printed from the next place on
--     all_pages  the pages from the start on are what is printed for all sources
use Prim.Native.Nat.{ℕ, zero, suc, ◌+◌, ◌-◌, ◌≤◌, ◌<◌}
use native.Mathlib.Nat.{not-suc-le-zero, le_of_suc-le-suc}
use native.Mathlib.Omega.{arith}
use Rattle.std.specs.Prelude.{Option, Some, None}
use mathlib.Core.List.{List, [], ◌∷◌, ◌++◌, append_assoc, append-nil}
use mathlib.Core.Path.{◌≡◌, refl, sym, ap, ◌∙◌}
use lib.ListN.{length, get_or, take, drop, length-append, length-drop}
use lib.Seq.{length-take-le, take-append-add, drop-cons}
use Rattle.buffer.specs.Buffer.{over, Appended}
use Rattle.buffer.proofs.OverLaws.{length_over}
use Rattle.buffer.proofs.AgreeLaws.{agree_over, agree_text}
use Rattle.short_texts.specs.declared.Place.{Place}
use Rattle.short_texts.specs.declared.Given.{Given}
use Rattle.short_texts.specs.Texts.{texts, Short}
use Rattle.short_texts.specs.Steps.{begin, step_of}
use Rattle.short_texts.proofs.RunLaws.{whole_run, gave, told_end, few_in, few_at, few_out, few_all}
use Rattle.short_sources.specs.declared.page.Page.{Page}
use Rattle.short_sources.specs.Printed.{printed, printed_all, sources, printed_from, printed_next, left, Added, Paged, Pages}

drop_past : (n : ℕ) (l : List (List ℕ)) → length l ≤ n → drop n l ≡ []
drop_past zero [] h = refl
drop_past zero (x ∷ l) h = absurd (not-suc-le-zero h)
drop_past (suc n) [] h = refl
drop_past (suc n) (x ∷ l) h = drop_past n l (le_of_suc-le-suc h)

-- a line that fits stands whole behind what is there
appended_take : (x y : List ℕ) (at : ℕ) (l : List ℕ) (r : ℕ) → Appended x y at l r → r ≤ length x
    → take r y ≡ take at x ++ l
appended_take x y at l r w h =
    let k : length (take at x) ≡ at = length-take-le at x (omega (arith, w.next)) in
    let e : r ≡ length (take at x) + length l = omega (arith, w.next) in
    let f : length l ≤ length (over (drop at x) l) =
    omega (arith, w.next, length_over (drop at x) l, length-drop at x) in
    rw (w.is, e)
    (take-append-add (take at x) (over (drop at x) l) (length l)
    ∙ ap (λ (t : List ℕ). take at x ++ t) (agree_text (over (drop at x) l) l f (agree_over (drop at x) l)))

appended_length : (x y : List ℕ) (at : ℕ) (l : List ℕ) (r : ℕ) → Appended x y at l r → at ≤ length x
    → length y ≡ length x
appended_length x y at l r w h =
    ap length w.is
    ∙ length-append (take at x) (over (drop at x) l)
    ∙ omega (arith, length-take-le at x h, length_over (drop at x) l, length-drop at x)

-- ---- a place's source

module _ (most : ℕ) (q : Place) (g : Given) (e : Some g ≡ step_of q) where
  -- it is short
  pub given_short : Short (take g.size g.text)
  given_short = let r = gave q g e in rw r.is (whole_run.only q.number r.within)

  pub given_fits : g.size ≤ length g.text
  given_fits = (gave q g e).fits

  -- the texts that are left become fewer
  pub given_less : length texts - g.next.number < length texts - q.number
  given_less = let r = gave q g e in omega (arith, r.within, r.next)

  module _ (few : g.size ≤ most) where
    given_in_law : q.number < length (sources most)
    given_in_law = let r = gave q g e in few_in most q.number r.within (omega (arith, r.size))

    given_next : printed_from most q ≡ printed (take g.size g.text) ++ printed_from most g.next
    unfolding printed_all
    given_next =
        let r = gave q g e in
        let k : ℕ = q.number in
        let t : get_or (sources most) k [] ≡ take g.size g.text =
        few_at most k r.within (omega (arith, r.size)) ∙ sym r.is in
        let n : suc k ≡ g.next.number = omega (arith, r.next) in
        ap printed_all (drop-cons (sources most) k [] given_in_law)
        ∙ ap (λ (s : List ℕ). printed s ++ printed_all (drop (suc k) (sources most))) t
        ∙ ap (λ (i : ℕ). printed (take g.size g.text) ++ printed_all (drop i (sources most))) n

  given_out : most < g.size → printed_from most q ≡ []
  unfolding printed_all
  given_out far =
      let r = gave q g e in
      ap printed_all
      (drop_past q.number (sources most) (few_out most q.number r.within (omega (arith, r.size))))

given_none : (most : ℕ) (q : Place) → most ≤ 6 → None ≡ step_of q → printed_from most q ≡ []
unfolding printed_all
given_none most q few e =
    ap printed_all (drop_past q.number (sources most) (omega (arith, told_end q e, few_all most few)))

-- ---- `fill`

pub record Filling (most : ℕ) (p : Place) (page₀ page : List ℕ) (size : ℕ) (q : Place) : Type 0 where
  pub long : length page ≡ length page₀
  pub within : size ≤ length page
  pub is : printed_from most p ≡ take size page ++ printed_from most q
  pub near : length (sources most) - q.number ≤ length (sources most) - p.number
  pub moved : 0 < size → length (sources most) - q.number < length (sources most) - p.number

pub filling_start : (most : ℕ) (p : Place) (page : List ℕ) → Filling most p page page 0 p
filling_start most p page =
    record { long = refl; within = omega arith; is = refl; near = omega arith; moved = λ h. absurd (omega arith) }

module _
    (most : ℕ) (p : Place) (page₀ page : List ℕ) (size : ℕ) (q : Place) (f : Filling most p page₀ page size q)
  where
    pub filling_more : (g : Given) → Some g ≡ step_of q → g.size ≤ most → 512 ≤ length page - size
        → (page' : List ℕ) (r : ℕ) → Added page page' size (take g.size g.text) r
        → Filling most p page₀ page' r g.next
    filling_more g e few room page' r w =
        let a = w.appended in
        let l : length page' ≡ length page = appended_length page page' size _ r a f.within in
        let b : r ≤ length page = omega (arith, w.short) in
        let n = (gave q g e).next in
        let c : length (sources most) - g.next.number < length (sources most) - q.number =
        omega (arith, n, given_in_law most q g e few) in
        record {
          long = l ∙ f.long;
          within = omega arith;
          is = f.is
              ∙ ap (λ (t : List ℕ). take size page ++ t) (given_next most q g e few)
              ∙ sym (append_assoc (take size page) (printed (take g.size g.text)) (printed_from most g.next))
              ∙ ap (λ (t : List ℕ). t ++ printed_from most g.next) (sym (appended_take page page' size _ r a b));
          near = omega (arith, f.near);
          moved = λ h. omega (arith, f.near);
        }

    last_page : printed_from most q ≡ [] → Paged most p page (record { size = size; next = None })
    last_page z =
        record {
          within = f.within;
          is = f.is ∙ ap (λ (t : List ℕ). take size page ++ t) z;
          nearer = omega arith;
        }

    pub filling_out : (g : Given) → Some g ≡ step_of q → most < g.size
        → Paged most p page (record { size = size; next = None })
    filling_out g e far = last_page (given_out most q g e far)

    pub filling_end : most ≤ 6 → None ≡ step_of q → Paged most p page (record { size = size; next = None })
    filling_end few e = last_page (given_none most q few e)

    pub filling_full : 512 ≤ length page₀ → length page - size < 512
        → Paged most p page (record { size = size; next = Some q })
    filling_full room full =
        let n = f.moved (omega (arith, f.long)) in record { within = f.within; is = f.is; nearer = omega arith }

-- ---- `main`

pub page_nearer : (most : ℕ) (p : Place) (n : Option Place) (page : List ℕ) (r : Page) → Paged most p page r
    → n ≡ Some p → left most r.next < left most n
page_nearer most p n page r a e = rw e a.nearer

-- ---- all pages

from_place : {most : ℕ} {p : Place} {w : List ℕ} → Pages most p w → w ≡ printed_from most p
from_place {most} (Pages.last {page = page} {r = r} a h) =
    sym (a.is ∙ ap (λ (n : Option Place). take r.size page ++ printed_next most n) h ∙ append-nil (take r.size page))
from_place {most} (Pages.more {page = page} {r = r} a h ps) =
    ap (λ (t : List ℕ). take r.size page ++ t) (from_place ps)
    ∙ sym (a.is ∙ ap (λ (n : Option Place). take r.size page ++ printed_next most n) h)

pub all_pages : {most : ℕ} {w : List ℕ} → Pages most begin w → w ≡ printed_all (sources most)
all_pages ps = from_place ps
