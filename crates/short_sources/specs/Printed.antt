-- What the program prints.
use Rattle.std.specs.Prelude.{ℕ, suc, ◌+◌, ◌-◌, ◌≤◌, ◌<◌, List, [], ◌∷◌, ◌++◌, ◌≡◌, Option, Some, None, length, take, drop}
use Rattle.utf8.specs.Unicode.{within}
use Rattle.buffer.specs.Buffer.{Appended}
use Rattle.decimal.specs.Decimal.{digits}
use Rattle.rules.specs.Basics.{choose, is, codes}
use Rattle.rules.specs.Assembly.{default_text}
use Rattle.short_texts.specs.Texts.{shorter}
use Rattle.short_texts.specs.declared.Place.{Place}
use Rattle.short_sources.specs.declared.page.Page.{Page}

-- ---- the greatest length, from standard input

-- a digit from 0 to 6 as a number; any other byte means 6
abbrev pub digit_in : ℕ → ℕ
digit_in d = choose (within 48 54 d) (d - 48) 6

-- a digit, alone or with one LF after it; anything else means 6
unfoldable pub greatest_in : List ℕ → ℕ
greatest_in [] = 6
greatest_in (d ∷ []) = digit_in d
greatest_in (d ∷ c ∷ []) = choose (is "\n" c) (digit_in d) 6
greatest_in (d ∷ c ∷ b ∷ rest) = 6

-- ---- the sources, formatted

-- the text's length in bytes, in decimal; LF; the text
unfoldable pub printed : List ℕ → List ℕ
printed source = digits (length (default_text source)) ++ (codes "\n" ++ default_text source)

-- nothing stands between a text and the next length
unfoldable pub printed_all : List (List ℕ) → List ℕ
printed_all [] = []
printed_all (s ∷ ss) = printed s ++ printed_all ss

-- the sources of at most `most` characters, in order
abbrev pub sources : ℕ → List (List ℕ)
sources most = shorter (suc most)

-- what is printed for those from a place on
abbrev pub printed_from : ℕ → Place → List ℕ
printed_from most p = printed_all (drop p.number (sources most))

-- ---- a page

-- the first n bytes of out are the text of a short source
pub record TextIn (source out : List ℕ) (n : ℕ) : Type 0 where
  pub size : n ≡ length (default_text source)
  pub is : take n out ≡ default_text source
  pub short : n ≤ 456

-- what is printed for a source stands in the page from the place at on; r is the next place
pub record Added (page page' : List ℕ) (at : ℕ) (source : List ℕ) (r : ℕ) : Type 0 where
  pub appended : Appended page page' at (printed source) r
  pub short : r ≤ at + 477

-- what is printed from the next place on, if there is one
abbrev pub printed_next : ℕ → Option Place → List ℕ
printed_next most (Some q) = printed_from most q
printed_next most None = []

-- how many steps are left at most
abbrev pub left : ℕ → Option Place → ℕ
left most (Some q) = suc (length (sources most) - q.number)
left most None = 0

-- a page that is filled from a place on
pub record Paged (most : ℕ) (p : Place) (page : List ℕ) (r : Page) : Type 0 where
  pub within : r.size ≤ length page
  -- all that is to be printed: what stands in the page, then what is printed from the next place on
  pub is : printed_from most p ≡ take r.size page ++ printed_next most r.next
  -- a page with more behind it has brought the end nearer
  pub nearer : left most r.next < left most (Some p)

-- the pages from a place on, each from the place that the one before it handed on, one behind the other
pub data Pages (most : ℕ) : Place → List ℕ → Type 0 where
  last : {p : Place} {page : List ℕ} {r : Page} → Paged most p page r → r.next ≡ None
      → Pages most p (take r.size page)
  more : {p q : Place} {page : List ℕ} {r : Page} {rest : List ℕ} → Paged most p page r → r.next ≡ Some q
      → Pages most q rest → Pages most p (take r.size page ++ rest)
