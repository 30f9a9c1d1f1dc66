-- Spacing (normalize_spacing): one step for each character. In code, spaces and tabs before a comma go, after it stands
-- one space, but none before a closer or at the end; runs of spaces become one; an escaped pair is copied.
use Rattle.std.specs.Prelude.{ℕ, ◌&&◌}
use mathlib.Core.List.{List, [], ◌∷◌, ◌++◌, foldl}
use Rattle.rules.specs.Basics.{choose, is, codes, is_blank, is_closer}
use Rattle.rules.specs.Scan.{Cell, is_code, classify}
use Rattle.rules.specs.declared.Carry.{Carry}
use Rattle.rules.specs.declared.Gap.{Gap}

-- the text so far, and what the last character was
pub record Spaced : Type 0 where
  pub out : List ℕ
  pub gap : Gap

abbrev pub spaced : List ℕ → Gap → Spaced
spaced out gap = record { out = out; gap = gap }

-- the text without the spaces and tabs at its end
unfoldable pub cons_blank : ℕ → List ℕ → List ℕ
cons_blank c [] = choose (is_blank c) [] (c ∷ [])
cons_blank c (d ∷ ds) = c ∷ d ∷ ds

unfoldable pub trim_blanks : List ℕ → List ℕ
trim_blanks [] = []
trim_blanks (c ∷ cs) = cons_blank c (trim_blanks cs)

abbrev pub add : List ℕ → ℕ → Gap → Spaced
add out c gap = spaced (out ++ (c ∷ [])) gap

-- a character before which nothing is added or left out
unfoldable pub put_plain : List ℕ → Cell → Spaced
put_plain out x =
    choose (is_code x.class)
    (choose (is "\\" x.ch) (add out x.ch Gap.Escape)
    (choose (is "," x.ch) (add (trim_blanks out) x.ch Gap.Comma)
    (choose (is " " x.ch) (add out x.ch Gap.Space)
    (add out x.ch Gap.Nothing))))
    (add out x.ch Gap.Nothing)

-- after a comma: blanks of code go, and one space stands before anything but a closer
unfoldable pub put_after_comma : List ℕ → Cell → Spaced
put_after_comma out x =
    choose (is_code x.class && is_blank x.ch) (spaced out Gap.Comma)
    (choose (is_closer x.ch) (put_plain out x)
    (put_plain (out ++ codes " ") x))

unfoldable pub put_at : Gap → List ℕ → Cell → Spaced
put_at Gap.Nothing out x = put_plain out x
put_at Gap.Escape out x = add out x.ch Gap.Nothing
put_at Gap.Comma out x = put_after_comma out x
put_at Gap.Space out x = choose (is " " x.ch) (spaced out Gap.Space) (put_plain out x)

abbrev pub space_step : Spaced → Cell → Spaced
space_step t x = put_at t.gap t.out x

unfoldable pub normalize_spacing : List Cell → List ℕ
normalize_spacing cells = (foldl space_step (spaced [] Gap.Nothing) cells).out

-- a line in code, respaced
abbrev pub respaced : List ℕ → List ℕ
respaced l = normalize_spacing (classify Carry.Code l)
