-- Ruler tabs, computed. The numbers are those of the readings of document 02.
use Rattle.std.specs.Prelude.{Some}
use Prim.Native.Nat.{ℕ}
use Prim.Native.String.{String}
use mathlib.Core.List.{List, [], ◌∷◌, map}
use mathlib.Core.Path.{◌≡◌, refl}
use Rattle.rules.specs.Basics.{codes}
use Rattle.rules.specs.Options.{Options, defaults}
use Rattle.rules.proofs.Computing.{computing}
use Rattle.rules.proofs.Examples.{Case, given, expected}

-- a ruler, a print width and an indent
abbrev ruled : ℕ → ℕ → String → Options
ruled ruler width indent =
    record {
      indent = codes indent;
      print_width = Some width;
      end_of_line = defaults.end_of_line;
      insert_final_newline = defaults.insert_final_newline;
      ruler_tab = ruler;
      strengths = defaults.strengths;
    }

abbrev pub ruled_cases : List Case
ruled_cases =
    -- 14: U+0009 alone, in strings and after a backslash too
    (ruled 4 10 "  ", "\"a\tb\" + c", "\"a\tb\" + c\n", 0, 0)
    ∷ (ruled 4 9 "  ", "\"a\tb\" + c", "\"a\tb\"\n  + c\n", 0, 0)
    ∷ (ruled 4 7 "  ", "a\\\t+ b", "a\\\t+ b\n", 0, 0)
    ∷ (ruled 4 6 "  ", "a\\\t+ b", "a\\\n  + b\n", 0, 0)
    ∷ (ruled 8 7 "  ", "a\u{b}b + e", "a\u{b}b + e\n", 0, 0)
    -- ruler 1 is ruler 0
    ∷ (ruled 0 7 "  ", "abc\t+ d", "abc\t+ d\n", 0, 0)
    ∷ (ruled 1 7 "  ", "abc\t+ d", "abc\t+ d\n", 0, 0)
    ∷ (ruled 0 6 "  ", "abc\t+ d", "abc\n  + d\n", 0, 0)
    ∷ (ruled 1 6 "  ", "abc\t+ d", "abc\n  + d\n", 0, 0)
    -- 15: every line from column 0 through its indent
    ∷ (ruled 8 21 "\t", "import {a\tb, c, d}", "import {\n\ta\tb, c,\n\td,\n}\n", 1, 0)
    ∷ (ruled 8 23 "\t", "import {a\tb, c, d}", "import {\n\ta\tb, c,\n\td,\n}\n", 1, 0)
    ∷ (ruled 8 24 "\t", "import {a\tb, c, d}", "import {a\tb, c, d}\n", 0, 0)
    -- 16: at a multiple a tab goes a whole step
    ∷ (ruled 4 11 "  ", "abcd\t+ e", "abcd\t+ e\n", 0, 0)
    ∷ (ruled 4 10 "  ", "abcd\t+ e", "abcd\n  + e\n", 0, 0)
    ∷ (ruled 4 11 "  ", "{\nabc\t+ d\n}", "{\n  abc\t+ d\n}\n", 0, 0)
    ∷ (ruled 4 10 "  ", "{\nabc\t+ d\n}", "{\n  abc\n    + d\n}\n", 0, 0)
    ∷ (ruled 8 13 " \t", "{\na + b\n}", "{\n \ta + b\n}\n", 0, 0)
    ∷ (ruled 8 12 " \t", "{\na + b\n}", "{\n \ta\n \t \t+ b\n}\n", 0, 0)
    ∷ []

pub ruled_texts : map given ruled_cases ≡ map expected ruled_cases
unfolding computing
ruled_texts = refl
