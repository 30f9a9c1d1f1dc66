-- The cases P1 to P11 of document 01 as one list of the rules' results, its further cases, and open brackets (C-20).
use Rattle.std.specs.Prelude.{Some}
use mathlib.Core.Path.{◌≡◌, refl}
use Prim.Native.Nat.{ℕ}
use Prim.Native.String.{String}
use mathlib.Core.List.{List, [], ◌∷◌, map}
use Rattle.rules.specs.Basics.{codes}
use Rattle.rules.specs.Options.{Options, defaults, PrintWidth}
use Rattle.rules.specs.Assembly.{format_with}
use Rattle.rules.specs.declared.FinalNewline.{FinalNewline}
use Rattle.rules.proofs.Computing.{computing}

-- options, source; text, imports split, blank names
abbrev pub Case : Type 0
Case = Options × String × String × ℕ × ℕ

abbrev pub with_width : PrintWidth → Options
with_width w =
    record {
      indent = defaults.indent;
      print_width = w;
      end_of_line = defaults.end_of_line;
      insert_final_newline = defaults.insert_final_newline;
      ruler_tab = defaults.ruler_tab;
      strengths = defaults.strengths;
    }

abbrev pub at_width : ℕ → Options
at_width n = with_width (Some n)

abbrev ending : FinalNewline → Options
ending n =
    record {
      indent = defaults.indent;
      print_width = defaults.print_width;
      end_of_line = defaults.end_of_line;
      insert_final_newline = n;
      ruler_tab = defaults.ruler_tab;
      strengths = defaults.strengths;
    }

abbrev no_final_newline : Options
no_final_newline = ending FinalNewline.AsSource

abbrev never : Options
never = ending FinalNewline.Never

-- text, imports split, blank names
abbrev pub Shown : Type 0
Shown = List ℕ × ℕ × ℕ

abbrev pub expected : Case → Shown
expected c = (codes c.2, c.3, c.4)

abbrev pub given : Case → Shown
given c = let r = format_with c.0 (codes c.1) in (r.text, r.imports_split, r.blank_names)

abbrev pub cases : List Case
cases =
    -- P1
    (defaults, "", "\n", 0, 0)
    ∷ (no_final_newline, "", "", 0, 0)
    ∷ (never, "", "", 0, 0)
    -- P2 to P6
    ∷ (defaults, "f(a ,b)", "f(a, b)\n", 0, 0)
    ∷ (defaults, "addRole(next, {\nx\n})", "addRole(next, {\n  x\n})\n", 0, 0)
    ∷ (defaults, "}\nelse {", "} else {\n", 0, 0)
    ∷ (defaults, "in a\n\nin b", "in a\nin b\n", 0, 0)
    ∷ (defaults, "in a\n\nout b", "in a\n\nout b\n", 0, 0)
    ∷ (defaults, "\"a  ,b\"  ,c", "\"a  ,b\", c\n", 0, 0)
    -- P7, P8
    ∷ (at_width 7, "a + b*c", "a + b*c\n", 0, 0)
    ∷ (at_width 6, "a + b*c", "a\n  + b*c\n", 0, 0)
    ∷ (at_width 10, "import {a,,b} from \"l\"", "import {\n  a, b,\n} from \"l\"\n", 1, 1)
    -- P9 to P11
    ∷ (defaults, "a\r\nb\nc", "a\nb\nc\n", 0, 0)
    ∷ (defaults, "// }\nelse", "// } else\n", 0, 0)
    ∷ (defaults, "\\ ,a", "\\, a\n", 0, 0)
    ∷ []

pub bench : map given cases ≡ map expected cases
unfolding computing
bench = refl

-- `"` U+1F600 `" + b` takes 8 units
abbrev pub others : List Case
others =
    (at_width 7, "\"😀\" + b", "\"😀\"\n  + b\n", 0, 0)
    ∷ (at_width 8, "\"😀\" + b", "\"😀\" + b\n", 0, 0)
    -- never: nothing after the last line, whatever the source ends in; an empty text stays empty
    ∷ (never, "a", "a", 0, 0)
    ∷ (never, "a\n", "a", 0, 0)
    ∷ (never, "a\r\nb\r\n\r\n", "a\r\nb", 0, 0)
    ∷ (never, "\n\n", "", 0, 0)
    ∷ []

pub further : map given others ≡ map expected others
unfolding computing
further = refl

-- the lines of the brackets that are still open: a closer that isn't its line's first character pops the newest one,
-- and the others keep their lines
abbrev open_after : String → List ℕ
open_after s = (format_with defaults (codes s)).open_brackets

pub still_open : map open_after ("[(\nb ) (" ∷ "[(\nb )" ∷ "(\na) [" ∷ []) ≡ (0 ∷ 1 ∷ []) ∷ (0 ∷ []) ∷ (1 ∷ []) ∷ []
unfolding computing
still_open = refl
