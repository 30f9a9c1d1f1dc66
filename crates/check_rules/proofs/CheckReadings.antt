-- Readings of C-19, computed: options, source; the answer, and the lines read.
use Rattle.std.specs.Prelude.{Some}
use Prim.Native.Nat.{ℕ}
use Prim.Native.String.{String}
use mathlib.Core.Bool.{Bool, true, false}
use mathlib.Core.List.{List, [], ◌∷◌, map}
use mathlib.Core.Path.{◌≡◌, refl}
use Rattle.rules.specs.Basics.{codes}
use Rattle.rules.specs.Options.{Options, PrintWidth}
use Rattle.rules.specs.Strengths.{built_in}
use Rattle.rules.specs.declared.LineEnding.{LineEnding}
use Rattle.rules.specs.declared.FinalNewline.{FinalNewline}
use Rattle.rules.proofs.Computing.{computing}
use Rattle.check_rules.specs.Check.{Checked, is_formatted, check_lines, settled_lines, closed}

abbrev Case : Type 0
Case = Options × String × Bool × ℕ

abbrev with : LineEnding → PrintWidth → FinalNewline → Options
with e w n =
    record {
      indent = codes "  ";
      print_width = w;
      end_of_line = Some e;
      insert_final_newline = n;
      ruler_tab = 0;
      strengths = record { table = built_in };
    }

abbrev lf : FinalNewline → Options
lf = with LineEnding.Lf (Some 100)

abbrev crlf : Options
crlf = with LineEnding.Crlf (Some 100) FinalNewline.AsSource

abbrev narrow : Options
narrow = with LineEnding.Lf (Some 0) FinalNewline.AsSource

-- Readings 20 to 22 of C-19, and an else that still lengthens the line before it.
abbrev cases : List Case
cases =
    (narrow, "a+b\nc\n", false, 1)
    ∷ (lf FinalNewline.AsSource, " a\nb\nc\n", false, 2)
    ∷ (lf FinalNewline.AsSource, " a\n\n\nb\n", false, 4)
    ∷ (lf FinalNewline.AsSource, "a\n\n\nb\nc\n", false, 5)
    ∷ (crlf, "a\nb\n", false, 2)
    ∷ (narrow, "<a+b\nc\n", false, 1)
    ∷ (narrow, "{\n<a\n", false, 2)
    ∷ (lf FinalNewline.Always, "a", false, 1)
    ∷ (lf FinalNewline.AsSource, "a\n\n", false, 3)
    ∷ (lf FinalNewline.AsSource, "", true, 1)
    ∷ (lf FinalNewline.Never, "\n", false, 2)
    ∷ (lf FinalNewline.AsSource, "a\n", true, 2)
    ∷ (lf FinalNewline.Always, "if a {\n  b\n} else {\n  c\n}\n", true, 6)
    ∷ (lf FinalNewline.Always, "if a {\n  b\n}\nelse {\n  c\n}\n", false, 5)
    ∷ []

abbrev found : Case → Checked
found c = is_formatted c.0 (codes c.1)

abbrev wanted : Case → Checked
wanted c = record { yes = c.2; read = c.3 }

pub readings_hold : map found cases ≡ map wanted cases
unfolding computing is_formatted check_lines settled_lines closed
readings_hold = refl
