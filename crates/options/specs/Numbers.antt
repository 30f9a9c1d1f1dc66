-- The numbers of options, as a call gives them.
use Rattle.std.specs.Prelude.{ℕ, Some, None}
use Rattle.rules.specs.Options.{Options, PrintWidth, EndOfLine}
use Rattle.rules.specs.declared.LineEnding.{LineEnding}
use Rattle.rules.specs.declared.FinalNewline.{FinalNewline}
use Rattle.rules.specs.declared.OptionNumbers.{OptionNumbers}

-- ---- the numbers of the options, as a call gives them; the width is 0 where there is none

abbrev pub width_set_number : PrintWidth → ℕ
width_set_number None = 0
width_set_number (Some n) = 1

abbrev pub width_number : PrintWidth → ℕ
width_number None = 0
width_number (Some n) = n

abbrev pub line_ending_number : EndOfLine → ℕ
line_ending_number None = 0
line_ending_number (Some LineEnding.Lf) = 1
line_ending_number (Some LineEnding.Crlf) = 2

abbrev pub final_newline_number : FinalNewline → ℕ
final_newline_number FinalNewline.AsSource = 0
final_newline_number FinalNewline.Always = 1
final_newline_number FinalNewline.Never = 2

abbrev pub numbers_in : Options → OptionNumbers
numbers_in o =
    record {
      width_set = width_set_number o.print_width;
      width = width_number o.print_width;
      line_ending = line_ending_number o.end_of_line;
      final_newline = final_newline_number o.insert_final_newline;
      ruler_tab = o.ruler_tab;
    }
