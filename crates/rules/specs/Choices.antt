-- Options as a host gives them: the bytes of an indent and of a table of strengths, and numbers. A number names a
-- choice, or none.
use Rattle.std.specs.Prelude.{ℕ, zero, suc, Bool, ◌&&◌, List, Option, Some, None, is_some, unwrap_or}
use Rattle.rules.specs.Options.{Options, defaults, valid_indent, PrintWidth, EndOfLine}
use Rattle.rules.specs.declared.LineEnding.{LineEnding}
use Rattle.rules.specs.declared.FinalNewline.{FinalNewline}
use Rattle.rules.specs.declared.OptionNumbers.{OptionNumbers}

pub record Choices : Type 0 where
  pub indent : List ℕ
  pub numbers : OptionNumbers
  pub strengths : List ℕ

-- the numbers of the defaults, whose indent is two spaces, and whose table is the built-in one
abbrev pub default_numbers : OptionNumbers
default_numbers = record { width_set = 1; width = 100; line_ending = 0; final_newline = 1; ruler_tab = 0 }

-- width_set: 0 none, 1 the width
abbrev pub print_width_named : ℕ → ℕ → Option PrintWidth
print_width_named zero width = Some None
print_width_named (suc zero) width = Some (Some width)
print_width_named (suc (suc n)) width = None

-- line_ending: 0 kept, 1 LF, 2 CRLF
abbrev pub end_of_line_named : ℕ → Option EndOfLine
end_of_line_named zero = Some None
end_of_line_named (suc zero) = Some (Some LineEnding.Lf)
end_of_line_named (suc (suc zero)) = Some (Some LineEnding.Crlf)
end_of_line_named (suc (suc (suc n))) = None

-- final_newline: 0 as the source, 1 always, 2 never
abbrev pub final_newline_named : ℕ → Option FinalNewline
final_newline_named zero = Some FinalNewline.AsSource
final_newline_named (suc zero) = Some FinalNewline.Always
final_newline_named (suc (suc zero)) = Some FinalNewline.Never
final_newline_named (suc (suc (suc n))) = None

-- the indent is one, and every number names a choice
unfoldable pub valid_options : Choices → Bool
valid_options c =
    valid_indent c.indent
    && is_some (print_width_named c.numbers.width_set c.numbers.width)
    && is_some (end_of_line_named c.numbers.line_ending)
    && is_some (final_newline_named c.numbers.final_newline)

-- the options that valid choices name; the ruler tab is a number as it stands
unfoldable pub options_of : Choices → Options
options_of c =
    record {
      indent = c.indent;
      print_width = unwrap_or (print_width_named c.numbers.width_set c.numbers.width) defaults.print_width;
      end_of_line = unwrap_or (end_of_line_named c.numbers.line_ending) defaults.end_of_line;
      insert_final_newline = unwrap_or (final_newline_named c.numbers.final_newline) defaults.insert_final_newline;
      ruler_tab = c.numbers.ruler_tab;
      strengths = record { table = c.strengths };
    }
