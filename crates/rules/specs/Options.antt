-- options.rs: what the host chooses, the defaults, and `indent_with` with its limit.
use Rattle.std.specs.Prelude.{ℕ, ◌+◌, ◌*◌, ◌/◌, Bool, true, false, ◌&&◌, List, [], ◌∷◌, leb, ltb, length, Option, Some, None}
use Rattle.std.specs.List.{list_all}
use Rattle.buffer.specs.Repeat.{times}
use Rattle.utf8.specs.Unicode.{units}
use Rattle.rules.specs.Basics.{choose, is, codes, is_blank}
use Rattle.rules.specs.Strengths.{built_in}
use Rattle.rules.specs.declared.LineEnding.{LineEnding}
use Rattle.rules.specs.declared.FinalNewline.{FinalNewline}
use Rattle.rules.specs.declared.Strengths.{Strengths}

-- the print width: none, or a number of UTF-16 columns
abbrev pub PrintWidth : Type 0
PrintWidth = Option ℕ

-- the line ending of the text: kept, or one of the two
abbrev pub EndOfLine : Type 0
EndOfLine = Option LineEnding

pub record Options : Type 0 where
  pub indent : List ℕ
  pub print_width : PrintWidth
  pub end_of_line : EndOfLine
  pub insert_final_newline : FinalNewline
  pub ruler_tab : ℕ
  pub strengths : Strengths

-- indent two spaces, width 100, ending kept, final newline true, ruler tab 0, the built-in strengths
abbrev pub defaults : Options
defaults =
    record {
      indent = codes "  ";
      print_width = Some 100;
      end_of_line = None;
      insert_final_newline = FinalNewline.Always;
      ruler_tab = 0;
      strengths = record { table = built_in };
    }

-- an indent of at most 64 bytes, spaces and tabs only; an empty one is fine
abbrev pub max_indent : ℕ
max_indent = 64

unfoldable pub all_blank : List ℕ → Bool
all_blank indent = list_all is_blank indent

unfoldable pub valid_indent : List ℕ → Bool
valid_indent indent = leb (length indent) max_indent && all_blank indent

abbrev pub with_indent : Options → List ℕ → Options
with_indent o indent =
    record {
      indent = indent;
      print_width = o.print_width;
      end_of_line = o.end_of_line;
      insert_final_newline = o.insert_final_newline;
      ruler_tab = o.ruler_tab;
      strengths = o.strengths;
    }

-- What a setting step gives: the changed options, or with refusal 2 the options unchanged.
pub record SettingStep : Type 0 where
  pub refused : Bool
  pub options : Options

abbrev pub tab : List ℕ
tab = codes "\t"

abbrev pub spaces : ℕ → List ℕ
spaces n = times n (codes " ")

-- indent_with: one tab, or `size` spaces; a size over 64 is refused, needed or not
unfoldable pub indent_with : Options → Bool → ℕ → SettingStep
indent_with o tabs size =
    choose (ltb max_indent size)
    (record { refused = true; options = o })
    (record { refused = false; options = with_indent o (choose tabs tab (spaces size)) })

-- the indent of a level
unfoldable pub indent_of : Options → ℕ → List ℕ
indent_of o level = times level o.indent

-- the largest ruler tab
abbrev pub max_ruler : ℕ
max_ruler = 16

-- the next multiple of the ruler above a column
abbrev pub next_stop : ℕ → ℕ → ℕ
next_stop ruler from = (from / ruler + 1) * ruler

-- The column after a character that stands at column `from`: a tab goes to the next multiple of the ruler. At ruler 0
-- it adds its UTF-16 units, as every other character does.
unfoldable pub column_after : ℕ → ℕ → ℕ → ℕ
column_after ruler from c = choose (ltb 0 ruler && is "\t" c) (next_stop ruler from) (from + units c)

-- The column that a part reaches which starts at column `from`. Whatever measures a line uses this.
unfoldable pub measure : ℕ → ℕ → List ℕ → ℕ
measure ruler from [] = from
measure ruler from (c ∷ cs) = measure ruler (column_after ruler from c) cs

-- a whole line is wider than the width
unfoldable pub over_wide : Options → ℕ → List ℕ → Bool
over_wide o max line = ltb max (measure o.ruler_tab 0 line)
