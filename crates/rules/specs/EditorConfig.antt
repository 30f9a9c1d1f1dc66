-- The EditorConfig step of with_editorconfig, on resolved values.
use Rattle.std.specs.Prelude.{ℕ, Bool, true, false, List, ltb, length, Option, Some, None}
use Rattle.rules.specs.Basics.{choose, is, first_is}
use Rattle.rules.specs.Options.{Options, SettingStep, max_indent, tab, spaces, PrintWidth, EndOfLine}
use Rattle.rules.specs.declared.LineEnding.{LineEnding}
use Rattle.rules.specs.declared.FinalNewline.{FinalNewline}
use Rattle.rules.specs.declared.IndentStyle.{IndentStyle}
use Rattle.rules.specs.declared.IndentSize.{IndentSize}
use Rattle.rules.specs.declared.MaxLineLen.{MaxLineLen}
use Rattle.rules.specs.declared.ConfigEnding.{ConfigEnding}
use Rattle.rules.specs.declared.Resolved.{Resolved}

-- the size is a numeric indent_size, else tab_width, else none
abbrev pub size_of : Option IndentSize → Option ℕ → Option ℕ
size_of None t = t
size_of (Some IndentSize.UseTabWidth) t = t
size_of (Some (IndentSize.Value n)) t = Some n

abbrev pub starts_with_tab : Options → Bool
starts_with_tab o = first_is (is "\t") o.indent

-- the size, else 4 if the old indent starts with a tab, else its old length
abbrev pub spaces_for : Option ℕ → Options → ℕ
spaces_for None o = choose (starts_with_tab o) 4 (length o.indent)
spaces_for (Some n) o = n

-- with no style, a size resizes an indent that doesn't start with a tab
abbrev pub resized : Option ℕ → Options → List ℕ
resized None o = o.indent
resized (Some n) o = choose (starts_with_tab o) o.indent (spaces n)

abbrev pub indent_from : Option IndentStyle → Option ℕ → Options → List ℕ
indent_from None size o = resized size o
indent_from (Some IndentStyle.Tabs) size o = tab
indent_from (Some IndentStyle.Spaces) size o = spaces (spaces_for size o)

-- `off` gives no width
abbrev pub width_from : Option MaxLineLen → PrintWidth → PrintWidth
width_from None w = w
width_from (Some MaxLineLen.Off) w = None
width_from (Some (MaxLineLen.Value n)) w = Some n

-- `cr` changes nothing
abbrev pub ending_from : Option ConfigEnding → EndOfLine → EndOfLine
ending_from None e = e
ending_from (Some ConfigEnding.Lf) e = Some LineEnding.Lf
ending_from (Some ConfigEnding.CrLf) e = Some LineEnding.Crlf
ending_from (Some ConfigEnding.Cr) e = e

-- false: the file doesn't end in a line ending, as the specification says
abbrev pub newline_from : Option Bool → FinalNewline → FinalNewline
newline_from None n = n
newline_from (Some true) n = FinalNewline.Always
newline_from (Some false) n = FinalNewline.Never

-- a size over 64, needed or not
abbrev pub too_large : Option ℕ → Bool
too_large None = false
too_large (Some n) = ltb max_indent n

unfoldable pub configured : Options → Resolved → Options
configured o r =
    record {
      indent = indent_from r.style (size_of r.size r.tab) o;
      print_width = width_from r.max o.print_width;
      end_of_line = ending_from r.ending o.end_of_line;
      insert_final_newline = newline_from r.newline o.insert_final_newline;
      ruler_tab = o.ruler_tab;
      strengths = o.strengths;
    }

unfoldable pub with_editor_config : Options → Resolved → SettingStep
with_editor_config o r =
    choose (too_large (size_of r.size r.tab))
    (record { refused = true; options = o })
    (record { refused = false; options = configured o r })
