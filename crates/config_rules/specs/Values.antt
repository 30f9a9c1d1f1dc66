-- What the values of the keys mean, in lower case. A value that is not allowed counts as unset.
use Rattle.std.specs.Prelude.{ℕ, Bool, true, false, ◌&&◌, List, eqb, leb, ltb, length, Option, Some, None}
use Rattle.rules.specs.Basics.{choose, codes, same}
use Rattle.rules.specs.declared.IndentStyle.{IndentStyle}
use Rattle.rules.specs.declared.IndentSize.{IndentSize}
use Rattle.rules.specs.declared.MaxLineLen.{MaxLineLen}
use Rattle.rules.specs.declared.ConfigEnding.{ConfigEnding}
use Rattle.rules.specs.declared.Resolved.{Resolved}
use Rattle.config_rules.specs.Numbers.{digit_count, value}

unfoldable pub is_whole : List ℕ → Bool
is_whole v = ltb 0 (length v) && eqb (digit_count v) (length v) && leb (value v) 4_294_967_295

unfoldable pub style_of : List ℕ → Option IndentStyle
style_of v =
    choose (same v (codes "tab")) (Some IndentStyle.Tabs)
    (choose (same v (codes "space")) (Some IndentStyle.Spaces) None)

unfoldable pub size_of : List ℕ → Option IndentSize
size_of v =
    choose (same v (codes "tab")) (Some IndentSize.UseTabWidth)
    (choose (is_whole v) (Some (IndentSize.Value (value v))) None)

unfoldable pub tab_of : List ℕ → Option ℕ
tab_of v = choose (is_whole v) (Some (value v)) None

unfoldable pub max_of : List ℕ → Option MaxLineLen
max_of v =
    choose (same v (codes "off")) (Some MaxLineLen.Off) (choose (is_whole v) (Some (MaxLineLen.Value (value v))) None)

unfoldable pub ending_of : List ℕ → Option ConfigEnding
ending_of v =
    choose (same v (codes "lf")) (Some ConfigEnding.Lf)
    (choose (same v (codes "crlf")) (Some ConfigEnding.CrLf)
    (choose (same v (codes "cr")) (Some ConfigEnding.Cr)
    None))

unfoldable pub newline_of : List ℕ → Option Bool
newline_of v =
    choose (same v (codes "true")) (Some true)
    (choose (same v (codes "false")) (Some false)
    None)

-- a pair supersedes the value of its key, and of no other
unfoldable pub superseded : Resolved → List ℕ → List ℕ → Resolved
superseded r k v =
    record {
      style = choose (same k (codes "indent_style")) (style_of v) r.style;
      size = choose (same k (codes "indent_size")) (size_of v) r.size;
      tab = choose (same k (codes "tab_width")) (tab_of v) r.tab;
      max = choose (same k (codes "max_line_length")) (max_of v) r.max;
      ending = choose (same k (codes "end_of_line")) (ending_of v) r.ending;
      newline = choose (same k (codes "insert_final_newline")) (newline_of v) r.newline;
    }

abbrev pub unset : Resolved
unset =
    record {
      style = None;
      size = None;
      tab = None;
      max = None;
      ending = None;
      newline = None;
    }
