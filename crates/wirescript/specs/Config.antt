-- The resolved values of .editorconfig as numbers. 0 is unset; a number names a value, or none.
use Rattle.std.specs.Prelude.{ℕ, zero, suc, Bool, true, false, ◌&&◌, Option, Some, None, is_some, unwrap_or}
use Rattle.rules.specs.Basics.{choose}
use Rattle.rules.specs.declared.IndentStyle.{IndentStyle}
use Rattle.rules.specs.declared.IndentSize.{IndentSize}
use Rattle.rules.specs.declared.MaxLineLen.{MaxLineLen}
use Rattle.rules.specs.declared.ConfigEnding.{ConfigEnding}
use Rattle.rules.specs.declared.Resolved.{Resolved}
use Rattle.wirescript.specs.declared.config.ConfigNumbers.{ConfigNumbers}

-- style, indent_style: 1 tabs, 2 spaces
abbrev pub indent_style_named : ℕ → Option (Option IndentStyle)
indent_style_named zero = Some None
indent_style_named (suc zero) = Some (Some IndentStyle.Tabs)
indent_style_named (suc (suc zero)) = Some (Some IndentStyle.Spaces)
indent_style_named (suc (suc (suc n))) = None

-- size_kind, indent_size: 1 the tab width, 2 the number
abbrev pub indent_size_named : ℕ → ℕ → Option (Option IndentSize)
indent_size_named zero size = Some None
indent_size_named (suc zero) size = Some (Some IndentSize.UseTabWidth)
indent_size_named (suc (suc zero)) size = Some (Some (IndentSize.Value size))
indent_size_named (suc (suc (suc n))) size = None

-- tab_set, tab_width: 1 the number
abbrev pub tab_width_named : ℕ → ℕ → Option (Option ℕ)
tab_width_named zero tab = Some None
tab_width_named (suc zero) tab = Some (Some tab)
tab_width_named (suc (suc n)) tab = None

-- max_kind, max_line_length: 1 off, 2 the number
abbrev pub max_line_len_named : ℕ → ℕ → Option (Option MaxLineLen)
max_line_len_named zero max = Some None
max_line_len_named (suc zero) max = Some (Some MaxLineLen.Off)
max_line_len_named (suc (suc zero)) max = Some (Some (MaxLineLen.Value max))
max_line_len_named (suc (suc (suc n))) max = None

-- ending, end_of_line: 1 LF, 2 CRLF, 3 CR
abbrev pub config_ending_named : ℕ → Option (Option ConfigEnding)
config_ending_named zero = Some None
config_ending_named (suc zero) = Some (Some ConfigEnding.Lf)
config_ending_named (suc (suc zero)) = Some (Some ConfigEnding.CrLf)
config_ending_named (suc (suc (suc zero))) = Some (Some ConfigEnding.Cr)
config_ending_named (suc (suc (suc (suc n)))) = None

-- newline, insert_final_newline: 1 false, 2 true
abbrev pub insert_newline_named : ℕ → Option (Option Bool)
insert_newline_named zero = Some None
insert_newline_named (suc zero) = Some (Some false)
insert_newline_named (suc (suc zero)) = Some (Some true)
insert_newline_named (suc (suc (suc n))) = None

-- every number names a value
unfoldable pub valid_config : ConfigNumbers → Bool
valid_config v =
    is_some (indent_style_named v.style)
    && is_some (indent_size_named v.size_kind v.size)
    && is_some (tab_width_named v.tab_set v.tab)
    && is_some (max_line_len_named v.max_kind v.max)
    && is_some (config_ending_named v.ending)
    && is_some (insert_newline_named v.newline)

-- the values that valid numbers name
unfoldable pub resolved_of : ConfigNumbers → Resolved
resolved_of v =
    record {
      style = unwrap_or (indent_style_named v.style) None;
      size = unwrap_or (indent_size_named v.size_kind v.size) None;
      tab = unwrap_or (tab_width_named v.tab_set v.tab) None;
      max = unwrap_or (max_line_len_named v.max_kind v.max) None;
      ending = unwrap_or (config_ending_named v.ending) None;
      newline = unwrap_or (insert_newline_named v.newline) None;
    }

-- those, if every number names a value
abbrev pub config_named : ConfigNumbers → Option Resolved
config_named v = choose (valid_config v) (Some (resolved_of v)) None
