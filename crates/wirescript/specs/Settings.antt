-- A setting step over numbers and bytes: what a call comes to, its answer, and what it writes.
use Rattle.std.specs.Prelude.{ℕ, zero, suc, Bool, true, false, not, ◌&&◌, List, length, replicate, Option, Some, None, is_some, unwrap_or, ok_or, Result, Ok, Err}
use Rattle.rules.specs.Options.{Options, SettingStep, indent_with}
use Rattle.rules.specs.EditorConfig.{with_editor_config}
use Rattle.rules.specs.Refusals.{number_of, place_of, and_then, bad_option, short_output}
use Rattle.rules.specs.Choices.{Choices, valid_options, options_of}
use Rattle.rules.specs.Call.{filled}
use Rattle.rules.specs.declared.Refusal.{Refusal}
use Rattle.options.specs.Held.{options_in, held_named, held_change}
use Rattle.options.specs.Numbers.{width_set_number, width_number, line_ending_number, final_newline_number}
use Rattle.options.specs.declared.FormatOptions.{FormatOptions}
use Rattle.wirescript.specs.Config.{valid_config, resolved_of, config_named}
use Rattle.wirescript.specs.declared.config.ConfigNumbers.{ConfigNumbers}
use Rattle.wirescript.specs.declared.settings.Settings.{Settings}

-- the changed options, or a refusal
abbrev pub SettingOutcome : Type 0
SettingOutcome = Result Options Refusal

-- ---- the refusals, tested in number order: 2, and 5 where the lent output is shorter than the changed indent

abbrev pub given_in : Options → ℕ → SettingOutcome
given_in o room = and_then (short_output (length o.indent) room) (λ _. Ok o)

abbrev pub step_outcome : SettingStep → ℕ → SettingOutcome
step_outcome s room = and_then (bad_option s.refused) (λ _. given_in s.options room)

-- tabs: 0 spaces, 1 a tab
abbrev pub tabs_named : ℕ → Option Bool
tabs_named zero = Some false
tabs_named (suc zero) = Some true
tabs_named (suc (suc n)) = None

unfoldable pub indent_outcome : Choices → ℕ → ℕ → ℕ → SettingOutcome
indent_outcome c tabs size room =
    and_then (bad_option (not (valid_options c && is_some (tabs_named tabs))))
    (λ _. step_outcome (indent_with (options_of c) (unwrap_or (tabs_named tabs) false) size) room)

unfoldable pub config_outcome : Choices → ConfigNumbers → ℕ → SettingOutcome
config_outcome c v room =
    and_then (bad_option (not (valid_options c && valid_config v)))
    (λ _. step_outcome (with_editor_config (options_of c) (resolved_of v)) room)

-- the same as the code makes them: the options that a step over numbers gives, or refusal 2
abbrev pub indent_made : Choices → ℕ → ℕ → Result FormatOptions Refusal
indent_made c tabs size =
    and_then (held_named c) (λ s. and_then (ok_or (tabs_named tabs) Refusal.BadOption)
    (λ b. held_change (indent_with (options_in s) b size)))

abbrev pub config_made : Choices → ConfigNumbers → Result FormatOptions Refusal
config_made c v =
    and_then (held_named c) (λ s. and_then (ok_or (config_named v) Refusal.BadOption)
    (λ r. held_change (with_editor_config (options_in s) r)))

-- what these come to
abbrev pub handed : Result FormatOptions Refusal → ℕ → SettingOutcome
handed s room = and_then s (λ o. given_in (options_in o) room)

-- ---- what a call leaves

-- a refused call gives number and place, other fields 0
abbrev pub settings_answer : SettingOutcome → Settings
settings_answer (Ok o) =
    record {
      refusal = 0;
      place = 0;
      indent_len = length o.indent;
      width_set = width_set_number o.print_width;
      width = width_number o.print_width;
      line_ending = line_ending_number o.end_of_line;
      final_newline = final_newline_number o.insert_final_newline;
    }
settings_answer (Err r) =
    record {
      refusal = number_of r;
      place = place_of r;
      indent_len = 0;
      width_set = 0;
      width = 0;
      line_ending = 0;
      final_newline = 0;
    }

-- the output is the changed indent, then zeros, or all zeros
abbrev pub indent_written : SettingOutcome → ℕ → List ℕ
indent_written (Ok o) room = filled room o.indent
indent_written (Err r) room = replicate room 0
