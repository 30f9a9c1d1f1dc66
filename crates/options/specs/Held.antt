-- Options in a struct by value.
use Rattle.std.specs.Prelude.{Result, Ok, Err}
use Rattle.rules.specs.Basics.{choose}
use Rattle.rules.specs.Options.{Options, SettingStep}
use Rattle.rules.specs.Choices.{Choices, valid_options, options_of}
use Rattle.rules.specs.declared.Refusal.{Refusal}
use Rattle.options.specs.declared.FormatOptions.{FormatOptions}

-- the options that a struct stands for
abbrev pub options_in : FormatOptions → Options
options_in s =
    record {
      indent = s.indent;
      print_width = s.print_width;
      end_of_line = s.end_of_line;
      insert_final_newline = s.insert_final_newline;
      ruler_tab = s.ruler_tab;
      strengths = s.strengths;
    }

-- the struct that stands for the options
abbrev pub held : Options → FormatOptions
held o =
    record {
      indent = o.indent;
      print_width = o.print_width;
      end_of_line = o.end_of_line;
      insert_final_newline = o.insert_final_newline;
      ruler_tab = o.ruler_tab;
      strengths = o.strengths;
    }

-- what a setting step hands back: the struct of the changed options, or refusal 2, and the caller's struct is as it was
abbrev pub held_change : SettingStep → Result FormatOptions Refusal
held_change c = choose c.refused (Err Refusal.BadOption) (Ok (held c.options))

-- the struct of the options that choices name, or refusal 2
abbrev pub held_named : Choices → Result FormatOptions Refusal
held_named c = choose (valid_options c) (Ok (held (options_of c))) (Err Refusal.BadOption)
