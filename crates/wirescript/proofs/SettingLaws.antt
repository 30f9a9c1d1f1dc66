-- What a setting call comes to.
use Rattle.std.proofs.Common.{ℕ, Bool, true, false, ◌≤◌, ◌≡◌, List, length, refl, ap, ◌∙◌, not, ◌&&◌, Option, Some, None, is_some, unwrap_or, ok_or, Result, Ok, Err}
use borrow.Author.Tests.{le-ltb}
use Rattle.buffer.specs.Buffer.{over, Wrote, Finishes}
use Rattle.buffer.proofs.OverLaws.{length_over}
use Rattle.buffer.proofs.AgreeLaws.{agree_over, agree_text}
use Rattle.rules.specs.Basics.{choose}
use Rattle.rules.specs.Options.{Options, SettingStep, PrintWidth, EndOfLine, indent_with}
use Rattle.rules.specs.EditorConfig.{with_editor_config}
use Rattle.rules.specs.Refusals.{and_then, bad_option}
use Rattle.rules.specs.Choices.{Choices, print_width_named, end_of_line_named, final_newline_named, valid_options, options_of}
use Rattle.rules.specs.Call.{filled}
use Rattle.rules.specs.declared.LineEnding.{LineEnding}
use Rattle.rules.specs.declared.FinalNewline.{FinalNewline}
use Rattle.rules.specs.declared.OptionNumbers.{OptionNumbers}
use Rattle.rules.specs.declared.Refusal.{Refusal}
use Rattle.options.specs.Held.{held, held_change, held_named}
use Rattle.options.specs.Numbers.{width_set_number, width_number, line_ending_number, final_newline_number, numbers_in}
use Rattle.options.specs.declared.FormatOptions.{FormatOptions}
use Rattle.wirescript.specs.Config.{valid_config, resolved_of}
use Rattle.wirescript.specs.Settings.{SettingOutcome, given_in, step_outcome, tabs_named, indent_outcome, config_outcome, handed, indent_made, config_made}
use Rattle.wirescript.specs.Settings.{settings_answer, indent_written}
use Rattle.wirescript.specs.SettingsAnswered.{SettingsAnswered}
use Rattle.wirescript.specs.declared.config.ConfigNumbers.{ConfigNumbers}
use Rattle.wirescript.specs.declared.settings.Settings.{Settings}

-- a text over the front of a buffer, then zeros
filled_from : (x t y x' : List ℕ) (n : ℕ) → length t ≤ length x → n ≡ length t → y ≡ over x t → Finishes y x' n → x' ≡ filled (length x) t
unfolding filled
filled_from x t y x' n h k e f =
    f.is ∙ rw (k, e, length_over x t, agree_text (over x t) t (rw length_over h) (agree_over x t))

-- what the options come to in an output that has room for their indent t
pub given_made : (o : Options) (t x y x' : List ℕ) (n : ℕ) (m : OptionNumbers) → t ≡ o.indent → length t ≤ length x → Wrote x y t n → Finishes y x' (length t)
    → m ≡ numbers_in o
    → SettingsAnswered (given_in o)
    (record {
      refusal = 0;
      place = 0;
      indent_len = length t;
      width_set = m.width_set;
      width = m.width;
      line_ending = m.line_ending;
      final_newline = m.final_newline;
    })
    x
    x'
given_made o t x y x' n m e h p f k =
    let room : given_in o (length x) ≡ Ok o = rw (← e, le-ltb (length x) (length t) h) in
    record { answer = rw (room, e, k); output = filled_from x t y x' (length t) h refl p.is f ∙ rw (room, e) }

-- ---- the steps over numbers

-- what a step hands back comes to what it stands for
handed_change : (d : SettingStep) (room : ℕ) → handed (held_change d) room ≡ step_outcome d room
unfolding choose
handed_change d room = go d.refused d.options
  where
    go : (b : Bool) (o : Options) → handed (choose b (Err Refusal.BadOption) (Ok (held o))) room ≡ and_then (bad_option b) (λ _. given_in o room)
    go true o = refl
    go false o = refl

-- a step that is refused, or is made of valid choices
choices_step : (c : Choices) (f : FormatOptions → Result FormatOptions Refusal) (g : Options → SettingStep) (b : Bool) (room : ℕ)
    → ((o : Options) → handed (f (held o)) room ≡ and_then (bad_option (not b)) (λ _. step_outcome (g o) room))
    → handed (and_then (held_named c) f) room ≡ and_then (bad_option (not (valid_options c && b))) (λ _. step_outcome (g (options_of c)) room)
unfolding choose
choices_step c f g b room h = go (valid_options c)
  where
    go : (v : Bool) → handed (and_then (choose v (Ok (held (options_of c))) (Err Refusal.BadOption)) f) room ≡ and_then (bad_option (not (v && b))) (λ _. step_outcome (g (options_of c)) room)
    go true = h (options_of c)
    go false = refl

-- what the steps over numbers make comes to what they stand for
indent_same : (c : Choices) (tabs size room : ℕ) → handed (indent_made c tabs size) room ≡ indent_outcome c tabs size room
unfolding indent_outcome
indent_same c tabs size room =
    choices_step c _ (λ (o : Options). indent_with o (unwrap_or (tabs_named tabs) false) size) (is_some (tabs_named tabs)) room (λ o. go o (tabs_named tabs))
  where
    go : (o : Options) (t : Option Bool) → handed (and_then (ok_or t Refusal.BadOption) (λ b. held_change (indent_with o b size))) room
        ≡ and_then (bad_option (not (is_some t))) (λ _. step_outcome (indent_with o (unwrap_or t false) size) room)
    go o None = refl
    go o (Some b) = handed_change (indent_with o b size) room

config_same : (c : Choices) (v : ConfigNumbers) (room : ℕ) → handed (config_made c v) room ≡ config_outcome c v room
unfolding config_outcome choose
config_same c v room =
    choices_step c _ (λ (o : Options). with_editor_config o (resolved_of v)) (valid_config v) room (λ o. go o (valid_config v))
  where
    go : (o : Options) (b : Bool) → handed (and_then (ok_or (choose b (Some (resolved_of v)) None) Refusal.BadOption) (λ r. held_change (with_editor_config o r))) room
        ≡ and_then (bad_option (not b)) (λ _. step_outcome (with_editor_config o (resolved_of v)) room)
    go o false = refl
    go o true = handed_change (with_editor_config o (resolved_of v)) room

answered_as : {s t : ℕ → SettingOutcome} {a : Settings} {x x' : List ℕ} → s (length x) ≡ t (length x) → SettingsAnswered s a x x' → SettingsAnswered t a x x'
answered_as {x = x} e d = record { answer = d.answer ∙ ap settings_answer e; output = d.output ∙ ap (λ (v : SettingOutcome). indent_written v (length x)) e }

module _ {made : Result FormatOptions Refusal} {a : Settings} {x x' : List ℕ} (c : Choices) (d : SettingsAnswered (handed made) a x x') where
  pub indent_answered : (tabs size : ℕ) → made ≡ indent_made c tabs size → SettingsAnswered (indent_outcome c tabs size) a x x'
  indent_answered tabs size e = answered_as (ap (λ (s : Result FormatOptions Refusal). handed s (length x)) e ∙ indent_same c tabs size (length x)) d

  pub config_answered : (v : ConfigNumbers) → made ≡ config_made c v → SettingsAnswered (config_outcome c v) a x x'
  config_answered v e = answered_as (ap (λ (s : Result FormatOptions Refusal). handed s (length x)) e ∙ config_same c v (length x)) d

-- ---- the numbers of an answer and the old ruler tab name its options: a host hands them on to its next call, with its
-- own table of strengths

width_back : (w : PrintWidth) → print_width_named (width_set_number w) (width_number w) ≡ Some w
width_back None = refl
width_back (Some n) = refl

ending_back : (e : EndOfLine) → end_of_line_named (line_ending_number e) ≡ Some e
ending_back None = refl
ending_back (Some LineEnding.Lf) = refl
ending_back (Some LineEnding.Crlf) = refl

newline_back : (n : FinalNewline) → final_newline_named (final_newline_number n) ≡ Some n
newline_back FinalNewline.AsSource = refl
newline_back FinalNewline.Always = refl
newline_back FinalNewline.Never = refl

pub settings_name : (o : Options) (s : Settings) → s ≡ settings_answer (Ok o)
    → options_of (record {
      indent = o.indent;
      numbers = record {
        width_set = s.width_set;
        width = s.width;
        line_ending = s.line_ending;
        final_newline = s.final_newline;
        ruler_tab = o.ruler_tab;
      };
      strengths = o.strengths.table;
    })
    ≡ o
unfolding options_of
settings_name o s e = rw (e, width_back, ending_back, newline_back)
