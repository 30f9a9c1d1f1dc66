-- The exported contract of a setting step.
use Rattle.std.specs.Prelude.{ℕ, List, ◌≡◌, length}
use Rattle.wirescript.specs.Settings.{SettingOutcome, settings_answer, indent_written}
use Rattle.wirescript.specs.declared.settings.Settings.{Settings}

-- A call that comes to `s` of the room in the lent output: its answer, and the output before and after it.
pub record SettingsAnswered (s : ℕ → SettingOutcome) (r : Settings) (before after : List ℕ) : Type 0 where
  pub answer : r ≡ settings_answer (s (length before))
  pub output : after ≡ indent_written (s (length before)) (length before)
