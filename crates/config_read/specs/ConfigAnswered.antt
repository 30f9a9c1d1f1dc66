-- The exported contract of reading our .editorconfig files.
use Rattle.std.specs.Prelude.{ℕ, List, ◌≡◌}
use Rattle.config_rules.specs.Call.{read_editor_config, answer_of}
use Rattle.config_rules.specs.declared.ConfigAnswer.{ConfigAnswer}

-- The answer r for a path and the eight texts, the nearest first.
pub record ConfigAnswered (path : List ℕ) (texts : List (List ℕ)) (r : ConfigAnswer) : Type 0 where
  pub answer : r ≡ answer_of (read_editor_config path texts)
