-- Whole numbers by bytes.
use Rattle.std.specs.Prelude.{ℕ, List, ◌≡◌, Option, Some, None}
use Rattle.rules.specs.Basics.{choose}
use Rattle.config_rules.specs.Numbers.{value}
use Rattle.config_rules.specs.Values.{is_whole}

pub record WholeOf (v : List ℕ) (r : Option ℕ) : Type 0 where
  pub is : r ≡ choose (is_whole v) (Some (value v)) None
