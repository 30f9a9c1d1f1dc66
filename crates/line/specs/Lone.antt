-- A line that is one bracket.
use Rattle.std.specs.Prelude.{ℕ, Bool, false, ◌||◌, List, [], ◌∷◌}
use Rattle.rules.specs.Basics.{is_opener, is_closer}
use Rattle.rules.specs.Options.{Options}
use Rattle.rules.specs.Line.{Formatter, spaced_line}

abbrev pub is_lone : List ℕ → Bool
is_lone [] = false
is_lone (c ∷ []) = is_opener c || is_closer c
is_lone (c ∷ d ∷ l) = false

-- its step, where no marker protects it
abbrev pub lone_by : Options → List ℕ → Formatter → Formatter
lone_by o l f = spaced_line o f false l
