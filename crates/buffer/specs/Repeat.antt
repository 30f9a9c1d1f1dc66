-- A text, several times over.
use Rattle.std.specs.Prelude.{ℕ, zero, suc, List, [], ◌++◌}

-- n times the text w
unfoldable pub times : ℕ → List ℕ → List ℕ
times zero w = []
times (suc n) w = w ++ times n w
