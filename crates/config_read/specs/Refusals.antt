-- The refusals of all texts at once: the worst of each.
use Rattle.std.specs.Prelude.{ℕ, max, List, [], ◌∷◌, map, Option, Some, None}
use denote.Ref.{Bor}
use Rattle.rules.specs.Basics.{choose}
use Rattle.config_rules.specs.Call.{too_long, ill_formed, has_long_name}
use Rattle.config_rules.specs.declared.ConfigRefusal.{ConfigRefusal}
use Rattle.config_text.specs.Steps.{Accepted}

-- the bytes of lent texts
abbrev pub bytes_of : List (Bor (List ℕ)) → List (List ℕ)
bytes_of texts = map (λ (t : Bor (List ℕ)). t.now) texts

-- 3 for refusal 7, 2 for 4, 1 for 8, 0 for none: the one that comes first is the largest
abbrev pub rank_number : Option ConfigRefusal → ℕ
rank_number None = 0
rank_number (Some ConfigRefusal.LongName) = 1
rank_number (Some ConfigRefusal.NotUtf8) = 2
rank_number (Some ConfigRefusal.LongText) = 3

-- the rank of what refuses a text
unfoldable pub rank_of : List ℕ → ℕ
rank_of t = choose (too_long t) 3 (choose (ill_formed t) 2 (choose (has_long_name t) 1 0))

unfoldable pub path_rank : List ℕ → ℕ
path_rank path = choose (ill_formed path) 2 0

unfoldable pub worst : List (List ℕ) → ℕ
worst [] = 0
worst (t ∷ ts) = max (rank_of t) (worst ts)

abbrev pub AllAccepted : List (List ℕ) → Type 0
AllAccepted [] = Unit {0}
AllAccepted (t ∷ ts) = Accepted t × AllAccepted ts
