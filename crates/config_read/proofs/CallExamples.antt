-- The whole call, computed: eight directories, the limits, and the answer in numbers.
use Prim.Native.Nat.{ℕ}
use Prim.Native.String.{String}
use mathlib.Core.List.{List, [], ◌∷◌, ◌++◌}
use mathlib.Core.Path.{◌≡◌, refl}
use lib.ListN.{replicate}
use Rattle.std.specs.Prelude.{Ok, Err}
use Rattle.rules.specs.Basics.{codes}
use Rattle.config_rules.specs.Values.{unset}
use Rattle.config_rules.specs.Call.{read_editor_config, answer_of}
use Rattle.config_rules.specs.declared.ConfigAnswer.{ConfigAnswer}
use Rattle.config_rules.specs.declared.ConfigRefusal.{ConfigRefusal}
use Rattle.config_rules.proofs.Computing.{configuring}

-- these are ASCII
abbrev answer : String → List (List ℕ) → ConfigAnswer
answer path texts = answer_of (read_editor_config (codes path) texts)

abbrev numbers : ℕ → ℕ → ℕ → ℕ → ℕ → ℕ → ℕ → ℕ → ℕ → ConfigAnswer
numbers style size_kind size tab_set tab max_kind max ending newline =
    record {
      refusal = 0;
      place = 0;
      style = style;
      size_kind = size_kind;
      size = size;
      tab_set = tab_set;
      tab = tab;
      max_kind = max_kind;
      max = max;
      ending = ending;
      newline = newline;
    }

-- a path deeper than eight directories uses its nearest eight: the eighth text is that of `1`
eight : answer "1/2/3/4/5/6/7/8/9" ([] ∷ [] ∷ [] ∷ [] ∷ [] ∷ [] ∷ [] ∷ codes "[2/3/4/5/6/7/8/9]\ntab_width=4" ∷ []) ≡ numbers 0 0 0 1 4 0 0 0 0
unfolding configuring
eight = refl

-- the numbers that the EditorConfig step takes; where a kind is unset, `tab` or `off`, its number is 0
in_numbers :
    (answer "a" (codes "[a]\nindent_style=tab\nindent_size=3\ntab_width=8\nmax_line_length=90\nend_of_line=crlf\ninsert_final_newline=false" ∷ [])
    ≡ numbers 1 2 3 1 8 2 90 2 1)
    × (answer "a" (codes "[a]\nindent_style=space\nindent_size=tab\nmax_line_length=off\nend_of_line=cr\ninsert_final_newline=true" ∷ [])
    ≡ numbers 2 1 0 0 0 1 0 3 2)
    × (answer "a" (codes "[a]\nend_of_line=lf" ∷ []) ≡ numbers 0 0 0 0 0 0 0 1 0)
unfolding configuring
in_numbers = (refl, refl, refl)

-- refused, every other field is 0
refused_numbers : (answer_of (read_editor_config (0x80 ∷ []) [])).refusal ≡ 4
unfolding configuring
refused_numbers = refl

-- a name's leading slash counts; keys and values have no limit
limits :
    (read_editor_config [] ((91 ∷ 47 ∷ replicate 1024 97 ++ (93 ∷ [])) ∷ []) ≡ Err ConfigRefusal.LongName)
    × (read_editor_config [] ((replicate 1100 97 ++ (61 ∷ replicate 1100 98)) ∷ []) ≡ Ok unset)
unfolding configuring
limits = (refl, refl)
