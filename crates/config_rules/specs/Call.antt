-- The whole call, on bytes, and its answer in numbers.
use Rattle.std.specs.Prelude.{ℕ, Bool, false, not, ◌||◌, List, [], ◌∷◌, map, ltb, length, Option, Some, None, Result, Ok, Err}
use Rattle.utf8.specs.Unicode.{decode, well_formed}
use Rattle.rules.specs.Basics.{choose}
use Rattle.rules.specs.declared.IndentStyle.{IndentStyle}
use Rattle.rules.specs.declared.IndentSize.{IndentSize}
use Rattle.rules.specs.declared.MaxLineLen.{MaxLineLen}
use Rattle.rules.specs.declared.ConfigEnding.{ConfigEnding}
use Rattle.rules.specs.declared.Resolved.{Resolved}
use Rattle.config_rules.specs.declared.ConfigRefusal.{ConfigRefusal}
use Rattle.config_rules.specs.declared.ConfigAnswer.{ConfigAnswer}
use Rattle.config_rules.specs.Lines.{lines_of}
use Rattle.config_rules.specs.Sections.{long_name}
use Rattle.config_rules.specs.Texts.{relatives, resolved}

unfoldable pub any_of : (List ℕ → Bool) → List (List ℕ) → Bool
any_of p [] = false
any_of p (t ∷ ts) = p t || any_of p ts

abbrev pub too_long : List ℕ → Bool
too_long t = ltb 65_536 (length t)

abbrev pub ill_formed : List ℕ → Bool
ill_formed t = not (well_formed t)

abbrev pub has_long_name : List ℕ → Bool
has_long_name t = long_name (lines_of (decode t))

-- what reading comes to: the values, or a refusal
abbrev pub ConfigOutcome : Type 0
ConfigOutcome = Result Resolved ConfigRefusal

-- refusals 7, 4, 8, each over all eight texts (4 over the path too), before any matching
unfoldable pub read_editor_config : List ℕ → List (List ℕ) → ConfigOutcome
read_editor_config path texts =
    choose (any_of too_long texts) (Err ConfigRefusal.LongText)
    (choose (any_of ill_formed (path ∷ texts)) (Err ConfigRefusal.NotUtf8)
    (choose (any_of has_long_name texts) (Err ConfigRefusal.LongName)
    (Ok (resolved (map decode texts) (relatives (decode path))))))

-- ---- the numbers that the EditorConfig step takes; 0 is unset

abbrev pub style_number : Option IndentStyle → ℕ
style_number None = 0
style_number (Some IndentStyle.Tabs) = 1
style_number (Some IndentStyle.Spaces) = 2

abbrev pub size_kind : Option IndentSize → ℕ
size_kind None = 0
size_kind (Some IndentSize.UseTabWidth) = 1
size_kind (Some (IndentSize.Value n)) = 2

abbrev pub size_number : Option IndentSize → ℕ
size_number None = 0
size_number (Some IndentSize.UseTabWidth) = 0
size_number (Some (IndentSize.Value n)) = n

abbrev pub tab_set : Option ℕ → ℕ
tab_set None = 0
tab_set (Some n) = 1

abbrev pub tab_number : Option ℕ → ℕ
tab_number None = 0
tab_number (Some n) = n

abbrev pub max_kind : Option MaxLineLen → ℕ
max_kind None = 0
max_kind (Some MaxLineLen.Off) = 1
max_kind (Some (MaxLineLen.Value n)) = 2

abbrev pub max_number : Option MaxLineLen → ℕ
max_number None = 0
max_number (Some MaxLineLen.Off) = 0
max_number (Some (MaxLineLen.Value n)) = n

abbrev pub ending_number : Option ConfigEnding → ℕ
ending_number None = 0
ending_number (Some ConfigEnding.Lf) = 1
ending_number (Some ConfigEnding.CrLf) = 2
ending_number (Some ConfigEnding.Cr) = 3

abbrev pub newline_number : Option Bool → ℕ
newline_number None = 0
newline_number (Some b) = choose b 2 1

abbrev pub refusal_number : ConfigRefusal → ℕ
refusal_number ConfigRefusal.LongName = 8
refusal_number ConfigRefusal.NotUtf8 = 4
refusal_number ConfigRefusal.LongText = 7

-- a refused call gives its number, other fields 0
abbrev pub answer_of : ConfigOutcome → ConfigAnswer
answer_of (Err r) =
    record {
      refusal = refusal_number r;
      place = 0;
      style = 0;
      size_kind = 0;
      size = 0;
      tab_set = 0;
      tab = 0;
      max_kind = 0;
      max = 0;
      ending = 0;
      newline = 0;
    }
answer_of (Ok r) =
    record {
      refusal = 0;
      place = 0;
      style = style_number r.style;
      size_kind = size_kind r.size;
      size = size_number r.size;
      tab_set = tab_set r.tab;
      tab = tab_number r.tab;
      max_kind = max_kind r.max;
      max = max_number r.max;
      ending = ending_number r.ending;
      newline = newline_number r.newline;
    }
