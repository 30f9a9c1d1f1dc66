-- What a byte says that stands between the source and its text: `codes_of` of Passes.antt writes it.
use Rattle.std.specs.Prelude.{ℕ, ◌+◌, ◌≤◌, ◌<◌, ◌≡◌, true, false}
use Rattle.group_rules.specs.Passes.{is_right_code}
use Rattle.group_rules.specs.declared.Code.{Code}

-- a byte of the text
pub record IsText (b : ℕ) : Type 0 where
  pub opener : b ≡ 14 → ⊥
  pub closer : b ≡ 15 → ⊥
  pub left : 12 < b
  pub right : is_right_code b ≡ false

-- the operator with the strength s stands before b
pub record IsRight (b s : ℕ) : Type 0 where
  pub is : b ≡ s + 16
  pub right : is_right_code b ≡ true

abbrev pub IsCode : ℕ → Code → Type 0
IsCode b Code.Opener = b ≡ 14
IsCode b Code.Closer = b ≡ 15
IsCode b (Code.Left s) = (s ≡ b) × (b ≤ 12)
IsCode b (Code.Right s) = IsRight b s
IsCode b (Code.Text c) = (c ≡ b) × IsText b
