-- What a line starts with, as the code finds it.
use Rattle.std.specs.Prelude.{ℕ, Bool, true, false, ◌||◌, List, ◌≡◌, eqb, drop, Option, Some, None}
use Rattle.utf8.specs.Unicode.{decode, is_white}
use Rattle.rules.specs.Basics.{choose, is, at, first_is, last_is}
use Rattle.rules.specs.Words.{white_or_paren}
use Rattle.rules.specs.Line.{continues}
use Rattle.format.specs.declared.words.Declaration.{Declaration}

-- white space, or c
unfoldable pub white_or : ℕ → ℕ → Bool
white_or c x = is_white x || eqb x c

-- white space or `(` stands after n bytes
unfoldable pub follows : List ℕ → ℕ → Bool
follows line n = first_is white_or_paren (decode (drop n line))

-- r says whether the line continues one that ends in `}` if e says so
pub record Continues (line : List ℕ) (e r : Bool) : Type 0 where
  pub is : (prev : List ℕ) → last_is (is "}") prev ≡ e → r ≡ continues prev (decode line)

-- which of `in `, `out `, `var ` a line starts with
unfoldable pub declaration_of : List ℕ → Option Declaration
declaration_of line =
    choose (at line "in ") (Some Declaration.In)
    (choose (at line "out ") (Some Declaration.Out)
    (choose (at line "var ") (Some Declaration.Var)
    None))

-- both are the same, and not nothing
abbrev pub same_of : Option Declaration → Option Declaration → Bool
same_of None b = false
same_of (Some Declaration.In) None = false
same_of (Some Declaration.In) (Some Declaration.In) = true
same_of (Some Declaration.In) (Some Declaration.Out) = false
same_of (Some Declaration.In) (Some Declaration.Var) = false
same_of (Some Declaration.Out) None = false
same_of (Some Declaration.Out) (Some Declaration.In) = false
same_of (Some Declaration.Out) (Some Declaration.Out) = true
same_of (Some Declaration.Out) (Some Declaration.Var) = false
same_of (Some Declaration.Var) None = false
same_of (Some Declaration.Var) (Some Declaration.In) = false
same_of (Some Declaration.Var) (Some Declaration.Out) = false
same_of (Some Declaration.Var) (Some Declaration.Var) = true
