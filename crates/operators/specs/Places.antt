-- The places of the operators in the tightness list, and that of none.
use Rattle.std.specs.Prelude.{ℕ, Option, Some, None}
use Rattle.operators.specs.declared.Operator.{Operator}
use Rattle.operators.specs.declared.Operator.TheVariants.{Or, Xor, And, BitOr, BitXor, BitAnd, Equal, NotEqual, Less, Greater, AtMost, AtLeast, ShiftLeft, ShiftRight, Range, Add, Sub, Mul, Div, Rem, Pow}

abbrev pub place_of : Operator → ℕ
place_of Or = 0
place_of Xor = 1
place_of And = 2
place_of BitOr = 3
place_of BitXor = 4
place_of BitAnd = 5
place_of Equal = 6
place_of NotEqual = 7
place_of Less = 8
place_of Greater = 9
place_of AtMost = 10
place_of AtLeast = 11
place_of ShiftLeft = 12
place_of ShiftRight = 13
place_of Range = 14
place_of Add = 15
place_of Sub = 16
place_of Mul = 17
place_of Div = 18
place_of Rem = 19
place_of Pow = 20

-- that of none is how many there are
abbrev pub place_in : Option Operator → ℕ
place_in (Some o) = place_of o
place_in None = 21
