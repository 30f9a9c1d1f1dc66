-- Readings of C-21, one list of the definitions' results.
use Prim.Native.Nat.{ℕ}
use Prim.Native.String.{String}
use mathlib.Core.List.{List, [], ◌∷◌, ◌++◌, map}
use mathlib.Core.Path.{◌≡◌, refl}
use lib.ListN.{replicate}
use Rattle.rules.specs.Basics.{codes}
use Rattle.rules.proofs.Computing.{computing}
use Rattle.group_rules.specs.declared.Fault.{Fault}
use Rattle.group_rules.specs.Expression.{starts_operator, open_step, close_step, due_step, after_step, stage_step, ended, ending, on_step, read_from, reading_to}
use Rattle.group_rules.specs.Grouping.{takes, extend, with_signs, join_left, feed_due, feed_closed, feed_done, feed_at, tree_of, written, Grouping, text, no_text, grouping_of, grouping}

unfoldable pub opened : Unit {0}
unfolding computing starts_operator open_step close_step due_step after_step stage_step ended ending on_step read_from reading_to takes extend with_signs join_left feed_due feed_closed feed_done feed_at tree_of written grouping_of grouping
opened = tt

abbrev Case : Type 0
Case = String × Grouping

abbrev gives : String → String → Case
gives s t = (s, text (codes t))

abbrev at14 : String → ℕ → Case
at14 s p = (s, no_text Fault.NoExpression p)

abbrev cases : List Case
cases =
    gives "a--b" "(a - -b)" ∷ gives "- - a" "--a" ∷ gives "-(a+b)" "-(a + b)" ∷ gives "-(a)" "-a" ∷ gives "((a))" "a"
    ∷ gives "-2**2" "(-2 ** 2)" ∷ gives "2**-1" "(2 ** -1)" ∷ gives "a+b*c" "(a + (b * c))" ∷ gives "a*b+c" "((a * b) + c)"
    ∷ gives "a-b-c" "((a - b) - c)" ∷ gives "a**b**c" "(a ** (b ** c))" ∷ gives "(a+b)*c" "((a + b) * c)" ∷ gives "a+(b+c)" "(a + (b + c))"
    ∷ gives "a||b^^c&&d|e^f&g==h!=i<j>k<=l>=m<<n>>o..p+q-r*s/t%u**v"
    "((a || b) ^^ (c && (d | (e ^ (f & ((g == h) != ((((i < j) > k) <= l) >= ((m << n) >> (o .. ((p + q) - (((r * s) / t) % (u ** v))))))))))))"
    ∷ gives "\ta <= -b1" "(a <= -b1)" ∷ gives "ifx + _9" "(ifx + _9)" ∷ gives "1..5" "(1 .. 5)" ∷ gives "a**b*c**d" "((a ** b) * (c ** d))"
    ∷ at14 "if" 2 ∷ at14 "if + a" 2 ∷ at14 "a = b" 3 ∷ at14 "a b" 2 ∷ at14 "1.5" 2 ∷ at14 "a->b" 2 ∷ at14 "()" 1 ∷ at14 "" 0 ∷ at14 "(a" 2
    ∷ at14 "a\n" 1 ∷ at14 "1a" 1 ∷ at14 "a)" 1 ∷ at14 "a***b" 3 ∷ at14 "a+" 2 ∷ at14 "a!" 2 ∷ at14 "(await)" 6 ∷ at14 "a(b)" 1 ∷ at14 "é" 0
    ∷ []

abbrev grouping_of_text : Case → Grouping
grouping_of_text c = grouping (codes c.0)

abbrev expected : Case → Grouping
expected c = c.1

examples : map grouping_of_text cases ≡ map expected cases
unfolding opened
examples = refl

-- refusal 15 at the 65th bracket; 64 pass
deep : grouping (replicate 65 40 ++ codes "a") ≡ no_text Fault.TooDeep 64
unfolding opened
deep = refl

passes : grouping (replicate 64 40 ++ codes "a" ++ replicate 64 41) ≡ text (codes "a")
unfolding opened
passes = refl
