-- Each of the operators, read: an operator of the list that `top_level_ops` didn't know would fail here. Tables of
-- strengths, read.
use Rattle.std.specs.Prelude.{Some}
use mathlib.Core.List.{List, [], ◌∷◌, map, ◌++◌}
use mathlib.Core.Path.{◌≡◌, refl}
use Prim.Native.Nat.{ℕ}
use Prim.Native.String.{String}
use lib.ListN.{length, take, drop, replicate}
use Rattle.rules.specs.Basics.{codes}
use Rattle.rules.specs.Scan.{classify}
use Rattle.rules.specs.Operators.{operators, strengths}
use Rattle.rules.specs.Strengths.{table_length, strengths_in, last_bits, built_in}
use Rattle.rules.specs.Options.{defaults}
use Rattle.rules.specs.SplitOperation.{top_level_ops, loosest}
use Rattle.rules.specs.Assembly.{format_with}
use Rattle.rules.specs.declared.Carry.{Carry}
use Rattle.rules.proofs.Computing.{computing}
use Rattle.rules.proofs.Examples.{at_width}

abbrev between : String → String → List ℕ → List ℕ
between a b op = codes a ++ (op ++ codes b)

-- between two operands it has its own strength
pub own_strengths : map (λ op. loosest (top_level_ops strengths (classify Carry.Code (between "a" "b" op)))) operators ≡ strengths
unfolding computing
own_strengths = refl

-- a line that is too wide is broken before it
pub broken_before : map (λ op. (format_with (at_width 0) (between "a " " b" op)).text) operators ≡ map (between "a\n  " " b\n") operators
unfolding computing
broken_before = refl

-- ---- tables of strengths

-- the built-in table is 01's list, has the length of a table, and its last bits are zero
pub built_in_read : strengths_in built_in ≡ strengths
unfolding computing
built_in_read = refl

pub built_in_whole : length built_in ∷ last_bits built_in ∷ [] ≡ table_length ∷ 0 ∷ []
unfolding computing
built_in_whole = refl

-- fields in their order: each operator has the strength that the table gives it
pub fields_read : strengths_in (0x12 ∷ 0x34 ∷ 0x56 ∷ 0x78 ∷ 0x9A ∷ 0xBC ∷ 0xDE ∷ 0xF0 ∷ 0x12 ∷ 0x34 ∷ 0x50 ∷ [])
    ≡ 1 ∷ 2 ∷ 3 ∷ 4 ∷ 5 ∷ 6 ∷ 7 ∷ 8 ∷ 9 ∷ 10 ∷ 11 ∷ 12 ∷ 13 ∷ 14 ∷ 15 ∷ 0 ∷ 1 ∷ 2 ∷ 3 ∷ 4 ∷ 5 ∷ []
unfolding computing
fields_read = refl

-- the built-in table with other strengths of `..` `+` `-` `*`
abbrev with : ℕ → ℕ → List ℕ
with a b = take 7 built_in ++ (a ∷ b ∷ drop 9 built_in)

abbrev by : List ℕ → ℕ → String → List ℕ
by table n source =
    (format_with
    (record {
      indent = defaults.indent;
      print_width = Some n;
      end_of_line = defaults.end_of_line;
      insert_final_newline = defaults.insert_final_newline;
      ruler_tab = defaults.ruler_tab;
      strengths = record { table = table };
    })
    (codes source)).text

pub tables_used :
    -- sums are broken last
    by (with 0x9C 0xCB) 6 "a + b*c"
    -- `+` is never broken at, and is still an operator: the `-` after it is a sign
    ∷ by (with 0x90 0xAB) 0 "a + -b * c"
    -- nothing is
    ∷ by (replicate 11 0) 0 "a + b || c ** d"
    -- fifteen strengths, loosest first
    ∷ by (with 0xFE 0xD1) 0 "a .. b + c - d * e"
    ∷ []
    ≡ codes "a + b\n  *c\n" ∷ codes "a + -b\n  * c\n" ∷ codes "a + b || c ** d\n" ∷ codes "a\n  .. b\n  + c\n  - d\n  * e\n" ∷ []
unfolding computing
tables_used = refl
