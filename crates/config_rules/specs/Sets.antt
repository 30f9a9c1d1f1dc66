-- Which characters `[..]` names: l is what stands between the brackets.
use Rattle.std.specs.Prelude.{ℕ, Bool, true, false, not, ◌&&◌, ◌||◌, List, [], ◌∷◌, eqb, drop, Option, Some, None, is_some}
use Rattle.utf8.specs.Unicode.{within}
use Rattle.rules.specs.Basics.{choose, is, first_is}
use Rattle.config_rules.specs.declared.Named.{Named}

abbrev pub fresh : Named
fresh = record { low = None; dash = false; esc = false }

-- d escapes the next character; d is the `-` of a range
unfoldable pub escapes : Named → ℕ → Bool
escapes n d = not n.esc && is "\\" d

unfoldable pub dashes : Named → ℕ → Bool
dashes n d = is "-" d && is_some n.low && not n.dash && not n.esc

-- after d
unfoldable pub named_after : Named → ℕ → Named
named_after n d =
    choose (escapes n d) (record { low = n.low; dash = n.dash; esc = true })
    (choose (dashes n d) (record { low = n.low; dash = true; esc = false })
    (choose n.dash fresh (record { low = Some d; dash = false; esc = false })))

-- whether a range from `low` to d holds c
unfoldable pub holds : Option ℕ → ℕ → ℕ → Bool
holds None d c = false
holds (Some low) d c = within low d c

-- whether the character before, which starts no range, is c
unfoldable pub is_low : Option ℕ → ℕ → Bool
is_low None c = false
is_low (Some low) c = eqb low c

abbrev pub itself : Named → ℕ → Bool
itself n c = is_low n.low c

-- at d the set names c: d ends a range that holds it, or no range starts before d
unfoldable pub names_at : Named → ℕ → ℕ → Bool
names_at n d c =
    choose (escapes n d) false (choose (dashes n d) false (choose n.dash (holds n.low d c) (itself n c)))

-- a `-` at the end is itself
unfoldable pub names : Named → List ℕ → ℕ → Bool
names n [] c = itself n c || (n.dash && is "-" c)
names n (d ∷ l) c = names_at n d c || names (named_after n d) l c

-- a `!` directly after `[` negates
unfoldable pub in_set : List ℕ → ℕ → Bool
in_set l c = choose (first_is (is "!") l) (not (names fresh (drop 1 l) c)) (names fresh l c)
