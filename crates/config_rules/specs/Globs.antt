-- Which strings a name matches. A place in the name stands for the strings that it matches from there on.
use Rattle.std.specs.Prelude.{ℕ, Bool, true, false, ◌&&◌, ◌||◌, List, [], ◌∷◌, eqb, drop}
use Rattle.rules.specs.Basics.{choose, is, is_empty, first_is}
use Rattle.config_rules.specs.Numbers.{in_range}
use Rattle.config_rules.specs.Name.{Item, Token, tokens_of}
use Rattle.config_rules.specs.Name.Item.{part, same, one, run, ahead, range}
use Rattle.config_rules.specs.Name.Token.{item, opens, comma, closes}

abbrev pub Strings : Type 0
Strings = List ℕ → Bool

abbrev pub either : Strings → Strings → Strings
either k l s = k s || l s

abbrev pub never : Strings
never s = false

-- one character that passes, any number of them, a beginning that passes: then k
unfoldable pub one_then : (ℕ → Bool) → Strings → Strings
one_then p k [] = false
one_then p k (c ∷ s) = p c && k s

unfoldable pub run_then : (ℕ → Bool) → Strings → Strings
run_then p k [] = k []
run_then p k (c ∷ s) = k (c ∷ s) || (p c && run_then p k s)

unfoldable pub some_then : Strings → Strings → Strings
some_then p k [] = p [] && k []
some_then p k (c ∷ s) = (p [] && k (c ∷ s)) || some_then (λ (l : List ℕ). p (c ∷ l)) k s

-- `/**/` is `/`, or `/`, any string, `/`: what starts with `/` and is any string, `/`
unfoldable pub ahead_then : Strings → Strings
ahead_then k s = first_is (is "/") s && k s

unfoldable pub item_then : Item → Strings → Strings
item_then part k = k
item_then (same c) k = one_then (eqb c) k
item_then (one p) k = one_then p k
item_then (run p) k = run_then p k
item_then ahead k = ahead_then k
item_then (range m n) k = some_then (in_range m n) k

-- ---- braces

-- Braces around a place: what the alternatives to its right match, and what follows the closing brace.
pub record Around : Type 0 where
  pub others : Strings
  pub after : Strings

pub record Place : Type 0 where
  pub here : Strings
  pub around : List Around

-- a closing brace: its last alternative ends here
unfoldable pub closing : Place → Place
closing p = record { here = p.here; around = record { others = never; after = p.here } ∷ p.around }

-- a comma: an alternative ends here, and the next one starts
unfoldable pub between : Strings → List Around → Place
between k [] = record { here = k; around = [] }
between k (b ∷ bs) =
    record { here = b.after; around = record { others = either k b.others; after = b.after } ∷ bs }

-- an opening brace: any of the alternatives
unfoldable pub opening : Strings → List Around → Place
opening k [] = record { here = k; around = [] }
opening k (b ∷ bs) = record { here = either k b.others; around = bs }

unfoldable pub place_at : Token → Place → Place
place_at (item i) p = record { here = item_then i p.here; around = p.around }
place_at opens p = opening p.here p.around
place_at comma p = between p.here p.around
place_at closes p = closing p

unfoldable pub place_of : List Token → Place
place_of [] = record { here = is_empty; around = [] }
place_of (t ∷ ts) = place_at t (place_of ts)

-- ---- A name and a path relative to the text's directory, both with a `/` before them: so a name that starts with
-- `**/` has a `/` there.

unfoldable pub rooted : List ℕ → List ℕ
rooted name = choose (first_is (is "/") name) name (47 ∷ name)

unfoldable pub is_slash : Token → Bool
is_slash (item part) = false
is_slash (item (same c)) = is "/" c
is_slash (item (one p)) = false
is_slash (item (run p)) = false
is_slash (item ahead) = true
is_slash (item (range m n)) = false
is_slash opens = false
is_slash comma = false
is_slash closes = false

unfoldable pub has_slash : List Token → Bool
has_slash [] = false
has_slash (t ∷ ts) = is_slash t || has_slash ts

-- s itself, or what remains of it from some place on
unfoldable pub suffix : Strings → Strings
suffix k [] = k []
suffix k (c ∷ s) = k (c ∷ s) || suffix k s

-- With a slash of its own the name matches the whole path. Without, the `/` before it may also be any slash of the
-- path.
unfoldable pub anchored : List ℕ → List Token → Bool
anchored name ts = first_is (is "/") name || has_slash (drop 1 ts)

unfoldable pub matches : List ℕ → List ℕ → Bool
matches name path =
    let ts = tokens_of (rooted name) in
    choose (anchored name ts) ((place_of ts).here (47 ∷ path)) (suffix (place_of ts).here (47 ∷ path))
