-- Each sentence of docs/EDITORCONFIG.md on globs, computed.
use Prim.Native.String.{String}
use mathlib.Core.Bool.{Bool, true, not, ◌&&◌}
use mathlib.Core.List.{List, [], ◌∷◌}
use mathlib.Core.Path.{◌≡◌, refl}
use Rattle.rules.specs.Basics.{codes}
use Rattle.config_rules.specs.Globs.{matches}
use Rattle.config_rules.proofs.Computing.{configuring}

-- a name, and a path that it matches or not
data Case : Type 0 where
  yes : String → String → Case
  no : String → String → Case

abbrev glob : String → String → Bool
glob name path = matches (codes name) (codes path)

unfoldable right : List Case → Bool
right [] = true
right (yes name path ∷ cs) = glob name path && right cs
right (no name path ∷ cs) = not (glob name path) && right cs

-- a name with a `/` outside brackets matches the whole relative path, an escaped one counts too; a leading one is
-- dropped first
whole_path :
    right
    (yes "d/a.ws" "d/a.ws" ∷ no "d/a.ws" "e/d/a.ws" ∷ yes "/a.ws" "a.ws" ∷ no "/a.ws" "d/a.ws" ∷ no "d\\/a" "e/d/a" ∷ yes "d\\/a" "d/a"
    ∷ no "\\/a" "a" ∷ yes "\\/a" "/a" ∷ yes "//a" "/a" ∷ no "//a" "a" ∷ no "[/a" "a/[/a" ∷ yes "[/a" "[/a" ∷ no "{/a,b}" "a" ∷ no "{/a,b}" "c/b" ∷ [])
    ≡ true
unfolding configuring right
whole_path = refl

-- otherwise it matches the whole, or what follows any slash
any_level :
    right
    (yes "a.ws" "a.ws" ∷ yes "a.ws" "d/a.ws" ∷ yes "a.ws" "d/e/a.ws" ∷ no "a.ws" "ba.ws" ∷ no "d" "d/a" ∷ yes "b[/]a" "c/b/a" ∷ no "[/]a" "b/a"
    ∷ yes "" "a/" ∷ yes "" "" ∷ no "" "a" ∷ [])
    ≡ true
unfolding configuring right
any_level = refl

star :
    right
    (yes "*.ws" "a.ws" ∷ yes "*.ws" ".ws" ∷ yes "*" "" ∷ no "/*.ws" "d/a.ws" ∷ yes "*.ws" "d/a.ws" ∷ yes "a*b*c" "abxbc" ∷ no "/a*" "a/b" ∷ [])
    ≡ true
unfolding configuring right
star = refl

-- three stars or more are `**` and the rest
stars :
    right
    (yes "/**.ws" "d/e/a.ws" ∷ yes "a/**b" "a/b" ∷ yes "a/**b" "a/c/d/b" ∷ yes "/a**" "a" ∷ yes "/***.ws" "d/a.ws" ∷ yes "/a/****b" "a/c/b" ∷ [])
    ≡ true
unfolding configuring right
stars = refl

-- `/**/` is `/`, or `/`, any string, `/`; a leading `**/` has a `/` before it; read from the left, without overlap;
-- neither part escaped or in brackets
deep :
    right
    (yes "a/**/b" "a/b" ∷ yes "a/**/b" "a/c/b" ∷ yes "a/**/b" "a/c/d/b" ∷ no "a/**/b" "ab" ∷ no "a/**/b" "a/cb" ∷ yes "a/**/b" "a//b"
    ∷ yes "**/b" "b" ∷ yes "**/b" "a/b" ∷ yes "/**/b" "b" ∷ yes "/**/b" "a/c/b" ∷ no "**/b" "ab" ∷ yes "//**/b" "/b" ∷ no "//**/b" "b"
    ∷ no "a/**/**/b" "a/b" ∷ yes "a/**/**/b" "a/c/b" ∷ no "**/**/b" "b" ∷ yes "**/**/b" "a/b"
    ∷ no "a/\\**/b" "a/b" ∷ no "a\\/**/b" "a/b" ∷ no "a/*\\*/b" "a/b" ∷ no "a/**\\/b" "a/b" ∷ no "a[/]**/b" "a/b" ∷ no "a/***/b" "a/b"
    ∷ yes "{a,c}/**/b" "c/b" ∷ yes "{a/**/b,c}" "a/b" ∷ no "x{**/b,c}" "xb" ∷ [])
    ≡ true
unfolding configuring right
deep = refl

one :
    right (yes "a?c" "abc" ∷ no "/a?c" "a/c" ∷ no "a?c" "ac" ∷ yes "?" "é" ∷ no "a?c" "abbc" ∷ [])
    ≡ true
unfolding configuring right
one = refl

-- ranges by code point, from the left; a `-` first or last, or escaped, is itself; ends may be escaped; `[]` and
-- `[c-a]` name none
sets :
    right
    (yes "[a-c]x" "bx" ∷ no "[a-c]x" "dx" ∷ yes "[-a]" "-" ∷ yes "[a-]" "-" ∷ yes "[a-]" "a" ∷ no "[a\\-c]" "b" ∷ yes "[a\\-c]" "-"
    ∷ yes "[a-c-e]" "b" ∷ yes "[a-c-e]" "-" ∷ yes "[a-c-e]" "e" ∷ no "[a-c-e]" "d" ∷ yes "[\\a-\\c]" "b" ∷ no "[]" "]" ∷ no "[]" "" ∷ no "[c-a]" "b"
    ∷ no "[c-a]" "c" ∷ yes "x[/]y" "x/y" ∷ yes "[à-é]" "ç" ∷ yes "[*]" "*" ∷ no "[*]" "a" ∷ yes "[a-a]" "a" ∷ [])
    ≡ true
unfolding configuring right
sets = refl

-- only a `!` directly after `[` negates; `[!]` matches any one character
negated :
    right
    (yes "[!a]b" "cb" ∷ no "[!a]b" "ab" ∷ yes "x[!a]b" "x/b" ∷ yes "[a!]" "!" ∷ yes "[a!]" "a" ∷ yes "[!]" "a" ∷ yes "x[!]y" "x/y" ∷ no "[!]" ""
    ∷ yes "[\\!a]" "!" ∷ no "[!a-c]" "b" ∷ yes "[!!]" "a" ∷ no "[!!]" "!" ∷ yes "[^a]" "^" ∷ yes "[^a]" "a" ∷ [])
    ≡ true
unfolding configuring right
negated = refl

braces :
    right
    (yes "{s,t}.x" "t.x" ∷ yes "a{,b}" "a" ∷ yes "a{,b}" "ab" ∷ yes "{a{b,c},d}e" "ace" ∷ yes "{a{b,c},d}e" "de" ∷ yes "{a{b,c},d}e" "abe"
    ∷ no "{a{b,c},d}e" "ade" ∷ yes "{*.a,?b}" "x.a" ∷ yes "{,}" "" ∷ yes "{a,b,c}" "b" ∷ yes "{a,b}{c,d}" "ad" ∷ [])
    ≡ true
unfolding configuring right
braces = refl

-- the ends in either order; leading zeros are digits; `-0` is 0; a number of the path may be cut anywhere; any number
-- of digits
ranges :
    right
    (yes "{1..3}" "2" ∷ yes "{3..1}" "2" ∷ no "{1..3}" "4" ∷ yes "{1..3}" "003" ∷ yes "{-2..2}" "-1" ∷ no "{-2..2}" "-3" ∷ yes "{0..2}" "-0"
    ∷ yes "{1..3}4" "24" ∷ no "{99..1000}" "1001" ∷ yes "{3..120}" "060" ∷ no "{1..3}" "" ∷ no "{1..3}" "+2" ∷ no "{1..3}" "a" ∷ yes "{01..03}" "2"
    ∷ yes "{-3..-1}" "-2" ∷ no "{-3..-1}" "2" ∷ yes "{99999999999999999999..99999999999999999998}" "99999999999999999998" ∷ no "{1..3}" "--2" ∷ [])
    ≡ true
unfolding configuring right
ranges = refl

-- a range is two numbers and nothing else between the braces
not_a_range :
    right
    (yes "{1..a}" "{1..a}" ∷ no "{1...3}" "2" ∷ yes "{1..3,b}" "1..3" ∷ no "{1..3,b}" "2" ∷ yes "{{1..3}}" "{2}" ∷ yes "{+1..3}" "{+1..3}" ∷ no "{1 ..3}" "2"
    ∷ no "{1..\\3}" "2" ∷ yes "{1..}" "{1..}" ∷ yes "{..3}" "{..3}" ∷ yes "{1.3}" "{1.3}" ∷ yes "{1..3" "{1..3" ∷ [])
    ≡ true
unfolding configuring right
not_a_range = refl

escaped :
    right
    (yes "\\*" "*" ∷ no "\\*" "a" ∷ yes "a\\" "a\\" ∷ yes "\\{a,b}" "{a,b}" ∷ yes "{a\\,b,c}" "a,b" ∷ no "{a\\,b,c}" "a" ∷ yes "\\a" "a" ∷ yes "\\\\" "\\"
    ∷ yes "{a,b\\}" "{a,b}" ∷ yes "\\[a]" "[a]" ∷ [])
    ≡ true
unfolding configuring right
escaped = refl

-- brackets are read before braces, and end at the first unescaped `]`
brackets_first :
    right
    (yes "{a,[,}]}b" "}b" ∷ yes "{a,[,}]}b" "ab" ∷ yes "{a,[,}]}b" ",b" ∷ yes "[a\\]]" "]" ∷ yes "[a]]" "a]" ∷ no "[a]]" "a" ∷ yes "[[]" "["
    ∷ no "[]a]" "a]" ∷ no "[]a]" "a" ∷ [])
    ≡ true
unfolding configuring right
brackets_first = refl

-- a bracket or brace never closed, braces with neither a comma of their own nor a range, a closing one with nothing
-- open: themselves
themselves :
    right
    (yes "[ab" "[ab" ∷ yes "{a,b" "{a,b" ∷ yes "{a?}" "{ab}" ∷ yes "{a{b,c}" "{ac" ∷ yes "a}b,]" "a}b,]" ∷ yes "{{a,b}}" "{b}" ∷ yes "{}" "{}"
    ∷ yes "{a,{b}}" "{b}" ∷ yes "[a\\]" "[a]" ∷ yes "{a}*" "{a}b" ∷ yes "}{a,b}" "}b" ∷ yes "{a{b,c" "{a{b,c" ∷ yes "{{a},b}" "{a}" ∷ [])
    ≡ true
unfolding configuring right
themselves = refl
