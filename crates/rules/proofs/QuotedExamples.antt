-- C-22, computed: the strings of some sources with their places, the texts of some, and prefabs.
use Rattle.std.specs.Prelude.{None}
use Prim.Native.Nat.{ℕ}
use Prim.Native.String.{String}
use mathlib.Core.List.{List, [], ◌∷◌, map}
use mathlib.Core.Path.{◌≡◌, refl}
use Rattle.rules.specs.Basics.{codes}
use Rattle.rules.specs.Assembly.{format_with}
use Rattle.rules.specs.Prefabs.{Prefab, prefabs_of}
use Rattle.rules.specs.Quoted.{Quoted, quoted_of}
use Rattle.rules.proofs.Computing.{computing}
use Rattle.rules.proofs.Examples.{with_width}

-- a source; its strings in order, each behind what stands before it
abbrev Case : Type 0
Case = String × List (String × String)

abbrev cases : List Case
cases =
    -- two on a line; two without a space
    ("f(\"a  ,b\" ,\"c\")", ("f(", "\"a  ,b\"") ∷ ("f(\"a  ,b\" ,", "\"c\"") ∷ [])
    ∷ ("\"a\"\"b\"", ("", "\"a\"") ∷ ("\"a\"", "\"b\"") ∷ [])
    -- single quotes, an escaped quote, an escaped quote in code
    ∷ (" '\"' x", (" ", "'\"'") ∷ [])
    ∷ ("\"a\\\"  b\" ,c", ("", "\"a\\\"  b\"") ∷ [])
    ∷ ("\\\"a\" ,b\"", ("\\\"a", "\" ,b\"") ∷ [])
    -- ${..} with quotes in it is part of its string
    ∷ ("\"x${f( \"}\" ,'a')}  y\" ,c", ("", "\"x${f( \"}\" ,'a')}  y\"") ∷ [])
    -- not closed on its line
    ∷ ("\"abc  ", [])
    ∷ ("\"${\"a\"", [])
    ∷ ("\"a\n\"b\"", ("\"a\n", "\"b\"") ∷ [])
    ∷ ("\"a\\\"", [])
    -- in comments and prefabs none; behind their ends
    ∷ ("// \"a\"\n\"b\"", ("// \"a\"\n", "\"b\"") ∷ [])
    ∷ ("/* \"a\n\"b\" */ \"c\"", ("/* \"a\n\"b\" */ ", "\"c\"") ∷ [])
    ∷ ("$```\r\n\"a\"\r\n``` \"c\"", ("$```\r\n\"a\"\r\n``` ", "\"c\"") ∷ [])
    -- a protected line
    ∷ ("// fmt-ignore\n  f( \"a  b\" ,c)", ("// fmt-ignore\n  f( ", "\"a  b\"") ∷ [])
    ∷ []

abbrev given : Case → List Quoted
given c = quoted_of (codes c.0)

abbrev quoted_case : String × String → Quoted
quoted_case p = record { before = codes p.0; string = codes p.1 }

abbrev expected : Case → List Quoted
expected c = map quoted_case c.1

pub strings : map given cases ≡ map expected cases
unfolding computing
strings = refl

-- ---- texts, with no print width

abbrev texts : List (String × String)
texts =
    -- respaced around strings, joined, protected, behind a comment's end, behind an escaped blank and a comma
    ("f(  \"a  ,b\"  ,\"c\" )", "f( \"a  ,b\", \"c\" )\n")
    ∷ ("}\nelse  {  \"a  b\"  }", "} else { \"a  b\" }\n")
    ∷ ("// fmt-ignore\n  f( \"a  b\" ,c)  ", "// fmt-ignore\n  f( \"a  b\" ,c)  \n")
    ∷ ("/*\n*/  \"a  b\"  ,c  ", "/*\n*/  \"a  b\"  ,c\n")
    ∷ ("\\ ,\"a  ,b\"", "\\, \"a  ,b\"\n")
    -- one that is not closed is trimmed with its line
    ∷ ("\"abc  ", "\"abc\n")
    -- the lines within a prefab; its opening line is trimmed, its closing line is kept
    ∷ ("a  $``` b  \n  x  ,y  \n\n\tz\n ``` c  \n", "a $``` b\n  x  ,y  \n\n\tz\n ``` c  \n")
    ∷ []

abbrev text_of : String × String → List ℕ
text_of p = (format_with (with_width None) (codes p.0)).text

pub written : map text_of texts ≡ map (λ (p : String × String). codes p.1) texts
unfolding computing
written = refl

-- ---- prefabs: a source; what stands before each, its line, the lines within

abbrev PrefabCase : Type 0
PrefabCase = String × List (String × String × List String)

abbrev prefab_cases : List PrefabCase
prefab_cases =
    ("a $``` b\n  x  ,y \n\n\tz\n ``` c\n", ("a ", "$``` b", "  x  ,y " ∷ "" ∷ "\tz" ∷ []) ∷ [])
    -- closed on its line; no line within; never closed
    ∷ ("$``` a ```\nb", [])
    ∷ ("$```\n```", ("", "$```", []) ∷ [])
    ∷ ("$```\na\n", [])
    -- closed and opened on one line; opened behind one that is closed; CR LF, and a CR more
    ∷ ("$```\na\n``` $``` c\nd\n```", ("", "$```", "a" ∷ []) ∷ ("$```\na\n``` ", "$``` c", "d" ∷ []) ∷ [])
    ∷ ("$```a``` $```\nb\n```", ("$```a``` ", "$```", "b" ∷ []) ∷ [])
    ∷ ("$```\r\na\r\r\n```", ("", "$```", "a\r" ∷ []) ∷ [])
    -- in a string, a comment: none
    ∷ ("\"$```\"\n// $```\n/* $```\n*/ $```\na\n```", ("\"$```\"\n// $```\n/* $```\n*/ ", "$```", "a" ∷ []) ∷ [])
    ∷ []

abbrev prefabs_given : PrefabCase → List Prefab
prefabs_given c = prefabs_of (codes c.0)

abbrev prefab_case : String × String × List String → Prefab
prefab_case p = record { before = codes p.0; line = codes p.1; inner = map codes p.2 }

pub prefabs : map prefabs_given prefab_cases ≡ map (λ (c : PrefabCase). map prefab_case c.1) prefab_cases
unfolding computing
prefabs = refl
