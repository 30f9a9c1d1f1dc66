-- Readings of document 01, as the Rust has them: one list of the rules' results. The numbers are those of
-- docs/TERMS.md.
use mathlib.Core.List.{List, [], ◌∷◌, map}
use mathlib.Core.Path.{◌≡◌, refl}
use Rattle.rules.specs.Options.{defaults}
use Rattle.rules.proofs.Computing.{computing}
use Rattle.rules.proofs.Examples.{Case, at_width, given, expected}

abbrev pub readings : List Case
readings =
    -- misreadings that document 01 names: a closer matched to its kind, a blank line that uses up a marker
    (defaults, "{\na )\nb", "{\n  a )\nb\n", 0, 0)
    ∷ (defaults, "({\nx\n)\ny\n}", "({\n  x\n  )\n  y\n}\n", 0, 0)
    ∷ (defaults, "// fmt-ignore\n\n\n f( a ,b)\n f( a ,b)", "// fmt-ignore\n\n f( a ,b)\nf( a, b)\n", 0, 0)
    -- 1
    ∷ (defaults, "\"abc   \nx", "\"abc\nx\n", 0, 0)
    ∷ (defaults, "a\\ \nb", "a\\\nb\n", 0, 0)
    ∷ (defaults, "  $``` a  \n  x  \n```", "$``` a\n  x  \n```\n", 0, 0)
    -- 2
    ∷ (defaults, "$```\nx\r", "$```\nx\n", 0, 0)
    ∷ (defaults, "$```\n\r\r\n", "$```\n\r\n", 0, 0)
    -- 3
    ∷ (defaults, "a\rb", "a\rb\n", 0, 0)
    ∷ (defaults, "\u{85}\u{2028}\u{b}a\u{2029}\u{c}", "a\n", 0, 0)
    ∷ (defaults, "\u{feff} a", "\u{feff} a\n", 0, 0)
    ∷ (defaults, " \u{200b}\n\n\n\u{180e} \u{1c}\u{1d}\u{1e}\u{1f}", "\u{200b}\n\n\u{180e} \u{1c}\u{1d}\u{1e}\u{1f}\n", 0, 0)
    -- 5
    ∷ (defaults, "\"${\"${\"}\",a", "\"${\"${\"}\", a\n", 0, 0)
    ∷ (defaults, "\"${/*}\" ,b", "\"${/*}\", b\n", 0, 0)
    ∷ (defaults, "\"${\\}\" ,b", "\"${\\}\" ,b\n", 0, 0)
    ∷ (defaults, "\"${${}}\" ,b", "\"${${}}\", b\n", 0, 0)
    ∷ (defaults, "\"a${\" ,b", "\"a${\" ,b\n", 0, 0)
    -- 6
    ∷ (defaults, "${  a", "${ a\n", 0, 0)
    ∷ (defaults, "/*/  a", "/*/  a\n", 0, 0)
    ∷ (defaults, "/*\\*/  a", "/*\\*/ a\n", 0, 0)
    ∷ (defaults, "a\\\n\"b  c", "a\\\n\"b  c\n", 0, 0)
    -- 7
    ∷ (defaults, "$`````\n  a", "$`````\n  a\n", 0, 0)
    ∷ (defaults, "$```````\n  a", "$```````\na\n", 0, 0)
    -- 8
    ∷ (defaults, "\"${a  ,b}\"  ,c", "\"${a  ,b}\", c\n", 0, 0)
    -- 9
    ∷ (defaults, "/*\n*/ // fmt-ignore  \n  a", "/*\n*/ // fmt-ignore\na\n", 0, 0)
    -- 10
    ∷ (defaults, "  /**/  // fmt-ignore\n  a", "  /**/  // fmt-ignore\na\n", 0, 0)
    -- 11
    ∷ (defaults, "/*\n\n\n", "/*\n", 0, 0)
    ∷ (defaults, "$```\n  \n\n", "$```\n  \n", 0, 0)
    -- 12
    ∷ (defaults, "////fmt-ignore\n  a", "////fmt-ignore\na\n", 0, 0)
    ∷ (defaults, "// / fmt-ignore\n  a", "// / fmt-ignore\na\n", 0, 0)
    ∷ (defaults, "// fmt-ignore x\n  a", "// fmt-ignore x\na\n", 0, 0)
    ∷ (defaults, "/// fmt-ignore\n  a", "/// fmt-ignore\na\n", 0, 0)
    ∷ (defaults, "//\u{a0}fmt-ignore\n  a", "//\u{a0}fmt-ignore\n  a\n", 0, 0)
    -- 13
    ∷ (defaults, "{\n   // fmt-ignore  \n   x", "{\n  // fmt-ignore\n   x\n", 0, 0)
    ∷ (defaults, "// fmt-ignore\nin ,a\n\nin b", "// fmt-ignore\nin ,a\nin b\n", 0, 0)
    ∷ (defaults, "in ,a\n\nin ,b", "in, a\n\nin, b\n", 0, 0)
    -- 14
    ∷ (defaults, "/*\nin x */\n\nin b", "/*\nin x */\nin b\n", 0, 0)
    ∷ (defaults, "/*}\n*/\nelse if", "/*}\n*/\n  else if\n", 0, 0)
    -- 15
    ∷ (defaults, "a,\t\tb", "a, b\n", 0, 0)
    ∷ (defaults, "a,\u{a0}b", "a, \u{a0}b\n", 0, 0)
    ∷ (defaults, "a\u{a0},b", "a\u{a0}, b\n", 0, 0)
    -- 16
    ∷ (defaults, "a\t\tb", "a\t\tb\n", 0, 0)
    ∷ (defaults, "a  \t  b", "a \t b\n", 0, 0)
    -- 17
    ∷ (defaults, "\\   a", "\\  a\n", 0, 0)
    ∷ (defaults, "\\  ,a", "\\, a\n", 0, 0)
    ∷ (defaults, "\\ \\ ,a", "\\ \\, a\n", 0, 0)
    ∷ (defaults, "\\\t,a", "\\, a\n", 0, 0)
    ∷ (defaults, "\\\u{3000},a", "\\\u{3000}, a\n", 0, 0)
    -- 18
    ∷ (defaults, "a,// c", "a, // c\n", 0, 0)
    ∷ (defaults, "a,\"s\"", "a, \"s\"\n", 0, 0)
    ∷ (defaults, "a,\\)", "a, \\)\n", 0, 0)
    ∷ (defaults, "f(a ,)", "f(a,)\n", 0, 0)
    -- 19
    ∷ (defaults, "}\nelse ,b", "}\nelse, b\n", 0, 0)
    ∷ (defaults, "then ,a\n+ ,a", "then, a\n+, a\n", 0, 0)
    -- 20
    ∷ (at_width 0, "a\\ ,-b", "a\\,\n  -b\n", 0, 0)
    ∷ (at_width 0, "a,-b", "a, -b\n", 0, 0)
    -- 21
    ∷ (defaults, "elsewhere {}\nelse {", "elsewhere {}\nelse {\n", 0, 0)
    ∷ (defaults, "}\n\nelse {", "}\n\nelse {\n", 0, 0)
    -- 22
    ∷ (defaults, "}\nelse }\nelse {", "} else } else {\n", 0, 0)
    ∷ (defaults, "\"}\nelse", "\"} else\n", 0, 0)
    ∷ (defaults, "$```\n``` }\nelse {", "$```\n``` } else {\n", 0, 0)
    ∷ (at_width 5, "import {a, b} from {}\nelse {", "import {\n  a,\n  b,\n} from {} else {\n", 1, 0)
    -- 23
    ∷ (defaults, "}\nelse\u{3000}if a", "}\nelse\u{3000}if a\n", 0, 0)
    ∷ (defaults, "}\nelse ifé", "}\nelse ifé\n", 0, 0)
    ∷ (defaults, "}\nelse if_ {", "} else if_ {\n", 0, 0)
    ∷ (defaults, "}\nelse{if", "} else{if\n", 0, 0)
    ∷ (defaults, "}\nelse;", "}\nelse;\n", 0, 0)
    ∷ (defaults, "}\nelse(", "}\nelse(\n", 0, 0)
    -- 24
    ∷ (defaults, "in {}\nelse x\n\nin b", "in {} else x\n\nin b\n", 0, 0)
    ∷ (defaults, "} // c\nelse {", "} // c\n  else {\n", 0, 0)
    -- 25
    ∷ (at_width 5, "in a+b\n\nin c", "in a\n  +b\nin c\n", 0, 0)
    ∷ (defaults, "in\ta\n\nin\ta", "in\ta\n\nin\ta\n", 0, 0)
    ∷ (defaults, "in\u{a0}a\n\nin\u{a0}a", "in\u{a0}a\n\nin\u{a0}a\n", 0, 0)
    ∷ (defaults, "in\n\nin", "in\n\nin\n", 0, 0)
    -- 26
    ∷ (defaults, "{{\n} )\na", "{{\n  } )\na\n", 0, 0)
    ∷ (defaults, "{\n\\}\na", "{\n  \\}\n  a\n", 0, 0)
    -- 27
    ∷ (defaults, "{\n/*\n*/}{{\na", "{\n  /*\n*/}{{\n    a\n", 0, 0)
    ∷ (defaults, "{\n}{{\na", "{\n}{{\n  a\n", 0, 0)
    -- 28
    ∷ (defaults, "else", "  else\n", 0, 0)
    ∷ (defaults, "} // c\nelse if a", "} // c\n  else if a\n", 0, 0)
    -- 29
    ∷ (defaults, "elsewhere\nelse{\n}\nthen(\n)\nthen\u{a0}a", "elsewhere\nelse{\n}\nthen(\n)\nthen\u{a0}a\n", 0, 0)
    ∷ (defaults, "-\u{a0}a\n+\n-(a)\n..a\n..\n...a\n....a", "  -\u{a0}a\n+\n  -(a)\n  ..a\n  ..\n...a\n....a\n", 0, 0)
    -- 30
    ∷ (at_width 5, "import {a} * b", "import {a}\n  * b\n", 0, 0)
    -- 31
    ∷ (at_width 5, "import \\{a, b}", "import \\ {\n  a,\n  b,\n}\n", 1, 0)
    ∷ (at_width 5, "import {a\\,b}", "import {\n  a\\,\n  b,\n}\n", 1, 0)
    ∷ (at_width 5, "importé {a, b}", "importé {\n  a,\n  b,\n}\n", 1, 0)
    ∷ (at_width 5, "import_ {a, b}", "import_ {a, b}\n", 0, 0)
    ∷ (at_width 5, "import } {a, b}", "import } {\n  a,\n  b,\n}\n", 1, 0)
    ∷ (at_width 5, "import {a, {b}, c}", "import {\n  a,\n  {b,\n}, c}\n", 1, 0)
    -- 32
    ∷ (at_width 5, "{\nimport {a, b}", "{\n  import {\n    a,\n    b,\n  }\n", 1, 0)
    ∷ (at_width 5, "import a + b {c, d} + e", "import a + b {\n  c,\n  d,\n} + e\n", 1, 0)
    ∷ (at_width 5, "import {if, b}", "import {\n  if,\n  b,\n}\n", 1, 0)
    ∷ (at_width 5, "import {a, b,}", "import {\n  a,\n  b,\n}\n", 1, 1)
    -- 33
    ∷ (at_width 0, "a-b", "a\n  -b\n", 0, 0)
    ∷ (at_width 0, "_-b", "_\n  -b\n", 0, 0)
    ∷ (at_width 0, "7-b", "7\n  -b\n", 0, 0)
    ∷ (at_width 0, "(a)-b", "(a)\n  -b\n", 0, 0)
    ∷ (at_width 0, "[a]-b", "[a]\n  -b\n", 0, 0)
    ∷ (at_width 0, "\"a\"-b", "\"a\"\n  -b\n", 0, 0)
    ∷ (at_width 0, "{a}-b", "{a}-b\n", 0, 0)
    ∷ (at_width 0, "é-b", "é-b\n", 0, 0)
    ∷ (at_width 0, ":a- -b", ":a- -b\n", 0, 0)
    ∷ (at_width 0, "a\u{a0}-b", "a\u{a0}-b\n", 0, 0)
    ∷ (at_width 0, "\\a-b", "\\a-b\n", 0, 0)
    ∷ (at_width 0, "a \t-b", "a\n  -b\n", 0, 0)
    ∷ (at_width 0, "a\\x-b", "a\\x\n  -b\n", 0, 0)
    ∷ (at_width 0, "a\\é-b", "a\\é\n  -b\n", 0, 0)
    -- 34
    ∷ (at_width 0, "a+==b", "a+==b\n", 0, 0)
    ∷ (at_width 0, "a===b", "a\n  ===b\n", 0, 0)
    ∷ (at_width 0, "a>>>=b", "a\n  >>\n  >=b\n", 0, 0)
    ∷ (at_width 0, "a<=>b", "a\n  <=\n  >b\n", 0, 0)
    ∷ (at_width 0, "a..=b", "a\n  ..=b\n", 0, 0)
    ∷ (at_width 0, "a-->b", "a\n  -->b\n", 0, 0)
    ∷ (at_width 0, "a=>=b", "a=>=b\n", 0, 0)
    ∷ (at_width 0, "a....b", "a....b\n", 0, 0)
    ∷ (at_width 0, "a.....b", "a...\n  ..b\n", 0, 0)
    ∷ (at_width 0, "a***b", "a\n  **\n  *b\n", 0, 0)
    ∷ (at_width 0, "1e-5", "1e\n  -5\n", 0, 0)
    -- 35
    ∷ (at_width 0, ":a-b-c", ":a-b-c\n", 0, 0)
    ∷ (at_width 0, "a:b-c", "a:b\n  -c\n", 0, 0)
    ∷ (at_width 0, "\"x\":a-b", "\"x\":a\n  -b\n", 0, 0)
    ∷ (at_width 0, ":é-a-b", ":é-a\n  -b\n", 0, 0)
    -- 36
    ∷ (at_width 0, "éif+b", "éif+b\n", 0, 0)
    ∷ (at_width 0, "\\if+b", "\\if+b\n", 0, 0)
    ∷ (at_width 0, "a.match+b", "a.match+b\n", 0, 0)
    ∷ (at_width 0, "(if)+b", "(if)+b\n", 0, 0)
    ∷ (at_width 0, ":if-a+b", ":if-a+b\n", 0, 0)
    ∷ (at_width 0, "\"if\"+b", "\"if\"\n  +b\n", 0, 0)
    ∷ (at_width 0, "\"${if a}\"+b", "\"${if a}\"\n  +b\n", 0, 0)
    ∷ (at_width 0, "if_+b", "if_\n  +b\n", 0, 0)
    ∷ (at_width 0, "(]+b", "(]\n  +b\n", 0, 0)
    -- 37
    ∷ (at_width 0, "\\(a*c + b\\)", "\\(a*c\n  + b\\)\n", 0, 0)
    -- 38
    ∷ (at_width 1, "<b", "\n  <b\n", 0, 0)
    ∷ (at_width 1, "a\n\n<b", "a\n\n\n  <b\n", 0, 0)
    ∷ (at_width 0, "(\n<a+b", "(\n  \n    <a+b\n", 0, 0)
    ∷ (at_width 0, "a\\ +b", "a\\\n  +b\n", 0, 0)
    -- 39
    ∷ (at_width 5, "import {a({, b} c\nx", "import {\n  a({,\n  b,\n} c\n  x\n", 1, 0)
    ∷ []

pub read : map given readings ≡ map expected readings
unfolding computing
read = refl
