-- Each sentence of docs/EDITORCONFIG.md on lines, texts, values and refusals, computed.
use Rattle.std.specs.Prelude.{Ok, Err}
use Rattle.std.specs.Prelude.{Option, Some, None}
use Prim.Native.Nat.{ℕ}
use Prim.Native.String.{String}
use mathlib.Core.Bool.{true, false}
use mathlib.Core.List.{List, [], ◌∷◌, ◌++◌}
use mathlib.Core.Path.{◌≡◌, refl}
use lib.ListN.{replicate}
use Rattle.utf8.specs.Unicode.{encode}
use Rattle.rules.specs.Basics.{codes}
use Rattle.rules.specs.declared.IndentStyle.{IndentStyle}
use Rattle.rules.specs.declared.IndentSize.{IndentSize}
use Rattle.rules.specs.declared.MaxLineLen.{MaxLineLen}
use Rattle.rules.specs.declared.ConfigEnding.{ConfigEnding}
use Rattle.config_rules.specs.declared.ConfigRefusal.{ConfigRefusal}
use Rattle.config_rules.specs.Lines.{Line, lines_of}
use Rattle.config_rules.specs.Lines.Line.{nothing, header, pair}
use Rattle.config_rules.specs.Values.{unset, is_whole}
use Rattle.config_rules.specs.Texts.{relatives}
use Rattle.config_rules.specs.Call.{ConfigOutcome, read_editor_config}
use Rattle.config_rules.proofs.Computing.{configuring}

-- ---- lines

abbrev lines : String → List Line
lines t = lines_of (codes t)

-- trimmed; blank, comment, header, pair, in this order; any other line is skipped
kinds : (lines "; a\n [b c]\t\r\nKey = V=W ; x\nno pair\n#[x]\n\n" ≡
    nothing ∷ header (codes "b c") ∷ pair (codes "key") (codes "v=w ; x") ∷ nothing ∷ nothing ∷ nothing ∷ nothing ∷ [])
unfolding configuring
kinds = refl

headers : (lines "[]\n[x] ; c\n[x\n[x]=b\n[a=b]\n[ [y] ]\n[" ≡
    header [] ∷ nothing ∷ nothing ∷ pair (codes "[x]") (codes "b") ∷ header (codes "a=b") ∷ header (codes " [y] ") ∷ nothing ∷ [])
unfolding configuring
headers = refl

-- the value may be empty; white space is White_Space; only ASCII letters change their case; a CR at the end is white
-- space
pairs : (lines "a=\n=b\n\u{a0}KÉ\u{2003}= V \r" ≡ pair (codes "a") [] ∷ pair [] (codes "b") ∷ pair (codes "kÉ") (codes "v") ∷ [])
unfolding configuring
pairs = refl

-- one U+FEFF at the very start is dropped
marks : (lines "\u{feff}[x]" ≡ header (codes "x") ∷ []) × (lines "\u{feff}\u{feff}[x]" ≡ nothing ∷ []) × (lines "a\n\u{feff}[x]" ≡ nothing ∷ nothing ∷ [])
unfolding configuring
marks = (refl, refl, refl)

-- ---- which texts count

paths : (relatives (codes "a/b/c.ws") ≡ codes "c.ws" ∷ codes "b/c.ws" ∷ codes "a/b/c.ws" ∷ []) × (relatives (codes "/a") ≡ codes "a" ∷ [])
    × (relatives (codes "a//b") ≡ codes "b" ∷ codes "/b" ∷ codes "a//b" ∷ []) × (relatives (codes "//a") ≡ codes "a" ∷ codes "/a" ∷ [])
    × (relatives (codes "../.\\a") ≡ codes ".\\a" ∷ codes "../.\\a" ∷ [])
unfolding configuring
paths = (refl, refl, refl, refl, refl)

abbrev read : String → List String → ConfigOutcome
read path texts = read_editor_config (encode (codes path)) (bytes texts)
  where
    bytes : List String → List (List ℕ)
    bytes [] = []
    bytes (t ∷ ts) = encode (codes t) ∷ bytes ts

unfoldable size : ConfigOutcome → Option IndentSize
size (Err n) = None
size (Ok r) = r.size

-- nearer texts supersede farther ones, later lines earlier ones
nearer : (size (read "/d/a.ws" ("[*]\nindent_size=2\nindent_size=3" ∷ "[*]\nindent_size=5" ∷ "[*]\nindent_size=6" ∷ [])) ≡ Some (IndentSize.Value 3))
    × (size (read "d/a.ws" ("[*]\ntab_width=2" ∷ "[*]\nindent_size=5" ∷ [])) ≡ Some (IndentSize.Value 5))
unfolding configuring size
nearer = (refl, refl)

-- a root stops; the last `root` of the preamble counts, and one in a section means nothing
roots : (size (read "d/a" ("ROOT = True\n[*.x]\nindent_size=2" ∷ "[*]\nindent_size=5" ∷ [])) ≡ None)
    × (size (read "d/a" ("root=true\nroot=false" ∷ "[*]\nindent_size=5" ∷ [])) ≡ Some (IndentSize.Value 5))
    × (size (read "d/a" ("[*]\nroot=true" ∷ "[*]\nindent_size=5" ∷ [])) ≡ Some (IndentSize.Value 5))
    × (size (read "d/a" ("root=true\n[*]\nindent_size=7" ∷ [])) ≡ Some (IndentSize.Value 7))
unfolding configuring size
roots = (refl, refl, refl, refl)

-- a text above the path's top is unused; a pair before the first header counts nothing; a section whose name does not
-- match neither
unused : (size (read "a.ws" ("" ∷ "[*]\nindent_size=5" ∷ [])) ≡ None) × (size (read "a" ("indent_size=5" ∷ [])) ≡ None)
    × (size (read "a" ("[b]\nindent_size=5" ∷ [])) ≡ None) × (size (read "a" ("[a]\n[x\nindent_size=5" ∷ [])) ≡ Some (IndentSize.Value 5))
unfolding configuring size
unused = (refl, refl, refl, refl)

-- names are matched with the path relative to the text's directory
named : (size (read "d/a.ws" ("[d/a.ws]\nindent_size=3" ∷ "[d/*.ws]\nindent_size = tab\n[e/*]\nindent_size=5" ∷ [])) ≡ Some IndentSize.UseTabWidth)
    × (size (read "a//b" ("" ∷ "[//b]\nindent_size=4" ∷ [])) ≡ Some (IndentSize.Value 4))
unfolding configuring size
named = (refl, refl)

-- ---- values

abbrev pairs_of : String → ConfigOutcome
pairs_of t = read "a" (t ∷ [])

all_keys : pairs_of "[*]\nindent_style=TAB\nIndent_Size=8\ntab_width=0004\nmax_line_length=80\nend_of_line=crlf\ninsert_final_newline=False" ≡ Ok (record { style = Some IndentStyle.Tabs; size = Some (IndentSize.Value 8); tab = Some 4; max = Some (MaxLineLen.Value 80); ending = Some ConfigEnding.CrLf; newline = Some false })
unfolding configuring
all_keys = refl

other_values : pairs_of "[*]\nindent_style=space\nindent_size=tab\ntab_width=0\nmax_line_length=OFF\nend_of_line=cr\ninsert_final_newline=true" ≡ Ok (record { style = Some IndentStyle.Spaces; size = Some IndentSize.UseTabWidth; tab = Some 0; max = Some MaxLineLen.Off; ending = Some ConfigEnding.Cr; newline = Some true })
unfolding configuring
other_values = refl

-- `unset`, a value that is not allowed, one too large and an empty one supersede and count as unset
not_allowed : pairs_of "[*]\nindent_style=tab\nindent_style=unset\nindent_size=2\nindent_size=-2\ntab_width=4\ntab_width=4 ; x\nmax_line_length=80\nmax_line_length=4294967296\nend_of_line=lf\nend_of_line=\ninsert_final_newline=true\ninsert_final_newline=yes" ≡ Ok unset
unfolding configuring
not_allowed = refl

wholes : (is_whole (codes "4294967295") ≡ true) × (is_whole (codes "4294967296") ≡ false) × (is_whole (codes "0") ≡ true) × (is_whole (codes "007") ≡ true)
    × (is_whole [] ≡ false) × (is_whole (codes "1a") ≡ false) × (is_whole (codes "+1") ≡ false)
unfolding configuring
wholes = (refl, refl, refl, refl, refl, refl, refl)

-- no fallback between keys
no_fallback : pairs_of "[*]\ntab_width=4\nend_of_line=LF" ≡ Ok (record { style = None; size = None; tab = Some 4; max = None; ending = Some ConfigEnding.Lf; newline = None })
unfolding configuring
no_fallback = refl

-- ---- refusals: 7 before 4 before 8, over unused texts and those beyond a root too

refused : (read_editor_config (0xFF ∷ []) (replicate 65536 10 ∷ replicate 65537 91 ∷ []) ≡ Err ConfigRefusal.LongText)
    × (read_editor_config (0xFF ∷ []) ([] ∷ []) ≡ Err ConfigRefusal.NotUtf8)
    × (read_editor_config [] (codes "root=true" ∷ (0x80 ∷ []) ∷ []) ≡ Err ConfigRefusal.NotUtf8)
    × (read_editor_config [] ((91 ∷ replicate 1024 97 ++ (93 ∷ [])) ∷ []) ≡ Ok unset)
    × (read_editor_config [] ([] ∷ (91 ∷ replicate 1025 97 ++ (93 ∷ [])) ∷ []) ≡ Err ConfigRefusal.LongName)
    × (read_editor_config (0x80 ∷ []) ((91 ∷ replicate 1025 97 ++ (93 ∷ [])) ∷ []) ≡ Err ConfigRefusal.NotUtf8)
unfolding configuring
refused = (refl, refl, refl, refl, refl, refl)
