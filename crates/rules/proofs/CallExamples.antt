-- Calls, text kinds and option steps of document 01 and of its readings, computed.
use Rattle.std.specs.Prelude.{Bool, Option, Some, None}
use Prim.Native.Nat.{ℕ, ◌+◌}
use Prim.Native.String.{String}
use mathlib.Core.Bool.{true, false}
use mathlib.Core.List.{List, [], ◌∷◌, ◌++◌, map}
use mathlib.Core.Path.{◌≡◌, refl}
use lib.ListN.{length, take, replicate}
use Rattle.rules.specs.Basics.{codes}
use Rattle.rules.specs.Strengths.{built_in}
use Rattle.rules.specs.Options.{Options, SettingStep, defaults, with_indent, indent_with, spaces, tab}
use Rattle.rules.specs.Assembly.{format_with, format_wirescript}
use Rattle.rules.specs.Choices.{Choices, default_numbers, valid_options, options_of}
use Rattle.std.specs.Prelude.{Ok, Err}
use Rattle.rules.specs.Call.{Call, CallResult, Outcome, outcome_of, format_call}
use Rattle.rules.specs.TextKind.{text_kind_at, kind_outcome_of, kind_number}
use Rattle.rules.specs.EditorConfig.{with_editor_config}
use Rattle.rules.specs.Demand3.{strike_white, strike, commas_in}
use Rattle.rules.specs.declared.Refusal.{Refusal}
use Rattle.rules.specs.declared.Answer.{Answer}
use Rattle.rules.specs.declared.TextKind.{TextKind}
use Rattle.rules.specs.declared.LineEnding.{LineEnding}
use Rattle.rules.specs.declared.FinalNewline.{FinalNewline}
use Rattle.rules.specs.declared.IndentStyle.{IndentStyle}
use Rattle.rules.specs.declared.IndentSize.{IndentSize}
use Rattle.rules.specs.declared.MaxLineLen.{MaxLineLen}
use Rattle.rules.specs.declared.ConfigEnding.{ConfigEnding}
use Rattle.rules.specs.declared.Resolved.{Resolved}
use Rattle.rules.proofs.Computing.{computing}

-- ---- calls

-- bytes, indent, the four option numbers, lengths of scratch and output; no list of open brackets
abbrev call : List ℕ → List ℕ → ℕ → ℕ → ℕ → ℕ → ℕ → ℕ → Call
call source indent set width ending newline scratch output =
    record {
      source = source;
      choices =
          record {
            indent = indent;
            numbers = record { width_set = set; width = width; line_ending = ending; final_newline = newline; ruler_tab = 0 };
            strengths = built_in;
          };
      output = output;
      opened = 0;
      scratch = scratch;
    }

-- at a ruler, with the other options' numbers by default
abbrev ruled : ℕ → List ℕ → List ℕ → ℕ → Call
ruled ruler source indent scratch =
    record {
      source = source;
      choices =
          record {
            indent = indent;
            numbers = record { width_set = 1; width = 100; line_ending = 0; final_newline = 1; ruler_tab = ruler };
            strengths = built_in;
          };
      output = 8;
      opened = 0;
      scratch = scratch;
    }

-- the default numbers and table
abbrev plainly : List ℕ → Choices
plainly indent = record { indent = indent; numbers = default_numbers; strengths = built_in }

-- with the default options
abbrev plain : List ℕ → ℕ → ℕ → Call
plain source scratch output =
    record { source = source; choices = plainly defaults.indent; output = output; opened = 0; scratch = scratch }

-- with a table of strengths
abbrev loaded : List ℕ → List ℕ → ℕ → ℕ → Call
loaded table source scratch output =
    record {
      source = source;
      choices = record { indent = defaults.indent; numbers = default_numbers; strengths = table };
      output = output;
      opened = 0;
      scratch = scratch;
    }

-- the default numbers, two spaces and the built-in table name the defaults
pub defaults_named : options_of (plainly defaults.indent) ≡ defaults
unfolding computing
defaults_named = refl

pub defaults_valid : valid_options (plainly defaults.indent) ≡ true
unfolding computing
defaults_valid = refl

-- format_wirescript is what the default numbers and an indent give
pub wirescript_choices : (indent source : List ℕ) → format_with (options_of (plainly indent)) source ≡ format_wirescript indent source
unfolding options_of
wirescript_choices indent source = refl

abbrev fine : ℕ → Outcome
fine len = Ok (record { length = len; imports_split = 0; blank_names = 0; open_brackets = 0 })

abbrev bad : Outcome
bad = Err Refusal.BadOption

abbrev wide : Outcome
wide = Err Refusal.RulerTooWide

abbrev pub calls : List (Call × Outcome)
calls =
    -- the output: the exact length fits, one less is refused with that length
    (plain (codes "f(a ,b)") 340 8, fine 8)
    ∷ (plain (codes "f(a ,b)") 340 7, Err (Refusal.OutputShort 8))
    -- blanks that are dropped at the end don't count, nor what an `else` cuts off (reading 40)
    ∷ (plain (codes "a\n\n\n") 400 2, fine 2)
    ∷ (plain (codes "a\n\n\n") 400 1, Err (Refusal.OutputShort 2))
    ∷ (plain (codes "// fmt-ignore\n}                          \nelse") 808 21, fine 21)
    ∷ (plain (codes "// fmt-ignore\n}                          \nelse") 808 20, Err (Refusal.OutputShort 21))
    -- lengths are in bytes, width in UTF-16 units
    ∷ (call (0x22 ∷ 0xF0 ∷ 0x9F ∷ 0x98 ∷ 0x80 ∷ codes "\" + b") (codes "  ") 1 7 0 1 400 13, fine 13)
    ∷ (call (0x22 ∷ 0xF0 ∷ 0x9F ∷ 0x98 ∷ 0x80 ∷ codes "\" + b") (codes "  ") 1 8 0 1 400 13, fine 11)
    -- the scratch: 12 times 7 and 256
    ∷ (plain (codes "f(a ,b)") 339 8, Err (Refusal.ScratchShort 340))
    -- not UTF-8
    ∷ (plain (0xFF ∷ []) 268 8, Err (Refusal.NotUtf8 0))
    ∷ (plain (0x61 ∷ 0xE2 ∷ 0x82 ∷ []) 292 8, Err (Refusal.NotUtf8 1))
    ∷ (plain (0x61 ∷ 0xED ∷ 0xA0 ∷ 0x80 ∷ []) 304 8, Err (Refusal.NotUtf8 1))
    -- options
    ∷ (call [] (codes "q") 1 100 0 1 256 1, bad)
    ∷ (call [] (spaces 65) 1 100 0 1 256 1, bad)
    ∷ (call [] (spaces 64) 1 100 0 1 256 1, fine 1)
    ∷ (call [] [] 0 0 1 0 256 0, fine 0)
    ∷ (call [] (codes " \t") 1 100 2 1 256 2, fine 2)
    ∷ (call [] [] 2 100 0 1 256 1, bad)
    ∷ (call [] [] 1 100 3 1 256 1, bad)
    ∷ (call [] [] 1 100 0 2 256 1, fine 0)
    ∷ (call [] [] 1 100 0 3 256 1, bad)
    -- the ruler tab: between the other options and the scratch
    ∷ (ruled 16 [] [] 256, fine 1)
    ∷ (ruled 17 [] [] 256, wide)
    ∷ (ruled 17 (0xFF ∷ []) [] 0, wide)
    ∷ (ruled 17 [] (codes "q") 256, bad)
    -- a table of strengths: its length, then its last four bits, before everything else
    ∷ (loaded (take 10 built_in) [] 256 1, Err Refusal.StrengthsLength)
    ∷ (loaded (built_in ++ (0 ∷ [])) [] 256 1, Err Refusal.StrengthsLength)
    ∷ (loaded [] (0xFF ∷ []) 0 0, Err Refusal.StrengthsLength)
    ∷ (loaded (take 10 built_in ++ (0xC1 ∷ [])) (0xFF ∷ []) 0 0, Err Refusal.StrengthsBits)
    ∷ (loaded (replicate 11 0xF0) [] 256 1, fine 1)
    -- the first that applies is given
    ∷ (call (0xFF ∷ []) (codes "q") 1 100 0 1 0 0, bad)
    ∷ (plain (0xFF ∷ []) 267 0, Err (Refusal.ScratchShort 268))
    ∷ (plain (0xFF ∷ []) 268 0, Err (Refusal.NotUtf8 0))
    ∷ []

pub outcomes : map (λ (c : Call × Outcome). outcome_of c.0) calls ≡ map (λ (c : Call × Outcome). c.1) calls
unfolding computing
outcomes = refl

-- the longest source passes refusal 1, and one byte more does not
pub longest : (s : List ℕ) → length s ≡ 1048576 → outcome_of (plain s 12583167 0) ≡ Err (Refusal.ScratchShort 12583168)
unfolding computing
longest s e = rw e

pub too_long_law : (s : List ℕ) → length s ≡ 1048577 → outcome_of (plain s 12583180 0) ≡ Err Refusal.SourceTooLong
unfolding computing
too_long_law s e = rw e

abbrev answer : ℕ → ℕ → ℕ → ℕ → ℕ → Answer
answer refusal place len imports blanks =
    record { refusal = refusal; place = place; length = len; imports_split = imports; blank_names = blanks; open_brackets = 0 }

abbrev left : Answer → List ℕ → ℕ → CallResult
left a output scratch = record { answer = a; output = output; opened = []; scratch = replicate scratch 0 }

-- the answer, the output and the scratch: the text, then zeros, or zeros alone
pub results :
    map format_call
    (plain (codes "a ,b") 306 7 ∷ call (codes "import {a,,b} from \"l\"") (codes "  ") 1 10 0 1 520 30 ∷ plain (codes "a ,b") 303 7 ∷ plain (codes "a ,b") 304 4 ∷ [])
    ≡ left (answer 0 0 5 0 0) (codes "a, b\n" ++ (0 ∷ 0 ∷ [])) 306
    ∷ left (answer 0 0 28 1 1) (codes "import {\n  a, b,\n} from \"l\"\n" ++ (0 ∷ 0 ∷ [])) 520
    ∷ left (answer 3 304 0 0 0) (0 ∷ 0 ∷ 0 ∷ 0 ∷ 0 ∷ 0 ∷ 0 ∷ []) 303
    ∷ left (answer 5 5 0 0 0) (0 ∷ 0 ∷ 0 ∷ 0 ∷ []) 304
    ∷ []
unfolding computing
results = refl

-- ---- open brackets

-- with the default options and a list of n lines, in buffers that suffice: the count of all, and the list
abbrev brackets : String × ℕ → ℕ × List ℕ
brackets s =
    let r = format_call (record { source = codes s.0; choices = plainly defaults.indent; output = 100; opened = s.1; scratch = 1000 }) in
    (r.answer.open_brackets, r.opened)

pub open_brackets_law :
    map brackets
    -- brackets that add no level are listed too; the oldest that fit, then zeros
    (("((\n[", 5) ∷ ("((\n[", 3) ∷ ("((\n[", 2) ∷ ("((\n[", 0)
    -- a joined else keeps its own source line; lines are cut at LF alone; a closer pops whichever is on top
    ∷ ("{\nif a {\n}\nelse {", 3)
    ∷ ("\r(\r\n\n\n[", 2)
    ∷ ("(\n{\n)\n[", 3)
    -- in strings and comments there are none; a line that is split or protected has its own number
    ∷ ("\"(\" // (\n/* (\n*/ (", 1)
    ∷ ("// fmt-ignore\n(", 1)
    ∷ [])
    ≡ (3, 0 ∷ 0 ∷ 1 ∷ 0 ∷ 0 ∷ []) ∷ (3, 0 ∷ 0 ∷ 1 ∷ []) ∷ (3, 0 ∷ 0 ∷ []) ∷ (3, [])
    ∷ (2, 0 ∷ 3 ∷ 0 ∷ [])
    ∷ (2, 0 ∷ 3 ∷ [])
    ∷ (2, 0 ∷ 3 ∷ 0 ∷ [])
    ∷ (1, 2 ∷ [])
    ∷ (1, 1 ∷ [])
    ∷ []
unfolding computing
open_brackets_law = refl

-- a refused call, for want of output too, has none
pub open_refused :
    format_call (record { source = codes "(\n("; choices = plainly defaults.indent; output = 3; opened = 2; scratch = 292 })
    ≡ record { answer = answer 5 6 0 0 0; output = 0 ∷ 0 ∷ 0 ∷ []; opened = 0 ∷ 0 ∷ []; scratch = replicate 292 0 }
unfolding computing
open_refused = refl

-- ---- text kinds, as numbers: 0 Code, 1 Str, 2 Comment

abbrev columns : List ℕ
columns = 0 ∷ 1 ∷ 2 ∷ 3 ∷ 4 ∷ 5 ∷ 6 ∷ 7 ∷ 8 ∷ 9 ∷ []

-- source, line; the kinds at columns 0 to 9, in digits
abbrev Kinds : Type 0
Kinds = String × ℕ × String

abbrev kinds_given : Kinds → List ℕ
kinds_given k = map (λ (col : ℕ). 48 + kind_number (text_kind_at (codes k.0) k.1 col)) columns

abbrev pub kind_cases : List Kinds
kind_cases =
    -- reading 4
    ("//\r", 0, "2220000000")
    ∷ ("//\r\n", 0, "2200000000")
    ∷ ("\"a\r\r\n", 0, "1110000000")
    -- `${..}` is Code from its brace on
    ∷ ("\"${a}\"", 0, "1100010000")
    ∷ ("'${\"}\"}'x", 0, "1100000100")
    ∷ ("\"${", 0, "1100000000")
    ∷ ("\"$a{\"", 0, "1111100000")
    ∷ ("\"\\${a}\"", 0, "1111111000")
    -- comments, prefabs, columns of characters
    ∷ ("/*\n*/é\"s\"", 1, "2201110000")
    ∷ ("$```\n\"a\"\n```/**/", 1, "0000000000")
    ∷ ("$```\n\"a\"\n```/**/", 2, "0002222000")
    ∷ ("é//é", 0, "0222000000")
    -- past the end
    ∷ ("//", 1, "0000000000")
    ∷ []

pub kinds_read : map kinds_given kind_cases ≡ map (λ (k : Kinds). codes k.2) kind_cases
unfolding computing
kinds_read = refl

pub kind_refusals :
    kind_outcome_of (codes "//") 0 0 272 ∷ kind_outcome_of (codes "//") 0 0 271 ∷ kind_outcome_of (0x61 ∷ 0xFF ∷ []) 0 0 271 ∷ kind_outcome_of (0x61 ∷ 0xFF ∷ []) 0 0 272 ∷ []
    ≡ Ok TextKind.Comment
    ∷ Err (Refusal.ScratchShort 272)
    ∷ Err (Refusal.ScratchShort 272)
    ∷ Err (Refusal.NotUtf8 1)
    ∷ []
unfolding computing
kind_refusals = refl

-- ---- option steps

abbrev changed : Options → SettingStep
changed o = record { refused = false; options = o }

abbrev refused_step : SettingStep
refused_step = record { refused = true; options = defaults }

abbrev tabbed : Options
tabbed = with_indent defaults tab

pub indents :
    indent_with defaults true 64 ∷ indent_with defaults false 64 ∷ indent_with defaults false 0 ∷ indent_with defaults true 65 ∷ []
    ≡ changed tabbed ∷ changed (with_indent defaults (spaces 64)) ∷ changed (with_indent defaults []) ∷ refused_step ∷ []
unfolding computing
indents = refl

-- only the indent is set
abbrev sized : Option IndentStyle → Option IndentSize → Option ℕ → Resolved
sized style size width =
    record {
      style = style;
      size = size;
      tab = width;
      max = None;
      ending = None;
      newline = None;
    }

abbrev rest : Option MaxLineLen → Option ConfigEnding → Option Bool → Resolved
rest max ending newline =
    record { style = None; size = None; tab = None; max = max; ending = ending; newline = newline }

abbrev pub steps : List (Options × Resolved × SettingStep)
steps =
    -- reading 42: the size is the resolved one; size 0 gives an empty indent
    (defaults, sized None (Some (IndentSize.Value 4)) (Some 65), changed (with_indent defaults (spaces 4)))
    ∷ (defaults, sized (Some IndentStyle.Tabs) (Some (IndentSize.Value 65)) None, refused_step)
    ∷ (defaults, sized (Some IndentStyle.Spaces) (Some (IndentSize.Value 0)) None, changed (with_indent defaults []))
    -- tab_width where indent_size is no number
    ∷ (defaults, sized None (Some IndentSize.UseTabWidth) (Some 3), changed (with_indent defaults (spaces 3)))
    ∷ (defaults, sized None None (Some 65), refused_step)
    -- tabs give one tab; spaces the size, else 4 after a tab, else the old length
    ∷ (defaults, sized (Some IndentStyle.Tabs) (Some (IndentSize.Value 8)) None, changed tabbed)
    ∷ (tabbed, sized (Some IndentStyle.Spaces) None None, changed (with_indent defaults (spaces 4)))
    ∷ (with_indent defaults (codes " \t "), sized (Some IndentStyle.Spaces) None None, changed (with_indent defaults (spaces 3)))
    -- with no style a size leaves a tab
    ∷ (tabbed, sized None (Some (IndentSize.Value 8)) None, changed tabbed)
    -- `cr` and unset values change nothing, `off` gives no width
    ∷ (defaults, rest None (Some ConfigEnding.Cr) None, changed defaults)
    ∷ (
      defaults,
      rest (Some MaxLineLen.Off) (Some ConfigEnding.CrLf) (Some false),
      changed (record {
        indent = defaults.indent;
        print_width = None;
        end_of_line = Some LineEnding.Crlf;
        insert_final_newline = FinalNewline.Never;
        ruler_tab = 0;
        strengths = defaults.strengths;
      }),
    )
    ∷ []

pub configured_steps : map (λ (s : Options × Resolved × SettingStep). with_editor_config s.0 s.1) steps ≡ map (λ (s : Options × Resolved × SettingStep). s.2) steps
unfolding computing
configured_steps = refl

-- ---- demand 3's definitions

pub struck_texts :
    strike_white (codes " a,\u{a0}\tb\u{200b}\n") ∷ strike (codes " a,\u{a0}\tb\u{200b}\n") ∷ strike (codes "\u{3000},\r\n") ∷ []
    ≡ codes "a,b\u{200b}" ∷ codes "ab\u{200b}" ∷ [] ∷ []
unfolding computing strike_white strike
struck_texts = refl

-- P8 has 2 commas on each side; they count in strings and comments too
pub commas_counted : commas_in (codes "import {a,,b} from \"l\"") ∷ commas_in (codes "import {\n  a, b,\n} from \"l\"\n") ∷ commas_in (codes "\",\" // ,") ∷ [] ≡ 2 ∷ 2 ∷ 2 ∷ []
unfolding computing commas_in
commas_counted = refl
