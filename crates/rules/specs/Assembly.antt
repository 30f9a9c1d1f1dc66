-- Assembly: lines in, lines out; empty lines at the end go; the rest joined by the ending.
use Rattle.std.specs.Prelude.{ℕ, Some, None}
use mathlib.Core.List.{List, [], ◌∷◌, ◌++◌, foldl}
use Rattle.utf8.specs.Unicode.{encode, decode}
use Rattle.rules.specs.Basics.{choose}
use Rattle.rules.specs.Lines.{as_str, lines_of, dominant_in, ends_in_lf}
use Rattle.rules.specs.Options.{Options, defaults, with_indent, EndOfLine}
use Rattle.rules.specs.Brackets.{open_lines}
use Rattle.rules.specs.Line.{Formatter, start, format_line}
use Rattle.rules.specs.declared.LineEnding.{LineEnding}
use Rattle.rules.specs.declared.FinalNewline.{FinalNewline}

-- the text, the counts, and the source lines of the brackets that are still open
pub record Formatted : Type 0 where
  pub text : List ℕ
  pub imports_split : ℕ
  pub blank_names : ℕ
  pub open_brackets : List ℕ

unfoldable pub ending_of : EndOfLine → List ℕ → LineEnding
ending_of None source = dominant_in source
ending_of (Some e) source = e

-- the newest lines that are empty go
unfoldable pub drop_empty : List (List ℕ) → List (List ℕ)
drop_empty [] = []
drop_empty ([] ∷ ls) = drop_empty ls
drop_empty ((c ∷ cs) ∷ ls) = (c ∷ cs) ∷ ls

-- the lines, the newest first, joined in order
unfoldable pub joined : List ℕ → List (List ℕ) → List ℕ
joined eol [] = []
joined eol (l ∷ []) = l
joined eol (l ∷ m ∷ ls) = joined eol (m ∷ ls) ++ (eol ++ l)

-- always: one more ending follows; as the source: one if the source ends in LF; never: nothing after the last line
unfoldable pub last_ending : FinalNewline → List ℕ → List ℕ → List ℕ
last_ending FinalNewline.Always source eol = eol
last_ending FinalNewline.AsSource source eol = choose (ends_in_lf source) eol []
last_ending FinalNewline.Never source eol = []

unfoldable pub finish : Options → List ℕ → List ℕ → Formatter → Formatted
finish o source eol f =
    record {
      text = joined eol (drop_empty f.lines) ++ last_ending o.insert_final_newline source eol;
      imports_split = f.imports_split;
      blank_names = f.blank_names;
      open_brackets = open_lines f.stack;
    }

unfoldable pub format_lines : Options → List (List ℕ) → Formatter → Formatter
format_lines o raws f = foldl (format_line o) f raws

-- format_with, with both counts and the open brackets
unfoldable pub format_with : Options → List ℕ → Formatted
format_with o source = finish o source (as_str (ending_of o.end_of_line source)) (format_lines o (lines_of source) start)

-- format_wirescript: format_with with the default options and a given indent
abbrev pub format_wirescript : List ℕ → List ℕ → Formatted
format_wirescript indent source = format_with (with_indent defaults indent) source

-- the text of a source, both as bytes, with the default options: what a program writes
unfoldable pub default_text : List ℕ → List ℕ
default_text source = encode (format_with defaults (decode source)).text
