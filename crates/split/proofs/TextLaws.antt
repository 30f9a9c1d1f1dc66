-- Laws of lines in a text.
use Prim.Native.Nat.{ℕ, ◌+◌, ◌*◌, ◌^◌, ◌≤◌, ◌<◌}
use mathlib.Core.List.{List, [], ◌∷◌, ◌++◌, map, reverse, reverse_aux, append-nil, append_assoc}
use mathlib.Core.Path.{◌≡◌, refl, sym, ap, ◌∙◌}
use native.Mathlib.Nat.{mul-le-mul}
use native.Mathlib.Omega.{arith}
use lib.ListN.{length}
use Rattle.compare.specs.Common.{Compared}
use Rattle.buffer.specs.Repeat.{times}
use Rattle.buffer.proofs.RepeatLaws.{length_times}
use Rattle.utf8.specs.Unicode.{encode}
use Rattle.utf8.proofs.Decode.{encode_nil, encode_append, encode_ascii, wf_encode}
use Rattle.rules.specs.Options.{Options, indent_of}
use Rattle.rules.specs.Assembly.{joined}
use Rattle.split.specs.Measure.{Indent}
use Rattle.split.specs.Text.{lay, AllWell, following, last_of, first_of, LineRoom, Written, Fits}
use Rattle.rules.proofs.Scalars.{AllScalars}
use Rattle.rules.proofs.SplitSizes.{blank_ascii}
use Rattle.split.proofs.MeasureLaws.{ascii_times}

-- ---- parts of a well-formed text

pub all_well : (ls : List (List ℕ)) → AllScalars ls → AllWell (map encode ls)
all_well [] s = tt
all_well (l ∷ ls) s = (wf_encode l s.0, all_well ls s.1)

-- ---- lines joined in order

joined_cons : (eol m l : List ℕ) (ks : List (List ℕ)) → joined eol (m ∷ l ∷ ks) ≡ joined eol (l ∷ ks) ++ (eol ++ m)
unfolding joined
joined_cons eol m l ks = refl

joined_aux : (eol : List ℕ) (ls : List (List ℕ)) (l : List ℕ) (ks : List (List ℕ)) → joined eol (reverse_aux ls (l ∷ ks)) ≡ joined eol (l ∷ ks) ++ following eol ls
unfolding following
joined_aux eol [] l ks = sym (append-nil (joined eol (l ∷ ks)))
joined_aux eol (m ∷ ms) l ks = joined_aux eol ms m (l ∷ ks) ∙ rw (joined_cons eol m l ks) (append_assoc (joined eol (l ∷ ks)) (eol ++ m) (following eol ms))

pub joined_lines : (eol l : List ℕ) (ls : List (List ℕ)) → joined eol (reverse (l ∷ ls)) ≡ l ++ following eol ls
unfolding joined
joined_lines eol l ls = joined_aux eol ls l []

newest_aux : (ls : List (List ℕ)) (l : List ℕ) (ks : List (List ℕ)) → first_of (reverse_aux ls (l ∷ ks)) ≡ last_of l ls
unfolding first_of last_of
newest_aux [] l ks = refl
newest_aux (m ∷ ms) l ks = newest_aux ms m (l ∷ ks)

pub newest_lines : (l : List ℕ) (ls : List (List ℕ)) → first_of (reverse (l ∷ ls)) ≡ last_of l ls
newest_lines l ls = newest_aux ls l []

pub following_append : (eol : List ℕ) (a b : List (List ℕ)) → following eol (a ++ b) ≡ following eol a ++ following eol b
unfolding following
following_append eol [] b = refl
following_append eol (l ∷ a) b = rw (following_append eol a b) (sym (append_assoc (eol ++ l) (following eol a) (following eol b)))

pub last_append : (l : List ℕ) (a b : List (List ℕ)) → last_of l (a ++ b) ≡ last_of (last_of l a) b
unfolding last_of
last_append l [] b = refl
last_append l (m ∷ a) b = last_append m a b

-- ---- the same in bytes

pub following_encode : (eol : List ℕ) → encode eol ≡ eol → (ls : List (List ℕ)) → encode (following eol ls) ≡ following eol (map encode ls)
unfolding following
following_encode eol e [] = encode_nil
following_encode eol e (l ∷ ls) = encode_append (eol ++ l) (following eol ls) ∙ rw (encode_append eol l, e, following_encode eol e ls)

pub last_encode : (l : List ℕ) (ls : List (List ℕ)) → encode (last_of l ls) ≡ last_of (encode l) (map encode ls)
unfolding last_of
last_encode l [] = refl
last_encode l (m ∷ ms) = last_encode m ms

-- the lines as they are written, in bytes
pub written_lines : (eol l : List ℕ) (ls : List (List ℕ)) (k : List ℕ) (ks : List (List ℕ)) {model out out' : List ℕ} {at last next : ℕ} → encode eol ≡ eol → encode l ≡ k → map encode ls ≡ ks
    → Compared model out out' at (k ++ following eol ks) next → last + length (last_of k ks) ≡ next → Written eol (l ∷ ls) model out out' at last next
written_lines eol l ls k ks {model} {out} {out'} {at} {last} {next} e f g t h =
    let j : encode (joined eol (reverse (l ∷ ls))) ≡ k ++ following eol ks = ap encode (joined_lines eol l ls) ∙ encode_append l (following eol ls) ∙ rw (f, following_encode eol e ls, g) in
    let n : encode (first_of (reverse (l ∷ ls))) ≡ last_of k ks = ap encode (newest_lines l ls) ∙ last_encode l ls ∙ rw (f, g) in
    record { text = rw j t; ends = rw n h }

-- ---- an indent

-- a line at a level, in bytes
pub lay_encode : (o : Options) (indent : List ℕ) (level : ℕ) (l : List ℕ) → o.indent ≡ indent → Indent indent level → encode (indent_of o level ++ l) ≡ lay indent level (encode l)
unfolding indent_of
lay_encode o indent level l e p = encode_append (times level o.indent) l ∙ rw (e, encode_ascii (times level indent) (ascii_times level indent (blank_ascii indent p.blank)))

pub indent_short : (indent : List ℕ) (level : ℕ) → Indent indent level → length (times level indent) ≤ 67108928
indent_short indent level p = let k : level * length indent ≤ 1048577 * 64 = mul-le-mul p.flat p.short in omega (arith, length_times level indent)

module _ {line indent : List ℕ} {level : ℕ} {eol : List ℕ} {at : ℕ} (f : Fits line indent level eol at) where
  pub level_fits : Indent indent level
  level_fits = record { blank = f.blank; short = f.short; flat = omega (arith, f.flat) }

  pub deeper_fits : Indent indent (level + 1)
  deeper_fits = record { blank = f.blank; short = f.short; flat = omega (arith, f.flat) }

-- ---- one line more

pub line_room_law : {eol indent : List ℕ} {level : ℕ} {line : List ℕ} {at : ℕ} (q : LineRoom eol indent level line at) (model out out' : List ℕ) (start : ℕ) → Compared model out out' at eol start
    → start + (length (times level indent) + length line) < 2 ^ 64
line_room_law {eol} {indent} {level} q model out out' start a = omega (arith, a.next, q.end, q.room, indent_short indent level q.indents)
