-- The class bytes of a line's first piece are a part of the line's.
use Prim.Native.Nat.{ℕ, suc, ◌+◌, ◌-◌, ◌≤◌}
use mathlib.Core.Bool.{true, false, ◌&&◌, and_assoc, true≢false}
use mathlib.Core.List.{List, [], ◌∷◌, ◌++◌}
use mathlib.Core.Path.{◌≡◌, refl, sym, ap, ◌∙◌, subst}
use native.Mathlib.Omega.{arith}
use lib.Dec.{eqb}
use lib.ListN.{length, take, drop, length-append, length-drop, take-append-drop}
use lib.Seq.{length-take-le, take_at, drop_at, drop-drop, take-take}
use borrow.Author.Tests.{eqb-true}
use Rattle.buffer.specs.Buffer.{part}
use Rattle.utf8.specs.Unicode.{encode_char, encode, decode, WellFormed, is_white, trim_start}
use Rattle.utf8.specs.Places.{TrimmedStart}
use Rattle.utf8.proofs.Decode.{encode_append}
use Rattle.utf8.proofs.Table.{High, none, also, Bytes, single, several, bytes}
use Rattle.utf8.proofs.Tests.{by_test, and_left, and_right}
use Rattle.utf8.proofs.Trim.{White, start_split}
use Rattle.rules.specs.declared.Carry.{Carry}
use Rattle.rules.specs.declared.Class.{Class}
use Rattle.rules.specs.declared.Mode.{Mode}
use Rattle.rules.specs.Basics.{choose, starts_with}
use Rattle.rules.specs.Scan.{one, in_code, Cell, begin, scan, classes_of, classify, all_code_or_str}
use Rattle.rules.specs.ClassBytes.{class_bytes}
use Rattle.rules.proofs.StartsBytes.{not_ascii}
use Rattle.rules.proofs.ScanBytes.{label}
use Rattle.rules.proofs.CellsLaws.{length_class_bytes, length_classify}
use Rattle.rules.proofs.Prefix.{Begins, scan_prefix}
use Rattle.split.specs.declared.Part.{Part}
use Rattle.split.specs.Measure.{Trimmed}
use Rattle.split.proofs.MeasureLaws.{part_length}
use Rattle.split_operation.specs.Operation.{Classed}

pub class_length : (line class : List ℕ) → Classed line class → length class ≡ length line
class_length line class k = ap length k.classes ∙ length_class_bytes (classify Carry.Code line) ∙ length_classify Carry.Code line

-- ---- white space, as bytes

-- bytes that open nothing in code
abbrev quiet : ℕ → Type 0
quiet b = (s : List ℕ) → in_code (b ∷ s) ≡ one Class.Code Mode.Code

abbrev Quiet : List ℕ → Type 0
Quiet [] = Unit {0}
Quiet (b ∷ bs) = quiet b × Quiet bs

quiet_append : (a b : List ℕ) → Quiet a → Quiet b → Quiet (a ++ b)
quiet_append [] b p q = q
quiet_append (x ∷ a) b p q = (p.0, quiet_append a b p.1 q)

quiet_high : (b : ℕ) → 0x80 ≤ b → quiet b
unfolding in_code starts_with choose
quiet_high b h s = rw (not_ascii b 92 h refl, not_ascii b 34 h refl, not_ascii b 39 h refl, not_ascii b 47 h refl, not_ascii b 36 h refl)

all_high : (bs : List ℕ) → High bs → Quiet bs
all_high bs none = tt
all_high bs (also {b = b} {bs = cs} h q) = (quiet_high b h, all_high cs q)

module _ (c : ℕ) (w : is_white c ≡ true) where
  white_apart : (k : ℕ) → is_white k ≡ false → eqb c k ≡ false
  white_apart k e = by_test (eqb c k) (λ h. absurd (true≢false (sym w ∙ ap is_white (eqb-true c k h) ∙ e))) (λ h. h)

  quiet_low : quiet c
  unfolding in_code starts_with choose is_white
  quiet_low s = rw (white_apart 92 refl, white_apart 34 refl, white_apart 39 refl, white_apart 47 refl, white_apart 36 refl)

  quiet_char : Quiet (encode_char c)
  quiet_char = go (encode_char c) (bytes c)
    where
      go : (bs : List ℕ) → Bytes c bs → Quiet bs
      go bs (single h) = (quiet_low, tt)
      go bs (several {b = b} {bs = cs} hc hb hs) = (quiet_high b hb, all_high cs hs)

quiet_white : (v : List ℕ) → White v → Quiet (encode v)
unfolding encode
quiet_white [] w = tt
quiet_white (c ∷ v) w = quiet_append (encode_char c) (encode v) (quiet_char c w.0) (quiet_white v w.1)

scan_quiet : (v z : List ℕ) → Quiet v → scan (begin Carry.Code) (v ++ z) ≡ label Class.Code v ++ scan (begin Carry.Code) z
unfolding scan label
scan_quiet [] z q = refl
scan_quiet (b ∷ v) z q = rw (q.0 (v ++ z), scan_quiet v z q.1)

-- ---- a part p of a line, after such bytes

all_both : (xs ys : List Cell) → all_code_or_str (xs ++ ys) ≡ (all_code_or_str xs && all_code_or_str ys)
unfolding all_code_or_str
all_both [] ys = refl
all_both (x ∷ xs) ys = rw (all_both xs ys, and_assoc)

class_append : (xs ys : List Cell) → class_bytes (xs ++ ys) ≡ class_bytes xs ++ class_bytes ys
unfolding classes_of
class_append [] ys = refl
class_append (x ∷ xs) ys = rw (class_append xs ys)

length_label : (k : Class) (v : List ℕ) → length (label k v) ≡ length v
unfolding label
length_label k [] = refl
length_label k (b ∷ v) = ap suc (length_label k v)

part_middle : (a b c : List ℕ) (m n : ℕ) → length a ≡ m → m + length b ≡ n → part (a ++ (b ++ c)) m n ≡ b
part_middle a b c m n e f =
    let d : n - m ≡ length b = omega arith in
    rw (d, drop_at a (b ++ c) m e) (take_at b c (length b) refl)

part_classed : (v p z class : List ℕ) → Quiet v → Classed (v ++ (p ++ z)) class → Classed p (part class (length v) (length v + length p))
unfolding classify
part_classed v p z class q k =
    let white : List Cell = label Class.Code v in
    let e : scan (begin Carry.Code) (v ++ (p ++ z)) ≡ white ++ scan (begin Carry.Code) (p ++ z) = scan_quiet v (p ++ z) q in
    let a : (all_code_or_str white && all_code_or_str (scan (begin Carry.Code) (p ++ z))) ≡ true = sym (all_both white (scan (begin Carry.Code) (p ++ z))) ∙ ap all_code_or_str (sym e) ∙ k.plain in
    let h : all_code_or_str (scan (begin Carry.Code) (p ++ z)) ≡ true = and_right (all_code_or_str white) (all_code_or_str (scan (begin Carry.Code) (p ++ z))) a in
    let b : Begins (begin Carry.Code) p z = scan_prefix p z (begin Carry.Code) h in
    let own : List Cell = scan (begin Carry.Code) p in
    let c : class ≡ class_bytes white ++ (class_bytes own ++ class_bytes b.rest) =
    k.classes ∙ ap class_bytes (e ∙ ap (λ (xs : List Cell). white ++ xs) b.is) ∙ class_append white (own ++ b.rest) ∙ ap (λ (l : List ℕ). class_bytes white ++ l) (class_append own b.rest) in
    let n : length (class_bytes white) ≡ length v = length_class_bytes white ∙ length_label Class.Code v in
    let m : length (class_bytes own) ≡ length p = length_class_bytes own ∙ length_classify Carry.Code p in
    record {
      classes = ap (λ (l : List ℕ). part l (length v) (length v + length p)) c
          ∙ part_middle (class_bytes white) (class_bytes own) (class_bytes b.rest) (length v) (length v + length p) n (omega arith);
      plain = and_left (all_code_or_str own) (all_code_or_str b.rest) (sym (all_both own b.rest) ∙ ap all_code_or_str (sym b.is) ∙ h);
    }

-- ---- the first piece

-- what is trimmed of its start
front_quiet : (s : List ℕ) (n : ℕ) → WellFormed s → TrimmedStart s n → Quiet (take n s)
front_quiet s n w t =
    let r = start_split (decode s) in
    let d : drop n s ≡ encode (trim_start (decode s)) = sym t.well ∙ ap encode t.text in
    let e : s ≡ encode r.0 ++ drop n s = sym w ∙ ap encode r.2 ∙ encode_append r.0 (trim_start (decode s)) ∙ ap (λ (l : List ℕ). encode r.0 ++ l) (sym d) in
    let k : length (encode r.0) ≡ n = omega (arith, ap length e, length-append (encode r.0) (drop n s), length-drop n s, t.fits) in
    let f : take n s ≡ encode r.0 = ap (take n) e ∙ take_at (encode r.0) (drop n s) n k in
    subst Quiet (sym f) (quiet_white r.0 r.1)

parts : (l : List ℕ) (a e : ℕ) → a ≤ e → l ≡ take a l ++ (part l a e ++ drop e l)
parts l a e h =
    let k : a + (e - a) ≡ e = omega arith in
    sym (ap (λ (r : List ℕ). take a l ++ r) (ap (λ (j : ℕ). part l a e ++ drop j l) (sym k) ∙ ap (λ (r : List ℕ). part l a e ++ r) (sym (drop-drop (e - a) a l)) ∙ take-append-drop (e - a) (drop a l)) ∙ take-append-drop a l)

pub piece_classed : (line class : List ℕ) (e : ℕ) (t : Part) → Classed line class → e ≤ length line → WellFormed (part line 0 e) → Trimmed line 0 e t
    → Classed (part line t.start t.end) (part class t.start t.end)
piece_classed line class e t k h w f =
    let z : part line 0 e ≡ take e line = (let y : e - 0 ≡ e = omega arith in rw y) in
    let s : t.start - 0 ≡ t.start = omega arith in
    let l : t.start ≤ e = omega (arith, f.order, f.fits) in
    let front : take t.start (part line 0 e) ≡ take t.start line = ap (take t.start) z ∙ take-take t.start e line l in
    let q : Quiet (take t.start line) = subst Quiet front (front_quiet (part line 0 e) t.start w (rw s at f.front)) in
    let n : length (take t.start line) ≡ t.start = length-take-le t.start line (omega arith) in
    let m : length (part line t.start t.end) ≡ t.end - t.start = part_length line t.start t.end (omega (arith, f.fits)) in
    let i : t.start + length (part line t.start t.end) ≡ t.end = omega (arith, f.order) in
    let c : Classed (take t.start line ++ (part line t.start t.end ++ drop t.end line)) class = subst (λ (x : List ℕ). Classed x class) (parts line t.start t.end f.order) k in
    let r = part_classed (take t.start line) (part line t.start t.end) (drop t.end line) class q c in
    subst (λ (j : ℕ). Classed (part line t.start t.end) (part class t.start j)) i
    (subst (λ (j : ℕ). Classed (part line t.start t.end) (part class j (j + length (part line t.start t.end)))) n r)
