-- The loop of `kind_in_line`: before byte i of the line, with the mark t, the character asked for is the one after
-- `left` more.
use Prim.Native.Nat.{ℕ, suc, ◌+◌, ◌-◌, ◌<◌, ◌≤◌, zero-le}
use native.Mathlib.Omega.{arith}
use native.Mathlib.Numerals.{add-one}
use mathlib.Core.Bool.{Bool, true, false}
use mathlib.Core.List.{List, ◌∷◌}
use mathlib.Core.Path.{◌≡◌, refl, sym, ap, ◌∙◌}
use lib.ListN.{length, get_or, drop, drop_of_length-le, get_or-eq_default}
use lib.Seq.{drop-cons}
use Rattle.utf8.specs.Unicode.{tail}
use Rattle.buffer.specs.Buffer.{part}
use Rattle.buffer.proofs.RegionLaws.{part_from}
use Rattle.rules.specs.declared.Carry.{Carry}
use Rattle.rules.specs.declared.Mark.{Mark}
use Rattle.rules.specs.declared.TextKind.{TextKind}
use Rattle.rules.specs.Scan.{next, begin}
use Rattle.rules.specs.TextKind.{in_interpolation, class_kind}
use Rattle.basics.specs.Depth.{depth_of}
use Rattle.marks.proofs.NextLaws.{next_shallow}
use Rattle.text_kind.specs.Kind.{byte_kinds}
use Rattle.text_kind.proofs.KindBytes.{bytes_tail, bytes_first, kinds_fit}

abbrev kind_at : Mark → List ℕ → ℕ → TextKind
kind_at t s col = get_or (byte_kinds t s) col TextKind.Code

-- a column that is no less than the line's bytes is past its end
pub past_line : (line : List ℕ) (y : Carry) (col : ℕ) → length line ≤ col → TextKind.Code ≡ kind_at (begin y) line col
past_line line y col h =
    let n : length (byte_kinds (begin y) line) ≤ col = omega (arith, kinds_fit (begin y) line) in
    sym (get_or-eq_default (byte_kinds (begin y) line) TextKind.Code n)

pub record Counting (line : List ℕ) (t₀ : Mark) (col : ℕ) (t : Mark) (left i : ℕ) : Type 0 where
  pub within : i ≤ length line
  pub depth : depth_of t.mode ≤ depth_of t₀.mode + i
  pub same : kind_at t₀ line col ≡ kind_at t (drop i line) left

pub counting_start : (line : List ℕ) (t : Mark) (col : ℕ) → Counting line t col t col 0
counting_start line t col = record { within = zero-le; depth = omega arith; same = refl }

-- the byte at i, after which the mark is u
module _ {line : List ℕ} {t₀ t : Mark} {col left i : ℕ} (r : Counting line t₀ col t left i) (u : Mark) (b : Bool)
    (h : i < length line) (e : u ≡ next t (part line i (length line))) (f : b ≡ tail (get_or line i 0))
  where
    at_i : drop i line ≡ get_or line i 0 ∷ drop (i + 1) line
    at_i = rw add-one (drop-cons line i 0 h)

    after : u ≡ next t (get_or line i 0 ∷ drop (i + 1) line)
    after = rw (part_from, at_i) at e

    deeper : depth_of u.mode ≤ depth_of t₀.mode + (i + 1)
    deeper = rw after (omega (arith, next_shallow t (get_or line i 0 ∷ drop (i + 1) line), r.depth))

    -- it belongs to the character before it
    pub counting_tail : b ≡ true → Counting line t₀ col u left (i + 1)
    counting_tail g =
        record {
          within = omega arith;
          depth = deeper;
          same = r.same ∙ rw (at_i, bytes_tail t _ (drop (i + 1) line) (sym f ∙ g), after);
        }

    first : b ≡ false → byte_kinds t (drop i line) ≡ class_kind u.class (in_interpolation t.mode) ∷ byte_kinds u (drop (i + 1) line)
    first g = rw (at_i, bytes_first t _ (drop (i + 1) line) (sym f ∙ g), after)

    -- it starts the character asked for
    pub counting_found : (y : Carry) (x : Bool) (k : TextKind) → t₀ ≡ begin y → b ≡ false → left ≡ 0 → x ≡ in_interpolation t.mode → k ≡ class_kind u.class x
        → k ≡ kind_at (begin y) line col
    counting_found y x k d g z p q = rw (q, p, ← d, r.same, first g, z)

    -- it starts one before that
    pub counting_more : b ≡ false → (left ≡ 0 → ⊥) → Counting line t₀ col u (left - 1) (i + 1)
    counting_more g z =
        let m : left ≡ suc (left - 1) = omega arith in
        record {
          within = omega arith;
          depth = deeper;
          same = r.same ∙ rw (first g) (ap (λ (n : ℕ). get_or (class_kind u.class (in_interpolation t.mode) ∷ byte_kinds u (drop (i + 1) line)) n TextKind.Code) m);
        }

pub counting_end : (line : List ℕ) (t₀ t : Mark) (col left i : ℕ) (y : Carry) → Counting line t₀ col t left i → length line ≤ i → t₀ ≡ begin y → TextKind.Code ≡ kind_at (begin y) line col
unfolding byte_kinds
counting_end line t₀ t col left i y r h d = rw (← d, r.same, drop_of_length-le line h)
