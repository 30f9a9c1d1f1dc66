-- The places of a line: the loop of `kinds_in_line`, which before byte i of the line, with the mark t, has read so many
-- characters, and that of `kinds_by_class`.
use Prim.Native.Nat.{ℕ, suc, ◌+◌, ◌<◌, ◌≤◌}
use native.Mathlib.Omega.{arith}
use native.Mathlib.Numerals.{add-one}
use mathlib.Core.Bool.{Bool, true, false}
use mathlib.Core.List.{List, [], ◌∷◌}
use mathlib.Core.Path.{◌≡◌, sym, ap, ◌∙◌}
use lib.ListN.{length, get_or, drop, set, length-drop, length-set, drop_of_length-le, get_or-eq_default}
use lib.Seq.{drop-cons, drop-drop, get_or-drop}
use Rattle.utf8.specs.Unicode.{tail}
use Rattle.buffer.specs.Buffer.{part}
use Rattle.buffer.proofs.RegionLaws.{part_from}
use Rattle.rules.specs.declared.Carry.{Carry}
use Rattle.rules.specs.declared.Mark.{Mark}
use Rattle.rules.specs.declared.TextKind.{TextKind}
use Rattle.rules.specs.Scan.{next, begin}
use Rattle.rules.specs.TextKind.{in_interpolation, class_kind, kind_number}
use Rattle.basics.specs.Depth.{depth_of}
use Rattle.marks.proofs.NextLaws.{next_shallow}
use Rattle.text_kind.specs.Kind.{byte_kinds}
use Rattle.text_kind.proofs.KindBytes.{bytes_tail, bytes_first}
use Rattle.text_kinds.specs.Places.{Place, place_at}
use Rattle.std.specs.Prelude.{Option, Some}
use Rattle.text_kinds.specs.Reading.{column_of, IsOn, Ahead, Filled, Listed, Answered, PassedOver, LineAnswered, Without, dollar_at, ClassesIn, Tells, KindTold, PartAnswered}
use Rattle.text_kinds.proofs.PlaceLaws.{from_line, from_next, from_trans}
use Rattle.text_kinds.proofs.FillLaws.{filled_set}

abbrev KindsAt : Mark → List ℕ → ℕ → (Place → ℕ) → Type 0
KindsAt t line number f = (c : ℕ) → f (place_at number c) ≡ kind_number (get_or (byte_kinds t line) c TextKind.Code)

pub record InLine (line : List ℕ) (t₀ : Mark) (number : ℕ) (list : List ℕ) (k : ℕ) (kinds₀ : List ℕ) (t : Mark) (to column i : ℕ) (kinds : List ℕ) : Type 0 where
  pub within : i ≤ length line
  pub few : column ≤ i
  pub depth : depth_of t.mode ≤ depth_of t₀.mode + i
  pub rest : drop column (byte_kinds t₀ line) ≡ byte_kinds t (drop i line)
  pub long : length kinds ≡ length kinds₀
  pub filled : (f : Place → ℕ) → KindsAt t₀ line number f → Filled f list (suc number) k kinds₀ → Filled f list (suc number) to kinds
  pub ahead : Ahead list number column to

-- no place of the line is left
none_left : {list : List ℕ} {number column to : ℕ} (b : Bool) → Ahead list number column to → IsOn list to number b → b ≡ false → Ahead list (suc number) 0 to
none_left b a o e = record { from = λ h. from_line (a.from h) (o.other e h) }

-- the byte at i, after which the mark is u
module _ {line : List ℕ} {t₀ : Mark} {number : ℕ} {list : List ℕ} {k : ℕ} {kinds₀ : List ℕ} {t : Mark} {to column i : ℕ} {kinds : List ℕ}
    (r : InLine line t₀ number list k kinds₀ t to column i kinds) (u : Mark) (b : Bool)
    (h : i < length line) (e : u ≡ next t (part line i (length line))) (g : b ≡ tail (get_or line i 0))
  where
    at_i : drop i line ≡ get_or line i 0 ∷ drop (i + 1) line
    at_i = rw add-one (drop-cons line i 0 h)

    after : u ≡ next t (get_or line i 0 ∷ drop (i + 1) line)
    after = rw (part_from, at_i) at e

    deeper : depth_of u.mode ≤ depth_of t₀.mode + (i + 1)
    deeper = rw after (omega (arith, next_shallow t (get_or line i 0 ∷ drop (i + 1) line), r.depth))

    -- it belongs to the character before it
    pub in_line_tail : b ≡ true → InLine line t₀ number list k kinds₀ u to column (i + 1) kinds
    in_line_tail v =
        record {
          within = omega arith;
          few = omega (arith, r.few);
          depth = deeper;
          rest = r.rest ∙ rw (at_i, bytes_tail t _ (drop (i + 1) line) (sym g ∙ v), after);
          long = r.long;
          filled = r.filled;
          ahead = r.ahead;
        }

    -- it starts a character: the kind at the column
    first : b ≡ false → drop column (byte_kinds t₀ line) ≡ class_kind u.class (in_interpolation t.mode) ∷ byte_kinds u (drop (i + 1) line)
    first v = r.rest ∙ rw (at_i, bytes_first t _ (drop (i + 1) line) (sym g ∙ v), after)

    kind_here : b ≡ false → get_or (byte_kinds t₀ line) column TextKind.Code ≡ class_kind u.class (in_interpolation t.mode)
    kind_here v =
        let z : column + 0 ≡ column = omega arith in
        ap (λ (n : ℕ). get_or (byte_kinds t₀ line) n TextKind.Code) (sym z)
        ∙ sym (get_or-drop column (byte_kinds t₀ line) 0 TextKind.Code)
        ∙ ap (λ (l : List TextKind). get_or l 0 TextKind.Code) (first v)

    one_on : b ≡ false → drop (column + 1) (byte_kinds t₀ line) ≡ byte_kinds u (drop (i + 1) line)
    one_on v = sym (drop-drop 1 column (byte_kinds t₀ line)) ∙ ap (drop 1) (first v)

    pub in_line_first : b ≡ false → (x : Bool) (kind : TextKind) (v to' : ℕ) (kinds' : List ℕ) → x ≡ in_interpolation t.mode → kind ≡ class_kind u.class x → v ≡ kind_number kind
        → Answered list number column v to kinds to' kinds'
        → InLine line t₀ number list k kinds₀ u to' (column + 1) (i + 1) kinds'
    in_line_first w x kind v to' kinds' p q s a =
        let same : kind_number (get_or (byte_kinds t₀ line) column TextKind.Code) ≡ v = rw (s, q, p) (ap kind_number (kind_here w)) in
        record {
          within = omega arith;
          few = omega (arith, r.few);
          depth = deeper;
          rest = one_on w;
          long = a.long ∙ r.long;
          filled = λ f m z. a.filled f (m column ∙ same) (r.filled f m z);
          ahead = rw add-one (a.ahead r.ahead);
        }

    -- and no place behind it is left
    pub in_line_left : (carry : Carry) (x : Bool) (kind : TextKind) (v to' : ℕ) (kinds' : List ℕ) (on : Bool) → t₀ ≡ begin carry → b ≡ false
        → x ≡ in_interpolation t.mode → kind ≡ class_kind u.class x → v ≡ kind_number kind
        → Answered list number column v to kinds to' kinds' → IsOn list to' number on → on ≡ false
        → LineAnswered line carry number list k kinds₀ to' kinds'
    in_line_left carry x kind v to' kinds' on y w p q s a o z =
        let m = in_line_first w x kind v to' kinds' p q s a in
        record { long = m.long; filled = λ f n. m.filled f (λ c. n c ∙ rw y); ahead = none_left on m.ahead o z }

-- the line is read, and its other places stand past its end
pub in_line_end : (line : List ℕ) (carry : Carry) (t₀ : Mark) (number : ℕ) (list : List ℕ) (k : ℕ) (kinds₀ : List ℕ) (t : Mark) (to column i : ℕ) (kinds : List ℕ)
    (to' : ℕ) → InLine line t₀ number list k kinds₀ t to column i kinds → length line ≤ i → t₀ ≡ begin carry
    → PassedOver list number to to' → LineAnswered line carry number list k kinds₀ to' kinds
unfolding byte_kinds
in_line_end line carry t₀ number list k kinds₀ t to column i kinds to' r h b p =
    let nothing : drop i line ≡ [] = drop_of_length-le line h in
    let past : drop column (byte_kinds t₀ line) ≡ [] = r.rest ∙ rw nothing in
    let short : length (byte_kinds t₀ line) ≤ column = omega (arith, length-drop column (byte_kinds t₀ line), ap length past) in
    record {
      long = r.long;
      filled = λ f m z.
          p.filled f kinds column r.ahead
          (λ c l. m c ∙ rw b at (ap kind_number (get_or-eq_default (byte_kinds t₀ line) TextKind.Code (far c l short))))
          (r.filled f (λ c. m c ∙ rw b) z);
      ahead = p.ahead column r.ahead;
    }
  where
    far : {n : ℕ} (c : ℕ) → column ≤ c → n ≤ column → n ≤ c
    far c l s = omega arith

-- ---- the loop of `kinds_by_class`

pub record Telling (line class : List ℕ) (number : ℕ) (list : List ℕ) (k : ℕ) (kinds₀ : List ℕ) (to d : ℕ) (kinds : List ℕ) : Type 0 where
  pub part : PartAnswered line class number list k kinds₀ to kinds
  pub clear : Without (dollar_at line) 0 d

module _ {line class : List ℕ} {number : ℕ} {list : List ℕ} {k : ℕ} {kinds₀ : List ℕ} {to clear : ℕ} {kinds : List ℕ}
    (r : Telling line class number list k kinds₀ to clear kinds)
  where
    pub telling_tells : (ascii : ℕ) → Tells line class ascii 0 → Tells line class ascii clear
    telling_tells ascii w = record { room = w.room; ascii = w.ascii; clear = r.clear }

    pub telling_more : (b : Bool) (told : Option TextKind) (found : TextKind) (kind clear' : ℕ) → Listed list kinds₀
        → IsOn list to number b → b ≡ true → KindTold line class (column_of list to) told clear' → told ≡ Some found
        → kind ≡ kind_number found → Telling line class number list k kinds₀ (to + 1) clear' (set kinds to kind)
    telling_more b told found kind clear' w o t e n z' =
        let l = o.same_line t in
        record {
          part = record {
            long = length-set kinds to kind ∙ r.part.long;
            filled = λ y c f m z.
                filled_set (r.part.filled y c f m z) (o.there t) kind
                (rw l (m (column_of list to)) ∙ sym (z' ∙ e.told found n y c)) (omega arith);
            ahead = λ a. record { from = λ h. from_trans ((r.part.ahead a).from (o.there t)) (from_next list to w.order h) };
          };
          clear = e.clear;
        }

    pub telling_room : (b : Bool) → Listed list kinds₀ → IsOn list to number b → b ≡ true → to < length kinds
    telling_room b w o t = omega (arith, o.there t, w.room, r.part.long)

-- ---- both, one after the other

module _ {line : List ℕ} {carry : Carry} {class : List ℕ} {number : ℕ} {list : List ℕ} {k : ℕ} {kinds₀ : List ℕ} {to : ℕ} {kinds : List ℕ}
    (c : ClassesIn carry line class) (a : Ahead list number 0 k) (r : PartAnswered line class number list k kinds₀ to kinds)
  where
    pub part_listed : Listed list kinds₀ → Listed list kinds
    part_listed w = record { order = w.order; room = omega (arith, w.room, r.long) }

    pub line_told : (b : Bool) → IsOn list to number b → b ≡ false → LineAnswered line carry number list k kinds₀ to kinds
    line_told b o e = record { long = r.long; filled = r.filled carry c; ahead = none_left b (r.ahead a) o e }

    pub line_read : (to' : ℕ) (kinds' : List ℕ) → LineAnswered line carry number list to kinds to' kinds' → LineAnswered line carry number list k kinds₀ to' kinds'
    line_read to' kinds' l =
        record { long = l.long ∙ r.long; filled = λ f m z. l.filled f m (r.filled carry c f m z); ahead = l.ahead }
