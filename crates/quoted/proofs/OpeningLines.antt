-- The line that a prefab opens on and leaves open, among the lines that are written.
--     Ends              a line that ends with the opening and all behind it
--     On, on_line       the newest line is such a line
use Prim.Native.Nat.{ℕ}
use mathlib.Core.Logic.{◌⊎◌, inl, inr}
use mathlib.Core.List.{List, [], ◌∷◌, ◌++◌, foldl, foldl-append, append_assoc, append_cancel_left}
use mathlib.Core.Option.{Option, none, some}
use mathlib.Core.Path.{◌≡◌, refl, sym, ap, ◌∙◌}
use Rattle.utf8.specs.Unicode.{is_white, trim, trim_end, trim_start}
use Rattle.utf8.proofs.Trim.{White, trim_split, end_append, end_first, end_append_white, end_twice}
use Rattle.rules.specs.Basics.{codes}
use Rattle.rules.specs.Scan.{chars_of, begin, classify}
use Rattle.rules.specs.Spacing.{Spaced, spaced, space_step, normalize_spacing, respaced}
use Rattle.rules.specs.Else.{join_else}
use Rattle.rules.specs.Line.{Formatter, as_written, lines_before}
use Rattle.rules.specs.Prefabs.{Prefab, opened, left_open}
use Rattle.rules.specs.declared.Class.{Class}
use Rattle.rules.specs.declared.Carry.{Carry}
use Rattle.rules.specs.declared.Gap.{Gap}
use Rattle.rules.proofs.ScanBytes.{label, chars_append, chars_label, chars_classify}
use Rattle.rules.proofs.Struck.{Like, like_eq, like_refl, like_sym, ◌then◌, like_append, like_after, like_trim_end, flatten_back}
use Rattle.rules.proofs.SpacingLaws.{like_spacing}
use Rattle.rules.proofs.LineLaws.{flatten_back_before}
use Rattle.quoted.proofs.Strings.{Edge}
use Rattle.quoted.proofs.SpacedStrings.{lead, like_lead, whole_row}
use Rattle.quoted.proofs.Openings.{OpenCut, Maybe, maybe_map, open_cut, open_before, more, open_behind}
use Rattle.quoted.proofs.Lines.{Written, kept, passed, blank, placed, joins}

edge_dollar : Edge 36
unfolding is_white
edge_dollar = record { solid = refl; full = refl; space = refl; opener = refl }

-- ---- a line that ends with the opening and all behind it

pub record Ends (b l : List ℕ) (q : Prefab) : Type 0 where
  pub front : List ℕ
  pub line : List ℕ
  pub whole : l ≡ front ++ line
  pub behind : Like (b ++ front) q.before
  pub opening : (line ≡ q.line) ⊎ (line ≡ trim_end q.line)

ends_from : (a b l : List ℕ) (q : Prefab) → Like a b → Ends b l q → Ends a l q
ends_from a b l q e p =
    record {
      front = p.front;
      line = p.line;
      whole = p.whole;
      behind = like_append e
          (like_refl p.front) then p.behind;
      opening = p.opening;
    }

ends_after : (b m l : List ℕ) (q : Prefab) → Ends (b ++ m) l q → Ends b (m ++ l) q
ends_after b m l q p =
    record {
      front = m ++ p.front;
      line = p.line;
      whole = ap {B = List ℕ} (λ r. m ++ r) p.whole ∙ sym (append_assoc m p.front p.line);
      behind = like_eq (sym (append_assoc b m p.front)) then p.behind;
      opening = p.opening;
    }

ends_indent : (b w l : List ℕ) (q : Prefab) → White w → Ends b l q → Ends b (w ++ l) q
ends_indent b w l q h p = ends_after b w l q (ends_from (b ++ w) b l q (like_after w b h) p)

pub cut_chars : (y : Carry) (b raw : List ℕ) (q : Prefab) (c : OpenCut b (begin y) raw q)
    → raw ≡ chars_of c.front ++ q.line
unfolding classify
cut_chars y b raw q c =
    sym (chars_classify y raw) ∙ ap chars_of c.whole ∙ chars_append c.front (label Class.Prefab q.line)
    ∙ ap {B = List ℕ} (λ r. chars_of c.front ++ r) (chars_label Class.Prefab q.line)

trim_line : (y : Carry) (b raw : List ℕ) (q : Prefab) (c : OpenCut b (begin y) raw q)
    → trim_end raw ≡ chars_of c.front ++ trim_end q.line
trim_line y b raw q c =
    let e : trim_end q.line ≡ 36 ∷ trim_end c.rest =
    ap trim_end c.starts ∙ end_first 36 c.rest edge_dollar.solid in
    ap trim_end (cut_chars y b raw q c) ∙ end_append (chars_of c.front) q.line 36 (trim_end c.rest) e
    ∙ ap {B = List ℕ} (λ r. chars_of c.front ++ r) (sym e)

ends_raw : (y : Carry) (b raw : List ℕ) (q : Prefab) → OpenCut b (begin y) raw q → Ends b raw q
ends_raw y b raw q c =
    record {
      front = chars_of c.front;
      line = q.line;
      whole = cut_chars y b raw q c;
      behind = like_eq
          (sym c.before);
      opening = inl refl;
    }

ends_written : (y z : Carry) (b raw : List ℕ) (q : Prefab) → OpenCut b (begin y) raw q → Ends b (as_written z raw) q
unfolding as_written
ends_written y Carry.Code b raw q c = ends_raw y b raw q c
ends_written y (Carry.Block d) b raw q c =
    record {
      front = chars_of c.front;
      line = trim_end q.line;
      whole = trim_line y b raw q c;
      behind = like_eq
          (sym c.before);
      opening = inr refl;
    }
ends_written y Carry.Prefab b raw q c = ends_raw y b raw q c

spaced_line_law : (b l : List ℕ) (q : Prefab) (c : OpenCut b (begin Carry.Code) l q)
    → (a : List ℕ) × Like a (chars_of c.front) × (respaced l ≡ a ++ q.line)
unfolding normalize_spacing classify
spaced_line_law b l q c =
    let t : Spaced = foldl space_step (spaced [] Gap.Nothing) c.front in (
      lead t.gap t.out,
      like_lead t.gap t.out then like_spacing c.front,
      ap normalize_spacing c.whole
          ∙ ap (λ (u : Spaced). u.out)
          (foldl-append space_step (spaced [] Gap.Nothing) c.front (label Class.Prefab q.line))
          ∙ rw c.starts (ap (λ (u : Spaced). u.out) (whole_row Class.Prefab refl t 36 c.rest edge_dollar)),
    )

ends_spaced : (b v w raw : List ℕ) (q : Prefab) → White v → White w → OpenCut (b ++ v) (begin Carry.Code) (trim raw) q
    → Ends b (respaced (trim raw)) (opened q.before (q.line ++ w))
unfolding trim
ends_spaced b v w raw q hv hw c =
    let r = spaced_line_law (b ++ v) (trim raw) q c in
    let e : trim_end q.line ≡ q.line =
    append_cancel_left (chars_of c.front) (trim_end q.line) q.line
    (sym (trim_line Carry.Code (b ++ v) (trim raw) q c) ∙ end_twice (trim_start raw)
    ∙ cut_chars Carry.Code (b ++ v) (trim raw) q c)
    in
    record {
      front = r.0;
      line = q.line;
      whole = r.2;
      behind = like_append (like_sym (like_after v b hv)) r.1 then like_eq (sym c.before);
      opening = inr (sym (end_append_white q.line w hw ∙ e));
    }

spaced_open : (b raw : List ℕ) → Maybe (Ends b (respaced (trim raw))) (left_open b (begin Carry.Code) raw)
spaced_open b raw =
    let r = trim_split raw in
    let e : left_open b (begin Carry.Code) raw ≡ more r.1 (left_open (b ++ r.0) (begin Carry.Code) (trim raw)) =
    ap (left_open b (begin Carry.Code)) r.4 ∙ open_before b r.0 (trim raw ++ r.1) r.2
    ∙ open_behind (b ++ r.0) (begin Carry.Code) (trim raw) r.1 r.3
    in
    rw e (go r.0 r.1 r.2 r.3 (left_open (b ++ r.0) (begin Carry.Code) (trim raw))
    (open_cut (b ++ r.0) (begin Carry.Code) (trim raw)))
  where
    go : (v w : List ℕ) → White v → White w → (m : Option Prefab)
        → Maybe (OpenCut (b ++ v) (begin Carry.Code) (trim raw)) m → Maybe (Ends b (respaced (trim raw))) (more w m)
    go v w hv hw none c = unfold Maybe more in tt
    go v w hv hw (some q) c = unfold Maybe more in ends_spaced b v w raw q hv hw c

raw_open : (y z : Carry) (b raw : List ℕ) → Maybe (Ends b (as_written z raw)) (left_open b (begin y) raw)
raw_open y z b raw =
    maybe_map (OpenCut b (begin y) raw) (Ends b (as_written z raw)) (ends_written y z b raw) (left_open b (begin y) raw)
    (open_cut b (begin y) raw)

-- ---- among lines, the newest first

abbrev pub On : List (List ℕ) → Prefab → Type 0
On [] q = ⊥
On (l ∷ ls) q = Ends (flatten_back ls) l q

on_join : (line : List ℕ) (ls : List (List ℕ)) (q : Prefab) → Ends (flatten_back ls) line q → On (join_else line ls) q
unfolding join_else flatten_back is_white
on_join line [] q p = p
on_join line (last ∷ ls) q p =
    ends_after (flatten_back ls) (trim_end last) (codes " " ++ line) q
    (ends_indent (flatten_back ls ++ trim_end last) (codes " ") line q (refl, tt)
    (ends_from (flatten_back ls ++ trim_end last) (flatten_back ls ++ last) line q
    (like_append (like_refl (flatten_back ls)) (like_trim_end last)) p))

module _ (f : Formatter) (b raw : List ℕ) (like : Like (flatten_back f.lines) b) where
  -- the prefab that the line leaves open, where y is open before it
  abbrev New : Carry → List (List ℕ) → Type 0
  New y ms = Maybe (On ms) (left_open b (begin y) raw)

  from : (l : List ℕ) (q : Prefab) → Ends b l q → Ends (flatten_back f.lines) l q
  from l q p = ends_from (flatten_back f.lines) b l q like p

  none_blank : (ms : List (List ℕ)) → trim raw ≡ [] → New Carry.Code ms
  none_blank ms z =
      let r = trim_split raw in
      let e : left_open b (begin Carry.Code) raw ≡ none =
      ap (left_open b (begin Carry.Code)) r.4 ∙ open_before b r.0 (trim raw ++ r.1) r.2
      ∙ open_behind (b ++ r.0) (begin Carry.Code) (trim raw) r.1 r.3 ∙ rw z (unfold left_open more in refl)
      in
      rw e (unfold Maybe in tt)

  on_kept : (z : Carry) → New f.carry (as_written z raw ∷ f.lines)
  on_kept z =
      maybe_map (Ends b (as_written z raw)) (On (as_written z raw ∷ f.lines)) (from (as_written z raw))
      (left_open b (begin f.carry) raw)
      (raw_open f.carry z b raw)

  on_placed : (indent : List ℕ) → White indent
      → New Carry.Code ((indent ++ respaced (trim raw)) ∷ lines_before f (respaced (trim raw)))
  on_placed indent white =
      let line : List ℕ = respaced (trim raw) in
      let ls : List (List ℕ) = lines_before f line in
      let before : Like (flatten_back ls) b = like_eq (flatten_back_before f line) then like in
      maybe_map (Ends b line) (On ((indent ++ line) ∷ ls))
      (λ q p. ends_indent (flatten_back ls) indent line q white (ends_from (flatten_back ls) b line q before p))
      (left_open b (begin Carry.Code) raw) (spaced_open b raw)

  on_joins : New Carry.Code (join_else (respaced (trim raw)) f.lines)
  on_joins =
      let line : List ℕ = respaced (trim raw) in
      maybe_map (Ends b line) (On (join_else line f.lines)) (λ q p. on_join line f.lines q (from line q p))
      (left_open b (begin Carry.Code) raw) (spaced_open b raw)

  pub on_line : (ms : List (List ℕ)) → Written f raw ms → New f.carry ms
  unfolding lines_before
  on_line ms (kept z e) = rw e (on_kept z)
  on_line ms (passed c z e) = rw c (none_blank ms z)
  on_line ms (blank c z e) = rw c (none_blank ms z)
  on_line ms (placed c indent white e) = rw (e, c) (on_placed indent white)
  on_line ms (joins c e) = rw (e, c) on_joins
