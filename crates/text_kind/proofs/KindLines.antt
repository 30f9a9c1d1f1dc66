-- Lines on bytes.
--     line_last, line_more          the first line, as Rust's `lines` cuts it
--     kind_past, kind_more, kind_here the kind asked for
--     Seeking                       the loop of `text_kind_at`, over the lines before the one asked for
use Prim.Native.Nat.{ℕ, zero, suc, ◌+◌, ◌-◌, ◌<◌, ◌≤◌, ◌^◌, zero-le}
use native.Mathlib.Omega.{arith}
use native.Mathlib.Nat.{le_refl}
use mathlib.Core.List.{List, [], ◌∷◌}
use mathlib.Core.Path.{◌≡◌, refl, sym, ap, ◌∙◌}
use lib.ListN.{length, get_or, take, drop, length-take, length-drop}
use lib.Seq.{drop-drop}
use Rattle.utf8.specs.Unicode.{decode}
use Rattle.buffer.specs.Buffer.{part}
use Rattle.rules.specs.declared.Carry.{Carry}
use Rattle.rules.specs.declared.TextKind.{TextKind}
use Rattle.rules.specs.Basics.{pieces, split_on}
use Rattle.rules.specs.Lines.{drop_cr}
use Rattle.rules.specs.Scan.{begin, carry_after}
use Rattle.rules.specs.TextKind.{rust_lines, text_kind_at}
use Rattle.rules.proofs.LinesBytes.{rust_one, rust_more}
use Rattle.basics.specs.Depth.{carry_depth}
use Rattle.scan.specs.Classified.{Classified}
use Rattle.line_ends.specs.LineEnds.{LineEnd}
use Rattle.line_ends.proofs.LineCuts.{Last, More, Cut, last, more, cut, whole, part_of, cr_fits}
use Rattle.split.specs.Text.{first_of}
use Rattle.text_kind.specs.Kind.{byte_kinds, byte_kind_in, kind_from, line_at, SourceFits}
use Rattle.text_kind.proofs.KindBytes.{kind_bytes}

-- ---- Rust's lines of those pieces

pub rust_none : rust_lines ([] ∷ []) ≡ []
unfolding rust_lines
rust_none = refl

module _ (s : List ℕ) (e : Last s) where
  pub line_last : s ≡ line_at s
  unfolding line_at first_of
  line_last = rw e (go s)
    where
      go : (s : List ℕ) → s ≡ first_of (rust_lines (s ∷ []))
      go [] = rw rust_none
      go (c ∷ s) = rw (rust_one (c ∷ s) refl)

  pub kind_past : (y : Carry) (n col : ℕ) → kind_from y s (suc n) col ≡ TextKind.Code
  unfolding byte_kind_in
  kind_past y n col = rw e (go s)
    where
      go : (s : List ℕ) → byte_kind_in y (rust_lines (s ∷ [])) (suc n) col ≡ TextKind.Code
      go [] = rw rust_none
      go (c ∷ s) = rw (rust_one (c ∷ s) refl)

module _ (s : List ℕ) (k : ℕ) (e : More s k) where
  pub line_more : drop_cr (take k s) ≡ line_at s
  unfolding line_at first_of
  line_more = rw (e, rust_more)

  pub kind_more : (y : Carry) (n col : ℕ) → kind_from y s (suc n) col ≡ kind_from (carry_after y (drop_cr (take k s))) (drop (suc k) s) n col
  unfolding byte_kind_in
  kind_more y n col = rw (e, rust_more)

pub kind_here : (s : List ℕ) (y : Carry) (col : ℕ) → kind_from y s 0 col ≡ get_or (byte_kinds (begin y) (line_at s)) col TextKind.Code
unfolding byte_kind_in byte_kinds line_at first_of
kind_here s y col = go (rust_lines (pieces (split_on "\n" s)))
  where
    go : (ls : List (List ℕ)) → byte_kind_in y ls 0 col ≡ get_or (byte_kinds (begin y) (first_of ls)) col TextKind.Code
    go [] = refl
    go (l ∷ ls) = refl

-- ---- the lines up to the one asked for: `left` of them stand between `at` and its start

pub line_fits : (s : List ℕ) → length (line_at s) ≤ length s
line_fits s = go (cut s)
  where
    go : Cut s → length (line_at s) ≤ length s
    go (last e) = rw (← line_last s e) (le_refl _)
    go (more k h e) = rw (← line_more s k e) (omega (arith, cr_fits (take k s), length-take k s))

module _ (source : List ℕ) (at e : ℕ) (q : LineEnd source at e) where
  pub line_end_last : length source ≤ e → drop at source ≡ line_at (drop at source)
  line_end_last h = line_last (drop at source) (whole source at e q h)

  pub line_end_more : e < length source → drop_cr (part source at e) ≡ line_at (drop at source)
  line_end_more h = line_more (drop at source) (e - at) (part_of source at e q h)

pub record Seeking (source : List ℕ) (line col : ℕ) (scratch₀ scratch : List ℕ) (carry : Carry) (at left : ℕ) : Type 0 where
  pub within : at ≤ length source
  pub as_long : length scratch ≡ length scratch₀
  pub depth : carry_depth carry ≤ at
  pub same : text_kind_at (decode source) line col ≡ kind_from carry (drop at source) left col

pub seeking_start : (source scratch : List ℕ) (line col : ℕ) → SourceFits source scratch → Seeking source line col scratch scratch Carry.Code 0 line
seeking_start source scratch line col f =
    record { within = zero-le; as_long = refl; depth = zero-le; same = kind_bytes source f.well line col }

module _ {source scratch₀ scratch : List ℕ} {line col at left : ℕ} {carry : Carry} (r : Seeking source line col scratch₀ scratch carry at left) where
  pub seeking_past : (e : ℕ) → 0 < left → LineEnd source at e → length source ≤ e → TextKind.Code ≡ text_kind_at (decode source) line col
  seeking_past e h q l = sym (r.same ∙ some left h)
    where
      some : (n : ℕ) → 0 < n → kind_from carry (drop at source) n col ≡ TextKind.Code
      some zero h = absurd (omega arith)
      some (suc n) h = kind_past (drop at source) (whole source at e q l) carry n col

  pub seeking_more : (e : ℕ) (l scratch' : List ℕ) (carry' : Carry) → 0 < left → LineEnd source at e → e < length source → l ≡ drop_cr (part source at e)
      → Classified carry l scratch scratch' carry' → length scratch' ≡ length scratch → Seeking source line col scratch₀ scratch' carry' (e + 1) (left - 1)
  seeking_more e l scratch' carry' h q k f c n =
      let m : left ≡ suc (left - 1) = omega arith in
      let j : at + suc (e - at) ≡ e + 1 = omega (arith, q.is) in
      record {
        within = omega arith;
        as_long = n ∙ r.as_long;
        depth = omega (arith, c.depth, r.depth, q.is, ap length f, cr_fits (part source at e), length-take (e - at) (drop at source));
        same =
            r.same
            ∙ ap (λ (i : ℕ). kind_from carry (drop at source) i col) m
            ∙ kind_more (drop at source) (e - at) (part_of source at e q k) carry (left - 1) col
            ∙ ap (λ (y : Carry). kind_from y (drop (suc (e - at)) (drop at source)) (left - 1) col) (sym (c.carry ∙ ap (carry_after carry) f))
            ∙ ap (λ (s : List ℕ). kind_from carry' s (left - 1) col) (drop-drop (suc (e - at)) at source ∙ ap (λ (i : ℕ). drop i source) j);
      }

  pub seeking_room : (e : ℕ) (l : List ℕ) → LineEnd source at e → e < length source → l ≡ drop_cr (part source at e) → SourceFits source scratch₀
      → (length l ≤ length scratch) × (carry_depth carry + length l + 1 < 2 ^ 32)
  seeking_room e l q k f s =
      let n : length l ≤ e - at = omega (arith, ap length f, cr_fits (part source at e), length-take (e - at) (drop at source)) in
      (omega (arith, r.as_long, s.room), omega (arith, r.depth, s.short, q.is))

  pub seeking_line : (l : List ℕ) → l ≡ line_at (drop at source) → SourceFits source scratch₀ → carry_depth carry + length l + 1 < 2 ^ 32
  seeking_line l f s = omega (arith, ap length f, line_fits (drop at source), length-drop at source, r.depth, r.within, s.short)

  pub seeking_found : (l : List ℕ) (k : TextKind) → left ≤ 0 → l ≡ line_at (drop at source) → k ≡ get_or (byte_kinds (begin carry) l) col TextKind.Code → k ≡ text_kind_at (decode source) line col
  seeking_found l k h f e =
      let z : left ≡ 0 = omega arith in
      rw (e, f, r.same, z) (sym (kind_here (drop at source) carry col))
