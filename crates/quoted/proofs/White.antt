-- White space at a line's ends holds no string and changes none.
--     quoted_before, quoted_behind     the strings of a line, without the white space before and behind
use Prim.Native.Nat.{ℕ}
use mathlib.Core.Bool.{true}
use mathlib.Core.List.{List, [], ◌∷◌, ◌++◌, append_assoc, append-nil}
use mathlib.Core.Option.{none, some, map}
use mathlib.Core.Path.{◌≡◌, refl, sym, ap, ◌∙◌}
use Rattle.utf8.specs.Unicode.{is_white, trim}
use Rattle.utf8.proofs.Tests.{by_test}
use Rattle.utf8.proofs.Trim.{White, trim_split}
use Rattle.rules.specs.Basics.{choose}
use Rattle.rules.specs.Scan.{next, begin, is_str, final, open_after, carry_after}
use Rattle.rules.specs.Prefabs.{in_code_mode, opens}
use Rattle.rules.specs.Quoted.{closing, quoted_at, quoted_in}
use Rattle.rules.specs.declared.Carry.{Carry}
use Rattle.rules.specs.declared.Mark.{Mark}
use Rattle.rules.proofs.Prefix.{never}
use Rattle.quoted.proofs.Separators.{sep_white, sep_mode, next_code, not_open, next_ahead}
use Rattle.quoted.proofs.Strings.{Within, Reads, goes, ends, reads, not_code, open_mark, quote_solid}

-- ---- no string opens at white space, and none ends

none_at : (b : List ℕ) (t : Mark) (c : ℕ) (s : List ℕ) → is_white c ≡ true → quoted_at b t (next t (c ∷ s)) c s ≡ []
unfolding quoted_at choose
none_at b t c s h = rw (not_open c (sep_white c h) is_str refl t s)

quoted_none : (b : List ℕ) (t : Mark) (w : List ℕ) → White w → quoted_in b t w ≡ []
unfolding quoted_in
quoted_none b t [] h = refl
quoted_none b t (c ∷ w) h = rw (none_at b t c w h.0) (quoted_none (b ++ (c ∷ [])) (next t (c ∷ w)) w h.1)

-- ---- white space behind a line

closing_none : (t : Mark) (w : List ℕ) → Within t → White w → closing t w ≡ none
unfolding closing choose
closing_none t [] v h = refl
closing_none t (c ∷ w) v h = go (reads t c w v) (λ u. closing_none (next t (c ∷ w)) w u h.1)
  where
    go : Reads c (next t (c ∷ w)) → (Within (next t (c ∷ w)) → closing (next t (c ∷ w)) w ≡ none)
        → closing t (c ∷ w) ≡ none
    go (goes u) i = rw (not_code (next t (c ∷ w)).mode u.mode, i u)
    go (ends q e k m) i = never h.0 (ap is_white e ∙ quote_solid q)

closing_behind : (t : Mark) (s w : List ℕ) → Within t → White w → closing t (s ++ w) ≡ closing t s
unfolding closing choose
closing_behind t [] w v h = closing_none t w v h
closing_behind t (c ∷ s) w v h =
    rw (next_ahead t (c ∷ s) w h) (go (reads t c s v) (λ u. closing_behind (next t (c ∷ s)) s w u h))
  where
    go : Reads c (next t (c ∷ s))
        → (Within (next t (c ∷ s)) → closing (next t (c ∷ s)) (s ++ w) ≡ closing (next t (c ∷ s)) s)
        → choose (in_code_mode (next t (c ∷ s)).mode) (some (c ∷ []))
        (map (λ (l : List ℕ). c ∷ l) (closing (next t (c ∷ s)) (s ++ w)))
        ≡ choose (in_code_mode (next t (c ∷ s)).mode) (some (c ∷ []))
        (map (λ (l : List ℕ). c ∷ l) (closing (next t (c ∷ s)) s))
    go (goes u) i = rw (i u)
    go (ends q e k m) i = rw m

at_behind : (b : List ℕ) (t : Mark) (c : ℕ) (s w : List ℕ) → White w
    → quoted_at b t (next t (c ∷ s)) c (s ++ w) ≡ quoted_at b t (next t (c ∷ s)) c s
unfolding quoted_at choose
at_behind b t c s w h =
    by_test (opens is_str t (next t (c ∷ s)))
    (λ e. rw (closing_behind (next t (c ∷ s)) s w (open_mark t c s e).within h))
    (λ e. rw e)

pub quoted_behind : (b : List ℕ) (t : Mark) (s w : List ℕ) → White w → quoted_in b t (s ++ w) ≡ quoted_in b t s
unfolding quoted_in
quoted_behind b t [] w h = quoted_none b t w h
quoted_behind b t (c ∷ s) w h =
    rw (next_ahead t (c ∷ s) w h, at_behind b t c s w h, quoted_behind (b ++ (c ∷ [])) (next t (c ∷ s)) s w h)

-- ---- white space before a line of code

pub blank_code : (c : ℕ) (s : List ℕ) → is_white c ≡ true → next (begin Carry.Code) (c ∷ s) ≡ begin Carry.Code
blank_code c s h = next_code c (sep_white c h) (begin Carry.Code) s refl refl

pub quoted_before : (b w s : List ℕ) → White w
    → quoted_in b (begin Carry.Code) (w ++ s) ≡ quoted_in (b ++ w) (begin Carry.Code) s
unfolding quoted_in
quoted_before b [] s h = rw append-nil
quoted_before b (c ∷ w) s h =
    rw (
      none_at b (begin Carry.Code) c (w ++ s) h.0,
      blank_code c (w ++ s) h.0,
      quoted_before (b ++ (c ∷ [])) w s
          h.1,
      append_assoc,
    )

-- those of a line of code are those of the trimmed line
pub record Trimmed (b raw : List ℕ) : Type 0 where
  pub left : List ℕ
  pub is_white : White left
  pub same : quoted_in b (begin Carry.Code) raw ≡ quoted_in (b ++ left) (begin Carry.Code) (trim raw)

pub quoted_trim : (b raw : List ℕ) → Trimmed b raw
quoted_trim b raw =
    let r = trim_split raw in
    record {
      left = r.0;
      is_white = r.2;
      same =
          ap (quoted_in b (begin Carry.Code)) r.4 ∙ quoted_before b r.0 (trim raw ++ r.1) r.2
          ∙ quoted_behind (b ++ r.0) (begin Carry.Code) (trim raw) r.1 r.3;
    }

-- ---- what is open after a line, without the white space at its ends

final_white : (t : Mark) (w : List ℕ) → White w → (final t w).mode ≡ t.mode
unfolding final
final_white t [] h = refl
final_white t (c ∷ w) h = final_white (next t (c ∷ w)) w h.1 ∙ sep_mode c (sep_white c h.0) t w

final_behind : (t : Mark) (s w : List ℕ) → White w → (final t (s ++ w)).mode ≡ (final t s).mode
unfolding final
final_behind t [] w h = final_white t w h
final_behind t (c ∷ s) w h =
    ap (λ (u : Mark). (final u (s ++ w)).mode) (next_ahead t (c ∷ s) w h) ∙ final_behind (next t (c ∷ s)) s w h

final_before : (w s : List ℕ) → White w → final (begin Carry.Code) (w ++ s) ≡ final (begin Carry.Code) s
unfolding final
final_before [] s h = refl
final_before (c ∷ w) s h = ap (λ (u : Mark). final u (w ++ s)) (blank_code c (w ++ s) h.0) ∙ final_before w s h.1

pub carry_trim : (raw : List ℕ) → carry_after Carry.Code (trim raw) ≡ carry_after Carry.Code raw
unfolding carry_after
carry_trim raw =
    let r = trim_split raw in
    sym (ap (λ (l : List ℕ). open_after (final (begin Carry.Code) l).mode) r.4
    ∙ ap (λ (t : Mark). open_after t.mode) (final_before r.0 (trim raw ++ r.1) r.2)
    ∙ ap open_after (final_behind (begin Carry.Code) (trim raw) r.1 r.3))
