-- What is settled stays: after each line it is a beginning of what is settled later, and of the finished text.
use Prim.Native.Nat.{ℕ}
use mathlib.Core.Bool.{Bool, true, true≢false}
use mathlib.Core.List.{List, [], ◌∷◌, ◌++◌, reverse_aux, append_assoc, append-nil}
use mathlib.Core.Path.{◌≡◌, refl, sym, ap, ◌∙◌}
use Rattle.utf8.specs.Unicode.{trim, trim_end}
use Rattle.utf8.proofs.Trim.{White, trim_none, trim_empty, end_none, end_twice}
use Rattle.utf8.proofs.Tests.{and_left, and_right}
use Rattle.rules.specs.Basics.{is, is_empty, last_is}
use Rattle.rules.specs.Options.{Options}
use Rattle.rules.specs.Else.{is_plain_else, joinable, can_join, join_else}
use Rattle.rules.specs.Line.{Formatter, format_line, any_line, kept_line, blank_line, code_line, spaced_line, else_line, placed_line, laid, lines_before, drop_blank}
use Rattle.rules.specs.Assembly.{joined, drop_empty, finish, format_lines}
use Rattle.rules.proofs.Choose.{choose_case, choose_true}
use Rattle.check_rules.specs.Check.{settled_lines, closed, settled}

-- b is a, with more behind it; lines stand newest first, so there more stands in front
pub record Begins (a b : List ℕ) : Type 0 where
  pub more : List ℕ
  pub is : b ≡ a ++ more

pub record Extends (a b : List (List ℕ)) : Type 0 where
  pub more : List (List ℕ)
  pub is : b ≡ more ++ a

pub begins_refl : (a : List ℕ) → Begins a a
begins_refl a = record { more = []; is = sym (append-nil a) }

pub begins_trans : (a b c : List ℕ) → Begins a b → Begins b c → Begins a c
begins_trans a b c p q = record { more = p.more ++ q.more; is = q.is ∙ rw (p.is, append_assoc) }

extends_refl : (a : List (List ℕ)) → Extends a a
extends_refl a = record { more = []; is = refl }

extends_eq : (a b : List (List ℕ)) → b ≡ a → Extends a b
extends_eq a b e = record { more = []; is = e }

pub extends_trans : (a b c : List (List ℕ)) → Extends a b → Extends b c → Extends a c
extends_trans a b c p q = record { more = q.more ++ p.more; is = q.is ∙ rw (p.is, append_assoc) }

-- ---- white lines

white_empty : (l : List ℕ) → is_empty (trim l) ≡ true → White l
white_empty l h = trim_empty l (none (trim l) h)
  where
    none : (x : List ℕ) → is_empty x ≡ true → x ≡ []
    none [] h = refl
    none (c ∷ x) h = absurd (true≢false (sym h))

white_left : (a b : List ℕ) → White (a ++ b) → White a
white_left [] b w = tt
white_left (c ∷ a) b w = (w.0, white_left a b w.1)

brace_solid : (l : List ℕ) → last_is (is "}") (trim_end l) ≡ true → White l → ⊥
unfolding last_is
brace_solid l h w = true≢false (sym (rw (end_none l w) at h))

joinable_brace : (l : List ℕ) → joinable l ≡ true → last_is (is "}") (trim_end l) ≡ true
unfolding joinable
joinable_brace l h = and_left (last_is (is "}") (trim_end l)) _ h

-- ---- settled lines

-- they are lines that stand below the newest
settled_below : (l : List ℕ) (ls : List (List ℕ)) → Extends (settled_lines ls) ls → Extends (settled_lines (l ∷ ls)) ls
unfolding settled_lines
settled_below l ls e = choose_case (λ (a : List (List ℕ)). Extends a ls) (λ h. e) (λ h. extends_refl ls)

cons_extends : (l : List ℕ) (a ls : List (List ℕ)) → Extends a ls → Extends a (l ∷ ls)
cons_extends l a ls e = record { more = l ∷ e.more; is = ap (λ (x : List (List ℕ)). l ∷ x) e.is }

pub settled_part : (ls : List (List ℕ)) → Extends (settled_lines ls) ls
settled_part [] = unfold settled_lines in extends_refl []
settled_part (l ∷ ls) = cons_extends l (settled_lines (l ∷ ls)) ls (settled_below l ls (settled_part ls))

pub settled_push : (l : List ℕ) (ls : List (List ℕ)) → Extends (settled_lines ls) (settled_lines (l ∷ ls))
unfolding settled_lines
settled_push l ls = choose_case (λ (a : List (List ℕ)). Extends (settled_lines ls) a) (λ h. extends_refl (settled_lines ls)) (λ h. settled_part ls)

pub settled_pushes : (new ls : List (List ℕ)) → Extends (settled_lines ls) (settled_lines (reverse_aux new ls))
settled_pushes [] ls = extends_refl (settled_lines ls)
settled_pushes (l ∷ new) ls = extends_trans _ _ _ (settled_push l ls) (settled_pushes new (l ∷ ls))

pub settled_white : (l : List ℕ) (ls : List (List ℕ)) → White l → settled_lines (l ∷ ls) ≡ settled_lines ls
unfolding settled_lines
settled_white l ls w = choose_true _ _ _ (ap is_empty (trim_none l w))

pub settled_solid : (l : List ℕ) (ls : List (List ℕ)) → (White l → ⊥) → settled_lines (l ∷ ls) ≡ ls
unfolding settled_lines
settled_solid l ls n = choose_case (λ (a : List (List ℕ)). a ≡ ls) (λ h. absurd (n (white_empty l h))) (λ h. refl)

pub settled_drop : (ls : List (List ℕ)) → settled_lines (drop_blank ls) ≡ settled_lines ls
unfolding drop_blank
settled_drop [] = refl
settled_drop ([] ∷ ls) = sym (settled_white [] ls tt)
settled_drop ((c ∷ cs) ∷ ls) = refl

pub settled_drop_empty : (ls : List (List ℕ)) → settled_lines (drop_empty ls) ≡ settled_lines ls
unfolding drop_empty
settled_drop_empty [] = refl
settled_drop_empty ([] ∷ ls) = settled_drop_empty ls ∙ sym (settled_white [] ls tt)
settled_drop_empty ((c ∷ cs) ∷ ls) = refl

-- an else lengthens a line that is not settled
pub settled_join : (line : List ℕ) (ls : List (List ℕ)) → can_join ls ≡ true → settled_lines (join_else line ls) ≡ settled_lines ls
unfolding can_join join_else
settled_join line [] h = absurd (true≢false (sym h))
settled_join line (l ∷ ls) h =
    let e : last_is (is "}") (trim_end l) ≡ true = joinable_brace l h in
    settled_solid _ ls (λ w. brace_solid (trim_end l) (rw end_twice e) (white_left (trim_end l) _ w)) ∙ sym (settled_solid l ls (brace_solid l e))

-- ---- a line

unfoldable pub Keeps : Formatter → Formatter → Type 0
Keeps f g = Extends (settled_lines f.lines) (settled_lines g.lines)

line_kept : (f : Formatter) (shown raw : List ℕ) → Keeps f (kept_line f shown raw)
unfolding Keeps kept_line
line_kept f shown raw = settled_push shown f.lines

line_blank : (f : Formatter) → Keeps f (blank_line f)
unfolding Keeps blank_line
line_blank f = choose_case (Keeps f) (λ h. extends_refl _) (λ h. settled_push [] f.lines)

line_else : (f : Formatter) (line : List ℕ) → can_join f.lines ≡ true → Keeps f (else_line f line)
unfolding Keeps else_line
line_else f line h = extends_eq _ _ (settled_join line f.lines h)

settled_before : (f : Formatter) (line : List ℕ) → settled_lines (lines_before f line) ≡ settled_lines f.lines
unfolding lines_before
settled_before f line = choose_case (λ (ls : List (List ℕ)). settled_lines ls ≡ settled_lines f.lines) (λ h. settled_drop f.lines) (λ h. refl)

line_placed : (o : Options) (f : Formatter) (marker : Bool) (line : List ℕ) → Keeps f (placed_line o f marker line)
unfolding Keeps placed_line
line_placed o f marker line =
    extends_trans _ (settled_lines (lines_before f line)) _ (extends_eq _ _ (settled_before f line)) (settled_pushes (laid o f marker line).lines (lines_before f line))

line_spaced : (o : Options) (f : Formatter) (marker : Bool) (line : List ℕ) → Keeps f (spaced_line o f marker line)
unfolding spaced_line
line_spaced o f marker line = choose_case (Keeps f) (λ h. line_else f line (and_right (is_plain_else line) (can_join f.lines) h)) (λ h. line_placed o f marker line)

line_code : (o : Options) (f : Formatter) (raw : List ℕ) → Keeps f (code_line o f raw)
unfolding code_line
line_code o f raw = choose_case (Keeps f) (λ h. line_kept f raw raw) (λ h. line_spaced o f _ _)

line_any : (o : Options) (f : Formatter) (raw : List ℕ) → Keeps f (any_line o f raw)
unfolding any_line
line_any o f raw =
    choose_case (Keeps f) (λ h. line_kept f raw raw)
    (λ h. choose_case (Keeps f) (λ k. choose_case (Keeps f) (λ j. line_blank f) (λ j. line_code o f raw)) (λ k. line_kept f _ raw))

pub line_keeps : (o : Options) (f : Formatter) (raw : List ℕ) → Keeps f (format_line o f raw)
unfolding format_line Keeps
line_keeps o f raw = line_any o f raw

lines_keep : (o : Options) (raws : List (List ℕ)) (f : Formatter) → Keeps f (format_lines o raws f)
unfolding format_lines Keeps
lines_keep o [] f = extends_refl _
lines_keep o (raw ∷ raws) f = extends_trans _ _ _ (line_keeps o f raw) (lines_keep o raws (format_line o f raw))

-- ---- the text

closed_append : (eol : List ℕ) (m ls : List (List ℕ)) → closed eol (m ++ ls) ≡ closed eol ls ++ closed eol m
unfolding closed
closed_append eol [] ls = sym (append-nil _)
closed_append eol (l ∷ m) ls = rw (closed_append eol m ls, append_assoc)

closed_begins : (eol : List ℕ) (a b : List (List ℕ)) → Extends a b → Begins (closed eol a) (closed eol b)
closed_begins eol a b e = record { more = closed eol e.more; is = ap (closed eol) e.is ∙ closed_append eol e.more a }

pub joined_closed : (eol l : List ℕ) (ls : List (List ℕ)) → joined eol (l ∷ ls) ≡ closed eol ls ++ l
unfolding joined closed
joined_closed eol l [] = refl
joined_closed eol l (m ∷ ls) = rw (joined_closed eol m ls) (simp append_assoc)

pub joined_begins : (eol : List ℕ) (ls : List (List ℕ)) → Begins (closed eol (settled_lines ls)) (joined eol ls)
joined_begins eol [] = unfold settled_lines in unfold closed in unfold joined in begins_refl []
joined_begins eol (l ∷ ls) =
    begins_trans _ _ _ (closed_begins eol _ ls (settled_below l ls (settled_part ls))) (record { more = l; is = joined_closed eol l ls })

pub finish_begins : (o : Options) (source eol : List ℕ) (f : Formatter) → Begins (settled eol f) (finish o source eol f).text
unfolding finish
finish_begins o source eol f =
    begins_trans _ _ _ (rw (settled_drop_empty f.lines) at (joined_begins eol (drop_empty f.lines))) (record { more = _; is = refl })

-- what is settled before some lines is a beginning of the finished text after them
pub settled_begins : (o : Options) (source eol : List ℕ) (raws : List (List ℕ)) (f : Formatter)
    → Begins (settled eol f) (finish o source eol (format_lines o raws f)).text
unfolding Keeps
settled_begins o source eol raws f =
    begins_trans _ _ _ (closed_begins eol _ _ (lines_keep o raws f)) (finish_begins o source eol (format_lines o raws f))
