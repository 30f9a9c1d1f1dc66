-- C-21's laws of a source that has a text: striking brackets and white space from both leaves the same characters.
use Prim.Native.Nat.{ℕ}
use mathlib.Core.List.{List, [], ◌∷◌, ◌++◌, reverse, reverse-cons, reverse-reverse, append_assoc, append-nil}
use mathlib.Core.Path.{◌≡◌, refl, ap, sym, ◌∙◌, subst}
use Rattle.utf8.specs.Unicode.{is_white, encode, decode}
use Rattle.utf8.proofs.Decode.{decode_ascii}
use Rattle.rules.specs.Basics.{codes, keep}
use Rattle.rules.proofs.Struck.{keep_append}
use Rattle.group_rules.specs.Expression.{max_depth, Token, operator, closer, Reading, read, refused_at, reading}
use Rattle.group_rules.specs.Grouping.{Tree, operand, signed, bracketed, operation, tree_of, written, Grouping, text, no_text, grouping_of, grouping}
use Rattle.group_rules.specs.Promises.{is_bare, strike_brackets, Groups}
use Rattle.group_rules.proofs.TokenLaws.{tokens_of, tokens_tree}
use Rattle.group_rules.proofs.ReadingLaws.{chars, bare, Whole, WholeOf, whole}
use Rattle.group_rules.specs.Passes.{coded, opened_text, closed_text}
use Rattle.group_rules.proofs.PlainLaws.{AllPlain}
use Rattle.group_rules.proofs.SpelledLaws.{AllSpelled, spelled_reverse, all_plain}
use Rattle.group_rules.proofs.GroupedLaws.{grouped}
use Rattle.group_rules.proofs.PassLaws.{plain_tree, passes}
use Rattle.group_rules.proofs.SameLaws.{same_tree}
use Rattle.group_rules.proofs.SplitLaws.{splits_alike}
use Rattle.group_rules.proofs.ByteLaws.{written_ascii, text_encode}

-- the characters of tokens in their order
unfoldable pub chars_in : List Token → List ℕ
chars_in [] = []
chars_in (t ∷ ts) = chars t ++ chars_in ts

pub chars_in_append : (a b : List Token) → chars_in (a ++ b) ≡ chars_in a ++ chars_in b
unfolding chars_in
chars_in_append [] b = refl
chars_in_append (t ∷ a) b = ap (λ l. chars t ++ l) (chars_in_append a b) ∙ sym (append_assoc (chars t) (chars_in a) (chars_in b))

chars_in_bare : (ts : List Token) → chars_in (reverse ts) ≡ bare ts
unfolding chars_in bare
chars_in_bare [] = refl
chars_in_bare (t ∷ ts) =
    ap chars_in (reverse-cons t ts) ∙ chars_in_append (reverse ts) (t ∷ [])
    ∙ ap (λ l. l ++ (chars t ++ [])) (chars_in_bare ts) ∙ ap (λ l. bare ts ++ l) (append-nil (chars t))

strike_append : (a b : List ℕ) → strike_brackets (a ++ b) ≡ strike_brackets a ++ strike_brackets b
unfolding strike_brackets
strike_append a b = keep_append is_bare a b

no_paren : strike_brackets (codes "(") ≡ []
unfolding strike_brackets keep is_white
no_paren = refl

no_close : strike_brackets (codes ")") ≡ []
unfolding strike_brackets keep is_white
no_close = refl

no_space : strike_brackets (codes " ") ≡ []
unfolding strike_brackets keep is_white
no_space = refl

strike_written : (e : Tree) → strike_brackets (written e) ≡ strike_brackets (chars_in (tokens_of e))
unfolding written tokens_of chars_in
strike_written (operand w) = ap strike_brackets (sym (append-nil w))
strike_written (signed c e) =
    strike_append (c ∷ []) (written e) ∙ ap (λ l. strike_brackets (c ∷ []) ++ l) (strike_written e) ∙ sym (strike_append (c ∷ []) (chars_in (tokens_of e)))
strike_written (bracketed e) = strike_written e ∙ ap strike_brackets (sym (chars_in_append (tokens_of e) (closer ∷ []) ∙ append-nil (chars_in (tokens_of e))))
strike_written (operation op l r) =
    strike_append (codes "(") (written l ++ (codes " " ++ (op ++ (codes " " ++ (written r ++ codes ")")))))
    ∙ ap (λ x. x ++ strike_brackets (written l ++ (codes " " ++ (op ++ (codes " " ++ (written r ++ codes ")")))))) no_paren
    ∙ strike_append (written l) (codes " " ++ (op ++ (codes " " ++ (written r ++ codes ")"))))
    ∙ ap (λ x. x ++ strike_brackets (codes " " ++ (op ++ (codes " " ++ (written r ++ codes ")"))))) (strike_written l)
    ∙ ap (λ x. strike_brackets (chars_in (tokens_of l)) ++ x) (inner (strike_written r))
    ∙ sym (ap strike_brackets (chars_in_append (tokens_of l) (operator op ∷ tokens_of r)) ∙ strike_append (chars_in (tokens_of l)) (op ++ chars_in (tokens_of r))
    ∙ ap (λ x. strike_brackets (chars_in (tokens_of l)) ++ x) (strike_append op (chars_in (tokens_of r))))
  where
    inner : strike_brackets (written r) ≡ strike_brackets (chars_in (tokens_of r)) → strike_brackets (codes " " ++ (op ++ (codes " " ++ (written r ++ codes ")")))) ≡ strike_brackets op ++ strike_brackets (chars_in (tokens_of r))
    inner h =
        strike_append (codes " ") (op ++ (codes " " ++ (written r ++ codes ")")))
        ∙ ap (λ x. x ++ strike_brackets (op ++ (codes " " ++ (written r ++ codes ")")))) no_space
        ∙ strike_append op (codes " " ++ (written r ++ codes ")"))
        ∙ ap (λ x. strike_brackets op ++ x)
        (strike_append (codes " ") (written r ++ codes ")") ∙ ap (λ x. x ++ strike_brackets (written r ++ codes ")")) no_space
        ∙ strike_append (written r) (codes ")") ∙ ap (λ x. strike_brackets (written r) ++ x) no_close ∙ append-nil (strike_brackets (written r)) ∙ h)

-- ---- a source that has a text

abbrev pub Struck : List ℕ → Grouping → Type 0
Struck source (text t) = strike_brackets t ≡ strike_brackets source
Struck source (no_text n p) = Unit {0}

struck_of : (source : List ℕ) (r : Reading) → WholeOf source r → Struck source (grouping_of r)
unfolding grouping_of
struck_of source (read ts) w =
    strike_written (tree_of ts)
    ∙ ap (λ us. strike_brackets (chars_in (tokens_of (tree_of us)))) (sym (reverse-reverse ts))
    ∙ ap (λ us. strike_brackets (chars_in us)) (tokens_tree (reverse ts) w.good)
    ∙ ap strike_brackets (chars_in_bare (reverse ts))
    ∙ sym w.struck
struck_of source (refused_at n p) w = tt

pub struck : (source : List ℕ) → Struck source (grouping source)
unfolding grouping
struck source = struck_of source (reading source) (whole source)

-- ---- the two passes over the codes of a source's tokens write its text

whole_tokens : (source : List ℕ) (ts : List Token) → Whole source ts → tokens_of (tree_of ts) ≡ ts
whole_tokens source ts w = rw reverse-reverse at (tokens_tree (reverse ts) w.good)

whole_spelled : (source : List ℕ) (ts : List Token) → Whole source ts → AllSpelled ts
whole_spelled source ts w = rw reverse-reverse at (spelled_reverse (reverse ts) w.spelled)

passes_of : (source : List ℕ) (ts : List Token) → Whole source ts → closed_text (opened_text (coded ts)) ≡ written (tree_of ts)
passes_of source ts w =
    ap (λ us. closed_text (opened_text (coded us))) (sym (whole_tokens source ts w))
    ∙ passes (tree_of ts) (grouped ts) (plain_tree (tree_of ts) (subst AllPlain (sym (whole_tokens source ts w)) (all_plain ts (whole_spelled source ts w))))

pub text_of : (source : List ℕ) (ts : List Token) → reading source ≡ read ts → closed_text (opened_text (coded ts)) ≡ written (tree_of ts)
text_of source ts e = passes_of source ts (subst (WholeOf source) e (whole source))

spelled_tree : (source : List ℕ) (ts : List Token) → Whole source ts → AllSpelled (tokens_of (tree_of ts))
spelled_tree source ts w = subst AllSpelled (sym (whole_tokens source ts w)) (whole_spelled source ts w)

-- the text is its own UTF-8
pub text_bytes : (source : List ℕ) (ts : List Token) → reading source ≡ read ts → encode (written (tree_of ts)) ≡ written (tree_of ts)
text_bytes source ts e = text_encode (tree_of ts) (spelled_tree source ts (subst (WholeOf source) e (whole source)))

pub text_decode : (source : List ℕ) (ts : List Token) → reading source ≡ read ts → decode (written (tree_of ts)) ≡ written (tree_of ts)
text_decode source ts e = decode_ascii (written (tree_of ts)) (written_ascii (tree_of ts) (spelled_tree source ts (subst (WholeOf source) e (whole source))))

-- ---- what an accepted source promises

pub groups : (source : List ℕ) (ts : List Token) → reading source ≡ read ts → Groups source (written (tree_of ts))
unfolding grouping_of
groups source ts e =
    record {
      tokens = ts;
      is = e;
      shown = refl;
      struck = subst (λ r. Struck source (grouping_of r)) e (struck_of source (reading source) (whole source));
      grouped = grouped ts;
      same = same_tree (tree_of ts) (spelled_tree source ts (subst (WholeOf source) e (whole source)));
      splits = splits_alike max_depth source ts e;
    }
