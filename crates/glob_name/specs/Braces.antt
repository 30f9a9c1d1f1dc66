-- Kinds of which the braces and commas that stand for themselves are marked.
use Rattle.std.specs.Prelude.{ℕ, zero, suc, ◌+◌, ◌≤◌, Bool, false, not, List, [], ◌∷◌, ◌≡◌, length, get_or, Option, Some, None}
use Rattle.rules.specs.Basics.{choose, is_empty}
use Rattle.config_rules.specs.Name.{with_comma, outer, innermost}
use Rattle.glob_pass.specs.declared.kinds.Brace.{Brace}
use Rattle.glob_pass.specs.declared.kinds.Kind.{Kind}
use Rattle.glob_name.specs.declared.braces.Open.{Open}

abbrev pub right_event : Kind → Option Brace
right_event Kind.Plain = None
right_event Kind.Covered = None
right_event Kind.One = None
right_event Kind.Star = None
right_event Kind.Stars = None
right_event Kind.Set = None
right_event Kind.Range = None
right_event Kind.Escape = None
right_event Kind.Ahead = None
right_event Kind.LoneCloses = None
right_event Kind.LoneComma = None
right_event Kind.LoneOpens = None
right_event Kind.Closes = Some Brace.Opens
right_event Kind.Comma = Some Brace.Comma
right_event Kind.Opens = Some Brace.Closes

abbrev pub left_event : Kind → Option Brace
left_event Kind.Plain = None
left_event Kind.Covered = None
left_event Kind.One = None
left_event Kind.Star = None
left_event Kind.Stars = None
left_event Kind.Set = None
left_event Kind.Range = None
left_event Kind.Escape = None
left_event Kind.Ahead = None
left_event Kind.LoneCloses = None
left_event Kind.LoneComma = Some Brace.Comma
left_event Kind.LoneOpens = Some Brace.Opens
left_event Kind.Closes = Some Brace.Closes
left_event Kind.Comma = Some Brace.Comma
left_event Kind.Opens = Some Brace.Opens

abbrev pub lone_of : Kind → Kind
lone_of Kind.Plain = Kind.Plain
lone_of Kind.Covered = Kind.Covered
lone_of Kind.One = Kind.One
lone_of Kind.Star = Kind.Star
lone_of Kind.Stars = Kind.Stars
lone_of Kind.Set = Kind.Set
lone_of Kind.Range = Kind.Range
lone_of Kind.Escape = Kind.Escape
lone_of Kind.Ahead = Kind.Ahead
lone_of Kind.LoneCloses = Kind.LoneCloses
lone_of Kind.LoneComma = Kind.LoneComma
lone_of Kind.LoneOpens = Kind.LoneOpens
lone_of Kind.Closes = Kind.LoneCloses
lone_of Kind.Comma = Kind.LoneComma
lone_of Kind.Opens = Kind.LoneOpens

unfoldable pub marked : Kind → Bool → Kind
marked k lone = choose lone (lone_of k) k

-- the braces that are open after an event, the innermost first, and whether what happens is lone
unfoldable pub stack_after : Option Brace → List Bool → List Bool
stack_after None bs = bs
stack_after (Some Brace.Opens) bs = false ∷ bs
stack_after (Some Brace.Comma) bs = with_comma bs
stack_after (Some Brace.Closes) bs = outer bs

unfoldable pub is_lone : Option Brace → List Bool → Bool
is_lone None bs = false
is_lone (Some Brace.Opens) bs = false
is_lone (Some Brace.Comma) bs = is_empty bs
is_lone (Some Brace.Closes) bs = not (innermost bs)

unfoldable pub open_right : List Kind → List Bool
open_right [] = []
open_right (k ∷ ks) = stack_after (right_event k) (open_right ks)

unfoldable pub mark_right : List Kind → List Kind
mark_right [] = []
mark_right (k ∷ ks) = marked k (is_lone (right_event k) (open_right ks)) ∷ mark_right ks

unfoldable pub mark_left : List Bool → List Kind → List Kind
mark_left bs [] = []
mark_left bs (k ∷ ks) = marked k (is_lone (left_event k) bs) ∷ mark_left (stack_after (left_event k) bs) ks

-- the lowest flags, the newest first
unfoldable pub flagged : List Bool → ℕ → List Bool
flagged f zero = []
flagged f (suc n) = get_or f n false ∷ flagged f n

abbrev pub open_braces : Open → List Bool
open_braces o = flagged o.commas o.depth

pub record Happened (e : Option Brace) (o o' : Open) (r : Bool) : Type 0 where
  pub lone : r ≡ is_lone e (open_braces o)
  pub stack : open_braces o' ≡ stack_after e (open_braces o)
  pub deep : o'.depth ≤ o.depth + 1
  pub long : length o'.commas ≡ length o.commas
