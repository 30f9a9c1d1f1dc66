-- The exported contract of a call for the text kinds of a list of places.
use Rattle.std.specs.Prelude.{List, ◌≡◌, ℕ, length, replicate}
use Rattle.utf8.specs.Unicode.{decode}
use Rattle.text_kinds.specs.Places.{places_in, lines_classified, kinds_verdict, kinds_after, kinds_answer, kinds_left, kinds_of}
use Rattle.text_kinds.specs.declared.Kinds.{Kinds}

-- The answer r, the answer bytes, as many as were lent, and the scratch before and after the call: all zeros.
pub record KindsAnswered (source list : List ℕ) (room : ℕ) (before after : List ℕ) (r : Kinds)
    (kinds : List ℕ) : Type 0 where
  pub answer : r ≡ kinds_answer (kinds_after (kinds_verdict source list room (length before))
      (lines_classified (decode source) (places_in list)))
  pub answers : kinds ≡ kinds_left (kinds_verdict source list room (length before)) room (kinds_of source list)
  pub scratch : after ≡ replicate (length before) 0
