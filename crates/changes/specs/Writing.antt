-- How changes get into a list.
use Rattle.std.specs.Prelude.{ℕ, ◌+◌, ◌*◌, ◌≤◌, ◌<◌, ◌^◌, List, [], ◌∷◌, ◌++◌, ◌≡◌, length, take}
use Rattle.utf8.specs.Unicode.{decode}
use Rattle.buffer.specs.Buffer.{put}
use Rattle.gaps.specs.Gaps.{GapEnd}
use Rattle.changes.specs.Changes.{changes, numbers}
use Rattle.changes.specs.declared.Change.{Change}

-- the list x, of which n entries are in use, has the change c as its next entry, where there is room for it
pub record Noted (x x' : List ℕ) (n : ℕ) (c : Change) : Type 0 where
  pub long : length x' ≡ length x
  pub fits : n * 4 + 4 ≤ length x → x' ≡ put x (n * 4) (numbers (c ∷ []))

-- c is of a gap of the source and the gap of the text that stands for it
pub record GapPair (source text : List ℕ) (n : ℕ) (c : Change) : Type 0 where
  pub few : n < 2 ^ 61
  pub gap_source : GapEnd source c.at (c.at + c.removed)
  pub gap_text : GapEnd text c.from (c.from + c.put)

-- the list x, of which n entries are in use, has the changes cs as its next, if there is room; r are then in use
pub record NotedGap (x x' : List ℕ) (n : ℕ) (cs : List Change) (r : ℕ) : Type 0 where
  pub count : r ≡ n + length cs
  pub most : r ≤ n + 1
  pub long : length x' ≡ length x
  pub front : r * 4 ≤ length x → take (r * 4) x' ≡ take (n * 4) x ++ numbers cs

-- x' is x, with the changes written over its front, if they fit; r is their number
pub record Written (source text x x' : List ℕ) (r : ℕ) : Type 0 where
  pub count : r ≡ length (changes (decode source) (decode text))
  pub few : r ≤ 2 ^ 60
  pub long : length x' ≡ length x
  pub front : r * 4 ≤ length x → take (r * 4) x' ≡ numbers (changes (decode source) (decode text))
