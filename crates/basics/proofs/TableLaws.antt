-- A table with an entry for each byte, of which one value says no, is held against a test at each byte, by computing.
use Rattle.std.proofs.Common.{◌≡◌, ℕ, ◌<◌, Bool, not, nat_eq, get_or, List, true}
use Rattle.std.proofs.lemmas.Bool.{agree_below, agree_below_at}

pub told : (table : List ℕ) (hole : ℕ) (test : ℕ → Bool) (c : ℕ) → c < 256
    → agree_below (λ k. not (nat_eq (get_or table k 0) hole)) test 256 ≡ true
    → not (nat_eq (get_or table c 0) hole) ≡ test c
told table hole test c lt h = agree_below_at (λ k. not (nat_eq (get_or table k 0) hole)) test 256 c h lt
