-- Bytes written into a lent buffer from a place on.
use Rattle.std.specs.Prelude.{ℕ, ◌+◌, ◌≡◌, List, length}
use Rattle.std.proofs.lemmas.List.Edits.{sets}

-- `after` is `before` with xs from `at` on, and `end` is the place after them
pub record Put (before after : List ℕ) (at end : ℕ) (xs : List ℕ) : Type 0 where
  pub ends : end ≡ at + length xs
  pub is : after ≡ sets before at xs
