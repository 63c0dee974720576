-- What the laws of proofs/StandsLaws.antt speak of.
use Rattle.std.specs.Prelude.{ℕ, ◌≡◌, List, ◌++◌, length}

-- l stands in f from the place `at` on
pub record Stands (f : List ℕ) (at : ℕ) (l : List ℕ) : Type 0 where
  pub before : List ℕ
  pub behind : List ℕ
  pub whole : f ≡ before ++ (l ++ behind)
  pub place : length before ≡ at
