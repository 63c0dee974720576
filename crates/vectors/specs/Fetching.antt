-- A record that is not read to its end, since a read failed.
use Rattle.std.specs.Prelude.{ℕ, ◌≤◌, ◌<◌, ◌≡◌, List, ◌++◌, length, take}
use Rattle.std.specs.declared.option.Option.{Option}
use Rattle.std.specs.Io.KnownBytes.{Consumes}

-- What came are the record's three lengths, cut short or whole, and then the front of the window, and no byte is lost. The window w is as it was where
-- the lengths are cut short.
pub record Broken (old new : Option (List ℕ)) (w w' : List ℕ) : Type 0 where
  pub head : List ℕ
  pub count : ℕ
  pub came : Consumes old new (head ++ take count w')
  pub lengths : length head ≤ 12
  pub room : count ≤ length w'
  pub untouched : length head < 12 → (count ≡ 0) × (w' ≡ w)
