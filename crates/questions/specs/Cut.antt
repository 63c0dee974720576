-- A record that is not whole, since the input ended or a read failed.
use Rattle.std.specs.Prelude.{ℕ, ◌<◌, List, length}
use Rattle.std.specs.declared.option.Option.{Option}
use Rattle.std.specs.Io.KnownBytes.{Consumes}

-- Fewer than n bytes came, and the reader lost these and no others.
pub record CutShort (old new : Option (List ℕ)) (n : ℕ) : Type 0 where
  pub came : List ℕ
  pub few : length came < n
  pub lost : Consumes old new came
