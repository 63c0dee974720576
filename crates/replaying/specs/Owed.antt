-- What is still to be written, from a state between two fields on.
use Rattle.std.specs.Prelude.{◌≡◌, ℕ, List, true}
use Rattle.streaming.specs.Log.{scan}
use Rattle.lines.specs.declared.Style.{Style}
use Rattle.replaying.specs.declared.State.{State}
use Rattle.replaying.specs.Turns.{due, port_in}
use Rattle.replaying.specs.WritesLaws.{writes}
use Rattle.replaying.specs.SessionLaws.{Tracks}

-- v are the lines from the state q on, of a log that goes on with the bytes s and then ends
pub record Owed (style : Style) (q : State) (s v : List ℕ) : Type 0 where
  pub number : ℕ
  pub offset : ℕ
  pub tracks : Tracks q number offset
  pub lines : v ≡ writes style (port_in q) number (scan true (due q) offset s)
