-- A session: turn after turn over windows of any size, until nothing more is to come. Whatever the pieces in which the log comes, and whatever room the buffer has in each turn, what is written is what `Replay` says.
use Rattle.std.specs.Prelude.{◌≡◌, ℕ, ◌+◌, ◌<◌, ◌≤◌, Bool, true, false, cond, List, [], ◌∷◌, ◌++◌, length, drop, None, Option, Some}
use Rattle.streaming.specs.Streaming.{joined}
use Rattle.lines.specs.declared.Style.{Style}
use Rattle.replaying.specs.declared.State.{State}
use Rattle.replaying.specs.declared.Stop.{Stop}
use Rattle.replaying.specs.Replay.{replay_lines}
use Rattle.replaying.specs.Turns.{line_room, Run, run_over}

-- the configuration is due, events are numbered from 1 and offsets counted from 0
unfoldable pub start_of : State
start_of = record { port = None; number = 1; offset = 0 }

-- what was written, and behind it what is still written
abbrev pub ahead : List ℕ → Option (List ℕ) → Option (List ℕ)
ahead w None = None
ahead w (Some v) = Some (w ++ v)

-- after a turn over the window u. Where it wants more, the next piece is read behind what was left unread; where no piece is left, nothing follows
abbrev pub goes_on : Stop → Run → List ℕ → Bool → List (List ℕ) → (State → List ℕ → Bool → List (List ℕ) → Option (List ℕ)) → Option (List ℕ)
goes_on Stop.Full x u last ps go = ahead x.bytes (go x.state (drop x.read u) last ps)
goes_on Stop.More x u last (p ∷ ps) go = ahead x.bytes (go x.state (drop x.read u ++ p) false ps)
goes_on Stop.More x u last [] go = ahead x.bytes (go x.state (drop x.read u) true [])
goes_on Stop.Done x u last ps go = Some x.bytes

-- The window holds u, the pieces ps are still to come, and `last` says that none is. Each turn has so much room as the list says; if that runs out before the log does, nothing is said
unfoldable pub session : Style → List ℕ → State → List ℕ → Bool → List (List ℕ) → Option (List ℕ)
session style [] q u last ps = None
session style (room ∷ rooms) q u last ps =
    goes_on (run_over style q u last room).stop (run_over style q u last room) u last ps (session style rooms)

-- the theorem `session_writes` of `SessionLaws`: a session that comes to an end has written the lines of the whole log
abbrev pub WritesTheLines : Style → List ℕ → List (List ℕ) → List ℕ → Type 0
WritesTheLines style rooms ps w = session style rooms start_of [] false ps ≡ Some w → w ≡ replay_lines style (joined ps)

-- and `session_ends` of `EndsLaws`: it does come to an end, if each turn has room for a line and there are more turns than bytes and pieces to come
abbrev pub Roomy : List ℕ → Type 0
Roomy [] = Unit {0}
Roomy (room ∷ rooms) = (line_room ≤ room) × Roomy rooms

abbrev pub turns_for : List ℕ → Bool → List (List ℕ) → ℕ
turns_for u last ps = length u + (length (joined ps) + (length ps + cond {A = ℕ} last 0 1))

abbrev pub WritesAll : Style → List ℕ → List (List ℕ) → Type 0
WritesAll style rooms ps =
    Roomy rooms → turns_for [] false ps < length rooms → session style rooms start_of [] false ps ≡ Some (replay_lines style (joined ps))
