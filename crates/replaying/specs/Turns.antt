-- A turn: the lines of a window of the log, as many as a buffer has room for.
use Rattle.std.specs.Prelude.{◌≡◌, ℕ, ◌+◌, ◌-◌, ◌%◌, ◌^◌, ◌<◌, ◌≤◌, Bool, cond, List, [], ◌++◌, length, drop, nat_lt, Some, is_none, unwrap_or}
use Rattle.record.specs.declared.Config.{Config}
use Rattle.record.specs.declared.Mechanism.{Mechanism}
use Rattle.record.specs.declared.Port.{Port}
use Rattle.record.specs.Record.{port_of}
use Rattle.streaming.specs.Log.{Fields, starts, next, good, bad, rest, scan}
use Rattle.lines.specs.declared.Style.{Style}
use Rattle.lines.specs.Lines.{line_of, bad_line, last_line}
use Rattle.replaying.specs.declared.State.{State}
use Rattle.replaying.specs.declared.Stop.{Stop}
use Rattle.replaying.specs.declared.TurnEnd.{TurnEnd}
use Rattle.replaying.specs.Replay.{answer_to}

-- the least room for a line: more than any has
abbrev pub line_room : ℕ
line_room = 1024

-- ---- the state between two fields: the port, none while the configuration is due; the next event's number, the next field's offset

abbrev pub due : State → Bool
due q = is_none q.port

-- the port before the configuration has been read is never asked
abbrev blank : Config
blank =
    record {
      identity = record { clock = 0; port = 0 };
      sdo = 0;
      domain = 0;
      minor = 0;
      mechanism = Mechanism.EndToEnd;
      delay_interval = 0;
      sync_interval = 0;
      asymmetry = record { hi = 0; lo = 0 };
    }

abbrev pub port_in : State → Port
port_in q = unwrap_or q.port (port_of blank)

abbrev pub opened : State → Config → ℕ → State
opened q c n = record { port = Some (port_of c); number = q.number; offset = (q.offset + n) % 2 ^ 64 }

abbrev pub moved : State → Port → ℕ → State
moved q p n = record { port = Some p; number = (q.number + 1) % 2 ^ 64; offset = (q.offset + n) % 2 ^ 64 }

-- ---- a run over fields: what is written, how many bytes of the log it took, the state that is left, and why it stopped

pub record Run : Type 0 where
  pub bytes : List ℕ
  pub read : ℕ
  pub state : State
  pub stop : Stop

abbrev pub stopped : List ℕ → State → Stop → Run
stopped w q why = record { bytes = w; read = 0; state = q; stop = why }

-- behind what was written for a field of n bytes
abbrev pub after : List ℕ → ℕ → Run → Run
after w n r = record { bytes = w ++ r.bytes; read = n + r.read; state = r.state; stop = r.stop }

-- for want of room nothing is done; else the next field
abbrev pub if_room : ℕ → State → Run → Run
if_room room q r = cond (nat_lt room line_room) (stopped [] q Stop.Full) r

unfoldable pub run_of : Style → State → ℕ → Fields → Run
run_of style q room (starts c n l) = if_room room q (after [] n (run_of style (opened q c n) room l))
run_of style q room (next e n l) =
    if_room room q
    (after (line_of style q.number (answer_to (port_in q) e)) n
    (run_of style (moved q (answer_to (port_in q) e).port n) (room - length (line_of style q.number (answer_to (port_in q) e))) l))
run_of style q room good = if_room room q (stopped (last_line style (port_in q)) q Stop.Done)
run_of style q room (bad n) = if_room room q (stopped (bad_line q.offset) q Stop.Done)
run_of style q room (rest n f u) = if_room room q (stopped [] q Stop.More)

-- ---- the promise of a turn over the window s into the buffer d: the answer r, and what is left in the buffer

abbrev pub run_over : Style → State → List ℕ → Bool → ℕ → Run
run_over style q s last room = run_of style q room (scan last (due q) q.offset s)

abbrev pub turn_of : Run → TurnEnd
turn_of x = record { state = x.state; read = x.read; wrote = length x.bytes; stop = x.stop }

-- what was written, and behind it what lay there
abbrev pub paper_after : Run → List ℕ → List ℕ
paper_after x d = x.bytes ++ drop (length x.bytes) d

abbrev pub Turned : Style → State → List ℕ → Bool → List ℕ → TurnEnd → List ℕ → Type 0
Turned style q s last d r d' =
    (r ≡ turn_of (run_over style q s last (length d))) × (d' ≡ paper_after (run_over style q s last (length d)) d)

-- what a caller can go on with: places within the window and the buffer; and, where more is wanted, so little is left unread that a window of 1,049 bytes has room for more
pub record Leaves (window buffer : ℕ) (r : TurnEnd) : Type 0 where
  pub read : r.read ≤ window
  pub wrote : r.wrote ≤ buffer
  pub small : r.stop ≡ Stop.More → window - r.read < 1049
