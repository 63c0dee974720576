-- What the laws of proofs/RunLaws.antt speak of.
use Rattle.std.specs.Prelude.{◌≡◌, ℕ, ◌-◌, ◌<◌, ◌≤◌, Bool, List, [], length, drop}
use Rattle.record.specs.declared.Config.{Config}
use Rattle.rules.specs.Events.{Event}
use Rattle.event_log.specs.Told.{Next}
use Rattle.event_log.specs.Fields.{front_of}
use Rattle.lines.specs.declared.Style.{Style}
use Rattle.lines.specs.Lines.{line_of, bad_line, last_line}
use Rattle.replaying.specs.declared.State.{State}
use Rattle.replaying.specs.declared.Stop.{Stop}
use Rattle.replaying.specs.Replay.{answer_to}
use Rattle.replaying.specs.Turns.{line_room, due, port_in, opened, moved, Run, stopped, after}

-- P is said of a run from the state q, with so much room, over the window s
pub record Steps (style : Style) (last : Bool) (P : State → ℕ → List ℕ → Run → Type 0) : Type 0 where
  pub full : (q : State) (room : ℕ) (s : List ℕ) → room < line_room → P q room s (stopped [] q Stop.Full)
  pub config : (q : State) (room : ℕ) (s : List ℕ) (c : Config) → front_of (due q) s last ≡ Next.Config c → 36 ≤ length s
      → (x : Run) → P (opened q c 36) room (drop 36 s) x → P q room s (after [] 36 x)
  pub event : (q : State) (room : ℕ) (s : List ℕ) (e : Event) (k : ℕ) → front_of (due q) s last ≡ Next.Event e k → 3 ≤ k → k ≤ length s
      → (x : Run) → P (moved q (answer_to (port_in q) e).port k) (room - length (line_of style q.number (answer_to (port_in q) e))) (drop k s) x
      → P q room s (after (line_of style q.number (answer_to (port_in q) e)) k x)
  pub more : (q : State) (room : ℕ) (s : List ℕ) → front_of (due q) s last ≡ Next.More → P q room s (stopped [] q Stop.More)
  pub good_end : (q : State) (room : ℕ) (s : List ℕ) → front_of (due q) s last ≡ Next.End → P q room s (stopped (last_line style (port_in q)) q Stop.Done)
  pub bad_end : (q : State) (room : ℕ) (s : List ℕ) → front_of (due q) s last ≡ Next.Bad → P q room s (stopped (bad_line q.offset) q Stop.Done)
