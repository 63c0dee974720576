-- What is still to be written, turn by turn.
use Rattle.std.specs.Prelude.{◌≡◌, ℕ, ◌≤◌, Bool, true, List, [], ◌++◌, length, drop, refl}
use Rattle.std.proofs.Common.{sym, ◌∙◌}
use Rattle.lines.specs.declared.Style.{Style}
use Rattle.replaying.specs.declared.State.{State}
use Rattle.replaying.specs.declared.Stop.{Stop}
use Rattle.replaying.specs.Replay.{replay_lines}
use Rattle.replaying.specs.Turns.{port_in, Run, run_over}
use Rattle.replaying.specs.Sessions.{start_of}
use Rattle.replaying.specs.Owed.{Owed}
use Rattle.replaying.proofs.WritesLaws.{writes_lines}
use Rattle.replaying.proofs.SessionLaws.{By, window}

-- before the first byte all lines are
pub owed_first : (style : Style) (log : List ℕ) → Owed style start_of log (replay_lines style log)
unfolding start_of
owed_first style log =
    record { number = 1; offset = 0; tracks = record { number = refl; offset = refl }; lines = sym (writes_lines style (port_in start_of) log) }

-- behind a turn x over the window s, where t is all that follows it: those that it wrote, and then those of the rest, or it has written all
abbrev pub Left : Style → List ℕ → List ℕ → List ℕ → Run → Stop → Type 0
Left style s t v x Stop.Done = v ≡ x.bytes
Left style s t v x why = (u : List ℕ) × (v ≡ x.bytes ++ u) × (x.read ≤ length s) × Owed style x.state (drop x.read s ++ t) u

module _ (style : Style) (q : State) (s t v : List ℕ) (last : Bool) (room : ℕ) (closed : last ≡ true → t ≡ []) (o : Owed style q (s ++ t) v) where
  abbrev x : Run
  x = run_over style q s last room

  by : (why : Stop) → By style t last closed why q o.number o.offset s x → Left style s t v x why
  by Stop.Full (m, g, r, y) = (_, o.lines ∙ y, r, record { number = m; offset = _; tracks = g; lines = refl })
  by Stop.More (m, g, r, y) = (_, o.lines ∙ y, r, record { number = m; offset = _; tracks = g; lines = refl })
  by Stop.Done y = o.lines ∙ y

  pub owed_turn : Left style s t v x x.stop
  owed_turn = by x.stop (window style t last closed q o.number o.offset room s o.tracks)
