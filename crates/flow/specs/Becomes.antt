-- What becomes of a flow between two turns: behind a turn, with its unread bytes at the front, and behind a read.
use Rattle.std.specs.Prelude.{ℕ, zero, suc, ◌+◌, ◌-◌, min, true, false, Result, Ok, Err, ⊤}
use Rattle.replaying.specs.declared.State.{State}
use Rattle.replaying.specs.declared.Stop.{Stop}
use Rattle.replaying.specs.declared.TurnEnd.{TurnEnd}
use Rattle.flow.specs.declared.Flow.{Flow}
use Rattle.flow.specs.declared.Then.{Then}

-- before anything was read
abbrev pub begun : State → Flow
begun q = record { state = q; start = 0; have = 0; last = false }

-- behind what a turn read
abbrev pub behind : Flow → TurnEnd → Flow
behind f t = record { state = t.state; start = f.start + t.read; have = f.have; last = f.last }

-- by why the turn ended: for want of room it comes again, for want of bytes there is a read first, and else it was the last
abbrev pub onwards : Flow → TurnEnd → Stop → Then
onwards f t Stop.Full = Then.Turns (behind f t)
onwards f t Stop.More = Then.Reads (behind f t)
onwards f t Stop.Done = Then.Ends

-- lines that could not be written end it with what went wrong
unfoldable pub after_of : {E : Type 0} → Flow → TurnEnd → Result ⊤ E → Result Then E
after_of f t (Ok _) = Ok (onwards f t t.stop)
after_of f t (Err e) = Err e

-- the unread bytes at the front of the window
abbrev pub front_of : Flow → Flow
front_of f = record { state = f.state; start = 0; have = f.have - f.start; last = f.last }

-- nothing follows
abbrev pub ended : Flow → Flow
ended f = record { state = f.state; start = f.start; have = f.have; last = true }

-- k bytes more
abbrev pub grown : Flow → ℕ → Flow
grown f k = record { state = f.state; start = f.start; have = f.have + k; last = f.last }

-- a read failed, met the end, or brought bytes, of which there are no more than it had room for
unfoldable pub came_of : {E : Type 0} → Flow → Result ℕ E → ℕ → Result Flow E
came_of f (Err e) room = Err e
came_of f (Ok zero) room = Ok (ended f)
came_of f (Ok (suc n)) room = Ok (grown f (min (suc n) room))
