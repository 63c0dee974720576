-- What holds between two turns of a program: the unread bytes lie in the window, and `flow` says what comes next.
use Rattle.std.specs.Prelude.{ℕ, ◌+◌, ◌-◌, ◌^◌, ◌≤◌, ◌≡◌, List, length, take, drop, Option, Some, None, Result, Ok, Err, ⊤}
use Rattle.std.specs.declared.io.Error.{Error}
use Rattle.lines.specs.declared.Style.{Style}
use Rattle.replaying.specs.declared.TurnEnd.{TurnEnd}
use Rattle.replaying.specs.Turns.{Turned}
use Rattle.replaying.specs.Sessions.{start_of}
use Rattle.flow.specs.declared.Flow.{Flow}
use Rattle.flow.specs.declared.Then.{Then}
use Rattle.flow.specs.Becomes.{begun, after_of, front_of, came_of}
use Rattle.playing.specs.declared.Trouble.{Trouble}

pub record Sound (f : Flow) (window : ℕ) : Type 0 where
  pub start : f.start ≤ f.have
  pub have : f.have ≤ window

abbrev pub unread : Flow → List ℕ → List ℕ
unread f w = take (f.have - f.start) (drop f.start w)

abbrev pub reading : Result Flow Error → Result Flow Trouble
reading (Ok g) = Ok g
reading (Err e) = Err (Trouble.Reading e)

-- the flow f with the window w goes over into r with w': the unread bytes to the front, and a read into all that is behind them. What it answered
-- nobody can say, but where the reader's bytes are known
pub record Kept (f : Flow) (w : List ℕ) (r : Result Flow Trouble) (w' : List ℕ) : Type 0 where
  pub got : Result ℕ Error
  pub came : r ≡ reading (came_of (front_of f) got (length w - (front_of f).have))
  pub bytes : take (f.have - f.start) w' ≡ unread f w

-- a turn comes next, if nothing went wrong
abbrev pub next_of : Result Flow Trouble → Result (Option Flow) Trouble
next_of (Ok g) = Ok (Some g)
next_of (Err t) = Err t

-- what was decided is done
abbrev pub Follows : Result Then Error → List ℕ → Result (Option Flow) Trouble → List ℕ → Type 0
Follows (Ok (Then.Turns g)) w r w' = (r ≡ Ok (Some g)) × (w' ≡ w)
Follows (Ok (Then.Reads g)) w r w' = (k : Result Flow Trouble) × (r ≡ next_of k) × Kept g w k w'
Follows (Ok Then.Ends) w r w' = (r ≡ Ok None) × (w' ≡ w)
Follows (Err e) w r w' = (r ≡ Err (Trouble.Writing e)) × (w' ≡ w)

-- one turn over the unread bytes of the window w into the buffer d, whose lines were written or failed to be
pub record Turns (style : Style) (f : Flow) (w d : List ℕ) (r : Result (Option Flow) Trouble) (w' d' : List ℕ) : Type 0 where
  pub answer : TurnEnd
  pub written : Result ⊤ Error
  pub turned : Turned style f.state (unread f w) f.last d answer d'
  pub next : Follows (after_of f answer written) w r w'

-- n turns one behind the other, from the start with the window w₀ and the buffer d₀: each of them says that there is a next one
pub data Ran (style : Style) (w₀ d₀ : List ℕ) : ℕ → Flow → List ℕ → List ℕ → Type 0 where
  none : (f : Flow) → f ≡ begun start_of → Ran style w₀ d₀ 0 f w₀ d₀
  one_more : (n : ℕ) (f : Flow) (w d : List ℕ) (r : Flow) (w' d' : List ℕ) → Ran style w₀ d₀ n f w d → Turns style f w d (Ok (Some r)) w' d' → Ran style w₀ d₀ (n + 1) r w' d'

-- behind n turns: with a turn that is the last, with one that fails, or with none, where there were as many as no run reaches
abbrev pub Last : Style → ℕ → Flow → List ℕ → List ℕ → Result ⊤ Trouble → List ℕ → List ℕ → Type 0
Last style n f w d (Ok _) w' d' = Turns style f w d (Ok None) w' d'
Last style n f w d (Err (Trouble.Reading e)) w' d' = Turns style f w d (Err (Trouble.Reading e)) w' d'
Last style n f w d (Err (Trouble.Writing e)) w' d' = Turns style f w d (Err (Trouble.Writing e)) w' d'
Last style n f w d (Err Trouble.Endless) w' d' = (n ≡ 2 ^ 64 - 1) × (w' ≡ w) × (d' ≡ d)

-- the loop ends where a turn says so, and not before: on Ok the last turn met the log's end, and on Err it failed so. Whether a turn's lines were written and
-- what a read answered stays open, so another turn that fails and leaves the same window and buffer may stand in place of the last one
pub record Pumped (style : Style) (w₀ d₀ w d : List ℕ) (r : Result ⊤ Trouble) : Type 0 where
  pub turns : ℕ
  pub left : Flow
  pub window : List ℕ
  pub buffer : List ℕ
  pub ran : Ran style w₀ d₀ turns left window buffer
  pub ends : Last style turns left window buffer r w d
