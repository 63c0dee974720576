-- What the laws of proofs/TurnLaws.antt speak of.
use Rattle.std.specs.Prelude.{◌≡◌, ℕ, ◌+◌, ◌-◌, ◌≤◌, Bool, List, length, drop}
use Rattle.streaming.specs.Log.{scan}
use Rattle.lines.specs.declared.Style.{Style}
use Rattle.text.specs.Page.{Wrote}
use Rattle.replaying.specs.declared.State.{State}
use Rattle.replaying.specs.declared.one.Turn.{Turn}
use Rattle.replaying.specs.Turns.{due, after, run_of}

-- ---- between two fields: w was written, and the run goes on from place i with the state p

pub record Goes (style : Style) (q : State) (s : List ℕ) (last : Bool) (d d' : List ℕ) (p : State) (i to : ℕ) (w : List ℕ) : Type 0 where
  pub run : (at : ℕ) → run_of style q (length d) (scan last (due q) at s) ≡ after w i (run_of style p (length d - length w) (scan last (due p) (at + i) (drop i s)))
  pub wrote : Wrote d 0 w d' to
  pub place : to ≡ length w
  pub room : length w ≤ length d
  pub read : i ≤ length s
  pub same : length d' ≡ length d

abbrev pub Going : Style → State → List ℕ → Bool → List ℕ → List ℕ → State → ℕ → ℕ → Type 0
Going style q s last d d' p i to = (w : List ℕ) × Goes style q s last d d' p i to w

-- the turn t as the code has it, which began with the state q over the window s into the buffer d, where now stands d'
pub record Underway (style : Style) (q : State) (s : List ℕ) (last : Bool) (d : List ℕ) (t : Turn) (d' : List ℕ) : Type 0 where
  pub same_style : t.style ≡ style
  pub same_window : t.s.now ≡ s
  pub same_last : t.last ≡ last
  pub going : Going style q s last d d' t.state t.read t.wrote
