-- What is written, by what is read: while the bytes of the log are known, what was written and what is still due are the lines of the whole log.
use Rattle.std.specs.Prelude.{◌≡◌, ℕ, List, [], ◌++◌, true, Option, Some, None, Result, Ok, Err}
use Rattle.std.specs.Io.KnownBytes.{Appends, Consumes}
use Rattle.lines.specs.declared.Style.{Style}
use Rattle.replaying.specs.Replay.{replay_lines}
use Rattle.replaying.specs.Owed.{Owed}
use Rattle.flow.specs.declared.Flow.{Flow}
use Rattle.playing.specs.declared.Trouble.{Trouble}
use Rattle.playing.specs.Between.{unread}

-- known bytes grow by some of bs, from its front on
abbrev pub AppendsFront : Option (List ℕ) → Option (List ℕ) → List ℕ → Type 0
AppendsFront old new bs = (w : List ℕ) × (u : List ℕ) × (bs ≡ w ++ u) × Appends old new w

-- from the flow f with the window w to g with w': bytes were read behind those that were unread. Where nothing follows, nothing is left
pub record Brought (f : Flow) (w : List ℕ) (left : Option (List ℕ)) (g : Flow) (w' : List ℕ) (left' : Option (List ℕ)) : Type 0 where
  pub bytes : List ℕ
  pub consumed : Consumes left left' bytes
  pub behind : unread g w' ≡ unread f w ++ bytes
  pub state : g.state ≡ f.state
  pub end : (xs ys : List ℕ) → left ≡ Some xs → left' ≡ Some ys → (f.last ≡ true → xs ≡ []) → g.last ≡ true → ys ≡ []

-- the lines of the log, of which some were written behind c, and the others are owed for the unread bytes and those that are left
pub record Owes (style : Style) (log : List ℕ) (c left now : Option (List ℕ)) (f : Flow) (w : List ℕ) : Type 0 where
  pub rest : List ℕ
  pub is_left : left ≡ Some rest
  pub last : f.last ≡ true → rest ≡ []
  pub done : List ℕ
  pub written : Appends c now done
  pub due : List ℕ
  pub lines : replay_lines style log ≡ done ++ due
  pub owed : Owed style f.state (unread f w ++ rest) due

-- behind a turn that answered r
abbrev pub Goes : Style → List ℕ → Option (List ℕ) → Option (List ℕ) → Option (List ℕ) → List ℕ → Result (Option Flow) Trouble → Type 0
Goes style log c left now w (Ok (Some g)) = Owes style log c left now g w
Goes style log c left now w (Ok None) = Appends c now (replay_lines style log)
Goes style log c left now w (Err t) = AppendsFront c now (replay_lines style log)
