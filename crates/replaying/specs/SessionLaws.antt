-- What the laws of proofs/SessionLaws.antt speak of.
use Rattle.std.specs.Prelude.{◌≡◌, ℕ, ◌%◌, ◌^◌}
use Rattle.replaying.specs.declared.State.{State}

-- ---- a state and the counts that it stands for

pub record Tracks (q : State) (n at : ℕ) : Type 0 where
  pub number : q.number ≡ n % 2 ^ 64
  pub offset : q.offset ≡ at % 2 ^ 64
