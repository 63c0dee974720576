-- What the laws of proofs/AllLaws.antt speak of.
use Rattle.std.specs.Prelude.{Bool, true, false}
use Rattle.rules.specs.Names.{PeerState, Outcome}
use Rattle.rules.specs.Worked.{Worked, worked, refused}
use Rattle.rules.specs.Measuring.{peer_complete}

-- what is worked out has P, and what refuses has R
abbrev pub Comes : {A : Type 0} → (A → Type 0) → (Outcome → Type 0) → Worked A → Type 0
Comes P R (worked a) = P a
Comes P R (refused o) = R o

-- of a refusal nothing is said, and of what is worked out nothing
abbrev pub Silent : Outcome → Type 0
Silent o = Unit {0}

abbrev pub Anything : {A : Type 0} → A → Type 0
Anything a = Unit {0}

abbrev pub All : {A : Type 0} → (A → Type 0) → Worked A → Type 0
All P w = Comes P Silent w

-- a peer exchange with all its times and its responder
abbrev pub peer_done : PeerState → Bool
peer_done q = peer_complete q false (λ id i a b c d. true)
