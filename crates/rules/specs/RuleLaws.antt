-- What the laws of proofs/RuleLaws.antt speak of.
use Rattle.std.specs.Prelude.{◌≡◌, true, false}
use Rattle.rules.specs.Names.{Header, Identity, PeerState, Port, Outcome}
use Rattle.record.specs.Record.{with_peer}
use Rattle.record.specs.Same.{same_identity}
use Rattle.rules.specs.Worked.{Worked, worked}
use Rattle.rules.specs.Events.{Done, changed}
use Rattle.rules.specs.Measuring.{settle}
use Rattle.rules.specs.Exchanges.{Change, stays, becomes, second_responder}
use Rattle.rules.specs.Rules.{becomes_faulty}
use Rattle.rules.specs.AllLaws.{Comes}

-- ---- received messages

-- each way that a peer answer ends: not for us; from a second responder; no change; stored
pub record PeerEnds (P : Done → Type 0) (R : Outcome → Type 0) (p : Port) (h : Header) (requester : Identity) (answer : Worked (Change PeerState)) : Type 0 where
  pub other : same_identity p.config.identity requester ≡ false → P (changed p false)
  pub twice : same_identity p.config.identity requester ≡ true → second_responder h p.peer ≡ true → P (becomes_faulty p)
  pub same : same_identity p.config.identity requester ≡ true → second_responder h p.peer ≡ false → answer ≡ worked stays → P (changed p false)
  pub new : same_identity p.config.identity requester ≡ true → second_responder h p.peer ≡ false → (x : PeerState) → answer ≡ worked (becomes x) → Comes P R (settle (with_peer p x))
