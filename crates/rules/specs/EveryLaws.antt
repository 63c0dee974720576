-- What the laws of proofs/EveryLaws.antt speak of.
use Rattle.std.specs.Prelude.{◌≡◌, true, false, [], ℕ, Ok}
use Rattle.rules.specs.Names.{Time, Header, Identity, Message, Exchange, SlaveState, PeerState, PortState, Port, Context, Action, Outcome, FilterUpdate, NewState}
use Rattle.sent.specs.Messages.{follow_up_of, delay_resp_of, p_delay_resp_of, p_delay_resp_follow_up_of}
use Rattle.record.specs.Record.{with_sync, with_delay, with_slave, with_peer}
use Rattle.rules.specs.Events.{Done, changed, sending}
use Rattle.rules.specs.Measuring.{settle}
use Rattle.rules.specs.Rules.{sender_of, becomes_faulty, filtered, state_set, sync_sent, delay_sent, peer_sent}
use Rattle.rules.specs.AllLaws.{Comes}

-- ---- what refuses an event behind row 3

pub record Rows (R : Outcome → Type 0) : Type 0 where
  pub unfit : R Outcome.Unfit
  pub limits : R Outcome.Limits
  pub version : R Outcome.Version
  pub malformed : R Outcome.Malformed
  pub foreign : R Outcome.Foreign
  pub host : R Outcome.Host
  pub range : R Outcome.Range

-- ---- messages and stamps

pub record Heard (P : Done → Type 0) (R : Outcome → Type 0) (p : Port) : Type 0 where
  pub rows : Rows R
  pub idle : P (changed p false)
  pub faulty : P (becomes_faulty p)
  pub new_sync : (s : SlaveState) (x : Exchange) → p.state ≡ PortState.Slave s → Comes P R (settle (with_slave p (with_sync s x)))
  pub new_delay : (s : SlaveState) (x : Exchange) → p.state ≡ PortState.Slave s → Comes P R (settle (with_slave p (with_delay s x)))
  pub new_peer : (x : PeerState) → Comes P R (settle (with_peer p x))
  pub delay_resp : (h : Header) (at : Time) (m : Message) → delay_resp_of (sender_of p.config) h p.config.delay_interval at ≡ Ok m → P (sending p [] m (Action.SendGeneral false))
  pub pdelay_resp : (h : Header) (at : Time) (m : Message) → p_delay_resp_of (sender_of p.config) h at ≡ Ok m → P (sending p [] m (Action.SendEvent (Context.PDelayResp h.id h.source) true))
  pub follow_up : (id : ℕ) (t : Time) (m : Message) → follow_up_of (sender_of p.config) id p.config.sync_interval t ≡ Ok m → P (sending p [] m (Action.SendGeneral false))
  pub pdelay_resp_follow_up : (id : ℕ) (requester : Identity) (t : Time) (m : Message) → p_delay_resp_follow_up_of (sender_of p.config) id requester t ≡ Ok m → P (sending p [] m (Action.SendGeneral true))

-- ---- all events

pub record Every (P : Done → Type 0) (R : Outcome → Type 0) (p : Port) : Type 0 where
  pub heard : Heard P R p
  pub at_sync_sent : (ns : ℕ) → P (sync_sent p ns)
  pub at_delay_sent : (s : SlaveState) (ns : ℕ) → P (delay_sent p s ns)
  pub at_peer_sent : (ns : ℕ) → P (peer_sent p ns)
  pub filter : (u : FilterUpdate) → Comes P R (filtered p u)
  pub set : (new : NewState) → Comes P R (state_set p new)
