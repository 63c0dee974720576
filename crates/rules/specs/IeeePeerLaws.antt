-- What the laws of proofs/IeeePeerLaws.antt speak of.
use Rattle.std.specs.Prelude.{ℕ, ◌≡◌, ℤ, ◌-ℤ◌, Some}
use Rattle.time.specs.Units.{time, duration, correction}
use Rattle.record.specs.Record.{with_state, with_peer, with_ids}
use Rattle.rules.specs.Names.{Time, Duration, Identity, PeerState, Port, Measurement}
use Rattle.rules.specs.Events.{Answered}
use Rattle.rules.specs.Measuring.{recovered}
use Rattle.rules.specs.Rules.{peer_id_taken}
use Rattle.rules.specs.Ieee.{WireFields, Pdelays, mean_link_delay}

-- ---- what is measured

-- the Pdelay_Resp of both kinds
abbrev pub response : Pdelays → WireFields
response (Pdelays.one_step pdelay_resp) = pdelay_resp
response (Pdelays.two_step pdelay_resp pdelay_resp_follow_up) = pdelay_resp

pub record MeasuresLinkDelay (p : Port) (id : ℕ) (responder : Identity) (m : Pdelays) (t1 t4 : ℤ) (r : Answered) : Type 0 where
  pub event_time : Time
  pub delay : Duration
  pub measurement : r.measurement ≡ Some (Measurement.Peer event_time delay)
  pub event_time_is : time event_time ≡ t4 -ℤ correction (response m).correction_field
  pub delay_is : duration delay ≡ mean_link_delay (duration p.config.asymmetry) m t1 t4
  pub port : r.port ≡ with_state (with_peer p (PeerState.Measured id responder)) (recovered p.state)

-- ---- the request: a delay timer on a port with the peer mechanism takes the next id and opens its exchange

abbrev pub requesting : Port → Port
requesting p = with_ids p (peer_id_taken p.ids)
