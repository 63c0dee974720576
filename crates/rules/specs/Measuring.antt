-- Document 01, 'The measurement': an exchange that has all its times is measured, and leaves the record with the event that brought the last.
use Rattle.std.specs.Prelude.{ℕ, Bool, false, cond, [], Option, Some, None}
use Rattle.rules.specs.Names.{Time, Duration, Identity, Exchange, SlaveState, PortState, PeerState, Port, Measurement}
use Rattle.time.specs.Units.{half_of}
use Rattle.record.specs.Record.{is_faulty, as_slave, with_sync, with_delay, with_raw, with_state, with_slave, with_peer}
use Rattle.rules.specs.Worked.{Worked, worked, ◌then◌, elapsed, less_duration}
use Rattle.rules.specs.Events.{Done, nothing}

-- ---- which exchange is complete

-- two times that are both there
abbrev pub both : {A : Type 0} → Option Time → Option Time → A → (Time → Time → A) → A
both None u missing k = missing
both (Some t) None missing k = missing
both (Some t) (Some u) missing k = k t u

abbrev pub known : {A : Type 0} → Option Identity → A → (Identity → A) → A
known None missing k = missing
known (Some i) missing k = k i

abbrev pub complete : {A : Type 0} → Exchange → A → (Time → Time → A) → A
complete Exchange.Empty missing k = missing
complete (Exchange.Measuring id send receive) missing k = both send receive missing k

abbrev pub peer_complete : {A : Type 0} → PeerState → A → (ℕ → Identity → Time → Time → Time → Time → A) → A
peer_complete PeerState.Empty missing k = missing
peer_complete (PeerState.Measuring id responder request_send request_receive response_send response_receive) missing k =
    both request_send request_receive missing (λ t1 t2.
    both response_send response_receive missing (λ t3 t4.
    known responder missing (λ i. k id i t1 t2 t3 t4)))
peer_complete (PeerState.Measured id responder) missing k = missing

-- ---- what it measures

abbrev pub measured : Port → Measurement → Bool → Done
measured p m reset =
    record { port = p; measurement = Some m; message = None; actions = []; reset = reset }

-- the offset, where there is a mean delay to take off
abbrev pub less_mean : Duration → Option Duration → Worked (Option Duration)
less_mean raw None = worked None
less_mean raw (Some mean) = less_duration raw mean then λ offset. worked (Some offset)

-- Sync: what passed from send to receive, less the asymmetry, at the receive time; it is kept for the delay
abbrev pub sync_out : Port → SlaveState → Duration → Port
sync_out p s raw = with_slave p (with_raw (with_sync s Exchange.Empty) raw)

unfoldable pub measure_sync : Port → SlaveState → Time → Time → Worked Done
measure_sync p s send receive =
    elapsed receive send then λ apart.
    less_duration apart p.config.asymmetry then λ raw.
    less_mean raw p.mean then λ offset.
    worked (measured (sync_out p s raw) (Measurement.Sync receive raw offset) false)

-- the delay, where a raw sync offset is kept
abbrev pub half_below : Option Duration → Duration → Worked (Option Duration)
half_below None raw = worked None
half_below (Some last) raw = less_duration last raw then λ twice. worked (Some (half_of twice))

-- Delay: from receive to send, less the asymmetry, at the send time
abbrev pub delay_out : Port → SlaveState → Port
delay_out p s = with_slave p (with_delay s Exchange.Empty)

unfoldable pub measure_delay : Port → SlaveState → Time → Time → Worked Done
measure_delay p s send receive =
    elapsed send receive then λ apart.
    less_duration apart p.config.asymmetry then λ raw.
    half_below s.raw raw then λ delay.
    worked (measured (delay_out p s) (Measurement.Delay send raw delay) false)

-- Faulty becomes Listening
abbrev pub recovered : PortState → PortState
recovered state = cond (is_faulty state) PortState.Listening state

-- Peer: half of what is left of the whole turn without the responder's stay, when the response came. The request stays known as measured; a Faulty port recovers, and the filter with it
abbrev pub peer_out : Port → ℕ → Identity → Port
peer_out p id responder = with_state (with_peer p (PeerState.Measured id responder)) (recovered p.state)

unfoldable pub measure_peer : Port → ℕ → Identity → Time → Time → Time → Time → Worked Done
measure_peer p id responder request_send request_receive response_send response_receive =
    elapsed response_receive request_send then λ turn.
    elapsed response_send request_receive then λ stay.
    less_duration turn stay then λ twice.
    worked (measured (peer_out p id responder) (Measurement.Peer response_receive (half_of twice)) (is_faulty p.state))

-- ---- the exchange that an event left complete, in the Rust's order; a record that was fit has no other (`SettleLaws`)
unfoldable pub settle : Port → Worked Done
settle p =
    peer_complete p.peer
    (as_slave p.state (nothing p) (λ s.
    complete s.sync (complete s.delay (nothing p) (measure_delay p s)) (measure_sync p s)))
    (measure_peer p)
