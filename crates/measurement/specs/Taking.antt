-- The cases of crate `rules`' definitions, as the values that the code answers.
use Rattle.std.specs.Prelude.{ℕ, Option, Some, None}
use Rattle.rules.specs.Names.{Time, Duration, Identity, Exchange, PeerState, PortState, SlaveState}
use Rattle.rules.specs.Worked.{Worked, ◌then◌, elapsed, less_duration}
use Rattle.rules.specs.Measuring.{complete, peer_complete}
use Rattle.record.specs.Record.{as_slave}
use Rattle.measurement.specs.declared.PeerTimes.{PeerTimes}

-- ---- what is there

unfoldable pub pair_of : Exchange → Option (Time × Time)
pair_of x = complete x None (λ send receive. Some (send, receive))

abbrev pub times_of : ℕ → Identity → Time → Time → Time → Time → PeerTimes
times_of id responder t1 t2 t3 t4 =
    record { id = id; responder = responder; request_send = t1; request_receive = t2; response_send = t3; response_receive = t4 }

unfoldable pub peer_times_of : PeerState → Option PeerTimes
peer_times_of q = peer_complete q None (λ id responder t1 t2 t3 t4. Some (times_of id responder t1 t2 t3 t4))

unfoldable pub slave_in : PortState → Option SlaveState
slave_in state = as_slave state None Some

-- ---- what is worked out

-- from one time to another, less the asymmetry
unfoldable pub raw_between : Time → Time → Duration → Worked Duration
raw_between a b asymmetry = elapsed a b then λ apart. less_duration apart asymmetry

-- t1 to t4 of a peer exchange
unfoldable pub twice_delay : Time → Time → Time → Time → Worked Duration
twice_delay t1 t2 t3 t4 = elapsed t4 t1 then λ turn. elapsed t3 t2 then λ stay. less_duration turn stay
