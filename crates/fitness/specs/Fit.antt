-- Document 01, 'Numbers the port answers', row 2: when a record is unfit, clause by clause in the row's order. Nothing else makes it unfit.
use Rattle.std.specs.Prelude.{ℕ, Bool, true, false, ◌&&◌, ◌||◌, not, List, [], ◌∷◌, ◌++◌, ltb, Option, Some, None}
use Rattle.time.specs.declared.Time.{Time}
use Rattle.time.specs.Units.{time, in_time}
use Rattle.timers.specs.Timers.{interval, in_interval, in_draw}
use Rattle.record.specs.declared.Exchange.{Exchange}
use Rattle.record.specs.declared.PortState.{PortState}
use Rattle.record.specs.declared.PeerState.{PeerState}
use Rattle.record.specs.declared.Config.{Config}
use Rattle.record.specs.declared.Port.{Port}
use Rattle.record.specs.Record.{as_slave}

-- ---- the times that a record holds

abbrev pub held_time : Option Time → List Time
held_time None = []
held_time (Some t) = t ∷ []

abbrev pub times_in : Exchange → List Time
times_in Exchange.Empty = []
times_in (Exchange.Measuring id send receive) = held_time send ++ held_time receive

abbrev pub peer_times : PeerState → List Time
peer_times PeerState.Empty = []
peer_times (PeerState.Measuring id responder request_send request_receive response_send response_receive) =
    held_time request_send ++ held_time request_receive ++ held_time response_send ++ held_time response_receive
peer_times (PeerState.Measured id responder) = []

abbrev pub slave_times : PortState → List Time
slave_times state = as_slave state [] (λ s. times_in s.sync ++ times_in s.delay)

-- ---- out of limits (rows 2 and 3)

unfoldable pub time_out : Time → Bool
time_out t = not (in_time (time t))

abbrev pub any_out : List Time → Bool
any_out [] = false
any_out (t ∷ ts) = time_out t || any_out ts

unfoldable pub interval_out : ℕ → Bool
interval_out byte = not (in_interval (interval byte))

unfoldable pub draw_out : ℕ → Bool
draw_out k = not (in_draw k)

-- 0 to 4095
unfoldable pub sdo_out : ℕ → Bool
sdo_out sdo = ltb 4095 sdo

-- 0 or 1
unfoldable pub minor_out : ℕ → Bool
minor_out minor = ltb 1 minor

-- ---- an exchange that no event leaves so

abbrev pub there : Option Time → Bool
there None = false
there (Some t) = true

-- a sync that is open though it has no time
abbrev pub timeless : Exchange → Bool
timeless Exchange.Empty = false
timeless (Exchange.Measuring id send receive) = not (there send) && not (there receive)

-- a peer exchange that is open, knows no responder, and yet holds a time that only a responder brings
abbrev pub unanswered : PeerState → Bool
unanswered PeerState.Empty = false
unanswered (PeerState.Measuring id None request_send request_receive response_send response_receive) =
    there request_receive || there response_send || there response_receive
unanswered (PeerState.Measuring id (Some i) request_send request_receive response_send response_receive) = false
unanswered (PeerState.Measured id responder) = false

-- an exchange that lacks no time and was not taken out
abbrev pub full : Exchange → Bool
full Exchange.Empty = false
full (Exchange.Measuring id send receive) = there send && there receive

abbrev pub peer_full : PeerState → Bool
peer_full PeerState.Empty = false
peer_full (PeerState.Measuring id responder request_send request_receive response_send response_receive) =
    there request_send && there request_receive && there response_send && there response_receive
peer_full (PeerState.Measured id responder) = false

-- the same of a Slave: of its sync, and of either exchange
abbrev pub sync_timeless : PortState → Bool
sync_timeless state = as_slave state false (λ s. timeless s.sync)

abbrev pub slave_full : PortState → Bool
slave_full state = as_slave state false (λ s. full s.sync || full s.delay)

-- ---- row 2

unfoldable pub config_out : Config → Bool
config_out c = interval_out c.delay_interval || interval_out c.sync_interval || sdo_out c.sdo || minor_out c.minor

unfoldable pub unfit : Port → Bool
unfit p =
    any_out (slave_times p.state ++ peer_times p.peer)
    || config_out p.config
    || sync_timeless p.state
    || unanswered p.peer
    || slave_full p.state
    || peer_full p.peer
