-- Witnesses, each computed: for every clause of row 2 a record that is unfit by it alone, beside a neighbour that is fit; what row 2 does not list; and what row 3 does at its edges.
use Rattle.std.specs.Prelude.{◌-◌, ◌^◌, ◌≡◌, refl, true, false, Some, None}
use Rattle.time.specs.declared.Duration.{Duration}
use Rattle.time.specs.Units.{time, in_time, signed}
use Rattle.timers.specs.Timers.{interval, in_interval, in_draw}
use Rattle.record.specs.declared.Exchange.{Exchange}
use Rattle.record.specs.declared.PortState.{PortState}
use Rattle.record.specs.declared.PeerState.{PeerState}
use Rattle.record.specs.declared.Mechanism.{Mechanism}
use Rattle.fitness.specs.Fit.{time_out, interval_out, draw_out, sdo_out, minor_out, config_out, unfit}
use Rattle.fitness.specs.Examples.{last_time, late_time, a_time, someone, one_known, none_known, lowest_duration, configured, ported, slave_with, sync_open, delay_open, peer_open, with_numbers, Edge}

-- ---- a time out of limits, wherever a record has one

sync_send_out : Edge (sync_open (Some late_time) None) (sync_open (Some last_time) None)
unfolding unfit config_out interval_out sdo_out minor_out time_out time in_time interval in_interval signed
sync_send_out = (refl, refl)

sync_receive_out : Edge (sync_open None (Some late_time)) (sync_open None (Some last_time))
unfolding unfit config_out interval_out sdo_out minor_out time_out time in_time interval in_interval signed
sync_receive_out = (refl, refl)

delay_send_out : Edge (delay_open (Some late_time) None) (delay_open (Some last_time) None)
unfolding unfit config_out interval_out sdo_out minor_out time_out time in_time interval in_interval signed
delay_send_out = (refl, refl)

delay_receive_out : Edge (delay_open None (Some late_time)) (delay_open None (Some last_time))
unfolding unfit config_out interval_out sdo_out minor_out time_out time in_time interval in_interval signed
delay_receive_out = (refl, refl)

request_send_out : Edge (peer_open one_known (Some late_time) None None None) (peer_open one_known (Some last_time) None None None)
unfolding unfit config_out interval_out sdo_out minor_out time_out time in_time interval in_interval signed
request_send_out = (refl, refl)

request_receive_out : Edge (peer_open one_known None (Some late_time) None None) (peer_open one_known None (Some last_time) None None)
unfolding unfit config_out interval_out sdo_out minor_out time_out time in_time interval in_interval signed
request_receive_out = (refl, refl)

response_send_out : Edge (peer_open one_known None None (Some late_time) None) (peer_open one_known None None (Some last_time) None)
unfolding unfit config_out interval_out sdo_out minor_out time_out time in_time interval in_interval signed
response_send_out = (refl, refl)

response_receive_out : Edge (peer_open one_known None None None (Some late_time)) (peer_open one_known None None None (Some last_time))
unfolding unfit config_out interval_out sdo_out minor_out time_out time in_time interval in_interval signed
response_receive_out = (refl, refl)

-- ---- a number of the configuration out of limits; the bytes 246 and 247 are -10 and -9

delay_interval_low : Edge (with_numbers 246 0 256 0) (with_numbers 247 0 256 0)
unfolding unfit config_out interval_out sdo_out minor_out interval in_interval signed
delay_interval_low = (refl, refl)

delay_interval_high : Edge (with_numbers 17 0 256 0) (with_numbers 16 0 256 0)
unfolding unfit config_out interval_out sdo_out minor_out interval in_interval signed
delay_interval_high = (refl, refl)

sync_interval_low : Edge (with_numbers 0 246 256 0) (with_numbers 0 247 256 0)
unfolding unfit config_out interval_out sdo_out minor_out interval in_interval signed
sync_interval_low = (refl, refl)

sync_interval_high : Edge (with_numbers 0 17 256 0) (with_numbers 0 16 256 0)
unfolding unfit config_out interval_out sdo_out minor_out interval in_interval signed
sync_interval_high = (refl, refl)

sdo_id_high : Edge (with_numbers 0 0 4096 0) (with_numbers 0 0 4095 0)
unfolding unfit config_out interval_out sdo_out minor_out interval in_interval signed
sdo_id_high = (refl, refl)

minor_version_high : Edge (with_numbers 0 0 256 2) (with_numbers 0 0 256 1)
unfolding unfit config_out interval_out sdo_out minor_out interval in_interval signed
minor_version_high = (refl, refl)

-- ---- an open sync without a time; a delay exchange may be without

sync_without_time : Edge (sync_open None None) (sync_open a_time None)
unfolding unfit config_out interval_out sdo_out minor_out time_out time in_time interval in_interval signed
sync_without_time = (refl, refl)

delay_without_time : unfit (delay_open None None) ≡ false
unfolding unfit config_out interval_out sdo_out minor_out interval in_interval signed
delay_without_time = refl

-- ---- a time that only a responder brings, and no responder known

request_receive_unanswered : Edge (peer_open none_known None a_time None None) (peer_open one_known None a_time None None)
unfolding unfit config_out interval_out sdo_out minor_out time_out time in_time interval in_interval signed
request_receive_unanswered = (refl, refl)

response_send_unanswered : Edge (peer_open none_known None None a_time None) (peer_open one_known None None a_time None)
unfolding unfit config_out interval_out sdo_out minor_out time_out time in_time interval in_interval signed
response_send_unanswered = (refl, refl)

response_receive_unanswered : Edge (peer_open none_known None None None a_time) (peer_open one_known None None None a_time)
unfolding unfit config_out interval_out sdo_out minor_out time_out time in_time interval in_interval signed
response_receive_unanswered = (refl, refl)

-- the request's send alone needs no responder, nor does a responder need a time
request_sent_only : unfit (peer_open none_known a_time None None None) ≡ false
unfolding unfit config_out interval_out sdo_out minor_out time_out time in_time interval in_interval signed
request_sent_only = refl

responder_without_time : unfit (peer_open one_known None None None None) ≡ false
unfolding unfit config_out interval_out sdo_out minor_out interval in_interval signed
responder_without_time = refl

-- ---- an exchange with all its times

sync_full : Edge (sync_open a_time a_time) (sync_open None a_time)
unfolding unfit config_out interval_out sdo_out minor_out time_out time in_time interval in_interval signed
sync_full = (refl, refl)

delay_full : Edge (delay_open a_time a_time) (delay_open a_time None)
unfolding unfit config_out interval_out sdo_out minor_out time_out time in_time interval in_interval signed
delay_full = (refl, refl)

peer_full_lem : (unfit (peer_open one_known a_time a_time a_time a_time) ≡ true) × (unfit (peer_open one_known None a_time a_time a_time) ≡ false) × (unfit (peer_open one_known a_time None a_time a_time) ≡ false) × (unfit (peer_open one_known a_time a_time None a_time) ≡ false) × (unfit (peer_open one_known a_time a_time a_time None) ≡ false)
unfolding unfit config_out interval_out sdo_out minor_out time_out time in_time interval in_interval signed
peer_full_lem = (refl, refl, refl, refl, refl)

-- ---- what row 2 does not list

-- any two words are a duration
durations_any : (asymmetry mean raw : Duration) → unfit (record { config = configured Mechanism.Peer 0 0 256 0 asymmetry; state = PortState.Slave (record { master = someone; sync = Exchange.Empty; delay = Exchange.Empty; raw = Some raw }); peer = PeerState.Empty; mean = Some mean; ids = record { sync = 0; delay = 0; peer = 0 } }) ≡ false
unfolding unfit config_out interval_out sdo_out minor_out interval in_interval signed
durations_any asymmetry mean raw = refl

-- the other mechanism's exchange, left open
peer_when_end_to_end : unfit (ported (configured Mechanism.EndToEnd 0 0 256 0 lowest_duration) PortState.Passive (PeerState.Measuring 7 one_known a_time None None None)) ≡ false
unfolding unfit config_out interval_out sdo_out minor_out time_out time in_time interval in_interval signed
peer_when_end_to_end = refl

delay_when_peer : unfit (ported (configured Mechanism.Peer 0 0 256 0 lowest_duration) (slave_with Exchange.Empty (Exchange.Measuring 7 a_time None)) (PeerState.Measured 7 someone)) ≡ false
unfolding unfit config_out interval_out sdo_out minor_out time_out time in_time interval in_interval signed
delay_when_peer = refl

-- ---- row 3: an event's draw and time, at their edges

draw_high : (draw_out (2 ^ 52) ≡ true) × (draw_out (2 ^ 52 - 1) ≡ false)
unfolding draw_out in_draw
draw_high = (refl, refl)

time_high : (time_out late_time ≡ true) × (time_out last_time ≡ false)
unfolding time_out time in_time
time_high = (refl, refl)
