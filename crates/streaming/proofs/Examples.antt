-- Small logs worked out.
use Rattle.std.specs.Prelude.{◌≡◌, refl, true, false, [], ◌∷◌, ◌++◌, replicate, Some, None}
use Rattle.rules.specs.Events.{general, sync_timer, delay_timer}
use Rattle.octets.specs.Bytes.{number}
use Rattle.wire.specs.Layout.{identity_at}
use Rattle.event_log.specs.Fields.{time_at, duration_at, inner_of, context_at, state_at, event_of, general_of, stamp_of, sync_timer_of, delay_timer_of, update_of, filter_of, set_state_of, config_of}
use Rattle.event_log.specs.Fields.{field_of, stated_of, possible, none_of, cut_of, front_of}
use Rattle.streaming.specs.Log.{next, good, bad, rest, scan_from, scan, end, bad_at, ended, gathered, read_log}
use Rattle.streaming.specs.Examples.{configuration, config, message, timer, wrong, heard, three, stamped, answers, answer, slave}

-- 36 bytes, 28 and 3 come before the bad field, so it stands at 67
pub worked : read_log (configuration ++ (message ++ (timer ++ wrong))) ≡ record { configuration = Some config; events = heard ∷ sync_timer ∷ []; ending = bad_at 67 }
unfolding number identity_at time_at duration_at inner_of event_of sync_timer_of config_of field_of stated_of front_of scan_from scan gathered read_log
worked = refl

pub well : read_log (configuration ++ message) ≡ record { configuration = Some config; events = heard ∷ []; ending = end }
unfolding number identity_at time_at duration_at inner_of event_of config_of field_of stated_of none_of front_of scan_from scan gathered read_log
well = refl

-- a log with nothing in it, one with no configuration, and one with two
pub empty : read_log [] ≡ ended (bad_at 0)
unfolding none_of front_of scan_from scan gathered read_log
empty = refl

pub without : read_log timer ≡ ended (bad_at 0)
unfolding number field_of stated_of front_of scan_from scan gathered read_log
without = refl

pub twice : read_log (configuration ++ configuration) ≡ record { configuration = Some config; events = []; ending = bad_at 36 }
unfolding number identity_at duration_at config_of field_of stated_of front_of scan_from scan gathered read_log
twice = refl

-- a field that is cut: bad if the log ends there, else left for what follows
pub cut_last : scan true false 64 (0x13 ∷ 0 ∷ []) ≡ bad 64
unfolding number stated_of cut_of front_of scan_from scan
cut_last = refl

pub cut_open : scan false false 64 (0x13 ∷ 0 ∷ []) ≡ rest 64 false (0x13 ∷ 0 ∷ [])
unfolding number stated_of possible cut_of front_of scan_from scan
cut_open = refl

-- no timer's field is 256 bytes long: bad at once
pub cut_long : scan false false 64 (0x13 ∷ 1 ∷ 0 ∷ []) ≡ bad 64
unfolding number stated_of possible cut_of front_of scan_from scan
cut_long = refl

-- ---- the other kinds, each with its size

pub kinds : scan true false 36 three ≡ next (general []) 6 (next stamped 38 (next (delay_timer 256) 14 good))
unfolding number identity_at time_at inner_of context_at general_of stamp_of delay_timer_of field_of stated_of none_of front_of scan_from scan
kinds = refl

pub answered : scan true false 36 answers ≡ next (answer (Some (record { hi = 0; lo = 3 })) (Some 2)) 33
    (next (answer None (Some 2)) 14 (next (answer None None) 3 (next slave 17 good)))
unfolding number identity_at duration_at inner_of state_at update_of filter_of set_state_of field_of stated_of none_of front_of scan_from scan
answered = refl

-- fields in falling order, a field twice, and a Slave without its master
pub falling : scan true false 36 (0x15 ∷ 0 ∷ 30 ∷ 6 ∷ 0 ∷ 8 ∷ replicate 8 0 ++ (5 ∷ 0 ∷ 16 ∷ replicate 16 0)) ≡ bad 36
unfolding number inner_of update_of filter_of field_of stated_of front_of scan_from scan
falling = refl

pub repeated : scan true false 36 (0x15 ∷ 0 ∷ 22 ∷ 6 ∷ 0 ∷ 8 ∷ replicate 8 0 ++ (6 ∷ 0 ∷ 8 ∷ replicate 8 0)) ≡ bad 36
unfolding number inner_of update_of filter_of field_of stated_of front_of scan_from scan
repeated = refl

pub masterless : scan true false 36 (0x16 ∷ 0 ∷ 4 ∷ 7 ∷ 0 ∷ 1 ∷ 4 ∷ []) ≡ bad 36
unfolding number inner_of state_at set_state_of field_of stated_of front_of scan_from scan
masterless = refl
