-- Document 01's whole case A, from a log's bytes to the three lines of its replay. The bytes are those of samples/a-sync-then-follow-up.log.
use Rattle.std.specs.Prelude.{ℕ, ◌≡◌, refl, List, [], ◌∷◌, ◌++◌}
use Prim.Native.String.{String}
use Rattle.wire.specs.Layout.{message_bytes, two_step_flag, type_of}
use Rattle.sent.specs.Messages.{header_for, no_flag}
use Rattle.rules.specs.Names.{Body, Config, Identity, Mechanism, NewState}
use Rattle.rules.specs.Events.{Event, event, general, set_state}
use Rattle.rules.specs.Running.{run_of, ns, lasting, wire_ns}
use Rattle.event_log.specs.Fields.{time_at, duration_at, inner_of, state_at, event_of, general_of, set_state_of, config_of, field_of, stated_of, none_of, front_of}
use Rattle.streaming.specs.Log.{scan_from, scan, gathered, read_log}
use Rattle.lines.specs.declared.Style.{Style}
use Rattle.recording.specs.Recording.{field_bytes, state_bytes, config_bytes, event_bytes}
use Rattle.recording.specs.ReadsBack.{events_bytes}
use Rattle.replaying.specs.Replay.{last_of, lines_for, lines_of, replay_lines}
use Rattle.text.specs.Ascii.{text_of}
use Rattle.examples.specs.Marked.{written}

-- ---- the bytes, field by field: a tag, two bytes of length, a value

-- the configuration, 33 bytes
abbrev pub config_field : List ℕ
config_field =
    0x0F ∷ 0x00 ∷ 0x21  -- tag 0x0F, length
    ∷ 0x02 ∷ 0x13 ∷ 0x24 ∷ 0x35 ∷ 0x46 ∷ 0x57 ∷ 0x68 ∷ 0x79  -- identity: clock
    ∷ 0x8A ∷ 0x9B  -- and port
    ∷ 0x0A ∷ 0x5C  -- sdo id
    ∷ 0x7B  -- domain
    ∷ 0x01  -- minor version
    ∷ 0x00  -- mechanism: end-to-end
    ∷ 0xFD  -- delay interval: -3
    ∷ 0x02  -- sync interval: 2
    ∷ 0x00 ∷ 0x00 ∷ 0x00 ∷ 0x00 ∷ 0x00 ∷ 0x00 ∷ 0x00 ∷ 0x00 ∷ 0x00 ∷ 0x00 ∷ 0x00 ∷ 0x00 ∷ 0x00 ∷ 0x00 ∷ 0x00 ∷ 0x00  -- asymmetry: 0
    ∷ []

-- set state, 14 bytes
abbrev pub slave_field : List ℕ
slave_field =
    0x16 ∷ 0x00 ∷ 0x0E  -- tag 0x16, length
    ∷ 0x07 ∷ 0x00 ∷ 0x0B  -- field 7, state, 11 bytes
    ∷ 0x04  -- Slave
    ∷ 0xC1 ∷ 0xD2 ∷ 0xE3 ∷ 0xF4 ∷ 0x05 ∷ 0x16 ∷ 0x27 ∷ 0x38  -- the master's clock
    ∷ 0x49 ∷ 0x5A  -- and port
    ∷ []

-- event message, 66 bytes: the Sync at 1,000 ns
abbrev pub sync_field : List ℕ
sync_field =
    0x10 ∷ 0x00 ∷ 0x42  -- tag 0x10, length
    ∷ 0x01 ∷ 0x00 ∷ 0x10  -- field 1, time, 16 bytes
    ∷ 0x00 ∷ 0x00 ∷ 0x00 ∷ 0x00 ∷ 0x00 ∷ 0x00 ∷ 0x00 ∷ 0x00 ∷ 0x00 ∷ 0x00 ∷ 0x03 ∷ 0xE8 ∷ 0x00 ∷ 0x00 ∷ 0x00 ∷ 0x00  -- 1,000 ns
    ∷ 0x02 ∷ 0x00 ∷ 0x2C  -- field 2, message, 44 bytes
    ∷ 0xA0  -- high half of the sdo id, type 0
    ∷ 0x02  -- minor version 0, version 2
    ∷ 0x00 ∷ 0x2C  -- length
    ∷ 0x7B  -- domain
    ∷ 0x5C  -- low byte of the sdo id
    ∷ 0x02 ∷ 0x00  -- flags: two-step
    ∷ 0x00 ∷ 0x00 ∷ 0x00 ∷ 0x00 ∷ 0x00 ∷ 0x00 ∷ 0x00 ∷ 0x00  -- correction: 0
    ∷ 0x00 ∷ 0x00 ∷ 0x00 ∷ 0x00  -- zero
    ∷ 0xC1 ∷ 0xD2 ∷ 0xE3 ∷ 0xF4 ∷ 0x05 ∷ 0x16 ∷ 0x27 ∷ 0x38  -- the master's clock
    ∷ 0x49 ∷ 0x5A  -- and port
    ∷ 0x00 ∷ 0x07  -- sequence id: 7
    ∷ 0x00  -- control
    ∷ 0xF9  -- log interval
    ∷ 0x00 ∷ 0x00 ∷ 0x00 ∷ 0x00 ∷ 0x00 ∷ 0x00  -- seconds
    ∷ 0x00 ∷ 0x00 ∷ 0x00 ∷ 0x00  -- nanoseconds
    ∷ []

-- general message, 47 bytes: its FollowUp, 900 ns
abbrev pub follow_up_field : List ℕ
follow_up_field =
    0x11 ∷ 0x00 ∷ 0x2F  -- tag 0x11, length
    ∷ 0x02 ∷ 0x00 ∷ 0x2C  -- field 2, message, 44 bytes
    ∷ 0xA8  -- high half of the sdo id, type 8
    ∷ 0x02  -- minor version 0, version 2
    ∷ 0x00 ∷ 0x2C  -- length
    ∷ 0x7B  -- domain
    ∷ 0x5C  -- low byte of the sdo id
    ∷ 0x00 ∷ 0x00  -- flags: none
    ∷ 0x00 ∷ 0x00 ∷ 0x00 ∷ 0x00 ∷ 0x00 ∷ 0x00 ∷ 0x00 ∷ 0x00  -- correction: 0
    ∷ 0x00 ∷ 0x00 ∷ 0x00 ∷ 0x00  -- zero
    ∷ 0xC1 ∷ 0xD2 ∷ 0xE3 ∷ 0xF4 ∷ 0x05 ∷ 0x16 ∷ 0x27 ∷ 0x38  -- the master's clock
    ∷ 0x49 ∷ 0x5A  -- and port
    ∷ 0x00 ∷ 0x07  -- sequence id: 7
    ∷ 0x02  -- control
    ∷ 0xF9  -- log interval
    ∷ 0x00 ∷ 0x00 ∷ 0x00 ∷ 0x00 ∷ 0x00 ∷ 0x00  -- seconds
    ∷ 0x00 ∷ 0x00 ∷ 0x03 ∷ 0x84  -- nanoseconds: 900
    ∷ []

abbrev pub bytes : List ℕ
bytes = config_field ++ (slave_field ++ (sync_field ++ follow_up_field))

-- ---- what is written

abbrev pub three_lines : List String
three_lines =
    "1 0 - -"
    ∷ "2 0 - -"
    ∷ "3 0 S 00000000000000000000006400000000"
    ∷ []

pub case_a_lem : replay_lines Style.Replay bytes ≡ text_of three_lines
unfolding time_at duration_at inner_of state_at event_of general_of set_state_of config_of field_of stated_of none_of front_of scan_from scan gathered read_log last_of lines_for lines_of replay_lines written text_of
case_a_lem = refl

-- ---- the same bytes, as they are recorded

abbrev pub master_a : Identity
master_a = record { clock = 0xC1D2E3F405162738; port = 0x495A }

abbrev pub config_a : Config
config_a =
    record {
      identity = record { clock = 0x0213243546576879; port = 0x8A9B };
      sdo = 0xA5C;
      domain = 0x7B;
      minor = 0x1;
      mechanism = Mechanism.EndToEnd;
      delay_interval = 0xFD;
      sync_interval = 0x02;
      asymmetry = lasting 0;
    }

-- from the master, with id 7
abbrev pub message_a : ℕ → Body → List ℕ
message_a flags b =
    message_bytes (header_for (record { sdo = 0xA5C; domain = 0x7B; minor = 0x0; identity = master_a }) (type_of b) flags 0 7 0xF9) b

abbrev pub events_a : List Event
events_a =
    set_state (NewState.Slave master_a)
    ∷ event (ns 1000) (message_a two_step_flag (Body.Sync (wire_ns 0)))
    ∷ general (message_a no_flag (Body.FollowUp (wire_ns 900)))
    ∷ []

pub case_a_recorded : config_bytes config_a ++ events_bytes events_a ≡ bytes
unfolding run_of field_bytes state_bytes config_bytes event_bytes events_bytes
case_a_recorded = refl
