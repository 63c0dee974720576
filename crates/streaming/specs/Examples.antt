-- What the laws of proofs/Examples.antt speak of.
use Rattle.std.specs.Prelude.{ℕ, List, [], ◌∷◌, ◌++◌, replicate, Option}
use Rattle.record.specs.declared.Config.{Config}
use Rattle.record.specs.declared.Mechanism.{Mechanism}
use Rattle.record.specs.declared.Context.{Context}
use Rattle.record.specs.declared.NewState.{NewState}
use Rattle.rules.specs.Events.{Event, event, stamp, filter_answer, set_state}
use Rattle.time.specs.declared.Duration.{Duration}

-- clock 258, port 7, sdo id 256, domain 4, minor 1, peer, interval bytes 3 and 255, asymmetry 9
abbrev pub configuration : List ℕ
configuration = 0x0F ∷ 0 ∷ 33 ∷ (replicate 6 0 ++ (1 ∷ 2 ∷ 0 ∷ 7 ∷ 1 ∷ 0 ∷ 4 ∷ 1 ∷ 1 ∷ 3 ∷ 255 ∷ [])) ++ (replicate 15 0 ++ (9 ∷ []))

abbrev pub config : Config
config =
    record {
      identity = record { clock = 258; port = 7 };
      sdo = 256;
      domain = 4;
      minor = 1;
      mechanism = Mechanism.Peer;
      delay_interval = 3;
      sync_interval = 255;
      asymmetry = record { hi = 0; lo = 9 };
    }

-- the message 65 66 67, received at time 2^64 + 5
abbrev pub message : List ℕ
message = 0x10 ∷ 0 ∷ 25 ∷ 1 ∷ 0 ∷ 16 ∷ (replicate 7 0 ++ (1 ∷ replicate 7 0 ++ (5 ∷ 2 ∷ 0 ∷ 3 ∷ 65 ∷ 66 ∷ 67 ∷ [])))

abbrev pub timer : List ℕ
timer = 0x13 ∷ 0 ∷ 0 ∷ []

-- a timer's field that holds a byte
abbrev pub wrong : List ℕ
wrong = 0x13 ∷ 0 ∷ 1 ∷ 9 ∷ []

abbrev pub heard : Event
heard = event (record { hi = 1; lo = 5 }) (65 ∷ 66 ∷ 67 ∷ [])

-- ---- the other kinds, each with its size

-- an empty message, a stamp of kind 3 with its identity, a draw
abbrev pub three : List ℕ
three =
    (0x11 ∷ 0 ∷ 3 ∷ 2 ∷ 0 ∷ 0 ∷ [])
    ++ ((0x12 ∷ 0 ∷ 35 ∷ 1 ∷ 0 ∷ 16 ∷ replicate 15 0 ++ (8 ∷ 3 ∷ 0 ∷ 13 ∷ 3 ∷ 1 ∷ 2 ∷ replicate 7 0 ++ (6 ∷ 0 ∷ 4 ∷ [])))
    ++ (0x14 ∷ 0 ∷ 11 ∷ 4 ∷ 0 ∷ 8 ∷ replicate 6 0 ++ (1 ∷ 0 ∷ [])))

abbrev pub stamped : Event
stamped = stamp (record { hi = 0; lo = 8 }) (Context.PDelayResp 258 (record { clock = 6; port = 4 }))

-- a filter's answer with both of its fields, with one and with none; a state with its master
abbrev pub answers : List ℕ
answers =
    (0x15 ∷ 0 ∷ 30 ∷ 5 ∷ 0 ∷ 16 ∷ replicate 15 0 ++ (3 ∷ 6 ∷ 0 ∷ 8 ∷ replicate 7 0 ++ (2 ∷ [])))
    ++ ((0x15 ∷ 0 ∷ 11 ∷ 6 ∷ 0 ∷ 8 ∷ replicate 7 0 ++ (2 ∷ []))
    ++ (0x15 ∷ 0 ∷ 0 ∷ 0x16 ∷ 0 ∷ 14 ∷ 7 ∷ 0 ∷ 11 ∷ 4 ∷ replicate 7 0 ++ (6 ∷ 0 ∷ 4 ∷ [])))

abbrev pub answer : Option Duration → Option ℕ → Event
answer d n = filter_answer (record { mean_delay = d; next_update = n })

abbrev pub slave : Event
slave = set_state (NewState.Slave (record { clock = 6; port = 4 }))
