-- What the laws of proofs/IeeeExamples.antt speak of.
use Rattle.std.specs.Prelude.{ℕ, ◌*◌, ◌^◌, Bool, true, ◌&&◌, List, [], ◌∷◌, ltb, ℤ, pos}
use Rattle.time.specs.Units.{correction}
use Rattle.wire.specs.declared.MessageType.{MessageType}
use Rattle.wire.specs.Layout.{two_step_flag}
use Rattle.sent.specs.Messages.{header_for, no_flag, no_interval}
use Rattle.record.specs.Record.{port_of}
use Rattle.rules.specs.Names.{Identity, Header, Body, Mechanism, Port, Context}
use Rattle.rules.specs.Events.{event, general, stamp, delay_timer, Answered}
use Rattle.rules.specs.Step.{step}
use Rattle.rules.specs.Ieee.{WireFields}
use Rattle.rules.specs.Running.{us, master, ns, lasting, set_up, slave, speaker, message, wire_ns, two_step_sync_of, follow_up_at}

-- ---- the formulas: timestamps and corrections in nanoseconds

abbrev pub fields : ℕ → ℕ → WireFields
fields n c = record { timestamp = wire_ns n; correction_field = c * 2 ^ 16 }

abbrev pub nano : ℕ → ℤ
nano n = pos (n * 2 ^ 32)

-- ---- the theorems, met by runs: what each event brings, and that it is Taken, computes

abbrev pub said : Identity → MessageType → ℕ → ℕ → ℕ → Header
said source type flags correction id = header_for (speaker source) type flags correction id no_interval

abbrev pub synced : Answered
synced = step (step (slave 10) 64 (event (ns 1000) (two_step_sync_of 7))).port 64 (general (follow_up_at 7 900))

abbrev pub delay_resp : List ℕ
delay_resp = message master no_flag 0 0 (Body.DelayResp (wire_ns 1990) us)

abbrev pub answer : List ℕ
answer = message master two_step_flag 0 0 (Body.PDelayResp (wire_ns 5000) us)

abbrev pub answer_follow_up : List ℕ
answer_follow_up = message master no_flag 0 0 (Body.PDelayRespFollowUp (wire_ns 5040) us)

abbrev pub asker : Port
asker = set_up Mechanism.Peer 10

-- ---- both ends of a link: the request that one port sends at 1,000 ns comes to the other, whose answer is measured

unfoldable pub small : List ℕ → Bool
small [] = true
small (x ∷ xs) = ltb x 256 && small xs

-- the responder has another identity
abbrev pub responder : Port
responder =
    port_of record { identity = master; sdo = 0xA22; domain = 0x21; minor = 0x1; mechanism = Mechanism.Peer; delay_interval = 0x00; sync_interval = 0x00; asymmetry = lasting 0 }

abbrev pub request : Answered
request = step asker 64 (delay_timer 0)

abbrev pub response : Answered
response = step responder 64 (event (ns 5000) request.sent)

abbrev pub response_follow_up : Answered
response_follow_up = step response.port 64 (stamp (ns 5040) (Context.PDelayResp 0 us))

abbrev pub asked_at : Port
asked_at = (step request.port 64 (stamp (ns 1000) (Context.PDelayReq 0))).port
