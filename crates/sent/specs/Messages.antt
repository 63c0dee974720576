-- Document 01, 'Sent messages': header and body values of the seven messages, in the order of its table.
use Rattle.std.specs.Prelude.{ℕ, suc, ◌-◌, ◌/◌, ◌%◌, ◌^◌, Bool, cond, ℤ, pos, negsuc, neg_ℤ, ◌-ℤ◌, Result, Ok, Err}
use Rattle.time.specs.declared.Time.{Time}
use Rattle.time.specs.declared.WireTimestamp.{WireTimestamp}
use Rattle.time.specs.Units.{within, time, signed, wire_of}
use Rattle.wire.specs.declared.Identity.{Identity}
use Rattle.wire.specs.declared.Header.{Header}
use Rattle.wire.specs.declared.MessageType.{MessageType}
use Rattle.wire.specs.declared.MessageType.TheVariants as M
use Rattle.wire.specs.declared.Body.TheVariants as B
use Rattle.wire.specs.Layout.{row, two_step_flag}
use Rattle.sent.specs.declared.Sender.{Sender}
use Rattle.sent.specs.declared.Message.{Message}
use Rattle.time.specs.declared.TimeError.{TimeError}

-- ---- the parts

-- what a header has of its sender. The sdo id's high four bits stand in byte 0, its low eight in byte 5
unfoldable pub header_for : Sender → MessageType → ℕ → ℕ → ℕ → ℕ → Header
header_for s t flags correction id interval =
    record {
      major_sdo = s.sdo / 256;
      kind = (row t).number;
      minor = s.minor;
      version = 2;
      length = (row t).length;
      domain = s.domain;
      minor_sdo = s.sdo % 256;
      flags = flags;
      correction = correction;
      source = s.identity;
      id = id;
      interval = interval;
    }

-- two-step is set on Sync and PDelayResp, and no other flag is
abbrev pub no_flag : ℕ
no_flag = 0

-- the log interval that is sent where none is told
abbrev pub no_interval : ℕ
no_interval = 0x7f

-- the origin time in Sync and in both requests
unfoldable pub zero_timestamp : WireTimestamp
zero_timestamp = record { seconds = 0; nanos = 0 }

-- what 64 bits hold
abbrev pub in_correction : ℤ → Bool
in_correction z = within (neg_ℤ (pos (2 ^ 63))) (pos (2 ^ 63 - 1)) z

-- the correction field of so many 2 ^ -16 ns, or `OutOfRange` where 64 bits do not hold it
abbrev pub word : ℤ → ℕ
word (pos n) = n
word (negsuc n) = 2 ^ 64 - suc n

unfoldable pub correction_of : ℤ → Result ℕ TimeError
correction_of z = cond (in_correction z) (Ok (word z)) (Err TimeError.OutOfRange)

-- ---- what is carried of a stamp: its timestamp, and in the correction f, the first 16 bits of what is left of a nanosecond. `OutOfRange` where the seconds leave 48 bits, or the correction 64

-- DelayResp and PDelayResp carry the request's correction less f
abbrev pub with_correction : WireTimestamp → Result ℕ TimeError → Result (WireTimestamp × ℕ) TimeError
with_correction w (Ok c) = Ok (w, c)
with_correction w (Err e) = Err TimeError.OutOfRange

abbrev pub less_fraction : ℕ → Result (WireTimestamp × ℕ) TimeError → Result (WireTimestamp × ℕ) TimeError
less_fraction c (Ok (w, f)) = with_correction w (correction_of (signed 64 c -ℤ pos f))
less_fraction c (Err e) = Err TimeError.OutOfRange

unfoldable pub answer_stamp : ℕ → Time → Result (WireTimestamp × ℕ) TimeError
answer_stamp asked received = less_fraction asked (wire_of (time received))

-- FollowUp and PDelayRespFollowUp carry f
abbrev pub fraction : Result (WireTimestamp × ℕ) TimeError → Result (WireTimestamp × ℕ) TimeError
fraction (Ok (w, f)) = Ok (w, f)
fraction (Err e) = Err TimeError.OutOfRange

unfoldable pub follow_stamp : Time → Result (WireTimestamp × ℕ) TimeError
follow_stamp sent = fraction (wire_of (time sent))

-- a message with what is carried, if that is not `OutOfRange`
abbrev pub carrying : Result (WireTimestamp × ℕ) TimeError → (WireTimestamp → ℕ → Message) → Result Message TimeError
carrying (Ok (w, c)) message = Ok (message w c)
carrying (Err e) message = Err TimeError.OutOfRange

-- ---- the messages

unfoldable pub sync_of : Sender → ℕ → ℕ → Message
sync_of s id sync_interval = record { header = header_for s M.Sync two_step_flag 0 id sync_interval; body = B.Sync zero_timestamp }

unfoldable pub delay_req_of : Sender → ℕ → Message
delay_req_of s id = record { header = header_for s M.DelayReq no_flag 0 id no_interval; body = B.DelayReq zero_timestamp }

unfoldable pub follow_up_of : Sender → ℕ → ℕ → Time → Result Message TimeError
follow_up_of s id sync_interval sent =
    carrying (follow_stamp sent) (λ w c. record { header = header_for s M.FollowUp no_flag c id sync_interval; body = B.FollowUp w })

unfoldable pub p_delay_req_of : Sender → ℕ → Message
p_delay_req_of s id = record { header = header_for s M.PDelayReq no_flag 0 id no_interval; body = B.PDelayReq zero_timestamp }

-- answers copy the request's id and name its source as requester
unfoldable pub p_delay_resp_of : Sender → Header → Time → Result Message TimeError
p_delay_resp_of s request received =
    carrying (answer_stamp request.correction received)
    (λ w c. record { header = header_for s M.PDelayResp two_step_flag c request.id no_interval; body = B.PDelayResp w request.source })

unfoldable pub delay_resp_of : Sender → Header → ℕ → Time → Result Message TimeError
delay_resp_of s request delay_interval received =
    carrying (answer_stamp request.correction received)
    (λ w c. record { header = header_for s M.DelayResp no_flag c request.id delay_interval; body = B.DelayResp w request.source })

unfoldable pub p_delay_resp_follow_up_of : Sender → ℕ → Identity → Time → Result Message TimeError
p_delay_resp_follow_up_of s id requester sent =
    carrying (follow_stamp sent)
    (λ w c. record { header = header_for s M.PDelayRespFollowUp no_flag c id no_interval; body = B.PDelayRespFollowUp w requester })
