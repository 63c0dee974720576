-- Worked examples, each computed: the seven messages as bytes, and the edges of what is carried. No two fields hold the same, but for what 01 fixes.
use Rattle.std.specs.Prelude.{◌+◌, ◌*◌, ◌^◌, ◌≡◌, refl, [], ◌∷◌, ◌++◌, Err}
use Rattle.time.specs.Units.{time, signed, wire_of}
use Rattle.octets.specs.Bytes.{spell, bytes_of}
use Rattle.wire.specs.Layout.{header_entries, identity_entries, timestamp_entries, body_entries, message_entries, message_bytes}
use Rattle.sent.specs.Messages.{header_for, zero_timestamp, correction_of, answer_stamp, follow_stamp, sync_of, delay_req_of, follow_up_of, p_delay_req_of, p_delay_resp_of, delay_resp_of, p_delay_resp_follow_up_of}
use Rattle.writing.specs.Examples.{stamp_bytes, requester_bytes}
use Rattle.sent.specs.Examples.{us, our_id, sync_interval, asks, at, stamp, zeros, six, head, bytes, bytes_in, Answers, NoAnswers, last, last_bytes}
use Rattle.time.specs.declared.TimeError.{TimeError}

-- ---- the seven messages

sync : bytes (sync_of us our_id sync_interval) ≡ head 0xA0 44 0x02 (six 0x00 0x00 0x00) 0x3A 0x3B 0x00 0x3C ++ zeros
unfolding sync_of header_for zero_timestamp message_bytes message_entries header_entries identity_entries timestamp_entries body_entries bytes_of spell
sync = refl

delay_req : bytes (delay_req_of us our_id) ≡ head 0xA1 44 0x00 (six 0x00 0x00 0x00) 0x3A 0x3B 0x01 0x7F ++ zeros
unfolding delay_req_of header_for zero_timestamp message_bytes message_entries header_entries identity_entries timestamp_entries body_entries bytes_of spell
delay_req = refl

pdelay_req : bytes (p_delay_req_of us our_id) ≡ head 0xA2 54 0x00 (six 0x00 0x00 0x00) 0x3A 0x3B 0x05 0x7F ++ zeros ++ zeros
unfolding p_delay_req_of header_for zero_timestamp message_bytes message_entries header_entries identity_entries timestamp_entries body_entries bytes_of spell
pdelay_req = refl

-- the fraction's low 16 bits are cut
follow_up : bytes_in (follow_up_of us our_id sync_interval (stamp 0xABCDEF01)) ≡ head 0xA8 44 0x00 (six 0x00 0xAB 0xCD) 0x3A 0x3B 0x02 0x3C ++ stamp_bytes
unfolding follow_up_of follow_stamp time wire_of header_for message_bytes message_entries header_entries identity_entries timestamp_entries body_entries bytes_of spell
follow_up = refl

pdelay_resp_follow_up : bytes_in (p_delay_resp_follow_up_of us our_id (asks 0).source (stamp 0xABCDEF01)) ≡ head 0xAA 54 0x00 (six 0x00 0xAB 0xCD) 0x3A 0x3B 0x05 0x7F ++ stamp_bytes ++ requester_bytes
unfolding p_delay_resp_follow_up_of follow_stamp time wire_of header_for message_bytes message_entries header_entries identity_entries timestamp_entries body_entries bytes_of spell
pdelay_resp_follow_up = refl

answers : Answers 0x25262728292A2B2C (stamp 0xABCDEF01) (0x25 ∷ 0x26 ∷ 0x27 ∷ 0x28 ∷ 0x29 ∷ 0x29 ∷ 0x7F ∷ 0x5F ∷ []) stamp_bytes
unfolding delay_resp_of p_delay_resp_of answer_stamp time wire_of signed correction_of header_for message_bytes message_entries header_entries identity_entries timestamp_entries body_entries bytes_of spell
answers = (refl, refl)

-- ---- an answer's correction: above zero, below it, and the lowest that 64 bits hold

five_less : Answers 5 (stamp 0x0003EF01) (six 0x00 0x00 0x02) stamp_bytes
unfolding delay_resp_of p_delay_resp_of answer_stamp time wire_of signed correction_of header_for message_bytes message_entries header_entries identity_entries timestamp_entries body_entries bytes_of spell
five_less = (refl, refl)

minus_one : Answers 0 (stamp 0x0001EF01) (six 0xFF 0xFF 0xFF) stamp_bytes
unfolding delay_resp_of p_delay_resp_of answer_stamp time wire_of signed correction_of header_for message_bytes message_entries header_entries identity_entries timestamp_entries body_entries bytes_of spell
minus_one = (refl, refl)

lowest : Answers (2 ^ 63 + 1) (stamp 0x0001EF01) (0x80 ∷ 0x00 ∷ 0x00 ∷ 0x00 ∷ 0x00 ∷ 0x00 ∷ 0x00 ∷ 0x00 ∷ []) stamp_bytes
unfolding delay_resp_of p_delay_resp_of answer_stamp time wire_of signed correction_of header_for message_bytes message_entries header_entries identity_entries timestamp_entries body_entries bytes_of spell
lowest = (refl, refl)

below_lowest : NoAnswers (2 ^ 63) (stamp 0x0001EF01)
unfolding delay_resp_of p_delay_resp_of answer_stamp time wire_of signed correction_of
below_lowest = (refl, refl)

-- ---- seconds: one unit below 2 ^ 48 of them, and as many

last_followed : bytes_in (follow_up_of us our_id sync_interval last) ≡ head 0xA8 44 0x00 (six 0x00 0xFF 0xFF) 0x3A 0x3B 0x02 0x3C ++ last_bytes
unfolding follow_up_of follow_stamp time wire_of header_for message_bytes message_entries header_entries identity_entries timestamp_entries body_entries bytes_of spell
last_followed = refl

last_answered : Answers 5 last (six 0xFF 0x00 0x06) last_bytes
unfolding delay_resp_of p_delay_resp_of answer_stamp time wire_of signed correction_of header_for message_bytes message_entries header_entries identity_entries timestamp_entries body_entries bytes_of spell
last_answered = (refl, refl)

late_not_followed : (follow_up_of us our_id sync_interval (at (2 ^ 48 * 10 ^ 9) 0) ≡ Err TimeError.OutOfRange) × (p_delay_resp_follow_up_of us our_id (asks 0).source (at (2 ^ 48 * 10 ^ 9) 0) ≡ Err TimeError.OutOfRange)
unfolding follow_up_of p_delay_resp_follow_up_of follow_stamp time wire_of
late_not_followed = (refl, refl)

late_not_answered : NoAnswers 5 (at (2 ^ 48 * 10 ^ 9) 0)
unfolding delay_resp_of p_delay_resp_of answer_stamp time wire_of
late_not_answered = (refl, refl)
