-- Laws of the seven messages: what is made can be written and reads back, and exactly when nothing is made.
use Rattle.std.specs.Prelude.{ℕ, ◌+◌, ◌*◌, ◌/◌, ◌%◌, ◌^◌, ◌<◌, ◌≡◌, ◌↔◌, [], Result, Ok, Err}
use Rattle.std.proofs.Math.Path.{refl, ap}
use Rattle.std.proofs.Common.{sym, ◌∙◌, subst, append-nil, arith, lt_trans, lit<}
use Rattle.std.proofs.Math.Bool.{true}
use Rattle.time.specs.declared.Time.{Time}
use Rattle.time.specs.declared.WireTimestamp.{WireTimestamp}
use Rattle.time.specs.Units.{time_of_wire}
use Rattle.wire.specs.declared.Identity.{Identity}
use Rattle.wire.specs.declared.Header.{Header}
use Rattle.wire.specs.declared.MessageType.{MessageType}
use Rattle.wire.specs.declared.Body.{Body}
use Rattle.wire.specs.declared.Body.TheVariants as B
use Rattle.wire.specs.Layout.{row, body, type_of, timestamp_of, rest_in, rest_entries, header_entries, identity_entries, timestamp_entries, body_entries, message_entries, message_bytes, two_step_flag, sdo_id}
use Rattle.reading.specs.Reading.{read_of}
use Rattle.octets.specs.BytesLaws.{Fits}
use Rattle.octets.proofs.BytesLaws.{apart}
use Rattle.wire.specs.LayoutLaws.{InWidths}
use Rattle.wire.proofs.LayoutLaws.{length_message, row_bounds}
use Rattle.writing.specs.Writing.{fits_of, is_time}
use Rattle.writing.specs.WritingLaws.{fits_is, fits_when, write_when}
use Rattle.writing.specs.RoundTrips.{message_back}
use Rattle.sent.specs.declared.Sender.{Sender}
use Rattle.sent.specs.declared.Message.{Message}
use Rattle.sent.specs.Messages.{header_for, no_flag, no_interval, zero_timestamp, answer_stamp, follow_stamp, carrying, sync_of, delay_req_of, follow_up_of, p_delay_req_of, p_delay_resp_of, delay_resp_of, p_delay_resp_follow_up_of}
use Rattle.sent.specs.CarriedLaws.{HasRoom}
use Rattle.sent.proofs.CarriedLaws.{follow_room, answer_room}
use Rattle.time.specs.WireLaws.{read_in}
use Rattle.sent.specs.SentLaws.{InLimits, Sendable, Made}
use Rattle.time.specs.declared.TimeError.{TimeError}

-- ---- limits

-- a sdo id's high four bits, and its low eight
sdo_halves : (n : ℕ) → n < 4096 → (n / 256 < 16) × (n % 256 < 256)
sdo_halves n h = (omega arith, omega arith)

-- a byte of two halves
halves_small : (a b : ℕ) → a < 16 → b < 16 → a * 16 + b < 256
halves_small a b h k = omega arith

-- and both together are the sdo id that the header gives back
pub sdo_sent : (s : Sender) (t : MessageType) (flags correction id interval : ℕ) → sdo_id (header_for s t flags correction id interval) ≡ s.sdo
unfolding sdo_id header_for
sdo_sent s t flags correction id interval = omega arith

-- a header of ours has room for any body of its type whose numbers have room
pub header_fits : (s : Sender) (t : MessageType) (b : Body) (flags correction id interval : ℕ) → InLimits s → type_of b ≡ t → Fits (body_entries body b) → is_time (time_of_wire (timestamp_of b)) ≡ true → flags < 2 ^ 16 → correction < 2 ^ 64 → id < 2 ^ 16 → interval < 256 → fits_of (header_for s t flags correction id interval) b ≡ true
unfolding header_for message_entries header_entries identity_entries
header_fits s t b flags correction id interval l same f time g c i v =
    let (major, minor_sdo) = sdo_halves s.sdo l.sdo in
    fits_when (header_for s t flags correction id interval) b record {
      version = refl;
      number_is = ap (λ (x : MessageType). (row x).number) (sym same);
      length_is = ap (λ (x : MessageType). (row x).length) (sym same);
      major = major;
      minor = l.minor;
      each = (halves_small (s.sdo / 256) (row t).number major (row_bounds t).number, (halves_small s.minor 2 l.minor (lit< tt), ((row_bounds t).length, (l.domain, (minor_sdo, (g, (c, (lit< tt, (l.identity.clock, (l.identity.port, (i, ((row_bounds (type_of b)).control, (v, f)))))))))))));
      timed = time;
    }

-- ---- what is made can be sent

pub carrying_is : (x : Result (WireTimestamp × ℕ) TimeError) (message : WireTimestamp → ℕ → Message) (m : Message) → carrying x message ≡ Ok m → Made x message m
carrying_is (Ok (w, c)) message m e = record { timestamp = w; correction = c; carried = refl; made = cc }
carrying_is (Err TimeError.OutOfRange) message m e = absurd (apart cc)

-- what carries a stamp can be sent if it can with each stamp that may be carried
carrying_sends : (x : Result (WireTimestamp × ℕ) TimeError) (message : WireTimestamp → ℕ → Message) (m : Message) (n : ℕ) → ((w : WireTimestamp) (c : ℕ) → x ≡ Ok (w, c) → Sendable (message w c) n) → carrying x message ≡ Ok m → Sendable m n
carrying_sends x message m n each e =
    let a : Made x message m = carrying_is x message m e in
    subst (λ (y : Message). Sendable y n) a.made (each a.timestamp a.correction a.carried)

zero_room : HasRoom zero_timestamp 0
unfolding zero_timestamp
zero_room = record { seconds = lit< tt; nanos = lit< tt; correction = lit< tt }

requester_fits : (at : ℕ) (i : Identity) → InWidths i → Fits (identity_entries at i)
unfolding identity_entries
requester_fits at i w = (w.clock, (w.port, tt))

module _ (s : Sender) (l : InLimits s) where
  sends : (b : Body) (flags correction id interval : ℕ) → HasRoom (timestamp_of b) correction → Fits (rest_entries (body + 10) (rest_in b)) → flags < 2 ^ 16 → id < 2 ^ 16 → interval < 256 → Sendable (record { header = header_for s (type_of b) flags correction id interval; body = b }) (row (type_of b)).length
  unfolding body_entries timestamp_entries
  sends b flags correction id interval n rest f i v =
      let h : Header = header_for s (type_of b) flags correction id interval in
      let fit : fits_of h b ≡ true = header_fits s (type_of b) b flags correction id interval l refl (n.seconds, (lt_trans n.nanos (lit< tt), rest)) (ap is_time (read_in (timestamp_of b) n.seconds)) f n.correction i v in
      record {
        fits = fit;
        length_is = length_message h b;
        writes = λ room r. write_when h b room fit r;
        reads = ap read_of (sym (append-nil (message_bytes h b))) ∙ message_back h b (fits_is h b fit) [];
      }

  module _ (id : ℕ) (i : id < 2 ^ 16) where
    pub delay_req_sends : Sendable (delay_req_of s id) 44
    unfolding delay_req_of
    delay_req_sends = sends (B.DelayReq zero_timestamp) no_flag 0 id no_interval zero_room tt (lit< tt) i (lit< tt)

    pub pdelay_req_sends : Sendable (p_delay_req_of s id) 54
    unfolding p_delay_req_of
    pdelay_req_sends = sends (B.PDelayReq zero_timestamp) no_flag 0 id no_interval zero_room (lit< tt, tt) (lit< tt) i (lit< tt)

    pub sync_sends : (sync_interval : ℕ) → sync_interval < 256 → Sendable (sync_of s id sync_interval) 44
    unfolding sync_of
    sync_sends sync_interval v = sends (B.Sync zero_timestamp) two_step_flag 0 id sync_interval zero_room tt (lit< tt) i v

    pub follow_up_sends : (sync_interval : ℕ) → sync_interval < 256 → (t : Time) (m : Message) → follow_up_of s id sync_interval t ≡ Ok m → Sendable m 44
    unfolding follow_up_of
    follow_up_sends sync_interval v t m =
        carrying_sends (follow_stamp t) _ m 44
        (λ w c e. sends (B.FollowUp w) no_flag c id sync_interval (follow_room t w c e) tt (lit< tt) i v)

    pub pdelay_resp_follow_up_sends : (requester : Identity) → InWidths requester → (t : Time) (m : Message) → p_delay_resp_follow_up_of s id requester t ≡ Ok m → Sendable m 54
    unfolding p_delay_resp_follow_up_of
    pdelay_resp_follow_up_sends requester q t m =
        carrying_sends (follow_stamp t) _ m 54
        (λ w c e. sends (B.PDelayRespFollowUp w requester) no_flag c id no_interval (follow_room t w c e) (requester_fits (body + 10) requester q) (lit< tt) i (lit< tt))

  module _ (request : Header) (i : request.id < 2 ^ 16) (q : InWidths request.source) (t : Time) (m : Message) where
    pub pdelay_resp_sends : p_delay_resp_of s request t ≡ Ok m → Sendable m 54
    unfolding p_delay_resp_of
    pdelay_resp_sends =
        carrying_sends (answer_stamp request.correction t) _ m 54
        (λ w c e. sends (B.PDelayResp w request.source) two_step_flag c request.id no_interval (answer_room request.correction t w c e) (requester_fits (body + 10) request.source q) (lit< tt) i (lit< tt))

    pub delay_resp_sends : (delay_interval : ℕ) → delay_interval < 256 → delay_resp_of s request delay_interval t ≡ Ok m → Sendable m 54
    unfolding delay_resp_of
    delay_resp_sends delay_interval v =
        carrying_sends (answer_stamp request.correction t) _ m 54
        (λ w c e. sends (B.DelayResp w request.source) no_flag c request.id delay_interval (answer_room request.correction t w c e) (requester_fits (body + 10) request.source q) (lit< tt) i v)

-- ---- when nothing is made: exactly where nothing is carried

pub carrying_out : (x : Result (WireTimestamp × ℕ) TimeError) (message : WireTimestamp → ℕ → Message) → (carrying x message ≡ Err TimeError.OutOfRange) ↔ (x ≡ Err TimeError.OutOfRange)
carrying_out (Ok (w, c)) message = (λ e. absurd (apart cc), λ e. absurd (apart cc))
carrying_out (Err TimeError.OutOfRange) message = (λ e. refl, λ e. refl)

module _ (s : Sender) where
  pub follow_up_out : (id sync_interval : ℕ) (t : Time) → (follow_up_of s id sync_interval t ≡ Err TimeError.OutOfRange) ↔ (follow_stamp t ≡ Err TimeError.OutOfRange)
  unfolding follow_up_of
  follow_up_out id sync_interval t = carrying_out (follow_stamp t) _

  pub pdelay_resp_out : (request : Header) (t : Time) → (p_delay_resp_of s request t ≡ Err TimeError.OutOfRange) ↔ (answer_stamp request.correction t ≡ Err TimeError.OutOfRange)
  unfolding p_delay_resp_of
  pdelay_resp_out request t = carrying_out (answer_stamp request.correction t) _

  pub delay_resp_out : (request : Header) (delay_interval : ℕ) (t : Time) → (delay_resp_of s request delay_interval t ≡ Err TimeError.OutOfRange) ↔ (answer_stamp request.correction t ≡ Err TimeError.OutOfRange)
  unfolding delay_resp_of
  delay_resp_out request delay_interval t = carrying_out (answer_stamp request.correction t) _

  pub pdelay_resp_follow_up_out : (id : ℕ) (requester : Identity) (t : Time) → (p_delay_resp_follow_up_of s id requester t ≡ Err TimeError.OutOfRange) ↔ (follow_stamp t ≡ Err TimeError.OutOfRange)
  unfolding p_delay_resp_follow_up_of
  pdelay_resp_follow_up_out id requester t = carrying_out (follow_stamp t) _
