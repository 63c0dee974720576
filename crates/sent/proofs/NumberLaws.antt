-- Each definition's number, for all inputs: 7 exactly where the seconds leave 48 bits or the correction 64, and otherwise 0.
use Rattle.std.specs.Prelude.{ℕ, ◌<◌, ◌≡◌, refl, Bool, true, false, cond, ltb, ℤ, Result, Ok, Err}
use Rattle.std.proofs.Common.{ap, ◌∙◌, inl, lt-ltb, le-ltb}
use Rattle.std.proofs.Math.Decide.{dec_lt}
use Rattle.time.specs.declared.Time.{Time}
use Rattle.time.specs.declared.WireTimestamp.{WireTimestamp}
use Rattle.time.specs.Lemmas.Integers.{not_below}
use Rattle.wire.specs.declared.Identity.{Identity}
use Rattle.wire.specs.declared.Header.{Header}
use Rattle.sent.specs.declared.Sender.{Sender}
use Rattle.sent.specs.declared.Message.{Message}
use Rattle.sent.specs.Messages.{in_correction, word, correction_of, with_correction, answer_stamp, follow_stamp, carrying, follow_up_of, p_delay_resp_of, delay_resp_of, p_delay_resp_follow_up_of}
use Rattle.sent.specs.Numbers.{correction_number, carried_number, message_number}
use Rattle.sent.specs.CarriedLaws.{units_of, late_from, less_of, stamp_of}
use Rattle.sent.proofs.CarriedLaws.{follow_timely, follow_out_when, answer_timely, answer_out_when}
use Rattle.time.specs.declared.TimeError.{TimeError}

picked : (b : Bool) (c : ℕ) → correction_number (cond b (Ok c) (Err TimeError.OutOfRange)) ≡ cond b 0 7
picked true c = refl
picked false c = refl

pub correction_number_lem : (z : ℤ) → correction_number (correction_of z) ≡ cond (in_correction z) 0 7
unfolding correction_of
correction_number_lem z = picked (in_correction z) (word z)

pub follow_number : (t : Time) → carried_number (follow_stamp t) ≡ cond (ltb (units_of t) late_from) 0 7
follow_number t = go (dec_lt (units_of t) late_from)
  where
    go : Dec (units_of t < late_from) → carried_number (follow_stamp t) ≡ cond (ltb (units_of t) late_from) 0 7
    go (yes h) = rw (lt-ltb (units_of t) late_from h) (ap carried_number (follow_timely t h))
    go (no h) =
        let k = not_below (units_of t) late_from h in
        rw (le-ltb (units_of t) late_from k) (ap carried_number (follow_out_when t k))

with_number : (w : WireTimestamp) (k : Result ℕ TimeError) → carried_number (with_correction w k) ≡ correction_number k
with_number w (Ok c) = refl
with_number w (Err TimeError.OutOfRange) = refl

pub answer_number : (asked : ℕ) (t : Time) → carried_number (answer_stamp asked t) ≡ cond (ltb (units_of t) late_from) (cond (in_correction (less_of asked t)) 0 7) 7
answer_number asked t = go (dec_lt (units_of t) late_from)
  where
    go : Dec (units_of t < late_from) → carried_number (answer_stamp asked t) ≡ cond (ltb (units_of t) late_from) (cond (in_correction (less_of asked t)) 0 7) 7
    go (yes h) =
        rw (lt-ltb (units_of t) late_from h)
        (ap carried_number (answer_timely asked t h) ∙ with_number (stamp_of t) (correction_of (less_of asked t)) ∙ correction_number_lem (less_of asked t))
    go (no h) =
        let k = not_below (units_of t) late_from h in
        rw (le-ltb (units_of t) late_from k) (ap carried_number (answer_out_when asked t (inl k)))

-- ---- the messages

pub carrying_number : (x : Result (WireTimestamp × ℕ) TimeError) (message : WireTimestamp → ℕ → Message) → message_number (carrying x message) ≡ carried_number x
carrying_number (Ok (w, c)) message = refl
carrying_number (Err TimeError.OutOfRange) message = refl

module _ (s : Sender) where
  pub follow_up_number : (id sync_interval : ℕ) (t : Time) → message_number (follow_up_of s id sync_interval t) ≡ cond (ltb (units_of t) late_from) 0 7
  unfolding follow_up_of
  follow_up_number id sync_interval t = carrying_number (follow_stamp t) _ ∙ follow_number t

  pub pdelay_resp_number : (request : Header) (t : Time) → message_number (p_delay_resp_of s request t) ≡ cond (ltb (units_of t) late_from) (cond (in_correction (less_of request.correction t)) 0 7) 7
  unfolding p_delay_resp_of
  pdelay_resp_number request t = carrying_number (answer_stamp request.correction t) _ ∙ answer_number request.correction t

  pub delay_resp_number : (request : Header) (delay_interval : ℕ) (t : Time) → message_number (delay_resp_of s request delay_interval t) ≡ cond (ltb (units_of t) late_from) (cond (in_correction (less_of request.correction t)) 0 7) 7
  unfolding delay_resp_of
  delay_resp_number request delay_interval t = carrying_number (answer_stamp request.correction t) _ ∙ answer_number request.correction t

  pub pdelay_resp_follow_up_number : (id : ℕ) (requester : Identity) (t : Time) → message_number (p_delay_resp_follow_up_of s id requester t) ≡ cond (ltb (units_of t) late_from) 0 7
  unfolding p_delay_resp_follow_up_of
  pdelay_resp_follow_up_number id requester t = carrying_number (follow_stamp t) _ ∙ follow_number t
