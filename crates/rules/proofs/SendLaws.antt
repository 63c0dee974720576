-- The messages that carry a stamp beside their sent fields: nothing is made exactly where the seconds leave 48 bits or the correction 64.
use Rattle.std.specs.Prelude.{ℕ, ◌-◌, ◌/◌, ◌^◌, ◌<◌, ◌≤◌, ◌≡◌, refl, Bool, true, cond, ◌⊎◌, List, [], ◌∷◌, ltb, pos, Result, Ok, Err}
use Rattle.std.proofs.Math.Path.{sym}
use Rattle.std.proofs.Common.{◌∙◌, ap, inl, inr, append-nil, arith}
use Rattle.std.proofs.Math.Bool.{false}
use Rattle.std.proofs.lemmas.Bool.{false≢true}
use Rattle.std.proofs.Math.Decide.{dec_lt}
use Rattle.std.proofs.Math.Dec.{leb-zero, leb-suc-suc}
use borrow.Author.Tests.{lt-ltb, le-ltb}
use Rattle.rules.specs.Names.{Time, WireTimestamp, Identity, Header, Message, Port, Action, Context, TimeError}
use Rattle.time.specs.Units.{time}
use Rattle.time.specs.Lemmas.Integers.{not_below}
use Rattle.sent.specs.Messages.{in_correction, follow_stamp, answer_stamp, carrying, follow_up_of, delay_resp_of, p_delay_resp_of, p_delay_resp_follow_up_of}
use Rattle.sent.specs.CarriedLaws.{units_of, late_from, less_of}
use Rattle.sent.proofs.CarriedLaws.{follow_out_when, follow_out_is, answer_out_when, answer_out_is}
use Rattle.octets.proofs.BytesLaws.{apart}
use Rattle.record.specs.Record.{is_master}
use Rattle.rules.specs.Worked.{worked, ◌then◌, a_message}
use Rattle.rules.specs.Events.{sending}
use Rattle.rules.specs.Rules.{delay_req, p_delay_req, stamped}
use Rattle.rules.specs.WorkedOut.{Number, seconds, in_range, outside, seconds_of, less_f, sent_fields, no_sums, stamp_sums}
use Rattle.rules.proofs.AgreeLaws.{by_test, passed, failed}
use Rattle.rules.specs.MeasureLaws.{SumsJudged}
use Rattle.rules.specs.SendLaws.{Carries}

-- ---- the fields

seconds_in : (m : ℕ) → in_range seconds (pos m) ≡ ltb m (2 ^ 48)
seconds_in m = simp (leb-zero m) (sym (leb-suc-suc m (2 ^ 48 - 1)))

short : (n : ℕ) → n < late_from → n / 2 ^ 32 / 10 ^ 9 < 2 ^ 48
short n h = omega arith

long : (n : ℕ) → late_from ≤ n → 2 ^ 48 ≤ n / 2 ^ 32 / 10 ^ 9
long n h = omega arith

module _ (t : Time) (ns : List Number) where
  pub timely : units_of t < late_from → outside (seconds_of t ∷ ns) ≡ outside ns
  unfolding time
  timely h = sym (passed _ (outside ns) (seconds_in (units_of t / 2 ^ 32 / 10 ^ 9) ∙ lt-ltb (units_of t / 2 ^ 32 / 10 ^ 9) (2 ^ 48) (short (units_of t) h)))

  pub late : late_from ≤ units_of t → outside (seconds_of t ∷ ns) ≡ true
  unfolding time
  late h = failed _ (outside ns) (seconds_in (units_of t / 2 ^ 32 / 10 ^ 9) ∙ le-ltb (units_of t / 2 ^ 32 / 10 ^ 9) (2 ^ 48) (long (units_of t) h))

-- ---- what is carried: nothing exactly where a field is out of range

-- from both directions of a law
carries : (ns : List Number) (x : Result (WireTimestamp × ℕ) TimeError) → ((outside ns ≡ true → x ≡ Err TimeError.OutOfRange)) → (x ≡ Err TimeError.OutOfRange → outside ns ≡ true) → Carries ns x
carries ns (Ok (w, c)) f g = go (outside ns) refl
  where
    go : (b : Bool) → outside ns ≡ b → outside ns ≡ false
    go true e =
        let x : ◌≡◌ {A = Result (WireTimestamp × ℕ) TimeError} (Ok (w, c)) (Err TimeError.OutOfRange) = f e in
        absurd (apart cc)
    go false e = e
carries ns (Err TimeError.OutOfRange) f g = g refl

pub follow_carries : (t : Time) → Carries (seconds_of t ∷ []) (follow_stamp t)
follow_carries t = carries (seconds_of t ∷ []) (follow_stamp t) (λ e. go e (dec_lt (units_of t) late_from)) (λ e. late t [] (follow_out_is t e))
  where
    go : outside (seconds_of t ∷ []) ≡ true → Dec (units_of t < late_from) → follow_stamp t ≡ Err TimeError.OutOfRange
    go e (yes h) =
        let x : false ≡ true = sym (timely t [] h) ∙ e in
        absurd (false≢true x)
    go e (no h) = follow_out_when t (not_below (units_of t) late_from h)

module _ (h : Header) (t : Time) where
  abbrev fields : List Number
  fields = seconds_of t ∷ less_f h t ∷ []

  room_for : in_correction (less_of h.correction t) ≡ true → outside (less_f h t ∷ []) ≡ false
  unfolding time
  room_for e = sym (passed (in_correction (less_of h.correction t)) false e)

  no_room : in_correction (less_of h.correction t) ≡ false → outside (less_f h t ∷ []) ≡ true
  unfolding time
  no_room e = failed (in_correction (less_of h.correction t)) false e

  too_late_lem : outside fields ≡ true → Dec (units_of t < late_from) → (b : Bool) → in_correction (less_of h.correction t) ≡ b → answer_stamp h.correction t ≡ Err TimeError.OutOfRange
  too_late_lem e (no k) b i = answer_out_when h.correction t (inl (not_below (units_of t) late_from k))
  too_late_lem e (yes k) false i = answer_out_when h.correction t (inr i)
  too_late_lem e (yes k) true i = absurd (false≢true (sym (timely t (less_f h t ∷ []) k ∙ room_for i) ∙ e))

  out_of : (late_from ≤ units_of t) ⊎ (in_correction (less_of h.correction t) ≡ false) → Dec (units_of t < late_from) → outside fields ≡ true
  out_of (inl k) d = late t (less_f h t ∷ []) k
  out_of (inr i) (yes k) = timely t (less_f h t ∷ []) k ∙ no_room i
  out_of (inr i) (no k) = late t (less_f h t ∷ []) (not_below (units_of t) late_from k)

  pub answer_carries : Carries fields (answer_stamp h.correction t)
  answer_carries =
      carries fields (answer_stamp h.correction t)
      (λ e. too_late_lem e (dec_lt (units_of t) late_from) (in_correction (less_of h.correction t)) refl)
      (λ e. out_of (answer_out_is h.correction t e) (dec_lt (units_of t) late_from))

-- ---- the rules

-- a message that carries a stamp, sent by a rule
pub sent_judged : (p : Port) (ns : List Number) (x : Result (WireTimestamp × ℕ) TimeError) (message : WireTimestamp → ℕ → Message) (a : Action) → Carries ns x → SumsJudged p (sent_fields ns) (a_message (carrying x message) then λ m. worked (sending p [] m a))
sent_judged p ns (Ok (w, c)) message a e = (ap (λ (l : List Number). outside l) (append-nil ns) ∙ e, tt)
sent_judged p ns (Err TimeError.OutOfRange) message a e = (refl, ap (λ (l : List Number). outside l) (append-nil ns) ∙ e)

module _ (p : Port) where
  pub pdelay_req_sums : (h : Header) (at : Time) → SumsJudged p (sent_fields (seconds_of at ∷ less_f h at ∷ [])) (p_delay_req p h at)
  unfolding p_delay_req p_delay_resp_of
  pdelay_req_sums h at = sent_judged p (seconds_of at ∷ less_f h at ∷ []) (answer_stamp h.correction at) _ _ (answer_carries h at)

  pub delay_req_sums : (h : Header) (at : Time) → SumsJudged p (cond (is_master p.state) (sent_fields (seconds_of at ∷ less_f h at ∷ [])) no_sums) (delay_req p h at)
  unfolding delay_req delay_resp_of
  delay_req_sums h at =
      by_test (λ b w. SumsJudged p (cond b (sent_fields (seconds_of at ∷ less_f h at ∷ [])) no_sums) w) (is_master p.state) _ _
      (sent_judged p (seconds_of at ∷ less_f h at ∷ []) (answer_stamp h.correction at) _ _ (answer_carries h at))
      (refl, tt)

  pub sync_stamp_sums : (id : ℕ) (t : Time) → SumsJudged p (stamp_sums p t (Context.Sync id)) (stamped p t (Context.Sync id))
  unfolding stamped follow_up_of
  sync_stamp_sums id t =
      by_test (λ b w. SumsJudged p (cond b (sent_fields (seconds_of t ∷ [])) no_sums) w) (is_master p.state) _ _
      (sent_judged p (seconds_of t ∷ []) (follow_stamp t) _ _ (follow_carries t))
      (refl, tt)

  pub response_stamp_sums : (id : ℕ) (requester : Identity) (t : Time) → SumsJudged p (stamp_sums p t (Context.PDelayResp id requester)) (stamped p t (Context.PDelayResp id requester))
  unfolding stamped p_delay_resp_follow_up_of
  response_stamp_sums id requester t = sent_judged p (seconds_of t ∷ []) (follow_stamp t) _ _ (follow_carries t)
