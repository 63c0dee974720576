-- The seven messages, as the port makes them, tell what `Sending` says of each; and no two messages tell the same.
use Rattle.std.specs.Prelude.{◌≡◌, refl, Bool, true, false, cond, ℕ, suc, ◌+◌, ◌-◌, ◌*◌, ◌/◌, ◌%◌, ◌^◌, ◌<◌, eqb, pos, negsuc, nat_abs, Option, Some, None, Result, Ok, Err}
use Rattle.std.proofs.Math.Path.{sym, subst}
use Rattle.std.proofs.Common.{ap, ◌∙◌, inl, arith, lit<}
use Rattle.std.proofs.Math.Decide.{dec_lt}
use Rattle.time.specs.Units.{time, signed}
use Rattle.time.specs.Laws.{signed_low, signed_high}
use Rattle.time.specs.Lemmas.Integers.{not_below, sub_lt}
use Rattle.wire.specs.declared.MessageType.TheVariants as M
use Rattle.octets.proofs.BytesLaws.{apart}
use Rattle.wire.specs.Layout.{type_of, timestamp_of, rest_in, sdo_id, two_step, two_step_flag}
use Rattle.sent.proofs.Laws.{correction_is}
use Rattle.sent.specs.CarriedLaws.{units_of, fraction_of, late_from, less_of, stamp_of}
use Rattle.sent.proofs.CarriedLaws.{follow_room, answer_room, follow_timely, follow_out_when, answer_timely, answer_out_when}
use Rattle.sent.specs.Messages.{header_for, zero_timestamp, correction_of, with_correction, answer_stamp, follow_stamp, sync_of, follow_up_of, delay_req_of, delay_resp_of, p_delay_req_of, p_delay_resp_of, p_delay_resp_follow_up_of}
use Rattle.sent.proofs.SentLaws.{sdo_sent, carrying_is}
use Rattle.rules.specs.Names.{Body, Time, WireTimestamp, Header, Identity, Message, Config, TimeError}
use Rattle.rules.specs.Rules.{sender_of}
use Rattle.rules.specs.Sending.{Carries, no_time, left, came, Due, own_due, answer_due, is_followed, flags_in, interval_in, requester_in, Sends, Fulfils}
use Rattle.rules.specs.DueLaws.{Carrying, body_from}

flag_read : (b : Bool) → eqb (cond b two_step_flag 0 / two_step_flag % 2) 1 ≡ b
flag_read true = refl
flag_read false = refl

-- ---- what is carried of a time

no_time_lem : Carrying no_time zero_timestamp 0
unfolding zero_timestamp signed
no_time_lem = record { seconds = refl; nanos = refl; correction_is = refl; fits = lit< tt }

left_is : (t : Time) (w : WireTimestamp) (c : ℕ) → follow_stamp t ≡ Ok (w, c) → Carrying (left t) w c
unfolding time
left_is t w c e = go (dec_lt (units_of t) late_from)
  where
    go : Dec (units_of t < late_from) → Carrying (left t) w c
    go (yes k) =
        let same : ◌≡◌ {A = Result (WireTimestamp × ℕ) TimeError} (Ok (stamp_of t, fraction_of t)) (Ok (w, c)) = sym (follow_timely t k) ∙ e in
        let parts : ◌≡◌ {A = WireTimestamp × ℕ} (stamp_of t, fraction_of t) (w, c) = cc in
        let stamp_same : stamp_of t ≡ w = ap (λ (x : WireTimestamp × ℕ). x.0) parts in
        let f_same : fraction_of t ≡ c = ap (λ (x : WireTimestamp × ℕ). x.1) parts in
        record {
          seconds = ap (λ (v : WireTimestamp). v.seconds) (sym stamp_same);
          nanos = ap (λ (v : WireTimestamp). v.nanos) (sym stamp_same);
          correction_is = ap (signed 64) (sym f_same) ∙ signed_low 64 (fraction_of t) (omega arith);
          fits = (follow_room t w c e).correction;
        }
    go (no k) =
        let out : ◌≡◌ {A = Result (WireTimestamp × ℕ) TimeError} (Err TimeError.OutOfRange) (Ok (w, c)) = sym (follow_out_when t (not_below (units_of t) late_from k)) ∙ e in
        absurd (apart cc)

with_is : (v w : WireTimestamp) (k : Result ℕ TimeError) (c : ℕ) → with_correction v k ≡ Ok (w, c) → (v ≡ w) × (k ≡ Ok c)
with_is v w (Ok b) c e =
    let parts : ◌≡◌ {A = WireTimestamp × ℕ} (v, b) (w, c) = cc in
    (ap (λ (x : WireTimestamp × ℕ). x.0) parts, ap (λ (x : WireTimestamp × ℕ). Ok x.1) parts)
with_is v w (Err TimeError.OutOfRange) c e = absurd (apart cc)

came_is : (asked : ℕ) (t : Time) (w : WireTimestamp) (c : ℕ) → answer_stamp asked t ≡ Ok (w, c) → Carrying (came t asked) w c
unfolding time
came_is asked t w c e = go (dec_lt (units_of t) late_from)
  where
    go : Dec (units_of t < late_from) → Carrying (came t asked) w c
    go (yes k) =
        let (stamp_same, less_same) = with_is (stamp_of t) w (correction_of (less_of asked t)) c (sym (answer_timely asked t k) ∙ e) in
        record {
          seconds = ap (λ (v : WireTimestamp). v.seconds) (sym stamp_same);
          nanos = ap (λ (v : WireTimestamp). v.nanos) (sym stamp_same);
          correction_is = (correction_is (less_of asked t) c less_same).value;
          fits = (answer_room asked t w c e).correction;
        }
    go (no k) =
        let out : ◌≡◌ {A = Result (WireTimestamp × ℕ) TimeError} (Err TimeError.OutOfRange) (Ok (w, c)) = sym (answer_out_when asked t (inl (not_below (units_of t) late_from k))) ∙ e in
        absurd (apart cc)

-- ---- the seven messages

module _ (c : Config) where
  -- with flags and interval as its type has them, and any body of the type
  tells : (b : Body) (correction id : ℕ) (x : Carries) → Carrying x (timestamp_of b) correction → Fulfils c (record { message = type_of b; id = id; requester = requester_in (rest_in b); carries = x }) (record { header = header_for (sender_of c) (type_of b) (flags_in (type_of b)) correction id (interval_in c (type_of b)); body = b })
  unfolding header_for two_step
  tells b correction id x k =
      record {
        kind = refl;
        stated = refl;
        body = refl;
        id = refl;
        requester = refl;
        source = refl;
        domain = refl;
        sdo = sdo_sent (sender_of c) (type_of b) (flags_in (type_of b)) correction id (interval_in c (type_of b));
        sdo_low = omega arith;
        version = refl;
        minor = refl;
        two_step_when_followed = flag_read (is_followed (type_of b));
        flags = refl;
        interval = refl;
        seconds = k.seconds;
        nanos = k.nanos;
        correction = k.correction_is;
        correction_fits = k.fits;
      }

  pub sync_tells : (id : ℕ) → Sends c (own_due M.Sync id no_time) (Some (sync_of (sender_of c) id c.sync_interval))
  unfolding sync_of
  sync_tells id = tells (Body.Sync zero_timestamp) 0 id no_time no_time_lem

  pub delay_req_tells : (id : ℕ) → Sends c (own_due M.DelayReq id no_time) (Some (delay_req_of (sender_of c) id))
  unfolding delay_req_of
  delay_req_tells id = tells (Body.DelayReq zero_timestamp) 0 id no_time no_time_lem

  pub pdelay_req_tells : (id : ℕ) → Sends c (own_due M.PDelayReq id no_time) (Some (p_delay_req_of (sender_of c) id))
  unfolding p_delay_req_of
  pdelay_req_tells id = tells (Body.PDelayReq zero_timestamp) 0 id no_time no_time_lem

  -- those that carry a time
  module _ (t : Time) (m : Message) where
    pub delay_resp_tells : (h : Header) → delay_resp_of (sender_of c) h c.delay_interval t ≡ Ok m → Sends c (answer_due M.DelayResp h.id h.source (came t h.correction)) (Some m)
    unfolding delay_resp_of
    delay_resp_tells h e =
        let k = carrying_is (answer_stamp h.correction t) _ m e in
        subst (Fulfils c _) k.made
        (tells (Body.DelayResp k.timestamp h.source) k.correction h.id (came t h.correction) (came_is h.correction t k.timestamp k.correction k.carried))

    pub pdelay_resp_tells : (h : Header) → p_delay_resp_of (sender_of c) h t ≡ Ok m → Sends c (answer_due M.PDelayResp h.id h.source (came t h.correction)) (Some m)
    unfolding p_delay_resp_of
    pdelay_resp_tells h e =
        let k = carrying_is (answer_stamp h.correction t) _ m e in
        subst (Fulfils c _) k.made
        (tells (Body.PDelayResp k.timestamp h.source) k.correction h.id (came t h.correction) (came_is h.correction t k.timestamp k.correction k.carried))

    pub follow_up_tells : (id : ℕ) → follow_up_of (sender_of c) id c.sync_interval t ≡ Ok m → Sends c (own_due M.FollowUp id (left t)) (Some m)
    unfolding follow_up_of
    follow_up_tells id e =
        let k = carrying_is (follow_stamp t) _ m e in
        subst (Fulfils c _) k.made (tells (Body.FollowUp k.timestamp) k.correction id (left t) (left_is t k.timestamp k.correction k.carried))

    pub pdelay_resp_follow_up_tells : (id : ℕ) (i : Identity) → p_delay_resp_follow_up_of (sender_of c) id i t ≡ Ok m → Sends c (answer_due M.PDelayRespFollowUp id i (left t)) (Some m)
    unfolding p_delay_resp_follow_up_of
    pdelay_resp_follow_up_tells id i e =
        let k = carrying_is (follow_stamp t) _ m e in
        subst (Fulfils c _) k.made (tells (Body.PDelayRespFollowUp k.timestamp i) k.correction id (left t) (left_is t k.timestamp k.correction k.carried))

-- ---- no two messages tell the same

signed_once : (a b : ℕ) → a < 2 ^ 64 → b < 2 ^ 64 → signed 64 a ≡ signed 64 b → a ≡ b
signed_once a b h k e = go (dec_lt a (2 ^ 63)) (dec_lt b (2 ^ 63))
  where
    go : Dec (a < 2 ^ 63) → Dec (b < 2 ^ 63) → a ≡ b
    go (yes x) (yes y) = ap nat_abs (sym (signed_low 64 a x) ∙ e ∙ signed_low 64 b y)
    go (yes x) (no y) =
        let apart_signs : pos a ≡ negsuc (2 ^ 64 - suc b) = sym (signed_low 64 a x) ∙ e ∙ signed_high 64 b (not_below b (2 ^ 63) y) ∙ sub_lt b (2 ^ 64) k in
        absurd (apart cc)
    go (no x) (yes y) =
        let apart_signs : pos b ≡ negsuc (2 ^ 64 - suc a) = sym (signed_low 64 b y) ∙ sym e ∙ signed_high 64 a (not_below a (2 ^ 63) x) ∙ sub_lt a (2 ^ 64) h in
        absurd (apart cc)
    go (no x) (no y) =
        let same : suc (2 ^ 64 - suc a) ≡ suc (2 ^ 64 - suc b) = ap nat_abs (sym (sub_lt a (2 ^ 64) h) ∙ sym (signed_high 64 a (not_below a (2 ^ 63) x)) ∙ e ∙ signed_high 64 b (not_below b (2 ^ 63) y) ∙ sub_lt b (2 ^ 64) k) in
        omega (arith, same)

body_back : (b : Body) → body_from (type_of b) (timestamp_of b) (requester_in (rest_in b)) ≡ b
body_back (Body.Sync w) = refl
body_back (Body.DelayReq w) = refl
body_back (Body.PDelayReq w) = refl
body_back (Body.PDelayResp w i) = refl
body_back (Body.FollowUp w) = refl
body_back (Body.DelayResp w i) = refl
body_back (Body.PDelayRespFollowUp w i) = refl

high_once : (a b c d : ℕ) → a * 256 + b ≡ c * 256 + d → b < 256 → d < 256 → (a ≡ c) × (b ≡ d)
high_once a b c d e h k = (omega arith, omega arith)

module _ (c : Config) (d : Due) (m n : Message) (x : Fulfils c d m) (y : Fulfils c d n) where
  sdo_once : (m.header.major_sdo ≡ n.header.major_sdo) × (m.header.minor_sdo ≡ n.header.minor_sdo)
  unfolding sdo_id
  sdo_once =
      high_once m.header.major_sdo m.header.minor_sdo n.header.major_sdo n.header.minor_sdo (x.sdo ∙ sym y.sdo) x.sdo_low y.sdo_low

  stamp_once : timestamp_of m.body ≡ timestamp_of n.body
  stamp_once =
      let a : (timestamp_of m.body).seconds ≡ (timestamp_of n.body).seconds = x.seconds ∙ sym y.seconds in
      let b : (timestamp_of m.body).nanos ≡ (timestamp_of n.body).nanos = x.nanos ∙ sym y.nanos in
      λ i. record { seconds = a i; nanos = b i }

  body_once : m.body ≡ n.body
  body_once =
      let a : type_of m.body ≡ type_of n.body = x.body ∙ sym y.body in
      let b : requester_in (rest_in m.body) ≡ requester_in (rest_in n.body) = x.requester ∙ sym y.requester in
      sym (body_back m.body) ∙ (λ i. body_from (a i) (stamp_once i) (b i)) ∙ body_back n.body

  header_once : m.header ≡ n.header
  header_once =
      let kind : m.header.kind ≡ n.header.kind = x.kind ∙ sym y.kind in
      let minor : m.header.minor ≡ n.header.minor = x.minor ∙ sym y.minor in
      let version : m.header.version ≡ n.header.version = x.version ∙ sym y.version in
      let stated : m.header.length ≡ n.header.length = x.stated ∙ sym y.stated in
      let domain : m.header.domain ≡ n.header.domain = x.domain ∙ sym y.domain in
      let flags : m.header.flags ≡ n.header.flags = x.flags ∙ sym y.flags in
      let correction : m.header.correction ≡ n.header.correction = signed_once _ _ x.correction_fits y.correction_fits (x.correction ∙ sym y.correction) in
      let source : m.header.source ≡ n.header.source = x.source ∙ sym y.source in
      let id : m.header.id ≡ n.header.id = x.id ∙ sym y.id in
      let interval : m.header.interval ≡ n.header.interval = x.interval ∙ sym y.interval in
      λ i.
      record {
        major_sdo = sdo_once.0 i;
        kind = kind i;
        minor = minor i;
        version = version i;
        length = stated i;
        domain = domain i;
        minor_sdo = sdo_once.1 i;
        flags = flags i;
        correction = correction i;
        source = source i;
        id = id i;
        interval = interval i;
      }

  pub told_once : m ≡ n
  told_once = λ i. record { header = header_once i; body = body_once i }

pub sent_once : (c : Config) (x : Option Due) (m n : Option Message) → Sends c x m → Sends c x n → m ≡ n
sent_once c None None None k l = refl
sent_once c None None (Some n) k l = absurd l
sent_once c None (Some m) n k l = absurd k
sent_once c (Some d) None n k l = absurd k
sent_once c (Some d) (Some m) None k l = absurd l
sent_once c (Some d) (Some m) (Some n) k l = ap Some (told_once c d m n k l)
