-- Both ends of a link: what a port answers to a peer delay request, heard by the port that asked, measures half of the way there and back, of the responder's own stamps cut to 16 bits of a nanosecond.
use Rattle.std.specs.Prelude.{ℕ, ◌<◌, ◌≡◌, false, List, ℤ, pos, ◌+ℤ◌, ◌-ℤ◌, Option, Some, None, Ok, Result}
use Rattle.std.proofs.Math.Path.{refl}
use Rattle.std.proofs.Common.{sym, ap, ◌∙◌, subst, arith}
use Rattle.std.proofs.Math.Bool.{true}
use Rattle.time.specs.declared.WireTimestamp.{WireTimestamp}
use Rattle.time.specs.Units.{time, time_words, wire, correction, half}
use Rattle.wire.specs.declared.MessageType.TheVariants as M
use Rattle.wire.specs.Layout.{message_bytes, two_step_flag, two_step, timestamp_of}
use Rattle.wire.specs.LayoutLaws.{InWidths, HeaderWidths}
use Rattle.wire.proofs.LayoutLaws.{header_widths}
use Rattle.octets.specs.Bytes.{Bytes}
use Rattle.reading.specs.Reading.{read_of}
use Rattle.reading.specs.ReadingLaws.{message_is}
use Rattle.sent.specs.Messages.{header_for, no_flag, no_interval, answer_stamp, follow_stamp, p_delay_resp_of, p_delay_resp_follow_up_of}
use Rattle.sent.specs.SentLaws.{InLimits, Sendable, Made}
use Rattle.sent.proofs.SentLaws.{carrying_is, pdelay_resp_sends, pdelay_resp_follow_up_sends}
use Rattle.sent.specs.CarriedLaws.{units_of, cut_to16}
use Rattle.sent.proofs.CarriedLaws.{answer_means, follow_means}
use Rattle.record.specs.Record.{with_peer}
use Rattle.fitness.specs.Fit.{unfit}
use Rattle.fitness.specs.FitLaws.{FitConfig}
use Rattle.fitness.proofs.FitLaws.{fit_is, config_is}
use Rattle.rules.specs.Names.{Time, Identity, Header, Body, Sender, Message, PeerState, Port, Context, TimeError, Received}
use Rattle.rules.specs.Worked.{worked}
use Rattle.rules.specs.Events.{event, general, stamp, Done, Answered, answered}
use Rattle.rules.specs.Rules.{sender_of, on_event}
use Rattle.rules.specs.Step.{rule_of, step}
use Rattle.rules.specs.AllLaws.{All, Silent}
use Rattle.rules.proofs.RuleLaws.{all_p_delay_req, all_response_stamped}
use Rattle.rules.proofs.RefusalLaws.{taken_is, taken_has}
use Rattle.rules.specs.LinearLaws.{num, ◌⊕◌, ◌⊖◌, equal_sums}
use Rattle.rules.proofs.TakenLaws.{event_rule, wire-time}
use Rattle.rules.specs.RunLaws.{Taken, BothOrders}
use Rattle.rules.proofs.RunLaws.{peer_part, after_two}
use Rattle.rules.proofs.PeerRunLaws.{response_turns, follow_up_turns, complete_has}
use Rattle.rules.specs.ResponderLaws.{Sends, Carries, way_of, MeasuresWay}

-- ---- the responder: a message that it sends, with the record kept

module _ (q : Port) (room : ℕ) where
  -- a request that it hears at t2
  answers_request : (t2 : Time) (request : List ℕ) (h : Header) (w : WireTimestamp) (t : Time) → read_of request ≡ Ok (Received.Message h (Body.PDelayReq w) t) → Taken (step q room (event t2 request)) → Sends q (p_delay_resp_of (sender_of q.config) h t2) (step q room (event t2 request))
  unfolding on_event
  answers_request t2 request h w t reads k =
      let a : Result Message TimeError = p_delay_resp_of (sender_of q.config) h t2 in
      let P : Done → Type 0 = λ d. Sends q a (answered q (worked d)) in
      taken_has q room (event t2 request) (Sends q a) (λ fit limits.
      event_rule h (Body.PDelayReq w) t P q t2 request reads
      (all_p_delay_req P Silent tt q h t2 (λ m e. record { message = m; made = e; sent = refl; port = refl }))) k

  -- its answer's send stamp, t3
  follows_stamp : (t3 : Time) (id : ℕ) (requester : Identity) → Taken (step q room (stamp t3 (Context.PDelayResp id requester))) → Sends q (p_delay_resp_follow_up_of (sender_of q.config) id requester t3) (step q room (stamp t3 (Context.PDelayResp id requester)))
  unfolding rule_of
  follows_stamp t3 id requester k =
      let a : Result Message TimeError = p_delay_resp_follow_up_of (sender_of q.config) id requester t3 in
      taken_has q room (stamp t3 (Context.PDelayResp id requester)) (Sends q a) (λ fit limits.
      all_response_stamped (λ d. Sends q a (answered q (worked d))) Silent tt q t3 id requester (λ m e. record { message = m; made = e; sent = refl; port = refl })) k

-- ---- what it sends reads as it was made, and means its stamps

-- a fit record's own part of a header has room; what row 2 does not look at, its types give
pub fit_sender : (q : Port) → unfit q ≡ false → q.config.domain < 256 → InWidths q.config.identity → InLimits (sender_of q.config)
fit_sender q e domain identity =
    let c : FitConfig q.config = config_is q.config (fit_is q e).config in
    record { sdo = c.sdo; minor = omega (arith, c.minor); domain = domain; identity = identity }

carries : (x : Result (WireTimestamp × ℕ) TimeError) (header : ℕ → Header) (body : WireTimestamp → Body) (Means : WireTimestamp → ℕ → Type 0) (m : Message) (bytes : List ℕ) → Made x (λ v c. record { header = header c; body = body v }) m → Sendable m 54 → bytes ≡ message_bytes m.header m.body → ((v : WireTimestamp) (c : ℕ) → x ≡ Ok (v, c) → Means v c) → Carries bytes header body Means
carries x header body Means m bytes a s e f =
    record {
      timestamp = a.timestamp;
      correction_word = a.correction;
      means = f a.timestamp a.correction a.carried;
      at = time_words (wire (timestamp_of (body a.timestamp)));
      reads = ap read_of (e ∙ ap (λ (n : Message). message_bytes n.header n.body) (sym a.made)) ∙ (subst (λ (n : Message). Sendable n 54) (sym a.made) s).reads;
    }

module _ (s : Sender) where
  -- the answer to a request with this header, heard at t2
  abbrev answer_header : Header → ℕ → Header
  answer_header request c = header_for s M.PDelayResp two_step_flag c request.id no_interval

  abbrev AnswerOf : Header → Time → List ℕ → Type 0
  AnswerOf request t2 bytes =
      Carries bytes (answer_header request) (λ v. Body.PDelayResp v request.source) (λ v c. wire v -ℤ correction c ≡ pos (cut_to16 (units_of t2)) -ℤ correction request.correction)

  -- the follow-up of a stamp t3
  abbrev follow_up_header : Header → ℕ → Header
  follow_up_header request c = header_for s M.PDelayRespFollowUp no_flag c request.id no_interval

  abbrev FollowUpOf : Header → Time → List ℕ → Type 0
  FollowUpOf request t3 bytes =
      Carries bytes (follow_up_header request) (λ v. Body.PDelayRespFollowUp v request.source) (λ v c. wire v +ℤ correction c ≡ pos (cut_to16 (units_of t3)))

  module _ (l : InLimits s) (request : Header) (widths : HeaderWidths request) (m : Message) (bytes : List ℕ) (sent : bytes ≡ message_bytes m.header m.body) where
    answer_heard : (t2 : Time) → p_delay_resp_of s request t2 ≡ Ok m → AnswerOf request t2 bytes
    unfolding p_delay_resp_of
    answer_heard t2 e =
        carries (answer_stamp request.correction t2) _ _ _ m bytes (carrying_is (answer_stamp request.correction t2) _ m e)
        (pdelay_resp_sends s l request widths.id widths.source t2 m e) sent (answer_means request.correction t2)

    follow_up_heard : (t3 : Time) → p_delay_resp_follow_up_of s request.id request.source t3 ≡ Ok m → FollowUpOf request t3 bytes
    unfolding p_delay_resp_follow_up_of
    follow_up_heard t3 e =
        carries (follow_stamp t3) _ _ _ m bytes (carrying_is (follow_stamp t3) _ m e)
        (pdelay_resp_follow_up_sends s l request.id widths.id request.source widths.source t3 m e) sent (follow_means t3)

-- ---- the requester, with a peer exchange of that id whose send stamp stands

-- the requester's sum, put together with what answer and follow-up mean
way_is : (t1 t4 w c f cut₂ cut₃ asked : ℤ) → w -ℤ c ≡ cut₂ -ℤ asked → f ≡ cut₃ → ((t4 -ℤ c) -ℤ t1) -ℤ (f -ℤ w) ≡ (t4 -ℤ t1) -ℤ (cut₃ -ℤ cut₂) -ℤ asked
way_is t1 t4 w c f cut₂ cut₃ asked e g =
    equal_sums (num t4 ⊖ num c ⊖ num t1 ⊖ (num f ⊖ num w)) (num t4 ⊖ num t1 ⊖ num f ⊕ (num w ⊖ num c)) (omega arith)
    ∙ (λ i. t4 -ℤ t1 -ℤ g i +ℤ e i)
    ∙ equal_sums (num t4 ⊖ num t1 ⊖ num cut₃ ⊕ (num cut₂ ⊖ num asked)) (num t4 ⊖ num t1 ⊖ (num cut₃ ⊖ num cut₂) ⊖ num asked) (omega arith)

module _ (s : Sender) (request : Header) (t1 t2 t3 t4 : Time) (p : Port) (asks : p.config.identity ≡ request.source) (response follow_up : List ℕ) (a : AnswerOf s request t2 response) (b : FollowUpOf s request t3 follow_up) where
  abbrev none : Option Time
  none = None

  abbrev some : Time → Option Time
  some t = Some t

  abbrev them : Option Identity
  them = Some s.identity

  abbrev Goal : Answered → Type 0
  Goal r = MeasuresWay (way_of t1 t2 t3 t4 request) r

  ends : (x y : Time) → time x ≡ time b.at +ℤ correction b.correction_word → time y ≡ time t4 -ℤ correction a.correction_word → All (λ d. Goal (answered p (worked d))) ((peer_part p).measure (PeerState.Measuring request.id them (some t1) (some a.at) (some x) (some y)))
  ends x y ex ey =
      let w₂ : time a.at ≡ wire a.timestamp = wire-time (answer_header s request a.correction_word) (Body.PDelayResp a.timestamp request.source) a.at response a.reads in
      let w₃ : time b.at ≡ wire b.timestamp = wire-time (follow_up_header s request b.correction_word) (Body.PDelayRespFollowUp b.timestamp request.source) b.at follow_up b.reads in
      complete_has p request.id s.identity t1 a.at x y Goal (λ delay g.
      record {
        event_time = y;
        delay = delay;
        measurement = refl;
        delay_is =
            g
            ∙ (λ i. half ((ey i -ℤ time t1) -ℤ ((ex ∙ ap (λ (z : ℤ). z +ℤ correction b.correction_word) w₃) i -ℤ w₂ i)))
            ∙ ap half (way_is (time t1) (time t4) (wire a.timestamp) (correction a.correction_word) (wire b.timestamp +ℤ correction b.correction_word) (pos (cut_to16 (units_of t2))) (pos (cut_to16 (units_of t3))) (correction request.correction) a.means b.means);
      })

  way_measured : BothOrders (with_peer p (PeerState.Measuring request.id None (some t1) none none none)) (event t4 response) (general follow_up) Goal
  unfolding header_for two_step
  way_measured =
      let R = response_turns p request.id (answer_header s request a.correction_word) refl request.source asks true refl t4 response a.timestamp a.at a.reads in
      let F = follow_up_turns p request.id (follow_up_header s request b.correction_word) refl request.source asks (general follow_up) b.timestamp b.at b.reads in
      record {
        ab = after_two (peer_part p) Goal (R None (some t1) none none tt) (λ t. F them (some t1) (some a.at) (some t) refl) (λ t. refl) (λ t u et eu. ends u t eu et);
        ba = after_two (peer_part p) Goal (F None (some t1) none none tt) (λ t. R them (some t1) none (some t) refl) (λ t. refl) (λ t u et eu. ends t u et eu);
      }

-- ---- the theorem: q hears the request at t2 and stamps its answer at t3; p sent it at t1, and hears what q sends, the response at t4

module _ (q : Port) (domain : q.config.domain < 256) (identity : InWidths q.config.identity) (t2 : Time) (request : List ℕ) (bytes : Bytes request) (h : Header) (w : WireTimestamp) (t : Time) (reads : read_of request ≡ Ok (Received.Message h (Body.PDelayReq w) t)) (t3 : Time) (room₁ room₂ : ℕ) where
  abbrev first : Answered
  first = step q room₁ (event t2 request)

  abbrev second : Answered
  second = step first.port room₂ (stamp t3 (Context.PDelayResp h.id h.source))

  module _ (k₁ : Taken first) (k₂ : Taken second) where
    answer_sent : Sends q (p_delay_resp_of (sender_of q.config) h t2) first
    answer_sent = answers_request q room₁ t2 request h w t reads k₁

    follow_up_sent : Sends q (p_delay_resp_follow_up_of (sender_of q.config) h.id h.source t3) second
    follow_up_sent =
        subst (λ (x : Port). Taken (step x room₂ (stamp t3 (Context.PDelayResp h.id h.source))) → Sends q (p_delay_resp_follow_up_of (sender_of q.config) h.id h.source t3) (step x room₂ (stamp t3 (Context.PDelayResp h.id h.source)))) (sym answer_sent.port)
        (follows_stamp q room₂ t3 h.id h.source) k₂

    pub link_measured : (p : Port) → p.config.identity ≡ h.source → (t1 t4 : Time) → p.peer ≡ PeerState.Measuring h.id None (Some t1) None None None → BothOrders p (event t4 first.sent) (general second.sent) (MeasuresWay (way_of t1 t2 t3 t4 h))
    link_measured p asks t1 t4 opened =
        let s : Sender = sender_of q.config in
        let limits : InLimits s = fit_sender q (taken_is q room₁ (event t2 request) k₁).fit domain identity in
        let widths : HeaderWidths h = subst HeaderWidths (sym (message_is request h (Body.PDelayReq w) t reads).header_is) (header_widths request bytes) in
        let a : AnswerOf s h t2 first.sent = answer_heard s limits h widths answer_sent.message first.sent answer_sent.sent t2 answer_sent.made in
        let b : FollowUpOf s h t3 second.sent = follow_up_heard s limits h widths follow_up_sent.message second.sent follow_up_sent.sent t3 follow_up_sent.made in
        subst (λ (x : Port). BothOrders x (event t4 first.sent) (general second.sent) (MeasuresWay (way_of t1 t2 t3 t4 h))) (λ i. with_peer p (sym opened i))
        (way_measured s h t1 t2 t3 t4 p asks first.sent second.sent a b)
