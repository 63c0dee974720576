-- What each event of a peer exchange does where it is taken: the send stamp, the response and its follow-up, each in any place of their order; and what the exchange measures that is then complete.
use Rattle.std.specs.Prelude.{ℕ, ◌≡◌, Bool, false, ◌&&◌, not, List, ◌+ℤ◌, ◌-ℤ◌, Option, Some, None, Ok}
use Rattle.std.proofs.Math.Path.{refl, subst}
use Rattle.std.proofs.Common.{sym, ap, ◌∙◌, eq-eqb}
use Rattle.std.proofs.Math.Bool.{cond}
use Rattle.time.specs.declared.WireTimestamp.{WireTimestamp}
use Rattle.time.specs.Units.{time, duration, half, correction}
use Rattle.wire.specs.Layout.{two_step}
use Rattle.reading.specs.Reading.{read_of}
use Rattle.record.specs.Record.{is_faulty, with_peer}
use Rattle.record.proofs.SameLaws.{same_identity_lem}
use Rattle.rules.specs.Names.{Time, Duration, Identity, Header, Body, PeerState, Port, Context, Measurement, Received}
use Rattle.rules.specs.Worked.{Worked, worked, ◌then◌, less_correction, plus_correction}
use Rattle.rules.specs.Events.{Event, event, stamp, Done, Answered, answered, nothing, Brings}
use Rattle.rules.specs.Measuring.{settle, measured, peer_out}
use Rattle.rules.specs.Exchanges.{Change, stays, becomes, another, peer_stamped, second_responder, responded, responded_later}
use Rattle.rules.specs.Rules.{keeping, becomes_faulty, peer_answer, p_delay_resp, p_delay_resp_follow_up, stamped, on_event, on_general}
use Rattle.rules.specs.Step.{rule_of}
use Rattle.rules.specs.WorkedOut.{Completed, peer_twice, numbers_of}
use Rattle.rules.proofs.AgreeLaws.{agrees_all, then_then}
use Rattle.rules.specs.AllLaws.{All}
use Rattle.rules.proofs.MeasureLaws.{peer_agrees}
use Rattle.rules.proofs.TakenLaws.{event_rule, brought_rule}
use Rattle.rules.specs.RunLaws.{Turns}
use Rattle.rules.proofs.RunLaws.{turns, peer_part, less_worth, plus_worth}
use Rattle.rules.specs.PeerRunLaws.{OnlyBy}

pub no_second : (source : Identity) (o : Option Identity) → OnlyBy source o → another o source ≡ false
no_second source None only = refl
no_second source (Some i) only = ap not ((same_identity_lem i source).1 only)

module _ (p : Port) (id : ℕ) where
  abbrev exchange : Option Identity → Option Time → Option Time → Option Time → Option Time → PeerState
  exchange o a b c d = PeerState.Measuring id o a b c d

  -- ---- the request's send stamp

  pub stamp_turns : (t1 : Time) (o : Option Identity) (b c d : Option Time) → Turns (peer_part p) (exchange o None b c d) (stamp t1 (Context.PDelayReq id)) (time t1) (λ t. exchange o (Some t) b c d)
  unfolding rule_of stamped peer_stamped
  stamp_turns t1 o b c d =
      let q : Port = with_peer p (exchange o None b c d) in
      turns (peer_part p) (worked t1) refl (λ P k. subst (All P) (sym (λ i. keeping q (with_peer q) (cond (eq-eqb id id refl i) (becomes (exchange o (Some t1) b c d)) stays))) k)

  -- ---- the answers to us, of no second responder

  module _ (h : Header) (same_id : h.id ≡ id) (requester : Identity) (ours : p.config.identity ≡ requester) where
    pub answer_is : (o : Option Identity) (a b c d : Option Time) → OnlyBy h.source o → (answer : Worked (Change PeerState)) (sum : Worked Time) (new : Time → PeerState) → answer ≡ (sum then λ t. worked (becomes (new t))) → peer_answer (with_peer p (exchange o a b c d)) h requester answer ≡ (sum then λ t. settle (with_peer p (new t)))
    unfolding peer_answer second_responder
    answer_is o a b c d only answer sum new made =
        let q : Port = with_peer p (exchange o a b c d) in
        (λ i. cond ((same_identity_lem p.config.identity requester).1 ours i) (cond (eq-eqb id h.id (sym same_id) i && no_second h.source o only i) (worked (becomes_faulty q)) (made i then λ x. keeping q (with_peer p) x)) (nothing q))
        ∙ then_then sum (λ t. worked (becomes (new t))) (keeping q (with_peer p))

    abbrev responded_new : Bool → Option Time → Option Time → Time → Time → PeerState
    responded_new two a c body t =
        exchange (Some h.source) a (Some body) (cond two c (Some body)) (Some t)

    -- the response, by the event entry
    pub response_turns : (two : Bool) → two_step h ≡ two → (t4 : Time) (message : List ℕ) (w : WireTimestamp) (t : Time) → read_of message ≡ Ok (Received.Message h (Body.PDelayResp w requester) t) → (o : Option Identity) (a b c : Option Time) → OnlyBy h.source o → Turns (peer_part p) (exchange o a b c None) (event t4 message) (time t4 -ℤ correction h.correction) (responded_new two a c t)
    unfolding on_event p_delay_resp responded
    response_turns two f t4 message w t reads o a b c only =
        turns (peer_part p) (less_correction t4 h) (less_worth t4 h) (λ P k.
        event_rule h (Body.PDelayResp w requester) t P (with_peer p (exchange o a b c None)) t4 message reads
        (subst (All P) (sym (answer_is o a b c None only _ (less_correction t4 h) (responded_new two a c t) (λ i. cond (eq-eqb id h.id (sym same_id) i) (less_correction t4 h then λ u. worked (becomes (responded_new (f i) a c t u))) (worked stays)))) k))

    abbrev later_new : Option Time → Option Time → Option Time → Time → PeerState
    later_new a b d t = exchange (Some h.source) a b (Some t) d

    -- its follow-up, by either entry
    pub follow_up_turns : (e : Event) (w : WireTimestamp) (t : Time) → Brings p.config e h (Body.PDelayRespFollowUp w requester) t → (o : Option Identity) (a b d : Option Time) → OnlyBy h.source o → Turns (peer_part p) (exchange o a b None d) e (time t +ℤ correction h.correction) (later_new a b d)
    unfolding on_event on_general p_delay_resp_follow_up responded_later
    follow_up_turns e w t brings o a b d only =
        let g : p_delay_resp_follow_up (with_peer p (exchange o a b None d)) h requester t ≡ (plus_correction t h then λ u. settle (with_peer p (later_new a b d u))) = answer_is o a b None d only _ (plus_correction t h) (later_new a b d) (λ i. cond (eq-eqb id h.id (sym same_id) i) (plus_correction t h then λ u. worked (becomes (later_new a b d u))) (worked stays)) in
        turns (peer_part p) (plus_correction t h) (plus_worth t h) (λ P. brought_rule h (Body.PDelayRespFollowUp w requester) t P (with_peer p (exchange o a b None d)) _ (λ at. g) g e brings)

  -- ---- a complete exchange: half of what lies between t1 and t4 less what lies between t2 and t3

  pub complete_has : (i : Identity) (a b c d : Time) (Q : Answered → Type 0) → ((delay : Duration) → duration delay ≡ half (peer_twice (time a) (time b) (time c) (time d)) → Q (answered p (worked (measured (peer_out p id i) (Measurement.Peer d delay) (is_faulty p.state))))) → All (λ r. Q (answered p (worked r))) ((peer_part p).measure (exchange (Some i) (Some a) (Some b) (Some c) (Some d)))
  complete_has i a b c d Q f =
      let x : PeerState = exchange (Some i) (Some a) (Some b) (Some c) (Some d) in
      let S : Done → Type 0 = λ r. Q (answered p (worked r)) in
      agrees_all (numbers_of p (Completed.peer (time a) (time b) (time c) (time d))) S ((peer_part p).measure x) (peer_agrees p x id i a b c d S f)
