-- Actions, for every event and whatever is answered: how many, in which order, and that a packet goes out exactly when something is sent.
use Rattle.std.specs.Prelude.{◌≡◌, refl, Bool, true, false, cond, List, [], ◌∷◌, ℕ, length, eqb, Option, Some, None, Ok}
use Rattle.std.proofs.Common.{sym, ◌∙◌}
use Rattle.std.proofs.Math.Path.{ap}
use Rattle.std.proofs.Math.Dec.{lit≤}
use Rattle.wire.specs.Layout.{message_bytes, row, type_of}
use Rattle.wire.proofs.LayoutLaws.{length_message}
use Rattle.sent.specs.Messages.{header_for, answer_stamp, follow_stamp, sync_of, follow_up_of, delay_req_of, delay_resp_of, p_delay_req_of, p_delay_resp_of, p_delay_resp_follow_up_of}
use Rattle.sent.proofs.SentLaws.{carrying_is}
use Rattle.rules.specs.Names.{Time, Header, Identity, Body, Message, Sender, Port, Context, Action, PortState, Outcome, Measurement}
use Rattle.record.specs.Record.{is_faulty, with_sync, with_delay, with_state, with_slave, with_peer}
use Rattle.rules.specs.Worked.{worked}
use Rattle.rules.specs.Events.{Event, Done, answered, refusal, sending, timed}
use Rattle.rules.specs.Measuring.{settle, sync_out, delay_out, peer_out}
use Rattle.rules.specs.Rules.{sender_of, filtered, mean_given, update_given, state_set, state_of}
use Rattle.rules.specs.Step.{rule_of, step}
use Rattle.rules.specs.Actions.{packets_in, is_one_of, packet_for}
use Rattle.rules.specs.AllLaws.{Silent, All}
use Rattle.rules.proofs.AllLaws.{all_is}
use Rattle.rules.proofs.RuleLaws.{all_settle}
use Rattle.rules.specs.EveryLaws.{Every}
use Rattle.rules.proofs.EveryLaws.{silent, every_rule}
use Rattle.rules.specs.RefusalLaws.{IsTaken}
use Rattle.rules.proofs.RefusalLaws.{step_has}
use Rattle.rules.specs.ActionLaws.{Orderly, Said, said_of}

-- ---- order

-- a message is 44 or 54 bytes long
body_size : (b : Body) → (is_one_of (0 ∷ 44 ∷ 54 ∷ []) (row (type_of b)).length ≡ true) × (eqb (row (type_of b)).length 0 ≡ false)
body_size (Body.Sync w) = (refl, refl)
body_size (Body.DelayReq w) = (refl, refl)
body_size (Body.PDelayReq w) = (refl, refl)
body_size (Body.PDelayResp w i) = (refl, refl)
body_size (Body.FollowUp w) = (refl, refl)
body_size (Body.DelayResp w i) = (refl, refl)
body_size (Body.PDelayRespFollowUp w i) = (refl, refl)

module _ (m : Message) where
  abbrev bytes : List ℕ
  bytes = message_bytes m.header m.body

  size : is_one_of (0 ∷ 44 ∷ 54 ∷ []) (length bytes) ≡ true
  size = ap (is_one_of (0 ∷ 44 ∷ 54 ∷ [])) (length_message m.header m.body) ∙ (body_size m.body).0

  one_packet : ◌≡◌ {A = ℕ} 1 (cond (eqb (length bytes) 0) 0 1)
  one_packet =
      sym (ap (λ (n : ℕ). cond (eqb n 0) 0 1) (length_message m.header m.body) ∙ ap (λ (b : Bool). cond b 0 1) (body_size m.body).1)

module _ (p : Port) where
  abbrev Ordered : Done → Type 0
  Ordered d = Orderly (answered p (worked d))

  unsent : (o : Outcome) → Orderly (refusal o p)
  unsent o = record { at_most_two = lit≤ tt; has_timers_first = refl; none_empty = refl; packet_when_sent = refl; sizes = refl }

  -- nothing is to be done, nothing is sent
  still : (q : Port) (m : Option Measurement) (reset : Bool) → Ordered (record { port = q; measurement = m; message = None; actions = []; reset = reset })
  still q m reset =
      record { at_most_two = lit≤ tt; has_timers_first = refl; none_empty = refl; packet_when_sent = refl; sizes = refl }

  settled : (q : Port) → All Ordered (settle q)
  settled q =
      all_settle Ordered Silent tt q (still q None false)
      (λ s raw m. still (sync_out q s raw) (Some m) false)
      (λ s m. still (delay_out q s) (Some m) false)
      (λ id i m. still (peer_out q id i) (Some m) (is_faulty q.state))

  general_sent : (q : Port) (m : Message) (link_local : Bool) → Ordered (sending q [] m (Action.SendGeneral link_local))
  general_sent q m link_local =
      record { at_most_two = lit≤ tt; has_timers_first = refl; none_empty = refl; packet_when_sent = one_packet m; sizes = size m }

  event_sent : (q : Port) (m : Message) (c : Context) (link_local : Bool) → Ordered (sending q [] m (Action.SendEvent c link_local))
  event_sent q m c link_local =
      record { at_most_two = lit≤ tt; has_timers_first = refl; none_empty = refl; packet_when_sent = one_packet m; sizes = size m }

  filter_timer : (q : Port) (next : Option ℕ) → Ordered (timed q (update_given next))
  filter_timer q None = still q None false
  filter_timer q (Some ns) =
      record { at_most_two = lit≤ tt; has_timers_first = refl; none_empty = refl; packet_when_sent = refl; sizes = refl }

  each : Every Ordered Silent p
  unfolding filtered state_set
  each =
      record {
        heard = record {
          rows = silent;
          idle = still p None false;
          faulty = still (with_state p PortState.Faulty) None true;
          new_sync = λ s x e. settled (with_slave p (with_sync s x));
          new_delay = λ s x e. settled (with_slave p (with_delay s x));
          new_peer = λ x. settled (with_peer p x);
          delay_resp = λ h at m e. general_sent p m false;
          pdelay_resp = λ h at m e. event_sent p m (Context.PDelayResp h.id h.source) true;
          follow_up = λ id t m e. general_sent p m false;
          pdelay_resp_follow_up = λ id i t m e. general_sent p m true;
        };
        at_sync_sent = λ ns. record { at_most_two = lit≤ tt; has_timers_first = refl; none_empty = refl; packet_when_sent = one_packet _; sizes = size _ };
        at_delay_sent = λ s ns. record { at_most_two = lit≤ tt; has_timers_first = refl; none_empty = refl; packet_when_sent = one_packet _; sizes = size _ };
        at_peer_sent = λ ns. record { at_most_two = lit≤ tt; has_timers_first = refl; none_empty = refl; packet_when_sent = one_packet _; sizes = size _ };
        filter = λ u. filter_timer (mean_given p u.mean_delay) u.next_update;
        set = λ new. still (with_state p (state_of new)) None _;
      }

pub actions_orderly : (p : Port) (room : ℕ) (e : Event) → Orderly (step p room e)
actions_orderly p room e = step_has p room e Orderly (unsent p) (λ f l. every_rule (Ordered p) Silent p (each p) e)

-- ---- the packet that goes out is the sent message's: event or general, its context, link-local or not

-- what each message that carries a stamp says
module _ (s : Sender) (t : Time) (m : Message) where
  delay_resp_says : (h : Header) (interval : ℕ) → delay_resp_of s h interval t ≡ Ok m → Action.SendGeneral false ≡ said_of m
  unfolding delay_resp_of header_for
  delay_resp_says h interval e = ap said_of (carrying_is (answer_stamp h.correction t) _ m e).made

  pdelay_resp_says : (h : Header) → p_delay_resp_of s h t ≡ Ok m → Action.SendEvent (Context.PDelayResp h.id h.source) true ≡ said_of m
  unfolding p_delay_resp_of header_for
  pdelay_resp_says h e = ap said_of (carrying_is (answer_stamp h.correction t) _ m e).made

  follow_up_says : (id interval : ℕ) → follow_up_of s id interval t ≡ Ok m → Action.SendGeneral false ≡ said_of m
  unfolding follow_up_of header_for
  follow_up_says id interval e = ap said_of (carrying_is (follow_stamp t) _ m e).made

  pdelay_resp_follow_up_says : (id : ℕ) (requester : Identity) → p_delay_resp_follow_up_of s id requester t ≡ Ok m → Action.SendGeneral true ≡ said_of m
  unfolding p_delay_resp_follow_up_of header_for
  pdelay_resp_follow_up_says id requester e = ap said_of (carrying_is (follow_stamp t) _ m e).made

said_settled : (q : Port) → All Said (settle q)
said_settled q = all_settle Said Silent tt q refl (λ s raw m. refl) (λ s m. refl) (λ id i m. refl)

no_packet : (next : Option ℕ) → packets_in (update_given next) ≡ []
no_packet None = refl
no_packet (Some ns) = refl

alone : (a b : Action) → a ≡ b → ◌≡◌ {A = List Action} (a ∷ []) (b ∷ [])
alone a b e = ap (λ (x : Action). x ∷ []) e

says : (p : Port) → Every Said Silent p
unfolding filtered state_set sync_of delay_req_of p_delay_req_of header_for
says p =
    let s : Sender = sender_of p.config in
    record {
      heard = record {
        rows = silent;
        idle = refl;
        faulty = refl;
        new_sync = λ s x e. said_settled (with_slave p (with_sync s x));
        new_delay = λ s x e. said_settled (with_slave p (with_delay s x));
        new_peer = λ x. said_settled (with_peer p x);
        delay_resp = λ h at m e. alone _ _ (delay_resp_says s at m h p.config.delay_interval e);
        pdelay_resp = λ h at m e. alone _ _ (pdelay_resp_says s at m h e);
        follow_up = λ id t m e. alone _ _ (follow_up_says s t m id p.config.sync_interval e);
        pdelay_resp_follow_up = λ id i t m e. alone _ _ (pdelay_resp_follow_up_says s t m id i e);
      };
      at_sync_sent = λ ns. refl;
      at_delay_sent = λ s ns. refl;
      at_peer_sent = λ ns. refl;
      filter = λ u. no_packet u.next_update;
      set = λ new. refl;
    }

pub packet_says : (p : Port) (room : ℕ) (e : Event) (k : IsTaken p room e) → packets_in k.done.actions ≡ packet_for k.done.message
packet_says p room e k = all_is Said Silent (rule_of p e) k.done k.rule (every_rule Said Silent p (says p) e)
