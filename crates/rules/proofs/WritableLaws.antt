-- Every message that a taken event has sent can be written: a buffer of 64 bytes or more, the least that row 1 lets pass, takes it whole.
use Rattle.std.specs.Prelude.{ℕ, ◌≤◌, ◌<◌, ◌≡◌, false, Option, Some, None, Ok}
use Rattle.std.proofs.Math.Path.{refl}
use Rattle.std.proofs.Common.{sym, ap, ◌∙◌, subst, arith, lit≤}
use Rattle.wire.specs.LayoutLaws.{HeaderWidths}
use Rattle.wire.proofs.LayoutLaws.{header_widths}
use Rattle.reading.specs.Reading.{read_of}
use Rattle.reading.specs.ReadingLaws.{message_is}
use Rattle.sent.specs.SentLaws.{InLimits, Sendable}
use Rattle.sent.proofs.SentLaws.{sync_sends, delay_req_sends, pdelay_req_sends, follow_up_sends, delay_resp_sends, pdelay_resp_sends, pdelay_resp_follow_up_sends}
use Rattle.fitness.specs.Fit.{unfit}
use Rattle.rules.specs.Names.{Time, Header, Body, Message, Config, Context, Port}
use Rattle.rules.specs.Worked.{Worked, worked}
use Rattle.rules.specs.Events.{Event, event, general, stamp, sync_timer, delay_timer, filter_answer, set_state, Done}
use Rattle.rules.specs.Rules.{sender_of, on_event, on_general, stamped, filtered, state_set}
use Rattle.rules.specs.Step.{rule_of}
use Rattle.rules.specs.Sending.{Due, stamp_due, heard_due, Sends}
use Rattle.rules.specs.Given.{StampIn, InTypes}
use Rattle.rules.specs.AllLaws.{All, Silent}
use Rattle.rules.proofs.AllLaws.{all_is, all_map}
use Rattle.rules.proofs.RuleLaws.{all_delay_req, all_p_delay_req, all_sync_stamped, all_response_stamped, all_sync_timer_ends, all_delay_timer_ends}
use Rattle.rules.proofs.EveryLaws.{silent, all_viewed}
use Rattle.rules.proofs.SendingLaws.{Only, on_general_lem, on_event_lem, on_stamp}
use Rattle.rules.proofs.ResponderLaws.{fit_sender}
use Rattle.rules.specs.WritableLaws.{Writable, DoneWritable}

-- ---- a message that any buffer of 64 bytes or more takes whole; where none is sent, nothing is said

buffer_takes : (m : Message) (n : ℕ) → n ≤ 64 → Sendable m n → Writable (Some m)
buffer_takes m n small k room enough = k.writes room (omega (arith, small, enough)) ∙ ap Ok (sym k.length_is)

-- ---- by rule

-- where `Sending` says that nothing is due, `SendingLaws` has it that nothing is sent
no_message : (c : Config) (x : Option Due) (m : Option Message) → x ≡ None → Sends c x m → Writable m
no_message c x None e k = tt
no_message c x (Some m) e k = absurd (subst (λ (y : Option Due). Sends c y (Some m)) e k)

module _ (p : Port) where
  unsent : (x : Option Due) (w : Worked Done) → x ≡ None → All (Only p x) w → All DoneWritable w
  unsent x w e = all_map (Only p x) DoneWritable Silent w (λ d k. no_message p.config x d.message e k.message)

  unsent_event : (at : Time) (h : Header) (b : Body) (t : Time) → heard_due p at h b t ≡ None → All DoneWritable (on_event p at h b t)
  unsent_event at h b t e = unsent (heard_due p at h b t) (on_event p at h b t) e (on_event_lem p at h b t)

  unsent_stamp : (at : Time) (c : Context) → stamp_due p at c ≡ None → All DoneWritable (stamped p at c)
  unsent_stamp at c e = unsent (stamp_due p at c) (stamped p at c) e (on_stamp p at c)

  module _ (limits : InLimits (sender_of p.config)) where
    -- an answer has the id and the source of its request, which was read of bytes
    event_writes : p.config.delay_interval < 256 → (at : Time) (h : Header) → HeaderWidths h → (b : Body) (t : Time) → All DoneWritable (on_event p at h b t)
    unfolding on_event
    event_writes v at h widths (Body.Sync w) t = unsent_event at h (Body.Sync w) t refl
    event_writes v at h widths (Body.DelayReq w) t =
        all_delay_req DoneWritable Silent tt p h at tt (λ m e.
        buffer_takes m 54 (lit≤ tt) (delay_resp_sends (sender_of p.config) limits h widths.id widths.source at m p.config.delay_interval v e))
    event_writes v at h widths (Body.PDelayReq w) t =
        all_p_delay_req DoneWritable Silent tt p h at (λ m e.
        buffer_takes m 54 (lit≤ tt) (pdelay_resp_sends (sender_of p.config) limits h widths.id widths.source at m e))
    event_writes v at h widths (Body.PDelayResp w i) t = unsent_event at h (Body.PDelayResp w i) t refl
    event_writes v at h widths (Body.FollowUp w) t = unsent_event at h (Body.FollowUp w) t refl
    event_writes v at h widths (Body.DelayResp w i) t = unsent_event at h (Body.DelayResp w i) t refl
    event_writes v at h widths (Body.PDelayRespFollowUp w i) t = unsent_event at h (Body.PDelayRespFollowUp w i) t refl

    -- a follow-up has the id, and the requester, of the stamp's context
    stamp_writes : p.config.sync_interval < 256 → (at : Time) (c : Context) → StampIn c → All DoneWritable (stamped p at c)
    stamp_writes v at (Context.Sync id) k =
        all_sync_stamped DoneWritable Silent tt p at id tt (λ m e.
        buffer_takes m 44 (lit≤ tt) (follow_up_sends (sender_of p.config) limits id k p.config.sync_interval v at m e))
    stamp_writes v at (Context.DelayReq id) k = unsent_stamp at (Context.DelayReq id) refl
    stamp_writes v at (Context.PDelayReq id) k = unsent_stamp at (Context.PDelayReq id) refl
    stamp_writes v at (Context.PDelayResp id i) (k, widths) =
        all_response_stamped DoneWritable Silent tt p at id i (λ m e.
        buffer_takes m 54 (lit≤ tt) (pdelay_resp_follow_up_sends (sender_of p.config) limits id k i widths at m e))

    rule_writes : (e : Event) → InTypes p e → All DoneWritable (rule_of p e)
    unfolding rule_of filtered state_set
    rule_writes (event at l) k =
        all_viewed DoneWritable Silent silent p.config (read_of l) (on_event p at) (λ h b t r.
        event_writes k.port.delay_interval at h (subst HeaderWidths (sym (message_is l h b t r).header_is) (header_widths l k.bytes)) b t)
    rule_writes (general l) k =
        all_viewed DoneWritable Silent silent p.config (read_of l) (on_general p) (λ h b t r. unsent None (on_general p h b t) refl (on_general_lem p h b t))
    rule_writes (stamp at c) k = stamp_writes k.port.sync_interval at c k.context
    rule_writes sync_timer k =
        all_sync_timer_ends DoneWritable Silent tt tt p (λ n. tt) (λ master ns e.
        buffer_takes _ 44 (lit≤ tt) (sync_sends (sender_of p.config) limits p.ids.sync k.port.sync_id p.config.sync_interval k.port.sync_interval))
    rule_writes (delay_timer draw) k =
        all_delay_timer_ends DoneWritable Silent tt tt p draw (λ n e. tt)
        (λ s e m ns. buffer_takes _ 44 (lit≤ tt) (delay_req_sends (sender_of p.config) limits p.ids.delay k.port.delay_id))
        (λ m ns. buffer_takes _ 54 (lit≤ tt) (pdelay_req_sends (sender_of p.config) limits p.ids.peer k.port.peer_id))
    rule_writes (filter_answer u) k = tt
    rule_writes (set_state new) k = tt

-- ---- what a taken event has sent

pub sent_writable : (p : Port) (e : Event) (d : Done) → InTypes p e → unfit p ≡ false → rule_of p e ≡ worked d → Writable d.message
sent_writable p e d k fit r =
    all_is DoneWritable Silent (rule_of p e) d r (rule_writes p (fit_sender p fit k.port.domain k.port.identity) e k)
