-- A message that an event brings, by either entry: what its rule can come to is all that the event can, and its time is what its timestamp means on the wire.
use Rattle.std.specs.Prelude.{ℕ, ◌+◌, ◌*◌, ◌^◌, ◌≡◌, List, ltb, Ok, Err}
use Rattle.std.proofs.Common.{sym, ◌∙◌, subst}
use Rattle.std.proofs.Math.Path.{ap}
use Rattle.std.proofs.Math.Pow.{split}
use Rattle.std.proofs.Math.IntN.{pos}
use Rattle.time.specs.declared.WireTimestamp.{WireTimestamp}
use Rattle.time.specs.Units.{time, time_words, wire, time_of_wire}
use Rattle.octets.proofs.BytesLaws.{apart}
use Rattle.wire.specs.Layout.{timestamp_of}
use Rattle.reading.specs.Reading.{read_of}
use Rattle.reading.specs.ReadingLaws.{message_is}
use Rattle.rules.specs.Names.{Time, Header, Body, Config, Port, Outcome, TimeError, Received, Reading}
use Rattle.rules.specs.Worked.{Worked, refused}
use Rattle.rules.specs.Events.{Event, event, general, stamp, sync_timer, delay_timer, filter_answer, set_state, Done, Brings}
use Rattle.rules.specs.Rules.{on_event, on_general}
use Rattle.rules.specs.Table.{ours}
use Rattle.rules.specs.Step.{viewed, rule_of}
use Rattle.rules.proofs.AgreeLaws.{by_test}
use Rattle.rules.specs.AllLaws.{All, Silent}
use Rattle.rules.proofs.AllLaws.{all_cond}

module _ (h : Header) (b : Body) (t : Time) where
  -- what holds by both entries
  pub by_entry : (C : Event → Type 0) → ((at : Time) (message : List ℕ) → read_of message ≡ Ok (Received.Message h b t) → C (event at message)) → ((message : List ℕ) → read_of message ≡ Ok (Received.Message h b t) → C (general message)) → (c : Config) (e : Event) → Brings c e h b t → C e
  by_entry C f g c (event at message) r = f at message r
  by_entry C f g c (general message) r = g message r
  by_entry C f g c (stamp at context) r = absurd r
  by_entry C f g c sync_timer r = absurd r
  by_entry C f g c (delay_timer draw) r = absurd r
  by_entry C f g c (filter_answer update) r = absurd r
  by_entry C f g c (set_state new) r = absurd r

  -- ---- to its rule, or refused

  module _ (P : Done → Type 0) (p : Port) where
    read_rule : (r : Reading) (rule : Header → Body → Time → Worked Done) → r ≡ Ok (Received.Message h b t) → All P (rule h b t) → All P (viewed p.config r rule)
    read_rule r rule e k =
        subst (λ (x : Reading). All P (viewed p.config x rule)) (sym e)
        (all_cond P Silent (ours p.config h) (rule h b t) (refused Outcome.Foreign) (λ o. k) (λ o. tt))

    pub event_rule : (at : Time) (message : List ℕ) → read_of message ≡ Ok (Received.Message h b t) → All P (on_event p at h b t) → All P (rule_of p (event at message))
    unfolding rule_of
    event_rule at message r k = read_rule (read_of message) (on_event p at) r k

    -- both entries give it to the same one
    pub brought_rule : (w : Worked Done) → ((at : Time) → on_event p at h b t ≡ w) → on_general p h b t ≡ w → (e : Event) → Brings p.config e h b t → All P w → All P (rule_of p e)
    unfolding rule_of
    brought_rule w f g e r k =
        by_entry (λ x. All P (rule_of p x))
        (λ at message q. event_rule at message q (subst (All P) (sym (f at)) k))
        (λ message q. read_rule (read_of message) (on_general p) q (subst (All P) (sym g) k)) p.config e r

  -- ---- its time

  pub wire-time : (message : List ℕ) → read_of message ≡ Ok (Received.Message h b t) → time t ≡ wire (timestamp_of b)
  unfolding time_of_wire wire time
  wire-time message e =
      let w : WireTimestamp = timestamp_of b in
      by_test (λ o a. a ≡ Ok t → time t ≡ wire w) (ltb w.seconds (2 ^ 48)) (Ok (time_words (wire w))) (Err TimeError.OutOfRange)
      (λ v.
      let g : t ≡ time_words (wire w) = cc in
      ap time g ∙ ap pos (split ((w.seconds * 10 ^ 9 + w.nanos) * 2 ^ 32) 64))
      (λ v. absurd (apart cc)) (message_is message h b t e).time

  pub brought_time : (c : Config) (e : Event) → Brings c e h b t → time t ≡ wire (timestamp_of b)
  brought_time = by_entry (λ e. time t ≡ wire (timestamp_of b)) (λ at message r. wire-time message r) wire-time
