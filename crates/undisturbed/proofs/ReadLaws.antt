-- A message that an event brings: the rule that the event goes by, and the times that it brings to its exchange.
use Rattle.std.specs.Prelude.{ℕ, ◌≡◌, cond, List, Ok}
use Rattle.std.proofs.Math.Path.{ap}
use Rattle.std.proofs.Common.{◌∙◌}
use Rattle.rules.specs.Names.{Time, Header, Body, Reading, Config, Port, Outcome, Received}
use Rattle.rules.specs.Worked.{Worked, refused}
use Rattle.rules.specs.Events.{Event, event, general, Done, reading, Brings}
use Rattle.rules.specs.Rules.{on_event, on_general}
use Rattle.rules.specs.Table.{ours}
use Rattle.rules.specs.Step.{viewed, rule_of}
use Rattle.rules.specs.WorkedOut.{of_reading}
use Rattle.undisturbed.specs.Times.{no_times, later_times, event_times, times_in}
use Rattle.rules.proofs.TakenLaws.{by_entry}

module _ (h : Header) (b : Body) (t : Time) where
  -- for us its rule, and row 6 for others
  abbrev pub heard : Config → Worked Done → Worked Done
  heard c w = cond (ours c h) w (refused Outcome.Foreign)

  pub event_rule_is : (p : Port) (at : Time) (message : List ℕ) → reading p.config message ≡ Ok (Received.Message h b t) → rule_of p (event at message) ≡ heard p.config (on_event p at h b t)
  unfolding rule_of
  event_rule_is p at message r = ap (λ (x : Reading). viewed p.config x (on_event p at)) r

  pub general_rule_is : (p : Port) (message : List ℕ) → reading p.config message ≡ Ok (Received.Message h b t) → rule_of p (general message) ≡ heard p.config (on_general p h b t)
  unfolding rule_of
  general_rule_is p message r = ap (λ (x : Reading). viewed p.config x (on_general p)) r

  -- what both entries do with it
  pub brought_rule_is : (p : Port) (w : Worked Done) → ((at : Time) → on_event p at h b t ≡ w) → on_general p h b t ≡ w → (e : Event) → Brings p.config e h b t → rule_of p e ≡ heard p.config w
  brought_rule_is p w f g =
      by_entry h b t (λ e. rule_of p e ≡ heard p.config w) (λ at message r. event_rule_is p at message r ∙ ap (heard p.config) (f at)) (λ message r. general_rule_is p message r ∙ ap (heard p.config) g) p.config

  pub event_times_lem : (c : Config) (at : Time) (message : List ℕ) → reading c message ≡ Ok (Received.Message h b t) → times_in c (event at message) ≡ event_times at h b
  unfolding times_in
  event_times_lem c at message r = ap (of_reading no_times (λ h b u. event_times at h b)) r

  pub brought_times : (c : Config) → ((at : Time) → event_times at h b ≡ later_times h b) → (e : Event) → Brings c e h b t → times_in c e ≡ later_times h b
  unfolding times_in
  brought_times c f =
      by_entry h b t (λ e. times_in c e ≡ later_times h b) (λ at message r. event_times_lem c at message r ∙ f at) (λ message r. ap (of_reading no_times (λ h b u. later_times h b)) r) c
