-- A refusal changes nothing; and what it is to be taken: no row refuses, and the event's rule gives what is answered.
use Rattle.std.specs.Prelude.{◌≡◌, Bool, true, false, ℕ}
use Rattle.std.proofs.Math.Path.{refl}
use Rattle.std.proofs.Common.{sym, ap, ◌∙◌, subst}
use Rattle.octets.proofs.BytesLaws.{apart}
use Rattle.rules.specs.Names.{Port, Outcome}
use Rattle.fitness.specs.Fit.{unfit}
use Rattle.rules.specs.Worked.{Worked, worked, refused}
use Rattle.rules.specs.Events.{Event, Done, Answered, answered, refusal}
use Rattle.record.specs.Record.{with_sync, with_delay, with_slave, with_peer}
use Rattle.rules.specs.Measuring.{settle}
use Rattle.rules.specs.Rules.{filtered, state_set}
use Rattle.rules.specs.Table.{row1, row3}
use Rattle.rules.specs.Step.{tabled, unless, rule_of, step}
use Rattle.rules.specs.AllLaws.{Comes, Anything, Silent, All}
use Rattle.rules.proofs.AllLaws.{all_is, all_cond, all_fill}
use Rattle.rules.proofs.RuleLaws.{all_settle}
use Rattle.rules.specs.EveryLaws.{Rows, Every}
use Rattle.rules.proofs.EveryLaws.{every_rule}
use Rattle.rules.specs.RefusalLaws.{NotTaken, Untouched, IsTaken}

-- ---- no rule refuses with the number of what is taken

pub not_taken : Rows NotTaken
not_taken =
    record {
      unfit = λ e. apart cc;
      limits = λ e. apart cc;
      version = λ e. apart cc;
      malformed = λ e. apart cc;
      foreign = λ e. apart cc;
      host = λ e. apart cc;
      range = λ e. apart cc;
    }

settled : (p : Port) → Comes Anything NotTaken (settle p)
settled p = all_settle Anything NotTaken not_taken.range p tt (λ s raw m. tt) (λ s m. tt) (λ id i m. tt)

each : (p : Port) → Every Anything NotTaken p
unfolding filtered state_set
each p =
    record {
      heard = record {
        rows = not_taken;
        idle = tt;
        faulty = tt;
        new_sync = λ s x e. settled (with_slave p (with_sync s x));
        new_delay = λ s x e. settled (with_slave p (with_delay s x));
        new_peer = λ x. settled (with_peer p x);
        delay_resp = λ h at m e. tt;
        pdelay_resp = λ h at m e. tt;
        follow_up = λ id t m e. tt;
        pdelay_resp_follow_up = λ id i t m e. tt;
      };
      at_sync_sent = λ ns. tt;
      at_delay_sent = λ s ns. tt;
      at_peer_sent = λ ns. tt;
      filter = λ u. tt;
      set = λ new. tt;
    }

pub rule_refuses : (p : Port) (e : Event) → Comes Anything NotTaken (rule_of p e)
rule_refuses p e = every_rule Anything NotTaken p (each p) e

-- ---- a refusal changes nothing

as_refused : (p : Port) (w : Worked Done) → ((answered p w).outcome ≡ Outcome.Taken → ⊥) → answered p w ≡ refusal (answered p w).outcome p
as_refused p (worked d) n = absurd (n refl)
as_refused p (refused o) n = refl

pub refusal_changes_nothing : (p : Port) (room : ℕ) (e : Event) → ((step p room e).outcome ≡ Outcome.Taken → ⊥) → step p room e ≡ refusal (step p room e).outcome p
unfolding step
refusal_changes_nothing p room e n = as_refused p (tabled p room e) n

untouched : (p : Port) (w : Worked Done) → ((answered p w).outcome ≡ Outcome.Taken → ⊥) → Untouched p (answered p w)
untouched p (worked d) n = absurd (n refl)
untouched p (refused o) n = record { port = refl; measurement = refl; sent = refl; actions = refl; reset = refl }

pub refusal_untouched : (p : Port) (room : ℕ) (e : Event) → ((step p room e).outcome ≡ Outcome.Taken → ⊥) → Untouched p (step p room e)
unfolding step
refusal_untouched p room e n = untouched p (tabled p room e) n

-- ---- what is taken

-- behind rows 1, 2 and 3 the rule answers
pub step_rule : (p : Port) (room : ℕ) (e : Event) → row1 p.config e room ≡ false → unfit p ≡ false → row3 e ≡ false → step p room e ≡ answered p (rule_of p e)
unfolding step
step_rule p room e a b c = simp (a, b, c)

module _ (p : Port) (room : ℕ) (e : Event) where
  pub taken_by : (d : Done) → row1 p.config e room ≡ false → unfit p ≡ false → row3 e ≡ false → rule_of p e ≡ worked d → IsTaken p room e
  taken_by d a b c r =
      record { enough = a; fit = b; limits = c; done = d; rule = r; result = step_rule p room e a b c ∙ ap (answered p) r }

  by_rule : (w : Worked Done) → row1 p.config e room ≡ false → unfit p ≡ false → row3 e ≡ false → rule_of p e ≡ w → Comes Anything NotTaken w → (answered p w).outcome ≡ Outcome.Taken → IsTaken p room e
  by_rule (worked d) a b c r n t = taken_by d a b c r
  by_rule (refused o) a b c r n t = absurd (n t)

  by_rows : (a b c : Bool) → row1 p.config e room ≡ a → unfit p ≡ b → row3 e ≡ c → (answered p (unless a Outcome.Buffer (unless b Outcome.Unfit (unless c Outcome.Limits (rule_of p e))))).outcome ≡ Outcome.Taken → IsTaken p room e
  by_rows true b c x y z t = absurd (apart cc)
  by_rows false true c x y z t = absurd (apart cc)
  by_rows false false true x y z t = absurd (apart cc)
  by_rows false false false x y z t = by_rule (rule_of p e) x y z refl (rule_refuses p e) t

  pub taken_is : (step p room e).outcome ≡ Outcome.Taken → IsTaken p room e
  unfolding step
  taken_is t = by_rows (row1 p.config e room) (unfit p) (row3 e) refl refl refl t

  -- what the rule's every ending has behind rows 2 and 3, a taken event's answer has
  pub taken_has : (Q : Answered → Type 0) → (unfit p ≡ false → row3 e ≡ false → All (λ d. Q (answered p (worked d))) (rule_of p e)) → (step p room e).outcome ≡ Outcome.Taken → Q (step p room e)
  taken_has Q f t =
      let k : IsTaken p room e = taken_is t in
      subst Q (sym k.result) (all_is (λ d. Q (answered p (worked d))) Silent (rule_of p e) k.done k.rule (f k.fit k.limits))

  -- and what every refusal has besides, any answer has
  answered_has : (Q : Answered → Type 0) (w : Worked Done) → Comes (λ d. Q (answered p (worked d))) (λ o. Q (refusal o p)) w → Q (answered p w)
  answered_has Q (worked d) k = k
  answered_has Q (refused o) k = k

  pub step_has : (Q : Answered → Type 0) → ((o : Outcome) → Q (refusal o p)) → (unfit p ≡ false → row3 e ≡ false → All (λ d. Q (answered p (worked d))) (rule_of p e)) → Q (step p room e)
  unfolding step
  step_has Q r f =
      let P : Done → Type 0 = λ d. Q (answered p (worked d)) in
      let R : Outcome → Type 0 = λ o. Q (refusal o p) in
      answered_has Q (tabled p room e)
      (all_cond P R (row1 p.config e room) (refused Outcome.Buffer) _ (λ x. r Outcome.Buffer) (λ x.
      all_cond P R (unfit p) (refused Outcome.Unfit) _ (λ y. r Outcome.Unfit) (λ y.
      all_cond P R (row3 e) (refused Outcome.Limits) (rule_of p e) (λ z. r Outcome.Limits) (λ z.
      all_fill P R (rule_of p e) r (f y z)))))
