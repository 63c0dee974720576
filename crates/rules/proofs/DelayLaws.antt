-- DelayResp and the stamp of a DelayReq beside the numbers of `WorkedOut`.
use Rattle.std.specs.Prelude.{ℕ, ◌≡◌, refl, true, false, cond, ◌&&◌, [], eqb, ◌-ℤ◌, Option, Some, None}
use Rattle.std.proofs.Common.{sym, subst}
use Rattle.std.proofs.Math.Bool.{Bool, not}
use Rattle.std.proofs.Math.IntN.{ℤ}
use Rattle.rules.specs.Names.{Time, Header, Identity, Exchange, SlaveState, Context, Port}
use Rattle.time.specs.Units.{time, time_of, correction}
use Rattle.record.specs.Record.{with_slave, with_delay}
use Rattle.fitness.specs.Fit.{there, full, peer_full}
use Rattle.record.specs.Same.{same_identity}
use Rattle.rules.specs.Worked.{Worked, worked, ◌then◌, less_correction, a_time}
use Rattle.rules.specs.Events.{Done, nothing}
use Rattle.rules.specs.Measuring.{complete, measure_delay}
use Rattle.rules.specs.Exchanges.{Change, stays, becomes, delay_answered, delay_stamped}
use Rattle.rules.specs.Rules.{keeping, delay_resp, stamped}
use Rattle.rules.specs.WorkedOut.{Completed, unfinished, delay, opened, receive_in, send_in, held, corrected, no_sums, numbers_of, delay_resp_sums, stamp_sums}
use Rattle.rules.proofs.AgreeLaws.{by_test, agrees_time, then_then}
use Rattle.rules.specs.MeasureLaws.{Judged, SumsJudged}
use Rattle.rules.proofs.MeasureLaws.{delay_judged}
use Rattle.rules.proofs.SettleLaws.{settle_delay}

module _ (p : Port) (s : SlaveState) (q : peer_full p.peer ≡ false) (f : full s.sync ≡ false) where
  abbrev slave : Port
  slave = with_slave p s

  abbrev store : Exchange → Port
  store x = with_slave p (with_delay s x)

  stored : (x : Exchange) (c : Completed) → Judged slave c (complete x (nothing (store x)) (measure_delay (store x) (with_delay s x))) → Judged slave c (keeping slave store (becomes x))
  stored x c j = subst (Judged slave c) (sym (settle_delay p s x q f)) j

  -- ---- the stamp

  -- a send time for an exchange that has none
  filled : (k : ℕ) (t : Time) (receive : Option Time) → Judged slave (held receive (λ r. delay (time t) r)) (keeping slave store (becomes (Exchange.Measuring k (Some t) receive)))
  filled k t None = stored (Exchange.Measuring k (Some t) None) unfinished (refl, tt)
  filled k t (Some u) =
      stored (Exchange.Measuring k (Some t) (Some u)) (delay (time t) (time u))
      (delay_judged p s (Exchange.Measuring k (Some t) (Some u)) t u)

  stamp_exchange : (id : ℕ) (t : Time) (x : Exchange) → SumsJudged slave (cond (opened id x && not (there (send_in x))) (record { numbers = []; completes = held (receive_in x) (λ r. delay (time t) r) }) no_sums) (keeping slave store (delay_stamped id t x))
  unfolding delay_stamped
  stamp_exchange id t Exchange.Empty = (refl, tt)
  stamp_exchange id t (Exchange.Measuring k (Some u) receive) =
      by_test (λ b c. SumsJudged slave (cond (b && false) (record { numbers = []; completes = held receive (λ r. delay (time t) r) }) no_sums) (keeping slave store c)) (eqb k id) stays stays
      (refl, tt)
      (refl, tt)
  stamp_exchange id t (Exchange.Measuring k None receive) =
      by_test (λ b c. SumsJudged slave (cond (b && true) (record { numbers = []; completes = held receive (λ r. delay (time t) r) }) no_sums) (keeping slave store c)) (eqb k id) (becomes (Exchange.Measuring k (Some t) receive)) stays
      (filled k t receive)
      (refl, tt)

  pub delay_stamp_sums_lem : (id : ℕ) (t : Time) → SumsJudged slave (stamp_sums slave t (Context.DelayReq id)) (stamped slave t (Context.DelayReq id))
  unfolding stamped
  delay_stamp_sums_lem id t = stamp_exchange id t s.delay

  -- ---- the response

  heard : (k : ℕ) (t : Time) (send : Option Time) → Judged slave (held send (λ a. delay a (time t))) (keeping slave store (becomes (Exchange.Measuring k send (Some t))))
  heard k t None = stored (Exchange.Measuring k None (Some t)) unfinished (refl, tt)
  heard k t (Some u) =
      stored (Exchange.Measuring k (Some u) (Some t)) (delay (time u) (time t))
      (delay_judged p s (Exchange.Measuring k (Some u) (Some t)) u t)

  module _ (id : ℕ) (z : ℤ) where
    abbrev sum : Worked Time
    sum = a_time (time_of z)

    abbrev rest : Worked (Change Exchange) → Worked Done
    rest w = w then λ c. keeping slave store c

    answer : (k : ℕ) (send : Option Time) → SumsJudged slave (corrected z (held send (λ a. delay a z))) (rest (sum then λ t. worked (becomes (Exchange.Measuring k send (Some t)))))
    answer k send =
        subst (SumsJudged slave (corrected z (held send (λ a. delay a z)))) (sym (then_then sum (λ t. worked (becomes (Exchange.Measuring k send (Some t)))) (λ c. keeping slave store c)))
        (agrees_time z (numbers_of slave (held send (λ a. delay a z))) _ _ (λ t i.
        subst (λ (y : ℤ). Judged slave (held send (λ a. delay a y)) (keeping slave store (becomes (Exchange.Measuring k send (Some t))))) i.value (heard k t send)))

    answer_exchange : (x : Exchange) → SumsJudged slave (cond (opened id x && not (there (receive_in x))) (corrected z (held (send_in x) (λ a. delay a z))) no_sums) (rest (delay_answered id sum x))
    unfolding delay_answered
    answer_exchange Exchange.Empty = (refl, tt)
    answer_exchange (Exchange.Measuring k send (Some u)) =
        by_test (λ b c. SumsJudged slave (cond (b && false) (corrected z (held send (λ a. delay a z))) no_sums) (rest c)) (eqb k id) (worked stays) (worked stays)
        (refl, tt)
        (refl, tt)
    answer_exchange (Exchange.Measuring k send None) =
        by_test (λ b c. SumsJudged slave (cond (b && true) (corrected z (held send (λ a. delay a z))) no_sums) (rest c)) (eqb k id) _ (worked stays)
        (answer k send)
        (refl, tt)

  pub delay_resp_sums_lem : (h : Header) (requester : Identity) (timestamp : Time) → SumsJudged slave (delay_resp_sums slave h requester (time timestamp -ℤ correction h.correction)) (delay_resp slave h requester timestamp)
  unfolding delay_resp less_correction
  delay_resp_sums_lem h requester timestamp =
      let z : ℤ = time timestamp -ℤ correction h.correction in
      let x : Exchange = s.delay in
      let from : Bool = same_identity s.master h.source in
      by_test (λ b w. SumsJudged slave (cond (b && from && opened h.id x && not (there (receive_in x))) (corrected z (held (send_in x) (λ a. delay a z))) no_sums) w) (same_identity p.config.identity requester) _ _
      (by_test (λ b w. SumsJudged slave (cond (b && opened h.id x && not (there (receive_in x))) (corrected z (held (send_in x) (λ a. delay a z))) no_sums) w) from _ _
      (answer_exchange h.id z x)
      (refl, tt))
      (refl, tt)
