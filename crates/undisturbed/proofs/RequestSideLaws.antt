-- What asks for delays as a side of the record: the request, under either mechanism, begins its exchange with the next id and says so to the host.
use Rattle.std.specs.Prelude.{ℕ, ◌≡◌, refl, true, false, List, [], ◌∷◌, None, Ok, Err, Some, Result}
use Rattle.std.proofs.Common.{sym, ap, ◌∙◌, subst}
use Rattle.timers.specs.Timers.{delay_timer_of}
use Rattle.time.specs.Units.{time}
use Rattle.record.specs.Ids.{id_after}
use Rattle.fitness.specs.Fit.{config_out, unfit}
use Rattle.fitness.specs.FitLaws.{FitSync}
use Rattle.rules.specs.Names.{Time, Identity, Exchange, Config, Port, Outcome, Message, Action, TimerError}
use Rattle.rules.specs.Worked.{Worked, worked, ◌then◌, a_timer}
use Rattle.rules.specs.Events.{Event, delay_timer, Done, Answered, answered, sending, packet}
use Rattle.rules.specs.Measuring.{settle}
use Rattle.rules.specs.Table.{row1, row3}
use Rattle.rules.specs.Step.{rule_of, step}
use Rattle.undisturbed.specs.Runs.{requests, new, a_part, within, Item}
use Rattle.undisturbed.specs.Times.{Times, sent_at, times_in, times_of, comes_to}
use Rattle.undisturbed.specs.Undisturbed.{Reply, measured_in}
use Rattle.undisturbed.specs.PlainLaws.{plain, plain_reply, PlainSays}
use Rattle.undisturbed.specs.SideLaws.{PartGoes}
use Rattle.rules.specs.AllLaws.{Comes, Anything}
use Rattle.rules.specs.RefusalLaws.{NotTaken}
use Rattle.rules.proofs.RefusalLaws.{not_taken}
use Rattle.rules.proofs.FitnessLaws.{fitness_kept}
use Rattle.undisturbed.specs.StandingLaws.{Asking, Shared, stands, FitAsking, gated, step-stands, LetThrough, let_through}
use Rattle.undisturbed.specs.TimesLaws.{overlap, Bag, empty_bag, with_send, HoldsAll, FillsAll}
use Rattle.undisturbed.proofs.TimesLaws.{none_held, lacks_send}
use Rattle.undisturbed.specs.LaneLaws.{Admitted}
use Rattle.undisturbed.proofs.LaneLaws.{Stores, Exchanging, SideGoes}

module _ (c : Config) (master : Identity) (room : ℕ) where
  -- this side, with the sync exchange beside it
  abbrev pub asks : Asking → Exchange → Shared → Port
  asks y x z = stands c master x y z

  abbrev pub AskingExchange : ℕ → (Event → Type 0) → (Bag → Asking) → Asking → Type 0
  AskingExchange id Of holding closed = Exchanging c master room requests asks (FitAsking c master) FitSync id_after id Of holding closed

  abbrev pub AskingGoes : ℕ → List Event → Asking → List (Item Event) → Type 0
  AskingGoes id es y items = SideGoes c master room requests asks (FitAsking c master) FitSync id_after id es y items

  pub asking_gate : (id : ℕ) (y : Asking) (x : Exchange) (z : Shared) (e : Event) → FitAsking c master id y → FitSync x → step (asks y x z) room e ≡ answered (asks y x z) (gated c master room e (rule_of (asks y x z) e))
  asking_gate id y x z e fy fx = step-stands c master room e x y z fx fy.delay fy.peer

  timer_comes : (a : Result ℕ TimerError) → Comes Anything NotTaken (a_timer a)
  timer_comes (Ok ns) = tt
  timer_comes (Err TimerError.Interval) = not_taken.unfit
  timer_comes (Err TimerError.Draw) = not_taken.limits

  -- the request itself brings no time
  pub nothing_yet : (draw : ℕ) → HoldsAll (times_of c (delay_timer draw ∷ [])) empty_bag
  unfolding times_of times_in
  nothing_yet draw = none_held

  -- the stamp of either request brings when it left, and nothing else
  pub stamp_stores : (holding : Bag → Asking) (es : List Event) (v : Bag) → HoldsAll (times_of c es) v → (e : Event) (t : Time) → times_in c e ≡ sent_at (time t) → overlap (times_of c es) (times_in c e) ≡ false → (v.send ≡ None → (x : Exchange) (z : Shared) → rule_of (asks (holding v) x z) e ≡ settle (asks (holding (with_send v t)) x z)) → Stores c master room requests asks (FitAsking c master) FitSync id_after holding e v
  stamp_stores holding es v held e t brings missing rule =
      let no_send : v.send ≡ None = lacks_send (times_of c es) (times_in c e) v held missing (time t) (ap (λ (a : Times). a.send) brings) in
      record {
        guard = true;
        sum = worked t;
        range = tt;
        next_bag = with_send v;
        rule = λ x z fx. rule no_send x z;
        fills = subst (λ (a : Times). FillsAll a v (with_send v t)) (sym brings) (record { send = refl; receive = refl; request_receive = refl; response_send = refl });
      }

  -- the request: from y, with this message and this action behind the timer, to the side that it leaves
  module _ (id draw : ℕ) (y left : Asking) (m : Message) (a : Action) (fy : FitAsking c master id y)
      (rule : (x : Exchange) (z : Shared) → rule_of (asks y x z) (delay_timer draw) ≡ (a_timer (delay_timer_of c.delay_interval draw) then λ ns. worked (sending (asks left x z) (Action.ResetDelayRequestTimer ns ∷ []) m a)))
      (fits : (x : Exchange) (z : Shared) → unfit (asks left x z) ≡ false → FitAsking c master id left) where
    abbrev says : ℕ → Reply
    says ns =
        record { outcome = Outcome.Taken; measurement = None; packet = packet (Some m); actions = Action.ResetDelayRequestTimer ns ∷ a ∷ []; reset = false }

    pub request_part_lem : (Then : Asking → Type 0) → (FitAsking c master id left → Then left) → PartGoes asks (plain room) (FitAsking c master) FitSync id_after Admitted measured_in PlainSays (comes_to c requests) id (within requests (a_part new)) (delay_timer draw) y Then
    request_part_lem Then goes = λ x z fx (taken, bytes).
        let e : Event = delay_timer draw in
        let timer : Worked ℕ = a_timer (delay_timer_of c.delay_interval draw) in
        let sent : Exchange → Shared → ℕ → Worked Done = λ x z ns. worked (sending (asks left x z) (Action.ResetDelayRequestTimer ns ∷ []) m a) in
        let g : (x : Exchange) (z : Shared) → FitSync x → step (asks y x z) room e ≡ answered (asks y x z) (gated c master room e (timer then sent x z)) = λ x z fx. asking_gate id y x z e fy fx ∙ ap (λ (w : Worked Done). answered (asks y x z) (gated c master room e w)) (rule x z) in
        let l : LetThrough (row1 c e room) (config_out c) (row3 e) true timer = let_through (asks y x z) (row1 c e room) (config_out c) (row3 e) true timer (sent x z) (timer_comes (delay_timer_of c.delay_interval draw)) (subst (λ (q : Answered). q.outcome ≡ Outcome.Taken) (g x z fx) taken) in
        let does : (x : Exchange) (z : Shared) → FitSync x → step (asks y x z) room e ≡ answered (asks y x z) (sent x z l.value) = λ x z fx. g x z fx ∙ ap (answered (asks y x z)) (l.through (sent x z)) in
        let fit : FitAsking c master id left = fits x z (subst (λ (q : Answered). unfit q.port ≡ false) (does x z fx) (fitness_kept (asks y x z) room e bytes taken)) in
        record {
          side = left;
          answer = says l.value;
          fits = fit;
          does = λ x z fx. ap (λ (q : Answered). (q.port, plain_reply q)) (does x z fx);
          silent = refl;
          goes_on = goes fit;
        }
