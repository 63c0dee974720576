-- The events of an exchange in any order, once for every kind of exchange: an open exchange is a bag of times, each event puts into it what it brings, and the one that makes it full is measured. A kind of exchange has to show the five laws of `Exchanging`, each about one event.
use Rattle.std.specs.Prelude.{ℕ, ◌≡◌, refl, Bool, cond, Some, None}
use Rattle.std.proofs.Common.{sym, ◌∙◌}
use Rattle.std.proofs.Math.Path.{ap, subst}
use Rattle.std.proofs.Math.Bool.{true, false}
use mathlib.Core.List.{List, [], ◌∷◌, ◌++◌}
use Rattle.fitness.specs.Fit.{config_out, unfit}
use Rattle.rules.specs.Names.{Time, Identity, Config, Port, Outcome, Measurement}
use Rattle.rules.specs.Worked.{Worked, worked, refused, ◌then◌}
use Rattle.rules.specs.Events.{Event, Done, Answered, answered, nothing}
use Rattle.rules.specs.Measuring.{settle, measured}
use Rattle.rules.specs.Table.{row1, row3}
use Rattle.rules.specs.Step.{rule_of, step}
use Rattle.rules.specs.WorkedOut.{Completed, numbers_of}
use Rattle.rules.specs.Formulas.{Says}
use Rattle.undisturbed.specs.Runs.{Lane, new, again, in_full, short, a_part, the_last, within, free, Item, placed}
use Rattle.undisturbed.specs.Times.{Times, times_in, times_of, complete_of, comes_to}
use Rattle.undisturbed.specs.Undisturbed.{measured_in}
use Rattle.undisturbed.specs.PlainLaws.{plain, plain_reply, PlainSays}
use Rattle.undisturbed.specs.SideLaws.{PartGoes, LastGoes, Goes}
use Rattle.rules.specs.AllLaws.{Comes, Anything, Silent, All}
use Rattle.rules.proofs.AllLaws.{all_is}
use Rattle.rules.proofs.AgreeLaws.{agrees_all}
use Rattle.rules.specs.MeasureLaws.{Judged}
use Rattle.rules.specs.RefusalLaws.{NotTaken}
use Rattle.rules.proofs.FitnessLaws.{fitness_kept}
use Rattle.undisturbed.specs.StandingLaws.{Shared, gated, LetThrough, let_through}
use Rattle.undisturbed.specs.TimesLaws.{overlap, finished, Bag, HoldsAll, FillsAll}
use Rattle.undisturbed.proofs.TimesLaws.{times_snoc, fills_hold}
use Rattle.undisturbed.specs.LaneLaws.{Admitted, replied, Rest}

-- ---- an exchange as its proof takes it: each event brings what is missing, and the last what is missing last

module _ (c : Config) (master : Identity) (room : ℕ) (k : Lane) {L R I : Type 0} (put : L → R → Shared → Port) (FitL : I → L → Type 0) (FitR : R → Type 0) (next : I → I) where
  -- what an event does to the bag v: behind a test it works out a time, and stores what it brings
  pub record Stores (holding : Bag → L) (e : Event) (v : Bag) : Type 0 where
    pub guard : Bool
    pub sum : Worked Time
    pub range : Comes Anything NotTaken sum
    pub next_bag : Time → Bag
    pub rule : (r : R) (z : Shared) → FitR r → rule_of (put (holding v) r z) e ≡ cond guard (sum then λ t. settle (put (holding (next_bag t)) r z)) (refused Outcome.Foreign)
    pub fills : All (λ t. FillsAll (times_in c e) v (next_bag t)) sum

  -- what a full bag measures: it is as 01 has it of the exchange that it comes to, and nothing of it depends on the other side
  pub record Completes (holding : Bag → L) (closed : L) (a : Times) (v : Bag) (z : Shared) : Type 0 where
    pub exchange : Completed
    pub worth : complete_of c k a ≡ exchange
    pub measure : R → Worked Done
    pub settled : (r : R) → FitR r → settle (put (holding v) r z) ≡ measure r
    pub judged : (w : Bag) (r : R) → Judged (put (holding w) r z) exchange (measure r)
    pub sum : Worked (Shared × Measurement)
    pub range : Comes Anything NotTaken sum
    pub measures : (r : R) → measure r ≡ (sum then λ m. worked (measured (put closed r m.0) m.1 false))

  pub record Exchanging (i : I) (Of : Event → Type 0) (holding : Bag → L) (closed : L) : Type 0 where
    pub stores : (es : List Event) (e : Event) (v : Bag) → Of e → HoldsAll (times_of c es) v → overlap (times_of c es) (times_in c e) ≡ false → Stores holding e v
    pub lacking : (a : Times) (v : Bag) → HoldsAll a v → finished (complete_of c k a) ≡ false → (r : R) (z : Shared) → FitR r → settle (put (holding v) r z) ≡ nothing (put (holding v) r z)
    pub completes : (a : Times) (v : Bag) → HoldsAll a v → finished (complete_of c k a) ≡ true → (z : Shared) → Completes holding closed a v z
    pub fits : (v : Bag) (r : R) (z : Shared) → unfit (put (holding v) r z) ≡ false → FitL i (holding v)
    pub closed_fits : FitL (next i) closed

  abbrev pub SideGoes : I → List Event → L → List (Item Event) → Type 0
  SideGoes i es l items = Goes put (plain room) FitL FitR next Admitted measured_in PlainSays (comes_to c k) i es l items

  module _ (gate : (i : I) (l : L) (r : R) (z : Shared) (e : Event) → FitL i l → FitR r → step (put l r z) room e ≡ answered (put l r z) (gated c master room e (rule_of (put l r z) e))) {i : I} {Of : Event → Type 0} {holding : Bag → L} {closed : L} (x : Exchanging i Of holding closed) where
    -- ---- an event of the exchange, up to where what it left is settled

    record Put (es : List Event) (e : Event) (v : Bag) : Type 0 where
      bag : Bag
      holds : HoldsAll (times_of c (es ++ (e ∷ []))) bag
      steps : (r : R) (z : Shared) → FitR r → step (put (holding v) r z) room e ≡ answered (put (holding v) r z) (settle (put (holding bag) r z))

    module _ (es : List Event) (e : Event) (v : Bag) (of : Of e) (h : HoldsAll (times_of c es) v) (missing : overlap (times_of c es) (times_in c e) ≡ false) (f : FitL i (holding v)) where
      is_put : (r : R) (z : Shared) → FitR r → (step (put (holding v) r z) room e).outcome ≡ Outcome.Taken → Put es e v
      is_put r z fr ok =
          let s : Stores holding e v = x.stores es e v of h missing in
          let g : (r : R) (z : Shared) → FitR r → step (put (holding v) r z) room e ≡ answered (put (holding v) r z) (gated c master room e (cond s.guard (s.sum then λ t. settle (put (holding (s.next_bag t)) r z)) (refused Outcome.Foreign))) = λ r z fr. gate i (holding v) r z e f fr ∙ ap (λ (w : Worked Done). answered (put (holding v) r z) (gated c master room e w)) (s.rule r z fr) in
          let l : LetThrough (row1 c e room) (config_out c) (row3 e) s.guard s.sum = let_through (put (holding v) r z) (row1 c e room) (config_out c) (row3 e) s.guard s.sum (λ t. settle (put (holding (s.next_bag t)) r z)) s.range (subst (λ (q : Answered). q.outcome ≡ Outcome.Taken) (g r z fr) ok) in
          let w : Bag = s.next_bag l.value in
          record {
            bag = w;
            holds = subst (λ (a : Times). HoldsAll a w) (sym (times_snoc c es e)) (fills_hold (times_of c es) (times_in c e) v w h missing (all_is (λ t. FillsAll (times_in c e) v (s.next_bag t)) Silent s.sum l.value l.is s.fills));
            steps = λ r z fr. g r z fr ∙ ap (answered (put (holding v) r z)) (l.through (λ t. settle (put (holding (s.next_bag t)) r z)));
          }

      -- ---- a part: something is missing still

      part_done : (j : Lane) → finished (comes_to c k (es ++ (e ∷ []))) ≡ false → (Then : L → Type 0) → ((w : Bag) → HoldsAll (times_of c (es ++ (e ∷ []))) w → FitL i (holding w) → Then (holding w)) → PartGoes put (plain room) FitL FitR next Admitted measured_in PlainSays (comes_to c k) i (within j (a_part new)) e (holding v) Then
      unfolding comes_to
      part_done j unfinished Then goes = λ r z fr (taken, bytes).
          let p : Put es e v = is_put r z fr taken in
          let quiet : (r : R) (z : Shared) → FitR r → step (put (holding v) r z) room e ≡ answered (put (holding v) r z) (nothing (put (holding p.bag) r z)) = λ r z fr. p.steps r z fr ∙ ap (answered (put (holding v) r z)) (x.lacking (times_of c (es ++ (e ∷ []))) p.bag p.holds unfinished r z fr) in
          let fit : FitL i (holding p.bag) = x.fits p.bag r z (subst (λ (q : Answered). unfit q.port ≡ false) (quiet r z fr) (fitness_kept (put (holding v) r z) room e bytes taken)) in
          record {
            side = holding p.bag;
            answer = replied None;
            fits = fit;
            does = λ r z fr. ap (λ (q : Answered). (q.port, plain_reply q)) (quiet r z fr);
            silent = refl;
            goes_on = goes p.bag p.holds fit;
          }

      -- ---- the last: nothing is missing any more

      last_done : (j : Lane) → finished (comes_to c k (es ++ (e ∷ []))) ≡ true → (Then : L → Type 0) → Then closed → LastGoes put (plain room) FitL FitR next Admitted measured_in PlainSays (comes_to c k) i (within j (the_last in_full)) es e (holding v) Then
      unfolding comes_to
      last_done j All-there Then goes = λ r z fr (taken, bytes).
          let p : Put es e v = is_put r z fr taken in
          let a : Times = times_of c (es ++ (e ∷ [])) in
          let m : Completes holding closed a p.bag z = x.completes a p.bag p.holds All-there z in
          let done : Shared × Measurement → R → Done = λ n r. measured (put closed r n.0) n.1 false in
          let g : (r : R) → FitR r → step (put (holding v) r z) room e ≡ answered (put (holding v) r z) (m.sum then λ n. worked (done n r)) = λ r fr. p.steps r z fr ∙ ap (answered (put (holding v) r z)) (m.settled r fr ∙ m.measures r) in
          let l : LetThrough false false false true m.sum = let_through (put (holding v) r z) false false false true m.sum (λ n. worked (done n r)) m.range (subst (λ (q : Answered). q.outcome ≡ Outcome.Taken) (g r fr) taken) in
          let n : Shared × Measurement = l.value in
          let SaysOf : Completed → Done → Type 0 = λ x d. Says (put (holding v) r z) x d.measurement d.port in
          let settled : (r : R) → (m.sum then λ n. worked (done n r)) ≡ worked (done n r) = λ r. l.through (λ n. worked (done n r)) in
          record {
            side = closed;
            shared = n.0;
            answer = replied (Some n.1);
            fits = x.closed_fits;
            does = λ r fr. ap (λ (q : Answered). (q.port, plain_reply q)) (g r fr ∙ ap (answered (put (holding v) r z)) (settled r));
            says = subst (λ (x : Completed). Says (put (holding v) r z) x (Some n.1) (put closed r n.0)) (sym m.worth) (all_is (SaysOf m.exchange) Silent (m.measure r) (done n r) (m.measures r ∙ settled r) (agrees_all (numbers_of (put (holding v) r z) m.exchange) (SaysOf m.exchange) (m.measure r) (m.judged v r)));
            once = tt;
            goes_on = goes;
          }

    -- ---- all that is left of an exchange, and what comes behind it

    pub rest_goes : (items more : List (Item Event)) (es : List Event) (v : Bag) → HoldsAll (times_of c es) v → FitL i (holding v) → Rest c k Of es items → SideGoes (next i) [] closed more → SideGoes i es (holding v) (items ++ more)
    unfolding Rest Goes
    rest_goes [] more es v h f rest goes = absurd rest
    rest_goes (placed (within j (a_part new)) e ∷ items) more es v h f (of, b, rest) goes =
        part_done es e v of h b.missing f j b.finishes _ (λ w hw fw. rest_goes items more (es ++ (e ∷ [])) w hw fw rest goes)
    rest_goes (placed (within j (a_part again)) e ∷ items) more es v h f rest goes = absurd rest
    rest_goes (placed (within j (the_last in_full)) e ∷ []) more es v h f (of, b, rest) goes = last_done es e v of h b.missing f j b.finishes _ goes
    rest_goes (placed (within j (the_last in_full)) e ∷ (n ∷ items)) more es v h f (of, b, rest) goes = absurd rest
    rest_goes (placed (within j (the_last (short w))) e ∷ items) more es v h f rest goes = absurd rest
    rest_goes (placed (free b) e ∷ items) more es v h f rest goes = absurd rest
