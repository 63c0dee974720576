-- Demand 3's induction: a run whose events each do as `SideLaws` has it can be gathered, and every answer and the end stay the same. Nothing here knows what an event is.
use Rattle.std.specs.Prelude.{◌≡◌}
use Rattle.std.proofs.Math.Path.{refl, ap}
use Rattle.std.proofs.Common.{◌∙◌}
use mathlib.Core.List.{List, [], ◌∷◌, ◌++◌}
use Rattle.undisturbed.specs.Runs.{Lane, syncs, requests, a_part, the_last, Place, within, free, Item, placed, gather_from, gather, lane, Each, log_of, end_of, Told, Once}
use Rattle.undisturbed.specs.SideLaws.{Goes, Frees}
use Rattle.undisturbed.specs.FrameLaws.{FitAny, swapped}

-- ---- runs that lead from here to there

module _ {S E A : Type 0} (act : S → E → S × A) where
  -- from s the items l log to k and end in t
  record Leads (s : S) (l : List (Item E)) (k : List (Item (E × A))) (t : S) : Type 0 where
    logs : log_of act s l ≡ k
    ends : end_of act s l ≡ t

  log_append : (s : S) (l r : List (Item E)) → log_of act s (l ++ r) ≡ log_of act s l ++ log_of act (end_of act s l) r
  unfolding log_of end_of
  log_append s [] r = refl
  log_append s (placed p e ∷ l) r = ap (placed p (e, (act s e).1) ∷◌) (log_append (act s e).0 l r)

  end_append : (s : S) (l r : List (Item E)) → end_of act s (l ++ r) ≡ end_of act (end_of act s l) r
  unfolding end_of
  end_append s [] r = refl
  end_append s (placed p e ∷ l) r = end_append (act s e).0 l r

module _ {S E A : Type 0} {act : S → E → S × A} where
  leads_nowhere : (s : S) → Leads act s [] [] s
  unfolding log_of end_of
  leads_nowhere s = record { logs = refl; ends = refl }

  leads_then : {s t u : S} {l r : List (Item E)} {k m : List (Item (E × A))} → Leads act s l k t → Leads act t r m u → Leads act s (l ++ r) (k ++ m) u
  leads_then {s} {l = l} {r = r} g h =
      record { logs = rw (log_append act s l r, g.logs, g.ends, h.logs) refl; ends = rw (end_append act s l r, g.ends) h.ends }

  -- one event, and then others
  leads_by : {s t u : S} {p : Place} {e : E} {a : A} {r : List (Item E)} {m : List (Item (E × A))} → act s e ≡ (t, a) → Leads act t r m u → Leads act s (placed p e ∷ r) (placed p (e, a) ∷ m) u
  unfolding log_of end_of
  leads_by {p = p} {e} {a} {r} h g =
      record {
        logs = ap (λ o. placed p (e, o.1) ∷ log_of act o.0 r) h ∙ ap (placed p (e, a) ∷◌) g.logs;
        ends = ap (λ o. end_of act o.0 r) h ∙ g.ends;
      }

-- a side l of what stands, put l r z, and the same side l0 in the gathered run, where the parts hs of the open exchange still wait: whatever stands beside, they log to ks and lead from l0 to l
module _ {L R Z S E A : Type 0} (put : L → R → Z → S) (act : S → E → S × A) (FitL : L → Type 0) (FitR : R → Type 0) where
  record Behind (l0 : L) (hs : List (Item E)) (ks : List (Item (E × A))) (l : L) : Type 0 where
    waits_fit : FitL l0
    fits : FitL l
    held : (r : R) (z : Z) → FitR r → Leads act (put l0 r z) hs ks (put l r z)

module _ {L R Z S E A : Type 0} {put : L → R → Z → S} {act : S → E → S × A} {FitL : L → Type 0} {FitR : R → Type 0} where
  behind_none : {l : L} → FitL l → Behind put act FitL FitR l [] [] l
  behind_none {l} f = record { waits_fit = f; fits = f; held = λ r z fr. leads_nowhere (put l r z) }

  -- one more part waits
  behind_more : {l0 l m : L} {hs : List (Item E)} {ks : List (Item (E × A))} {e : E} {a : A} (p : Place) → Behind put act FitL FitR l0 hs ks l → FitL m → ((r : R) (z : Z) → FitR r → act (put l r z) e ≡ (put m r z, a)) → Behind put act FitL FitR l0 (hs ++ (placed p e ∷ [])) (ks ++ (placed p (e, a) ∷ [])) m
  behind_more p b f does =
      record {
        waits_fit = b.waits_fit;
        fits = f;
        held = λ r z fr. leads_then (b.held r z fr) (leads_by (does r z fr) (leads_nowhere _));
      }

  -- the last has come: the parts are done right before it
  behind_last : {l0 l m : L} {r : R} {z y : Z} {hs rest : List (Item E)} {ks more : List (Item (E × A))} {e : E} {a : A} {t : S} (p : Place) → Behind put act FitL FitR l0 hs ks l → FitR r → act (put l r z) e ≡ (put m r y, a) → Leads act (put m r y) rest more t → Leads act (put l0 r z) (hs ++ (placed p e ∷ rest)) (ks ++ (placed p (e, a) ∷ more)) t
  behind_last {r = r} {z} p b fr does g = leads_then (b.held r z fr) (leads_by does g)

-- ---- the induction

-- x and y are the two sides of what stands, mk x y z, and z is what both share; i says which request is open or comes next
module _ {X Y Z I S E A C M : Type 0} (mk : X → Y → Z → S) (act : S → E → S × A) (FitX : X → Type 0) (FitY : I → Y → Type 0) (next : I → I)
    (Admitted : Place → E × A → Type 0) (measured : A → List M) (Says : S → C → A → S → Type 0) (nothing : C) (due : Lane → List E → C)
    (silent_says : (s : S) (a : A) (t : S) → measured a ≡ [] → Says s nothing a t) where
  -- both sides, as `SideLaws` has them. A sync has no index, and must not mind which request is open: its parts may be done beside a later one
  abbrev pub SyncGoes : List E → X → List (Item E) → Type 0
  SyncGoes = Goes mk act (λ (u : Unit {0}) x. FitX x) (FitAny FitY) (λ u. u) Admitted measured Says (due syncs) tt

  abbrev pub RequestGoes : I → List E → Y → List (Item E) → Type 0
  RequestGoes = Goes (swapped mk) act FitY FitX next Admitted measured Says (due requests)

  abbrev BehindX : X → List (Item E) → List (Item (E × A)) → X → Type 0
  BehindX = Behind mk act FitX (FitAny FitY)

  abbrev BehindY : I → Y → List (Item E) → List (Item (E × A)) → Y → Type 0
  BehindY i = Behind (swapped mk) act (FitY i) FitX

  -- from s the gathered items lead to the end; of the given run its log, and what is told of it
  record Lags (s : S) (items : List (Item E)) (gathered : List (Item (E × A))) (end : S) (log : List (Item (E × A))) (Tale : Type 0) : Type 0 where
    leads : Leads act s items gathered end
    once : Each (Once measured) log
    told : Tale

  -- one event of the given run more, whatever it is for the gathered one
  said : {s t u q end : S} {items rest : List (Item E)} {gathered more log : List (Item (E × A))} {p : Place} {e : E} {a : A} {c : C} {Tale : Type 0} → Leads act s items gathered end → Once measured p (e, a) → Says u c a q → Lags t rest more end log Tale → Lags s items gathered end (placed p (e, a) ∷ log) (Says u c a q × Tale)
  unfolding Each
  said l o says g = record { leads = l; once = (o, g.once); told = (says, g.told) }

  -- the given run stands at mk x y z and has cs and cr of the open exchanges; the gathered one stands at mk x0 y0 z, behind by their parts. Both move i at the last of a request, so that it is the same for both
  lags : (run : List (Item E)) {x0 x : X} {y0 y : Y} (z : Z) (i : I) {hs hr : List (Item E)} {ks kr : List (Item (E × A))} (cs cr : List E)
      → BehindX x0 hs ks x → BehindY i y0 hr kr y → SyncGoes cs x (lane syncs run) → RequestGoes i cr y (lane requests run)
      → Frees mk act FitX FitY next measured i run → Each Admitted (log_of act (mk x y z) run)
      → Lags (mk x0 y0 z) (gather_from hs hr run) (gather_from ks kr (log_of act (mk x y z) run)) (end_of act (mk x y z) run) (log_of act (mk x y z) run) (Told act Says nothing due cs cr (mk x y z) run)
  unfolding log_of end_of gather_from lane Goes Frees Each Told
  lags [] {x0} {x} {y0} {y} z i cs cr bx by gx gy gf ok =
      record { leads = leads_then (bx.held y0 z (i, by.waits_fit)) (by.held x z bx.fits); once = tt; told = tt }
  lags (placed (within syncs (a_part w)) e ∷ es) {x0} {x} {y0} {y} z i cs cr bx by gx gy gf (o, ok) =
      let d = gx y z (i, by.fits) o in
      let does = d.does y z (i, by.fits) in
      let g = lags es z i (cs ++ (e ∷ [])) cr (behind_more (within syncs (a_part w)) bx d.fits d.does) by d.goes_on gy gf (rw does at ok) in
      rw does (said g.leads d.silent (silent_says _ _ _ d.silent) g)
  lags (placed (within syncs (the_last w)) e ∷ es) {x0} {x} {y0} {y} z i cs cr bx by gx gy gf (o, ok) =
      let d = gx y z (i, by.fits) o in
      let does = d.does y (i, by.fits) in
      let g = lags es d.shared i [] cr (behind_none d.fits) by d.goes_on gy gf (rw does at ok) in
      rw does (said (behind_last (within syncs (the_last w)) bx (i, by.waits_fit) (d.does y0 (i, by.waits_fit)) g.leads) d.once d.says g)
  lags (placed (within requests (a_part w)) e ∷ es) {x0} {x} {y0} {y} z i cs cr bx by gx gy gf (o, ok) =
      let d = gy x z bx.fits o in
      let does = d.does x z bx.fits in
      let g = lags es z i cs (cr ++ (e ∷ [])) bx (behind_more (within requests (a_part w)) by d.fits d.does) gx d.goes_on gf (rw does at ok) in
      rw does (said g.leads d.silent (silent_says _ _ _ d.silent) g)
  lags (placed (within requests (the_last w)) e ∷ es) {x0} {x} {y0} {y} z i cs cr bx by gx gy gf (o, ok) =
      let d = gy x z bx.fits o in
      let does = d.does x bx.fits in
      let g = lags es d.shared (next i) cs [] bx (behind_none d.fits) gx d.goes_on gf (rw does at ok) in
      rw does (said (behind_last (within requests (the_last w)) by bx.waits_fit (d.does x0 bx.waits_fit) g.leads) d.once d.says g)
  lags (placed (free b) e ∷ es) {x0} {x} {y0} {y} z i cs cr bx by gx gy (f, gf) (o, ok) =
      let d = f z in
      let does = d.does x y bx.fits by.fits in
      let g = lags es d.shared i cs cr bx by gx gy gf (rw does at ok) in
      rw does (said (leads_by (d.does x0 y0 bx.waits_fit by.waits_fit) g.leads) d.silent (silent_says _ _ _ d.silent) g)

  -- ---- what follows

  pub record Gathers (s : S) (run : List (Item E)) : Type 0 where
    pub once : Each (Once measured) (log_of act s run)
    pub told : Told act Says nothing due [] [] s run
    pub answers : log_of act s (gather run) ≡ gather (log_of act s run)
    pub ends : end_of act s (gather run) ≡ end_of act s run

  pub gathers : (run : List (Item E)) (x : X) (y : Y) (z : Z) (i : I) → FitX x → FitY i y → SyncGoes [] x (lane syncs run) → RequestGoes i [] y (lane requests run) → Frees mk act FitX FitY next measured i run → Each Admitted (log_of act (mk x y z) run) → Gathers (mk x y z) run
  gathers run x y z i fx fy gx gy gf ok =
      let g = lags run z i [] [] (behind_none fx) (behind_none fy) gx gy gf ok in
      record {
        once = g.once;
        told = g.told;
        answers = g.leads.logs;
        ends = g.leads.ends;
      }
