-- Demand 3 holds: exchanges do not disturb each other (`undisturbed`); nor does what is `Harmless` (`others_stand`).
use Rattle.std.specs.Prelude.{ℕ, ◌≡◌, refl, false, length, Option, Some, None}
use Rattle.std.proofs.Common.{sym, ap, ◌∙◌, subst, true≢false}
use mathlib.Core.List.{List, [], ◌∷◌}
use Rattle.record.specs.Ids.{id_after}
use Rattle.fitness.specs.FitLaws.{FitSync, FitPeer}
use Rattle.rules.specs.Names.{Identity, Exchange, SlaveState, PortState, PeerState, Mechanism, Config, Ids, Port, Measurement}
use Rattle.rules.specs.Events.{Event}
use Rattle.rules.specs.WorkedOut.{unfinished}
use Rattle.rules.specs.Formulas.{Says}
use Rattle.rules.specs.Given.{BytesIn}
use Rattle.undisturbed.specs.Runs.{syncs, requests, a_part, the_last, from_filter, foreign, other, within, free, Item, placed, gather, joined, Each, log_of, found, Once}
use Rattle.undisturbed.specs.Times.{comes_to}
use Rattle.undisturbed.specs.Whole.{RequestExchanges}
use Rattle.undisturbed.specs.Undisturbed.{Reply, happens, listed, measured_in, is_open, Idle, first_request, NothingElse, AllStand, TakenButForeign, Woven, Undisturbed}
use Rattle.undisturbed.specs.Harmless.{Harmless}
use Rattle.undisturbed.specs.SideLaws.{Frees}
use Rattle.undisturbed.specs.PlainLaws.{plain, PlainSays}
use Rattle.undisturbed.proofs.PlainLaws.{log_plain, end_plain, told_plain}
use Rattle.undisturbed.proofs.FrameLaws.{SyncGoes, Gathers, gathers}
use Rattle.undisturbed.proofs.GatherLaws.{each_gathered, order_gathered}
use Rattle.undisturbed.specs.StandingLaws.{Asking, Shared, stands, FitAsking}
use Rattle.undisturbed.specs.LaneLaws.{Admitted}
use Rattle.undisturbed.proofs.RequestSideLaws.{AskingGoes}
use Rattle.undisturbed.proofs.SyncSideLaws.{sync_goes}
use Rattle.undisturbed.proofs.DelaySideLaws.{none_open, delay_goes}
use Rattle.undisturbed.proofs.PeerSideLaws.{peer_goes}
use Rattle.undisturbed.proofs.BesideLaws.{FreeTo, filter_free, foreign_free, harmless_free}

-- what measures nothing says nothing
none_there : {A : Type 0} (a : A) → a ∷ [] ≡ [] → ⊥
none_there {A} a h = subst (Go A) h tt
  where
    Go : (A : Type 0) → List A → Type 0
    Go A [] = ⊥
    Go A (x ∷ xs) = Unit {0}

silent_says : (p : Port) (a : Reply) (q : Port) → measured_in a ≡ [] → PlainSays p unfinished a q
silent_says p a q h = Go a.measurement h
  where
    Go : (m : Option Measurement) → listed m ≡ [] → Says p unfinished m q
    Go None h = tt
    Go (Some m) h = absurd (none_there m h)

-- what is known of each event of the given run
both_known : (run : List (Item Event)) (act : Port → Event → Port × Reply) (p : Port) → Each (λ place e. BytesIn e) run → Each TakenButForeign (log_of act p run) → Each Admitted (log_of act p run)
unfolding Each log_of
both_known [] act p b t = tt
both_known (placed place e ∷ es) act p (b, bs) (t, ts) = ((t, b), both_known es act (act p e).0 bs ts)

-- a peer exchange that is not open is fit
shut_fits : (q : PeerState) → is_open q ≡ false → FitPeer q
shut_fits PeerState.Empty o = record { in_limits = refl; responder_known = refl; not_full = refl }
shut_fits (PeerState.Measuring id i a b c d) o = absurd (true≢false o)
shut_fits (PeerState.Measured id i) o = record { in_limits = refl; responder_known = refl; not_full = refl }

module _ (Else : ℕ → Event → Type 0) (c : Config) (master : Identity) (room : ℕ) (else_free : (id : ℕ) (e : Event) (z : Shared) → Else id e → FreeTo c master room id e z) where
  all_free : (run : List (Item Event)) (id : ℕ) → AllStand c master Else id run → Each (λ place e. BytesIn e) run → Frees (stands c master) (plain room) FitSync (FitAsking c master) id_after measured_in id run
  unfolding AllStand Each Frees
  all_free [] id s b = tt
  all_free (placed (within syncs r) e ∷ es) id s (b, bs) = all_free es id s bs
  all_free (placed (within requests (a_part w)) e ∷ es) id s (b, bs) = all_free es id s bs
  all_free (placed (within requests (the_last w)) e ∷ es) id s (b, bs) = all_free es (id_after id) s bs
  all_free (placed (free from_filter) e ∷ es) id (s, ss) (b, bs) = (λ z. filter_free c master room id e z s, all_free es id ss bs)
  all_free (placed (free foreign) e ∷ es) id (s, ss) (b, bs) = (λ z. foreign_free c master room id e z b s, all_free es id ss bs)
  all_free (placed (free other) e ∷ es) id (s, ss) (b, bs) = (λ z. else_free id e z s, all_free es id ss bs)

  -- the requests of either mechanism
  requests_go : (m : Mechanism) → c.mechanism ≡ m → (xs : List (List (Item Event))) (q : PeerState) (ids : Ids) → is_open q ≡ false → RequestExchanges c master (first_request m ids) xs → AskingGoes c master room (first_request m ids) [] (record { delay = Exchange.Empty; peer = q; ids = ids }) (joined xs)
  requests_go Mechanism.EndToEnd e xs q ids o w = delay_goes c master room e xs q ids (shut_fits q o) o w
  requests_go Mechanism.Peer e xs q ids o w = peer_goes c master room e xs q ids (shut_fits q o) o w

-- ---- a record by its sides

module _ (Else : ℕ → Event → Type 0) (c : Config) (s : SlaveState) (else_free : (room id : ℕ) (e : Event) (z : Shared) → Else id e → FreeTo c s.master room id e z) (q : PeerState) (ids : Ids) (z : Shared) (shut : is_open q ≡ false) where
  abbrev side : Asking
  side = record { delay = Exchange.Empty; peer = q; ids = ids }

  abbrev start : Port
  start = stands c s.master Exchange.Empty side z

  from_sides : (buffer : List ℕ) (run : List (Item Event)) → Woven Else start s buffer run → Undisturbed start buffer run
  from_sides buffer run w =
      let room : ℕ = length buffer in
      let id : ℕ = first_request c.mechanism ids in
      let same : log_of happens (start, buffer) run ≡ log_of (plain room) start run = log_plain start buffer run in
      let fit : FitAsking c s.master id side = record { delay = tt; peer = shut_fits q shut; only_delay = λ j o. absurd (true≢false (sym o)); only_peer = λ j o. none_open q j shut o } in
      let g : Gathers (stands c s.master) (plain room) FitSync (FitAsking c s.master) id_after Admitted measured_in PlainSays unfinished (comes_to c) silent_says start run = gathers (stands c s.master) (plain room) FitSync (FitAsking c s.master) id_after Admitted measured_in PlainSays unfinished (comes_to c) silent_says run Exchange.Empty side z id tt fit (subst (SyncGoes (stands c s.master) (plain room) FitSync (FitAsking c s.master) id_after Admitted measured_in PlainSays unfinished (comes_to c) silent_says [] Exchange.Empty) (sym w.sync_events) (sync_goes c s.master room w.sync_exchanges w.syncs_whole)) (subst (AskingGoes c s.master room id [] side) (sym w.request_events) (requests_go Else c s.master room (else_free room) c.mechanism refl w.request_exchanges q ids shut w.requests_whole)) (all_free Else c s.master room (else_free room) run id w.others w.bytes) (both_known run (plain room) start w.bytes (subst (Each TakenButForeign) same w.taken)) in
      let once : Each (Once measured_in) (log_of happens (start, buffer) run) = subst (Each (Once measured_in)) (sym same) g.once in
      let answers : log_of happens (start, buffer) (gather run) ≡ gather (log_of happens (start, buffer) run) = log_plain start buffer (gather run) ∙ g.answers ∙ ap gather (sym same) in
      record {
        once = once;
        formula = told_plain c [] [] start buffer run g.told;
        order = ap (found measured_in) answers ∙ order_gathered measured_in (log_of happens (start, buffer) run) once;
        answers = answers;
        taken = subst (Each TakenButForeign) (sym answers) (each_gathered TakenButForeign (log_of happens (start, buffer) run) w.taken);
        ends = end_plain start buffer (gather run) ∙ g.ends ∙ sym (end_plain start buffer run);
      }

-- ---- of any record

module _ (p : Port) (s : SlaveState) (idle : Idle p s) (buffer : List ℕ) (run : List (Item Event)) where
  by_sides : (Else : ℕ → Event → Type 0) → ((room id : ℕ) (e : Event) (z : Shared) → Else id e → FreeTo p.config s.master room id e z) → Woven Else p s buffer run → Undisturbed p buffer run
  by_sides Else else_free =
      let z : Shared = record { raw = s.raw; mean = p.mean } in
      let slave : PortState.Slave (record { master = s.master; sync = Exchange.Empty; delay = Exchange.Empty; raw = s.raw }) ≡ p.state = (λ i. PortState.Slave (record { master = s.master; sync = sym idle.no_sync i; delay = sym idle.no_delay i; raw = s.raw })) ∙ sym idle.slave in
      subst (λ (q : Port). Woven Else q s buffer run → Undisturbed q buffer run) (λ i. record { config = p.config; state = slave i; peer = p.peer; mean = p.mean; ids = p.ids })
      (from_sides Else p.config s else_free p.peer p.ids z idle.no_peer buffer run)

  -- demand 3
  pub undisturbed : Woven NothingElse p s buffer run → Undisturbed p buffer run
  undisturbed = by_sides NothingElse (λ room id e z f. absurd f)

  -- and with what is harmless besides
  pub others_stand : Woven (Harmless p.config) p s buffer run → Undisturbed p buffer run
  others_stand = by_sides (Harmless p.config) (λ room id e z f. harmless_free p.config s.master room id e z f)
