-- Demand 3, as it is said: exchanges do not disturb each other. A port that is Slave, none of its exchanges half open, is fed whole exchanges, those of one kind one after another and the kinds mixed freely, with filter answers and foreign traffic anywhere. What is promised of its run is `Undisturbed`; that it holds is `undisturbed` in `UndisturbedLaws`.
use Rattle.std.specs.Prelude.{ℕ, ◌≡◌, Bool, true, false, List, [], ◌∷◌, length, take, Option, Some, None}
use Rattle.record.specs.Ids.{id_after}
use Rattle.rules.specs.Names.{Exchange, SlaveState, PortState, PeerState, Mechanism, Ids, Config, Port, Outcome, Measurement, Action, Identity}
use Rattle.rules.specs.Events.{Event, Answered, buffer_after}
use Rattle.rules.specs.Step.{step}
use Rattle.rules.specs.WorkedOut.{Completed, unfinished}
use Rattle.rules.specs.Formulas.{Says}
use Rattle.rules.specs.Given.{BytesIn}
use Rattle.undisturbed.specs.Runs.{syncs, requests, a_part, the_last, Beside, from_filter, foreign, other, Place, within, free, Item, placed, gather, lane, joined, Each, log_of, end_of, Told, found, Once}
use Rattle.undisturbed.specs.Times.{comes_to}
use Rattle.undisturbed.specs.Whole.{SyncExchanges, RequestExchanges, Foreign, FilterAnswer}

-- ---- a run: a record, and a real buffer that each event finds as the one before it left it

abbrev pub Standing : Type 0
Standing = Port × List ℕ

-- what an event is answered: its packet is the first bytes of the buffer, as many as are sent
pub record Reply : Type 0 where
  pub outcome : Outcome
  pub measurement : Option Measurement
  pub packet : List ℕ
  pub actions : List Action
  pub reset : Bool

abbrev pub reply_with : Answered → List ℕ → Reply
reply_with r buffer =
    record { outcome = r.outcome; measurement = r.measurement; packet = take (length r.sent) buffer; actions = r.actions; reset = r.reset }

unfoldable pub happens : Standing → Event → Standing × Reply
happens s e =
    let r : Answered = step s.0 (length s.1) e in
    let left : List ℕ = buffer_after r s.1 in
    ((r.port, left), reply_with r left)

abbrev pub listed : Option Measurement → List Measurement
listed None = []
listed (Some m) = m ∷ []

abbrev pub measured_in : Reply → List Measurement
measured_in a = listed a.measurement

-- ---- how it begins: a Slave with none of the three exchanges open. A measured peer exchange may stand

abbrev pub is_open : PeerState → Bool
is_open PeerState.Empty = false
is_open (PeerState.Measuring id responder a b c d) = true
is_open (PeerState.Measured id responder) = false

pub record Idle (p : Port) (s : SlaveState) : Type 0 where
  pub slave : p.state ≡ PortState.Slave s
  pub no_sync : s.sync ≡ Exchange.Empty
  pub no_delay : s.delay ≡ Exchange.Empty
  pub no_peer : is_open p.peer ≡ false

-- the id that the first request takes
abbrev pub first_request : Mechanism → Ids → ℕ
first_request Mechanism.EndToEnd i = i.delay
first_request Mechanism.Peer i = i.peer

-- ---- what belongs to no exchange. `Else` says what there is besides filter answers and foreign traffic, by the id of the request that is open or comes next

abbrev pub NothingElse : ℕ → Event → Type 0
NothingElse id e = ⊥

module _ (c : Config) (master : Identity) (Else : ℕ → Event → Type 0) where
  abbrev pub Stands : ℕ → Beside → Event → Type 0
  Stands id from_filter e = FilterAnswer e
  Stands id foreign e = Foreign c master e
  Stands id other e = Else id e

  unfoldable pub AllStand : ℕ → List (Item Event) → Type 0
  AllStand id [] = Unit {0}
  AllStand id (placed (within syncs r) e ∷ es) = AllStand id es
  AllStand id (placed (within requests (a_part w)) e ∷ es) = AllStand id es
  AllStand id (placed (within requests (the_last w)) e ∷ es) = AllStand (id_after id) es
  AllStand id (placed (free b) e ∷ es) = Stands id b e × AllStand id es

-- all but foreign traffic is answered 0. (Nor is it asked of what stands at place `other`; demand 3 has nothing there.)
abbrev pub TakenButForeign : Place → Event × Reply → Type 0
TakenButForeign (within l r) a = a.1.outcome ≡ Outcome.Taken
TakenButForeign (free from_filter) a = a.1.outcome ≡ Outcome.Taken
TakenButForeign (free foreign) a = Unit {0}
TakenButForeign (free other) a = Unit {0}

-- ---- the run that is given: the events of each kind, taken alone, are whole exchanges one after another

pub record Woven (Else : ℕ → Event → Type 0) (p : Port) (s : SlaveState) (buffer : List ℕ) (run : List (Item Event)) : Type 0 where
  pub sync_exchanges : List (List (Item Event))
  pub sync_events : lane syncs run ≡ joined sync_exchanges
  pub syncs_whole : SyncExchanges p.config s.master sync_exchanges
  pub request_exchanges : List (List (Item Event))
  pub request_events : lane requests run ≡ joined request_exchanges
  pub requests_whole : RequestExchanges p.config s.master (first_request p.config.mechanism p.ids) request_exchanges
  pub others : AllStand p.config s.master Else (first_request p.config.mechanism p.ids) run
  pub bytes : Each (λ place e. BytesIn e) run
  pub taken : Each TakenButForeign (log_of happens (p, buffer) run)

-- ---- what is promised

abbrev pub FormulaSays : Standing → Completed → Reply → Standing → Type 0
FormulaSays s c a t = Says s.0 c a.measurement t.0

pub record Undisturbed (p : Port) (buffer : List ℕ) (run : List (Item Event)) : Type 0 where
  -- an exchange is measured once, when the last of its pieces comes; no other event measures anything
  pub once : Each (Once measured_in) (log_of happens (p, buffer) run)
  -- by 01's formula, over the exchange's own times, with the asymmetry, the mean delay and the last raw offset that its last event finds
  pub formula : Told happens FormulaSays unfinished (comes_to p.config) [] [] (p, buffer) run
  -- the measurements in order are those of the gathered run
  pub order : found measured_in (log_of happens (p, buffer) (gather run)) ≡ found measured_in (log_of happens (p, buffer) run)
  -- so is what each event is answered: its own packet and actions, and its number
  pub answers : log_of happens (p, buffer) (gather run) ≡ gather (log_of happens (p, buffer) run)
  -- in which all but foreign traffic is answered 0 too
  pub taken : Each TakenButForeign (log_of happens (p, buffer) (gather run))
  -- and the final record. (Nothing is said of the buffer: what lies behind the last packet differs.)
  pub ends : (end_of happens (p, buffer) (gather run)).0 ≡ (end_of happens (p, buffer) run).0
