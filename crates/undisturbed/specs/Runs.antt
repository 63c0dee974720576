-- Runs of events in their places: exchanges woven into each other, and the same run with each exchange gathered. Nothing here knows what an event is.
use Rattle.std.specs.Prelude.{◌≡◌, List, [], ◌∷◌, ◌++◌}

-- ---- places

-- two kinds of exchange: sync, and the configured request
pub data Lane : Type 0 where
  syncs requests : Lane

-- an event of an exchange brings something new, or repeats what its exchange has; an exchange ends whole, or stops short. (`Whole` takes what is new and whole, and has no other.)
pub data News : Type 0 where
  new again : News

pub data Ending : Type 0 where
  in_full : Ending
  short : News → Ending

-- an event is one of the parts of its exchange, or its last
pub data Role : Type 0 where
  a_part : News → Role
  the_last : Ending → Role

-- what belongs to no exchange
pub data Beside : Type 0 where
  from_filter foreign other : Beside

pub data Place : Type 0 where
  within : Lane → Role → Place
  free : Beside → Place

-- something at its place: an event, or an event with its answer
pub data Item (A : Type 0) : Type 0 where
  placed : Place → A → Item A

-- ---- gathered: what has come of an exchange waits, in the order in which it came, and is put directly in front of its last event; all else keeps its place. (A place names the kind, so this speaks of runs in which two of one kind do not overlap.)

-- hs and hr have come of the open sync and of the open request, and wait for its last
unfoldable pub gather_from : {A : Type 0} → List (Item A) → List (Item A) → List (Item A) → List (Item A)
gather_from hs hr [] = hs ++ hr
gather_from hs hr (placed (within syncs (a_part w)) a ∷ es) = gather_from (hs ++ (placed (within syncs (a_part w)) a ∷ [])) hr es
gather_from hs hr (placed (within syncs (the_last w)) a ∷ es) = hs ++ (placed (within syncs (the_last w)) a ∷ gather_from [] hr es)
gather_from hs hr (placed (within requests (a_part w)) a ∷ es) = gather_from hs (hr ++ (placed (within requests (a_part w)) a ∷ [])) es
gather_from hs hr (placed (within requests (the_last w)) a ∷ es) = hr ++ (placed (within requests (the_last w)) a ∷ gather_from hs [] es)
gather_from hs hr (placed (free b) a ∷ es) = placed (free b) a ∷ gather_from hs hr es

abbrev pub gather : {A : Type 0} → List (Item A) → List (Item A)
gather run = gather_from [] [] run

-- ---- the events of one kind alone, in their order

abbrev pub of_lane : {A : Type 0} → Lane → Place → A → List (Item A) → List (Item A)
of_lane syncs (within syncs r) a rest = placed (within syncs r) a ∷ rest
of_lane syncs (within requests r) a rest = rest
of_lane requests (within syncs r) a rest = rest
of_lane requests (within requests r) a rest = placed (within requests r) a ∷ rest
of_lane l (free b) a rest = rest

unfoldable pub lane : {A : Type 0} → Lane → List (Item A) → List (Item A)
lane l [] = []
lane l (placed p a ∷ es) = of_lane l p a (lane l es)

-- one after another
unfoldable pub joined : {A : Type 0} → List (List A) → List A
joined [] = []
joined (l ∷ ls) = l ++ joined ls

-- ---- what holds of each item

unfoldable pub Each : {A : Type 0} → (Place → A → Type 0) → List (Item A) → Type 0
Each P [] = Unit {0}
Each P (placed p a ∷ es) = P p a × Each P es

-- ---- a run: what stands is changed by each event, and each is logged with its own answer

module _ {S E A : Type 0} (act : S → E → S × A) where
  unfoldable pub log_of : S → List (Item E) → List (Item (E × A))
  log_of s [] = []
  log_of s (placed p e ∷ es) = placed p (e, (act s e).1) ∷ log_of (act s e).0 es

  unfoldable pub end_of : S → List (Item E) → S
  end_of s [] = s
  end_of s (placed p e ∷ es) = end_of (act s e).0 es

  -- what is said of each event: of the last of an exchange, by what the events of its exchange come to; of all others, by what nothing comes to. s is what the event finds, hs and hr have come of the open exchanges
  module _ {C : Type 0} (Says : S → C → A → S → Type 0) (nothing : C) (due : Lane → List E → C) where
    abbrev Here : S → E → C → (S → Type 0) → Type 0
    Here s e c Then = Says s c (act s e).1 (act s e).0 × Then (act s e).0

    unfoldable pub Told : List E → List E → S → List (Item E) → Type 0
    Told hs hr s [] = Unit {0}
    Told hs hr s (placed (within syncs (a_part w)) e ∷ es) = Here s e nothing (λ t. Told (hs ++ (e ∷ [])) hr t es)
    Told hs hr s (placed (within syncs (the_last w)) e ∷ es) = Here s e (due syncs (hs ++ (e ∷ []))) (λ t. Told [] hr t es)
    Told hs hr s (placed (within requests (a_part w)) e ∷ es) = Here s e nothing (λ t. Told hs (hr ++ (e ∷ [])) t es)
    Told hs hr s (placed (within requests (the_last w)) e ∷ es) = Here s e (due requests (hr ++ (e ∷ []))) (λ t. Told hs [] t es)
    Told hs hr s (placed (free b) e ∷ es) = Here s e nothing (λ t. Told hs hr t es)

-- ---- measurements: an answer holds some, one after another

-- exactly one
abbrev pub Single : {M : Type 0} → List M → Type 0
Single [] = ⊥
Single (m ∷ []) = Unit {0}
Single (m ∷ n ∷ ms) = ⊥

module _ {E A M : Type 0} (measured : A → List M) where
  unfoldable pub found : List (Item (E × A)) → List M
  found [] = []
  found (placed p r ∷ es) = measured r.1 ++ found es

  -- one at the last event of a whole exchange, and none anywhere else
  abbrev pub Once : Place → E × A → Type 0
  Once (within l (a_part w)) r = measured r.1 ≡ []
  Once (within l (the_last in_full)) r = Single (measured r.1)
  Once (within l (the_last (short w))) r = measured r.1 ≡ []
  Once (free b) r = measured r.1 ≡ []
