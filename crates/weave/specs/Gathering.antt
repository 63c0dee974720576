-- The gathered order: which it is, and that it loses nothing.
use Rattle.std.specs.Prelude.{◌≡◌, List, [], ◌∷◌, ◌++◌, All, IsPermutation}
use Rattle.weave.specs.declared.events.Exchange.{Exchange}
use Rattle.weave.specs.declared.events.Exchange.TheVariants.{Sync, Delay, Peer}
use Rattle.weave.specs.declared.events.Happening.{Happening}
use Rattle.weave.specs.declared.events.Part.{Part}
use Rattle.weave.specs.declared.events.Part.TheVariants.{Foreign, Filter, Opening, End}

-- An event of this part comes, and these wait for the end of a sync exchange and of the request. What is part of no exchange
-- comes out at once, what opens an exchange waits, and an exchange's end brings out what waits for it and then comes out itself.
abbrev pub gathered_from : Part → Happening → (syncs request : List Happening) → (List Happening → List Happening → List Happening) → List Happening
gathered_from Foreign event syncs request rest = event ∷ rest syncs request
gathered_from Filter event syncs request rest = event ∷ rest syncs request
gathered_from (Opening Sync) event syncs request rest = rest (syncs ++ event ∷ []) request
gathered_from (Opening Delay) event syncs request rest = rest syncs (request ++ event ∷ [])
gathered_from (Opening Peer) event syncs request rest = rest syncs (request ++ event ∷ [])
gathered_from (End Sync) event syncs request rest = syncs ++ event ∷ rest [] request
gathered_from (End Delay) event syncs request rest = request ++ event ∷ rest syncs []
gathered_from (End Peer) event syncs request rest = request ++ event ∷ rest syncs []

-- the gathered order of the events that are still to come, where these wait
abbrev pub gathered_of : List Happening → (syncs request : List Happening) → List Happening
gathered_of [] syncs request = []
gathered_of (event ∷ events) syncs request = gathered_from event.part event syncs request (gathered_of events)

-- an event that opens an exchange
abbrev pub IsOpening : Happening → Type 0
IsOpening event = (exchange : Exchange) × (event.part ≡ Opening exchange)

-- each event comes out once, but for some that open an exchange, whose end has not come: these wait
pub record IsGathered (given order : List Happening) : Type 0 where
  pub waiting : List Happening
  pub each_once : IsPermutation given (order ++ waiting)
  pub openings : All IsOpening waiting
