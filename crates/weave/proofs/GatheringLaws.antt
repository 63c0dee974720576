-- Of the gathered order each event comes out once or waits (order/gathered).
use Rattle.std.proofs.Common.{◌≡◌, List, [], ◌∷◌, ◌++◌, refl, All, IsPermutation}
use Rattle.std.proofs.lemmas.List.{append_assoc, append-nil}
use Rattle.std.proofs.lemmas.List.Elements.{All-append, All-push, All-nil}
use Rattle.std.proofs.lemmas.List.Sorted.{IsPermutation-refl, IsPermutation-sym, IsPermutation-trans, IsPermutation-cons, IsPermutation-middle, IsPermutation-append_left, IsPermutation-append_right, IsPermutation-append_comm}
use Rattle.weave.specs.Gathering.{gathered_from, gathered_of, IsOpening, IsGathered}
use Rattle.weave.specs.declared.events.Exchange.TheVariants.{Sync, Delay, Peer}
use Rattle.weave.specs.declared.events.Happening.{Happening}
use Rattle.weave.specs.declared.events.Part.{Part}
use Rattle.weave.specs.declared.events.Part.TheVariants.{Foreign, Filter, Opening, End}

-- the next event comes out
out_next : {X : Type 0} (waits : List X) (x : X) (xs out rest : List X) → IsPermutation (waits ++ xs) (out ++ rest) → IsPermutation (waits ++ x ∷ xs) ((x ∷ out) ++ rest)
out_next waits x xs out rest h = IsPermutation-trans _ _ _ (IsPermutation-middle waits x xs) (IsPermutation-cons x _ _ h)

-- the next event waits behind the first of two rows
waits_first : {X : Type 0} (a b : List X) (x : X) (xs out : List X) → IsPermutation ((a ++ x ∷ []) ++ b ++ xs) out → IsPermutation (a ++ b ++ x ∷ xs) out
waits_first {X} a b x xs out h =
    let there : IsPermutation (a ++ b ++ x ∷ xs) (x ∷ (a ++ b ++ xs)) = IsPermutation-middle (a ++ b) x xs in
    let back : IsPermutation (x ∷ (a ++ (b ++ xs))) (a ++ x ∷ (b ++ xs)) = IsPermutation-sym _ _ (IsPermutation-middle a x (b ++ xs)) in
    let left : x ∷ (a ++ (b ++ xs)) ≡ x ∷ (a ++ b ++ xs) = simp append_assoc in
    let right : a ++ x ∷ (b ++ xs) ≡ (a ++ x ∷ []) ++ b ++ xs = simp append_assoc in
    IsPermutation-trans _ _ _ there (IsPermutation-trans _ _ _ (rw (left, right) at back) h)

-- and behind the second
waits_second : {X : Type 0} (a b : List X) (x : X) (xs out : List X) → IsPermutation (a ++ (b ++ x ∷ []) ++ xs) out → IsPermutation (a ++ b ++ x ∷ xs) out
waits_second a b x xs out h =
    let same : a ++ (b ++ x ∷ []) ++ xs ≡ a ++ b ++ x ∷ xs = simp append_assoc in
    rw same at h

-- the first row comes out, and the next event behind it
ends_first : {X : Type 0} (a b : List X) (x : X) (xs out rest : List X) → IsPermutation (b ++ xs) (out ++ rest) → IsPermutation (a ++ b ++ x ∷ xs) ((a ++ x ∷ out) ++ rest)
ends_first a b x xs out rest h =
    let behind : IsPermutation (a ++ (b ++ x ∷ xs)) (a ++ ((x ∷ out) ++ rest)) = IsPermutation-append_right a _ _ (out_next b x xs out rest h) in
    let left : a ++ (b ++ x ∷ xs) ≡ a ++ b ++ x ∷ xs = simp append_assoc in
    let right : a ++ ((x ∷ out) ++ rest) ≡ (a ++ x ∷ out) ++ rest = simp append_assoc in
    rw (left, right) at behind

-- and the second
ends_second : {X : Type 0} (a b : List X) (x : X) (xs out rest : List X) → IsPermutation (a ++ xs) (out ++ rest) → IsPermutation (a ++ b ++ x ∷ xs) ((b ++ x ∷ out) ++ rest)
ends_second a b x xs out rest h = IsPermutation-trans _ _ _ (IsPermutation-append_left (x ∷ xs) _ _ (IsPermutation-append_comm a b)) (ends_first b a x xs out rest h)

-- the events that are still to come, whatever waits
abbrev Keeps : List Happening → Type 0
Keeps events = (syncs request : List Happening) → All IsOpening syncs → All IsOpening request → IsGathered (syncs ++ request ++ events) (gathered_of events syncs request)

step : (part : Part) (event : Happening) (events : List Happening) → event.part ≡ part → Keeps events → (syncs request : List Happening) → All IsOpening syncs → All IsOpening request → IsGathered (syncs ++ request ++ event ∷ events) (gathered_from part event syncs request (gathered_of events))
step Foreign event events is keep syncs request s r =
    let k = keep syncs request s r in
    record { waiting = k.waiting; each_once = out_next _ _ _ (gathered_of events syncs request) k.waiting k.each_once; openings = k.openings }
step Filter event events is keep syncs request s r =
    let k = keep syncs request s r in
    record { waiting = k.waiting; each_once = out_next _ _ _ (gathered_of events syncs request) k.waiting k.each_once; openings = k.openings }
step (Opening Sync) event events is keep syncs request s r =
    let k = keep (syncs ++ event ∷ []) request (All-push IsOpening _ _ s (Sync, is)) r in
    record { waiting = k.waiting; each_once = waits_first _ _ _ _ _ k.each_once; openings = k.openings }
step (Opening Delay) event events is keep syncs request s r =
    let k = keep syncs (request ++ event ∷ []) s (All-push IsOpening _ _ r (Delay, is)) in
    record { waiting = k.waiting; each_once = waits_second _ _ _ _ _ k.each_once; openings = k.openings }
step (Opening Peer) event events is keep syncs request s r =
    let k = keep syncs (request ++ event ∷ []) s (All-push IsOpening _ _ r (Peer, is)) in
    record { waiting = k.waiting; each_once = waits_second _ _ _ _ _ k.each_once; openings = k.openings }
step (End Sync) event events is keep syncs request s r =
    let k = keep [] request (All-nil IsOpening) r in
    record { waiting = k.waiting; each_once = ends_first _ _ _ _ _ _ k.each_once; openings = k.openings }
step (End Delay) event events is keep syncs request s r =
    let k = keep syncs [] s (All-nil IsOpening) in
    record { waiting = k.waiting; each_once = ends_second _ _ _ _ _ _ (rw append-nil at k.each_once); openings = k.openings }
step (End Peer) event events is keep syncs request s r =
    let k = keep syncs [] s (All-nil IsOpening) in
    record { waiting = k.waiting; each_once = ends_second _ _ _ _ _ _ (rw append-nil at k.each_once); openings = k.openings }

keeps : (events : List Happening) → Keeps events
keeps [] syncs request s r = record { waiting = syncs ++ request; each_once = rw append-nil (IsPermutation-refl _); openings = All-append IsOpening _ _ s r }
keeps (event ∷ events) syncs request s r = step event.part event events refl (keeps events) syncs request s r

pub gathered_is : (events : List Happening) → IsGathered events (gathered_of events [] [])
gathered_is events = keeps events [] [] (All-nil IsOpening) (All-nil IsOpening)
