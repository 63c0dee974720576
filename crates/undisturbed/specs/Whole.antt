-- Document 01, end of 'The measurement': what a whole exchange is, and what foreign traffic is; by the fields on the wire, the contexts of stamps, and ids. How bytes are read is `reading`'s.
use Rattle.std.specs.Prelude.{ℕ, ◌≡◌, Bool, true, false, ◌||◌, List, [], ◌∷◌, Ok}
use Rattle.time.specs.declared.WireTimestamp.{WireTimestamp}
use Rattle.wire.specs.Layout.{two_step}
use Rattle.record.specs.Ids.{id_after}
use Rattle.rules.specs.Names.{Time, Identity, Header, Body, Mechanism, Config, Context, FilterUpdate, Received}
use Rattle.rules.specs.Events.{Event, event, stamp, delay_timer, filter_answer, reading, Brings}
use Rattle.rules.specs.Table.{row3, row4, row5, row6, row8}
use Rattle.undisturbed.specs.Runs.{Lane, syncs, requests, new, in_full, a_part, the_last, within, Item, placed}

abbrev pub Not : Type 0 → Type 0
Not P = P → ⊥

-- ---- the pieces of an exchange

pub data Piece : Type 0 where
  the_sync the_follow_up : Piece
  the_stamp the_delay_resp the_p_delay_resp the_p_delay_resp_follow_up : Piece

-- one of several, and those that are left
pub data Picks : Piece → List Piece → List Piece → Type 0 where
  this_one : (p : Piece) (ps : List Piece) → Picks p (p ∷ ps) ps
  one_behind : (p q : Piece) (ps left : List Piece) → Picks p ps left → Picks p (q ∷ ps) (q ∷ left)

-- in any order, each once. What comes last is the exchange's last event
pub data InAnyOrder (l : Lane) (Of : Piece → Event → Type 0) : List Piece → List (Item Event) → Type 0 where
  firstly : (p : Piece) (ps left : List Piece) (e : Event) (x : List (Item Event)) → Picks p ps left → Of p e → InAnyOrder l Of left x → InAnyOrder l Of ps (placed (within l (a_part new)) e ∷ x)
  lastly : (p : Piece) (e : Event) → Of p e → InAnyOrder l Of (p ∷ []) (placed (within l (the_last in_full)) e ∷ [])

-- a Sync, and a FollowUp where it is two-step; a stamp and a DelayResp; a stamp and a PDelayResp, and a follow-up where that is two-step
abbrev pub sync_pieces : Bool → List Piece
sync_pieces true = the_sync ∷ the_follow_up ∷ []
sync_pieces false = the_sync ∷ []

abbrev pub delay_pieces : List Piece
delay_pieces = the_stamp ∷ the_delay_resp ∷ []

abbrev pub peer_pieces : Bool → List Piece
peer_pieces true = the_stamp ∷ the_p_delay_resp ∷ the_p_delay_resp_follow_up ∷ []
peer_pieces false = the_stamp ∷ the_p_delay_resp ∷ []

-- from our master, with the exchange's id
pub record FromMaster (master : Identity) (id : ℕ) (h : Header) : Type 0 where
  pub source : h.source ≡ master
  pub same_id : h.id ≡ id

-- from one responder, to us, with the request's id
pub record FromResponder (us responder : Identity) (id : ℕ) (h : Header) (requester : Identity) : Type 0 where
  pub source : h.source ≡ responder
  pub same_id : h.id ≡ id
  pub to_us : requester ≡ us

module _ (c : Config) (master : Identity) where
  -- the Sync comes by the event entry, its FollowUp by either
  pub data OfSync (id : ℕ) (two : Bool) : Piece → Event → Type 0 where
    a_sync : (t : Time) (message : List ℕ) (h : Header) (w : WireTimestamp) (u : Time) → reading c message ≡ Ok (Received.Message h (Body.Sync w) u) → FromMaster master id h → two_step h ≡ two → OfSync id two the_sync (event t message)
    a_follow_up : (e : Event) (h : Header) (w : WireTimestamp) (u : Time) → Brings c e h (Body.FollowUp w) u → FromMaster master id h → OfSync id two the_follow_up e

  -- the stamp at which the request left, and our master's DelayResp to us
  pub data OfDelay (id : ℕ) : Piece → Event → Type 0 where
    a_delay_stamp : (t : Time) → OfDelay id the_stamp (stamp t (Context.DelayReq id))
    a_delay_resp : (e : Event) (h : Header) (w : WireTimestamp) (requester : Identity) (u : Time) → Brings c e h (Body.DelayResp w requester) u → FromMaster master id h → requester ≡ c.identity → OfDelay id the_delay_resp e

  -- the PDelayResp comes by the event entry, its follow-up by either
  pub data OfPeer (id : ℕ) (responder : Identity) (two : Bool) : Piece → Event → Type 0 where
    a_peer_stamp : (t : Time) → OfPeer id responder two the_stamp (stamp t (Context.PDelayReq id))
    a_p_delay_resp : (t : Time) (message : List ℕ) (h : Header) (w : WireTimestamp) (requester : Identity) (u : Time) → reading c message ≡ Ok (Received.Message h (Body.PDelayResp w requester) u) → FromResponder c.identity responder id h requester → two_step h ≡ two → OfPeer id responder two the_p_delay_resp (event t message)
    a_p_delay_resp_follow_up : (e : Event) (h : Header) (w : WireTimestamp) (requester : Identity) (u : Time) → Brings c e h (Body.PDelayRespFollowUp w requester) u → FromResponder c.identity responder id h requester → OfPeer id responder two the_p_delay_resp_follow_up e

  -- ---- whole exchanges

  -- a Sync of our master by itself where it is one-step; where it is two-step, with its FollowUp before or behind it; all of one id
  pub record SyncExchange (x : List (Item Event)) : Type 0 where
    pub id : ℕ
    pub two : Bool
    pub events : InAnyOrder syncs (OfSync id two) (sync_pieces two) x

  -- what comes behind the request, whichever first: its stamp and our master's DelayResp; or its stamp and the PDelayResp, with the follow-up of a two-step one, both of the same responder
  pub record PeerAnswers (id : ℕ) (x : List (Item Event)) : Type 0 where
    pub responder : Identity
    pub two : Bool
    pub events : InAnyOrder requests (OfPeer id responder two) (peer_pieces two) x

  abbrev pub RequestAnswers : Mechanism → ℕ → List (Item Event) → Type 0
  RequestAnswers Mechanism.EndToEnd id x = InAnyOrder requests (OfDelay id) delay_pieces x
  RequestAnswers Mechanism.Peer id x = PeerAnswers id x

  -- the configured request, and then all that
  pub data RequestExchange (id : ℕ) : List (Item Event) → Type 0 where
    asked : (draw : ℕ) (x : List (Item Event)) → RequestAnswers c.mechanism id x → RequestExchange id (placed (within requests (a_part new)) (delay_timer draw) ∷ x)

  -- one after another; each request has the id after that of the one before
  unfoldable pub SyncExchanges : List (List (Item Event)) → Type 0
  SyncExchanges [] = Unit {0}
  SyncExchanges (x ∷ xs) = SyncExchange x × SyncExchanges xs

  unfoldable pub RequestExchanges : ℕ → List (List (Item Event)) → Type 0
  RequestExchanges id [] = Unit {0}
  RequestExchanges id (x ∷ xs) = RequestExchange id x × RequestExchanges (id_after id) xs

  -- ---- foreign traffic

  pub data Foreign : Event → Type 0 where
    -- a Sync or FollowUp that is not our master's
    other_sync : (e : Event) (h : Header) (w : WireTimestamp) (u : Time) → Brings c e h (Body.Sync w) u → Not (h.source ≡ master) → Foreign e
    other_follow_up : (e : Event) (h : Header) (w : WireTimestamp) (u : Time) → Brings c e h (Body.FollowUp w) u → Not (h.source ≡ master) → Foreign e
    -- a DelayResp that is not our master's, or not for us
    other_delay_resp : (e : Event) (h : Header) (w : WireTimestamp) (requester : Identity) (u : Time) → Brings c e h (Body.DelayResp w requester) u → Not (h.source ≡ master) → Foreign e
    delay_resp_for_other : (e : Event) (h : Header) (w : WireTimestamp) (requester : Identity) (u : Time) → Brings c e h (Body.DelayResp w requester) u → Not (requester ≡ c.identity) → Foreign e
    -- an answer to somebody else's PDelayReq
    p_delay_resp_for_other : (e : Event) (h : Header) (w : WireTimestamp) (requester : Identity) (u : Time) → Brings c e h (Body.PDelayResp w requester) u → Not (requester ≡ c.identity) → Foreign e
    p_delay_resp_follow_up_for_other : (e : Event) (h : Header) (w : WireTimestamp) (requester : Identity) (u : Time) → Brings c e h (Body.PDelayRespFollowUp w requester) u → Not (requester ≡ c.identity) → Foreign e
    -- PDelayReq, and stamps of PDelayResp
    a_p_delay_req : (e : Event) (h : Header) (w : WireTimestamp) (u : Time) → Brings c e h (Body.PDelayReq w) u → Foreign e
    a_p_delay_resp_stamp : (t : Time) (id : ℕ) (requester : Identity) → Foreign (stamp t (Context.PDelayResp id requester))
    -- messages answered 4, 5, 6 or 8: a time of theirs is in limits, and their bytes meet one of these rows
    unheard : (e : Event) → row3 e ≡ false → row4 c e || row5 c e || row6 c e || row8 c e ≡ true → Foreign e

-- a filter answer, whatever it gives
pub data FilterAnswer : Event → Type 0 where
  a_filter_answer : (update : FilterUpdate) → FilterAnswer (filter_answer update)
