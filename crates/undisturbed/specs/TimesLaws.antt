-- What the laws of proofs/TimesLaws.antt speak of.
use Rattle.std.specs.Prelude.{◌≡◌, Bool, true, false, ◌||◌, ℤ, Option, Some, None}
use Rattle.time.specs.Units.{time}
use Rattle.rules.specs.Names.{Time, Mechanism}
use Rattle.rules.specs.WorkedOut.{Completed, unfinished, sync, delay, peer}
use Rattle.undisturbed.specs.Times.{Times, if_given, request_of}

-- ---- none of the times of one is one of the other's; all that an exchange wants is there

abbrev pub both_given : Option ℤ → Option ℤ → Bool
both_given None b = false
both_given (Some a) None = false
both_given (Some a) (Some b) = true

abbrev pub overlap : Times → Times → Bool
overlap a b =
    both_given a.send b.send || both_given a.receive b.receive || both_given a.request_receive b.request_receive || both_given a.response_send b.response_send

abbrev pub finished : Completed → Bool
finished unfinished = false
finished (sync send receive) = true
finished (delay send receive) = true
finished (peer a b d e) = true

-- ---- times that are held

pub record Bag : Type 0 where
  pub send : Option Time
  pub receive : Option Time
  pub request_receive : Option Time
  pub response_send : Option Time

abbrev pub empty_bag : Bag
empty_bag = record { send = None; receive = None; request_receive = None; response_send = None }

-- with one more
abbrev pub with_send : Bag → Time → Bag
with_send v t = record { send = Some t; receive = v.receive; request_receive = v.request_receive; response_send = v.response_send }

abbrev pub with_receive : Bag → Time → Bag
with_receive v t = record { send = v.send; receive = Some t; request_receive = v.request_receive; response_send = v.response_send }

abbrev pub with_response_send : Bag → Time → Bag
with_response_send v t = record { send = v.send; receive = v.receive; request_receive = v.request_receive; response_send = Some t }

abbrev pub Holds : Option ℤ → Option Time → Type 0
Holds None None = Unit {0}
Holds None (Some t) = ⊥
Holds (Some z) None = ⊥
Holds (Some z) (Some t) = time t ≡ z

pub record HoldsAll (a : Times) (v : Bag) : Type 0 where
  pub send : Holds a.send v.send
  pub receive : Holds a.receive v.receive
  pub request_receive : Holds a.request_receive v.request_receive
  pub response_send : Holds a.response_send v.response_send

-- ---- what an event stores: where it brings nothing, the time that was held; else a time worth what it brings

abbrev pub Fills : Option ℤ → Option Time → Option Time → Type 0
Fills None m n = n ≡ m
Fills (Some z) m n = Holds (Some z) n

pub record FillsAll (b : Times) (v w : Bag) : Type 0 where
  pub send : Fills b.send v.send w.send
  pub receive : Fills b.receive v.receive w.receive
  pub request_receive : Fills b.request_receive v.request_receive w.request_receive
  pub response_send : Fills b.response_send v.response_send w.response_send

-- none of the four is there twice
pub record NoneTwice (a b : Times) : Type 0 where
  pub send : both_given a.send b.send ≡ false
  pub receive : both_given a.receive b.receive ≡ false
  pub request_receive : both_given a.request_receive b.request_receive ≡ false
  pub response_send : both_given a.response_send b.response_send ≡ false

-- ---- the four times of a peer exchange

abbrev pub four : Option ℤ → Option ℤ → Option ℤ → Option ℤ → Completed
four a b d e = if_given a (λ x. if_given b (λ y. if_given d (λ z. if_given e (λ u. Completed.peer x y z u))))

-- a time that is given is held
pub record IsHeld (a : Option ℤ) (m : Option Time) : Type 0 where
  pub value : Time
  pub held_is : m ≡ Some value
  pub given_is : a ≡ Some (time value)

pub record FourThere (a : Times) (v : Bag) : Type 0 where
  pub t1 : Time
  pub t2 : Time
  pub t3 : Time
  pub t4 : Time
  pub t1_is : v.send ≡ Some t1
  pub t2_is : v.request_receive ≡ Some t2
  pub t3_is : v.response_send ≡ Some t3
  pub t4_is : v.receive ≡ Some t4
  pub worth : request_of Mechanism.Peer a ≡ Completed.peer (time t1) (time t2) (time t3) (time t4)
