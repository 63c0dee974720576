-- The times that the events of an exchange have brought, beside those that the record holds: an event that brings what is missing stores just that.
use Rattle.std.specs.Prelude.{ℕ, ◌≡◌, refl, Bool, true, false, ◌&&◌, List, [], ◌∷◌, ◌++◌, ℤ, Option, Some, None}
use Rattle.std.proofs.Common.{sym, ap, ◌∙◌, subst, true≢false}
use Rattle.std.proofs.Math.Bool.{and_assoc, and-true}
use Rattle.time.specs.Units.{time}
use Rattle.octets.proofs.BytesLaws.{apart, neither}
use Rattle.fitness.specs.Fit.{there}
use Rattle.rules.specs.Names.{Time, Mechanism, Config}
use Rattle.rules.specs.Events.{Event}
use Rattle.rules.specs.WorkedOut.{Completed}
use Rattle.undisturbed.specs.Times.{Times, no_times, times_in, times_of, earlier_of, and_then, if_given, request_of}
use Rattle.undisturbed.specs.TimesLaws.{both_given, overlap, finished, Bag, empty_bag, Holds, HoldsAll, Fills, FillsAll, NoneTwice, four, IsHeld, FourThere}

-- ---- one event more

or_none_lem : {A : Type 0} (a : Option A) → earlier_of a None ≡ a
or_none_lem None = refl
or_none_lem (Some a) = refl

or_or : {A : Type 0} (a b d : Option A) → earlier_of (earlier_of a b) d ≡ earlier_of a (earlier_of b d)
or_or None b d = refl
or_or (Some a) b d = refl

then_none : (a : Times) → and_then a no_times ≡ a
then_none a =
    λ i. record { send = or_none_lem a.send i; receive = or_none_lem a.receive i; request_receive = or_none_lem a.request_receive i; response_send = or_none_lem a.response_send i }

then_assoc : (a b d : Times) → and_then (and_then a b) d ≡ and_then a (and_then b d)
then_assoc a b d =
    λ i. record {
      send = or_or a.send b.send d.send i;
      receive = or_or a.receive b.receive d.receive i;
      request_receive = or_or a.request_receive b.request_receive d.request_receive i;
      response_send = or_or a.response_send b.response_send d.response_send i;
    }

pub times_snoc : (c : Config) (es : List Event) (e : Event) → times_of c (es ++ (e ∷ [])) ≡ and_then (times_of c es) (times_in c e)
unfolding times_of
times_snoc c [] e = then_none (times_in c e)
times_snoc c (f ∷ es) e =
    ap (and_then (times_in c f)) (times_snoc c es e) ∙ sym (then_assoc (times_in c f) (times_of c es) (times_in c e))

-- ---- times that are held

pub none_held : HoldsAll no_times empty_bag
none_held = record { send = tt; receive = tt; request_receive = tt; response_send = tt }

-- ---- what an event stores: where it brings nothing, the time that was held; else a time worth what it brings

filled_holds : (a b : Option ℤ) (m n : Option Time) → Holds a m → both_given a b ≡ false → Fills b m n → Holds (earlier_of a b) n
filled_holds None None m n h o f = subst (Holds None) (sym f) h
filled_holds (Some z) None m n h o f = subst (Holds (Some z)) (sym f) h
filled_holds None (Some y) m n h o f = f
filled_holds (Some z) (Some y) m n h o f = absurd (apart cc)

none_twice : (a b : Times) → overlap a b ≡ false → NoneTwice a b
none_twice a b o =
    let (x, d) = neither _ (both_given a.response_send b.response_send) o in
    let (y, r) = neither _ (both_given a.request_receive b.request_receive) x in
    let (s, e) = neither (both_given a.send b.send) (both_given a.receive b.receive) y in
    record { send = s; receive = e; request_receive = r; response_send = d }

pub fills_hold : (a b : Times) (v w : Bag) → HoldsAll a v → overlap a b ≡ false → FillsAll b v w → HoldsAll (and_then a b) w
fills_hold a b v w h o f =
    let n : NoneTwice a b = none_twice a b o in
    record {
      send = filled_holds a.send b.send v.send w.send h.send n.send f.send;
      receive = filled_holds a.receive b.receive v.receive w.receive h.receive n.receive f.receive;
      request_receive = filled_holds a.request_receive b.request_receive v.request_receive w.request_receive h.request_receive n.request_receive f.request_receive;
      response_send = filled_holds a.response_send b.response_send v.response_send w.response_send h.response_send n.response_send f.response_send;
    }

-- ---- a time that an event brings is missing in the record

lacking : (a b : Option ℤ) (z : ℤ) (m : Option Time) → Holds a m → both_given a b ≡ false → b ≡ Some z → m ≡ None
lacking None b z None h o e = refl
lacking None b z (Some t) h o e = absurd h
lacking (Some y) b z m h o e = absurd (apart (given_both b e o))
  where
    given_both : (b : Option ℤ) → b ≡ Some z → both_given (Some y) b ≡ false → ◌≡◌ {A = ℕ} 0 1
    given_both None e o = cc
    given_both (Some x) e o = cc

module _ (a b : Times) (v : Bag) (h : HoldsAll a v) (o : overlap a b ≡ false) (z : ℤ) where
  pub lacks_send : b.send ≡ Some z → v.send ≡ None
  lacks_send e = lacking a.send b.send z v.send h.send (none_twice a b o).send e

  pub lacks_receive : b.receive ≡ Some z → v.receive ≡ None
  lacks_receive e = lacking a.receive b.receive z v.receive h.receive (none_twice a b o).receive e

  pub lacks_response_send : b.response_send ≡ Some z → v.response_send ≡ None
  lacks_response_send e = lacking a.response_send b.response_send z v.response_send h.response_send (none_twice a b o).response_send e

-- ---- two times, of which an exchange is made of: one is missing, or both are there

module _ (made : ℤ → ℤ → Completed) (finishes : (x y : ℤ) → finished (made x y) ≡ true) where
  abbrev pub of_two : Option ℤ → Option ℤ → Completed
  of_two a b = if_given a (λ x. if_given b (λ y. made x y))

  pub one_missing : (a b : Option ℤ) (m n : Option Time) → Holds a m → Holds b n → finished (of_two a b) ≡ false → there m && there n ≡ false
  one_missing None b None n h j e = refl
  one_missing None b (Some t) n h j e = absurd h
  one_missing (Some x) None None n h j e = absurd h
  one_missing (Some x) None (Some t) None h j e = refl
  one_missing (Some x) None (Some t) (Some u) h j e = absurd j
  one_missing (Some x) (Some y) m n h j e = absurd (true≢false (sym (finishes x y) ∙ e))

  pub record BothThere (a b : Option ℤ) (m n : Option Time) : Type 0 where
    pub first : Time
    pub second : Time
    pub first_is : m ≡ Some first
    pub second_is : n ≡ Some second
    pub worth : of_two a b ≡ made (time first) (time second)

  pub both_there : (a b : Option ℤ) (m n : Option Time) → Holds a m → Holds b n → finished (of_two a b) ≡ true → BothThere a b m n
  both_there None b m n h j e = absurd (apart cc)
  both_there (Some x) None m n h j e = absurd (apart cc)
  both_there (Some x) (Some y) None n h j e = absurd h
  both_there (Some x) (Some y) (Some t) None h j e = absurd j
  both_there (Some x) (Some y) (Some t) (Some u) h j e =
      record { first = t; second = u; first_is = refl; second_is = refl; worth = λ i. made (sym h i) (sym j i) }

-- ---- the four times of a peer exchange

-- while one is missing, not all are there
missing_here : (a : Option ℤ) (m : Option Time) (k : ℤ → Completed) (others : Bool) → Holds a m → finished (if_given a k) ≡ false → ((z : ℤ) → finished (k z) ≡ false → others ≡ false) → there m && others ≡ false
missing_here None None k others h f g = refl
missing_here None (Some t) k others h f g = absurd h
missing_here (Some z) None k others h f g = absurd h
missing_here (Some z) (Some t) k others h f g = g z f

not_finished : {A : Type 0} (x y z u : ℤ) → finished (Completed.peer x y z u) ≡ false → A
not_finished x y z u f = absurd (true≢false f)

pub one_of_four_missing : (a : Times) (v : Bag) → HoldsAll a v → finished (request_of Mechanism.Peer a) ≡ false → there v.send && there v.request_receive && there v.response_send && there v.receive ≡ false
one_of_four_missing a v h f =
    and_assoc (there v.send && there v.request_receive) (there v.response_send) (there v.receive)
    ∙ and_assoc (there v.send) (there v.request_receive) (there v.response_send && there v.receive)
    ∙ missing_here a.send v.send _ _ h.send f (λ x fx.
    missing_here a.request_receive v.request_receive _ _ h.request_receive fx (λ y fy.
    missing_here a.response_send v.response_send _ _ h.response_send fy (λ z fz.
    sym (and-true (there v.receive)) ∙ missing_here a.receive v.receive _ true h.receive fz (λ u fu. not_finished x y z u fu))))

is_held : (a : Option ℤ) (m : Option Time) (k : ℤ → Completed) → Holds a m → finished (if_given a k) ≡ true → IsHeld a m
is_held None m k h f = absurd (true≢false (sym f))
is_held (Some x) None k h f = absurd h
is_held (Some x) (Some t) k h f = record { value = t; held_is = refl; given_is = ap Some (sym h) }

pub four_there_lem : (a : Times) (v : Bag) → HoldsAll a v → finished (request_of Mechanism.Peer a) ≡ true → FourThere a v
four_there_lem a v h f =
    let k1 : ℤ → Completed = λ x. if_given a.request_receive (λ y. if_given a.response_send (λ z. if_given a.receive (λ u. Completed.peer x y z u))) in
    let s1 : IsHeld a.send v.send = is_held a.send v.send k1 h.send f in
    let f1 : finished (k1 (time s1.value)) ≡ true = subst (λ (o : Option ℤ). finished (if_given o k1) ≡ true) s1.given_is f in
    let k2 : ℤ → Completed = λ y. if_given a.response_send (λ z. if_given a.receive (λ u. Completed.peer (time s1.value) y z u)) in
    let s2 : IsHeld a.request_receive v.request_receive = is_held a.request_receive v.request_receive k2 h.request_receive f1 in
    let f2 : finished (k2 (time s2.value)) ≡ true = subst (λ (o : Option ℤ). finished (if_given o k2) ≡ true) s2.given_is f1 in
    let k3 : ℤ → Completed = λ z. if_given a.receive (λ u. Completed.peer (time s1.value) (time s2.value) z u) in
    let s3 : IsHeld a.response_send v.response_send = is_held a.response_send v.response_send k3 h.response_send f2 in
    let f3 : finished (k3 (time s3.value)) ≡ true = subst (λ (o : Option ℤ). finished (if_given o k3) ≡ true) s3.given_is f2 in
    let s4 : IsHeld a.receive v.receive = is_held a.receive v.receive (λ u. Completed.peer (time s1.value) (time s2.value) (time s3.value) u) h.receive f3 in
    record {
      t1 = s1.value;
      t2 = s2.value;
      t3 = s3.value;
      t4 = s4.value;
      t1_is = s1.held_is;
      t2_is = s2.held_is;
      t3_is = s3.held_is;
      t4_is = s4.held_is;
      worth = λ i. four (s1.given_is i) (s2.given_is i) (s3.given_is i) (s4.given_is i);
    }
