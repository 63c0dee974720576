-- Demand 1, first part, row by row: what it takes for each number to be the answer. A row needs its own condition and the failure of all before it, and 0 the failure of all; nothing more is needed.
use Rattle.std.specs.Prelude.{ℕ, ◌≡◌, refl, Bool, true, false, not, List, [], ◌∷◌, ◌++◌, ◌↔◌, eqb}
use Rattle.std.proofs.Common.{sym, ◌∙◌, ap, true≢false, eq-eqb}
use Rattle.std.proofs.lemmas.Bool.{false≢true}
use Rattle.rules.specs.Names.{Port, Outcome}
use Rattle.octets.proofs.BytesLaws.{both}
use Rattle.fitness.specs.Fit.{unfit}
use Rattle.record.specs.Answers.{number_of}
use Rattle.rules.specs.Events.{Event}
use Rattle.rules.specs.Table.{row1, row3, row4, row5, row6, row8, table, first_hit}
use Rattle.rules.specs.WorkedOut.{row7}
use Rattle.rules.specs.Step.{step}
use Rattle.rules.specs.Given.{BytesIn}
use Rattle.rules.proofs.TableLaws.{first_row}
use Rattle.rules.specs.ExactlyWhen.{NoneOf, ExactlyWhen, conditions, new}

-- ---- of any table whose rows have numbers of their own

other : (o r : Outcome) → not (eqb (number_of r) (number_of o)) ≡ true → r ≡ o → ⊥
other o r d e = false≢true (sym (ap not (eq-eqb (number_of r) (number_of o) (ap number_of e))) ∙ d)

-- the number of no row is not answered, unless it is 0
not_hit : (rows : List (Bool × Outcome)) (o : Outcome) → new (number_of o) rows ≡ true → eqb (number_of o) 0 ≡ false → first_hit rows ≡ o → ⊥
not_hit [] o n z e = false≢true (sym z ∙ eq-eqb (number_of o) 0 (sym (ap number_of e)))
not_hit ((true, r) ∷ rows) o n z e = other o r (both (not (eqb (number_of r) (number_of o))) (new (number_of o) rows) n).0 e
not_hit ((false, r) ∷ rows) o n z e = not_hit rows o (both (not (eqb (number_of r) (number_of o))) (new (number_of o) rows) n).1 z e

module _ (o : Outcome) (z : eqb (number_of o) 0 ≡ false) (after : List (Bool × Outcome)) (fresh : new (number_of o) after ≡ true) where
  hit_is : (before : List (Bool × Outcome)) (t : Bool) → new (number_of o) before ≡ true → first_hit (before ++ ((t, o) ∷ after)) ≡ o → NoneOf (conditions before) × (t ≡ true)
  hit_is [] true n e = (tt, refl)
  hit_is [] false n e = absurd (not_hit after o fresh z e)
  hit_is ((true, r) ∷ rows) t n e = absurd (other o r (both (not (eqb (number_of r) (number_of o))) (new (number_of o) rows) n).0 e)
  hit_is ((false, r) ∷ rows) t n e =
      let (none, here) = hit_is rows t (both (not (eqb (number_of r) (number_of o))) (new (number_of o) rows) n).1 e in
      ((refl, none), here)

  hit_when : (before : List (Bool × Outcome)) (t : Bool) → NoneOf (conditions before) × (t ≡ true) → first_hit (before ++ ((t, o) ∷ after)) ≡ o
  hit_when [] true h = refl
  hit_when [] false h = absurd (false≢true h.1)
  hit_when ((true, r) ∷ rows) t h = absurd (true≢false h.0.0)
  hit_when ((false, r) ∷ rows) t h = hit_when rows t (h.0.1, h.1)

none_is : (rows : List (Bool × Outcome)) → new 0 rows ≡ true → first_hit rows ≡ Outcome.Taken → NoneOf (conditions rows)
none_is [] n e = tt
none_is ((true, r) ∷ rows) n e = absurd (other Outcome.Taken r (both (not (eqb (number_of r) 0)) (new 0 rows) n).0 e)
none_is ((false, r) ∷ rows) n e = (refl, none_is rows (both (not (eqb (number_of r) 0)) (new 0 rows) n).1 e)

none_when : (rows : List (Bool × Outcome)) → NoneOf (conditions rows) → first_hit rows ≡ Outcome.Taken
none_when [] h = refl
none_when ((true, r) ∷ rows) h = absurd (true≢false h.0)
none_when ((false, r) ∷ rows) h = none_when rows h.1

-- ---- of 01's table

module _ (p : Port) (room : ℕ) (e : Event) (b : BytesIn e) where
  abbrev c1 : Bool × Outcome
  c1 = (row1 p.config e room, Outcome.Buffer)

  abbrev c2 : Bool × Outcome
  c2 = (unfit p, Outcome.Unfit)

  abbrev c3 : Bool × Outcome
  c3 = (row3 e, Outcome.Limits)

  abbrev c4 : Bool × Outcome
  c4 = (row4 p.config e, Outcome.Version)

  abbrev c5 : Bool × Outcome
  c5 = (row5 p.config e, Outcome.Malformed)

  abbrev c6 : Bool × Outcome
  c6 = (row6 p.config e, Outcome.Foreign)

  abbrev c8 : Bool × Outcome
  c8 = (row8 p.config e, Outcome.Host)

  abbrev c7 : Bool × Outcome
  c7 = (row7 p e, Outcome.Range)

  first : (step p room e).outcome ≡ first_hit (table p room e)
  first = first_row p room e b

  row : (o : Outcome) → eqb (number_of o) 0 ≡ false → (before : List (Bool × Outcome)) (t : Bool) (after : List (Bool × Outcome)) → table p room e ≡ before ++ ((t, o) ∷ after) → new (number_of o) before ≡ true → new (number_of o) after ≡ true → ((step p room e).outcome ≡ o) ↔ (NoneOf (conditions before) × (t ≡ true))
  row o z before t after split n m =
      let f : (step p room e).outcome ≡ first_hit (before ++ ((t, o) ∷ after)) = first ∙ ap first_hit split in
      (λ h. hit_is o z after m before t n (sym f ∙ h), λ h. f ∙ hit_when o z after m before t h)

  pub exactly_when : ExactlyWhen p room e
  exactly_when =
      record {
        answered_1 = row Outcome.Buffer refl [] _ (c2 ∷ c3 ∷ c4 ∷ c5 ∷ c6 ∷ c8 ∷ c7 ∷ []) refl refl refl;
        answered_2 = row Outcome.Unfit refl (c1 ∷ []) _ (c3 ∷ c4 ∷ c5 ∷ c6 ∷ c8 ∷ c7 ∷ []) refl refl refl;
        answered_3 = row Outcome.Limits refl (c1 ∷ c2 ∷ []) _ (c4 ∷ c5 ∷ c6 ∷ c8 ∷ c7 ∷ []) refl refl refl;
        answered_4 = row Outcome.Version refl (c1 ∷ c2 ∷ c3 ∷ []) _ (c5 ∷ c6 ∷ c8 ∷ c7 ∷ []) refl refl refl;
        answered_5 = row Outcome.Malformed refl (c1 ∷ c2 ∷ c3 ∷ c4 ∷ []) _ (c6 ∷ c8 ∷ c7 ∷ []) refl refl refl;
        answered_6 = row Outcome.Foreign refl (c1 ∷ c2 ∷ c3 ∷ c4 ∷ c5 ∷ []) _ (c8 ∷ c7 ∷ []) refl refl refl;
        answered_8 = row Outcome.Host refl (c1 ∷ c2 ∷ c3 ∷ c4 ∷ c5 ∷ c6 ∷ []) _ (c7 ∷ []) refl refl refl;
        answered_7 = row Outcome.Range refl (c1 ∷ c2 ∷ c3 ∷ c4 ∷ c5 ∷ c6 ∷ c8 ∷ []) _ [] refl refl refl;
        answered_0 = (λ h. none_is (table p room e) refl (sym first ∙ h), λ h. first ∙ none_when (table p room e) h);
      }
