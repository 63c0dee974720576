-- A run with a real buffer is the run without one: each packet is what was sent, and the buffer keeps its length.
use Rattle.std.specs.Prelude.{ℕ, ◌≡◌, refl, length, drop}
use Rattle.std.proofs.Common.{ap, sym, subst, ◌∙◌}
use mathlib.Core.List.{List, [], ◌∷◌, ◌++◌}
use Rattle.std.proofs.Math.Seq.{take-append_seam}
use Rattle.rules.specs.Names.{Config, Port}
use Rattle.rules.specs.Events.{Event, Answered, buffer_after}
use Rattle.rules.specs.Step.{step}
use Rattle.rules.specs.WorkedOut.{unfinished}
use Rattle.undisturbed.specs.Runs.{syncs, requests, a_part, the_last, within, free, Item, placed, log_of, end_of, Told}
use Rattle.undisturbed.specs.Times.{comes_to}
use Rattle.undisturbed.specs.Undisturbed.{reply_with, happens, FormulaSays}
use Rattle.rules.proofs.BufferLaws.{buffer_length}
use Rattle.undisturbed.specs.PlainLaws.{plain_reply, plain, PlainSays}

-- ---- a run of which only the buffer's room is known

-- the packet stands at the buffer's front
reply_plain : (r : Answered) (l : List ℕ) → reply_with r (buffer_after r l) ≡ plain_reply r
unfolding buffer_after
reply_plain r l =
    ap (λ packet. record { outcome = r.outcome; measurement = r.measurement; packet = packet; actions = r.actions; reset = r.reset }) (take-append_seam r.sent (drop (length r.sent) l))

pub log_plain : (p : Port) (b : List ℕ) (run : List (Item Event)) → log_of happens (p, b) run ≡ log_of (plain (length b)) p run
unfolding log_of happens
log_plain p b [] = refl
log_plain p b (placed place e ∷ es) =
    let r : Answered = step p (length b) e in
    ap (λ a. placed place (e, a) ∷ log_of happens (r.port, buffer_after r b) es) (reply_plain r b)
    ∙ ap (λ log. placed place (e, plain_reply r) ∷ log) (log_plain r.port (buffer_after r b) es ∙ ap (λ n. log_of (plain n) r.port es) (buffer_length p e b))

pub end_plain : (p : Port) (b : List ℕ) (run : List (Item Event)) → (end_of happens (p, b) run).0 ≡ end_of (plain (length b)) p run
unfolding end_of happens
end_plain p b [] = refl
end_plain p b (placed place e ∷ es) =
    let r : Answered = step p (length b) e in
    end_plain r.port (buffer_after r b) es ∙ ap (λ n. end_of (plain n) r.port es) (buffer_length p e b)

module _ (c : Config) where
  abbrev PlainTold : ℕ → List Event → List Event → Port → List (Item Event) → Type 0
  PlainTold room hs hr p run = Told (plain room) PlainSays unfinished (comes_to c) hs hr p run

  -- the next event finds as much room
  same_room : (p : Port) (b : List ℕ) (e : Event) (hs hr : List Event) (q : Port) (es : List (Item Event)) → PlainTold (length b) hs hr q es → PlainTold (length (buffer_after (step p (length b) e) b)) hs hr q es
  same_room p b e hs hr q es t = subst (λ n. PlainTold n hs hr q es) (sym (buffer_length p e b)) t

  pub told_plain : (hs hr : List Event) (p : Port) (b : List ℕ) (run : List (Item Event)) → PlainTold (length b) hs hr p run → Told happens FormulaSays unfinished (comes_to c) hs hr (p, b) run
  unfolding Told happens
  told_plain hs hr p b [] t = t
  told_plain hs hr p b (placed (within syncs (a_part w)) e ∷ es) (s, t) = (s, told_plain (hs ++ (e ∷ [])) hr (step p (length b) e).port (buffer_after (step p (length b) e) b) es (same_room p b e (hs ++ (e ∷ [])) hr (step p (length b) e).port es t))
  told_plain hs hr p b (placed (within syncs (the_last w)) e ∷ es) (s, t) = (s, told_plain [] hr (step p (length b) e).port (buffer_after (step p (length b) e) b) es (same_room p b e [] hr (step p (length b) e).port es t))
  told_plain hs hr p b (placed (within requests (a_part w)) e ∷ es) (s, t) = (s, told_plain hs (hr ++ (e ∷ [])) (step p (length b) e).port (buffer_after (step p (length b) e) b) es (same_room p b e hs (hr ++ (e ∷ [])) (step p (length b) e).port es t))
  told_plain hs hr p b (placed (within requests (the_last w)) e ∷ es) (s, t) = (s, told_plain hs [] (step p (length b) e).port (buffer_after (step p (length b) e) b) es (same_room p b e hs [] (step p (length b) e).port es t))
  told_plain hs hr p b (placed (free f) e ∷ es) (s, t) = (s, told_plain hs hr (step p (length b) e).port (buffer_after (step p (length b) e) b) es (same_room p b e hs hr (step p (length b) e).port es t))
