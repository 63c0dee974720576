-- One induction for all that is said of a run over a window: what stands at the front, and the rest of the run behind it.
use Rattle.std.specs.Prelude.{◌≡◌, ℕ, zero, suc, ◌+◌, ◌-◌, ◌<◌, ◌≤◌, Bool, true, false, List, length, drop, nat_lt, refl}
use Rattle.std.proofs.Common.{sym, subst, arith, ltb-true, ltb-false, length-drop}
use Rattle.event_log.specs.Told.{Next}
use Rattle.event_log.specs.Fields.{front_of}
use Rattle.streaming.specs.Log.{Fields, scan, onward}
use Rattle.streaming.specs.FrontLaws.{Front, front}
use Rattle.streaming.proofs.StreamingLaws.{scan_is}
use Rattle.lines.specs.declared.Style.{Style}
use Rattle.lines.specs.Lines.{line_of}
use Rattle.replaying.specs.declared.State.{State}
use Rattle.replaying.specs.Replay.{answer_to}
use Rattle.replaying.specs.Turns.{line_room, due, port_in, opened, moved, Run, run_of}
use Rattle.replaying.specs.OneLaws.{run_starts, run_next, run_good, run_bad, run_rest}
use Rattle.replaying.proofs.TurnLaws.{full_run}
use Rattle.replaying.specs.RunLaws.{Steps}

module _ (style : Style) (last : Bool) (P : State → ℕ → List ℕ → Run → Type 0) (steps : Steps style last P) where
  by_front : (q : State) (room a : ℕ) (s : List ℕ) → line_room ≤ room
      → ((k : ℕ) → 3 ≤ k → k ≤ length s → (p : State) (r b : ℕ) → P p r (drop k s) (run_of style p r (scan last (due p) b (drop k s))))
      → (y : Next) → front_of (due q) s last ≡ y → Front (due q) s last y → P q room s (run_of style q room (onward y a (due q) s (λ k. scan last false (a + k) (drop k s))))
  by_front q room a s h go (Next.Config c) e (_, fits) =
      subst (P q room s) (sym (run_starts style q room h c 36 (scan last false (a + 36) (drop 36 s))))
      (steps.config q room s c e fits _ (go 36 (omega arith) fits (opened q c 36) room (a + 36)))
  by_front q room a s h go (Next.Event e k) f (_, (three, fits)) =
      let w : List ℕ = line_of style q.number (answer_to (port_in q) e) in
      subst (P q room s) (sym (run_next style q room h e k (scan last false (a + k) (drop k s))))
      (steps.event q room s e k f three fits _ (go k three fits (moved q (answer_to (port_in q) e).port k) (room - length w) (a + k)))
  by_front q room a s h go Next.More e f = subst (P q room s) (sym (run_rest style q room h a (due q) s)) (steps.more q room s e)
  by_front q room a s h go Next.End e f = subst (P q room s) (sym (run_good style q room h)) (steps.good_end q room s e)
  by_front q room a s h go Next.Bad e f = subst (P q room s) (sym (run_bad style q room h a)) (steps.bad_end q room s e)

  every_by : (fuel : ℕ) (q : State) (room a : ℕ) (s : List ℕ) → length s < fuel → P q room s (run_of style q room (scan last (due q) a s))
  every_by zero q room a s f = absurd (omega (arith, f))
  every_by (suc fuel) q room a s f =
      by_room (nat_lt room 1024) refl
      (λ h. by_front q room a s h (λ k three fits p r b. every_by fuel p r b (drop k s) (omega (arith, length-drop k s, three, fits, f))) (front_of (due q) s last) refl (front (due q) s last))
    where
      by_room : (b : Bool) → nat_lt room 1024 ≡ b → (line_room ≤ room → P q room s (run_of style q room (onward (front_of (due q) s last) a (due q) s (λ k. scan last false (a + k) (drop k s))))) → P q room s (run_of style q room (scan last (due q) a s))
      by_room true e k =
          subst (P q room s) (sym (full_run style q room (scan last (due q) a s) (ltb-true room 1024 e))) (steps.full q room s (ltb-true room 1024 e))
      by_room false e k =
          subst (λ (l : Fields). P q room s (run_of style q room l)) (sym (scan_is last (due q) a s)) (k (ltb-false room 1024 e))

  pub every : (q : State) (room a : ℕ) (s : List ℕ) → P q room s (run_of style q room (scan last (due q) a s))
  every q room a s = every_by (suc (length s)) q room a s (omega arith)
