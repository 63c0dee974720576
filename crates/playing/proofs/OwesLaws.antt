-- What a turn and a read make of the lines that are owed.
use Rattle.std.specs.Prelude.{◌≡◌, ℕ, ◌+◌, ◌-◌, ◌≤◌, List, [], ◌++◌, length, take, drop, Option, Some, None, Result, Ok, Err, IfOk, IfSome, MatchResult, IsErrAnd, ⊤, refl}
use Rattle.std.specs.declared.io.Error.{Error}
use Rattle.std.proofs.Common.{sym, ◌∙◌, ap, subst, arith, append_assoc, append-nil, length-drop, length-take-le, drop-drop, take_at}
use Rattle.std.proofs.lemmas.List.{drop-take}
use Rattle.std.proofs.KnownBytes.{Appends-nil, Appends-trans}
use Rattle.std.specs.Io.KnownBytes.{Appends, Consumes}
use Rattle.octets.proofs.BytesLaws.{apart}
use Rattle.lines.specs.declared.Style.{Style}
use Rattle.replaying.specs.declared.State.{State}
use Rattle.replaying.specs.declared.Stop.{Stop}
use Rattle.replaying.specs.declared.TurnEnd.{TurnEnd}
use Rattle.replaying.specs.Replay.{replay_lines}
use Rattle.replaying.specs.Sessions.{start_of}
use Rattle.replaying.specs.Turns.{Run, Turned, run_over}
use Rattle.replaying.specs.Owed.{Owed}
use Rattle.replaying.proofs.OwedLaws.{Left, owed_first, owed_turn}
use Rattle.flow.specs.declared.Flow.{Flow}
use Rattle.flow.specs.declared.Then.{Then}
use Rattle.flow.specs.Becomes.{begun, behind, onwards, after_of}
use Rattle.playing.specs.declared.Trouble.{Trouble}
use Rattle.playing.specs.Between.{Sound, unread, next_of}
use Rattle.playing.specs.Written.{AppendsFront, Brought, Owes, Goes}

-- before the first turn, all lines are
pub owes_first : (style : Style) (log : List ℕ) (c left : Option (List ℕ)) (f : Flow) (w : List ℕ) → f ≡ begun start_of → left ≡ Some log → Owes style log c left c f w
owes_first style log c left f w e l =
    record {
      rest = log;
      is_left = l;
      last = λ h. absurd (apart (cc (sym h ∙ ap (λ (x : Flow). x.last) e)));
      done = [];
      written = Appends-nil c;
      due = replay_lines style log;
      lines = refl;
      owed = subst (λ (x : Flow). Owed style x.state (unread x w ++ log) (replay_lines style log)) (sym e) (owed_first style log);
    }

-- while the bytes of the log are known
pub owes_start : (style : Style) (c left : Option (List ℕ)) (f : Flow) (w : List ℕ) → f ≡ begun start_of → IfSome left (λ log. Owes style log c left c f w)
owes_start style c left f w e = by left refl
  where
    by : (x : Option (List ℕ)) → left ≡ x → IfSome x (λ log. Owes style log c left c f w)
    by None h = tt
    by (Some log) h = owes_first style log c left f w e h

pub if_known : {A : Type 0} (o : Option A) (P Q : A → Type 0) → IfSome o P → ((x : A) → P x → Q x) → IfSome o Q
if_known None P Q h k = tt
if_known (Some x) P Q h k = k x h

-- what was written before something failed is a front of the lines
pub owes_front : (style : Style) (log : List ℕ) (c left now : Option (List ℕ)) (f : Flow) (w : List ℕ) → Owes style log c left now f w → AppendsFront c now (replay_lines style log)
owes_front style log c left now f w o = (o.done, o.due, o.lines, o.written)

pub all_front : (old new : Option (List ℕ)) (bs : List ℕ) → Appends old new bs → AppendsFront old new bs
all_front old new bs h = (bs, [], sym (append-nil bs), h)

-- behind a turn whose answer is known
pub owes_then : (style : Style) (log : List ℕ) (c left now : Option (List ℕ)) (w : List ℕ) (r q : Result (Option Flow) Trouble) → r ≡ q → Goes style log c left now w r → Goes style log c left now w q
owes_then style log c left now w r q e h = subst (Goes style log c left now w) e h

-- bytes that come from what is left are owed as before
pub owes_brought : (style : Style) (log : List ℕ) (c left now left' : Option (List ℕ)) (f g : Flow) (w w' : List ℕ) → Owes style log c left now f w → Brought f w left g w' left' → Owes style log c left' now g w'
owes_brought style log c left now left' f g w w' o b = by left' refl
  where
    by : (x : Option (List ℕ)) → left' ≡ x → Owes style log c left' now g w'
    by None e = absurd (subst (λ (z : Option (List ℕ)). Consumes (Some o.rest) z b.bytes) e (subst (λ (z : Option (List ℕ)). Consumes z left' b.bytes) o.is_left b.consumed))
    by (Some ys) e =
        let k : o.rest ≡ b.bytes ++ ys = subst (λ (z : Option (List ℕ)). Consumes (Some o.rest) z b.bytes) e (subst (λ (z : Option (List ℕ)). Consumes z left' b.bytes) o.is_left b.consumed) in
        record {
          rest = ys;
          is_left = e;
          last = b.end o.rest ys o.is_left e o.last;
          done = o.done;
          written = o.written;
          due = o.due;
          lines = o.lines;
          owed =
              subst (λ (q : State). Owed style q (unread g w' ++ ys) o.due) (sym b.state)
              (subst (λ (s : List ℕ). Owed style f.state s o.due)
              (ap (λ (u : List ℕ). unread f w ++ u) k ∙ sym (append_assoc (unread f w) b.bytes ys) ∙ ap (λ (u : List ℕ). u ++ ys) (sym b.behind)) o.owed);
        }

-- and behind a read, or a read that failed
pub owes_read : (style : Style) (log : List ℕ) (c left now left' : Option (List ℕ)) (f : Flow) (w w' : List ℕ) (k : Result Flow Trouble) (r : Result (Option Flow) Trouble) → Owes style log c left now f w → IfOk k (λ g. Brought f w left g w' left') → r ≡ next_of k → Goes style log c left' now w' r
owes_read style log c left now left' f w w' k r o b e = subst (Goes style log c left' now w') (sym e) (by k b)
  where
    by : (x : Result Flow Trouble) → IfOk x (λ g. Brought f w left g w' left') → Goes style log c left' now w' (next_of x)
    by (Ok g) h = owes_brought style log c left now left' f g w w' o h
    by (Err t) h = owes_front style log c left now f w o

-- ---- a turn

-- r of the unread bytes are read
later : (f : Flow) (w : List ℕ) (r : ℕ) → f.start + r ≤ f.have → drop r (unread f w) ≡ take (f.have - (f.start + r)) (drop (f.start + r) w)
later f w r h =
    ap (λ (n : ℕ). drop r (take n (drop f.start w))) (omega (arith, h))
    ∙ drop-take r (f.have - (f.start + r)) (drop f.start w)
    ∙ ap (take (f.have - (f.start + r))) (drop-drop r f.start w)

module _ (style : Style) (log : List ℕ) (c left now now' : Option (List ℕ)) (f : Flow) (w d : List ℕ) (t : TurnEnd) (d' : List ℕ) (s : Sound f (length w)) (u : Turned style f.state (unread f w) f.last d t d') (o : Owes style log c left now f w) where
  abbrev x : Run
  x = run_over style f.state (unread f w) f.last (length d)

  page : take t.wrote d' ≡ x.bytes
  page =
      ap (take t.wrote) u.1
      ∙ ap (λ (n : ℕ). take n (x.bytes ++ drop (length x.bytes) d)) (ap (λ (e : TurnEnd). e.wrote) u.0)
      ∙ take_at x.bytes (drop (length x.bytes) d) (length x.bytes) refl

  left_of : Left style (unread f w) o.rest o.due x x.stop
  left_of = owed_turn style f.state (unread f w) o.rest o.due f.last (length d) o.last o.owed

  paid : (why : Stop) → Left style (unread f w) o.rest o.due x why → (v : List ℕ) × (o.due ≡ x.bytes ++ v)
  paid Stop.Full (v, e, _, _) = (v, e)
  paid Stop.More (v, e, _, _) = (v, e)
  paid Stop.Done e = ([], e ∙ sym (append-nil x.bytes))

  failed : AppendsFront now now' (take t.wrote d') → AppendsFront c now' (replay_lines style log)
  failed (a, b, e, h) =
      let (v, g) = paid x.stop left_of in (
        o.done ++ a,
        b ++ v,
        o.lines
            ∙ ap (λ (z : List ℕ). o.done ++ z) (g ∙ ap (λ (z : List ℕ). z ++ v) (sym page ∙ e) ∙ append_assoc a b v)
            ∙ sym (append_assoc o.done a (b ++ v)),
        Appends-trans c now now' o.done a o.written h,
      )

  written : Appends now now' (take t.wrote d') → Appends c now' (o.done ++ x.bytes)
  written h = Appends-trans c now now' o.done x.bytes o.written (subst (Appends now now') page h)

  goes_on : Appends now now' (take t.wrote d') → (v : List ℕ) × (o.due ≡ x.bytes ++ v) × (x.read ≤ length (unread f w)) × Owed style x.state (drop x.read (unread f w) ++ o.rest) v → Owes style log c left now' (behind f t) w
  goes_on h (v, e, r, p) =
      let fits : f.start + x.read ≤ f.have = omega (arith, r, s.start, s.have, length-take-le (f.have - f.start) (drop f.start w) (omega (arith, s.start, s.have, length-drop f.start w))) in
      record {
        rest = o.rest;
        is_left = o.is_left;
        last = o.last;
        done = o.done ++ x.bytes;
        written = written h;
        due = v;
        lines = o.lines ∙ ap (λ (z : List ℕ). o.done ++ z) e ∙ sym (append_assoc o.done x.bytes v);
        owed =
            subst (λ (z : TurnEnd). Owed style z.state (take (f.have - (f.start + z.read)) (drop (f.start + z.read) w) ++ o.rest) v) (sym u.0)
            (subst (λ (z : List ℕ). Owed style x.state (z ++ o.rest) v) (later f w x.read fits) p);
      }

  all : Appends now now' (take t.wrote d') → o.due ≡ x.bytes → Appends c now' (replay_lines style log)
  all h e = subst (Appends c now') (sym (o.lines ∙ ap (λ (z : List ℕ). o.done ++ z) e)) (written h)

  abbrev pub Decides : Result Then Error → Type 0
  Decides (Ok (Then.Turns g)) = Owes style log c left now' g w
  Decides (Ok (Then.Reads g)) = Owes style log c left now' g w
  Decides (Ok Then.Ends) = Appends c now' (replay_lines style log)
  Decides (Err e) = AppendsFront c now' (replay_lines style log)

  by : (why : Stop) → Appends now now' (take t.wrote d') → Left style (unread f w) o.rest o.due x why → Decides (Ok (onwards f t why))
  by Stop.Full h l = goes_on h l
  by Stop.More h l = goes_on h l
  by Stop.Done h l = all h l

  decided_by : (a : Result ⊤ Error) → MatchResult a (λ _. Appends now now' (take t.wrote d')) (λ _. AppendsFront now now' (take t.wrote d')) → Decides (after_of f t a)
  unfolding after_of
  decided_by (Ok _) h = subst (λ (z : Stop). Decides (Ok (onwards f t z))) (sym (ap (λ (e : TurnEnd). e.stop) u.0)) (by x.stop h left_of)
  decided_by (Err e) h = failed h

  pub decided : (a : Result ⊤ Error) (r : Result Then Error) → MatchResult a (λ _. Appends now now' (take t.wrote d')) (λ _. AppendsFront now now' (take t.wrote d')) → r ≡ after_of f t a → Decides r
  decided a r h e = subst Decides (sym e) (decided_by a h)

-- ---- an answer whose error was told as another

module _ (a : Result Then Error) (m : Result Then Trouble) (P : Error → Trouble → Type 0) (h : MatchResult a (λ x. m ≡ Ok x) (λ e. IsErrAnd m (P e))) where
  pub ok_is : (y z : Then) → m ≡ Ok y → y ≡ z → a ≡ Ok z
  ok_is y z e f = by a h
    where
      by : (b : Result Then Error) → MatchResult b (λ x. m ≡ Ok x) (λ x. IsErrAnd m (P x)) → b ≡ Ok z
      by (Ok g) k = let q : g ≡ y = cc (sym k ∙ e) in ap (λ (t : Then). Ok t) (q ∙ f)
      by (Err u) k = absurd (subst (λ (n : Result Then Trouble). IsErrAnd n (P u)) e k)

  pub err_is : (t : Trouble) → m ≡ Err t → (e : Error) × (a ≡ Err e)
  err_is t e = by a h
    where
      by : (b : Result Then Error) → MatchResult b (λ x. m ≡ Ok x) (λ x. IsErrAnd m (P x)) → (y : Error) × (b ≡ Err y)
      by (Ok g) k = absurd (apart (cc (sym k ∙ e)))
      by (Err u) k = (u, refl)
