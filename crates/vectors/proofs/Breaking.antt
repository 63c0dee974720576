-- Laws of a record that is not read to its end.
use Rattle.std.specs.Prelude.{ℕ, Result, Ok, Err, ◌<◌, ◌≡◌, List, ◌++◌, length, take, OnErr}
use Rattle.std.proofs.Common.{sym, subst, arith, length-append}
use lib.Seq.{take-append-le}
use Rattle.std.specs.declared.option.Option.{Option}
use Rattle.std.specs.Io.KnownBytes.{Consumes}
use Rattle.std.proofs.KnownBytes.{Consumes-trans}
use Rattle.vectors.specs.Fetching.{Broken}

pub on_err : {T E P : Type 0} (r : Result T E) → P → OnErr r P
on_err (Ok x) p = tt
on_err (Err e) p = p

-- the lengths were read, and then the read into a part of the window failed behind some of its bytes
pub broken_part : (old mid new : Option (List ℕ)) (w head part rest : List ℕ) → length head ≡ 12 → Consumes old mid head → (n : ℕ) × (n < length part) × Consumes mid new (take n part) → Broken old new w (part ++ rest)
broken_part old mid new w head part rest whole first h =
    record {
      head = head;
      count = h.0;
      came = subst (λ (x : List ℕ). Consumes old new (head ++ x)) (sym (take-append-le h.0 part rest (omega (arith, h.1)))) (Consumes-trans old mid new head (take h.0 part) first h.2);
      lengths = omega (arith, whole);
      room = omega (arith, h.1, length-append part rest);
      untouched = λ (l : length head < 12). absurd (omega (arith, whole, l));
    }
