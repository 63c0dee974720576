-- Which headers and bodies fit, told from the tests that the code makes.
use Prim.Native.Nat.{◌^◌, ◌<◌}
use mathlib.Core.Path.{◌≡◌, refl, sym}
use mathlib.Core.Bool.{Bool, true, false, ◌&&◌}
use mathlib.Core.List.{List, [], ◌∷◌, ◌++◌}
use lib.Dec.{ltb}
use borrow.Author.Tests.{ltb-true}
use Rattle.wire.specs.declared.Header.{Header}
use Rattle.wire.specs.declared.Body.{Body}
use Rattle.octets.specs.Bytes.{Entry, roomy}
use Rattle.wire.specs.Layout.{row, type_of, body, header_entries, body_entries, message_entries, timestamp_of}
use Rattle.writing.specs.Writing.{together, fits_of, is_time}
use Rattle.time.specs.Units.{time_of_wire}

and_assoc : (a b c : Bool) → (a && b) && c ≡ a && (b && c)
and_assoc true b c = refl
and_assoc false b c = refl

roomy_append : (a b : List Entry) → roomy (a ++ b) ≡ roomy a && roomy b
unfolding roomy
roomy_append [] b = refl
roomy_append (e ∷ a) b = simp (roomy_append a b) (sym (and_assoc (ltb e.value (256 ^ e.place.width)) (roomy a) (roomy b)))

-- where two tests hold, so does what follows from both
where_both : (p q r s t : Bool) → (p ≡ true → q ≡ true → r ≡ true) → (p && q) && (s && t) ≡ (p && q) && (r && s) && t
where_both true true r s t e = simp (e refl refl)
where_both true false r s t e = refl
where_both false q r s t e = refl

-- a header that goes with its body, and whose halves have room, leaves the body to be tested
pub fits_by_tests : (h : Header) (b : Body) → together h b ≡ true → (h.major_sdo < 16 → h.minor < 16 → roomy (header_entries h (row (type_of b)).control) ≡ true) → (ltb h.major_sdo 16 && ltb h.minor 16) && (roomy (body_entries body b) && is_time (time_of_wire (timestamp_of b))) ≡ fits_of h b
unfolding fits_of message_entries
fits_by_tests h b t e =
    simp (t, roomy_append (header_entries h (row (type_of b)).control) (body_entries body b))
    (where_both (ltb h.major_sdo 16) (ltb h.minor 16) (roomy (header_entries h (row (type_of b)).control)) (roomy (body_entries body b)) (is_time (time_of_wire (timestamp_of b)))
    (λ p q. e (ltb-true h.major_sdo 16 p) (ltb-true h.minor 16 q)))
