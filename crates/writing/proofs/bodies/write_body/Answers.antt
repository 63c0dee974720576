use Rattle.std.proofs.Common.{arith, sym, ◌∙◌, refl}
use Rattle.wire.specs.declared.Rest.TheVariants as Q
use Rattle.octets.specs.Bytes.{puts, size_of}
use Rattle.wire.specs.Layout.{body_entries, timestamp_entries, identity_entries}
use Rattle.wire.proofs.LayoutLaws.{rest_room}
use Rattle.writing.proofs.bodies.write_body.Goals as goal

pub put_timestamp-requires : goal.put_timestamp-requires
put_timestamp-requires c = omega (arith, rest_room c.args.b _ refl, c.requires)

pub put-requires : goal.put-requires
unfolding size_of
put-requires c =
    let q = sym c.rest.ensures ∙ c.in-Reserved.is in
    omega (arith, rest_room c.args.b Q.Reserved q)

pub put_identity-requires : goal.put_identity-requires
unfolding size_of identity_entries
put_identity-requires c =
    let q = sym c.rest.ensures ∙ c.in-Requester.is in
    omega (arith, rest_room c.args.b (Q.Requester c.in-Requester.who) q)

pub returns-in-Nothing : goal.returns-in-Nothing
unfolding puts body_entries timestamp_entries
returns-in-Nothing c =
    let q = sym c.rest.ensures ∙ c.in-Nothing.is in
    simp (q, c.put_timestamp.ensures, c.timestamp.ensures)

pub returns-in-Reserved : goal.returns-in-Reserved
unfolding puts body_entries timestamp_entries
returns-in-Reserved c =
    let q = sym c.rest.ensures ∙ c.in-Reserved.is in
    simp (q, c.put.ensures, c.put_timestamp.ensures, c.timestamp.ensures)

pub returns-in-Requester : goal.returns-in-Requester
unfolding puts body_entries timestamp_entries
returns-in-Requester c =
    let q = sym c.rest.ensures ∙ c.in-Requester.is in
    simp (q, c.put_identity.ensures, c.put_timestamp.ensures, c.timestamp.ensures)
