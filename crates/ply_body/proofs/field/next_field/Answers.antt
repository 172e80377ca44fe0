use Rattle.std.proofs.Common.{◌≡◌, length, w64, to_z, of_z, Err, arith}
use Rattle.std.proofs.lemmas.Grind.{common_steps}
use Rattle.std.proofs.lemmas.Int.{ints}
use Rattle.std.proofs.lemmas.Result.{err_from_is_err_and}
use Rattle.ply_body.specs.Items.{size_of}
use Rattle.ply_body.specs.declared.item_reader.ItemFault.TheVariants as item_fault
use Rattle.ply_body.proofs.FieldLemmas.{field_taken, field_refused}
use Rattle.ply_body.proofs.field.next_field.Goals as goal

pub returns-in_err-take_bytes-clause-refused : goal.returns-in_err-take_bytes-clause-refused
returns-in_err-take_bytes-clause-refused g c flaw is =
    let p = err_from_is_err_and c.from_residual.result c.from_residual.ensures.1 in
    let same : c.take_bytes.result ≡ Err (item_fault.Flaw flaw) = cc in
    field_refused c.args.format c.args.kind c.args.room.now _ flaw c.requires
    (λ rest here. let facts = c.take_bytes.ensures.refused flaw same rest here in (grind (arith, common_steps), facts.1))

pub returns-clause-taken : goal.returns-clause-taken
returns-clause-taken g c =
    let size : length c.take_bytes.new.bytes ≡ size_of c.args.kind = grind (arith, common_steps) in
    let back : to_z w64 (of_z w64 c.field_value.result) ≡ c.field_value.result = grind (arith, ints) in
    rw (back, c.field_value.ensures) (field_taken c.args.format c.args.kind c.take_bytes.new.bytes c.args.room.now c.take_bytes.new.room _ _ c.requires size
    c.in_ok-take_bytes.ensures.taken (grind (arith, common_steps)))
