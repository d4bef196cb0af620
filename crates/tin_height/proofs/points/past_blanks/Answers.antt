-- Answers to the goals of `past_blanks` in src/points.rt.
use Rattle.std.proofs.Common.{◌≤◌, ◌-◌, take, drop, length, arith, length-drop}
use Rattle.std.proofs.lemmas.List.{length-take}
use Rattle.std.proofs.lemmas.List.Sums.{prefix_len-le-length}
use Rattle.text_places.specs.Blanks.{is_blank_byte}
use Rattle.tin_height.proofs.points.past_blanks.Goals as goal

pub overflow_add-result : goal.overflow_add-result
overflow_add-result c =
    let bytes = c.args.bytes.now in let rest = drop c.args.from bytes in
    let many = length bytes - c.args.from in
    let few : c.blanks.result ≤ length (take many rest) =
    rw c.blanks.ensures (prefix_len-le-length is_blank_byte (take many rest)) in
    omega (arith, few, length-take many rest, length-drop c.args.from bytes, c.requires, c.type_inv.bytes)

pub returns-clause-within : goal.returns-clause-within
returns-clause-within c =
    let bytes = c.args.bytes.now in let rest = drop c.args.from bytes in
    let many = length bytes - c.args.from in
    let few : c.blanks.result ≤ length (take many rest) =
    rw c.blanks.ensures (prefix_len-le-length is_blank_byte (take many rest)) in
    omega (arith, few, length-take many rest, length-drop c.args.from bytes, c.requires)
