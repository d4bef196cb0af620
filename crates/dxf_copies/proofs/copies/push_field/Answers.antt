-- Answers to the goals of `push_field` in src/copies.rt.
use Rattle.std.proofs.Common.{◌∙◌, ◌++◌, ap, sym, FitsSigned, w32, rules}
use Rattle.std.proofs.lemmas.Int.{to_z-of_z}
use Rattle.dxf_copies.specs.Rendering.{value_for}
use Rattle.dxf_copies.proofs.CopyLists.{field_pushed}
use Rattle.dxf_copies.proofs.copies.push_field.Goals as goal

pub returns-in_ok-push_value-in-Some : goal.returns-in_ok-push_value-in-Some
returns-in_ok-push_value-in-Some c =
    let code : FitsSigned w32 c.args.pair.now.code = search rules in
    field_pushed c.args.bytes.now c.args.from c.args.pair.now (value_for c.args.copied.now c.args.pair.now.code)
    c.in-Some.value c.args.out.now.items c.extend_from_slice.new.self.items c.push_value.new.out.items
    (simp to_z-of_z at (sym c.in-Some.ensures))
    (c.in_ok-extend_from_slice-in-Some.ensures.items ∙ ap (λ part. c.args.out.now.items ++ part) c.between.ensures)
    c.in_ok-push_value-in-Some.ensures
