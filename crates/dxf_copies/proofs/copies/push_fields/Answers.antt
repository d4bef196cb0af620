-- Answers to the goals of `push_fields` in src/copies.rt.
use Rattle.std.proofs.Common.{◌∙◌, ◌++◌, ap, FitsSigned, w64, rules}
use Rattle.std.proofs.lemmas.Int.{to_z-of_z}
use Rattle.mm_decimal.specs.MetresTexts.{mm_text}
use Rattle.dxf_pairs.specs.Lines.{between}
use Rattle.dxf_copies.proofs.CopyLists.{five_parts}
use Rattle.dxf_copies.proofs.copies.push_fields.Goals as goal

pub returns : goal.returns
returns c =
    let bytes = c.args.bytes.now in
    let x = c.args.x.now in
    let y = c.args.y.now in
    let east : FitsSigned w64 c.args.image.x = search rules in
    let north : FitsSigned w64 c.args.image.y = search rules in
    five_parts c.args.out.now.items (between x.start x.value bytes) (mm_text c.args.image.x)
    (between x.value_end y.value bytes) (mm_text c.args.image.y) (between y.value_end y.end bytes)
    c.push_number.new.out.items c.push_number-2.new.out.items c.extend_from_slice.new.self.items
    (simp to_z-of_z at c.in_ok-push_number.ensures) (simp to_z-of_z at c.in_ok-push_number-2.ensures)
    (c.in_ok-extend_from_slice.ensures.items ∙ ap (λ part. c.push_number-2.new.out.items ++ part) c.between.ensures)
