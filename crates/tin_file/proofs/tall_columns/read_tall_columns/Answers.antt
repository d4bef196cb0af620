-- Answers to the goals of `read_tall_columns` in src/tall_columns.rt.
use Rattle.std.proofs.Common.{◌∙◌, sym}
use Rattle.std.specs.Prelude.{codes, length}
use Rattle.tin_file.proofs.DocumentValues.There.{as_many}
use Rattle.tin_file.proofs.FileRows.NamedPlaces.{place_so}
use Rattle.tin_file.proofs.VerticalComponent.TallColumnPlaces.{tall_columns_so, tall_columns_inside}
use Rattle.tin_file.proofs.tall_columns.read_tall_columns.Goals as goal

pub returns-clause-columns : goal.returns-clause-columns
returns-clause-columns c all h =
    c.place_tall_columns.ensures
    ∙ tall_columns_so all (length c.args.values.now)
    (as_many c.args.doc.now.nodes c.args.bytes.now c.args.values.now all h) c.args.is_horizontal
    (sym (c.are_texts.ensures all h) ∙ c.if-not-are_texts.false)
    c.find_place-source_x.result (place_so all c.as_slice.result.now (codes "source_x") c.find_place-source_x.result
    (c.find_place-source_x.ensures all h) c.as_slice.ensures)
    c.find_place-source_y.result (place_so all c.as_slice-2.result.now (codes "source_y") c.find_place-source_y.result
    (c.find_place-source_y.ensures all h) c.as_slice-2.ensures)
    c.find_target-target.result (c.find_target-target.ensures all h)
    c.find_offset-offset.result (c.find_offset-offset.ensures all h)

pub returns-clause-inside : goal.returns-clause-inside
returns-clause-inside c =
    let (all, h) = c.requires.nodes in
    rw c.place_tall_columns.ensures (tall_columns_inside all (length c.args.values.now)
    (as_many c.args.doc.now.nodes c.args.bytes.now c.args.values.now all h) c.args.is_horizontal
    c.find_place-source_x.result (place_so all c.as_slice.result.now (codes "source_x") c.find_place-source_x.result
    (c.find_place-source_x.ensures all h) c.as_slice.ensures)
    c.find_place-source_y.result (place_so all c.as_slice-2.result.now (codes "source_y") c.find_place-source_y.result
    (c.find_place-source_y.ensures all h) c.as_slice-2.ensures)
    c.find_target-target.result (c.find_target-target.ensures all h)
    c.find_offset-offset.result (c.find_offset-offset.ensures all h))
