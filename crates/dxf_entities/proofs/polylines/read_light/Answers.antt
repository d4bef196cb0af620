-- Answers to the goals of `read_light` in src/polylines.rt.
use Rattle.std.proofs.Common.{◌≡◌, sym, subst, arith, ◌+◌, ◌-◌, ◌≤◌, length, pos, ◌^◌, Ok, Err}
use Rattle.std.specs.Prelude.{int_lt}
use Rattle.std.proofs.lemmas.Grind.{common_steps}
use Rattle.dxf_pairs.specs.declared.pairs.Pair.{Pair}
use Rattle.dxf_entities.specs.EntityViews.{entity_view}
use Rattle.dxf_entities.specs.Polylines.{vertices_in, count_of, light_shapes}
use Rattle.dxf_entities.specs.DrawingContents.{contents_of, HoldsAtMost, AddsVertices}
use Rattle.dxf_entities.proofs.ReadSizes.{holds_more, edited_holds, taken_short}
use Rattle.dxf_entities.proofs.Light.{light_added, finished_by, light_miscounted, no_fewer}
use Rattle.dxf_entities.proofs.HandedFaults.{handed_on}
use Rattle.dxf_entities.proofs.polylines.read_light.Goals as goal

pub point-past-requires : goal.point-past-requires
point-past-requires c =
    let short : length c.fields_of.result.now ≤ length c.args.entity.now.pairs.now =
    rw c.fields_of.ensures (taken_short (λ (pair : Pair). int_lt pair.code (pos 1000))
    c.args.entity.now.pairs.now) in
    holds_more (2 ^ 30 + length c.fields_of.result.now) (2 ^ 31) (contents_of c.read_vertices.new.drawing)
    (c.in_ok-read_vertices.ensures.grown (2 ^ 30) c.requires.room) (omega (arith, short, c.requires.few))

pub overflow_sub-past : goal.overflow_sub-past
overflow_sub-past c = omega (
  arith,
  c.point-first.ensures,
  c.point-past.ensures,
  no_fewer (contents_of c.args.drawing.now)
      (contents_of c.read_vertices.new.drawing) (vertices_in c.args.bytes.now c.args.exact c.fields_of.result.now)
      c.in_ok-read_vertices.ensures.reads,
)

pub returns-in_err-count-clause-reads : goal.returns-in_err-count-clause-reads
returns-in_err-count-clause-reads c =
    let fault = c.in_err-count.field-0.0 in
    let read = subst (λ fields. AddsVertices (contents_of c.args.drawing.now)
    (vertices_in c.args.bytes.now c.args.exact fields) (contents_of c.read_vertices.new.drawing)) c.fields_of.ensures
    c.in_ok-read_vertices.ensures.reads in
    let counted : count_of c.args.bytes.now (length (contents_of c.read_vertices.new.drawing).points - length
    (contents_of c.args.drawing.now).points) (entity_view c.args.entity.now) ≡ Err fault =
    rw (← c.point-past.ensures, ← c.point-first.ensures) (sym c.in_err-count.ensures) in
    handed_on (light_shapes c.args.bytes.now c.args.exact (entity_view c.args.entity.now)) (contents_of c.args.drawing.now)
    (contents_of c.read_vertices.new.drawing) fault c.from_residual-in_err-count.result
    c.from_residual-in_err-count.ensures.1
    (λ memory. light_miscounted c.args.bytes.now c.args.exact (entity_view c.args.entity.now) c.in_ok-kind.kind fault
    (contents_of c.args.drawing.now) (contents_of c.read_vertices.new.drawing) (sym c.in_ok-kind.ensures) read counted)

pub add_path_from-requires : goal.add_path_from-requires
add_path_from-requires c =
    let short : length c.fields_of.result.now ≤ length c.args.entity.now.pairs.now =
    rw c.fields_of.ensures (taken_short (λ (pair : Pair). int_lt pair.code (pos 1000))
    c.args.entity.now.pairs.now) in
    let there : HoldsAtMost (2 ^ 31) (contents_of c.read_vertices.new.drawing) =
    holds_more (2 ^ 30 + length c.fields_of.result.now) (2 ^ 31) (contents_of c.read_vertices.new.drawing)
    (c.in_ok-read_vertices.ensures.grown (2 ^ 30) c.requires.room) (omega (arith, short, c.requires.few)) in
    record {
      room = rw c.in_ok-add_edit.ensures (edited_holds (2 ^ 31) (contents_of c.read_vertices.new.drawing) _ there);
    }

pub returns-clause-reads : goal.returns-clause-reads
returns-clause-reads c =
    let read = subst (λ fields. AddsVertices (contents_of c.args.drawing.now)
    (vertices_in c.args.bytes.now c.args.exact fields) (contents_of c.read_vertices.new.drawing)) c.fields_of.ensures
    c.in_ok-read_vertices.ensures.reads in
    let counted : count_of c.args.bytes.now (length (contents_of c.read_vertices.new.drawing).points - length
    (contents_of c.args.drawing.now).points) (entity_view c.args.entity.now) ≡ Ok c.in_ok-count.count =
    rw (← c.point-past.ensures, ← c.point-first.ensures) (sym c.in_ok-count.ensures) in
    light_added c.args.bytes.now c.args.exact (entity_view c.args.entity.now) c.in_ok-kind.kind c.in_ok-count.count
    (contents_of c.args.drawing.now) (contents_of c.read_vertices.new.drawing) (contents_of c.add_path_from.new.drawing)
    (sym c.in_ok-kind.ensures) read counted
    (finished_by c.in_ok-kind.kind c.in_ok-count.count c.point-first.result c.point-past.result
    (length (contents_of c.args.drawing.now).points) c.value_edit.result (contents_of c.read_vertices.new.drawing)
    (contents_of c.add_edit.new.self)
    (contents_of c.add_path_from.new.drawing) c.in_ok-add_path_from.ensures.added c.in_ok-add_edit.ensures
    c.value_edit.ensures
    c.point-first.ensures c.point-past.ensures)

pub returns-clause-grown : goal.returns-clause-grown
returns-clause-grown c =
    let short : length c.fields_of.result.now ≤ length c.args.entity.now.pairs.now =
    rw c.fields_of.ensures (taken_short (λ (pair : Pair). int_lt pair.code (pos 1000))
    c.args.entity.now.pairs.now) in λ count room.
    let there = c.in_ok-read_vertices.ensures.grown count room in
    let edited : HoldsAtMost (count + length c.fields_of.result.now) (contents_of c.add_edit.new.self) =
    rw c.in_ok-add_edit.ensures (edited_holds (count + length c.fields_of.result.now)
    (contents_of c.read_vertices.new.drawing) _ there) in
    holds_more ((count + length c.fields_of.result.now) + 1) (count + (length c.args.entity.now.pairs.now + 1))
    (contents_of c.add_path_from.new.drawing)
    (c.in_ok-add_path_from.ensures.grown (count + length c.fields_of.result.now) edited) (omega (arith, short))

pub read_vertices-requires-clause-few : goal.read_vertices-requires-clause-few
read_vertices-requires-clause-few c = grind (arith, common_steps)
