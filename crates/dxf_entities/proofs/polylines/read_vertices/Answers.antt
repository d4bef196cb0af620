-- Answers to the goals of `read_vertices` in src/polylines.rt.
use Rattle.std.proofs.Common.{arith, ◌+◌, ◌-◌, ◌^◌, length, take, drop}
use Rattle.std.proofs.lemmas.Grind.{common_steps}
use Rattle.dxf_entities.specs.DrawingContents.{contents_of}
use Rattle.dxf_entities.proofs.ReadSizes.{holds_more}
use Rattle.dxf_entities.proofs.Vertices.{nothing_read, one_read, none_read, at_some}
use Rattle.dxf_entities.proofs.polylines.read_vertices.Goals as goal

pub loop-at-init : goal.loop-at-init
loop-at-init c = nothing_read c.args.bytes.now c.args.exact c.args.fields.now (contents_of c.args.drawing.now)

pub add_vertex-requires : goal.add_vertex-requires
add_vertex-requires c = holds_more (2 ^ 30 + c.loop-at.at) (2 ^ 31) (contents_of c.loop-at.drawing)
    (c.loop-at.invariant.grown (2 ^ 30) c.requires.room) (omega (arith, c.loop-at.invariant.inside, c.requires.few))

pub loop-at-preserved-in-Some : goal.loop-at-preserved-in-Some
loop-at-preserved-in-Some c =
    one_read c.args.bytes.now c.args.exact c.args.fields.now c.loop-at.at (contents_of c.args.drawing.now)
    (contents_of c.loop-at.drawing) (contents_of c.add_vertex.new.drawing) c.in_ok-vertex.field-0 c.in-Some.vertex
    c.loop-at.invariant c.loop-at-test.true c.in_ok-vertex.ensures.first c.in-Some.is
    (at_some 2 (length (take (length c.args.fields.now - c.loop-at.at) (drop c.loop-at.at c.args.fields.now)))
    c.in_ok-vertex.field-0 c.in-Some.vertex c.in-Some.is c.in_ok-vertex.ensures.two)
    c.in_ok-add_vertex-in-Some.ensures.added c.in_ok-add_vertex-in-Some.ensures.grown

pub loop-at-preserved : goal.loop-at-preserved
loop-at-preserved c =
    none_read c.args.bytes.now c.args.exact c.args.fields.now c.loop-at.at (contents_of c.args.drawing.now)
    (contents_of c.loop-at.drawing) c.loop-at.invariant c.loop-at-test.true
    c.in_ok-vertex.field-0 c.in_ok-vertex.ensures.first c.in-None.is

pub returns-clause-grown : goal.returns-clause-grown
returns-clause-grown c =
    λ count room. holds_more (count + c.loop-at.at) (count + length c.args.fields.now) (contents_of c.loop-at.drawing)
    (c.loop-at.invariant.grown count room) (omega (arith, c.loop-at.invariant.inside))

pub returns-in_err-vertex-clause-reads : goal.returns-in_err-vertex-clause-reads
returns-in_err-vertex-clause-reads c = grind (arith, common_steps)

pub returns-clause-reads : goal.returns-clause-reads
returns-clause-reads c = grind (arith, common_steps)
