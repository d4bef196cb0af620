-- The invariants of `read_entities` in src/drawing_texts.rt.
use Rattle.dxf_entities.specs.DrawingContents.{contents_of}
use Rattle.dxf_layer.proofs.EntityWalks.Visits.{IsWalkedTo}
use Rattle.dxf_layer.proofs.drawing_texts.read_entities.Given as goal

abbrev pub invariant-loop-number : goal.invariant-loop-number
invariant-loop-number l = IsWalkedTo l.source.bytes.now l.source.how l.source.seed l.pairs l.section l.place l.number
    (contents_of l.initial.drawing) (contents_of l.drawing)
