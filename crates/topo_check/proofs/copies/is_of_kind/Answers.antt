-- Answers to the goals of `is_of_kind` in src/copies.rt.
use Rattle.std.proofs.Common.{◌<◌, length, arith}
use Rattle.topo_check.specs.Changes.{no_piece}
use Rattle.topo_check.specs.InsideKinds.{at}
use Rattle.topo_check.proofs.copies.is_of_kind.Goals as goal

pub is_steady_copy-requires-clause-inside : goal.is_steady_copy-requires-clause-inside
is_steady_copy-requires-clause-inside c =
    let first = at c.args.firsts.now c.args.seat.now.kind in let within : first < length c.args.pieces.now =
    c.requires.firsts c.args.seat.now.kind (omega (arith, c.if-seat-firsts.false)) in (c.requires.comparable first
    no_piece within first no_piece within).first

pub is_steady_copy-requires-clause-near : goal.is_steady_copy-requires-clause-near
is_steady_copy-requires-clause-near c =
    let first = at c.args.firsts.now c.args.seat.now.kind in let within : first < length c.args.pieces.now =
    c.requires.firsts c.args.seat.now.kind (omega (arith, c.if-seat-firsts.false)) in (c.requires.comparable first
    no_piece within first no_piece within).near
