-- Answers to the goals of `piece` in src/topo_check_tests.rt.
use Rattle.std.proofs.Common.{◌<◌, List, length, refl, subst, arith}
use Rattle.plane_base.specs.Plane.{Point, IsMix, whole}
use Rattle.tin_base.specs.declared.pieces.Piece.{Piece}
use Rattle.tin_tests.proofs.SegmentTests.{own_piece}
use Rattle.tin_tests.proofs.topo_check_tests.piece.Goals as goal

pub returns-clause-inside : goal.returns-clause-inside
returns-clause-inside c =
    let a = c.args.a in let b = c.args.b in
    let p : Piece = record {
      a = a;
      b = b;
      tri = 0;
      ia = c.args.ia;
      ib = c.args.ib;
      from =
          record { layer = 0; path = c.args.path; segment = 0; piece = 0 };
    } in
    let some : 0 < length c.args.tin.now.triangles = omega (arith, c.requires.one) in
    own_piece c.args.tin.now p some refl
    (subst (λ (ps : List Point). IsMix (whole a) ps) c.tri-tri.ensures.corners
    (c.does_hold.ensures c.if-not-does_hold.false))
    (subst (λ (ps : List Point). IsMix (whole b) ps) c.tri-tri.ensures.corners
    (c.does_hold-2.ensures c.if-not-does_hold-2.false))
