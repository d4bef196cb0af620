-- Answers to the goals of `orient_one` in src/orientations.rt.
use Rattle.std.specs.Prelude.{slice_index_or}
use Rattle.tin_base.specs.declared.corners.Corner.{Corner}
use Rattle.tin_base.specs.Triangulation.{no_corner}
use Rattle.tin_file.proofs.FileRows.NearCorners.{near_points}
use Rattle.tin_file.proofs.orientations.orient_one.Goals as goal

pub turn-requires : goal.turn-requires
turn-requires c =
    let a : Corner = slice_index_or c.args.corners.now c.args.first no_corner in
    let b : Corner = slice_index_or c.args.corners.now c.args.second no_corner in
    let d : Corner = slice_index_or c.args.corners.now c.args.third no_corner in
    let near = c.requires.near in
    let first = c.requires.first in let second = c.requires.second in let third = c.requires.third in
    record {
      near = (
        near_points c.at-a.result c.at-b.result a b c.at-a.ensures c.at-b.ensures
            (near c.args.first c.args.second first second) (near c.args.second c.args.first second first),
        near_points c.at-a.result c.at-c.result a d c.at-a.ensures c.at-c.ensures
            (near c.args.first c.args.third first third) (near c.args.third c.args.first third first),
        near_points c.at-b.result c.at-c.result b d c.at-b.ensures c.at-c.ensures
            (near c.args.second c.args.third second third) (near c.args.third c.args.second third second),
      );
    }
