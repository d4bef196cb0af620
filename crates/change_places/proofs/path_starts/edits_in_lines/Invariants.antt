-- The invariant of the loop of `edits_in_lines` in src/path_starts.rt.
use Rattle.std.proofs.Common.{◌≡◌, ◌≤◌, length, map, take, drop}
use Rattle.sheet_base.specs.Splices.{AreInOrder}
use Rattle.change_places.specs.PathPlaces.{line_of, edit_in_lines}
use Rattle.change_places.proofs.path_starts.edits_in_lines.Given as goal

abbrev pub invariant-loop-edit : goal.invariant-loop-edit
invariant-loop-edit l =
    record {
      within : l.at ≤ length l.bytes;
      line : l.line ≡ line_of l.bytes l.at;
      order : AreInOrder l.at (drop l.edit-index l.edits) (length l.bytes);
      printed : l.printed.items ≡ map (edit_in_lines l.bytes) (take l.edit-index l.edits);
    }
