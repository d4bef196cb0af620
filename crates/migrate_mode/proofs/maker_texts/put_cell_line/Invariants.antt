-- The invariants of `put_cell_line` in src/maker_texts.rt.
use Rattle.migrate_mode.specs.declared.maker_texts.TheConstants.{TRIANGLE_MOST}
use Rattle.std.proofs.Common.{◌≤◌, ◌*◌, ◌+◌, vec_len, ◌≡◌, ◌++◌}
use Rattle.std.specs.List.{flat_map}
use Rattle.migrate_mode.specs.MakerTexts.{below, cell_rows, ended_rows}
use Rattle.migrate_mode.proofs.maker_texts.put_cell_line.Given as goal

abbrev pub invariant-loop-i : goal.invariant-loop-i
invariant-loop-i l = record {
  text : l.out.items ≡ l.initial.out.items ++ ended_rows (flat_map (λ i. cell_rows l.n i l.j) (below l.i));
  short : vec_len l.out ≤ vec_len l.initial.out + TRIANGLE_MOST * 2 * l.i;
}
