-- The invariants of `put_vertex_line` in src/maker_texts.rt.
use Rattle.migrate_mode.specs.declared.maker_texts.TheConstants.{VERTEX_MOST}
use Rattle.std.proofs.Common.{◌≤◌, ◌*◌, ◌+◌, vec_len, ◌≡◌, ◌++◌, map}
use Rattle.migrate_mode.specs.MakerTexts.{below, vertex_row, ended_rows}
use Rattle.migrate_mode.proofs.maker_texts.put_vertex_line.Given as goal

abbrev pub invariant-loop-i : goal.invariant-loop-i
invariant-loop-i l = record {
  text : l.out.items ≡ l.initial.out.items ++ ended_rows (map (λ i. vertex_row i l.j) (below l.i));
  short : vec_len l.out ≤ vec_len l.initial.out + VERTEX_MOST * l.i;
}
