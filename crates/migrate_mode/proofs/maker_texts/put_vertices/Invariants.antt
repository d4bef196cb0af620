-- The invariants of `put_vertices` in src/maker_texts.rt.
use Rattle.migrate_mode.specs.declared.maker_texts.TheConstants.{VERTEX_MOST}
use Rattle.std.proofs.Common.{◌≤◌, ◌*◌, vec_len, ◌≡◌, ◌+◌, ◌++◌, map}
use Rattle.std.specs.List.{flat_map}
use Rattle.migrate_mode.specs.MakerTexts.{below, vertex_row, ended_rows}
use Rattle.migrate_mode.proofs.maker_texts.put_vertices.Given as goal

abbrev pub invariant-loop-j : goal.invariant-loop-j
invariant-loop-j l = record {
  text : l.out.items ≡ l.initial.out.items ++ ended_rows
      (flat_map (λ j. map (λ i. vertex_row i j) (below (l.n + 1))) (below l.j));
  short : vec_len l.out ≤ vec_len l.initial.out + VERTEX_MOST * 513 * l.j;
}
