-- The invariants of `put_triangles` in src/maker_texts.rt.
use Rattle.migrate_mode.specs.declared.maker_texts.TheConstants.{TRIANGLE_MOST}
use Rattle.std.proofs.Common.{◌≤◌, ◌*◌, ◌+◌, vec_len, ◌≡◌, ◌++◌}
use Rattle.std.specs.List.{flat_map}
use Rattle.migrate_mode.specs.MakerTexts.{below, cell_rows, ended_rows}
use Rattle.migrate_mode.proofs.maker_texts.put_triangles.Given as goal

abbrev pub invariant-loop-j : goal.invariant-loop-j
invariant-loop-j l = record {
  text : l.out.items ≡ l.initial.out.items ++ ended_rows
      (flat_map (λ j. flat_map (λ i. cell_rows l.n i j) (below l.n)) (below l.j));
  short : vec_len l.out ≤ vec_len l.initial.out + TRIANGLE_MOST * 1024 * l.j;
}
