-- The invariants of `make_layer` in src/maker_texts.rt.
use Rattle.std.proofs.Common.{◌≤◌, ◌*◌, vec_len, ◌≡◌}
use Rattle.std.specs.List.{flat_map}
use Rattle.migrate_mode.specs.MakerTexts.{below, layer_line}
use Rattle.migrate_mode.proofs.maker_texts.make_layer.Given as goal

abbrev pub invariant-loop-k : goal.invariant-loop-k
invariant-loop-k l = record {
  text : l.out.items ≡ flat_map (λ k. layer_line l.n k) (below l.k);
  short : vec_len l.out ≤ 128 * l.k;
}
