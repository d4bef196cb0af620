-- Answers to the goals of `put_vertices` in src/maker_texts.rt.
use Rattle.std.proofs.Common.{arith, ◌+◌, map}
use Rattle.migrate_mode.specs.MakerTexts.{below, vertex_row}
use Rattle.migrate_mode.proofs.MakerRows.{one_more_list}
use Rattle.migrate_mode.proofs.maker_texts.put_vertices.Goals as goal

pub loop-j-preserved : goal.loop-j-preserved
loop-j-preserved c =
    let here = c.loop-j.invariant in
    let put = c.in_ok-put_vertex_line.ensures in
    record {
      text = one_more_list (λ j. map (λ i. vertex_row i j) (below (c.args.n + 1))) c.args.out.now.items _ _ _
          here.text put.text;
      short = omega (arith, here.short, put.short);
    }
