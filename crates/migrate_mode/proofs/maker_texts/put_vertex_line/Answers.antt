-- Answers to the goals of `put_vertex_line` in src/maker_texts.rt.
use Rattle.std.proofs.Common.{arith}
use Rattle.migrate_mode.specs.MakerTexts.{vertex_row}
use Rattle.migrate_mode.proofs.MakerRows.{one_more_row}
use Rattle.migrate_mode.proofs.maker_texts.put_vertex_line.Goals as goal

pub loop-i-preserved : goal.loop-i-preserved
loop-i-preserved c =
    let here = c.loop-i.invariant in
    let put = c.in_ok-put_vertex.ensures in
    record {
      text = one_more_row (λ i. vertex_row i c.args.j) c.args.out.now.items _ _ _ here.text put.text;
      short =
          omega (arith, here.short, put.short);
    }
