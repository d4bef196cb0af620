-- Answers to the goals of `make_layer` in src/maker_texts.rt.
use Rattle.std.proofs.Common.{arith, []}
use Rattle.migrate_mode.specs.MakerTexts.{layer_line}
use Rattle.migrate_mode.proofs.MakerRows.{one_more_text}
use Rattle.migrate_mode.proofs.maker_texts.make_layer.Goals as goal

pub loop-k-preserved : goal.loop-k-preserved
loop-k-preserved c =
    let here = c.loop-k.invariant in
    let put = c.in_ok-put_line.ensures in
    record {
      text = one_more_text (λ k. layer_line c.args.n k) [] _ _ _ here.text put.text;
      short =
          omega (arith, here.short, put.short);
    }
