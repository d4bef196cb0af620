-- Answers to the goals of `put_layers` in src/report_texts.rt.
use Rattle.report_text.specs.Reports.{IsLayerHeld}
use Rattle.report_text.proofs.LongerTexts.{one_more_layer, one_more_held}
use Rattle.report_text.proofs.report_texts.put_layers.Goals as goal

pub loop-number-preserved : goal.loop-number-preserved
loop-number-preserved c = (
  one_more_layer c.args.out.now.items c.args.rows.now c.loop-number-test.true c.index-rows-number.is
      c.loop-number.invariant.0 c.in_ok-put_layer.ensures.text c.in_ok-put.ensures c.in_ok-put_extents.ensures,
  one_more_held IsLayerHeld c.args.rows.now c.loop-number-test.true c.index-rows-number.is c.loop-number.invariant.1
      c.in_ok-put_layer.ensures.held,
)
