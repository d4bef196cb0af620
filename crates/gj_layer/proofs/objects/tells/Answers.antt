-- Answers to the goals of `tells` in src/objects.rt.
use Rattle.jtext.specs.Values.{quoted}
use Rattle.jtext.proofs.CallerLemmas.SameTexts.{says_quoted}
use Rattle.gj_layer.proofs.objects.tells.Goals as goal

pub returns : goal.returns
returns c start chars h = says_quoted chars c.args.text.now c.same_text.result
    (c.same_text.ensures start (quoted chars) h)
