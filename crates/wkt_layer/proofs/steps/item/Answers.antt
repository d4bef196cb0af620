-- Answers to the goals of `item` in src/steps.rt.
use Rattle.std.proofs.Common.{◌≡◌, Some, refl, subst, sym, ◌∙◌}
use Rattle.wkt_layer.specs.InsideStates.{state, tagged, item_step}
use Rattle.wkt_layer.specs.InsidePasses.{Goes, token_for}
use Rattle.wkt_layer.proofs.CodeReads.CodeSteps.{opened_tag}
use Rattle.wkt_layer.proofs.steps.item.Goals as goal

pub returns-in-Rings-clause-goes : goal.returns-in-Rings-clause-goes
returns-in-Rings-clause-goes c = λ before paths held.
    let t = token_for c.args.token.start c.args.text.now c.args.token.sign in
    subst (λ group. Goes (item_step c.args.exact group c.args.pass.now.stack paths t) t c.args.token.start before
    c.args.pass.now c.enter.result c.enter.new.pass)
    (sym c.in-Rings.is ∙ c.innermost.ensures) (c.enter.ensures.goes before paths c.args.text.now held)

pub returns-in-Lists-clause-goes : goal.returns-in-Lists-clause-goes
returns-in-Lists-clause-goes c = λ before paths held.
    let t = token_for c.args.token.start c.args.text.now c.args.token.sign in
    subst (λ group. Goes (item_step c.args.exact group c.args.pass.now.stack paths t) t c.args.token.start before
    c.args.pass.now c.enter-in-Lists.result c.enter-in-Lists.new.pass)
    (sym c.in-Lists.is ∙ c.innermost.ensures) (c.enter-in-Lists.ensures.goes before paths c.args.text.now held)

pub returns-in-Polygons-clause-goes : goal.returns-in-Polygons-clause-goes
returns-in-Polygons-clause-goes c = λ before paths held.
    let t = token_for c.args.token.start c.args.text.now c.args.token.sign in
    subst (λ group. Goes (item_step c.args.exact group c.args.pass.now.stack paths t) t c.args.token.start before
    c.args.pass.now c.enter-in-Polygons.result c.enter-in-Polygons.new.pass)
    (sym c.in-Polygons.is ∙ c.innermost.ensures) (c.enter-in-Polygons.ensures.goes before paths c.args.text.now held)

pub returns-in-Some-clause-goes : goal.returns-in-Some-clause-goes
returns-in-Some-clause-goes c = λ before paths held.
    let t = token_for c.args.token.start c.args.text.now c.args.token.sign in
    let to = state (tagged c.in-Some.kind) c.args.pass.now.stack paths in
    let steps = c.in-Some.ensures paths c.args.token.start c.args.text.now in (
      to,
      subst (λ group. item_step c.args.exact group c.args.pass.now.stack paths t ≡ Some to)
          (sym c.in-Geometries.is ∙ c.innermost.ensures) steps,
      record { stack = refl; held = held; shows = refl },
      opened_tag c.args.pass.now.stack paths t to c.args.token.start c.args.pass.now.opened steps,
    )
