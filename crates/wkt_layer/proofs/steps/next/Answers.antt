-- Answers to the goals of `next` in src/steps.rt.
use Rattle.std.proofs.Common.{◌++◌, subst}
use Rattle.wkt_layer.specs.InsideStates.{Spot, second, third, bare_second, bare_third, step_at}
use Rattle.wkt_layer.specs.InsidePasses.{Goes, Held, Shows, points_at, token_for}
use Rattle.wkt_layer.proofs.CodeReads.CodeSteps.{at_second, at_third, at_bare_second, at_bare_third}
use Rattle.wkt_layer.proofs.steps.next.Goals as goal

pub returns-in-Second-clause-goes : goal.returns-in-Second-clause-goes
returns-in-Second-clause-goes c = λ before s stands.
    let t = token_for c.args.token.start c.args.text.now c.args.token.sign in
    at_second c.in-Second.listing c.in-Second.x c.in-Second.start s.spot
    (subst (λ place. Shows place s.spot) c.in-Second.is stands.shows)
    (λ (spot : Spot). Held c.args.pass.now (before ++ s.paths) (points_at spot)
    → Goes (step_at c.args.exact spot s.stack s.paths t) t c.args.token.start before c.args.pass.now c.second.result
    c.second.new.pass)
    (λ points x reads begins held.
    subst (λ stack. Goes (step_at c.args.exact (second c.in-Second.listing points x) stack s.paths t) t
    c.args.token.start before c.args.pass.now c.second.result c.second.new.pass)
    stands.stack (c.second.ensures.goes before s.paths points x held reads begins))
    stands.held

pub returns-in-Third-clause-goes : goal.returns-in-Third-clause-goes
returns-in-Third-clause-goes c = λ before s stands.
    let t = token_for c.args.token.start c.args.text.now c.args.token.sign in
    at_third c.in-Third.listing c.in-Third.x c.in-Third.y c.in-Third.start s.spot
    (subst (λ place. Shows place s.spot) c.in-Third.is stands.shows)
    (λ (spot : Spot). Held c.args.pass.now (before ++ s.paths) (points_at spot)
    → Goes (step_at c.args.exact spot s.stack s.paths t) t c.args.token.start before c.args.pass.now c.third.result
    c.third.new.pass)
    (λ points x y reads also begins held.
    subst (λ stack. Goes (step_at c.args.exact (third c.in-Third.listing points x y) stack s.paths t) t
    c.args.token.start before c.args.pass.now c.third.result c.third.new.pass)
    stands.stack (c.third.ensures.goes before s.paths points x y held reads also begins))
    stands.held

pub returns-in-BareSecond-clause-goes : goal.returns-in-BareSecond-clause-goes
returns-in-BareSecond-clause-goes c = λ before s stands.
    let t = token_for c.args.token.start c.args.text.now c.args.token.sign in
    at_bare_second c.in-BareSecond.raised c.in-BareSecond.x c.in-BareSecond.start s.spot
    (subst (λ place. Shows place s.spot) c.in-BareSecond.is stands.shows)
    (λ (spot : Spot). Held c.args.pass.now (before ++ s.paths) (points_at spot)
    → Goes (step_at c.args.exact spot s.stack s.paths t) t c.args.token.start before c.args.pass.now
    c.bare_second.result c.bare_second.new.pass)
    (λ x reads begins held.
    subst (λ stack. Goes (step_at c.args.exact (bare_second c.in-BareSecond.raised x) stack s.paths t) t
    c.args.token.start before c.args.pass.now c.bare_second.result c.bare_second.new.pass)
    stands.stack (c.bare_second.ensures.goes before s.paths x held reads begins))
    stands.held

pub returns-in-BareThird-clause-goes : goal.returns-in-BareThird-clause-goes
returns-in-BareThird-clause-goes c = λ before s stands.
    let t = token_for c.args.token.start c.args.text.now c.args.token.sign in
    at_bare_third c.in-BareThird.x c.in-BareThird.y c.in-BareThird.start s.spot
    (subst (λ place. Shows place s.spot) c.in-BareThird.is stands.shows)
    (λ (spot : Spot). Held c.args.pass.now (before ++ s.paths) (points_at spot)
    → Goes (step_at c.args.exact spot s.stack s.paths t) t c.args.token.start before c.args.pass.now
    c.bare_third.result c.bare_third.new.pass)
    (λ x y reads also begins held.
    subst (λ stack. Goes (step_at c.args.exact (bare_third x y) stack s.paths t) t c.args.token.start before
    c.args.pass.now c.bare_third.result c.bare_third.new.pass)
    stands.stack (c.bare_third.ensures.goes before s.paths x y held reads also begins))
    stands.held
