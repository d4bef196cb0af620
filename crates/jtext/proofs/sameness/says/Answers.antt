-- Answers to the goals of `says` in src/sameness.rt.
use Rattle.std.proofs.Common.{◌≡◌, ◌∙◌, sym, arith, length}
use Rattle.std.proofs.lemmas.Bool.{eqb-true, eq-eqb}
use Rattle.jtext.specs.Characters.{units_of}
use Rattle.jtext.proofs.CodeReads.CharacterSteps.{outside_differs, unit_differs, unit_left, all_said, never_so}
use Rattle.jtext.proofs.sameness.says.Goals as goal

pub returns-in_default : goal.returns-in_default
returns-in_default c chars all is =
    never_so (units_of chars ≡ c.args.text.now)
    (outside_differs c.args.raw.now c.args.text.now c.loop-at.at c.loop-at.count c.loop-at.invariant.left
    c.loop-at.invariant.counted c.loop-at-test.true c.requires c.in_default.ensures.unit chars all is)

pub returns-then-count-text : goal.returns-then-count-text
returns-then-count-text c chars all is =
    never_so (units_of chars ≡ c.args.text.now)
    (unit_differs c.args.raw.now c.args.text.now c.loop-at.at c.loop-at.count c.loop-at.invariant.left
    c.loop-at.invariant.counted c.loop-at-test.true c.in-Some.unit c.in-Some.end c.in-Some.ensures.unit
    (λ below. absurd (omega arith)) chars all is)

pub returns-then-from-unit : goal.returns-then-from-unit
returns-then-from-unit c chars all is =
    never_so (units_of chars ≡ c.args.text.now)
    (unit_differs c.args.raw.now c.args.text.now c.loop-at.at c.loop-at.count c.loop-at.invariant.left
    c.loop-at.invariant.counted c.loop-at-test.true c.in-Some.unit c.in-Some.end c.in-Some.ensures.unit
    (λ below here. c.if-from-unit.true (c.from.ensures ∙ here)) chars all is)

pub loop-at-preserved : goal.loop-at-preserved
loop-at-preserved c = record {
  within = omega (arith, c.in-Some.ensures.further.1);
  counted = omega arith;
  left = unit_left c.args.raw.now c.args.text.now c.loop-at.at c.loop-at.count c.loop-at.invariant.left
      c.loop-at.invariant.counted c.loop-at-test.true c.in-Some.unit c.in-Some.end c.in-Some.ensures.unit
      c.if-count-text.false (sym c.from.ensures ∙ c.if-from-unit.false);
}

pub returns : goal.returns
returns c chars all is =
    let said = all_said c.args.raw.now c.args.text.now c.loop-at.at c.loop-at.count c.loop-at.invariant.left
    c.loop-at.invariant.counted c.loop-at-test.false chars all is in (
      λ answer. said.0 (eqb-true c.loop-at.count (length c.args.text.now) answer),
      λ same. eq-eqb c.loop-at.count
          (length c.args.text.now) (said.1 same),
    )
