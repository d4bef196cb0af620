-- Answers to the goals of `check_turns` in src/checks.rt.
use Rattle.std.proofs.Common.{◌≡◌, pos, ◌<ℤ◌, arith}
use Rattle.std.proofs.lemmas.Int.{ints}
use Rattle.tin_base.specs.Soundness.{turn_in}
use Rattle.tin_base.specs.declared.frames.Frame.TheVariants.{Source, Target}
use Rattle.tin_check.proofs.CallerLemmas.FirstFault.{flat_source, one_more_positive}
use Rattle.tin_check.proofs.checks.check_turns.Goals as goal

pub returns-then-source-eq0-clause-first : goal.returns-then-source-eq0-clause-first
returns-then-source-eq0-clause-first c =
    let tin = c.args.tin.now in let t = c.args.triangle in
    let zero : turn_in tin Source t ≡ pos 0 = omega (arith, ints) in
    flat_source tin t c.requires.in_range c.requires.before zero

pub returns-clause-on : goal.returns-clause-on
returns-clause-on c =
    let tin = c.args.tin.now in let t = c.args.triangle in
    let source : pos 0 <ℤ turn_in tin Source t = omega (arith, ints) in
    let target : pos 0 <ℤ turn_in tin Target t = omega (arith, ints) in
    one_more_positive tin t c.requires.before source target
