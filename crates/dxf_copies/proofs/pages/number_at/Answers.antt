-- Answers to the goals of `number_at` in src/pages.rt.
use Rattle.std.proofs.Common.{◌≡◌, arith, true, false, get_or}
use Rattle.std.specs.Prelude.{nat_lt}
use Rattle.std.proofs.lemmas.List.Sums.{prefix_len-le-length}
use Rattle.std.proofs.lemmas.Bool.Decides.{nat_tests}
use Rattle.dxf_copies.specs.Rendering.{starts_before}
use Rattle.dxf_entities.proofs.Fronts.{passed, stopped}
use Rattle.dxf_entities.proofs.NoPairs.{no_pair}
use Rattle.dxf_copies.proofs.pages.number_at.Goals as goal

pub returns-after-loop-number : goal.returns-after-loop-number
returns-after-loop-number c =
    omega (arith, c.loop-number.invariant, prefix_len-le-length (starts_before c.args.place) c.args.page.now.pairs.now)

pub loop-number-preserved : goal.loop-number-preserved
loop-number-preserved c =
    let pairs = c.args.page.now.pairs.now in
    let here : nat_lt (get_or pairs c.loop-number.number no_pair).start c.args.place ≡ true =
    grind (arith, nat_tests, c.if-page-number.true) in
    passed (starts_before c.args.place) pairs c.loop-number.number no_pair c.loop-number.invariant
    c.loop-number-test.true here

pub returns-else-page-number : goal.returns-else-page-number
returns-else-page-number c =
    let pairs = c.args.page.now.pairs.now in
    let here : nat_lt (get_or pairs c.loop-number.number no_pair).start c.args.place ≡ false =
    grind (arith, nat_tests, c.if-page-number.false) in
    stopped (starts_before c.args.place) pairs c.loop-number.number no_pair c.loop-number.invariant
    c.loop-number-test.true here
