-- Answers to the goals of `collect` in src/changed_pairs.rt.
use Rattle.std.proofs.Common.{ℕ, ◌≤◌, List, length, Contains, subst, arith}
use Rattle.topo_check.specs.InsidePairs.{DoesCollect, IsPairWith}
use Rattle.topo_check.proofs.Passes.{not_own, before_more, before_all}
use Rattle.topo_check.proofs.changed_pairs.collect.Goals as goal
use Rattle.topo_check.proofs.changed_pairs.collect.Goals.{then-loop-number-test+else-len-most, else-loop-number-test}

pub collect_with-requires-clause-within : goal.collect_with-requires-clause-within
collect_with-requires-clause-within c = λ other h.
    let partner = (c.in_ok-partners.ensures.exact other).0
    (subst (λ (ps : List ℕ). Contains ps other) c.deref.ensures.value h) in
    let within = partner.0.0 in omega (arith, within, c.requires.grid)

pub collect_with-requires-clause-different : goal.collect_with-requires-clause-different
collect_with-requires-clause-different c = λ other h e.
    not_own c.args.grid.now other c.loop-number.number e
    ((c.in_ok-partners.ensures.exact other).0 (subst (λ (ps : List ℕ). Contains ps other) c.deref.ensures.value h))

pub loop-number-preserved : goal.loop-number-preserved
loop-number-preserved c =
    before_more c.args.tin.now c.args.pieces.now c.args.most c.args.frame c.args.grid.now c.loop-number.number
    c.partners.new.found.items c.args.pairs.now.items c.loop-number.pairs.items c.collect_with.new.pairs.items
    c.each_pair_is_told_once.ensures c.in_ok-partners.ensures c.loop-number.invariant
    (subst (λ (ps : List ℕ). DoesCollect c.args.tin.now c.args.pieces.now c.args.most
    (IsPairWith c.args.frame c.args.pieces.now c.loop-number.number (Contains ps)) c.loop-number.pairs.items
    c.collect_with.new.pairs.items)
    c.deref.ensures.value c.in_ok-collect_with.ensures)

pub returns : goal.returns
returns c =
    let past : length c.loop-number.pairs.items ≤ c.args.most
    → length c.args.pieces.now ≤ c.loop-number.number =
    λ few. elim c.loop-number-test.branch [
      | then-loop-number-test+else-len-most w ↦
          absurd (omega (arith, few, w.len.ensures, w.if-len-most.false, c.loop-number.pairs.ok.0))
      | else-loop-number-test w ↦ omega (arith, w.loop-number-test.false)
    ] in
    before_all c.args.tin.now c.args.pieces.now c.args.most c.args.frame c.args.grid.now c.loop-number.number
    c.args.pairs.now.items c.loop-number.pairs.items c.each_pair_is_told_once.ensures c.requires.grid past
    c.loop-number.invariant
