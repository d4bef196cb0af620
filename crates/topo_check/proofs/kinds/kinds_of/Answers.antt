-- Answers to the goals of `kinds_of` in src/kinds.rt.
use Rattle.std.proofs.Common.{◌≡◌, ◌<◌, ◌≤◌, ℕ, List, length, subst, ◌∙◌, arith}
use Rattle.topo_check.specs.Changes.{piece_at}
use Rattle.topo_check.specs.InsideKinds.{IsSteadyCopy, at}
use Rattle.topo_check.proofs.OfKinds.{one_more}
use Rattle.topo_check.proofs.kinds.kinds_of.Goals as goal

pub loop-number-preserved : goal.loop-number-preserved
loop-number-preserved c =
    let tin = c.args.tin.now in let pieces = c.args.pieces.now in let number = c.loop-number.number in let kind =
    c.kind_among-kind.result in
    let firsts : List ℕ = c.loop-number.firsts.items in let is : c.deref-in-loop-number.result.now ≡ firsts =
    c.deref-in-loop-number.ensures.value in (
      omega (arith, c.loop-number-test.true, c.requires.count),
      c.in_ok-begin_if_new.ensures.table ∙ c.loop-number.invariant.1,
      one_more tin pieces number kind firsts c.begin_if_new.new.firsts.items c.loop-number.kinds.items
          c.push.new.self.items c.loop-number.invariant.2
          (subst (λ (fs : List ℕ). kind ≤ length fs) is c.kind_among-kind.ensures.within)
          (subst (λ (fs : List ℕ). kind < length fs
          → IsSteadyCopy tin (piece_at pieces number) (piece_at pieces (at fs kind))) is
          c.kind_among-kind.ensures.copy) c.in_ok-begin_if_new.ensures.there c.in_ok-begin_if_new.ensures.new
          c.in_ok-push.ensures.items,
    )
