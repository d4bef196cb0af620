-- Answers to the goals of `open_pairs` in src/answers.rt.
use Rattle.std.proofs.Common.{rules, ◌≡◌, ◌<◌, ◌++◌, ◌∷◌, [], ◌∙◌, arith}
use Rattle.ledger_core.specs.declared.limits.TheConstants.{MOST_PAIRS}
use Rattle.ledger_core.proofs.CommandReplies.{found-more, found-all}
use Rattle.ledger_core.proofs.answers.open_pairs.Goals as goal

pub loop-rows-preserved : goal.loop-rows-preserved
loop-rows-preserved g c =
    let so-far = c.loop-rows.invariant in
    let place : c.in-Some.row.place < MOST_PAIRS = search rules in
    let pushed : c.push.new.self.items ≡ c.loop-rows.rows.items ++ c.in-Some.row ∷ [] = search rules in
    record {
      same = c.in_ok-row.ensures.same ∙ so-far.same;
      faults = search rules;
      within = omega (arith, place);
      told = found-more (g.K.Keeper.kept c.args.keeper.now) (g.K.Keeper.kept c.loop-rows.keeper) c.args.run
          c.loop-rows.from c.in-Some.row c.loop-rows.rows.items c.push.new.self.items so-far.same so-far.told
          (search rules) pushed;
    }

pub returns-clause-told : goal.returns-clause-told
returns-clause-told g c =
    found-all (g.K.Keeper.kept c.args.keeper.now) (g.K.Keeper.kept c.loop-rows.keeper) c.args.run c.loop-rows.from
    c.loop-rows.rows.items c.loop-rows.invariant.same c.loop-rows.invariant.told (search rules)
