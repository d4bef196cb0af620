-- Answers to the goals of `even_levels` in src/level_lists.rt.
use Rattle.std.proofs.Common.{◌≡◌, ◌<◌, ◌+◌, List, length, sym, subst, ap, ◌∙◌, arith}
use Rattle.std.proofs.lemmas.List.{length_push}
use Rattle.cell_grid.specs.LevelLists.{AreLaid}
use Rattle.cell_grid.specs.declared.levels.Level.{Level}
use Rattle.cell_grid.proofs.LevelEntries.{laid_more, all_push, before_more}
use Rattle.cell_grid.proofs.level_lists.even_levels.Goals as goal

pub loop-number-preserved : goal.loop-number-preserved
loop-number-preserved c =
    let inv = c.loop-number.invariant in
    let now = c.in_ok-push.ensures.items in
    let old = c.loop-number.levels.items in
    let level = c.new-level.result in
    let made = c.new-level.ensures in
    record {
      count = ap length now ∙ (length_push old level ∙ ap (λ n. n + 1) inv.count);
      laid = subst (λ (l : List Level). AreLaid l) (sym now)
          (laid_more old level c.loop-number.number c.loop-number.base inv.laid inv.count
          (omega (arith, c.loop-number-test.true, c.requires)) inv.before made.base made.number);
      low = all_push (λ v. v.low ≡ c.args.low) old c.push.new.self.items level now inv.low made.low;
      before = all_push (λ v. v.base + v.mask < level.base + level.mask + 1) old c.push.new.self.items level now
          (before_more old c.loop-number.base (level.base + level.mask + 1) (omega (arith, made.base)) inv.before)
          (omega arith);
      base = made.few;
    }
