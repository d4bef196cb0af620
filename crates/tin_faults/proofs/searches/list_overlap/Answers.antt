-- Answers to the goals of `list_overlap` in src/searches.rt.
use Rattle.std.proofs.Common.{arith}
use Rattle.std.proofs.lemmas.Result.{err_from_is_err_and}
use Rattle.tin_base.proofs.TriangleLemmas.TestAnswers.{told, denied}
use Rattle.tin_faults.proofs.Growth.{pair_added, pair_full, pair_fine}
use Rattle.tin_faults.proofs.searches.list_overlap.Goals as goal

pub returns-in_err-add-clause-too_many : goal.returns-in_err-add-clause-too_many
returns-in_err-add-clause-too_many c = grind (arith, err_from_is_err_and, pair_full, told)

pub returns-in_ok-add-clause-after : goal.returns-in_ok-add-clause-after
returns-in_ok-add-clause-after c = pair_added c.args.tin.now c.args.frame c.args.first c.args.second
    c.args.found.now.items c.add.new.found.items c.requires.before (told c.if-do_overlap.ensures)
    c.in_ok-add.ensures.items

pub returns-else-do_overlap-clause-after : goal.returns-else-do_overlap-clause-after
returns-else-do_overlap-clause-after c = pair_fine c.args.tin.now c.args.frame c.args.first c.args.second
    c.args.found.now.items c.requires.before (denied c.if-do_overlap.ensures)
