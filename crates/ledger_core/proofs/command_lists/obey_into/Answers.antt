-- Answers to the goals of `obey_into` in src/command_lists.rt.
use Rattle.std.proofs.Common.{rules, ◌≡◌, ◌<◌, ◌+◌, ◌++◌, ◌∷◌, [], sym, arith, IsOk, vec_len, length}
use Rattle.ledger_core.proofs.HistoryLists.{obeyed-more}
use Rattle.ledger_core.proofs.command_lists.obey_into.Goals as goal

pub loop-command-preserved : goal.loop-command-preserved
loop-command-preserved g c =
    let so-far = c.loop-command.invariant in
    let within : c.loop-command.command-index < length c.args.commands.now = c.loop-command-test.true in
    let ok : IsOk c.push.result = c.push.ensures.succeeds (omega (arith, so-far.1.room, within)) in
    let items : c.push.new.self.items ≡ c.loop-command.replies.items ++ c.in-Ok.reply ∷ [] = search (rules, ok) in
    let size : vec_len c.push.new.self ≡ vec_len c.loop-command.replies + 1 = search (rules, ok) in (
      record {
        obeyed = λ history stands. obeyed-more history c.args.commands.now c.loop-command.command-index
            c.command-item.result (g.K.Keeper.kept c.loop-command.keeper) (g.K.Keeper.kept c.obey.new.keeper)
            c.args.replies.now.items c.loop-command.replies.items c.push.new.self.items c.in-Ok.reply within
            (sym c.command-item.is) (so-far.0.obeyed history stands) c.in-Ok.ensures.obeyed items;
      },
      record {
        faults = search rules;
        counted = omega (arith, so-far.1.counted);
        room = omega (arith, so-far.1.room, size, c.push.ensures.capacity);
      },
    )
