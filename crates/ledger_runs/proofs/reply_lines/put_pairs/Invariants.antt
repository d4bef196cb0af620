-- The invariant of the loop of `put_pairs` in src/reply_lines.rt.
use Rattle.std.proofs.Common.{◌≡◌, ◌++◌, take}
use Rattle.std.specs.List.{flat_map}
use Rattle.ledger_runs.specs.ReplyText.{open_line}
use Rattle.ledger_runs.proofs.reply_lines.put_pairs.Given as goal

abbrev pub invariant-loop-row : goal.invariant-loop-row
invariant-loop-row l = l.out.items ≡ l.initial.out.items ++ flat_map open_line (take l.row-index l.rows)
