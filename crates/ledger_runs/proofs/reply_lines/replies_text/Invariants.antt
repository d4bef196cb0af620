-- The invariant of the loop of `replies_text` in src/reply_lines.rt.
use Rattle.std.proofs.Common.{◌≡◌, take}
use Rattle.ledger_runs.specs.ReplyText.{replies_text}
use Rattle.ledger_runs.proofs.reply_lines.replies_text.Given as goal

abbrev pub invariant-loop-reply : goal.invariant-loop-reply
invariant-loop-reply l = l.out.items ≡ replies_text (take l.reply-index l.replies)
