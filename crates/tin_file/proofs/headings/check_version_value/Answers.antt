-- Answers to the goals of `check_version_value` in src/headings.rt.
use Rattle.std.proofs.Common.{arith}
use Rattle.std.proofs.lemmas.Grind.{common_steps}
use Rattle.tin_file.proofs.headings.check_version_value.Goals as goal

pub returns-then-holds_text : goal.returns-then-holds_text
returns-then-holds_text c is there =
    grind (
      arith,
      common_steps,
      c.tells.ensures is there,
      c.tells-2.ensures is there,
      c.holds_text.ensures c.args.bytes.now is there,
    )

pub returns-else-holds_text : goal.returns-else-holds_text
returns-else-holds_text c is there =
    grind (
      arith,
      common_steps,
      c.tells.ensures is there,
      c.tells-2.ensures is there,
      c.holds_text.ensures c.args.bytes.now is there,
    )
