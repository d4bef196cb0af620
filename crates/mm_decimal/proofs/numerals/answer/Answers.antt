-- Answers to the goals of `answer` in src/numerals.rt.
use Rattle.std.proofs.Common.{arith, length}
use Rattle.mm_decimal.specs.InsideScans.{value_read}
use Rattle.mm_decimal.proofs.OneAnswer.{value_of_text}
use Rattle.mm_decimal.proofs.numerals.answer.Goals as goal

pub returns-in-Some-millimetres : goal.returns-in-Some-millimetres
returns-in-Some-millimetres c =
    let read = c.in-Ok.ensures.0 in (
      omega arith,
      (
        value_read read.read,
        value_of_text c.args.text.now c.in-Ok.scan read c.in-Ok.ensures.1,
        c.in-Some-millimetres.ensures (length c.args.text.now) read.read read.view,
      ),
    )

pub returns-in-None : goal.returns-in-None
returns-in-None c =
    let read = c.in-Ok.ensures.0 in (
      omega arith,
      (
        value_read read.read,
        value_of_text c.args.text.now c.in-Ok.scan read c.in-Ok.ensures.1,
        c.in-None.ensures (length c.args.text.now) read.read read.view,
      ),
    )
