-- Answers to the goals of `LeadingDigits::with` in src/leading_digits.rt.
use Rattle.std.proofs.Common.{arith}
use Rattle.mm_decimal.proofs.Cuts.{cut_grows, cut_drops}
use Rattle.mm_decimal.proofs.leading_digits.LeadingDigits.with.Goals as goal

pub returns-then-self-lt-ROOM-clause-cut : goal.returns-then-self-lt-ROOM-clause-cut
returns-then-self-lt-ROOM-clause-cut c number h =
    rw c.from-digit.ensures (cut_grows _ _ _ _ _ h (omega arith) c.requires.digit)

pub returns-else-self-lt-ROOM-clause-cut : goal.returns-else-self-lt-ROOM-clause-cut
returns-else-self-lt-ROOM-clause-cut c number h =
    cut_drops _ _ _ _ _ _ h (omega arith) c.requires.digit (rw c.from-digit.ensures at c.is_lost.ensures)
