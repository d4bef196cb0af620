-- Answers to the goals of `number_length` in src/points.rt.
use Rattle.std.proofs.lemmas.List.Sums.{prefix_len-le-length}
use Rattle.tin_height.specs.Points.{is_numeric}
use Rattle.tin_height.proofs.points.number_length.Goals as goal

pub returns-else-is_ascii_alphabetic-clause-within : goal.returns-else-is_ascii_alphabetic-clause-within
returns-else-is_ascii_alphabetic-clause-within c =
    rw c.numerics.ensures (prefix_len-le-length is_numeric c.args.text.now)
