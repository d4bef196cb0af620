-- The invariant of the loop of `put_last_parts` in src/checks.rt.
use Rattle.std.proofs.Common.{map}
use Rattle.job_words.specs.Names.{part_behind_slashes}
use Rattle.job_words.proofs.Again.{Scanned}
use Rattle.job_words.proofs.checks.put_last_parts.Given as goal

abbrev pub invariant-loop-number : goal.invariant-loop-number
invariant-loop-number l = Scanned (map (λ part. part.now) l.parts.keys)
    (map part_behind_slashes (map (λ layer. layer.now) l.layers)) l.number
