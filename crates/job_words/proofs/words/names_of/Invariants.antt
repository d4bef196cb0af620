-- The invariant of the loop of `names_of` in src/words.rt.
use Rattle.std.proofs.Common.{◌≡◌, take, map}
use Rattle.job_words.proofs.words.names_of.Given as goal

abbrev pub invariant-loop-text : goal.invariant-loop-text
invariant-loop-text l = l.names.items ≡ map (λ text. text.now) (take l.text-index l.texts)
