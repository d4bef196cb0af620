-- The invariant of the loop of `check_words` in src/words.rt.
use Rattle.std.proofs.Common.{◌≡◌, map, take, string_bytes}
use Rattle.fault_runs.specs.Words.{check_words}
use Rattle.fault_runs.proofs.words.check_words.Given as goal

-- the words so far
abbrev pub invariant-loop-word : goal.invariant-loop-word
invariant-loop-word l = map string_bytes l.all.items ≡ check_words (map string_bytes (take l.word-index l.words))
