-- Answers to the goals of `word_end` in src/word.rt.
use Rattle.std.proofs.Common.{◌+◌, arith, drop, get_or}
use Rattle.jtext.specs.InsideTokens.{word_step}
use Rattle.jtext.proofs.CodeReads.Pieces.{passes_more}
use Rattle.jtext.proofs.CodeReads.Tokens.{word_goes, word_stops, word_open}
use Rattle.jtext.proofs.word.word_end.Goals as goal

pub returns-then-at-bytes : goal.returns-then-at-bytes
returns-then-at-bytes c = (
  omega arith,
  omega arith,
  drop c.loop-letter.letter-index c.args.word.now,
  c.loop-letter.invariant.passes,
  word_open c.args.word.now c.loop-letter.letter-index c.loop-letter-test.true,
  λ within. absurd (omega arith),
)

pub returns-then-bytes-at : goal.returns-then-bytes-at
returns-then-bytes-at c = (
  omega arith,
  omega arith,
  drop c.loop-letter.letter-index c.args.word.now,
  c.loop-letter.invariant.passes,
  word_open c.args.word.now c.loop-letter.letter-index c.loop-letter-test.true,
  λ within. word_stops c.args.word.now c.loop-letter.letter-index (get_or c.args.bytes.now c.loop-letter.at 0)
      c.loop-letter-test.true c.if-bytes-at.true,
)

pub loop-letter-preserved : goal.loop-letter-preserved
loop-letter-preserved c = record {
  place = omega arith;
  within = omega arith;
  passes = passes_more word_step c.args.word.now c.args.bytes.now c.args.from c.loop-letter.at
      (drop c.loop-letter.letter-index c.args.word.now)
      (drop (c.loop-letter.letter-index + 1) c.args.word.now) (omega arith) (omega arith) c.loop-letter.invariant.passes
      (word_goes c.args.word.now c.loop-letter.letter-index (get_or c.args.bytes.now c.loop-letter.at 0) (omega arith)
      c.if-bytes-at.false);
}
