-- Answers to the goals of `most_bytes` in src/lengths.rt.
use Rattle.std.proofs.Common.{arith}
use Rattle.change_places.specs.Words.{texts_of, change_words}
use Rattle.change_places.proofs.FeatureLengths.{entry_length}
use Rattle.change_places.proofs.lengths.most_bytes.Goals as goal

pub returns-clause-most : goal.returns-clause-most
returns-clause-most c style names number small =
    let texts = c.args.texts.now in
    let change = c.args.change in
    omega (
      arith,
      entry_length style names number (change_words texts change) small c.change_fits.ensures,
      c.path_length.ensures.most (texts_of texts change.first.from.layer),
      c.path_length-2.ensures.most (texts_of texts change.second.from.layer),
    )
