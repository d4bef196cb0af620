-- Answers to the goals of `most_ring_bytes` in src/lengths.rt.
use Rattle.std.proofs.Common.{arith}
use Rattle.change_places.specs.Words.{texts_of, ring_layer, point_layer, ring_words}
use Rattle.change_places.proofs.FeatureLengths.{ring_entry_length}
use Rattle.change_places.proofs.lengths.most_ring_bytes.Goals as goal

pub returns-clause-most : goal.returns-clause-most
returns-clause-most c style names changes number small =
    let texts = c.args.texts.now in
    let ring = c.args.ring in
    omega (
      arith,
      ring_entry_length style names changes number (ring_words texts ring) small c.ring_fits.ensures,
      c.path_length.ensures.most (texts_of texts (ring_layer ring.change)),
      c.path_length-2.ensures.most (texts_of texts (point_layer ring.change)),
    )
