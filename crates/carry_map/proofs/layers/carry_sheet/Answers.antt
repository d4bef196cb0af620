-- Answers to the goals of `carry_sheet` in src/layers.rt.
use Rattle.std.proofs.Common.{◌∙◌}
use Rattle.carry_map.specs.declared.faults.CarryFault.TheVariants.{Layer, Outside, TooMany}
use Rattle.carry_map.proofs.ErrorExits.{handed_on}
use Rattle.carry_map.proofs.layers.carry_sheet.Goals as goal

pub returns-in-Ok-clause-written : goal.returns-in-Ok-clause-written
returns-in-Ok-clause-written g c =
    let pieces = c.in_ok-images.ensures.pieces in
    record {
      inside = c.in_ok-images.ensures.inside;
      are_images = c.in_ok-images.ensures.images;
      fit = c.in_ok-images.ensures.fits;
      text_is = c.in-Ok.ensures.spliced;
      own = pieces.0;
      are_pieces = pieces.2;
      stand = pieces.1;
    }

pub returns-in-Ok-clause-back : goal.returns-in-Ok-clause-back
returns-in-Ok-clause-back g c = record {
  sheet = c.args.sheet.now;
  read = c.requires.sheet;
  images = c.in_ok-images.images;
  are_images = c.in_ok-images.ensures.images;
  back = λ kept. let written = c.in-Ok.ensures.back kept in
      record {
        sheet = written.back;
        is_read = written.is_read;
        segments = written.segments ∙ c.in_ok-images.ensures.segments;
      };
}

pub returns-in_err-images-clause-no_layer : goal.returns-in_err-images-clause-no_layer
returns-in_err-images-clause-no_layer g c = λ fault is.
    c.in_err-images.ensures.no_layer fault (handed_on c.in_err-images.field-0.0 (Layer fault)
    c.from_residual.result c.from_residual.ensures.1 is)

pub returns-in_err-images-clause-outside : goal.returns-in_err-images-clause-outside
returns-in_err-images-clause-outside g c = λ path segment is.
    c.in_err-images.ensures.outside path segment (handed_on c.in_err-images.field-0.0 (Outside path segment)
    c.from_residual.result c.from_residual.ensures.1 is)

pub returns-in_err-images-clause-too_many : goal.returns-in_err-images-clause-too_many
returns-in_err-images-clause-too_many g c = λ is.
    c.in_err-images.ensures.too_many (handed_on c.in_err-images.field-0.0 TooMany
    c.from_residual.result c.from_residual.ensures.1 is)
