-- Answers to the goals of `PointText::push_image`, a call of the trait `ImageText`, in src/texts.rt.
use Rattle.mm_decimal.specs.MetresTexts.{mm_text}
use Rattle.wkt_layer.specs.Texts.{height_text}
use Rattle.wkt_layer.proofs.WrittenLayers.ImageTexts.{image_pushed}
use Rattle.wkt_layer.proofs.texts.PointTextImageText.push_image.Goals as goal

pub returns : goal.returns
returns c =
    image_pushed c.args.out.now.items c.push_point.new.out.items c.push_height.new.out.items (mm_text c.args.image.x)
    (mm_text c.args.image.y) (height_text c.args.height) c.in_ok-push_point.ensures c.in_ok-push_height.ensures
