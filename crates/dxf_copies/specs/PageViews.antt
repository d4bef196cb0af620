-- What contracts see of a page.
use Rattle.dxf_copies.specs.declared.pages.Page.{Page}
use Rattle.dxf_copies.specs.Rendering.{Reading}

abbrev pub read_of : Page → Reading
read_of page = record {
  bytes = page.bytes.now;
  pairs = page.pairs.now;
  sheet = page.sheet.now;
  images =
      page.images.now;
}
