-- The texts that take the place of edits in well-known text.
use Rattle.std.specs.Prelude.{ℕ, List, [], ◌∷◌, ◌++◌, codes, Option, Some, None}
use Rattle.mm_decimal.specs.MetresTexts.{mm_text}
use Rattle.sheet_base.specs.PointHeights.{Height, Position}
use Rattle.sheet_base.specs.declared.paths.PathRow.{PathRow}
use Rattle.sheet_base.specs.declared.edits.Edit.{Edit}
use Rattle.sheet_base.specs.declared.edits.What.{What}
use Rattle.sheet_base.specs.declared.edits.What.TheVariants.{WktList, WktRing}
use Rattle.sheet_base.specs.Sheets.{Contents}
use Rattle.sheet_base.specs.ImageFits.{Runs, path_positions}
use Rattle.sheet_base.specs.ImageLists as lists

-- a space and the height, where there is one
abbrev pub height_text : Height → List ℕ
height_text None = []
height_text (Some height) = 32 ∷ mm_text height

-- two numbers with a space between them, or three
abbrev pub image_text : Position → List ℕ
image_text image = mm_text image.point.x ++ (32 ∷ (mm_text image.point.y ++ height_text image.height))

-- each of these images after a comma and a space
abbrev pub texts_behind : List Position → List ℕ
texts_behind images = lists.texts_behind (codes ", ") image_text images

-- images with a comma and a space between them
abbrev pub list_text : List Position → List ℕ
list_text images = lists.list_text (codes ", ") image_text images

-- images with a comma and a space between them, and the first image again
abbrev pub ring_text : List Position → List ℕ
ring_text images = lists.ring_text (codes ", ") image_text images

-- the images of the path of a number, as a list or as a ring
pub data Writing : Type 0 where
  list : ℕ → Writing
  ring : ℕ → Writing

-- what an edit writes, where it is one of this format
abbrev pub writing_of : What → Option Writing
writing_of (WktList number) = Some (list number)
writing_of (WktRing number) = Some (ring number)
writing_of what = None

abbrev pub writing_text : List PathRow → Runs → Option Writing → List ℕ
writing_text paths images None = []
writing_text paths images (Some (list number)) = list_text (path_positions paths images number)
writing_text paths images (Some (ring number)) = ring_text (path_positions paths images number)

abbrev pub what_text : List PathRow → Runs → What → List ℕ
what_text paths images what = writing_text paths images (writing_of what)

-- the text of an edit, for the images of a sheet
abbrev pub wkt_edit_text : Contents → Runs → Edit → List ℕ
wkt_edit_text sheet images edit = what_text sheet.paths images edit.what
