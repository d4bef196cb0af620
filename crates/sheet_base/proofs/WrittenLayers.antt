-- What holds of the bytes that a format writes: the rest is kept, and they are read back.
use Rattle.std.proofs.Common.{◌≡◌, List, ℕ, ap, refl, ◌∙◌, sym, subst}
use Rattle.std.specs.Prelude.{map, Result, IfOk}
use Rattle.sheet_base.specs.declared.edits.Edit.{Edit}
use Rattle.sheet_base.specs.Sheets.{Contents}
use Rattle.sheet_base.specs.ImageFits.{Runs}
use Rattle.sheet_base.specs.Splices.{splice_of, DoKeep}
use Rattle.sheet_base.specs.ReadBack.{ends_of, height_ends_of, AreTheSame, row_of_images, IsReadBack}
use Rattle.sheet_base.proofs.HeightLists.{match_self}
use Rattle.sheet_base.proofs.SpliceLaws.{if_ok_more, splices_keep}

-- a text is read as a sheet of just these images, with the first sheet's paths over them, and no number lost digits
pub record IsReadAgain (reads : List ℕ → Contents → Type 0) (text : List ℕ) (sheet : Contents) (images : Runs) : Type 0
  where
    pub back : Contents
    pub is_read : reads text back
    pub points : back.points ≡ images.points
    pub heights : back.heights ≡ images.heights
    pub paths : back.paths ≡ map (row_of_images images) sheet.paths
    pub exact_all : back.inexact ≡ 0

pub read_back : (reads : List ℕ → Contents → Type 0) (text : List ℕ) (sheet : Contents) (images : Runs)
    → IsReadAgain reads text sheet images → IsReadBack reads AreTheSame sheet images text
read_back reads text sheet images again = record {
  back = again.back;
  is_read = again.is_read;
  segments = ap (λ points. ends_of points again.back.paths) again.points ∙ ap (ends_of images.points) again.paths;
  heights =
      rw (again.heights, again.paths)
      (match_self AreTheSame (height_ends_of images.heights (map (row_of_images images) sheet.paths)) (λ ends. refl));
}

-- ---- where a call splices these bytes at the given edits, which are those of the sheet
module _ {X E : Type 0} (result : Result X E) (bytes_in : X → List ℕ) (bytes : List ℕ) (text : Edit → List ℕ)
    (given edits : List Edit) (are : given ≡ edits)
    (is_spliced : IfOk result (λ out. bytes_in out ≡ splice_of bytes text given)) where
  -- what holds of the spliced bytes holds of the answer
  pub holds_written : (Holds : List ℕ → Type 0) → Holds (splice_of bytes text edits)
      → IfOk result (λ out. Holds (bytes_in out))
  holds_written Holds holds =
      if_ok_more result (λ out. bytes_in out ≡ splice_of bytes text given) (λ out. Holds (bytes_in out))
      (λ out is. subst Holds (sym (is ∙ ap (splice_of bytes text) are)) holds) is_spliced

  pub rest_written : IfOk result (λ out. DoKeep bytes 0 edits (bytes_in out))
  rest_written = holds_written (DoKeep bytes 0 edits) (splices_keep bytes text edits)
