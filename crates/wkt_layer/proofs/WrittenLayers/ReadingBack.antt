-- What is written of a layer is read as its images.
use Rattle.std.proofs.Common.{ℕ, ◌+◌, Bool, List, [], ◌∷◌, length, refl, sym, subst, arith}
use Rattle.std.proofs.lemmas.List.Elements.{recursion_from_All}
use Rattle.sheet_base.specs.Sheets.{Contents}
use Rattle.sheet_base.specs.PointHeights.{IsHeightWithinReach}
use Rattle.sheet_base.specs.ImageFits.{Runs, path_positions, IsWithinReach, DoFit}
use Rattle.sheet_base.specs.Splices.{AreInOrder, splice_of}
use Rattle.sheet_base.specs.ReadBack.{AreTheSame, IsReadBack}
use Rattle.sheet_base.proofs.WrittenLayers.{IsReadAgain, read_back}
use Rattle.wkt_layer.specs.Paths.{Path, rows_from, edits_from, sheet_of}
use Rattle.wkt_layer.specs.Texts.{wkt_edit_text}
use Rattle.wkt_layer.specs.Layers.{geometry_lines, AreLinesOf, IsWktReadAs}
use Rattle.wkt_layer.specs.InsidePasses.{AreWhole}
use Rattle.wkt_layer.proofs.SheetLaws.EditOrder.{read_in_order}
use Rattle.wkt_layer.proofs.SheetLaws.Sheets.{whole_append, line_paths_whole}
use Rattle.wkt_layer.proofs.WrittenLayers.LineTurns.{IsWritten, text_turned}
use Rattle.wkt_layer.proofs.WrittenLayers.SheetTurns.{texts_no_feed, texts_say, sheet_suits, points_again, heights_again, rows_again}

pub lines_whole : (exact : Bool) (at : ℕ) (lines : List (List ℕ)) (paths : List Path) → AreLinesOf exact at lines paths
    → AreWhole paths
lines_whole exact at [] paths none = subst AreWhole (sym none) tt
lines_whole exact at (line ∷ lines) paths (here, others, is, are, same) =
    grind (arith, whole_append, line_paths_whole, (lines_whole exact (at + length line + 1) lines others are))

paths_again : (exact : Bool) (bytes : List ℕ) (paths : List Path) (images : Runs)
    → AreLinesOf exact 0 (geometry_lines bytes) paths → AreInOrder 0 (edits_from 0 paths) (length bytes)
    → DoFit (sheet_of paths) images
    → IsReadAgain (IsWktReadAs exact) (splice_of bytes (wkt_edit_text (sheet_of paths) images) (edits_from 0 paths))
    (sheet_of paths) images
paths_again exact bytes paths images are order fit =
    go (text_turned exact (wkt_edit_text (sheet_of paths) images) (path_positions (rows_from 0 paths) images)
    (texts_say (sheet_of paths) images)
    (texts_no_feed (sheet_of paths) images (recursion_from_All IsWithinReach images.points fit.in_reach)
    (recursion_from_All IsHeightWithinReach images.heights fit.heights_in_reach)) bytes paths
    (sheet_suits paths images fit (lines_whole exact 0 (geometry_lines bytes) paths are)) are order)
  where
    go : IsWritten exact (path_positions (rows_from 0 paths) images) 0 paths
        (AreLinesOf exact 0 (geometry_lines (splice_of bytes (wkt_edit_text (sheet_of paths) images)
        (edits_from 0 paths))))
        → IsReadAgain (IsWktReadAs exact) (splice_of bytes (wkt_edit_text (sheet_of paths) images) (edits_from 0 paths))
        (sheet_of paths) images
    go w = record {
      back = sheet_of w.others;
      is_read = (w.others, w.are_of, refl);
      points = points_again paths images fit w.others w.drawn_are;
      heights = heights_again paths images fit w.others w.drawn_are;
      paths = rows_again paths images fit w.others w.drawn_are;
      exact_all = w.exact_all;
    }

read_again : (exact : Bool) (bytes : List ℕ) (sheet : Contents) (images : Runs) → IsWktReadAs exact bytes sheet
    → DoFit sheet images
    → IsReadAgain (IsWktReadAs exact) (splice_of bytes (wkt_edit_text sheet images) sheet.edits) sheet images
read_again exact bytes sheet images (paths, are, same) fit =
    subst (λ (s : Contents). IsReadAgain (IsWktReadAs exact) (splice_of bytes (wkt_edit_text s images) s.edits) s images)
    (sym same)
    (paths_again exact bytes paths images are
    (subst (λ (s : Contents). AreInOrder 0 s.edits (length bytes)) same
    (read_in_order exact bytes sheet (paths, are, same)))
    (subst (λ (s : Contents). DoFit s images) same fit))

pub reads_back : (exact : Bool) (bytes : List ℕ) (sheet : Contents) (images : Runs) → IsWktReadAs exact bytes sheet
    → DoFit sheet images
    → IsReadBack (IsWktReadAs exact) AreTheSame sheet images
    (splice_of bytes (wkt_edit_text sheet images) sheet.edits)
reads_back exact bytes sheet images is fit = grind (arith, read_back, read_again)
