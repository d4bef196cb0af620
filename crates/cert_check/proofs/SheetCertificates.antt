-- The certificate of a sheet's pieces is accepted over the text for its images.
use Rattle.std.proofs.Common.{◌≡◌, ℕ, List, [], ◌∷◌, ◌++◌, ap, ap₂, subst, arith}
use Rattle.std.specs.Prelude.{slice_get}
use Rattle.std.proofs.lemmas.List.{append_cancel_left}
use Rattle.sheet_base.specs.Sheets.{Contents}
use Rattle.sheet_base.specs.ImageFits.{Runs}
use Rattle.sheet_base.specs.Splices.{splice_of}
use Rattle.tin_base.specs.Triangulation.{Triangulation}
use Rattle.sheet_pieces.specs.SheetSegments.{SheetSegment, sheet_segments}
use Rattle.sheet_pieces.specs.SheetImages.{AreImagesOf}
use Rattle.sheet_pieces.proofs.OneSheet.{images_same}
use Rattle.cert_check.specs.Certificates.{certificate_of, IsCertificate}
use Rattle.cert_check.specs.RightLists.{IsRightList, AreRightLists}
use Rattle.cert_check.specs.Checks.{IsFirstNotRight, IsFirstDifference, IsCounted, IsNotRight, IsDifferent}
use Rattle.cert_check.specs.PieceLists.{lists_of}
use Rattle.cert_check.specs.Laws.{IsRightlyCertified, IsAccepted, PiecesAreAccepted}
use Rattle.cert_check.proofs.LineLaws.{one_certificate, no_bad_line}
use Rattle.cert_check.proofs.PathLists.{right_length}
use Rattle.cert_check.proofs.PieceRows.{sheet_certified}

-- right lists have no first one that is not right
none_wrong : (tin : Triangulation) (before behind : List SheetSegment) (segment : SheetSegment)
    (right others : List (List ℕ))
    (list : List ℕ) → AreRightLists tin before right
    → AreRightLists tin (before ++ segment ∷ behind) (right ++ list ∷ others) → IsRightList tin segment.a segment.b list
none_wrong tin [] behind segment [] others list h all = all.0
none_wrong tin [] behind segment (r ∷ right) others list h all = absurd h
none_wrong tin (s ∷ before) behind segment [] others list h all = absurd h
none_wrong tin (s ∷ before) behind segment (r ∷ right) others list h all =
    none_wrong tin before behind segment right others list h.1 all.1

not_first : (tin : Triangulation) (segments : List SheetSegment) (lists : List (List ℕ)) (path number : ℕ)
    → AreRightLists tin segments lists → IsFirstNotRight tin segments lists path number → ⊥
not_first tin segments lists path number all first = grind (arith, none_wrong)

not_different : (text other : List ℕ) (at : ℕ) → text ≡ other → IsFirstDifference text other at → ⊥
not_different text other at e first = first.differ (ap (λ (xs : List ℕ). slice_get xs at) e)

pub pieces_accepted : PiecesAreAccepted
pieces_accepted tin source text layer sheet images pieces limits sound inside are cut =
    go (sheet_certified tin layer sheet pieces limits sound inside cut)
  where
    go : IsRightlyCertified tin sheet pieces → IsAccepted tin source text sheet images
        (certificate_of (lists_of pieces))
    go is = record {
      form = λ line bad. no_bad_line (certificate_of (lists_of pieces)) (lists_of pieces) line is.certificate bad;
      count = λ segments lines counted. no_count segments lines counted is.certificate is.are_right;
      right = λ path number wrong. no_wrong path number wrong is.certificate is.are_right;
      same = λ place different. no_other place different;
    }
      where
        one : (lists : List (List ℕ)) → IsCertificate (certificate_of (lists_of pieces)) lists
            → IsCertificate (certificate_of (lists_of pieces)) (lists_of pieces) → lists ≡ lists_of pieces
        one lists h k = grind (arith, one_certificate, append_cancel_left)

        no_count : (segments lines : ℕ) → IsCounted (λ (s : Contents). s ≡ sheet) (certificate_of (lists_of pieces))
            segments lines → IsCertificate (certificate_of (lists_of pieces)) (lists_of pieces)
            → AreRightLists tin (sheet_segments sheet) (lists_of pieces) → ⊥
        no_count segments lines counted k right =
            counted.differ (grind (arith, right_length, one))

        no_wrong : (path number : ℕ) → IsNotRight tin (λ (s : Contents). s ≡ sheet) (certificate_of (lists_of pieces))
            path number → IsCertificate (certificate_of (lists_of pieces)) (lists_of pieces)
            → AreRightLists tin (sheet_segments sheet) (lists_of pieces) → ⊥
        no_wrong path number wrong k right =
            not_first tin (sheet_segments wrong.sheet) wrong.lists path number
            (grind (arith, one)) wrong.first

        no_other : (place : ℕ) → IsDifferent tin source (splice_of source (text sheet images) sheet.edits)
            (λ (s : Contents). s ≡ sheet) text (certificate_of (lists_of pieces)) place → ⊥
        no_other place different =
            not_different (splice_of source (text different.sheet different.images) (different.sheet).edits)
            (splice_of source (text sheet images) sheet.edits) place
            (ap₂ (λ (s : Contents) (i : Runs). splice_of source (text s i) s.edits) different.read
            (images_same tin sheet different.images images sound
            (subst (λ (s : Contents). AreImagesOf tin s different.images) different.read different.are_images) are))
            different.first
