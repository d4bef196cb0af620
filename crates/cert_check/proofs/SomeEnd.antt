-- The check of a certificate ends: the layer is certified, or there is a first fault.
use Rattle.std.proofs.Common.{◌≡◌, ◌≢◌, ◌⊎◌, inl, inr, ℕ, zero, suc, ◌+◌, ◌*◌, ◌<◌, ◌≤◌, min, List, [], ◌∷◌, length}
use Rattle.std.proofs.Common.{get_or, Result, Ok, Err, refl, sym, ap, subst, arith}
use Rattle.std.proofs.lemmas.Bool.{cases_lt, cases_eq}
use Rattle.plane_base.specs.declared.shapes.Pt.{Pt}
use Rattle.sheet_base.specs.declared.edits.Edit.{Edit}
use Rattle.sheet_base.specs.declared.faults.LayerFault.{LayerFault}
use Rattle.sheet_base.specs.declared.flags.How.{How}
use Rattle.sheet_base.specs.ImageFits.{Runs}
use Rattle.sheet_base.specs.Outcomes.{HasOutcome, OutcomeExists, MemoryIsNoFault}
use Rattle.sheet_base.specs.ReadSheets.{IsSheetOf, SheetsAreOfBytes}
use Rattle.sheet_base.specs.Sheets.{Contents}
use Rattle.sheet_base.specs.Splices.{splice_of}
use Rattle.tin_base.specs.Triangulation.{Triangulation}
use Rattle.tin_base.specs.Soundness.{IsSound}
use Rattle.tin_base.specs.Segments.{Spot, at_a, at_b, IsSameSpot, IsPart}
use Rattle.tin_base.proofs.SegmentSpots.Ends.{IsSpot, same_of}
use Rattle.tin_base.proofs.PieceChains.Outcomes.{BeginsAt, begins_or, has_or}
use Rattle.sheet_pieces.specs.SheetSegments.{SheetSegment, sheet_segments}
use Rattle.sheet_pieces.specs.SheetImages.{AreImagesOf}
use Rattle.sheet_pieces.proofs.PartSequences.{same_or}
use Rattle.sheet_pieces.proofs.SomeImages.{images_exist}
use Rattle.cert_check.specs.declared.faults.CertFault.{CertFault}
use Rattle.cert_check.specs.declared.faults.CertFault.TheVariants.{Layer, Form, Count, Segment as WrongSegment, Differs}
use Rattle.cert_check.specs.Certificates.{IsCertificate}
use Rattle.cert_check.specs.Lines.{IsBadLine}
use Rattle.cert_check.specs.RightLists.{AreFollowing, IsOneWith, IsRightList, AreRightLists}
use Rattle.cert_check.specs.Checks.{IsFirstNotRight, IsFirstDifference}
use Rattle.cert_check.specs.Laws.{IsCertEnd, TextOutcomeExists, CertificateEndExists}
use Rattle.cert_check.proofs.CertCauses.{all_inside}
use Rattle.cert_check.proofs.ListPasses.{following_moved}
use Rattle.cert_check.proofs.TextLaws.{AgreeTo, agree_start, agree_more, differ_at, differ_end, agree_all}

-- ---- whether a list is right
module _ (tin : Triangulation) (sound : IsSound tin) where
  following_or : (a b : Pt) (numbers : List ℕ) (x : Spot) → IsSpot x
      → AreFollowing tin a b x numbers ⊎ (AreFollowing tin a b x numbers → ⊥)
  following_or a b [] x some = cases_eq (x.of_b * at_b.of_a) (at_b.of_b * x.of_a)
  following_or a b (t ∷ ts) x some =
      by_range (λ last some_last. following_or a b ts last some_last) (cases_lt t (length tin.triangles))
    where
      -- both parts are the one of the triangle
      same_last : (first last begin end : Spot) → IsPart tin a b t first last → IsPart tin a b t begin end
          → IsSameSpot end last
      same_last first last begin end part also =
          same_of end last (part.none_after end also.has_last) (also.none_after last part.has_last)

      by_rest : (first last : Spot) → IsPart tin a b t first last → IsSameSpot first x
          → AreFollowing tin a b last ts ⊎ (AreFollowing tin a b last ts → ⊥)
          → AreFollowing tin a b x (t ∷ ts) ⊎ (AreFollowing tin a b x (t ∷ ts) → ⊥)
      by_rest first last part begins (inl rest) = inl (first, last, part, begins, rest)
      by_rest first last part begins (inr none) = inr (λ follow.
          let end = follow.1 in
          let also = follow.2 in
          let has_end = also.has_last in
          none (grind (arith, following_moved, same_last)))

      by_part : ((last : Spot) → IsSpot last → AreFollowing tin a b last ts ⊎ (AreFollowing tin a b last ts → ⊥))
          → BeginsAt tin a b x t ⊎ (BeginsAt tin a b x t → ⊥)
          → AreFollowing tin a b x (t ∷ ts) ⊎ (AreFollowing tin a b x (t ∷ ts) → ⊥)
      by_part rest (inl (first, last, part, begins)) =
          let has_last = part.has_last in by_rest first last part begins (rest last has_last.some)
      by_part rest (inr none) = inr (λ follow. none (follow.0, follow.1, follow.2, follow.3))

      by_range : ((last : Spot) → IsSpot last → AreFollowing tin a b last ts ⊎ (AreFollowing tin a b last ts → ⊥))
          → (t < length tin.triangles) ⊎ (length tin.triangles ≤ t)
          → AreFollowing tin a b x (t ∷ ts) ⊎ (AreFollowing tin a b x (t ∷ ts) → ⊥)
      by_range rest (inl within) = by_part rest (begins_or tin a b x t sound some within)
      by_range rest (inr past) = grind arith

  one_or : (a : Pt) (numbers : List ℕ) → IsOneWith tin a numbers ⊎ (IsOneWith tin a numbers → ⊥)
  one_or a [] = inr (λ h. h)
  one_or a (t ∷ u ∷ ts) = inr (λ h. h)
  one_or a (t ∷ []) = grind (arith, cases_lt t (length tin.triangles), has_or tin a t sound)

  right_or : (a b : Pt) (numbers : List ℕ) → IsRightList tin a b numbers ⊎ (IsRightList tin a b numbers → ⊥)
  right_or a b numbers = by (same_or a b)
    where
      by : (a ≡ b) ⊎ (a ≢ b) → IsRightList tin a b numbers ⊎ (IsRightList tin a b numbers → ⊥)
      by (inl same) = grind (arith, one_or)
      by (inr differ) = elim (following_or a b numbers at_a (omega arith)) [
        | inl follow ↦ inl (λ same. absurd (differ same), λ _. follow)
        | inr none ↦ inr (λ right. none (right.1 differ))
      ]

  -- the lists are right, or one of them is the first that is not
  first_or : (segments : List SheetSegment) (lists : List (List ℕ)) → length segments ≡ length lists
      → AreRightLists tin segments lists ⊎ ((path number : ℕ) × IsFirstNotRight tin segments lists path number)
  first_or [] [] count = inl tt
  first_or [] (list ∷ lists) count = absurd (omega (arith, count))
  first_or (segment ∷ segments) [] count = absurd (omega (arith, count))
  first_or (segment ∷ segments) (list ∷ lists) count =
      by (right_or segment.a segment.b list) (first_or segments lists (omega (arith, count)))
    where
      by : IsRightList tin segment.a segment.b list ⊎ (IsRightList tin segment.a segment.b list → ⊥)
          → AreRightLists tin segments lists ⊎ ((path number : ℕ) × IsFirstNotRight tin segments lists path number)
          → AreRightLists tin (segment ∷ segments) (list ∷ lists)
          ⊎ ((path number : ℕ) × IsFirstNotRight tin (segment ∷ segments) (list ∷ lists) path number)
      by (inr none) rest = inr (
        segment.path,
        segment.number,
        record {
          before = [];
          segment = segment;
          behind = segments;
          right = [];
          list = list;
          others = lists;
          segments_are = refl;
          lists_are = refl;
          are_right = tt;
          not_right = none;
          path_is = refl;
          number_is = refl;
        },
      )
      by (inl right) (inl others) = inl (right, others)
      by (inl right) (inr (path, number, first)) = inr (
        path,
        number,
        record {
          before = segment ∷ first.before;
          segment = first.segment;
          behind = first.behind;
          right = list ∷ first.right;
          list = first.list;
          others = first.others;
          segments_are = ap (λ (ss : List SheetSegment). segment ∷ ss) first.segments_are;
          lists_are = ap (λ (ls : List (List ℕ)). list ∷ ls) first.lists_are;
          are_right = (right, first.are_right);
          not_right = first.not_right;
          path_is = first.path_is;
          number_is = first.number_is;
        },
      )

-- ---- whether two texts are one
-- from a place on, up to which they agree
difference_from : (text other : List ℕ) (left at : ℕ) → at + left ≡ min (length text) (length other)
    → AgreeTo text other at → (text ≡ other) ⊎ ((place : ℕ) × IsFirstDifference text other place)
difference_from text other zero at end so_far = by (cases_eq (length text) (length other))
  where
    whole : (m n : ℕ) → at + 0 ≡ min m n → m ≡ n → at ≡ m
    whole m n e f = omega arith

    whole_other : (m n : ℕ) → at + 0 ≡ min m n → m ≡ n → at ≡ n
    whole_other m n e f = omega arith

    ends : (m n : ℕ) → at + 0 ≡ min m n → at ≡ min m n
    ends m n e = omega arith

    by : (length text ≡ length other) ⊎ (length text ≢ length other)
        → (text ≡ other) ⊎ ((place : ℕ) × IsFirstDifference text other place)
    by (inl same) = inl (agree_all text other at (whole (length text) (length other) end same)
        (whole_other (length text) (length other) end same) so_far)
    by (inr differ) = inr (at, differ_end text other at (ends (length text) (length other) end) differ so_far)
difference_from text other (suc left) at end so_far =
    by (λ more. difference_from text other left (at + 1) (onward (length text) (length other) end) more)
    (cases_eq (get_or text at 0) (get_or other at 0))
  where
    onward : (m n : ℕ) → at + suc left ≡ min m n → at + 1 + left ≡ min m n
    onward m n e = omega arith

    here : (m n : ℕ) → at + suc left ≡ min m n → at < m
    here m n e = omega arith

    here_other : (m n : ℕ) → at + suc left ≡ min m n → at < n
    here_other m n e = omega arith

    by : (AgreeTo text other (at + 1) → (text ≡ other) ⊎ ((place : ℕ) × IsFirstDifference text other place))
        → (get_or text at 0 ≡ get_or other at 0) ⊎ (get_or text at 0 ≢ get_or other at 0)
        → (text ≡ other) ⊎ ((place : ℕ) × IsFirstDifference text other place)
    by more (inl same) = more (agree_more text other at (here (length text) (length other) end)
        (here_other (length text) (length other) end) same so_far)
    by more (inr differ) = inr (
      at,
      differ_at text other at (here (length text) (length other) end)
          (here_other (length text) (length other) end) differ so_far,
    )

difference_or : (text other : List ℕ) → (text ≡ other) ⊎ ((place : ℕ) × IsFirstDifference text other place)
difference_or text other =
    difference_from text other (min (length text) (length other)) 0 (omega arith) (agree_start text other)

-- ---- the end
abbrev HasEnd : Triangulation → List ℕ → List ℕ → (Contents → Type 0) → (LayerFault → Type 0)
    → (Contents → Runs → Edit → List ℕ) → List ℕ → Type 0
HasEnd tin source written reads refuses writes cert =
    (end : Result (Unit {0}) CertFault) × IsCertEnd tin source written reads refuses writes cert end

-- where the source is read as a sheet and the certificate is one of some lists
module _ (tin : Triangulation) (sound : IsSound tin) (source written : List ℕ) (reads : Contents → Type 0)
    (refuses : LayerFault → Type 0) (writes : Contents → Runs → Edit → List ℕ) (cert : List ℕ) (sheet : Contents)
    (read : reads sheet) (of : IsSheetOf source sheet) (lists : List (List ℕ)) (certificate : IsCertificate cert lists)
  where
    by_text : (images : Runs) → AreImagesOf tin sheet images → AreRightLists tin (sheet_segments sheet) lists
        → (splice_of source (writes sheet images) sheet.edits ≡ written)
        ⊎ ((place : ℕ) × IsFirstDifference (splice_of source (writes sheet images) sheet.edits) written place)
        → HasEnd tin source written reads refuses writes cert
    by_text images are right (inl same) = (
      Ok tt,
      record {
        migrated = record {
          sheet = sheet;
          read = read;
          inside = all_inside tin (sheet_segments sheet) lists sound right;
          images = images;
          are_images = are;
          written_is = sym same;
        };
        lists = lists;
        certificate = certificate;
        are_right = right;
      },
    )
    by_text images are right (inr (place, first)) = (
      Err (Differs place),
      (
        record {
          sheet = sheet;
          read = read;
          lists = lists;
          certificate = certificate;
          are_right = right;
          images = images;
          are_images = are;
          first = first;
        },
        λ is. cc,
      ),
    )

    by_lists : length (sheet_segments sheet) ≡ length lists → AreRightLists tin (sheet_segments sheet) lists
        ⊎ ((path number : ℕ) × IsFirstNotRight tin (sheet_segments sheet) lists path number)
        → HasEnd tin source written reads refuses writes cert
    by_lists counted (inl right) =
        let (images, are) = images_exist tin sound sheet of.tiled
        (all_inside tin (sheet_segments sheet) lists sound right) in
        by_text images are right (difference_or (splice_of source (writes sheet images) sheet.edits) written)
    by_lists counted (inr (path, number, first)) = (
      Err (WrongSegment path number),
      (
        record {
          sheet = sheet;
          read = read;
          lists = lists;
          certificate = certificate;
          counted = counted;
          first = first;
        },
        λ is. cc,
      ),
    )

    by_count : (length (sheet_segments sheet) ≡ length lists) ⊎ (length (sheet_segments sheet) ≢ length lists)
        → HasEnd tin source written reads refuses writes cert
    by_count (inl counted) = by_lists counted (first_or tin sound (sheet_segments sheet) lists counted)
    by_count (inr differ) = (
      Err (Count (length (sheet_segments sheet)) (length lists)),
      (
        record {
          sheet = sheet;
          read = read;
          segments_are = refl;
          lists = lists;
          certificate = certificate;
          lines_are = refl;
          differ = differ;
        },
        λ is. cc,
      ),
    )

pub end_exists : (reads : How → List ℕ → Contents → Type 0) (refuses : How → List ℕ → LayerFault → Type 0)
    (text : List ℕ → How → Contents → Runs → Edit → List ℕ) → OutcomeExists reads refuses → MemoryIsNoFault refuses
    → SheetsAreOfBytes reads → TextOutcomeExists → CertificateEndExists reads refuses text
end_exists reads refuses text exists memory stand certs how tin source written cert sound =
    by_source (exists how source)
  where
    by_cert : (sheet : Contents) → reads how source sheet
        → ((lists : List (List ℕ)) × IsCertificate cert lists) ⊎ ((line : ℕ) × IsBadLine cert line)
        → HasEnd tin source written (reads how source) (refuses how source) (text source how) cert
    by_cert sheet read (inl (lists, certificate)) =
        by_count tin sound source written (reads how source) (refuses how source) (text source how) cert sheet read
        (stand how source sheet read) lists certificate (cases_eq (length (sheet_segments sheet)) (length lists))
    by_cert sheet read (inr (line, bad)) = (Err (Form line), ((sheet, read, bad), λ is. cc))

    by_source : HasOutcome (reads how source) (refuses how source)
        → HasEnd tin source written (reads how source) (refuses how source) (text source how) cert
    by_source (inl (sheet, read)) = by_cert sheet read (certs cert)
    by_source (inr (fault, refused)) = (
      Err (Layer fault),
      ((λ is. memory how source (subst (refuses how source) is refused), refused), λ is. cc),
    )
