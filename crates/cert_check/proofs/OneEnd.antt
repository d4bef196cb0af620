-- The check of a certificate ends in one way.
use Rattle.std.proofs.Common.{◌≡◌, ◌≢◌, ◌⊎◌, inl, inr, ℕ, zero, suc, ◌<◌, List, [], ◌∷◌, ◌++◌, length, take, Result, Ok}
use Rattle.std.proofs.Common.{Err, refl, sym, ◌∙◌, ap, ap₂, subst, append_assoc, arith}
use Rattle.std.specs.Prelude.{slice_get, Some}
use Rattle.std.specs.List.{AllByRecursion}
use Rattle.std.proofs.lemmas.List.{append_cancel_left}
use Rattle.sheet_base.specs.declared.edits.Edit.{Edit}
use Rattle.sheet_base.specs.declared.faults.LayerFault.{LayerFault}
use Rattle.sheet_base.specs.Sheets.{Contents}
use Rattle.sheet_base.specs.ImageFits.{Runs}
use Rattle.sheet_base.specs.Splices.{splice_of}
use Rattle.sheet_base.specs.declared.flags.How.{How}
use Rattle.sheet_base.specs.Outcomes.{HasOneOutcome, OutcomeIsOne}
use Rattle.tin_base.specs.Triangulation.{Triangulation}
use Rattle.tin_base.specs.Soundness.{IsSound}
use Rattle.sheet_pieces.specs.SheetSegments.{SheetSegment, sheet_segments}
use Rattle.sheet_pieces.specs.SheetImages.{AreImagesOf}
use Rattle.sheet_pieces.proofs.OneSheet.{images_same}
use Rattle.cert_check.specs.declared.faults.CertFault.{CertFault}
use Rattle.cert_check.specs.declared.faults.CertFault.TheVariants.{Layer, Form, Count, Segment as WrongSegment, Differs}
use Rattle.cert_check.specs.declared.faults.CertFault.TheVariants.{NoMemory}
use Rattle.cert_check.specs.Certificates.{head_text, line_text, lines_text, IsList, IsCertificate}
use Rattle.cert_check.specs.Lines.{HasNoLine, IsBadBehind, IsBadLine}
use Rattle.cert_check.specs.RightLists.{IsRightList, AreRightLists}
use Rattle.cert_check.specs.Checks.{IsFirstNotRight, IsFirstDifference, IsCertified, IsCertCause}
use Rattle.cert_check.specs.Laws.{IsCertEnd, CertificatesEndOnce}
use Rattle.cert_check.proofs.LineLaws.{one_certificate, no_bad_line, one_line}
use Rattle.cert_check.proofs.PathLists.{right_length}
use Rattle.plain_laws.proofs.Order.{equal_of_neither}

-- ---- the first bad line
bad_lines_one : (before others : List (List ℕ)) (rest more : List ℕ) → AllByRecursion IsList before
    → AllByRecursion IsList others → lines_text before ++ rest ≡ lines_text others ++ more → HasNoLine rest
    → HasNoLine more
    → length before ≡ length others
bad_lines_one [] [] rest more h k same bad worse = refl
bad_lines_one [] (l ∷ ls) rest more h k same bad worse =
    absurd (bad (lines_text ls ++ more) (grind (arith, append_assoc)))
bad_lines_one (l ∷ ls) [] rest more h k same bad worse =
    absurd (worse (lines_text ls ++ rest) (grind (arith, append_assoc)))
bad_lines_one (l ∷ ls) (m ∷ ms) rest more h k same bad worse =
    let one = one_line ((line_text l ++ lines_text ls) ++ rest) l m (lines_text ls ++ rest) (lines_text ms ++ more)
    (record { list = h.0; spelled = append_assoc (line_text l) (lines_text ls) rest })
    (record { list = k.0; spelled = same ∙ append_assoc (line_text m) (lines_text ms) more }) in
    ap suc (bad_lines_one ls ms rest more h.1 k.1 one.behind bad worse)

bad_behind_one : (text : List ℕ) (count other : ℕ) → IsBadBehind text count → IsBadBehind text other → count ≡ other
bad_behind_one text count other x y = grind (arith, bad_lines_one)

bad_line_one : (bytes : List ℕ) (line other : ℕ) → IsBadLine bytes line → IsBadLine bytes other → line ≡ other
bad_line_one bytes zero other x y = absurd x
bad_line_one bytes (suc zero) (suc zero) x y = refl
bad_line_one bytes (suc zero) (suc (suc other)) x (rest, is, bad) = absurd (x rest is)
bad_line_one bytes (suc (suc line)) (suc zero) (rest, is, bad) y = absurd (y rest is)
bad_line_one bytes (suc (suc line)) (suc (suc other)) (rest, is, bad) (more, also, worse) =
    grind (arith, append_cancel_left head_text rest more (sym is ∙ also), bad_behind_one more line other)
bad_line_one bytes _ other x y = absurd y

-- ---- the first wrong list
abbrev IsFirstWrong : Triangulation → List SheetSegment → List (List ℕ) → ℕ → ℕ → Type 0
IsFirstWrong tin [] lists path number = ⊥
IsFirstWrong tin (s ∷ ss) [] path number = ⊥
IsFirstWrong tin (s ∷ ss) (l ∷ ls) path number =
    ((IsRightList tin s.a s.b l → ⊥) × (s.path ≡ path) × (s.number ≡ number))
    ⊎ (IsRightList tin s.a s.b l × IsFirstWrong tin ss ls path number)

to_first : (tin : Triangulation) (before behind : List SheetSegment) (segment : SheetSegment)
    (right others : List (List ℕ))
    (list : List ℕ) (path number : ℕ) → AreRightLists tin before right
    → (IsRightList tin segment.a segment.b list → ⊥) → segment.path ≡ path → segment.number ≡ number
    → IsFirstWrong tin (before ++ segment ∷ behind) (right ++ list ∷ others) path number
to_first tin [] behind segment [] others list path number h wrong p n = inl (wrong, p, n)
to_first tin [] behind segment (r ∷ right) others list path number h wrong p n = absurd h
to_first tin (s ∷ before) behind segment [] others list path number h wrong p n = absurd h
to_first tin (s ∷ before) behind segment (r ∷ right) others list path number h wrong p n =
    inr (h.0, to_first tin before behind segment right others list path number h.1 wrong p n)

first_of : (tin : Triangulation) (segments : List SheetSegment) (lists : List (List ℕ)) (path number : ℕ)
    → IsFirstNotRight tin segments lists path number → IsFirstWrong tin segments lists path number
first_of tin segments lists path number first = grind (arith, to_first)

first_wrong_one : (tin : Triangulation) (segments : List SheetSegment) (lists : List (List ℕ)) (p n q m : ℕ)
    → IsFirstWrong tin segments lists p n → IsFirstWrong tin segments lists q m → (p ≡ q) × (n ≡ m)
first_wrong_one tin (s ∷ ss) (l ∷ ls) p n q m (inl (wrong, path, number)) (inl (also, way, count)) =
    (sym path ∙ way, sym number ∙ count)
first_wrong_one tin (s ∷ ss) (l ∷ ls) p n q m (inl (wrong, path, number)) (inr (right, more)) = absurd (wrong right)
first_wrong_one tin (s ∷ ss) (l ∷ ls) p n q m (inr (right, more)) (inl (wrong, path, number)) = absurd (wrong right)
first_wrong_one tin (s ∷ ss) (l ∷ ls) p n q m (inr (right, more)) (inr (also, others)) =
    first_wrong_one tin ss ls p n q m more others
first_wrong_one tin segments lists p n q m x y = absurd x

wrong_or_right : (tin : Triangulation) (segments : List SheetSegment) (lists : List (List ℕ)) (p n : ℕ)
    → IsFirstWrong tin segments lists p n → AreRightLists tin segments lists → ⊥
wrong_or_right tin (s ∷ ss) (l ∷ ls) p n (inl (wrong, path, number)) all = wrong all.0
wrong_or_right tin (s ∷ ss) (l ∷ ls) p n (inr (right, more)) all = wrong_or_right tin ss ls p n more all.1
wrong_or_right tin segments lists p n x all = x

-- ---- the first difference
same_front : (n i : ℕ) (xs ys : List ℕ) → take n xs ≡ take n ys → i < n → slice_get xs i ≡ slice_get ys i
same_front zero i xs ys same within = absurd (omega (arith, within))
same_front (suc n) i [] [] same within = refl
same_front (suc n) i [] (y ∷ ys) same within = cc
same_front (suc n) i (x ∷ xs) [] same within = cc
same_front (suc n) zero (x ∷ xs) (y ∷ ys) same within = let e : x ≡ y = cc in ap (λ (z : ℕ). Some z) e
same_front (suc n) (suc i) (x ∷ xs) (y ∷ ys) same within = let e : take n xs ≡ take n ys =
    cc in same_front n i xs ys e (omega (arith, within))

not_before : (text other : List ℕ) (a b : ℕ) → IsFirstDifference text other a → IsFirstDifference text other b → a < b
    → ⊥
not_before text other a b x y less = x.differ (same_front b a text other y.front less)

difference_one : (text other : List ℕ) (a b : ℕ) → IsFirstDifference text other a → IsFirstDifference text other b
    → a ≡ b
difference_one text other a b x y = equal_of_neither a b (not_before text other a b x y) (not_before text other b a y x)

-- ---- the ends
abbrev End : Type 0
End = Result (Unit {0}) CertFault

module _ (tin : Triangulation) (source written : List ℕ) (reads : Contents → Type 0) (refuses : LayerFault → Type 0)
    (text : Contents → Runs → Edit → List ℕ) (cert : List ℕ) (sound : IsSound tin) (texts : HasOneOutcome reads refuses)
  where
    -- with right lists and images
    data IsTextEnd (whole : List ℕ) (end : End) : Type 0 where
      other_end : (at : ℕ) → end ≡ Err (Differs at) → IsFirstDifference whole written at → IsTextEnd whole end
      same_end : end ≡ Ok tt → written ≡ whole → IsTextEnd whole end

    -- with the lists of a certificate
    data IsListsEnd (sheet : Contents) (lists : List (List ℕ)) (end : End) : Type 0 where
      count_end : end ≡ Err (Count (length (sheet_segments sheet)) (length lists))
          → length (sheet_segments sheet) ≢ length lists → IsListsEnd sheet lists end
      wrong_end : (path number : ℕ) → end ≡ Err (WrongSegment path number)
          → length (sheet_segments sheet) ≡ length lists
          → IsFirstWrong tin (sheet_segments sheet) lists path number → IsListsEnd sheet lists end
      right_end : AreRightLists tin (sheet_segments sheet) lists → (images : Runs) → AreImagesOf tin sheet images
          → IsTextEnd (splice_of source (text sheet images) sheet.edits) end → IsListsEnd sheet lists end

    data IsSheetEnd (sheet : Contents) (end : End) : Type 0 where
      form_end : (line : ℕ) → end ≡ Err (Form line) → IsBadLine cert line → IsSheetEnd sheet end
      listed_end : (lists : List (List ℕ)) → IsCertificate cert lists → IsListsEnd sheet lists end
          → IsSheetEnd sheet end

    data IsPath (end : End) : Type 0 where
      layer_end : (fault : LayerFault) → end ≡ Err (Layer fault) → refuses fault → IsPath end
      read_end : (sheet : Contents) → reads sheet → IsSheetEnd sheet end → IsPath end

    text_end_one : (whole : List ℕ) (a b : End) → IsTextEnd whole a → IsTextEnd whole b → a ≡ b
    text_end_one whole a b (other_end at is x) (other_end place also y) = is
        ∙ (ap (λ n. Err (Differs n)) (difference_one whole written at place x y) ∙ sym also)
    text_end_one whole a b (other_end at is x) (same_end also y) =
        absurd (x.differ (ap (λ (t : List ℕ). slice_get t at) (sym y)))
    text_end_one whole a b (same_end is x) (other_end at also y) =
        absurd (y.differ (ap (λ (t : List ℕ). slice_get t at) (sym x)))
    text_end_one whole a b (same_end is x) (same_end also y) = is ∙ sym also

    lists_end_one : (sheet : Contents) (lists : List (List ℕ)) (a b : End) → IsListsEnd sheet lists a
        → IsListsEnd sheet lists b → a ≡ b
    lists_end_one sheet lists a b (count_end is x) (count_end also y) = is ∙ sym also
    lists_end_one sheet lists a b (count_end is x) (wrong_end path number also same y) = absurd (x same)
    lists_end_one sheet lists a b (count_end is x) (right_end right images are end) =
        absurd (x (sym (right_length tin (sheet_segments sheet) lists right)))
    lists_end_one sheet lists a b (wrong_end path number is same x) (count_end also y) = absurd (y same)
    lists_end_one sheet lists a b (wrong_end path number is same x) (wrong_end way count also counted y) =
        let one = first_wrong_one tin (sheet_segments sheet) lists path number way count x y in
        is ∙ (ap₂ (λ (p n : ℕ). Err (WrongSegment p n)) one.0 one.1 ∙ sym also)
    lists_end_one sheet lists a b (wrong_end path number is same x) (right_end right images are end) =
        absurd (wrong_or_right tin (sheet_segments sheet) lists path number x right)
    lists_end_one sheet lists a b (right_end right images are end) (count_end also y) =
        absurd (y (sym (right_length tin (sheet_segments sheet) lists right)))
    lists_end_one sheet lists a b (right_end right images are end) (wrong_end path number also same y) =
        absurd (wrong_or_right tin (sheet_segments sheet) lists path number y right)
    lists_end_one sheet lists a b (right_end right images are end) (right_end right_too others too also) =
        let one = images_same tin sheet images others sound are too in
        text_end_one (splice_of source (text sheet others) sheet.edits) a b
        (subst (λ (i : Runs). IsTextEnd (splice_of source (text sheet i) sheet.edits) a) one end) also

    same_lists : (lists others : List (List ℕ)) → IsCertificate cert lists → IsCertificate cert others → lists ≡ others
    same_lists lists others h k = one_certificate lists others h.are_lists k.are_lists
        (append_cancel_left head_text (lines_text lists) (lines_text others) (sym h.spelled ∙ k.spelled))

    sheet_end_one : (sheet : Contents) (a b : End) → IsSheetEnd sheet a → IsSheetEnd sheet b → a ≡ b
    sheet_end_one sheet a b (form_end line is x) (form_end other also y) = is
        ∙ (ap (λ n. Err (Form n)) (bad_line_one cert line other x y) ∙ sym also)
    sheet_end_one sheet a b (form_end line is x) (listed_end lists y end) = absurd (no_bad_line cert lists line y x)
    sheet_end_one sheet a b (listed_end lists x end) (form_end line also y) = absurd (no_bad_line cert lists line x y)
    sheet_end_one sheet a b (listed_end lists x end) (listed_end others y also) =
        lists_end_one sheet others a b (subst (λ (ls : List (List ℕ)). IsListsEnd sheet ls a)
        (same_lists lists others x y) end) also

    path_one : (a b : End) → IsPath a → IsPath b → a ≡ b
    path_one a b (layer_end fault is x) (layer_end other also y) = is
        ∙ (ap (λ f. Err (Layer f)) (texts.one_fault fault other x y) ∙ sym also)
    path_one a b (layer_end fault is x) (read_end sheet y end) = absurd (texts.apart sheet fault y x)
    path_one a b (read_end sheet x end) (layer_end fault also y) = absurd (texts.apart sheet fault x y)
    path_one a b (read_end sheet x end) (read_end other y also) =
        sheet_end_one other a b (subst (λ (s : Contents). IsSheetEnd s a) (texts.one_sheet sheet other x y) end) also

    fault_path : (fault : CertFault) → IsCertCause tin source written reads refuses text cert fault → fault ≢ NoMemory
        → IsPath (Err fault)
    fault_path (Layer fault) why unlike = layer_end fault refl why.1
    fault_path (Form line) (sheet, read, bad) unlike = read_end sheet read (form_end line refl bad)
    fault_path (Count segments lines) why unlike =
        read_end why.sheet why.read
        (listed_end why.lists why.certificate
        (count_end (ap₂ (λ (s l : ℕ). Err (Count s l)) (sym why.segments_are) (sym why.lines_are))
        (λ same. why.differ (sym why.segments_are ∙ (same ∙ why.lines_are)))))
    fault_path (WrongSegment path number) why unlike =
        read_end why.sheet why.read
        (listed_end why.lists why.certificate (wrong_end path number refl why.counted
        (first_of tin (sheet_segments why.sheet) why.lists path number why.first)))
    fault_path (Differs place) why unlike = read_end why.sheet why.read
        (listed_end why.lists why.certificate (right_end why.are_right why.images why.are_images
        (other_end place refl why.first)))
    fault_path NoMemory why unlike = absurd (unlike refl)

    certified_path : IsCertified tin source written reads text cert → IsPath (Ok tt)
    certified_path is =
        let done = is.migrated in read_end done.sheet done.read
        (listed_end is.lists is.certificate (right_end is.are_right done.images done.are_images
        (same_end refl done.written_is)))

    end_path : (end : End) → IsCertEnd tin source written reads refuses text cert end → IsPath end
    end_path (Ok done) is = certified_path is
    end_path (Err fault) (why, unlike) = fault_path fault why unlike

-- where the format's texts have one sheet or one first fault
pub ends_once : (reads : How → List ℕ → Contents → Type 0) (refuses : How → List ℕ → LayerFault → Type 0)
    (text : List ℕ → How → Contents → Runs → Edit → List ℕ) → OutcomeIsOne reads refuses
    → CertificatesEndOnce reads refuses text
ends_once reads refuses text texts how tin source written cert sound a b x y =
    path_one tin source written (reads how source) (refuses how source) (text source how) cert sound (texts how source)
    a b
    (end_path tin source written (reads how source) (refuses how source) (text source how) cert sound (texts how source)
    a x)
    (end_path tin source written (reads how source) (refuses how source) (text source how) cert sound (texts how source)
    b y)
