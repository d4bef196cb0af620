-- The pairs of a grid's boxes, piece after piece, and those of both grids.
use Rattle.std.proofs.Common.{◌≡◌, ◌≢◌, ◌⊎◌, inl, inr, ⊎_elim, ℕ, ◌+◌, ◌<◌, ◌≤◌, List, [], ◌∷◌, ◌++◌, length, get_or}
use Rattle.std.proofs.Common.{Contains, min, max, true, false, nat_eq, refl, sym, subst, ◌∙◌, arith}
use Rattle.std.specs.List.{IsDistinct}
use Rattle.std.proofs.lemmas.Bool.{cases_lt, cases_eq}
use Rattle.std.proofs.lemmas.Cmp.{nat_eq_equiv}
use Rattle.std.proofs.lemmas.List.{get_or_default}
use Rattle.std.proofs.lemmas.Map.Keys.{apart_from_distinct}
use Rattle.plane_base.specs.declared.shapes.Rect.{Rect}
use Rattle.plane_base.specs.Boxes.{ShareAPoint, ShareAPointOrAreApart, AreApart}
use Rattle.cell_grid.specs.Boxes.{box_at}
use Rattle.cell_grid.specs.Grids.{Boxes}
use Rattle.cell_grid.specs.Partners.{IsPartner, ArePartners, EachPairIsToldOnce}
use Rattle.tin_base.specs.declared.frames.Frame.{Frame}
use Rattle.tin_base.specs.declared.frames.Frame.TheVariants.{Source, Target}
use Rattle.tin_base.specs.declared.pieces.Piece.{Piece}
use Rattle.tin_base.specs.declared.relations.Rel.TheVariants.{Apart}
use Rattle.tin_base.specs.Triangulation.{Triangulation}
use Rattle.tin_base.specs.Soundness.{IsSound}
use Rattle.topo_check.specs.InsideBoxes.{AreBoxesOf, IsExactBox, IsRoundedBox, rounded_box_of}
use Rattle.topo_check.specs.InsideImages.{IsImageBox}
use Rattle.topo_check.specs.Changes.{piece_at}
use Rattle.topo_check.specs.declared.comparisons.ChangedPair.{ChangedPair}
use Rattle.topo_check.specs.InsidePairs.{IsChanged, IsUnchanged, HasPair, AreCollected, DoesCollect, IsComparedIn}
use Rattle.topo_check.specs.InsidePairs.{IsPairOf}
use Rattle.topo_check.specs.InsidePairs.{IsPairWith, DoShareIn}
use Rattle.topo_check.proofs.Collects.{collect_more, collect_as, collect_none, collect_one}
use Rattle.plane_base.proofs.Bounds.BoxLemmas.{apart_or_not}
use Rattle.topo_check.proofs.InBoxes.{far_had, far_has, rounded_boxed}
use Rattle.topo_check.proofs.Images.{images_had, images_has}

no_truth : true ≡ false → ⊥
no_truth e = cc

-- ---- one pair
pub pair_collected : (tin : Triangulation) (pieces : List Piece) (most : ℕ) (frame : Frame) (first second : ℕ)
    (xs ys : List ChangedPair) (c : ChangedPair) → (c.first ≡ first) × (c.second ≡ second) → IsChanged tin pieces c
    → IsComparedIn frame pieces first second → ys ≡ xs ++ c ∷ []
    → DoesCollect tin pieces most (IsPairOf frame pieces first second) xs ys
pair_collected tin pieces most frame first second xs ys c numbers changed compared items =
    subst (λ (zs : List ChangedPair). DoesCollect tin pieces most (IsPairOf frame pieces first second) xs zs)
    (sym items)
    (collect_one tin pieces most (IsPairOf frame pieces first second) xs c changed (
      subst (λ (n : ℕ). IsComparedIn frame pieces n c.second) (sym numbers.0)
          (subst (λ (n : ℕ). IsComparedIn frame pieces first n) (sym numbers.1) compared),
      numbers.0,
      numbers.1,
    )
    (λ i j m. (numbers.0 ∙ sym m.1, numbers.1 ∙ sym m.2)))

pub pair_unchanged : (tin : Triangulation) (pieces : List Piece) (most : ℕ) (frame : Frame) (first second : ℕ)
    (xs : List ChangedPair) → (IsComparedIn frame pieces first second → IsUnchanged tin pieces first second)
    → DoesCollect tin pieces most (IsPairOf frame pieces first second) xs xs
pair_unchanged tin pieces most frame first second xs same = grind (arith, collect_none)

-- ---- the pairs of one piece
-- one of the first numbers of a list
abbrev pub IsOneOf : List ℕ → ℕ → ℕ → Type 0
IsOneOf others count other = (k : ℕ) × (k < count) × (get_or others k 0 ≡ other)

-- numbers that differ are at one place
pub one_place : (others : List ℕ) (k place : ℕ) → IsDistinct nat_eq others → k < place → place < length others
    → get_or others k 0 ≡ get_or others place 0 → ⊥
one_place others k place once less within e =
    no_truth (sym (subst (λ (n : ℕ). nat_eq (get_or others k 0) n ≡ true) e (nat_eq_equiv.refl (get_or others k 0)))
    ∙ apart_from_distinct nat_eq others k place 0 once less within)

pub with_more : (tin : Triangulation) (pieces : List Piece) (most : ℕ) (frame : Frame) (number : ℕ) (others : List ℕ)
    (place other first second : ℕ) (xs ys zs : List ChangedPair) → IsDistinct nat_eq others → place < length others
    → other ≡ get_or others place 0 → first ≡ min number other → second ≡ max number other
    → DoesCollect tin pieces most (IsPairWith frame pieces number (IsOneOf others place)) xs ys
    → DoesCollect tin pieces most (IsPairOf frame pieces first second) ys zs
    → DoesCollect tin pieces most (IsPairWith frame pieces number (IsOneOf others (place + 1))) xs zs
with_more tin pieces most frame number others place other first second xs ys zs once within at lesser greater before
    here =
    collect_more tin pieces most (IsPairWith frame pieces number (IsOneOf others place))
    (IsPairOf frame pieces first second) (IsPairWith frame pieces number (IsOneOf others (place + 1))) xs ys zs
    before here
    (λ i j less m.
    ⊎_elim
    (λ h. ⊎_elim (λ earlier. inl (m.0, inl (h.0, (h.1.0, earlier, h.1.2))))
    (λ late. let is = from_first i j h.1.0 less h.0 (last h.1.0 h.1.1 late) h.1.2 in inr (m.0, is.0, is.1))
    (cases_lt h.1.0 place))
    (λ h. ⊎_elim (λ earlier. inl (m.0, inr (h.0, (h.1.0, earlier, h.1.2))))
    (λ late. let is = from_second i j h.1.0 less h.0 (last h.1.0 h.1.1 late) h.1.2 in inr (m.0, is.0, is.1))
    (cases_lt h.1.0 place))
    m.1)
    (λ i j less m. (
      m.0,
      ⊎_elim (λ h. inl (h.0, (h.1.0, further h.1.0 h.1.1, h.1.2)))
          (λ h. inr (h.0, (h.1.0, further h.1.0 h.1.1, h.1.2))) m.1,
    ))
    (λ i j less m. (
      m.0,
      ⊎_elim (λ up. inl (first_is i m.1 up, (place, omega arith, second_is j m.2 up)))
          (λ down. inr (second_back j m.2 down, (place, omega arith, first_back i m.1 down))) (cases_lt number other),
    ))
    (λ i j less inside m n.
    ⊎_elim
    (λ h. one_place others h.1.0 place once h.1.1 within (h.1.2 ∙ same_second i j less h.0 n.1 n.2 ∙ at))
    (λ h. one_place others h.1.0 place once h.1.1 within (h.1.2 ∙ same_first i j less h.0 n.1 n.2 ∙ at))
    m.1)
  where
    last : (k : ℕ) → k < place + 1 → place ≤ k → k ≡ place
    last k less late = omega (arith, less, late)

    further : (k : ℕ) → k < place → k < place + 1
    further k less = omega (arith, less)

    number_at : (k n : ℕ) → k ≡ place → get_or others k 0 ≡ n → n ≡ other
    number_at k n e is = sym is ∙ subst (λ (l : ℕ). get_or others l 0 ≡ get_or others place 0) (sym e) refl ∙ sym at

    from_first : (i j k : ℕ) → i < j → i ≡ number → k ≡ place → get_or others k 0 ≡ j → (i ≡ first) × (j ≡ second)
    from_first i j k less e f is = let o = number_at k j f
        is in (omega (arith, less, e, o, lesser), omega (arith, less, e, o, greater))

    from_second : (i j k : ℕ) → i < j → j ≡ number → k ≡ place → get_or others k 0 ≡ i → (i ≡ first) × (j ≡ second)
    from_second i j k less e f is = let o = number_at k i f
        is in (omega (arith, less, e, o, lesser), omega (arith, less, e, o, greater))

    first_is : (i : ℕ) → i ≡ first → number < other → i ≡ number
    first_is i e up = omega (arith, e, up, lesser)

    second_is : (j : ℕ) → j ≡ second → number < other → get_or others place 0 ≡ j
    second_is j e up = omega (arith, e, up, greater, at)

    second_back : (j : ℕ) → j ≡ second → other ≤ number → j ≡ number
    second_back j e down = omega (arith, e, down, greater)

    first_back : (i : ℕ) → i ≡ first → other ≤ number → get_or others place 0 ≡ i
    first_back i e down = omega (arith, e, down, lesser, at)

    same_second : (i j : ℕ) → i < j → i ≡ number → i ≡ first → j ≡ second → j ≡ other
    same_second i j less e f g = omega (arith, less, e, f, g, lesser, greater)

    same_first : (i j : ℕ) → i < j → j ≡ number → i ≡ first → j ≡ second → i ≡ other
    same_first i j less e f g = omega (arith, less, e, f, g, lesser, greater)

pub with_all : (tin : Triangulation) (pieces : List Piece) (most : ℕ) (frame : Frame) (number : ℕ) (others : List ℕ)
    (place : ℕ) (xs ys : List ChangedPair) → place ≤ length others → (length ys ≤ most → length others ≤ place)
    → DoesCollect tin pieces most (IsPairWith frame pieces number (IsOneOf others place)) xs ys
    → DoesCollect tin pieces most (IsPairWith frame pieces number (Contains others)) xs ys
with_all tin pieces most frame number others place xs ys inside past collects =
    collect_as tin pieces most (IsPairWith frame pieces number (IsOneOf others place))
    (IsPairWith frame pieces number (Contains others)) xs ys collects
    (λ i j less m. (
      m.0,
      ⊎_elim (λ h. inl (h.0, listed j h.1.0 h.1.1 h.1.2))
          (λ h. inr (h.0, listed i h.1.0 h.1.1 h.1.2)) m.1,
    ))
    (λ few i j less within m. (
      m.0,
      ⊎_elim (λ h. inl (h.0, one_of (past few) j h.1.0 h.1.1 h.1.2))
          (λ h. inr (h.0, one_of (past few) i h.1.0 h.1.1 h.1.2)) m.1,
    ))
  where
    listed : (n k : ℕ) → k < place → get_or others k 0 ≡ n → Contains others n
    listed n k h e = let here : k < length others =
        omega (arith, h, inside) in (k, here, get_or_default others k n 0 here ∙ e)

    one_of : length others ≤ place → (n k : ℕ) → k < length others → get_or others k n ≡ n → IsOneOf others place n
    one_of all n k h e = (k, omega (arith, h, all), get_or_default others k 0 n h ∙ e)

-- ---- the pairs of the boxes of a grid
-- those that are reported for the boxes before one
abbrev pub IsPairBefore : Frame → List Piece → Boxes → ℕ → ℕ → ℕ → Type 0
IsPairBefore frame pieces grid number i j =
    IsComparedIn frame pieces i j × (((i < number) × IsPartner grid i j) ⊎ ((j < number) × IsPartner grid j i))

not_both : (grid : Boxes) (a b : ℕ) → EachPairIsToldOnce → a ≢ b → IsPartner grid a b → IsPartner grid b a → ⊥
not_both grid a b law differ p q = ⊎_elim (λ t. t.1 q) (λ t. t.1 p) (law grid a b q.0.0 p.0.0 differ q.0.1)

pub not_own : (grid : Boxes) (a b : ℕ) → a ≡ b → IsPartner grid b a → ⊥
not_own grid a b e p = grind (arith, ⊎_elim)

pub before_more : (tin : Triangulation) (pieces : List Piece) (most : ℕ) (frame : Frame) (grid : Boxes) (number : ℕ)
    (partners : List ℕ) (xs ys zs : List ChangedPair) → EachPairIsToldOnce → ArePartners grid number partners
    → DoesCollect tin pieces most (IsPairBefore frame pieces grid number) xs ys
    → DoesCollect tin pieces most (IsPairWith frame pieces number (Contains partners)) ys zs
    → DoesCollect tin pieces most (IsPairBefore frame pieces grid (number + 1)) xs zs
before_more tin pieces most frame grid number partners xs ys zs law are before here =
    collect_more tin pieces most (IsPairBefore frame pieces grid number)
    (IsPairWith frame pieces number (Contains partners)) (IsPairBefore frame pieces grid (number + 1)) xs ys zs
    before here
    (λ i j less m.
    ⊎_elim
    (λ h. ⊎_elim (λ same. inr (m.0, inl (same, (are.exact j).1 (subst (λ (n : ℕ). IsPartner grid n j) same h.1))))
    (λ other. inl (m.0, inl (earlier i h.0 other, h.1))) (cases_eq i number))
    (λ h. ⊎_elim (λ same. inr (m.0, inr (same, (are.exact i).1 (subst (λ (n : ℕ). IsPartner grid n i) same h.1))))
    (λ other. inl (m.0, inr (earlier j h.0 other, h.1))) (cases_eq j number))
    m.1)
    (λ i j less m. (m.0, ⊎_elim (λ h. inl (further i h.0, h.1)) (λ h. inr (further j h.0, h.1)) m.1))
    (λ i j less m. (
      m.0,
      ⊎_elim (λ h. inl (here_too i h.0, subst (λ (n : ℕ). IsPartner grid n j) (sym h.0) ((are.exact j).0 h.1)))
          (λ h. inr (here_too j h.0, subst (λ (n : ℕ). IsPartner grid n i) (sym h.0) ((are.exact i).0 h.1))) m.1,
    ))
    (λ i j less inside m n.
    ⊎_elim
    (λ h. ⊎_elim (λ k. not_before i h.0 k.0) (λ k. not_both grid i j law (λ e. unequal i j less e) h.1
    (subst (λ (l : ℕ). IsPartner grid l i) (sym k.0) ((are.exact i).0 k.1))) n.1)
    (λ h. ⊎_elim (λ k. not_both grid i j law (λ e. unequal i j less e)
    (subst (λ (l : ℕ). IsPartner grid l j) (sym k.0) ((are.exact j).0 k.1)) h.1) (λ k. not_before j h.0 k.0) n.1)
    m.1)
  where
    earlier : (k : ℕ) → k < number + 1 → (k ≡ number → ⊥) → k < number
    earlier k h other = omega (arith, h, other)

    further : (k : ℕ) → k < number → k < number + 1
    further k h = omega (arith, h)

    here_too : (k : ℕ) → k ≡ number → k < number + 1
    here_too k e = omega (arith, e)

    not_before : (k : ℕ) → k < number → k ≡ number → ⊥
    not_before k h e = omega (arith, h, e)

    unequal : (i j : ℕ) → i < j → i ≡ j → ⊥
    unequal i j less e = omega (arith, less, e)

pub before_all : (tin : Triangulation) (pieces : List Piece) (most : ℕ) (frame : Frame) (grid : Boxes) (number : ℕ)
    (xs ys : List ChangedPair) → EachPairIsToldOnce → length grid.boxes ≡ length pieces
    → (length ys ≤ most → length pieces ≤ number)
    → DoesCollect tin pieces most (IsPairBefore frame pieces grid number) xs ys
    → DoesCollect tin pieces most (DoShareIn frame pieces grid.boxes) xs ys
before_all tin pieces most frame grid number xs ys law same past collects =
    collect_as tin pieces most (IsPairBefore frame pieces grid number) (DoShareIn frame pieces grid.boxes) xs ys
    collects
    (λ i j less m. (m.0, ⊎_elim (λ h. let s = h.1.0.1 in (s.0, s.2, s.1)) (λ h. h.1.0.1) m.1))
    (λ few i j less within m. (
      m.0,
      ⊎_elim (λ t. inl (all_before few i (earlier i j less within), t.0)) (λ t. inr (all_before few j within, t.0))
          (law grid i j (in_grid i (earlier i j less within)) (in_grid j within) (λ e. unequal i j less e) m.1),
    ))
  where
    earlier : (i j : ℕ) → i < j → j < length pieces → i < length pieces
    earlier i j less within = omega (arith, less, within)

    in_grid : (k : ℕ) → k < length pieces → k < length grid.boxes
    in_grid k h = omega (arith, h, same)

    all_before : length ys ≤ most → (k : ℕ) → k < length pieces → k < number
    all_before few k h = omega (arith, h, past few)

    unequal : (i j : ℕ) → i < j → i ≡ j → ⊥
    unequal i j less e = omega (arith, less, e)

-- ---- one grid
pub one_collected : (tin : Triangulation) (pieces : List Piece) (most : ℕ) (boxes : List Rect) (ys : List ChangedPair)
    → IsSound tin → ShareAPointOrAreApart → AreBoxesOf (IsImageBox tin) pieces boxes
    → DoesCollect tin pieces most (DoShareIn Target pieces boxes) [] ys → AreCollected tin pieces most ys
one_collected tin pieces most boxes ys sound law images collects = record {
  each = λ c h. ⊎_elim (λ none. absurd (nowhere c none)) (λ is. is.0) (collects.only c h);
  different = collects.once (λ i j d less within. absurd (omega (arith, within)))
      (λ i j less within m has. nowhere has.0 has.1);
  all = λ few i j less within. of_boxes few i j less within (apart_or_not (box_at boxes i) (box_at boxes j));
}
  where
    nowhere : (c : ChangedPair) → Contains [] c → ⊥
    nowhere c h = omega (arith, h.1)

    earlier : (i j : ℕ) → i < j → j < length pieces → i < length pieces
    earlier i j less within = omega (arith, less, within)

    of_boxes : length ys ≤ most → (i j : ℕ) → i < j → j < length pieces
        → AreApart (box_at boxes i) (box_at boxes j) ⊎ (AreApart (box_at boxes i) (box_at boxes j) → ⊥)
        → HasPair ys i j ⊎ IsUnchanged tin pieces i j
    of_boxes few i j less within (inr by) =
        collects.all few i j less within (
          tt,
          (law (box_at boxes i) (box_at boxes j) (images.each i (earlier i j less within)).ordered
              (images.each j within).ordered).shared.1 by,
        )
    of_boxes few i j less within (inl far) = inr (
      Apart,
      images_had tin (piece_at pieces i) (piece_at pieces j) (box_at boxes i) (box_at boxes j) sound
          (images.each i (earlier i j less within)) (images.each j within) far,
      images_has tin (piece_at pieces i) (piece_at pieces j) (box_at boxes i) (box_at boxes j)
          (images.each i (earlier i j less within)) (images.each j within) far,
    )

-- ---- both grids
pub both_collected : (tin : Triangulation) (pieces : List Piece) (most : ℕ) (near boxes : List Rect)
    (ys zs : List ChangedPair) → ShareAPointOrAreApart → AreBoxesOf IsRoundedBox pieces near
    → AreBoxesOf (IsExactBox tin) pieces boxes
    → DoesCollect tin pieces most (DoShareIn Target pieces near) [] ys
    → DoesCollect tin pieces most (DoShareIn Source pieces boxes) ys zs → AreCollected tin pieces most zs
both_collected tin pieces most near boxes ys zs law rounded exact first second = record {
  each = λ c h. ⊎_elim (λ none. absurd (nowhere c none)) (λ is. is.0) (both.only c h);
  different = both.once (λ i j d less within. absurd (omega (arith, within)))
      (λ i j less within m has. nowhere has.0 has.1);
  all = λ few i j less within. of_boxes few i j less within (apart_or_not (image i) (image j))
      (apart_or_not (box_at boxes i) (box_at boxes j));
}
  where
    image : ℕ → Rect
    image i = rounded_box_of (piece_at pieces i)

    earlier : (i j : ℕ) → i < j → j < length pieces → i < length pieces
    earlier i j less within = omega (arith, less, within)

    exact_law : (i j : ℕ) → i < j → j < length pieces → (AreApart (box_at boxes i) (box_at boxes j) → ⊥)
        → ShareAPoint (box_at boxes i) (box_at boxes j)
    exact_law i j less within not = (law (box_at boxes i) (box_at boxes j)
        (exact.each i (earlier i j less within)).ordered (exact.each j within).ordered).shared.1 not

    images_law : (i j : ℕ) → (AreApart (image i) (image j) → ⊥) → ShareAPoint (image i) (image j)
    images_law i j not = (law (image i) (image j) (rounded_boxed (piece_at pieces i)).ordered
        (rounded_boxed (piece_at pieces j)).ordered).shared.1 not

    not_shared : (i j : ℕ) → ShareAPoint (image i) (image j) → AreApart (image i) (image j) → ⊥
    not_shared i j share apart = (law (image i) (image j) (rounded_boxed (piece_at pieces i)).ordered
        (rounded_boxed (piece_at pieces j)).ordered).shared.0 share apart

    to_images : (i j : ℕ) → i < j → j < length pieces → ShareAPoint (box_at near i) (box_at near j)
        → ShareAPoint (image i) (image j)
    to_images i j less within share = grind (arith, image, earlier)

    from_images : (i j : ℕ) → i < j → j < length pieces → ShareAPoint (image i) (image j)
        → ShareAPoint (box_at near i) (box_at near j)
    from_images i j less within share = grind (arith, earlier, image)

    nowhere : (c : ChangedPair) → Contains [] c → ⊥
    nowhere c h = omega (arith, h.1)

    both : DoesCollect tin pieces most (λ i j. DoShareIn Target pieces near i j ⊎ DoShareIn Source pieces boxes i j) []
        zs
    both =
        collect_more tin pieces most (DoShareIn Target pieces near) (DoShareIn Source pieces boxes)
        (λ i j. DoShareIn Target pieces near i j ⊎ DoShareIn Source pieces boxes i j) [] ys zs first second
        (λ i j less m. m) (λ i j less m. inl m) (λ i j less m. inr m)
        (λ i j less within m n. not_shared i j (to_images i j less within m.1) n.0)

    of_boxes : length zs ≤ most → (i j : ℕ) → i < j → j < length pieces
        → AreApart (image i) (image j) ⊎ (AreApart (image i) (image j) → ⊥)
        → AreApart (box_at boxes i) (box_at boxes j) ⊎ (AreApart (box_at boxes i) (box_at boxes j) → ⊥)
        → HasPair zs i j ⊎ IsUnchanged tin pieces i j
    of_boxes few i j less within (inr by) _ =
        both.all few i j less within (inl (tt, from_images i j less within (images_law i j by)))
    of_boxes few i j less within (inl apart) (inr by) =
        both.all few i j less within (inr (apart, exact_law i j less within by))
    of_boxes few i j less within (inl apart) (inl far) = inr (
      Apart,
      far_had tin (piece_at pieces i) (piece_at pieces j) (box_at boxes i) (box_at boxes j)
          (exact.each i (earlier i j less within)) (exact.each j within) far,
      far_has (piece_at pieces i) (piece_at pieces j) apart,
    )

-- more than `most` pairs of the first grid
pub over_collected : (tin : Triangulation) (pieces : List Piece) (most : ℕ) (AreMeant : ℕ → ℕ → Type 0)
    (ys : List ChangedPair) → DoesCollect tin pieces most AreMeant [] ys → most < length ys
    → AreCollected tin pieces most ys
over_collected tin pieces most AreMeant ys collects more = record {
  each = λ c h. ⊎_elim (λ none. absurd (nowhere c none)) (λ is. is.0) (collects.only c h);
  different = collects.once (λ i j d less within. absurd (omega (arith, within)))
      (λ i j less within m has. nowhere has.0 has.1);
  all = λ few i j less within. absurd (omega (arith, few, more));
}
  where
    nowhere : (c : ChangedPair) → Contains [] c → ⊥
    nowhere c h = omega (arith, h.1)
