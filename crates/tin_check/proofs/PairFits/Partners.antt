-- Which triangles are looked at: those whose boxes share a point, as a grid reports them. All others fit.
use Rattle.std.proofs.Common.{below_more, ◌≡◌, ◌⊎◌, inl, inr, ℕ, ◌<◌, ◌≤◌, List, ◌+◌, length, get_or, sym, subst, arith}
use Rattle.std.proofs.lemmas.List.{get_or_default}
use Rattle.std.specs.Prelude.{Contains, All}
use Rattle.std.proofs.lemmas.List.Elements.{Contains-get_or, All-contains}
use Rattle.cell_grid.specs.Partners.{IsPartner, ArePartners, IsToldFor, EachPairIsToldOnce}
use Rattle.tin_base.proofs.TriangleLemmas.InOrder.{fit_exchanged}
use Rattle.plane_base.specs.declared.shapes.Rect.{Rect}
use Rattle.plane_base.specs.Boxes.{AreApart, ShareAPoint, ShareAPointOrAreApart}
use Rattle.cell_grid.specs.Boxes.{AreBoxesAt, box_at}
use Rattle.cell_grid.specs.Grids.{Boxes}
use Rattle.tin_base.specs.declared.frames.Frame.{Frame}
use Rattle.tin_base.specs.Triangulation.{Triangulation}
use Rattle.tin_base.specs.Soundness.{DoFit}
use Rattle.tin_check.specs.TriangleBoxes.{IsBoxIn, AreBoxesIn}
use Rattle.tin_check.specs.InsideProgress.{ArePositive, DoAllFit, DoOthersFit}
use Rattle.plane_base.proofs.Bounds.BoxLemmas.{apart_or_not}
use Rattle.tin_check.proofs.PairFits.InBoxes.{box_ordered}
use Rattle.tin_check.proofs.PairFits.Apart.{apart_fit}

-- ---- a triangle whose box is not near fits
-- a triangle is among those of a list that has each box that shares a point, or it fits
shared_or_fit : (tin : Triangulation) (frame : Frame) (t u : ℕ) (p q : Rect) → ShareAPointOrAreApart
    → IsBoxIn tin frame t p → IsBoxIn tin frame u q → ShareAPoint p q ⊎ DoFit tin frame t u
shared_or_fit tin frame t u p q law hp hq = go (apart_or_not p q)
  where
    go : AreApart p q ⊎ (AreApart p q → ⊥) → ShareAPoint p q ⊎ DoFit tin frame t u
    go (inl apart) = inr (apart_fit tin frame t u p q hp hq apart)
    go (inr shared) = inl ((law p q (box_ordered hp.tri p hp.is) (box_ordered hq.tri q hq.is)).shared.1 shared)

turned : (p q : Rect) → ShareAPoint p q → ShareAPoint q p
turned p q shared = (shared.0, shared.2, shared.1)

pub others_fit : (tin : Triangulation) (frame : Frame) (boxes : List Rect) (first : ℕ) (box : Rect)
    (seconds listed : List ℕ) → ShareAPointOrAreApart → AreBoxesIn tin frame (length tin.triangles) boxes
    → IsBoxIn tin frame first box → AreBoxesAt boxes box seconds → listed ≡ seconds
    → DoOthersFit tin frame first listed
others_fit tin frame boxes first box seconds listed law are is near same u after hu =
    go (shared_or_fit tin frame first u box (box_at boxes u) law is (are.each u hu))
  where
    go : ShareAPoint box (box_at boxes u) ⊎ DoFit tin frame first u → Contains listed u ⊎ DoFit tin frame first u
    go (inr fit) = inr fit
    go (inl shared) = inl (subst (λ (ns : List ℕ). Contains ns u) (sym same)
        ((near.exact u).1 (omega (arith, are.count), turned box (box_at boxes u) shared)))

pub near_in_range : (tin : Triangulation) (frame : Frame) (boxes : List Rect) (box : Rect) (seconds listed : List ℕ)
    → AreBoxesIn tin frame (length tin.triangles) boxes → AreBoxesAt boxes box seconds → listed ≡ seconds
    → All (λ second. second < length tin.triangles) listed
near_in_range tin frame boxes box seconds listed are near same k d within =
    let h = ((near.exact (get_or listed k d)).0
    (subst (λ (ns : List ℕ). Contains ns (get_or listed k d)) same (Contains-get_or listed k d within))).0 in
    omega (arith, are.count)

-- ---- the triangles that are looked at, where each pair of boxes that share a point is reported for one of the two
pub partners_in_range : (tin : Triangulation) (frame : Frame) (grid : Boxes) (t : ℕ) (found listed : List ℕ)
    → AreBoxesIn tin frame (length tin.triangles) grid.boxes → ArePartners grid t found → listed ≡ found
    → All (λ other. other < length tin.triangles) listed
partners_in_range tin frame grid t found listed are partners same k d within =
    let h = ((partners.exact (get_or listed k d)).0
    (subst (λ (ns : List ℕ). Contains ns (get_or listed k d)) same (Contains-get_or listed k d within))).0.0 in
    omega (arith, are.count)

-- the first n triangles fit with their partners
abbrev pub DoPartnersFit : Triangulation → Frame → Boxes → ℕ → Type 0
DoPartnersFit tin frame grid n = (t u : ℕ) → t < n → IsPartner grid t u → DoFit tin frame t u

pub more_partners : (tin : Triangulation) (frame : Frame) (grid : Boxes) (n : ℕ) (found listed : List ℕ)
    → DoPartnersFit tin frame grid n → ArePartners grid n found → listed ≡ found
    → All (λ other. DoFit tin frame n other) listed → DoPartnersFit tin frame grid (n + 1)
more_partners tin frame grid n found listed before partners same fit t u h is =
    below_more (λ k. (u : ℕ) → IsPartner grid k u → DoFit tin frame k u) n (λ k less v of. before k v less of) here t h
    u is
  where
    here : (u : ℕ) → IsPartner grid n u → DoFit tin frame n u
    here u is = All-contains (λ other. DoFit tin frame n other) listed u fit
        (subst (λ (ns : List ℕ). Contains ns u) (sym same) ((partners.exact u).1 is))

pub all_partners_fit : (tin : Triangulation) (frame : Frame) (grid : Boxes) (n : ℕ) → ShareAPointOrAreApart
    → EachPairIsToldOnce → ArePositive tin (length tin.triangles)
    → AreBoxesIn tin frame (length tin.triangles) grid.boxes
    → length tin.triangles ≤ n → DoPartnersFit tin frame grid n → DoAllFit tin frame
all_partners_fit tin frame grid n law once positive are past fit t u order within =
    go (shared_or_fit tin frame t u (box_at grid.boxes t) (box_at grid.boxes u) law (are.each t (omega arith))
    (are.each u within))
  where
    told_for : IsToldFor grid t u ⊎ IsToldFor grid u t → DoFit tin frame t u
    told_for (inl h) = fit t u (omega arith) h.0
    told_for (inr h) = fit_exchanged tin frame u t (positive frame u within) (positive frame t (omega arith))
        (fit u t (omega arith) h.0)

    go : ShareAPoint (box_at grid.boxes t) (box_at grid.boxes u) ⊎ DoFit tin frame t u → DoFit tin frame t u
    go (inr done) = done
    go (inl shared) = told_for (once grid t u (omega (arith, are.count)) (omega (arith, are.count))
        (λ same. absurd (omega arith)) shared)

-- ---- along a list
abbrev pub DoFirstOthersFit : Triangulation → Frame → ℕ → List ℕ → ℕ → Type 0
DoFirstOthersFit tin frame t others n = (k : ℕ) → k < n → DoFit tin frame t (get_or others k 0)

pub one_more_other : (tin : Triangulation) (frame : Frame) (t : ℕ) (others : List ℕ) (n : ℕ)
    → DoFirstOthersFit tin frame t others n → DoFit tin frame t (get_or others n 0)
    → DoFirstOthersFit tin frame t others (n + 1)
one_more_other tin frame t others n before here = below_more (λ k. DoFit tin frame t (get_or others k 0)) n before here

pub all_others : (tin : Triangulation) (frame : Frame) (t : ℕ) (others : List ℕ) (n : ℕ) → length others ≤ n
    → DoFirstOthersFit tin frame t others n → All (λ other. DoFit tin frame t other) others
all_others tin frame t others n past fit k d within =
    subst (λ (u : ℕ). DoFit tin frame t u) (get_or_default others k 0 d within) (fit k (omega arith))
