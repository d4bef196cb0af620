-- A change has one pair of sides, one gap and one place, if a place is that of one piece.
use Rattle.std.proofs.Common.{◌≡◌, ℕ, List, [], ◌∷◌, refl, sym, ◌∙◌, ap, ap₂, subst}
use Rattle.plane_base.specs.declared.shapes.Pt.{Pt}
use Rattle.tin_base.specs.declared.pieces.Change.{Change}
use Rattle.tin_base.specs.declared.pieces.Piece.{Piece}
use Rattle.tin_base.specs.declared.pieces.Place.{Place}
use Rattle.tin_base.specs.declared.relations.Rel.{Rel}
use Rattle.seg_gap.specs.Gaps.{IsGap}
use Rattle.seg_gap.specs.Ends.{IsNearestEnd}
use Rattle.seg_gap.proofs.GapLaws.{gap_is_one}
use Rattle.seg_gap.proofs.NearestEnds.{nearest_end_is_one}
use Rattle.change_places.specs.Words.{PathText, SideText, ChangeText}
use Rattle.place_runs.specs.Places.{IsSideOf, IsSpotOf, AreSpotsOf}
use Rattle.place_runs.specs.InsideMaps.{IsEachOne}

-- ---- values with the same parts
abbrev side_from : Place → PathText → Pt → Pt → SideText
side_from from spot a b = record { from = from; path = spot; a = a; b = b }

same_side : (x y : SideText) → x.from ≡ y.from → x.path ≡ y.path → x.a ≡ y.a → x.b ≡ y.b → x ≡ y
same_side x y froms spots firsts lasts =
    ap (λ (p : Place). side_from p x.path x.a x.b) froms
    ∙ (ap (λ (s : PathText). side_from y.from s x.a x.b) spots
    ∙ (ap (λ (p : Pt). side_from y.from y.path p x.b) firsts ∙ ap (λ (p : Pt). side_from y.from y.path y.a p) lasts))

abbrev spot_from : SideText → SideText → Rel → Rel → ℕ → Pt → ChangeText
spot_from first second was now gap place =
    record { first = first; second = second; was = was; now = now; gap = gap; place = place }

same_spot : (x y : ChangeText) → x.first ≡ y.first → x.second ≡ y.second → x.was ≡ y.was → x.now ≡ y.now → x.gap ≡ y.gap
    → x.place ≡ y.place → x ≡ y
same_spot x y firsts seconds before after gaps places =
    ap (λ (s : SideText). spot_from s x.second x.was x.now x.gap x.place) firsts
    ∙ (ap (λ (s : SideText). spot_from y.first s x.was x.now x.gap x.place) seconds
    ∙ (ap (λ (r : Rel). spot_from y.first y.second r x.now x.gap x.place) before
    ∙ (ap (λ (r : Rel). spot_from y.first y.second y.was r x.gap x.place) after
    ∙ (ap (λ (g : ℕ). spot_from y.first y.second y.was y.now g x.place) gaps
    ∙ ap (λ (p : Pt). spot_from y.first y.second y.was y.now y.gap p) places))))

gap_moved : (x y : ChangeText) → x.first ≡ y.first → x.second ≡ y.second
    → IsGap x.first.a x.first.b x.second.a x.second.b x.gap → IsGap y.first.a y.first.b y.second.a y.second.b x.gap
gap_moved x y first second is =
    subst (λ (s : SideText). IsGap y.first.a y.first.b s.a s.b x.gap) second
    (subst (λ (s : SideText). IsGap s.a s.b x.second.a x.second.b x.gap) first is)

place_moved : (x y : ChangeText) → x.first ≡ y.first → x.second ≡ y.second
    → IsNearestEnd x.first.a x.first.b x.second.a x.second.b x.place
    → IsNearestEnd y.first.a y.first.b y.second.a y.second.b x.place
place_moved x y first second is =
    subst (λ (s : SideText). IsNearestEnd y.first.a y.first.b s.a s.b x.place) second
    (subst (λ (s : SideText). IsNearestEnd s.a s.b x.second.a x.second.b x.place) first is)

-- ---- the sides of a change
module _ (pieces : List Piece) (one : IsEachOne pieces) where
  side_one : (places : List (List PathText)) (from : Place) (a b : SideText) → IsSideOf pieces places from a
      → IsSideOf pieces places from b → a ≡ b
  side_one places from a b x y =
      let same : x.piece ≡ y.piece =
      one from x.piece y.piece (record { is_some = x.is_some; from = x.place })
      (record { is_some = y.is_some; from = y.place }) in
      let froms : a.from ≡ b.from = x.from_is ∙ sym y.from_is in
      let spots : a.path ≡ b.path = x.path_is ∙ sym y.path_is in
      let firsts : a.a ≡ b.a = x.a_is ∙ (ap (λ (p : Piece). p.ia) same ∙ sym y.a_is) in
      let lasts : a.b ≡ b.b = x.b_is ∙ (ap (λ (p : Piece). p.ib) same ∙ sym y.b_is) in
      same_side a b froms spots firsts lasts

  pub spot_one : (places : List (List PathText)) (change : Change) (a b : ChangeText) → IsSpotOf pieces places change a
      → IsSpotOf pieces places change b → a ≡ b
  spot_one places change a b x y =
      let first : a.first ≡ b.first = side_one places change.first a.first b.first x.first y.first in
      let second : a.second ≡ b.second = side_one places change.second a.second b.second x.second y.second in
      let gap : a.gap ≡ b.gap = gap_is_one b.first.a b.first.b b.second.a b.second.b a.gap b.gap
      (gap_moved a b first second x.gap_is) y.gap_is in
      let place : a.place ≡ b.place = nearest_end_is_one b.first.a b.first.b b.second.a b.second.b a.place b.place
      (place_moved a b first second x.place_is) y.place_is in
      same_spot a b first second (x.was_is ∙ sym y.was_is) (x.now_is ∙ sym y.now_is) gap place

  pub spots_one : (places : List (List PathText)) (changes : List Change) (a b : List ChangeText)
      → AreSpotsOf pieces places changes a → AreSpotsOf pieces places changes b → a ≡ b
  spots_one places [] [] [] x y = refl
  spots_one places [] [] (t ∷ b) x y = absurd y
  spots_one places [] (s ∷ a) b x y = absurd x
  spots_one places (change ∷ changes) [] b x y = absurd x
  spots_one places (change ∷ changes) (s ∷ a) [] x y = absurd y
  spots_one places (change ∷ changes) (s ∷ a) (t ∷ b) x y =
      ap₂ (λ (s : ChangeText) (ss : List ChangeText). s ∷ ss) (spot_one places change s t x.0 y.0)
      (spots_one places changes a b x.1 y.1)
