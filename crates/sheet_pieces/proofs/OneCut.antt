-- A segment is cut into pieces in one way: two lists of its parts have one length, the same triangles, and begin and
-- end at the same spots.
use Rattle.std.proofs.Common.{◌≡◌, ◌≢◌, ◌⊎◌, inl, inr, ℕ, zero, suc, ◌*◌, ◌<◌, ◌≤◌, List, [], ◌∷◌, length, refl, sym}
use Rattle.std.proofs.Common.{◌∙◌, ap, ap₂, subst, arith}
use Rattle.plane_base.specs.declared.shapes.Pt.{Pt}
use Rattle.plane_base.proofs.MixLaws.Mixes.{mix_moved}
use Rattle.tin_base.specs.declared.frames.Frame.TheVariants.{Source}
use Rattle.tin_base.specs.Triangulation.{Triangulation, places, numbers_of}
use Rattle.tin_base.specs.Soundness.{IsSound}
use Rattle.tin_base.specs.Segments.{Spot, spot_at, at_a, IsNotAfter, IsSameSpot, IsShared, IsPart, Part, part_at}
use Rattle.tin_base.specs.Segments.{ArePieces, ArePiecesAt, ArePiecesOf}
use Rattle.tin_base.proofs.SegmentSpots.Ends.{IsSpot, no_later_trans, not_both, no_later, before_trans_left, before_trans_right}
use Rattle.affine_image.specs.RoundedImages.{IsRoundedImageAt}
use Rattle.sheet_pieces.specs.SheetImages.{AreEndsOfAllButLast}
use Rattle.tin_base.proofs.SegmentSpots.Spots.{spot-w, same_of_spots}
use Rattle.affine_image.proofs.PlaceImages.{rounded_moved}
use Rattle.affine_image.proofs.RoundedImages.{rounded_images_agree}
use Rattle.sheet_pieces.proofs.PartSequences.{same_or}
use Rattle.plain_laws.proofs.Order.{trichotomy, equal_of_neither}
use Rattle.tin_base.proofs.SegmentSpots.Ends.{up_to_same}

-- ---- the order of spots
same_up : (m n : ℕ) → m ≡ n → m ≤ n
same_up m n e = omega arith

not_sooner : (s t : Spot) → s ≡ t → IsNotAfter s t
not_sooner s t e = rw e (same_up (t.of_b * t.of_a) (t.of_b * t.of_a) refl)

-- ---- the parts of one list among those of another
-- the j-th of others begins and ends where the i-th does
record IsAlike (parts others : List Part) (i j : ℕ) : Type 0 where
  first : IsSameSpot (part_at others j).first (part_at parts i).first
  last : IsSameSpot (part_at others j).last (part_at parts i).last

record HasAlike (parts others : List Part) (i : ℕ) : Type 0 where
  index : ℕ
  within : index < length others
  alike : IsAlike parts others i index

has_alike : (tin : Triangulation) (a b : Pt) (parts others : List Part) (i : ℕ) → ArePieces tin a b parts
    → ArePieces tin a b others → i < length parts → HasAlike parts others i
has_alike tin a b parts others i p q h =
    let (j, within, first, last) = q.every (part_at parts i).triangle (part_at parts i).first (part_at parts i).last
    (p.part i h) in
    record { index = j; within = within; alike = record { first = first; last = last } }

first_some : (tin : Triangulation) (a b : Pt) (parts : List Part) (i : ℕ) → ArePieces tin a b parts → i < length parts
    → IsSpot (part_at parts i).first
first_some tin a b parts i p h = let part = p.part i h in let has = part.has_first in has.some

-- a later part is alike to a later one
later : (tin : Triangulation) (a b : Pt) (parts others : List Part) (i i' j j' : ℕ) → ArePieces tin a b parts
    → ArePieces tin a b others → i < i' → i' < length parts
    → j < length others → j' < length others → IsSameSpot (part_at others j).first (part_at parts i).first
    → IsSameSpot (part_at others j').first (part_at parts i').first → j < j'
later tin a b parts others i i' j j' p q less within near near' same same' = go (trichotomy j j')
  where
    clash : IsNotAfter (part_at others j').first (part_at others j).first → j < j'
    clash up = grind (arith, up_to_same, no_later_trans, first_some, not_both)

    go : (j < j') ⊎ ((j ≡ j') ⊎ (j' < j)) → j < j'
    go (inl h) = h
    go (inr (inl e)) = clash (not_sooner (part_at others j').first (part_at others j).first
        (ap (λ (k : ℕ). (part_at others k).first) (sym e)))
    go (inr (inr h)) = clash (no_later (part_at others j').first (part_at others j).first (q.in_order j' j h near))

-- so no part is alike to one of a lesser number
at_least : (tin : Triangulation) (a b : Pt) (parts others : List Part) (i j : ℕ) → ArePieces tin a b parts
    → ArePieces tin a b others → i < length parts → j < length others
    → IsSameSpot (part_at others j).first (part_at parts i).first → i ≤ j
at_least tin a b parts others zero j p q h near same = omega arith
at_least tin a b parts others (suc i) j p q h near same =
    let h' : i < length parts = omega (arith, h) in
    let before = has_alike tin a b parts others i p q h' in
    let below : i ≤ before.index = let alike =
    before.alike in at_least tin a b parts others i before.index p q h' before.within alike.first in
    let step : before.index < j = let alike =
    before.alike in later tin a b parts others i (suc i) before.index j p q (omega arith) h before.within near
    alike.first same in
    omega (arith, below, step)

record IsAt (parts others : List Part) (i : ℕ) : Type 0 where
  within : i < length others
  alike : IsAlike parts others i i

at_each : (tin : Triangulation) (a b : Pt) (parts others : List Part) (i : ℕ) → ArePieces tin a b parts
    → ArePieces tin a b others → i < length parts → IsAt parts others i
at_each tin a b parts others i p q h =
    let there = has_alike tin a b parts others i p q h in
    let alike = there.alike in
    let up = at_least tin a b parts others i there.index p q h there.within alike.first in
    let down = at_least tin a b others parts there.index i q p there.within h (sym alike.first) in
    let same : there.index ≡ i = omega (arith, up, down) in
    record {
      within = subst (λ (k : ℕ). k < length others) same there.within;
      alike =
          subst (λ (k : ℕ). IsAlike parts others i k) same alike;
    }

up_to : (m n : ℕ) → ((i : ℕ) → i < m → i < n) → m ≤ n
up_to zero n each = omega arith
up_to (suc m) n each = let last = each m (omega arith) in omega (arith, last)

-- ---- a part by other spots at the same places
shared_moved : (tin : Triangulation) (a b : Pt) (t : ℕ) (s r : Spot) → IsSpot r → IsSameSpot r s → IsShared tin a b t s
    → IsShared tin a b t r
shared_moved tin a b t s r some same is = record {
  some = some;
  inside = mix_moved (spot_at a b s) (spot_at a b r) (places tin Source (numbers_of tin t)) (spot-w a b s is.some)
      (same_of_spots a b r s same) is.inside;
}

part_moved : (tin : Triangulation) (a b : Pt) (t : ℕ) (first last begin end : Spot) → IsSpot begin → IsSpot end
    → IsSameSpot begin first → IsSameSpot end last → IsPart tin a b t first last → IsPart tin a b t begin end
part_moved tin a b t first last begin end some_begin some_end same_begin same_end is =
    let has_first = is.has_first in let has_last = is.has_last in
    record {
      in_range = is.in_range;
      has_first = shared_moved tin a b t first begin some_begin same_begin has_first;
      has_last = shared_moved tin a b t last end some_end same_end has_last;
      differ =
          before_trans_right begin last end some_end
          (before_trans_left begin first last some_begin (up_to_same begin first same_begin) is.differ)
          (up_to_same last end (sym same_end));
      none_before = λ s shared. no_later_trans begin first s has_first.some (up_to_same begin first same_begin)
          (is.none_before s shared);
      none_after = λ s shared. no_later_trans s last end has_last.some (is.none_after s shared)
          (up_to_same last end (sym same_end));
    }

-- ---- part by part
-- two spots at one place
pub record AreOne (s t : Spot) : Type 0 where
  pub some : IsSpot s
  pub also : IsSpot t
  pub same : IsSameSpot s t

-- two parts with one triangle, which begin and end at the same places
pub record AreTwins (part other : Part) : Type 0 where
  pub triangle : part.triangle ≡ other.triangle
  pub first : AreOne part.first other.first
  pub last : AreOne part.last other.last

abbrev pub AreAlike : List Part → List Part → Type 0
AreAlike [] [] = Unit {0}
AreAlike [] (other ∷ others) = ⊥
AreAlike (part ∷ parts) [] = ⊥
AreAlike (part ∷ parts) (other ∷ others) = AreTwins part other × AreAlike parts others

all_alike : (parts others : List Part) → length parts ≡ length others
    → ((i : ℕ) → i < length parts → AreTwins (part_at parts i) (part_at others i)) → AreAlike parts others
all_alike [] [] count twins = tt
all_alike (part ∷ parts) (other ∷ others) count twins =
    (twins 0 (omega arith), all_alike parts others (omega (arith, count)) (λ i h. twins (suc i) (omega (arith, h))))
all_alike parts others count twins = absurd (omega (arith, count))

twins_at : (tin : Triangulation) (a b : Pt) (parts others : List Part) (i : ℕ) → ArePieces tin a b parts
    → ArePieces tin a b others → i < length parts → AreTwins (part_at parts i) (part_at others i)
twins_at tin a b parts others i p q h =
    let at = at_each tin a b parts others i p q h in
    let part = p.part i h in let other = q.part i at.within in
    let has_first = part.has_first in let has_last = part.has_last in let also_first =
    other.has_first in let also_last = other.has_last in
    let alike = at.alike in
    record {
      triangle =
          equal_of_neither (part_at parts i).triangle (part_at others i).triangle
          (λ less. q.least i (part_at parts i).triangle at.within less
          (part_moved tin a b (part_at parts i).triangle (part_at parts i).first (part_at parts i).last
          (part_at others i).first (part_at others i).last also_first.some also_last.some alike.first alike.last
          part))
          (λ less. p.least i (part_at others i).triangle h less
          (part_moved tin a b (part_at others i).triangle (part_at others i).first (part_at others i).last
          (part_at parts i).first (part_at parts i).last has_first.some has_last.some (sym alike.first)
          (sym alike.last) other));
      first = record { some = has_first.some; also = also_first.some; same = sym alike.first };
      last = record { some = has_last.some; also = also_last.some; same = sym alike.last };
    }

pieces_alike : (tin : Triangulation) (a b : Pt) (parts others : List Part) → ArePieces tin a b parts
    → ArePieces tin a b others → AreAlike parts others
pieces_alike tin a b parts others p q =
    let up : length parts ≤ length others = up_to (length parts) (length others)
    (λ i h. let at = at_each tin a b parts others i p q h in at.within) in
    let down : length others ≤ length parts =
    up_to (length others) (length parts) (λ i h. let at = at_each tin a b others parts i q p h in at.within) in
    all_alike parts others (omega (arith, up, down)) (λ i h. twins_at tin a b parts others i p q h)

at_first : (s t : Spot) → s ≡ at_a → t ≡ at_a → AreOne s t
at_first s t is too = grind (arith, IsSpot)

point_alike : (tin : Triangulation) (a : Pt) (parts others : List Part) → ArePiecesAt tin a parts
    → ArePiecesAt tin a others → AreAlike parts others
point_alike tin a [] [] p q = tt
point_alike tin a [] (other ∷ []) p (within, has, least, first, last) = absurd (p (other.triangle, within, has))
point_alike tin a (part ∷ []) [] (within, has, least, first, last) q = absurd (q (part.triangle, within, has))
point_alike tin a (part ∷ []) (other ∷ []) (within, has, least, first, last) (within', has', least', first', last') = (
  record {
    triangle = equal_of_neither part.triangle other.triangle (λ less. least' part.triangle less has)
        (λ less. least other.triangle less has');
    first = at_first part.first other.first first first';
    last = at_first part.last other.last last last';
  },
  tt,
)
point_alike tin a (part ∷ next ∷ parts) others p q = absurd p
point_alike tin a parts others p q = absurd q

-- the pieces of one segment, twice
pub cut_alike : (tin : Triangulation) (a b : Pt) (parts others : List Part) → ArePiecesOf tin a b parts
    → ArePiecesOf tin a b others → AreAlike parts others
cut_alike tin a b parts others p q = go (same_or a b)
  where
    go : (a ≡ b) ⊎ (a ≢ b) → AreAlike parts others
    go (inl e) = point_alike tin a parts others (p.0 e) (q.0 e)
    go (inr n) = pieces_alike tin a b parts others (p.1 n) (q.1 n)

pub alike_length : (parts others : List Part) → AreAlike parts others → length parts ≡ length others
alike_length [] [] is = refl
alike_length (part ∷ parts) (other ∷ others) is = let e = alike_length parts others is.1 in omega (arith, e)
alike_length parts others is = absurd is

-- ---- the images of the ends
pub end_one : (tin : Triangulation) (a b : Pt) (s t : Spot) (image picture : Pt) → IsSound tin → AreOne s t
    → IsRoundedImageAt tin (spot_at a b s) image → IsRoundedImageAt tin (spot_at a b t) picture
    → image ≡ picture
end_one tin a b s t image picture sound one i j =
    rounded_images_agree tin (spot_at a b s) image picture sound (spot-w a b s one.some) i
    (rounded_moved tin (spot_at a b t) (spot_at a b s) picture (spot-w a b t one.also) (same_of_spots a b s t one.same)
    j)

pub ends_one : (tin : Triangulation) (a b : Pt) (parts others : List Part) (images pictures : List Pt) → IsSound tin
    → AreAlike parts others → AreEndsOfAllButLast tin a b parts images
    → AreEndsOfAllButLast tin a b others pictures → images ≡ pictures
ends_one tin a b [] (other ∷ others) images pictures sound alike x y = absurd alike
ends_one tin a b (part ∷ parts) [] images pictures sound alike x y = absurd alike
ends_one tin a b (part ∷ []) (other ∷ next ∷ others) images pictures sound alike x y = absurd alike.1
ends_one tin a b (part ∷ next ∷ parts) (other ∷ []) images pictures sound alike x y = absurd alike.1
ends_one tin a b (part ∷ next ∷ parts) (other ∷ then ∷ others) [] pictures sound alike x y = absurd x
ends_one tin a b (part ∷ next ∷ parts) (other ∷ then ∷ others) (image ∷ images) [] sound alike x y = absurd y
ends_one tin a b (part ∷ next ∷ parts) (other ∷ then ∷ others) (image ∷ images) (picture ∷ pictures) sound alike x y =
    let twins = alike.0 in
    ap₂ (λ (p : Pt) (ps : List Pt). p ∷ ps) (end_one tin a b part.last other.last image picture sound twins.last x.0
    y.0)
    (ends_one tin a b (next ∷ parts) (then ∷ others) images pictures sound alike.1 x.1 y.1)
ends_one tin a b parts others images pictures sound alike x y = x ∙ sym y
