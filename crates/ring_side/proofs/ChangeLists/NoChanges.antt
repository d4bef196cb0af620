-- A group whose points and images are on one side of a ring has no changes.
use Rattle.std.proofs.Common.{◌≡◌, ℕ, ◌<◌, List, [], ◌∷◌, length, map, refl, ap, sym, ◌∙◌, subst, arith}
use Rattle.std.specs.Prelude.{flat_map}
use Rattle.std.proofs.lemmas.Grind.{flat_map-append}
use Rattle.plane_base.specs.declared.shapes.Pt.{Pt}
use Rattle.plane_base.specs.declared.shapes.Rect.{Rect}
use Rattle.sheet_base.specs.Sheets.{Contents}
use Rattle.sheet_base.specs.ImageFits.{Runs}
use Rattle.tin_base.specs.declared.frames.Frame.TheVariants.{Source, Target}
use Rattle.ring_side.specs.declared.kinds.Side.{Side}
use Rattle.ring_side.specs.declared.kinds.Side.TheVariants.{Inside}
use Rattle.ring_side.specs.declared.kinds.Spot.{Spot}
use Rattle.ring_side.specs.declared.kinds.SideChange.{SideChange}
use Rattle.ring_side.specs.declared.groups.Group.{Group}
use Rattle.ring_side.specs.Sides.{side_of}
use Rattle.ring_side.specs.SideChanges.{point_change, point_from, place_of, ring_of, spots_of}
use Rattle.ring_side.specs.InsideParts.{HasAll}
use Rattle.ring_side.specs.InsideGroups.{AreGroupsOf, AreBoxesOf, box_at, spots_in, group_at}
use Rattle.ring_side.specs.InsideClear.{HasSide, IsQuiet}

-- one point
same_side : (s : Side) (layer path : ℕ) (spot : Spot) → point_from layer path spot s s ≡ []
same_side Inside layer path spot = refl
same_side s layer path spot = refl

pub none_of_spot : (sheets : List Contents) (images : List Runs) (layer path : ℕ) (side : Side) (spot : Spot)
    → side_of (ring_of sheets images Source layer path) (place_of sheets images Source spot) ≡ side
    → side_of (ring_of sheets images Target layer path) (place_of sheets images Target spot) ≡ side
    → point_change sheets images layer path spot ≡ []
none_of_spot sheets images layer path side spot was now = grind (arith, same_side)

-- the points of boxes with one side
none_of_spots : (sheets : List Contents) (images : List Runs) (layer path : ℕ) (p q : Rect) (side : Side) (spots : List Spot)
    → HasSide p (ring_of sheets images Source layer path) side → HasSide q (ring_of sheets images Target layer path) side
    → HasAll p (map (place_of sheets images Source) spots) → HasAll q (map (place_of sheets images Target) spots)
    → flat_map (point_change sheets images layer path) spots ≡ []
none_of_spots sheets images layer path p q side [] was now hp hq = refl
none_of_spots sheets images layer path p q side (spot ∷ spots) was now hp hq =
    grind (arith, none_of_spot, (none_of_spots sheets images layer path p q side spots was now hp.1 hq.1))

-- a group whose boxes have one side
pub none_of_group : (sheets : List Contents) (images : List Runs) (layer path : ℕ) (points written : List Pt) (groups : List Group)
    (source target : List Rect) (k : ℕ)
    → points ≡ ring_of sheets images Source layer path → written ≡ ring_of sheets images Target layer path
    → AreBoxesOf sheets images Source groups source → AreBoxesOf sheets images Target groups target → k < length groups
    → IsQuiet points written (box_at source k) (box_at target k)
    → flat_map (point_change sheets images layer path) (spots_in (group_at groups k)) ≡ []
none_of_group sheets images layer path points written groups source target k e f of_source of_target within quiet =
    none_of_spots sheets images layer path (box_at source k) (box_at target k) quiet.side (spots_in (group_at groups k))
    (subst (λ (ps : List Pt). HasSide (box_at source k) ps quiet.side) e quiet.source)
    (subst (λ (ps : List Pt). HasSide (box_at target k) ps quiet.side) f quiet.target)
    (of_source.each k within).has (of_target.each k within).has

-- the changes of all points are those of all groups
flat_twice : (f : Spot → List SideChange) (groups : List Group)
    → flat_map f (flat_map spots_in groups) ≡ flat_map (λ (g : Group). flat_map f (spots_in g)) groups
flat_twice f [] = refl
flat_twice f (g ∷ groups) = grind (arith, flat_map-append, (flat_twice f groups))

pub all_groups : (sheets : List Contents) (f : Spot → List SideChange) (groups : List Group) → AreGroupsOf sheets groups
    → flat_map f (spots_of sheets) ≡ flat_map (λ (g : Group). flat_map f (spots_in g)) groups
all_groups sheets f groups are = ap (flat_map f) (sym are.all) ∙ flat_twice f groups
