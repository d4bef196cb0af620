-- In each change of a side or a direction the two differ.
use Rattle.std.proofs.Common.{◌≡◌, ℕ, ◌+◌, Bool, true, false, cond, List, [], ◌∷◌, ◌++◌, flat_map, refl, sym, subst}
use Rattle.std.specs.List.{AllByRecursion}
use Rattle.plain_laws.proofs.Lists.{all_append}
use Rattle.sheet_base.specs.declared.paths.PathKind.{PathKind}
use Rattle.sheet_base.specs.declared.paths.PathKind.TheVariants.{Loop}
use Rattle.sheet_base.specs.declared.paths.PathRow.{PathRow}
use Rattle.sheet_base.specs.Sheets.{Contents}
use Rattle.sheet_base.specs.ImageFits.{Runs}
use Rattle.ring_side.specs.declared.kinds.Side.{Side}
use Rattle.ring_side.specs.declared.kinds.Way.{Way}
use Rattle.ring_side.specs.declared.kinds.Spot.{Spot}
use Rattle.ring_side.specs.declared.kinds.SideChange.{SideChange}
use Rattle.ring_side.specs.declared.kinds.SideChange.TheVariants.{Turn, Point}
use Rattle.ring_side.specs.Differences.{DoesDiffer}
use Rattle.ring_side.specs.SideChanges.{is_same_way, is_same_side, turn_from, point_from, point_change}
use Rattle.ring_side.specs.SideChanges.{ring_changes, path_changes, paths_changes, layers_changes, side_changes_of}
use Rattle.ring_side.proofs.SideMembers.{differ_way, differ_side}
use Rattle.std.proofs.Common.{arith}

by_test : (same : Bool) (change : SideChange) → (same ≡ false → DoesDiffer change)
    → AllByRecursion DoesDiffer (cond same [] (change ∷ []))
by_test true change differs = tt
by_test false change differs = (differs refl, tt)

turn_differs : (layer path : ℕ) (was now : Way) → AllByRecursion DoesDiffer (turn_from layer path was now)
turn_differs layer path was now = by_test (is_same_way was now) (Turn layer path was now) (differ_way was now)

point_differs : (layer path : ℕ) (at : Spot) (was now : Side)
    → AllByRecursion DoesDiffer (point_from layer path at was now)
point_differs layer path at was now = by_test (is_same_side was now) (Point layer path at was now) (differ_side was now)

points_differ : (sheets : List Contents) (images : List Runs) (layer path : ℕ) (spots : List Spot)
    → AllByRecursion DoesDiffer (flat_map (point_change sheets images layer path) spots)
points_differ sheets images layer path [] = tt
points_differ sheets images layer path (spot ∷ spots) =
    grind (arith, all_append, point_differs, (points_differ sheets images layer path spots))

ring_differs : (sheets : List Contents) (images : List Runs) (layer path : ℕ)
    → AllByRecursion DoesDiffer (ring_changes sheets images layer path)
ring_differs sheets images layer path = grind (arith, all_append, turn_differs, points_differ)

path_differs : (sheets : List Contents) (images : List Runs) (layer path : ℕ) (kind : PathKind)
    → AllByRecursion DoesDiffer (path_changes sheets images layer path kind)
path_differs sheets images layer path Loop = ring_differs sheets images layer path
path_differs sheets images layer path _ = tt

paths_differ : (sheets : List Contents) (images : List Runs) (layer path : ℕ) (rows : List PathRow)
    → AllByRecursion DoesDiffer (paths_changes sheets images layer path rows)
paths_differ sheets images layer path [] = tt
paths_differ sheets images layer path (row ∷ rows) =
    grind (arith, all_append, path_differs, (paths_differ sheets images layer (path + 1) rows))

layers_differ : (sheets : List Contents) (images : List Runs) (layer : ℕ) (more : List Contents)
    → AllByRecursion DoesDiffer (layers_changes sheets images layer more)
layers_differ sheets images layer [] = tt
layers_differ sheets images layer (sheet ∷ more) =
    grind (arith, all_append, paths_differ, (layers_differ sheets images (layer + 1) more))

changes_differ : (sheets : List Contents) (images : List Runs)
    → AllByRecursion DoesDiffer (side_changes_of sheets images)
changes_differ sheets images = layers_differ sheets images 0 sheets

front_differs : (front rest : List SideChange) → AllByRecursion DoesDiffer (front ++ rest)
    → AllByRecursion DoesDiffer front
front_differs [] rest all = tt
front_differs (change ∷ front) rest all = (all.0, front_differs front rest all.1)

-- the first changes of all
pub first_differ : (sheets : List Contents) (images : List Runs) (front rest : List SideChange)
    → front ++ rest ≡ side_changes_of sheets images → AllByRecursion DoesDiffer front
first_differ sheets images front rest joined =
    front_differs front rest (subst (AllByRecursion DoesDiffer) (sym joined) (changes_differ sheets images))
