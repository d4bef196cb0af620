-- The groups that may have changes of a ring. Only private functions speak of them.
use Rattle.std.specs.Prelude.{◌≡◌, ◌⊎◌, ℕ, ◌<◌, ◌≤◌, List, length, Contains, slice_index}
use Rattle.std.specs.List.Sorted.{IsStrictlyIncreasing}
use Rattle.ring_side.specs.declared.changes.Ring.{Ring}
use Rattle.ring_side.specs.declared.changes.Places.{Places}
use Rattle.ring_side.specs.Rings.{AreNear, AreNearTo}
use Rattle.ring_side.specs.InsideForms.{IsForm}
use Rattle.ring_side.specs.declared.groups.Group.{Group}
use Rattle.ring_side.specs.InsideGroups.{box_at, group_at}
use Rattle.ring_side.specs.InsideClear.{IsQuiet, corner_of}
use Rattle.ring_side.specs.InsideClusters.{cluster_at}

-- the forms of a ring
pub record AreForms (ring : Ring) : Type 0 where
  pub source : IsForm ring.source ring.source.points.now
  pub target : IsForm ring.target ring.target.points.now
  pub near_source : AreNear ring.source.points.now
  pub near_target : AreNear ring.target.points.now

-- the corners of all boxes are near the points of a ring
pub record AreCornersNear (ring : Ring) (places : Places) : Type 0 where
  pub source : (k : ℕ) → k < length places.source.items → AreNearTo ring.source.points.now (corner_of (box_at places.source.items k))
  pub target : (k : ℕ) → k < length places.target.items → AreNearTo ring.target.points.now (corner_of (box_at places.target.items k))
  pub cluster_source : (k : ℕ) → k < length places.clusters.items
      → AreNearTo ring.source.points.now (corner_of (cluster_at places.clusters.items k).source)
  pub cluster_target : (k : ℕ) → k < length places.clusters.items
      → AreNearTo ring.target.points.now (corner_of (cluster_at places.clusters.items k).target)

-- the group has points of the ring itself
pub record IsOwnGroup (ring : Ring) (group : Group) : Type 0 where
  pub layer : group.layer ≡ ring.layer
  pub path : group.path ≡ ring.path

-- all points of the group of this number are on one side of the ring, and their images, too, or they are the ring's own
abbrev pub IsQuietGroup : Ring → Places → ℕ → Type 0
IsQuietGroup ring places number =
    IsQuiet ring.source.points.now ring.target.points.now (box_at places.source.items number) (box_at places.target.items number)
    ⊎ IsOwnGroup ring (group_at places.groups.items number)

-- some numbers of the order, and from a place on all those of groups that are not quiet
pub record AreSifted (ring : Ring) (places : Places) (numbers : List ℕ) (from : ℕ) : Type 0 where
  pub among : (number : ℕ) → Contains numbers number → Contains places.order.items number
  pub others : (k : ℕ) → from ≤ k → k < length places.order.items
      → Contains numbers (slice_index places.order.items k) ⊎ IsQuietGroup ring places (slice_index places.order.items k)

-- some numbers of the order, ascending, and all those of groups that are not quiet
pub record AreCandidates (ring : Ring) (places : Places) (numbers : List ℕ) : Type 0 where
  pub ascending : IsStrictlyIncreasing numbers
  pub among : (number : ℕ) → Contains numbers number → Contains places.order.items number
  pub others : (k : ℕ) → k < length places.order.items
      → Contains numbers (slice_index places.order.items k) ⊎ IsQuietGroup ring places (slice_index places.order.items k)
