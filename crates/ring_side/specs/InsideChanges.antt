-- Places and rings while changes are collected. Only private functions speak of them.
use Rattle.std.specs.Prelude.{◌≡◌, ℕ, ◌<◌, ◌≤◌, List, length}
use Rattle.sheet_base.specs.Sheets.{Contents}
use Rattle.sheet_base.specs.ImageFits.{Runs, DoFit}
use Rattle.tin_base.specs.declared.frames.Frame.TheVariants.{Source, Target}
use Rattle.ring_side.specs.declared.rings.TheConstants.{MOST_POINTS}
use Rattle.ring_side.specs.declared.changes.Ring.{Ring}
use Rattle.ring_side.specs.declared.changes.Places.{Places}
use Rattle.ring_side.specs.SideChanges.{ring_of, sheet_at, images_at, path_at}
use Rattle.ring_side.specs.InsideForms.{IsForm}
use Rattle.ring_side.specs.InsideGroups.{IsPath, AreGroupsOf, AreBoxesOf}
use Rattle.ring_side.specs.InsideOrders.{IsOrder}
use Rattle.ring_side.specs.InsideClusters.{AreClustersOf}

-- the groups of all points, a box of each in each frame, an order of them, and its clusters
pub record ArePlaces (sheets : List Contents) (images : List Runs) (places : Places) : Type 0 where
  pub groups : AreGroupsOf sheets places.groups.items
  pub source : AreBoxesOf sheets images Source places.groups.items places.source.items
  pub target : AreBoxesOf sheets images Target places.groups.items places.target.items
  pub order : IsOrder (length places.groups.items) places.order.items
  pub clusters : AreClustersOf places.order.items places.source.items places.target.items places.clusters.items

-- the ring of this path, and its written form
pub record IsRing (sheets : List Contents) (images : List Runs) (layer path : ℕ) (ring : Ring) : Type 0 where
  pub layer_is : ring.layer ≡ layer
  pub path_is : ring.path ≡ path
  pub is_path : IsPath sheets layer path
  pub fit : DoFit (sheet_at sheets layer) (images_at images layer)
  pub within : (path_at (sheet_at sheets layer) path).past ≤ length (sheet_at sheets layer).points
  pub source : IsForm ring.source (ring_of sheets images Source layer path)
  pub target : IsForm ring.target (ring_of sheets images Target layer path)
  pub some : 0 < length (ring_of sheets images Source layer path)
  pub some_now : 0 < length (ring_of sheets images Target layer path)
  pub most : length (ring_of sheets images Source layer path) ≤ MOST_POINTS
  pub most_now : length (ring_of sheets images Target layer path) ≤ MOST_POINTS
