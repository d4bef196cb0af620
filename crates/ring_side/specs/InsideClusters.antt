-- Clusters of boxes. Only private functions speak of them.
use Rattle.std.specs.Prelude.{◌≡◌, ℕ, zero, suc, ◌<◌, ◌≤◌, List, length, slice_index, slice_index_or, All}
use Rattle.plane_base.specs.declared.shapes.Rect.{Rect}
use Rattle.plane_base.specs.Boxes.{HasBox}
use Rattle.ring_side.specs.declared.clusters.Cluster.{Cluster}
use Rattle.ring_side.specs.InsideTrees.{no_box}
use Rattle.ring_side.specs.InsideGroups.{box_at}

-- the cluster of a place that has none
abbrev pub no_cluster : Cluster
no_cluster = record { source = no_box; target = no_box; first = 0; past = 0; base = 0 }

abbrev pub cluster_at : List Cluster → ℕ → Cluster
cluster_at clusters place = slice_index_or clusters place no_cluster

-- before which place of the order the cluster before a place ends
abbrev pub past_before : List Cluster → ℕ → ℕ
past_before clusters zero = 0
past_before clusters (suc place) = (cluster_at clusters place).past

-- a cluster at a place, of places of an order: its smaller clusters are from `base` to before the place, and the last
-- of them ends where it does
pub record IsCluster (count : ℕ) (clusters : List Cluster) (place : ℕ) (cluster : Cluster) : Type 0 where
  pub base : cluster.base ≤ place
  pub begins : past_before clusters cluster.base ≡ cluster.first
  pub some : cluster.first < cluster.past
  pub within : cluster.past ≤ count
  pub ends : cluster.base < place → past_before clusters place ≡ cluster.past

abbrev pub AreClusters : ℕ → List Cluster → Type 0
AreClusters count clusters = (place : ℕ) → place < length clusters → IsCluster count clusters place (cluster_at clusters place)

-- the smaller clusters of each come before it
abbrev pub AreBasesWithin : List Cluster → Type 0
AreBasesWithin clusters = (place : ℕ) → place < length clusters → (cluster_at clusters place).base ≤ place

-- the least box that has the boxes of some numbers of an order
pub record IsLeastAround (box : Rect) (order : List ℕ) (boxes : List Rect) (first past : ℕ) : Type 0 where
  pub has : (k : ℕ) → first ≤ k → k < past → HasBox box (box_at boxes (slice_index order k))
  pub least : (outer : Rect) → ((k : ℕ) → first ≤ k → k < past → HasBox outer (box_at boxes (slice_index order k)))
      → HasBox outer box

-- the cluster's boxes are the least ones
pub record IsAroundBoxes (order : List ℕ) (sources targets : List Rect) (cluster : Cluster) : Type 0 where
  pub source : IsLeastAround cluster.source order sources cluster.first cluster.past
  pub target : IsLeastAround cluster.target order targets cluster.first cluster.past

-- clusters of the places of an order up to this one
pub record AreClustersUpTo (order : List ℕ) (source target : List Rect) (clusters : List Cluster) (past : ℕ) : Type 0 where
  pub laid : AreClusters (length order) clusters
  pub around : (place : ℕ) → place < length clusters → IsAroundBoxes order source target (cluster_at clusters place)
  pub ends : past_before clusters (length clusters) ≡ past

-- what are clusters up to a place become clusters up to it
abbrev pub DoesKeepClusters : List Cluster → List Cluster → Type 0
DoesKeepClusters olds news = (order : List ℕ) (sources targets : List Rect) (past : ℕ)
    → AreClustersUpTo order sources targets olds past → AreClustersUpTo order sources targets news past

-- clusters of all places
abbrev pub AreClustersOf : List ℕ → List Rect → List Rect → List Cluster → Type 0
AreClustersOf order source target clusters = AreClustersUpTo order source target clusters (length order)

-- the numbers of an order are those of boxes
abbrev pub AreNumbersOf : List ℕ → List Rect → Type 0
AreNumbersOf order boxes = All (λ number. number < length boxes) order
