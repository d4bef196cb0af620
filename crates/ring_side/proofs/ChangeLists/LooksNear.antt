-- The forms of a ring and the corners of all boxes, where a ring is looked at.
use Rattle.std.proofs.Common.{ℕ, ◌<◌, List, length, arith}
use Rattle.sheet_base.specs.Sheets.{Contents}
use Rattle.sheet_base.specs.ImageFits.{Runs}
use Rattle.tin_base.specs.declared.frames.Frame.TheVariants.{Source, Target}
use Rattle.ring_side.specs.declared.changes.Ring.{Ring}
use Rattle.ring_side.specs.declared.changes.Places.{Places}
use Rattle.ring_side.specs.declared.clusters.Cluster.{Cluster}
use Rattle.ring_side.specs.Layers.{AreLayers}
use Rattle.ring_side.specs.SideChanges.{ring_of}
use Rattle.ring_side.specs.InsideForms.{IsForm}
use Rattle.ring_side.specs.InsideChanges.{ArePlaces, IsRing}
use Rattle.ring_side.specs.InsideClusters.{cluster_at}
use Rattle.ring_side.specs.InsideNear.{AreForms, AreCornersNear}
use Rattle.ring_side.specs.declared.forms.Form.{Form}
use Rattle.plane_base.specs.declared.shapes.Pt.{Pt}
use Rattle.ring_side.proofs.ChangeLists.RingFacts.{near_ring, near_form}
use Rattle.ring_side.proofs.RingBoxes.Corners.{corner_near, group_corner_near}

own_form : (form : Form) (points : List Pt) → IsForm form points → IsForm form form.points.now
own_form form points is = grind arith

pub forms_of : (sheets : List Contents) (images : List Runs) (ring : Ring) → AreLayers sheets images
    → IsRing sheets images ring.layer ring.path ring → AreForms ring
forms_of sheets images ring layers is = record {
  source = own_form ring.source (ring_of sheets images Source ring.layer ring.path) is.source;
  target = own_form ring.target (ring_of sheets images Target ring.layer ring.path) is.target;
  near_source =
      near_form ring.source.points.now _ is.source.same (near_ring sheets images Source ring.layer ring.path layers is.is_path);
  near_target =
      near_form ring.target.points.now _ is.target.same (near_ring sheets images Target ring.layer ring.path layers is.is_path);
}

pub corners_near : (sheets : List Contents) (images : List Runs) (places : Places) (ring : Ring) → AreLayers sheets images
    → ArePlaces sheets images places → IsRing sheets images ring.layer ring.path ring → AreCornersNear ring places
corners_near sheets images places ring layers are is =
    let clusters : List Cluster = places.clusters.items in
    let was = are.source.same in let now = are.target.same in record {
      source = λ (k : ℕ) (h : k < length places.source.items).
          group_corner_near sheets images Source ring.layer ring.path places.groups.items places.source.items k ring.source.points.now
          layers is.is_path is.source.same are.groups.each are.source (omega arith);
      target = λ (k : ℕ) (h : k < length places.target.items).
          group_corner_near sheets images Target ring.layer ring.path places.groups.items places.target.items k ring.target.points.now
          layers is.is_path is.target.same are.groups.each are.target (omega arith);
      cluster_source = λ (k : ℕ) (h : k < length clusters).
          corner_near sheets images Source ring.layer ring.path places.groups.items places.order.items places.source.items
          (cluster_at clusters k).first (cluster_at clusters k).past (cluster_at clusters k).source ring.source.points.now layers
          is.is_path is.source.same are.groups.each are.source are.order (are.clusters.laid k h).some
          (are.clusters.laid k h).within (are.clusters.around k h).source;
      cluster_target = λ (k : ℕ) (h : k < length clusters).
          corner_near sheets images Target ring.layer ring.path places.groups.items places.order.items places.target.items
          (cluster_at clusters k).first (cluster_at clusters k).past (cluster_at clusters k).target ring.target.points.now layers
          is.is_path is.target.same are.groups.each are.target are.order (are.clusters.laid k h).some
          (are.clusters.laid k h).within (are.clusters.around k h).target;
    }
