-- The groups that may have changes of a ring: from cluster to cluster, and from number to number.
use Rattle.std.proofs.Common.{◌≡◌, ℕ, zero, suc, ◌+◌, ◌-◌, ◌<◌, ◌≤◌, List, [], ◌∷◌, ◌++◌, length, get_or, arith, sym, ◌∙◌, subst, inl, inr}
use Rattle.std.specs.Prelude.{◌⊎◌, ◌↔◌, Contains, slice_index, Option, Some, true}
use Rattle.std.specs.List.Sorted.{IsStrictlyIncreasing}
use Rattle.std.proofs.lemmas.List.Elements.{Contains-append_left, Contains-push, Contains-push_cases}
use Rattle.plane_base.specs.declared.shapes.Pt.{Pt}
use Rattle.plane_base.specs.declared.shapes.Rect.{Rect}
use Rattle.plane_base.specs.Boxes.{HasBox}
use Rattle.plane_base.proofs.Bounds.BoxLemmas.{outer_has}
use Rattle.ring_side.specs.declared.changes.Ring.{Ring}
use Rattle.ring_side.specs.declared.changes.Places.{Places}
use Rattle.ring_side.specs.declared.clusters.Cluster.{Cluster}
use Rattle.ring_side.specs.declared.groups.Group.{Group}
use Rattle.ring_side.specs.InsideGroups.{box_at, group_at, no_group}
use Rattle.ring_side.specs.InsideClear.{IsQuiet, IsSideOfBox, corner_of}
use Rattle.ring_side.specs.Rings.{AreNearTo}
use Rattle.ring_side.specs.InsideTrees.{no_box}
use Rattle.ring_side.specs.declared.kinds.Side.{Side}
use Rattle.ring_side.specs.SideChanges.{is_same_side}
use Rattle.ring_side.specs.InsideClusters.{IsAroundBoxes, AreClustersOf, AreNumbersOf, cluster_at, past_before}
use Rattle.ring_side.specs.InsideNear.{AreSifted, AreCandidates, AreCornersNear, IsOwnGroup, IsQuietGroup}
use Rattle.ring_side.proofs.PointGroups.Spots.{same_default}
use Rattle.ring_side.proofs.SideMembers.{same_side}
use Rattle.ring_side.proofs.PointGroups.ClusterLemmas.{last_past, cluster_as}

low_or : (from k past : ℕ) → from ≤ k → (k < past) ⊎ (past ≤ k)
low_or from k zero h = inr (omega arith)
low_or from zero (suc past) h = inl (omega arith)
low_or from (suc k) (suc past) h = grind (arith, (low_or 0 k past (omega arith)))

-- a number is done with
one_or : (ring : Ring) (places : Places) (numbers : List ℕ) (place k : ℕ) → AreSifted ring places numbers (place + 1)
    → Contains numbers (slice_index places.order.items place) ⊎ IsQuietGroup ring places (slice_index places.order.items place)
    → k < length places.order.items → (k < place + 1) ⊎ (place + 1 ≤ k) → place ≤ k
    → Contains numbers (slice_index places.order.items k) ⊎ IsQuietGroup ring places (slice_index places.order.items k)
one_or ring places numbers place k are one within (inl low) h = grind arith
one_or ring places numbers place k are one within (inr high) h = are.others k high within

sifted_one : (ring : Ring) (places : Places) (numbers : List ℕ) (place : ℕ) → AreSifted ring places numbers (place + 1)
    → Contains numbers (slice_index places.order.items place) ⊎ IsQuietGroup ring places (slice_index places.order.items place)
    → AreSifted ring places numbers place
sifted_one ring places numbers place are one = grind (arith, one_or, low_or)

pub sifted_quiet : (ring : Ring) (places : Places) (numbers : List ℕ) (place past number : ℕ) → past ≡ place + 1
    → number ≡ slice_index places.order.items place → IsQuietGroup ring places number → AreSifted ring places numbers past
    → AreSifted ring places numbers place
sifted_quiet ring places numbers place past number e f quiet are =
    sifted_one ring places numbers place (subst (AreSifted ring places numbers) e are)
    (inr (subst (IsQuietGroup ring places) f quiet))

more_or : (ring : Ring) (places : Places) (numbers : List ℕ) (number n : ℕ) → Contains numbers n ⊎ IsQuietGroup ring places n
    → Contains (numbers ++ number ∷ []) n ⊎ IsQuietGroup ring places n
more_or ring places numbers number n (inl has) = inl (Contains-append_left numbers (number ∷ []) n has)
more_or ring places numbers number n (inr quiet) = inr quiet

among_more : (order numbers : List ℕ) (number n : ℕ) → Contains order number
    → ((m : ℕ) → Contains numbers m → Contains order m) → Contains numbers n ⊎ (number ≡ n) → Contains order n
among_more order numbers number n has among (inl h) = among n h
among_more order numbers number n has among (inr e) = subst (λ (m : ℕ). Contains order m) e has

pub sifted_pushed : (ring : Ring) (places : Places) (numbers more : List ℕ) (place past number : ℕ) → past ≡ place + 1
    → number ≡ slice_index places.order.items place → place < length places.order.items → more ≡ numbers ++ number ∷ []
    → AreSifted ring places numbers past → AreSifted ring places more place
sifted_pushed ring places numbers more place past number e f within g are =
    let order : List ℕ = places.order.items in
    let has : Contains order number = (place, within, same_default order place number 0 within ∙ sym f) in
    subst (λ (ns : List ℕ). AreSifted ring places ns place) (sym g)
    (sifted_one ring places (numbers ++ number ∷ []) place
    (record {
      among = λ (n : ℕ) (h : Contains (numbers ++ number ∷ []) n).
          among_more order numbers number n has are.among (Contains-push_cases numbers number n h);
      others = λ (k : ℕ) (h : place + 1 ≤ k) (i : k < length order).
          more_or ring places numbers number (slice_index order k) (are.others k (omega arith) i);
    })
    (inl (subst (λ (n : ℕ). Contains (numbers ++ number ∷ []) n) f (Contains-push numbers number))))

-- ---- clusters
inner_quiet : (points written : List Pt) (p q r s : Rect) → HasBox p r → HasBox q s → IsQuiet points written p q → IsQuiet points written r s
inner_quiet points written p q r s h i quiet = grind (arith, outer_has)

sifted_cluster : (ring : Ring) (places : Places) (numbers : List ℕ) (left : ℕ) → 0 < left → left ≤ length places.clusters.items
    → AreClustersOf places.order.items places.source.items places.target.items places.clusters.items
    → IsQuiet ring.source.points.now ring.target.points.now (cluster_at places.clusters.items (left - 1)).source (cluster_at places.clusters.items (left - 1)).target
    → AreSifted ring places numbers (past_before places.clusters.items left)
    → AreSifted ring places numbers (past_before places.clusters.items (cluster_at places.clusters.items (left - 1)).base)
sifted_cluster ring places numbers left some within are quiet before =
    let clusters : List Cluster = places.clusters.items in
    let cluster : Cluster = cluster_at clusters (left - 1) in
    let inside : left - 1 < length clusters = omega arith in
    let is = are.laid (left - 1) inside in
    let around : IsAroundBoxes places.order.items places.source.items places.target.items cluster = are.around (left - 1) inside in
    subst (AreSifted ring places numbers) (sym is.begins)
    (record {
      among = before.among;
      others = λ (k : ℕ) (h : cluster.first ≤ k) (i : k < length places.order.items).
          in_or k h i around (low_or 0 k cluster.past (omega arith));
    })
  where
    in_or : (k : ℕ) → (cluster_at places.clusters.items (left - 1)).first ≤ k → k < length places.order.items
        → IsAroundBoxes places.order.items places.source.items places.target.items (cluster_at places.clusters.items (left - 1))
        → (k < (cluster_at places.clusters.items (left - 1)).past) ⊎ ((cluster_at places.clusters.items (left - 1)).past ≤ k)
        → Contains numbers (slice_index places.order.items k) ⊎ IsQuietGroup ring places (slice_index places.order.items k)
    in_or k h i around (inl low) = grind (arith, inner_quiet)
    in_or k h i around (inr high) =
        let e = last_past places.clusters.items left some in before.others k (omega (arith, e, high)) i

sifted_enters : (ring : Ring) (places : Places) (numbers : List ℕ) (left : ℕ) → 0 < left → left ≤ length places.clusters.items
    → AreClustersOf places.order.items places.source.items places.target.items places.clusters.items
    → (cluster_at places.clusters.items (left - 1)).base < left - 1
    → AreSifted ring places numbers (past_before places.clusters.items left)
    → AreSifted ring places numbers (past_before places.clusters.items (left - 1))
sifted_enters ring places numbers left some within are smaller before = grind (arith, last_past)

-- a cluster that is read at its place is done with
pub skip_cluster : (ring : Ring) (places : Places) (numbers : List ℕ) (left : ℕ) (cluster : Cluster) → 0 < left
    → left ≤ length places.clusters.items → cluster ≡ get_or places.clusters.items (left - 1) cluster
    → AreClustersOf places.order.items places.source.items places.target.items places.clusters.items
    → IsQuiet ring.source.points.now ring.target.points.now cluster.source cluster.target
    → AreSifted ring places numbers (past_before places.clusters.items left)
    → (cluster.base ≤ length places.clusters.items) × AreSifted ring places numbers (past_before places.clusters.items cluster.base)
skip_cluster ring places numbers left cluster some within e are quiet before = grind (arith, cluster_as, sifted_cluster)

pub enter_cluster : (ring : Ring) (places : Places) (numbers : List ℕ) (left : ℕ) (cluster : Cluster) → 0 < left
    → left ≤ length places.clusters.items → cluster ≡ get_or places.clusters.items (left - 1) cluster
    → AreClustersOf places.order.items places.source.items places.target.items places.clusters.items
    → cluster.base < left - 1 → AreSifted ring places numbers (past_before places.clusters.items left)
    → (left - 1 ≤ length places.clusters.items) × AreSifted ring places numbers (past_before places.clusters.items (left - 1))
enter_cluster ring places numbers left cluster some within e are smaller before =
    grind (arith, cluster_as, sifted_enters)

pub leave_cluster : (ring : Ring) (places : Places) (numbers : List ℕ) (left : ℕ) (cluster : Cluster) → 0 < left
    → left ≤ length places.clusters.items → cluster ≡ get_or places.clusters.items (left - 1) cluster
    → AreClustersOf places.order.items places.source.items places.target.items places.clusters.items
    → AreSifted ring places numbers cluster.first
    → (cluster.base ≤ length places.clusters.items) × AreSifted ring places numbers (past_before places.clusters.items cluster.base)
leave_cluster ring places numbers left cluster some within e are after = grind (arith, cluster_as)

pub corners_of : (ring : Ring) (places : Places) (left : ℕ) (cluster : Cluster) → 0 < left → left ≤ length places.clusters.items
    → cluster ≡ get_or places.clusters.items (left - 1) cluster → AreCornersNear ring places
    → AreNearTo ring.source.points.now (corner_of cluster.source) × AreNearTo ring.target.points.now (corner_of cluster.target)
corners_of ring places left cluster some within e near = grind (arith, cluster_as)

-- a number and its boxes, as they are read
pub number_as : (order : List ℕ) (place number : ℕ) → place < length order → number ≡ get_or order place number
    → number ≡ slice_index order place
number_as order place number within e = e ∙ same_default order place number 0 within

box_as : (boxes : List Rect) (k : ℕ) (box : Rect) → k < length boxes → box ≡ get_or boxes k box → box ≡ box_at boxes k
box_as boxes k box within e = e ∙ same_default boxes k box no_box within

pub number_in : (order : List ℕ) (boxes : List Rect) (place number : ℕ) → AreNumbersOf order boxes → place < length order
    → number ≡ get_or order place number → number < length boxes
number_in order boxes place number numbers within e =
    subst (λ (n : ℕ). n < length boxes) (sym (number_as order place number within e)) (numbers place 0 within)

pub corner_as : (points : List Pt) (boxes : List Rect) (k : ℕ) (box : Rect) → k < length boxes → box ≡ get_or boxes k box
    → AreNearTo points (corner_of (box_at boxes k)) → AreNearTo points (corner_of box)
corner_as points boxes k box within e near =
    subst (λ (r : Rect). AreNearTo points (corner_of r)) (sym (box_as boxes k box within e)) near

pub own_as : (ring : Ring) (groups : List Group) (k : ℕ) (group : Group) → k < length groups → group ≡ get_or groups k group
    → IsOwnGroup ring group → IsOwnGroup ring (group_at groups k)
own_as ring groups k group within e own =
    subst (IsOwnGroup ring) (e ∙ same_default groups k group no_group within) own

pub quiet_as : (points written : List Pt) (sources targets : List Rect) (k : ℕ) (p q : Rect) → k < length sources → k < length targets
    → p ≡ get_or sources k p → q ≡ get_or targets k q → IsQuiet points written p q
    → IsQuiet points written (box_at sources k) (box_at targets k)
quiet_as points written sources targets k p q h i e f quiet = grind (arith, box_as)

pub candidates_of : (ring : Ring) (places : Places) (numbers sorted : List ℕ) → AreSifted ring places numbers 0
    → IsStrictlyIncreasing sorted → ((n : ℕ) → Contains sorted n ↔ Contains numbers n) → AreCandidates ring places sorted
candidates_of ring places numbers sorted are rises same = record {
  ascending = rises;
  among = λ (n : ℕ) (h : Contains sorted n). are.among n ((same n).0 h);
  others = λ (k : ℕ) (h : k < length places.order.items).
      sorted_or (slice_index places.order.items k) (are.others k (omega arith) h);
}
  where
    sorted_or : (n : ℕ) → Contains numbers n ⊎ IsQuietGroup ring places n → Contains sorted n ⊎ IsQuietGroup ring places n
    sorted_or n (inl has) = inl ((same n).1 has)
    sorted_or n (inr quiet) = inr quiet

pub quiet_by : (points written : List Pt) (p q : Rect) (first second : Option Side) (was now : Side) → first ≡ Some was → second ≡ Some now
    → is_same_side was now ≡ true → IsSideOfBox p points first → IsSideOfBox q written second → IsQuiet points written p q
quiet_by points written p q first second was now e f g on_p on_q = grind (arith, same_side)
