-- Clusters: one more, joined ones, and the walk over them.
use Rattle.std.proofs.Common.{◌≡◌, ℕ, zero, suc, ◌+◌, ◌-◌, ◌<◌, ◌≤◌, List, [], ◌∷◌, ◌++◌, length, get_or, arith, refl, ap, sym, ◌∙◌, subst, inl, inr, length-append}
use Rattle.std.specs.Prelude.{◌⊎◌, slice_index}
use Rattle.std.proofs.Math.ListN.{get_or-append}
use Rattle.std.proofs.Math.Seq.{get_or-append_seam}
use Rattle.plain_laws.proofs.Order.{at_or_before}
use Rattle.plane_base.specs.declared.shapes.Rect.{Rect}
use Rattle.plane_base.specs.Boxes.{HasBox, box_of_boxes}
use Rattle.plane_base.proofs.Bounds.BoxLemmas.{joined_has, joined_least, outer_box}
use Rattle.ring_side.specs.declared.clusters.Cluster.{Cluster}
use Rattle.ring_side.specs.InsideGroups.{box_at}
use Rattle.ring_side.specs.InsideClusters.{IsCluster, IsLeastAround, IsAroundBoxes, AreClustersUpTo, AreBasesWithin, DoesKeepClusters, cluster_at, no_cluster, past_before}
use Rattle.ring_side.proofs.PointGroups.Spots.{same_default}

-- ---- one more cluster
past_same : (clusters more : List Cluster) (k : ℕ) → k ≤ length clusters
    → past_before (clusters ++ more) k ≡ past_before clusters k
past_same clusters more zero h = refl
past_same clusters more (suc k) h = ap (λ (c : Cluster). c.past) (get_or-append clusters more no_cluster k (omega arith))

still_cluster : (count : ℕ) (clusters more : List Cluster) (place : ℕ) (cluster : Cluster) → place ≤ length clusters
    → IsCluster count clusters place cluster → IsCluster count (clusters ++ more) place cluster
still_cluster count clusters more place cluster within is = grind (arith, past_same)

-- what holds of each cluster holds of one more
each_cluster : (P : ℕ → Cluster → Type 0) (clusters : List Cluster) (cluster : Cluster) (place : ℕ)
    → ((k : ℕ) → k < length clusters → P k (cluster_at clusters k)) → P (length clusters) cluster
    → (place < length clusters) ⊎ (place ≡ length clusters) → P place (cluster_at (clusters ++ cluster ∷ []) place)
each_cluster P clusters cluster place each is (inl h) =
    subst (P place) (sym (get_or-append clusters (cluster ∷ []) no_cluster place h)) (each place h)
each_cluster P clusters cluster place each is (inr e) = grind (arith, get_or-append_seam)

one_more_cluster : (order : List ℕ) (source target : List Rect) (clusters : List Cluster) (cluster : Cluster) (past : ℕ)
    → AreClustersUpTo order source target clusters past → IsCluster (length order) clusters (length clusters) cluster
    → IsAroundBoxes order source target cluster
    → AreClustersUpTo order source target (clusters ++ cluster ∷ []) cluster.past
one_more_cluster order source target clusters cluster past are is around =
    let all : List Cluster = clusters ++ cluster ∷ [] in
    let long : length all ≡ length clusters + 1 = length-append clusters (cluster ∷ []) in
    let longer : length all ≡ suc (length clusters) = omega arith in
    record {
      laid = λ (place : ℕ) (h : place < length all).
          each_cluster (IsCluster (length order) all) clusters cluster place
          (λ (k : ℕ) (i : k < length clusters). still_cluster (length order) clusters (cluster ∷ []) k (cluster_at clusters k) (omega arith) (are.laid k i))
          (still_cluster (length order) clusters (cluster ∷ []) (length clusters) cluster (omega arith) is)
          (at_or_before place (length clusters) (omega arith));
      around = λ (place : ℕ) (h : place < length all).
          each_cluster (λ (k : ℕ) (c : Cluster). IsAroundBoxes order source target c) clusters cluster place are.around around
          (at_or_before place (length clusters) (omega arith));
      ends = ap (past_before all) longer ∙ ap (λ (c : Cluster). c.past) (get_or-append_seam clusters cluster [] no_cluster);
    }

-- ---- the box of two ranges of an order
low_or : (k middle : ℕ) → (k < middle) ⊎ (middle ≤ k)
low_or k middle = grind arith

least_of_both : (low high : Rect) (order : List ℕ) (boxes : List Rect) (first middle past : ℕ) → first ≤ middle → middle ≤ past
    → IsLeastAround low order boxes first middle → IsLeastAround high order boxes middle past
    → IsLeastAround (box_of_boxes low high) order boxes first past
least_of_both low high order boxes first middle past a b of_low of_high =
    let has = joined_has low high in record {
      has = λ (k : ℕ) (h : first ≤ k) (i : k < past). one_of k h i (low_or k middle);
      least = λ (outer : Rect) (all : (k : ℕ) → first ≤ k → k < past → HasBox outer (box_at boxes (slice_index order k))).
          joined_least outer low high
          (of_low.least outer (λ (k : ℕ) (h : first ≤ k) (i : k < middle). all k h (omega arith)))
          (of_high.least outer (λ (k : ℕ) (h : middle ≤ k) (i : k < past). all k (omega arith) i));
    }
  where
    one_of : (k : ℕ) → first ≤ k → k < past → (k < middle) ⊎ (middle ≤ k)
        → HasBox (box_of_boxes low high) (box_at boxes (slice_index order k))
    one_of k h i (inl j) = outer_box (box_of_boxes low high) low (box_at boxes (slice_index order k)) (joined_has low high).0 (of_low.has k h j)
    one_of k h i (inr j) = outer_box (box_of_boxes low high) high (box_at boxes (slice_index order k)) (joined_has low high).1 (of_high.has k j i)

-- ---- the box of one more number
pub box_itself : (box : Rect) → HasBox box box
box_itself box = grind arith

pub least_of_one_box : (box : Rect) (order : List ℕ) (boxes : List Rect) (first past : ℕ) → past ≡ first + 1
    → box ≡ box_at boxes (slice_index order first) → IsLeastAround box order boxes first past
least_of_one_box box order boxes first past e f = grind (arith, box_itself)

pub least_of_next_box : (box more one : Rect) (order : List ℕ) (boxes : List Rect) (first place past : ℕ) → first ≤ place → past ≡ place + 1
    → more ≡ box_of_boxes box one → one ≡ box_at boxes (slice_index order place) → IsLeastAround box order boxes first place
    → IsLeastAround more order boxes first past
least_of_next_box box more one order boxes first place past h e f g is =
    subst (λ (r : Rect). IsLeastAround r order boxes first past) (sym f)
    (least_of_both box one order boxes first place past h (omega arith) is (least_of_one_box one order boxes place past e g))

-- ---- the cluster of two
pub last_past : (clusters : List Cluster) (left : ℕ) → 0 < left → past_before clusters left ≡ (cluster_at clusters (left - 1)).past
last_past clusters zero some = absurd (omega arith)
last_past clusters (suc k) some =
    let e : k ≡ suc k - 1 = omega arith in ap (λ (place : ℕ). (cluster_at clusters place).past) e

-- a cluster of the last one and the one before its smaller ones
pub record IsJoin (clusters : List Cluster) (low high cluster : Cluster) : Type 0 where
  pub some : 0 < length clusters
  pub high_is : high ≡ cluster_at clusters (length clusters - 1)
  pub more : 0 < high.base
  pub low_is : low ≡ cluster_at clusters (high.base - 1)
  pub source : cluster.source ≡ box_of_boxes low.source high.source
  pub target : cluster.target ≡ box_of_boxes low.target high.target
  pub first : cluster.first ≡ low.first
  pub past : cluster.past ≡ high.past
  pub base : cluster.base ≡ low.base

pub cluster_as : (clusters : List Cluster) (place : ℕ) (cluster : Cluster) → place < length clusters
    → cluster ≡ get_or clusters place cluster → cluster ≡ cluster_at clusters place
cluster_as clusters place cluster within e = e ∙ same_default clusters place cluster no_cluster within

high_within : (clusters : List Cluster) (high : Cluster) → 0 < length clusters
    → high ≡ cluster_at clusters (length clusters - 1) → AreBasesWithin clusters → high.base ≤ length clusters - 1
high_within clusters high some e bases =
    subst (λ (c : Cluster). c.base ≤ length clusters - 1) (sym e) (bases (length clusters - 1) (omega arith))

bases_joined : (clusters : List Cluster) (low high cluster : Cluster) → IsJoin clusters low high cluster → AreBasesWithin clusters
    → AreBasesWithin (clusters ++ cluster ∷ [])
bases_joined clusters low high cluster is bases =
    let some = is.some in let more = is.more in let base = is.base in
    let under = high_within clusters high some is.high_is bases in
    let low_under : low.base ≤ high.base - 1 =
    subst (λ (c : Cluster). c.base ≤ high.base - 1) (sym is.low_is) (bases (high.base - 1) (omega arith)) in
    let long : length (clusters ++ cluster ∷ []) ≡ length clusters + 1 = length-append clusters (cluster ∷ []) in
    λ (place : ℕ) (h : place < length (clusters ++ cluster ∷ [])).
    each_cluster (λ (k : ℕ) (c : Cluster). c.base ≤ k) clusters cluster place bases (omega arith)
    (at_or_before place (length clusters) (omega arith))

-- the higher one begins where the lower one ends
join_meets : (order : List ℕ) (source target : List Rect) (clusters : List Cluster) (low high cluster : Cluster) (past : ℕ)
    → AreClustersUpTo order source target clusters past → IsJoin clusters low high cluster
    → IsCluster (length order) clusters (length clusters - 1) high → low.past ≡ high.first
join_meets order source target clusters low high cluster past are is high_cluster =
    ap (λ (c : Cluster). c.past) is.low_is ∙ sym (last_past clusters high.base is.more) ∙ high_cluster.begins

joined_cluster : (order : List ℕ) (source target : List Rect) (clusters : List Cluster) (low high cluster : Cluster) (past : ℕ)
    → AreClustersUpTo order source target clusters past → IsJoin clusters low high cluster
    → AreClustersUpTo order source target (clusters ++ cluster ∷ []) past
joined_cluster order source target clusters low high cluster past are is =
    let some = is.some in let more = is.more in
    let last_in : length clusters - 1 < length clusters = omega arith in
    let high_cluster : IsCluster (length order) clusters (length clusters - 1) high =
    subst (IsCluster (length order) clusters (length clusters - 1)) (sym is.high_is) (are.laid (length clusters - 1) last_in) in
    let high_around : IsAroundBoxes order source target high =
    subst (IsAroundBoxes order source target) (sym is.high_is) (are.around (length clusters - 1) last_in) in
    let high_base = high_cluster.base in
    let low_in : high.base - 1 < length clusters = omega arith in
    let low_cluster : IsCluster (length order) clusters (high.base - 1) low =
    subst (IsCluster (length order) clusters (high.base - 1)) (sym is.low_is) (are.laid (high.base - 1) low_in) in
    let low_around : IsAroundBoxes order source target low =
    subst (IsAroundBoxes order source target) (sym is.low_is) (are.around (high.base - 1) low_in) in
    let low_base = low_cluster.base in
    let meets = join_meets order source target clusters low high cluster past are is high_cluster in
    let low_some = low_cluster.some in let high_some = high_cluster.some in let high_within = high_cluster.within in
    let of_first = is.first in let of_past = is.past in let of_base = is.base in
    let last : past_before clusters (length clusters) ≡ high.past =
    last_past clusters (length clusters) some ∙ sym (ap (λ (c : Cluster). c.past) is.high_is) in
    let end : cluster.past ≡ past = of_past ∙ sym last ∙ are.ends in
    subst (AreClustersUpTo order source target (clusters ++ cluster ∷ [])) end
    (one_more_cluster order source target clusters cluster past are
    (record {
      base = omega arith;
      begins = ap (past_before clusters) of_base ∙ low_cluster.begins ∙ sym of_first;
      some = omega arith;
      within = omega arith;
      ends = λ (h : cluster.base < length clusters). last ∙ sym of_past;
    })
    (record {
      source = both_boxes low.source high.source cluster.source order source low high cluster meets of_first of_past
          (omega arith) (omega arith) is.source low_around.source high_around.source;
      target = both_boxes low.target high.target cluster.target order target low high cluster meets of_first of_past
          (omega arith) (omega arith) is.target low_around.target high_around.target;
    }))
  where
    both_boxes : (p q r : Rect) (order : List ℕ) (boxes : List Rect) (low high cluster : Cluster) → low.past ≡ high.first
        → cluster.first ≡ low.first → cluster.past ≡ high.past → low.first ≤ low.past → high.first ≤ high.past → r ≡ box_of_boxes p q
        → IsLeastAround p order boxes low.first low.past → IsLeastAround q order boxes high.first high.past
        → IsLeastAround r order boxes cluster.first cluster.past
    both_boxes p q r order boxes low high cluster meets e f h i g of_low of_high =
        subst (λ (box : Rect). IsLeastAround box order boxes cluster.first cluster.past) (sym g)
        (subst (λ (n : ℕ). IsLeastAround (box_of_boxes p q) order boxes n cluster.past) (sym e)
        (subst (λ (n : ℕ). IsLeastAround (box_of_boxes p q) order boxes low.first n) (sym f)
        (least_of_both p q order boxes low.first low.past high.past h (omega arith) of_low
        (subst (λ (n : ℕ). IsLeastAround q order boxes n high.past) (sym meets) of_high))))

-- ---- a cluster without smaller ones
pub few_cluster : (order : List ℕ) (source target : List Rect) (clusters : List Cluster) (cluster : Cluster) (first past : ℕ)
    → AreClustersUpTo order source target clusters first → cluster.base ≡ length clusters → cluster.first ≡ first
    → cluster.past ≡ past → first < past → past ≤ length order → IsLeastAround cluster.source order source first past
    → IsLeastAround cluster.target order target first past
    → AreClustersUpTo order source target (clusters ++ cluster ∷ []) past
few_cluster order source target clusters cluster first past are b f p some within around_source around_target =
    subst (AreClustersUpTo order source target (clusters ++ cluster ∷ [])) p
    (one_more_cluster order source target clusters cluster first are
    (record {
      base = omega arith;
      begins = ap (past_before clusters) b ∙ are.ends ∙ sym f;
      some = omega arith;
      within = omega arith;
      ends = λ (h : cluster.base < length clusters). absurd (omega arith);
    })
    (record {
      source =
          subst (λ (n : ℕ). IsLeastAround cluster.source order source n cluster.past) (sym f)
          (subst (λ (n : ℕ). IsLeastAround cluster.source order source first n) (sym p) around_source);
      target =
          subst (λ (n : ℕ). IsLeastAround cluster.target order target n cluster.past) (sym f)
          (subst (λ (n : ℕ). IsLeastAround cluster.target order target first n) (sym p) around_target);
    }))

-- both facts, for clusters as they are read
pub high_as : (clusters : List Cluster) (len : ℕ) (high : Cluster) → len ≡ length clusters → 0 < length clusters
    → high ≡ get_or clusters (len - 1) high → AreBasesWithin clusters → high.base ≤ length clusters - 1
high_as clusters len high e some f bases =
    let g : len - 1 ≡ length clusters - 1 = omega arith in
    high_within clusters high some (cluster_as clusters (len - 1) high (omega arith) f ∙ ap (cluster_at clusters) g) bases

pub joined_as : (olds clusters more : List Cluster) (len : ℕ) (high low cluster : Cluster) → len ≡ length clusters
    → 0 < length clusters → 0 < high.base → AreBasesWithin clusters → high ≡ get_or clusters (len - 1) high
    → low ≡ get_or clusters (high.base - 1) low → cluster.source ≡ box_of_boxes low.source high.source
    → cluster.target ≡ box_of_boxes low.target high.target → cluster.first ≡ low.first → cluster.past ≡ high.past
    → cluster.base ≡ low.base → more ≡ clusters ++ cluster ∷ []
    → DoesKeepClusters olds clusters → (0 < length more) × AreBasesWithin more × DoesKeepClusters olds more
joined_as olds clusters more len high low cluster e some above bases f g source target first past base on before =
    let under = high_as clusters len high e some f bases in
    let h : len - 1 ≡ length clusters - 1 = omega arith in
    let is : IsJoin clusters low high cluster = record {
      some = some;
      high_is = cluster_as clusters (len - 1) high (omega arith) f ∙ ap (cluster_at clusters) h;
      more = above;
      low_is = cluster_as clusters (high.base - 1) low (omega arith) g;
      source = source;
      target = target;
      first = first;
      past = past;
      base = base;
    } in
    let long : length (clusters ++ cluster ∷ []) ≡ length clusters + 1 = length-append clusters (cluster ∷ []) in
    subst (λ (cs : List Cluster). (0 < length cs) × AreBasesWithin cs × DoesKeepClusters olds cs) (sym on) (
      omega arith,
      bases_joined clusters low high cluster is bases,
      λ (order : List ℕ) (source target : List Rect) (past : ℕ) (are : AreClustersUpTo order source target olds past).
          joined_cluster order source target clusters low high cluster past (before order source target past are) is,
    )
