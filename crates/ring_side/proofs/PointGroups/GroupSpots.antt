-- The spots of groups.
use Rattle.std.proofs.Common.{◌≡◌, ℕ, zero, suc, ◌+◌, ◌-◌, ◌<◌, ◌≤◌, List, [], ◌∷◌, ◌++◌, length, map, arith, refl, ap, sym, ◌∙◌, subst, append_assoc}
use Rattle.std.proofs.Common.{inl, inr}
use Rattle.std.specs.Prelude.{flat_map, All, ◌⊎◌}
use Rattle.std.proofs.Math.ListN.{get_or-append}
use Rattle.std.proofs.Math.Seq.{get_or-append_seam}
use Rattle.std.proofs.lemmas.Grind.{flat_map-append}
use Rattle.plain_laws.proofs.Order.{at_or_before}
use Rattle.plane_base.specs.declared.shapes.Pt.{Pt}
use Rattle.plane_base.specs.declared.shapes.Rect.{Rect}
use Rattle.plane_base.specs.Boxes.{box_of_point, box_with_point}
use Rattle.sheet_base.specs.Sheets.{Contents}
use Rattle.ring_side.specs.declared.kinds.Spot.{Spot}
use Rattle.ring_side.specs.declared.groups.Group.{Group}
use Rattle.ring_side.specs.SideChanges.{spots_run}
use Rattle.sheet_base.specs.ImageFits.{Runs}
use Rattle.tin_base.specs.declared.frames.Frame.{Frame}
use Rattle.ring_side.specs.InsideGroups.{IsLeastBox, IsAmong, AreAmong, spots_in, box_at}
use Rattle.ring_side.specs.InsideTrees.{no_box}
use Rattle.ring_side.proofs.RingBoxes.Boxed.{least_of_one, least_of_more}
use Rattle.ring_side.proofs.PointGroups.Spots.{spots_split}

nil_right : {A : Type 0} (xs : List A) → xs ++ [] ≡ xs
nil_right [] = refl
nil_right (x ∷ xs) = ap (λ (ys : List _). x ∷ ys) (nil_right xs)

map_append : (f : Spot → Pt) (xs ys : List Spot) → map f (xs ++ ys) ≡ map f xs ++ map f ys
map_append f [] ys = refl
map_append f (x ∷ xs) ys = ap (λ (ps : List Pt). f x ∷ ps) (map_append f xs ys)

-- ---- the box of a run of spots
pub box_of_first : (place : Spot → Pt) (box : Rect) (layer path first : ℕ) (p : Pt) → box ≡ box_of_point p
    → p ≡ place (record { layer = layer; path = path; vertex = first })
    → IsLeastBox box (map place (spots_run layer path first (first + 1 - first)))
box_of_first place box layer path first p e f = grind (arith, least_of_one)

box_of_next : (place : Spot → Pt) (box more : Rect) (layer path first vertex : ℕ) (p : Pt) → first ≤ vertex
    → more ≡ box_with_point box p → p ≡ place (record { layer = layer; path = path; vertex = vertex + 1 })
    → IsLeastBox box (map place (spots_run layer path first (vertex + 1 - first)))
    → IsLeastBox more (map place (spots_run layer path first (vertex + 1 + 1 - first)))
box_of_next place box more layer path first vertex p h e f is =
    let count : ℕ = vertex + 1 - first in
    let long : vertex + 1 + 1 - first ≡ count + suc zero = omega arith in
    let at : first + count ≡ vertex + 1 = omega arith in
    let last : List Spot = spots_run layer path (first + count) (suc zero) in
    let one : map place last ≡ p ∷ [] =
    ap (λ (v : ℕ). map place (spots_run layer path v (suc zero))) at ∙ ap (λ (q : Pt). q ∷ []) (sym f) in
    subst (λ (n : ℕ). IsLeastBox more (map place (spots_run layer path first n))) (sym long)
    (subst (λ (ss : List Spot). IsLeastBox more (map place ss)) (sym (spots_split layer path first count (suc zero)))
    (subst (IsLeastBox more) (sym (map_append place (spots_run layer path first count) last))
    (subst (λ (ps : List Pt). IsLeastBox more (map place (spots_run layer path first count) ++ ps)) (sym one)
    (least_of_more box more (map place (spots_run layer path first count)) p e is))))

pub box_of_spot : (place : Spot → Pt) (box more : Rect) (spot : Spot) (layer path first : ℕ) (p : Pt) → spot.layer ≡ layer
    → spot.path ≡ path → first ≤ spot.vertex → more ≡ box_with_point box p
    → p ≡ place (record { layer = spot.layer; path = spot.path; vertex = spot.vertex + 1 })
    → IsLeastBox box (map place (spots_run layer path first (spot.vertex + 1 - first)))
    → IsLeastBox more (map place (spots_run layer path first (spot.vertex + 1 + 1 - first)))
box_of_spot place box more spot layer path first p on_layer on_path h e f is =
    box_of_next place box more layer path first spot.vertex p h e
    (f ∙ ap (λ (l : ℕ). place (record { layer = l; path = spot.path; vertex = spot.vertex + 1 })) on_layer
    ∙ ap (λ (k : ℕ). place (record { layer = layer; path = k; vertex = spot.vertex + 1 })) on_path)
    is

pub box_of_all : (place : Spot → Pt) (box : Rect) (layer path first past vertex : ℕ) → vertex < past → past ≤ vertex + 1
    → IsLeastBox box (map place (spots_run layer path first (vertex + 1 - first)))
    → IsLeastBox box (map place (spots_run layer path first (past - first)))
box_of_all place box layer path first past vertex h k is = grind arith

-- ---- the places of a run are among those of its layers
among-append : (sheets : List Contents) (images : List Runs) (frame : Frame) (ss ts : List Spot) → AreAmong sheets images frame ss
    → AreAmong sheets images frame ts → AreAmong sheets images frame (ss ++ ts)
among-append sheets images frame [] ts h k = k
among-append sheets images frame (s ∷ ss) ts h k = (h.0, among-append sheets images frame ss ts h.1 k)

pub among_first : (sheets : List Contents) (images : List Runs) (frame : Frame) (layer path first : ℕ)
    → IsAmong sheets images frame (record { layer = layer; path = path; vertex = first })
    → AreAmong sheets images frame (spots_run layer path first (first + 1 - first))
among_first sheets images frame layer path first h = grind arith

among_next : (sheets : List Contents) (images : List Runs) (frame : Frame) (layer path first vertex : ℕ) → first ≤ vertex
    → IsAmong sheets images frame (record { layer = layer; path = path; vertex = vertex + 1 })
    → AreAmong sheets images frame (spots_run layer path first (vertex + 1 - first))
    → AreAmong sheets images frame (spots_run layer path first (vertex + 1 + 1 - first))
among_next sheets images frame layer path first vertex h is are = grind (arith, spots_split, among-append)

pub among_spot : (sheets : List Contents) (images : List Runs) (frame : Frame) (spot : Spot) (layer path first : ℕ)
    → spot.layer ≡ layer → spot.path ≡ path → first ≤ spot.vertex
    → IsAmong sheets images frame (record { layer = spot.layer; path = spot.path; vertex = spot.vertex + 1 })
    → AreAmong sheets images frame (spots_run layer path first (spot.vertex + 1 - first))
    → AreAmong sheets images frame (spots_run layer path first (spot.vertex + 1 + 1 - first))
among_spot sheets images frame spot layer path first on_layer on_path h is are = grind (arith, among_next)

pub among_all : (sheets : List Contents) (images : List Runs) (frame : Frame) (layer path first past vertex : ℕ) → vertex < past
    → past ≤ vertex + 1 → AreAmong sheets images frame (spots_run layer path first (vertex + 1 - first))
    → AreAmong sheets images frame (spots_run layer path first (past - first))
among_all sheets images frame layer path first past vertex h k are = grind arith

-- ---- groups one after another
one_group : (groups : List Group) (group : Group)
    → flat_map spots_in (groups ++ group ∷ []) ≡ flat_map spots_in groups ++ spots_in group
one_group groups group =
    flat_map-append spots_in groups (group ∷ []) ∙ ap (λ (ss : List Spot). flat_map spots_in groups ++ ss) (nil_right (spots_in group))

-- one more group of a path
pub group_added : (groups more : List Group) (layer path first past count : ℕ) (all : List Spot) → first ≤ past → past ≤ count
    → more ≡ groups ++ record { layer = layer; path = path; first = first; past = past } ∷ []
    → flat_map spots_in groups ++ spots_run layer path first (count - first) ≡ all
    → flat_map spots_in more ++ spots_run layer path past (count - past) ≡ all
group_added groups more layer path first past count all h k e before =
    let group : Group = record { layer = layer; path = path; first = first; past = past } in
    let long : count - first ≡ (past - first) + (count - past) = omega arith in
    let at : first + (past - first) ≡ past = omega arith in
    ap (λ (gs : List Group). flat_map spots_in gs ++ spots_run layer path past (count - past)) e
    ∙ ap (λ (ss : List Spot). ss ++ spots_run layer path past (count - past)) (one_group groups group)
    ∙ append_assoc (flat_map spots_in groups) (spots_in group) (spots_run layer path past (count - past))
    ∙ ap (λ (ss : List Spot). flat_map spots_in groups ++ ss)
    (ap (λ (v : ℕ). spots_in group ++ spots_run layer path v (count - past)) (sym at)
    ∙ sym (spots_split layer path first (past - first) (count - past))
    ∙ ap (spots_run layer path first) (sym long))
    ∙ before

-- ---- lists with one more item
pub all_one : (P : Group → Type 0) (group : Group) → P group → All P (group ∷ [])
all_one P group h zero d within = h
all_one P group h (suc k) d within = absurd (omega arith)

box_at_or : (P : ℕ → Rect → Type 0) (boxes : List Rect) (box : Rect) (n : ℕ) → length boxes ≡ n
    → ((k : ℕ) → k < n → P k (box_at boxes k)) → P n box → (k : ℕ) → (k < n) ⊎ (k ≡ n) → P k (box_at (boxes ++ box ∷ []) k)
box_at_or P boxes box n e each here k (inl h) =
    subst (P k) (sym (get_or-append boxes (box ∷ []) no_box k (omega (arith, e, h)))) (each k h)
box_at_or P boxes box n e each here k (inr f) = grind (arith, get_or-append_seam)

pub box_pushed : (P : ℕ → Rect → Type 0) (boxes : List Rect) (box : Rect) (n : ℕ) → length boxes ≡ n
    → ((k : ℕ) → k < n → P k (box_at boxes k)) → P n box → (k : ℕ) → k < n + 1 → P k (box_at (boxes ++ box ∷ []) k)
box_pushed P boxes box n e each here k h = box_at_or P boxes box n e each here k (at_or_before k n h)

-- ---- a run of spots from its first on
pub spots_step : (layer path vertex past : ℕ) → vertex < past
    → spots_run layer path vertex (past - vertex)
    ≡ record { layer = layer; path = path; vertex = vertex } ∷ spots_run layer path (vertex + 1) (past - (vertex + 1))
spots_step layer path vertex past h =
    let e : past - vertex ≡ suc (past - (vertex + 1)) = omega arith in ap (spots_run layer path vertex) e
