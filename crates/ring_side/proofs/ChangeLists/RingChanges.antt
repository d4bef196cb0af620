-- The changes of a ring: from candidate to candidate all groups are done with.
use Rattle.std.proofs.Common.{◌≡◌, ℕ, zero, suc, ◌+◌, ◌<◌, ◌≤◌, List, [], ◌++◌, length, get_or, drop, arith, ap, sym, ◌∙◌, subst, append_assoc, inl, inr}
use Rattle.std.specs.Prelude.{◌⊎◌, Contains, flat_map, slice_index}
use Rattle.sheet_base.specs.Sheets.{Contents}
use Rattle.sheet_base.specs.ImageFits.{Runs}
use Rattle.ring_side.specs.declared.changes.Ring.{Ring}
use Rattle.ring_side.specs.declared.changes.Places.{Places}
use Rattle.ring_side.specs.declared.kinds.SideChange.{SideChange}
use Rattle.ring_side.specs.declared.groups.Group.{Group}
use Rattle.ring_side.specs.Sides.{way_of}
use Rattle.ring_side.specs.InsideLists.{AreOnWay, DoesAdd}
use Rattle.ring_side.proofs.ChangeLists.OnWay.{begun, added_more, remain_as, all_added}
use Rattle.ring_side.specs.SideChanges.{point_change, turn_from, turn_change, ring_changes, spots_of}
use Rattle.ring_side.specs.InsideGroups.{spots_in, group_at, no_group}
use Rattle.ring_side.specs.InsideChanges.{ArePlaces, IsRing}
use Rattle.ring_side.specs.InsideNear.{AreCandidates, IsQuietGroup}
use Rattle.ring_side.proofs.PointGroups.Spots.{same_default}
use Rattle.ring_side.proofs.PointGroups.Candidates.{done_at, done_before, number_is, not_among, not_behind, next_group, no_group_left}
use Rattle.ring_side.proofs.ChangeLists.NoChanges.{none_of_group, all_groups}
use Rattle.ring_side.proofs.PointSides.OwnPoints.{none_of_own}

-- what is known where a ring is looked at
pub record IsLook (sheets : List Contents) (images : List Runs) (places : Places) (ring : Ring) (near : List ℕ) : Type 0 where
  pub places_are : ArePlaces sheets images places
  pub ring_is : IsRing sheets images ring.layer ring.path ring
  pub candidates : AreCandidates ring places near

-- the changes of a group
abbrev pub changes_in : List Contents → List Runs → Ring → Group → List SideChange
changes_in sheets images ring group = flat_map (point_change sheets images ring.layer ring.path) (spots_in group)

none_of_quiet : (sheets : List Contents) (images : List Runs) (places : Places) (ring : Ring) (near : List ℕ) (n : ℕ)
    → IsLook sheets images places ring near → n < length places.groups.items → IsQuietGroup ring places n
    → changes_in sheets images ring (group_at places.groups.items n) ≡ []
none_of_quiet sheets images places ring near n look within (inl quiet) =
    let are = look.places_are in
    none_of_group sheets images ring.layer ring.path ring.source.points.now ring.target.points.now places.groups.items
    places.source.items places.target.items n look.ring_is.source.same look.ring_is.target.same are.source are.target within quiet
none_of_quiet sheets images places ring near n look within (inr own) = grind (arith, none_of_own)

none_by : (sheets : List Contents) (images : List Runs) (places : Places) (ring : Ring) (near : List ℕ) (n number : ℕ)
    → IsLook sheets images places ring near → n < length places.groups.items → (Contains near n → ⊥) → number ≡ n
    → Contains near number ⊎ IsQuietGroup ring places number
    → changes_in sheets images ring (group_at places.groups.items n) ≡ []
none_by sheets images places ring near n number look within none at (inl has) =
    absurd (none (subst (λ (m : ℕ). Contains near m) at has))
none_by sheets images places ring near n number look within none at (inr quiet) =
    none_of_quiet sheets images places ring near n look within (subst (IsQuietGroup ring places) at quiet)

none_here : (sheets : List Contents) (images : List Runs) (places : Places) (ring : Ring) (near : List ℕ) (n : ℕ)
    → IsLook sheets images places ring near → n < length places.groups.items → (Contains near n → ⊥)
    → changes_in sheets images ring (group_at places.groups.items n) ≡ []
none_here sheets images places ring near n look within none =
    let order : List ℕ = places.order.items in
    let has : Contains order n = look.places_are.order.all n within in
    none_by sheets images places ring near n (slice_index order has.0) look within none (number_is order n has)
    (look.candidates.others has.0 has.1)

-- each of the numbers is a group's
pub near_below : (sheets : List Contents) (images : List Runs) (places : Places) (ring : Ring) (near : List ℕ) (place : ℕ)
    → IsLook sheets images places ring near → place < length near → slice_index near place < length places.groups.items
near_below sheets images places ring near place look within =
    let n : ℕ = slice_index near place in
    let has : Contains near n = (place, within, same_default near place n 0 within) in
    let at : Contains places.order.items n = look.candidates.among n has in
    subst (λ (m : ℕ). m < length places.groups.items) at.2 (look.places_are.order.each at.0 n at.1)

near_step : (sheets : List Contents) (images : List Runs) (places : Places) (ring : Ring) (near : List ℕ) (place : ℕ)
    → IsLook sheets images places ring near → place < length near
    → flat_map (changes_in sheets images ring) (drop (done_at near place) places.groups.items)
    ≡ changes_in sheets images ring (group_at places.groups.items (slice_index near place))
    ++ flat_map (changes_in sheets images ring) (drop (done_at near (place + 1)) places.groups.items)
near_step sheets images places ring near place look within =
    let groups : List Group = places.groups.items in
    let n : ℕ = slice_index near place in
    let rises = look.candidates.ascending in
    let below = near_below sheets images places ring near place look within in
    let e : suc place ≡ place + 1 = omega arith in
    next_group (changes_in sheets images ring) groups (done_at near place) n (done_before near place rises within) below
    (λ (k : ℕ) (low : done_at near place ≤ k) (high : k < n).
    none_here sheets images places ring near k look (omega (arith, high, below)) (not_among near place k rises within low high))
    ∙ ap (λ (m : ℕ). changes_in sheets images ring (group_at groups n) ++ flat_map (changes_in sheets images ring) (drop (done_at near m) groups)) e

done_within : (sheets : List Contents) (images : List Runs) (places : Places) (ring : Ring) (near : List ℕ) (place : ℕ)
    → IsLook sheets images places ring near → place ≤ length near → done_at near place ≤ length places.groups.items
done_within sheets images places ring near zero look within = omega arith
done_within sheets images places ring near (suc q) look within =
    let below = near_below sheets images places ring near q look (omega arith) in omega (arith, below)

near_end : (sheets : List Contents) (images : List Runs) (places : Places) (ring : Ring) (near : List ℕ) (place : ℕ)
    → IsLook sheets images places ring near → place ≡ length near
    → flat_map (changes_in sheets images ring) (drop (done_at near place) places.groups.items) ≡ []
near_end sheets images places ring near place look e =
    let rises = look.candidates.ascending in
    let all : done_at near place ≡ done_at near (length near) = ap (done_at near) e in
    no_group_left (changes_in sheets images ring) places.groups.items (done_at near place)
    (done_within sheets images places ring near place look (omega (arith, e)))
    (λ (k : ℕ) (low : done_at near place ≤ k) (high : k < length places.groups.items).
    none_here sheets images places ring near k look high (not_behind near k rises (omega (arith, low, all))))

-- what is read at a place
pub group_as : (groups : List Group) (number : ℕ) (group : Group) → number < length groups → group ≡ get_or groups number group
    → group ≡ group_at groups number
group_as groups number group within e = e ∙ same_default groups number group no_group within

-- ---- the changes while candidates are looked at
pub ring_begun : (sheets : List Contents) (images : List Runs) (places : Places) (ring : Ring) (most : ℕ) (changes : List SideChange)
    → ArePlaces sheets images places
    → AreOnWay most changes (flat_map (changes_in sheets images ring) places.groups.items)
    (changes ++ flat_map (point_change sheets images ring.layer ring.path) (spots_of sheets))
ring_begun sheets images places ring most changes are =
    let remain : List SideChange = flat_map (changes_in sheets images ring) places.groups.items in
    subst (λ (cs : List SideChange). AreOnWay most changes remain (changes ++ cs))
    (sym (all_groups sheets (point_change sheets images ring.layer ring.path) places.groups.items are.groups))
    (begun most changes remain)

pub ring_step : (sheets : List Contents) (images : List Runs) (places : Places) (ring : Ring) (near : List ℕ) (place : ℕ)
    (most : ℕ) (before after all : List SideChange) (number : ℕ) (group : Group) → IsLook sheets images places ring near
    → place < length near → length before ≤ most → number ≡ slice_index near place → group ≡ group_at places.groups.items number
    → AreOnWay most before (flat_map (changes_in sheets images ring) (drop (done_at near place) places.groups.items)) all
    → DoesAdd most before after (changes_in sheets images ring group)
    → AreOnWay most after (flat_map (changes_in sheets images ring) (drop (done_at near (place + 1)) places.groups.items)) all
ring_step sheets images places ring near place most before after all number group look within few e f on adds =
    grind (arith, added_more, done_at, remain_as, near_step)

turned_as : (sheets : List Contents) (images : List Runs) (ring : Ring) (old changes : List SideChange)
    → IsRing sheets images ring.layer ring.path ring
    → changes ≡ old ++ turn_from ring.layer ring.path (way_of ring.source.points.now) (way_of ring.target.points.now)
    → changes ≡ old ++ turn_change sheets images ring.layer ring.path
turned_as sheets images ring old changes is e = grind arith

pub ring_end : (sheets : List Contents) (images : List Runs) (places : Places) (ring : Ring) (near : List ℕ) (place : ℕ)
    (most : ℕ) (old turned changes : List SideChange) → IsLook sheets images places ring near
    → turned ≡ old ++ turn_from ring.layer ring.path (way_of ring.source.points.now) (way_of ring.target.points.now)
    → place ≤ length near → (length changes ≤ most → length near ≤ place)
    → AreOnWay most changes (flat_map (changes_in sheets images ring) (drop (done_at near place) places.groups.items))
    (turned ++ flat_map (point_change sheets images ring.layer ring.path) (spots_of sheets))
    → DoesAdd most old changes (ring_changes sheets images ring.layer ring.path)
ring_end sheets images places ring near place most old turned changes look e within exit on =
    grind (arith, turned_as, append_assoc, all_added, done_at, near_end)
