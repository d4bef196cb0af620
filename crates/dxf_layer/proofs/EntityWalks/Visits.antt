-- The entities of a drawing, read so far.
use Rattle.std.proofs.Common.{◌≡◌, ℕ, ◌+◌, ◌*◌, ◌≤◌, ◌<◌, List, [], ◌∷◌, ◌++◌, length, drop, get_or, true}
use Rattle.std.proofs.Common.{refl, ap, sym, ◌∙◌, subst, arith, Result, Ok, Err, Option}
use Rattle.std.specs.Prelude.{OnOk}
use Rattle.std.proofs.lemmas.List.{append_assoc, length-drop}
use Rattle.std.proofs.lemmas.List.Sums.{prefix_len-le-length}
use Rattle.sheet_base.specs.Sheets.{Contents}
use Rattle.sheet_base.specs.declared.flags.How.{How}
use Rattle.sheet_base.specs.declared.faults.LayerFault.{LayerFault}
use Rattle.dxf_pairs.specs.declared.pairs.Pair.{Pair}
use Rattle.dxf_entities.specs.declared.section_places.Where.{Where}
use Rattle.dxf_entities.specs.declared.section_places.Where.TheVariants.{Outside, Begun, Header, Entities, Other}
use Rattle.dxf_layer.specs.declared.walks.EntityPlace.{EntityPlace as Held}
use Rattle.dxf_layer.specs.declared.walks.EntityPlace.TheVariants.{Free}
use Rattle.dxf_entities.specs.Entities.{is_no_head}
use Rattle.dxf_entities.specs.SectionPlaces.{begins_entity, section_behind, entities_from, entities_of}
use Rattle.sheet_base.specs.Faults.{and_then}
use Rattle.dxf_entities.specs.Shapes.{Shape, with_shape, with_shapes}
use Rattle.dxf_layer.specs.InsideWalks.{WalkPlace, free, Step, visit_of, walk_of}
use Rattle.dxf_entities.specs.DrawingContents.{HoldsAtMost, GrowsBy}
use Rattle.dxf_layer.specs.InsideStands.{GrowsAlong, Stands, GoesTo, room_before}

abbrev pub behind_shapes : List Shape → Result (List Shape) LayerFault → Result (List Shape) LayerFault
behind_shapes done rest = and_then (λ more. Ok (done ++ more)) rest

pub record IsWalkedTo (bytes : List ℕ) (how : How) (seed : Option Pair) (pairs : List Pair) (section : Where)
    (place : Held) (number : ℕ) (before now : Contents) : Type 0 where
  pub shapes : List Shape
  pub spot : WalkPlace
  pub stands : Stands place now (with_shapes before shapes) spot
  pub whole : walk_of bytes how seed free (entities_of bytes pairs)
      ≡ behind_shapes shapes (walk_of bytes how seed spot (entities_from bytes section (drop number pairs)))
  pub room : HoldsAtMost (2 * number + room_before (drop number pairs)) now

none_done : (r : Result (List Shape) LayerFault) → behind_shapes [] r ≡ r
none_done (Ok shapes) = refl
none_done (Err fault) = refl

pub nothing_walked : (bytes : List ℕ) (how : How) (seed : Option Pair) (pairs : List Pair) (before : Contents)
    → HoldsAtMost 0 before → IsWalkedTo bytes how seed pairs Outside Free 0 before before
nothing_walked bytes how seed pairs before room = record {
  shapes = [];
  spot = free;
  stands = record { held = refl; shows = tt };
  whole = sym (none_done _);
  room = record {
    points = omega (arith, room.points);
    heights = omega (arith, room.heights);
    paths = omega (arith, room.paths);
    inexact = omega (arith, room.inexact);
    dropped = omega (arith, room.dropped);
  };
}

-- the walk over what is left is the visit of its first pair, and the walk from there
abbrev pub onward : List ℕ → How → Option Pair → Where → List Pair → Result Step LayerFault
    → Result (List Shape) LayerFault
onward bytes how seed section pairs here = and_then (λ (step : Step). behind_shapes step.shapes
    (walk_of bytes how seed step.next (entities_from bytes section pairs))) here

visit_goes : (bytes : List ℕ) (how : How) (seed : Option Pair) (section : Where) (spot : WalkPlace) (head : Pair)
    (pairs : List Pair) → walk_of bytes how seed spot (entities_from bytes section (head ∷ pairs))
    ≡ onward bytes how seed (section_behind bytes section head) pairs
    (visit_of bytes how seed section spot (head ∷ pairs))
visit_goes bytes how seed section spot head pairs = grind (arith, none_done)

more_done : (done here : List Shape) (r : Result (List Shape) LayerFault)
    → behind_shapes done (behind_shapes here r) ≡ behind_shapes (done ++ here) r
more_done done here (Ok shapes) = ap Ok (sym (append_assoc done here shapes))
more_done done here (Err fault) = refl

with_more : (before : Contents) (done here : List Shape)
    → with_shapes (with_shapes before done) here ≡ with_shapes before (done ++ here)
with_more before [] here = refl
with_more before (shape ∷ done) here = with_more (with_shape before shape) done here

-- one pair more is visited
pub pair_walked : (bytes : List ℕ) (how : How) (seed : Option Pair) (pairs : List Pair) (section : Where)
    (place next : Held) (number : ℕ) (before now new : Contents) (head : Pair)
    → (so_far : IsWalkedTo bytes how seed pairs section place number before now)
    → drop number pairs ≡ head ∷ drop (number + 1) pairs
    → GoesTo (visit_of bytes how seed section so_far.spot (drop number pairs)) (with_shapes before so_far.shapes) next
    new → GrowsAlong (drop number pairs) now new
    → IsWalkedTo bytes how seed pairs (section_behind bytes section head) next (number + 1) before new
pair_walked bytes how seed pairs section place next number before now new head so_far split goes grown =
    by_visit (visit_of bytes how seed section so_far.spot (head ∷ drop (number + 1) pairs)) refl
    (subst (λ left. GoesTo (visit_of bytes how seed section so_far.spot left) (with_shapes before so_far.shapes) next
    new) split goes) where
      by_visit : (here : Result Step LayerFault)
          → visit_of bytes how seed section so_far.spot (head ∷ drop (number + 1) pairs) ≡ here
          → GoesTo here (with_shapes before so_far.shapes) next new
          → IsWalkedTo bytes how seed pairs (section_behind bytes section head) next (number + 1) before new
      by_visit (Err fault) is there = absurd there
      by_visit (Ok here) is there =
          let rest = walk_of bytes how seed here.next
          (entities_from bytes (section_behind bytes section head) (drop (number + 1) pairs)) in
          let first : walk_of bytes how seed so_far.spot (entities_from bytes section (drop number pairs))
          ≡ behind_shapes here.shapes rest =
          ap (λ left. walk_of bytes how seed so_far.spot (entities_from bytes section left)) split
          ∙ (visit_goes bytes how seed section so_far.spot head (drop (number + 1) pairs)
          ∙ ap (onward bytes how seed (section_behind bytes section head) (drop (number + 1) pairs)) is) in
          let size : drop 1 (drop number pairs) ≡ drop (number + 1) pairs =
          ap (λ (left : List Pair). drop 1 left) split in
          let count : (2 * number + 2) + room_before (drop 1 (drop number pairs)) ≡ 2 * (number + 1)
          + room_before (drop (number + 1) pairs) = ap (λ left. (2 * number + 2) + room_before left) size
          ∙ omega arith in
          record {
            shapes = so_far.shapes ++ here.shapes;
            spot = here.next;
            stands = subst (λ c. Stands next new c here.next) (with_more before so_far.shapes here.shapes) there;
            whole = so_far.whole ∙ (ap (behind_shapes so_far.shapes) first ∙ more_done so_far.shapes here.shapes rest);
            room = subst (λ n. HoldsAtMost n new) count (grown (2 * number) so_far.room);
          }

-- a fault at a pair is the fault of the walk
pub walk_refused : (bytes : List ℕ) (how : How) (seed : Option Pair) (pairs : List Pair) (section : Where)
    (place : Held) (number : ℕ) (before now : Contents) (head : Pair) (fault : LayerFault)
    → (so_far : IsWalkedTo bytes how seed pairs section place number before now)
    → drop number pairs ≡ head ∷ drop (number + 1) pairs
    → visit_of bytes how seed section so_far.spot (drop number pairs) ≡ Err fault
    → walk_of bytes how seed free (entities_of bytes pairs) ≡ Err fault
walk_refused bytes how seed pairs section place number before now head fault so_far split refused =
    grind (arith, visit_goes)

no_room : (section : Where) (head : Pair) (pairs : List Pair) → begins_entity section head ≡ true
    → room_before (head ∷ pairs) ≡ 0
no_room Outside head pairs begins = absurd (cc)
no_room Begun head pairs begins = absurd (cc)
no_room Header head pairs begins = absurd (cc)
no_room Other head pairs begins = absurd (cc)
no_room Entities head pairs begins = rw begins refl

grows_by : (section : Where) (pairs : List Pair) (d : Pair) (size : ℕ) (before now : Contents) → 0 < length pairs
    → begins_entity section (get_or pairs 0 d) ≡ true → size ≡ room_before (drop 1 pairs)
    → GrowsBy (size + 2) before now → GrowsAlong pairs before now
grows_by section [] d size before now some begins size_is grown = absurd (omega arith)
grows_by section (head ∷ pairs) d size before now some begins size_is grown = λ count room.
    let none : room_before (head ∷ pairs) ≡ 0 = no_room section head pairs begins in
    let at : count + (size + 2) ≡ (count + 2) + room_before (drop 1 (head ∷ pairs)) = omega (arith, size_is) in
    let here : HoldsAtMost count before = subst (λ n. HoldsAtMost n before) (omega (arith, none)) room in
    subst (λ n. HoldsAtMost n now) at (grown count here)

pub grows_along : (section : Where) (pairs : List Pair) (d : Pair) (size : ℕ) (before now : Contents)
    (result : Result Held LayerFault) → 0 < length pairs → begins_entity section (get_or pairs 0 d) ≡ true
    → size ≡ room_before (drop 1 pairs) → OnOk result (GrowsBy (size + 2) before now)
    → OnOk result (GrowsAlong pairs before now)
grows_along section pairs d size before now (Ok place) some begins size_is grown =
    grows_by section pairs d size before now some begins size_is grown
grows_along section pairs d size before now (Err fault) some begins size_is grown = grown

pub room_short : (n : ℕ) (pairs : List Pair) → room_before (drop n pairs) ≤ length pairs
room_short n pairs = omega (arith, prefix_len-le-length is_no_head (drop n pairs), length-drop n pairs)
