-- The path of coordinates that were read.
use Rattle.std.proofs.Common.{◌≡◌, ℕ, ◌+◌, ◌-◌, ◌<◌, ◌≤◌, List, [], ◌∷◌, ◌++◌, length, map, take, drop, refl, sym, ap}
use Rattle.std.proofs.Common.{◌∙◌, arith, length-append, get_or, Bool, true, false}
use Rattle.std.specs.Prelude.{◌&&◌, None, sum_by, Result, Ok, Err, pos, if◌then◌else◌}
use Rattle.std.proofs.lemmas.List.{length-map, take_more, take_all, drop_at, get_or-append-add}
use Rattle.std.proofs.lemmas.List.Sums.{sum_by-cons}
use Rattle.jtext.specs.Values.{Json, Elements, truth, array, no_element, element}
use Rattle.jtext.specs.Nodes.{kind_of, node_count, inner_place}
use Rattle.jtext.proofs.CallerLemmas.NodePlaces.{node_count_positive}
use Rattle.jtext.specs.declared.document.Kind.TheVariants as kinds
use Rattle.plane_base.specs.declared.shapes.Pt.{Pt}
use Rattle.sheet_base.specs.PointHeights.{Height, Position, height_in, points_of, heights_of}
use Rattle.sheet_base.specs.declared.paths.PathKind.{PathKind}
use Rattle.sheet_base.specs.declared.paths.PathKind.TheVariants as paths
use Rattle.sheet_base.specs.declared.faults.LayerFault.{LayerFault}
use Rattle.sheet_base.specs.declared.faults.LayerFault.TheVariants.{Shape, Ring as RingFault}
use Rattle.gj_layer.specs.declared.forms.Trace.{Trace}
use Rattle.gj_layer.specs.declared.forms.Trace.TheVariants as traces
use Rattle.gj_layer.specs.declared.positions.PositionRead.{PositionRead}
use Rattle.sheet_base.specs.Faults.{and_then}
use Rattle.gj_layer.specs.Positions.{position, positions, position_of, lost_of}
use Rattle.sheet_base.specs.Rings.{is_same_height, is_closed}
use Rattle.sheet_base.proofs.RingLemmas.{closed_many}
use Rattle.gj_layer.specs.Paths.{Path, nothing, path_of, line_of, is_ring, ring_of, paths_of_trace}
use Rattle.gj_layer.specs.Paths.{part_of}
use Rattle.gj_layer.specs.InsideNodes.{AreFrom, path_part}

-- the path of these points that was read in this run
abbrev pub run_path : PathKind → List Position → ℕ → ℕ → ℕ → Path
run_path kind points lost start end = record { kind = kind; positions = points; lost = lost; start = start; end = end }

part_of_run : (number : ℕ) (kind : PathKind) (points : List Position) (all : List PositionRead) (lost start end : ℕ)
    → 0 < length all → lost ≡ sum_by lost_of all → AreFrom all start end
    → part_of number (path_of kind points all) ≡ Ok (path_part number (run_path kind points lost start end))
part_of_run number kind points [] lost start end some lost_is from = absurd (omega (arith, some))
part_of_run number kind points (one ∷ more) lost start end some lost_is from = grind (arith)

pub dot_traced : (exact : Bool) (number start : ℕ) (value : Json) (one : PositionRead) (lost : ℕ)
    → Ok one ≡ position exact start value → lost ≡ lost_of one
    → and_then (part_of number) (paths_of_trace exact traces.Position start value)
    ≡ Ok (path_part number (run_path paths.Dot (position_of one ∷ []) lost one.start one.end))
dot_traced exact number start value one lost is lost_is = grind (arith, sum_by-cons, part_of_run)

module _ (exact : Bool) (number start : ℕ) (blank : List ℕ) (elements : Elements) where
  abbrev all_in : Result (List PositionRead) LayerFault
  all_in = positions exact (inner_place start blank) elements

  pub line_refused : (fault : LayerFault) → all_in ≡ Err fault
      → and_then (part_of number) (paths_of_trace exact traces.Line start (array blank elements)) ≡ Err fault
  line_refused fault is = ap (λ r. and_then (part_of number) (and_then line_of r)) is

  pub ring_refused : (fault : LayerFault) → all_in ≡ Err fault
      → and_then (part_of number) (paths_of_trace exact traces.Ring start (array blank elements)) ≡ Err fault
  ring_refused fault is = ap (λ r. and_then (part_of number) (and_then (ring_of start) r)) is

  pub line_traced : (all : List PositionRead) (lost from past : ℕ) → all_in ≡ Ok all → 0 < length all
      → lost ≡ sum_by lost_of all → AreFrom all from past
      → and_then (part_of number) (paths_of_trace exact traces.Line start (array blank elements))
      ≡ Ok (path_part number (run_path paths.Line (map position_of all) lost from past))
  line_traced all lost from past is some lost_is ends = grind (arith, part_of_run)

  pub line_empty : (all : List PositionRead) → all_in ≡ Ok all → length all ≡ 0
      → and_then (part_of number) (paths_of_trace exact traces.Line start (array blank elements)) ≡ Ok nothing
  line_empty [] is none = ap (λ r. and_then (part_of number) (and_then line_of r)) is
  line_empty (one ∷ more) is none = absurd (omega (arith, none))

  pub ring_traced : (all : List PositionRead) (lost from past : ℕ) → all_in ≡ Ok all
      → is_ring (map position_of all) ≡ true
      → 0 < length all → lost ≡ sum_by lost_of all → AreFrom all from past
      → and_then (part_of number) (paths_of_trace exact traces.Ring start (array blank elements))
      ≡ Ok (path_part number (run_path paths.Loop (take (length (map position_of all) - 1) (map position_of all)) lost
      from
      past))
  ring_traced all lost from past is closed some lost_is ends = grind (arith, part_of_run)

  pub ring_open : (all : List PositionRead) → all_in ≡ Ok all → is_ring (map position_of all) ≡ false
      → and_then (part_of number) (paths_of_trace exact traces.Ring start (array blank elements)) ≡ Err (RingFault start)
  ring_open all is closed = grind (arith)

-- a list that is not empty has a last one
pub last_split : (points : List Position) → 0 < length points
    → (last : Position) × (points ≡ take (length points - 1) points ++ last ∷ [])
last_split points some =
    let none : Position = record { point = record { x = pos 0; y = pos 0 }; height = None } in
    let i = length points - 1 in
    let within : i < length points = omega (arith, some) in
    let whole : i + 1 ≡ length points = omega (arith, some) in (
      get_or points i none,
      sym (take_all (length points) points (omega arith)) ∙ ap (λ n. take n points) (sym whole)
          ∙ take_more points i none within,
    )

-- the points that were appended
behind_first : {A : Type 0} (old more : List A) (first : ℕ) → first ≡ length old → drop first (old ++ more) ≡ more
behind_first old more first is = drop_at old more first (sym is)

-- a height of those that were appended
height_behind : (old more : List Height) (first number : ℕ) → first ≡ length old
    → height_in (old ++ more) (first + number) ≡ height_in more number
height_behind old more first number is =
    ap (λ n. height_in (old ++ more) (n + number)) is ∙ get_or-append-add old more number None

-- whether what was appended is a ring
ring_behind : (vertices : List Position) (points : List Pt) (heights : List Height) (first : ℕ)
    → first ≡ length points → first ≡ length heights
    → (is_closed (drop first (points ++ points_of vertices))
    && is_same_height (height_in (heights ++ heights_of vertices) first)
    (height_in (heights ++ heights_of vertices) (length (points ++ points_of vertices) - 1)))
    ≡ is_ring vertices
ring_behind vertices points heights first points_is heights_is =
    ap (λ ps. is_closed ps && is_same_height (height_in (heights ++ heights_of vertices) first)
    (height_in (heights ++ heights_of vertices) (length (points ++ points_of vertices) - 1)))
    (behind_first points (points_of vertices) first points_is)
    ∙ by (is_closed (points_of vertices)) refl
  where
    by : (test : Bool) → is_closed (points_of vertices) ≡ test
        → (is_closed (points_of vertices) && is_same_height (height_in (heights ++ heights_of vertices) first)
        (height_in (heights ++ heights_of vertices) (length (points ++ points_of vertices) - 1)))
        ≡ is_ring vertices
    by false is = rw is refl
    by true is =
        let four = closed_many (points_of vertices) is in
        let size = length-append points (points_of vertices) in
        let count = length-map vertices (λ (vertex : Position). vertex.point) in
        let levels = length-map vertices (λ (vertex : Position). vertex.height) in
        let begins : first ≡ first + 0 = omega arith in
        let ends : length (points ++ points_of vertices) - 1 ≡ first + (length (heights_of vertices) - 1) =
        omega (arith, four, size, count, levels, points_is) in
        let low : height_in (heights ++ heights_of vertices) first ≡ height_in (heights_of vertices) 0 =
        ap (height_in (heights ++ heights_of vertices)) begins
        ∙ height_behind heights (heights_of vertices) first 0 heights_is in
        let high : height_in (heights ++ heights_of vertices) (length (points ++ points_of vertices) - 1)
        ≡ height_in (heights_of vertices) (length (heights_of vertices) - 1) =
        ap (height_in (heights ++ heights_of vertices)) ends
        ∙ height_behind heights (heights_of vertices) first (length (heights_of vertices) - 1) heights_is in
        ap (λ h. is_closed (points_of vertices) && is_same_height h
        (height_in (heights ++ heights_of vertices) (length (points ++ points_of vertices) - 1))) low
        ∙ ap (λ h. is_closed (points_of vertices) && is_same_height (height_in (heights_of vertices) 0) h) high

pub ring_is : (vertices : List Position) (points points' : List Pt) (heights heights' : List Height) (first : ℕ)
    → points' ≡ points ++ points_of vertices → heights' ≡ heights ++ heights_of vertices → first ≡ length points
    → first ≡ length heights
    → (is_closed (drop first points')
    && is_same_height (height_in heights' first) (height_in heights' (length points' - 1))) ≡ is_ring vertices
ring_is vertices points points' heights heights' first more higher points_is heights_is = grind (arith, ring_behind)

-- coordinates that are no array
pub not_traced : (exact : Bool) (number : ℕ) (trace : Trace) (start : ℕ) (value : Json)
    → (kind_of value ≡ kinds.Array → ⊥) → and_then (part_of number) (paths_of_trace exact trace start value) ≡ Err (Shape start)
not_traced exact number trace start (array blank elements) never = absurd (never refl)
not_traced exact number traces.Point start value never = refl
not_traced exact _ trace start _ never = refl

pub none_of : (all : List PositionRead) → length all ≡ 0 → map position_of all ≡ []
none_of [] none = refl
none_of (one ∷ more) none = absurd (omega (arith, none))

-- a point's coordinates are a position, or empty
pub point_some : (exact : Bool) (start : ℕ) (value : Json) → 1 < node_count value
    → paths_of_trace exact traces.Point start value ≡ paths_of_trace exact traces.Position start value
point_some exact start (array blank no_element) some = absurd (omega (arith, some))
point_some exact start (array blank (element before value after rest)) some = refl
point_some exact start value some = refl

pub point_none : (exact : Bool) (start : ℕ) (value : Json) → kind_of value ≡ kinds.Array → node_count value ≤ 1
    → paths_of_trace exact traces.Point start value ≡ Ok []
point_none exact start (array blank no_element) is none = refl
point_none exact start (array blank (element before value after rest)) is none =
    absurd (omega (arith, none, node_count_positive value))
point_none exact start (truth true) is none = cc
point_none exact start _ is none = cc
