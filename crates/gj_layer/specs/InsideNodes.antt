-- What is where in the document that is read, and what the code makes of it. Only private functions speak of it.
use Rattle.std.specs.Prelude.{◌≡◌, ℕ, ◌+◌, ◌*◌, ◌<◌, ◌≤◌, ◌^◌, List, [], ◌∷◌, ◌++◌, length, map, sum_by}
use Rattle.std.specs.Prelude.{Option, Some, None, Result, Ok, Err}
use Rattle.jtext.specs.Values.{Elements, no_element, element}
use Rattle.jtext.specs.Nodes.{node_count, element_start, next_place}
use Rattle.jtext.specs.Places.{HasNodesAt}
use Rattle.jtext.specs.declared.document.Node.{Node}
use Rattle.plane_base.specs.declared.shapes.Pt.{Pt}
use Rattle.sheet_base.specs.PointHeights.{Height, Position, points_of, heights_of}
use Rattle.sheet_base.specs.declared.faults.LayerFault.{LayerFault}
use Rattle.sheet_base.specs.declared.faults.LayerFault.TheVariants as faults
use Rattle.gj_layer.specs.declared.positions.PositionRead.{PositionRead}
use Rattle.gj_layer.specs.declared.positions.PositionRun.{PositionRun}
use Rattle.gj_layer.specs.declared.pass.PathsRead.{PathsRead}
use Rattle.gj_layer.specs.Members.{Member}
use Rattle.gj_layer.specs.Positions.{position_of, lost_of}
use Rattle.gj_layer.specs.Paths.{end_of, Path, Part, joint_part, rows_from, edit_of, vertices_of, lost_in}

-- the answer is the value that is wanted, up to the relation, or its fault; memory may always run out
abbrev pub Gives : {A B : Type 0} → (A → B → Type 0) → Result A LayerFault → Result B LayerFault → Type 0
Gives {A} {B} R (Ok one) wanted = (other : B) × (wanted ≡ Ok other) × R one other
Gives R (Err fault) wanted = (fault ≡ faults.NoMemory → ⊥) → wanted ≡ Err fault

-- the member's value is at the node of this number, inside the object and before its end
pub record IsFound (nodes : List Node) (bytes : List ℕ) (object past number : ℕ) (one : Member) : Type 0 where
  pub stands : HasNodesAt nodes bytes number one.start one.value
  pub inside : object < number
  pub ends : number + node_count one.value ≤ past

-- the member was found there, or there is none
abbrev pub AreFound : List Node → List ℕ → ℕ → ℕ → Option ℕ → Option Member → Type 0
AreFound nodes bytes object past None None = Unit {0}
AreFound nodes bytes object past (Some number) (Some one) = IsFound nodes bytes object past number one
AreFound nodes bytes object past found one = ⊥

-- the one member was found, or none, or a second one
abbrev pub Finds : List Node → List ℕ → ℕ → ℕ → Result (Option ℕ) LayerFault → Result (Option Member) LayerFault
    → Type 0
Finds nodes bytes object past (Ok found) wanted =
    (one : Option Member) × (wanted ≡ Ok one) × AreFound nodes bytes object past found one
Finds nodes bytes object past (Err fault) wanted = wanted ≡ Err fault

-- these elements are from the node of this number to before that one
abbrev pub AreLeft : List Node → List ℕ → ℕ → ℕ → ℕ → Elements → Type 0
AreLeft nodes bytes at end place no_element = at ≡ end
AreLeft nodes bytes at end place (element before value after rest) =
    HasNodesAt nodes bytes at (element_start place before) value
    × AreLeft nodes bytes (at + node_count value) end (next_place (element_start place before) value after) rest

-- from where the first position begins to where the last one ends
abbrev pub AreFrom : List PositionRead → ℕ → ℕ → Type 0
AreFrom [] start end = Unit {0}
AreFrom (one ∷ more) start end = (start ≡ one.start) × (end ≡ end_of one more)

-- the points and heights of the positions were appended, and their run is this
pub record IsRun (points points' : List Pt) (heights heights' : List Height) (run : PositionRun) (all : List PositionRead)
    : Type 0 where
  pub points_are : points' ≡ points ++ points_of (map position_of all)
  pub heights_are : heights' ≡ heights ++ heights_of (map position_of all)
  pub lost : run.lost ≡ sum_by lost_of all
  pub ends : AreFrom all run.start run.end

-- the sheet so far is this part, with these points and their heights after it
pub record HoldsMore (pass : PathsRead) (part : Part) (positions : List Position) : Type 0 where
  pub paths : pass.paths.items ≡ rows_from 0 part.paths
  pub points_are : pass.points.items ≡ points_of (vertices_of part.paths ++ positions)
  pub heights_are : pass.heights ≡ heights_of (vertices_of part.paths ++ positions)
  pub edits : pass.edits.items ≡ part.edits
  pub inexact : pass.inexact ≡ sum_by lost_in part.paths

-- the sheet so far is this part
abbrev pub Holds : PathsRead → Part → Type 0
Holds pass part = HoldsMore pass part []

-- one path
abbrev pub path_part : ℕ → Path → Part
path_part number path = record { paths = path ∷ []; edits = edit_of number path ∷ [] }

-- what is wanted was read after the part
abbrev pub Joins : {A : Type 0} → Part → PathsRead → Result A LayerFault → Result Part LayerFault → Type 0
Joins {A} part new result wanted = Gives {A = A} (λ done more. Holds new (joint_part part more)) result wanted

-- there is room for what is in this many nodes
pub record HasRoom (pass : PathsRead) (size : ℕ) : Type 0 where
  pub points : length pass.points.items + size < 2 ^ 32
  pub heights : length pass.heights + size < 2 ^ 32
  pub paths : length pass.paths.items + size < 2 ^ 32
  pub inexact : pass.inexact + 3 * size < 2 ^ 34

-- no more was appended than is in this many nodes
pub record Grows (old new : PathsRead) (size : ℕ) : Type 0 where
  pub points : length new.points.items ≤ length old.points.items + size
  pub heights : length new.heights ≤ length old.heights + size
  pub paths : length new.paths.items ≤ length old.paths.items + size
  pub inexact : new.inexact ≤ old.inexact + 3 * size
