-- The arrays and objects that are open while a layer is read. Only private functions speak of them.
use Rattle.std.specs.Prelude.{◌≡◌, ℕ, ◌+◌, ◌-◌, ◌<◌, ◌≤◌, Bool, true, nat_lt, codes, List, [], ◌∷◌, ◌++◌, length}
use Rattle.std.specs.Prelude.{slice_get, flat_map, Option, Some, None, Result, Ok, Err, if◌then◌else◌}
use Rattle.jtext.specs.Values.{Elements, no_element}
use Rattle.jtext.specs.Nodes.{node_count}
use Rattle.jtext.specs.Places.{HasNodesAt}
use Rattle.jtext.specs.declared.document.Node.{Node}
use Rattle.sheet_base.specs.declared.faults.LayerFault.{LayerFault}
use Rattle.sheet_base.specs.declared.faults.LayerFault.TheVariants as faults
use Rattle.sheet_base.specs.declared.edits.Edit.{Edit}
use Rattle.sheet_base.specs.declared.edits.What.{What}
use Rattle.sheet_base.specs.declared.edits.What.TheVariants.{Null}
use Rattle.gj_layer.specs.declared.forms.GeoType.{GeoType}
use Rattle.gj_layer.specs.declared.forms.Holder.{Holder}
use Rattle.gj_layer.specs.declared.forms.ValueForm.{ValueForm}
use Rattle.gj_layer.specs.declared.frames.ByteSpan.{ByteSpan}
use Rattle.gj_layer.specs.declared.frames.OpenFrame.{OpenFrame}
use Rattle.gj_layer.specs.declared.frames.Ending.{Ending}
use Rattle.gj_layer.specs.declared.objects.Looked.{Looked}
use Rattle.gj_layer.specs.declared.pass.PathsRead.{PathsRead}
use Rattle.sheet_base.specs.Faults.{and_then}
use Rattle.gj_layer.specs.Members.{Member, find_member}
use Rattle.gj_layer.specs.Objects.{content_key, find_crs, value_edit, member_edits, object_part}
use Rattle.gj_layer.specs.Paths.{Part, nothing, joint_part}
use Rattle.gj_layer.specs.Documents.{readings}
use Rattle.gj_layer.specs.InsideNodes.{AreFound, AreLeft, Holds, Grows}

-- an object: where it is, its type, its members, and whether its content is missing
pub record Own : Type 0 where
  pub holder : Holder
  pub type : GeoType
  pub members : List Member
  pub bare : Bool

-- an array or object that is open: what its elements are, the numbers of its first path and of its next one, what is
-- left, and what was read
pub record Open : Type 0 where
  pub form : ValueForm
  pub number : ℕ
  pub next : ℕ
  pub place : ℕ
  pub rest : Elements
  pub own : Option Own
  pub done : Part

-- what was read, where it ends there
abbrev pub part_with_own : Option Own → ℕ → Part → Part
part_with_own None number part = part
part_with_own (Some own) number part = object_part own.holder own.type number own.members part

abbrev pub part_of_level : Open → Part → Result Part LayerFault
part_of_level level others = Ok (part_with_own level.own level.number (joint_part level.done others))

-- what it is read as, with what is left
abbrev pub whole_of : Bool → Open → Result Part LayerFault
whole_of exact level = and_then (part_of_level level) (readings exact level.form level.next level.place level.rest)

abbrev pub with_more : Open → Part → Open
with_more level here = record level { next = level.next + length here.paths; done = joint_part level.done here }

-- what the outermost is read as, where this is read of the one inside these, the innermost first
abbrev pub outcome : Bool → List Open → Result Part LayerFault → Result Part LayerFault
outcome exact [] inside = inside
outcome exact (level ∷ outer) inside = outcome exact outer
    (and_then (λ here. whole_of exact (with_more level here)) inside)

-- all that was read so far
abbrev pub held_by : List Open → Part
held_by [] = nothing
held_by (level ∷ outer) = joint_part (held_by outer) level.done

-- the edit of a member's value, where there is one
abbrev pub edit_at : Option ByteSpan → What → List Edit
edit_at None what = []
edit_at (Some span) what = record { start = span.start; end = span.end; what = what } ∷ []

-- the edit of a member's value, where the member is there
abbrev pub value_edits : Option Member → What → List Edit
value_edits None what = []
value_edits (Some one) what = value_edit one what ∷ []

-- the content's first node and the one after it, and where it begins; all 0 where it is missing
abbrev pub IsContentAt : List Node → List ℕ → ℕ → ℕ → ℕ × ℕ × ℕ → Option Member → Type 0
IsContentAt nodes bytes object past place None = place ≡ (0, 0, 0)
IsContentAt nodes bytes object past place (Some one) =
    HasNodesAt nodes bytes place.0 one.start one.value × (place.1 ≡ place.0 + node_count one.value)
    × (place.2 ≡ one.start)
    × (object < place.0) × (place.1 ≤ past)

-- the edit, where there is one
abbrev pub edit_list : Option Edit → List Edit
edit_list None = []
edit_list (Some edit) = edit ∷ []

-- two such edits in order of the text
abbrev pub in_order : List Edit → List Edit → List Edit
in_order (one ∷ []) (other ∷ []) = if nat_lt other.start one.start then other ∷ one ∷ [] else one ∷ other ∷ []
in_order ones others = ones ++ others

-- those before a place, and the others
abbrev pub fronts : ℕ → List Edit → List Edit
fronts place [] = []
fronts place (edit ∷ edits) = if nat_lt edit.start place then edit ∷ fronts place edits else fronts place edits

abbrev pub behinds : ℕ → List Edit → List Edit
behinds place [] = []
behinds place (edit ∷ edits) = if nat_lt edit.start place then behinds place edits else edit ∷ behinds place edits

-- the edits of an object's own members
abbrev pub own_edits : Ending → What → List Edit
own_edits ending bounds = in_order (edit_at ending.bbox bounds) (edit_at ending.crs Null)

-- those of its content between them
abbrev pub laid : Ending → What → List Edit → List Edit
laid ending bounds inner = fronts ending.content (own_edits ending bounds)
    ++ (inner ++ behinds ending.content (own_edits ending bounds))

-- what is done at the end of the object
pub record IsEndingOf (ending : Ending) (own : Own) (number : ℕ) (before : Part) : Type 0 where
  pub first : ending.first ≡ number
  pub edits : ending.edits ≡ length before.edits
  pub laid_so : (bounds : What) (inner : List Edit) → (own.bare ≡ true → inner ≡ [])
      → flat_map (member_edits own.holder own.type bounds inner) own.members ≡ laid ending bounds inner

abbrev pub IsEnding : Option Ending → Option Own → ℕ → Part → Type 0
IsEnding None None number before = Unit {0}
IsEnding (Some ending) (Some own) number before = IsEndingOf ending own number before
IsEnding ending own number before = ⊥

abbrev pub IsBare : Option Own → Type 0
IsBare None = ⊥
IsBare (Some own) = own.bare ≡ true

-- the frame is this array or object, after what was read before it
pub record IsFrame (nodes : List Node) (bytes : List ℕ) (frame : OpenFrame) (level : Open) (before : Part) : Type 0 where
  pub form_is : frame.form ≡ level.form
  pub left : AreLeft nodes bytes frame.at frame.end level.place level.rest
  pub ending_is : IsEnding frame.ending level.own level.number before
  pub number_is : level.number ≡ length before.paths
  pub next_is : level.next ≡ level.number + length level.done.paths
  pub bare : IsBare level.own → (level.rest ≡ no_element) × (level.done ≡ nothing)

-- the frames are these, of each of which a value inside is open
abbrev pub AreOuter : List Node → List ℕ → List OpenFrame → List Open → Type 0
AreOuter nodes bytes [] [] = Unit {0}
AreOuter nodes bytes (frame ∷ frames) (level ∷ outer) =
    IsFrame nodes bytes frame level (held_by outer) × (IsBare level.own → ⊥) × AreOuter nodes bytes frames outer
AreOuter nodes bytes frames opens = ⊥

-- the frames, the innermost first, with the sheet so far, lead to what is wanted
abbrev pub Going : Bool → List Node → List ℕ → List OpenFrame → PathsRead → Result Part LayerFault → Type 0
Going exact nodes bytes [] pass wanted = (part : Part) × (wanted ≡ Ok part) × Holds pass part
Going exact nodes bytes (frame ∷ frames) pass wanted =
    (level : Open) × (outer : List Open) × IsFrame nodes bytes frame level (held_by outer)
    × AreOuter nodes bytes frames outer
    × Holds pass (held_by (level ∷ outer)) × (wanted ≡ outcome exact outer (whole_of exact level))

-- the frame is what is wanted, from which nothing is read yet; or this is its fault
abbrev pub Opens : List Node → List ℕ → Bool → Part → Result OpenFrame LayerFault → Result Part LayerFault → Type 0
Opens nodes bytes exact before (Ok frame) wanted =
    (level : Open) × IsFrame nodes bytes frame level before × (level.done ≡ nothing) × (wanted ≡ whole_of exact level)
Opens nodes bytes exact before (Err fault) wanted = wanted ≡ Err fault

-- a value was read after the part, or opened; or this is its fault
abbrev pub Takes : List Node → List ℕ → Bool → Part → PathsRead → Result (Option OpenFrame) LayerFault → Result Part LayerFault
    → Type 0
Takes nodes bytes exact part new (Ok None) wanted = (more : Part) × (wanted ≡ Ok more) × Holds new (joint_part part more)
Takes nodes bytes exact part new (Ok (Some frame)) wanted =
    Opens nodes bytes exact part (Ok frame) wanted × Holds new part
Takes nodes bytes exact part new (Err fault) wanted = (fault ≡ faults.NoMemory → ⊥) → wanted ≡ Err fault

-- the members that are looked at, for an object of this type
pub record AreLooked (nodes : List Node) (bytes : List ℕ) (holder : Holder) (object past : ℕ) (members : List Member)
    (looked : Looked) : Type 0 where
  pub bbox : Option Member
  pub crs : Option Member
  pub content : Option Member
  pub bbox_is : find_member (codes "bbox") members ≡ Ok bbox
  pub crs_is : find_crs holder members ≡ Ok crs
  pub content_is : find_member (content_key looked.kind) members ≡ Ok content
  pub bbox_found : AreFound nodes bytes object past looked.bbox bbox
  pub crs_found : AreFound nodes bytes object past looked.crs crs
  pub content_found : AreFound nodes bytes object past looked.content content

-- these are those members, or this is their first fault
abbrev pub Looks : List Node → List ℕ → Holder → ℕ → ℕ → List Member → Result Looked LayerFault
    → Result GeoType LayerFault → Type 0
Looks nodes bytes holder object past members (Ok looked) wanted =
    (wanted ≡ Ok looked.kind) × AreLooked nodes bytes holder object past members looked
Looks nodes bytes holder object past members (Err fault) wanted = wanted ≡ Err fault

-- this many nodes are left
abbrev pub left_in : List OpenFrame → ℕ
left_in [] = 0
left_in (frame ∷ frames) = (frame.end - frame.at) + left_in frames

-- what is left of a value that was opened is inside it
abbrev pub IsFrameWithin : List Node → ℕ → Option OpenFrame → Type 0
IsFrameWithin nodes value None = Unit {0}
IsFrameWithin nodes value (Some frame) = (node : Node) → slice_get nodes value ≡ Some node
    → (frame.end - frame.at) + value < node.next

-- nothing was appended where a value was opened, and otherwise no more than is in it
abbrev pub GrowsBy : List Node → ℕ → PathsRead → PathsRead → Option OpenFrame → Type 0
GrowsBy nodes value old new None = (node : Node) → slice_get nodes value ≡ Some node → Grows old new (node.next - value)
GrowsBy nodes value old new (Some frame) = Grows old new 0

-- so the frames go on; or this is the fault of what is wanted
abbrev pub Goes : Bool → List Node → List ℕ → List OpenFrame → PathsRead → Result (Unit {0}) LayerFault → Result Part LayerFault
    → Type 0
Goes exact nodes bytes frames pass (Ok done) wanted = Going exact nodes bytes frames pass wanted
Goes exact nodes bytes frames pass (Err fault) wanted = (fault ≡ faults.NoMemory → ⊥) → wanted ≡ Err fault

-- the frames lead to something
abbrev pub AreGoing : Bool → List Node → List ℕ → List OpenFrame → PathsRead → Type 0
AreGoing exact nodes bytes frames pass = (wanted : Result Part LayerFault) × Going exact nodes bytes frames pass wanted
