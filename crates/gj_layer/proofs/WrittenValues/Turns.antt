-- How a value turns into the value that is written: its edits' texts take the place of their spans, and it is read with
-- images in place of points.
use Rattle.std.proofs.Common.{◌≡◌, ℕ, suc, ◌+◌, Bool, List, [], ◌∷◌, ◌++◌, length, refl, arith}
use Rattle.jtext.specs.Values.{Json, Elements, null, spelling, elements_text, elements_behind, IsValue, AreElements}
use Rattle.jtext.specs.Values.{IsArrayBlank}
use Rattle.sheet_base.specs.PointHeights.{Position}
use Rattle.sheet_base.specs.declared.edits.Edit.{Edit}
use Rattle.sheet_base.specs.declared.edits.What.TheVariants.{Bounds, Null}
use Rattle.sheet_base.proofs.Swaps.{Swapped, front_swapped, behind_swapped}
use Rattle.gj_layer.specs.declared.forms.ValueForm.{ValueForm}
use Rattle.gj_layer.specs.Members.{Member}
use Rattle.gj_layer.specs.Paths.{Path, Part, edit_of}
use Rattle.gj_layer.specs.Objects.{value_edit}
use Rattle.gj_layer.specs.Documents.{reading, readings}
use Rattle.gj_layer.proofs.WrittenPaths.DrawnImages.{kind_text, IsDrawn}

-- bytes that are a value of one level
pub record IsFlat (bytes : List ℕ) : Type 0 where
  pub value : Json
  pub text : spelling value ≡ bytes
  pub valid : (depth : ℕ) → IsValue (suc depth) value

-- the texts of edits: those of paths are their images, and the others are a box or null
pub record DoesSay (text : Edit → List ℕ) (images : ℕ → List Position) : Type 0 where
  pub paths : (number : ℕ) (path : Path) → text (edit_of number path) ≡ kind_text path.kind (images number)
  pub boxes : (one : Member) (first past : ℕ) → IsFlat (text (value_edit one (Bounds first past)))
  pub nulls : (one : Member) → text (value_edit one Null) ≡ spelling null

-- The value, whose text begins at this place, turns into another that nests no deeper. It is read in the same form,
-- wherever it is.
pub record ValueTurned (exact : Bool) (text : Edit → List ℕ) (images : ℕ → List Position) (form : ValueForm)
    (number start depth : ℕ) (value : Json) (part : Part) : Type 0 where
  pub now : Json
  pub swap : Swapped text start (spelling value) part.edits (spelling now)
  pub valid : IsValue depth now
  pub reads : (at : ℕ) → IsDrawn images number part.paths (reading exact form number at now)

-- elements, whose text begins at this place, turn into others that nest no deeper and are read in the same form
pub record ElementsTurned (exact : Bool) (text : Edit → List ℕ) (images : ℕ → List Position) (form : ValueForm)
    (number place depth : ℕ) (elements : Elements) (part : Part) : Type 0 where
  pub now : Elements
  pub swap : Swapped text place (elements_text elements) part.edits (elements_text now)
  pub swap_behind : (from : ℕ) → place ≡ from + 1
      → Swapped text from (elements_behind elements) part.edits (elements_behind now)
  pub blank : (blank : List ℕ) → IsArrayBlank blank elements → IsArrayBlank blank now
  pub valid : AreElements depth now
  pub reads : (at : ℕ) → IsDrawn images number part.paths (readings exact form number at now)

-- what is between brackets
pub bracketed : (text : Edit → List ℕ) (start first last : ℕ) (blank old : List ℕ) (edits : List Edit) (new : List ℕ)
    → Swapped text (start + 1 + length blank) old edits new
    → Swapped text start (first ∷ (blank ++ (old ++ last ∷ []))) edits (first ∷ (blank ++ (new ++ last ∷ [])))
bracketed text start first last blank old edits new swap =
    front_swapped text start (start + 1) (first ∷ []) (blank ++ (old ++ last ∷ [])) edits (blank ++ (new ++ last ∷ []))
    (omega arith)
    (front_swapped text (start + 1) (start + 1 + length blank) blank (old ++ last ∷ []) edits (new ++ last ∷ []) refl
    (behind_swapped text (start + 1 + length blank) old (last ∷ []) edits new swap))
