-- What a check says of a triangulation, and how it ends.
use Rattle.std.specs.Prelude.{◌≡◌, ℕ, List, [], ◌∷◌, codes, decimal, length, Option}
use Rattle.std.specs.List.{concat}
use Rattle.shelf_io.specs.Files.{Files}
use Rattle.sheet_base.specs.declared.flags.How.{How}
use Rattle.tin_base.specs.Triangulation.{Triangulation}
use Rattle.tin_base.specs.Soundness.{IsSound}
use Rattle.runs.specs.declared.status.Status.{Status}
use Rattle.runs.specs.declared.status.Status.TheVariants.{Same, Changed, Layer, Outside}
use Rattle.runs.specs.declared.refusal.Refusal.{Refusal}
use Rattle.runs.specs.declared.refusal.Refusal.TheVariants.{TinUnread}
use Rattle.runs.specs.Triangulations.{HasTin, HasTinOver, IsTinRefusedOver}
use Rattle.runs.specs.Causes.{MayRefuse}

-- the line of a triangulation that was found sound
abbrev pub sound_text : Triangulation → List ℕ
sound_text tin = concat (
    codes "sound: corners " ∷ decimal (length tin.corners) ∷ codes " triangles " ∷ decimal (length tin.triangles)
    ∷ codes " inexact " ∷ decimal tin.inexact ∷ codes "\n" ∷ [])

-- the triangulation is sound, and its line says so
pub record IsChecked (files : Files) (how : How) (name : List ℕ) (status : Status) (made : Files) : Type 0 where
  pub tin : Triangulation
  pub ready : HasTin files how name tin
  pub status_is : status ≡ Same
  pub made_is : made ≡ (codes "-", sound_text tin) ∷ []

-- What is so of the triangulation that a check hands out.
pub record IsTinOfCheck (told : Option Files) (how : How) (name said : List ℕ) (tin : Triangulation) : Type 0 where
  -- it is that of the file of this name, read and sound
  pub ready : HasTinOver told how name tin
  -- the line is its
  pub said_is : said ≡ sound_text tin

-- the text is the line of some sound triangulation
pub record IsSoundLine (said : List ℕ) : Type 0 where
  pub tin : Triangulation
  pub sound : IsSound tin
  pub said_is : said ≡ sound_text tin

-- what is written, whatever files hold, and the status: no layer, and the line of some sound triangulation
abbrev pub IsCheckWritten : Files → List ℕ → Status → Type 0
IsCheckWritten layers said status = (layers ≡ []) × (status ≡ Same) × IsSoundLine said

-- why it may be refused: by the file, or by some bytes where the shelf states nothing, or after a read fault of it, or
-- because memory ran out
abbrev pub MayRefuseCheckOver : Option Files → How → List ℕ → Type 0 → Refusal → Type 0
MayRefuseCheckOver told how name shelf_rose refusal =
    MayRefuse (IsTinRefusedOver told how name) (λ other. other ≡ TinUnread) shelf_rose refusal

-- a check has no layer
abbrev pub IsEndOfCheck : Status → Type 0
IsEndOfCheck Changed = ⊥
IsEndOfCheck Layer = ⊥
IsEndOfCheck Outside = ⊥
IsEndOfCheck status = Unit {0}
