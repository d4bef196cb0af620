-- A line that says that there are too many bytes is that of such files: no other line or text begins so.
use Rattle.std.proofs.Common.{◌≡◌, ◌≢◌, ◌++◌, ℕ, List, [], ◌∷◌, codes, take, Option, None, Some, IfSome, ap}
use Rattle.shelf_io.specs.Files.{Files}
use Rattle.runs.specs.declared.status.Status.{Status}
use Rattle.runs.specs.declared.status.Status.TheVariants.{Write}
use Rattle.runs.specs.declared.refusal.Refusal.{Refusal}
use Rattle.runs.specs.declared.refusal.Refusal.TheVariants.{TinLong, LayersLong, WrittenLong, CertLong}
use Rattle.runs.specs.Refusals.{limit_front, status_of, line_of, line_file}
use Rattle.runs.proofs.RefusalLines.{never-write}
use Rattle.runs.proofs.LimitLines.{TellsNone, none-begins, of_tin, of_layers, of_written, of_cert, of_none, limit_line}
use Rattle.publication.specs.Fronts.{IsFrontOf, HasWritten}
use Rattle.publication.specs.RunEnds.{TellsBytes}
use Rattle.publication.proofs.Fronts.{written_front}

-- no first part of the text says that there are too many bytes
abbrev pub IsApart : List ℕ → Type 0
IsApart said = (rest : List ℕ) (count : ℕ) → limit_front ++ rest ≡ take count said → ⊥

pub apart : (said : List ℕ) → TellsNone said → IsApart said
apart said none = λ rest count same. none-begins said rest count none same

pub front_apart : (said : List ℕ) (made : Files) → IsApart said → IsFrontOf made ((codes "-", said) ∷ [])
    → TellsBytes made → ⊥
front_apart said made none front (rest, is) =
    let (count, same) = rw is at front in none rest count (ap (λ (f : List ℕ × List ℕ). f.1) same)

-- a text that is written so does not say that there are too many bytes
pub limit_apart : (said : List ℕ) (wanted result : Status) (made : Option Files) (passed : Type 0) → wanted ≢ Write
    → IsApart said → HasWritten ((codes "-", said) ∷ []) wanted result made
    → IfSome made (λ files. TellsBytes files → passed)
limit_apart said wanted result None passed other none written = tt
limit_apart said wanted result (Some made) passed other none written = λ tells.
    absurd (front_apart said made none
    (written_front ((codes "-", said) ∷ []) wanted result (Some made) other written) tells)

-- a line that says that there are too many bytes is that of such a file
tells_long : (refusal : Refusal) (passed : Type 0) (made : Files) → IsFrontOf made (line_file refusal) → TellsBytes made
    → (refusal ≡ TinLong → passed) → (refusal ≡ LayersLong → passed) → (refusal ≡ WrittenLong → passed)
    → (refusal ≡ CertLong → passed) → passed
tells_long refusal passed made front tells tin layer written cert =
    elim (limit_line refusal) [
      | of_tin is ↦ tin is
      | of_layers is ↦ layer is
      | of_written is ↦ written is
      | of_cert is ↦ cert is
      | of_none none ↦ absurd (front_apart (line_of refusal) made (apart (line_of refusal) none) front tells)
    ]

pub limit_told : (refusal : Refusal) (result : Status) (made : Option Files) (passed : Type 0)
    → HasWritten (line_file refusal) (status_of refusal) result made
    → (refusal ≡ TinLong → passed) → (refusal ≡ LayersLong → passed) → (refusal ≡ WrittenLong → passed)
    → (refusal ≡ CertLong → passed) → IfSome made (λ files. TellsBytes files → passed)
limit_told refusal result None passed printed tin layer written cert = tt
limit_told refusal result (Some made) passed printed tin layer written cert = λ tells.
    tells_long refusal passed made (written_front (line_file refusal) (status_of refusal) result (Some made)
    (never-write refusal) printed) tells tin layer written cert
