-- What a refusal of what is made comes of.
use Rattle.std.proofs.Common.{◌≢◌, subst}
use Rattle.runs.specs.declared.status.Status.{Status}
use Rattle.runs.specs.declared.status.Status.TheVariants.{Words as WordsStatus}
use Rattle.runs.specs.declared.refusal.Refusal.{Refusal}
use Rattle.runs.specs.declared.refusal.Refusal.TheVariants.{Tin, Check, Layer, Outside, TooManyPieces, TooManyChanges}
use Rattle.runs.specs.declared.refusal.Refusal.TheVariants.{NoMemory}
use Rattle.runs.specs.Refusals.{status_of}
use Rattle.runs.specs.Counts.{ShelfCounts}
use Rattle.runs.specs.Causes.{HasCauses}
use Rattle.runs.proofs.Faults.{of_text, of_check, of_layer, tin_understood, layer_understood}
use Rattle.migrate_mode.specs.Maker.{IsOfMaking}
use Rattle.migrate_mode.proofs.MakerSteps.{never_read}

-- of what is made the words are understood, and no file is read
understood : (refusal : Refusal) → IsOfMaking refusal → status_of refusal ≢ WordsStatus
understood (Tin fault) of = tin_understood _ (of_text fault)
understood (Check fault) of = tin_understood _ (of_check fault)
understood (Layer layer fault) of = layer_understood _ (of_layer fault)
understood (Outside layer path segment) of = λ e. cc
understood TooManyPieces of = λ e. cc
understood TooManyChanges of = λ e. cc
understood NoMemory of = λ e. cc
understood refusal of = absurd of

pub making_causes : (counts : ShelfCounts) (refusal : Refusal) → IsOfMaking refusal
    → HasCauses ⊥ (λ (status : Status). Unit {0}) counts refusal
making_causes counts refusal of = record {
  understood = understood refusal of;
  read = λ e. absurd (never_read refusal of e);
  tin_long = λ e. absurd (subst IsOfMaking e of);
  layers_long = λ e. absurd (subst IsOfMaking e of);
  written_long = λ e. absurd (subst IsOfMaking e of);
  cert_long = λ e. absurd (subst IsOfMaking e of);
  may_end = tt;
}
