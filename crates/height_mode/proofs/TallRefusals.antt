-- Why a file gives no sound triangulation with offsets, from the steps of loading it.
use Rattle.std.proofs.Common.{◌≡◌, inl, inr, ℕ, List, Option, refl, ap}
use Rattle.shelf_io.specs.Files.{Files}
use Rattle.sheet_base.specs.declared.flags.How.{How}
use Rattle.tin_check.specs.declared.faults.CheckFault.TheVariants.{Flat, TurnsOver, Meets, NoMemory as CheckMemory}
use Rattle.runs.specs.declared.status.Status.TheVariants.{Memory}
use Rattle.runs.specs.declared.refusal.Refusal.{Refusal}
use Rattle.runs.specs.declared.refusal.Refusal.TheVariants.{TinUnread, Tin, Check, NoMemory}
use Rattle.runs.specs.Refusals.{status_of}
use Rattle.runs.specs.Loads.{missing, read_failed, too_long, no_memory}
use Rattle.runs.specs.Triangulations.{HasFileOver}
use Rattle.runs.proofs.Faults.{want_or_fault}
use Rattle.height_mode.specs.Talls.{IsTallRefusedOver, IsTallTextRefused, IsTallUnready, not_loaded, no_tall}

-- why the triangulation is not had: by the files, after a read fault, or because memory ran out
pub data IsWithoutTall (told : Option Files) (how : How) (name : List ℕ) (rose : Type 0) (refusal : Refusal) : Type 0 where
  without_file : IsTallRefusedOver told how name refusal → IsWithoutTall told how name rose refusal
  without_read : rose → refusal ≡ TinUnread → IsWithoutTall told how name rose refusal
  without_room : status_of refusal ≡ Memory → IsWithoutTall told how name rose refusal

text_refused : (told : Option Files) (how : How) (name text : List ℕ) (rose : Type 0) (refusal : Refusal)
    → HasFileOver told name text → IsTallTextRefused how text refusal → IsWithoutTall told how name rose refusal
text_refused told how name text rose (Tin why_not) file why =
    elim (want_or_fault why_not) [
      | inl want ↦ without_room want
      | inr other ↦ without_file (text, file, record { answers = why; of_text = other })
    ]
text_refused told how name text rose (Check (Flat triangle frame)) file (tall, read, first) =
    without_file (text, file, record { tall = tall; read = read; first = first })
text_refused told how name text rose (Check (TurnsOver triangle)) file (tall, read, first) =
    without_file (text, file, record { tall = tall; read = read; first = first })
text_refused told how name text rose (Check (Meets first second frame)) file (tall, read, cause) =
    without_file (text, file, record { tall = tall; read = read; first = cause })
text_refused told how name text rose (Check CheckMemory) file why = without_room refl
text_refused told how name text rose NoMemory file why = without_room refl
text_refused told how name text rose refusal file why = absurd why

pub unready : (told : Option Files) (how : How) (name : List ℕ) (rose passed : Type 0) (refusal : Refusal)
    → IsTallUnready told how name rose passed refusal → IsWithoutTall told how name rose refusal
unready told how name rose passed refusal (not_loaded (missing is lacks)) = rw is (without_file lacks)
unready told how name rose passed refusal (not_loaded (read_failed is rises)) = without_read rises is
unready told how name rose passed refusal (not_loaded (too_long is long given)) = rw is (without_file long)
unready told how name rose passed refusal (not_loaded (no_memory is)) = without_room (ap status_of is)
unready told how name rose passed refusal (no_tall text file why) =
    text_refused told how name text rose refusal file why
