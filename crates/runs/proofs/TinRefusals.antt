-- Why a file gives no sound triangulation, from the steps of loading it.
use Rattle.std.proofs.Common.{◌≡◌, ◌≤◌, inl, inr, ℕ, List, length, Option, IfSome, refl, ap}
use Rattle.shelf_io.specs.Files.{Files}
use Rattle.shelf_io.specs.Load.{Loads}
use Rattle.sheet_base.specs.declared.flags.How.{How}
use Rattle.tin_check.specs.declared.faults.CheckFault.TheVariants.{Flat, TurnsOver, Meets, NoMemory as CheckMemory}
use Rattle.runs.specs.declared.loads.TheConstants.{MOST_BYTES}
use Rattle.runs.specs.declared.status.Status.TheVariants.{Memory}
use Rattle.runs.specs.declared.refusal.Refusal.{Refusal}
use Rattle.runs.specs.declared.refusal.Refusal.TheVariants.{TinUnread, Tin, Check, NoMemory}
use Rattle.runs.specs.Refusals.{status_of}
use Rattle.runs.specs.Triangulations.{HasFileOver, IsTinRefusedOver, IsTextRefused}
use Rattle.runs.specs.Loads.{missing, read_failed, too_long, no_memory, IsTinUnready, not_loaded, no_tin}
use Rattle.runs.proofs.Faults.{want_or_fault}

-- ---- files
-- the file that was loaded
pub has_file : (told : Option Files) (name bytes : List ℕ) → IfSome told (Loads name bytes) → length bytes ≤ MOST_BYTES
    → HasFileOver told name bytes
has_file told name bytes found within = record { found = found; within = within }

-- ---- the triangulation
-- why the triangulation is not had: by the files, after a read fault, or because memory ran out
pub data IsWithoutTin (told : Option Files) (how : How) (name : List ℕ) (rose : Type 0) (refusal : Refusal) : Type 0 where
  without_file : IsTinRefusedOver told how name refusal → IsWithoutTin told how name rose refusal
  without_read : rose → refusal ≡ TinUnread → IsWithoutTin told how name rose refusal
  without_room : status_of refusal ≡ Memory → IsWithoutTin told how name rose refusal

text-refused : (told : Option Files) (how : How) (name text : List ℕ) (rose : Type 0) (refusal : Refusal)
    → HasFileOver told name text → IsTextRefused how text refusal → IsWithoutTin told how name rose refusal
text-refused told how name text rose (Tin why_not) file why =
    elim (want_or_fault why_not) [
      | inl want ↦ without_room want
      | inr other ↦ without_file (text, file, record { answers = why; of_text = other })
    ]
text-refused told how name text rose (Check (Flat triangle frame)) file (tin, read, first) =
    without_file (text, file, record { tin = tin; read = read; first = first })
text-refused told how name text rose (Check (TurnsOver triangle)) file (tin, read, first) =
    without_file (text, file, record { tin = tin; read = read; first = first })
text-refused told how name text rose (Check (Meets first second frame)) file (tin, read, cause) =
    without_file (text, file, record { tin = tin; read = read; first = cause })
text-refused told how name text rose (Check CheckMemory) file why = without_room refl
text-refused told how name text rose NoMemory file why = without_room refl
text-refused told how name text rose refusal file why = absurd why

pub unready : (told : Option Files) (how : How) (name : List ℕ) (rose passed : Type 0) (refusal : Refusal)
    → IsTinUnready told how name rose passed refusal → IsWithoutTin told how name rose refusal
unready told how name rose passed refusal (not_loaded (missing is lacks)) = rw is (without_file lacks)
unready told how name rose passed refusal (not_loaded (read_failed is rises)) = without_read rises is
unready told how name rose passed refusal (not_loaded (too_long is long given)) = rw is (without_file long)
unready told how name rose passed refusal (not_loaded (no_memory is)) = without_room (ap status_of is)
unready told how name rose passed refusal (no_tin text file why) =
    text-refused told how name text rose refusal file why
