-- What a run may make, why it is refused, and that what it prints is JSON.
use Rattle.std.proofs.Common.{◌≡◌, ◌≢◌, ℕ, List, [], ◌∷◌, codes, Option, None, Some, Bool, IfSome, refl, sym, ◌∙◌}
use Rattle.std.proofs.Common.{ap, subst}
use Rattle.shelf_io.specs.Files.{Files}
use Rattle.shelf_io.specs.Load.{LacksName}
use Rattle.jtext.specs.Texts.{IsWhole}
use Rattle.sheet_base.specs.declared.flags.How.{How}
use Rattle.tin_base.specs.Triangulation.{Triangulation}
use Rattle.job_words.specs.declared.faults.WordsFault.{WordsFault}
use Rattle.job_words.specs.declared.faults.WordsFault.TheVariants.{NoMemory as WordsMemory}
use Rattle.runs.specs.declared.status.Status.{Status}
use Rattle.runs.specs.declared.status.Status.TheVariants.{Limit}
use Rattle.runs.specs.declared.refusal.Refusal.{Refusal}
use Rattle.runs.specs.declared.refusal.Refusal.TheVariants.{Words, Check, NoMemory}
use Rattle.runs.specs.Refusals as runs
use Rattle.runs.specs.Causes.{HasCauses, by_the_files, unread, no_room}
use Rattle.runs.specs.Counts.{ShelfCounts}
use Rattle.runs.specs.Status.{end_of}
use Rattle.runs.specs.Loads.{IsTinUnready}
use Rattle.runs.specs.Triangulations.{IsTinRefusedOver}
use Rattle.runs.proofs.RefusalLines.{memory-line}
use Rattle.runs.proofs.RunEnds.{by_memory}
use Rattle.runs.proofs.TinRefusals.{without_file, without_read, without_room, unready}
use Rattle.fault_runs.specs.declared.refusals.FaultRefusal.TheVariants.{Run, TooManyFaults}
use Rattle.fault_runs.specs.declared.words.Wanted.{Wanted}
use Rattle.publication.specs.Fronts.{HasWritten}
use Rattle.publication.specs.RunEnds.{HasStatusCauses}
use Rattle.publication.proofs.RunEnds.{refusal_causes}
use Rattle.fault_runs.specs.Refusals.{status_of, line_file}
use Rattle.fault_runs.specs.Words.{AsksFaults, LacksFaults, LacksCheck}
use Rattle.fault_runs.specs.Outcome.{IsReadRefusedOver, IsNotChecked, HasReadOver, HasRead, IsSaidOf, HasTooMany}
use Rattle.fault_runs.specs.Outcome.{no_job, refused, too_many, listed}
use Rattle.fault_runs.specs.Ends.{Makes, by_outcome, after_read_fault, out_of_memory, IsJsonFile, LacksWantedOf}
use Rattle.fault_runs.specs.HandedOut.{MayRefuseWantedOver}
use Rattle.fault_runs.specs.Laws.{faults_depth}
use Rattle.fault_runs.specs.FaultsValue.{faults_whole}
use Rattle.fault_runs.specs.InsideTexts.{IsFaultsText}

-- words that are not understood, or memory ran out while they were read
pub makes_no_job : (words : List (List ℕ)) (files : Files) (shelf_rose : Type 0) (fault : WordsFault)
    → (fault ≢ WordsMemory → LacksFaults words fault)
    → Makes words files shelf_rose (status_of (Run (Words fault))) (line_file (Run (Words fault)))
makes_no_job words files shelf_rose fault lacks =
    by_memory
    (λ (f : WordsFault). (f ≢ WordsMemory → LacksFaults words f)
    → Makes words files shelf_rose (status_of (Run (Words f))) (line_file (Run (Words f))))
    (λ lacks. out_of_memory (record { status_is = refl; made_is = refl }))
    (λ f other lacks. by_outcome (no_job f (lacks other) (record { status_is = refl; made_is = refl }))) fault lacks

-- a file that gives no triangulation
read_refused : (told : Option Files) (how : How) (name : List ℕ) (refusal : Refusal)
    → IsTinRefusedOver told how name refusal → IsNotChecked refusal → IsReadRefusedOver told how name refusal
read_refused told how name (Check fault) is not = absurd not
read_refused told how name refusal is not = is

makes_unread : (words : List (List ℕ)) (files : Files) (shelf_rose passed : Type 0) (wanted : Wanted)
    (refusal : Refusal) → AsksFaults words wanted
    → IsTinUnready (Some files) wanted.how wanted.tin shelf_rose passed refusal → IsNotChecked refusal
    → Makes words files shelf_rose (status_of (Run refusal)) (line_file (Run refusal))
makes_unread words files shelf_rose passed wanted refusal asks why not =
    elim (unready (Some files) wanted.how wanted.tin shelf_rose passed refusal why) [
      | without_file is ↦ by_outcome (refused wanted asks refusal
          (read_refused (Some files) wanted.how wanted.tin refusal is not) (record { status_is = refl; made_is = refl }))
      | without_read rises is ↦ after_read_fault rises wanted asks (record {
        status_is = ap runs.status_of is;
        made_is = ap (λ (r : Refusal). (codes "-", runs.line_of r) ∷ []) is;
      })
      | without_room is ↦ out_of_memory (record {
        status_is = is;
        made_is = ap (λ line. (codes "-", line) ∷ []) (memory-line refusal is);
      })
    ]

pub makes_many : (words : List (List ℕ)) (files : Files) (shelf_rose : Type 0) (wanted : Wanted)
    → AsksFaults words wanted → HasTooMany files wanted
    → Makes words files shelf_rose Limit (line_file TooManyFaults)
makes_many words files shelf_rose wanted asks many =
    by_outcome (too_many wanted asks many (record { status_is = refl; made_is = refl }))

pub makes_no_room : (words : List (List ℕ)) (files : Files) (shelf_rose : Type 0)
    → Makes words files shelf_rose (status_of (Run NoMemory)) (line_file (Run NoMemory))
makes_no_room words files shelf_rose = out_of_memory (record { status_is = refl; made_is = refl })

pub makes_said : (words : List (List ℕ)) (files : Files) (shelf_rose : Type 0) (wanted : Wanted) (tin : Triangulation)
    (said : List ℕ) (some : Bool) → AsksFaults words wanted → HasRead files wanted.how wanted.tin tin
    → IsSaidOf wanted.lines tin said some → Makes words files shelf_rose (end_of some) ((codes "-", said) ∷ [])
makes_said words files shelf_rose wanted tin said some asks read is = by_outcome (listed wanted asks (record {
  tin = tin;
  read = read;
  said = said;
  some = some;
  is_said = is;
  status_is = refl;
  made_is = refl;
}))

-- the triangulation is that of the file, where the files of the shelf are known
pub read_told : (told : Option Files) (wanted : Wanted) (tin : Triangulation)
    → HasReadOver told wanted.how wanted.tin tin → IfSome told (λ files. HasRead files wanted.how wanted.tin tin)
read_told None wanted tin read = tt
read_told (Some files) wanted tin read = read

-- a file that gives no triangulation, where the files of the shelf may be unknown
pub makes_unread_told : (words : List (List ℕ)) (told : Option Files) (shelf_rose passed : Type 0) (wanted : Wanted)
    (refusal : Refusal) → AsksFaults words wanted
    → IsTinUnready told wanted.how wanted.tin shelf_rose passed refusal → IsNotChecked refusal
    → IfSome told (λ files. Makes words files shelf_rose (status_of (Run refusal)) (line_file (Run refusal)))
makes_unread_told words None shelf_rose passed wanted refusal asks why not = tt
makes_unread_told words (Some files) shelf_rose passed wanted refusal asks why not =
    makes_unread words files shelf_rose passed wanted refusal asks why not

-- why a file that gives no triangulation is refused
pub may_refuse : (told : Option Files) (wanted : Wanted) (shelf_rose passed : Type 0) (refusal : Refusal)
    → IsTinUnready told wanted.how wanted.tin shelf_rose passed refusal → IsNotChecked refusal
    → MayRefuseWantedOver told wanted shelf_rose (Run refusal)
may_refuse told wanted shelf_rose passed refusal why not =
    elim (unready told wanted.how wanted.tin shelf_rose passed refusal why) [
      | without_file is ↦ by_the_files (read_refused told wanted.how wanted.tin refusal is not)
      | without_read rises is ↦ unread rises is
      | without_room is ↦ no_room is
    ]

-- running out of memory has no other cause
pub memory_causes : (lacks : Type 0) (counts : ShelfCounts) → HasCauses lacks (λ status. Unit {0}) counts NoMemory
memory_causes lacks counts = record {
  understood = λ e. cc;
  read = λ e. cc;
  tin_long = λ e. cc;
  layers_long = λ e. cc;
  written_long = λ e. cc;
  cert_long = λ e. cc;
  may_end = tt;
}

-- ---- what the status comes of
-- words that ask for faults have none themselves
pub asks_or_lacks : (words : List (List ℕ)) (wanted : Wanted) → AsksFaults words wanted → LacksCheck words → ⊥
asks_or_lacks words wanted asks (fault, lacks) = let e = sym asks.job ∙ lacks in cc

pub wanted_causes : (words : List (List ℕ)) (told : Option Files) (counts : ShelfCounts) (wanted : Wanted)
    (refusal : Refusal) (result : Status) (made : Option Files) → AsksFaults words wanted
    → HasCauses (LacksName told wanted.tin) (λ (status : Status). Unit {0}) counts refusal
    → HasWritten (runs.line_file refusal) (runs.status_of refusal) result made
    → HasStatusCauses (LacksCheck words) (LacksWantedOf words told) counts result made
wanted_causes words told counts wanted refusal result made asks why written =
    refusal_causes (LacksCheck words) (LacksWantedOf words told) counts result made (LacksName told wanted.tin)
    (λ (status : Status). Unit {0}) refusal (asks_or_lacks words wanted asks) (λ lacks. (wanted, asks, lacks)) why written

-- ---- the text is JSON
pub json_told : (lines : Bool) (said : List ℕ) (made : Option Files) → IsFaultsText lines said
    → IfSome made (λ files. files ≡ (codes "-", said) ∷ []) → IfSome made IsJsonFile
json_told lines said None is made = tt
json_told lines said (Some files) (faults, text, json) made = (
  said,
  faults_whole lines faults,
  made,
  subst (λ (t : List ℕ). IsWhole faults_depth (faults_whole lines faults) t) (sym text) json.whole,
)
