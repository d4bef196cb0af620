-- What is made, from the steps of making it.
use Rattle.std.proofs.Common.{◌≡◌, ◌≢◌, ◌≤◌, ◌+◌, ℕ, List, [], map, codes, length, Some, IfSome, refl, sym, ◌∙◌, ap}
use Rattle.std.proofs.Common.{false, arith}
use Rattle.shelf_io.specs.Load.{Loads}
use Rattle.tin_base.specs.Triangulation.{Triangulation}
use Rattle.tin_base.specs.Limits.{IsWithinLimits}
use Rattle.topo_check.specs.Changes.{AreAllComparable}
use Rattle.runs.specs.declared.loads.TheConstants.{MOST_BYTES}
use Rattle.runs.specs.declared.refusal.Refusal.{Refusal}
use Rattle.runs.specs.declared.status.Status.TheVariants.{Read}
use Rattle.runs.specs.declared.refusal.Refusal.TheVariants.{Tin, Check, Layer, Outside, TooManyPieces, TooManyChanges}
use Rattle.runs.specs.declared.refusal.Refusal.TheVariants.{TooManySides, NoMemory}
use Rattle.runs.specs.Refusals.{status_of}
use Rattle.runs.proofs.Faults.{of_text, of_check, of_layer, not_read, layer_not_read}
use Rattle.migrate_mode.specs.MakerTexts.{tin_text, layer_text}
use Rattle.runs.specs.Status.{end_of}
use Rattle.runs.specs.Triangulations.{HasDirected, HasFile, IsTin, IsTextRefused}
use Rattle.runs.specs.Loads.{no_tin}
use Rattle.sheet_base.specs.declared.flags.How.{How}
use Rattle.tin_base.specs.declared.pieces.Piece.{Piece}
use Rattle.migrate_mode.specs.Migrations.{all_files_in}
use Rattle.migrate_mode.specs.Maker.{made_files, made_migration, IsMakingDone, IsMakingWritten, IsOfMaking, MayNotBeMade}
use Rattle.runs.specs.Output.{file_of, files_of, HasForm}
use Rattle.migrate_mode.specs.RunContents.{HasCarried, AreUncarried, IsUnlisted, AddsLayer, AddsNone, IsReportedAlone}
use Rattle.migrate_mode.specs.RunContents.{HasKept, IsUnreported, by_changes, by_sides, IsUnsided}
use Rattle.migrate_mode.proofs.LayerLists.{names_done}
use Rattle.migrate_mode.proofs.MigrationSteps.{IsEmpty, carried_none}
use Rattle.migrate_mode.proofs.MigrationSteps.{carried_at, uncarried_at, layers_refused, report_refused, run_comparable}
use Rattle.migrate_mode.proofs.MigrationSteps.{reports_on, run_migrated, tin_refused}
use Rattle.runs.specs.declared.output.LayerFile.{LayerFile}
use Rattle.migrate_mode.specs.declared.layer_runs.CarriedLayers.{CarriedLayers}
use Rattle.runs.specs.declared.output.RunOutput.{RunOutput}
use Rattle.migrate_mode.specs.LayerRuns.{setting_of}

-- ---- the triangulation
made_loaded : (n : ℕ) (text : List ℕ) → text ≡ tin_text n → length text ≤ MOST_BYTES
    → HasFile (made_files n) made_migration.tin text
made_loaded n text is few = record { found = ap Some (sym is); within = few }

pub made_directed : (n : ℕ) (text : List ℕ) (tin index : Triangulation) → text ≡ tin_text n
    → length text ≤ MOST_BYTES → IsTin made_migration.how text tin → index ≡ tin
    → HasDirected (made_files n) made_migration.how made_migration.tin made_migration.inverse index
made_directed n text tin index is few has same = (tin, (text, made_loaded n text is few, has), same)

pub made_text_refused : (n : ℕ) (text : List ℕ) (refusal : Refusal) → text ≡ tin_text n → length text ≤ MOST_BYTES
    → IsTextRefused made_migration.how text refusal → MayNotBeMade n refusal
made_text_refused n text refusal is few why =
    tin_refused (Some (made_files n)) made_migration ⊥ ⊥ refusal (no_tin text (made_loaded n text is few) why)

-- ---- the layer
made_found : (n : ℕ) (text : List ℕ) → text ≡ layer_text n
    → IfSome (Some (made_files n)) (Loads (codes "made.wkt") text)
made_found n text is = ap Some (sym is)

room_for : (used n : ℕ) → used ≡ 0 → n ≤ MOST_BYTES → used + n ≤ MOST_BYTES
room_for used n is few = omega arith

pub made_carried : (n : ℕ) (text : List ℕ) (tin : Triangulation) (before now : CarriedLayers) → text ≡ layer_text n
    → length text ≤ MOST_BYTES → IsEmpty before
    → AddsLayer made_migration.how tin false [] 0 (codes "made.wkt") text before now
    → HasCarried (setting_of (Some (made_files n)) made_migration.how tin) false [] made_migration.layers now
made_carried n text tin before now is few empty adds =
    carried_at (setting_of (Some (made_files n)) made_migration.how tin) made_migration.layers 0 (codes "made.wkt")
    false [] text before now (omega arith) refl (carried_none _ false [] before empty) (made_found n text is)
    (room_for before.used (length text) empty.used few) adds

pub made_uncarried : (n : ℕ) (text : List ℕ) (tin : Triangulation) (before : CarriedLayers) (refusal : Refusal)
    → text ≡ layer_text n → length text ≤ MOST_BYTES → IsEmpty before
    → AddsNone made_migration.how tin 0 (codes "made.wkt") text (length before.pieces.items) refusal
    → AreUncarried (setting_of (Some (made_files n)) made_migration.how tin) made_migration.layers ⊥ refusal
made_uncarried n text tin before refusal is few empty why =
    uncarried_at (setting_of (Some (made_files n)) made_migration.how tin) made_migration.layers 0 (codes "made.wkt")
    false [] text before ⊥ refusal (omega arith) refl (carried_none _ false [] before empty) (made_found n text is)
    (room_for before.used (length text) empty.used few) why

-- ---- the whole
pub made_run_refused : (n : ℕ) (tin : Triangulation) (refusal : Refusal)
    → HasDirected (made_files n) made_migration.how made_migration.tin made_migration.inverse tin
    → AreUncarried (setting_of (Some (made_files n)) made_migration.how tin) made_migration.layers ⊥ refusal
    → MayNotBeMade n refusal
made_run_refused n tin refusal ready why =
    layers_refused (Some (made_files n)) made_migration tin ⊥ ⊥ refusal ready (λ rose. rose) why

-- sheets are not kept
keeps_none : (n : ℕ) (tin : Triangulation) (run : CarriedLayers) → run.sides ≡ false
    → HasKept run.sides (setting_of (Some (made_files n)) made_migration.how tin) made_migration.layers run
keeps_none n tin run none = grind (arith)

pub made_changes_refused : (n : ℕ) (tin : Triangulation) (run : CarriedLayers) (refusal : Refusal)
    → HasDirected (made_files n) made_migration.how made_migration.tin made_migration.inverse tin
    → HasCarried (setting_of (Some (made_files n)) made_migration.how tin) false [] made_migration.layers run
    → run.sides ≡ false → IsUnreported tin run refusal → MayNotBeMade n refusal
made_changes_refused n tin run refusal ready has none why =
    report_refused (Some (made_files n)) made_migration false tin run ⊥ refusal ready has (keeps_none n tin run none)
    none why

pub made_comparable : (n : ℕ) (tin : Triangulation) (run : CarriedLayers) → IsWithinLimits tin
    → HasCarried (setting_of (Some (made_files n)) made_migration.how tin) false [] made_migration.layers run
    → AreAllComparable tin run.pieces.items
made_comparable n tin run limits has = run_comparable (Some (made_files n)) made_migration false tin run limits has

pub made_done : (n : ℕ) (tin : Triangulation) (run : CarriedLayers) (written : RunOutput)
    → HasDirected (made_files n) made_migration.how made_migration.tin made_migration.inverse tin
    → HasCarried (setting_of (Some (made_files n)) made_migration.how tin) false [] made_migration.layers run
    → run.sides ≡ false → IsReportedAlone made_migration.tin tin run written
    → IsMakingDone n (end_of written.changed) (files_of written)
made_done n tin run written ready has none alone =
    let is = alone.reported in
    record {
      changes = is.changes;
      sides = is.sides;
      layers = all_files_in false [] has.done;
      said = alone.whole.said;
      migrated = run_migrated (made_files n) made_migration tin run alone.whole (all_files_in false [] has.done) ready
          has (keeps_none n tin run none) none is refl;
      status_is = ap end_of (alone.changed ∙ is.changed);
      made_is = rw (alone.layers, alone.said) refl;
    }

pub made_form : (n : ℕ) (tin : Triangulation) (run : CarriedLayers) (written : RunOutput)
    → HasCarried (setting_of (Some (made_files n)) made_migration.how tin) false [] made_migration.layers run
    → run.sides ≡ false → IsReportedAlone made_migration.tin tin run written → HasForm IsMakingWritten written
made_form n tin run written has none alone =
    let holds = has.holds in
    let are = names_done (setting_of (Some (made_files n)) made_migration.how tin) 0 0 [] made_migration.layers
    run.pieces.items has.done run.used has.carried in
    record {
      writable = rw alone.layers tt;
      is_of = (
        ap (λ (files : List LayerFile). map file_of files) alone.layers,
        rw (alone.said, alone.changed)
            (reports_on (codes "made.json") made_migration.layers false tin run alone.whole has.done none holds.rows are
            alone.reported),
      );
    }

-- ---- what may refuse it
pub text_of_making : (how : How) (text : List ℕ) (refusal : Refusal) → IsTextRefused how text refusal
    → IsOfMaking refusal
text_of_making how text (Tin fault) why = tt
text_of_making how text (Check fault) why = tt
text_of_making how text NoMemory why = tt
text_of_making how text refusal why = absurd why

unlisted_of_making : (tin : Triangulation) (pieces : List Piece) (refusal : Refusal)
    → IsUnlisted tin pieces refusal → IsOfMaking refusal
unlisted_of_making tin pieces TooManyChanges why = tt
unlisted_of_making tin pieces NoMemory why = tt
unlisted_of_making tin pieces refusal why = absurd why

unsided_of_making : (run : CarriedLayers) (refusal : Refusal) → run.sides ≡ false
    → IsUnsided run.sides run.sheets.items run.images.items refusal → IsOfMaking refusal
unsided_of_making run TooManySides none (asked, more) = let e = sym none ∙ asked in cc
unsided_of_making run NoMemory none why = tt
unsided_of_making run refusal none why = absurd why

pub unreported_of_making : (tin : Triangulation) (run : CarriedLayers) (refusal : Refusal) → run.sides ≡ false
    → IsUnreported tin run refusal → IsOfMaking refusal
unreported_of_making tin run refusal none (by_changes why) = unlisted_of_making tin run.pieces.items refusal why
unreported_of_making tin run refusal none (by_sides changes listed why) = unsided_of_making run refusal none why

-- what is made is not read
pub never_read : (refusal : Refusal) → IsOfMaking refusal → status_of refusal ≢ Read
never_read (Tin fault) of = not_read _ (of_text fault)
never_read (Check fault) of = not_read _ (of_check fault)
never_read (Layer layer fault) of = layer_not_read _ (of_layer fault)
never_read (Outside layer path segment) of = λ e. cc
never_read TooManyPieces of = λ e. cc
never_read TooManyChanges of = λ e. cc
never_read NoMemory of = λ e. cc
never_read refusal of = absurd of
