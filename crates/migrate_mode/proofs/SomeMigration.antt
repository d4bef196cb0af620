-- A migration whose layers have formats ends, and so does what is made.
use Rattle.std.proofs.Common.{◌≡◌, ◌⊎◌, inl, inr, ◌<◌, ◌≤◌, Bool, true, false, List, [], ◌∷◌, ◌++◌, map, Some, Ok, Err, length}
use Rattle.std.proofs.Common.{Result, Option, None, codes, refl, sym, subst}
use Rattle.std.proofs.lemmas.Bool.{cases_lt}
use Rattle.std.specs.List.{AllByRecursion}
use Rattle.shelf_io.specs.Files.{Files}
use Rattle.tin_base.specs.Triangulation.{Triangulation}
use Rattle.tin_base.specs.Limits.{IsWithinLimits}
use Rattle.tin_base.specs.Soundness.{IsSound}
use Rattle.tin_base.specs.declared.pieces.Change.{Change}
use Rattle.tin_base.proofs.FrameImages.FrameExchange.{turned_within}
use Rattle.topo_check.specs.Changes.{AreChanges, HasMoreThan}
use Rattle.topo_check.specs.Laws.{ChangesExist}
use Rattle.report_text.specs.ReportText.{report_text}
use Rattle.job_words.specs.JobFields.{HasFormat}
use Rattle.runs.specs.declared.refusal.Refusal.{Refusal}
use Rattle.runs.specs.declared.refusal.Refusal.TheVariants.{TooManyChanges, TooManySides}
use Rattle.runs.specs.Laws.{IsTinEnd, TinEndExists, ReadTinsAreWithinLimits}
use Rattle.runs.specs.Triangulations.{HasTin, directed_tin}
use Rattle.runs.proofs.OneTin.{sound_of, sound_way}
use Rattle.layer_formats.specs.LayerOutcomes.{LayerOutcomesExist}
use Rattle.migrate_mode.specs.declared.change_lists.TheConstants.{MOST_CHANGES, MOST_SIDES}
use Rattle.migrate_mode.specs.declared.migrations.Migration.{Migration}
use Rattle.migrate_mode.specs.RunChanges.{end_with}
use Rattle.migrate_mode.specs.LayerRuns.{setting_of, at_layer, at_changes}
use Rattle.migrate_mode.specs.Migrations.{HasWay, by_tin, by_layers, by_sides, row_of, report_of, all_files_in}
use Rattle.migrate_mode.specs.SideLists.{HaveAskedSides, HaveSides}
use Rattle.migrate_mode.proofs.OneSides.{HaveSheets, carried_kept}
use Rattle.ring_side.specs.declared.kinds.SideChange.{SideChange}
use Rattle.ring_side.specs.SideChanges.{side_changes_of}
use Rattle.migrate_mode.specs.Maker.{made_files, made_migration}
use Rattle.migrate_mode.specs.Laws.{End, IsMigrationEnd, IsMakingEnd, MigrationExists, MakingExists}
use Rattle.migrate_mode.proofs.ComparablePieces.{run_inside}
use Rattle.migrate_mode.proofs.SomeLayers.{LayerEndsExist, AreMore, HaveEnd, layers_end}

abbrev HasEnd : Files → Migration → Type 0
HasEnd files migration = (end : End) × IsMigrationEnd files migration end

within_of : ReadTinsAreWithinLimits → (files : Files) (migration : Migration) (tin : Triangulation)
    → HasTin files migration.how migration.tin tin → IsWithinLimits tin
within_of within files migration tin (text, file, is) = let read = is.read in within migration.how text tin read

pub within_way : (inverse : Bool) (tin : Triangulation) → IsWithinLimits tin → IsWithinLimits (directed_tin inverse tin)
within_way false tin limits = limits
within_way true tin limits = turned_within tin limits

module _ (texts : LayerOutcomesExist) (ends : LayerEndsExist) (changes_exist : ChangesExist) where
  -- through a triangulation that is ready
  way_end : (files : Files) (migration : Migration) (tin : Triangulation) → HasWay files migration tin → IsSound tin
      → IsWithinLimits tin → AllByRecursion HasFormat migration.layers → HasEnd files migration
  way_end files migration tin way sound limits formats =
      by_layers_end (layers_end texts ends files migration.how tin sound limits migration.layers formats)
    where
      with_sides : (all : AreMore texts ends files migration.how tin sound limits migration.layers)
          (changes : List Change) → AreChanges tin all.pieces changes → length changes ≤ MOST_CHANGES
          → (sides : Option (List SideChange))
          → HaveAskedSides migration.sides (setting_of (Some files) migration.how tin) migration.layers sides
          → HasEnd files migration
      with_sides all changes are few sides have =
          let layers = all_files_in migration.cert migration.out all.done in
          let said = report_text (report_of migration.tin tin (map row_of all.done) changes sides) in (
            Ok (end_with changes sides, layers ++ (codes "-", said) ∷ []),
            record {
              changes = changes;
              sides = sides;
              layers = layers;
              said = said;
              migrated = record {
                tin = tin;
                way = way;
                pieces = all.pieces;
                done = all.done;
                used = all.used;
                carried = all.carried;
                listed = record { are_changes = are; few = few };
                sided = have;
                layers_are = refl;
                said_is = refl;
              };
              status_is = refl;
              made_is = refl;
            },
          )

      by_count : (all : AreMore texts ends files migration.how tin sound limits migration.layers)
          (changes : List Change) → AreChanges tin all.pieces changes → length changes ≤ MOST_CHANGES
          → migration.sides ≡ true
          → (sheets : HaveSheets (setting_of (Some files) migration.how tin) migration.layers)
          → (MOST_SIDES < length (side_changes_of sheets.sheets sheets.images))
          ⊎ (length (side_changes_of sheets.sheets sheets.images) ≤ MOST_SIDES) → HasEnd files migration
      by_count all changes are few asked sheets (inl more) = (
        Err TooManySides,
        by_sides tin way asked (record {
          is = refl;
          pieces = all.pieces;
          done = all.done;
          used = all.used;
          carried = all.carried;
          changes = changes;
          listed = record { are_changes = are; few = few };
          sheets = sheets.sheets;
          images = sheets.images;
          kept = sheets.kept;
          more = more;
        }),
      )
      by_count all changes are few asked sheets (inr within) =
          let sides = side_changes_of sheets.sheets sheets.images in
          let have : HaveSides (setting_of (Some files) migration.how tin) migration.layers sides = record {
            sheets = sheets.sheets;
            images = sheets.images;
            kept = sheets.kept;
            changes = record { are = refl; few = within };
          } in
          with_sides all changes are few (Some sides)
          (subst (λ (b : Bool). HaveAskedSides b (setting_of (Some files) migration.how tin) migration.layers
          (Some sides)) (sym asked) have)

      by_asked : (all : AreMore texts ends files migration.how tin sound limits migration.layers)
          (changes : List Change) → AreChanges tin all.pieces changes → length changes ≤ MOST_CHANGES
          → (asked : Bool) → migration.sides ≡ asked → HasEnd files migration
      by_asked all changes are few false is =
          with_sides all changes are few None
          (subst (λ (b : Bool). HaveAskedSides b (setting_of (Some files) migration.how tin) migration.layers None)
          (sym is) tt)
      by_asked all changes are few true is =
          let sheets = carried_kept (setting_of (Some files) migration.how tin) 0 0 [] migration.layers all.pieces
          all.done all.used all.carried in
          by_count all changes are few is sheets
          (cases_lt MOST_SIDES (length (side_changes_of sheets.sheets sheets.images)))

      by_changes : (all : AreMore texts ends files migration.how tin sound limits migration.layers)
          → (changes : List Change) × AreChanges tin all.pieces changes
          × ((length changes ≤ MOST_CHANGES) ⊎ HasMoreThan tin all.pieces MOST_CHANGES) → HasEnd files migration
      by_changes all (changes, are, inl few) = by_asked all changes are few migration.sides refl
      by_changes all (changes, are, inr more) = (
        Err TooManyChanges,
        by_layers tin way (at_changes (record {
          is = refl;
          pieces = all.pieces;
          done = all.done;
          used = all.used;
          carried = all.carried;
          more = more;
        })),
      )

      by_layers_end : HaveEnd texts ends files migration.how tin sound limits migration.layers → HasEnd files migration
      by_layers_end (inl all) = by_changes all (changes_exist tin all.pieces MOST_CHANGES
          (run_inside (setting_of (Some files) migration.how tin) migration.layers all.pieces all.done all.used
          all.carried))
      by_layers_end (inr (refusal, is)) = (Err refusal, by_layers tin way (at_layer is))

  pub migration_exists : TinEndExists → ReadTinsAreWithinLimits → MigrationExists
  migration_exists tins within files migration formats =
      let (end, is) = tins files migration.how migration.tin in by end is
    where
      by : (end : Result Triangulation Refusal) → IsTinEnd files migration.how migration.tin end
          → HasEnd files migration
      by (Ok stood) is =
          let sound = sound_of files migration.how migration.tin stood is in
          let limits = within_of within files migration stood is in
          way_end files migration (directed_tin migration.inverse stood) (stood, is, refl)
          (sound_way migration.inverse stood sound) (within_way migration.inverse stood limits) formats
      by (Err refusal) is = (Err refusal, by_tin is)

  -- what is made has one layer, of well-known text
  pub making_exists : TinEndExists → ReadTinsAreWithinLimits → MakingExists
  making_exists tins within n =
      let (end, is) = migration_exists tins within (made_files n) made_migration (refl, tt) in by end is
    where
      by : (end : End) → IsMigrationEnd (made_files n) made_migration end → (made : End) × IsMakingEnd n made
      by (Ok (status, made)) is = (
        Ok (status, (codes "-", is.said) ∷ []),
        record {
          changes = is.changes;
          sides = is.sides;
          layers = is.layers;
          said = is.said;
          migrated = is.migrated;
          status_is = is.status_is;
          made_is = refl;
        },
      )
      by (Err refusal) is = (Err refusal, is)
