-- What is so of a job after each of its steps.
use Rattle.std.proofs.lemmas.Grind.{common_steps}
use Rattle.std.proofs.Common.{◌≡◌, ◌≤◌, ◌<◌, ◌+◌, ◌-◌, inl, inr, ℕ, Bool, true, false, List, [], ◌∷◌, ◌++◌, map, flat_map}
use Rattle.std.proofs.Common.{length, take, drop, get_or, Option, None, Some, IfSome, refl, sym, ◌∙◌, ap, subst}
use Rattle.std.proofs.Common.{append_assoc, arith}
use Rattle.std.proofs.lemmas.List.{take-append-drop, drop_more, take_more, map-append, append-nil, length-take}
use Rattle.std.specs.List.{AllByRecursion}
use Rattle.shelf_io.specs.Count.{count_after}
use Rattle.shelf_io.specs.Files.{Files}
use Rattle.shelf_io.specs.Load.{Loads, IsLonger}
use Rattle.report_text.specs.Reports.{IsPrintable}
use Rattle.report_text.specs.declared.rows.LayerRow.{LayerRow}
use Rattle.carry_map.specs.declared.limits.TheConstants.{MOST_PIECES}
use Rattle.tin_base.specs.declared.pieces.Piece.{Piece}
use Rattle.tin_base.specs.Limits.{IsWithinLimits}
use Rattle.tin_base.specs.Triangulation.{Triangulation}
use Rattle.topo_check.specs.Changes.{AreAllComparable}
use Rattle.job_words.specs.declared.formats.Format.{Format}
use Rattle.job_words.specs.Formats.{format_by_name}
use Rattle.runs.specs.declared.loads.TheConstants.{MOST_BYTES}
use Rattle.runs.specs.declared.refusal.Refusal.{Refusal}
use Rattle.runs.specs.declared.refusal.Refusal.TheVariants.{LayerUnread, LayersLong, Layer, Outside, TooManyPieces}
use Rattle.runs.specs.declared.refusal.Refusal.TheVariants.{TooManyChanges, TooManySides, NoMemory}
use Rattle.runs.specs.declared.output.LayerFile.{LayerFile}
use Rattle.migrate_mode.specs.declared.layer_runs.CarriedLayers.{CarriedLayers}
use Rattle.runs.specs.declared.output.RunOutput.{RunOutput}
use Rattle.migrate_mode.specs.declared.migrations.Migration.{Migration}
use Rattle.runs.specs.Triangulations.{HasDirected}
use Rattle.migrate_mode.specs.Migrations.{MayBeTaken, by_layers, by_sides as refused_by_sides, row_of}
use Rattle.migrate_mode.specs.Migrations.{files_in, all_files_in}
use Rattle.migrate_mode.specs.Migrations.{IsReportOn, IsMigrated}
use Rattle.layer_formats.specs.LayerOutcomes.{IsLayerText, LacksLayerText}
use Rattle.runs.specs.Status.{end_of}
use Rattle.runs.specs.Refusals.{status_of}
use Rattle.migrate_mode.specs.LayerRuns.{Setting, setting_of, Done, IsLayerFile, IsLongLayer, IsNextCarried, AreCarried}
use Rattle.migrate_mode.specs.LayerRuns.{IsNextRefused, IsReachedLayer, AreRefused, at_layer, at_changes}
use Rattle.migrate_mode.specs.Migrations.{HasWayOver, MayRefuseMigrationOver, IsMigrationDone, IsMigrationWritten}
use Rattle.runs.proofs.TinRefusals.{without_file, without_read, without_room, unready}
use Rattle.migrate_mode.specs.Names.{names_in}
use Rattle.runs.specs.Causes.{by_the_files, unread, no_room}
use Rattle.runs.specs.Output.{file_of, files_of, AreWritable, HasForm}
use Rattle.runs.specs.Loads.{IsUnloaded, missing, read_failed, too_long, no_memory, IsTinUnready}
use Rattle.migrate_mode.specs.RunContents.{IsUncarriedAs, Holds, HasCarried, AreUncarried, by_the_layers, by_fault}
use Rattle.migrate_mode.specs.RunContents.{out_of_memory, IsUnlisted, AddsLayer, AddsNone, IsReported, HasKept, HasSheets}
use Rattle.migrate_mode.specs.RunContents.{IsUnsided, IsUnreported, by_changes, by_sides}
use Rattle.migrate_mode.specs.PartialRuns.{ShelfState, RunStart, setting_at, IsRunAfter, StopsRun}
use Rattle.migrate_mode.proofs.LayerRefusals.{of_none}
use Rattle.shelf_io.specs.Count.{Rose}
use Rattle.migrate_mode.proofs.LayerLists.{one_more, names_done, row-names, file-names, rows_printable, files_writable}
use Rattle.migrate_mode.proofs.ComparablePieces.{run_compared}
use Rattle.migrate_mode.proofs.RunSheets.{sides_have}
use Rattle.report_text.specs.ReportText.{are_told}
use Rattle.ring_side.specs.declared.kinds.SideChange.{SideChange}
use Rattle.tin_base.specs.declared.pieces.Change.{Change}
use Rattle.migrate_mode.specs.RunChanges.{AreListed}
use Rattle.migrate_mode.specs.SideLists.{AreSidesOf}
use Rattle.sheet_base.specs.Sheets.{Contents}
use Rattle.sheet_base.specs.ImageFits.{Runs}

-- ---- a run that has no layer yet
pub record IsEmpty (run : CarriedLayers) : Type 0 where
  pub files : run.files.items ≡ []
  pub rows : run.rows.items ≡ []
  pub pieces : run.pieces.items ≡ []
  pub used : run.used ≡ 0

pub carried_none : (setting : Setting) (cert : Bool) (folder : List ℕ) (run : CarriedLayers) → IsEmpty run
    → HasCarried setting cert folder [] run
carried_none setting cert folder run is = grind (arith)

pub room_none : (count : ℕ) (pieces : List Piece) → count ≡ length pieces → pieces ≡ [] → count ≤ MOST_PIECES
room_none count pieces same none =
    let e : length pieces ≡ 0 = ap (λ (ps : List Piece). length ps) none in omega (arith, same, e)

-- ---- the layers
-- the files of one more layer are after those of the others
one_more_in : (cert : Bool) (folder : List ℕ) (done : List Done) (first : Done)
    → all_files_in cert folder done ++ files_in cert folder first ≡ all_files_in cert folder (done ++ first ∷ [])
one_more_in cert folder [] first = sym (append-nil (files_in cert folder first))
one_more_in cert folder (other ∷ done) first = grind (arith, append_assoc, (one_more_in cert folder done first))

module _ (setting : Setting) (names : List (List ℕ)) where
  stands_at : (i : ℕ) (name : List ℕ) → i < length names → name ≡ get_or names i name
      → names ≡ take i names ++ name ∷ drop (i + 1) names
  stands_at i name within is = grind (arith, take-append-drop, drop_more)

  fronts : (i : ℕ) → i < length names → i ≡ length (take i names)
  fronts i within = rw length-take (omega (arith, within))

  reached_at : (i : ℕ) (name : List ℕ) (cert : Bool) (folder : List ℕ) (run : CarriedLayers) → i < length names
      → name ≡ get_or names i name → HasCarried setting cert folder (take i names) run
      → IsReachedLayer setting names i name
  reached_at i name cert folder run within is has = record {
    front = take i names;
    back = drop (i + 1) names;
    stands = stands_at i name within is;
    number_is = fronts i within;
    pieces = run.pieces.items;
    done = has.done;
    used = run.used;
    carried = has.carried;
  }

  refused_at : (i : ℕ) (name : List ℕ) (cert : Bool) (folder : List ℕ) (run : CarriedLayers) (refusal : Refusal)
      → i < length names → name ≡ get_or names i name → HasCarried setting cert folder (take i names) run
      → IsNextRefused setting i run.used (length run.pieces.items) name refusal → AreRefused setting names refusal
  unfolding reached_at
  refused_at i name cert folder run refusal within is has why =
      at_layer (record {
        number = i;
        name = name;
        reached = reached_at i name cert folder run within is has;
        refused =
            why;
      })

  file_at : (i : ℕ) (name bytes : List ℕ) (used : ℕ) (format : Format) → format_by_name name ≡ Some format
      → IfSome setting.told (Loads name bytes) → used + length bytes ≤ MOST_BYTES
      → IsLayerFile setting.told name used format bytes
  file_at i name bytes used format suffix found within = record { suffix = suffix; found = found; within = within }

  uncarried_rows : (i : ℕ) (name : List ℕ) (cert : Bool) (folder bytes : List ℕ) (run : CarriedLayers) (rose : Type 0)
      (format : Format) (refusal : Refusal) → i < length names → name ≡ get_or names i name
      → HasCarried setting cert folder (take i names) run
      → IsLayerFile setting.told name run.used format bytes
      → IsUncarriedAs (IsLayerText setting.how format) (LacksLayerText setting.how format) setting.tin bytes i
      (length run.pieces.items) refusal → AreUncarried setting names rose refusal
  uncarried_rows i name cert folder bytes run rose format (Layer layer why) within is has file (same, lacks) =
      by_the_layers (refused_at i name cert folder run (Layer layer why) within is has
      (same, format, bytes, file, lacks))
  uncarried_rows i name cert folder bytes run rose format (Outside layer path segment) within is has file
      (same, outside) =
      by_the_layers (refused_at i name cert folder run (Outside layer path segment) within is has
      (same, format, bytes, file, outside))
  uncarried_rows i name cert folder bytes run rose format TooManyPieces within is has file many =
      by_the_layers (refused_at i name cert folder run TooManyPieces within is has (format, bytes, file, many))
  uncarried_rows i name cert folder bytes run rose format NoMemory within is has file why = out_of_memory refl
  uncarried_rows i name cert folder bytes run rose format refusal within is has file why = absurd why

  -- the layer's text is not carried
  pub uncarried_at : (i : ℕ) (name : List ℕ) (cert : Bool) (folder bytes : List ℕ) (run : CarriedLayers) (rose : Type 0)
      (refusal : Refusal) → i < length names → name ≡ get_or names i name
      → HasCarried setting cert folder (take i names) run
      → IfSome setting.told (Loads name bytes) → run.used + length bytes ≤ MOST_BYTES
      → AddsNone setting.how setting.tin i name bytes (length run.pieces.items) refusal
      → AreUncarried setting names rose refusal
  uncarried_at i name cert folder bytes run rose refusal within is has found few none =
      uncarried_rows i name cert folder bytes run rose none.format refusal within is has
      (file_at i name bytes run.used none.format none.suffix found few) none.why

  -- it is carried
  pub carried_at : (i : ℕ) (name : List ℕ) (cert : Bool) (folder bytes : List ℕ) (before now : CarriedLayers) → i < length names
      → name ≡ get_or names i name → HasCarried setting cert folder (take i names) before
      → IfSome setting.told (Loads name bytes) → before.used + length bytes ≤ MOST_BYTES
      → AddsLayer setting.how setting.tin cert folder i name bytes before now
      → HasCarried setting cert folder (take (i + 1) names) now
  carried_at i name cert folder bytes before now within is has found few adds =
      let holds = has.holds in
      let done = adds.done in
      let next : IsNextCarried setting i before.used before.pieces.items name bytes now.pieces.items done =
      record {
        named = adds.named;
        file = file_at i name bytes before.used done.format adds.suffix found few;
        carried =
            adds.carried;
        own = adds.own;
      } in
      let all : AreCarried setting 0 0 [] (take i names ++ name ∷ []) now.pieces.items (has.done ++ done ∷ [])
      now.used =
      one_more setting 0 0 [] (take i names) before.pieces.items has.done before.used name bytes now.pieces.items done i
      (has.done ++ done ∷ []) now.used has.carried (zero_more i within) next refl adds.used in
      record {
        done = has.done ++ done ∷ [];
        carried = subst (λ (ns : List (List ℕ)). AreCarried setting 0 0 [] ns now.pieces.items (has.done ++ done ∷ [])
            now.used) (sym (take_more names i name within ∙ ap (λ (n : List ℕ). take i names ++ n ∷ []) (sym is))) all;
        holds = record {
          files = adds.files ∙ (ap (λ (fs : Files). fs ++ files_in cert folder done) holds.files
              ∙ one_more_in cert folder has.done done);
          rows = adds.rows ∙ (ap (λ (rs : List LayerRow). rs ++ row_of done ∷ []) holds.rows
              ∙ sym (map-append row_of has.done (done ∷ [])));
        };
      }
    where
      zero_more : (k : ℕ) → k < length names → k ≡ 0 + length (take k names)
      zero_more k h = let e = fronts k h in omega (arith, e)

-- ---- a run that has no more layers
long_layer : (told : Option Files) (name : List ℕ) (used : ℕ) → used ≤ MOST_BYTES
    → IfSome told (IsLonger name (MOST_BYTES - used)) → IsLongLayer told name used
long_layer None name used few long = tt
long_layer (Some files) name used few (bytes, found, many) = (bytes, found, omega arith)

module _ (start : RunStart) (shelf now : ShelfState) (i : ℕ) (name : List ℕ) (run : CarriedLayers)
    (within : i < length start.migration.layers) (is : name ≡ get_or start.migration.layers i name)
    (here : IsRunAfter start (take i start.migration.layers) shelf run) where
  refused_here : (refusal : Refusal)
      → IsNextRefused (setting_at start) i run.used (length run.pieces.items) name refusal
      → AreUncarried (setting_at start) start.migration.layers (Rose start.shelf.faults now.faults) refusal
  refused_here refusal why = by_the_layers (refused_at (setting_at start) start.migration.layers i name start.cert
      start.migration.out run refusal within is here.carried why)

  -- as the next one's file is not loaded
  pub stops_unloaded : (refusal : Refusal) → IsUnloaded shelf.told name (MOST_BYTES - run.used) (LayerUnread i)
      LayersLong (Rose shelf.faults now.faults) (count_after shelf.given ((MOST_BYTES - run.used) + 1) ≤ now.given)
      refusal → StopsRun start now refusal
  stops_unloaded refusal (missing so lacks) =
      let lacks_first = rw here.files at lacks in
      rw so (record {
        refused = refused_here (LayerUnread i) (refl, lacks_first);
        of_layers = tt;
        read = λ e. inr (name, (i, within, sym is), lacks_first);
        long = λ e. cc;
      })
  stops_unloaded refusal (read_failed so rose) =
      let rose_since = rw here.faults at rose in
      rw so (record {
        refused = by_fault rose_since i name (reached_at (setting_at start) start.migration.layers i name start.cert
            start.migration.out run within is here.carried) refl;
        of_layers = tt;
        read = λ e. inl rose_since;
        long = λ e. cc;
      })
  stops_unloaded refusal (too_long so over passed) =
      let given = here.given in
      let few = here.used in
      rw so (record {
        refused = refused_here LayersLong (long_layer start.shelf.told name run.used few (rw here.files at over));
        of_layers = tt;
        read = λ e. cc;
        long = λ e. omega (arith, given, few, passed);
      })
  stops_unloaded refusal (no_memory so) =
      rw so (record { refused = out_of_memory refl; of_layers = tt; read = λ e. cc; long = λ e. cc })

  -- as the next one's text is not carried
  pub stops_uncarried : (bytes : List ℕ) (refusal : Refusal) → IfSome shelf.told (Loads name bytes)
      → run.used + length bytes ≤ MOST_BYTES
      → AddsNone start.migration.how start.tin i name bytes (length run.pieces.items) refusal
      → StopsRun start now refusal
  stops_uncarried bytes refusal found few none =
      let of = of_none start.migration.how start.tin i name bytes (length run.pieces.items) refusal none in
      record {
        refused = uncarried_at (setting_at start) start.migration.layers i name start.cert start.migration.out bytes run
            _ refusal within is here.carried (rw here.files at found) few none;
        of_layers = of.of_layers;
        read = λ e. absurd (of.not_read e);
        long = λ e. absurd (of.not_long e);
      }

-- ---- a migration
-- is refused as its triangulation is, before its layers are looked at
pub tin_refused : (told : Option Files) (migration : Migration) (rose passed : Type 0) (refusal : Refusal)
    → IsTinUnready told migration.how migration.tin rose passed refusal
    → MayRefuseMigrationOver told migration rose refusal
tin_refused told migration rose passed refusal why = grind (arith, unready, without_file, without_read, without_room)

-- or as its layers are
pub layers_refused : (told : Option Files) (migration : Migration) (tin : Triangulation) (rose_here rose : Type 0)
    (refusal : Refusal) → HasWayOver told migration tin
    → (rose_here → rose) → AreUncarried (setting_of told migration.how tin) migration.layers rose_here refusal
    → MayRefuseMigrationOver told migration rose refusal
layers_refused told migration tin rose_here rose refusal ready rises (by_the_layers is) =
    by_the_files (by_layers tin ready is)
layers_refused told migration tin rose_here rose refusal ready rises (by_fault rose_now number name reached is) =
    unread (rises rose_now) (rw is (record { tin = tin; way = ready; name = name; reached = reached }))
layers_refused told migration tin rose_here rose refusal ready rises (out_of_memory is) = no_room (ap status_of is)

-- or as their changes are, carried with certificates or without
changes_refused : (told : Option Files) (migration : Migration) (cert : Bool) (tin : Triangulation) (run : CarriedLayers)
    (rose : Type 0) (refusal : Refusal) → HasWayOver told migration tin
    → HasCarried (setting_of told migration.how tin) cert migration.out migration.layers run
    → IsUnlisted tin run.pieces.items refusal → MayRefuseMigrationOver told migration rose refusal
changes_refused told migration cert tin run rose TooManyChanges ready has why =
    by_the_files (by_layers tin ready (at_changes
    (record {
      is = refl;
      pieces = run.pieces.items;
      done = has.done;
      used = run.used;
      carried = has.carried;
      more =
          why;
    })))
changes_refused told migration cert tin run rose NoMemory ready has why = no_room refl
changes_refused told migration cert tin run rose refusal ready has why = absurd why

-- or as their changes of sides are, where these are asked for
sides_refused : (told : Option Files) (migration : Migration) (cert : Bool) (tin : Triangulation) (run : CarriedLayers)
    (changes : List Change) (rose : Type 0) (refusal : Refusal) → HasWayOver told migration tin
    → HasCarried (setting_of told migration.how tin) cert migration.out migration.layers run
    → HasKept run.sides (setting_of told migration.how tin) migration.layers run
    → run.sides ≡ migration.sides → AreListed tin run.pieces.items changes
    → IsUnsided run.sides run.sheets.items run.images.items refusal
    → MayRefuseMigrationOver told migration rose refusal
sides_refused told migration cert tin run changes rose TooManySides ready has kept same listed (asked, more) =
    let sheets : HasSheets (setting_of told migration.how tin) migration.layers run =
    subst (λ (b : Bool). HasKept b (setting_of told migration.how tin) migration.layers run) asked kept in
    by_the_files (refused_by_sides tin ready (sym same ∙ asked) (record {
      is = refl;
      pieces = run.pieces.items;
      done = has.done;
      used = run.used;
      carried = has.carried;
      changes = changes;
      listed = listed;
      sheets = run.sheets.items;
      images = run.images.items;
      kept = sheets.kept;
      more = more;
    }))
sides_refused told migration cert tin run changes rose NoMemory ready has kept same listed why = no_room refl
sides_refused told migration cert tin run changes rose refusal ready has kept same listed why = absurd why

-- a run has no report for one of these reasons
pub report_refused : (told : Option Files) (migration : Migration) (cert : Bool) (tin : Triangulation) (run : CarriedLayers)
    (rose : Type 0) (refusal : Refusal) → HasWayOver told migration tin
    → HasCarried (setting_of told migration.how tin) cert migration.out migration.layers run
    → HasKept run.sides (setting_of told migration.how tin) migration.layers run → run.sides ≡ migration.sides
    → IsUnreported tin run refusal → MayRefuseMigrationOver told migration rose refusal
report_refused told migration cert tin run rose refusal ready has kept same (by_changes why) =
    changes_refused told migration cert tin run rose refusal ready has why
report_refused told migration cert tin run rose refusal ready has kept same (by_sides changes listed why) =
    sides_refused told migration cert tin run changes rose refusal ready has kept same listed why

-- what the report asks of the layers
pub rows_named : (told : Option Files) (migration : Migration) (tin : Triangulation) (run : CarriedLayers) → MayBeTaken migration
    → HasCarried (setting_of told migration.how tin) migration.cert migration.out migration.layers run
    → AllByRecursion (λ row. IsPrintable row.name) run.rows.items
rows_named told migration tin run taken has = grind (arith, rows_printable, names_done)

-- their pieces may be compared
pub run_comparable : (told : Option Files) (migration : Migration) (cert : Bool) (tin : Triangulation) (run : CarriedLayers)
    → IsWithinLimits tin → HasCarried (setting_of told migration.how tin) cert migration.out migration.layers run
    → AreAllComparable tin run.pieces.items
run_comparable told migration cert tin run limits has =
    run_compared (setting_of told migration.how tin) migration.layers run.pieces.items has.done run.used limits
    has.carried

-- the layers' files
files_are : (run : CarriedLayers) (written : RunOutput) (cert : Bool) (folder : List ℕ) (done : List Done)
    → written.layers.items ≡ run.files.items → Holds cert folder done run
    → map file_of written.layers.items ≡ all_files_in cert folder done
files_are run written cert folder done same holds = ap (λ (fs : List LayerFile). map file_of fs) same ∙ holds.files

-- the run is the migration of its files, where its layers are written into these files
pub run_migrated : (files : Files) (migration : Migration) (tin : Triangulation) (run : CarriedLayers) (written : RunOutput)
    (layers : Files) → HasDirected files migration.how migration.tin migration.inverse tin
    → (has : HasCarried (setting_of (Some files) migration.how tin) migration.cert migration.out migration.layers run)
    → HasKept run.sides (setting_of (Some files) migration.how tin) migration.layers run → run.sides ≡ migration.sides
    → (is : IsReported migration.tin tin run written) → layers ≡ all_files_in migration.cert migration.out has.done
    → IsMigrated files migration is.changes is.sides layers written.said
run_migrated files migration tin run written layers ready has kept same is layers_are = grind (arith, sides_have)

pub migration_done : (told : Option Files) (migration : Migration) (tin : Triangulation) (run : CarriedLayers) (written : RunOutput)
    → HasWayOver told migration tin
    → HasCarried (setting_of told migration.how tin) migration.cert migration.out migration.layers run
    → HasKept run.sides (setting_of told migration.how tin) migration.layers run → run.sides ≡ migration.sides
    → IsReported migration.tin tin run written
    → IfSome told (λ files. IsMigrationDone files migration (end_of written.changed) (files_of written))
migration_done None migration tin run written ready has kept same is = tt
migration_done (Some files) migration tin run written ready has kept same is = grind (arith, run_migrated, files_are)

-- the report has sides where they are asked for
told_as_asked : (asked : Bool) (sheets : List Contents) (images : List Runs) (sides : Option (List SideChange))
    → AreSidesOf asked sheets images sides → are_told sides ≡ asked
told_as_asked false sheets images None are = refl
told_as_asked false sheets images (Some sides) are = absurd are
told_as_asked true sheets images None are = absurd are
told_as_asked true sheets images (Some sides) are = refl

-- the report is on the triangulation and the layers of these names
pub reports_on : (name : List ℕ) (names : List (List ℕ)) (sides : Bool) (tin : Triangulation) (run : CarriedLayers)
    (written : RunOutput) (done : List Done) → run.sides ≡ sides → run.rows.items ≡ map row_of done → map (λ (d : Done). d.name) done ≡ names
    → IsReported name tin run written → IsReportOn name names sides written.said (end_of written.changed)
reports_on name names sides tin run written done same rows are is =
    grind (arith, common_steps, row-names, told_as_asked)

pub migration_form : (told : Option Files) (migration : Migration) (tin : Triangulation) (run : CarriedLayers) (written : RunOutput)
    → MayBeTaken migration → HasCarried (setting_of told migration.how tin) migration.cert migration.out
    migration.layers run
    → run.sides ≡ migration.sides
    → IsReported migration.tin tin run written → HasForm (IsMigrationWritten migration) written
migration_form told migration tin run written taken has same is =
    let holds = has.holds in
    let are = names_done (setting_of told migration.how tin) 0 0 [] migration.layers run.pieces.items has.done run.used
    has.carried in
    let files = files_are run written migration.cert migration.out has.done is.layers holds in
    record {
      writable = subst (λ (fs : Files). AreWritable fs) (sym files)
          (files_writable migration.cert migration.out has.done migration.layers are taken.distinct taken.formats);
      is_of = (
        ap (λ (fs : Files). map (λ (file : List ℕ × List ℕ). file.0) fs) files
            ∙ (file-names migration.cert migration.out has.done
            ∙ ap (λ (ns : List (List ℕ)). flat_map (names_in migration.cert migration.out) ns) are),
        reports_on migration.tin migration.layers migration.sides tin run written has.done same holds.rows are is,
      );
    }
