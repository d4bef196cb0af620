-- A migration, and what is made, end in one way.
use Rattle.std.proofs.Common.{◌≡◌, ℕ, ◌<◌, ◌≤◌, true, List, [], ◌∷◌, ◌++◌, map, Option, Some, Ok, Err, length}
use Rattle.std.proofs.Common.{codes, refl, sym, ◌∙◌, ap, ap₂, subst, arith}
use Rattle.shelf_io.specs.Files.{Files}
use Rattle.tin_base.specs.Triangulation.{Triangulation}
use Rattle.tin_base.specs.Soundness.{IsSound}
use Rattle.tin_base.specs.declared.pieces.Change.{Change}
use Rattle.tin_base.specs.declared.pieces.Piece.{Piece}
use Rattle.topo_check.specs.Changes.{AreAllInside, HasMoreThan}
use Rattle.topo_check.proofs.OneList.{changes_are_one, more_stay_more}
use Rattle.report_text.specs.ReportText.{report_text}
use Rattle.runs.specs.declared.status.Status.{Status}
use Rattle.runs.specs.declared.refusal.Refusal.{Refusal}
use Rattle.runs.specs.declared.refusal.Refusal.TheVariants.{TooManyChanges, TooManySides}
use Rattle.runs.specs.Laws.{IsTinEnd}
use Rattle.runs.proofs.OneTin.{tin_end_is_one, sound_of, sound_way}
use Rattle.migrate_mode.specs.declared.change_lists.TheConstants.{MOST_CHANGES, MOST_SIDES}
use Rattle.migrate_mode.specs.declared.migrations.Migration.{Migration}
use Rattle.migrate_mode.specs.RunChanges.{AreListed, end_with}
use Rattle.layer_formats.specs.LayerOutcomes.{LayerTextsAreOne}
use Rattle.migrate_mode.specs.LayerRuns.{setting_of, Done, AreCarried, IsRefusedLayer, AreRefused, at_layer, at_changes}
use Rattle.runs.specs.Triangulations.{directed_tin}
use Rattle.migrate_mode.specs.Migrations.{IsMigrationRefused, by_tin, by_layers, by_sides, row_of, report_of, all_files_in}
use Rattle.migrate_mode.specs.Migrations.{IsMigrationDone}
use Rattle.migrate_mode.specs.Maker.{made_files, made_migration, IsMakingDone}
use Rattle.migrate_mode.specs.Laws.{End, IsMigrationEnd, IsMakingEnd, MigrationIsOne, MakingIsOne}
use Rattle.migrate_mode.proofs.OneLayers.{AreOneRun, run_one, refused_layer_one, refused_layer_carried}
use Rattle.migrate_mode.proofs.ComparablePieces.{run_inside}
use Rattle.migrate_mode.proofs.OneSides.{sides_one, more_or_sided}
use Rattle.migrate_mode.specs.SideLists.{AreKept, HaveAskedSides}
use Rattle.ring_side.specs.declared.kinds.SideChange.{SideChange}
use Rattle.ring_side.specs.SideChanges.{side_changes_of}
use Rattle.sheet_base.specs.Sheets.{Contents}
use Rattle.sheet_base.specs.ImageFits.{Runs}

-- ---- the layers
-- what a migration writes: its layers' files and its report
abbrev made_of : Migration → Triangulation → List Done → List Change → Option (List SideChange) → Status × Files
made_of migration tin ds changes sides = (
  end_with changes sides,
  all_files_in migration.cert migration.out ds
      ++ (codes "-", report_text (report_of migration.tin tin (map row_of ds) changes sides)) ∷ [],
)

data IsLayersEnd (files : Files) (migration : Migration) (tin : Triangulation) (end : End) : Type 0 where
  layer_end : (refusal : Refusal) → end ≡ Err refusal
      → IsRefusedLayer (setting_of (Some files) migration.how tin) migration.layers refusal
      → IsLayersEnd files migration tin end
  changes_end : (pieces : List Piece) (ds : List Done) (used : ℕ) → end ≡ Err TooManyChanges
      → AreCarried (setting_of (Some files) migration.how tin) 0 0 [] migration.layers pieces ds used
      → HasMoreThan tin pieces MOST_CHANGES
      → IsLayersEnd files migration tin end
  sides_end : (pieces : List Piece) (ds : List Done) (used : ℕ) (changes : List Change) (sheets : List Contents)
      (images : List Runs) → end ≡ Err TooManySides
      → AreCarried (setting_of (Some files) migration.how tin) 0 0 [] migration.layers pieces ds used
      → AreListed tin pieces changes → migration.sides ≡ true
      → AreKept (setting_of (Some files) migration.how tin) migration.layers sheets images
      → MOST_SIDES < length (side_changes_of sheets images) → IsLayersEnd files migration tin end
  listed_end : (pieces : List Piece) (ds : List Done) (used : ℕ) (changes : List Change)
      (sides : Option (List SideChange)) → end ≡ Ok (made_of migration tin ds changes sides)
      → AreCarried (setting_of (Some files) migration.how tin) 0 0 [] migration.layers pieces ds used
      → AreListed tin pieces changes
      → HaveAskedSides migration.sides (setting_of (Some files) migration.how tin) migration.layers sides
      → IsLayersEnd files migration tin end

-- changes are too many, or a list of them is not too long
over_or_not : (n m : ℕ) → m < n → n ≤ m → ⊥
over_or_not n m h k = omega (arith, h, k)

more_or_listed : (tin : Triangulation) (pieces : List Piece) (changes : List Change) → AreAllInside tin pieces
    → HasMoreThan tin pieces MOST_CHANGES → AreListed tin pieces changes → ⊥
more_or_listed tin pieces changes inside more listed =
    over_or_not (length changes) MOST_CHANGES
    (more_stay_more tin pieces MOST_CHANGES inside more changes listed.are_changes) listed.few

module _ (texts : LayerTextsAreOne) (files : Files) (migration : Migration) (tin : Triangulation) (sound : IsSound tin)
  where
    one_run : (ps qs : List Piece) (ds es : List Done) (t u : ℕ)
        → AreCarried (setting_of (Some files) migration.how tin) 0 0 [] migration.layers ps ds t
        → AreCarried (setting_of (Some files) migration.how tin) 0 0 [] migration.layers qs es u
        → AreOneRun texts files migration.how tin sound ps qs ds es
    one_run ps qs ds es t u x y = run_one texts files migration.how tin sound 0 0 [] migration.layers ps qs ds es t u x
        y

    more_here : (ps qs : List Piece) (ds es : List Done) (t u : ℕ) (changes : List Change)
        → AreCarried (setting_of (Some files) migration.how tin) 0 0 [] migration.layers ps ds t
        → HasMoreThan tin ps MOST_CHANGES
        → AreCarried (setting_of (Some files) migration.how tin) 0 0 [] migration.layers qs es u
        → AreListed tin qs changes → ⊥
    more_here ps qs ds es t u changes x more y listed =
        let one = one_run ps qs ds es t u x y in
        more_or_listed tin qs changes (run_inside (setting_of (Some files) migration.how tin) migration.layers qs es u
        y)
        (subst (λ (rs : List Piece). HasMoreThan tin rs MOST_CHANGES) one.pieces more) listed

    refused_here : (refusal : Refusal) (ps : List Piece) (ds : List Done) (t : ℕ)
        → IsRefusedLayer (setting_of (Some files) migration.how tin) migration.layers refusal
        → AreCarried (setting_of (Some files) migration.how tin) 0 0 [] migration.layers ps ds t → ⊥
    refused_here refusal ps ds t x y =
        refused_layer_carried texts files migration.how tin sound migration.layers refusal ps ds t x y

    sided_here : (sheets : List Contents) (images : List Runs) (sides : Option (List SideChange))
        → migration.sides ≡ true → AreKept (setting_of (Some files) migration.how tin) migration.layers sheets images
        → MOST_SIDES < length (side_changes_of sheets images)
        → HaveAskedSides migration.sides (setting_of (Some files) migration.how tin) migration.layers sides → ⊥
    sided_here sheets images sides asked kept more have =
        more_or_sided texts files migration.how tin sound migration.sides migration.layers sheets images sides asked kept
        more have

    layers_end_one : (a b : End) → IsLayersEnd files migration tin a → IsLayersEnd files migration tin b → a ≡ b
    layers_end_one a b (layer_end refusal is x) (layer_end other also y) = is
        ∙ (ap Err (refused_layer_one texts files migration.how tin sound migration.layers refusal other x y) ∙ sym also)
    layers_end_one a b (layer_end refusal is x) (changes_end ps ds t also y more) =
        absurd (refused_here refusal ps ds t x y)
    layers_end_one a b (layer_end refusal is x) (sides_end ps ds t changes ss rs also y listed asked kept more) =
        absurd (refused_here refusal ps ds t x y)
    layers_end_one a b (layer_end refusal is x) (listed_end ps ds t changes sides also y listed have) =
        absurd (refused_here refusal ps ds t x y)
    layers_end_one a b (changes_end ps ds t is x more) (layer_end refusal also y) =
        absurd (refused_here refusal ps ds t y x)
    layers_end_one a b (changes_end ps ds t is x more) (changes_end qs es u also y more') = is ∙ sym also
    layers_end_one a b (changes_end ps ds t is x more) (sides_end qs es u changes ss rs also y listed asked kept many) =
        absurd (more_here ps qs ds es t u changes x more y listed)
    layers_end_one a b (changes_end ps ds t is x more) (listed_end qs es u changes sides also y listed have) =
        absurd (more_here ps qs ds es t u changes x more y listed)
    layers_end_one a b (sides_end ps ds t changes ss rs is x listed asked kept more) (layer_end refusal also y) =
        absurd (refused_here refusal ps ds t y x)
    layers_end_one a b (sides_end ps ds t changes ss rs is x listed asked kept more) (changes_end qs es u also y many) =
        absurd (more_here qs ps es ds u t changes y many x listed)
    layers_end_one a b (sides_end ps ds t changes ss rs is x listed asked kept more)
        (sides_end qs es u others ts js also y listed' wanted have many) = is ∙ sym also
    layers_end_one a b (sides_end ps ds t changes ss rs is x listed asked kept more)
        (listed_end qs es u others sides also y listed' have) =
        absurd (sided_here ss rs sides asked kept more have)
    layers_end_one a b (listed_end ps ds t changes sides is x listed have) (layer_end refusal also y) =
        absurd (refused_here refusal ps ds t y x)
    layers_end_one a b (listed_end ps ds t changes sides is x listed have) (changes_end qs es u also y more) =
        absurd (more_here qs ps es ds u t changes y more x listed)
    layers_end_one a b (listed_end ps ds t changes sides is x listed have)
        (sides_end qs es u others ss rs also y listed' asked kept more) =
        absurd (sided_here ss rs sides asked kept more have)
    layers_end_one a b (listed_end ps ds t changes sides is x listed have)
        (listed_end qs es u others told also y listed' have') =
        let one = one_run ps qs ds es t u x y in
        let inside : AreAllInside tin qs = run_inside (setting_of (Some files) migration.how tin) migration.layers qs es
        u
        y in
        let of_x : AreListed tin qs changes = subst (λ (rs : List Piece). AreListed tin rs changes) one.pieces listed in
        let same : changes ≡ others = changes_are_one tin qs inside changes others of_x.are_changes
        listed'.are_changes in
        let sided : sides ≡ told = sides_one texts files migration.how tin sound migration.sides migration.layers sides
        told have have' in
        is ∙ (ap (λ (ks : List Done). Ok (made_of migration tin ks changes sides)) one.done
        ∙ (ap (λ (cs : List Change). Ok (made_of migration tin es cs sides)) same
        ∙ (ap (λ (ss : Option (List SideChange)). Ok (made_of migration tin es others ss)) sided ∙ sym also)))

-- ---- a migration ends before its layers, or at them
data IsMigrationPath (files : Files) (migration : Migration) (end : End) : Type 0 where
  tin_end : (refusal : Refusal) → end ≡ Err refusal → IsTinEnd files migration.how migration.tin (Err refusal)
      → IsMigrationPath files migration end
  way_end : (stood tin : Triangulation) → IsTinEnd files migration.how migration.tin (Ok stood)
      → tin ≡ directed_tin migration.inverse stood → IsLayersEnd files migration tin end
      → IsMigrationPath files migration end

layers_refused : (files : Files) (migration : Migration) (tin : Triangulation) (refusal : Refusal)
    → AreRefused (setting_of (Some files) migration.how tin) migration.layers refusal
    → IsLayersEnd files migration tin (Err refusal)
layers_refused files migration tin refusal (at_layer is) = layer_end refusal refl is
layers_refused files migration tin refusal (at_changes is) =
    changes_end is.pieces is.done is.used (ap Err is.is) is.carried is.more

migration_refused : (files : Files) (migration : Migration) (refusal : Refusal)
    → IsMigrationRefused files migration refusal → IsMigrationPath files migration (Err refusal)
migration_refused files migration refusal (by_tin is) = tin_end refusal refl is
migration_refused files migration refusal (by_layers tin (stood, ready, is) why) =
    way_end stood tin ready is (layers_refused files migration tin refusal why)
migration_refused files migration refusal (by_sides tin (stood, ready, is) asked why) =
    way_end stood tin ready is
    (sides_end why.pieces why.done why.used why.changes why.sheets why.images (ap Err why.is) why.carried why.listed
    asked why.kept why.more)

pair_of : (status other : Status) (made others : Files) → status ≡ other → made ≡ others
    → ◌≡◌ {A = Status × Files} (status, made) (other, others)
pair_of status other made others is too = ap₂ (λ (s : Status) (m : Files). (s, m)) is too

migration_done : (files : Files) (migration : Migration) (status : Status) (made : Files)
    → IsMigrationDone files migration status made → IsMigrationPath files migration (Ok (status, made))
migration_done files migration status made is =
    let all = is.migrated in
    let (stood, ready, turned) = all.way in
    way_end stood all.tin ready turned
    (listed_end all.pieces all.done all.used is.changes is.sides
    (ap Ok (pair_of status _ made _ is.status_is
    (is.made_is ∙ ap₂ (λ (layers : Files) (said : List ℕ). layers ++ (codes "-", said) ∷ []) all.layers_are
    all.said_is))) all.carried all.listed all.sided)

migration_end_one : (texts : LayerTextsAreOne) (files : Files) (migration : Migration) (a b : End)
    → IsMigrationPath files migration a → IsMigrationPath files migration b → a ≡ b
migration_end_one texts files migration a b (tin_end refusal is x) (tin_end other also y) =
    let e = tin_end_is_one files migration.how migration.tin (Err refusal) (Err other) x y in
    let same : refusal ≡ other = cc in
    is ∙ (ap Err same ∙ sym also)
migration_end_one texts files migration a b (tin_end refusal is x) (way_end stood tin y turned end) = let e =
    tin_end_is_one files migration.how migration.tin (Err refusal) (Ok stood) x y in cc
migration_end_one texts files migration a b (way_end stood tin x turned end) (tin_end refusal is y) = let e =
    tin_end_is_one files migration.how migration.tin (Ok stood) (Err refusal) x y in cc
migration_end_one texts files migration a b (way_end stood tin x turned end) (way_end other way y turned' also) =
    let e = tin_end_is_one files migration.how migration.tin (Ok stood) (Ok other) x y in
    let stands : stood ≡ other = cc in
    let same : tin ≡ way = turned ∙ (ap (λ (t : Triangulation). directed_tin migration.inverse t) stands ∙ sym turned') in
    let sound : IsSound way = subst (λ (t : Triangulation). IsSound t) (sym turned')
    (sound_way migration.inverse other (sound_of files migration.how migration.tin other y)) in
    layers_end_one texts files migration way sound a b
    (subst (λ (t : Triangulation). IsLayersEnd files migration t a) same end) also

migration_path : (files : Files) (migration : Migration) (end : End) → IsMigrationEnd files migration end
    → IsMigrationPath files migration end
migration_path files migration (Ok (status, made)) is = migration_done files migration status made is
migration_path files migration (Err refusal) is = migration_refused files migration refusal is

pub migration_is_one : LayerTextsAreOne → MigrationIsOne
migration_is_one texts files migration end other x y =
    migration_end_one texts files migration end other (migration_path files migration end x)
    (migration_path files migration other y)

-- ---- what is made
-- the last of some files, alone
abbrev last_of : Files → Files
last_of [] = []
last_of (file ∷ []) = file ∷ []
last_of (file ∷ next ∷ files) = last_of (next ∷ files)

last_behind : (layers : Files) (file : List ℕ × List ℕ) → last_of (layers ++ file ∷ []) ≡ file ∷ []
last_behind [] file = refl
last_behind (first ∷ []) file = refl
last_behind (first ∷ next ∷ layers) file = last_behind (next ∷ layers) file

-- what is made ends as the migration of its texts does, with the last file alone
abbrev made_alone : End → End
made_alone (Ok end) = Ok (end.0, last_of end.1)
made_alone (Err refusal) = Err refusal

made_whole : (n : ℕ) (status : Status) (made : Files) (is : IsMakingDone n status made)
    → IsMigrationPath (made_files n) made_migration (Ok (status, is.layers ++ (codes "-", is.said) ∷ []))
made_whole n status made is =
    migration_done (made_files n) made_migration status (is.layers ++ (codes "-", is.said) ∷ []) (record {
      changes = is.changes;
      sides = is.sides;
      layers = is.layers;
      said = is.said;
      migrated = is.migrated;
      status_is = is.status_is;
      made_is = refl;
    })

making_path : (n : ℕ) (end : End) → IsMakingEnd n end
    → (whole : End) × IsMigrationPath (made_files n) made_migration whole × (end ≡ made_alone whole)
making_path n (Ok (status, made)) is = (
  Ok (status, is.layers ++ (codes "-", is.said) ∷ []),
  made_whole n status made is,
  ap Ok (pair_of status status made _ refl (is.made_is ∙ sym (last_behind is.layers (codes "-", is.said)))),
)
making_path n (Err refusal) is = (Err refusal, migration_refused (made_files n) made_migration refusal is, refl)

pub making_is_one : LayerTextsAreOne → MakingIsOne
making_is_one texts n end other x y =
    let (whole, ends, is) = making_path n end x in
    let (another, ends_too, also) = making_path n other y in
    is ∙ (ap made_alone (migration_end_one texts (made_files n) made_migration whole another ends ends_too) ∙ sym also)
