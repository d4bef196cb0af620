-- What the end of a migration says of the pieces of its layers.
use Rattle.std.proofs.lemmas.Grind.{common_steps}
use Rattle.std.proofs.Common.{◌≡◌, ◌≢◌, ◌⊎◌, inl, inr, ℕ, ◌+◌, Bool, true, false, List, [], ◌∷◌, ◌++◌, map, codes, length, drop, Option, None, Some}
use Rattle.std.proofs.Common.{IfSome, refl, sym, ◌∙◌, ap, subst, append_assoc, arith}
use Rattle.std.proofs.lemmas.List.{append-nil}
use Rattle.std.proofs.lemmas.List.Elements.{Contains-append_left, Contains-append_right}
use Rattle.std.proofs.Math.Seq.{drop-append_seam}
use Rattle.std.specs.Prelude.{Contains}
use Rattle.shelf_io.specs.Files.{Files}
use Rattle.carry_map.specs.Layers.{IsBackAsPieces}
use Rattle.ring_side.specs.declared.kinds.SideChange.{SideChange}
use Rattle.sheet_base.specs.declared.flags.How.{How}
use Rattle.tin_base.specs.Triangulation.{Triangulation}
use Rattle.tin_base.specs.declared.pieces.Change.{Change}
use Rattle.tin_base.specs.declared.pieces.Piece.{Piece}
use Rattle.topo_check.specs.Changes.{AreChanges}
use Rattle.job_words.specs.declared.faults.WordsFault.{WordsFault}
use Rattle.job_words.specs.declared.faults.WordsFault.TheVariants.{NoMode, Parse, Size, Many, Name, Suffix, SameName}
use Rattle.job_words.specs.declared.faults.WordsFault.TheVariants.{NoMemory as WordsMemory}
use Rattle.report_text.specs.Reports.{ReportContents}
use Rattle.report_text.specs.ReportText.{report_text}
use Rattle.runs.specs.declared.status.Status.{Status}
use Rattle.runs.specs.declared.refusal.Refusal.{Refusal}
use Rattle.runs.specs.declared.refusal.Refusal.TheVariants.{Words, TinUnread, TinLong, Tin, Check, LayerUnread}
use Rattle.runs.specs.declared.refusal.Refusal.TheVariants.{LayersLong, Layer, Outside, TooManyPieces, TooManyChanges}
use Rattle.runs.specs.declared.refusal.Refusal.TheVariants.{TooManySides}
use Rattle.runs.specs.declared.refusal.Refusal.TheVariants.{NoMemory, WrittenUnread, WrittenLong, CertUnread, CertLong}
use Rattle.runs.specs.declared.refusal.Refusal.TheVariants.{Certificate}
use Rattle.cert_check.specs.declared.faults.CertFault.{CertFault}
use Rattle.cert_check.specs.declared.faults.CertFault.TheVariants as certs
use Rattle.runs.specs.Refusals.{status_of, status_of_words, status_of_cert, Refuses}
use Rattle.runs.proofs.Faults.{IsOfTin, refused_tin, limited_tin, tin_without_room, of_text, of_check, IsOfLayer}
use Rattle.runs.proofs.Faults.{unread_layer}
use Rattle.runs.proofs.Faults.{layer_without_room, of_layer}
use Rattle.migrate_mode.specs.declared.migrations.Migration.{Migration}
use Rattle.layer_formats.specs.LayerOutcomes.{IsLayerText}
use Rattle.layer_formats.specs.LayerTexts.{reads_back_of}
use Rattle.migrate_mode.specs.LayerRuns.{Setting, setting_of, Done, IsNextCarried, AreCarried}
use Rattle.migrate_mode.specs.RunChanges.{end_with}
use Rattle.migrate_mode.specs.Migrations.{IsMigrated, IsMigrationDone, files_in, all_files_in, row_of, report_of}
use Rattle.migrate_mode.specs.Maker.{IsMakingDone, made_files, made_migration}
use Rattle.migrate_mode.specs.KeptRelations.{HasWritten, IsKeptLayer, AreKeptLayers, GivesPieces}
use Rattle.migrate_mode.specs.KeptRelations.{IsSomeSide}
use Rattle.migrate_mode.specs.KeptSides.{KeepAskedSides, AreAskedSides}
use Rattle.migrate_mode.specs.SideLists.{HaveAskedSides}
use Rattle.ring_side.proofs.SideMembers.{all_sides, none_keeps}
use Rattle.runs.specs.declared.status.Status.TheVariants.{Same, Changed}
use Rattle.migrate_mode.specs.KeptRelations.{KeepsRelationsIn, KeepsRelations, KeepsMadeRelations}
use Rattle.migrate_mode.specs.Laws.{MigrationKeepsRelations, MakingKeepsRelations}
use Rattle.migrate_mode.proofs.PairChanges.{all_and_only, all_keep}

-- ---- a refusal says nothing of pieces
of_words : (files : Files) (migration : Migration) (fault : WordsFault) (layers made : Option Files)
    → KeepsRelationsIn files migration (status_of_words fault) layers made
of_words files migration NoMode layers made = tt
of_words files migration Parse layers made = tt
of_words files migration Size layers made = tt
of_words files migration Many layers made = tt
of_words files migration (Name which) layers made = tt
of_words files migration (Suffix layer) layers made = tt
of_words files migration (SameName layer) layers made = tt
of_words files migration WordsMemory layers made = tt

of_tin : (files : Files) (migration : Migration) (status : Status) (layers made : Option Files) → IsOfTin status
    → KeepsRelationsIn files migration status layers made
of_tin files migration status layers made (refused_tin is) = rw is tt
of_tin files migration status layers made (limited_tin is) = rw is tt
of_tin files migration status layers made (tin_without_room is) = rw is tt

of_unread : (files : Files) (migration : Migration) (status : Status) (layers made : Option Files) → IsOfLayer status
    → KeepsRelationsIn files migration status layers made
of_unread files migration status layers made (unread_layer is) = rw is tt
of_unread files migration status layers made (layer_without_room is) = rw is tt

of_cert : (files : Files) (migration : Migration) (fault : CertFault) (layers made : Option Files)
    → KeepsRelationsIn files migration (status_of_cert fault) layers made
of_cert files migration (certs.Layer fault) layers made = of_unread files migration _ layers made (of_layer fault)
of_cert files migration (certs.Form line) layers made = tt
of_cert files migration (certs.Count segments lines) layers made = tt
of_cert files migration (certs.Segment path segment) layers made = tt
of_cert files migration (certs.Differs at) layers made = tt
of_cert files migration certs.NoMemory layers made = tt

of_refusal : (files : Files) (migration : Migration) (refusal : Refusal) (layers made : Option Files)
    → KeepsRelationsIn files migration (status_of refusal) layers made
of_refusal files migration (Words fault) layers made = of_words files migration fault layers made
of_refusal files migration TinUnread layers made = tt
of_refusal files migration TinLong layers made = tt
of_refusal files migration (Tin fault) layers made = of_tin files migration _ layers made (of_text fault)
of_refusal files migration (Check fault) layers made = of_tin files migration _ layers made (of_check fault)
of_refusal files migration (LayerUnread layer) layers made = tt
of_refusal files migration LayersLong layers made = tt
of_refusal files migration (Layer layer fault) layers made = of_unread files migration _ layers made (of_layer fault)
of_refusal files migration (Outside layer path segment) layers made = tt
of_refusal files migration TooManyPieces layers made = tt
of_refusal files migration TooManyChanges layers made = tt
of_refusal files migration TooManySides layers made = tt
of_refusal files migration WrittenUnread layers made = tt
of_refusal files migration WrittenLong layers made = tt
of_refusal files migration CertUnread layers made = tt
of_refusal files migration CertLong layers made = tt
of_refusal files migration (Certificate fault) layers made = of_cert files migration fault layers made
of_refusal files migration NoMemory layers made = tt

pub refused_so : (files : Files) (migration : Migration) (refusal : Refusal) (status : Status) (whole : Files)
    (layers made : Option Files) → Refuses refusal status whole → KeepsRelationsIn files migration status layers made
refused_so files migration refusal status whole layers made is = grind (arith, of_refusal)

-- ---- the layers of a migration that is done
-- these files are among those that were made
abbrev AreAmong : Files → Option Files → Type 0
AreAmong layers made = IfSome made (λ files. (file : List ℕ × List ℕ) → Contains layers file → Contains files file)

among_later : (first layers : Files) (made : Option Files) → AreAmong (first ++ layers) made → AreAmong layers made
among_later first layers None among = tt
among_later first layers (Some made) among = λ file has. among file (Contains-append_right first layers file has)

written_in : (how : How) (tin : Triangulation) (cert : Bool) (folder name bytes : List ℕ) (own : List Piece)
    (first : Done) (layers : Files) (made : Option Files) → first.name ≡ name
    → AreAmong (files_in cert folder first ++ layers) made
    → IsBackAsPieces tin bytes (IsLayerText how first.format) (reads_back_of first.format how bytes) first.carried.text
    own → IfSome made (HasWritten how first.format tin folder name bytes own)
written_in how tin cert folder name bytes own first layers None named among back = tt
written_in how tin cert folder name bytes own first layers (Some made) named among back = grind (arith)

seam : (before own after : List Piece) → after ≡ before ++ own → drop (length before) after ≡ own
seam before own after is = ap (λ (ps : List Piece). drop (length before) ps) is ∙ drop-append_seam before own

kept_next : (setting : Setting) (cert : Bool) (folder : List ℕ) (made : Option Files) (number used : ℕ)
    (before : List Piece) (name bytes : List ℕ) (after : List Piece) (first : Done) (layers : Files)
    → IsNextCarried setting number used before name bytes after first
    → AreAmong (files_in cert folder first ++ layers) made
    → (own : List Piece) × (after ≡ before ++ own) × IsKeptLayer setting folder made number used name bytes own
kept_next setting cert folder made number used before name bytes after first layers is among =
    let carried = is.carried in
    let layer = carried.layer in (
      layer.own,
      layer.stand,
      record {
        format = first.format;
        file = is.file;
        sheet = layer.sheet;
        read = layer.read;
        inside = layer.inside;
        are_pieces = layer.are_pieces;
        written =
            written_in setting.how setting.tin cert folder name bytes layer.own first layers made is.named among
            (subst (λ (ps : List Piece). IsBackAsPieces setting.tin bytes (IsLayerText setting.how first.format)
            (reads_back_of first.format setting.how bytes) first.carried.text ps)
            (seam before layer.own after layer.stand) carried.back);
      },
    )

kept_all : (setting : Setting) (cert : Bool) (folder : List ℕ) (made : Option Files) (number used : ℕ)
    (before : List Piece) (names : List (List ℕ)) (after : List Piece) (ds : List Done) (total : ℕ)
    → AreCarried setting number used before names after ds total → AreAmong (all_files_in cert folder ds) made
    → (rest : List Piece) × (after ≡ before ++ rest) × AreKeptLayers setting folder made number used names rest
kept_all setting cert folder made number used before [] after ds total (same, none, sum) among =
    ([], same ∙ sym (append-nil before), refl)
kept_all setting cert folder made number used before (name ∷ names) after ds total
    (bytes, pieces, first, others, next, are, more) among =
    let among_here : AreAmong (files_in cert folder first ++ all_files_in cert folder others) made =
    subst (λ (es : List Done). AreAmong (all_files_in cert folder es) made) are among in
    let (own, stand, kept) = kept_next setting cert folder made number used before name bytes pieces first
    (all_files_in cert folder others) next among_here in
    let (rest, behind, later) =
    kept_all setting cert folder made (number + 1) (used + length bytes) pieces names after others total more
    (among_later (files_in cert folder first) (all_files_in cert folder others) made among_here) in (
      own ++ rest,
      behind ∙ (ap (λ (ps : List Piece). ps ++ rest) stand ∙ append_assoc before own rest),
      (bytes, own, rest, kept, refl, later),
    )

-- ---- a migration that is done
in_last : (layers : Files) (said : List ℕ) (whole : Files) (made : Option Files) → IfSome made (λ files. files ≡ whole)
    → whole ≡ layers ++ (codes "-", said) ∷ [] → IfSome made (λ files. Contains files (codes "-", said))
in_last layers said whole None is two = tt
in_last layers said whole (Some made) is two =
    rw (is, two) (Contains-append_right layers ((codes "-", said) ∷ []) (codes "-", said) (0, omega arith, refl))

in_front : (layers : Files) (said : List ℕ) (whole : Files) (made : Option Files) → IfSome made (λ files. files ≡ whole)
    → whole ≡ layers ++ (codes "-", said) ∷ [] → AreAmong layers made
in_front layers said whole None is two = tt
in_front layers said whole (Some made) is two = grind (arith, common_steps, Contains-append_left)

-- where no side is listed all are kept
kept_unless : (asked : Bool) (setting : Setting) (names : List (List ℕ)) (sides : Option (List SideChange))
    → HaveAskedSides asked setting names sides → (sides ≡ None) ⊎ (sides ≡ Some []) → KeepAskedSides asked setting names
kept_unless false setting names sides have none = tt
kept_unless true setting names None have none = absurd have
kept_unless true setting names (Some []) have none = grind (arith, none_keeps)
kept_unless true setting names (Some (side ∷ sides)) have (inl none) = cc
kept_unless true setting names (Some (side ∷ sides)) have (inr none) = cc

-- all are listed, and no others
are_asked : (asked : Bool) (setting : Setting) (names : List (List ℕ)) (sides : Option (List SideChange))
    → HaveAskedSides asked setting names sides → AreAskedSides asked setting names sides
are_asked false setting names None have = tt
are_asked false setting names (Some sides) have = absurd have
are_asked true setting names None have = absurd have
are_asked true setting names (Some sides) have = grind (arith, all_sides)

-- what is known of a migration that is done: its pieces, their changes and those of sides, and its report
record IsDone (files : Files) (migration : Migration) (tin : Triangulation) (pieces : List Piece)
    (changes : List Change) (sides : Option (List SideChange)) (report : ReportContents) (layers made : Option Files)
    : Type 0 where
  gives : GivesPieces files migration layers tin pieces
  are : AreChanges tin pieces changes
  have : HaveAskedSides migration.sides (setting_of (Some files) migration.how tin) migration.layers sides
  same : report.changes ≡ changes
  told : report.sides ≡ sides
  there : IfSome made (λ files. Contains files (codes "-", report_text report))

module _ (files : Files) (migration : Migration) (tin : Triangulation) (pieces : List Piece) (report : ReportContents)
    (layers made : Option Files) where
  -- nothing is listed
  as_same : (sides : Option (List SideChange)) → (sides ≡ None) ⊎ (sides ≡ Some [])
      → IsDone files migration tin pieces [] sides report layers made → KeepsRelationsIn files migration Same layers made
  as_same sides none is = grind (arith, all_keep, kept_unless)

  -- something is
  as_changed : (changes : List Change) (sides : Option (List SideChange))
      → (report.changes ≢ []) ⊎ IsSomeSide report.sides
      → IsDone files migration tin pieces changes sides report layers made
      → KeepsRelationsIn files migration Changed layers made
  as_changed changes sides some is = grind (arith, all_and_only, are_asked)

  keeps_with : (changes : List Change) (sides : Option (List SideChange))
      → IsDone files migration tin pieces changes sides report layers made
      → KeepsRelationsIn files migration (end_with changes sides) layers made
  keeps_with [] None is = as_same None (inl refl) is
  keeps_with [] (Some []) is = as_same (Some []) (inr refl) is
  keeps_with [] (Some (side ∷ sides)) is =
      as_changed [] (Some (side ∷ sides)) (inr (subst IsSomeSide (sym is.told) (λ none. cc))) is
  keeps_with (change ∷ changes) None is =
      as_changed (change ∷ changes) None (inl (λ none. let e = sym is.same ∙ none in cc)) is
  keeps_with (change ∷ changes) (Some []) is =
      as_changed (change ∷ changes) (Some []) (inl (λ none. let e = sym is.same ∙ none in cc)) is
  keeps_with (change ∷ changes) (Some (side ∷ sides)) is =
      as_changed (change ∷ changes) (Some (side ∷ sides)) (inl (λ none. let e = sym is.same ∙ none in cc)) is

-- the layers' files are among some files, and what is said among those that are made
migrated_in : (files : Files) (migration : Migration) (status : Status) (changes : List Change)
    (sides : Option (List SideChange)) (written : Files)
    (said : List ℕ) (layers made : Option Files) → IsMigrated files migration changes sides written said
    → status ≡ end_with changes sides
    → AreAmong written layers → IfSome made (λ fs. Contains fs (codes "-", said))
    → KeepsRelationsIn files migration status layers made
migrated_in files migration status changes sides written said layers made all ends among there =
    let listed = all.listed in
    let report = report_of migration.tin all.tin (map row_of all.done) changes sides in
    let (rest, stand, kept) =
    kept_all (setting_of (Some files) migration.how all.tin) migration.cert migration.out layers 0 0 [] migration.layers
    all.pieces all.done all.used all.carried (subst (λ (fs : Files). AreAmong fs layers) all.layers_are among) in
    let gives : GivesPieces files migration layers all.tin all.pieces = record {
      way = all.way;
      layers = subst (λ (ps : List Piece). AreKeptLayers (setting_of (Some files) migration.how all.tin) migration.out
          layers 0 0 migration.layers ps) (sym stand) kept;
    } in
    subst (λ (s : Status). KeepsRelationsIn files migration s layers made) (sym ends)
    (keeps_with files migration all.tin all.pieces report layers made changes sides (record {
      gives = gives;
      are = listed.are_changes;
      have = all.sided;
      same = refl;
      told = refl;
      there = subst (λ (text : List ℕ). IfSome made (λ fs. Contains fs (codes "-", text))) all.said_is there;
    }))

pub migrated_keeps : (files : Files) (migration : Migration) (status : Status) (whole : Files) (made : Option Files)
    → IfSome made (λ files. files ≡ whole) → IsMigrationDone files migration status whole
    → KeepsRelations files migration status made
migrated_keeps files migration status whole made same is =
    migrated_in files migration status is.changes is.sides is.layers is.said made made is.migrated is.status_is
    (in_front is.layers is.said whole made same is.made_is) (in_last is.layers is.said whole made same is.made_is)

-- ---- what is made
pub made_refused : (n : ℕ) (refusal : Refusal) (status : Status) (whole : Files) (made : Option Files)
    → Refuses refusal status whole → KeepsMadeRelations n status made
made_refused n refusal status whole made is =
    ([], refused_so (made_files n) made_migration refusal status whole (Some []) made is)

pub making_keeps : (n : ℕ) (status : Status) (whole : Files) (made : Option Files)
    → IfSome made (λ files. files ≡ whole) → IsMakingDone n status whole → KeepsMadeRelations n status made
making_keeps n status whole made same is = (
  is.layers,
  migrated_in (made_files n) made_migration status is.changes is.sides is.layers is.said (Some is.layers) made
      is.migrated is.status_is (λ file has. has) (in_last [] is.said whole made same is.made_is),
)

-- ---- the laws
pub migration_keeps_relations : MigrationKeepsRelations
migration_keeps_relations files migration status made is =
    migrated_keeps files migration status made (Some made) refl is

pub making_keeps_relations : MakingKeepsRelations
making_keeps_relations n status made is = making_keeps n status made (Some made) refl is
