-- A verified layer is what a migration of its source alone writes.
use Rattle.std.proofs.Common.{◌≡◌, ℕ, ◌+◌, ◌<◌, ◌≤◌, Bool, List, [], ◌∷◌, ◌++◌, length, Some, Ok, Err, Result, codes}
use Rattle.std.proofs.Common.{refl, sym, ◌∙◌, ap, subst, arith}
use Rattle.std.specs.Prelude.{slice_get}
use Rattle.std.proofs.lemmas.Option.{none-some, same_Some}
use Rattle.shelf_io.specs.Files.{Files, bytes_of}
use Rattle.sheet_base.specs.declared.flags.How.{How}
use Rattle.sheet_base.specs.Sheets.{Contents}
use Rattle.sheet_base.specs.ImageFits.{Runs}
use Rattle.sheet_base.specs.Splices.{splice_of}
use Rattle.tin_base.specs.declared.pieces.Piece.{Piece}
use Rattle.tin_base.specs.Triangulation.{Triangulation}
use Rattle.tin_base.specs.Soundness.{IsSound}
use Rattle.sheet_pieces.specs.SheetSegments.{sheet_segments}
use Rattle.sheet_pieces.specs.SheetPieces.{IsSheetInside}
use Rattle.sheet_pieces.specs.SheetImages.{AreImagesOf}
use Rattle.sheet_pieces.proofs.OneSheet.{images_same}
use Rattle.carry_map.specs.declared.layers.Carried.{Carried}
use Rattle.carry_map.specs.declared.limits.TheConstants.{MOST_PIECES}
use Rattle.carry_map.proofs.FirstFaults.{outside_or_inside}
use Rattle.job_words.specs.declared.formats.Format.{Format}
use Rattle.job_words.specs.Formats.{format_by_name}
use Rattle.cert_check.specs.Checks.{IsMigrated}
use Rattle.layer_formats.specs.LayerOutcomes.{LayerTextsAreOne, IsLayerText, LacksLayerText}
use Rattle.layer_formats.specs.LayerTexts.{text_of}
use Rattle.runs.specs.declared.loads.TheConstants.{MOST_BYTES}
use Rattle.runs.specs.declared.status.Status.{Status}
use Rattle.runs.specs.declared.refusal.Refusal.{Refusal}
use Rattle.runs.specs.declared.refusal.Refusal.TheVariants.{LayerUnread, LayersLong, Layer, Outside, TooManyPieces}
use Rattle.runs.specs.Laws.{TinEndIsOne}
use Rattle.runs.specs.Output.{name_in}
use Rattle.runs.specs.Triangulations.{HasDirected, IsTinRefused, directed_tin}
use Rattle.runs.proofs.OneTin.{way_sound}
use Rattle.migrate_mode.specs.declared.migrations.Migration.{Migration}
use Rattle.migrate_mode.specs.LayerOutcomes.{IsCarried, IsOutside}
use Rattle.migrate_mode.specs.LayerRuns.{setting_of, Done, IsLayerFile, AreCarried, IsNextRefused}
use Rattle.migrate_mode.specs.LayerRuns.{IsRefusedLayer, AreRefused, at_layer, at_changes}
use Rattle.migrate_mode.specs.Migrations.{IsMigrationRefused, by_tin, by_layers, by_sides, IsMigrationDone, all_files_in}
use Rattle.migrate_mode.specs.Laws.{End, IsMigrationEnd}
use Rattle.verify_mode.specs.declared.verifications.Verification.{Verification}
use Rattle.verified_migrations.specs.Receivers.{IsOfSourceAlone, WritesOrHasTooMany}
use Rattle.verified_migrations.specs.Laws.{VerifiedLayersAreMigrated}
use Rattle.verified_migrations.proofs.SentLayers.{way_moved}

-- ---- one layer alone
not_nil : (front : List (List ℕ)) (name : List ℕ) (back : List (List ℕ)) → [] ≡ front ++ name ∷ back → ⊥
not_nil [] name back e = cc
not_nil (x ∷ front) name back e = cc

first_only : (only name : List ℕ) (front back : List (List ℕ)) → only ∷ [] ≡ front ++ name ∷ back
    → (front ≡ []) × (name ≡ only)
first_only only name [] back e = (refl, cc)
first_only only name (x ∷ front) back e = absurd (not_nil front name back cc)

-- a source that is read as a sheet whose segments are all inside, and the written text
module _ (texts : LayerTextsAreOne) (files : Files) (how : How) (tin : Triangulation) (name : List ℕ) (format : Format)
    (source written : List ℕ) (suffix : format_by_name name ≡ Some format) (found : bytes_of files name ≡ Some source)
    (within : length source ≤ MOST_BYTES)
    (is : IsMigrated tin source written (IsLayerText how format source) (text_of format source how)) where
  format_is : (f : Format) (bytes : List ℕ) → IsLayerFile (Some files) name 0 f bytes → f ≡ format
  format_is f bytes file = same_Some f format (sym file.suffix ∙ suffix)

  bytes_are : (bytes : List ℕ) → bytes_of files name ≡ Some bytes → bytes ≡ source
  bytes_are bytes here = same_Some bytes source (sym here ∙ found)

  not_long : (bytes : List ℕ) → bytes_of files name ≡ Some bytes → MOST_BYTES < 0 + length bytes → ⊥
  not_long bytes here many =
      let same : length bytes ≡ length source = ap (λ (t : List ℕ). length t) (bytes_are bytes here) in
      omega (arith, within, many, same)

  next_refused : (migration : Migration) (refusal : Refusal)
      → IsNextRefused (setting_of (Some files) how tin) 0 0 0 name refusal
      → WritesOrHasTooMany migration name written (Err refusal)
  next_refused migration (LayerUnread layer) (number, none) = absurd (none-some source (sym none ∙ found))
  next_refused migration LayersLong (bytes, here, many) = absurd (not_long bytes here many)
  next_refused migration (Layer layer fault) (number, f, bytes, file, lacks) =
      absurd ((texts how format source).apart is.sheet fault is.read
      (subst (λ (t : List ℕ). LacksLayerText how format t fault) (bytes_are bytes file.found)
      (subst (λ (g : Format). LacksLayerText how g bytes fault) (format_is f bytes file) lacks)))
  next_refused migration (Outside layer path segment) (number, f, bytes, file, outside) =
      absurd (inside_all path segment
      (subst (λ (t : List ℕ). IsOutside how tin format t 0 0 path segment) (bytes_are bytes file.found)
      (subst (λ (g : Format). IsOutside how tin g bytes 0 0 path segment) (format_is f bytes file) outside)))
    where
      inside_all : (path segment : ℕ) → IsOutside how tin format source 0 0 path segment → ⊥
      inside_all path segment (sheet, reads, first) =
          outside_or_inside tin 0 0 MOST_PIECES (sheet_segments sheet) path segment first
          (subst (λ (s : Contents). IsSheetInside tin s)
          ((texts how format source).one_sheet is.sheet sheet is.read reads) is.inside)
  next_refused migration TooManyPieces why = tt
  next_refused migration refusal why = absurd why

  layer_refused : (migration : Migration) (refusal : Refusal)
      → IsRefusedLayer (setting_of (Some files) how tin) (name ∷ []) refusal
      → WritesOrHasTooMany migration name written (Err refusal)
  layer_refused migration refusal why =
      let at = why.reached in
      let only = first_only name why.name at.front at.back at.stands in
      let here = subst (λ (ns : List (List ℕ)). AreCarried (setting_of (Some files) how tin) 0 0 [] ns at.pieces at.done
      at.used) only.0 at.carried in
      let number : why.number ≡ 0 = at.number_is ∙ ap (λ (ns : List (List ℕ)). length ns) only.0 in
      next_refused migration refusal
      (subst (λ n. IsNextRefused (setting_of (Some files) how tin) n 0 0 name refusal) number
      (subst (λ n. IsNextRefused (setting_of (Some files) how tin) why.number n 0 name refusal) here.2
      (subst (λ (ps : List Piece). IsNextRefused (setting_of (Some files) how tin) why.number at.used (length ps) name
      refusal) here.0
      (subst (λ (n : List ℕ). IsNextRefused (setting_of (Some files) how tin) why.number at.used (length at.pieces) n
      refusal) only.1 why.refused))))

  layers_refused : (migration : Migration) (refusal : Refusal)
      → AreRefused (setting_of (Some files) how tin) (name ∷ []) refusal
      → WritesOrHasTooMany migration name written (Err refusal)
  layers_refused migration refusal (at_layer why) = layer_refused migration refusal why
  layers_refused migration refusal (at_changes why) =
      subst (λ (r : Refusal). WritesOrHasTooMany migration name written (Err r)) (sym why.is) tt

  -- ---- what is carried is the written text
  text_is : (sound : IsSound tin) (after : List Piece) (carried : Carried)
      → IsCarried how tin format source 0 [] after carried → carried.text ≡ written
  text_is sound after carried done =
      let layer = done.layer in
      let same : layer.sheet ≡ is.sheet =
      (texts how format source).one_sheet layer.sheet is.sheet layer.read is.read in
      let images : layer.images ≡ is.images =
      images_same tin is.sheet layer.images is.images sound
      (subst (λ (s : Contents). AreImagesOf tin s layer.images) same layer.are_images) is.are_images in
      layer.text_is
      ∙ (ap (λ (s : Contents). splice_of source (text_of format source how s layer.images) s.edits) same
      ∙ (ap (λ (im : Runs). splice_of source (text_of format source how is.sheet im) is.sheet.edits) images
      ∙ sym is.written_is))

  first_made : (migration : Migration) (sound : IsSound tin) (pieces : List Piece) (done : List Done) (total : ℕ)
      (end : Files) → AreCarried (setting_of (Some files) how tin) 0 0 [] (name ∷ []) pieces done total
      → slice_get (all_files_in migration.cert migration.out done ++ end) 0
      ≡ Some (name_in migration.out name, written)
  first_made migration sound pieces done total end (bytes, after, first, rest, next, are, others) =
      let of_format = subst (λ (g : Format). IsCarried how tin g bytes 0 [] after first.carried)
      (format_is first.format bytes next.file) next.carried in
      let of_source = subst (λ (t : List ℕ). IsCarried how tin format t 0 [] after first.carried)
      (bytes_are bytes next.file.found) of_format in
      ap (λ (ds : List Done). slice_get (all_files_in migration.cert migration.out ds ++ end) 0) are
      ∙ (ap (λ (n : List ℕ). Some (name_in migration.out n, first.carried.text)) next.named
      ∙ ap (λ (t : List ℕ). Some (name_in migration.out name, t)) (text_is sound after first.carried of_source))

-- ---- a migration of the verified source
same_ok : (tin other : Triangulation) → ◌≡◌ {A = Result Triangulation Refusal} (Ok tin) (Ok other) → tin ≡ other
same_ok tin other e = cc

ok_or_err : (tin : Triangulation) (refusal : Refusal) → ◌≡◌ {A = Result Triangulation Refusal} (Ok tin) (Err refusal) → ⊥
ok_or_err tin refusal e = cc

way_one : TinEndIsOne → (files : Files) (how : How) (name : List ℕ) (inverse : Bool) (tin other : Triangulation)
    → HasDirected files how name inverse tin → HasDirected files how name inverse other → tin ≡ other
way_one tins files how name inverse tin other (stood, has, is) (stood', has', is') =
    is ∙ (ap (λ (t : Triangulation). directed_tin inverse t)
    (same_ok stood stood' (tins files how name (Ok stood) (Ok stood') has has')) ∙ sym is')

way_or_not : TinEndIsOne → (files : Files) (how : How) (name : List ℕ) (inverse : Bool) (tin : Triangulation)
    (refusal : Refusal) → HasDirected files how name inverse tin → IsTinRefused files how name refusal → ⊥
way_or_not tins files how name inverse tin refusal (stood, has, is) why =
    ok_or_err stood refusal (tins files how name (Ok stood) (Err refusal) has why)

module _ (texts : LayerTextsAreOne) (tins : TinEndIsOne) (files : Files) (verification : Verification)
    (migration : Migration) (alone : IsOfSourceAlone verification migration) (tin : Triangulation) (format : Format)
    (source written : List ℕ) (way : HasDirected files verification.how verification.tin verification.inverse tin)
    (suffix : format_by_name verification.source ≡ Some format)
    (found : bytes_of files verification.source ≡ Some source) (within : length source ≤ MOST_BYTES)
    (is : IsMigrated tin source written (IsLayerText verification.how format source)
    (text_of format source verification.how)) where
  -- the migration's triangulation is that of the verification
  same_way : (other : Triangulation) → HasDirected files migration.how migration.tin migration.inverse other
      → other ≡ tin
  same_way other here =
      way_one tins files verification.how verification.tin verification.inverse other tin
      (way_moved files files migration.how verification.how migration.tin verification.tin migration.inverse
      verification.inverse other (sym alone.how) (sym alone.inverse)
      (ap (λ (n : List ℕ). bytes_of files n) (sym alone.tin)) here) way

  refused_end : (refusal : Refusal) → IsMigrationRefused files migration refusal
      → WritesOrHasTooMany migration verification.source written (Err refusal)
  refused_end refusal (by_tin why) =
      absurd (way_or_not tins files verification.how verification.tin verification.inverse tin refusal way
      (subst (λ (h : How). IsTinRefused files h verification.tin refusal) alone.how
      (subst (λ (n : List ℕ). IsTinRefused files migration.how n refusal) alone.tin why)))
  refused_end refusal (by_layers other here why) =
      layers_refused texts files verification.how tin verification.source format source written suffix found within is
      migration refusal
      (subst (λ (ns : List (List ℕ)). AreRefused (setting_of (Some files) verification.how tin) ns refusal) alone.layers
      (subst (λ (h : How). AreRefused (setting_of (Some files) h tin) migration.layers refusal) alone.how
      (subst (λ (t : Triangulation). AreRefused (setting_of (Some files) migration.how t) migration.layers refusal)
      (same_way other here) why)))
  refused_end refusal (by_sides other here asked why) =
      subst (λ (r : Refusal). WritesOrHasTooMany migration verification.source written (Err r)) (sym why.is) asked

  done_end : (status : Status) (made : Files) → IsMigrationDone files migration status made
      → WritesOrHasTooMany migration verification.source written (Ok (status, made))
  done_end status made done =
      let m = done.migrated in
      let end : Files = (codes "-", done.said) ∷ [] in
      ap (λ (t : Files). slice_get t 0) (done.made_is ∙ ap (λ (ls : Files). ls ++ end) m.layers_are)
      ∙ first_made texts files verification.how tin verification.source format source written suffix found within is
      migration (way_sound files verification.how verification.tin verification.inverse tin way) m.pieces m.done m.used
      end
      (subst (λ (ns : List (List ℕ)). AreCarried (setting_of (Some files) verification.how tin) 0 0 [] ns m.pieces
      m.done m.used) alone.layers
      (subst (λ (h : How). AreCarried (setting_of (Some files) h tin) 0 0 [] migration.layers m.pieces m.done m.used)
      alone.how
      (subst (λ (t : Triangulation). AreCarried (setting_of (Some files) migration.how t) 0 0 [] migration.layers
      m.pieces m.done m.used) (same_way m.tin m.way) m.carried)))

  end_is : (end : End) → IsMigrationEnd files migration end
      → WritesOrHasTooMany migration verification.source written end
  end_is (Ok (status, made)) done = done_end status made done
  end_is (Err refusal) why = refused_end refusal why

pub verified_migrated : LayerTextsAreOne → TinEndIsOne → VerifiedLayersAreMigrated
verified_migrated texts tins files verification status made written migration end verified found alone is =
    let hand = verified.at_hand in
    let files_are = hand.texts in
    let same : verified.written ≡ written = same_Some verified.written written (sym files_are.written_is.found ∙ found) in
    subst (λ (t : List ℕ). WritesOrHasTooMany migration verification.source t end) same
    (end_is texts tins files verification migration alone verified.tin verified.format verified.source verified.written
    hand.way hand.suffix files_are.source_is.found files_are.source_is.within verified.certified.migrated end is)
