-- A layer that a migration carried is verified by its certificate.
use Rattle.std.proofs.Common.{◌≡◌, ℕ, zero, suc, ◌+◌, ◌*◌, Bool, true, List, [], ◌∷◌, ◌++◌, length, drop, Some}
use Rattle.std.proofs.Common.{codes, refl, sym, ◌∙◌, ap, subst, arith}
use Rattle.std.specs.Prelude.{slice_get, ◌≤◌}
use Rattle.std.proofs.lemmas.Option.{same_Some}
use Rattle.shelf_io.specs.Files.{Files, bytes_of}
use Rattle.sheet_base.specs.declared.flags.How.{How}
use Rattle.tin_base.specs.declared.pieces.Piece.{Piece}
use Rattle.tin_base.specs.Triangulation.{Triangulation}
use Rattle.tin_base.specs.Limits.{IsWithinLimits}
use Rattle.tin_base.specs.Soundness.{IsSound}
use Rattle.cert_check.specs.Certificates.{certificate_of}
use Rattle.cert_check.specs.PieceLists.{lists_of}
use Rattle.cert_check.specs.Laws.{PiecesAreRightlyCertified}
use Rattle.runs.specs.Laws.{ReadTinsAreWithinLimits}
use Rattle.runs.specs.declared.loads.TheConstants.{MOST_BYTES}
use Rattle.runs.specs.declared.status.Status.TheVariants.{Same}
use Rattle.runs.specs.Output.{name_in}
use Rattle.runs.specs.Triangulations.{HasDirected, IsTin, directed_tin}
use Rattle.runs.proofs.OneTin.{way_sound}
use Rattle.carry_map.specs.declared.layers.Carried.{Carried}
use Rattle.job_words.specs.declared.formats.Format.{Format}
use Rattle.layer_formats.specs.LayerOutcomes.{IsLayerText}
use Rattle.layer_formats.specs.LayerTexts.{text_of}
use Rattle.migrate_mode.specs.LayerOutcomes.{IsCarried}
use Rattle.migrate_mode.specs.LayerRuns.{Setting, setting_of, Done, IsNextCarried, AreCarried}
use Rattle.migrate_mode.specs.Migrations.{all_files_in, file_in}
use Rattle.migrate_mode.specs.Names.{cert_name_in}
use Rattle.verify_mode.specs.Certificates.{IsCertifiedAs}
use Rattle.verify_mode.specs.Verifications.{IsVerified, certified_text}
use Rattle.verified_migrations.specs.Laws.{MigrationsAreVerified}
use Rattle.verified_migrations.proofs.PieceCertificates.{certify}
use Rattle.migrate_mode.proofs.SomeMigration.{within_way}

-- ---- the layer of a number
-- it is carried after some bytes and pieces, and its two files are at these places of what is made
record IsCarriedAt (setting : Setting) (out name : List ℕ) (made : Files) (place : ℕ) : Type 0 where
  number : ℕ
  used : ℕ
  before : List Piece
  bytes : List ℕ
  after : List Piece
  done : Done
  next : IsNextCarried setting number used before name bytes after done
  layer_file : slice_get made place ≡ Some (file_in out done)
  cert_file : slice_get made (suc place) ≡ Some (cert_name_in out done.name, certificate_of (lists_of done.pieces))

behind_another : (setting : Setting) (out name : List ℕ) (made : Files) (one other : List ℕ × List ℕ) (n : ℕ)
    → IsCarriedAt setting out name made (2 * n) → IsCarriedAt setting out name (one ∷ other ∷ made) (2 * suc n)
behind_another setting out name made one other n is =
    let e : 2 * suc n ≡ suc (suc (2 * n)) = omega arith in
    subst (λ place. IsCarriedAt setting out name (one ∷ other ∷ made) place) (sym e)
    (record {
      number = is.number;
      used = is.used;
      before = is.before;
      bytes = is.bytes;
      after = is.after;
      done = is.done;
      next = is.next;
      layer_file = is.layer_file;
      cert_file = is.cert_file;
    })

carried_at : (setting : Setting) (out name : List ℕ) (rest : Files) (number used : ℕ) (before : List Piece)
    (names : List (List ℕ)) (after : List Piece) (done : List Done) (total n : ℕ)
    → AreCarried setting number used before names after done total → slice_get names n ≡ Some name
    → IsCarriedAt setting out name (all_files_in true out done ++ rest) (2 * n)
carried_at setting out name rest number used before [] after done total n are at = cc
carried_at setting out name rest number used before (first ∷ names) after done total zero
    (bytes, pieces, d, ds, next, is, others) at =
    let same : first ≡ name = cc in
    subst (λ (t : List Done). IsCarriedAt setting out name (all_files_in true out t ++ rest) 0) (sym is)
    (record {
      number = number;
      used = used;
      before = before;
      bytes = bytes;
      after = pieces;
      done = d;
      next = subst (λ (t : List ℕ). IsNextCarried setting number used before t bytes pieces d) same next;
      layer_file = refl;
      cert_file = refl;
    })
carried_at setting out name rest number used before (first ∷ names) after done total (suc n)
    (bytes, pieces, d, ds, next, is, others) at =
    subst (λ (t : List Done). IsCarriedAt setting out name (all_files_in true out t ++ rest) (2 * suc n)) (sym is)
    (behind_another setting out name (all_files_in true out ds ++ rest) (file_in out d)
    (cert_name_in out d.name, certificate_of (lists_of d.pieces)) n
    (carried_at setting out name rest (number + 1) (used + length bytes) pieces names after ds total n others at))

drop_front : (before own : List Piece) → drop (length before) (before ++ own) ≡ own
drop_front [] own = refl
drop_front (piece ∷ before) own = drop_front before own

plus_one : (n : ℕ) → n + 1 ≡ suc n
plus_one n = omega arith

rest_within : (used more most : ℕ) → used + more ≤ most → more ≤ most
rest_within used more most h = omega (arith, h)

limits_here : ReadTinsAreWithinLimits → (files : Files) (how : How) (name : List ℕ) (inverse : Bool)
    (tin : Triangulation) → HasDirected files how name inverse tin → IsWithinLimits tin
limits_here within files how name inverse tin (stood, (text, file, read), is) =
    subst (λ (t : Triangulation). IsWithinLimits t) (sym is)
    (within_way inverse stood (within how text stood read.read))

-- the same bytes of a triangulation, read with the same options, in another folder
pub way_moved : (files received : Files) (how also : How) (name other : List ℕ) (inverse turned : Bool)
    (tin : Triangulation) → also ≡ how → turned ≡ inverse → bytes_of received other ≡ bytes_of files name
    → HasDirected files how name inverse tin → HasDirected received also other turned tin
way_moved files received how also name other inverse turned tin same_how same_way found (stood, (text, file, read), is) = (
  stood,
  (
    text,
    record { found = found ∙ file.found; within = file.within },
    subst (λ (h : How). IsTin h text stood) (sym same_how) read,
  ),
  is ∙ ap (λ (b : Bool). directed_tin b stood) (sym same_way),
)

-- ---- a carried layer is certified by the certificate of its pieces
certified_here : PiecesAreRightlyCertified → (how : How) (tin : Triangulation) (format : Format) (bytes : List ℕ)
    (number : ℕ) (before after pieces : List Piece) (carried : Carried) → IsWithinLimits tin → IsSound tin
    → IsCarried how tin format bytes number before after carried → pieces ≡ drop (length before) after
    → IsCertifiedAs how tin format bytes carried.text (certificate_of (lists_of pieces))
certified_here rightly how tin format bytes number before after pieces carried limits sound is own =
    let layer = is.layer in
    let own_is : pieces ≡ layer.own =
    own ∙ (ap (λ (ps : List Piece). drop (length before) ps) layer.stand ∙ drop_front before layer.own) in
    subst (λ (ps : List Piece). IsCertifiedAs how tin format bytes carried.text (certificate_of (lists_of ps)))
    (sym own_is)
    (subst (λ (t : List ℕ). IsCertifiedAs how tin format bytes t (certificate_of (lists_of layer.own)))
    (sym layer.text_is)
    (certify rightly tin bytes (IsLayerText how format bytes) (text_of format bytes how) number layer.sheet layer.images
    layer.own limits sound layer.read layer.inside layer.are_images layer.are_pieces))

pub migrations_verified : PiecesAreRightlyCertified → ReadTinsAreWithinLimits → MigrationsAreVerified
migrations_verified rightly within files migration status made number received verification with_certs done sent =
    let m = done.migrated in
    let setting = setting_of (Some files) migration.how m.tin in
    let end : Files = (codes "-", done.said) ∷ [] in
    let made_is : made ≡ all_files_in true migration.out m.done ++ end =
    done.made_is ∙ ap (λ (ls : Files). ls ++ end)
    (m.layers_are ∙ ap (λ (b : Bool). all_files_in b migration.out m.done) with_certs) in
    let here : IsCarriedAt setting migration.out sent.name made (2 * number) =
    subst (λ (t : Files). IsCarriedAt setting migration.out sent.name t (2 * number)) (sym made_is)
    (carried_at setting migration.out sent.name end 0 0 [] migration.layers m.pieces m.done m.used number m.carried
    sent.layer) in
    of_layer m.tin m.way here
  where
    of_layer : (tin : Triangulation) → HasDirected files migration.how migration.tin migration.inverse tin
        → IsCarriedAt (setting_of (Some files) migration.how tin) migration.out sent.name made (2 * number)
        → IsVerified received verification Same ((codes "-", certified_text) ∷ [])
    of_layer tin way here =
        let next = here.next in
        let file = next.file in
        let written_is : sent.written ≡ here.done.carried.text =
        ap (λ (f : List ℕ × List ℕ). f.1) (same_Some (name_in migration.out sent.name, sent.written)
        (file_in migration.out here.done) (sym sent.written_made ∙ here.layer_file)) in
        let cert_is : sent.cert ≡ certificate_of (lists_of here.done.pieces) =
        ap (λ (f : List ℕ × List ℕ). f.1) (same_Some (cert_name_in migration.out sent.name, sent.cert)
        (cert_name_in migration.out here.done.name, certificate_of (lists_of here.done.pieces))
        (sym sent.cert_made ∙ (ap (λ (k : ℕ). slice_get made k) (plus_one (2 * number)) ∙ here.cert_file))) in
        let within_one : here.used + length here.bytes ≤ MOST_BYTES = file.within in
        record {
          tin = tin;
          format = here.done.format;
          source = here.bytes;
          written = sent.written;
          cert = sent.cert;
          at_hand = record {
            way = way_moved files received migration.how verification.how migration.tin verification.tin
                migration.inverse verification.inverse tin sent.how sent.inverse sent.tin way;
            suffix = sent.format ∙ file.suffix;
            texts = record {
              source_is = record {
                found = sent.source ∙ file.found;
                within = rest_within here.used (length here.bytes) MOST_BYTES within_one;
              };
              written_is = sent.written_is;
              cert_is = sent.cert_is;
            };
          };
          certified =
              subst (λ (h : How). IsCertifiedAs h tin here.done.format here.bytes sent.written sent.cert) (sym sent.how)
              (subst (λ (w : List ℕ). IsCertifiedAs migration.how tin here.done.format here.bytes w sent.cert)
              (sym written_is)
              (subst (λ (t : List ℕ). IsCertifiedAs migration.how tin here.done.format here.bytes
              here.done.carried.text t) (sym cert_is)
              (certified_here rightly migration.how tin here.done.format here.bytes here.number here.before here.after
              here.done.pieces here.done.carried
              (limits_here within files migration.how migration.tin migration.inverse tin way)
              (way_sound files migration.how migration.tin migration.inverse tin way) next.carried next.own)));
          status_is = refl;
          made_is = refl;
        }
