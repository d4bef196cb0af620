-- A verification whose source has a format ends.
use Rattle.std.proofs.Common.{◌≡◌, ◌⊎◌, inl, inr, ℕ, ◌<◌, ◌≤◌, true, List, [], ◌∷◌, length, Option, None, Some, refl}
use Rattle.std.proofs.Common.{Result, Ok, Err, codes}
use Rattle.std.specs.Prelude.{is_some}
use Rattle.std.proofs.lemmas.Bool.{cases_lt}
use Rattle.shelf_io.specs.Files.{Files, bytes_of}
use Rattle.tin_base.specs.Triangulation.{Triangulation}
use Rattle.tin_base.specs.Soundness.{IsSound}
use Rattle.cert_check.specs.declared.faults.CertFault.{CertFault}
use Rattle.cert_check.specs.declared.faults.CertFault.TheVariants as certs
use Rattle.cert_check.specs.Laws.{IsCertEnd, CertificateEndExists}
use Rattle.job_words.specs.declared.formats.Format.{Format}
use Rattle.job_words.specs.declared.formats.Format.TheVariants.{Wkt, GeoJson, Drawing}
use Rattle.job_words.specs.Formats.{format_by_name}
use Rattle.job_words.specs.JobFields.{HasFormat}
use Rattle.layer_formats.specs.LayerTexts.{reads_of, refuses_of, text_of}
use Rattle.runs.specs.declared.loads.TheConstants.{MOST_BYTES, MOST_VERIFIED}
use Rattle.runs.specs.declared.status.Status.{Status}
use Rattle.runs.specs.declared.status.Status.TheVariants.{Same}
use Rattle.runs.specs.declared.refusal.Refusal.{Refusal}
use Rattle.runs.specs.declared.refusal.Refusal.TheVariants.{LayerUnread, LayersLong}
use Rattle.runs.specs.declared.refusal.Refusal.TheVariants.{Layer, WrittenUnread, WrittenLong, CertUnread, CertLong}
use Rattle.runs.specs.declared.refusal.Refusal.TheVariants.{Certificate}
use Rattle.runs.specs.Triangulations.{directed_tin}
use Rattle.runs.specs.Laws.{IsTinEnd, TinEndExists}
use Rattle.runs.proofs.OneTin.{sound_of, sound_way}
use Rattle.verify_mode.specs.declared.verifications.Verification.{Verification}
use Rattle.verify_mode.specs.Files.{HasWay, IsFileWithin, IsWrittenReached, IsCertReached}
use Rattle.verify_mode.specs.Verifications.{IsAtHand, certified_text}
use Rattle.verify_mode.specs.Laws.{IsVerificationEnd, VerificationExists}
use Rattle.verify_mode.proofs.VerificationSteps.{of_tin}

-- the check of a certificate of each format ends
abbrev pub EndsExist : Type 0
EndsExist = (format : Format) → CertificateEndExists (reads_of format) (refuses_of format) (text_of format)

pub ends_exist : CertificateEndExists (reads_of Wkt) (refuses_of Wkt) (text_of Wkt)
    → CertificateEndExists (reads_of GeoJson) (refuses_of GeoJson) (text_of GeoJson)
    → CertificateEndExists (reads_of Drawing) (refuses_of Drawing) (text_of Drawing) → EndsExist
ends_exist wkt geojson drawings Wkt = wkt
ends_exist wkt geojson drawings GeoJson = geojson
ends_exist wkt geojson drawings Drawing = drawings

abbrev HasEnd : Files → Verification → Type 0
HasEnd files verification = (end : Result (Status × Files) Refusal) × IsVerificationEnd files verification end

-- a file is missing, too long, or has these bytes
file_or : (files : Files) (name : List ℕ) (most : ℕ) (E : Type 0)
    → (bytes_of files name ≡ None → E)
    → ((bytes : List ℕ) → bytes_of files name ≡ Some bytes → most < length bytes → E)
    → ((bytes : List ℕ) → IsFileWithin files name most bytes → E) → E
file_or files name most E none long within = by (bytes_of files name) refl
  where
    by_length : (bytes : List ℕ) → bytes_of files name ≡ Some bytes
        → (most < length bytes) ⊎ (length bytes ≤ most) → E
    by_length bytes found (inl many) = long bytes found many
    by_length bytes found (inr few) = within bytes (record { found = found; within = few })

    by : (found : Option (List ℕ)) → bytes_of files name ≡ found → E
    by None is = none is
    by (Some bytes) is = by_length bytes is (cases_lt most (length bytes))

-- all three files are at hand
compared : (files : Files) (verification : Verification) (tin : Triangulation) (format : Format)
    (source written cert : List ℕ) → IsAtHand files verification tin format source written cert
    → (check : Result (Unit {0}) CertFault)
    → IsCertEnd tin source written (reads_of format verification.how source) (refuses_of format verification.how source)
    (text_of format source verification.how) cert check → HasEnd files verification
compared files verification tin format source written cert at_hand (Ok done) is = (
  Ok (Same, (codes "-", certified_text) ∷ []),
  record {
    tin = tin;
    format = format;
    source = source;
    written = written;
    cert = cert;
    at_hand = at_hand;
    certified = is;
    status_is = refl;
    made_is = refl;
  },
)
compared files verification tin format source written cert at_hand (Err (certs.Layer fault)) is = (
  Err (Layer 0 fault),
  (
    refl,
    record {
      tin = tin;
      format = format;
      source = source;
      written = written;
      cert = cert;
      at_hand = at_hand;
      cause = is.0;
    },
  ),
)
compared files verification tin format source written cert at_hand (Err certs.NoMemory) is = absurd (is.1 refl)
compared files verification tin format source written cert at_hand (Err (certs.Form line)) is = (
  Err (Certificate (certs.Form line)),
  (
    tt,
    record {
      tin = tin;
      format = format;
      source = source;
      written = written;
      cert = cert;
      at_hand = at_hand;
      cause = is.0;
    },
  ),
)
compared files verification tin format source written cert at_hand (Err (certs.Count segments lines)) is = (
  Err (Certificate (certs.Count segments lines)),
  (
    tt,
    record {
      tin = tin;
      format = format;
      source = source;
      written = written;
      cert = cert;
      at_hand = at_hand;
      cause = is.0;
    },
  ),
)
compared files verification tin format source written cert at_hand (Err (certs.Segment path number)) is = (
  Err (Certificate (certs.Segment path number)),
  (
    tt,
    record {
      tin = tin;
      format = format;
      source = source;
      written = written;
      cert = cert;
      at_hand = at_hand;
      cause = is.0;
    },
  ),
)
compared files verification tin format source written cert at_hand (Err (certs.Differs place)) is = (
  Err (Certificate (certs.Differs place)),
  (
    tt,
    record {
      tin = tin;
      format = format;
      source = source;
      written = written;
      cert = cert;
      at_hand = at_hand;
      cause = is.0;
    },
  ),
)

module _ (ends : EndsExist) (files : Files) (verification : Verification) where
  with_format : (tin : Triangulation) → HasWay files verification tin → IsSound tin → (format : Format)
      → format_by_name verification.source ≡ Some format → HasEnd files verification
  with_format tin way sound format suffix =
      file_or files verification.source MOST_BYTES (HasEnd files verification)
      (λ none. (Err (LayerUnread 0), (refl, (tin, way), none)))
      (λ source found many. (Err LayersLong, ((tin, way), (source, found, many))))
      (λ source source_is.
      let source_at : IsWrittenReached (Some files) verification = record {
        reached = (tin, way);
        source = source;
        source_is = source_is;
      } in
      file_or files verification.written MOST_VERIFIED (HasEnd files verification)
      (λ none. (Err WrittenUnread, (source_at, none)))
      (λ written found many. (Err WrittenLong, (source_at, (written, found, many))))
      (λ written written_is.
      let written_at : IsCertReached (Some files) verification = record {
        reached = source_at;
        written = written;
        written_is = written_is;
      } in
      file_or files verification.cert MOST_VERIFIED (HasEnd files verification)
      (λ none. (Err CertUnread, (written_at, none)))
      (λ cert found many. (Err CertLong, (written_at, (cert, found, many))))
      (λ cert cert_is.
      let (check, is) = ends format verification.how tin source written cert sound in
      compared files verification tin format source written cert
      (record {
        way = way;
        suffix = suffix;
        texts = record { source_is = source_is; written_is = written_is; cert_is = cert_is };
      }) check is)))

  by_format : (tin : Triangulation) → HasWay files verification tin → IsSound tin → (format : Option Format)
      → format_by_name verification.source ≡ format → is_some format ≡ true → HasEnd files verification
  by_format tin way sound None suffix is = absurd (cc)
  by_format tin way sound (Some format) suffix is = with_format tin way sound format suffix

  by_tin : HasFormat verification.source → (end : Result Triangulation Refusal)
      → IsTinEnd files verification.how verification.tin end → HasEnd files verification
  by_tin has (Err refusal) is = (Err refusal, of_tin (Some files) verification refusal is)
  by_tin has (Ok stood) is =
      by_format (directed_tin verification.inverse stood) (stood, is, refl)
      (sound_way verification.inverse stood (sound_of files verification.how verification.tin stood is))
      (format_by_name verification.source) refl has

pub verification_exists : EndsExist → TinEndExists → VerificationExists
verification_exists ends tins files verification has =
    let (end, is) = tins files verification.how verification.tin in by_tin ends files verification has end is
