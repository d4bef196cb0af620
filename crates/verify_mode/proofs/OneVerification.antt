-- A verification ends in one way.
use Rattle.std.proofs.Common.{◌≡◌, ◌≢◌, ℕ, ◌<◌, ◌≤◌, List, [], ◌∷◌, length, None, Some, Result, Ok}
use Rattle.std.proofs.Common.{Err, refl, sym, ◌∙◌, ap, ap₂, subst, arith}
use Rattle.std.specs.Prelude.{codes}
use Rattle.std.proofs.lemmas.Option.{none-some, same_Some}
use Rattle.shelf_io.specs.Files.{Files, bytes_of}
use Rattle.shelf_io.specs.Load.{IsLonger}
use Rattle.tin_base.specs.Triangulation.{Triangulation}
use Rattle.tin_base.specs.Soundness.{IsSound}
use Rattle.cert_check.specs.declared.faults.CertFault.{CertFault}
use Rattle.cert_check.specs.declared.faults.CertFault.TheVariants as certs
use Rattle.cert_check.specs.Laws.{IsCertEnd, CertificatesEndOnce}
use Rattle.job_words.specs.declared.formats.Format.{Format}
use Rattle.job_words.specs.Formats.{format_by_name}
use Rattle.layer_formats.specs.LayerOutcomes.{IsLayerText, LacksLayerText}
use Rattle.layer_formats.specs.LayerTexts.{reads_of, refuses_of, text_of}
use Rattle.job_words.specs.declared.formats.Format.TheVariants.{Wkt, GeoJson, Drawing}
use Rattle.runs.specs.declared.loads.TheConstants.{MOST_BYTES, MOST_VERIFIED}
use Rattle.runs.specs.declared.status.Status.{Status}
use Rattle.runs.specs.declared.status.Status.TheVariants.{Same}
use Rattle.runs.specs.declared.refusal.Refusal.{Refusal}
use Rattle.runs.specs.declared.refusal.Refusal.TheVariants.{Words, TinUnread, TinLong, Tin, Check, LayerUnread}
use Rattle.runs.specs.declared.refusal.Refusal.TheVariants.{LayersLong, Layer, Outside, TooManyPieces, TooManyChanges}
use Rattle.runs.specs.declared.refusal.Refusal.TheVariants.{TooManySides}
use Rattle.runs.specs.declared.refusal.Refusal.TheVariants.{WrittenUnread, WrittenLong, CertUnread, CertLong}
use Rattle.runs.specs.declared.refusal.Refusal.TheVariants.{Certificate, NoMemory}
use Rattle.runs.specs.Triangulations.{directed_tin, IsTinRefused}
use Rattle.runs.specs.Laws.{IsTinEnd, TinEndIsOne}
use Rattle.runs.proofs.OneTin.{sound_of, sound_way}
use Rattle.verify_mode.specs.declared.verifications.Verification.{Verification}
use Rattle.verify_mode.specs.Files.{HasWay, IsFileWithin, IsWrittenReached, IsCertReached, HaveTexts}
use Rattle.verify_mode.specs.Certificates.{of_certificate, IsOfCertificate}
use Rattle.verify_mode.specs.Verifications.{IsStoppedBy, IsVerificationRefused, certified_text, IsVerified}
use Rattle.verify_mode.specs.Laws.{IsVerificationEnd, VerificationIsOne}

-- the check of a certificate of each format ends in one way
abbrev EndOnce : Type 0
EndOnce = (format : Format) → CertificatesEndOnce (reads_of format) (refuses_of format) (text_of format)

end_once : CertificatesEndOnce (reads_of Wkt) (refuses_of Wkt) (text_of Wkt)
    → CertificatesEndOnce (reads_of GeoJson) (refuses_of GeoJson) (text_of GeoJson)
    → CertificatesEndOnce (reads_of Drawing) (refuses_of Drawing) (text_of Drawing) → EndOnce
end_once wkt geojson drawings Wkt = wkt
end_once wkt geojson drawings GeoJson = geojson
end_once wkt geojson drawings Drawing = drawings

abbrev End : Type 0
End = Result (Status × Files) Refusal

-- ---- a file is missing, too long, or has these bytes
data IsFileEnd (files : Files) (name : List ℕ) (most : ℕ) (none long : Refusal) (next : List ℕ → Type 0)
    (end : End) : Type 0 where
  missing_end : end ≡ Err none → bytes_of files name ≡ None → IsFileEnd files name most none long next end
  long_end : end ≡ Err long → IsLonger name most files → IsFileEnd files name most none long next end
  within_end : (bytes : List ℕ) → IsFileWithin files name most bytes → next bytes
      → IsFileEnd files name most none long next end

over : (most n : ℕ) → most < n → n ≤ most → ⊥
over most n h k = omega (arith, h, k)

long_or_within : (files : Files) (name bytes : List ℕ) (most : ℕ) → IsLonger name most files
    → IsFileWithin files name most bytes → ⊥
long_or_within files name bytes most (other, found, many) is =
    over most (length bytes) (subst (λ (t : List ℕ). most < length t) (same_Some other bytes (sym found ∙ is.found))
    many) is.within

file_end_one : (files : Files) (name : List ℕ) (most : ℕ) (none long : Refusal) (next also : List ℕ → Type 0)
    (a b : End) → ((bytes : List ℕ) → next bytes → also bytes → a ≡ b) → IsFileEnd files name most none long next a
    → IsFileEnd files name most none long also b → a ≡ b
file_end_one files name most none long next also a b on (missing_end is x) (missing_end too y) = is ∙ sym too
file_end_one files name most none long next also a b on (missing_end is x) (long_end too (bytes, found, many)) =
    absurd (none-some bytes (sym x ∙ found))
file_end_one files name most none long next also a b on (missing_end is x) (within_end bytes y end) =
    absurd (none-some bytes (sym x ∙ y.found))
file_end_one files name most none long next also a b on (long_end is (bytes, found, many)) (missing_end too y) =
    absurd (none-some bytes (sym y ∙ found))
file_end_one files name most none long next also a b on (long_end is x) (long_end too y) = is ∙ sym too
file_end_one files name most none long next also a b on (long_end is x) (within_end bytes y end) =
    absurd (long_or_within files name bytes most x y)
file_end_one files name most none long next also a b on (within_end bytes x end) (missing_end too y) =
    absurd (none-some bytes (sym y ∙ x.found))
file_end_one files name most none long next also a b on (within_end bytes x end) (long_end too y) =
    absurd (long_or_within files name bytes most y x)
file_end_one files name most none long next also a b on (within_end bytes x end) (within_end other y ends) =
    on other (subst next (same_Some bytes other (sym x.found ∙ y.found)) end) ends

-- ---- the certificate
abbrev end_as : Result (Unit {0}) CertFault → End
end_as (Ok done) = Ok (Same, (codes "-", certified_text) ∷ [])
end_as (Err fault) = Err (of_certificate fault)

record IsComparedEnd (verification : Verification) (tin : Triangulation) (source written cert : List ℕ)
    (end : End) : Type 0 where
  format : Format
  suffix : format_by_name verification.source ≡ Some format
  check : Result (Unit {0}) CertFault
  checked : IsCertEnd tin source written (IsLayerText verification.how format source)
      (LacksLayerText verification.how format source) (text_of format source verification.how) cert check
  end_is : end ≡ end_as check

abbrev IsCertFileEnd : Files → Verification → Triangulation → List ℕ → List ℕ → End → Type 0
IsCertFileEnd files verification tin source written end =
    IsFileEnd files verification.cert MOST_VERIFIED CertUnread CertLong
    (λ cert. IsComparedEnd verification tin source written cert end) end

abbrev IsWrittenFileEnd : Files → Verification → Triangulation → List ℕ → End → Type 0
IsWrittenFileEnd files verification tin source end =
    IsFileEnd files verification.written MOST_VERIFIED WrittenUnread WrittenLong
    (λ written. IsCertFileEnd files verification tin source written end) end

abbrev IsSourceFileEnd : Files → Verification → Triangulation → End → Type 0
IsSourceFileEnd files verification tin end =
    IsFileEnd files verification.source MOST_BYTES (LayerUnread 0) LayersLong
    (λ source. IsWrittenFileEnd files verification tin source end) end

data IsPath (files : Files) (verification : Verification) (end : End) : Type 0 where
  tin_end : (refusal : Refusal) → end ≡ Err refusal → IsTinRefused files verification.how verification.tin refusal
      → IsPath files verification end
  way_end : (stood tin : Triangulation) → IsTinEnd files verification.how verification.tin (Ok stood)
      → tin ≡ directed_tin verification.inverse stood → IsSourceFileEnd files verification tin end
      → IsPath files verification end

module _ (checks : EndOnce) (tins : TinEndIsOne) (files : Files) (verification : Verification) where
  compared_one : (tin : Triangulation) (sound : IsSound tin) (source written cert : List ℕ) (a b : End)
      → IsComparedEnd verification tin source written cert a → IsComparedEnd verification tin source written cert b
      → a ≡ b
  compared_one tin sound source written cert a b x y =
      let same : x.format ≡ y.format = same_Some x.format y.format (sym x.suffix ∙ y.suffix) in
      let moved = subst (λ (f : Format). IsCertEnd tin source written (IsLayerText verification.how f source)
      (LacksLayerText verification.how f source) (text_of f source verification.how) cert x.check) same x.checked in
      let one = checks y.format verification.how tin source written cert sound x.check y.check moved y.checked in
      x.end_is ∙ (ap end_as one ∙ sym y.end_is)

  source_end_one : (tin : Triangulation) (sound : IsSound tin) (a b : End) → IsSourceFileEnd files verification tin a
      → IsSourceFileEnd files verification tin b → a ≡ b
  source_end_one tin sound a b x y =
      file_end_one files verification.source MOST_BYTES (LayerUnread 0) LayersLong
      (λ s. IsWrittenFileEnd files verification tin s a) (λ s. IsWrittenFileEnd files verification tin s b) a b
      (λ source. file_end_one files verification.written MOST_VERIFIED WrittenUnread WrittenLong
      (λ w. IsCertFileEnd files verification tin source w a) (λ w. IsCertFileEnd files verification tin source w b)
      a b
      (λ written. file_end_one files verification.cert MOST_VERIFIED CertUnread CertLong
      (λ c. IsComparedEnd verification tin source written c a)
      (λ c. IsComparedEnd verification tin source written c b) a b
      (λ cert. compared_one tin sound source written cert a b))) x y

  path_one : (a b : End) → IsPath files verification a → IsPath files verification b → a ≡ b
  path_one a b (tin_end refusal is x) (tin_end other also y) =
      let e = tins files verification.how verification.tin (Err refusal) (Err other) x y in
      let same : refusal ≡ other = cc in
      is ∙ (ap Err same ∙ sym also)
  path_one a b (tin_end refusal is x) (way_end stood tin y turned end) = let e =
      tins files verification.how verification.tin (Err refusal) (Ok stood) x y in cc
  path_one a b (way_end stood tin x turned end) (tin_end refusal is y) = let e =
      tins files verification.how verification.tin (Ok stood) (Err refusal) x y in cc
  path_one a b (way_end stood tin x turned end) (way_end other way y turned' also) =
      let e = tins files verification.how verification.tin (Ok stood) (Ok other) x y in
      let stands : stood ≡ other = cc in
      let same : tin ≡ way = turned ∙ (ap (λ (t : Triangulation). directed_tin verification.inverse t) stands
      ∙ sym turned') in
      let sound : IsSound way = subst (λ (t : Triangulation). IsSound t) (sym turned')
      (sound_way verification.inverse other (sound_of files verification.how verification.tin other y)) in
      source_end_one way sound a b (subst (λ (t : Triangulation). IsSourceFileEnd files verification t a) same end) also

  -- ---- the ends are such
  with_way : (end : End) (tin : Triangulation) → HasWay files verification tin
      → IsSourceFileEnd files verification tin end → IsPath files verification end
  with_way end tin (stood, ready, turned) is = way_end stood tin ready turned is

  written_path : (end : End) (reached : IsWrittenReached (Some files) verification)
      → ((tin : Triangulation) → IsWrittenFileEnd files verification tin reached.source end)
      → IsPath files verification end
  written_path end reached is =
      let (tin, way) = reached.reached in
      with_way end tin way (within_end reached.source reached.source_is (is tin))

  cert_path : (end : End) (reached : IsCertReached (Some files) verification)
      → ((tin : Triangulation) (source : List ℕ) → IsCertFileEnd files verification tin source reached.written end)
      → IsPath files verification end
  cert_path end reached is = let before = reached.reached in written_path end before
      (λ tin. within_end reached.written reached.written_is (is tin before.source))

  compared_path : (end : End) (tin : Triangulation) (source written cert : List ℕ) → HasWay files verification tin
      → HaveTexts files verification source written cert → IsComparedEnd verification tin source written cert end
      → IsPath files verification end
  compared_path end tin source written cert way texts is =
      with_way end tin way (within_end source texts.source_is
      (within_end written texts.written_is (within_end cert texts.cert_is is)))

  not_memory : (fault : CertFault) → IsOfCertificate fault
      → (fault ≢ certs.NoMemory) × (of_certificate fault ≡ Certificate fault)
  not_memory (certs.Layer fault) of = absurd of
  not_memory (certs.Form line) of = (λ e. cc, refl)
  not_memory (certs.Count segments lines) of = (λ e. cc, refl)
  not_memory (certs.Segment path segment) of = (λ e. cc, refl)
  not_memory (certs.Differs at) of = (λ e. cc, refl)
  not_memory certs.NoMemory of = absurd of

  stopped_path : (end : End) (fault : CertFault) → fault ≢ certs.NoMemory → end ≡ Err (of_certificate fault)
      → IsStoppedBy (Some files) verification fault → IsPath files verification end
  stopped_path end fault unlike is stop =
      let hand = stop.at_hand in
      compared_path end stop.tin stop.source stop.written stop.cert hand.way hand.texts
      (record {
        format = stop.format;
        suffix = hand.suffix;
        check = Err fault;
        checked = (stop.cause, unlike);
        end_is =
            is;
      })

  refused_path : (refusal : Refusal) → IsVerificationRefused files verification refusal
      → IsPath files verification (Err refusal)
  refused_path (Words fault) why = absurd why
  refused_path TinUnread why = tin_end TinUnread refl why
  refused_path TinLong why = tin_end TinLong refl why
  refused_path (Tin fault) why = tin_end (Tin fault) refl why
  refused_path (Check fault) why = tin_end (Check fault) refl why
  refused_path (LayerUnread layer) (same, (tin, way), none) =
      with_way _ tin way (missing_end (ap (λ n. Err (LayerUnread n)) same) none)
  refused_path LayersLong ((tin, way), long) = with_way _ tin way (long_end refl long)
  refused_path (Layer layer fault) (same, stop) =
      stopped_path _ (certs.Layer fault) (λ e. cc) (ap (λ n. Err (Layer n fault)) same) stop
  refused_path (Outside layer path segment) why = absurd why
  refused_path TooManyPieces why = absurd why
  refused_path TooManyChanges why = absurd why
  refused_path TooManySides why = absurd why
  refused_path WrittenUnread (reached, none) = written_path _ reached (λ tin. missing_end refl none)
  refused_path WrittenLong (reached, long) = written_path _ reached (λ tin. long_end refl long)
  refused_path CertUnread (reached, none) = cert_path _ reached (λ tin source. missing_end refl none)
  refused_path CertLong (reached, long) = cert_path _ reached (λ tin source. long_end refl long)
  refused_path (Certificate fault) (of, stop) = let other =
      not_memory fault of in stopped_path _ fault other.0 (ap Err (sym other.1)) stop
  refused_path NoMemory why = absurd why

  verified_path : (status : Status) (made : Files) → IsVerified files verification status made
      → IsPath files verification (Ok (status, made))
  verified_path status made is =
      let hand = is.at_hand in
      compared_path (Ok (status, made)) is.tin is.source is.written is.cert hand.way hand.texts
      (record {
        format = is.format;
        suffix = hand.suffix;
        check = Ok tt;
        checked = is.certified;
        end_is =
            ap Ok (ap₂ (λ (s : Status) (m : Files). (s, m)) is.status_is is.made_is);
      })

  verification_path : (end : End) → IsVerificationEnd files verification end → IsPath files verification end
  verification_path (Ok (status, made)) is = verified_path status made is
  verification_path (Err refusal) is = refused_path refusal is

pub verification_one : CertificatesEndOnce (reads_of Wkt) (refuses_of Wkt) (text_of Wkt)
    → CertificatesEndOnce (reads_of GeoJson) (refuses_of GeoJson) (text_of GeoJson)
    → CertificatesEndOnce (reads_of Drawing) (refuses_of Drawing) (text_of Drawing) → TinEndIsOne → VerificationIsOne
verification_one wkt geojson drawings tins files verification a b x y =
    let checks = end_once wkt geojson drawings in
    path_one checks tins files verification a b (verification_path checks tins files verification a x)
    (verification_path checks tins files verification b y)
