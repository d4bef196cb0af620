-- What is so of a verification after each of its steps.
use Rattle.std.proofs.Common.{◌≡◌, ◌≢◌, ◌⊎◌, inl, inr, ℕ, ◌≤◌, length, List, [], ◌∷◌, Option}
use Rattle.std.proofs.Common.{None, Some, IfSome, refl, sym, ◌∙◌, ap, ap₂, subst, map, ◌++◌}
use Rattle.std.specs.Prelude.{codes, OnOk, Result, Ok, Err}
use Rattle.shelf_io.specs.Files.{Files}
use Rattle.shelf_io.specs.Load.{Loads, LacksName, IsLonger}
use Rattle.sheet_base.specs.declared.edits.Edit.{Edit}
use Rattle.sheet_base.specs.declared.faults.LayerFault.{LayerFault}
use Rattle.sheet_base.specs.Sheets.{Contents}
use Rattle.sheet_base.specs.ImageFits.{Runs}
use Rattle.tin_base.specs.Triangulation.{Triangulation}
use Rattle.cert_check.specs.declared.faults.CertFault.{CertFault}
use Rattle.cert_check.specs.declared.faults.CertFault.TheVariants as certs
use Rattle.cert_check.specs.Checks.{IsCertCause}
use Rattle.job_words.specs.declared.formats.Format.{Format}
use Rattle.job_words.specs.Formats.{format_by_name}
use Rattle.layer_formats.specs.LayerTexts.{text_of}
use Rattle.layer_formats.specs.LayerOutcomes.{IsLayerText, LacksLayerText}
use Rattle.runs.specs.declared.loads.TheConstants.{MOST_BYTES, MOST_VERIFIED}
use Rattle.runs.specs.declared.status.Status.{Status}
use Rattle.runs.specs.declared.status.Status.TheVariants.{Same, Words as WordsStatus, Layer as LayerStatus}
use Rattle.runs.specs.declared.status.Status.TheVariants.{Read as ReadStatus, Limit as LimitStatus, Memory, Uncertified}
use Rattle.runs.specs.declared.refusal.Refusal.{Refusal}
use Rattle.runs.specs.declared.refusal.Refusal.TheVariants.{Words, TinUnread, TinLong, Tin, Check, LayerUnread}
use Rattle.runs.specs.declared.refusal.Refusal.TheVariants.{LayersLong, Layer, Outside, TooManyPieces, TooManyChanges}
use Rattle.runs.specs.declared.refusal.Refusal.TheVariants.{TooManySides}
use Rattle.runs.specs.declared.refusal.Refusal.TheVariants.{WrittenUnread, WrittenLong, CertUnread, CertLong}
use Rattle.runs.specs.declared.refusal.Refusal.TheVariants.{Certificate, NoMemory}
use Rattle.runs.specs.declared.output.RunOutput.{RunOutput}
use Rattle.runs.specs.Status.{end_of}
use Rattle.runs.specs.Output.{file_of, files_of, HasForm}
use Rattle.runs.specs.Refusals.{status_of}
use Rattle.sheet_base.specs.declared.flags.How.{How}
use Rattle.runs.specs.Triangulations.{IsTinRefusedOver, IsTextRefused}
use Rattle.runs.specs.Counts.{ShelfCounts, HasFailed, HasGivenMore}
use Rattle.runs.specs.Causes.{by_the_files, unread, no_room, HasCauses}
use Rattle.runs.specs.Loads.{IsUnloaded, missing, read_failed, too_long, no_memory, IsTinUnready, not_loaded, no_tin}
use Rattle.runs.proofs.Faults.{unread_layer, layer_without_room, of_layer}
use Rattle.runs.proofs.Faults.{IsOfTin, refused_tin, limited_tin, tin_without_room}
use Rattle.runs.proofs.TinCauses.{fault_causes, check_causes}
use Rattle.runs.proofs.TinRefusals.{without_file, without_read, without_room, unready}
use Rattle.verify_mode.specs.declared.verifications.Verification.{Verification}
use Rattle.verify_mode.specs.Files.{HasWayOver, IsFileWithinOver, HaveTextsOver, AreUnloaded, no_source, no_written}
use Rattle.verify_mode.specs.Files.{no_cert}
use Rattle.verify_mode.specs.Files.{IsWrittenReached, IsCertReached, LacksCompared}
use Rattle.verify_mode.specs.Certificates.{IsCertifiedAs, IsCauseIn, of_certificate, IsOfCertificate, IsUncertifiedAs}
use Rattle.verify_mode.specs.Certificates.{IsUncertified}
use Rattle.verify_mode.specs.Verifications.{IsStoppedBy, IsVerificationRefusedOver, IsComparedByOver}
use Rattle.verify_mode.specs.Verifications.{MayRefuseVerificationOver}
use Rattle.verify_mode.specs.Verifications.{certified_text, IsVerified, IsVerificationWritten, IsEndOfVerification}
use Rattle.verify_mode.specs.Verifications.{AreCertified}

-- ---- the causes that are known of a refusal
-- what is passed where a file has too many bytes: more by a written layer and by a certificate
abbrev passed_of : ShelfCounts → Refusal → Type 0
passed_of counts WrittenLong = HasGivenMore MOST_VERIFIED counts
passed_of counts CertLong = HasGivenMore MOST_VERIFIED counts
passed_of counts refusal = HasGivenMore MOST_BYTES counts

module _ (lacks : Type 0) (counts : ShelfCounts) (refusal : Refusal) where
  read_causes : status_of refusal ≡ ReadStatus → HasFailed counts ⊎ lacks
      → HasCauses lacks IsEndOfVerification counts refusal
  read_causes is why = record {
    understood = λ e. let f = sym is ∙ e in cc;
    read = λ e. why;
    tin_long = λ e. let f = sym is ∙ ap status_of e in cc;
    layers_long = λ e. let f = sym is ∙ ap status_of e in cc;
    written_long = λ e. let f = sym is ∙ ap status_of e in cc;
    cert_long = λ e. let f = sym is ∙ ap status_of e in cc;
    may_end = subst IsEndOfVerification (sym is) tt;
  }

  limit_causes : status_of refusal ≡ LimitStatus → passed_of counts refusal
      → HasCauses lacks IsEndOfVerification counts refusal
  limit_causes is many = record {
    understood = λ e. let f = sym is ∙ e in cc;
    read = λ e. let f = sym is ∙ e in cc;
    tin_long = λ e. subst (λ (r : Refusal). passed_of counts r) e many;
    layers_long = λ e. subst (λ (r : Refusal). passed_of counts r) e many;
    written_long = λ e. subst (λ (r : Refusal). passed_of counts r) e many;
    cert_long = λ e. subst (λ (r : Refusal). passed_of counts r) e many;
    may_end = subst IsEndOfVerification (sym is) tt;
  }

  -- of the other statuses
  other_causes : (status : Status) → status_of refusal ≡ status → status ≢ WordsStatus → status ≢ ReadStatus
      → status ≢ LimitStatus → IsEndOfVerification status
      → HasCauses lacks IsEndOfVerification counts refusal
  other_causes status is words read limit may_end = record {
    understood = λ e. words (sym is ∙ e);
    read = λ e. absurd (read (sym is ∙ e));
    tin_long = λ e. absurd (limit (sym is ∙ ap status_of e));
    layers_long = λ e. absurd (limit (sym is ∙ ap status_of e));
    written_long = λ e. absurd (limit (sym is ∙ ap status_of e));
    cert_long = λ e. absurd (limit (sym is ∙ ap status_of e));
    may_end = subst IsEndOfVerification (sym is) may_end;
  }

  memory_causes : status_of refusal ≡ Memory → HasCauses lacks IsEndOfVerification counts refusal
  memory_causes is = other_causes Memory is (λ e. cc) (λ e. cc) (λ e. cc) tt

  unloaded_causes : (told : Option Files) (name : List ℕ) (most : ℕ) (absent long : Refusal)
      → status_of absent ≡ ReadStatus → status_of long ≡ LimitStatus → (LacksName told name → lacks)
      → IsUnloaded told name most absent long (HasFailed counts) (passed_of counts long) refusal
      → HasCauses lacks IsEndOfVerification counts refusal
  unloaded_causes told name most absent long reads limits wants (missing is none) =
      read_causes (ap status_of is ∙ reads) (inr (wants none))
  unloaded_causes told name most absent long reads limits wants (read_failed is rises) =
      read_causes (ap status_of is ∙ reads) (inl rises)
  unloaded_causes told name most absent long reads limits wants (too_long is over many) =
      limit_causes (ap status_of is ∙ limits) (subst (λ (r : Refusal). passed_of counts r) (sym is) many)
  unloaded_causes told name most absent long reads limits wants (no_memory is) = memory_causes (ap status_of is)

-- of the files
pub files_causes : (told : Option Files) (verification : Verification) (counts : ShelfCounts) (refusal : Refusal)
    → AreUnloaded told verification counts refusal
    → HasCauses (LacksCompared verification told) IsEndOfVerification counts refusal
files_causes told verification counts refusal (no_source is) =
    unloaded_causes (LacksCompared verification told) counts refusal told verification.source MOST_BYTES
    (LayerUnread 0) LayersLong refl refl (λ none. inr (inl none)) is
files_causes told verification counts refusal (no_written source has is) =
    unloaded_causes (LacksCompared verification told) counts refusal told verification.written
    MOST_VERIFIED
    WrittenUnread WrittenLong refl refl (λ none. inr (inr (inl none))) is
files_causes told verification counts refusal (no_cert source has written also is) =
    unloaded_causes (LacksCompared verification told) counts refusal told verification.cert MOST_VERIFIED
    CertUnread CertLong refl refl (λ none. inr (inr (inr none))) is

-- of the triangulation
tin_end : (status : Status) → IsOfTin status → IsEndOfVerification status
tin_end status (refused_tin is) = rw is tt
tin_end status (limited_tin is) = rw is tt
tin_end status (tin_without_room is) = rw is tt

text_causes : (lacks : Type 0) (counts : ShelfCounts) (how : How) (text : List ℕ) (refusal : Refusal)
    → IsTextRefused how text refusal → HasCauses lacks IsEndOfVerification counts refusal
text_causes lacks counts how text (Tin fault) why = fault_causes lacks IsEndOfVerification counts tin_end fault
text_causes lacks counts how text (Check fault) why = check_causes lacks IsEndOfVerification counts tin_end fault
text_causes lacks counts how text NoMemory why = memory_causes lacks counts NoMemory refl
text_causes lacks counts how text refusal why = absurd why

pub tin_causes : (told : Option Files) (verification : Verification) (counts : ShelfCounts) (refusal : Refusal)
    → IsTinUnready told verification.how verification.tin (HasFailed counts) (HasGivenMore MOST_BYTES counts) refusal
    → HasCauses (LacksCompared verification told) IsEndOfVerification counts refusal
tin_causes told verification counts refusal (not_loaded is) =
    unloaded_causes (LacksCompared verification told) counts refusal told verification.tin MOST_BYTES
    TinUnread TinLong refl refl (λ none. inl none) is
tin_causes told verification counts refusal (no_tin text file why) =
    text_causes (LacksCompared verification told) counts verification.how text refusal why

-- of the source and the certificate
layer_causes : (lacks : Type 0) (counts : ShelfCounts) (layer : ℕ) (fault : LayerFault)
    → HasCauses lacks IsEndOfVerification counts (Layer layer fault)
layer_causes lacks counts layer fault =
    elim (of_layer fault) [
      | unread_layer is ↦ other_causes lacks counts (Layer layer fault) LayerStatus is (λ e. cc) (λ e. cc)
          (λ e. cc) tt
      | layer_without_room is ↦ memory_causes lacks counts (Layer layer fault) is
    ]

uncertified : (lacks : Type 0) (counts : ShelfCounts) (refusal : Refusal) → status_of refusal ≡ Uncertified
    → HasCauses lacks IsEndOfVerification counts refusal
uncertified lacks counts refusal is =
    other_causes lacks counts refusal Uncertified is (λ e. cc) (λ e. cc) (λ e. cc) tt

cert_fault_causes : (lacks : Type 0) (counts : ShelfCounts) (fault : CertFault) → IsOfCertificate fault
    → HasCauses lacks IsEndOfVerification counts (Certificate fault)
cert_fault_causes lacks counts (certs.Layer fault) of = absurd of
cert_fault_causes lacks counts (certs.Form line) of =
    uncertified lacks counts (Certificate (certs.Form line)) refl
cert_fault_causes lacks counts (certs.Count segments lines) of =
    uncertified lacks counts (Certificate (certs.Count segments lines)) refl
cert_fault_causes lacks counts (certs.Segment path segment) of =
    uncertified lacks counts (Certificate (certs.Segment path segment)) refl
cert_fault_causes lacks counts (certs.Differs at) of =
    uncertified lacks counts (Certificate (certs.Differs at)) refl
cert_fault_causes lacks counts certs.NoMemory of = absurd of

module _ (tin : Triangulation) (source written : List ℕ) (reads : Contents → Type 0) (refuses : LayerFault → Type 0)
    (text : Contents → Runs → Edit → List ℕ) (cert : List ℕ) where
  uncertified_causes : (lacks : Type 0) (counts : ShelfCounts) (refusal : Refusal)
      → IsUncertifiedAs tin source written reads refuses text cert refusal
      → HasCauses lacks IsEndOfVerification counts refusal
  uncertified_causes lacks counts (Layer layer fault) why =
      layer_causes lacks counts layer fault
  uncertified_causes lacks counts (Certificate fault) why =
      cert_fault_causes lacks counts fault why.0
  uncertified_causes lacks counts NoMemory why = memory_causes lacks counts NoMemory refl
  uncertified_causes lacks counts refusal why = absurd why

  -- the refusal of a fault
  pub uncertified_as : (fault : CertFault) → IsCertCause tin source written reads refuses text cert fault
      → IsUncertifiedAs tin source written reads refuses text cert (of_certificate fault)
  uncertified_as (certs.Layer fault) why = (refl, why)
  uncertified_as (certs.Form line) why = (tt, why)
  uncertified_as (certs.Count segments lines) why = (tt, why)
  uncertified_as (certs.Segment path segment) why = (tt, why)
  uncertified_as (certs.Differs at) why = (tt, why)
  uncertified_as certs.NoMemory why = tt

-- of the certificate of a source of a format
pub cert_causes : (how : How) (tin : Triangulation) (format : Format) (source written cert : List ℕ)
    (lacks : Type 0) (counts : ShelfCounts) (refusal : Refusal)
    → IsUncertified how tin format source written cert refusal
    → HasCauses lacks IsEndOfVerification counts refusal
cert_causes how tin format source written cert lacks counts refusal why =
    uncertified_causes tin source written (IsLayerText how format source) (LacksLayerText how format source)
    (text_of format source how) cert lacks counts refusal why

-- the causes, where a fault here is one there and that many bytes here are enough
rose_more : (rose_here rose lacks : Type 0) → (rose_here → rose) → rose_here ⊎ lacks → rose ⊎ lacks
rose_more rose_here rose lacks rises (inl now) = inl (rises now)
rose_more rose_here rose lacks rises (inr none) = inr none

pub causes_more : (lacks : Type 0) (here counts : ShelfCounts) (refusal : Refusal)
    → (HasFailed here → HasFailed counts) → ((most : ℕ) → HasGivenMore most here → HasGivenMore most counts)
    → HasCauses lacks IsEndOfVerification here refusal → HasCauses lacks IsEndOfVerification counts refusal
causes_more lacks here counts refusal rises more has = record {
  understood = has.understood;
  read = λ e. rose_more (HasFailed here) (HasFailed counts) lacks rises (has.read e);
  tin_long = λ e. more MOST_BYTES (has.tin_long e);
  layers_long = λ e. more MOST_BYTES (has.layers_long e);
  written_long = λ e. more MOST_VERIFIED (has.written_long e);
  cert_long = λ e. more MOST_VERIFIED (has.cert_long e);
  may_end = has.may_end;
}

-- ---- what refuses a verification
-- its triangulation
pub of_tin : (told : Option Files) (verification : Verification) (refusal : Refusal)
    → IsTinRefusedOver told verification.how verification.tin refusal → IsVerificationRefusedOver told verification refusal
of_tin told verification (Words fault) why = absurd why
of_tin told verification TinUnread why = why
of_tin told verification TinLong why = why
of_tin told verification (Tin fault) why = why
of_tin told verification (Check fault) why = why
of_tin told verification (LayerUnread layer) why = absurd why
of_tin told verification LayersLong why = absurd why
of_tin told verification (Layer layer fault) why = absurd why
of_tin told verification (Outside layer path segment) why = absurd why
of_tin told verification TooManyPieces why = absurd why
of_tin told verification TooManyChanges why = absurd why
of_tin told verification TooManySides why = absurd why
of_tin told verification WrittenUnread why = absurd why
of_tin told verification WrittenLong why = absurd why
of_tin told verification CertUnread why = absurd why
of_tin told verification CertLong why = absurd why
of_tin told verification (Certificate fault) why = absurd why
of_tin told verification NoMemory why = absurd why

pub tin_refused : (told : Option Files) (verification : Verification) (rose passed : Type 0) (refusal : Refusal)
    → IsTinUnready told verification.how verification.tin rose passed refusal
    → MayRefuseVerificationOver told verification rose refusal
tin_refused told verification rose passed refusal why =
    elim (unready told verification.how verification.tin rose passed refusal why) [
      | without_file is ↦ by_the_files (of_tin told verification refusal is)
      | without_read rises is ↦ unread rises (rw is tt)
      | without_room is ↦ no_room is
    ]

-- a file
unloaded_refused : (told : Option Files) (verification : Verification) (rose_here rose passed : Type 0) (name : List ℕ)
    (most : ℕ) (absent long refusal : Refusal) → (rose_here → rose)
    → (LacksName told name → IsVerificationRefusedOver told verification absent)
    → (IfSome told (IsLonger name most) → IsVerificationRefusedOver told verification long)
    → IsComparedByOver told verification absent
    → IsUnloaded told name most absent long rose_here passed refusal
    → MayRefuseVerificationOver told verification rose refusal
unloaded_refused told verification rose_here rose passed name most absent long refusal rises none many reached
    (missing is lacks) =
    subst (λ (r : Refusal). MayRefuseVerificationOver told verification rose r) (sym is) (by_the_files (none lacks))
unloaded_refused told verification rose_here rose passed name most absent long refusal rises none many reached
    (read_failed is now) = unread (rises now)
    (subst (λ (r : Refusal). IsComparedByOver told verification r) (sym is) reached)
unloaded_refused told verification rose_here rose passed name most absent long refusal rises none many reached
    (too_long is over given) =
    subst (λ (r : Refusal). MayRefuseVerificationOver told verification rose r) (sym is) (by_the_files (many over))
unloaded_refused told verification rose_here rose passed name most absent long refusal rises none many reached
    (no_memory is) = no_room (ap status_of is)

pub files_refused : (told : Option Files) (verification : Verification) (tin : Triangulation) (counts : ShelfCounts)
    (rose : Type 0) (refusal : Refusal) → HasWayOver told verification tin → (HasFailed counts → rose)
    → AreUnloaded told verification counts refusal → MayRefuseVerificationOver told verification rose refusal
files_refused told verification tin counts rose refusal way rises (no_source is) =
    unloaded_refused told verification (HasFailed counts) rose (HasGivenMore MOST_BYTES counts) verification.source MOST_BYTES (LayerUnread 0) LayersLong
    refusal rises (λ lacks. (refl, (tin, way), lacks)) (λ long. ((tin, way), long)) (refl, (tin, way)) is
files_refused told verification tin counts rose refusal way rises
    (no_written source has is) =
    let reached : IsWrittenReached told verification =
    record { reached = (tin, way); source = source; source_is = has } in
    unloaded_refused told verification (HasFailed counts) rose (HasGivenMore MOST_VERIFIED counts) verification.written MOST_VERIFIED WrittenUnread
    WrittenLong refusal rises (λ lacks. (reached, lacks)) (λ long. (reached, long)) reached is
files_refused told verification tin counts rose refusal way rises
    (no_cert source has written also is) =
    let before : IsWrittenReached told verification =
    record { reached = (tin, way); source = source; source_is = has } in
    let reached : IsCertReached told verification =
    record { reached = before; written = written; written_is = also } in
    unloaded_refused told verification (HasFailed counts) rose (HasGivenMore MOST_VERIFIED counts) verification.cert MOST_VERIFIED CertUnread CertLong
    refusal rises (λ lacks. (reached, lacks)) (λ long. (reached, long)) reached is

-- the source, or the certificate
stopped : (told : Option Files) (verification : Verification) (tin : Triangulation) (format : Format)
    (source written cert : List ℕ) (fault : CertFault) → HasWayOver told verification tin
    → format_by_name verification.source ≡ Some format
    → HaveTextsOver told verification source written cert → IsCauseIn verification.how tin format source written cert fault
    → IsStoppedBy told verification fault
stopped told verification tin format source written cert fault way suffix texts cause =
    record {
      tin = tin;
      format = format;
      source = source;
      written = written;
      cert = cert;
      at_hand =
          record { way = way; suffix = suffix; texts = texts };
      cause = cause;
    }

pub cert_refused : (told : Option Files) (verification : Verification) (tin : Triangulation) (format : Format)
    (source written cert : List ℕ) (rose : Type 0) (refusal : Refusal) → HasWayOver told verification tin
    → format_by_name verification.source ≡ Some format → HaveTextsOver told verification source written cert
    → IsUncertified verification.how tin format source written cert refusal
    → MayRefuseVerificationOver told verification rose refusal
cert_refused told verification tin format source written cert rose (Layer layer fault) way suffix texts (same, why) =
    by_the_files (
      same,
      stopped told verification tin format source written cert (certs.Layer fault) way suffix texts
          why,
    )
cert_refused told verification tin format source written cert rose (Certificate fault) way suffix texts (of, why) =
    by_the_files (of, stopped told verification tin format source written cert fault way suffix texts why)
cert_refused told verification tin format source written cert rose NoMemory way suffix texts why = no_room refl
cert_refused told verification tin format source written cert rose refusal way suffix texts why = absurd why

-- ---- what is certified, and written
pub all_certified : (told : Option Files) (verification : Verification) (tin : Triangulation) (format : Format)
    (source written cert : List ℕ)
    → HasWayOver told verification tin
    → format_by_name verification.source ≡ Some format
    → HaveTextsOver told verification source written cert
    → IsCertifiedAs verification.how tin format source written cert
    → IfSome told (λ files. AreCertified files verification tin)
all_certified None verification tin format source written cert way suffix texts is = tt
all_certified (Some files) verification tin format source written cert way suffix texts is =
    record {
      format = format;
      source = source;
      written = written;
      cert = cert;
      at_hand = record { way = way; suffix = suffix; texts = texts };
      certified = is;
    }

-- by an output of its form
pub output_verified : (told : Option Files) (verification : Verification) (tin : Triangulation) (output : RunOutput)
    → IfSome told (λ files. AreCertified files verification tin) → HasForm IsVerificationWritten output
    → IfSome told (λ files. IsVerified files verification (end_of output.changed) (files_of output))
output_verified None verification tin output is form = tt
output_verified (Some files) verification tin output is form =
    let has : (map file_of output.layers.items ≡ []) × (end_of output.changed ≡ Same)
    × (output.said ≡ certified_text) = form.is_of in
    record {
      tin = tin;
      format = is.format;
      source = is.source;
      written = is.written;
      cert = is.cert;
      at_hand = is.at_hand;
      certified = is.certified;
      status_is = has.1;
      made_is = ap₂ (λ (layers : Files) (said : List ℕ). layers ++ (codes "-", said) ∷ []) has.0 has.2;
    }

-- what is so where a call ends well
pub on_ok_more : {T : Type 0} (P Q : Type 0) (answer : Result T Refusal) → (P → Q) → OnOk answer P → OnOk answer Q
on_ok_more P Q (Ok value) more is = more is
on_ok_more P Q (Err refusal) more is = tt

-- ---- counts
-- one cause, where a fault here is one there and that many bytes here are enough
pub unloaded_more : (told : Option Files) (name : List ℕ) (most : ℕ) (absent long refusal : Refusal)
    (rose_here rose passed_here passed : Type 0) → (rose_here → rose) → (passed_here → passed)
    → IsUnloaded told name most absent long rose_here passed_here refusal
    → IsUnloaded told name most absent long rose passed refusal
unloaded_more told name most absent long refusal rose_here rose passed_here passed rises more (missing is lacks) =
    missing is lacks
unloaded_more told name most absent long refusal rose_here rose passed_here passed rises more (read_failed is now) =
    read_failed is (rises now)
unloaded_more told name most absent long refusal rose_here rose passed_here passed rises more (too_long is over many) =
    too_long is over (more many)
unloaded_more told name most absent long refusal rose_here rose passed_here passed rises more (no_memory is) =
    no_memory is

pub file_within : (told : Option Files) (name bytes : List ℕ) (most count : ℕ) → IfSome told (Loads name bytes)
    → count ≤ most → count ≡ length bytes → IsFileWithinOver told name most bytes
file_within told name bytes most count found within is =
    record { found = found; within = subst (λ n. n ≤ most) is within }
