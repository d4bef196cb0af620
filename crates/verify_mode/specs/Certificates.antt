-- A written layer that its certificate verifies, and why one is not verified.
use Rattle.std.specs.Prelude.{◌≡◌, ℕ, List}
use Rattle.sheet_base.specs.declared.edits.Edit.{Edit}
use Rattle.sheet_base.specs.declared.faults.LayerFault.{LayerFault}
use Rattle.sheet_base.specs.declared.flags.How.{How}
use Rattle.sheet_base.specs.Sheets.{Contents}
use Rattle.sheet_base.specs.ImageFits.{Runs}
use Rattle.tin_base.specs.Triangulation.{Triangulation}
use Rattle.cert_check.specs.declared.faults.CertFault.{CertFault}
use Rattle.cert_check.specs.declared.faults.CertFault.TheVariants as certs
use Rattle.cert_check.specs.Checks.{IsCertified, IsCertCause}
use Rattle.job_words.specs.declared.formats.Format.{Format}
use Rattle.layer_formats.specs.LayerOutcomes.{IsLayerText, LacksLayerText}
use Rattle.layer_formats.specs.LayerTexts.{text_of}
use Rattle.runs.specs.declared.refusal.Refusal.{Refusal}
use Rattle.runs.specs.declared.refusal.Refusal.TheVariants.{Layer, Certificate, NoMemory}

-- the written layer is the source's through this triangulation, and the certificate says so
abbrev pub IsCertifiedAs : How → Triangulation → Format → List ℕ → List ℕ → List ℕ → Type 0
IsCertifiedAs how tin format source written cert =
    IsCertified tin source written (IsLayerText how format source) (text_of format source how) cert

-- this is the first fault of the certificate, or of the source that it is for
abbrev pub IsCauseIn : How → Triangulation → Format → List ℕ → List ℕ → List ℕ → CertFault → Type 0
IsCauseIn how tin format source written cert fault =
    IsCertCause tin source written (IsLayerText how format source) (LacksLayerText how format source)
    (text_of format source how) cert fault

-- ---- the refusal
-- the refusal of a written layer that is not verified; the source is layer 0
abbrev pub of_certificate : CertFault → Refusal
of_certificate (certs.Layer fault) = Layer 0 fault
of_certificate certs.NoMemory = NoMemory
of_certificate fault = Certificate fault

-- the fault is one of the certificate itself
abbrev pub IsOfCertificate : CertFault → Type 0
IsOfCertificate (certs.Layer fault) = ⊥
IsOfCertificate certs.NoMemory = ⊥
IsOfCertificate fault = Unit {0}

-- why it is refused, where a format reads and refuses the source so, and writes these texts, or memory ran out
abbrev pub IsUncertifiedAs : Triangulation → List ℕ → List ℕ → (Contents → Type 0) → (LayerFault → Type 0)
    → (Contents → Runs → Edit → List ℕ) → List ℕ → Refusal → Type 0
IsUncertifiedAs tin source written reads refuses text cert (Layer layer fault) =
    (layer ≡ 0) × IsCertCause tin source written reads refuses text cert (certs.Layer fault)
IsUncertifiedAs tin source written reads refuses text cert (Certificate fault) =
    IsOfCertificate fault × IsCertCause tin source written reads refuses text cert fault
IsUncertifiedAs tin source written reads refuses text cert NoMemory = Unit {0}
IsUncertifiedAs tin source written reads refuses text cert refusal = ⊥

-- why it is refused, where the source has this format, or memory ran out
abbrev pub IsUncertified : How → Triangulation → Format → List ℕ → List ℕ → List ℕ → Refusal → Type 0
IsUncertified how tin format source written cert refusal =
    IsUncertifiedAs tin source written (IsLayerText how format source) (LacksLayerText how format source)
    (text_of format source how) cert refusal
