-- No text of a job that is done says that there are too many bytes, and a line on those of a written layer or a
-- certificate is that of such a refusal.
use Rattle.std.proofs.Common.{true, false, ◌≡◌, inl, inr, ℕ, List, [], ◌∷◌, ◌++◌, map, codes, Bool, Option, None, Some}
use Rattle.std.proofs.Common.{IfSome, refl, sym, ap, subst, arith}
use Rattle.shelf_io.specs.Files.{Files}
use Rattle.job_words.specs.declared.jobs.Job.{Job}
use Rattle.job_words.specs.declared.jobs.Job.TheVariants.{Migrate, Check as CheckJob, Make, Verify, Heights}
use Rattle.report_text.specs.Reports.{ReportContents}
use Rattle.report_text.specs.ReportText.{report_text, title, are_told}
use Rattle.report_text.specs.declared.lines.TheConstants.{LINE_FEED}
use Rattle.runs.specs.declared.output.RunOutput.{RunOutput}
use Rattle.runs.specs.declared.status.Status.{Status}
use Rattle.runs.specs.declared.refusal.Refusal.{Refusal}
use Rattle.runs.specs.declared.refusal.Refusal.TheVariants.{WrittenLong, CertLong}
use Rattle.runs.specs.Status.{end_of}
use Rattle.runs.specs.Refusals.{status_of, line_file}
use Rattle.runs.specs.Output.{file_of, files_of, HasSlash, AreWritable, HasForm}
use Rattle.runs.proofs.RefusalLines.{never-write}
use Rattle.runs.proofs.LimitLines.{TellsNone, at-first, t-line, written-begins, cert-begins}
use Rattle.runs.proofs.RunEnds.{never-write-end}
use Rattle.publication.specs.Fronts.{IsFrontOf, HasWritten}
use Rattle.publication.specs.RunEnds.{TellsBytes}
use Rattle.publication.proofs.Fronts.{slash-dash, written_front}
use Rattle.publication.proofs.LimitFronts.{apart, front_apart}
use Rattle.whole_runs.specs.Ends.{IsWrittenOf, TellsVerifiedBytes}

-- a line that is a written layer's, or a certificate's, with too many bytes is that of such a refusal
tells_verified : (refusal : Refusal) (passed : Type 0) (made : Files) → IsFrontOf made (line_file refusal)
    → TellsVerifiedBytes made → (refusal ≡ WrittenLong → passed) → (refusal ≡ CertLong → passed) → passed
tells_verified refusal passed made front (rest, inl is) written cert =
    let (count, same) = rw is at front in
    written (written-begins refusal rest count (ap (λ (f : List ℕ × List ℕ). f.1) same))
tells_verified refusal passed made front (rest, inr is) written cert =
    let (count, same) = rw is at front in
    cert (cert-begins refusal rest count (ap (λ (f : List ℕ × List ℕ). f.1) same))

pub verified_told : (refusal : Refusal) (result : Status) (made : Option Files) (passed : Type 0)
    → HasWritten (line_file refusal) (status_of refusal) result made
    → (refusal ≡ WrittenLong → passed) → (refusal ≡ CertLong → passed)
    → IfSome made (λ files. TellsVerifiedBytes files → passed)
verified_told refusal result None passed printed written cert = tt
verified_told refusal result (Some made) passed printed written cert = λ tells.
    tells_verified refusal passed made (written_front (line_file refusal) (status_of refusal) result (Some made)
    (never-write refusal) printed) tells written cert

named-file : (name bytes : List ℕ) (rest made : Files) → HasSlash name → IsFrontOf made ((name, bytes) ∷ rest)
    → TellsBytes made → ⊥
named-file name bytes rest made slash front (behind, is) =
    let (count, same) = rw is at front in slash-dash
    (subst HasSlash (sym (ap (λ (f : List ℕ × List ℕ). f.0) same)) slash)

-- a report begins with a t, in either form
by-title : (told : Bool) (more : List ℕ) → TellsNone ((title told ++ LINE_FEED ∷ []) ++ more)
unfolding title
by-title false more = t-line _ refl
by-title true more = t-line _ refl

report-none : (report : ReportContents) → TellsNone (report_text report)
report-none report = by-title (are_told report.sides) _

none-told : (layers : Files) (said : List ℕ) (made : Files) → AreWritable layers → TellsNone said
    → IsFrontOf made (layers ++ (codes "-", said) ∷ []) → TellsBytes made → ⊥
none-told [] said made writable none front tells = front_apart said made (apart said none) front tells
none-told (file ∷ layers) said made writable none front tells =
    named-file file.0 file.1 (layers ++ (codes "-", said) ∷ []) made writable.0 front tells

said-none : (job : Job) (layers : Files) (said : List ℕ) (status : Status) → IsWrittenOf job layers said status
    → TellsNone said
said-none (Migrate tin out how inverse cert sides names) layers said status (named, on) =
    rw on.said_is (report-none on.report)
said-none (CheckJob tin how) layers said status (none, same, line) =
    rw line.said_is (at-first _ 115 refl (λ e. omega (arith, e)))
said-none (Make n) layers said status (none, on) = rw on.said_is (report-none on.report)
said-none (Verify tin source written cert how inverse) layers said status (none, same, line) =
    rw line (at-first _ 99 refl (λ e. omega (arith, e)))
said-none (Heights tin out how points) layers said status is =
    let (corners, triangles, count, inexact, line) = is.said_is in
    rw line (at-first _ 104 refl (λ e. omega (arith, e)))

-- what is printed of a success does not say that there are too many bytes
pub limit_done : (job : Job) (output : RunOutput) (result : Status) (made : Option Files) (passed : Type 0)
    → HasForm (IsWrittenOf job) output → HasWritten (files_of output) (end_of output.changed) result made
    → IfSome made (λ files. TellsBytes files → passed)
limit_done job output result None passed form written = tt
limit_done job output result (Some made) passed form written = λ tells.
    absurd
    (none-told (map file_of output.layers.items) output.said made form.writable
    (said-none job (map file_of output.layers.items) output.said (end_of output.changed) form.is_of)
    (written_front (files_of output) (end_of output.changed) result (Some made) (never-write-end output.changed) written)
    tells)

-- such a line says that there are too many bytes
verified-bytes : (made : Files) → TellsVerifiedBytes made → TellsBytes made
verified-bytes made (rest, inl is) = (codes " w" ++ rest, is)
verified-bytes made (rest, inr is) = (codes " c" ++ rest, is)

of-bytes : (made : Option Files) (passed : Type 0) → IfSome made (λ files. TellsBytes files → passed)
    → IfSome made (λ files. TellsVerifiedBytes files → passed)
of-bytes None passed none = tt
of-bytes (Some files) passed none = λ tells. none (verified-bytes files tells)

-- what is printed of a success is no such line
pub verified_done : (job : Job) (output : RunOutput) (result : Status) (made : Option Files) (passed : Type 0)
    → HasForm (IsWrittenOf job) output → HasWritten (files_of output) (end_of output.changed) result made
    → IfSome made (λ files. TellsVerifiedBytes files → passed)
verified_done job output result made passed form written =
    of-bytes made passed (limit_done job output result made passed form written)
