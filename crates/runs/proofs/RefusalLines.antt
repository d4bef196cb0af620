-- The line and the status of a refusal.
use Rattle.std.proofs.Common.{◌≡◌, ◌≢◌, ℕ, refl}
use Rattle.sheet_base.specs.declared.faults.LayerFault.{LayerFault}
use Rattle.sheet_base.specs.declared.faults.LayerFault.TheVariants as layers
use Rattle.cert_check.specs.declared.faults.CertFault.{CertFault}
use Rattle.cert_check.specs.declared.faults.CertFault.TheVariants as certs
use Rattle.tin_check.specs.declared.faults.CheckFault.{CheckFault}
use Rattle.tin_check.specs.declared.faults.CheckFault.TheVariants.{Flat, TurnsOver, Meets, NoMemory as CheckMemory}
use Rattle.tin_file.specs.declared.faults.TinFault.{TinFault}
use Rattle.tin_file.specs.declared.faults.TinFault.TheVariants.{Json, Deep, Key, Version, Fallback, NoHorizontal, NoVertical, Offset}
use Rattle.tin_file.specs.declared.faults.TinFault.TheVariants.{TooMany, Row, Number, Inexact, Index, Span}
use Rattle.tin_file.specs.declared.faults.TinFault.TheVariants.{NoMemory as TinMemory}
use Rattle.job_words.specs.declared.faults.WordsFault.{WordsFault}
use Rattle.job_words.specs.declared.faults.WordsFault.TheVariants.{NoMode, Parse, Size, Many, Name, Suffix, SameName}
use Rattle.job_words.specs.declared.faults.WordsFault.TheVariants.{NoMemory as WordsMemory}
use Rattle.runs.specs.declared.status.Status.TheVariants.{Write, Memory}
use Rattle.runs.specs.declared.refusal.Refusal.{Refusal}
use Rattle.runs.specs.declared.refusal.Refusal.TheVariants.{Words, TinUnread, TinLong, Tin, Check, LayerUnread}
use Rattle.runs.specs.declared.refusal.Refusal.TheVariants.{LayersLong, Layer, Outside, TooManyPieces, TooManyChanges}
use Rattle.runs.specs.declared.refusal.Refusal.TheVariants.{TooManySides}
use Rattle.runs.specs.declared.refusal.Refusal.TheVariants.{WrittenUnread, WrittenLong, CertUnread, CertLong}
use Rattle.runs.specs.declared.refusal.Refusal.TheVariants.{Certificate}
use Rattle.runs.specs.declared.refusal.Refusal.TheVariants.{NoMemory}
use Rattle.runs.specs.Lines.{words_line_of, tin_line_of, check_line_of, layer_line_of, cert_line_of}
use Rattle.runs.specs.Refusals.{status_of, line_of, status_of_words, status_of_tin, status_of_check, status_of_layer}
use Rattle.runs.specs.Refusals.{status_of_cert}
use Rattle.runs.proofs.Faults.{of_text, of_check, of_layer, not_write, layer_not_write}

words-never : (fault : WordsFault) → status_of_words fault ≢ Write
words-never NoMode = λ e. cc
words-never Parse = λ e. cc
words-never Size = λ e. cc
words-never Many = λ e. cc
words-never (Name which) = λ e. cc
words-never (Suffix layer) = λ e. cc
words-never (SameName layer) = λ e. cc
words-never WordsMemory = λ e. cc

cert-never : (fault : CertFault) → status_of_cert fault ≢ Write
cert-never (certs.Layer fault) = layer_not_write _ (of_layer fault)
cert-never (certs.Form line) = λ e. cc
cert-never (certs.Count segments lines) = λ e. cc
cert-never (certs.Segment path segment) = λ e. cc
cert-never (certs.Differs at) = λ e. cc
cert-never certs.NoMemory = λ e. cc

pub never-write : (refusal : Refusal) → status_of refusal ≢ Write
never-write (Words fault) = words-never fault
never-write TinUnread = λ e. cc
never-write TinLong = λ e. cc
never-write (Tin fault) = not_write _ (of_text fault)
never-write (Check fault) = not_write _ (of_check fault)
never-write (LayerUnread layer) = λ e. cc
never-write LayersLong = λ e. cc
never-write (Layer layer fault) = layer_not_write _ (of_layer fault)
never-write (Outside layer path segment) = λ e. cc
never-write TooManyPieces = λ e. cc
never-write TooManyChanges = λ e. cc
never-write TooManySides = λ e. cc
never-write WrittenUnread = λ e. cc
never-write WrittenLong = λ e. cc
never-write CertUnread = λ e. cc
never-write CertLong = λ e. cc
never-write (Certificate fault) = cert-never fault
never-write NoMemory = λ e. cc

text-memory : (fault : TinFault) → status_of_tin fault ≡ Memory → tin_line_of fault ≡ line_of NoMemory
text-memory (Json at) is = cc
text-memory (Deep at) is = cc
text-memory (Key which) is = cc
text-memory Version is = cc
text-memory (Fallback which) is = cc
text-memory NoHorizontal is = cc
text-memory NoVertical is = cc
text-memory (Offset row) is = cc
text-memory (TooMany list) is = cc
text-memory (Row list row) is = cc
text-memory (Number row fault) is = cc
text-memory (Inexact row) is = cc
text-memory (Index triangle) is = cc
text-memory (Span frame axis) is = cc
text-memory TinMemory is = refl

check-memory : (fault : CheckFault) → status_of_check fault ≡ Memory → check_line_of fault ≡ line_of NoMemory
check-memory (Flat triangle frame) is = cc
check-memory (TurnsOver triangle) is = cc
check-memory (Meets first second frame) is = cc
check-memory CheckMemory is = refl

layer-memory : (layer : ℕ) (fault : LayerFault) → status_of_layer fault ≡ Memory
    → layer_line_of layer fault ≡ line_of NoMemory
layer-memory layer (layers.Bad at) is = cc
layer-memory layer (layers.Deep at) is = cc
layer-memory layer (layers.Repeat at) is = cc
layer-memory layer (layers.Shape at) is = cc
layer-memory layer (layers.Kind at) is = cc
layer-memory layer (layers.Height at) is = cc
layer-memory layer (layers.Inexact at) is = cc
layer-memory layer (layers.Ring at) is = cc
layer-memory layer (layers.Number at fault) is = cc
layer-memory layer layers.Binary is = cc
layer-memory layer layers.NoEof is = cc
layer-memory layer (layers.Code line) is = cc
layer-memory layer (layers.Odd line) is = cc
layer-memory layer (layers.Entity line) is = cc
layer-memory layer (layers.Extrusion line) is = cc
layer-memory layer (layers.Flags line) is = cc
layer-memory layer (layers.Count line) is = cc
layer-memory layer (layers.Bulge line) is = cc
layer-memory layer (layers.Width line) is = cc
layer-memory layer (layers.Attribs line) is = cc
layer-memory layer (layers.Seed line) is = cc
layer-memory layer layers.NoMemory is = refl

cert-memory : (fault : CertFault) → status_of_cert fault ≡ Memory → cert_line_of fault ≡ line_of NoMemory
cert-memory (certs.Layer fault) is = layer-memory 0 fault is
cert-memory (certs.Form line) is = cc
cert-memory (certs.Count segments lines) is = cc
cert-memory (certs.Segment path segment) is = cc
cert-memory (certs.Differs at) is = cc
cert-memory certs.NoMemory is = refl

words-memory : (fault : WordsFault) → status_of_words fault ≡ Memory → words_line_of fault ≡ line_of NoMemory
words-memory NoMode is = cc
words-memory Parse is = cc
words-memory Size is = cc
words-memory Many is = cc
words-memory (Name which) is = cc
words-memory (Suffix layer) is = cc
words-memory (SameName layer) is = cc
words-memory WordsMemory is = refl

-- running out of memory has one line, wherever it comes
pub memory-line : (refusal : Refusal) → status_of refusal ≡ Memory → line_of refusal ≡ line_of NoMemory
memory-line (Words fault) is = words-memory fault is
memory-line TinUnread is = cc
memory-line TinLong is = cc
memory-line (Tin fault) is = text-memory fault is
memory-line (Check fault) is = check-memory fault is
memory-line (LayerUnread layer) is = cc
memory-line LayersLong is = cc
memory-line (Layer layer fault) is = layer-memory layer fault is
memory-line (Outside layer path segment) is = cc
memory-line TooManyPieces is = cc
memory-line TooManyChanges is = cc
memory-line TooManySides is = cc
memory-line WrittenUnread is = cc
memory-line WrittenLong is = cc
memory-line CertUnread is = cc
memory-line CertLong is = cc
memory-line (Certificate fault) is = cert-memory fault is
memory-line NoMemory is = refl
