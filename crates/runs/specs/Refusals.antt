-- What a refusal prints, and the status with which it ends.
use Rattle.std.specs.Prelude.{◌≡◌, ℕ, List, [], ◌∷◌, ◌++◌, codes, decimal}
use Rattle.shelf_io.specs.Files.{Files}
use Rattle.job_words.specs.declared.faults.WordsFault.{WordsFault}
use Rattle.job_words.specs.declared.faults.WordsFault.TheVariants.{NoMemory as WordsMemory}
use Rattle.cert_check.specs.declared.faults.CertFault.{CertFault}
use Rattle.cert_check.specs.declared.faults.CertFault.TheVariants.{Layer as CertLayer, NoMemory as CertMemory}
use Rattle.sheet_base.specs.declared.faults.LayerFault.{LayerFault}
use Rattle.sheet_base.specs.declared.faults.LayerFault.TheVariants.{NoMemory as LayerMemory}
use Rattle.tin_check.specs.declared.faults.CheckFault.{CheckFault}
use Rattle.tin_check.specs.declared.faults.CheckFault.TheVariants.{NoMemory as CheckMemory}
use Rattle.tin_file.specs.declared.faults.TinFault.{TinFault}
use Rattle.tin_file.specs.declared.faults.TinFault.TheVariants.{TooMany as TooManyRows, NoMemory as TinMemory}
use Rattle.runs.specs.declared.status.Status.{Status}
use Rattle.runs.specs.declared.status.Status.TheVariants.{Words as WordsStatus, Tin as TinStatus, Layer as LayerStatus}
use Rattle.runs.specs.declared.status.Status.TheVariants.{Outside as OutsideStatus, Read, Memory, Limit, Uncertified}
use Rattle.runs.specs.declared.refusal.Refusal.{Refusal}
use Rattle.runs.specs.declared.refusal.Refusal.TheVariants.{Words, TinUnread, TinLong, Tin, Check, LayerUnread}
use Rattle.runs.specs.declared.refusal.Refusal.TheVariants.{LayersLong, Layer, Outside, TooManyPieces, TooManyChanges}
use Rattle.runs.specs.declared.refusal.Refusal.TheVariants.{TooManySides}
use Rattle.runs.specs.declared.refusal.Refusal.TheVariants.{WrittenUnread, WrittenLong, CertUnread, CertLong}
use Rattle.runs.specs.declared.refusal.Refusal.TheVariants.{Certificate}
use Rattle.runs.specs.declared.refusal.Refusal.TheVariants.{NoMemory}
use Rattle.runs.specs.Lines.{words_line_of, tin_line_of, check_line_of, layer_line_of, cert_line_of}

-- running out of memory says nothing of the words
abbrev pub status_of_words : WordsFault → Status
status_of_words WordsMemory = Memory
status_of_words fault = WordsStatus

-- too many rows pass a limit; running out of memory says nothing of the text
abbrev pub status_of_tin : TinFault → Status
status_of_tin (TooManyRows list) = Limit
status_of_tin TinMemory = Memory
status_of_tin fault = TinStatus

-- running out of memory says nothing of the triangulation
abbrev pub status_of_check : CheckFault → Status
status_of_check CheckMemory = Memory
status_of_check fault = TinStatus

-- running out of memory says nothing of the layer
abbrev pub status_of_layer : LayerFault → Status
status_of_layer LayerMemory = Memory
status_of_layer fault = LayerStatus

-- a source that is not read has its own status; running out of memory says nothing of the certificate
abbrev pub status_of_cert : CertFault → Status
status_of_cert (CertLayer fault) = status_of_layer fault
status_of_cert CertMemory = Memory
status_of_cert fault = Uncertified

abbrev pub status_of : Refusal → Status
status_of (Words fault) = status_of_words fault
status_of TinUnread = Read
status_of TinLong = Limit
status_of (Tin fault) = status_of_tin fault
status_of (Check fault) = status_of_check fault
status_of (LayerUnread layer) = Read
status_of LayersLong = Limit
status_of (Layer layer fault) = status_of_layer fault
status_of (Outside layer path segment) = OutsideStatus
status_of TooManyPieces = Limit
status_of TooManyChanges = Limit
status_of TooManySides = Limit
status_of WrittenUnread = Read
status_of WrittenLong = Limit
status_of CertUnread = Read
status_of CertLong = Limit
status_of (Certificate fault) = status_of_cert fault
status_of NoMemory = Memory

abbrev pub line_of : Refusal → List ℕ
line_of (Words fault) = words_line_of fault
line_of TinUnread = codes "read fault: triangulation\n"
line_of TinLong = codes "limit: bytes of triangulation\n"
line_of (Tin fault) = tin_line_of fault
line_of (Check fault) = check_line_of fault
line_of (LayerUnread layer) = codes "read fault: layer " ++ decimal layer ++ codes "\n"
line_of LayersLong = codes "limit: bytes of layers\n"
line_of (Layer layer fault) = layer_line_of layer fault
line_of (Outside layer path segment) = codes "outside: layer " ++ decimal layer ++ codes " path " ++ decimal path
    ++ codes " segment " ++ decimal segment ++ codes "\n"
line_of TooManyPieces = codes "limit: pieces\n"
line_of TooManyChanges = codes "limit: changes\n"
line_of TooManySides = codes "limit: sides\n"
line_of WrittenUnread = codes "read fault: written\n"
line_of WrittenLong = codes "limit: bytes of written\n"
line_of CertUnread = codes "read fault: certificate\n"
line_of CertLong = codes "limit: bytes of certificate\n"
line_of (Certificate fault) = cert_line_of fault
line_of NoMemory = codes "no memory\n"

-- a refusal makes one file, standard output, with its line
abbrev pub line_file : Refusal → Files
line_file refusal = (codes "-", line_of refusal) ∷ []

pub record Refuses (refusal : Refusal) (status : Status) (made : Files) : Type 0 where
  pub status_is : status ≡ status_of refusal
  pub made_is : made ≡ line_file refusal

-- how the line begins of a file, or of files, with too many bytes
abbrev pub limit_front : List ℕ
limit_front = codes "limit: bytes of"

-- how it begins of a written layer, and of a certificate, with too many bytes: no other line has these letters
abbrev pub written_front : List ℕ
written_front = codes "limit: bytes of w"

abbrev pub cert_front : List ℕ
cert_front = codes "limit: bytes of c"
