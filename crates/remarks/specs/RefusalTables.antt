-- Why a run is refused and what helps, as tables: own words, in line with docs/messages.md.
use Rattle.std.specs.Prelude.{ℕ, List, Option, Some, None, codes}
use Rattle.job_words.specs.declared.faults.Which.TheVariants.{Tin as WhichTin, Out as WhichOut, Layer as WhichLayer}
use Rattle.job_words.specs.declared.faults.Which.TheVariants.{Source as WhichSource, Written as WhichWritten}
use Rattle.job_words.specs.declared.faults.Which.TheVariants.{Certificate as WhichCertificate}
use Rattle.job_words.specs.declared.faults.WordsFault.{WordsFault}
use Rattle.job_words.specs.declared.faults.WordsFault.TheVariants as faults
use Rattle.cert_check.specs.declared.faults.CertFault.{CertFault}
use Rattle.cert_check.specs.declared.faults.CertFault.TheVariants as certs
use Rattle.runs.specs.declared.refusal.Refusal.{Refusal}
use Rattle.runs.specs.declared.refusal.Refusal.TheVariants.{Words, TinUnread, TinLong, Tin, Check, LayerUnread}
use Rattle.runs.specs.declared.refusal.Refusal.TheVariants.{LayersLong, Layer, Outside, TooManyPieces, TooManyChanges}
use Rattle.runs.specs.declared.refusal.Refusal.TheVariants.{TooManySides}
use Rattle.runs.specs.declared.refusal.Refusal.TheVariants.{WrittenUnread, WrittenLong, CertUnread, CertLong}
use Rattle.runs.specs.declared.refusal.Refusal.TheVariants.{Certificate, NoMemory}
use Rattle.remarks.specs.LayerTables.{finding_of, cure_of}
use Rattle.remarks.specs.Sights.{sight_of, seen_finding_of, seen_cure_of}
use Rattle.remarks.specs.TinTables.{tin_sight_of, tin_seen_finding_of, tin_seen_cure_of, check_finding_of}
use Rattle.remarks.specs.TinTables.{check_cure_of}

-- ---- words that are refused
abbrev pub words_finding_of : WordsFault → List ℕ
words_finding_of faults.NoMode = codes "no mode: the first word is to be migrate, check, make, verify or heights"
words_finding_of faults.Parse = codes "an option or a word that is unknown, missing or too many"
words_finding_of faults.Size = codes "the size is no number from 1 to 512 in digits"
words_finding_of faults.Many = codes "more than 1,024 layers"
words_finding_of (faults.Name WhichTin) = codes "the name behind --tin is empty or has a control character"
words_finding_of (faults.Name WhichOut) = codes "the name behind --out is empty or has a control character"
words_finding_of (faults.Name (WhichLayer layer)) = codes "its name is empty or has a control character"
words_finding_of (faults.Name WhichSource) = codes "the name behind --source is empty or has a control character"
words_finding_of (faults.Name WhichWritten) = codes "the name behind --written is empty or has a control character"
words_finding_of (faults.Name WhichCertificate) = codes "the name behind --cert is empty or has a control character"
words_finding_of (faults.Suffix layer) = codes "its name ends in none of .wkt, .geojson, .json and .dxf"
words_finding_of (faults.SameName layer) = codes "the last part of its name is that of an earlier layer's"
words_finding_of faults.NoMemory = codes "memory ran out"

abbrev pub words_cure_of : WordsFault → Option (List ℕ)
words_cure_of faults.NoMode = Some (codes "'tinmove --help' explains the words")
words_cure_of faults.Parse = Some (codes "'tinmove --help' explains the words")
words_cure_of faults.Size = Some (codes "'tinmove --help' explains the words")
words_cure_of faults.Many = Some (codes "carry them in several runs")
words_cure_of (faults.Name WhichTin) = Some (codes "rename the file")
words_cure_of (faults.Name WhichOut) = Some (codes "rename the folder; --out . is the current one")
words_cure_of (faults.Name (WhichLayer layer)) = Some (codes "rename the file")
words_cure_of (faults.Name WhichSource) = Some (codes "rename the file")
words_cure_of (faults.Name WhichWritten) = Some (codes "rename the file")
words_cure_of (faults.Name WhichCertificate) = Some (codes "rename the file")
words_cure_of (faults.Suffix layer) = Some (codes "convert it by ogr2ogr, or rename it")
words_cure_of (faults.SameName layer) = Some (codes "carry it in another run, to another folder")
words_cure_of faults.NoMemory = None

-- ---- a written layer that is not verified
abbrev pub cert_finding_of : CertFault → List ℕ
cert_finding_of (certs.Layer fault) = finding_of fault
cert_finding_of (certs.Form line) = codes "a line that is none of a certificate's"
cert_finding_of (certs.Count segments lines) = codes "the certificate has lines for another number of segments"
cert_finding_of (certs.Segment path segment) =
    codes "the line of this segment does not name the triangles that it goes through"
cert_finding_of (certs.Differs at) = codes "the written layer is another than that of the source from here on"
cert_finding_of certs.NoMemory = codes "memory ran out"

abbrev pub cert_cure_of : CertFault → Option (List ℕ)
cert_cure_of (certs.Layer fault) = cure_of fault
cert_cure_of (certs.Form line) = Some (codes "take the file .cert as migrate --cert wrote it")
cert_cure_of (certs.Count segments lines) = Some (codes "take the certificate of this very source")
cert_cure_of (certs.Segment path segment) = Some (codes "take the triangulation and the options of the migration")
cert_cure_of (certs.Differs at) = Some (codes "take the layer as it was written")
cert_cure_of certs.NoMemory = Some (codes "carry smaller layers, or one a run")

-- ---- a run, where the refused file has these bytes
abbrev pub refusal_finding_of : Refusal → Option (List ℕ) → List ℕ
refusal_finding_of (Words fault) bytes = words_finding_of fault
refusal_finding_of TinUnread bytes = codes "the file is missing or could not be read"
refusal_finding_of TinLong bytes = codes "more than 64 MiB (2^26 bytes)"
refusal_finding_of (Tin fault) bytes = tin_seen_finding_of fault (tin_sight_of fault bytes)
refusal_finding_of (Check fault) bytes = check_finding_of fault
refusal_finding_of (LayerUnread layer) bytes = codes "the file is missing or could not be read"
refusal_finding_of LayersLong bytes = codes "the layers have more than 64 MiB (2^26 bytes) together"
refusal_finding_of (Layer layer fault) bytes = seen_finding_of fault (sight_of fault bytes)
refusal_finding_of (Outside layer path segment) bytes = codes "not wholly inside the triangles"
refusal_finding_of TooManyPieces bytes = codes "more than 4,194,304 pieces"
refusal_finding_of TooManyChanges bytes = codes "more than 1,048,576 changed pairs"
refusal_finding_of TooManySides bytes = codes "more than 1,048,576 changed sides"
refusal_finding_of WrittenUnread bytes = codes "the file is missing or could not be read"
refusal_finding_of WrittenLong bytes = codes "more than 256 MiB (2^28 bytes)"
refusal_finding_of CertUnread bytes = codes "the file is missing or could not be read"
refusal_finding_of CertLong bytes = codes "more than 256 MiB (2^28 bytes)"
refusal_finding_of (Certificate fault) bytes = cert_finding_of fault
refusal_finding_of NoMemory bytes = codes "memory ran out"

abbrev pub refusal_cure_of : Refusal → Option (List ℕ) → Option (List ℕ)
refusal_cure_of (Words fault) bytes = words_cure_of fault
refusal_cure_of TinUnread bytes = Some (codes "look at its name, and at who may read it")
refusal_cure_of TinLong bytes = Some (codes "cut the triangulation in parts")
refusal_cure_of (Tin fault) bytes = tin_seen_cure_of fault (tin_sight_of fault bytes)
refusal_cure_of (Check fault) bytes = check_cure_of fault
refusal_cure_of (LayerUnread layer) bytes = Some (codes "look at its name, and at who may read it")
refusal_cure_of LayersLong bytes = Some (codes "carry fewer layers a run")
refusal_cure_of (Layer layer fault) bytes = seen_cure_of fault (sight_of fault bytes)
refusal_cure_of (Outside layer path segment) bytes = Some (codes "recipes/outside.sh lists all that is outside")
refusal_cure_of TooManyPieces bytes = Some (codes "carry fewer layers a run")
refusal_cure_of TooManyChanges bytes = Some (codes "remove lines that are on top of each other")
refusal_cure_of TooManySides bytes = Some (codes "carry fewer layers a run, or leave out --sides")
refusal_cure_of WrittenUnread bytes = Some (codes "look at its name, and at who may read it")
refusal_cure_of WrittenLong bytes = Some (codes "migrate the layer in parts")
refusal_cure_of CertUnread bytes = Some (codes "look at its name, and at who may read it")
refusal_cure_of CertLong bytes = Some (codes "migrate the layer in parts")
refusal_cure_of (Certificate fault) bytes = cert_cure_of fault
refusal_cure_of NoMemory bytes = Some (codes "carry smaller layers, or one a run")
