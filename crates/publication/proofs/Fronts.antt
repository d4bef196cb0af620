-- The files that were made when a file is begun in vain, or in part.
use Rattle.std.proofs.Common.{◌≡◌, ◌≢◌, inl, inr, ℕ, zero, suc, ◌<◌, List, [], ◌∷◌, ◌++◌, map, length, take, get_or}
use Rattle.std.proofs.Common.{codes, Option, None, Some, IfSome, refl, sym, ◌∙◌, ap, subst, arith}
use Rattle.std.proofs.Math.Seq.{take-length}
use Rattle.std.specs.List.{AllByRecursion}
use Rattle.shelf_io.specs.Files.{Files, bytes_of}
use Rattle.shelf_io.specs.Made.{Lacks, PrintsFront}
use Rattle.job_words.proofs.TestValues.{texts-differ}
use Rattle.runs.specs.declared.output.LayerFile.{LayerFile}
use Rattle.runs.specs.Output.{HasSlash, file_of, AreWritable}
use Rattle.runs.specs.declared.status.Status.{Status}
use Rattle.runs.specs.declared.status.Status.TheVariants.{Write}
use Rattle.publication.specs.Fronts.{IsFrontOf, HasWritten}

abbrev File : Type 0
File = List ℕ × List ℕ

-- ---- fronts
whole-front : (files : Files) → IsFrontOf files files
whole-front [] = tt
whole-front (file ∷ []) = (length file.1, ap (λ (text : List ℕ). (file.0, text)) (sym (take-length file.1)))
whole-front (file ∷ next ∷ files) = (refl, whole-front (next ∷ files))

front-more : (made whole more : Files) → IsFrontOf made whole → IsFrontOf made (whole ++ more)
front-more [] whole more front = tt
front-more (file ∷ made) [] more front = absurd front
front-more (file ∷ []) (full ∷ whole) more front = front
front-more (file ∷ next ∷ made) (full ∷ whole) more front = (front.0, front-more (next ∷ made) whole more front.1)

front-behind : (whole more : Files) (name text : List ℕ) (count : ℕ)
    → IsFrontOf (whole ++ (name, take count text) ∷ []) (whole ++ (name, text) ∷ more)
front-behind [] more name text count = (count, refl)
front-behind (file ∷ []) more name text count = (refl, front-behind [] more name text count)
front-behind (file ∷ next ∷ whole) more name text count = (refl, front-behind (next ∷ whole) more name text count)

-- what is made when the file after some whole ones is begun in vain, or in part
pub front_printed : (whole more : Files) (before after : Option Files) (name text : List ℕ)
    → IfSome before (λ made. made ≡ whole) → PrintsFront before after name text
    → IfSome after (λ made. IsFrontOf made (whole ++ (name, text) ∷ more))
front_printed whole more before None name text is front = tt
front_printed whole more None (Some made) name text is (inl kept) = absurd kept
front_printed whole more None (Some made) name text is (inr (count, adds)) = absurd adds
front_printed whole more (Some before) (Some made) name text is (inl kept) =
    subst (λ (m : Files). IsFrontOf m (whole ++ (name, text) ∷ more)) (sym (kept ∙ is))
    (front-more whole whole ((name, text) ∷ more) (whole-front whole))
front_printed whole more (Some before) (Some made) name text is (inr (count, adds)) =
    subst (λ (m : Files). IsFrontOf m (whole ++ (name, text) ∷ more))
    (sym (adds ∙ ap (λ (m : Files). m ++ (name, take count text) ∷ []) is))
    (front-behind whole more name text count)

pub front_told : (whole more : Files) (made : Option Files) → IfSome made (λ files. IsFrontOf files whole)
    → IfSome made (λ files. IsFrontOf files (whole ++ more))
front_told whole more None front = tt
front_told whole more (Some made) front = front-more made whole more front

-- what was written is a first part of what was to be written
pub written_front : (whole : Files) (wanted result : Status) (made : Option Files) → wanted ≢ Write
    → HasWritten whole wanted result made → IfSome made (λ files. IsFrontOf files whole)
written_front whole wanted result None other written = tt
written_front whole wanted result (Some made) other written =
    elim written.status [
      | inl is ↦
          subst (λ (m : Files). IsFrontOf m whole) (sym (written.all (λ write. other (sym is ∙ write)))) (whole-front whole)
      | inr is ↦ written.front is
    ]

-- ---- the files of layers
split_at : (files : List LayerFile) (i : ℕ) (file : LayerFile) → i < length files → file ≡ get_or files i file
    → (rest : Files) × (map file_of files ≡ map file_of (take i files) ++ file_of file ∷ rest)
split_at [] i file within is = absurd (omega (arith, within))
split_at (first ∷ files) zero file within is =
    (map file_of files, ap (λ (f : LayerFile). file_of f ∷ map file_of files) (sym is))
split_at (first ∷ files) (suc i) file within is =
    let (rest, are) = split_at files i file (omega (arith, within))
    is in (rest, ap (λ (fs : Files). file_of first ∷ fs) are)

not_here : (file : File) (files : Files) (name : List ℕ) → file.0 ≢ name → bytes_of files name ≡ None
    → bytes_of (file ∷ files) name ≡ None
not_here file files name other none = rw (texts-differ file.0 name other, none) refl

-- the file at a place has no earlier one of its name
fresh_at : (front : Files) (file : File) (rest : Files) → AreWritable (front ++ file ∷ rest)
    → bytes_of front file.0 ≡ None
fresh_at [] file rest writable = refl
fresh_at (first ∷ front) file rest writable =
    not_here first front file.0 (differs front writable.1) (fresh_at front file rest writable.2)
  where
    differs : (others : Files) → AllByRecursion (λ other. other.0 ≢ first.0) (others ++ file ∷ rest) → first.0 ≢ file.0
    differs [] all = λ same. all.0 (sym same)
    differs (other ∷ others) all = differs others all.1

pub lacks_next : (files : List LayerFile) (i : ℕ) (file : LayerFile) (made : Option Files)
    → AreWritable (map file_of files) → i < length files → file ≡ get_or files i file
    → IfSome made (λ m. m ≡ map file_of (take i files)) → Lacks made (file_of file).0
lacks_next files i file None writable within is told = tt
lacks_next files i file (Some made) writable within is told =
    let (rest, are) = split_at files i file within is in
    rw told (fresh_at (map file_of (take i files)) (file_of file) rest
    (subst (λ (fs : Files). AreWritable fs) are writable))

pub front_next : (files : List LayerFile) (i : ℕ) (file : LayerFile) (before after : Option Files) → i < length files
    → file ≡ get_or files i file → IfSome before (λ m. m ≡ map file_of (take i files))
    → PrintsFront before after (file_of file).0 (file_of file).1 → IfSome after (λ m. IsFrontOf m (map file_of files))
front_next files i file before after within is told front =
    let (rest, are) = split_at files i file within is in
    subst (λ (whole : Files). IfSome after (λ m. IsFrontOf m whole)) (sym are)
    (front_printed (map file_of (take i files)) rest before after (file_of file).0 (file_of file).1 told front)

-- ---- standard output
-- is no file in a folder
pub slash-dash : HasSlash (codes "-") → ⊥
slash-dash (zero, within, is) = omega (arith, is)
slash-dash (suc place, within, is) = omega (arith, within)

no_dash : (files : Files) → AreWritable files → bytes_of files (codes "-") ≡ None
no_dash [] writable = refl
no_dash (file ∷ files) writable = not_here file files (codes "-") (λ same. slash-dash (subst HasSlash same writable.0))
    (no_dash files writable.2)

pub lacks_dash : (files : Files) (made : Option Files) → AreWritable files → IfSome made (λ m. m ≡ files)
    → Lacks made (codes "-")
lacks_dash files None writable is = tt
lacks_dash files (Some made) writable is = rw is (no_dash files writable)
