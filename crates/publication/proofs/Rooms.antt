-- What a press in memory has of files that fit its room.
use Rattle.std.proofs.Common.{◌≡◌, ℕ, ◌+◌, ◌-◌, ◌≤◌, ◌<◌, List, [], ◌∷◌, ◌++◌, length, Option, None, Some, IfSome, refl, sym, ◌∙◌, ap}
use Rattle.std.proofs.Common.{subst, append_assoc, append-nil, arith, option_map}
use Rattle.std.proofs.Common.{map, take, get_or}
use Rattle.std.proofs.lemmas.List.{length-append, map-append, take_more}
use Rattle.shelf_io.specs.Files.{Files}
use Rattle.shelf_io.specs.FileStore.{FileStore, store_with_file}
use Rattle.shelf_io.specs.Made.{with_file, with_bytes, with_whole, Becomes}
use Rattle.shelf_io.specs.ReservedPress.{AddsWithin, AppendsWithin}
use Rattle.shelf_io.proofs.Made.{Appends-nothing, printed}
use Rattle.runs.specs.declared.output.LayerFile.{LayerFile}
use Rattle.runs.specs.Output.{file_of}
use Rattle.publication.specs.Rooms.{size_of, store_with_files, MakesWhereItFits, IsStatedWhereItFits}

-- two stores with the same fields are one
same_store : (a b : Files) (files_a files_b bytes_a bytes_b : ℕ) → a ≡ b → files_a ≡ files_b → bytes_a ≡ bytes_b
    → ◌≡◌ {A = FileStore} (record { made = a; files = files_a; bytes = bytes_a })
    (record { made = b; files = files_b; bytes = bytes_b })
same_store a b files_a files_b bytes_a bytes_b made files bytes = rw (made, files, bytes) refl

-- no bytes
pub no_bytes : (bytes : List ℕ) → length bytes ≡ 0 → bytes ≡ []
no_bytes [] is = refl
no_bytes (byte ∷ bytes) is = absurd (omega (arith, is))

pub appends_nothing : (store : Option FileStore) → AppendsWithin store store []
appends_nothing None = record { fits = tt; full = tt; untold = λ e. e }
appends_nothing (Some s) = record {
  fits = λ few. ap Some (same_store s.made (with_bytes [] s.made) s.files s.files s.bytes (s.bytes - 0)
      (Appends-nothing (Some s.made)) refl (omega arith));
  full = λ many. absurd (omega (arith, many));
  untold = λ e. cc;
}

-- a file that is begun and written is after those that were there
begun_and_written : (name bytes : List ℕ) (files : Files)
    → with_bytes bytes (with_file name files) ≡ files ++ (name, bytes) ∷ []
begun_and_written name bytes files =
    printed (Some files) (Some (with_file name files)) (Some (with_bytes bytes (with_file name files)))
    (Some (with_bytes bytes (with_file name files))) name bytes refl refl refl

pub prints_within : (before begun now : Option FileStore) (name bytes : List ℕ) → AddsWithin before begun name
    → AppendsWithin begun now bytes → MakesWhereItFits ((name, bytes) ∷ []) before now
prints_within None begun now name bytes adds appends = tt
prints_within (Some s) begun now name bytes adds appends = λ fit.
    let count : 1 ≤ s.files = fit.count in
    let room : length name + length bytes + 0 ≤ s.bytes = fit.bytes in
    let is : begun ≡ Some (store_with_file name s) = adds.fits (omega (arith, count)) (omega (arith, room)) in
    let appends_here : AppendsWithin (Some (store_with_file name s)) now bytes =
    subst (λ (b : Option FileStore). AppendsWithin b now bytes) is appends in
    appends_here.fits (omega (arith, room))
    ∙ ap Some (same_store (with_bytes bytes (with_file name s.made)) (s.made ++ (name, bytes) ∷ []) (s.files - 1)
    (s.files - 1) ((s.bytes - length name) - length bytes) (s.bytes - (length name + length bytes + 0))
    (begun_and_written name bytes s.made) refl (omega (arith, room)))

size_append : (a b : Files) → size_of (a ++ b) ≡ size_of a + size_of b
size_append [] b = omega arith
size_append (file ∷ a) b = rw (size_append a b) (omega arith)

-- files after others
pub makes_more : (before between now : Option FileStore) (a b : Files) → MakesWhereItFits a before between
    → MakesWhereItFits b between now → MakesWhereItFits (a ++ b) before now
makes_more None between now a b first second = tt
makes_more (Some s) between now a b first second = λ fit.
    let count : length a + length b ≤ s.files = rw length-append at fit.count in
    let bytes : size_of a + size_of b ≤ s.bytes = rw (size_append a b) at fit.bytes in
    let here : between ≡ Some (store_with_files a s) =
    first (record { count = omega (arith, count); bytes = omega (arith, bytes) }) in
    let then : MakesWhereItFits b (Some (store_with_files a s)) now =
    subst (λ (o : Option FileStore). MakesWhereItFits b o now) here second in
    then (record { count = omega (arith, count); bytes = omega (arith, bytes) })
    ∙ ap Some (same_store ((s.made ++ a) ++ b) (s.made ++ (a ++ b)) ((s.files - length a) - length b)
    (s.files - length (a ++ b)) ((s.bytes - size_of a) - size_of b) (s.bytes - size_of (a ++ b))
    (append_assoc s.made a b) (rw length-append (omega (arith, count))) (rw (size_append a b) (omega (arith, bytes))))

pub makes_none : (store : Option FileStore) → MakesWhereItFits [] store store
makes_none None = tt
makes_none (Some s) = λ fit. ap Some (same_store s.made (s.made ++ []) s.files (s.files - 0) s.bytes (s.bytes - 0)
    (sym (append-nil s.made)) (omega arith) (omega arith))

-- what was empty states these files alone
pub stated : (files : Files) (before now : Option FileStore) → IfSome (option_map (λ (s : FileStore). s.made) before) (λ made. made ≡ [])
    → MakesWhereItFits files before now
    → IsStatedWhereItFits files before (option_map (λ (s : FileStore). s.made) now)
stated files None now empty makes = tt
stated files (Some s) now empty makes = λ fit.
    ap (λ (o : Option FileStore). option_map (λ (s : FileStore). s.made) o) (makes fit)
    ∙ ap (λ (made : Files). Some (made ++ files)) empty

-- one file more is made
pub made_more : (whole : Files) (before now : Option Files) (name bytes : List ℕ) → IfSome before (λ made. made ≡ whole)
    → Becomes (with_whole name bytes) before now → IfSome now (λ made. made ≡ whole ++ (name, bytes) ∷ [])
made_more whole before None name bytes is becomes = tt
made_more whole None (Some now) name bytes is becomes = absurd becomes
made_more whole (Some before) (Some now) name bytes is becomes =
    becomes ∙ ap (λ (made : Files). made ++ (name, bytes) ∷ []) is

-- one file of layers more
pub layers_more : (files : List LayerFile) (i : ℕ) (file : LayerFile) → i < length files → file ≡ get_or files i file
    → map file_of (take i files) ++ file_of file ∷ [] ≡ map file_of (take (i + 1) files)
layers_more files i file within is =
    sym (ap (λ (fs : List LayerFile). map file_of fs) (take_more files i file within)
    ∙ (map-append file_of (take i files) (get_or files i file ∷ [])
    ∙ ap (λ (f : LayerFile). map file_of (take i files) ++ file_of f ∷ []) (sym is)))
