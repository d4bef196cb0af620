-- Bytes at the end of the last file, over several writes.
use Rattle.std.proofs.Common.{suc, zero, map, length, slice_index_or, slice_set, string_bytes, Vec, Global, ◌≡◌, ◌+◌}
use Rattle.std.proofs.Common.{◌-◌, ◌≤◌, ℕ, List, [], ◌∷◌, ◌++◌, take, take-take, drop, Option, Some, None, Result, Ok}
use Rattle.std.proofs.Common.{Err, OnErr, refl, sym, ◌∙◌, ap, append-nil, append_assoc, arith}
use Rattle.shelf_io.specs.Files.{Files}
use Rattle.std.proofs.Math.Seq.{take-add}
use Rattle.shelf_io.specs.MemoryFile.{named_bytes}
use Rattle.shelf_io.specs.declared.mem_file.File.{File}
use Rattle.shelf_io.specs.Made.{Adds, Appends, Becomes, HasSameFiles, with_bytes, with_whole}

with_bytes-nil : (files : Files) → with_bytes [] files ≡ files
with_bytes-nil [] = refl
with_bytes-nil (file ∷ []) = ap (λ bytes. (file.0, bytes) ∷ []) (append-nil file.1)
with_bytes-nil (file ∷ next ∷ files) = ap (λ rest. file ∷ rest) (with_bytes-nil (next ∷ files))

-- bytes for the last of two files or more are bytes for the last of those after the first
with_bytes-later : (a b : List ℕ) (file next : List ℕ × List ℕ) (files : Files)
    → with_bytes b (file ∷ with_bytes a (next ∷ files)) ≡ file ∷ with_bytes b (with_bytes a (next ∷ files))
with_bytes-later a b file next [] = refl
with_bytes-later a b file next (third ∷ files) = refl

with_bytes-append : (a b : List ℕ) (files : Files) → with_bytes (a ++ b) files ≡ with_bytes b (with_bytes a files)
with_bytes-append a b [] = refl
with_bytes-append a b (file ∷ []) = ap (λ bytes. (file.0, bytes) ∷ []) (sym (append_assoc file.1 a b))
with_bytes-append a b (file ∷ next ∷ files) =
    ap (λ rest. file ∷ rest) (with_bytes-append a b (next ∷ files)) ∙ sym (with_bytes-later a b file next files)

pub Appends-nothing : (files : Option Files) → Appends files files []
Appends-nothing None = tt
Appends-nothing (Some files) = sym (with_bytes-nil files)

pub Appends-more : (before between now : Option Files) (a b : List ℕ) → Appends before between a → Appends between now b
    → Appends before now (a ++ b)
Appends-more before between None a b first second = tt
Appends-more before None (Some now) a b first second = absurd second
Appends-more None (Some between) (Some now) a b first second = absurd first
Appends-more (Some before) (Some between) (Some now) a b first second = second
    ∙ (ap (with_bytes b) first ∙ sym (with_bytes-append a b before))

-- the first part of a piece, and then a first part of the rest
pub front-more : (piece : List ℕ) (written count end : ℕ) → written + count ≤ end
    → take (written + count) piece ≡ take written piece ++ take count (take (end - written) (drop written piece))
front-more piece written count end within =
    take-add written count piece ∙ ap (λ bytes. take written piece ++ bytes)
    (sym (take-take count (end - written) (drop written piece) (omega arith)))

with_bytes-last : (bytes name front : List ℕ) (files : Files)
    → with_bytes bytes (files ++ (name, front) ∷ []) ≡ files ++ (name, front ++ bytes) ∷ []
with_bytes-last bytes name front (file ∷ next ∷ files) =
    ap (λ rest. file ∷ rest) (with_bytes-last bytes name front (next ∷ files))
with_bytes-last bytes name front files = refl

-- a file that is begun, written and kept is whole
pub printed : (before begun written now : Option Files) (name bytes : List ℕ) → Adds before begun name
    → Appends begun written bytes → HasSameFiles written now → Becomes (with_whole name bytes) before now
printed before begun written None name bytes adds appends kept = tt
printed before begun None (Some now) name bytes adds appends kept = absurd kept
printed before None (Some written) (Some now) name bytes adds appends kept = absurd appends
printed None (Some begun) (Some written) (Some now) name bytes adds appends kept = absurd adds
printed (Some before) (Some begun) (Some written) (Some now) name bytes adds appends kept =
    kept ∙ (appends ∙ (ap (with_bytes bytes) adds ∙ with_bytes-last bytes name [] before))

-- bytes written into the last file's place
pub with_bytes-place : (files : List File) (file : File) (now : Vec ℕ Global) (bytes : List ℕ) (n : ℕ)
    → length files ≡ suc n → now.items ≡ (slice_index_or files n file).bytes.items ++ bytes
    → map named_bytes (slice_set files n record { name = (slice_index_or files n file).name; bytes = now })
    ≡ with_bytes bytes (map named_bytes files)
with_bytes-place (first ∷ []) file now bytes zero long written = ap (λ all. (string_bytes first.name, all) ∷ []) written
with_bytes-place (first ∷ next ∷ files) file now bytes (suc n) long written =
    ap (λ rest. named_bytes first ∷ rest) (with_bytes-place (next ∷ files) file now bytes n (omega (arith, long))
    written)
with_bytes-place files file now bytes n long written = absurd (omega (arith, long))

pub kept-refl : (files : Option Files) → HasSameFiles files files
kept-refl None = tt
kept-refl (Some files) = refl

-- a fact that holds in any case
pub on_err_always : {T E P : Type 0} (r : Result T E) → P → OnErr r P
on_err_always (Ok value) p = tt
on_err_always (Err error) p = p
