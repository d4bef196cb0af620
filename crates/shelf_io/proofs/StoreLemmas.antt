-- Files as lengths of names and contents in one text.
use Rattle.std.proofs.Common.{◌≡◌, suc, zero, ◌≤◌, ◌<◌, ◌+◌, ℕ, List, [], ◌∷◌, ◌++◌, length, take, drop, slice_index_or}
use Rattle.std.proofs.Common.{slice_set, refl, sym, ap, arith}
use Rattle.std.proofs.lemmas.List.{take-append-le, drop-append-le, nil_from_length, length-drop}
use Rattle.std.proofs.Math.Seq.{take-length, take-append-add}
use Rattle.shelf_io.specs.Made.{with_bytes}
use Rattle.shelf_io.specs.FileStoreFields.{files_in, length_of}
use Rattle.shelf_io.specs.declared.store.Part.{Part}

pub length_of-append : (parts : List Part) (name : ℕ)
    → length_of (parts ++ record { name = name; content = 0 } ∷ []) ≡ length_of parts + name
length_of-append [] name = omega arith
length_of-append (part ∷ parts) name = let later = length_of-append parts name in omega (arith, later)

-- a text of names and contents, with a name after it, has an empty file after the others
pub files_in-file : (parts : List Part) (text name : List ℕ) → length_of parts ≡ length text
    → files_in (parts ++ record { name = length name; content = 0 } ∷ []) (text ++ name) ≡ files_in parts text
    ++ (name, []) ∷ []
files_in-file [] text name whole = rw (nil_from_length text (sym whole), take-length name) refl
files_in-file (part ∷ parts) text name whole =
    let named : part.name ≤ length text = omega (arith, whole) in
    let long = length-drop part.name text in
    let rest : part.content ≤ length (drop part.name text) = omega (arith, whole, long) in
    let longer = length-drop part.content (drop part.name text) in
    rw (
      take-append-le part.name text name named,
      drop-append-le part.name text name named,
      take-append-le part.content
          (drop part.name text) name rest,
      drop-append-le part.content (drop part.name text) name rest,
    )
    (ap (λ later. (take part.name text, take part.content (drop part.name text)) ∷ later)
    (files_in-file parts (drop part.content (drop part.name text)) name (omega (arith, whole, long, longer))))

-- this many more bytes in the content of one part
pub length_of-more : (parts : List Part) (n more : ℕ) (part : Part) → n < length parts
    → length_of (slice_set parts n record {
      name = (slice_index_or parts n part).name;
      content =
          (slice_index_or parts n part).content + more;
    }) ≡ length_of parts + more
length_of-more [] n more part within = absurd (omega (arith, within))
length_of-more (first ∷ parts) zero more part within = omega arith
length_of-more (first ∷ parts) (suc n) more part within = let later =
    length_of-more parts n more part (omega (arith, within)) in omega (arith, later)

-- a part is no longer than the whole
pub part-within : (parts : List Part) (n : ℕ) (part : Part) → n < length parts
    → (slice_index_or parts n part).content ≤ length_of parts
part-within [] n part within = absurd (omega (arith, within))
part-within (first ∷ parts) zero part within = omega arith
part-within (first ∷ parts) (suc n) part within = let later =
    part-within parts n part (omega (arith, within)) in omega (arith, later)

-- bytes after a text are bytes after the content of its last part
pub files_in-bytes : (parts : List Part) (n : ℕ) (part : Part) (text bytes : List ℕ) → length parts ≡ suc n
    → length_of parts ≡ length text → files_in
    (slice_set parts n record {
      name = (slice_index_or parts n part).name;
      content =
          (slice_index_or parts n part).content + length bytes;
    }) (text ++ bytes) ≡ with_bytes bytes (files_in parts text)
files_in-bytes [] n part text bytes long whole = absurd (omega (arith, long))
files_in-bytes (first ∷ []) (suc n) part text bytes long whole = absurd (omega (arith, long))
files_in-bytes (first ∷ next ∷ parts) zero part text bytes long whole = absurd (omega (arith, long))
files_in-bytes (first ∷ []) zero part text bytes long whole =
    let named : first.name ≤ length text = omega (arith, whole) in
    let content = drop first.name text in
    let left = length-drop first.name text in
    let size : length content ≡ first.content = omega (arith, whole, left) in
    rw (
      take-append-le first.name text bytes named,
      drop-append-le first.name text bytes named,
      ← size,
      take-append-add
          content bytes (length bytes),
      take-length bytes,
      take-length content,
    )
    refl
files_in-bytes (first ∷ next ∷ parts) (suc n) part text bytes long whole =
    let named : first.name ≤ length text = omega (arith, whole) in
    let left = length-drop first.name text in
    let content : first.content ≤ length (drop first.name text) = omega (arith, whole, left) in
    let last = length-drop first.content (drop first.name text) in
    rw (
      take-append-le first.name text bytes named,
      drop-append-le first.name text bytes named,
      take-append-le
          first.content (drop first.name text) bytes content,
      drop-append-le first.content (drop first.name text) bytes
          content,
    )
    (ap (λ later. (take first.name text, take first.content (drop first.name text)) ∷ later)
    (files_in-bytes (next ∷ parts) n part (drop first.content (drop first.name text)) bytes (omega (arith, long))
    (omega (arith, whole, left, last))))

-- there are as many files as parts
pub length-files_in : (parts : List Part) (text : List ℕ) → length (files_in parts text) ≡ length parts
length-files_in [] text = refl
length-files_in (part ∷ parts) text = ap suc (length-files_in parts (drop part.content (drop part.name text)))
