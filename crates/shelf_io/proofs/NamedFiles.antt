-- Files in memory, by their names.
use Rattle.std.proofs.Common.{◌≡◌, suc, zero, not, IfSome, ◌≤◌, ◌<◌, ◌+◌, ◌-◌, min, ℕ, Bool, true, false, List, [], ◌∷◌}
use Rattle.std.proofs.Common.{◌++◌, length, take, drop, map, Option, Some, None, Ok, is_some, slice_get, cond, refl}
use Rattle.std.proofs.Common.{sym, ◌∙◌, ap, arith, ◌↔◌, option_map, string_bytes}
use Rattle.std.proofs.lemmas.List.{length-map, nil_from_length, drop-drop, take-append-drop}
use Rattle.std.proofs.lemmas.Option.{slice_get-map}
use Rattle.std.proofs.Math.Seq.{take-append_seam}
use Rattle.std.specs.List.{position, position_from, position_or_len}
use Rattle.std.proofs.lemmas.Iterator.Adapters.{position_from-zero}
use Rattle.std.specs.Str.{bytes_eq}
use Rattle.std.proofs.lemmas.Slice.Eq.{bytes_eq-Decides}
use Rattle.std.proofs.lemmas.Bool.Decides.{same_from_decides}
use Rattle.shelf_io.specs.Files.{Files, bytes_of, number_of, AreDistinct}
use Rattle.shelf_io.specs.MemoryFile.{named_bytes}
use Rattle.shelf_io.specs.MemoryShelf.{rest_from}
use Rattle.shelf_io.specs.Shelf.{Begins, TakesFront}
use Rattle.shelf_io.specs.declared.mem_file.File.{File}

-- a file that was looked up is found by its number
pub number_of-named : (files : List File) (name : List ℕ)
    → position (λ file. bytes_eq (string_bytes file.name) name) files ≡ number_of (map named_bytes files) name
number_of-named files name = rw (places files name, length-map files named_bytes) refl
  where
    places : (files : List File) (name : List ℕ)
        → position_or_len (λ f. bytes_eq f.0 name) (map named_bytes files)
        ≡ position_or_len (λ f. bytes_eq (string_bytes f.name) name) files
    places [] name = refl
    places (file ∷ files) name = ap (λ later. cond (not (bytes_eq (string_bytes file.name) name)) (1 + later) 0)
        (places files name)

-- a place counted from one further is one further
position_from-later : {A : Type 0} (test : A → Bool) (first : ℕ) (xs : List A)
    → position_from test (first + 1) xs ≡ option_map suc (position_from test first xs)
position_from-later test first [] = refl
position_from-later test first (x ∷ xs) = here-or-later (test x) _ _ (position_from-later test (first + 1) xs)
  where
    here-or-later : (here : Bool) (later rest : Option ℕ) → later ≡ option_map suc rest
        → cond here (Some (first + 1)) later ≡ option_map suc (cond here (Some first) rest)
    here-or-later true later rest same = ap Some (omega arith)
    here-or-later false later rest same = same

-- among the files after one, numbers are one less
number_of-after : (file : List ℕ × List ℕ) (files : Files) (name : List ℕ)
    → number_of (file ∷ files) name ≡ cond (bytes_eq file.0 name) (Some 0) (option_map suc (number_of files name))
number_of-after file files name =
    let has = λ (f : List ℕ × List ℕ). bytes_eq f.0 name in
    position_from-zero has (file ∷ files) ∙ ap (λ later. cond (bytes_eq file.0 name) (Some 0) later)
    (position_from-later has 0 files ∙ ap (option_map suc) (sym (position_from-zero has files)))

-- the file of a number has these bytes, where there is a number
abbrev IsAt : Files → Option ℕ → Option (List ℕ) → Type 0
IsAt files number bytes = (rest_from files number 0 ≡ bytes) × (is_some number ≡ is_some bytes)

is_at-after : (here : Bool) (file : List ℕ × List ℕ) (files : Files) (number : Option ℕ) (bytes : Option (List ℕ))
    → IsAt files number bytes → IsAt (file ∷ files) (cond here (Some 0) (option_map suc number))
    (cond here (Some file.1) bytes)
is_at-after true file files number bytes at = (refl, refl)
is_at-after false file files None bytes at = at
is_at-after false file files (Some n) bytes at = at

-- the first file of a name has the bytes that the files have of that name
named-at : (files : Files) (name : List ℕ) → IsAt files (number_of files name) (bytes_of files name)
named-at [] name = (refl, refl)
named-at (file ∷ files) name = rw number_of-after
    (is_at-after (bytes_eq file.0 name) file files (number_of files name) (bytes_of files name) (named-at files name))

-- what a look-up by name begins
begins_by : (files : Files) (name : List ℕ) (here : Option (List ℕ)) → bytes_of files name ≡ here
    → Begins (Some files) name here (Ok (is_some here))
begins_by files name None is = is
begins_by files name (Some bytes) is = (bytes, is, refl)

-- a file that was looked up is at hand, from its front
pub begins_found : (files : Files) (name : List ℕ)
    → Begins (Some files) name (rest_from files (number_of files name) 0) (Ok (is_some (number_of files name)))
begins_found files name = rw ((named-at files name).0, (named-at files name).1)
    (begins_by files name (bytes_of files name) refl)

-- what is left of a file from a place on
rest_from-there : (files : List File) (number place : ℕ) (file : File) → slice_get files number ≡ Some file
    → rest_from (map named_bytes files) (Some number) place ≡ Some (drop place file.bytes.items)
rest_from-there files number place file is = rw (slice_get-map, is) refl

-- a read from a place of a file takes what is there
pub takes_there : (files : List File) (number place count : ℕ) (file : File) (copied after : List ℕ)
    → slice_get files number ≡ Some file → copied ≡ take count (drop place file.bytes.items) → length copied ≡ count
    → ((count ≡ 0) ↔ (drop place file.bytes.items ≡ []))
    → TakesFront (rest_from (map named_bytes files) (Some number) place)
    (rest_from (map named_bytes files) (Some number) (place + count)) count (copied ++ after)
takes_there files number place count file copied after is same size ended =
    rw (rest_from-there files number place file is, rest_from-there files number (place + count) file is)
    (drop (place + count) file.bytes.items, refl, whole, ended)
  where
    front : take count (copied ++ after) ≡ take count (drop place file.bytes.items)
    front = ap (λ n. take n (copied ++ after)) (sym size) ∙ (take-append_seam copied after ∙ same)

    whole : take count (copied ++ after) ++ drop (place + count) file.bytes.items ≡ drop place file.bytes.items
    whole = rw (front, ← drop-drop count place file.bytes.items) (take-append-drop count (drop place file.bytes.items))

-- nothing is given exactly at the end
pub none_at_end : (bytes buf : List ℕ) (place most count : ℕ) → 0 < length buf → 0 < most
    → count ≡ min (min (length (drop place bytes)) (length buf)) most → (count ≡ 0) ↔ (drop place bytes ≡ [])
none_at_end bytes buf place most count room gives is = (
  λ zero. nil_from_length (drop place bytes) (omega arith),
  λ ended. let empty =
      ap length ended in omega (arith, is, empty),
)

bytes_eq-other : (a b : List ℕ) → bytes_eq a b ≡ false → bytes_eq b a ≡ false
bytes_eq-other a b differs =
    let other = bytes_eq-Decides a b in
    same_from_decides (bytes_eq b a) (bytes_eq a b) (bytes_eq-Decides b a)
    (λ same. sym (other.0 same), λ same. other.1 (sym same)) ∙ differs

-- a file at the end is not found by another name
bytes_of-append : (files : Files) (name other bytes : List ℕ) → bytes_of files other ≡ None
    → bytes_eq name other ≡ false → bytes_of (files ++ (name, bytes) ∷ []) other ≡ None
bytes_of-append [] name other bytes none differs = rw differs refl
bytes_of-append (file ∷ files) name other bytes none differs =
    past (bytes_eq file.0 other) none (λ none. bytes_of-append files name other bytes none differs)
  where
    past : (here : Bool) → cond here (Some file.1) (bytes_of files other) ≡ None
        → (bytes_of files other ≡ None → bytes_of (files ++ (name, bytes) ∷ []) other ≡ None)
        → cond here (Some file.1) (bytes_of (files ++ (name, bytes) ∷ []) other) ≡ None
    past true none later = cc
    past false none later = later none

pub AreDistinct-append : (files : Files) (name bytes : List ℕ) → AreDistinct files → bytes_of files name ≡ None
    → AreDistinct (files ++ (name, bytes) ∷ [])
AreDistinct-append [] name bytes distinct none = (refl, tt)
AreDistinct-append (file ∷ files) name bytes distinct none = past (bytes_eq file.0 name) refl none
    (λ differs. bytes_of-append files name file.0 bytes distinct.0 (bytes_eq-other file.0 name differs))
    (λ none. AreDistinct-append files name bytes distinct.1 none)
  where
    past : (here : Bool) → bytes_eq file.0 name ≡ here → cond here (Some file.1) (bytes_of files name) ≡ None
        → (bytes_eq file.0 name ≡ false → bytes_of (files ++ (name, bytes) ∷ []) file.0 ≡ None)
        → (bytes_of files name ≡ None → AreDistinct (files ++ (name, bytes) ∷ []))
        → AreDistinct (file ∷ (files ++ (name, bytes) ∷ []))
    past true is none first rest = cc
    past false is none first rest = (first is, rest none)

-- the bytes of a file that was looked up
pub bytes_of-number : (files : List File) (name : List ℕ) (number : ℕ) (file : File)
    → number_of (map named_bytes files) name ≡ Some number → slice_get files number ≡ Some file
    → bytes_of (map named_bytes files) name ≡ Some file.bytes.items
bytes_of-number files name number file is there =
    sym (named-at (map named_bytes files) name).0
    ∙ (ap (λ n. rest_from (map named_bytes files) n 0) is ∙ rest_from-there files number 0 file there)

pub bytes_of-none : (files : Files) (name : List ℕ) → number_of files name ≡ None → bytes_of files name ≡ None
bytes_of-none files name is = none_from (bytes_of files name) (sym (named-at files name).1 ∙ ap is_some is)
  where
    none_from : (bytes : Option (List ℕ)) → is_some bytes ≡ false → bytes ≡ None
    none_from None is_none = refl
    none_from (Some bytes) is_none = cc

-- what is at the end is not seen before it
slice_get-append : (files more : List File) (number : ℕ) → number < length files
    → slice_get (files ++ more) number ≡ slice_get files number
slice_get-append [] more number within = absurd (omega (arith, within))
slice_get-append (file ∷ files) more zero within = refl
slice_get-append (file ∷ files) more (suc number) within = slice_get-append files more number (omega (arith, within))

-- a place in a file is a place in it when another file is added
pub place-append : (files : List File) (file : File) (at_hand : Option ℕ) (place : ℕ)
    → IfSome at_hand (λ number. number < length files)
    → IfSome at_hand (λ number. IfSome (slice_get files number) (λ f. place ≤ length f.bytes.items))
    → IfSome at_hand (λ number. IfSome (slice_get (files ++ file ∷ []) number) (λ f. place ≤ length f.bytes.items))
place-append files file None place within there = tt
place-append files file (Some number) place within there = rw (slice_get-append files (file ∷ []) number within) there
