-- What the calls of a press do to the files that it made. A press may state them, and may stop stating them:
-- each clause holds where they are stated before and after.
use Rattle.std.specs.Prelude.{◌≡◌, ◌⊎◌, ◌≤◌, ℕ, List, [], ◌∷◌, ◌++◌, length, take, Option, Some, None, IfSome}
use Rattle.shelf_io.specs.Files.{Files, bytes_of}

-- no file that was made has this name
abbrev pub Lacks : Option Files → List ℕ → Type 0
Lacks made name = IfSome made (λ files. bytes_of files name ≡ None)

-- where the files are stated now, they were stated before, and now are what the step makes of them
abbrev pub Becomes : (Files → Files) → Option Files → Option Files → Type 0
Becomes step before None = Unit {0}
Becomes step None (Some now) = ⊥
Becomes step (Some files) (Some now) = now ≡ step files

-- an empty file of this name is the last
abbrev pub with_file : List ℕ → Files → Files
with_file name files = files ++ (name, []) ∷ []

-- the last file has these bytes at its end
abbrev pub with_bytes : List ℕ → Files → Files
with_bytes bytes [] = []
with_bytes bytes (file ∷ []) = (file.0, file.1 ++ bytes) ∷ []
with_bytes bytes (file ∷ next ∷ files) = file ∷ with_bytes bytes (next ∷ files)

abbrev pub Adds : Option Files → Option Files → List ℕ → Type 0
Adds before now name = Becomes (with_file name) before now

abbrev pub Appends : Option Files → Option Files → List ℕ → Type 0
Appends before now bytes = Becomes (with_bytes bytes) before now

abbrev pub HasSameFiles : Option Files → Option Files → Type 0
HasSameFiles before now = Becomes (λ files. files) before now

-- the last file has a first part of these bytes at its end
abbrev pub AppendsFront : Option Files → Option Files → List ℕ → Type 0
AppendsFront before now bytes = (count : ℕ) × (count ≤ length bytes) × Appends before now (take count bytes)

-- a whole file of this name and these bytes is the last
abbrev pub with_whole : List ℕ → List ℕ → Files → Files
with_whole name bytes files = files ++ (name, bytes) ∷ []

-- a file of this name was not begun, or has a first part of these bytes
abbrev pub PrintsFront : Option Files → Option Files → List ℕ → List ℕ → Type 0
PrintsFront before now name bytes =
    HasSameFiles before now ⊎ ((count : ℕ) × Becomes (with_whole name (take count bytes)) before now)
