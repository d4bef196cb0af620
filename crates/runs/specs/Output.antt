-- What is ready to be written.
use Rattle.std.specs.Prelude.{◌≢◌, ℕ, List, [], ◌∷◌, ◌++◌, map, codes, string_bytes, Contains}
use Rattle.std.specs.List.{AllByRecursion}
use Rattle.shelf_io.specs.Files.{Files}
use Rattle.job_words.specs.Names.{part_behind_slashes}
use Rattle.runs.specs.declared.status.Status.{Status}
use Rattle.runs.specs.declared.output.LayerFile.{LayerFile}
use Rattle.runs.specs.declared.output.RunOutput.{RunOutput}
use Rattle.runs.specs.Status.{end_of}

abbrev pub file_of : LayerFile → List ℕ × List ℕ
file_of file = (string_bytes file.name, file.text)

-- the layers' files and then the text on standard output
abbrev pub files_of : RunOutput → Files
files_of written = map file_of written.layers.items ++ (codes "-", written.said) ∷ []

-- the name of the file into which a layer is written: its last part, in the folder
abbrev pub name_in : List ℕ → List ℕ → List ℕ
name_in folder layer = folder ++ codes "/" ++ part_behind_slashes layer

-- the name has a slash
abbrev pub HasSlash : List ℕ → Type 0
HasSlash name = Contains name 47

-- each file is in a folder, and no two have the same name
abbrev pub AreWritable : Files → Type 0
AreWritable [] = Unit {0}
AreWritable (file ∷ files) = HasSlash file.0 × AllByRecursion (λ other. other.0 ≢ file.0) files × AreWritable files

-- what is ready may be written, and its layers' files, its text and its status are as they are to be
pub record HasForm (is_written : Files → List ℕ → Status → Type 0) (written : RunOutput) : Type 0 where
  pub writable : AreWritable (map file_of written.layers.items)
  pub is_of : is_written (map file_of written.layers.items) written.said (end_of written.changed)
