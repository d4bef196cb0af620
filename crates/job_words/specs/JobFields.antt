-- What each job of words keeps.
use Rattle.std.specs.Prelude.{◌≡◌, ◌≢◌, ◌≤◌, true, List, [], ◌∷◌, length, map, is_some}
use Rattle.std.specs.List.{AllByRecursion}
use Rattle.clap.specs.Walk.{Text}
use Rattle.job_words.specs.declared.limits.TheConstants.{MOST_LAYERS, MOST_SIZE}
use Rattle.job_words.specs.declared.jobs.Job.{Job}
use Rattle.job_words.specs.declared.jobs.Job.TheVariants.{Migrate, Check, Make, Verify, Heights}
use Rattle.job_words.specs.Names.{part_behind_slashes}
use Rattle.job_words.specs.Formats.{format_by_name}

-- a name is not empty, and no byte of it is below 32
pub record IsName (name : Text) : Type 0 where
  pub some : name ≢ []
  pub printable : AllByRecursion (λ byte. 32 ≤ byte) name

-- a name ends as that of a format
abbrev pub HasFormat : Text → Type 0
HasFormat name = is_some (format_by_name name) ≡ true

-- no two texts are equal
abbrev pub AreDistinct : List Text → Type 0
AreDistinct [] = Unit {0}
AreDistinct (text ∷ texts) = AllByRecursion (λ other. other ≢ text) texts × AreDistinct texts

-- the names of a migration may be taken, each layer has a format, and no two of them are written into one file
pub record AreMigrationNames (tin out : Text) (layers : List Text) : Type 0 where
  pub tin_named : IsName tin
  pub out_named : IsName out
  pub few : length layers ≤ MOST_LAYERS
  pub layers_named : AllByRecursion IsName layers
  pub formats : AllByRecursion HasFormat layers
  pub distinct : AreDistinct (map part_behind_slashes layers)

-- the names of a verification may be taken, and the source has a format
pub record AreVerificationNames (tin source written cert : Text) : Type 0 where
  pub tin_named : IsName tin
  pub source_named : IsName source
  pub written_named : IsName written
  pub cert_named : IsName cert
  pub format : HasFormat source

-- the names of a list of points with heights may be taken
pub record AreHeightsNames (tin out points : Text) : Type 0 where
  pub tin_named : IsName tin
  pub out_named : IsName out
  pub points_named : IsName points

-- what a job keeps, whatever words it comes from
abbrev pub IsPossibleJob : Job → Type 0
IsPossibleJob (Migrate tin out how inverse cert sides layers) = AreMigrationNames tin out layers
IsPossibleJob (Check tin how) = IsName tin
IsPossibleJob (Make n) = (1 ≤ n) × (n ≤ MOST_SIZE)
IsPossibleJob (Verify tin source written cert how inverse) = AreVerificationNames tin source written cert
IsPossibleJob (Heights tin out how points) = AreHeightsNames tin out points
