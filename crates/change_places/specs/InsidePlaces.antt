-- Where the first edit of each number begins, how long what is copied is, and the two parts of a key. Only private
-- functions speak of it.
use Rattle.std.specs.Prelude.{◌≡◌, ℕ, ◌+◌, ◌<◌, List, [], codes, length, get_or, Option, None, Some, if◌then◌else◌}
use Rattle.std.specs.Option.{option_or}
use Rattle.sheet_base.specs.declared.edits.Edit.{Edit}
use Rattle.sheet_base.specs.declared.edits.What.{What}
use Rattle.sheet_base.specs.EditStarts.{path_of, point_of, is_number, first_start}
use Rattle.change_places.specs.declared.path_starts.Key.{Key}
use Rattle.change_places.specs.declared.path_starts.Key.TheVariants.{Path, Point}
use Rattle.change_places.specs.declared.keys.KeyWord.{KeyWord}
use Rattle.change_places.specs.declared.keys.KeyWord.TheVariants.{First, Second, Ring, Point as PointWord}
use Rattle.change_places.specs.declared.keys.Suffix.{Suffix}
use Rattle.change_places.specs.declared.keys.Suffix.TheVariants.{Bare, Layer, At, Feature, Id, Name}
use Rattle.change_places.specs.Words.{PathText}
use Rattle.change_places.specs.PlacesText.{label_text, copied_text}

abbrev pub number_by : Key → What → Option ℕ
number_by Path = path_of
number_by Point = point_of

-- for each number below the count where the first edit of this number begins
pub record AreFirsts (key : Key) (edits : List Edit) (count : ℕ) (starts : List (Option ℕ)) : Type 0 where
  pub count_is : length starts ≡ count
  pub each : (number : ℕ) → number < count → get_or starts number None ≡ first_start (number_by key) number edits

-- the start is at the number that is named, unless one was there, and all others are as before
pub record PutsStart (named : Option ℕ) (start : ℕ) (before now : List (Option ℕ)) : Type 0 where
  pub count_is : length now ≡ length before
  pub each : (number : ℕ) → number < length before
      → get_or now number None ≡ option_or (get_or before number None)
      (if is_number number named then Some start else None)

-- how many bytes the name of a path's feature, its id and the member that is asked for have
abbrev pub copied_length : PathText → ℕ
copied_length path = length (label_text path.feature) + length (copied_text path.id) + length (copied_text path.name)

-- the first part of a key
abbrev pub word_codes : KeyWord → List ℕ
word_codes First = codes "first"
word_codes Second = codes "second"
word_codes Ring = codes "ring"
word_codes PointWord = codes "point"

-- and the second
abbrev pub suffix_codes : Suffix → List ℕ
suffix_codes Bare = []
suffix_codes Layer = codes "_layer"
suffix_codes At = codes "_at"
suffix_codes Feature = codes "_feature"
suffix_codes Id = codes "_id"
suffix_codes Name = codes "_name"
