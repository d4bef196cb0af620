-- Which word of words that are refused is wrong, or missing.
use Rattle.std.specs.Prelude.{◌≡◌, ◌≢◌, ◌⊎◌, ℕ, Bool, true, false, not, List, [], ◌∷◌, ◌++◌, codes, Option, Some, None}
use Rattle.std.specs.Prelude.{◌==◌, MatchOption, count_by, filter_map, find, if◌then◌else◌, slice_index_or}
use Rattle.std.specs.Option.{option_map, option_map_or}
use Rattle.std.specs.Str.{bytes_eq}
use Rattle.clap.specs.Walk.{Text}
use Rattle.job_words.specs.declared.limits.TheConstants.{MOST_LAYERS}
use Rattle.job_words.specs.declared.faults.Which.TheVariants.{Tin, Out, Layer, Source, Written, Certificate}
use Rattle.job_words.specs.declared.faults.WordsFault.{WordsFault}
use Rattle.job_words.specs.declared.faults.WordsFault.TheVariants.{Parse, Many, Name, Suffix, SameName}
use Rattle.job_words.specs.Modes.{mode_of}
use Rattle.remarks.specs.declared.flaw_lines.WordFlaw.{WordFlaw}
use Rattle.remarks.specs.declared.flaw_lines.WordFlaw.TheVariants.{NoMode, Unknown, Twice, NoValue, Missing}
use Rattle.remarks.specs.declared.flaw_lines.WordFlaw.TheVariants.{TooMany, Refused, Mode as NotMode}
use Rattle.run_notes.specs.WordForms.{Form, form_for, places_form}
use Rattle.run_notes.specs.WordUses.{Use, words_of_uses, begins_as_option, is_used, is_plain, has_end, is_full, takes_value}
use Rattle.run_notes.specs.WordUses.{is_flag, is_plain_behind, has_equals, AreUses}
use Rattle.run_notes.specs.WordUses.{InOneWord, InTwoWords, Plain}

-- the word names this option of the form: as it is written, or, where it takes a value, with a value after the first
-- `=`
abbrev pub Names : Form → Text → Text → Type 0
Names form word name = ((word ≡ name) × (is_flag form name ≡ true))
    ⊎ (((word ≡ name) × (takes_value form name ≡ true))
    ⊎ ((value : Text) × (word ≡ name ++ codes "=" ++ value) × (has_equals name ≡ false)
    × (takes_value form name ≡ true)))

-- the word begins as an option does, is not `--`, and names no option of the form
pub record IsUnknown (form : Form) (word : Text) : Type 0 where
  pub begins : begins_as_option word ≡ true
  pub not_end : word ≢ codes "--"
  pub none : (name : Text) → Names form word name → ⊥

-- no value is there: no word, or one that begins as an option does
abbrev pub lacks_value : List Text → Bool
lacks_value [] = true
lacks_value (word ∷ words) = begins_as_option word

-- After these uses the words begin with this flaw, and this is the word that is named. An option that is there already
-- is named for that alone, whether a value comes after it or not.
abbrev pub IsFlawHere : Form → List Use → List Text → WordFlaw → Text → Type 0
IsFlawHere form before words Unknown told =
    (has_end before ≡ false) × ((rest : List Text) × (words ≡ told ∷ rest)) × IsUnknown form told
IsFlawHere form before words Twice told =
    (has_end before ≡ false) × ((word : Text) × (rest : List Text) × (words ≡ word ∷ rest) × Names form word told)
    × (is_used told before ≡ true)
IsFlawHere form before words NoValue told =
    (has_end before ≡ false) × ((rest : List Text) × (words ≡ told ∷ rest) × (lacks_value rest ≡ true))
    × (takes_value form told ≡ true) × (is_used told before ≡ false)
IsFlawHere form before words TooMany told =
    ((rest : List Text) × (words ≡ told ∷ rest)) × (is_plain_behind before told ≡ true) × (is_full form before ≡ true)
IsFlawHere form before words flaw told = ⊥

-- the words are these uses of the form up to their first flaw, or all of them are, where they have none
abbrev pub IsReading : Form → List Text → List Use → Option (WordFlaw × Text) → Type 0
IsReading form words uses None = AreUses form uses × (words ≡ words_of_uses uses)
IsReading form words uses (Some flaw) = AreUses form uses
    × ((rest : List Text) × (words ≡ words_of_uses uses ++ rest) × IsFlawHere form uses rest flaw.0 flaw.1)

-- the text of a number among texts, from 0, or the empty text
abbrev pub text_at : ℕ → List Text → Text
text_at number texts = slice_index_or texts number []

-- the value of a use, where it is of the option with this name
abbrev pub value_in : Text → Use → Option Text
value_in name (InOneWord other value) = if bytes_eq other name then Some value else None
value_in name (InTwoWords other value) = if bytes_eq other name then Some value else None
value_in name one = None

-- the word of a use, where it is plain
abbrev pub word_in : Use → Option Text
word_in (Plain word) = Some word
word_in one = None

-- the value of the option with this name, or the empty text where none is there
abbrev pub value_of : Text → List Use → Text
value_of name uses = text_at 0 (filter_map (value_in name) uses)

-- the plain word of this number, or the empty text where it is not there
abbrev pub word_at : ℕ → List Use → Text
word_at number uses = text_at number (filter_map word_in uses)

-- the name of the layer of this number: a plain word, or, where none is there, as of a verification, the value of
-- `--source`
abbrev pub layer_name : ℕ → List Use → Text
layer_name layer uses = if count_by is_plain uses == 0 then value_of (codes "--source") uses else word_at layer uses

-- the word that a fault is about: the value of an option, or a plain word, the first one where the fault says no other
abbrev pub refused_word : WordsFault → List Use → Text
refused_word (Name Tin) uses = value_of (codes "--tin") uses
refused_word (Name Out) uses = value_of (codes "--out") uses
refused_word (Name Source) uses = value_of (codes "--source") uses
refused_word (Name Written) uses = value_of (codes "--written") uses
refused_word (Name Certificate) uses = value_of (codes "--cert") uses
refused_word (Name (Layer layer)) uses = word_at layer uses
refused_word (Suffix layer) uses = layer_name layer uses
refused_word (SameName layer) uses = word_at layer uses
refused_word Many uses = word_at MOST_LAYERS uses
refused_word fault uses = word_at 0 uses

-- the plain word that is missing, where one has to be there and none is
abbrev pub missing_word : Form → List Use → Option Text
missing_word form uses = if count_by is_plain uses == 0 then form.word else None

-- the first of these options that no use is of
abbrev pub first_unused : List Use → List (Text × Text) → Option (Text × Text)
first_unused uses options = find (λ option. not (is_used option.0 uses)) options

-- the first option with a value that no use is of, as it is written with its value, or else the plain word
abbrev pub missing : Form → List Use → Option Text
missing form uses = option_map_or (λ option. Some option.1) (first_unused uses form.valued) (missing_word form uses)

-- what is said of words that are refused for this fault: of words that the form does not have, their first flaw, or
-- else what is missing; for another fault that fault, with its word
abbrev pub finding : Form → WordsFault → List Use → Option (WordFlaw × Text) → Option (WordFlaw × Text)
finding form Parse uses (Some flaw) = Some flaw
finding form Parse uses None = option_map (λ told. (Missing, told)) (missing form uses)
finding form fault uses flaw = Some (Refused fault, refused_word fault uses)

-- of words of this form, refused for this fault, this is said
abbrev pub IsFoundIn : Form → List Text → WordsFault → Option (WordFlaw × Text) → Type 0
IsFoundIn form words fault found = (uses : List Use) × (flaw : Option (WordFlaw × Text))
    × IsReading form words uses flaw × (found ≡ finding form fault uses flaw)

-- of refused words of `tinmove`, whose first has to be a mode, this is said
abbrev pub IsFoundBehindMode : List Text → WordsFault → Option (WordFlaw × Text) → Type 0
IsFoundBehindMode [] fault found = found ≡ Some (NoMode, [])
IsFoundBehindMode (word ∷ words) fault found = MatchOption (mode_of word) (found ≡ Some (NotMode, word))
    (λ mode. IsFoundIn (form_for mode) words fault found)

-- of refused words of `tinmove`, or of `tinplaces`, which has no modes, this is said
abbrev pub IsFound : Bool → List Text → WordsFault → Option (WordFlaw × Text) → Type 0
IsFound true words fault found = IsFoundBehindMode words fault found
IsFound false words fault found = IsFoundIn places_form words fault found
