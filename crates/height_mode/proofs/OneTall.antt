-- The file of a name gives one sound triangulation with offsets, or one refusal.
use Rattle.std.proofs.Common.{◌≡◌, ℕ, List, Result, Ok, Err, refl}
use Rattle.shelf_io.specs.Files.{Files}
use Rattle.sheet_base.specs.declared.flags.How.{How}
use Rattle.tin_file.specs.TallFiles.{TallAnswers}
use Rattle.tin_file.specs.declared.tall_files.Tall.{Tall}
use Rattle.tin_file.proofs.CallerLemmas.OneAnswer.{tall_answer_is_one}
use Rattle.runs.specs.declared.refusal.Refusal.{Refusal}
use Rattle.runs.specs.declared.refusal.Refusal.TheVariants.{TinUnread, TinLong, Tin, Check}
use Rattle.runs.proofs.OneFile.{IsFileEnd, absent_end, too_long_end, read_end, sound_end, faulty_end, unsound_end, file_end_one}
use Rattle.height_mode.specs.Talls.{HasTall, IsTallRefused}

-- how the loading ends, where no call of the outside fails and memory does not run out
abbrev pub IsTallEnd : Files → How → List ℕ → Result Tall Refusal → Type 0
IsTallEnd files how name (Ok tall) = HasTall files how name tall
IsTallEnd files how name (Err refusal) = IsTallRefused files how name refusal

file_end : (files : Files) (how : How) (name : List ℕ) (end : Result Tall Refusal)
    → IsTallEnd files how name end → IsFileEnd (λ (tall : Tall). tall.tin) (TallAnswers how) files name end
file_end files how name (Ok tall) (text, file, is) = read_end text file (sound_end tall refl is.read is.sound)
file_end files how name (Err TinUnread) is = absent_end refl is
file_end files how name (Err TinLong) is = too_long_end refl is
file_end files how name (Err (Tin why)) (text, file, is) =
    read_end text file (faulty_end why refl is.answers is.of_text)
file_end files how name (Err (Check why)) (text, file, is) =
    read_end text file (unsound_end why is.tall refl is.read is.first)
file_end files how name (Err refusal) is = absurd is

pub tall_end_one : (files : Files) (how : How) (name : List ℕ) (a b : Result Tall Refusal)
    → IsTallEnd files how name a → IsTallEnd files how name b → a ≡ b
tall_end_one files how name a b x y =
    file_end_one (λ (tall : Tall). tall.tin) (TallAnswers how) (tall_answer_is_one how) files name a b
    (file_end files how name a x) (file_end files how name b y)
