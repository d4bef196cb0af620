-- The file of a name gives one sound triangulation, or one refusal.
use Rattle.std.proofs.Common.{ℕ, Bool, true, false, List, Result, Ok, Err, refl, sym, subst}
use Rattle.shelf_io.specs.Files.{Files}
use Rattle.sheet_base.specs.declared.flags.How.{How}
use Rattle.tin_base.specs.Triangulation.{Triangulation}
use Rattle.tin_base.specs.Soundness.{IsSound}
use Rattle.tin_base.proofs.FrameImages.Converse.{turned_sound}
use Rattle.tin_file.specs.TinFiles.{Answers}
use Rattle.tin_file.proofs.CallerLemmas.OneAnswer.{answer_is_one}
use Rattle.runs.specs.declared.refusal.Refusal.{Refusal}
use Rattle.runs.specs.declared.refusal.Refusal.TheVariants.{TinUnread, TinLong, Tin, Check}
use Rattle.runs.specs.Triangulations.{HasTin, HasDirected, directed_tin}
use Rattle.runs.specs.Laws.{IsTinEnd, TinEndIsOne}
use Rattle.runs.proofs.OneFile.{IsFileEnd, absent_end, too_long_end, read_end, sound_end, faulty_end, unsound_end, file_end_one}

file_end : (files : Files) (how : How) (name : List ℕ) (end : Result Triangulation Refusal)
    → IsTinEnd files how name end → IsFileEnd (λ (tin : Triangulation). tin) (Answers how) files name end
file_end files how name (Ok tin) (text, file, is) = read_end text file (sound_end tin refl is.read is.sound)
file_end files how name (Err TinUnread) is = absent_end refl is
file_end files how name (Err TinLong) is = too_long_end refl is
file_end files how name (Err (Tin why)) (text, file, is) =
    read_end text file (faulty_end why refl is.answers is.of_text)
file_end files how name (Err (Check why)) (text, file, is) =
    read_end text file (unsound_end why is.tin refl is.read is.first)
file_end files how name (Err refusal) is = absurd is

pub tin_end_is_one : TinEndIsOne
tin_end_is_one files how name end other is too =
    file_end_one (λ (tin : Triangulation). tin) (Answers how) (answer_is_one how) files name end other
    (file_end files how name end is) (file_end files how name other too)

-- ---- the triangulation of a file is sound, and stays so where its frames are exchanged
pub sound_of : (files : Files) (how : How) (name : List ℕ) (tin : Triangulation) → HasTin files how name tin
    → IsSound tin
sound_of files how name tin (text, file, is) = is.sound

pub sound_way : (inverse : Bool) (tin : Triangulation) → IsSound tin → IsSound (directed_tin inverse tin)
sound_way false tin sound = sound
sound_way true tin sound = turned_sound tin sound

pub way_sound : (files : Files) (how : How) (name : List ℕ) (inverse : Bool) (tin : Triangulation)
    → HasDirected files how name inverse tin → IsSound tin
way_sound files how name inverse tin (stood, has, is) =
    subst (λ (t : Triangulation). IsSound t) (sym is) (sound_way inverse stood (sound_of files how name stood has))
