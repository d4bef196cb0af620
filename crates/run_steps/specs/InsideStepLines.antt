-- What the lines on the steps of a run say. Only private functions speak of it.
use Rattle.std.specs.Prelude.{ℕ, ◌+◌, ◌-◌, ◌*◌, ◌/◌, min, Bool, nat_lt, if◌then◌else◌, ◌==◌, List, [], ◌++◌}
use Rattle.std.specs.Prelude.{codes, decimal, Option, None, Some}
use Rattle.std.specs.Option.{option_map}
use Rattle.shelf_io.specs.Count.{count_after}
use Rattle.shown_text.specs.Texts.{shown_of}
use Rattle.run_steps.specs.declared.step_lines.Doing.{Doing}
use Rattle.run_steps.specs.declared.step_lines.Doing.TheVariants.{Reading, Checking, Carrying, Comparing, Moving}
use Rattle.run_steps.specs.declared.step_lines.Doing.TheVariants.{Writing}
use Rattle.run_steps.specs.declared.step_lines.RunStep.{RunStep}
use Rattle.run_steps.specs.declared.step_lines.Work.{Work}
use Rattle.run_steps.specs.declared.step_lines.Work.TheVariants.{CarryLayers, VerifyLayer, MovePoints}
use Rattle.run_steps.specs.declared.step_lines.TheConstants.{TICK}

-- the triangulation is read and checked. Then each layer is read, carried and, where that is so, written; or three
-- files are read, and then compared; or the points are read, moved and written
abbrev pub count_of : Work → ℕ
count_of (CarryLayers layers are_written) = count_after (layers * (if are_written then 3 else 2)) 2
count_of VerifyLayer = 2 + 3 + 1
count_of MovePoints = 2 + 3

-- after the last layer all are compared
abbrev pub comparing_text_of : Bool → List ℕ
comparing_text_of is_last = if is_last then codes ", then comparing" else []

abbrev pub doing_text_of : Doing → List ℕ
doing_text_of (Reading name) = codes "reading " ++ shown_of name.now
doing_text_of Checking = codes "checking the triangulation"
doing_text_of (Carrying layer layers) = codes "carrying layer " ++ decimal layer ++ codes " ("
    ++ decimal (count_after layer 1) ++ codes " of " ++ decimal layers ++ codes ")"
    ++ comparing_text_of (count_after layer 1 == layers)
doing_text_of Comparing = codes "comparing"
doing_text_of Moving = codes "moving the points"
doing_text_of (Writing name) = codes "writing " ++ shown_of name.now

-- a step by its number, counted from 1
abbrev pub step_text_of : RunStep → List ℕ
step_text_of step = codes "step " ++ decimal step.number ++ codes " of " ++ decimal (count_of step.work) ++ codes ": "
    ++ doing_text_of step.doing

-- ---- the steps that are said
-- what is done after the end of a file, counted from 0 without the triangulation's. A layer is carried after its own
-- file, and points are moved after theirs. A written layer is compared only after the last of its three files
abbrev pub doing_with : Work → ℕ → Option Doing
doing_with (CarryLayers layers are_written) file = Some (Carrying file layers)
doing_with VerifyLayer file = if nat_lt file 2 then None else Some Comparing
doing_with MovePoints file = Some Moving

-- what is done after the end of the file that was begun as this one, counted from 1. The first is the triangulation's
abbrev pub doing_behind : Work → ℕ → Option Doing
doing_behind work begun = if nat_lt begun 2 then Some Checking else doing_with work (begun - 2)

-- after how many of the files before this one something is done: after each, or after the triangulation alone
abbrev pub done_before : Work → ℕ → ℕ
done_before (CarryLayers layers are_written) before = before
done_before VerifyLayer before = min before 1
done_before MovePoints before = before

-- each file is read in a step of its own, and what is done after it is one step more
abbrev pub number_of_reading_of : Work → ℕ → ℕ
number_of_reading_of work begun = count_after begun (done_before work (begun - 1))

-- all layers are carried before the first is written, and points are written in the last step
abbrev pub number_of_writing_of : Work → ℕ → ℕ
number_of_writing_of (CarryLayers layers are_written) begun = count_after (layers * 2 + 2) begun
number_of_writing_of work begun = count_of work

-- what is said after the end of a file that was begun as this one, if anything is
abbrev pub step_behind : Work → ℕ → Option RunStep
step_behind work begun = option_map
    (λ doing. record { number = count_after (number_of_reading_of work begun) 1; work = work; doing = doing })
    (doing_behind work begun)

-- a point for the ticks that are passed from a count of bytes to another
abbrev pub point_of : ℕ → ℕ → List ℕ
point_of before now = if nat_lt (before / TICK) (now / TICK) then codes "." else []
