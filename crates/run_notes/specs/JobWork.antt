-- What a run does for a job with the files after the triangulation.
use Rattle.std.specs.Prelude.{Bool, length, Option, None, Some}
use Rattle.job_words.specs.declared.jobs.Job.{Job}
use Rattle.job_words.specs.declared.jobs.Job.TheVariants.{Migrate, Check, Make, Verify, Heights}
use Rattle.run_steps.specs.declared.step_lines.Work.{Work}
use Rattle.run_steps.specs.declared.step_lines.Work.TheVariants.{CarryLayers, VerifyLayer, MovePoints}

-- a migration carries its layers, written or not, and a check reads no other file; a map that is made is in no file
abbrev pub work_of : Bool → Job → Work
work_of are_written (Migrate tin out how inverse cert sides layers) = CarryLayers (length layers) are_written
work_of are_written (Check tin how) = CarryLayers 0 are_written
work_of are_written (Make n) = CarryLayers 0 are_written
work_of are_written (Verify tin source written cert how inverse) = VerifyLayer
work_of are_written (Heights tin out how points) = MovePoints

-- that of a job, or of words that give none: these carry no layer
abbrev pub work_of_words : Bool → Option Job → Work
work_of_words are_written None = CarryLayers 0 are_written
work_of_words are_written (Some job) = work_of are_written job
