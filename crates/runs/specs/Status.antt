-- The number with which a process ends, and the status of a run that has written all.
use Rattle.std.specs.Prelude.{ℕ, Bool, true, false}
use Rattle.runs.specs.declared.status.Status.{Status}
use Rattle.runs.specs.declared.status.Status.TheVariants.{Same, Changed, Words, Tin, Layer, Outside, Read, Write}
use Rattle.runs.specs.declared.status.Status.TheVariants.{Memory, Limit, Uncertified}

abbrev pub code_of : Status → ℕ
code_of Same = 0
code_of Changed = 1
code_of Words = 2
code_of Tin = 3
code_of Layer = 4
code_of Outside = 5
code_of Read = 6
code_of Write = 7
code_of Memory = 8
code_of Limit = 9
code_of Uncertified = 10

-- how a run ends that has written all: by whether it lists a change or a change of sides
abbrev pub end_of : Bool → Status
end_of true = Changed
end_of false = Same
