-- The files of lemmas of whole_runs.
mod OneOutcome
mod SomeOutcome
mod RunEnds
mod ReportLimits
mod WordsEnd
mod KeptRuns
mod WrittenEnds
mod MadeRuns
mod RunCauses
mod JobRefusals
mod SureEnds
