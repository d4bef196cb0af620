-- The files of lemmas of fault_runs.
mod MoreFeatures
mod WordsOfCheck
mod SpotPlaces
mod FaultSpellings
mod FaultsValid
mod FaultsJson
mod RunEnds
mod TextLimits
mod OneOutcome
mod SomeOutcome
