-- The files of lemmas of run_notes; callers need none.
mod TextCounts
mod EditStarts
mod FrequentKinds
mod KindsOnLines
mod DroppedKinds
mod FoundKinds
mod RefusedSubstitutes
mod LeastBoxes
mod FormsFound
mod UseLists
mod WordCuts
mod ListRests
