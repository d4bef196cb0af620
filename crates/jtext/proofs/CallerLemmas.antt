-- For the crates above: answers, nodes, members, texts and numbers of a text that was read.
pub mod Exclusion
pub mod Outcomes
pub mod NodePlaces
pub mod SameTexts
pub mod TextNodes
pub mod MemberLoops
pub mod OneValue
pub mod DecimalTexts
