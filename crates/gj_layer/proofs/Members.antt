-- Values and members by the numbers of their nodes.
pub mod There
pub mod MemberNames
pub mod TextMeanings
pub mod MemberFinds
pub mod ObjectTypes
