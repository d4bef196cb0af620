-- Values, elements and members of the document by the numbers of their nodes.
pub mod There
pub mod Walks
pub mod MemberFinds
pub mod Loops
pub mod Sequels
pub mod Texts
pub mod SpelledTexts
pub mod TopValue
