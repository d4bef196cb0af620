-- The files of definitions of number_groups.
pub mod Groups
pub mod FlatLists
pub mod GroupFields
pub mod InsideSorts
