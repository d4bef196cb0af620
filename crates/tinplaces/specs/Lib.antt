-- The files of definitions of tinplaces.
pub mod Help
