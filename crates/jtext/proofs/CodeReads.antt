-- What the code reads, a byte, a token or a character further on.
pub mod Pieces
pub mod Tokens
pub mod Reaches
pub mod UnitLaws
pub mod CharacterSteps
