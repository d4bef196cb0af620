-- The grammar of lines, token by token, and the pass that follows it.
mod Rests
mod Items
pub mod Rings
mod GrammarTokens
mod AllowedTokens
pub mod Completions
pub mod LinePasses
