-- The words of a run: the name of a database, and that of a script.
use Rattle.std.specs.Prelude.{◌≡◌, ℕ, ◌<◌, ◌≤◌, List, [], ◌∷◌, length}
use Rattle.std.specs.List.{AllByRecursion}

-- not empty, and without a byte below 32
pub record IsName (word : List ℕ) : Type 0 where
  pub some : 0 < length word
  pub printable : AllByRecursion (λ byte. 32 ≤ byte) word

-- two names, whose second one is this one
pub record AreNames (words : List (List ℕ)) (script : List ℕ) : Type 0 where
  pub database : List ℕ
  pub two : words ≡ database ∷ script ∷ []
  pub first : IsName database
  pub second : IsName script
