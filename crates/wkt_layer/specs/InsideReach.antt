-- What the tokens of a line lead to that were read so far. Only private functions speak of it.
use Rattle.std.specs.Prelude.{◌≡◌, ℕ, ◌+◌, Bool, List, [], ◌∷◌, ◌++◌, drop, Some}
use Rattle.text_places.specs.Machine.{run}
use Rattle.wkt_layer.specs.Tokens.{Token, opening, comma, number, Placed, tokens_of}
use Rattle.wkt_layer.specs.Numbers.{Point}
use Rattle.wkt_layer.specs.Lines.{tokens_in}
use Rattle.wkt_layer.specs.Faults.{joined_points}
use Rattle.wkt_layer.specs.InsideStates.{Spot, first, second, third, whole, State, start, step}

-- points that were read, each with the comma after it
abbrev pub read_tokens : List Point → List Token
read_tokens [] = []
read_tokens (one ∷ more) = joined_points one more ++ comma ∷ []

-- the last of the tokens are an opening bracket at this place, and these after it
abbrev pub EndsIn : List Placed → ℕ → List Token → Type 0
EndsIn front opened tokens = (before points : List Placed)
    × (front ≡ before ++ record { start = opened; token = opening } ∷ points) × (tokens_in points ≡ tokens)

-- the points that were read are in the brackets that were opened last
abbrev pub IsIn : List Placed → ℕ → Spot → Type 0
IsIn front opened (first listing read) = EndsIn front opened (read_tokens read)
IsIn front opened (second listing read x) = EndsIn front opened (read_tokens read ++ number x ∷ [])
IsIn front opened (third listing read x y) = EndsIn front opened (read_tokens read ++ number x ∷ number y ∷ [])
IsIn front opened (whole listing read) = (one : Point) × (more : List Point) × (read ≡ one ∷ more)
    × EndsIn front opened (joined_points one more)
IsIn front opened spot = Unit {0}

-- the tokens so far lead to a state
pub record Reached (exact : Bool) (base : ℕ) (line : List ℕ) (at : ℕ) (front : List Placed) (s : State)
    (opened : ℕ) : Type 0 where
  pub lexed : tokens_of base line ≡ front ++ tokens_of (base + at) (drop at line)
  pub ran : run (step exact) start (tokens_in front) ≡ Some s
  pub inside : IsIn front opened s.spot
