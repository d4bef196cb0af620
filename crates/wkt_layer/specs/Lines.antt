-- What a line is read as: well-formed lines, and what begins them.
use Rattle.std.specs.Prelude.{◌≡◌, Bool, List, [], ◌∷◌, map}
use Rattle.text_places.specs.Places.{Begins}
use Rattle.wkt_layer.specs.Tokens.{Token, Placed}
use Rattle.wkt_layer.specs.Geometries.{Geometry, IsGeometry, geometry_tokens}
use Rattle.wkt_layer.specs.Paths.{Path, geometry_paths}
use Rattle.wkt_layer.specs.declared.limits.TheConstants.{DEEPEST}

-- the tokens are those of one geometry, in which collections nest at most DEEPEST deep; numbers fit and rings are
-- closed
abbrev pub IsLine : Bool → List Token → Type 0
IsLine exact tokens = (of : Geometry) × IsGeometry exact DEEPEST of × (tokens ≡ geometry_tokens of)

-- some well-formed line begins with the tokens
abbrev pub IsViable : Bool → List Token → Type 0
IsViable exact tokens = Begins (IsLine exact) tokens

abbrev pub tokens_in : List Placed → List Token
tokens_in placed = map (λ (p : Placed). p.token) placed

-- the line is one geometry of these paths, or blanks alone, which have none
abbrev pub IsLineOf : Bool → List Placed → List Path → Type 0
IsLineOf exact [] paths = paths ≡ []
IsLineOf exact (first ∷ more) paths =
    (of : Geometry) × IsGeometry exact DEEPEST of × (tokens_in (first ∷ more) ≡ geometry_tokens of)
    × (paths ≡ geometry_paths of)
