-- The pieces of a change among all pieces. Only private functions speak of it.
use Rattle.std.specs.Prelude.{◌≡◌, ◌||◌, not, ℕ, Bool, List, [], ◌∷◌, codes, Contains, get_or, None}
use Rattle.shelf_io.specs.Files.{Files}
use Rattle.meet_rel.specs.Near.{AreNear}
use Rattle.tin_base.specs.declared.pieces.Change.{Change}
use Rattle.tin_base.specs.declared.pieces.Piece.{Piece}
use Rattle.tin_base.specs.declared.pieces.Place.{Place}
use Rattle.change_places.specs.declared.spots.PathSpot.{PathSpot}
use Rattle.change_places.specs.declared.spots.SideSpot.{SideSpot}
use Rattle.change_places.specs.Words.{PathText, SideText, ChangeText, RingText}
use Rattle.change_places.specs.PlacesText.{places_text}
use Rattle.change_places.specs.Laws.{IsPlacesJson}
use Rattle.place_runs.specs.declared.views.View.{View}
use Rattle.place_runs.specs.Places.{words_among, is_of_two, style_of}

-- the piece is among these and has this place
pub record IsPieceAt (pieces : List Piece) (place : Place) (piece : Piece) : Type 0 where
  pub is_some : Contains pieces piece
  pub from : piece.from ≡ place

-- some piece is
abbrev pub HasPiece : List Piece → Place → Type 0
HasPiece pieces place = (piece : Piece) × IsPieceAt pieces place piece

-- both sides of the change have a piece
abbrev pub HasPieces : List Piece → Change → Type 0
HasPieces pieces change = HasPiece pieces change.first × HasPiece pieces change.second

-- the side of a piece, by the words of the paths of all layers
abbrev pub side_of : List (List PathText) → Piece → SideText
side_of words piece = record { from = piece.from; path = words_among words piece.from; a = piece.ia; b = piece.ib }

-- where no path is written
abbrev pub no_spot : PathSpot
no_spot = record { at = None; feature = None; id = None; name = None }

-- where the path of the second number is written, which is one of the layer of the first number
abbrev pub spot_at : List (List PathSpot) → ℕ → ℕ → PathSpot
spot_at places layer path = get_or (get_or places layer []) path no_spot

-- where the path of a piece is written
abbrev pub spot_among : List (List PathSpot) → Place → PathSpot
spot_among places from = spot_at places from.layer from.path

-- the side of a piece, by the spots of the paths of all layers
abbrev pub side_at : List (List PathSpot) → Piece → SideSpot
side_at places piece = record { from = piece.from; spot = spot_among places piece.from; a = piece.ia; b = piece.ib }

-- the written ends of each two pieces are near each other
abbrev pub AreAllNear : List Piece → Type 0
AreAllNear pieces = (p q : Piece) → Contains pieces p → Contains pieces q → AreNear p.ia p.ib q.ia q.ib

-- the text is one of changes and of changes of sides of layers with these names, and is JSON
abbrev pub IsPlacesText : View → List (List ℕ) → List ℕ → Type 0
IsPlacesText view names said =
    (spots : List ChangeText) × (rings : List RingText) × (said ≡ places_text (style_of view) names spots rings)
    × IsPlacesJson (style_of view) names spots rings

-- the change is printed
abbrev pub is_printed : View → Change → Bool
is_printed view change = not view.across || is_of_two change

-- the text, on standard output
abbrev pub said_file : List ℕ → Files
said_file said = (codes "-", said) ∷ []
