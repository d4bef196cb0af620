-- Changes with the texts printed in their features. A text that is copied from a layer is one of bytes, or the
-- JSON value whose text it is: `C` is the one or the other.
use Rattle.std.specs.Prelude.{ℕ, List, [], ◌∷◌, map, get_or, Option}
use Rattle.std.specs.Option.{option_map}
use Rattle.plane_base.specs.declared.shapes.Pt.{Pt}
use Rattle.tin_base.specs.declared.pieces.Place.{Place}
use Rattle.tin_base.specs.declared.relations.Rel.{Rel}
use Rattle.ring_side.specs.declared.kinds.SideChange.{SideChange}
use Rattle.ring_side.specs.declared.kinds.SideChange.TheVariants.{Turn, Point}
use Rattle.layer_features.specs.declared.features.Label.{Label}
use Rattle.layer_features.specs.declared.features.Label.TheVariants.{Number, Handle}
use Rattle.layer_features.specs.Laws.{part_text}
use Rattle.change_places.specs.declared.spots.PathSpot.{PathSpot}
use Rattle.change_places.specs.declared.spots.SideSpot.{SideSpot}
use Rattle.change_places.specs.declared.spots.ChangeSpot.{ChangeSpot}
use Rattle.change_places.specs.declared.spots.RingSpot.{RingSpot}

-- what a feature is called: a number, or a handle
pub data LabelWords : Type 0 where
  by_number : ℕ → LabelWords
  by_handle : List ℕ → LabelWords

-- where a path begins, what its feature is called, and the feature's id and the member of its properties
pub record PathWords (C : Type 0) : Type 0 where
  pub at : Option ℕ
  pub feature : Option LabelWords
  pub id : Option C
  pub name : Option C

-- one side of a change
pub record SideWords (C : Type 0) : Type 0 where
  pub from : Place
  pub path : PathWords C
  pub a : Pt
  pub b : Pt

pub record ChangeWords (C : Type 0) : Type 0 where
  pub first : SideWords C
  pub second : SideWords C
  pub was : Rel
  pub now : Rel
  pub gap : ℕ
  pub place : Pt

-- a change of a ring's direction, or of a point's side
pub record RingWords (C : Type 0) : Type 0 where
  pub change : SideChange
  pub ring : PathWords C
  pub point : PathWords C
  pub place : Pt

-- with texts of bytes
abbrev pub PathText : Type 0
PathText = PathWords (List ℕ)

abbrev pub SideText : Type 0
SideText = SideWords (List ℕ)

abbrev pub ChangeText : Type 0
ChangeText = ChangeWords (List ℕ)

abbrev pub RingText : Type 0
RingText = RingWords (List ℕ)

-- ---- the texts of parts
abbrev pub label_words : List ℕ → Label → LabelWords
label_words text (Number number) = by_number number
label_words text (Handle part) = by_handle (part_text text part)

-- those of a path in the texts of its layer
abbrev pub path_words : List ℕ → PathSpot → PathWords (List ℕ)
path_words text spot = record {
  at = spot.at;
  feature = option_map (label_words text) spot.feature;
  id = option_map (part_text text) spot.id;
  name = option_map (part_text text) spot.name;
}

-- the texts of the layer of this number
abbrev pub texts_of : List (List ℕ) → ℕ → List ℕ
texts_of texts layer = get_or texts layer []

abbrev pub side_words : List (List ℕ) → SideSpot → SideWords (List ℕ)
side_words texts side = record {
  from = side.from;
  path = path_words (texts_of texts side.from.layer) side.spot;
  a = side.a;
  b = side.b;
}

abbrev pub change_words : List (List ℕ) → ChangeSpot → ChangeWords (List ℕ)
change_words texts change = record {
  first = side_words texts change.first;
  second = side_words texts change.second;
  was = change.was;
  now = change.now;
  gap = change.gap;
  place = change.place;
}

-- the layer of a ring, and that of the point; where there is no point it is the ring's
abbrev pub ring_layer : SideChange → ℕ
ring_layer (Turn layer path was now) = layer
ring_layer (Point layer path at was now) = layer

abbrev pub point_layer : SideChange → ℕ
point_layer (Turn layer path was now) = layer
point_layer (Point layer path at was now) = at.layer

abbrev pub ring_words : List (List ℕ) → RingSpot → RingWords (List ℕ)
ring_words texts spot = record {
  change = spot.change;
  ring = path_words (texts_of texts (ring_layer spot.change)) spot.ring;
  point = path_words (texts_of texts (point_layer spot.change)) spot.point;
  place = spot.place;
}

-- ---- words of one kind for words of another
abbrev pub path_map : {C D : Type 0} → (C → D) → PathWords C → PathWords D
path_map f path = record { at = path.at; feature = path.feature; id = option_map f path.id; name = option_map f path.name }

abbrev pub side_map : {C D : Type 0} → (C → D) → SideWords C → SideWords D
side_map f side = record { from = side.from; path = path_map f side.path; a = side.a; b = side.b }

abbrev pub change_map : {C D : Type 0} → (C → D) → ChangeWords C → ChangeWords D
change_map f change = record {
  first = side_map f change.first;
  second = side_map f change.second;
  was = change.was;
  now = change.now;
  gap = change.gap;
  place = change.place;
}

abbrev pub ring_map : {C D : Type 0} → (C → D) → RingWords C → RingWords D
ring_map f ring = record {
  change = ring.change;
  ring = path_map f ring.ring;
  point = path_map f ring.point;
  place = ring.place;
}

-- those of the paths of all layers, each in its layer's texts
abbrev pub layer_words : List (List ℕ) → List (List PathSpot) → List (List (PathWords (List ℕ)))
layer_words texts [] = []
layer_words [] (spots ∷ more) = map (path_words []) spots ∷ layer_words [] more
layer_words (text ∷ texts) (spots ∷ more) = map (path_words text) spots ∷ layer_words texts more
