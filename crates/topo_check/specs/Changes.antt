-- The changes of pieces by rounding.
use Rattle.std.specs.Prelude.{◌≡◌, ◌≢◌, ◌⊎◌, ℕ, ◌<◌, pos, List, [], ◌∷◌, ◌++◌, length, map, All, Option, None, Some}
use Rattle.std.specs.Prelude.{slice_index_or}
use Rattle.std.specs.List.{AllPairs}
use Rattle.plane_base.specs.Plane.{whole}
use Rattle.plane_base.specs.declared.shapes.Pt.{Pt}
use Rattle.tin_base.specs.declared.pieces.Piece.{Piece}
use Rattle.tin_base.specs.declared.pieces.Place.{Place}
use Rattle.tin_base.specs.declared.pieces.Change.{Change}
use Rattle.tin_base.specs.declared.relations.Rel.{Rel}
use Rattle.tin_base.specs.Triangulation.{Triangulation}
use Rattle.tin_base.specs.Segments.{Part}
use Rattle.tin_base.specs.Pieces.{IsPieceOf, IsPieceInside, first_point, last_point}
use Rattle.tin_base.specs.Relations.{HaveRelation}
use Rattle.meet_rel.specs.Near.{AreNear}

-- what the calls ask of two pieces: they are pieces of segments with ends in source triangles, and their rounded images
-- are near each other
pub record AreComparable (tin : Triangulation) (p q : Piece) : Type 0 where
  pub first : IsPieceInside tin p
  pub second : IsPieceInside tin q
  pub near : AreNear p.ia p.ib q.ia q.ib

abbrev pub AreAllComparable : Triangulation → List Piece → Type 0
AreAllComparable tin pieces = All (λ p. All (λ q. AreComparable tin p q) pieces) pieces

-- what the laws ask of pieces: they are pieces of segments with ends in source triangles
abbrev pub AreAllInside : Triangulation → List Piece → Type 0
AreAllInside tin pieces = All (λ p. IsPieceInside tin p) pieces

-- the relation of two exact pieces in the source frame
abbrev pub HadRelation : Triangulation → Rel → Piece → Piece → Type 0
HadRelation tin was p q = (s t : Part) → IsPieceOf tin p s → IsPieceOf tin q t
    → HaveRelation was (first_point p s) (last_point p s) (first_point q t) (last_point q t)

-- the relation of the segments between the rounded images of the ends of two pieces
abbrev pub HasRelation : Rel → Piece → Piece → Type 0
HasRelation now p q = HaveRelation now (whole p.ia) (whole p.ib) (whole q.ia) (whole q.ib)

-- by the relation that two pieces had: none where it is the one that they have, else both with the places of the two
-- pieces
abbrev pub IsChangeBy : (Rel → Piece → Piece → Type 0) → Piece → Piece → Option Change → Type 0
IsChangeBy Had p q None = (relation : Rel) × Had relation p q × HasRelation relation p q
IsChangeBy Had p q (Some change) = (change.first ≡ p.from) × (change.second ≡ q.from) × Had change.was p q
    × HasRelation change.now p q × (change.was ≢ change.now)

-- the change of two pieces: by the relation that the exact pieces had
abbrev pub IsChangeOf : Triangulation → Piece → Piece → Option Change → Type 0
IsChangeOf tin p q change = IsChangeBy (HadRelation tin) p q change

-- ---- pieces by their numbers, from 0
-- what a number stands for that is no piece's
abbrev pub no_pt : Pt
no_pt = record { x = pos 0; y = pos 0 }

abbrev pub no_place : Place
no_place = record { layer = 0; path = 0; segment = 0; piece = 0 }

abbrev pub no_piece : Piece
no_piece = record { a = no_pt; b = no_pt; tri = 0; ia = no_pt; ib = no_pt; from = no_place }

abbrev pub piece_at : List Piece → ℕ → Piece
piece_at pieces number = slice_index_or pieces number no_piece

-- ---- all pairs
pub record Pair : Type 0 where
  pub first : Piece
  pub second : Piece

abbrev pub pair : Piece → Piece → Pair
pair p q = record { first = p; second = q }

-- a piece with each of a list
abbrev pub with_each : Piece → List Piece → List Pair
with_each p qs = map (pair p) qs

-- each two pieces, the earlier first, by the first and then by the second
abbrev pub pairs : List Piece → List Pair
pairs [] = []
pairs (p ∷ ps) = with_each p ps ++ pairs ps

-- the change, where there is one, in front of a list
abbrev pub put : Option Change → List Change → List Change
put None changes = changes
put (Some change) changes = change ∷ changes

-- the changes of some pairs, in their order, by the relation that the two of a pair had
abbrev pub AreChangesBy : (Rel → Piece → Piece → Type 0) → List Pair → List Change → Type 0
AreChangesBy Had [] changes = changes ≡ []
AreChangesBy Had (p ∷ ps) changes = (here : Option Change) × (later : List Change)
    × IsChangeBy Had p.first p.second here × AreChangesBy Had ps later × (changes ≡ put here later)

-- the changes of some pairs
abbrev pub AreChangesOf : Triangulation → List Pair → List Change → Type 0
AreChangesOf tin ps changes = AreChangesBy (HadRelation tin) ps changes

-- the changes of all pairs
abbrev pub AreChanges : Triangulation → List Piece → List Change → Type 0
AreChanges tin pieces changes = AreChangesOf tin (pairs pieces) changes

-- ---- pairs of numbers
pub record Numbers : Type 0 where
  pub first : ℕ
  pub second : ℕ

-- the one pair comes before the other: by the first number, and then by the second
abbrev pub DoPrecede : Numbers → Numbers → Type 0
DoPrecede m n = (m.first < n.first) ⊎ ((m.first ≡ n.first) × (m.second < n.second))

-- the pieces of the two numbers have a change, and the first is the earlier one
pub record HaveChanged (tin : Triangulation) (pieces : List Piece) (numbers : Numbers) : Type 0 where
  pub earlier : numbers.first < numbers.second
  pub in_range : numbers.second < length pieces
  pub change : Change
  pub is_change : IsChangeOf tin (piece_at pieces numbers.first) (piece_at pieces numbers.second) (Some change)

-- more pairs than `most` have changed: a list of such pairs, each once and in their order, is longer
pub record HasMoreThan (tin : Triangulation) (pieces : List Piece) (most : ℕ) : Type 0 where
  pub changed : List Numbers
  pub ascending : AllPairs DoPrecede changed
  pub each : All (λ numbers. HaveChanged tin pieces numbers) changed
  pub more : most < length changed
