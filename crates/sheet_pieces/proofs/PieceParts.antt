-- Pieces that state the parts of a segment: one by one, and what the images of their ends are.
use Rattle.std.proofs.Common.{◌≡◌, ℕ, zero, suc, ◌+◌, ◌-◌, ◌<◌, List, [], ◌∷◌, ◌++◌, length, map, take, Some, ap, refl}
use Rattle.std.proofs.Common.{sym, ◌∙◌, subst, arith}
use Rattle.std.specs.List.{slice_get}
use Rattle.std.proofs.lemmas.Option.{slice_get_within}
use Rattle.plane_base.specs.declared.shapes.Pt.{Pt}
use Rattle.plane_base.specs.Plane.{whole}
use Rattle.plane_base.proofs.MixLaws.Mixes.{same_sym}
use Rattle.tin_base.specs.declared.pieces.Piece.{Piece}
use Rattle.tin_base.specs.declared.pieces.Place.{Place}
use Rattle.tin_base.specs.Triangulation.{Triangulation}
use Rattle.tin_base.specs.Segments.{Part, part_at, spot_at}
use Rattle.affine_image.specs.RoundedImages.{IsRoundedImageAt}
use Rattle.affine_image.proofs.PlaceImages.{rounded_moved}
use Rattle.affine_image.proofs.RoundedImages.{rounded_images_agree}
use Rattle.sheet_pieces.specs.SheetPieces.{IsTold, next_place, AreTold}
use Rattle.sheet_pieces.specs.SheetImages.{AreEndsOfAllButLast}
use Rattle.sheet_pieces.specs.SheetLaws.{AreImagesJoined, PieceImagesAreJoined}
use Rattle.sheet_pieces.proofs.PartSequences.{AreInLine, in_line}

-- ---- as many pieces as parts
pub told_length : (tin : Triangulation) (a b : Pt) (from : Place) (parts : List Part) (pieces : List Piece)
    → AreTold tin a b from parts pieces → length pieces ≡ length parts
told_length tin a b from [] [] h = refl
told_length tin a b from (part ∷ parts) (piece ∷ pieces) h =
    ap suc (told_length tin a b (next_place from) parts pieces h.1)
told_length tin a b from parts pieces h = absurd h

-- ---- one more
-- n pieces after a place
abbrev pub place_on : Place → ℕ → Place
place_on from n = record { layer = from.layer; path = from.path; segment = from.segment; piece = from.piece + n }

on_zero : (from : Place) → place_on from 0 ≡ from
on_zero from = ap (λ (n : ℕ). record { layer = from.layer; path = from.path; segment = from.segment; piece = n })
    (omega arith)

on_suc : (from : Place) (n : ℕ) → place_on from (suc n) ≡ place_on (next_place from) n
on_suc from n = ap (λ (m : ℕ). record { layer = from.layer; path = from.path; segment = from.segment; piece = m })
    (omega arith)

pub told_more : (tin : Triangulation) (a b : Pt) (from : Place) (parts : List Part) (pieces : List Piece) (part : Part)
    (piece : Piece)
    → AreTold tin a b from parts pieces → IsTold tin a b (place_on from (length parts)) part piece
    → AreTold tin a b from (parts ++ part ∷ []) (pieces ++ piece ∷ [])
told_more tin a b from [] [] part piece h k =
    (subst (λ (place : Place). IsTold tin a b place part piece) (on_zero from) k, tt)
told_more tin a b from (p ∷ parts) (q ∷ pieces) part piece h k =
    grind (arith, on_suc, (told_more tin a b (next_place from) parts pieces part piece h.1))
told_more tin a b from parts pieces part piece h k = absurd h

-- ---- the images of a piece's ends
pub record HasImages (tin : Triangulation) (a b : Pt) (part : Part) (piece : Piece) : Type 0 where
  pub first : IsRoundedImageAt tin (spot_at a b part.first) piece.ia
  pub last : IsRoundedImageAt tin (spot_at a b part.last) piece.ib

images_at : (tin : Triangulation) (a b : Pt) (from : Place) (parts : List Part) (pieces : List Piece) (i : ℕ)
    (piece : Piece) → AreTold tin a b from parts pieces → slice_get pieces i ≡ Some piece
    → HasImages tin a b (part_at parts i) piece
images_at tin a b from [] [] i piece h e = cc
images_at tin a b from (p ∷ parts) (q ∷ pieces) zero piece h e = grind arith
images_at tin a b from (p ∷ parts) (q ∷ pieces) (suc i) piece h e =
    images_at tin a b (next_place from) parts pieces i piece h.1 e
images_at tin a b from parts pieces i piece h e = absurd h

-- ---- the crossings are the last points of all pieces but the last
abbrev pub end_images : List Piece → List Pt
end_images pieces = map (λ piece. piece.ib) pieces

pub inner_ends : (tin : Triangulation) (a b : Pt) (from : Place) (parts : List Part) (pieces : List Piece)
    → AreTold tin a b from parts pieces → AreEndsOfAllButLast tin a b parts
    (end_images (take (length pieces - 1) pieces))
inner_ends tin a b from [] [] h = refl
inner_ends tin a b from [] (piece ∷ pieces) h = absurd h
inner_ends tin a b from (part ∷ parts) [] h = absurd h
inner_ends tin a b from (part ∷ []) (piece ∷ []) h = refl
inner_ends tin a b from (part ∷ []) (piece ∷ next ∷ pieces) h = absurd h.1
inner_ends tin a b from (part ∷ follow ∷ parts) (piece ∷ []) h = absurd h.1
inner_ends tin a b from (part ∷ follow ∷ parts) (piece ∷ next ∷ pieces) h =
    let told = h.0 in
    subst (λ (n : ℕ). AreEndsOfAllButLast tin a b (part ∷ follow ∷ parts) (end_images (take n (piece ∷ next ∷ pieces))))
    (counted (length pieces))
    (told.last_image, inner_ends tin a b (next_place from) (follow ∷ parts) (next ∷ pieces) h.1)
  where
    counted : (n : ℕ) → suc (suc n - 1) ≡ suc (suc n) - 1
    counted n = omega arith

-- ---- the images of the pieces are joined
pub piece_images_are_joined : PieceImagesAreJoined
piece_images_are_joined tin layer segment pieces sound inside are =
    go (in_line tin segment.a segment.b are.parts sound inside are.cut)
  where
    many : length pieces ≡ length are.parts
    many = told_length tin segment.a segment.b _ are.parts pieces are.told

    go : AreInLine segment.a segment.b are.parts → AreImagesJoined tin segment pieces
    go line =
        let a = segment.a in let b = segment.b in let parts = are.parts in
        record {
          some = subst (λ (n : ℕ). 0 < n) (sym many) line.some;
          begins = λ piece e.
              let images = images_at tin a b _ parts pieces 0 piece are.told e in
              rounded_moved tin (spot_at a b (part_at parts 0).first) (whole a) piece.ia (line.first-w 0 line.some)
              (same_sym (spot_at a b (part_at parts 0).first) (whole a) line.begins) images.first;
          joined = λ i piece next e f.
              let images = images_at tin a b _ parts pieces i piece are.told e in
              let nexts = images_at tin a b _ parts pieces (i + 1) next are.told f in
              let h : i + 1 < length parts = subst (λ (n : ℕ). i + 1 < n) many
              (slice_get_within pieces (i + 1) next f) in
              let here : i < length parts = omega arith in
              rounded_images_agree tin (spot_at a b (part_at parts i).last) piece.ib next.ia sound (line.last-w i here)
              images.last
              (rounded_moved tin (spot_at a b (part_at parts (i + 1)).first) (spot_at a b (part_at parts i).last)
              next.ia (line.first-w (i + 1) h) (line.joined i h) nexts.first);
          ends = λ i piece last e.
              let images = images_at tin a b _ parts pieces i piece are.told e in
              let here : i < length parts = subst (λ (n : ℕ). i < n) many (slice_get_within pieces i piece e) in
              rounded_moved tin (spot_at a b (part_at parts i).last) (whole b) piece.ib (line.last-w i here)
              (same_sym (spot_at a b (part_at parts i).last) (whole b) (line.ends i (last ∙ many))) images.last;
        }
