-- Each sheet is carried, or has a first segment that is not.
use Rattle.std.proofs.Common.{◌≡◌, ◌⊎◌, inl, inr, ℕ, ◌+◌, ◌<◌, ◌≤◌, List, [], ◌∷◌, ◌++◌, length, refl, sym, subst}
use Rattle.std.proofs.Common.{arith, append-nil}
use Rattle.std.proofs.lemmas.Bool.{cases_lt}
use Rattle.std.proofs.lemmas.List.{length-append}
use Rattle.tin_base.specs.declared.pieces.Piece.{Piece}
use Rattle.tin_base.specs.Triangulation.{Triangulation}
use Rattle.tin_base.specs.Soundness.{IsSound}
use Rattle.tin_base.specs.Segments.{Part, IsInside, ArePiecesOf}
use Rattle.tin_base.proofs.PieceChains.Outcomes as walks
use Rattle.sheet_pieces.specs.SheetSegments.{SheetSegment, sheet_segments}
use Rattle.sheet_pieces.specs.SheetPieces.{AreTold, first_place, ArePiecesOfSegment}
use Rattle.sheet_pieces.proofs.SomeImages.{some_parts, told_parts, images_exist}
use Rattle.sheet_pieces.proofs.PieceParts.{told_length}
use Rattle.carry_map.specs.declared.faults.CarryFault.TheVariants.{Outside, TooMany}
use Rattle.carry_map.specs.Causes.{HaveRoom, IsFirstOutside, IsFirstTooMany}
use Rattle.carry_map.specs.Outcomes.{HasCarried, HasFirstFault, OutcomeExists}
use Rattle.carry_map.proofs.LayerStops.{cause_between}

-- ---- the pieces of all
abbrev HaveOutcome : Triangulation → ℕ → ℕ → ℕ → List SheetSegment → Type 0
HaveOutcome tin layer old most segments =
    HaveRoom tin layer old most segments ⊎ (((path number : ℕ) × IsFirstOutside tin layer old most segments path number)
    ⊎ IsFirstTooMany tin layer old most segments)

segments_outcome : (tin : Triangulation) → IsSound tin → (layer old most : ℕ) → old ≤ most
    → (segments : List SheetSegment)
    → HaveOutcome tin layer old most segments
segments_outcome tin sound layer old most below [] =
    inl (record { inside = tt; pieces = []; are = refl; room = omega (arith, below) })
segments_outcome tin sound layer old most below (segment ∷ segments) =
    by (λ more room. segments_outcome tin sound layer more most room segments)
    (walks.outcome tin sound segment.a segment.b)
  where
    none : HaveRoom tin layer old most []
    none = record { inside = tt; pieces = []; are = refl; room = omega (arith, below) }

    more_room : (m n k : ℕ) → k ≡ m + n → old + m + n ≤ most → old + k ≤ most
    more_room m n k e h = omega arith

    on : (inside : IsInside tin segment.a segment.b) (own : List Piece) → ArePiecesOfSegment tin layer segment own
        → HaveOutcome tin layer (old + length own) most segments → HaveOutcome tin layer old most (segment ∷ segments)
    on inside own of_segment (inl room) = inl (record {
      inside = (inside, room.inside);
      pieces = own ++ room.pieces;
      are = (own, room.pieces, refl, of_segment, room.are);
      room = more_room (length own) (length room.pieces) (length (own ++ room.pieces)) (length-append own room.pieces)
          room.room;
    })
    on inside own of_segment (inr (inl (path, number, first))) =
        inr (inl (
          path,
          number,
          subst (λ (ss : List SheetSegment). IsFirstOutside tin layer old most (segment ∷ ss) path number)
              (append-nil segments)
              (cause_between tin layer old most (segment ∷ []) segments [] own (Outside path number) (inside, tt)
              (own, [], sym (append-nil own), of_segment, refl) first),
        ))
    on inside own of_segment (inr (inr first)) =
        inr (inr (subst (λ (ss : List SheetSegment). IsFirstTooMany tin layer old most (segment ∷ ss))
        (append-nil segments)
        (cause_between tin layer old most (segment ∷ []) segments [] own TooMany (inside, tt)
        (own, [], sym (append-nil own), of_segment, refl) first)))

    by_room : ((more : ℕ) → more ≤ most → HaveOutcome tin layer more most segments) → (parts : List Part)
        → ArePiecesOf tin segment.a segment.b parts → IsInside tin segment.a segment.b → (own : List Piece)
        → AreTold tin segment.a segment.b (first_place layer segment) parts own
        → (most < old + length own) ⊎ (old + length own ≤ most) → HaveOutcome tin layer old most (segment ∷ segments)
    by_room rest parts cut inside own told (inl full) = inr (inr (record {
      segment = segment;
      reached = record { before = []; behind = segments; stands = refl; room = none };
      inside = inside;
      parts = parts;
      cut = cut;
      full = too_full (length own) (length parts)
          (told_length tin segment.a segment.b (first_place layer segment) parts own told) full;
    }))
      where
        too_full : (m n : ℕ) → m ≡ n → most < old + m → most < old + 0 + n
        too_full m n e h = omega arith
    by_room rest parts cut inside own told (inr room) =
        on inside own (record { parts = parts; cut = cut; told = told }) (rest (old + length own) room)

    by : ((more : ℕ) → more ≤ most → HaveOutcome tin layer more most segments)
        → ((parts : List Part) × ArePiecesOf tin segment.a segment.b parts × IsInside tin segment.a segment.b)
        ⊎ (IsInside tin segment.a segment.b → ⊥) → HaveOutcome tin layer old most (segment ∷ segments)
    by rest (inl (parts, cut, inside)) =
        let (own, told) = told_parts tin segment.a segment.b inside (first_place layer segment) parts
        (some_parts tin segment.a segment.b parts cut) in
        by_room rest parts cut inside own told (cases_lt most (old + length own))
    by rest (inr outside) = inr (inl (
      segment.path,
      segment.number,
      record {
        segment = segment;
        reached = record { before = []; behind = segments; stands = refl; room = none };
        path_is = refl;
        number_is = refl;
        outside = outside;
      },
    ))

-- ---- a sheet
pub outcome : OutcomeExists
outcome tin sound layer old most below sheet is =
    by (segments_outcome tin sound layer old most below (sheet_segments sheet))
  where
    by : HaveOutcome tin layer old most (sheet_segments sheet)
        → HasCarried tin layer old most sheet ⊎ HasFirstFault tin layer old most sheet
    by (inl room) =
        let (images, are) = images_exist tin sound sheet is.tiled room.inside in
        inl (record { room = room; images = images; are_images = are })
    by (inr fault) = inr fault
