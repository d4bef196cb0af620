-- The lists of triangle numbers of pieces, one list for each segment.
use Rattle.std.specs.Prelude.{ℕ, Bool, true, if◌then◌else◌, nat_eq, List, [], ◌∷◌}
use Rattle.tin_base.specs.declared.pieces.Piece.{Piece}

-- whether the piece before these is its segment's last: none comes after it, or the next one is a segment's first
abbrev pub ends_before : List Piece → Bool
ends_before [] = true
ends_before (next ∷ pieces) = nat_eq next.from.piece 0

-- a number before those of the first list
abbrev pub onto_first : ℕ → List (List ℕ) → List (List ℕ)
onto_first n [] = (n ∷ []) ∷ []
onto_first n (list ∷ lists) = (n ∷ list) ∷ lists

-- the numbers of the triangles of pieces
abbrev pub lists_of : List Piece → List (List ℕ)
lists_of [] = []
lists_of (piece ∷ pieces) = if ends_before pieces then (piece.tri ∷ [])
    ∷ lists_of pieces else onto_first piece.tri (lists_of pieces)
