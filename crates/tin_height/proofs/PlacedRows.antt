-- Rows of a list of points, in order of their places.
use Rattle.std.proofs.Common.{◌≡◌, ℕ, ◌+◌, ◌≤◌, ◌<◌, List, [], ◌∷◌, ◌++◌, length, drop, get_or, subst, arith}
use Rattle.std.proofs.lemmas.List.{drop_more}
use Rattle.tin_height.specs.PointTexts.{ArePlaced}
use Rattle.tin_height.specs.declared.points.PointRow.{PointRow}
use Rattle.tin_height.specs.declared.raises.Raised.{Raised}

pub placed_more : (from past next : ℕ) (rows : List PointRow) (row : PointRow) → ArePlaced from past rows
    → past ≤ row.start → row.start ≤ row.end → row.end ≤ next → ArePlaced from next (rows ++ row ∷ [])
placed_more from past next [] row h a b c = (omega (arith, h, a), b, c)
placed_more from past next (first ∷ rows) row (i, j, h) a b c = (i, j, placed_more first.end past next rows row h a b c)

pub placed_within : (from past : ℕ) (rows : List PointRow) → ArePlaced from past rows → from ≤ past
placed_within from past [] h = h
placed_within from past (row ∷ rows) (a, b, h) = omega (arith, a, b, placed_within row.end past rows h)

pub placed_on : (from past next : ℕ) (rows : List PointRow) → ArePlaced from past rows → past ≤ next → ArePlaced from next rows
placed_on from past next [] h on = omega (arith, h, on)
placed_on from past next (row ∷ rows) (a, b, h) on = (a, b, placed_on row.end past next rows h on)

-- the rows from a place of the list on
module _ (bytes : List ℕ) (rows : List PointRow) (out : List Raised) (each : length out ≡ length rows) (i : ℕ)
    (d : PointRow) (e : Raised) (from : ℕ) where
  pub next_placed : i < length rows → ArePlaced from (length bytes) (drop i rows)
      → (from ≤ (get_or rows i d).start) × ((get_or rows i d).start ≤ (get_or rows i d).end)
      × ArePlaced (get_or rows i d).end (length bytes) (drop (i + 1) rows)
  next_placed within h = subst (ArePlaced from (length bytes)) (drop_more rows i d within) h
