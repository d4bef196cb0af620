-- Where one path more begins.
use Rattle.std.proofs.Common.{◌≡◌, ℕ, zero, suc, ◌+◌, ◌<◌, List, [], ◌∷◌, ◌++◌, length, take, get_or, Option, None}
use Rattle.std.proofs.Common.{sym, ◌∙◌, ap, ap₂, subst, arith, add-zero, length-take}
use Rattle.std.specs.Option.{option_or}
use Rattle.std.proofs.lemmas.List.{take_more}
use Rattle.sheet_base.specs.declared.edits.Edit.{Edit}
use Rattle.sheet_base.specs.declared.paths.PathRow.{PathRow}
use Rattle.sheet_base.specs.EditStarts.{start_in}
use Rattle.sheet_base.specs.Sheets.{AreTiled}
use Rattle.change_places.specs.declared.path_starts.Key.TheVariants.{Path, Point}
use Rattle.change_places.specs.PathPlaces.{places_from}
use Rattle.change_places.specs.InsidePlaces.{AreFirsts}
use Rattle.change_places.proofs.Elements.{element}
use Rattle.sheet_base.proofs.TiledPaths.{tiled_up}

-- each path begins at a point
begins_within : (rows : List PathRow) (first past i : ℕ) (row : PathRow) → AreTiled rows first past
    → i < length rows → row ≡ get_or rows i row → row.first < past
begins_within [] first past i row are within is = absurd (omega (arith, within))
begins_within (own ∷ rows) first past zero row (here, are) within is =
    let later = tiled_up rows own.past past are in
    subst (λ (r : PathRow). r.first < past) (sym is) (omega (arith, here.some, later))
begins_within (own ∷ rows) first past (suc i) row (here, are) within is =
    begins_within rows own.past past i row are (omega (arith, within)) is

places-append : (edits : List Edit) (number : ℕ) (rows : List PathRow) (row : PathRow)
    → places_from edits number (rows ++ row ∷ []) ≡ places_from edits number rows
    ++ start_in edits (number + length rows) row.first ∷ []
places-append edits number [] row = ap (λ n. start_in edits n row.first ∷ []) (sym (add-zero number))
places-append edits number (first ∷ rows) row =
    ap (λ (rest : List (Option ℕ)). start_in edits number first.first ∷ rest)
    (places-append edits (number + 1) rows row
    ∙ ap (λ n. places_from edits (number + 1) rows ++ start_in edits n row.first ∷ []) (omega arith))

one_more_path : (edits : List Edit) (rows : List PathRow) (i points : ℕ) (row : PathRow)
    (by_path by_point before now : List (Option ℕ)) → i < length rows → row ≡ get_or rows i row → row.first < points
    → AreFirsts Path edits (length rows) by_path → AreFirsts Point edits points by_point
    → before ≡ places_from edits 0 (take i rows)
    → now ≡ before ++ option_or (get_or by_path i None) (get_or by_point row.first None) ∷ []
    → now ≡ places_from edits 0 (take (i + 1) rows)
one_more_path edits rows i points row by_path by_point before now within is small paths spots start next =
    let longer : take (i + 1) rows ≡ take i rows ++ row ∷ [] = take_more rows i row within
    ∙ ap (λ (r : PathRow). take i rows ++ r ∷ []) (sym is) in
    let count' : 0 + length (take i rows) ≡ i = omega (arith, length-take i rows) in
    next ∙ ap₂ (λ (front : List (Option ℕ)) (one : Option ℕ). front ++ one ∷ []) start
    (ap₂ option_or (paths.each i within) (spots.each row.first small))
    ∙ ap (λ n. places_from edits 0 (take i rows) ++ start_in edits n row.first ∷ []) (sym count')
    ∙ sym (places-append edits 0 (take i rows) row) ∙ ap (places_from edits 0) (sym longer)

-- the path at a place begins at one of the points, and its start is one more after those of the paths before it
begins_at : (rows : List PathRow) (past i : ℕ) (d : PathRow) → AreTiled rows 0 past → i < length rows
    → (get_or rows i d).first < past
begins_at rows past i d are within = begins_within rows 0 past i (get_or rows i d) are within (element rows i d within)

pub one_more_at : (edits : List Edit) (rows : List PathRow) (i points : ℕ) (d : PathRow) (own first start : Option ℕ)
    (by_path by_point before now : List (Option ℕ)) → AreTiled rows 0 points → i < length rows
    → AreFirsts Path edits (length rows) by_path → AreFirsts Point edits points by_point
    → before ≡ places_from edits 0 (take i rows) → own ≡ get_or by_path i None
    → first ≡ get_or by_point (get_or rows i d).first None → start ≡ option_or own first → now ≡ before ++ start ∷ []
    → now ≡ places_from edits 0 (take (i + 1) rows)
one_more_at edits rows i points d own first start by_path by_point before now tiled within paths spots begun is_own
    is_first is next =
    one_more_path edits rows i points (get_or rows i d) by_path by_point before now within (element rows i d within)
    (begins_at rows points i d tiled within) paths spots begun
    (next ∙ ap (λ (s : Option ℕ). before ++ s ∷ []) (is ∙ ap₂ option_or is_own is_first))
