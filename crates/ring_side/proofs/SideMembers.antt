-- What is in the list of changes of sides: all changes, and no others.
use Rattle.std.proofs.Common.{◌≡◌, ◌≢◌, ◌⊎◌, inl, inr, ℕ, zero, suc, ◌+◌, ◌<◌, Bool, true, false, cond, List, []}
use Rattle.std.proofs.Common.{◌∷◌, ◌++◌, length, flat_map, slice_index_or, refl, sym, ◌∙◌, ap, subst, arith}
use Rattle.std.specs.Prelude.{Contains}
use Rattle.sheet_base.specs.declared.paths.PathKind.{PathKind}
use Rattle.sheet_base.specs.declared.paths.PathKind.TheVariants.{Loop}
use Rattle.sheet_base.specs.declared.paths.PathRow.{PathRow}
use Rattle.sheet_base.specs.ImageFits.{Runs, no_path}
use Rattle.sheet_base.specs.Segments.{points_in}
use Rattle.sheet_base.specs.Sheets.{Contents}
use Rattle.tin_base.specs.declared.frames.Frame.TheVariants.{Source, Target}
use Rattle.ring_side.specs.declared.kinds.Side.{Side}
use Rattle.ring_side.specs.declared.kinds.Side.TheVariants.{Inside, Border, Outside}
use Rattle.ring_side.specs.declared.kinds.Way.{Way}
use Rattle.ring_side.specs.declared.kinds.Way.TheVariants.{Positive, Negative, Zero}
use Rattle.ring_side.specs.declared.kinds.SideChange.{SideChange}
use Rattle.ring_side.specs.declared.kinds.SideChange.TheVariants.{Turn, Point}
use Rattle.ring_side.specs.declared.kinds.Spot.{Spot}
use Rattle.ring_side.specs.SideChanges.{no_sheet, spots_run, spots_paths, spots_layers, spots_of}
use Rattle.ring_side.specs.SideChanges.{ring_of, place_of, is_same_way, is_same_side, turn_change}
use Rattle.ring_side.specs.SideChanges.{point_change, ring_changes, path_changes, paths_changes, layers_changes}
use Rattle.ring_side.specs.SideChanges.{side_changes_of}
use Rattle.ring_side.specs.Sides.{side_of, way_of}
use Rattle.ring_side.specs.ListedSides.{IsRingAt, IsPointAt, IsSideChange, AreAllSideChanges, KeepSides}

-- ---- members of lists
abbrev Has : {X : Type 0} → List X → X → Type 0
Has [] x = ⊥
Has (y ∷ ys) x = (y ≡ x) ⊎ Has ys x

has_left : {X : Type 0} (xs ys : List X) (x : X) → Has xs x → Has (xs ++ ys) x
has_left [] ys x h = absurd h
has_left (y ∷ xs) ys x (inl is) = inl is
has_left (y ∷ xs) ys x (inr h) = inr (has_left xs ys x h)

has_right : {X : Type 0} (xs ys : List X) (x : X) → Has ys x → Has (xs ++ ys) x
has_right [] ys x h = h
has_right (y ∷ xs) ys x h = inr (has_right xs ys x h)

has_either : {X : Type 0} (xs ys : List X) (x : X) → Has (xs ++ ys) x → Has xs x ⊎ Has ys x
has_either [] ys x h = inr h
has_either (y ∷ xs) ys x (inl is) = inl (inl is)
has_either (y ∷ xs) ys x (inr h) = grind (arith, (has_either xs ys x h))

has_of_some : {X Y : Type 0} (f : X → List Y) (xs : List X) (x : X) (y : Y) → Has xs x → Has (f x) y
    → Has (flat_map f xs) y
has_of_some f [] x y h k = absurd h
has_of_some f (first ∷ xs) x y (inl is) k =
    has_left (f first) (flat_map f xs) y (subst (λ z. Has (f z) y) (sym is) k)
has_of_some f (first ∷ xs) x y (inr h) k = has_right (f first) (flat_map f xs) y (has_of_some f xs x y h k)

some_more : {X Y : Type 0} (f : X → List Y) (first : X) (xs : List X) (y : Y)
    → Has (f first) y ⊎ Has (flat_map f xs) y → (Has (flat_map f xs) y → (x : X) × Has xs x × Has (f x) y)
    → (x : X) × Has (first ∷ xs) x × Has (f x) y
some_more f first xs y (inl here) onward = (first, inl refl, here)
some_more f first xs y (inr later) onward = let (x, h, k) = onward later in (x, inr h, k)

some_of : {X Y : Type 0} (f : X → List Y) (xs : List X) (y : Y) → Has (flat_map f xs) y
    → (x : X) × Has xs x × Has (f x) y
some_of f [] y h = absurd h
some_of f (first ∷ xs) y h =
    some_more f first xs y (has_either (f first) (flat_map f xs) y h) (λ later. some_of f xs y later)

contained : {X : Type 0} (xs : List X) (x : X) → Has xs x → Contains xs x
contained [] x h = absurd h
contained (y ∷ xs) x (inl is) = (0, omega arith, is)
contained (y ∷ xs) x (inr h) = let (i, within, at) = contained xs x h in (suc i, omega (arith, within), at)

member : {X : Type 0} (xs : List X) (x : X) (i : ℕ) → i < length xs → slice_index_or xs i x ≡ x → Has xs x
member [] x i within at = absurd (omega (arith, within))
member (y ∷ xs) x zero within at = inl at
member (y ∷ xs) x (suc i) within at = inr (member xs x i (omega (arith, within)) at)

zero_plus : (n : ℕ) → 0 + n ≡ n
zero_plus n = omega arith

-- ---- points
abbrev spot_with : ℕ → ℕ → ℕ → Spot
spot_with layer path vertex = record { layer = layer; path = path; vertex = vertex }

run_has : (layer path vertex count k : ℕ) → k < count
    → Has (spots_run layer path vertex count) (spot_with layer path (vertex + k))
run_has layer path vertex zero k within = absurd (omega arith)
run_has layer path vertex (suc count) zero within = inl (ap (spot_with layer path) (omega arith))
run_has layer path vertex (suc count) (suc k) within =
    grind (arith, (run_has layer path (vertex + 1) count k (omega arith)))

-- the vertex is one of this many from the first on
record IsInRun (layer path vertex count : ℕ) (at : Spot) : Type 0 where
  is_layer : at.layer ≡ layer
  is_path : at.path ≡ path
  is_vertex : at.vertex < vertex + count

in_run : (layer path vertex count : ℕ) (at : Spot) → Has (spots_run layer path vertex count) at
    → IsInRun layer path vertex count at
in_run layer path vertex zero at h = absurd h
in_run layer path vertex (suc count) at (inl is) = grind arith
in_run layer path vertex (suc count) at (inr h) = grind (arith, (in_run layer path (vertex + 1) count at h))

abbrev row_in : List PathRow → ℕ → PathRow
row_in rows p = slice_index_or rows p no_path

paths_have : (layer path : ℕ) (rows : List PathRow) (p vertex : ℕ) → p < length rows
    → vertex < points_in (row_in rows p) → Has (spots_paths layer path rows) (spot_with layer (path + p) vertex)
paths_have layer path [] p vertex within few = absurd (omega arith)
paths_have layer path (row ∷ rows) zero vertex within few =
    has_left (spots_run layer path 0 (points_in row)) (spots_paths layer (path + 1) rows) _
    (subst (λ (q : ℕ). Has (spots_run layer path 0 (points_in row)) (spot_with layer q vertex)) (omega arith)
    (subst (λ (v : ℕ). Has (spots_run layer path 0 (points_in row)) (spot_with layer path v)) (zero_plus vertex)
    (run_has layer path 0 (points_in row) vertex few)))
paths_have layer path (row ∷ rows) (suc p) vertex within few =
    grind (arith, has_right, (paths_have layer (path + 1) rows p vertex (omega arith) few))

record IsInPaths (layer path : ℕ) (rows : List PathRow) (at : Spot) : Type 0 where
  place : ℕ
  within : place < length rows
  is_layer : at.layer ≡ layer
  is_path : at.path ≡ path + place
  is_vertex : at.vertex < points_in (row_in rows place)

in_paths : (layer path : ℕ) (rows : List PathRow) (at : Spot) → Has (spots_paths layer path rows) at
    → IsInPaths layer path rows at
in_paths layer path [] at h = absurd h
in_paths layer path (row ∷ rows) at h =
    by (has_either (spots_run layer path 0 (points_in row)) (spots_paths layer (path + 1) rows) at h)
    (λ later. in_paths layer (path + 1) rows at later)
  where
    by : Has (spots_run layer path 0 (points_in row)) at ⊎ Has (spots_paths layer (path + 1) rows) at
        → (Has (spots_paths layer (path + 1) rows) at → IsInPaths layer (path + 1) rows at)
        → IsInPaths layer path (row ∷ rows) at
    by (inl here) onward = grind (arith, in_run, zero_plus)
    by (inr there) onward =
        let one = onward there in
        let same = one.is_path in
        let few = one.within in
        record {
          place = suc one.place;
          within = omega (arith, few);
          is_layer = one.is_layer;
          is_path = omega (arith, same);
          is_vertex = one.is_vertex;
        }

abbrev sheet_in : List Contents → ℕ → Contents
sheet_in sheets l = slice_index_or sheets l no_sheet

layers_have : (layer : ℕ) (sheets : List Contents) (l path vertex : ℕ) → l < length sheets
    → path < length (sheet_in sheets l).paths → vertex < points_in (row_in (sheet_in sheets l).paths path)
    → Has (spots_layers layer sheets) (spot_with (layer + l) path vertex)
layers_have layer [] l path vertex within few low = absurd (omega arith)
layers_have layer (sheet ∷ sheets) zero path vertex within few low =
    has_left (spots_paths layer 0 sheet.paths) (spots_layers (layer + 1) sheets) _
    (subst (λ (k : ℕ). Has (spots_paths layer 0 sheet.paths) (spot_with k path vertex)) (omega arith)
    (subst (λ (q : ℕ). Has (spots_paths layer 0 sheet.paths) (spot_with layer q vertex)) (zero_plus path)
    (paths_have layer 0 sheet.paths path vertex few low)))
layers_have layer (sheet ∷ sheets) (suc l) path vertex within few low =
    grind (arith, has_right, (layers_have (layer + 1) sheets l path vertex (omega arith) few low))

record IsInLayers (layer : ℕ) (sheets : List Contents) (at : Spot) : Type 0 where
  place : ℕ
  within : place < length sheets
  is_layer : at.layer ≡ layer + place
  is_path : at.path < length (sheet_in sheets place).paths
  is_vertex : at.vertex < points_in (row_in (sheet_in sheets place).paths at.path)

in_layers : (layer : ℕ) (sheets : List Contents) (at : Spot) → Has (spots_layers layer sheets) at
    → IsInLayers layer sheets at
in_layers layer [] at h = absurd h
in_layers layer (sheet ∷ sheets) at h =
    by (has_either (spots_paths layer 0 sheet.paths) (spots_layers (layer + 1) sheets) at h)
    (λ later. in_layers (layer + 1) sheets at later)
  where
    by : Has (spots_paths layer 0 sheet.paths) at ⊎ Has (spots_layers (layer + 1) sheets) at
        → (Has (spots_layers (layer + 1) sheets) at → IsInLayers (layer + 1) sheets at)
        → IsInLayers layer (sheet ∷ sheets) at
    by (inl here) onward =
        let one = in_paths layer 0 sheet.paths at here in
        let same = one.is_layer in
        let number : one.place ≡ at.path = sym (zero_plus one.place) ∙ sym one.is_path in
        record {
          place = 0;
          within = omega arith;
          is_layer = omega (arith, same);
          is_path = subst (λ (p : ℕ). p < length sheet.paths) number one.within;
          is_vertex = subst (λ (p : ℕ). at.vertex < points_in (row_in sheet.paths p)) number one.is_vertex;
        }
    by (inr there) onward =
        let one = onward there in
        let same = one.is_layer in
        let few = one.within in
        record {
          place = suc one.place;
          within = omega (arith, few);
          is_layer = omega (arith, same);
          is_path = one.is_path;
          is_vertex = one.is_vertex;
        }

points_have : (sheets : List Contents) (at : Spot) → IsPointAt sheets at → Has (spots_of sheets) at
points_have sheets at is =
    subst (λ (l : ℕ). Has (spots_of sheets) (spot_with l at.path at.vertex)) (zero_plus at.layer)
    (layers_have 0 sheets at.layer at.path at.vertex is.in_layers is.in_paths is.in_points)

in_points : (sheets : List Contents) (at : Spot) → Has (spots_of sheets) at → IsPointAt sheets at
in_points sheets at h = grind (arith, in_layers, zero_plus, in_paths)

-- ---- rings
module _ (sheets : List Contents) (images : List Runs) where
  path_has : (layer path : ℕ) (kind : PathKind) (change : SideChange) → kind ≡ Loop
      → Has (ring_changes sheets images layer path) change → Has (path_changes sheets images layer path kind) change
  path_has layer path Loop change is h = h
  path_has layer path _ change is h = cc

  in_path : (layer path : ℕ) (kind : PathKind) (change : SideChange)
      → Has (path_changes sheets images layer path kind) change
      → (kind ≡ Loop) × Has (ring_changes sheets images layer path) change
  in_path layer path Loop change h = (refl, h)
  in_path layer path _ change h = absurd h

  rows_have : (layer path : ℕ) (rows : List PathRow) (p : ℕ) (change : SideChange) → p < length rows
      → (row_in rows p).kind ≡ Loop → Has (ring_changes sheets images layer (path + p)) change
      → Has (paths_changes sheets images layer path rows) change
  rows_have layer path [] p change within is h = absurd (omega arith)
  rows_have layer path (row ∷ rows) zero change within is h = grind (arith, has_left, path_has)
  rows_have layer path (row ∷ rows) (suc p) change within is h =
      grind (arith, has_right, (rows_have layer (path + 1) rows p change (omega arith) is))

  record IsOfRows (layer path : ℕ) (rows : List PathRow) (change : SideChange) : Type 0 where
    place : ℕ
    within : place < length rows
    loops : (row_in rows place).kind ≡ Loop
    of_ring : Has (ring_changes sheets images layer (path + place)) change

  of_rows : (layer path : ℕ) (rows : List PathRow) (change : SideChange)
      → Has (paths_changes sheets images layer path rows) change → IsOfRows layer path rows change
  of_rows layer path [] change h = absurd h
  of_rows layer path (row ∷ rows) change h =
      by (has_either (path_changes sheets images layer path row.kind)
      (paths_changes sheets images layer (path + 1) rows) change h) (λ later. of_rows layer (path + 1) rows change later)
    where
      by : Has (path_changes sheets images layer path row.kind) change
          ⊎ Has (paths_changes sheets images layer (path + 1) rows) change
          → (Has (paths_changes sheets images layer (path + 1) rows) change → IsOfRows layer (path + 1) rows change)
          → IsOfRows layer path (row ∷ rows) change
      by (inl here) onward = grind (arith, in_path)
      by (inr there) onward =
          let one = onward there in
          let few = one.within in
          record {
            place = suc one.place;
            within = omega (arith, few);
            loops = one.loops;
            of_ring = subst (λ (q : ℕ). Has (ring_changes sheets images layer q) change) (omega arith) one.of_ring;
          }

  sheets_have : (layer : ℕ) (more : List Contents) (l path : ℕ) (change : SideChange) → l < length more
      → path < length (sheet_in more l).paths → (row_in (sheet_in more l).paths path).kind ≡ Loop
      → Has (ring_changes sheets images (layer + l) path) change → Has (layers_changes sheets images layer more) change
  sheets_have layer [] l path change within few is h = absurd (omega arith)
  sheets_have layer (sheet ∷ more) zero path change within few is h = grind (arith, has_left, rows_have, zero_plus)
  sheets_have layer (sheet ∷ more) (suc l) path change within few is h =
      grind (arith, has_right, (sheets_have (layer + 1) more l path change (omega arith) few is))

  record IsOfSheets (layer : ℕ) (more : List Contents) (change : SideChange) : Type 0 where
    place : ℕ
    path : ℕ
    within : place < length more
    few : path < length (sheet_in more place).paths
    loops : (row_in (sheet_in more place).paths path).kind ≡ Loop
    of_ring : Has (ring_changes sheets images (layer + place) path) change

  of_sheets : (layer : ℕ) (more : List Contents) (change : SideChange)
      → Has (layers_changes sheets images layer more) change → IsOfSheets layer more change
  of_sheets layer [] change h = absurd h
  of_sheets layer (sheet ∷ more) change h =
      by (has_either (paths_changes sheets images layer 0 sheet.paths) (layers_changes sheets images (layer + 1) more)
      change h) (λ later. of_sheets (layer + 1) more change later)
    where
      by : Has (paths_changes sheets images layer 0 sheet.paths) change
          ⊎ Has (layers_changes sheets images (layer + 1) more) change
          → (Has (layers_changes sheets images (layer + 1) more) change → IsOfSheets (layer + 1) more change)
          → IsOfSheets layer (sheet ∷ more) change
      by (inl here) onward =
          let one = of_rows layer 0 sheet.paths change here in
          record {
            place = 0;
            path = one.place;
            within = omega arith;
            few = one.within;
            loops = one.loops;
            of_ring = subst (λ (k : ℕ). Has (ring_changes sheets images k one.place) change) (omega arith)
                (subst (λ (q : ℕ). Has (ring_changes sheets images layer q) change) (zero_plus one.place) one.of_ring);
          }
      by (inr there) onward =
          let one = onward there in
          let few = one.within in
          record {
            place = suc one.place;
            path = one.path;
            within = omega (arith, few);
            few = one.few;
            loops = one.loops;
            of_ring = subst (λ (k : ℕ). Has (ring_changes sheets images k one.path) change) (omega arith) one.of_ring;
          }

-- ---- one entry
same_way : (was now : Way) → is_same_way was now ≡ true → was ≡ now
same_way Positive Positive is = refl
same_way Negative Negative is = refl
same_way Zero Zero is = refl
same_way was now is = cc

way_itself : (was : Way) → is_same_way was was ≡ true
way_itself Positive = refl
way_itself was = refl

pub same_side : (was now : Side) → is_same_side was now ≡ true → was ≡ now
same_side Inside Inside is = refl
same_side Border Border is = refl
same_side Outside Outside is = refl
same_side was now is = cc

side_itself : (was : Side) → is_same_side was was ≡ true
side_itself Inside = refl
side_itself was = refl

-- a list of one item or none
entry_in : {X : Type 0} (same : Bool) (item x : X) → Has (cond same [] (item ∷ [])) x → (same ≡ false) × (item ≡ x)
entry_in true item x h = absurd h
entry_in false item x (inl is) = (refl, is)
entry_in false item x (inr none) = absurd none

entry_has : {X : Type 0} (same : Bool) (item : X) → same ≡ false → Has (cond same [] (item ∷ [])) item
entry_has true item is = cc
entry_has false item is = inl refl

not_same : (b : Bool) → (b ≡ true → ⊥) → b ≡ false
not_same true h = absurd (h refl)
not_same false h = refl

pub differ_way : (was now : Way) → is_same_way was now ≡ false → was ≢ now
differ_way was now is = λ e. let f = sym is ∙ ap (λ (w : Way). is_same_way was w) (sym e) ∙ way_itself was in cc

pub differ_side : (was now : Side) → is_same_side was now ≡ false → was ≢ now
differ_side was now is = λ e. let f = sym is ∙ ap (λ (s : Side). is_same_side was s) (sym e) ∙ side_itself was in cc

-- ---- one ring
module _ (sheets : List Contents) (images : List Runs) where
  turn_is : (layer path : ℕ) (change : SideChange) → IsRingAt sheets layer path
      → Has (turn_change sheets images layer path) change → IsSideChange sheets images change
  turn_is layer path change ring h = grind (arith, entry_in, differ_way)

  point_is : (layer path : ℕ) (at : Spot) (change : SideChange) → IsRingAt sheets layer path → IsPointAt sheets at
      → Has (point_change sheets images layer path at) change → IsSideChange sheets images change
  point_is layer path at change ring point h = grind (arith, entry_in, differ_side)

  of_ring : (layer path : ℕ) (change : SideChange) → IsRingAt sheets layer path
      → Has (ring_changes sheets images layer path) change → IsSideChange sheets images change
  of_ring layer path change ring h =
      by (has_either (turn_change sheets images layer path)
      (flat_map (point_change sheets images layer path) (spots_of sheets)) change h)
    where
      by : Has (turn_change sheets images layer path) change
          ⊎ Has (flat_map (point_change sheets images layer path) (spots_of sheets)) change
          → IsSideChange sheets images change
      by (inl here) = turn_is layer path change ring here
      by (inr there) =
          let (at, has, own) = some_of (point_change sheets images layer path) (spots_of sheets) change there in
          point_is layer path at change ring (in_points sheets at has) own

  turn_has : (layer path : ℕ) (was now : Way) → was ≡ way_of (ring_of sheets images Source layer path)
      → now ≡ way_of (ring_of sheets images Target layer path) → was ≢ now
      → Has (turn_change sheets images layer path) (Turn layer path was now)
  turn_has layer path was now is_was is_now differ = grind (arith, entry_has, not_same, same_way)

  point_has : (layer path : ℕ) (at : Spot) (was now : Side)
      → was ≡ side_of (ring_of sheets images Source layer path) (place_of sheets images Source at)
      → now ≡ side_of (ring_of sheets images Target layer path) (place_of sheets images Target at) → was ≢ now
      → Has (point_change sheets images layer path at) (Point layer path at was now)
  point_has layer path at was now is_was is_now differ = grind (arith, entry_has, not_same, same_side)

  record IsInRing (change : SideChange) : Type 0 where
    layer : ℕ
    path : ℕ
    ring : IsRingAt sheets layer path
    has : Has (ring_changes sheets images layer path) change

  ring_has : (change : SideChange) → IsSideChange sheets images change → IsInRing change
  ring_has (Turn layer path was now) (ring, is_was, is_now, differ) = grind (arith, has_left, flat_map, turn_has)
  ring_has (Point layer path at was now) (ring, point, is_was, is_now, differ) = record {
    layer = layer;
    path = path;
    ring = ring;
    has = has_right (turn_change sheets images layer path)
        (flat_map (point_change sheets images layer path) (spots_of sheets)) (Point layer path at was now)
        (has_of_some (point_change sheets images layer path) (spots_of sheets) at (Point layer path at was now)
        (points_have sheets at point) (point_has layer path at was now is_was is_now differ));
  }

  -- ---- all
  listed_is : (change : SideChange) → Has (side_changes_of sheets images) change → IsSideChange sheets images change
  listed_is change h = grind (arith, of_sheets, of_ring, in_layers, in_paths, zero_plus)

  is_listed : (change : SideChange) → IsSideChange sheets images change → Has (side_changes_of sheets images) change
  is_listed change is = grind (arith, ring_has, sheets_have, zero_plus)

  pub all_sides : AreAllSideChanges sheets images (side_changes_of sheets images)
  all_sides change = grind (arith, listed_is, member, contained, is_listed)

  -- where nothing is listed nothing changed
  unlisted : side_changes_of sheets images ≡ [] → (change : SideChange) → IsSideChange sheets images change → ⊥
  unlisted none change is = subst (λ (cs : List SideChange). Has cs change) none (is_listed change is)

  way_kept : side_changes_of sheets images ≡ [] → (layer path : ℕ) → IsRingAt sheets layer path → (was now : Way)
      → was ≡ way_of (ring_of sheets images Source layer path)
      → now ≡ way_of (ring_of sheets images Target layer path) → (same : Bool) → is_same_way was now ≡ same → was ≡ now
  way_kept none layer path ring was now is_was is_now true is = same_way was now is
  way_kept none layer path ring was now is_was is_now false is =
      absurd (unlisted none (Turn layer path was now) (ring, is_was, is_now, differ_way was now is))

  side_kept : side_changes_of sheets images ≡ [] → (layer path : ℕ) (at : Spot) → IsRingAt sheets layer path
      → IsPointAt sheets at → (was now : Side)
      → was ≡ side_of (ring_of sheets images Source layer path) (place_of sheets images Source at)
      → now ≡ side_of (ring_of sheets images Target layer path) (place_of sheets images Target at)
      → (same : Bool) → is_same_side was now ≡ same → was ≡ now
  side_kept none layer path at ring point was now is_was is_now true is = same_side was now is
  side_kept none layer path at ring point was now is_was is_now false is =
      absurd (unlisted none (Point layer path at was now) (ring, point, is_was, is_now, differ_side was now is))

  pub none_keeps : side_changes_of sheets images ≡ [] → KeepSides sheets images
  none_keeps none = record {
    ways = λ layer path ring.
        let was = way_of (ring_of sheets images Source layer path) in
        let now = way_of (ring_of sheets images Target layer path) in
        way_kept none layer path ring was now refl refl (is_same_way was now) refl;
    sides = λ layer path at ring point.
        let was = side_of (ring_of sheets images Source layer path) (place_of sheets images Source at) in
        let now = side_of (ring_of sheets images Target layer path) (place_of sheets images Target at) in
        side_kept none layer path at ring point was now refl refl (is_same_side was now) refl;
  }
