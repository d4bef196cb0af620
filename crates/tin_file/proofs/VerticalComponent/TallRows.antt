-- Rows with a vertical component: the offsets of their corners, with one row more.
use Rattle.std.proofs.Common.{◌≡◌, ℕ, suc, zero, ◌<◌, ◌≤◌, List, [], ◌∷◌, ◌++◌, length, map, get_or, Bool, true, false, refl}
use Rattle.std.proofs.Common.{sym, ap, ◌∙◌, subst, arith, append-nil, length-append}
use Rattle.std.proofs.Math.Seq.{get_or-append_seam}
use Rattle.std.proofs.lemmas.List.{map-append, length-map}
use Rattle.std.proofs.lemmas.Bool.{or_parts}
use Rattle.std.proofs.lemmas.Bool.Decides.{Decides-int_eq}
use Rattle.std.specs.Prelude.{◌&&◌, ◌||◌, not, if◌then◌else◌, Ok, Err, ℤ}
use Rattle.std.specs.List.{list_any, AllByRecursion}
use Rattle.std.specs.Ordering.{int_eq}
use Rattle.tin_base.specs.declared.corners.Corner.{Corner}
use Rattle.tin_base.specs.Triangulation.{no_corner}
use Rattle.tin_file.specs.Corners.{is_same, corners_of, corner_number}
use Rattle.tin_file.specs.TallVertices.{vertices_in, tall_corners_in, offset_at, offsets_of, differs_from, agreeing}
use Rattle.tin_file.specs.RowContents.{corners_in}
use Rattle.tin_file.specs.InsideTallRows.{HaveOffset, DoAgree, IsAdded}
use Rattle.tin_file.specs.declared.tall_vertices.TallVertex.{TallVertex}
use Rattle.tin_file.specs.declared.vertices.Vertices.{Vertices}
use Rattle.tin_file.specs.declared.faults.TinFault.TheVariants.{Offset as OtherOffset}
use Rattle.tin_file.specs.InsideNodes.{Gives}
use Rattle.tin_file.proofs.FileRows.CornerKeys.{same_is, is_itself, first_place, corners_push, corners_have, numbers_push, among_more}
use Rattle.tin_file.proofs.CallerLemmas.Fresh.{kept_are, number_within}

abbrev IsAmong : Corner → List TallVertex → Bool
IsAmong corner rows = list_any (is_same corner) (tall_corners_in rows)

pub corners_same : (rows : List TallVertex) → corners_in (vertices_in rows) ≡ tall_corners_in rows
corners_same [] = refl
corners_same (row ∷ rows) = ap (λ cs. row.vertex.corner ∷ cs) (corners_same rows)

corners_more : (rows : List TallVertex) (one : TallVertex)
    → corners_in (vertices_in rows ++ one.vertex ∷ []) ≡ tall_corners_in rows ++ one.vertex.corner ∷ []
corners_more [] one = refl
corners_more (row ∷ rows) one = ap (λ cs. row.vertex.corner ∷ cs) (corners_more rows one)

-- ---- the offsets with a row more
offset_kept : (c : Corner) (rows : List TallVertex) (one : TallVertex) → IsAmong c rows ≡ true
    → offset_at (rows ++ one ∷ []) c ≡ offset_at rows c
offset_kept c [] one h = cc
offset_kept c (row ∷ rows) one h = grind (arith, offset_kept c rows one)

offset_new : (c : Corner) (rows : List TallVertex) (one : TallVertex) → IsAmong c rows ≡ false
    → is_same c one.vertex.corner ≡ true → offset_at (rows ++ one ∷ []) c ≡ one.offset
offset_new c [] one h t = rw t refl
offset_new c (row ∷ rows) one h t = grind (arith, or_parts, offset_new c rows one)

offsets_kept : (rows : List TallVertex) (one : TallVertex) (cs : List Corner)
    → AllByRecursion (λ c. IsAmong c rows ≡ true) cs → map (offset_at (rows ++ one ∷ [])) cs ≡ map (offset_at rows) cs
offsets_kept rows one [] h = refl
offsets_kept rows one (c ∷ cs) h =
    rw (offset_kept c rows one h.0) (ap (λ os. offset_at rows c ∷ os) (offsets_kept rows one cs h.1))

offsets_push : (rows : List TallVertex) (one : TallVertex)
    → offsets_of (rows ++ one ∷ []) ≡ offsets_of rows
    ++ (if IsAmong one.vertex.corner rows then [] else one.offset ∷ [])
offsets_push rows one =
    let c = one.vertex.corner in let cs = tall_corners_in rows in
    let more : List Corner = if IsAmong c rows then [] else c ∷ [] in
    let all : corners_of (tall_corners_in (rows ++ one ∷ [])) ≡ corners_of cs ++ more =
    ap corners_of (map-append (λ (row : TallVertex). row.vertex.corner) rows (one ∷ [])) ∙ corners_push cs c in
    ap (map (offset_at (rows ++ one ∷ []))) all
    ∙ map-append (offset_at (rows ++ one ∷ [])) (corners_of cs) more
    ∙ ap (λ os. os ++ map (offset_at (rows ++ one ∷ [])) more)
    (offsets_kept rows one (corners_of cs) (kept_are (λ d. IsAmong d rows ≡ true) [] cs (among_more [] cs)))
    ∙ ap (λ os. offsets_of rows ++ os) (last (IsAmong c rows) refl)
  where
    last : (test : Bool) → IsAmong one.vertex.corner rows ≡ test
        → map (offset_at (rows ++ one ∷ [])) (if test then [] else one.vertex.corner ∷ [])
        ≡ (if test then [] else one.offset ∷ [])
    last true t = refl
    last false t = ap (λ o. o ∷ []) (offset_new one.vertex.corner rows one t (is_itself one.vertex.corner))

-- ---- rows that agree
absorb : (b y a : Bool) → y ≡ (a && b) → (b || y) ≡ b
absorb b y a h = grind arith

-- where the rows that are this corner have one offset
differ_so : (c : Corner) (o d : ℤ) (rows : List TallVertex) → HaveOffset c d rows
    → list_any (λ (row : TallVertex). is_same c row.vertex.corner && not (int_eq row.offset o)) rows
    ≡ (IsAmong c rows && not (int_eq d o))
differ_so c o d [] h = refl
differ_so c o d (row ∷ rows) h = by_test (is_same c row.vertex.corner) refl _ (differ_so c o d rows h.1)
  where
    by_test : (test : Bool) → is_same c row.vertex.corner ≡ test → (more : Bool)
        → more ≡ (IsAmong c rows && not (int_eq d o))
        → ((test && not (int_eq row.offset o)) || more) ≡ ((test || IsAmong c rows) && not (int_eq d o))
    by_test false t more is = is
    by_test true t more is =
        ap (λ (z : ℤ). not (int_eq z o) || more) (h.0 t) ∙ absorb (not (int_eq d o)) more (IsAmong c rows) is

differ_from_so : (rows : List TallVertex) (one : TallVertex) → DoAgree rows
    → list_any (differs_from one) rows
    ≡ (IsAmong one.vertex.corner rows && not (int_eq (offset_at rows one.vertex.corner) one.offset))
differ_from_so rows one h =
    differ_so one.vertex.corner one.offset (offset_at rows one.vertex.corner) rows (h one.vertex.corner)

have_none : (c : Corner) (d : ℤ) (rows : List TallVertex) → IsAmong c rows ≡ false → HaveOffset c d rows
have_none c d [] h = tt
have_none c d (row ∷ rows) h = grind (arith, or_parts, have_none c d rows)

have_more : (c : Corner) (d : ℤ) (rows : List TallVertex) (one : TallVertex) → HaveOffset c d rows
    → (is_same c one.vertex.corner ≡ true → one.offset ≡ d) → HaveOffset c d (rows ++ one ∷ [])
have_more c d [] one h on = (on, tt)
have_more c d (row ∷ rows) one h on = (h.0, have_more c d rows one h.1 on)

not_false : (b : Bool) → not b ≡ false → b ≡ true
not_false b h = grind arith

is_there : (a b : Bool) → (a && b) ≡ false → a ≡ true → b ≡ false
is_there a b h i = grind arith

pub agree_more : (rows : List TallVertex) (one : TallVertex) → DoAgree rows → list_any (differs_from one) rows ≡ false
    → DoAgree (rows ++ one ∷ [])
agree_more rows one h none c = by_test (IsAmong c rows) refl
  where
    by_test : (test : Bool) → IsAmong c rows ≡ test → HaveOffset c (offset_at (rows ++ one ∷ []) c) (rows ++ one ∷ [])
    by_test true t =
        let same : is_same c one.vertex.corner ≡ true → one.offset ≡ offset_at rows c = λ s.
        let is = same_is c one.vertex.corner s in
        let there : IsAmong one.vertex.corner rows ≡ true = subst (λ (e : Corner). IsAmong e rows ≡ true) is t in
        let equal = not_false (int_eq (offset_at rows one.vertex.corner) one.offset)
        (is_there (IsAmong one.vertex.corner rows) _ (sym (differ_from_so rows one h) ∙ none) there) in
        sym ((Decides-int_eq (offset_at rows one.vertex.corner) one.offset).0 equal) ∙ ap (offset_at rows) (sym is) in
        subst (λ (o : ℤ). HaveOffset c o (rows ++ one ∷ [])) (sym (offset_kept c rows one t))
        (have_more c (offset_at rows c) rows one (h c) same)
    by_test false t =
        have_more c (offset_at (rows ++ one ∷ []) c) rows one (have_none c _ rows t)
        (λ s. sym (offset_new c rows one t s))

-- ---- a corner by its number
corner_at_number : (corners : List Corner) (c : Corner) → list_any (is_same c) corners ≡ true
    → get_or corners (corner_number corners c) no_corner ≡ c
corner_at_number [] c h = cc
corner_at_number (d ∷ corners) c h =
    rw (first_place (is_same c) d corners) (by_test (is_same c d) refl h (λ t. corner_at_number corners c t))
  where
    by_test : (test : Bool) → is_same c d ≡ test → (test || list_any (is_same c) corners) ≡ true
        → (list_any (is_same c) corners ≡ true → get_or corners (corner_number corners c) no_corner ≡ c)
        → get_or (d ∷ corners) (if test then 0 else suc (corner_number corners c)) no_corner ≡ c
    by_test true s t on = sym (same_is c d s)
    by_test false s t on = on t

get_mapped : (f : Corner → ℤ) (corners : List Corner) (k : ℕ) (d : ℤ) → k < length corners
    → get_or (map f corners) k d ≡ f (get_or corners k no_corner)
get_mapped f [] k d h = absurd (omega (arith, h))
get_mapped f (c ∷ corners) zero d h = refl
get_mapped f (c ∷ corners) (suc k) d h = get_mapped f corners k d (omega (arith, h))

-- ---- one row more is added
module _ (vertices : Vertices) (offsets : List ℤ) (row : ℕ) (offset : ℤ) (rows : List TallVertex) (one : TallVertex)
    (h : IsAdded vertices offsets row offset rows one) where
  abbrev c : Corner
  c = one.vertex.corner

  abbrev cs : List Corner
  cs = tall_corners_in rows

  made : vertices.corners.items ≡ corners_of cs ++ (if IsAmong c rows then [] else c ∷ [])
  made = h.gathered.corners ∙ ap corners_of (corners_more rows one) ∙ corners_push cs c

  as_many : length offsets ≡ length (corners_of cs)
  as_many = ap length h.before ∙ length-map (corners_of cs) (offset_at rows)

  agrees : list_any (differs_from one) rows ≡ false → agreeing rows one ≡ Ok one
  agrees none = rw none refl

  new_there : length offsets < length vertices.corners.items → IsAmong c rows ≡ false
  new_there less = grind (arith, as_many, made, append-nil)

  old_there : length vertices.corners.items ≤ length offsets → IsAmong c rows ≡ true
  old_there more = grind (arith, as_many, made, length-append)

  pub new_pushed : length offsets < length vertices.corners.items → (new : List ℤ) → new ≡ offsets ++ offset ∷ []
      → Gives {A = Unit {0}} (λ done kept. new ≡ offsets_of (rows ++ one ∷ [])) (Ok tt) (agreeing rows one)
  new_pushed less new is = grind (arith, new_there, differ_from_so, agrees, offsets_push)

  -- the number of the row
  numbers_so : vertices.numbers.items ≡ map (corner_number (corners_of cs)) cs ++ corner_number (corners_of cs) c ∷ []
  numbers_so = grind (arith, corners_more, numbers_push)

  long : length (map (corner_number (corners_of cs)) cs) ≡ row
  long = grind (arith, length-map)

  pub number_so : (d : ℕ) → get_or vertices.numbers.items row d ≡ corner_number (corners_of cs) c
  number_so d = grind (arith, get_or, numbers_so, long, get_or-append_seam)

  pub number_inside : length vertices.corners.items ≤ length offsets → corner_number (corners_of cs) c < length offsets
  number_inside more =
      omega (arith, as_many, number_within (corners_of cs) c (corners_have c cs ∙ old_there more))

  pub offset_there : length vertices.corners.items ≤ length offsets → (d : ℤ)
      → get_or offsets (corner_number (corners_of cs) c) d ≡ offset_at rows c
  offset_there more d = grind (arith, corners_have, old_there, get_or, get_mapped, number_within, corner_at_number)

  pub old_kept : length vertices.corners.items ≤ length offsets → offset_at rows c ≡ offset
      → Gives {A = Unit {0}} (λ done kept. offsets ≡ offsets_of (rows ++ one ∷ [])) (Ok tt) (agreeing rows one)
  old_kept more same = grind (arith, old_there, Decides-int_eq, differ_from_so, agrees, append-nil, offsets_push)

  pub old_other : length vertices.corners.items ≤ length offsets → (offset_at rows c ≡ offset → ⊥)
      → Err (OtherOffset row) ≡ agreeing rows one
  old_other more other = grind (arith, Decides-int_eq, differ_from_so, old_there)

-- no row differs from one that agrees
pub not_differs : (rows : List TallVertex) (one kept : TallVertex) → agreeing rows one ≡ Ok kept
    → list_any (differs_from one) rows ≡ false
not_differs rows one kept h = grind arith
