-- The sheet so far, one point or one path further on.
use Rattle.std.proofs.Common.{◌≡◌, ℕ, suc, ◌+◌, ◌==◌, Bool, true, false, List, [], ◌∷◌, ◌++◌, length, refl, sym, ap}
use Rattle.std.proofs.Common.{◌∙◌, subst, append_assoc, append-nil, arith, length-append}
use Rattle.std.specs.Prelude.{flat_map, map, sum_by, if◌then◌else◌, Ok, Option, Some, None}
use Rattle.std.proofs.lemmas.Grind.{flat_map-append}
use Rattle.std.proofs.lemmas.List.{map-append}
use Rattle.std.proofs.lemmas.List.Sums.{sum_by-append}
use Rattle.std.proofs.lemmas.Bool.{eq-eqb, ne_eqb}
use Rattle.mm_decimal.specs.AnswerValues.{millimetres_of}
use Rattle.mm_decimal.specs.declared.numerals.MmRead.{MmRead}
use Rattle.plane_base.specs.declared.shapes.Pt.{Pt}
use Rattle.sheet_base.specs.PointHeights.{Height}
use Rattle.sheet_base.specs.declared.paths.PathKind.{PathKind}
use Rattle.sheet_base.specs.declared.paths.PathKind.TheVariants.{Dot, Line, Loop}
use Rattle.sheet_base.specs.declared.paths.PathRow.{PathRow}
use Rattle.sheet_base.specs.declared.edits.Edit.{Edit}
use Rattle.wkt_layer.specs.Tokens.{Number}
use Rattle.wkt_layer.specs.Numbers.{Point, past_of, place_of, height_in_third, height_of, lost_in, lost_in_third}
use Rattle.wkt_layer.specs.Numbers.{lost_of, mm_in}
use Rattle.wkt_layer.specs.Geometries.{last_behind}
use Rattle.wkt_layer.specs.Paths.{Path, kept_of, kept_points, kept_heights, points_before_last, lost_on, rows_from}
use Rattle.wkt_layer.specs.Paths.{edits_from}
use Rattle.wkt_layer.specs.Paths.{edit_of, text_for}
use Rattle.wkt_layer.specs.InsidePasses.{Held, AreFrom, IsThirdRead, height_read, lost_read}
use Rattle.wkt_layer.specs.declared.pass.LinesRead.{LinesRead}
use Rattle.wkt_layer.proofs.Grammar.Rings.{length_places}

-- the row of a path whose first point has this number
abbrev pub row_at : Path → ℕ → PathRow
row_at path first = record { kind = path.kind; first = first; past = first + length (kept_points path) }

-- rows and edits of one path more
rows_push : (first : ℕ) (done : List Path) (path : Path)
    → rows_from first (done ++ path ∷ []) ≡ rows_from first done
    ++ row_at path (first + length (flat_map kept_points done)) ∷ []
rows_push first [] path = let e : first ≡ first + 0 = omega arith in ap (λ n. row_at path n ∷ []) e
rows_push first (one ∷ done) path =
    grind (arith, length-append, (rows_push (first + length (kept_points one)) done path))

edits_push : (number : ℕ) (done : List Path) (path : Path)
    → edits_from number (done ++ path ∷ []) ≡ edits_from number done ++ edit_of (number + length done) path ∷ []
edits_push number [] path = let e : number ≡ number + 0 = omega arith in ap (λ n. edit_of n path ∷ []) e
edits_push number (one ∷ done) path = grind (arith, (edits_push (number + 1) done path))

rows_length : (first : ℕ) (done : List Path) → length (rows_from first done) ≡ length done
rows_length first [] = refl
rows_length first (one ∷ done) = let e = rows_length (first + length (kept_points one)) done in ap suc e

-- what of a pass is the sheet so far
pub record SheetPart : Type 0 where
  pub paths : List PathRow
  pub points : List Pt
  pub heights : List Height
  pub edits : List Edit
  pub inexact : ℕ
  pub first : ℕ
  pub start : ℕ
  pub end : ℕ

-- that of a pass
abbrev pub sheet_part : LinesRead → SheetPart
sheet_part pass = record {
  paths = pass.paths.items;
  points = pass.points.items;
  heights = pass.heights;
  edits = pass.edits.items;
  inexact = pass.inexact;
  first = pass.first;
  start = pass.start;
  end = pass.end;
}

-- a pass of the same sheet has the same paths
pub held_beside : (old new : LinesRead) (done : List Path) (now : List Point) → sheet_part new ≡ sheet_part old
    → Held old done now → Held new done now
held_beside old new done now same held = grind (arith)

-- the points of a path without its last one, and that one
split_last : (one : Point) (more : List Point)
    → one ∷ more ≡ points_before_last one more ++ last_behind one more ∷ []
split_last one [] = refl
split_last one (next ∷ more) = ap (λ x. one ∷ x) (split_last next more)

pub last_push : (one : Point) (more : List Point) (p : Point) → last_behind one (more ++ p ∷ []) ≡ p
last_push one [] p = refl
last_push one (next ∷ more) p = last_push next more p

from_push : (now : List Point) (p : Point) (start end old_start old_end : ℕ) → AreFrom now old_start old_end
    → start ≡ p.x.start → end ≡ past_of p
    → (first : Bool) → (now ≡ [] → first ≡ true) → ((now ≡ [] → ⊥) → first ≡ false)
    → AreFrom (now ++ p ∷ []) (if first then start else old_start) end
from_push [] p start end old_start old_end from at_start at_end first none some = rw (none refl) (at_start, at_end)
from_push (one ∷ now) p start end old_start old_end from at_start at_end first none some =
    rw (some (λ e. cc)) (from.0, at_end ∙ sym (ap past_of (last_push one now p)))

-- as many points come before a path as it is the first one's number, exactly where none of it was read
none_first : (size first : ℕ) (now : List Point) → size ≡ first + length now → now ≡ [] → (size == first) ≡ true
none_first size first now sum none = eq-eqb size first (let h : length now ≡ 0 = ap length none in omega arith)

some_first : (size first : ℕ) (now : List Point) → size ≡ first + length now → (now ≡ [] → ⊥) → (size == first) ≡ false
some_first size first [] sum some = absurd (some refl)
some_first size first (one ∷ now) sum some = ne_eqb size first (λ e. absurd (omega (arith, sum, e)))

-- what was read of a third number
third_height : (third : Option Number) (z : Option MmRead) → IsThirdRead third z
    → height_in_third third ≡ height_read z
third_height None None is = refl
third_height None (Some read) is = absurd is
third_height (Some n) None is = absurd is
third_height (Some n) (Some read) is = ap (λ a. let h : Height = Some (mm_in a) in h) is

third_lost : (third : Option Number) (z : Option MmRead) → IsThirdRead third z → lost_in_third third ≡ lost_read z
third_lost None None is = refl
third_lost None (Some read) is = absurd is
third_lost (Some n) None is = absurd is
third_lost (Some n) (Some read) is = ap lost_in is

-- one point more
pub held_add : (old new : LinesRead) (x y : MmRead) (z : Option MmRead) (start end : ℕ)
    → new.paths.items ≡ old.paths.items → new.points.items ≡ old.points.items ++ record { x = x.mm; y = y.mm } ∷ []
    → new.heights ≡ old.heights ++ height_read z ∷ []
    → new.edits.items ≡ old.edits.items
    → new.inexact ≡ old.inexact + (lost_in (Ok x) + lost_in (Ok y) + lost_read z) → new.first ≡ old.first
    → new.start ≡ (if length old.points.items == old.first then start else old.start) → new.end ≡ end
    → (done : List Path) (now : List Point) (p : Point) → Held old done now → millimetres_of p.x.text ≡ Ok x
    → millimetres_of p.y.text ≡ Ok y → IsThirdRead p.z z → start ≡ p.x.start → end ≡ past_of p
    → Held new done (now ++ p ∷ [])
held_add old new x y z start end paths points heights edits inexact first starts ends done now p held is_x is_y is_z
    at_start at_end =
    let size : length old.points.items ≡ old.first + length now =
    ap length held.points ∙ length-append (flat_map kept_points done) (map place_of now)
    ∙ (let e = held.first in let m = length_places now in omega (arith, e, m)) in
    let place : place_of p ≡ record { x = x.mm; y = y.mm } =
    ap (λ a. let q : Pt = record { x = mm_in a; y = mm_in (millimetres_of p.y.text) } in q) is_x
    ∙ ap (λ b. let q : Pt = record { x = x.mm; y = mm_in b } in q) is_y in
    let height : height_of p ≡ height_read z = third_height p.z z is_z in
    let lost : lost_of p ≡ lost_in (Ok x) + lost_in (Ok y) + lost_read z =
    ap (λ a. lost_in a + lost_in (millimetres_of p.y.text) + lost_in_third p.z) is_x
    ∙ ap (λ b. lost_in (Ok x) + lost_in b + lost_in_third p.z) is_y
    ∙ ap (λ n. lost_in (Ok x) + lost_in (Ok y) + n) (third_lost p.z z is_z) in
    let sum : sum_by lost_of (now ++ p ∷ []) ≡ sum_by lost_of now + lost_of p = sum_by-append lost_of now (p ∷ [])
    ∙ (let e : sum_by lost_of (p ∷ []) ≡ lost_of p = omega arith in ap (λ n. sum_by lost_of now + n) e) in
    let from = from_push now p start end old.start old.end held.ends at_start at_end
    (length old.points.items == old.first)
    (none_first (length old.points.items) old.first now size)
    (some_first (length old.points.items) old.first now size) in
    record {
      paths = paths ∙ held.paths;
      points = points ∙ ap (λ items. items ++ record { x = x.mm; y = y.mm } ∷ []) held.points
          ∙ append_assoc (flat_map kept_points done) (map place_of now) (record { x = x.mm; y = y.mm } ∷ [])
          ∙ ap (λ q. flat_map kept_points done ++ (map place_of now ++ q ∷ [])) (sym place)
          ∙ ap (λ items. flat_map kept_points done ++ items) (sym (map-append place_of now (p ∷ [])));
      heights = heights ∙ ap (λ items. items ++ height_read z ∷ []) held.heights
          ∙ append_assoc (flat_map kept_heights done) (map height_of now) (height_read z ∷ [])
          ∙ ap (λ q. flat_map kept_heights done ++ (map height_of now ++ q ∷ [])) (sym height)
          ∙ ap (λ items. flat_map kept_heights done ++ items) (sym (map-append height_of now (p ∷ [])));
      edits = edits ∙ held.edits;
      inexact = omega (arith, inexact, held.inexact, sum, lost);
      first = first ∙ held.first;
      ends = subst (λ e. AreFrom (now ++ p ∷ []) new.start e) (sym ends)
          (subst (λ b. AreFrom (now ++ p ∷ []) b end) (sym starts) from);
    }

-- the points of a whole path are kept, and so are their heights
kept : {X : Type 0} (of : Point → X) (kind : PathKind) (one : Point) (more : List Point) (front old new : List X)
    → old ≡ front ++ map of (one ∷ more)
    → (kind ≡ Loop → (ahead : List X) → (last : X) → old ≡ ahead ++ last ∷ [] → new ≡ ahead)
    → ((kind ≡ Loop → ⊥) → new ≡ old)
    → new ≡ front ++ map of (kept_of kind one more)
kept of Dot one more front old new split closing others = others (λ e. cc) ∙ split
kept of Line one more front old new split closing others = others (λ e. cc) ∙ split
kept of Loop one more front old new split closing others =
    closing refl (front ++ map of (points_before_last one more)) (of (last_behind one more))
    (split ∙ ap (λ ps. front ++ map of ps) (split_last one more)
    ∙ ap (λ ps. front ++ ps) (map-append of (points_before_last one more) (last_behind one more ∷ []))
    ∙ sym (append_assoc front (map of (points_before_last one more)) (of (last_behind one more) ∷ [])))

-- one path more
pub held_end : (old new : LinesRead) (kind : PathKind)
    → (rows : PathRow) → (edit : Edit) → rows
    ≡ record { kind = kind; first = old.first; past = length new.points.items }
    → edit ≡ record { start = old.start; end = old.end; what = text_for kind (length old.paths.items) }
    → new.paths.items ≡ old.paths.items ++ rows ∷ [] → new.edits.items ≡ old.edits.items ++ edit ∷ []
    → (kind ≡ Loop → (front : List Pt) → (last : Pt) → old.points.items ≡ front ++ last ∷ [] → new.points.items ≡ front)
    → ((kind ≡ Loop → ⊥) → new.points.items ≡ old.points.items)
    → (kind ≡ Loop → (front : List Height) → (last : Height) → old.heights ≡ front ++ last ∷ [] → new.heights ≡ front)
    → ((kind ≡ Loop → ⊥) → new.heights ≡ old.heights)
    → new.inexact ≡ old.inexact → new.first ≡ length new.points.items
    → (done : List Path) (one : Point) (more : List Point) → Held old done (one ∷ more)
    → Held new (done ++ record { kind = kind; first = one; more = more } ∷ []) []
held_end old new kind rows edit is_row is_edit paths edits closing others lower other_heights inexact first done one
    more
    held =
    let path : Path = record { kind = kind; first = one; more = more } in
    let points : new.points.items ≡ flat_map kept_points done ++ map place_of (kept_of kind one more) =
    kept place_of kind one more (flat_map kept_points done) old.points.items new.points.items held.points closing
    others in
    let heights : new.heights ≡ flat_map kept_heights done ++ map height_of (kept_of kind one more) =
    kept height_of kind one more (flat_map kept_heights done) old.heights new.heights held.heights lower
    other_heights in
    let all_heights : flat_map kept_heights (done ++ record { kind = kind; first = one; more = more } ∷ [])
    ≡ flat_map kept_heights done ++ map height_of (kept_of kind one more) =
    flat_map-append kept_heights done (record { kind = kind; first = one; more = more } ∷ [])
    ∙ ap (λ ps. flat_map kept_heights done ++ ps) (append-nil (map height_of (kept_of kind one more))) in
    let whole : flat_map kept_points (done ++ record { kind = kind; first = one; more = more } ∷ [])
    ≡ flat_map kept_points done ++ map place_of (kept_of kind one more) =
    flat_map-append kept_points done (record { kind = kind; first = one; more = more } ∷ [])
    ∙ ap (λ ps. flat_map kept_points done ++ ps) (append-nil (map place_of (kept_of kind one more))) in
    let size : length new.points.items ≡ length (flat_map kept_points done)
    + length (map place_of (kept_of kind one more)) =
    ap length points ∙ length-append (flat_map kept_points done) (map place_of (kept_of kind one more)) in
    let count : length old.paths.items ≡ length done = ap length held.paths ∙ rows_length 0 done in
    let row : rows ≡ row_at (record { kind = kind; first = one; more = more })
    (0 + length (flat_map kept_points done)) =
    is_row ∙ ap (λ n. let r : PathRow = record { kind = kind; first = n; past = length new.points.items } in r)
    (held.first ∙ (let e : length (flat_map kept_points done) ≡ 0 + length (flat_map kept_points done) =
    omega arith in e))
    ∙ ap (λ n. let r : PathRow = record { kind = kind; first = 0 + length (flat_map kept_points done); past = n } in r)
    (size ∙ (let e : length (flat_map kept_points done) + length (map place_of (kept_of kind one more)) ≡ 0
    + length (flat_map kept_points done) + length (map place_of (kept_of kind one more)) = omega arith in e)) in
    let change : edit ≡ edit_of (0 + length done) (record { kind = kind; first = one; more = more }) =
    is_edit ∙ ap (λ n. let r : Edit = record {
      start = n;
      end = old.end;
      what =
          text_for kind (length old.paths.items);
    } in r) held.ends.0
    ∙ ap (λ n. let r : Edit = record {
      start = one.x.start;
      end = n;
      what =
          text_for kind (length old.paths.items);
    } in r) held.ends.1
    ∙ ap (λ n. let r : Edit = record {
      start = one.x.start;
      end = past_of (last_behind one more);
      what = text_for kind n;
    } in r)
    (count ∙ (let e : length done ≡ 0 + length done = omega arith in e)) in
    let lost : sum_by lost_on (done ++ record { kind = kind; first = one; more = more } ∷ []) ≡ sum_by lost_on done
    + sum_by lost_of (one ∷ more) =
    sum_by-append lost_on done (record { kind = kind; first = one; more = more } ∷ [])
    ∙ (let e : sum_by lost_on (record { kind = kind; first = one; more = more } ∷ [])
    ≡ sum_by lost_of (one ∷ more) = omega arith in ap (λ n. sum_by lost_on done + n) e) in
    record {
      paths = paths ∙ ap (λ items. items ++ rows ∷ []) held.paths ∙ ap (λ r. rows_from 0 done ++ r ∷ []) row
          ∙ sym (rows_push 0 done (record { kind = kind; first = one; more = more }));
      points = points ∙ sym whole ∙ sym (append-nil
          (flat_map kept_points (done ++ record { kind = kind; first = one; more = more } ∷ [])));
      heights = heights ∙ sym all_heights ∙ sym (append-nil
          (flat_map kept_heights (done ++ record { kind = kind; first = one; more = more } ∷ [])));
      edits = edits ∙ ap (λ items. items ++ edit ∷ []) held.edits ∙ ap (λ r. edits_from 0 done ++ r ∷ []) change
          ∙ sym (edits_push 0 done (record { kind = kind; first = one; more = more }));
      inexact = let e : sum_by lost_of [] ≡ 0 = refl in omega (arith, inexact, held.inexact, lost, e);
      first = first ∙ ap length (points ∙ sym whole);
      ends = tt;
    }
