-- Vertices in fields, read so far.
use Rattle.std.proofs.Common.{◌≡◌, ℕ, zero, suc, ◌+◌, ◌≤◌, ◌<◌, ◌-◌, List, [], ◌∷◌, ◌++◌, length, map, take, drop}
use Rattle.std.proofs.Common.{subst, Bool, refl, ap, sym, ◌∙◌, arith, Result, Ok, Err, Option, None, Some}
use Rattle.std.specs.Prelude.{sum_by, IfSome}
use Rattle.std.proofs.lemmas.List.{append-nil, append_assoc, drop-drop, length-append, length-map, length-drop}
use Rattle.std.proofs.lemmas.List.{map-append}
use Rattle.std.proofs.Math.Seq.{take-length}
use Rattle.std.proofs.lemmas.List.Sums.{sum_by-append}
use Rattle.plane_base.specs.declared.shapes.Pt.{Pt}
use Rattle.dxf_entities.proofs.ReadSizes.{holds_more, grows_more}
use Rattle.sheet_base.specs.PointHeights.{Height, no_heights}
use Rattle.sheet_base.specs.Sheets.{Contents}
use Rattle.sheet_base.specs.declared.faults.LayerFault.{LayerFault}
use Rattle.dxf_pairs.specs.declared.pairs.Pair.{Pair}
use Rattle.dxf_entities.specs.declared.drawing.VertexFields.{VertexFields}
use Rattle.sheet_base.specs.Faults.{and_then}
use Rattle.dxf_entities.specs.Shapes.{point_of, lost_of}
use Rattle.dxf_entities.specs.Polylines.{vertices_in, vertex_edits}
use Rattle.dxf_entities.specs.DrawingContents.{with_vertices, vertices_by, GrowsBy}

abbrev pub behind_all : List VertexFields → Result (List VertexFields) LayerFault → Result (List VertexFields) LayerFault
behind_all done rest = and_then (λ more. Ok (done ++ more)) rest

-- these vertices are read, and the fields that are left are read after them
pub record AreReadTo (bytes : List ℕ) (exact : Bool) (fields : List Pair) (at : ℕ) (before now : Contents) : Type 0
  where
    pub done : List VertexFields
    pub whole : vertices_in bytes exact fields ≡ behind_all done (vertices_in bytes exact (drop at fields))
    pub held : now ≡ with_vertices before done
    pub inside : at ≤ length fields
    pub grown : GrowsBy at before now

none_done : (r : Result (List VertexFields) LayerFault) → r ≡ behind_all [] r
none_done (Ok vs) = refl
none_done (Err fault) = refl

one_done : (done : List VertexFields) (vertex : VertexFields) (r : Result (List VertexFields) LayerFault)
    → behind_all done (and_then (λ more. Ok (vertex ∷ more)) r) ≡ behind_all (done ++ vertex ∷ []) r
one_done done vertex (Ok vs) = ap Ok (sym (append_assoc done (vertex ∷ []) vs))
one_done done vertex (Err fault) = refl

pub same_contents : (a b : Contents) → a.paths ≡ b.paths → a.points ≡ b.points → a.heights ≡ b.heights
    → a.edits ≡ b.edits → a.inexact ≡ b.inexact → a.dropped ≡ b.dropped → a ≡ b
same_contents a b p q h r s t =
    λ i. record { paths = p i; points = q i; heights = h i; edits = r i; inexact = s i; dropped = t i }

no_vertices : (before : Contents) → before ≡ with_vertices before []
no_vertices before = grind (arith, append-nil, same_contents)

pub nothing_read : (bytes : List ℕ) (exact : Bool) (fields : List Pair) (before : Contents)
    → AreReadTo bytes exact fields 0 before before
nothing_read bytes exact fields before = grind (arith, none_done, no_vertices)

-- vertices after others
edits_behind : (point : ℕ) (done more : List VertexFields)
    → vertex_edits point (done ++ more) ≡ vertex_edits point done ++ vertex_edits (point + length done) more
edits_behind point [] more = let at : point + 0 ≡ point = omega arith in rw at refl
edits_behind point (vertex ∷ done) more = grind (arith, (edits_behind (point + 1) done more))

abbrev pub point_in : VertexFields → Pt
point_in vertex = point_of vertex.spot

abbrev pub lost_in : VertexFields → ℕ
lost_in vertex = lost_of vertex.spot

-- points without heights after others
none_both : (m n : ℕ) → no_heights m ++ no_heights n ≡ no_heights (m + n)
none_both zero n = let same : n ≡ 0 + n = omega arith in ap no_heights same
none_both (suc m) n =
    let more : suc (m + n) ≡ suc m + n = omega arith in grind (arith, (none_both m n))

pub none_behind : (heights : List Height) (points more all : List Pt) → all ≡ points ++ more
    → (heights ++ no_heights (length points)) ++ no_heights (length more) ≡ heights ++ no_heights (length all)
none_behind heights points more all are = grind (arith, length-append, append_assoc, none_both)

vertices_behind : (before : Contents) (done more : List VertexFields)
    → with_vertices (with_vertices before done) more ≡ with_vertices before (done ++ more)
vertices_behind before done more =
    let first = length-append before.points (map point_in done) ∙ ap (λ n. length before.points + n)
    (length-map done point_in) in
    let points : (before.points ++ map point_in done) ++ map point_in more ≡ before.points
    ++ map point_in (done ++ more) = rw (
      map-append point_in done more,
      append_assoc before.points (map point_in done) (map point_in more),
    ) refl in
    let edits : (before.edits ++ vertex_edits (length before.points) done)
    ++ vertex_edits (length (before.points ++ map point_in done)) more ≡ before.edits
    ++ vertex_edits (length before.points) (done ++ more) = grind (arith, edits_behind, append_assoc) in
    let lost : (before.inexact + sum_by lost_in done) + sum_by lost_in more ≡ before.inexact
    + sum_by lost_in (done ++ more) = omega (arith, sum_by-append lost_in done more) in
    same_contents _ _ refl points (none_behind _ _ _ _ (map-append point_in done more)) edits lost refl

pub rest_is : (fields : List Pair) (at : ℕ) → take (length fields - at) (drop at fields) ≡ drop at fields
rest_is fields at = rw (← length-drop at fields) (take-length (drop at fields))

-- the fields from this one on begin with this vertex, or with none
abbrev pub IsFirst : List ℕ → Bool → List Pair → Option VertexFields → Type 0
IsFirst bytes exact fields first = vertices_in bytes exact fields ≡ vertices_by bytes exact fields (Ok first)

pub one_read : (bytes : List ℕ) (exact : Bool) (fields : List Pair) (at : ℕ) (before now next : Contents)
    (first : Option VertexFields) (vertex : VertexFields) → AreReadTo bytes exact fields at before now → at < length fields
    → IsFirst bytes exact (take (length fields - at) (drop at fields)) first → first ≡ Some vertex
    → 2 ≤ length (take (length fields - at) (drop at fields))
    → next ≡ with_vertices now (vertex ∷ []) → GrowsBy 1 now next → AreReadTo bytes exact fields (at + 2) before next
one_read bytes exact fields at before now next first vertex so_far within first_is some two next_is grown =
    let is = subst (λ f. IsFirst bytes exact (drop at fields) f) some (subst (λ left. IsFirst bytes exact left first)
    (rest_is fields at) first_is) in
    let room : 2 ≤ length (drop at fields) = subst (λ (left : List Pair). 2 ≤ length left) (rest_is fields at) two in
    record {
      done = so_far.done ++ vertex ∷ [];
      whole = so_far.whole ∙ (ap (behind_all so_far.done) is ∙ (ap (λ left. behind_all so_far.done (and_then (λ more. Ok
          (vertex ∷ more)) (vertices_in bytes exact left))) (drop-drop 2 at fields) ∙ one_done _ vertex _));
      held = next_is ∙ (ap (λ c. with_vertices c (vertex ∷ [])) so_far.held ∙ vertices_behind before _ _);
      inside = omega (arith, simp length-drop at room);
      grown = grows_more at 1 (at + 2) before now next so_far.grown grown (omega arith);
    }

pub none_read : (bytes : List ℕ) (exact : Bool) (fields : List Pair) (at : ℕ) (before now : Contents)
    → AreReadTo bytes exact fields at before now → at < length fields
    → (first : Option VertexFields) → IsFirst bytes exact (take (length fields - at) (drop at fields)) first → first ≡ None
    → AreReadTo bytes exact fields (at + 1) before now
none_read bytes exact fields at before now so_far within first first_is nothing =
    let is : IsFirst bytes exact (drop at fields) None = grind (arith, rest_is) in
    record {
      done = so_far.done;
      whole = so_far.whole ∙ (ap (behind_all so_far.done) is
          ∙ ap (λ left. behind_all so_far.done (vertices_in bytes exact left)) (drop-drop 1 at fields));
      held = so_far.held;
      inside = omega arith;
      grown = λ count room. holds_more _ _ now (so_far.grown count room) (omega arith);
    }

pub at_some : (few size : ℕ) (first : Option VertexFields) (vertex : VertexFields) → first ≡ Some vertex
    → IfSome first (λ v. few ≤ size) → few ≤ size
at_some few size None vertex is enough = absurd (cc)
at_some few size (Some other) vertex is enough = enough
