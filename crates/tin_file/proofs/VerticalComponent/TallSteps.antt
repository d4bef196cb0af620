-- Rows with a vertical component are read one after another.
use Rattle.std.proofs.Common.{◌≡◌, ℕ, ◌+◌, List, [], ◌∷◌, ◌++◌, length, refl, sym, ap, ◌∙◌, subst, arith, length-append}
use Rattle.std.proofs.lemmas.List.{map-append}
use Rattle.std.specs.Prelude.{Result, Ok, Err, ℤ}
use Rattle.indexmap.specs.IndexSet.{IndexSet}
use Rattle.jtext.specs.Values.{Json}
use Rattle.sheet_base.specs.declared.flags.How.{How}
use Rattle.tin_file.specs.Keys.{and_then}
use Rattle.tin_file.specs.TallVertices.{vertices_in, offsets_of, tall_of, agreeing, tall_rows}
use Rattle.tin_file.specs.RowContents.{AreCollected}
use Rattle.tin_file.specs.InsideNodes.{Gives, Equals}
use Rattle.tin_file.specs.InsideTallRows.{DoAgree, IsAdded, AreTallGathered}
use Rattle.tin_file.specs.declared.tall_columns.TallColumns.{TallColumns}
use Rattle.tin_file.specs.declared.tall_vertices.TallVertex.{TallVertex}
use Rattle.tin_file.specs.declared.tall_vertices.TallVertices.{TallVertices}
use Rattle.tin_file.specs.declared.vertices.Numbers.{Numbers}
use Rattle.tin_file.specs.declared.vertices.Vertices.{Vertices}
use Rattle.tin_file.specs.declared.faults.TinFault.{TinFault}
use Rattle.tin_file.proofs.VerticalComponent.TallRows.{agree_more, not_differs}

-- these rows are read, and the whole is what follows them
pub record AreTallRead {S : Type 0} (how : How) (columns : TallColumns) (done : TallVertices) (seen : IndexSet Numbers S)
    (row : ℕ) (rest : List Json) (whole : Result (List TallVertex) TinFault) (talls : List TallVertex) : Type 0 where
  pub collected : AreCollected done.vertices seen (vertices_in talls)
  pub offsets : done.offsets.items ≡ offsets_of talls
  pub agree : DoAgree talls
  pub count : length talls ≡ row
  pub whole_is : whole ≡ tall_rows how columns talls rest

vertices_more : (talls : List TallVertex) (one : TallVertex)
    → vertices_in (talls ++ one ∷ []) ≡ vertices_in talls ++ one.vertex ∷ []
vertices_more talls one = map-append (λ (row : TallVertex). row.vertex) talls (one ∷ [])

module _ {S : Type 0} (how : How) (columns : TallColumns) (done : TallVertices) (seen : IndexSet Numbers S) (row : ℕ)
    (value : Json) (rest : List Json) (whole : Result (List TallVertex) TinFault) (talls : List TallVertex)
    (h : AreTallRead how columns done seen row (value ∷ rest) whole talls) where
  -- what the row is
  of_row : tall_of how columns (length talls) value ≡ tall_of how columns row value
  of_row = ap (λ n. tall_of how columns n value) h.count

  pub row_refused : (fault : TinFault) → tall_of how columns row value ≡ Err fault → whole ≡ Err fault
  row_refused fault is = grind (arith, of_row)

  module _ (one : TallVertex) (is : tall_of how columns row value ≡ Ok one) where
    whole_so : whole ≡ and_then (λ next. tall_rows how columns (talls ++ next ∷ []) rest) (agreeing talls one)
    whole_so =
        h.whole_is
        ∙ ap (λ r. and_then (λ next. tall_rows how columns (talls ++ next ∷ []) rest) (and_then (agreeing talls) r))
        (of_row ∙ is)

    pub row_differs : (fault : TinFault) → agreeing talls one ≡ Err fault → whole ≡ Err fault
    row_differs fault differs =
        whole_so ∙ ap (and_then (λ next. tall_rows how columns (talls ++ next ∷ []) rest)) differs

    pub is_added : (vertices : Vertices) (after : IndexSet Numbers S) (offset : ℤ)
        → AreCollected vertices after (vertices_in talls ++ one.vertex ∷ []) → offset ≡ one.offset
        → IsAdded vertices done.offsets.items row offset talls one
    is_added vertices after offset added same = record {
      gathered = added.gathered;
      before = h.offsets;
      agree = h.agree;
      row_is = sym h.count;
      offset_is = same;
    }

    -- the row is read, and agrees
    pub row_read : (new : TallVertices) (after : IndexSet Numbers S) (kept : TallVertex)
        → AreCollected new.vertices after (vertices_in talls ++ one.vertex ∷ [])
        → agreeing talls one ≡ Ok kept → new.offsets.items ≡ offsets_of (talls ++ one ∷ [])
        → AreTallRead how columns new after (row + 1) rest whole (talls ++ one ∷ [])
    row_read new after kept added agrees offsets = record {
      collected = subst (AreCollected new.vertices after) (sym (vertices_more talls one)) added;
      offsets = offsets;
      agree = agree_more talls one h.agree (not_differs talls one kept agrees);
      count = omega (arith, h.count, length-append talls (one ∷ []));
      whole_is = whole_so
          ∙ ap (and_then (λ next. tall_rows how columns (talls ++ next ∷ []) rest)) (agrees_itself kept agrees);
    }
      where
        agrees_itself : (kept : TallVertex) → agreeing talls one ≡ Ok kept → agreeing talls one ≡ Ok one
        agrees_itself kept agrees = rw (not_differs talls one kept agrees) refl

pub all_read : {S : Type 0} (how : How) (columns : TallColumns) (done : TallVertices) (seen : IndexSet Numbers S) (row : ℕ)
    (whole : Result (List TallVertex) TinFault) (talls : List TallVertex)
    → AreTallRead how columns done seen row [] whole talls → (whole ≡ Ok talls) × AreTallGathered done talls
all_read how columns done seen row whole talls h =
    (h.whole_is, record { gathered = h.collected.gathered; offsets = h.offsets })

-- a fault that a part gives is its fault
pub err_equals : {A B : Type 0} (R : A → B → Type 0) (fault : TinFault) (wanted : Result B TinFault)
    → Gives R (Err fault) wanted → Equals (Err fault) wanted
err_equals R fault wanted h = grind arith
