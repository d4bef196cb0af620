-- The exits of a `?`: its fault is handed on as it is, and the pieces so far stay.
use Rattle.std.proofs.Common.{◌≡◌, ℕ, List, ◌++◌, append_assoc, ap, subst, sym, ◌∙◌}
use Rattle.std.specs.Prelude.{IfErr, Result, Ok, Err, IsErrOf}
use Rattle.std.specs.Result.{IsErrAnd}
use Rattle.tin_base.specs.Triangulation.{Triangulation}
use Rattle.sheet_pieces.specs.SheetSegments.{SheetSegment}
use Rattle.carry_map.specs.declared.faults.CarryFault.{CarryFault}
use Rattle.carry_map.specs.declared.faults.CarryFault.TheVariants.{Layer, Outside, TooMany, NoMemory}
use Rattle.carry_map.specs.declared.segments.PathSegment.{PathSegment}
use Rattle.carry_map.specs.CarriedLists.{Grows}
use Rattle.carry_map.specs.Causes.{IsCause, IsCutCause, IsWayCause}

pub exits : {A : Type 0} (Q : CarryFault → Type 0) (fault : CarryFault) (r : Result A CarryFault)
    → IsErrAnd r (λ e. e ≡ fault) → Q fault → IfErr r Q
exits Q fault (Ok value) h q = absurd h
exits Q fault (Err e) h q = subst Q (sym h) q

-- a fault that the caller gets is the callee's
pub handed_on : {A B : Type 0} (fault e : CarryFault) (r : Result A CarryFault) → IsErrAnd r (λ x. x ≡ fault)
    → IsErrOf r e → IsErrOf {T = B} (Err fault) e
handed_on fault e (Ok value) h is = absurd h
handed_on fault e (Err x) h is = cc

-- running out of memory has no cause
pub no_cause : {A : Type 0} (tin : Triangulation) (layer old most : ℕ) (segments : List SheetSegment)
    (fault : CarryFault) (r : Result A CarryFault) → IsErrAnd r (λ e. e ≡ fault) → fault ≡ NoMemory
    → IfErr r (λ e. IsCause tin layer old most segments e)
no_cause tin layer old most segments fault (Ok value) h none = absurd h
no_cause tin layer old most segments fault (Err e) h none =
    subst (λ (f : CarryFault). IsCause tin layer old most segments f) (sym (h ∙ none)) tt

pub no_way_cause : {A : Type 0} (tin : Triangulation) (way : PathSegment) (old most : ℕ) (fault : CarryFault)
    (r : Result A CarryFault) → IsErrAnd r (λ e. e ≡ fault) → fault ≡ NoMemory
    → IfErr r (λ e. IsWayCause tin way old most e)
no_way_cause tin way old most fault (Ok value) h none = absurd h
no_way_cause tin way old most fault (Err e) h none =
    subst (λ (f : CarryFault). IsWayCause tin way old most f) (sym (h ∙ none)) tt

-- a segment that is not cut is not carried
pub cut_cause : (tin : Triangulation) (way : PathSegment) (old most : ℕ) (fault : CarryFault)
    → IsCutCause tin way fault → IsWayCause tin way old most fault
cut_cause tin way old most (Layer fault) is = absurd is
cut_cause tin way old most (Outside path number) is = is
cut_cause tin way old most TooMany is = absurd is
cut_cause tin way old most NoMemory is = tt

-- what grew and grew again grew
pub grows_on : {X : Type 0} (a b c : List X) → Grows a b → Grows b c → Grows a c
grows_on a b c first next = record {
  more = first.more ++ next.more;
  are = next.are ∙ ap (λ (xs : List _). xs ++ next.more) first.are ∙ append_assoc a first.more next.more;
}
