-- Two pieces have one change or none, and so pieces have one list of changes.
use Rattle.std.proofs.Common.{◌≡◌, suc, List, [], ◌∷◌, ◌≤◌, ◌++◌, length, All, Option, None, Some, inr, refl, sym, ◌∙◌}
use Rattle.std.proofs.Common.{ap, ap₂, arith}
use Rattle.tin_base.specs.declared.pieces.Place.{Place}
use Rattle.tin_base.specs.declared.pieces.Piece.{Piece}
use Rattle.tin_base.specs.declared.pieces.Change.{Change}
use Rattle.tin_base.specs.declared.relations.Rel.{Rel}
use Rattle.tin_base.specs.Triangulation.{Triangulation}
use Rattle.tin_base.specs.Pieces.{IsPieceInside, first_point, last_point}
use Rattle.plane_base.specs.Plane.{whole}
use Rattle.meet_rel.proofs.Exclusive.{relations_are_exclusive}
use Rattle.topo_check.specs.Changes.{HadRelation, HasRelation, IsChangeOf, Pair, with_each, pairs, put, AreChangesOf}
use Rattle.topo_check.specs.Changes.{Numbers, HaveChanged, piece_at, no_piece}
use Rattle.topo_check.proofs.InOrder.{AreSteps, in_order}
use Rattle.topo_check.specs.Laws.{ChangesAreOne, MoreStayMore}

-- ---- of two pieces
had_one : (tin : Triangulation) (p q : Piece) (r s : Rel) → IsPieceInside tin p → IsPieceInside tin q
    → HadRelation tin r p q → HadRelation tin s p q → r ≡ s
had_one tin p q r s hp hq h k =
    let a = hp.is_piece in let b = hq.is_piece in
    relations_are_exclusive (first_point p a.0) (last_point p a.0) (first_point q b.0) (last_point q b.0) r s
    (h a.0 b.0 a.1 b.1) (k a.0 b.0 a.1 b.1)

has_one : (p q : Piece) (r s : Rel) → HasRelation r p q → HasRelation s p q → r ≡ s
has_one p q r s h k = relations_are_exclusive (whole p.ia) (whole p.ib) (whole q.ia) (whole q.ib) r s h k

change : Place → Place → Rel → Rel → Change
change first second was now = record { first = first; second = second; was = was; now = now }

same_change : (c d : Change) → c.first ≡ d.first → c.second ≡ d.second → c.was ≡ d.was → c.now ≡ d.now → c ≡ d
unfolding change
same_change c d e f g h = ap₂ (λ (x y : Place). change x y c.was c.now) e f
    ∙ ap₂ (λ (x y : Rel). change d.first d.second x y) g h

one_change : (tin : Triangulation) (p q : Piece) (x y : Option Change) → IsPieceInside tin p → IsPieceInside tin q
    → IsChangeOf tin p q x → IsChangeOf tin p q y → x ≡ y
one_change tin p q None None hp hq h k = refl
one_change tin p q None (Some d) hp hq h k =
    absurd (k.4 (sym (had_one tin p q h.0 d.was hp hq h.1 k.2) ∙ has_one p q h.0 d.now h.2 k.3))
one_change tin p q (Some c) None hp hq h k =
    absurd (h.4 (sym (had_one tin p q k.0 c.was hp hq k.1 h.2) ∙ has_one p q k.0 c.now k.2 h.3))
one_change tin p q (Some c) (Some d) hp hq h k =
    ap (λ (z : Change). Some z) (same_change c d (h.0 ∙ sym k.0) (h.1 ∙ sym k.1)
    (had_one tin p q c.was d.was hp hq h.2 k.2) (has_one p q c.now d.now h.3 k.3))

-- ---- of pairs
AreInside : Triangulation → List Pair → Type 0
AreInside tin [] = Unit {0}
AreInside tin (x ∷ xs) = IsPieceInside tin x.first × IsPieceInside tin x.second × AreInside tin xs

both_inside : (tin : Triangulation) (xs ys : List Pair) → AreInside tin xs → AreInside tin ys → AreInside tin (xs ++ ys)
unfolding AreInside
both_inside tin [] ys h k = k
both_inside tin (x ∷ xs) ys h k = (h.0, h.1, both_inside tin xs ys h.2 k)

each_inside : (tin : Triangulation) (p : Piece) (qs : List Piece) → IsPieceInside tin p
    → All (λ q. IsPieceInside tin q) qs → AreInside tin (with_each p qs)
unfolding AreInside
each_inside tin p [] hp h = tt
each_inside tin p (q ∷ qs) hp h = (
  hp,
  h 0 q (omega arith),
  each_inside tin p qs hp
      (λ i d b. h (suc i) d (omega arith)),
)

pairs_inside : (tin : Triangulation) (ps : List Piece) → All (λ q. IsPieceInside tin q) ps → AreInside tin (pairs ps)
unfolding AreInside
pairs_inside tin [] h = tt
pairs_inside tin (p ∷ ps) h =
    both_inside tin (with_each p ps) (pairs ps)
    (each_inside tin p ps (h 0 p (omega arith)) (λ i d b. h (suc i) d (omega arith)))
    (pairs_inside tin ps (λ i d b. h (suc i) d (omega arith)))

one_list : (tin : Triangulation) (xs : List Pair) (cs ds : List Change) → AreInside tin xs → AreChangesOf tin xs cs
    → AreChangesOf tin xs ds → cs ≡ ds
unfolding AreInside
one_list tin [] cs ds i h k = h ∙ sym k
one_list tin (x ∷ xs) cs ds i h k =
    h.4 ∙ ap₂ put (one_change tin x.first x.second h.0 k.0 i.0 i.1 h.2 k.2) (one_list tin xs h.1 k.1 i.2 h.3 k.3)
    ∙ sym k.4

pub changes_are_one : ChangesAreOne
changes_are_one tin pieces h cs ds a b = one_list tin (pairs pieces) cs ds (pairs_inside tin pieces h) a b

-- ---- each pair that has changed has a place in the list of changes
put_longer : (c : Option Change) (xs : List Change) → length xs ≤ length (put c xs)
put_longer None xs = omega arith
put_longer (Some c) xs = omega arith

-- the changes of some pairs are not fewer than the numbers
abbrev AreNotMore : Triangulation → List Numbers → List Pair → Type 0
AreNotMore tin changed ps = (changes : List Change) → AreChangesOf tin ps changes → length changed ≤ length changes

one_more : (tin : Triangulation) (p q : Piece) (n : Numbers) (ns : List Numbers) (ps : List Pair) (d : Change)
    → IsPieceInside tin p → IsPieceInside tin q → IsChangeOf tin p q (Some d) → AreNotMore tin ns ps
    → (here : Option Change) (later changes : List Change) → IsChangeOf tin p q here → AreChangesOf tin ps later
    → changes ≡ put here later → length (n ∷ ns) ≤ length changes
one_more tin p q n ns ps d hp hq is not_more None later changes h k e =
    absurd (none_is_some d (one_change tin p q None (Some d) hp hq h is))
  where
    none_is_some : (d : Change) → None ≡ Some d → ⊥
    none_is_some d e = cc
one_more tin p q n ns ps d hp hq is not_more (Some c) later changes h k e = omega (arith, not_more later k, ap length e)

counted : (tin : Triangulation) (pieces : List Piece) → All (λ q. IsPieceInside tin q) pieces
    → AreSteps (λ (n : Numbers). n) pieces (HaveChanged tin pieces) (λ i j. Unit {0}) (AreNotMore tin)
counted tin pieces inside = record {
  inside = λ n h. (h.earlier, h.in_range);
  none = λ changes h. omega arith;
  hit = λ n ns ps h not_more changes k.
      one_more tin (piece_at pieces n.first) (piece_at pieces n.second) n ns ps h.change
      (inside n.first no_piece (omega (arith, h.earlier, h.in_range))) (inside n.second no_piece h.in_range)
      h.is_change not_more k.0 k.1 changes k.2 k.3 k.4;
  miss = λ i j ns ps less within _ not_more changes k. omega
      (arith, not_more k.1 k.3, put_longer k.0 k.1, ap length k.4);
}

pub more_stay_more : MoreStayMore
more_stay_more tin pieces most inside m changes a =
    let not_more = in_order (λ (n : Numbers). n) pieces (HaveChanged tin pieces) (λ i j. Unit {0}) (AreNotMore tin)
    (counted tin pieces inside) m.changed m.ascending m.each (λ i j less within. inr tt) changes a in
    omega (arith, not_more, m.more)
