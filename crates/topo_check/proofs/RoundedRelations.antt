-- Pieces had the relation that their exact images have, and so the changes by the one are those by the other.
use Rattle.std.proofs.Common.{List, [], ◌∷◌, Option, None, Some}
use Rattle.tin_base.specs.declared.pieces.Piece.{Piece}
use Rattle.tin_base.specs.declared.pieces.Change.{Change}
use Rattle.tin_base.specs.declared.relations.Rel.{Rel}
use Rattle.tin_base.specs.Triangulation.{Triangulation}
use Rattle.tin_base.specs.Soundness.{IsSound}
use Rattle.meet_rel.proofs.PieceRelations.{images_of, pieces_keep_relations}
use Rattle.topo_check.specs.Changes.{HadRelation, IsChangeBy, Pair, pairs, AreChangesBy}
use Rattle.topo_check.specs.Laws.{HadRelationOfImages, ChangesAreByRounding}

-- ---- of two pieces
to_images : (tin : Triangulation) → IsSound tin → (was : Rel) (p q : Piece) → HadRelation tin was p q
    → HadRelationOfImages tin was p q
to_images tin sound was p q h s t hs ht a b c d i j =
    let k = pieces_keep_relations tin sound p q s t hs ht a b c d i j in (k.kept was).0 (h s t hs ht)

of_images : (tin : Triangulation) → IsSound tin → (was : Rel) (p q : Piece) → HadRelationOfImages tin was p q
    → HadRelation tin was p q
of_images tin sound was p q h s t hs ht =
    let i = images_of tin p s hs in let j = images_of tin q t ht in
    let k = pieces_keep_relations tin sound p q s t hs ht i.0 i.1 j.0 j.1 i.2 j.2 in
    (k.kept was).1 (h s t hs ht i.0 i.1 j.0 j.1 i.2 j.2)

-- ---- where each two pieces that had a relation in one sense had it in another
change_by : (Had Other : Rel → Piece → Piece → Type 0) → ((was : Rel) (p q : Piece) → Had was p q → Other was p q)
    → (p q : Piece) (change : Option Change) → IsChangeBy Had p q change → IsChangeBy Other p q change
change_by Had Other to p q None h = (h.0, to h.0 p q h.1, h.2)
change_by Had Other to p q (Some change) h = (h.0, h.1, to change.was p q h.2, h.3, h.4)

changes_by : (Had Other : Rel → Piece → Piece → Type 0) → ((was : Rel) (p q : Piece) → Had was p q → Other was p q)
    → (ps : List Pair) (changes : List Change) → AreChangesBy Had ps changes → AreChangesBy Other ps changes
changes_by Had Other to [] changes h = h
changes_by Had Other to (p ∷ ps) changes h =
    (h.0, h.1, change_by Had Other to p.first p.second h.0 h.2, changes_by Had Other to ps h.1 h.3, h.4)

pub changes_are_by_rounding : ChangesAreByRounding
changes_are_by_rounding tin sound pieces changes = (
  changes_by (HadRelation tin) (HadRelationOfImages tin) (to_images tin sound) (pairs pieces) changes,
  changes_by (HadRelationOfImages tin) (HadRelation tin) (of_images tin sound) (pairs pieces) changes,
)
