-- Answers to the goals of `find_place` in src/columns.rt.
use Rattle.std.proofs.Common.{◌≡◌, ◌++◌, ◌∷◌, true, false, sym, ap, ◌∙◌, drop, get_or, append-nil}
use Rattle.jtext.specs.Values.{null}
use Rattle.tin_file.specs.Keys.{says}
use Rattle.tin_file.specs.Headings.{places_of, the_place}
use Rattle.tin_file.proofs.DocumentValues.There.{node_within, node_at_place, there_at}
use Rattle.tin_file.proofs.DocumentValues.Loops.{place_more, place_on, places_done, found_places, the_place_found}
use Rattle.tin_file.proofs.columns.find_place.Goals as goal
use Rattle.tin_file.proofs.columns.find_place.Goals.{then-tells+in_default, else-tells}

pub tells-requires-clause-node : goal.tells-requires-clause-node
tells-requires-clause-node c =
    node_within c.args.doc.now.nodes c.args.bytes.now _
    (node_at_place c.args.doc.now.nodes c.args.bytes.now c.args.values.now c.loop-place.place 0 c.requires.nodes
    c.loop-place-test.true)

pub returns-in-Some : goal.returns-in-Some
returns-in-Some c all h =
    let nodes = c.args.doc.now.nodes in let bytes = c.args.bytes.now in let i = c.loop-place.place in
    let said : says (get_or all i null) c.args.name.now ≡ true =
    sym (c.tells.ensures _ (there_at nodes bytes c.args.values.now all i 0 null h c.loop-place-test.true))
    ∙ c.if-tells.true in
    ap the_place (sym (c.loop-place.invariant all h
    ∙ ap (λ found. found_places found ++ places_of c.args.name.now i (drop i all)) c.in-Some.is
    ∙ ap (λ more. c.in-Some.field-0 ∷ more) (place_more nodes bytes c.args.values.now all h c.args.name.now i
    c.loop-place-test.true said)))

pub loop-place-preserved : goal.loop-place-preserved
loop-place-preserved c all h =
    let nodes = c.args.doc.now.nodes in let bytes = c.args.bytes.now in let i = c.loop-place.place in
    let there = there_at nodes bytes c.args.values.now all i 0 null h c.loop-place-test.true in
    elim c.if-tells.branch [
      | then-tells+in_default w ↦
          let said : says (get_or all i null) c.args.name.now ≡ true = sym (c.tells.ensures _ there)
          ∙ w.if-tells.true in
          rw w.found-is (c.loop-place.invariant all h
          ∙ ap (λ found. found_places found ++ places_of c.args.name.now i (drop i all)) w.in_default.is
          ∙ place_more nodes bytes c.args.values.now all h c.args.name.now i c.loop-place-test.true said)
      | else-tells w ↦
          let said : says (get_or all i null) c.args.name.now ≡ false = sym (c.tells.ensures _ there)
          ∙ w.if-tells.false in
          rw w.found-is (c.loop-place.invariant all h
          ∙ ap (λ more. found_places c.loop-place.found ++ more)
          (place_on nodes bytes c.args.values.now all h c.args.name.now i c.loop-place-test.true said))
    ]

pub returns : goal.returns
returns c all h =
    let nodes = c.args.doc.now.nodes in let bytes = c.args.bytes.now in let i = c.loop-place.place in
    sym (ap the_place (c.loop-place.invariant all h
    ∙ ap (λ more. found_places c.loop-place.found ++ more)
    (places_done nodes bytes c.args.values.now all h c.args.name.now i c.loop-place-test.false)
    ∙ append-nil (found_places c.loop-place.found)) ∙ the_place_found c.loop-place.found)
