-- The node of a text, and its characters.
use Rattle.std.proofs.Common.{◌≡◌, ℕ, ◌+◌, ◌-◌, ◌<◌, ◌≤◌, ◌↔◌, List, [], ◌∷◌, ◌++◌, length, take, drop, get_or, Bool}
use Rattle.std.proofs.Common.{true, refl, sym, ap, ◌∙◌, arith, subst}
use Rattle.std.specs.Prelude.{slice_range, IsTrue}
use Rattle.std.proofs.lemmas.Option.{same_Some, slice_get-get_or}
use Rattle.std.proofs.lemmas.List.{length-append}
use Rattle.jtext.specs.Characters.{Char, AreChars, chars_text, units_of}
use Rattle.jtext.specs.Values.{Json, truth, quoted, quoted_text, spelling}
use Rattle.jtext.specs.Nodes.{kind_of, first_node}
use Rattle.jtext.specs.Places.{IsReadFrom, IsPartAt, HasNodesAt}
use Rattle.jtext.specs.Lookups.{Says}
use Rattle.jtext.specs.declared.document.Kind.TheVariants as kinds
use Rattle.jtext.specs.declared.document.Node.{Node}
use Rattle.jtext.specs.declared.document.Doc.{Doc}
use Rattle.jtext.proofs.CallerLemmas.NodePlaces.{first_there, ends_within, part_left, part_right, part_at, node_stands}

pub quoted_of : (value : Json) → kind_of value ≡ kinds.Text → (chars : List Char) × (value ≡ quoted chars)
quoted_of (quoted chars) is = (chars, refl)
quoted_of (truth true) is = cc
quoted_of _ is = cc

-- the node that is found is that of what is there
pub found_node : (nodes : List Node) (bytes : List ℕ) (number start : ℕ) (value : Json) (d : Node)
    → number < length nodes → HasNodesAt nodes bytes number start value
    → get_or nodes number d ≡ first_node number start value
found_node nodes bytes number start value d below s =
    same_Some (get_or nodes number d) (first_node number start value)
    (sym (slice_get-get_or nodes number d below) ∙ first_there nodes bytes number start value s)

quoted_long : (chars : List Char) → length (quoted_text chars) ≡ 2 + length (chars_text chars)
quoted_long chars = omega (arith, length-append (chars_text chars) (34 ∷ []))

-- where a text's node says it is
pub marks_there : (doc : Doc) (bytes : List ℕ) (number : ℕ) (d : Node) → IsReadFrom doc bytes
    → number < length doc.nodes → (get_or doc.nodes number d).kind ≡ kinds.Text
    → ((get_or doc.nodes number d).start + 2 ≤ (get_or doc.nodes number d).end)
    × ((get_or doc.nodes number d).end ≤ length bytes)
marks_there doc bytes number d (whole, r) below kind =
    let (start, value, s) = node_stands whole doc bytes r number below in
    let here = found_node doc.nodes bytes number start value d below s in
    let (chars, is) = quoted_of value (sym (ap (λ (n : Node). n.kind) here) ∙ kind) in
    let long : length (spelling value) ≡ 2 + length (chars_text chars) = ap (λ (v : Json). length (spelling v)) is
    ∙ quoted_long chars in
    let within = ends_within doc.nodes bytes number start value s in
    rw here (omega arith, within.0)

-- how long
counted : (chars : List Char) (start : ℕ) → start + length (quoted_text chars) - 1 - (start + 1)
    ≡ length (chars_text chars)
counted chars start = omega (arith, length-append (chars_text chars) (34 ∷ []))

-- the text of what is there, as characters
says_quoted : (nodes : List Node) (bytes : List ℕ) (number start : ℕ) (value : Json) (d : Node) (text : List ℕ)
    (answer : Bool) (chars : List Char) → value ≡ quoted chars
    → get_or nodes number d ≡ first_node number start value → HasNodesAt nodes bytes number start value
    → ((cs : List Char) → AreChars cs → slice_range bytes ((get_or nodes number d).start + 1)
    ((get_or nodes number d).end - 1) ≡ chars_text cs → (IsTrue answer) ↔ (units_of cs ≡ text))
    → (IsTrue answer) ↔ (Says value text)
says_quoted nodes bytes number start value d text answer chars is here s said =
    let quoted_s : HasNodesAt nodes bytes number start (quoted chars) =
    subst (HasNodesAt nodes bytes number start) is s in
    let marks : IsPartAt bytes start (34 ∷ (chars_text chars ++ 34 ∷ [])) = quoted_s.text_there in
    let inside : IsPartAt bytes (start + 1) (chars_text chars) =
    part_left bytes (start + 1) (chars_text chars) (34 ∷ [])
    (part_right bytes start (start + 1) (34 ∷ []) (chars_text chars ++ 34 ∷ []) (omega arith) marks) in
    let node_is : get_or nodes number d ≡ first_node number start (quoted chars) = here
    ∙ ap (first_node number start) is in
    let bounds : slice_range bytes ((get_or nodes number d).start + 1) ((get_or nodes number d).end - 1)
    ≡ take (length (chars_text chars)) (drop (start + 1) bytes) =
    ap (λ (n : Node). slice_range bytes (n.start + 1) (n.end - 1)) node_is
    ∙ ap (λ (k : ℕ). take k (drop (start + 1) bytes)) (counted chars start) in
    let both = said chars quoted_s.value_is (bounds ∙ part_at bytes (start + 1) (chars_text chars) inside) in
    subst (λ (v : Json). (IsTrue answer) ↔ (Says v text)) (sym is) both

-- the bytes between the marks are the characters
pub says_value : (nodes : List Node) (bytes : List ℕ) (number start : ℕ) (value : Json) (d : Node) (text : List ℕ)
    (answer : Bool) → number < length nodes → HasNodesAt nodes bytes number start value
    → (get_or nodes number d).kind ≡ kinds.Text
    → ((chars : List Char) → AreChars chars → slice_range bytes ((get_or nodes number d).start + 1)
    ((get_or nodes number d).end - 1) ≡ chars_text chars → (IsTrue answer) ↔ (units_of chars ≡ text))
    → (IsTrue answer) ↔ (Says value text)
says_value nodes bytes number start value d text answer below s kind said =
    let here = found_node nodes bytes number start value d below s in
    let (chars, is) = quoted_of value (sym (ap (λ (n : Node). n.kind) here) ∙ kind) in
    says_quoted nodes bytes number start value d text answer chars is here s said

-- what the code reads past the end of a list of nodes
abbrev pub no_node : Node
no_node = record { kind = kinds.Null; start = 0; end = 0; next = 0 }
