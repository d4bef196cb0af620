-- The elements of a position, by their nodes.
use Rattle.std.proofs.Common.{◌≡◌, ℕ, ◌<◌, ◌≤◌, List, refl, sym, ap, ◌∙◌, subst, arith, Bool}
use Rattle.std.specs.Prelude.{Some, None, slice_get, Result, Ok, Err}
use Rattle.jtext.specs.Values.{Json, Elements, numeral, array, no_element, element, spelling}
use Rattle.jtext.specs.Nodes.{kind_of, element_start, next_place}
use Rattle.jtext.specs.Places.{HasNodesAt}
use Rattle.jtext.specs.declared.document.Node.{Node}
use Rattle.jtext.specs.declared.document.Kind.TheVariants as kinds
use Rattle.jtext.proofs.CallerLemmas.NodePlaces.{node_count_positive}
use Rattle.mm_decimal.specs.AnswerValues.{millimetres_of}
use Rattle.mm_decimal.specs.declared.numerals.MmRead.{MmRead}
use Rattle.sheet_base.specs.declared.faults.LayerFault.{LayerFault}
use Rattle.sheet_base.specs.declared.faults.LayerFault.TheVariants.{Shape, Height}
use Rattle.gj_layer.specs.declared.positions.PositionRead.{PositionRead}
use Rattle.gj_layer.specs.InsideNodes.{AreLeft}
use Rattle.gj_layer.specs.Positions.{accepted_read, number, some_height, position_from, with_height, array_position}
use Rattle.gj_layer.specs.Positions.{position}
use Rattle.gj_layer.proofs.Members.There.{first_is, left_count, numeral_of}

pub number_so : (exact : Bool) (start : ℕ) (value : Json) (text : List ℕ) → text ≡ spelling value
    → kind_of value ≡ kinds.Number → accepted_read exact start (millimetres_of text) ≡ number exact start value
number_so exact start value text spelled is = grind (arith, numeral_of)

pub no_number : (exact : Bool) (start : ℕ) (value : Json) → (kind_of value ≡ kinds.Number → ⊥)
    → Err (Shape start) ≡ number exact start value
no_number exact start (numeral text) never = absurd (never refl)
no_number exact start value never = refl

pub no_position : (exact : Bool) (start : ℕ) (value : Json) → (kind_of value ≡ kinds.Array → ⊥)
    → Err (Shape start) ≡ position exact start value
no_position exact start (array blank elements) never = absurd (never refl)
no_position exact start value never = refl

-- ---- elements that are left
module _ (nodes : List Node) (bytes : List ℕ) (at end place : ℕ) (elements : Elements) where
  -- the first of them is at this node
  pub record HasFirst (one : Node) : Type 0 where
    pub before : List ℕ
    pub value : Json
    pub after : List ℕ
    pub rest : Elements
    pub is : elements ≡ element before value after rest
    pub stands : HasNodesAt nodes bytes at (element_start place before) value
    pub left : AreLeft nodes bytes one.next end (next_place (element_start place before) value after) rest

  first_left : (one : Node) → AreLeft nodes bytes at end place elements → slice_get nodes at ≡ Some one → at < end
      → HasFirst one
  first_left one left got some = by elements refl left
    where
      by : (es : Elements) → elements ≡ es → AreLeft nodes bytes at end place es → HasFirst one
      by no_element is left = absurd (omega (arith, left, some))
      by (element before value after rest) is left =
          let start = element_start place before in
          let next = ap (λ (n : Node). n.next) (first_is nodes bytes at start value one left.0 got) in
          record {
            before = before;
            value = value;
            after = after;
            rest = rest;
            is = is;
            stands = left.0;
            left = subst (λ n. AreLeft nodes bytes n end (next_place start value after) rest) (sym next) left.1;
          }

  none_left : AreLeft nodes bytes at end place elements → end ≤ at → elements ≡ no_element
  none_left left past = by elements refl left
    where
      by : (es : Elements) → elements ≡ es → AreLeft nodes bytes at end place es → elements ≡ no_element
      by no_element is left = is
      by (element before value after rest) is left = grind (arith, left_count, node_count_positive)

-- ---- the elements of a position
module _ (nodes : List Node) (bytes : List ℕ) (exact : Bool) (start behind at end place : ℕ) (elements : Elements)
    (left : AreLeft nodes bytes at end place elements) where
  abbrev whole : Result PositionRead LayerFault
  whole = array_position exact start behind place elements

  pub no_first : end ≤ at → Err (Shape start) ≡ whole
  no_first here = sym (ap (array_position exact start behind place) (none_left nodes bytes at end place elements left
      here))

  module _ (one : Node) (first : slice_get nodes at ≡ Some one) (some : at < end) where
    a : HasFirst nodes bytes at end place elements one
    a = first_left nodes bytes at end place elements one left first some

    abbrev x_at : ℕ
    x_at = element_start place a.before

    abbrev behind_x : ℕ
    behind_x = next_place x_at a.value a.after

    pub no_second : end ≤ one.next → Err (Shape start) ≡ whole
    no_second here =
        let none = none_left nodes bytes one.next end behind_x a.rest a.left here in
        sym (ap (array_position exact start behind place) (a.is ∙ ap (element a.before a.value a.after) none))

    module _ (two : Node) (second : slice_get nodes one.next ≡ Some two) (more : one.next < end)
        (x y : Result MmRead LayerFault) (is_x : (s : ℕ) (v : Json) → HasNodesAt nodes bytes at s v
        → x ≡ number exact s v)
        (is_y : (s : ℕ) (v : Json) → HasNodesAt nodes bytes one.next s v → y ≡ number exact s v) where
      b : HasFirst nodes bytes one.next end behind_x a.rest two
      b = first_left nodes bytes one.next end behind_x a.rest two a.left second more

      abbrev y_at : ℕ
      y_at = element_start behind_x b.before

      abbrev behind_y : ℕ
      behind_y = next_place y_at b.value b.after

      both_are : whole ≡ with_height exact behind_y b.rest (position_from start behind x y)
      both_are =
          ap (array_position exact start behind place) (a.is ∙ ap (element a.before a.value a.after) b.is)
          ∙ ap (λ r. with_height exact behind_y b.rest (position_from start behind r (number exact y_at b.value)))
          (sym (is_x x_at a.value a.stands))
          ∙ ap (λ r. with_height exact behind_y b.rest (position_from start behind x r))
          (sym (is_y y_at b.value b.stands))

      pub no_third : end ≤ two.next → position_from start behind x y (Ok None) ≡ whole
      no_third here =
          let none = none_left nodes bytes two.next end behind_y b.rest b.left here in
          sym (both_are ∙ ap (λ rest. with_height exact behind_y rest (position_from start behind x y)) none)

      module _ (three : Node) (third : slice_get nodes two.next ≡ Some three) (on : two.next < end) where
        c : HasFirst nodes bytes two.next end behind_y b.rest three
        c = first_left nodes bytes two.next end behind_y b.rest three b.left third on

        abbrev z_at : ℕ
        z_at = element_start behind_y c.before

        abbrev behind_z : ℕ
        behind_z = next_place z_at c.value c.after

        pub no_fourth : (z : Result MmRead LayerFault)
            → ((s : ℕ) (v : Json) → HasNodesAt nodes bytes two.next s v → z ≡ number exact s v) → end ≤ three.next
            → position_from start behind x y (some_height z) ≡ whole
        no_fourth z is_z here =
            let none = none_left nodes bytes three.next end behind_z c.rest c.left here in
            ap (λ r. position_from start behind x y (some_height r)) (is_z z_at c.value c.stands)
            ∙ sym (both_are ∙ ap (λ rest. with_height exact behind_y rest (position_from start behind x y))
            (c.is ∙ ap (element c.before c.value c.after) none))

        pub fourth_there : (four : Node) → slice_get nodes three.next ≡ Some four → three.next < end
            → Err (Height four.start) ≡ whole
        fourth_there four fourth far =
            let d = first_left nodes bytes three.next end behind_z c.rest four c.left fourth far in
            ap (λ (n : Node). Err (Height n.start))
            (first_is nodes bytes three.next (element_start behind_z d.before) d.value four d.stands fourth)
            ∙ sym (both_are ∙ ap (λ rest. with_height exact behind_y rest (position_from start behind x y))
            (c.is ∙ ap (element c.before c.value c.after) d.is))
