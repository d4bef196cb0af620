-- Each value is read to an end, where there is room for its brackets, and leaves its nodes.
use Rattle.std.proofs.Common.{◌≡◌, ℕ, zero, suc, ◌+◌, ◌<◌, List, [], ◌∷◌, ◌++◌, length, Bool, true, false, refl}
use Rattle.std.proofs.Common.{sym, ap, ◌∙◌, arith, subst, append_assoc, append-nil}
use Rattle.std.specs.Prelude.{Some}
use Rattle.std.proofs.lemmas.Option.{none-some, same_Some}
use Rattle.std.proofs.lemmas.List.{length-append, set_at, length_push}
use Rattle.text_places.specs.Machine.{run}
use Rattle.text_places.proofs.Runs.{run_on}
use Rattle.jtext.specs.Characters.{Char, AreChars, chars_text}
use Rattle.jtext.specs.Values.{Json, Elements, Members, null, truth, numeral, quoted, array, object, no_element}
use Rattle.jtext.specs.Values.{element, no_member, member, quoted_text, spelling, elements_text, elements_behind}
use Rattle.jtext.specs.Values.{members_text, members_behind, AreBlank, IsValue, AreElements, AreMembers}
use Rattle.jtext.specs.Nodes.{node, node_count, element_count, member_count, key_node, nodes_of, element_nodes}
use Rattle.jtext.specs.Nodes.{member_nodes, element_start, member_start, next_place, inner_place}
use Rattle.jtext.specs.InsideSigns.{byte_sign, opening, closing, bracket_kind}
use Rattle.jtext.specs.InsideTokens.{Inner}
use Rattle.jtext.specs.InsideStates.{Token, in_word, in_number, in_text, token_step, is_whole, Role, stand, within}
use Rattle.jtext.specs.InsideStates.{State}
use Rattle.jtext.specs.InsideStates.{state, opened_one, first_place, next_wanted, nodes_at_close, state_in_token, value_step, key_step}
use Rattle.jtext.specs.InsideStates.{stand_step, step}
use Rattle.jtext.specs.declared.document.Kind.{Kind}
use Rattle.jtext.specs.declared.document.Kind.TheVariants as kinds
use Rattle.jtext.specs.declared.document.Node.{Node}
use Rattle.jtext.specs.declared.signs.Bracket.{Bracket}
use Rattle.jtext.specs.declared.signs.Bracket.TheVariants.{Square, Curly}
use Rattle.jtext.specs.declared.signs.Sign.{Sign}
use Rattle.jtext.specs.declared.signs.Sign.TheVariants as signs
use Rattle.jtext.specs.declared.number.NumberPlace.{NumberPlace}
use Rattle.jtext.specs.declared.number.NumberPlace.TheVariants as numbers
use Rattle.jtext.specs.declared.stack.Open.{Open}
use Rattle.jtext.specs.declared.steps.Expectation.{Expectation}
use Rattle.jtext.specs.declared.steps.Expectation.TheVariants as places
use Rattle.jtext.proofs.Grammar.NumberTexts.{first_number, number_read}
use Rattle.jtext.proofs.Grammar.QuotedTexts.{quoted_read}
use Rattle.jtext.proofs.Grammar.Rests.{Rests, rests_so, rests_standing, rests_step, blanks_read, blanks_rest, token_read}
use Rattle.jtext.proofs.Grammar.Rests.{token_rests, number_token, text_token}
use Rattle.jtext.proofs.Grammar.NodeLists.{length-nodes_of, length-element_nodes, length-member_nodes, length_two, length_three}
use Rattle.jtext.proofs.Grammar.NodeLists.{length_four}

-- a value may begin
abbrev pub StartsValue : Expectation → Type 0
StartsValue places.Value = Unit {0}
StartsValue places.FirstElement = Unit {0}
StartsValue place = ⊥

-- the signs of a value's first byte
abbrev pub BeginsValue : Sign → Type 0
BeginsValue signs.Quote = Unit {0}
BeginsValue (signs.Opening bracket) = Unit {0}
BeginsValue signs.Minus = Unit {0}
BeginsValue signs.Zero = Unit {0}
BeginsValue signs.Digit = Unit {0}
BeginsValue (signs.Letter word) = Unit {0}
BeginsValue sign = ⊥

pub number_begins : (sign : Sign) (first : NumberPlace) → first_number sign ≡ Some first → BeginsValue sign
number_begins signs.Minus first h = tt
number_begins signs.Zero first h = tt
number_begins signs.Digit first h = tt
number_begins sign first h = absurd (none-some first h)

module _ (room : ℕ → Bool) where
  stand_value : (place : Expectation) → StartsValue place → (sign : Sign) → BeginsValue sign
      → (stack : List Open) (nodes : List Node) (at : ℕ)
      → stand_step room place stack nodes at sign ≡ value_step room stack nodes at sign
  stand_value places.Value starts signs.Quote begins stack nodes at = refl
  stand_value places.Value starts (signs.Opening bracket) begins stack nodes at = refl
  stand_value places.Value starts signs.Minus begins stack nodes at = refl
  stand_value places.Value starts signs.Zero begins stack nodes at = refl
  stand_value places.Value starts signs.Digit begins stack nodes at = refl
  stand_value places.Value starts (signs.Letter word) begins stack nodes at = refl
  stand_value places.Value starts sign begins stack nodes at = absurd begins
  stand_value places.FirstElement starts signs.Quote begins stack nodes at = refl
  stand_value places.FirstElement starts (signs.Opening bracket) begins stack nodes at = refl
  stand_value places.FirstElement starts signs.Minus begins stack nodes at = refl
  stand_value places.FirstElement starts signs.Zero begins stack nodes at = refl
  stand_value places.FirstElement starts signs.Digit begins stack nodes at = refl
  stand_value places.FirstElement starts (signs.Letter word) begins stack nodes at = refl
  stand_value places.FirstElement starts sign begins stack nodes at = absurd begins
  stand_value place starts sign begins stack nodes at = absurd starts

  -- From here the text leads to where a value may end, after the same open brackets, with more nodes.
  abbrev Leads : Expectation → List Open → List Node → ℕ → List ℕ → List Node → Type 0
  Leads place stack nodes at text more = (t : State)
      × (run (step room) (state (stand place) stack nodes at) text ≡ Some t)
      × Rests places.Behind stack more (at + length text) t

  number_value : (sign : Sign) (first : NumberPlace) → first_number sign ≡ Some first
      → (stack : List Open) (nodes : List Node) (at : ℕ)
      → value_step room stack nodes at sign ≡ state_in_token Role.value kinds.Number (in_number first) stack nodes at
  number_value signs.Minus first h stack nodes at = grind (arith, same_Some)
  number_value signs.Zero first h stack nodes at = grind (arith, same_Some)
  number_value signs.Digit first h stack nodes at = grind (arith, same_Some)
  number_value sign first h stack nodes at = absurd (none-some first h)

  -- a value of one token
  token_leads : (place : Expectation) → StartsValue place → (stack : List Open) (nodes : List Node) (at number : ℕ)
      → number ≡ length nodes → (byte : ℕ) (rest : List ℕ) (kind : Kind) (token last : Token)
      → BeginsValue (byte_sign byte) → value_step room stack nodes at (byte_sign byte)
      ≡ state_in_token Role.value kind token stack nodes at → run token_step token rest ≡ Some last → is_whole last ≡ true
      → Leads place stack nodes at (byte ∷ rest) (nodes ++ node kind at (at + length (byte ∷ rest)) (number + 1) ∷ [])
  token_leads place starts stack nodes at number here byte rest kind token last begins goes was whole = (
    state (within Role.value kind at last) stack nodes (at + length (byte ∷ rest)),
    rw (stand_value place starts (byte_sign byte) begins stack nodes at, goes)
        (token_read room Role.value kind at stack nodes (at + 1) (at + length (byte ∷ rest)) token last rest was
        (omega arith)),
    rests_so places.Behind stack (nodes ++ node kind at (at + length (byte ∷ rest)) (length nodes + 1) ∷ [])
        (nodes ++ node kind at (at + length (byte ∷ rest)) (number + 1) ∷ [])
        (at + length (byte ∷ rest)) (at + length (byte ∷ rest))
        (state (within Role.value kind at last) stack nodes (at + length (byte ∷ rest)))
        (ap (λ (n : ℕ). nodes ++ node kind at (at + length (byte ∷ rest)) (n + 1) ∷ []) (sym here)) refl
        (token_rests room Role.value kind at stack nodes (at + length (byte ∷ rest)) last whole),
  )

  -- brackets
  open_read : (place : Expectation) → StartsValue place
      → (bracket : Bracket) (stack : List Open) (nodes : List Node) (at : ℕ) (text : List ℕ)
      → room (length stack) ≡ true
      → run (step room) (state (stand place) stack nodes at) (opening bracket ∷ text)
      ≡ run (step room) (state (stand (first_place bracket)) (opened_one bracket (length nodes) at ∷ stack)
      (nodes ++ node (bracket_kind bracket) at 0 0 ∷ []) (at + 1)) text
  open_read places.Value starts Square stack nodes at text fits = rw fits refl
  open_read places.Value starts Curly stack nodes at text fits = rw fits refl
  open_read places.FirstElement starts Square stack nodes at text fits = rw fits refl
  open_read places.FirstElement starts Curly stack nodes at text fits = rw fits refl
  open_read place starts bracket stack nodes at text fits = absurd starts

  -- the innermost one closes here
  abbrev Closes : Bracket → Open → List Open → List Node → ℕ → State → Type 0
  Closes bracket one stack nodes at s = run (step room) s (closing bracket ∷ [])
      ≡ Some (state (stand places.Behind) stack (nodes_at_close one nodes at) (at + 1))

  close_empty : (bracket : Bracket) (number from : ℕ) (stack : List Open) (nodes : List Node) (at : ℕ)
      → Closes bracket (opened_one bracket number from) stack nodes at
      (state (stand (first_place bracket)) (opened_one bracket number from ∷ stack) nodes at)
  close_empty Square number from stack nodes at = refl
  close_empty Curly number from stack nodes at = refl

  close_behind : (bracket : Bracket) (number from : ℕ) (stack : List Open) (nodes : List Node) (at : ℕ) (s : State)
      → Rests places.Behind (opened_one bracket number from ∷ stack) nodes at s
      → Closes bracket (opened_one bracket number from) stack nodes at s
  close_behind Square number from stack nodes at s h =
      rw (rests_step room places.Behind (opened_one Square number from ∷ stack) nodes at s 93 h tt) refl
  close_behind Curly number from stack nodes at s h =
      rw (rests_step room places.Behind (opened_one Curly number from ∷ stack) nodes at s 125 h tt) refl

  ended_nodes : (bracket : Bracket) (nodes inner : List Node) (from at : ℕ)
      → nodes_at_close (opened_one bracket (length nodes) from) ((nodes ++ node (bracket_kind bracket) from 0 0 ∷ []) ++ inner)
      at
      ≡ nodes ++ node (bracket_kind bracket) from (at + 1) (length nodes + 1 + length inner) ∷ inner
  ended_nodes bracket nodes inner from at = grind (arith, append_assoc, length-append, set_at)

  -- an array or object, whose inner text leads to where it may close
  collected : (bracket : Bracket) (place : Expectation) → StartsValue place
      → (stack : List Open) (nodes : List Node) (at number : ℕ) → number ≡ length nodes → room (length stack) ≡ true
      → (blank inner : List ℕ) (inner_nodes : List Node) (t : State)
      → run (step room) (state (stand (first_place bracket)) (opened_one bracket (length nodes) at ∷ stack)
      (nodes ++ node (bracket_kind bracket) at 0 0 ∷ []) (at + 1)) (blank ++ inner) ≡ Some t
      → Closes bracket (opened_one bracket (length nodes) at) stack
      ((nodes ++ node (bracket_kind bracket) at 0 0 ∷ []) ++ inner_nodes) (at + 1 + length (blank ++ inner)) t
      → (count : ℕ) → count ≡ length inner_nodes
      → Leads place stack nodes at (opening bracket ∷ (blank ++ (inner ++ closing bracket ∷ [])))
      (nodes ++ node (bracket_kind bracket) at
      (at + length (opening bracket ∷ (blank ++ (inner ++ closing bracket ∷ [])))) (number + (1 + count))
      ∷ inner_nodes)
  collected bracket place starts stack nodes at number here fits blank inner inner_nodes t was closes count counted =
      let long : at + 1 + length (blank ++ inner) + 1 ≡ at
      + length (opening bracket ∷ (blank ++ (inner ++ closing bracket ∷ []))) =
      omega (arith, length_two blank inner, length_three blank inner (closing bracket ∷ [])) in
      let all : blank ++ (inner ++ closing bracket ∷ []) ≡ (blank ++ inner) ++ closing bracket ∷ [] =
      sym (append_assoc blank inner (closing bracket ∷ [])) in (
        state (stand places.Behind) stack (nodes_at_close (opened_one bracket (length nodes) at)
            ((nodes ++ node (bracket_kind bracket) at 0 0 ∷ []) ++ inner_nodes) (at + 1 + length (blank ++ inner)))
            (at + 1 + length (blank ++ inner) + 1),
        open_read place starts bracket stack nodes at (blank ++ (inner ++ closing bracket ∷ [])) fits
            ∙ ap (run (step room) (state (stand (first_place bracket)) (opened_one bracket (length nodes) at ∷ stack)
            (nodes ++ node (bracket_kind bracket) at 0 0 ∷ []) (at + 1))) all
            ∙ run_on (step room) (state (stand (first_place bracket)) (opened_one bracket (length nodes) at ∷ stack)
            (nodes ++ node (bracket_kind bracket) at 0 0 ∷ []) (at + 1)) t (blank ++ inner) (closing bracket ∷ []) was
            ∙ closes,
        rests_so places.Behind stack (nodes_at_close (opened_one bracket (length nodes) at)
            ((nodes ++ node (bracket_kind bracket) at 0 0 ∷ []) ++ inner_nodes) (at + 1 + length (blank ++ inner)))
            (nodes ++ node (bracket_kind bracket) at
            (at + length (opening bracket ∷ (blank ++ (inner ++ closing bracket ∷ [])))) (number + (1 + count))
            ∷ inner_nodes)
            (at + 1 + length (blank ++ inner) + 1)
            (at + length (opening bracket ∷ (blank ++ (inner ++ closing bracket ∷ []))))
            (state (stand places.Behind) stack (nodes_at_close (opened_one bracket (length nodes) at)
            ((nodes ++ node (bracket_kind bracket) at 0 0 ∷ []) ++ inner_nodes) (at + 1 + length (blank ++ inner)))
            (at + 1 + length (blank ++ inner) + 1))
            (ended_nodes bracket nodes inner_nodes at (at + 1 + length (blank ++ inner))
            ∙ ap (λ (n : ℕ). nodes ++ node (bracket_kind bracket) at n (length nodes + 1 + length inner_nodes)
            ∷ inner_nodes) long
            ∙ ap (λ (n : ℕ). nodes ++ node (bracket_kind bracket) at
            (at + length (opening bracket ∷ (blank ++ (inner ++ closing bracket ∷ [])))) n ∷ inner_nodes) (omega arith))
            long
            (rests_standing places.Behind stack (nodes_at_close (opened_one bracket (length nodes) at)
            ((nodes ++ node (bracket_kind bracket) at 0 0 ∷ []) ++ inner_nodes) (at + 1 + length (blank ++ inner)))
            (at + 1 + length (blank ++ inner) + 1)),
      )

  -- there is room for this many levels more
  abbrev pub HasRoom : List Open → ℕ → Type 0
  HasRoom stack depth = (count : ℕ) → count < length stack + depth → room count ≡ true

  abbrev ValueLeads : ℕ → Json → Type 0
  ValueLeads depth value = (place : Expectation) → StartsValue place → (stack : List Open) (nodes : List Node) (at number : ℕ)
      → number ≡ length nodes → HasRoom stack depth
      → Leads place stack nodes at (spelling value) (nodes ++ nodes_of number at value)

  -- from after an element or member, what follows it leads to after the last one
  abbrev BehindLeads : ℕ → Bracket → List ℕ → (ℕ → ℕ → List Node) → Type 0
  BehindLeads depth bracket text more = (one : Open) (outer : List Open) → one.bracket ≡ bracket
      → (nodes : List Node) (at number place : ℕ) (s : State) → number ≡ length nodes → place ≡ at + 1
      → HasRoom (one ∷ outer) depth → Rests places.Behind (one ∷ outer) nodes at s
      → (t : State) × (run (step room) s text ≡ Some t)
      × Rests places.Behind (one ∷ outer) (nodes ++ more number place) (at + length text) t

  -- a value, white space, and what follows
  value_leads : (depth : ℕ) (bracket : Bracket) (value : Json) (after text : List ℕ) (more : ℕ → ℕ → List Node)
      → AreBlank after → ValueLeads depth value → BehindLeads depth bracket text more
      → (place : Expectation) → StartsValue place → (one : Open) (outer : List Open) → one.bracket ≡ bracket
      → (nodes : List Node) (at number : ℕ) → number ≡ length nodes → HasRoom (one ∷ outer) depth
      → (t : State) × (run (step room) (state (stand place) (one ∷ outer) nodes at) (spelling value ++ (after ++ text))
      ≡ Some t)
      × Rests places.Behind (one ∷ outer) (nodes
      ++ (nodes_of number at value ++ more (number + node_count value) (next_place at value after)))
      (at + length (spelling value ++ (after ++ text))) t
  value_leads depth bracket value after text more blank leads behind place starts one outer same nodes at number here
      fits =
      let (s, was, rests) = leads place starts (one ∷ outer) nodes at number here fits in
      let (t, then_was, then_rests) = blanks_rest room places.Behind (one ∷ outer) (nodes ++ nodes_of number at value)
      (at + length (spelling value)) (at + length (spelling value) + length after) s after blank refl rests in
      let (u, last_was, last_rests) = behind one outer same (nodes ++ nodes_of number at value)
      (at + length (spelling value) + length after) (number + node_count value) (next_place at value after) t
      (sym (length-append nodes (nodes_of number at value) ∙ omega (arith, length-nodes_of value number at))) refl fits
      then_rests in (
        u,
        run_on (step room) (state (stand place) (one ∷ outer) nodes at) s (spelling value) (after ++ text) was
            ∙ run_on (step room) s t after text then_was ∙ last_was,
        rests_so places.Behind (one ∷ outer) ((nodes ++ nodes_of number at value)
            ++ more (number + node_count value) (next_place at value after))
            (nodes ++ (nodes_of number at value ++ more (number + node_count value) (next_place at value after)))
            (at + length (spelling value) + length after + length text)
            (at + length (spelling value ++ (after ++ text))) u
            (append_assoc nodes (nodes_of number at value)
            (more (number + node_count value) (next_place at value after)))
            (omega (arith, length_three (spelling value) after text)) last_rests,
      )

  -- an element, from where its text begins
  element_leads : (depth : ℕ) (before : List ℕ) (value : Json) (after : List ℕ) (rest : Elements) → AreBlank before
      → AreBlank after → ValueLeads depth value
      → BehindLeads depth Square (elements_behind rest) (λ number place. element_nodes number place rest)
      → (place : Expectation) → StartsValue place → (one : Open) (outer : List Open) → one.bracket ≡ Square
      → (nodes : List Node) (at number : ℕ) → number ≡ length nodes → HasRoom (one ∷ outer) depth
      → (t : State) × (run (step room) (state (stand place) (one ∷ outer) nodes at)
      (elements_text (element before value after rest)) ≡ Some t)
      × Rests places.Behind (one ∷ outer) (nodes ++ element_nodes number at (element before value after rest))
      (at + length (elements_text (element before value after rest))) t
  element_leads depth before value after rest blank blank_after leads behind place starts one outer same nodes at number
      here fits =
      let (t, was, rests) = value_leads depth Square value after (elements_behind rest) (λ n p. element_nodes n p rest)
      blank_after leads behind place starts one outer same nodes
      (at + length before) number here fits in (
        t,
        run_on (step room) (state (stand place) (one ∷ outer) nodes at)
            (state (stand place) (one ∷ outer) nodes (at + length before)) before
            (spelling value ++ (after ++ elements_behind rest))
            (blanks_read room place (one ∷ outer) nodes at (at + length before) before blank refl) ∙ was,
        rests_so places.Behind (one ∷ outer) (nodes ++ element_nodes number at (element before value after rest))
            (nodes ++ element_nodes number at (element before value after rest))
            (at + length before + length (spelling value ++ (after ++ elements_behind rest)))
            (at + length (elements_text (element before value after rest))) t refl
            (omega (arith, length_two before (spelling value ++ (after ++ elements_behind rest)))) rests,
      )

  none_behind : (depth : ℕ) (bracket : Bracket) → BehindLeads depth bracket [] (λ number place. [])
  none_behind depth bracket one outer same nodes at number place s here there fits rests =
      grind (arith, rests_so, append-nil)

  -- a comma, which leads to where the next element or member may begin
  comma_read : (one : Open) (outer : List Open) (nodes : List Node) (at : ℕ) (s : State) (text : List ℕ)
      → Rests places.Behind (one ∷ outer) nodes at s
      → run (step room) s (44 ∷ text) ≡ run (step room)
      (state (stand (next_wanted one.bracket)) (one ∷ outer) nodes (at + 1)) text
  comma_read one outer nodes at s text rests =
      rw (rests_step room places.Behind (one ∷ outer) nodes at s 44 rests tt) refl

  element_behind : (depth : ℕ) (before : List ℕ) (value : Json) (after : List ℕ) (rest : Elements) → AreBlank before
      → AreBlank after → ValueLeads depth value
      → BehindLeads depth Square (elements_behind rest) (λ number place. element_nodes number place rest)
      → BehindLeads depth Square (elements_behind (element before value after rest))
      (λ number place. element_nodes number place (element before value after rest))
  element_behind depth before value after rest blank blank_after leads behind one outer same nodes at number place s
      here there fits rests =
      let (t, was, then_rests) = element_leads depth before value after rest blank blank_after leads behind places.Value
      tt one outer same nodes (at + 1) number here fits in (
        t,
        comma_read one outer nodes at s (elements_text (element before value after rest)) rests
            ∙ ap (λ (b : Bracket). run (step room) (state (stand (next_wanted b)) (one ∷ outer) nodes (at + 1))
            (elements_text (element before value after rest))) same ∙ was,
        rests_so places.Behind (one ∷ outer) (nodes ++ element_nodes number (at + 1) (element before value after rest))
            (nodes ++ element_nodes number place (element before value after rest))
            (at + 1 + length (elements_text (element before value after rest)))
            (at + length (elements_behind (element before value after rest))) t
            (ap (λ (p : ℕ). nodes ++ element_nodes number p (element before value after rest)) (sym there))
            (omega arith) then_rests,
      )

  -- a key and its colon, from where a key may begin to where its value may
  abbrev StartsKey : Expectation → Type 0
  StartsKey places.FirstKey = Unit {0}
  StartsKey places.Key = Unit {0}
  StartsKey place = ⊥

  stand_key : (place : Expectation) → StartsKey place → (stack : List Open) (nodes : List Node) (at : ℕ)
      → stand_step room place stack nodes at signs.Quote ≡ key_step stack nodes at
  stand_key places.FirstKey starts stack nodes at = refl
  stand_key places.Key starts stack nodes at = refl
  stand_key place starts stack nodes at = absurd starts

  quoted_key : (place : Expectation) → StartsKey place
      → (stack : List Open) (nodes : List Node) (at number to : ℕ) (key : List Char) → number ≡ length nodes
      → AreChars key → to ≡ at + length (quoted_text key)
      → (t : State) × (run (step room) (state (stand place) stack nodes at) (quoted_text key) ≡ Some t)
      × Rests places.Colon stack (nodes ++ key_node number at key ∷ []) to t
  quoted_key place starts stack nodes at number to key here chars end = (
    state (within Role.key kinds.Text at (in_text Inner.closed)) stack nodes to,
    rw (stand_key place starts stack nodes at)
        (token_read room Role.key kinds.Text at stack nodes (at + 1) to (in_text Inner.plain) (in_text Inner.closed)
        (chars_text key ++ 34 ∷ [])
        (text_token Inner.plain Inner.closed (chars_text key ++ 34 ∷ []) (quoted_read key chars)) (omega arith)),
    rests_so places.Colon stack (nodes ++ node kinds.Text at to (length nodes + 1) ∷ [])
        (nodes ++ key_node number at key ∷ []) to to
        (state (within Role.key kinds.Text at (in_text Inner.closed)) stack nodes to)
        (ap (λ (n : ℕ). nodes ++ node kinds.Text at n (length nodes + 1) ∷ []) end
        ∙ ap (λ (n : ℕ). nodes ++ node kinds.Text at (at + length (quoted_text key)) (n + 1) ∷ []) (sym here)) refl
        (token_rests room Role.key kinds.Text at stack nodes to (in_text Inner.closed) refl),
  )

  key_leads : (place : Expectation) → StartsKey place
      → (stack : List Open) (nodes : List Node) (at number : ℕ) (before : List ℕ) (key : List Char)
      (behind ahead text : List ℕ) → number ≡ length nodes
      → AreBlank before → AreChars key → AreBlank behind → AreBlank ahead
      → run (step room) (state (stand place) stack nodes at)
      (before ++ (quoted_text key ++ (behind ++ 58 ∷ (ahead ++ text))))
      ≡ run (step room) (state (stand places.Value) stack (nodes ++ key_node number (element_start at before) key ∷ [])
      (member_start at before key behind ahead)) text
  key_leads place starts stack nodes at number before key behind ahead text here blank chars blank_behind blank_ahead =
      let (s, was, rests) = quoted_key place starts stack nodes (at + length before) number
      (at + length before + length (quoted_text key)) key here chars refl in
      let (t, then_was, then_rests) = blanks_rest room places.Colon stack
      (nodes ++ key_node number (at + length before) key ∷ []) (at + length before + length (quoted_text key))
      (at + length before + length (quoted_text key) + length behind) s behind blank_behind refl rests in
      run_on (step room) (state (stand place) stack nodes at) (state (stand place) stack nodes (at + length before))
      before (quoted_text key ++ (behind ++ 58 ∷ (ahead ++ text)))
      (blanks_read room place stack nodes at (at + length before) before blank refl)
      ∙ run_on (step room) (state (stand place) stack nodes (at + length before)) s (quoted_text key)
      (behind ++ 58 ∷ (ahead ++ text)) was
      ∙ run_on (step room) s t behind (58 ∷ (ahead ++ text)) then_was
      ∙ colon_read stack (nodes ++ key_node number (at + length before) key ∷ [])
      (at + length before + length (quoted_text key) + length behind) t (ahead ++ text) then_rests
      ∙ run_on (step room) (state (stand places.Value) stack (nodes ++ key_node number (at + length before) key ∷ [])
      (at + length before + length (quoted_text key) + length behind + 1))
      (state (stand places.Value) stack (nodes ++ key_node number (at + length before) key ∷ [])
      (member_start at before key behind ahead)) ahead text
      (blanks_read room places.Value stack (nodes ++ key_node number (at + length before) key ∷ [])
      (at + length before + length (quoted_text key) + length behind + 1)
      (member_start at before key behind ahead) ahead blank_ahead refl)
    where
      colon_read : (stack : List Open) (nodes : List Node) (at : ℕ) (s : State) (text : List ℕ)
          → Rests places.Colon stack nodes at s
          → run (step room) s (58 ∷ text) ≡ run (step room) (state (stand places.Value) stack nodes (at + 1)) text
      colon_read stack nodes at s text rests = rw (rests_step room places.Colon stack nodes at s 58 rests tt) refl

  -- a member, from where its text begins
  member_leads : (depth : ℕ) (before : List ℕ) (key : List Char) (behind ahead : List ℕ) (value : Json) (after : List ℕ)
      (rest : Members) → AreBlank before → AreChars key → AreBlank behind → AreBlank ahead
      → AreBlank after → ValueLeads depth value
      → BehindLeads depth Curly (members_behind rest) (λ number place. member_nodes number place rest)
      → (place : Expectation) → StartsKey place → (one : Open) (outer : List Open) → one.bracket ≡ Curly
      → (nodes : List Node) (at number : ℕ) → number ≡ length nodes → HasRoom (one ∷ outer) depth
      → (t : State) × (run (step room) (state (stand place) (one ∷ outer) nodes at)
      (members_text (member before key behind ahead value after rest)) ≡ Some t)
      × Rests places.Behind (one ∷ outer) (nodes
      ++ member_nodes number at (member before key behind ahead value after rest))
      (at + length (members_text (member before key behind ahead value after rest))) t
  member_leads depth before key behind ahead value after rest blank chars blank_behind blank_ahead blank_after leads
      follows place starts one outer same nodes at number here fits =
      let keyed : List Node = nodes ++ key_node number (element_start at before) key ∷ [] in
      let (t, was, rests) = value_leads depth Curly value after (members_behind rest) (λ n p. member_nodes n p rest)
      blank_after leads follows places.Value tt one outer same
      (nodes ++ key_node number (element_start at before) key ∷ []) (member_start at before key behind ahead)
      (number + 1)
      (sym (length_push nodes (key_node number (element_start at before) key) ∙ omega arith)) fits in (
        t,
        key_leads place starts (one ∷ outer) nodes at number before key behind ahead
            (spelling value ++ (after ++ members_behind rest)) here blank chars blank_behind blank_ahead ∙ was,
        rests_so places.Behind (one ∷ outer)
            ((nodes ++ key_node number (element_start at before) key ∷ [])
            ++ (nodes_of (number + 1) (member_start at before key behind ahead) value
            ++ member_nodes (number + 1 + node_count value)
            (next_place (member_start at before key behind ahead) value after) rest))
            (nodes ++ member_nodes number at (member before key behind ahead value after rest))
            (member_start at before key behind ahead + length (spelling value ++ (after ++ members_behind rest)))
            (at + length (members_text (member before key behind ahead value after rest))) t
            (append_assoc nodes (key_node number (element_start at before) key ∷ [])
            (nodes_of (number + 1) (member_start at before key behind ahead) value
            ++ member_nodes (number + 1 + node_count value)
            (next_place (member_start at before key behind ahead) value after) rest))
            (long before (quoted_text key) behind ahead (spelling value ++ (after ++ members_behind rest)))
            rests,
      )
    where
      long : (a b c d e : List ℕ) → at + length a + length b + length c + 1 + length d + length e ≡ at
          + length (a ++ (b ++ (c ++ 58 ∷ (d ++ e))))
      long a b c d e = omega (arith, length_four a b c (58 ∷ (d ++ e)), length_two d e)

  member_behind : (depth : ℕ) (before : List ℕ) (key : List Char) (behind ahead : List ℕ) (value : Json)
      (after : List ℕ) (rest : Members) → AreBlank before → AreChars key → AreBlank behind → AreBlank ahead
      → AreBlank after → ValueLeads depth value
      → BehindLeads depth Curly (members_behind rest) (λ number place. member_nodes number place rest)
      → BehindLeads depth Curly (members_behind (member before key behind ahead value after rest))
      (λ number place. member_nodes number place (member before key behind ahead value after rest))
  member_behind depth before key behind ahead value after rest blank chars blank_behind blank_ahead blank_after leads
      follows one outer same nodes at number place s here there fits rests =
      let (t, was, then_rests) = member_leads depth before key behind ahead value after rest blank chars blank_behind
      blank_ahead blank_after leads follows places.Key tt one outer same nodes (at + 1) number here fits in (
        t,
        comma_read one outer nodes at s (members_text (member before key behind ahead value after rest)) rests
            ∙ ap (λ (b : Bracket). run (step room) (state (stand (next_wanted b)) (one ∷ outer) nodes (at + 1))
            (members_text (member before key behind ahead value after rest))) same ∙ was,
        rests_so places.Behind (one ∷ outer) (nodes
            ++ member_nodes number (at + 1) (member before key behind ahead value after rest))
            (nodes ++ member_nodes number place (member before key behind ahead value after rest))
            (at + 1 + length (members_text (member before key behind ahead value after rest)))
            (at + length (members_behind (member before key behind ahead value after rest))) t
            (ap (λ (p : ℕ). nodes ++ member_nodes number p (member before key behind ahead value after rest))
            (sym there)) (omega arith) then_rests,
      )

  -- an empty array or object
  empty_leads : (bracket : Bracket) (place : Expectation) → StartsValue place
      → (stack : List Open) (nodes : List Node) (at number : ℕ) → number ≡ length nodes → room (length stack) ≡ true
      → (blank : List ℕ) → AreBlank blank
      → Leads place stack nodes at (opening bracket ∷ (blank ++ (closing bracket ∷ [])))
      (nodes ++ node (bracket_kind bracket) at (at + length (opening bracket ∷ (blank ++ (closing bracket ∷ []))))
      (number + (1 + 0)) ∷ [])
  empty_leads bracket place starts stack nodes at number here fits blank all =
      let open_nodes : List Node = nodes ++ node (bracket_kind bracket) at 0 0 ∷ [] in
      collected bracket place starts stack nodes at number here fits blank [] []
      (state (stand (first_place bracket)) (opened_one bracket (length nodes) at ∷ stack)
      ((nodes ++ node (bracket_kind bracket) at 0 0 ∷ []) ++ []) (at + 1 + length (blank ++ [])))
      (ap (run (step room) (state (stand (first_place bracket)) (opened_one bracket (length nodes) at ∷ stack)
      (nodes ++ node (bracket_kind bracket) at 0 0 ∷ []) (at + 1))) (append-nil blank)
      ∙ blanks_read room (first_place bracket) (opened_one bracket (length nodes) at ∷ stack)
      (nodes ++ node (bracket_kind bracket) at 0 0 ∷ []) (at + 1) (at + 1 + length (blank ++ [])) blank all
      (ap (λ (t : List ℕ). at + 1 + length t) (append-nil blank))
      ∙ ap (λ (ns : List Node). Some (state (stand (first_place bracket)) (opened_one bracket (length nodes) at ∷ stack)
      ns (at + 1 + length (blank ++ []))))
      (sym (append-nil (nodes ++ node (bracket_kind bracket) at 0 0 ∷ []))))
      (close_empty bracket (length nodes) at stack ((nodes ++ node (bracket_kind bracket) at 0 0 ∷ []) ++ [])
      (at + 1 + length (blank ++ [])))
      0 refl

  -- one with something in it
  filled_leads : (bracket : Bracket) (place : Expectation) → StartsValue place
      → (stack : List Open) (nodes : List Node) (at number : ℕ) → number ≡ length nodes → room (length stack) ≡ true
      → (blank : List ℕ) → AreBlank blank → (inner : List ℕ) (inner_nodes : List Node) (count : ℕ)
      → count ≡ length inner_nodes
      → ((t : State) × (run (step room) (state (stand (first_place bracket))
      (opened_one bracket (length nodes) at ∷ stack) (nodes ++ node (bracket_kind bracket) at 0 0 ∷ [])
      (inner_place at blank)) inner ≡ Some t)
      × Rests places.Behind (opened_one bracket (length nodes) at ∷ stack)
      ((nodes ++ node (bracket_kind bracket) at 0 0 ∷ []) ++ inner_nodes) (inner_place at blank + length inner) t)
      → Leads place stack nodes at (opening bracket ∷ (blank ++ (inner ++ closing bracket ∷ [])))
      (nodes ++ node (bracket_kind bracket) at
      (at + length (opening bracket ∷ (blank ++ (inner ++ closing bracket ∷ [])))) (number + (1 + count))
      ∷ inner_nodes)
  filled_leads bracket place starts stack nodes at number here fits blank all inner inner_nodes count counted
      (t, was, rests) =
      collected bracket place starts stack nodes at number here fits blank inner inner_nodes t
      (run_on (step room) (state (stand (first_place bracket)) (opened_one bracket (length nodes) at ∷ stack)
      (nodes ++ node (bracket_kind bracket) at 0 0 ∷ []) (at + 1))
      (state (stand (first_place bracket)) (opened_one bracket (length nodes) at ∷ stack)
      (nodes ++ node (bracket_kind bracket) at 0 0 ∷ []) (inner_place at blank)) blank inner
      (blanks_read room (first_place bracket) (opened_one bracket (length nodes) at ∷ stack)
      (nodes ++ node (bracket_kind bracket) at 0 0 ∷ []) (at + 1) (inner_place at blank) blank all refl) ∙ was)
      (close_behind bracket (length nodes) at stack ((nodes ++ node (bracket_kind bracket) at 0 0 ∷ []) ++ inner_nodes)
      (at + 1 + length (blank ++ inner)) t
      (rests_so places.Behind (opened_one bracket (length nodes) at ∷ stack)
      ((nodes ++ node (bracket_kind bracket) at 0 0 ∷ []) ++ inner_nodes)
      ((nodes ++ node (bracket_kind bracket) at 0 0 ∷ []) ++ inner_nodes)
      (inner_place at blank + length inner) (at + 1 + length (blank ++ inner)) t refl
      (omega (arith, length_two blank inner)) rests))
      count counted

  none_blank : (blank : List ℕ) → blank ≡ [] → AreBlank blank
  none_blank blank none = rw none tt

  deeper : (bracket : Bracket) (number from depth : ℕ) (stack : List Open) → HasRoom stack (suc depth)
      → HasRoom (opened_one bracket number from ∷ stack) depth
  deeper bracket number from depth stack fits count below = fits count (omega arith)

  fits_here : (depth : ℕ) (stack : List Open) → HasRoom stack (suc depth) → room (length stack) ≡ true
  fits_here depth stack fits = fits (length stack) (omega arith)

  mutual
    pub value_read : (value : Json) (depth : ℕ) → IsValue depth value → ValueLeads depth value
    value_read null depth is place starts stack nodes at number here fits =
        token_leads place starts stack nodes at number here 110 (117 ∷ 108 ∷ 108 ∷ []) kinds.Null
        (in_word (117 ∷ 108 ∷ 108 ∷ [])) (in_word []) tt refl refl refl
    value_read (truth true) depth is place starts stack nodes at number here fits =
        token_leads place starts stack nodes at number here 116 (114 ∷ 117 ∷ 101 ∷ []) kinds.True
        (in_word (114 ∷ 117 ∷ 101 ∷ [])) (in_word []) tt refl refl refl
    value_read (truth false) depth is place starts stack nodes at number here fits =
        token_leads place starts stack nodes at number here 102 (97 ∷ 108 ∷ 115 ∷ 101 ∷ []) kinds.False
        (in_word (97 ∷ 108 ∷ 115 ∷ 101 ∷ [])) (in_word []) tt refl refl refl
    value_read (numeral text) depth is place starts stack nodes at number here fits =
        let (byte, rest, first, all, begins, leads) = number_read text is in
        subst (λ (t : List ℕ). Leads place stack nodes at t (nodes ++ nodes_of number at (numeral t))) (sym all)
        (token_leads place starts stack nodes at number here byte rest kinds.Number (in_number first)
        (in_number leads.0) (number_begins (byte_sign byte) first begins)
        (number_value (byte_sign byte) first begins stack nodes at) (number_token first leads.0 rest leads.1) leads.2)
    value_read (quoted chars) depth is place starts stack nodes at number here fits =
        token_leads place starts stack nodes at number here 34 (chars_text chars ++ 34 ∷ []) kinds.Text
        (in_text Inner.plain) (in_text Inner.closed) tt refl
        (text_token Inner.plain Inner.closed (chars_text chars ++ 34 ∷ []) (quoted_read chars is)) refl
    value_read (array blank elements) zero is place starts stack nodes at number here fits = absurd is
    value_read (array blank no_element) (suc depth) is place starts stack nodes at number here fits =
        empty_leads Square place starts stack nodes at number here (fits_here depth stack fits) blank is.0
    value_read (array blank (element before value after rest)) (suc depth) is place starts stack nodes at number here
        fits =
        filled_leads Square place starts stack nodes at number here (fits_here depth stack fits) blank
        (none_blank blank is.0) (elements_text (element before value after rest))
        (element_nodes (number + 1) (inner_place at blank) (element before value after rest))
        (element_count (element before value after rest))
        (sym (length-element_nodes (element before value after rest) (number + 1) (inner_place at blank)))
        (element_leads depth before value after rest is.1.0 is.1.2 (value_read value depth is.1.1)
        (elements_read rest depth is.1.3) places.FirstElement tt
        (opened_one Square (length nodes) at) stack refl (nodes ++ node kinds.Array at 0 0 ∷ []) (inner_place at blank)
        (number + 1)
        (sym (length_push nodes (node kinds.Array at 0 0) ∙ omega arith))
        (deeper Square (length nodes) at depth stack fits))
    value_read (object blank members) zero is place starts stack nodes at number here fits = absurd is
    value_read (object blank no_member) (suc depth) is place starts stack nodes at number here fits =
        empty_leads Curly place starts stack nodes at number here (fits_here depth stack fits) blank is.0
    value_read (object blank (member before key behind ahead value after rest)) (suc depth) is place starts stack nodes
        at number here fits =
        filled_leads Curly place starts stack nodes at number here (fits_here depth stack fits) blank
        (none_blank blank is.0) (members_text (member before key behind ahead value after rest))
        (member_nodes (number + 1) (inner_place at blank) (member before key behind ahead value after rest))
        (member_count (member before key behind ahead value after rest))
        (sym (length-member_nodes (member before key behind ahead value after rest) (number + 1)
        (inner_place at blank)))
        (member_leads depth before key behind ahead value after rest is.1.0 is.1.1 is.1.2 is.1.3 is.1.5
        (value_read value depth is.1.4) (members_read rest depth is.1.6) places.FirstKey tt
        (opened_one Curly (length nodes) at) stack refl (nodes ++ node kinds.Object at 0 0 ∷ []) (inner_place at blank)
        (number + 1)
        (sym (length_push nodes (node kinds.Object at 0 0) ∙ omega arith))
        (deeper Curly (length nodes) at depth stack fits))

    pub elements_read : (elements : Elements) (depth : ℕ) → AreElements depth elements
        → BehindLeads depth Square (elements_behind elements) (λ number place. element_nodes number place elements)
    elements_read no_element depth is = none_behind depth Square
    elements_read (element before value after rest) depth is =
        element_behind depth before value after rest is.0 is.2 (value_read value depth is.1)
        (elements_read rest depth is.3)

    pub members_read : (members : Members) (depth : ℕ) → AreMembers depth members
        → BehindLeads depth Curly (members_behind members) (λ number place. member_nodes number place members)
    members_read no_member depth is = none_behind depth Curly
    members_read (member before key behind ahead value after rest) depth is =
        member_behind depth before key behind ahead value after rest is.0 is.1 is.2 is.3 is.5
        (value_read value depth is.4) (members_read rest depth is.6)
