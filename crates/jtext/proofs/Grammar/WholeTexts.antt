-- Each text is read from the start to its end, and leaves its nodes.
use Rattle.std.proofs.Common.{◌≡◌, ℕ, ◌+◌, ◌<◌, List, [], ◌∷◌, ◌++◌, length, Bool, true, false, refl, sym, ap, ◌∙◌}
use Rattle.std.proofs.Common.{arith, subst}
use Rattle.std.specs.Prelude.{Some}
use Rattle.text_places.specs.Machine.{run}
use Rattle.text_places.proofs.Runs.{run_on}
use Rattle.jtext.specs.Characters.{chars_text}
use Rattle.jtext.specs.Values.{Json, null, truth, numeral, quoted, array, object, spelling, elements_text, members_text}
use Rattle.jtext.specs.Values.{AreBlank, IsValue}
use Rattle.jtext.specs.Nodes.{nodes_of}
use Rattle.jtext.specs.Texts.{Whole, mark_text, IsWhole}
use Rattle.jtext.specs.Places.{whole_nodes}
use Rattle.jtext.specs.InsideSigns.{byte_sign}
use Rattle.jtext.specs.InsideStates.{Phase, begin, stand, within, Role, State, state, start, in_word, begin_step}
use Rattle.jtext.specs.InsideStates.{stand_step}
use Rattle.jtext.specs.InsideStates.{step, IsLast, IsEnd}
use Rattle.jtext.specs.declared.document.Kind.TheVariants as kinds
use Rattle.jtext.specs.declared.document.Node.{Node}
use Rattle.jtext.specs.declared.signs.Sign.{Sign}
use Rattle.jtext.specs.declared.signs.Sign.TheVariants as signs
use Rattle.jtext.specs.declared.stack.Open.{Open}
use Rattle.jtext.specs.declared.steps.Expectation.TheVariants as places
use Rattle.jtext.proofs.Grammar.ByteSigns.{blank_sign}
use Rattle.jtext.proofs.Grammar.NumberTexts.{number_read}
use Rattle.jtext.proofs.Grammar.Rests.{Rests, RestsIn, rests_so, blanks_read, blanks_rest}
use Rattle.jtext.proofs.Grammar.Complete.{BeginsValue, number_begins, value_read}
use Rattle.jtext.proofs.Grammar.NodeLists.{length_three}

-- the first byte of a value
value_first : (depth : ℕ) (value : Json) → IsValue depth value
    → (byte : ℕ) × (rest : List ℕ) × (spelling value ≡ byte ∷ rest) × BeginsValue (byte_sign byte)
value_first depth null is = (110, 117 ∷ 108 ∷ 108 ∷ [], refl, tt)
value_first depth (truth true) is = (116, 114 ∷ 117 ∷ 101 ∷ [], refl, tt)
value_first depth (truth false) is = (102, 97 ∷ 108 ∷ 115 ∷ 101 ∷ [], refl, tt)
value_first depth (numeral text) is =
    let (byte, rest, first, all, begins, leads) =
    number_read text is in (byte, rest, all, number_begins (byte_sign byte) first begins)
value_first depth (quoted chars) is = (34, chars_text chars ++ 34 ∷ [], refl, tt)
value_first depth (array blank elements) is = (91, blank ++ (elements_text elements ++ 93 ∷ []), refl, tt)
value_first depth (object blank members) is = (123, blank ++ (members_text members ++ 125 ∷ []), refl, tt)

-- no first byte of a byte order mark
abbrev pub IsNoMark : Sign → Type 0
IsNoMark signs.First = ⊥
IsNoMark sign = Unit {0}

value_no_mark : (sign : Sign) → BeginsValue sign → IsNoMark sign
value_no_mark signs.First begins = absurd begins
value_no_mark sign begins = tt

-- the first byte of a text after its mark
first_byte : (depth : ℕ) (before : List ℕ) (value : Json) (after : List ℕ) → AreBlank before → IsValue depth value
    → (byte : ℕ) × (rest : List ℕ) × (before ++ (spelling value ++ after) ≡ byte ∷ rest) × IsNoMark (byte_sign byte)
first_byte depth [] value after blank is =
    let (byte, rest, all, begins) = value_first depth value is in
    (byte, rest ++ after, ap (λ (t : List ℕ). t ++ after) all, value_no_mark (byte_sign byte) begins)
first_byte depth (byte ∷ before) value after blank is =
    (byte, before ++ (spelling value ++ after), refl, rw (blank_sign byte blank.0) tt)

module _ (room : ℕ → Bool) where
  pub begin_other : (sign : Sign) → IsNoMark sign → (stack : List Open) (nodes : List Node) (at : ℕ)
      → begin_step room stack nodes at sign ≡ stand_step room places.Value stack nodes at sign
  begin_other signs.First other stack nodes at = absurd other
  begin_other sign other stack nodes at = refl

  -- at the start and after a mark a text goes on as where a value may come
  marked_read : (at byte : ℕ) (rest : List ℕ)
      → run (step room) (state (within Role.mark kinds.Null 0 (in_word [])) [] [] at) (byte ∷ rest)
      ≡ run (step room) (state (stand places.Value) [] [] at) (byte ∷ rest)
  marked_read at byte rest = refl

  unmarked_read : (byte : ℕ) (rest : List ℕ) → IsNoMark (byte_sign byte)
      → run (step room) start (byte ∷ rest) ≡ run (step room) (state (stand places.Value) [] [] 0) (byte ∷ rest)
  unmarked_read byte rest other = rw (begin_other (byte_sign byte) other [] [] 0) refl

  inner_read : (depth : ℕ) → ((count : ℕ) → count < depth → room count ≡ true)
      → (at : ℕ) (before : List ℕ) (value : Json) (after : List ℕ) → AreBlank before → IsValue depth value
      → AreBlank after
      → (t : State) × (run (step room) (state (stand places.Value) [] [] at) (before ++ (spelling value ++ after))
      ≡ Some t)
      × Rests places.Behind [] (nodes_of 0 (at + length before) value)
      (at + length (before ++ (spelling value ++ after))) t
  inner_read depth fits at before value after blank is blank_after =
      let (s, was, rests) = value_read room value depth is places.Value tt [] [] (at + length before) 0 refl
      (λ count below. fits count (omega arith)) in
      let (t, on, last) = blanks_rest room places.Behind [] (nodes_of 0 (at + length before) value)
      (at + length before + length (spelling value))
      (at + length before + length (spelling value) + length after) s after blank_after refl rests in (
        t,
        run_on (step room) (state (stand places.Value) [] [] at) (state (stand places.Value) [] [] (at + length before))
            before (spelling value ++ after)
            (blanks_read room places.Value [] [] at (at + length before) before blank refl)
            ∙ run_on (step room) (state (stand places.Value) [] [] (at + length before)) s (spelling value) after was
            ∙ on,
        rests_so places.Behind [] (nodes_of 0 (at + length before) value) (nodes_of 0 (at + length before) value)
            (at + length before + length (spelling value) + length after)
            (at + length (before ++ (spelling value ++ after))) t refl
            (omega (arith, length_three before (spelling value) after)) last,
      )

  -- After the text the nodes are those of its value.
  pub whole_read : (depth : ℕ) → ((count : ℕ) → count < depth → room count ≡ true) → (whole : Whole) (text : List ℕ)
      → IsWhole depth whole text
      → (t : State) × (run (step room) start text ≡ Some t) × Rests places.Behind [] (whole_nodes whole) (length text) t
  whole_read depth fits whole text is = by_mark whole.marked refl
    where
      by_mark : (marked : Bool) → whole.marked ≡ marked
          → (t : State) × (run (step room) start text ≡ Some t)
          × Rests places.Behind [] (whole_nodes whole) (length text) t
      by_mark false none =
          let inner : List ℕ = whole.before ++ (spelling whole.value ++ whole.after) in
          let all : text ≡ whole.before ++ (spelling whole.value ++ whole.after) = is.all
          ∙ ap (λ (m : Bool). mark_text m ++ (whole.before ++ (spelling whole.value ++ whole.after))) none in
          let (byte, rest, first, other) = first_byte depth whole.before whole.value whole.after is.before is.value in
          let (t, was, rests) = inner_read depth fits 0 whole.before whole.value whole.after is.before is.value
          is.after in (
            t,
            ap (run (step room) start) (all ∙ first) ∙ unmarked_read byte rest other
                ∙ ap (run (step room) (state (stand places.Value) [] [] 0)) (sym first) ∙ was,
            rests_so places.Behind [] (nodes_of 0 (0 + length whole.before) whole.value) (whole_nodes whole)
                (0 + length (whole.before ++ (spelling whole.value ++ whole.after))) (length text) t
                (ap (λ (m : Bool). nodes_of 0 (length (mark_text m) + length whole.before) whole.value) (sym none))
                (omega (arith, ap length all)) rests,
          )
      by_mark true marked =
          let all : text ≡ 0xEF ∷ 0xBB ∷ 0xBF ∷ (whole.before ++ (spelling whole.value ++ whole.after)) =
          is.all ∙ ap (λ (m : Bool). mark_text m ++ (whole.before ++ (spelling whole.value ++ whole.after))) marked in
          let (byte, rest, first, other) = first_byte depth whole.before whole.value whole.after is.before is.value in
          let (t, was, rests) = inner_read depth fits 3 whole.before whole.value whole.after is.before is.value
          is.after in (
            t,
            ap (run (step room) start) all ∙ ap (run (step room)
                (state (within Role.mark kinds.Null 0 (in_word [])) [] [] 3)) first ∙ marked_read 3 byte rest
                ∙ ap (run (step room) (state (stand places.Value) [] [] 3)) (sym first) ∙ was,
            rests_so places.Behind [] (nodes_of 0 (3 + length whole.before) whole.value) (whole_nodes whole)
                (3 + length (whole.before ++ (spelling whole.value ++ whole.after))) (length text) t
                (ap (λ (m : Bool). nodes_of 0 (length (mark_text m) + length whole.before) whole.value) (sym marked))
                (omega (arith, ap length all)) rests,
          )

-- a text may end where a value was read and nothing is open
last_behind : (phase : Phase) → RestsIn places.Behind phase → IsLast phase
last_behind begin rests = absurd rests
last_behind (stand place) rests = subst (λ p. IsLast (stand p)) (sym rests) tt
last_behind (within Role.mark kind from token) rests = let other : places.Value ≡ places.Behind = rests.0 in cc
last_behind (within Role.key kind from token) rests = let other : places.Colon ≡ places.Behind = rests.0 in cc
last_behind (within Role.value kind from token) rests = rests.1

pub rests_end : (nodes : List Node) (at : ℕ) (t : State) → Rests places.Behind [] nodes at t → IsEnd t
rests_end nodes at t rests = record { last = last_behind t.phase rests.phase_is; all_closed = rests.stack_is }
