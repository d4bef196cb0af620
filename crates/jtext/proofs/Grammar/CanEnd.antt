-- From each state some bytes lead to where a text may end.
use Rattle.std.proofs.Common.{◌≡◌, ℕ, ◌+◌, List, [], ◌∷◌, ◌++◌, length, Bool, true, refl, ◌∙◌, arith}
use Rattle.std.specs.Prelude.{Some}
use Rattle.std.proofs.lemmas.Bool.{eq-eqb}
use Rattle.text_places.specs.Machine.{run}
use Rattle.text_places.proofs.Runs.{run_on}
use Rattle.jtext.specs.InsideSigns.{closing}
use Rattle.jtext.specs.InsideTokens.{Inner, inner_step, needing, takes, word_step}
use Rattle.jtext.specs.InsideStates.{Token, in_word, in_number, in_text, token_step, is_whole, Role, Phase, begin}
use Rattle.jtext.specs.InsideStates.{stand}
use Rattle.jtext.specs.InsideStates.{within, State, state, same_bracket, nodes_at_close, place_behind, nodes_with_token, step, IsEnd}
use Rattle.jtext.specs.declared.document.Kind.{Kind}
use Rattle.jtext.specs.declared.document.Node.{Node}
use Rattle.jtext.specs.declared.signs.Bracket.{Bracket}
use Rattle.jtext.specs.declared.signs.Bracket.TheVariants.{Square, Curly}
use Rattle.jtext.specs.declared.number.NumberPlace.{NumberPlace}
use Rattle.jtext.specs.declared.number.NumberPlace.TheVariants as numbers
use Rattle.jtext.specs.declared.text.Need.{Need}
use Rattle.jtext.specs.declared.text.Need.TheVariants as needs
use Rattle.jtext.specs.declared.stack.Open.{Open}
use Rattle.jtext.specs.declared.steps.Expectation.{Expectation}
use Rattle.jtext.specs.declared.steps.Expectation.TheVariants as places
use Rattle.jtext.proofs.Grammar.ByteSigns.{closing_sign}
use Rattle.jtext.proofs.Grammar.Rests.{Rests, rests_step, token_read, token_rests, text_token, word_token}

-- the closing brackets of all that is open
abbrev closers : List Open → List ℕ
closers [] = []
closers (one ∷ outer) = closing one.bracket ∷ closers outer

-- a byte that is as needed
abbrev example : Need → ℕ
example needs.Tail = 0x80
example needs.TailFromA0 = 0xA0
example needs.TailTo9F = 0x80
example needs.TailFrom90 = 0x90
example needs.TailTo8F = 0x80
example needs.Hexadecimal = 48

example_taken : (first : Need) → takes first (example first) ≡ true
example_taken needs.Tail = refl
example_taken _ = refl

abbrev examples : List Need → List ℕ
examples [] = 34 ∷ []
examples (first ∷ more) = example first ∷ examples more

examples_read : (needs : List Need) → run inner_step (needing needs) (examples needs) ≡ Some Inner.closed
examples_read [] = refl
examples_read (first ∷ more) = rw (example_taken first) (examples_read more)

abbrev TokenEnds : Token → Type 0
TokenEnds token = (part : List ℕ) × (last : Token) × (run token_step token part ≡ Some last) × (is_whole last ≡ true)

text_ends : (inner : Inner) → TokenEnds (in_text inner)
text_ends Inner.plain = (34 ∷ [], in_text Inner.closed, refl, refl)
text_ends Inner.escape = (110 ∷ 34 ∷ [], in_text Inner.closed, refl, refl)
text_ends (Inner.need first more) = (
  examples (first ∷ more),
  in_text Inner.closed,
  text_token (Inner.need first more) Inner.closed
      (examples (first ∷ more)) (examples_read (first ∷ more)),
  refl,
)
text_ends Inner.closed = ([], in_text Inner.closed, refl, refl)

number_ends : (place : NumberPlace) → TokenEnds (in_number place)
number_ends numbers.Minus = (48 ∷ [], in_number numbers.Zero, refl, refl)
number_ends numbers.Point = (48 ∷ [], in_number numbers.Fraction, refl, refl)
number_ends numbers.Mark = (48 ∷ [], in_number numbers.Exponent, refl, refl)
number_ends numbers.MarkSign = (48 ∷ [], in_number numbers.Exponent, refl, refl)
number_ends place = ([], in_number place, refl, refl)

word_itself : (word : List ℕ) → run word_step word word ≡ Some []
word_itself [] = refl
word_itself (first ∷ more) = rw (eq-eqb first first refl) (word_itself more)

token_ends : (token : Token) → TokenEnds token
token_ends (in_word word) = (word, in_word [], word_token word [] word (word_itself word), refl)
token_ends (in_number place) = number_ends place
token_ends (in_text inner) = text_ends inner

module _ (room : ℕ → Bool) where
  abbrev CanEnd : State → Type 0
  CanEnd s = (rest : List ℕ) × (last : State) × (run (step room) s rest ≡ Some last) × IsEnd last

  same_self : (bracket : Bracket) → same_bracket bracket bracket ≡ true
  same_self Square = refl
  same_self Curly = refl

  behind_ends : (stack : List Open) (nodes : List Node) (at : ℕ)
      → (last : State) × (run (step room) (state (stand places.Behind) stack nodes at) (closers stack) ≡ Some last)
      × IsEnd last
  behind_ends [] nodes at = (state (stand places.Behind) [] nodes at, refl, record { last = tt; all_closed = refl })
  behind_ends (one ∷ outer) nodes at =
      grind (arith, closing_sign, same_self, (behind_ends outer (nodes_at_close one nodes at) (at + 1)))

  value_ends : (stack : List Open) (nodes : List Node) (at : ℕ) → CanEnd (state (stand places.Value) stack nodes at)
  value_ends stack nodes at = let (last, was, ends) =
      behind_ends stack _ _ in (48 ∷ 32 ∷ closers stack, last, was, ends)

  first_ends : (stack : List Open) (nodes : List Node) (at : ℕ)
      → CanEnd (state (stand places.FirstElement) stack nodes at)
  first_ends stack nodes at = let (last, was, ends) =
      behind_ends stack _ _ in (48 ∷ 32 ∷ closers stack, last, was, ends)

  begin_ends : (stack : List Open) (nodes : List Node) (at : ℕ) → CanEnd (state begin stack nodes at)
  begin_ends stack nodes at = let (last, was, ends) =
      behind_ends stack _ _ in (48 ∷ 32 ∷ closers stack, last, was, ends)

  colon_ends : (stack : List Open) (nodes : List Node) (at : ℕ) → CanEnd (state (stand places.Colon) stack nodes at)
  colon_ends stack nodes at = let (last, was, ends) =
      behind_ends stack _ _ in (58 ∷ 48 ∷ 32 ∷ closers stack, last, was, ends)

  key_ends : (stack : List Open) (nodes : List Node) (at : ℕ) → CanEnd (state (stand places.Key) stack nodes at)
  key_ends stack nodes at = let (last, was, ends) =
      behind_ends stack _ _ in (34 ∷ 34 ∷ 58 ∷ 48 ∷ 32 ∷ closers stack, last, was, ends)

  first_key_ends : (stack : List Open) (nodes : List Node) (at : ℕ)
      → CanEnd (state (stand places.FirstKey) stack nodes at)
  first_key_ends stack nodes at = let (last, was, ends) =
      behind_ends stack _ _ in (34 ∷ 34 ∷ 58 ∷ 48 ∷ 32 ∷ closers stack, last, was, ends)

  stand_ends : (place : Expectation) (stack : List Open) (nodes : List Node) (at : ℕ)
      → CanEnd (state (stand place) stack nodes at)
  stand_ends places.Value stack nodes at = value_ends stack nodes at
  stand_ends places.FirstElement stack nodes at = first_ends stack nodes at
  stand_ends places.FirstKey stack nodes at = first_key_ends stack nodes at
  stand_ends places.Key stack nodes at = key_ends stack nodes at
  stand_ends places.Colon stack nodes at = colon_ends stack nodes at
  stand_ends places.Behind stack nodes at = let (last, was, ends) =
      behind_ends stack nodes at in (closers stack, last, was, ends)

  -- a space ends any token
  space_read : (place : Expectation) (stack : List Open) (nodes : List Node) (at : ℕ) (s : State) (text : List ℕ)
      → Rests place stack nodes at s
      → run (step room) s (32 ∷ text) ≡ run (step room) (state (stand place) stack nodes (at + 1)) text
  space_read place stack nodes at s text rests = grind (arith, rests_step)

  within_ends : (role : Role) (kind : Kind) (from : ℕ) (token : Token) (stack : List Open) (nodes : List Node) (at : ℕ)
      → CanEnd (state (within role kind from token) stack nodes at)
  within_ends role kind from token stack nodes at =
      let (part, whole, read, done) = token_ends token in
      let there : ℕ = at + length part in
      let (rest, last, was, ends) = stand_ends (place_behind role) stack
      (nodes_with_token role kind from nodes (at + length part)) (at + length part + 1) in (
        part ++ 32 ∷ rest,
        last,
        run_on (step room) (state (within role kind from token) stack nodes at)
            (state (within role kind from whole) stack nodes (at + length part)) part (32 ∷ rest)
            (token_read room role kind from stack nodes at (at + length part) token whole part read refl)
            ∙ space_read (place_behind role) stack (nodes_with_token role kind from nodes (at + length part)) (at + length part)
            (state (within role kind from whole) stack nodes (at + length part)) rest
            (token_rests room role kind from stack nodes (at + length part) whole done)
            ∙ was,
        ends,
      )

  phase_ends : (phase : Phase) (stack : List Open) (nodes : List Node) (at : ℕ) → CanEnd (state phase stack nodes at)
  phase_ends begin stack nodes at = begin_ends stack nodes at
  phase_ends (stand place) stack nodes at = stand_ends place stack nodes at
  phase_ends (within role kind from token) stack nodes at = within_ends role kind from token stack nodes at

  pub can_end : (s : State) → (rest : List ℕ) × (last : State) × (run (step room) s rest ≡ Some last) × IsEnd last
  can_end s = phase_ends s.phase s.stack s.nodes s.at
