-- States between tokens, and runs over one token and over white space.
use Rattle.std.proofs.Common.{◌≡◌, ℕ, ◌+◌, List, [], ◌∷◌, length, Bool, true, refl, ap, ◌∙◌, arith}
use Rattle.std.specs.Prelude.{Some, None}
use Rattle.std.proofs.lemmas.Option.{same_Some, option_and_then_some}
use Rattle.text_places.specs.Machine.{run}
use Rattle.jtext.specs.Values.{AreBlank}
use Rattle.jtext.specs.InsideSigns.{byte_sign}
use Rattle.jtext.specs.InsideTokens.{number_after, number_step, Inner, inner_step, word_step}
use Rattle.jtext.specs.InsideStates.{Token, in_word, in_number, in_text, token_step, is_whole, Role, Phase, begin}
use Rattle.jtext.specs.InsideStates.{stand}
use Rattle.jtext.specs.InsideStates.{within, State, state, stand_step, place_behind, nodes_with_token, phase_step, step}
use Rattle.jtext.specs.InsideStates.{nodes_so_far}
use Rattle.jtext.specs.InsideStates.{nodes_in}
use Rattle.jtext.specs.declared.document.Kind.{Kind}
use Rattle.jtext.specs.declared.document.Node.{Node}
use Rattle.jtext.specs.declared.signs.Sign.{Sign}
use Rattle.jtext.specs.declared.signs.Sign.TheVariants as signs
use Rattle.jtext.specs.declared.number.NumberPlace.{NumberPlace}
use Rattle.jtext.specs.declared.number.NumberPlace.TheVariants as numbers
use Rattle.jtext.specs.declared.stack.Open.{Open}
use Rattle.jtext.specs.declared.steps.Expectation.{Expectation}
use Rattle.jtext.specs.declared.steps.Expectation.TheVariants as places
use Rattle.jtext.proofs.Grammar.ByteSigns.{blank_sign}

-- the phase is as between tokens at this place
abbrev pub RestsIn : Expectation → Phase → Type 0
RestsIn place begin = ⊥
RestsIn place (stand other) = other ≡ place
RestsIn place (within role kind from token) = (place_behind role ≡ place) × (is_whole token ≡ true)

-- the state is as between tokens at this place, for bytes that do not go on with a number
pub record Rests (place : Expectation) (stack : List Open) (nodes : List Node) (at : ℕ) (s : State) : Type 0 where
  pub phase_is : RestsIn place s.phase
  pub stack_is : s.stack ≡ stack
  pub seen_is : nodes_so_far s ≡ nodes
  pub at_is : s.at ≡ at

pub rests_so : (place : Expectation) (stack : List Open) (nodes more : List Node) (at to : ℕ) (s : State) → nodes ≡ more
    → at ≡ to → Rests place stack nodes at s → Rests place stack more to s
rests_so place stack nodes more at to s n a h =
    record { phase_is = h.phase_is; stack_is = h.stack_is; seen_is = h.seen_is ∙ n; at_is = h.at_is ∙ a }

pub rests_standing : (place : Expectation) (stack : List Open) (nodes : List Node) (at : ℕ)
    → Rests place stack nodes at (state (stand place) stack nodes at)
rests_standing place stack nodes at = record { phase_is = refl; stack_is = refl; seen_is = refl; at_is = refl }

-- signs that end any token
abbrev pub IsStop : Sign → Type 0
IsStop signs.Blank = Unit {0}
IsStop signs.Comma = Unit {0}
IsStop (signs.Closing bracket) = Unit {0}
IsStop signs.Colon = Unit {0}
IsStop sign = ⊥

number_stop : (place : NumberPlace) (sign : Sign) → IsStop sign → number_after place sign ≡ None
number_stop numbers.Minus signs.Blank stop = refl
number_stop numbers.Minus signs.Comma stop = refl
number_stop numbers.Minus (signs.Closing bracket) stop = refl
number_stop numbers.Minus signs.Colon stop = refl
number_stop numbers.Zero signs.Blank stop = refl
number_stop numbers.Zero signs.Comma stop = refl
number_stop numbers.Zero (signs.Closing bracket) stop = refl
number_stop numbers.Zero signs.Colon stop = refl
number_stop numbers.Whole signs.Blank stop = refl
number_stop numbers.Whole signs.Comma stop = refl
number_stop numbers.Whole (signs.Closing bracket) stop = refl
number_stop numbers.Whole signs.Colon stop = refl
number_stop numbers.Point signs.Blank stop = refl
number_stop numbers.Point signs.Comma stop = refl
number_stop numbers.Point (signs.Closing bracket) stop = refl
number_stop numbers.Point signs.Colon stop = refl
number_stop numbers.Fraction signs.Blank stop = refl
number_stop numbers.Fraction signs.Comma stop = refl
number_stop numbers.Fraction (signs.Closing bracket) stop = refl
number_stop numbers.Fraction signs.Colon stop = refl
number_stop numbers.Mark signs.Blank stop = refl
number_stop numbers.Mark signs.Comma stop = refl
number_stop numbers.Mark (signs.Closing bracket) stop = refl
number_stop numbers.Mark signs.Colon stop = refl
number_stop numbers.MarkSign signs.Blank stop = refl
number_stop numbers.MarkSign signs.Comma stop = refl
number_stop numbers.MarkSign (signs.Closing bracket) stop = refl
number_stop numbers.MarkSign signs.Colon stop = refl
number_stop numbers.Exponent signs.Blank stop = refl
number_stop numbers.Exponent signs.Comma stop = refl
number_stop numbers.Exponent (signs.Closing bracket) stop = refl
number_stop numbers.Exponent signs.Colon stop = refl
number_stop place sign stop = absurd stop

token_stop : (token : Token) (byte : ℕ) → is_whole token ≡ true → IsStop (byte_sign byte) → token_step token byte ≡ None
token_stop (in_word []) byte whole stop = refl
token_stop (in_word (first ∷ more)) byte whole stop = cc
token_stop (in_number place) byte whole stop = rw (number_stop place (byte_sign byte) stop) refl
token_stop (in_text Inner.closed) byte whole stop = refl
token_stop (in_text (Inner.need first more)) byte whole stop = cc
token_stop token byte whole stop = cc

module _ (room : ℕ → Bool) where
  -- what ends a token acts as between tokens
  pub within_step : (role : Role) (kind : Kind) (from : ℕ) (token : Token) (stack : List Open) (nodes : List Node)
      (at byte : ℕ) → is_whole token ≡ true
      → token_step token byte ≡ None
      → phase_step room (within role kind from token) stack nodes at byte
      ≡ stand_step room (place_behind role) stack (nodes_with_token role kind from nodes at) at (byte_sign byte)
  within_step role kind from token stack nodes at byte whole ends = rw (ends, whole) refl

  phase_stops : (place : Expectation) (phase : Phase) (stack : List Open) (nodes : List Node) (at byte : ℕ)
      → RestsIn place phase → IsStop (byte_sign byte)
      → phase_step room phase stack nodes at byte
      ≡ stand_step room place stack (nodes_in phase nodes at) at (byte_sign byte)
  phase_stops place begin stack nodes at byte rests stop = absurd rests
  phase_stops place (stand other) stack nodes at byte rests stop =
      ap (λ (p : Expectation). stand_step room p stack nodes at (byte_sign byte)) rests
  phase_stops place (within role kind from token) stack nodes at byte rests stop =
      grind (arith, within_step, token_stop)

  pub rests_step : (place : Expectation) (stack : List Open) (nodes : List Node) (at : ℕ) (s : State) (byte : ℕ)
      → Rests place stack nodes at s → IsStop (byte_sign byte)
      → step room s byte ≡ stand_step room place stack nodes at (byte_sign byte)
  rests_step place stack nodes at s byte h stop = grind (arith, phase_stops)

  -- white space between tokens
  stand_blank : (place : Expectation) (stack : List Open) (nodes : List Node) (at : ℕ)
      → stand_step room place stack nodes at signs.Blank ≡ Some (state (stand place) stack nodes (at + 1))
  stand_blank places.Value stack nodes at = refl
  stand_blank place stack nodes at = refl

  pub blanks_read : (place : Expectation) (stack : List Open) (nodes : List Node) (at to : ℕ) (text : List ℕ) → AreBlank text
      → to ≡ at + length text
      → run (step room) (state (stand place) stack nodes at) text ≡ Some (state (stand place) stack nodes to)
  blanks_read place stack nodes at to [] all end =
      ap (λ (n : ℕ). Some (state (stand place) stack nodes n)) (omega arith)
  blanks_read place stack nodes at to (byte ∷ text) all end =
      grind (arith, blank_sign, stand_blank, (blanks_read place stack nodes (at + 1) to text all.1 (omega arith)))

  pub blanks_rest : (place : Expectation) (stack : List Open) (nodes : List Node) (at to : ℕ) (s : State) (text : List ℕ)
      → AreBlank text → to ≡ at + length text
      → Rests place stack nodes at s → (t : State) × (run (step room) s text ≡ Some t) × Rests place stack nodes to t
  blanks_rest place stack nodes at to s [] all end h =
      (s, refl, rests_so place stack nodes nodes at to s refl (omega arith) h)
  blanks_rest place stack nodes at to s (byte ∷ text) all end h = (
    state (stand place) stack nodes to,
    rw (
      rests_step place stack nodes at s byte h (rw (blank_sign byte all.0) tt),
      blank_sign byte all.0,
      stand_blank
          place stack nodes at,
    )
        (blanks_read place stack nodes (at + 1) to text all.1 (omega arith)),
    rests_standing place stack nodes to,
  )

  -- the rest of a token
  pub token_read : (role : Role) (kind : Kind) (from : ℕ) (stack : List Open) (nodes : List Node) (at to : ℕ)
      (token last : Token) (part : List ℕ)
      → run token_step token part ≡ Some last → to ≡ at + length part
      → run (step room) (state (within role kind from token) stack nodes at) part
      ≡ Some (state (within role kind from last) stack nodes to)
  token_read role kind from stack nodes at to token last [] was end =
      ap (λ (n : ℕ). Some (state (within role kind from token) stack nodes n)) (omega arith)
      ∙ ap (λ (t : Token). Some (state (within role kind from t) stack nodes to)) (same_Some token last was)
  token_read role kind from stack nodes at to token last (byte ∷ part) was end =
      option_and_then_some (λ next. run token_step next part) (token_step token byte) last was
      (λ next here on. rw here (token_read role kind from stack nodes (at + 1) to next last part on (omega arith)))

  pub token_rests : (role : Role) (kind : Kind) (from : ℕ) (stack : List Open) (nodes : List Node) (at : ℕ)
      (token : Token) → is_whole token ≡ true
      → Rests (place_behind role) stack (nodes_with_token role kind from nodes at) at
      (state (within role kind from token) stack nodes at)
  token_rests role kind from stack nodes at token whole =
      record { phase_is = (refl, whole); stack_is = refl; seen_is = refl; at_is = refl }

-- the passes over words, numbers and texts as tokens
pub word_token : (word last bytes : List ℕ) → run word_step word bytes ≡ Some last
    → run token_step (in_word word) bytes ≡ Some (in_word last)
word_token word last [] was = ap (λ (w : List ℕ). Some (in_word w)) (same_Some word last was)
word_token word last (byte ∷ bytes) was =
    option_and_then_some (λ next. run word_step next bytes) (word_step word byte) last was
    (λ next here on. rw here (word_token next last bytes on))

pub number_token : (place last : NumberPlace) (bytes : List ℕ) → run number_step place bytes ≡ Some last
    → run token_step (in_number place) bytes ≡ Some (in_number last)
number_token place last [] was = ap (λ (p : NumberPlace). Some (in_number p)) (same_Some place last was)
number_token place last (byte ∷ bytes) was =
    option_and_then_some (λ next. run number_step next bytes) (number_step place byte) last was
    (λ next here on. rw here (number_token next last bytes on))

pub text_token : (inner last : Inner) (bytes : List ℕ) → run inner_step inner bytes ≡ Some last
    → run token_step (in_text inner) bytes ≡ Some (in_text last)
text_token inner last [] was = ap (λ (i : Inner). Some (in_text i)) (same_Some inner last was)
text_token inner last (byte ∷ bytes) was =
    option_and_then_some (λ next. run inner_step next bytes) (inner_step inner byte) last was
    (λ next here on. rw here (text_token next last bytes on))
