-- The pass over a text, byte by byte, with the nodes that it makes. Only private functions speak of it.
use Rattle.std.specs.Prelude.{◌≡◌, ℕ, ◌+◌, ◌<◌, ◌≤◌, ◌↔◌, Bool, true, false, nat_lt, if◌then◌else◌, List, [], ◌∷◌, ◌++◌}
use Rattle.std.specs.Prelude.{length, take, slice_set, slice_index, Option, Some, None, Result, Ok, Err}
use Rattle.std.specs.List.{AllByRecursion}
use Rattle.text_places.specs.Machine.{run}
use Rattle.jtext.specs.Nodes.{node}
use Rattle.jtext.specs.Texts.{IsBad, IsDeep}
use Rattle.jtext.specs.InsideSigns.{byte_sign, bracket_kind, word_rest, word_kind}
use Rattle.jtext.specs.InsideTokens.{number_step, is_last_place, Inner, inner_step, is_closed, word_step, is_done}
use Rattle.jtext.specs.declared.document.Kind.{Kind}
use Rattle.jtext.specs.declared.document.Kind.TheVariants as kinds
use Rattle.jtext.specs.declared.document.Node.{Node}
use Rattle.jtext.specs.declared.signs.Bracket.{Bracket}
use Rattle.jtext.specs.declared.signs.Bracket.TheVariants.{Square, Curly}
use Rattle.jtext.specs.declared.signs.Sign.{Sign}
use Rattle.jtext.specs.declared.signs.Sign.TheVariants as signs
use Rattle.jtext.specs.declared.number.NumberPlace.{NumberPlace}
use Rattle.jtext.specs.declared.number.NumberPlace.TheVariants as numbers
use Rattle.jtext.specs.declared.stack.Open.{Open}
use Rattle.jtext.specs.declared.steps.Expectation.{Expectation}
use Rattle.jtext.specs.declared.steps.Expectation.TheVariants as places
use Rattle.jtext.specs.declared.json_texts.JsonFault.{JsonFault}
use Rattle.jtext.specs.declared.json_texts.JsonFault.TheVariants as faults
use Rattle.jtext.specs.declared.json_texts.TheConstants.{DEEPEST}

-- Inside a word, a number or a text.
pub data Token : Type 0 where
  in_word : List ℕ → Token
  in_number : NumberPlace → Token
  in_text : Inner → Token

abbrev pub of_word : Option (List ℕ) → Option Token
of_word None = None
of_word (Some rest) = Some (in_word rest)

abbrev pub of_number : Option NumberPlace → Option Token
of_number None = None
of_number (Some place) = Some (in_number place)

abbrev pub of_text : Option Inner → Option Token
of_text None = None
of_text (Some inner) = Some (in_text inner)

abbrev pub token_step : Token → ℕ → Option Token
token_step (in_word word) byte = of_word (word_step word byte)
token_step (in_number place) byte = of_number (number_step place byte)
token_step (in_text inner) byte = of_text (inner_step inner byte)

-- the token may end here
abbrev pub is_whole : Token → Bool
is_whole (in_word word) = is_done word
is_whole (in_number place) = is_last_place place
is_whole (in_text inner) = is_closed inner

-- what the token is: a byte order mark, a key or a value
pub data Role : Type 0 where
  mark : Role
  key : Role
  value : Role

-- at the start, between tokens, or in a token of this role and kind that began at this place
pub data Phase : Type 0 where
  begin : Phase
  stand : Expectation → Phase
  within : Role → Kind → ℕ → Token → Phase

-- the phase; what is open, the innermost first; the nodes so far; how many bytes were read
pub record State : Type 0 where
  pub phase : Phase
  pub stack : List Open
  pub nodes : List Node
  pub at : ℕ

abbrev pub state : Phase → List Open → List Node → ℕ → State
state phase stack nodes at = record { phase = phase; stack = stack; nodes = nodes; at = at }

abbrev pub start : State
start = state begin [] [] 0

abbrev pub opened_one : Bracket → ℕ → ℕ → Open
opened_one bracket number at = record { bracket = bracket; node = number; start = at }

abbrev pub first_place : Bracket → Expectation
first_place Square = places.FirstElement
first_place Curly = places.FirstKey

-- a bracket opens where there is room for it after this many; its node's end and next follow later
abbrev pub state_at_open : (ℕ → Bool) → Bracket → List Open → List Node → ℕ → Option State
state_at_open room bracket stack nodes at =
    if room (length stack)
    then Some (state (stand (first_place bracket)) (opened_one bracket (length nodes) at ∷ stack)
    (nodes ++ node (bracket_kind bracket) at 0 0 ∷ []) (at + 1))
    else None

abbrev pub same_bracket : Bracket → Bracket → Bool
same_bracket Square Square = true
same_bracket Square Curly = false
same_bracket Curly Square = false
same_bracket Curly Curly = true

-- the node of what closes gets its end and next
abbrev pub nodes_at_close : Open → List Node → ℕ → List Node
nodes_at_close one nodes at = slice_set nodes one.node (node (bracket_kind one.bracket) one.start (at + 1) (length nodes))

abbrev pub closed_one : Bracket → List Open → List Node → ℕ → Option State
closed_one bracket [] nodes at = None
closed_one bracket (one ∷ outer) nodes at =
    if same_bracket bracket one.bracket then Some (state (stand places.Behind) outer (nodes_at_close one nodes at) (at + 1)) else
    None

abbrev pub next_wanted : Bracket → Expectation
next_wanted Square = places.Value
next_wanted Curly = places.Key

abbrev pub state_at_comma : List Open → List Node → ℕ → Option State
state_at_comma [] nodes at = None
state_at_comma (one ∷ outer) nodes at = Some (state (stand (next_wanted one.bracket)) (one ∷ outer) nodes (at + 1))

abbrev pub state_in_token : Role → Kind → Token → List Open → List Node → ℕ → Option State
state_in_token role kind token stack nodes at = Some (state (within role kind at token) stack nodes (at + 1))

-- where a value may begin
abbrev pub value_step : (ℕ → Bool) → List Open → List Node → ℕ → Sign → Option State
value_step room stack nodes at signs.Quote = state_in_token value kinds.Text (in_text Inner.plain) stack nodes at
value_step room stack nodes at (signs.Opening bracket) = state_at_open room bracket stack nodes at
value_step room stack nodes at signs.Minus = state_in_token value kinds.Number (in_number numbers.Minus) stack nodes at
value_step room stack nodes at signs.Zero = state_in_token value kinds.Number (in_number numbers.Zero) stack nodes at
value_step room stack nodes at signs.Digit = state_in_token value kinds.Number (in_number numbers.Whole) stack nodes at
value_step room stack nodes at (signs.Letter word) =
    state_in_token value (word_kind word) (in_word (word_rest word)) stack nodes at
value_step room stack nodes at sign = None

abbrev pub key_step : List Open → List Node → ℕ → Option State
key_step stack nodes at = state_in_token key kinds.Text (in_text Inner.plain) stack nodes at

abbrev pub blank_step : Expectation → List Open → List Node → ℕ → Option State
blank_step place stack nodes at = Some (state (stand place) stack nodes (at + 1))

-- between tokens, by what the byte is
abbrev pub stand_step : (ℕ → Bool) → Expectation → List Open → List Node → ℕ → Sign → Option State
stand_step room places.Value stack nodes at signs.Blank = blank_step places.Value stack nodes at
stand_step room places.Value stack nodes at sign = value_step room stack nodes at sign
stand_step room places.FirstElement stack nodes at signs.Blank = blank_step places.FirstElement stack nodes at
stand_step room places.FirstElement stack nodes at (signs.Closing bracket) = closed_one bracket stack nodes at
stand_step room places.FirstElement stack nodes at sign = value_step room stack nodes at sign
stand_step room places.FirstKey stack nodes at signs.Blank = blank_step places.FirstKey stack nodes at
stand_step room places.FirstKey stack nodes at signs.Quote = key_step stack nodes at
stand_step room places.FirstKey stack nodes at (signs.Closing bracket) = closed_one bracket stack nodes at
stand_step room places.Key stack nodes at signs.Blank = blank_step places.Key stack nodes at
stand_step room places.Key stack nodes at signs.Quote = key_step stack nodes at
stand_step room places.Colon stack nodes at signs.Blank = blank_step places.Colon stack nodes at
stand_step room places.Colon stack nodes at signs.Colon = Some (state (stand places.Value) stack nodes (at + 1))
stand_step room places.Behind stack nodes at signs.Blank = blank_step places.Behind stack nodes at
stand_step room places.Behind stack nodes at signs.Comma = state_at_comma stack nodes at
stand_step room places.Behind stack nodes at (signs.Closing bracket) = closed_one bracket stack nodes at
stand_step room place stack nodes at sign = None

-- the two bytes after the first one of a byte order mark
abbrev pub mark_rest : List ℕ
mark_rest = 0xBB ∷ 0xBF ∷ []

-- a byte order mark or a value
abbrev pub begin_step : (ℕ → Bool) → List Open → List Node → ℕ → Sign → Option State
begin_step room stack nodes at signs.First = state_in_token mark kinds.Null (in_word mark_rest) stack nodes at
begin_step room stack nodes at sign = stand_step room places.Value stack nodes at sign

-- what is wanted after a token
abbrev pub place_behind : Role → Expectation
place_behind mark = places.Value
place_behind key = places.Colon
place_behind value = places.Behind

-- the nodes with that of the token that ends here; a byte order mark has none
abbrev pub nodes_with_token : Role → Kind → ℕ → List Node → ℕ → List Node
nodes_with_token mark kind from nodes at = nodes
nodes_with_token key kind from nodes at = nodes ++ node kind from at (length nodes + 1) ∷ []
nodes_with_token value kind from nodes at = nodes ++ node kind from at (length nodes + 1) ∷ []

-- the token goes on, or ends before this byte
abbrev pub token_or : Option Token → Role → Kind → ℕ → List Open → List Node → ℕ → Option State → Option State
token_or (Some token) role kind from stack nodes at behind =
    Some (state (within role kind from token) stack nodes (at + 1))
token_or None role kind from stack nodes at behind = behind

abbrev pub phase_step : (ℕ → Bool) → Phase → List Open → List Node → ℕ → ℕ → Option State
phase_step room begin stack nodes at byte = begin_step room stack nodes at (byte_sign byte)
phase_step room (stand place) stack nodes at byte = stand_step room place stack nodes at (byte_sign byte)
phase_step room (within role kind from token) stack nodes at byte =
    token_or (token_step token byte) role kind from stack nodes at
    (if is_whole token then stand_step room (place_behind role) stack (nodes_with_token role kind from nodes at) at
    (byte_sign byte) else None)

abbrev pub step : (ℕ → Bool) → State → ℕ → Option State
step room s byte = phase_step room s.phase s.stack s.nodes s.at byte

-- at most this many brackets are open
abbrev pub up_to : ℕ → ℕ → Bool
up_to depth count = nat_lt count depth

-- any number of brackets may be open
abbrev pub anywhere : ℕ → Bool
anywhere count = true

-- a value may end here
abbrev pub IsLast : Phase → Type 0
IsLast (stand places.Behind) = Unit {0}
IsLast (within value kind from token) = is_whole token ≡ true
IsLast phase = ⊥

pub record IsEnd (s : State) : Type 0 where
  pub last : IsLast s.phase
  pub all_closed : s.stack ≡ []

-- the nodes with that of the token that ends here
abbrev pub nodes_in : Phase → List Node → ℕ → List Node
nodes_in begin nodes at = nodes
nodes_in (stand place) nodes at = nodes
nodes_in (within role kind from token) nodes at = nodes_with_token role kind from nodes at

abbrev pub nodes_so_far : State → List Node
nodes_so_far s = nodes_in s.phase s.nodes s.at

abbrev pub IsBehind : Expectation → Type 0
IsBehind places.Behind = Unit {0}
IsBehind place = ⊥

-- To the next byte, or at the end, the state is as between tokens at this place.
pub record Shows (bytes : List ℕ) (s : State) (place : Expectation) (stack : List Open) (nodes : List Node) (at : ℕ) : Type 0
  where
    pub acts : at < length bytes → (room : ℕ → Bool)
        → step room s (slice_index bytes at) ≡ stand_step room place stack nodes at (byte_sign (slice_index bytes at))
    pub last : IsLast s.phase ↔ IsBehind place
    pub stack_is : s.stack ≡ stack
    pub seen_is : nodes_so_far s ≡ nodes

-- The pass over the bytes before this place leads here, with room for DEEPEST brackets.
pub record Reached (bytes : List ℕ) (place : Expectation) (stack : List Open) (nodes : List Node) (at : ℕ) : Type 0 where
  pub now : State
  pub was : run (step (up_to DEEPEST)) start (take at bytes) ≡ Some now
  pub shows : Shows bytes now place stack nodes at
  pub inside : at ≤ length bytes
  pub few : length nodes ≤ at
  pub shallow : length stack ≤ DEEPEST
  pub theirs : AllByRecursion (λ (one : Open). one.node < length nodes) stack

-- The byte at this place is taken from what was reached, or refused, as next says for any room.
pub record Takes (bytes : List ℕ) (stack : List Open) (nodes : List Node) (at : ℕ)
    (next : (ℕ → Bool) → Option State) : Type 0 where
  pub now : State
  pub was : run (step (up_to DEEPEST)) start (take at bytes) ≡ Some now
  pub takes : (room : ℕ → Bool) → step room now (slice_index bytes at) ≡ next room
  pub inside : at < length bytes
  pub few : length nodes ≤ at
  pub shallow : length stack ≤ DEEPEST
  pub theirs : AllByRecursion (λ (one : Open). one.node < length nodes) stack

-- no white space
abbrev pub IsBlack : Sign → Type 0
IsBlack signs.Blank = ⊥
IsBlack sign = Unit {0}

-- What a step answers: a place further on that is reached, or why there is none.
abbrev pub Goes : List ℕ → ℕ → Result (Expectation × ℕ) JsonFault → List Open → List Node → Type 0
Goes bytes from (Ok next) stack nodes = Reached bytes next.0 stack nodes next.1 × (from < next.1)
Goes bytes from (Err (faults.Bad at)) stack nodes = IsBad bytes at
Goes bytes from (Err (faults.Deep at)) stack nodes = IsDeep bytes at
Goes bytes from (Err faults.NoMemory) stack nodes = Unit {0}

-- Where the pass begins: after a byte order mark, or at the first byte.
abbrev pub GoesIn : List ℕ → Result ℕ JsonFault → Type 0
GoesIn bytes (Ok at) = Reached bytes places.Value [] [] at
GoesIn bytes (Err (faults.Bad at)) = IsBad bytes at
GoesIn bytes (Err fault) = ⊥
