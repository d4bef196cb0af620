-- What the code reached, a token or white space further on, and its faults.
use Rattle.std.proofs.Common.{◌≡◌, ℕ, suc, ◌+◌, ◌<◌, ◌≤◌, ◌↔◌, List, [], ◌∷◌, ◌++◌, length, take, Bool, true, false}
use Rattle.std.proofs.Common.{refl, sym, ap, ◌∙◌, arith, subst}
use Rattle.std.specs.Prelude.{Option, Some, None, Ok, Err, slice_index, slice_range}
use Rattle.std.specs.List.{AllByRecursion}
use Rattle.std.proofs.lemmas.Bool.{le-ltb, lt-ltb}
use Rattle.std.proofs.lemmas.List.{length_push, length-set, take_all}
use Rattle.std.proofs.lemmas.List.Edits.{length-between}
use Rattle.text_places.specs.Machine.{run}
use Rattle.text_places.proofs.Runs.{run_on}
use Rattle.jtext.specs.Values.{AreBlank}
use Rattle.jtext.specs.Texts.{Whole, IsWhole, IsBad, IsDeep}
use Rattle.jtext.specs.Places.{whole_nodes}
use Rattle.jtext.specs.Nodes.{node}
use Rattle.jtext.specs.InsideSigns.{byte_sign, bracket_kind}
use Rattle.jtext.specs.InsideTokens.{number_step, is_last_place, Inner, WordEnds, TextEnds}
use Rattle.jtext.specs.InsideStates.{Token, in_word, in_number, in_text, of_word, of_number, of_text, token_step}
use Rattle.jtext.specs.InsideStates.{is_whole}
use Rattle.jtext.specs.InsideStates.{Role, stand, within, State, state, start, opened_one, first_place, next_wanted}
use Rattle.jtext.specs.InsideStates.{same_bracket, state_at_open, nodes_at_close, closed_one, state_at_comma, state_in_token, blank_step, value_step}
use Rattle.jtext.specs.InsideStates.{stand_step, mark_rest, begin_step, place_behind, nodes_with_token, step, up_to, anywhere}
use Rattle.jtext.specs.InsideStates.{IsLast}
use Rattle.jtext.specs.InsideStates.{IsBehind, IsBlack, Shows, Reached, Takes}
use Rattle.jtext.specs.declared.document.Kind.{Kind}
use Rattle.jtext.specs.declared.document.Kind.TheVariants as kinds
use Rattle.jtext.specs.declared.document.Node.{Node}
use Rattle.jtext.specs.declared.signs.Bracket.{Bracket}
use Rattle.jtext.specs.declared.signs.Word.{Word}
use Rattle.jtext.specs.declared.signs.Sign.{Sign}
use Rattle.jtext.specs.declared.signs.Sign.TheVariants as signs
use Rattle.jtext.specs.declared.number.NumberPlace.{NumberPlace}
use Rattle.jtext.specs.declared.stack.Open.{Open}
use Rattle.jtext.specs.declared.steps.Expectation.{Expectation}
use Rattle.jtext.specs.declared.steps.Expectation.TheVariants as places
use Rattle.jtext.specs.declared.json_texts.TheConstants.{DEEPEST}
use Rattle.jtext.proofs.CodeReads.Pieces.{front_part}
use Rattle.jtext.proofs.Grammar.Rests.{within_step, token_read, blanks_read, word_token, number_token, text_token}
use Rattle.jtext.proofs.Grammar.ByteSigns.{HasSign, has_sign}
use Rattle.jtext.proofs.Grammar.WholeTexts.{IsNoMark, begin_other}
use Rattle.jtext.proofs.Grammar.Passes.{one_more, bad_at, bad_at_end, bad_there, deep_at, read_whole}

-- nodes of what is open stay below a count that grows
theirs_more : (stack : List Open) (count more : ℕ) → count ≤ more
    → AllByRecursion (λ (one : Open). one.node < count) stack → AllByRecursion (λ (one : Open). one.node < more) stack
theirs_more [] count more below all = tt
theirs_more (one ∷ outer) count more below all = (omega (arith, all.0), theirs_more outer count more below all.1)

stand_last : (place : Expectation) → IsLast (stand place) ↔ IsBehind place
stand_last places.Behind = (λ h. h, λ h. h)
stand_last place = (λ h. h, λ h. h)

stand_shows : (bytes : List ℕ) (place : Expectation) (stack : List Open) (nodes : List Node) (at : ℕ)
    → Shows bytes (state (stand place) stack nodes at) place stack nodes at
stand_shows bytes place stack nodes at = grind (arith, stand_last)

within_last : (role : Role) (kind : Kind) (from : ℕ) (token : Token) → is_whole token ≡ true
    → IsLast (within role kind from token) ↔ IsBehind (place_behind role)
within_last Role.mark kind from token whole = (λ h. h, λ h. h)
within_last Role.key kind from token whole = (λ h. h, λ h. h)
within_last Role.value kind from token whole = (λ h. tt, λ h. whole)

within_shows : (bytes : List ℕ) (role : Role) (kind : Kind) (from : ℕ) (token : Token) (stack : List Open)
    (nodes : List Node) (at : ℕ) → is_whole token ≡ true
    → (at < length bytes → token_step token (slice_index bytes at) ≡ None)
    → Shows bytes (state (within role kind from token) stack nodes at) (place_behind role) stack
    (nodes_with_token role kind from nodes at) at
within_shows bytes role kind from token stack nodes at whole ends = grind (arith, within_step, within_last)

pub reached_takes : (bytes : List ℕ) (place : Expectation) (stack : List Open) (nodes : List Node) (at : ℕ) (sign : Sign)
    → Reached bytes place stack nodes at → at < length bytes
    → sign ≡ byte_sign (slice_index bytes at)
    → Takes bytes stack nodes at (λ room. stand_step room place stack nodes at sign)
reached_takes bytes place stack nodes at sign r inside same = grind (arith)

module _ (bytes : List ℕ) (stack : List Open) (nodes : List Node) (at : ℕ) (next : (ℕ → Bool) → Option State)
    (t : Takes bytes stack nodes at next) where
  pub takes_bad : next anywhere ≡ None → IsBad bytes at
  takes_bad refused = bad_at bytes at t.now t.was t.inside (t.takes anywhere ∙ refused)

  takes_deep : next (up_to DEEPEST) ≡ None → (more : State) → next (up_to (DEEPEST + 1)) ≡ Some more
      → IsDeep bytes at
  takes_deep refused more goes = deep_at bytes at t.now t.was t.inside (t.takes (up_to DEEPEST) ∙ refused) more
      (t.takes (up_to (DEEPEST + 1)) ∙ goes)

  takes_one : (s : State) → next (up_to DEEPEST) ≡ Some s
      → run (step (up_to DEEPEST)) start (take (at + 1) bytes) ≡ Some s
  takes_one s goes = one_more (up_to DEEPEST) bytes at t.now t.inside t.was ∙ t.takes (up_to DEEPEST) ∙ goes

  -- a byte that leads between tokens
  pub takes_stand : (place : Expectation) (stack' : List Open) (nodes' : List Node)
      → next (up_to DEEPEST) ≡ Some (state (stand place) stack' nodes' (at + 1))
      → length nodes' ≤ at + 1 → length stack' ≤ DEEPEST
      → AllByRecursion (λ (one : Open). one.node < length nodes') stack' → Reached bytes place stack' nodes' (at + 1)
  takes_stand place stack' nodes' goes few shallow theirs = grind (arith, takes_one, stand_shows)

-- white space
pub takes_blanks : (bytes : List ℕ) (place : Expectation) (stack : List Open) (nodes : List Node) (at to : ℕ)
    → Takes bytes stack nodes at (λ room. blank_step place stack nodes at)
    → at + 1 ≤ to → to ≤ length bytes → AreBlank (slice_range bytes (at + 1) to) → Reached bytes place stack nodes to
takes_blanks bytes place stack nodes at to t begun_at inside blank = record {
  now = state (stand place) stack nodes to;
  was = ap (run (step (up_to DEEPEST)) start) (sym (front_part bytes (at + 1) to begun_at inside))
      ∙ run_on (step (up_to DEEPEST)) start (state (stand place) stack nodes (at + 1)) (take (at + 1) bytes)
      (slice_range bytes (at + 1) to)
      (takes_one bytes stack nodes at (λ room. blank_step place stack nodes at) t
      (state (stand place) stack nodes (at + 1)) refl)
      ∙ blanks_read (up_to DEEPEST) place stack nodes (at + 1) to (slice_range bytes (at + 1) to) blank
      (omega (arith, length-between bytes (at + 1) to inside));
  shows = stand_shows bytes place stack nodes to;
  inside = inside;
  few = omega (arith, t.few);
  shallow = t.shallow;
  theirs = t.theirs;
}

-- one token
module _ (bytes : List ℕ) (role : Role) (kind : Kind) (token : Token) (stack : List Open) (nodes : List Node)
    (at to : ℕ) (t : Takes bytes stack nodes at (λ room. state_in_token role kind token stack nodes at))
    (last : Token) (begun_at : at + 1 ≤ to) (inside : to ≤ length bytes)
    (read : run token_step token (slice_range bytes (at + 1) to) ≡ Some last) where
  token_was : run (step (up_to DEEPEST)) start (take to bytes) ≡ Some (state (within role kind at last) stack nodes to)
  token_was =
      ap (run (step (up_to DEEPEST)) start) (sym (front_part bytes (at + 1) to begun_at inside))
      ∙ run_on (step (up_to DEEPEST)) start (state (within role kind at token) stack nodes (at + 1))
      (take (at + 1) bytes) (slice_range bytes (at + 1) to)
      (takes_one bytes stack nodes at (λ room. state_in_token role kind token stack nodes at) t
      (state (within role kind at token) stack nodes (at + 1)) refl)
      ∙ token_read (up_to DEEPEST) role kind at stack nodes (at + 1) to token last (slice_range bytes (at + 1) to) read
      (omega (arith, length-between bytes (at + 1) to inside))

  token_reached : is_whole last ≡ true → (to < length bytes → token_step last (slice_index bytes to) ≡ None)
      → length (nodes_with_token role kind at nodes to) ≤ to
      → AllByRecursion (λ (one : Open). one.node < length (nodes_with_token role kind at nodes to)) stack
      → Reached bytes (place_behind role) stack (nodes_with_token role kind at nodes to) to
  token_reached whole ends few theirs = grind (arith, token_was, within_shows)

  token_bad : is_whole last ≡ false → (to < length bytes → token_step last (slice_index bytes to) ≡ None)
      → IsBad bytes to
  token_bad open_still ends = bad_there bytes to (state (within role kind at last) stack nodes to) token_was inside
      (λ below. rw (ends below, open_still) refl)
      (λ end. not_last role end.last)
    where
      not_last : (r : Role) → IsLast (within r kind at last) → ⊥
      not_last Role.value h = let both : true ≡ false = sym h ∙ open_still in cc
      not_last r h = h

-- a value's token ends, and its node is pushed
value_reached : (bytes : List ℕ) (kind : Kind) (token last : Token) (stack : List Open) (nodes : List Node)
    (at to : ℕ) → Takes bytes stack nodes at (λ room. state_in_token Role.value kind token stack nodes at)
    → at + 1 ≤ to → to ≤ length bytes → run token_step token (slice_range bytes (at + 1) to) ≡ Some last
    → is_whole last ≡ true → (to < length bytes → token_step last (slice_index bytes to) ≡ None)
    → Reached bytes places.Behind stack (nodes_with_token Role.value kind at nodes to) to
value_reached bytes kind token last stack nodes at to t begun_at inside read whole ends =
    let long : length (nodes_with_token Role.value kind at nodes to) ≡ length nodes + 1 = length_push nodes _ in
    token_reached bytes Role.value kind token stack nodes at to t last begun_at inside read whole ends
    (omega (arith, t.few))
    (theirs_more stack (length nodes) (length (nodes_with_token Role.value kind at nodes to)) (omega arith) t.theirs)

key_reached : (bytes : List ℕ) (kind : Kind) (token last : Token) (stack : List Open) (nodes : List Node)
    (at to : ℕ) → Takes bytes stack nodes at (λ room. state_in_token Role.key kind token stack nodes at)
    → at + 1 ≤ to → to ≤ length bytes → run token_step token (slice_range bytes (at + 1) to) ≡ Some last
    → is_whole last ≡ true → (to < length bytes → token_step last (slice_index bytes to) ≡ None)
    → Reached bytes places.Colon stack (nodes_with_token Role.key kind at nodes to) to
key_reached bytes kind token last stack nodes at to t begun_at inside read whole ends =
    let long : length (nodes_with_token Role.key kind at nodes to) ≡ length nodes + 1 = length_push nodes _ in
    token_reached bytes Role.key kind token stack nodes at to t last begun_at inside read whole ends
    (omega (arith, t.few))
    (theirs_more stack (length nodes) (length (nodes_with_token Role.key kind at nodes to)) (omega arith) t.theirs)

-- Words, texts and numbers.
module _ (bytes : List ℕ) (role : Role) (kind : Kind) (stack : List Open) (nodes : List Node) (at : ℕ) where
  pub word_bad : (word : List ℕ) (to : ℕ) → Takes bytes stack nodes at
      (λ room. state_in_token role kind (in_word word) stack nodes at) → WordEnds word bytes (at + 1) (Err to) → IsBad bytes to
  word_bad word to t (begun_at, inside, rest, read, still, ends) =
      token_bad bytes role kind (in_word word) stack nodes at to t (in_word rest) begun_at inside
      (word_token word rest (slice_range bytes (at + 1) to) read) still
      (λ below. ap of_word (ends below))

  pub text_bad : (to : ℕ) → Takes bytes stack nodes at (λ room. state_in_token role kind (in_text Inner.plain) stack nodes at)
      → TextEnds Inner.plain Inner.closed bytes (at + 1) (Err to) → IsBad bytes to
  text_bad to t (begun_at, inside, inner, read, still, ends) =
      token_bad bytes role kind (in_text Inner.plain) stack nodes at to t (in_text inner) begun_at inside
      (text_token Inner.plain inner (slice_range bytes (at + 1) to) read) still
      (λ below. ap of_text (ends below))

pub word_reached : (bytes : List ℕ) (kind : Kind) (word : List ℕ) (stack : List Open) (nodes : List Node) (at to : ℕ)
    → Takes bytes stack nodes at (λ room. state_in_token Role.value kind (in_word word) stack nodes at)
    → WordEnds word bytes (at + 1) (Ok to) → Reached bytes places.Behind stack (nodes_with_token Role.value kind at nodes to) to
word_reached bytes kind word stack nodes at to t (begun_at, inside, read) =
    value_reached bytes kind (in_word word) (in_word []) stack nodes at to t begun_at inside
    (word_token word [] (slice_range bytes (at + 1) to) read) refl (λ below. refl)

pub text_reached : (bytes : List ℕ) (kind : Kind) (stack : List Open) (nodes : List Node) (at to : ℕ)
    → Takes bytes stack nodes at (λ room. state_in_token Role.value kind (in_text Inner.plain) stack nodes at)
    → TextEnds Inner.plain Inner.closed bytes (at + 1) (Ok to)
    → Reached bytes places.Behind stack (nodes_with_token Role.value kind at nodes to) to
text_reached bytes kind stack nodes at to t (begun_at, inside, read) =
    value_reached bytes kind (in_text Inner.plain) (in_text Inner.closed) stack nodes at to t begun_at inside
    (text_token Inner.plain Inner.closed (slice_range bytes (at + 1) to) read) refl (λ below. refl)

pub quoted_key_reached : (bytes : List ℕ) (kind : Kind) (stack : List Open) (nodes : List Node) (at to : ℕ)
    → Takes bytes stack nodes at (λ room. state_in_token Role.key kind (in_text Inner.plain) stack nodes at)
    → TextEnds Inner.plain Inner.closed bytes (at + 1) (Ok to)
    → Reached bytes places.Colon stack (nodes_with_token Role.key kind at nodes to) to
quoted_key_reached bytes kind stack nodes at to t (begun_at, inside, read) =
    key_reached bytes kind (in_text Inner.plain) (in_text Inner.closed) stack nodes at to t begun_at inside
    (text_token Inner.plain Inner.closed (slice_range bytes (at + 1) to) read) refl (λ below. refl)

pub number_reached : (bytes : List ℕ) (kind : Kind) (first last : NumberPlace) (stack : List Open) (nodes : List Node)
    (at to : ℕ) → Takes bytes stack nodes at (λ room. state_in_token Role.value kind (in_number first) stack nodes at)
    → at + 1 ≤ to → to ≤ length bytes → run number_step first (slice_range bytes (at + 1) to) ≡ Some last
    → is_last_place last ≡ true → (to < length bytes → number_step last (slice_index bytes to) ≡ None)
    → Reached bytes places.Behind stack (nodes_with_token Role.value kind at nodes to) to
number_reached bytes kind first last stack nodes at to t begun_at inside read whole ends =
    value_reached bytes kind (in_number first) (in_number last) stack nodes at to t begun_at inside
    (number_token first last (slice_range bytes (at + 1) to) read) whole (λ below. ap of_number (ends below))

pub number_bad : (bytes : List ℕ) (kind : Kind) (first last : NumberPlace) (stack : List Open) (nodes : List Node)
    (at to : ℕ) → Takes bytes stack nodes at (λ room. state_in_token Role.value kind (in_number first) stack nodes at)
    → at + 1 ≤ to → to ≤ length bytes → run number_step first (slice_range bytes (at + 1) to) ≡ Some last
    → is_last_place last ≡ false → (to < length bytes → number_step last (slice_index bytes to) ≡ None)
    → IsBad bytes to
number_bad bytes kind first last stack nodes at to t begun_at inside read still ends =
    token_bad bytes Role.value kind (in_number first) stack nodes at to t (in_number last) begun_at inside
    (number_token first last (slice_range bytes (at + 1) to) read) still (λ below. ap of_number (ends below))

-- Brackets and commas.

-- a full stack has room for one bracket at one level more
full_opened : (bracket : Bracket) (stack : List Open) (nodes : List Node) (at : ℕ) → DEEPEST ≤ length stack
    → length stack ≤ DEEPEST
    → (state_at_open (up_to DEEPEST) bracket stack nodes at ≡ None)
    × ((more : State) × (state_at_open (up_to (DEEPEST + 1)) bracket stack nodes at ≡ Some more))
full_opened bracket stack nodes at full shallow = (
  rw (le-ltb (length stack) DEEPEST full) refl,
  (
    state (stand (first_place bracket)) (opened_one bracket (length nodes) at ∷ stack)
        (nodes ++ node (bracket_kind bracket) at 0 0 ∷ []) (at + 1),
    rw (lt-ltb (length stack) (DEEPEST + 1) (omega arith)) refl,
  ),
)

pub open_deep : (bytes : List ℕ) (bracket : Bracket) (stack : List Open) (nodes : List Node) (at : ℕ)
    → Takes bytes stack nodes at (λ room. state_at_open room bracket stack nodes at) → DEEPEST ≤ length stack → IsDeep bytes at
open_deep bytes bracket stack nodes at t full =
    let both = full_opened bracket stack nodes at full t.shallow in
    takes_deep bytes stack nodes at (λ room. state_at_open room bracket stack nodes at) t both.0 both.1.0 both.1.1

pub open_reached : (bytes : List ℕ) (bracket : Bracket) (stack : List Open) (nodes : List Node) (at : ℕ)
    → Takes bytes stack nodes at (λ room. state_at_open room bracket stack nodes at) → length stack < DEEPEST
    → Reached bytes (first_place bracket) (opened_one bracket (length nodes) at ∷ stack)
    (nodes ++ node (bracket_kind bracket) at 0 0 ∷ []) (at + 1)
open_reached bytes bracket stack nodes at t room_left =
    let long : length (nodes ++ node (bracket_kind bracket) at 0 0 ∷ []) ≡ length nodes + 1 =
    length_push nodes (node (bracket_kind bracket) at 0 0) in
    takes_stand bytes stack nodes at (λ room. state_at_open room bracket stack nodes at) t (first_place bracket)
    (opened_one bracket (length nodes) at ∷ stack) (nodes ++ node (bracket_kind bracket) at 0 0 ∷ [])
    (rw (lt-ltb (length stack) DEEPEST room_left) refl) (omega (arith, t.few)) (omega arith) (
      omega arith,
      theirs_more stack (length nodes) (length (nodes ++ node (bracket_kind bracket) at 0 0 ∷ []))
          (omega arith) t.theirs,
    )

pub close_reached : (bytes : List ℕ) (bracket : Bracket) (stack : List Open) (nodes : List Node) (at : ℕ) (one : Open)
    (outer : List Open) → stack ≡ one ∷ outer → same_bracket bracket one.bracket ≡ true
    → Takes bytes stack nodes at (λ room. closed_one bracket stack nodes at)
    → Reached bytes places.Behind outer (nodes_at_close one nodes at) (at + 1)
close_reached bytes bracket stack nodes at one outer top same t =
    let long : length (nodes_at_close one nodes at) ≡ length nodes =
    length-set nodes one.node (node (bracket_kind one.bracket) one.start (at + 1) (length nodes)) in
    let deep : length stack ≡ suc (length outer) = ap length top in
    let all : AllByRecursion (λ (o : Open). o.node < length nodes) (one ∷ outer) =
    subst (AllByRecursion (λ (o : Open). o.node < length nodes)) top t.theirs in
    takes_stand bytes stack nodes at (λ room. closed_one bracket stack nodes at) t places.Behind outer
    (nodes_at_close one nodes at)
    (ap (λ (s : List Open). closed_one bracket s nodes at) top ∙ rw same refl) (omega (arith, t.few))
    (omega (arith, t.shallow))
    (theirs_more outer (length nodes) (length (nodes_at_close one nodes at)) (omega arith) all.1)

pub close_other : (bytes : List ℕ) (bracket : Bracket) (stack : List Open) (nodes : List Node) (at : ℕ) (one : Open)
    (outer : List Open) → stack ≡ one ∷ outer → same_bracket bracket one.bracket ≡ false
    → Takes bytes stack nodes at (λ room. closed_one bracket stack nodes at) → IsBad bytes at
close_other bytes bracket stack nodes at one outer top other t =
    takes_bad bytes stack nodes at (λ room. closed_one bracket stack nodes at) t
    (ap (λ (s : List Open). closed_one bracket s nodes at) top ∙ rw other refl)

pub close_none : (bytes : List ℕ) (bracket : Bracket) (stack : List Open) (nodes : List Node) (at : ℕ) → stack ≡ []
    → Takes bytes stack nodes at (λ room. closed_one bracket stack nodes at) → IsBad bytes at
close_none bytes bracket stack nodes at top t =
    takes_bad bytes stack nodes at (λ room. closed_one bracket stack nodes at) t
    (ap (λ (s : List Open). closed_one bracket s nodes at) top)

pub separate_reached : (bytes : List ℕ) (stack : List Open) (nodes : List Node) (at : ℕ) (one : Open)
    (outer : List Open) → stack ≡ one ∷ outer
    → Takes bytes stack nodes at (λ room. state_at_comma stack nodes at)
    → Reached bytes (next_wanted one.bracket) stack nodes (at + 1)
separate_reached bytes stack nodes at one outer top t =
    takes_stand bytes stack nodes at (λ room. state_at_comma stack nodes at) t (next_wanted one.bracket) stack nodes
    (ap (λ (s : List Open). state_at_comma s nodes at) top
    ∙ ap (λ (s : List Open). Some (state (stand (next_wanted one.bracket)) s nodes (at + 1))) (sym top))
    (omega (arith, t.few)) t.shallow t.theirs

pub separate_none : (bytes : List ℕ) (stack : List Open) (nodes : List Node) (at : ℕ) → stack ≡ []
    → Takes bytes stack nodes at (λ room. state_at_comma stack nodes at) → IsBad bytes at
separate_none bytes stack nodes at top t =
    takes_bad bytes stack nodes at (λ room. state_at_comma stack nodes at) t
    (ap (λ (s : List Open). state_at_comma s nodes at) top)

-- bytes that may not come
pub value_none : (sign : Sign) → (sign ≡ signs.Quote → ⊥) → ((bracket : Bracket) → sign ≡ signs.Opening bracket → ⊥)
    → (sign ≡ signs.Minus → ⊥) → (sign ≡ signs.Zero → ⊥) → (sign ≡ signs.Digit → ⊥)
    → ((word : Word) → sign ≡ signs.Letter word → ⊥)
    → (room : ℕ → Bool) (stack : List Open) (nodes : List Node) (at : ℕ) → value_step room stack nodes at sign ≡ None
value_none signs.Quote a b c d e f room stack nodes at = absurd (a refl)
value_none (signs.Opening bracket) a b c d e f room stack nodes at = absurd (b bracket refl)
value_none signs.Minus a b c d e f room stack nodes at = absurd (c refl)
value_none signs.Zero a b c d e f room stack nodes at = absurd (d refl)
value_none signs.Digit a b c d e f room stack nodes at = absurd (e refl)
value_none (signs.Letter word) a b c d e f room stack nodes at = absurd (f word refl)
value_none sign a b c d e f room stack nodes at = refl

pub behind_none : (sign : Sign) → IsBlack sign → (sign ≡ signs.Comma → ⊥)
    → ((bracket : Bracket) → sign ≡ signs.Closing bracket → ⊥)
    → (room : ℕ → Bool) (stack : List Open) (nodes : List Node) (at : ℕ)
    → stand_step room places.Behind stack nodes at sign ≡ None
behind_none signs.Comma black a b room stack nodes at = absurd (a refl)
behind_none (signs.Closing bracket) black a b room stack nodes at = absurd (b bracket refl)
behind_none signs.Blank black a b room stack nodes at = absurd black
behind_none sign black a b room stack nodes at = refl

pub colon_none : (sign : Sign) → IsBlack sign → (sign ≡ signs.Colon → ⊥)
    → (room : ℕ → Bool) (stack : List Open) (nodes : List Node) (at : ℕ)
    → stand_step room places.Colon stack nodes at sign ≡ None
colon_none signs.Colon black a room stack nodes at = absurd (a refl)
colon_none signs.Blank black a room stack nodes at = absurd black
colon_none sign black a room stack nodes at = refl

pub key_none : (sign : Sign) → IsBlack sign → (sign ≡ signs.Quote → ⊥)
    → (room : ℕ → Bool) (stack : List Open) (nodes : List Node) (at : ℕ)
    → stand_step room places.Key stack nodes at sign ≡ None
key_none signs.Quote black a room stack nodes at = absurd (a refl)
key_none signs.Blank black a room stack nodes at = absurd black
key_none sign black a room stack nodes at = refl

pub first_key_none : (sign : Sign) → IsBlack sign → (sign ≡ signs.Quote → ⊥)
    → ((bracket : Bracket) → sign ≡ signs.Closing bracket → ⊥)
    → (room : ℕ → Bool) (stack : List Open) (nodes : List Node) (at : ℕ)
    → stand_step room places.FirstKey stack nodes at sign ≡ None
first_key_none signs.Quote black a b room stack nodes at = absurd (a refl)
first_key_none (signs.Closing bracket) black a b room stack nodes at = absurd (b bracket refl)
first_key_none signs.Blank black a b room stack nodes at = absurd black
first_key_none sign black a b room stack nodes at = refl

pub takes_so : (bytes : List ℕ) (stack : List Open) (nodes : List Node) (at : ℕ) (next more : (ℕ → Bool) → Option State)
    → ((room : ℕ → Bool) → next room ≡ more room) → Takes bytes stack nodes at next → Takes bytes stack nodes at more
takes_so bytes stack nodes at next more same t = grind (arith)

pub blank_stands : (place : Expectation) (room : ℕ → Bool) (stack : List Open) (nodes : List Node) (at : ℕ)
    → stand_step room place stack nodes at signs.Blank ≡ blank_step place stack nodes at
blank_stands places.Value room stack nodes at = refl
blank_stands _ room stack nodes at = refl

-- the start, and a byte order mark
no_mark : (sign : Sign) (byte : ℕ) → HasSign sign byte → (byte ≡ 239 → ⊥) → IsNoMark sign
no_mark signs.First byte is other = absurd (other is)
no_mark sign byte is other = tt

pub start_reached : (bytes : List ℕ) → (0 < length bytes → slice_index bytes 0 ≡ 239 → ⊥)
    → Reached bytes places.Value [] [] 0
start_reached bytes other = record {
  now = start;
  was = refl;
  shows = record {
    acts = λ inside room. begin_other room (byte_sign (slice_index bytes 0))
        (no_mark (byte_sign (slice_index bytes 0)) (slice_index bytes 0) (has_sign (slice_index bytes 0))
        (other inside)) [] [] 0;
    last = (λ h. h, λ h. h);
    stack_is = refl;
    seen_is = refl;
  };
  inside = omega arith;
  few = omega arith;
  shallow = omega arith;
  theirs = tt;
}

mark_takes : (bytes : List ℕ) → 0 < length bytes → slice_index bytes 0 ≡ 239
    → Takes bytes [] [] 0 (λ room. state_in_token Role.mark kinds.Null (in_word mark_rest) [] [] 0)
mark_takes bytes inside first = record {
  now = start;
  was = refl;
  takes = λ room. ap (λ (b : ℕ). begin_step room [] [] 0 (byte_sign b)) first;
  inside = inside;
  few = omega arith;
  shallow = omega arith;
  theirs = tt;
}

pub mark_reached : (bytes : List ℕ) → 0 < length bytes → slice_index bytes 0 ≡ 239 → (to : ℕ)
    → WordEnds mark_rest bytes 1 (Ok to) → Reached bytes places.Value [] [] to
mark_reached bytes inside first to (begun_at, within_bytes, read) =
    token_reached bytes Role.mark kinds.Null (in_word mark_rest) [] [] 0 to (mark_takes bytes inside first) (in_word [])
    (omega arith) within_bytes
    (word_token mark_rest [] (slice_range bytes 1 to) read) refl (λ below. refl) (omega arith) tt

pub mark_bad : (bytes : List ℕ) → 0 < length bytes → slice_index bytes 0 ≡ 239 → (to : ℕ)
    → WordEnds mark_rest bytes 1 (Err to) → IsBad bytes to
mark_bad bytes inside first to ends = word_bad bytes Role.mark kinds.Null [] [] 0 mark_rest to
    (mark_takes bytes inside first) ends

-- the end
pub end_read : (bytes : List ℕ) (place : Expectation) (stack : List Open) (nodes : List Node) (at : ℕ)
    → Reached bytes place stack nodes at → length bytes ≤ at → IsBehind place → stack ≡ []
    → (whole : Whole) × IsWhole DEEPEST whole bytes × (nodes ≡ whole_nodes whole)
end_read bytes place stack nodes at r past behind none = grind (arith, take_all, read_whole)

pub end_bad : (bytes : List ℕ) (place : Expectation) (stack : List Open) (nodes : List Node) (at : ℕ)
    → Reached bytes place stack nodes at → length bytes ≤ at → (IsBehind place × (stack ≡ []) → ⊥) → IsBad bytes at
end_bad bytes place stack nodes at r past open_still =
    let same : length bytes ≡ at = omega (arith, r.inside) in
    subst (IsBad bytes) same (bad_at_end bytes at r.now r.was past
    (λ end. open_still (r.shows.last.0 end.last, sym r.shows.stack_is ∙ end.all_closed)))
