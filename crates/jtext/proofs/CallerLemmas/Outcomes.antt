-- Any bytes are a text of the allowed depth, or have one of the faults.
use Rattle.std.proofs.Common.{◌≡◌, ◌≢◌, ℕ, zero, suc, ◌+◌, ◌<◌, ◌≤◌, ◌⊎◌, inl, inr, List, [], ◌∷◌, length, take, Bool}
use Rattle.std.proofs.Common.{true, false, refl, ◌∙◌, arith, subst}
use Rattle.std.specs.Prelude.{Option, Some, None, if◌then◌else◌, nat_lt, slice_index}
use Rattle.std.proofs.lemmas.Bool.{ltb-true, lt-ltb}
use Rattle.std.proofs.lemmas.Option.{none-some, same_Some}
use Rattle.std.proofs.lemmas.List.{take_all}
use Rattle.text_places.specs.Machine.{run}
use Rattle.jtext.specs.Texts.{HasOutcome}
use Rattle.jtext.specs.InsideStates.{Token, Role, Phase, stand, within, State, start}
use Rattle.jtext.specs.InsideStates.{state_at_open}
use Rattle.jtext.specs.InsideStates.{closed_one, state_at_comma, same_bracket, value_step, stand_step, begin_step}
use Rattle.jtext.specs.InsideStates.{place_behind}
use Rattle.jtext.specs.InsideStates.{token_or, step, up_to, anywhere, IsLast, IsEnd}
use Rattle.jtext.specs.declared.document.Kind.{Kind}
use Rattle.jtext.specs.declared.document.Node.{Node}
use Rattle.jtext.specs.declared.signs.Bracket.{Bracket}
use Rattle.jtext.specs.declared.signs.Sign.{Sign}
use Rattle.jtext.specs.declared.signs.Sign.TheVariants as signs
use Rattle.jtext.specs.declared.stack.Open.{Open}
use Rattle.jtext.specs.declared.steps.Expectation.{Expectation}
use Rattle.jtext.specs.declared.steps.Expectation.TheVariants as places
use Rattle.jtext.specs.declared.json_texts.TheConstants.{DEEPEST}
use Rattle.jtext.proofs.Grammar.Passes.{one_more, bad_at, bad_at_end, deep_at, read_whole}

-- ---- a step that is taken leaves no more open than there may be
kept : (made next : State) → length made.stack ≤ DEEPEST → Some made ≡ Some next → length next.stack ≤ DEEPEST
kept made next small h = subst (λ (s : State). length s.stack ≤ DEEPEST) (same_Some made next h) small

chosen_kept : (test : Bool) (made next : State) → (test ≡ true → length made.stack ≤ DEEPEST)
    → (if test then Some made else None) ≡ Some next → length next.stack ≤ DEEPEST
chosen_kept true made next small h = kept made next (small refl) h
chosen_kept false made next small h = absurd (none-some next h)

opened_kept : (bracket : Bracket) (stack : List Open) (nodes : List Node) (at : ℕ) (next : State)
    → state_at_open (up_to DEEPEST) bracket stack nodes at ≡ Some next → length next.stack ≤ DEEPEST
opened_kept bracket stack nodes at next h =
    chosen_kept (nat_lt (length stack) DEEPEST) _ next (λ room. omega (arith, ltb-true (length stack) DEEPEST room)) h

closed_kept : (bracket : Bracket) (stack : List Open) (nodes : List Node) (at : ℕ) (next : State)
    → length stack ≤ DEEPEST → closed_one bracket stack nodes at ≡ Some next → length next.stack ≤ DEEPEST
closed_kept bracket [] nodes at next small h = absurd (none-some next h)
closed_kept bracket (one ∷ outer) nodes at next small h =
    chosen_kept (same_bracket bracket one.bracket) _ next (λ same. omega (arith, small)) h

separated_kept : (stack : List Open) (nodes : List Node) (at : ℕ) (next : State) → length stack ≤ DEEPEST
    → state_at_comma stack nodes at ≡ Some next → length next.stack ≤ DEEPEST
separated_kept [] nodes at next small h = absurd (none-some next h)
separated_kept (one ∷ outer) nodes at next small h = kept _ next small h

value_kept : (sign : Sign) (stack : List Open) (nodes : List Node) (at : ℕ) (next : State) → length stack ≤ DEEPEST
    → value_step (up_to DEEPEST) stack nodes at sign ≡ Some next → length next.stack ≤ DEEPEST
value_kept signs.Quote stack nodes at next small h = kept _ next small h
value_kept (signs.Opening bracket) stack nodes at next small h = opened_kept bracket stack nodes at next h
value_kept signs.Minus stack nodes at next small h = kept _ next small h
value_kept signs.Zero stack nodes at next small h = kept _ next small h
value_kept signs.Digit stack nodes at next small h = kept _ next small h
value_kept (signs.Letter word) stack nodes at next small h = kept _ next small h
value_kept sign stack nodes at next small h = absurd (none-some next h)

stand_kept : (place : Expectation) (sign : Sign) (stack : List Open) (nodes : List Node) (at : ℕ) (next : State)
    → length stack ≤ DEEPEST → stand_step (up_to DEEPEST) place stack nodes at sign ≡ Some next
    → length next.stack ≤ DEEPEST
stand_kept places.Value signs.Blank stack nodes at next small h = kept _ next small h
stand_kept places.Value sign stack nodes at next small h = value_kept sign stack nodes at next small h
stand_kept places.FirstElement signs.Blank stack nodes at next small h = kept _ next small h
stand_kept places.FirstElement (signs.Closing bracket) stack nodes at next small h =
    closed_kept bracket stack nodes at next small h
stand_kept places.FirstElement sign stack nodes at next small h = value_kept sign stack nodes at next small h
stand_kept places.FirstKey signs.Blank stack nodes at next small h = kept _ next small h
stand_kept places.FirstKey signs.Quote stack nodes at next small h = kept _ next small h
stand_kept places.FirstKey (signs.Closing bracket) stack nodes at next small h =
    closed_kept bracket stack nodes at next small h
stand_kept places.Key signs.Blank stack nodes at next small h = kept _ next small h
stand_kept places.Key signs.Quote stack nodes at next small h = kept _ next small h
stand_kept places.Colon signs.Blank stack nodes at next small h = kept _ next small h
stand_kept places.Colon signs.Colon stack nodes at next small h = kept _ next small h
stand_kept places.Behind signs.Blank stack nodes at next small h = kept _ next small h
stand_kept places.Behind signs.Comma stack nodes at next small h = separated_kept stack nodes at next small h
stand_kept places.Behind (signs.Closing bracket) stack nodes at next small h =
    closed_kept bracket stack nodes at next small h
stand_kept place sign stack nodes at next small h = absurd (none-some next h)

begin_kept : (sign : Sign) (stack : List Open) (nodes : List Node) (at : ℕ) (next : State) → length stack ≤ DEEPEST
    → begin_step (up_to DEEPEST) stack nodes at sign ≡ Some next → length next.stack ≤ DEEPEST
begin_kept signs.First stack nodes at next small h = kept _ next small h
begin_kept sign stack nodes at next small h = stand_kept places.Value sign stack nodes at next small h

within_kept : (role : Role) (kind : Kind) (from : ℕ) (stack : List Open) (nodes ended : List Node) (at : ℕ)
    (sign : Sign) (next : State) (token : Option Token) (whole : Bool)
    → length stack ≤ DEEPEST
    → token_or token role kind from stack nodes at
    (if whole then stand_step (up_to DEEPEST) (place_behind role) stack ended at sign else None) ≡ Some next
    → length next.stack ≤ DEEPEST
within_kept role kind from stack nodes ended at sign next (Some token) whole small h = kept _ next small h
within_kept role kind from stack nodes ended at sign next None true small h =
    stand_kept (place_behind role) sign stack ended at next small h
within_kept role kind from stack nodes ended at sign next None false small h = absurd (none-some next h)

step_kept : (s : State) (byte : ℕ) (next : State) → length s.stack ≤ DEEPEST → step (up_to DEEPEST) s byte ≡ Some next
    → length next.stack ≤ DEEPEST
step_kept s byte next = grind (arith, begin_kept, stand_kept, within_kept)

-- ---- a step that is refused is refused at any depth, or one level more allows it
abbrev IsRefused : Option State → Option State → Type 0
IsRefused at_any deeper = (at_any ≡ None) ⊎ ((next : State) × (deeper ≡ Some next))

chosen_goes : (test : Bool) (made : State) → test ≡ true → (if test then Some made else None) ≡ Some made
chosen_goes test made holds = rw holds refl

opened_refused : (bracket : Bracket) (stack : List Open) (nodes : List Node) (at : ℕ) → length stack ≤ DEEPEST
    → IsRefused (state_at_open anywhere bracket stack nodes at) (state_at_open (up_to (DEEPEST + 1)) bracket stack nodes at)
opened_refused bracket stack nodes at small =
    inr (
      _,
      chosen_goes (nat_lt (length stack) (DEEPEST + 1)) _
          (lt-ltb (length stack) (DEEPEST + 1) (omega (arith, small))),
    )

stand_refused : (place : Expectation) (sign : Sign) (stack : List Open) (nodes : List Node) (at : ℕ) → length stack ≤ DEEPEST
    → stand_step (up_to DEEPEST) place stack nodes at sign ≡ None
    → IsRefused (stand_step anywhere place stack nodes at sign)
    (stand_step (up_to (DEEPEST + 1)) place stack nodes at sign)
stand_refused places.Value (signs.Opening bracket) stack nodes at small h = opened_refused bracket stack nodes at small
stand_refused places.FirstElement (signs.Opening bracket) stack nodes at small h =
    opened_refused bracket stack nodes at small
stand_refused place sign stack nodes at small h = inl h

begin_refused : (sign : Sign) (stack : List Open) (nodes : List Node) (at : ℕ) → length stack ≤ DEEPEST
    → begin_step (up_to DEEPEST) stack nodes at sign ≡ None
    → IsRefused (begin_step anywhere stack nodes at sign) (begin_step (up_to (DEEPEST + 1)) stack nodes at sign)
begin_refused (signs.Opening bracket) stack nodes at small h = opened_refused bracket stack nodes at small
begin_refused sign stack nodes at small h = inl h

within_refused : (role : Role) (kind : Kind) (from : ℕ) (stack : List Open) (nodes ended : List Node) (at : ℕ)
    (sign : Sign) (token : Option Token) (whole : Bool)
    → length stack ≤ DEEPEST
    → token_or token role kind from stack nodes at
    (if whole then stand_step (up_to DEEPEST) (place_behind role) stack ended at sign else None) ≡ None
    → IsRefused (token_or token role kind from stack nodes at
    (if whole then stand_step anywhere (place_behind role) stack ended at sign else None))
    (token_or token role kind from stack nodes at
    (if whole then stand_step (up_to (DEEPEST + 1)) (place_behind role) stack ended at sign else None))
within_refused role kind from stack nodes ended at sign (Some token) whole small h = inl h
within_refused role kind from stack nodes ended at sign None true small h =
    stand_refused (place_behind role) sign stack ended at small h
within_refused role kind from stack nodes ended at sign None false small h = inl h

step_refused : (s : State) (byte : ℕ) → length s.stack ≤ DEEPEST → step (up_to DEEPEST) s byte ≡ None
    → IsRefused (step anywhere s byte) (step (up_to (DEEPEST + 1)) s byte)
step_refused s byte = grind (arith, begin_refused, stand_refused, within_refused)

-- ---- whether a text may end in a state
last_or : (phase : Phase) → IsLast phase ⊎ (IsLast phase → ⊥)
last_or (stand places.Behind) = inl tt
last_or (within Role.value kind from token) = grind (arith)
last_or phase = inr (λ h. h)

closed_or : (stack : List Open) → (stack ≡ []) ⊎ (stack ≢ [])
closed_or [] = inl refl
closed_or (one ∷ outer) = inr (λ same. cc)

end_or : (s : State) → IsEnd s ⊎ (IsEnd s → ⊥)
end_or s = by (last_or s.phase) (closed_or s.stack)
  where
    by : IsLast s.phase ⊎ (IsLast s.phase → ⊥) → (s.stack ≡ []) ⊎ (s.stack ≢ []) → IsEnd s ⊎ (IsEnd s → ⊥)
    by (inl last) (inl closed) = inl (record { last = last; all_closed = closed })
    by (inl last) (inr open_still) = inr (λ end. open_still end.all_closed)
    by (inr other) closed = inr (λ end. other end.last)

-- ---- the outcome
at_end : (text : List ℕ) (s : State) → run (step (up_to DEEPEST)) start (take (length text) text) ≡ Some s
    → HasOutcome text
at_end text s was = by (end_or s)
  where
    by : IsEnd s ⊎ (IsEnd s → ⊥) → HasOutcome text
    by (inl ends) = grind (arith, read_whole, take_all)
    by (inr other) = inr (inl (length text, bad_at_end text (length text) s was (omega arith) other))

goes_on : (text : List ℕ) (left place : ℕ) (s : State) → place + left ≡ length text → length s.stack ≤ DEEPEST
    → run (step (up_to DEEPEST)) start (take place text) ≡ Some s → HasOutcome text
goes_on text zero place s size small was =
    let all : place ≡ length text = omega (arith, size) in
    at_end text s (subst (λ (n : ℕ). run (step (up_to DEEPEST)) start (take n text) ≡ Some s) all was)
goes_on text (suc left) place s size small was =
    by (λ next below read. goes_on text left (place + 1) next (omega (arith, size)) below read)
    (step (up_to DEEPEST) s (slice_index text place)) refl
  where
    inside : place < length text
    inside = omega (arith, size)

    by : ((next : State) → length next.stack ≤ DEEPEST
        → run (step (up_to DEEPEST)) start (take (place + 1) text) ≡ Some next → HasOutcome text)
        → (next : Option State) → step (up_to DEEPEST) s (slice_index text place) ≡ next → HasOutcome text
    by on None refused = elim (step_refused s (slice_index text place) small refused) [
      | inl never ↦ inr (inl (place, bad_at text place s was inside never))
      | inr deeper ↦ inr (inr (place, deep_at text place s was inside refused deeper.0 deeper.1))
    ]
    by on (Some next) goes =
        on next (step_kept s (slice_index text place) next small goes)
        (one_more (up_to DEEPEST) text place s inside was ∙ goes)

pub outcome : (text : List ℕ) → HasOutcome text
outcome text = goes_on text (length text) 0 start (omega arith) (omega arith) refl
