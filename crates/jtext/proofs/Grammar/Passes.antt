-- The pass recognizes the texts of each depth, and refuses others at their faults.
use Rattle.std.proofs.Common.{◌≡◌, ℕ, ◌+◌, ◌<◌, ◌≤◌, ◌⊎◌, inl, inr, List, length, take, get_or, Bool, true, false, refl}
use Rattle.std.proofs.Common.{sym, ap, ◌∙◌, arith, subst}
use Rattle.std.specs.Prelude.{Option, Some, None, if◌then◌else◌, slice_index}
use Rattle.std.proofs.lemmas.Bool.{ltb-true, lt-ltb}
use Rattle.std.proofs.lemmas.Option.{none-some, same_Some}
use Rattle.std.proofs.lemmas.List.{take_all, take_more}
use Rattle.text_places.specs.Machine.{run}
use Rattle.text_places.specs.Places.{Begins}
use Rattle.text_places.proofs.Runs.{run_next, run_follows}
use Rattle.text_places.proofs.Machines.{Recognizes, begins_read, refused_at, unfinished, fault_at}
use Rattle.jtext.specs.Texts.{Whole, IsWhole, IsText, IsAnyText, IsBad, IsDeep}
use Rattle.jtext.specs.Places.{whole_nodes}
use Rattle.jtext.specs.InsideSigns.{byte_sign}
use Rattle.jtext.specs.InsideStates.{Token, token_step, is_whole, Role, Phase, begin, stand, within, State, start}
use Rattle.jtext.specs.InsideStates.{state_at_open}
use Rattle.jtext.specs.InsideStates.{stand_step, begin_step, place_behind, nodes_with_token, token_or, phase_step, step}
use Rattle.jtext.specs.InsideStates.{nodes_so_far}
use Rattle.jtext.specs.InsideStates.{up_to}
use Rattle.jtext.specs.InsideStates.{anywhere, IsEnd}
use Rattle.jtext.specs.declared.document.Kind.{Kind}
use Rattle.jtext.specs.declared.document.Node.{Node}
use Rattle.jtext.specs.declared.signs.Bracket.{Bracket}
use Rattle.jtext.specs.declared.signs.Sign.{Sign}
use Rattle.jtext.specs.declared.signs.Sign.TheVariants as signs
use Rattle.jtext.specs.declared.stack.Open.{Open}
use Rattle.jtext.specs.declared.steps.Expectation.{Expectation}
use Rattle.jtext.specs.declared.steps.Expectation.TheVariants as places
use Rattle.jtext.specs.declared.json_texts.TheConstants.{DEEPEST}
use Rattle.jtext.proofs.Grammar.WholeTexts.{whole_read, rests_end}
use Rattle.jtext.proofs.Grammar.CanEnd.{can_end}
use Rattle.jtext.proofs.Grammar.Sound.{only_texts}

text_read : (room : ℕ → Bool) (depth : ℕ) → ((count : ℕ) → count < depth → room count ≡ true) → (text : List ℕ)
    → IsText depth text
    → (last : State) × (run (step room) start text ≡ Some last) × IsEnd last
text_read room depth fits text (whole, is) =
    let (t, was, rests) = whole_read room depth fits whole text
    is in (t, was, rests_end (whole_nodes whole) (length text) t rests)

recognizes : (limit : ℕ) → Recognizes (IsText limit) (step (up_to limit)) start IsEnd
recognizes limit = record {
  reads = λ text is. text_read (up_to limit) limit (λ count below. lt-ltb count limit below) text is;
  only = only_texts limit;
  ending = can_end (up_to limit);
}

any_read : (text : List ℕ) → IsAnyText text → (last : State) × (run (step anywhere) start text ≡ Some last) × IsEnd last
any_read text (depth, is) = text_read anywhere depth (λ count below. refl) text is

-- with more room the same steps are taken
module _ (room wider : ℕ → Bool) (more : (count : ℕ) → room count ≡ true → wider count ≡ true) where
  chosen_follows : (test test' : Bool) → (test ≡ true → test' ≡ true) → (opens next : State)
      → (if test then Some opens else None) ≡ Some next → (if test' then Some opens else None) ≡ Some next
  chosen_follows true test' holds opens next h = rw (holds refl) h
  chosen_follows false test' holds opens next h = absurd (none-some next h)

  opened_follows : (bracket : Bracket) (stack : List Open) (nodes : List Node) (at : ℕ) (next : State)
      → state_at_open room bracket stack nodes at ≡ Some next → state_at_open wider bracket stack nodes at ≡ Some next
  opened_follows bracket stack nodes at next h =
      chosen_follows (room (length stack)) (wider (length stack)) (more (length stack)) _ next h

  stand_follows : (place : Expectation) (sign : Sign) (stack : List Open) (nodes : List Node) (at : ℕ) (next : State)
      → stand_step room place stack nodes at sign ≡ Some next → stand_step wider place stack nodes at sign ≡ Some next
  stand_follows places.Value (signs.Opening bracket) stack nodes at next h =
      opened_follows bracket stack nodes at next h
  stand_follows places.FirstElement (signs.Opening bracket) stack nodes at next h =
      opened_follows bracket stack nodes at next h
  stand_follows place sign stack nodes at next h = h

  begin_follows : (sign : Sign) (stack : List Open) (nodes : List Node) (at : ℕ) (next : State)
      → begin_step room stack nodes at sign ≡ Some next → begin_step wider stack nodes at sign ≡ Some next
  begin_follows (signs.Opening bracket) stack nodes at next h = opened_follows bracket stack nodes at next h
  begin_follows sign stack nodes at next h = h

  within_follows : (role : Role) (kind : Kind) (from : ℕ) (stack : List Open) (nodes ended : List Node) (at : ℕ)
      (sign : Sign) (next : State) (token : Option Token) (whole : Bool)
      → token_or token role kind from stack nodes at
      (if whole then stand_step room (place_behind role) stack ended at sign else None) ≡ Some next
      → token_or token role kind from stack nodes at
      (if whole then stand_step wider (place_behind role) stack ended at sign else None) ≡ Some next
  within_follows role kind from stack nodes ended at sign next (Some token) whole h = h
  within_follows role kind from stack nodes ended at sign next None true h =
      stand_follows (place_behind role) sign stack ended at next h
  within_follows role kind from stack nodes ended at sign next None false h = h

  phase_follows : (phase : Phase) (stack : List Open) (nodes : List Node) (at byte : ℕ) (next : State)
      → phase_step room phase stack nodes at byte ≡ Some next → phase_step wider phase stack nodes at byte ≡ Some next
  phase_follows begin stack nodes at byte next h = begin_follows (byte_sign byte) stack nodes at next h
  phase_follows (stand place) stack nodes at byte next h = stand_follows place (byte_sign byte) stack nodes at next h
  phase_follows (within role kind from token) stack nodes at byte next h =
      within_follows role kind from stack nodes (nodes_with_token role kind from nodes at) at (byte_sign byte) next
      (token_step token byte) (is_whole token) h

  read_follows : (s last : State) (text : List ℕ) → run (step room) s text ≡ Some last
      → run (step wider) s text ≡ Some last
  read_follows = run_follows (step room) (step wider)
      (λ s next byte. phase_follows s.phase s.stack s.nodes s.at byte next)

deeper_room : (count : ℕ) → up_to DEEPEST count ≡ true → up_to (DEEPEST + 1) count ≡ true
deeper_room count h = lt-ltb count (DEEPEST + 1) (omega (arith, ltb-true count DEEPEST h))

pub one_more : (room : ℕ → Bool) (text : List ℕ) (place : ℕ) (s : State) → place < length text
    → run (step room) start (take place text) ≡ Some s
    → run (step room) start (take (place + 1) text) ≡ step room s (slice_index text place)
one_more room text place s inside was = ap (run (step room) start) (take_more text place 0 inside)
    ∙ run_next (step room) start s (take place text) (get_or text place 0) was

module _ (text : List ℕ) (place : ℕ) (s : State) (was : run (step (up_to DEEPEST)) start (take place text) ≡ Some s)
  where
    shallow_there : Begins (IsText DEEPEST) (take place text)
    shallow_there = begins_read (IsText DEEPEST) (step (up_to DEEPEST)) start IsEnd (recognizes DEEPEST)
        (take place text)
        s was

    any_there : Begins IsAnyText (take place text)
    any_there = (shallow_there.0, (DEEPEST, shallow_there.1))

    -- a byte that no depth allows
    pub bad_at : place < length text → step anywhere s (slice_index text place) ≡ None → IsBad text place
    bad_at inside refused = record {
      fault = refused_at IsAnyText (step anywhere) start IsEnd any_read text place inside any_there
          (one_more anywhere text place s inside (read_follows (up_to DEEPEST) anywhere (λ count h. refl) start s
          (take place text) was) ∙ refused);
      shallow = shallow_there;
    }

    -- the text ends too early
    pub bad_at_end : length text ≤ place → (IsEnd s → ⊥) → IsBad text (length text)
    bad_at_end past not_end = record {
      fault = unfinished IsAnyText (step anywhere) start IsEnd any_read text s
          (ap (run (step anywhere) start) (sym (take_all place text past))
          ∙ read_follows (up_to DEEPEST) anywhere (λ count h. refl) start s (take place text) was)
          not_end (subst (Begins IsAnyText) (take_all place text past) any_there);
      shallow = subst (Begins (IsText DEEPEST))
          (take_all place text past ∙ sym (take_all (length text) text (omega arith))) shallow_there;
    }

    -- either of both
    pub bad_there : place ≤ length text → (place < length text → step anywhere s (slice_index text place) ≡ None)
        → (IsEnd s → ⊥) → IsBad text place
    bad_there inside refused not_end = elim (ends_or_not place (length text) inside) [
      | inl below ↦ bad_at below (refused below)
      | inr same ↦ subst (IsBad text) (sym same) (bad_at_end (omega arith) not_end)
    ]
      where
        ends_or_not : (a b : ℕ) → a ≤ b → (a < b) ⊎ (a ≡ b)
        ends_or_not a b h = grind arith

    -- a bracket that one level more would allow
    pub deep_at : place < length text → step (up_to DEEPEST) s (slice_index text place) ≡ None
        → (next : State) → step (up_to (DEEPEST + 1)) s (slice_index text place) ≡ Some next → IsDeep text place
    deep_at inside refused next goes = record {
      within = inside;
      fault = fault_at (IsText DEEPEST) (step (up_to DEEPEST)) start IsEnd (recognizes DEEPEST) text place s inside was
          (one_more (up_to DEEPEST) text place s inside was ∙ refused);
      deeper =
          let begins = begins_read (IsText (DEEPEST + 1)) (step (up_to (DEEPEST + 1))) start IsEnd
          (recognizes (DEEPEST + 1)) (take (place + 1) text) next
          (one_more (up_to (DEEPEST + 1)) text place s inside
          (read_follows (up_to DEEPEST) (up_to (DEEPEST + 1)) deeper_room start s (take place text) was) ∙ goes) in
          (begins.0, (DEEPEST + 1, begins.1));
    }

-- what was read to an end is a text, and the nodes are its nodes
pub read_whole : (text : List ℕ) (s : State) → run (step (up_to DEEPEST)) start text ≡ Some s → IsEnd s
    → (whole : Whole) × IsWhole DEEPEST whole text × (nodes_so_far s ≡ whole_nodes whole)
read_whole text s was ends =
    let (whole, is) = only_texts DEEPEST text s was ends in
    let (t, again, rests) = whole_read (up_to DEEPEST) DEEPEST (λ count below. lt-ltb count DEEPEST below) whole text
    is in
    (whole, is, ap nodes_so_far (same_Some s t (sym was ∙ again)) ∙ rests.seen_is)
