-- What is read to its end is a text: from each state on, the rest completes one.
use Rattle.std.proofs.Common.{◌≡◌, ℕ, zero, suc, ◌+◌, ◌⊎◌, inl, inr, List, [], ◌∷◌, ◌++◌, length, Bool, true, false}
use Rattle.std.proofs.Common.{refl, sym, ap, ◌∙◌, arith, subst, append_assoc}
use Rattle.std.specs.Prelude.{Option, Some, None, IsSomeAnd, option_and_then, if◌then◌else◌, nat_lt}
use Rattle.std.proofs.lemmas.Option.{none-some, same_Some}
use Rattle.std.proofs.lemmas.Bool.{ltb-true, eqb-true}
use Rattle.text_places.specs.Machine.{run}
use Rattle.jtext.specs.Characters.{Char, AreChars, chars_text}
use Rattle.jtext.specs.Values.{Json, Elements, Members, null, truth, numeral, quoted, array, object, no_element}
use Rattle.jtext.specs.Values.{element, no_member, member, quoted_text, spelling, elements_behind, members_behind}
use Rattle.jtext.specs.Values.{AreBlank, IsValue, AreElements, AreMembers}
use Rattle.jtext.specs.Texts.{mark_text, IsText}
use Rattle.jtext.specs.InsideSigns.{byte_sign, closing, letter, word_rest}
use Rattle.jtext.specs.InsideTokens.{Inner, inner_step, number_step, is_last_place, is_closed}
use Rattle.jtext.specs.InsideStates.{Token, in_word, in_number, in_text, of_word, of_number, of_text, token_step}
use Rattle.jtext.specs.InsideStates.{is_whole}
use Rattle.jtext.specs.InsideStates.{Role, Phase, begin, stand, within, State, state, start, opened_one, first_place}
use Rattle.jtext.specs.InsideStates.{next_wanted, same_bracket, state_at_open, closed_one, nodes_at_close, state_at_comma, value_step}
use Rattle.jtext.specs.InsideStates.{stand_step}
use Rattle.jtext.specs.InsideStates.{begin_step, place_behind, nodes_with_token, token_or, phase_step, step, up_to, IsLast, IsEnd}
use Rattle.jtext.specs.declared.document.Kind.{Kind}
use Rattle.jtext.specs.declared.document.Kind.TheVariants as kinds
use Rattle.jtext.specs.declared.document.Node.{Node}
use Rattle.jtext.specs.declared.signs.Bracket.{Bracket}
use Rattle.jtext.specs.declared.signs.Bracket.TheVariants.{Square, Curly}
use Rattle.jtext.specs.declared.signs.Word.{Word}
use Rattle.jtext.specs.declared.signs.Word.TheVariants as words
use Rattle.jtext.specs.declared.signs.Sign.{Sign}
use Rattle.jtext.specs.declared.signs.Sign.TheVariants as signs
use Rattle.jtext.specs.declared.number.NumberPlace.{NumberPlace}
use Rattle.jtext.specs.declared.number.NumberPlace.TheVariants as numbers
use Rattle.jtext.specs.declared.stack.Open.{Open}
use Rattle.jtext.specs.declared.steps.Expectation.{Expectation}
use Rattle.jtext.specs.declared.steps.Expectation.TheVariants as places
use Rattle.jtext.proofs.CodeReads.Pieces.{some_next, some_more}
use Rattle.jtext.proofs.Grammar.ByteSigns.{HasSign, has_sign}
use Rattle.jtext.proofs.Grammar.NumberTexts.{first_number, number_only}
use Rattle.jtext.proofs.Grammar.QuotedTexts.{quoted_only}

-- what is left behind a value in brackets of this kind: white space, further elements or members, the closing
-- bracket, and what is left behind that
abbrev ClosesIn : Bracket → ℕ → (List ℕ → Type 0) → List ℕ → Type 0
ClosesIn Square depth Behind rest = (after : List ℕ) × (elements : Elements) × (tail : List ℕ) × AreBlank after
    × AreElements depth elements
    × (rest ≡ after ++ (elements_behind elements ++ 93 ∷ tail)) × Behind tail
ClosesIn Curly depth Behind rest = (after : List ℕ) × (members : Members) × (tail : List ℕ) × AreBlank after
    × AreMembers depth members
    × (rest ≡ after ++ (members_behind members ++ 125 ∷ tail)) × Behind tail

-- the texts that close all that is open, after a value
abbrev pub Closes : ℕ → List Open → List ℕ → Type 0
Closes depth [] rest = AreBlank rest
Closes depth (one ∷ outer) rest = ClosesIn one.bracket depth (Closes (suc depth) outer) rest

-- the innermost one closes here
abbrev ClosesNow : ℕ → List Open → List ℕ → Type 0
ClosesNow depth [] rest = ⊥
ClosesNow depth (one ∷ outer) rest = (blank tail : List ℕ) × AreBlank blank
    × (rest ≡ blank ++ closing one.bracket ∷ tail) × Closes (suc depth) outer tail

-- a value comes, and what is left behind it
abbrev GoesOn : ℕ → (List ℕ → Type 0) → List ℕ → Type 0
GoesOn depth Behind rest = (before : List ℕ) × (value : Json) × (tail : List ℕ) × AreBlank before × IsValue depth value
    × (rest ≡ before ++ (spelling value ++ tail)) × Behind tail

-- a colon comes, and a value
abbrev Named : ℕ → (List ℕ → Type 0) → List ℕ → Type 0
Named depth Behind rest = (blank tail : List ℕ) × AreBlank blank × (rest ≡ blank ++ 58 ∷ tail)
    × GoesOn depth Behind tail

-- a key comes, and the rest of its member
abbrev HasKey : ℕ → (List ℕ → Type 0) → List ℕ → Type 0
HasKey depth Behind rest = (before : List ℕ) × (key : List Char) × (tail : List ℕ) × AreBlank before × AreChars key
    × (rest ≡ before ++ (quoted_text key ++ tail)) × Named depth Behind tail

abbrev CompletesStand : ℕ → Expectation → List Open → List ℕ → Type 0
CompletesStand depth places.Value stack rest = GoesOn depth (Closes depth stack) rest
CompletesStand depth places.FirstElement stack rest =
    ClosesNow depth stack rest ⊎ GoesOn depth (Closes depth stack) rest
CompletesStand depth places.FirstKey stack rest = ClosesNow depth stack rest ⊎ HasKey depth (Closes depth stack) rest
CompletesStand depth places.Key stack rest = HasKey depth (Closes depth stack) rest
CompletesStand depth places.Colon stack rest = Named depth (Closes depth stack) rest
CompletesStand depth places.Behind stack rest = Closes depth stack rest

-- the rest of a token
abbrev TokenEnds : Token → List ℕ → Type 0
TokenEnds token part = (last : Token) × (run token_step token part ≡ Some last) × (is_whole last ≡ true)

-- the texts that complete a text from each state on
abbrev Completes : ℕ → Phase → List Open → List ℕ → Type 0
Completes depth begin stack rest = (marked : Bool) × (tail : List ℕ) × (rest ≡ mark_text marked ++ tail)
    × GoesOn depth (Closes depth stack) tail
Completes depth (stand place) stack rest = CompletesStand depth place stack rest
Completes depth (within role kind from token) stack rest =
    (part tail : List ℕ) × (rest ≡ part ++ tail) × TokenEnds token part
    × CompletesStand depth (place_behind role) stack tail

-- from the state that follows, the rest completes a text of the limit
abbrev CompletesAll : ℕ → List ℕ → State → Type 0
CompletesAll limit rest next = (depth : ℕ) → length next.stack + depth ≡ limit
    → Completes depth next.phase next.stack rest

-- White space before.

goes_on_blank : (depth : ℕ) (Behind : List ℕ → Type 0) (byte : ℕ) (rest : List ℕ) → HasSign signs.Blank byte
    → GoesOn depth Behind rest → GoesOn depth Behind (byte ∷ rest)
goes_on_blank depth Behind byte rest is (before, value, tail, blank, ok, split, behind) =
    (byte ∷ before, value, tail, (is, blank), ok, ap (λ (t : List ℕ). byte ∷ t) split, behind)

now_blank : (depth : ℕ) (stack : List Open) (byte : ℕ) (rest : List ℕ) → HasSign signs.Blank byte
    → ClosesNow depth stack rest → ClosesNow depth stack (byte ∷ rest)
now_blank depth [] byte rest is h = absurd h
now_blank depth (one ∷ outer) byte rest is (blank, tail, all, split, behind) =
    (byte ∷ blank, tail, (is, all), ap (λ (t : List ℕ). byte ∷ t) split, behind)

colon_blank : (depth : ℕ) (Behind : List ℕ → Type 0) (byte : ℕ) (rest : List ℕ) → HasSign signs.Blank byte
    → Named depth Behind rest → Named depth Behind (byte ∷ rest)
colon_blank depth Behind byte rest is (blank, tail, all, split, goes) =
    (byte ∷ blank, tail, (is, all), ap (λ (t : List ℕ). byte ∷ t) split, goes)

key_blank : (depth : ℕ) (Behind : List ℕ → Type 0) (byte : ℕ) (rest : List ℕ) → HasSign signs.Blank byte
    → HasKey depth Behind rest → HasKey depth Behind (byte ∷ rest)
key_blank depth Behind byte rest is (before, key, tail, blank, ok, split, named) =
    (byte ∷ before, key, tail, (is, blank), ok, ap (λ (t : List ℕ). byte ∷ t) split, named)

first_blank : (depth : ℕ) (stack : List Open) (byte : ℕ) (rest : List ℕ) → HasSign signs.Blank byte
    → CompletesStand depth places.FirstElement stack rest → CompletesStand depth places.FirstElement stack (byte ∷ rest)
first_blank depth stack byte rest is (inl h) = inl (now_blank depth stack byte rest is h)
first_blank depth stack byte rest is (inr h) = inr (goes_on_blank depth (Closes depth stack) byte rest is h)

first_key_blank : (depth : ℕ) (stack : List Open) (byte : ℕ) (rest : List ℕ) → HasSign signs.Blank byte
    → CompletesStand depth places.FirstKey stack rest → CompletesStand depth places.FirstKey stack (byte ∷ rest)
first_key_blank depth stack byte rest is (inl h) = inl (now_blank depth stack byte rest is h)
first_key_blank depth stack byte rest is (inr h) = inr (key_blank depth (Closes depth stack) byte rest is h)

in_blank : (bracket : Bracket) (depth : ℕ) (Behind : List ℕ → Type 0) (byte : ℕ) (rest : List ℕ)
    → HasSign signs.Blank byte → ClosesIn bracket depth Behind rest → ClosesIn bracket depth Behind (byte ∷ rest)
in_blank Square depth Behind byte rest is (after, elements, tail, blank, ok, split, behind) =
    (byte ∷ after, elements, tail, (is, blank), ok, ap (λ (t : List ℕ). byte ∷ t) split, behind)
in_blank Curly depth Behind byte rest is (after, members, tail, blank, ok, split, behind) =
    (byte ∷ after, members, tail, (is, blank), ok, ap (λ (t : List ℕ). byte ∷ t) split, behind)

behind_blank : (depth : ℕ) (stack : List Open) (byte : ℕ) (rest : List ℕ) → HasSign signs.Blank byte
    → Closes depth stack rest → Closes depth stack (byte ∷ rest)
behind_blank depth [] byte rest is h = (is, h)
behind_blank depth (one ∷ outer) byte rest is h = in_blank one.bracket depth (Closes (suc depth) outer) byte rest is h

-- Brackets and commas.

same_kind : (a b : Bracket) → same_bracket a b ≡ true → a ≡ b
same_kind Square Curly h = cc
same_kind Curly Square h = cc
same_kind a b h = refl

chosen : (test : Bool) (next : State) (P : State → Type 0) → IsSomeAnd (if test then Some next else None) P
    → (test ≡ true) × P next
chosen true next P h = (refl, h)
chosen false next P h = absurd h

close_back : (limit depth : ℕ) (bracket : Bracket) (stack : List Open) (nodes : List Node) (at byte : ℕ) (rest : List ℕ)
    → length stack + depth ≡ limit → byte ≡ closing bracket
    → IsSomeAnd (closed_one bracket stack nodes at) (CompletesAll limit rest) → ClosesNow depth stack (byte ∷ rest)
close_back limit depth bracket [] nodes at byte rest room is h = absurd h
close_back limit depth bracket (one ∷ outer) nodes at byte rest room is h =
    let same = chosen (same_bracket bracket one.bracket)
    (state (stand places.Behind) outer (nodes_at_close one nodes at) (at + 1)) (CompletesAll limit rest) h in (
      [],
      rest,
      tt,
      ap (λ (b : ℕ). b ∷ rest) (is ∙ ap closing (same_kind bracket one.bracket same.0)),
      same.1 (suc depth)
          (omega (arith, room)),
    )

now_in : (bracket : Bracket) (depth : ℕ) (Behind : List ℕ → Type 0) (rest blank tail : List ℕ) → AreBlank blank
    → rest ≡ blank ++ closing bracket ∷ tail → Behind tail → ClosesIn bracket depth Behind rest
now_in Square depth Behind rest blank tail all split behind = (blank, no_element, tail, all, tt, split, behind)
now_in Curly depth Behind rest blank tail all split behind = (blank, no_member, tail, all, tt, split, behind)

closes_now : (depth : ℕ) (stack : List Open) (rest : List ℕ) → ClosesNow depth stack rest → Closes depth stack rest
closes_now depth [] rest h = absurd h
closes_now depth (one ∷ outer) rest (blank, tail, all, split, behind) =
    now_in one.bracket depth (Closes (suc depth) outer) rest blank tail all split behind

-- what a comma is followed by
abbrev Wanted : Bracket → ℕ → (List ℕ → Type 0) → List ℕ → Type 0
Wanted Square depth Behind rest = GoesOn depth Behind rest
Wanted Curly depth Behind rest = HasKey depth Behind rest

wanted : (bracket : Bracket) (depth : ℕ) (stack : List Open) (rest : List ℕ)
    → CompletesStand depth (next_wanted bracket) stack rest → Wanted bracket depth (Closes depth stack) rest
wanted Square depth stack rest h = h
wanted Curly depth stack rest h = h

-- regrouping
five : (a b c d e : List ℕ) → a ++ (b ++ (c ++ (d ++ e))) ≡ (a ++ (b ++ (c ++ d))) ++ e
five a b c d e = simp append_assoc

comma_in : (bracket : Bracket) (depth : ℕ) (Behind : List ℕ → Type 0) (byte : ℕ) (rest : List ℕ) → byte ≡ 44
    → Wanted bracket depth (ClosesIn bracket depth Behind) rest → ClosesIn bracket depth Behind (byte ∷ rest)
comma_in Square depth Behind byte rest is (
  before,
  value,
  tail,
  blank,
  ok,
  split,
  (after, elements, end, blank_after, all, split_more, behind),
) = (
  [],
  element before value after elements,
  end,
  tt,
  (blank, ok, blank_after, all),
  rw (is, split, split_more) (ap (λ (t : List ℕ). 44 ∷ t)
      (five before (spelling value) after (elements_behind elements) (93 ∷ end))),
  behind,
)
comma_in Curly depth Behind byte rest is (
  before,
  key,
  tail,
  blank,
  chars,
  split,
  (
    behind_key,
    named,
    blank_key,
    split_key,
    (
      ahead,
      value,
      left,
      blank_ahead,
      ok,
      split_value,
      (after, members, end, blank_after, all, split_more, behind),
    ),
  ),
) = (
  [],
  member before key behind_key ahead value after members,
  end,
  tt,
  (blank, chars, blank_key, blank_ahead, ok, blank_after, all),
  rw (is, split, split_key, split_value, split_more)
      (ap (λ (t : List ℕ). 44 ∷ t) (regroup before (quoted_text key) behind_key ahead (spelling value) after
      (members_behind members) (125 ∷ end))),
  behind,
)
  where
    regroup : (a b c d e f g h : List ℕ) → a ++ (b ++ (c ++ 58 ∷ (d ++ (e ++ (f ++ (g ++ h))))))
        ≡ (a ++ (b ++ (c ++ 58 ∷ (d ++ (e ++ (f ++ g)))))) ++ h
    regroup a b c d e f g h = simp append_assoc

separated_back : (limit depth : ℕ) (stack : List Open) (nodes : List Node) (at byte : ℕ) (rest : List ℕ)
    → length stack + depth ≡ limit → byte ≡ 44
    → IsSomeAnd (state_at_comma stack nodes at) (CompletesAll limit rest) → Closes depth stack (byte ∷ rest)
separated_back limit depth [] nodes at byte rest room is h = absurd h
separated_back limit depth (one ∷ outer) nodes at byte rest room is h =
    comma_in one.bracket depth (Closes (suc depth) outer) byte rest is
    (wanted one.bracket depth (one ∷ outer) rest (h depth room))

-- an opening bracket begins an array or object
open_in : (bracket : Bracket) (number from depth : ℕ) (stack : List Open) (byte : ℕ) (rest : List ℕ)
    → HasSign (signs.Opening bracket) byte
    → CompletesStand depth (first_place bracket) (opened_one bracket number from ∷ stack) rest
    → GoesOn (suc depth) (Closes (suc depth) stack) (byte ∷ rest)
open_in Square number from depth stack byte rest is (inl (blank, tail, all, split, behind)) = (
  [],
  array blank no_element,
  tail,
  tt,
  (all, tt),
  rw (is, split)
      (ap (λ (t : List ℕ). 91 ∷ t) (sym (append_assoc blank (93 ∷ []) tail))),
  behind,
)
open_in Square number from depth stack byte rest is
    (inr (before, value, tail, blank, ok, split, (after, elements, end, blank_after, all, split_more, behind))) = (
      [],
      array [] (element before value after elements),
      end,
      tt,
      (refl, (blank, ok, blank_after, all)),
      rw (is, split, split_more) (ap (λ (t : List ℕ). 91 ∷ t)
          (regroup before (spelling value) after (elements_behind elements) end)),
      behind,
    )
  where
    regroup : (a b c d e : List ℕ) → a ++ (b ++ (c ++ (d ++ 93 ∷ e))) ≡ ((a ++ (b ++ (c ++ d))) ++ 93 ∷ []) ++ e
    regroup a b c d e = simp append_assoc
open_in Curly number from depth stack byte rest is (inl (blank, tail, all, split, behind)) = (
  [],
  object blank no_member,
  tail,
  tt,
  (all, tt),
  rw (is, split)
      (ap (λ (t : List ℕ). 123 ∷ t) (sym (append_assoc blank (125 ∷ []) tail))),
  behind,
)
open_in Curly number from depth stack byte rest is (inr (
  before,
  key,
  tail,
  blank,
  chars,
  split,
  (
    behind_key,
    named,
    blank_key,
    split_key,
    (
      ahead,
      value,
      left,
      blank_ahead,
      ok,
      split_value,
      (after, members, end, blank_after, all, split_more, behind),
    ),
  ),
)) = (
  [],
  object [] (member before key behind_key ahead value after members),
  end,
  tt,
  (refl, (blank, chars, blank_key, blank_ahead, ok, blank_after, all)),
  rw (is, split, split_key, split_value, split_more)
      (ap (λ (t : List ℕ). 123 ∷ t) (regroup before (quoted_text key) behind_key ahead (spelling value) after
      (members_behind members) end)),
  behind,
)
  where
    regroup : (a b c d e f g h : List ℕ) → a ++ (b ++ (c ++ 58 ∷ (d ++ (e ++ (f ++ (g ++ 125 ∷ h))))))
        ≡ ((a ++ (b ++ (c ++ 58 ∷ (d ++ (e ++ (f ++ g)))))) ++ 125 ∷ []) ++ h
    regroup a b c d e f g h = simp append_assoc

opened_back : (limit depth : ℕ) (bracket : Bracket) (stack : List Open) (nodes : List Node) (at byte : ℕ)
    (rest : List ℕ) → length stack + depth ≡ limit → HasSign (signs.Opening bracket) byte
    → IsSomeAnd (state_at_open (up_to limit) bracket stack nodes at) (CompletesAll limit rest)
    → GoesOn depth (Closes depth stack) (byte ∷ rest)
opened_back limit zero bracket stack nodes at byte rest room is h =
    let fits = chosen (nat_lt (length stack) limit) _ (CompletesAll limit rest) h in
    absurd (omega (arith, room, ltb-true (length stack) limit fits.0))
opened_back limit (suc depth) bracket stack nodes at byte rest room is h =
    let fits = chosen (nat_lt (length stack) limit) _ (CompletesAll limit rest) h in
    open_in bracket (length nodes) at depth stack byte rest is (fits.1 depth (omega (arith, room)))

-- Tokens.

first_letter : (first byte : ℕ) (more part : List ℕ) (last : Token) (test : Bool) → (test ≡ true → byte ≡ first)
    → (run token_step (in_word more) part ≡ Some last → part ≡ more)
    → option_and_then (λ next. run token_step next part) (of_word (if test then Some more else None)) ≡ Some last
    → byte ∷ part ≡ first ∷ more
first_letter first byte more part last true same on_more on = let here = same refl in let rest = on_more on in cc
first_letter first byte more part last false same on_more on = absurd (none-some last on)

token_word : (word part : List ℕ) (last : Token) → run token_step (in_word word) part ≡ Some last → is_whole last ≡ true
    → part ≡ word
token_word [] [] last was whole = refl
token_word [] (byte ∷ part) last was whole = absurd (none-some last was)
token_word (first ∷ more) [] last was whole =
    let open_still : false ≡ true = ap is_whole (same_Some (in_word (first ∷ more)) last was) ∙ whole in cc
token_word (first ∷ more) (byte ∷ part) last was whole =
    grind (arith, first_letter, eqb-true, (token_word more part last))

abbrev NumberEnds : NumberPlace → List ℕ → Type 0
NumberEnds place part = (end : NumberPlace) × (run number_step place part ≡ Some end) × (is_last_place end ≡ true)

next_place_ends : (part : List ℕ) (last : Token)
    → ((next : NumberPlace) → run token_step (in_number next) part ≡ Some last → NumberEnds next part)
    → (o : Option NumberPlace)
    → option_and_then (λ next. run token_step next part) (of_number o) ≡ Some last
    → (end : NumberPlace) × (option_and_then (λ next. run number_step next part) o ≡ Some end)
    × (is_last_place end ≡ true)
next_place_ends part last on_more None on = absurd (none-some last on)
next_place_ends part last on_more (Some next) on = on_more next on

token_number : (place : NumberPlace) (part : List ℕ) (last : Token) → run token_step (in_number place) part ≡ Some last
    → is_whole last ≡ true → NumberEnds place part
token_number place [] last was whole = (place, refl, ap is_whole (same_Some (in_number place) last was) ∙ whole)
token_number place (byte ∷ part) last was whole =
    next_place_ends part last (λ next on. token_number next part last on whole) (number_step place byte) was

closed_only : (inner : Inner) → is_closed inner ≡ true → inner ≡ Inner.closed
closed_only Inner.closed h = refl
closed_only (Inner.need first more) h = cc
closed_only inner h = cc

next_inner_ends : (part : List ℕ) (last : Token)
    → ((next : Inner) → run token_step (in_text next) part ≡ Some last → run inner_step next part ≡ Some Inner.closed)
    → (o : Option Inner)
    → option_and_then (λ next. run token_step next part) (of_text o) ≡ Some last
    → option_and_then (λ next. run inner_step next part) o ≡ Some Inner.closed
next_inner_ends part last on_more None on = absurd (none-some last on)
next_inner_ends part last on_more (Some next) on = on_more next on

token_text : (inner : Inner) (part : List ℕ) (last : Token) → run token_step (in_text inner) part ≡ Some last
    → is_whole last ≡ true → run inner_step inner part ≡ Some Inner.closed
token_text inner [] last was whole = ap (λ (i : Inner). Some i)
    (closed_only inner (ap is_whole (same_Some (in_text inner) last was) ∙ whole))
token_text inner (byte ∷ part) last was whole =
    next_inner_ends part last (λ next on. token_text next part last on whole) (inner_step inner byte) was

first_part : (byte first : ℕ) (rest part tail other : List ℕ) → byte ≡ first → rest ≡ part ++ tail → part ≡ other
    → byte ∷ rest ≡ first ∷ (other ++ tail)
first_part byte first rest part tail other is split same = rw (is, split, same) refl

-- a key's quotation mark
key_back : (depth : ℕ) (stack : List Open) (byte : ℕ) (rest : List ℕ) (at : ℕ) → byte ≡ 34
    → Completes depth (within Role.key kinds.Text at (in_text Inner.plain)) stack rest
    → HasKey depth (Closes depth stack) (byte ∷ rest)
key_back depth stack byte rest at is (part, tail, split, (last, was, whole), named) =
    let (chars, all, text) = quoted_only part (token_text Inner.plain part last was whole) in
    ([], chars, tail, tt, all, first_part byte 34 rest part tail (chars_text chars ++ 34 ∷ []) is split text, named)

number_back : (depth : ℕ) (sign : Sign) (first : NumberPlace) (stack : List Open) (byte : ℕ) (rest : List ℕ) (at : ℕ)
    → HasSign sign byte → first_number sign ≡ Some first
    → Completes depth (within Role.value kinds.Number at (in_number first)) stack rest
    → GoesOn depth (Closes depth stack) (byte ∷ rest)
number_back depth sign first stack byte rest at is begins (part, tail, split, (last, was, whole), behind) =
    let (end, read, ends) = token_number first part last was whole in (
      [],
      numeral (byte ∷ part),
      tail,
      tt,
      number_only sign byte part first end is begins read ends,
      ap
          (λ (t : List ℕ). byte ∷ t) split,
      behind,
    )

-- the value that a word is
abbrev word_value : Word → Json
word_value words.Null = null
word_value words.True = truth true
word_value words.False = truth false

word_spelling : (word : Word) → spelling (word_value word) ≡ letter word ∷ word_rest word
word_spelling words.Null = refl
word_spelling _ = refl

word_is : (depth : ℕ) (word : Word) → IsValue depth (word_value word)
word_is depth words.Null = tt
word_is depth _ = tt

value_back : (limit depth : ℕ) (sign : Sign) (stack : List Open) (nodes : List Node) (at byte : ℕ) (rest : List ℕ)
    → length stack + depth ≡ limit → HasSign sign byte
    → IsSomeAnd (value_step (up_to limit) stack nodes at sign) (CompletesAll limit rest)
    → GoesOn depth (Closes depth stack) (byte ∷ rest)
value_back limit depth signs.Quote stack nodes at byte rest room is h =
    let (part, tail, split, ends, behind) = h depth room in
    let (chars, all, text) = quoted_only part (token_text Inner.plain part ends.0 ends.1 ends.2) in (
      [],
      quoted chars,
      tail,
      tt,
      all,
      first_part byte 34 rest part tail (chars_text chars ++ 34 ∷ []) is split text,
      behind,
    )
value_back limit depth (signs.Opening bracket) stack nodes at byte rest room is h =
    opened_back limit depth bracket stack nodes at byte rest room is h
value_back limit depth signs.Minus stack nodes at byte rest room is h =
    number_back depth signs.Minus numbers.Minus stack byte rest at is refl (h depth room)
value_back limit depth signs.Zero stack nodes at byte rest room is h =
    number_back depth signs.Zero numbers.Zero stack byte rest at is refl (h depth room)
value_back limit depth signs.Digit stack nodes at byte rest room is h =
    number_back depth signs.Digit numbers.Whole stack byte rest at is refl (h depth room)
value_back limit depth (signs.Letter word) stack nodes at byte rest room is h =
    let (part, tail, split, ends, behind) = h depth room in
    let text : part ≡ word_rest word = token_word (word_rest word) part ends.0 ends.1 ends.2 in (
      [],
      word_value word,
      tail,
      tt,
      word_is depth word,
      first_part byte (letter word) rest part tail (word_rest word) is split text
          ∙ ap (λ (t : List ℕ). t ++ tail) (sym (word_spelling word)),
      behind,
    )
value_back limit depth sign stack nodes at byte rest room is h = absurd h

-- One byte before a text that completes, between tokens.
stand_back : (limit depth : ℕ) (place : Expectation) (sign : Sign) (stack : List Open) (nodes : List Node) (at byte : ℕ)
    (rest : List ℕ) → length stack + depth ≡ limit → HasSign sign byte
    → IsSomeAnd (stand_step (up_to limit) place stack nodes at sign) (CompletesAll limit rest)
    → CompletesStand depth place stack (byte ∷ rest)
stand_back limit depth places.Value signs.Blank stack nodes at byte rest room is h =
    goes_on_blank depth (Closes depth stack) byte rest is (h depth room)
stand_back limit depth places.Value signs.Quote stack nodes at byte rest room is h =
    value_back limit depth signs.Quote stack nodes at byte rest room is h
stand_back limit depth places.Value (signs.Opening bracket) stack nodes at byte rest room is h =
    value_back limit depth (signs.Opening bracket) stack nodes at byte rest room is h
stand_back limit depth places.Value signs.Minus stack nodes at byte rest room is h =
    value_back limit depth signs.Minus stack nodes at byte rest room is h
stand_back limit depth places.Value signs.Zero stack nodes at byte rest room is h =
    value_back limit depth signs.Zero stack nodes at byte rest room is h
stand_back limit depth places.Value signs.Digit stack nodes at byte rest room is h =
    value_back limit depth signs.Digit stack nodes at byte rest room is h
stand_back limit depth places.Value (signs.Letter word) stack nodes at byte rest room is h =
    value_back limit depth (signs.Letter word) stack nodes at byte rest room is h
stand_back limit depth places.FirstElement signs.Blank stack nodes at byte rest room is h =
    first_blank depth stack byte rest is (h depth room)
stand_back limit depth places.FirstElement (signs.Closing bracket) stack nodes at byte rest room is h =
    inl (close_back limit depth bracket stack nodes at byte rest room is h)
stand_back limit depth places.FirstElement signs.Quote stack nodes at byte rest room is h =
    inr (value_back limit depth signs.Quote stack nodes at byte rest room is h)
stand_back limit depth places.FirstElement (signs.Opening bracket) stack nodes at byte rest room is h =
    inr (value_back limit depth (signs.Opening bracket) stack nodes at byte rest room is h)
stand_back limit depth places.FirstElement signs.Minus stack nodes at byte rest room is h =
    inr (value_back limit depth signs.Minus stack nodes at byte rest room is h)
stand_back limit depth places.FirstElement signs.Zero stack nodes at byte rest room is h =
    inr (value_back limit depth signs.Zero stack nodes at byte rest room is h)
stand_back limit depth places.FirstElement signs.Digit stack nodes at byte rest room is h =
    inr (value_back limit depth signs.Digit stack nodes at byte rest room is h)
stand_back limit depth places.FirstElement (signs.Letter word) stack nodes at byte rest room is h =
    inr (value_back limit depth (signs.Letter word) stack nodes at byte rest room is h)
stand_back limit depth places.FirstKey signs.Blank stack nodes at byte rest room is h =
    first_key_blank depth stack byte rest is (h depth room)
stand_back limit depth places.FirstKey (signs.Closing bracket) stack nodes at byte rest room is h =
    inl (close_back limit depth bracket stack nodes at byte rest room is h)
stand_back limit depth places.FirstKey signs.Quote stack nodes at byte rest room is h =
    inr (key_back depth stack byte rest at is (h depth room))
stand_back limit depth places.Key signs.Blank stack nodes at byte rest room is h =
    key_blank depth (Closes depth stack) byte rest is (h depth room)
stand_back limit depth places.Key signs.Quote stack nodes at byte rest room is h =
    key_back depth stack byte rest at is (h depth room)
stand_back limit depth places.Colon signs.Blank stack nodes at byte rest room is h =
    colon_blank depth (Closes depth stack) byte rest is (h depth room)
stand_back limit depth places.Colon signs.Colon stack nodes at byte rest room is h =
    ([], rest, tt, ap (λ (b : ℕ). b ∷ rest) is, h depth room)
stand_back limit depth places.Behind signs.Blank stack nodes at byte rest room is h =
    behind_blank depth stack byte rest is (h depth room)
stand_back limit depth places.Behind signs.Comma stack nodes at byte rest room is h =
    separated_back limit depth stack nodes at byte rest room is h
stand_back limit depth places.Behind (signs.Closing bracket) stack nodes at byte rest room is h =
    closes_now depth stack (byte ∷ rest) (close_back limit depth bracket stack nodes at byte rest room is h)
stand_back limit depth place sign stack nodes at byte rest room is h = absurd h

-- a byte order mark, or the first byte of a text without one
begin_back : (limit depth : ℕ) (sign : Sign) (stack : List Open) (nodes : List Node) (at byte : ℕ) (rest : List ℕ)
    → length stack + depth ≡ limit → HasSign sign byte
    → IsSomeAnd (begin_step (up_to limit) stack nodes at sign) (CompletesAll limit rest)
    → Completes depth begin stack (byte ∷ rest)
begin_back limit depth signs.First stack nodes at byte rest room is h =
    let (part, tail, split, ends, goes) = h depth room in
    let text : part ≡ 0xBB ∷ 0xBF ∷ [] = token_word (0xBB ∷ 0xBF ∷ []) part ends.0 ends.1 ends.2 in
    (true, tail, first_part byte 239 rest part tail (0xBB ∷ 0xBF ∷ []) is split text, goes)
begin_back limit depth sign stack nodes at byte rest room is h =
    (false, byte ∷ rest, refl, stand_back limit depth places.Value sign stack nodes at byte rest room is h)

-- in a token, which goes on or ended before this byte
within_back : (limit depth : ℕ) (role : Role) (kind : Kind) (from : ℕ) (token : Token) (stack : List Open)
    (nodes : List Node) (at byte : ℕ) (rest : List ℕ) → length stack + depth ≡ limit
    → (more : Option Token) → token_step token byte ≡ more → (whole : Bool) → is_whole token ≡ whole
    → IsSomeAnd (token_or more role kind from stack nodes at
    (if whole then stand_step (up_to limit) (place_behind role) stack (nodes_with_token role kind from nodes at) at
    (byte_sign byte) else None)) (CompletesAll limit rest)
    → Completes depth (within role kind from token) stack (byte ∷ rest)
within_back limit depth role kind from token stack nodes at byte rest room (Some next) goes whole ends h =
    let (part, tail, split, (last, was, done), behind) = h depth room in
    (byte ∷ part, tail, ap (λ (t : List ℕ). byte ∷ t) split, (last, rw goes was, done), behind)
within_back limit depth role kind from token stack nodes at byte rest room None goes true ends h = (
  [],
  byte ∷ rest,
  refl,
  (token, refl, ends),
  stand_back limit depth (place_behind role) (byte_sign byte) stack
      (nodes_with_token role kind from nodes at) at byte rest room (has_sign byte) h,
)
within_back limit depth role kind from token stack nodes at byte rest room None goes false ends h = absurd h

step_back : (limit depth : ℕ) (phase : Phase) (stack : List Open) (nodes : List Node) (at byte : ℕ) (rest : List ℕ)
    → length stack + depth ≡ limit
    → IsSomeAnd (phase_step (up_to limit) phase stack nodes at byte) (CompletesAll limit rest)
    → Completes depth phase stack (byte ∷ rest)
step_back limit depth begin stack nodes at byte rest room h =
    begin_back limit depth (byte_sign byte) stack nodes at byte rest room (has_sign byte) h
step_back limit depth (stand place) stack nodes at byte rest room h =
    stand_back limit depth place (byte_sign byte) stack nodes at byte rest room (has_sign byte) h
step_back limit depth (within role kind from token) stack nodes at byte rest room h =
    within_back limit depth role kind from token stack nodes at byte rest room (token_step token byte) refl
    (is_whole token) refl h

-- a text ends at its end
ends_here : (depth : ℕ) (phase : Phase) (stack : List Open) → IsLast phase → stack ≡ [] → Completes depth phase stack []
ends_here depth begin stack last none = absurd last
ends_here depth (stand places.Behind) stack last none = rw none tt
ends_here depth (stand places.Value) stack last none = absurd last
ends_here depth (stand places.FirstElement) stack last none = absurd last
ends_here depth (stand places.FirstKey) stack last none = absurd last
ends_here depth (stand places.Key) stack last none = absurd last
ends_here depth (stand places.Colon) stack last none = absurd last
ends_here depth (within Role.mark kind from token) stack last none = absurd last
ends_here depth (within Role.key kind from token) stack last none = absurd last
ends_here depth (within Role.value kind from token) stack last none = ([], [], refl, (token, refl, last), rw none tt)

-- what was read to an end completes
completes : (limit : ℕ) (rest : List ℕ) (s last : State) → run (step (up_to limit)) s rest ≡ Some last → IsEnd last
    → CompletesAll limit rest s
completes limit [] s last was ends depth room =
    let here = subst IsEnd (sym (same_Some s last was)) ends in
    ends_here depth s.phase s.stack here.last here.all_closed
completes limit (byte ∷ rest) s last was ends depth room =
    step_back limit depth s.phase s.stack s.nodes s.at byte rest room
    (some_more (step (up_to limit) s byte) (λ next. run (step (up_to limit)) next rest ≡ Some last)
    (CompletesAll limit rest)
    (λ next on. completes limit rest next last on ends)
    (some_next (step (up_to limit) s byte) (λ next. run (step (up_to limit)) next rest) last was))

pub only_texts : (limit : ℕ) (text : List ℕ) (last : State) → run (step (up_to limit)) start text ≡ Some last
    → IsEnd last → IsText limit text
only_texts limit text last was ends =
    let (marked, tail, split, (before, value, after, blank, ok, split_more, blank_after)) =
    completes limit text start last was ends limit (omega arith) in (
      record { marked = marked; before = before; value = value; after = after },
      record {
        before = blank;
        value = ok;
        after = blank_after;
        all = split
            ∙ ap (λ (t : List ℕ). mark_text marked ++ t) split_more;
      },
    )
