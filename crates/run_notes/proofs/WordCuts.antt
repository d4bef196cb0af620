-- Where a word is cut that has an `=` in it.
use Rattle.std.proofs.Common.{◌≡◌, ℕ, ◌+◌, ◌<◌, Bool, true, false, [], ◌∷◌, ◌++◌, length, ap, sym, ◌∙◌, refl, take}
use Rattle.std.proofs.Common.{arith}
use Rattle.std.proofs.Common.{inl, inr, eqb-true, get_or, codes, append_assoc, length-append, one-add}
use Rattle.std.proofs.lemmas.Bool.{or_parts}
use Rattle.std.proofs.lemmas.List.{take-append-le, take_all}
use Rattle.std.specs.Prelude.{◌==◌, ◌||◌, not, cond}
use Rattle.std.specs.List.{position_or_len, before_first, after_first}
use Rattle.std.proofs.lemmas.List.Sums.{split_at_first, passes_at_first}
use Rattle.clap.specs.Walk.{Text}
use Rattle.run_notes.specs.WordForms.{Form}
use Rattle.run_notes.specs.WordUses.{has_equals, takes_value, is_flag, begins_as_option}
use Rattle.run_notes.specs.WordFlaws.{Names, IsUnknown}

abbrev is_equals : ℕ → Bool
is_equals byte = byte == 61

-- the first `=` comes after a name that has none
equals-place : (name value : Text) → has_equals name ≡ false
    → position_or_len is_equals (name ++ 61 ∷ value) ≡ length name
equals-place [] value none = refl
equals-place (byte ∷ name) value none =
    let (here, others) = or_parts (is_equals byte) (has_equals name) none in
    ap (λ b. cond (not b) (1 + position_or_len is_equals (name ++ 61 ∷ value)) 0) here
    ∙ (let more = equals-place name value others in omega arith)

-- the part before it is the name
cut-name : (name value : Text) → has_equals name ≡ false → before_first is_equals (name ++ 61 ∷ value) ≡ name
cut-name name value none = ap (λ n. take n (name ++ 61 ∷ value)) (equals-place name value none)
    ∙ take-append-le (length name) name (61 ∷ value) (omega arith) ∙ take_all (length name) name (omega arith)

-- it is in the text
cut-within : (name value : Text) → has_equals name ≡ false
    → position_or_len is_equals (name ++ 61 ∷ value) < length (name ++ 61 ∷ value)
cut-within name value none = let place = equals-place name value none in omega (arith, length-append name (61 ∷ value))

-- no `=` is before the first one
front-lacks-at : (byte : ℕ) (word : Text) (b : Bool) → is_equals byte ≡ b
    → has_equals (before_first is_equals word) ≡ false
    → has_equals (before_first is_equals (byte ∷ word)) ≡ false
front-lacks-at byte word true e lacks =
    ap (λ b. has_equals (take (cond (not b) (1 + position_or_len is_equals word) 0) (byte ∷ word))) e
front-lacks-at byte word false e lacks =
    ap (λ b. has_equals (take (cond (not b) (1 + position_or_len is_equals word) 0) (byte ∷ word))) e
    ∙ ap (λ n. has_equals (take n (byte ∷ word))) (one-add (position_or_len is_equals word))
    ∙ ap (λ b. b || has_equals (before_first is_equals word)) e ∙ lacks

pub front-lacks : (word : Text) → has_equals (before_first is_equals word) ≡ false
front-lacks [] = refl
front-lacks (byte ∷ word) = front-lacks-at byte word (is_equals byte) refl (front-lacks word)

-- a word with an `=` is what is before the first one, an `=`, and what is after it
pub joined : (word : Text) → position_or_len is_equals word < length word
    → word ≡ before_first is_equals word ++ codes "=" ++ after_first is_equals word
joined word within =
    let at = eqb-true (get_or word (position_or_len is_equals word) 0) 61 (passes_at_first is_equals word 0 within) in
    split_at_first is_equals word 0 within
    ∙ ap (λ byte. before_first is_equals word ++ byte ∷ after_first is_equals word) at
    ∙ sym (append_assoc (before_first is_equals word) (codes "=") (after_first is_equals word))

-- a word with an `=` in which no option that takes a value is before the first one, or a word without one, names none
none-named : (form : Form) (word : Text) → is_flag form word ≡ false → takes_value form word ≡ false
    → ((name value : Text) → word ≡ name ++ codes "=" ++ value → has_equals name ≡ false → takes_value form name ≡ true
    → ⊥)
    → (name : Text) → Names form word name → ⊥
none-named form word no_flag no_value none name (inl (is, flag)) = let h = ap (is_flag form) is in cc
none-named form word no_flag no_value none name (inr (inl (is, takes))) = let h = ap (takes_value form) is in cc
none-named form word no_flag no_value none name (inr (inr (value, is, lacks, takes))) = none name value is lacks takes

-- an unknown word in which there is no `=`
pub unknown-whole : (form : Form) (word : Text) → begins_as_option word ≡ true → (word ≡ codes "--" → ⊥)
    → is_flag form word ≡ false → takes_value form word ≡ false → position_or_len is_equals word ≡ length word
    → IsUnknown form word
unknown-whole form word begins not_end no_flag no_value place = record {
  begins = begins;
  not_end = not_end;
  none = none-named form word no_flag no_value (λ name value is lacks takes.
      let within = cut-within name value lacks in
      let spelled = is ∙ append_assoc name (codes "=") value in
      let same = ap (λ (t : Text). position_or_len is_equals t) spelled in
      let long = ap (λ (t : Text). length t) spelled in
      omega arith);
}

-- an unknown word in which the part before the first `=` is no option that takes a value
pub unknown-cut : (form : Form) (word front : Text) → begins_as_option word ≡ true → (word ≡ codes "--" → ⊥)
    → is_flag form word ≡ false → takes_value form word ≡ false → front ≡ before_first is_equals word
    → takes_value form front ≡ false → IsUnknown form word
unknown-cut form word front begins not_end no_flag no_value front_is no_front = record {
  begins = begins;
  not_end = not_end;
  none = none-named form word no_flag no_value (λ name value is lacks takes.
      let same : front ≡ name = front_is
      ∙ ap (λ (t : Text). before_first is_equals t) (is ∙ append_assoc name (codes "=") value)
      ∙ cut-name name value lacks in
      let h = ap (takes_value form) same in
      cc);
}
