-- Words at the start of a text.
use Rattle.std.proofs.Common.{◌≡◌, ℕ, true, List, [], ◌∷◌, ◌++◌, length, take, drop}
use Rattle.std.proofs.Common.{Some, refl, sym, ◌∙◌, ap, nat_eq, arith}
use Rattle.std.specs.Cmp.Lexicographic.{same_text}
use Rattle.std.specs.Str.{bytes_eq}
use Rattle.std.proofs.lemmas.Bool.Decides.{nat_tests}
use Rattle.std.proofs.lemmas.List.{take_at, drop_at, take-append-drop}
use Rattle.text_fields.proofs.StepChains.{let_through}
use Rattle.text_fields.specs.Fields.{after_word}

pub equals_itself : (text : List ℕ) → bytes_eq text text ≡ true
equals_itself [] = refl
equals_itself (byte ∷ text) =
    let here : nat_eq byte byte ≡ true = grind (arith, nat_tests) in
    rw (here, equals_itself text) refl

-- a word in front of a rest
pub after_again : (word rest : List ℕ) → after_word word (word ++ rest) ≡ Some rest
after_again word rest = rw (
  take_at word rest (length word) refl,
  drop_at word rest (length word) refl,
  equals_itself
      word,
) refl

pub after_takes : (word text rest : List ℕ) → after_word word text ≡ Some rest → text ≡ word ++ rest
after_takes word text rest is =
    let found = let_through (bytes_eq (take (length word) text) word) (drop (length word) text) rest is in
    let same : take (length word) text ≡ word = same_text (take (length word) text) word (sym found.passes) in
    sym (take-append-drop (length word) text)
    ∙ (ap (λ front. front ++ drop (length word) text) same ∙ ap (λ behind. word ++ behind) found.same)
