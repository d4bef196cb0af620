-- Texts that were put one after the other.
use Rattle.std.proofs.Common.{◌≡◌, ℕ, List, [], ◌∷◌, ◌++◌, refl, append_assoc, append-nil}
use Rattle.std.specs.List.{concat}

pub two : (start one now a b : List ℕ) → one ≡ start ++ a → now ≡ one ++ b → now ≡ start ++ concat (a ∷ b ∷ [])
two start one now a b is_one is_now = simp (is_now, is_one, append_assoc, append-nil) refl

pub three : (start one two now a b c : List ℕ) → one ≡ start ++ a → two ≡ one ++ b → now ≡ two ++ c
    → now ≡ start ++ concat (a ∷ b ∷ c ∷ [])
three start one two now a b c is_one is_two is_now = simp (is_now, is_two, is_one, append_assoc, append-nil) refl

pub four : (start one two three now a b c d : List ℕ) → one ≡ start ++ a → two ≡ one ++ b → three ≡ two ++ c
    → now ≡ three ++ d → now ≡ start ++ concat (a ∷ b ∷ c ∷ d ∷ [])
four start one two third now a b c d is_one is_two is_three is_now =
    simp (is_now, is_three, is_two, is_one, append_assoc, append-nil) refl

pub five : (start one two three four now a b c d e : List ℕ) → one ≡ start ++ a → two ≡ one ++ b → three ≡ two ++ c
    → four ≡ three ++ d → now ≡ four ++ e → now ≡ start ++ concat (a ∷ b ∷ c ∷ d ∷ e ∷ [])
five start one two third four now a b c d e is_one is_two is_three is_four is_now =
    simp (is_now, is_four, is_three, is_two, is_one, append_assoc, append-nil) refl

pub seven : (start one two three four five six now a b c d e f g : List ℕ) → one ≡ start ++ a → two ≡ one ++ b
    → three ≡ two ++ c → four ≡ three ++ d → five ≡ four ++ e → six ≡ five ++ f → now ≡ six ++ g
    → now ≡ start ++ concat (a ∷ b ∷ c ∷ d ∷ e ∷ f ∷ g ∷ [])
seven start one two third four fifth six now a b c d e f g is_one is_two is_three is_four is_five is_six is_now =
    simp (is_now, is_six, is_five, is_four, is_three, is_two, is_one, append_assoc, append-nil) refl
