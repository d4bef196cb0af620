-- One character further over a text, and where it differs from another one.
use Rattle.std.proofs.Common.{◌≡◌, ℕ, zero, suc, ◌+◌, ◌<◌, ◌≤◌, ◌↔◌, List, [], ◌∷◌, ◌++◌, length, take, drop, get_or}
use Rattle.std.proofs.Common.{true, false, refl, sym, ap, ◌∙◌, arith, append_assoc, append-nil}
use Rattle.std.specs.Prelude.{IsTrue}
use Rattle.std.proofs.lemmas.List.{length-drop, length-append, length-take-le, get_or_at, take_more, take_all, drop_all}
use Rattle.jtext.specs.Characters.{Char, IsChar, AreChars, char_text, chars_text, units_of_char, units_of}
use Rattle.jtext.specs.Lookups.{IsAscii}
use Rattle.jtext.specs.InsideUnits.{IsOutside, IsLeft}
use Rattle.jtext.proofs.CodeReads.UnitLaws.{char_long}

-- after a front something is left that is no end
front_next : (text : List ℕ) (count unit : ℕ) (more : List ℕ) → count ≤ length text
    → take count text ++ unit ∷ more ≡ text → (count < length text) × (get_or text count 0 ≡ unit)
front_next text count unit more within same = grind (arith, length-take-le, length-append, get_or, get_or_at)

ascii_at : (text : List ℕ) (i : ℕ) → IsAscii text → i < length text → get_or text i 0 < 128
ascii_at [] i all below = absurd (omega arith)
ascii_at (byte ∷ text) zero all below = all.0
ascii_at (byte ∷ text) (suc i) all below = ascii_at text i all.1 (omega arith)

module _ (raw text : List ℕ) (at count : ℕ) (left : IsLeft raw text at count) (counted : count ≤ length text) where
  -- the next character
  abbrev Next : List Char → Type 0
  Next chars = (char : Char) × (more : List Char) × IsChar char × AreChars more
      × (drop at raw ≡ char_text char ++ chars_text more)
      × (units_of chars ≡ take count text ++ (units_of_char char ++ units_of more))

  next_of : (chars rest : List Char) → AreChars rest → drop at raw ≡ chars_text rest
      → units_of chars ≡ take count text ++ units_of rest → at < length raw → Next chars
  next_of chars [] all there units within = absurd (omega (arith, ap length there, length-drop at raw))
  next_of chars (char ∷ more) all there units within = (char, more, all.0, all.1, there, units)

  next_char : at < length raw → (chars : List Char) → AreChars chars → raw ≡ chars_text chars → Next chars
  next_char within chars all is = let (rest, are, there, units) =
      left chars all is in next_of chars rest are there units within

  pub outside_differs : at < length raw → IsAscii text
      → ((char : Char) (rest : List ℕ) → IsChar char → drop at raw ≡ char_text char ++ rest → IsOutside char)
      → (chars : List Char) → AreChars chars → raw ≡ chars_text chars → units_of chars ≡ text → ⊥
  outside_differs within ascii outside chars all is same = grind (arith, next_char, front_next, ascii_at)

  -- the next character has one unit
  abbrev pub OneUnit : ℕ → ℕ → Type 0
  OneUnit unit end = (char : Char) (rest : List ℕ) → IsChar char → drop at raw ≡ char_text char ++ rest
      → (units_of_char char ≡ unit ∷ []) × (drop end raw ≡ rest)

  next_unit : at < length raw → (unit end : ℕ) → OneUnit unit end → (chars : List Char) → AreChars chars
      → raw ≡ chars_text chars
      → (rest : List Char) × AreChars rest × (drop end raw ≡ chars_text rest)
      × (units_of chars ≡ take count text ++ unit ∷ units_of rest)
  next_unit within unit end one chars all is =
      let (char, more, ok, are, there, units) = next_char within chars all is in
      let (here, behind) = one char (chars_text more) ok there in
      (more, are, behind, units ∙ ap (λ (u : List ℕ). take count text ++ (u ++ units_of more)) here)

  pub unit_differs : at < length raw → (unit end : ℕ) → OneUnit unit end
      → (count < length text → get_or text count 0 ≡ unit → ⊥)
      → (chars : List Char) → AreChars chars → raw ≡ chars_text chars → units_of chars ≡ text → ⊥
  unit_differs within unit end one other chars all is same =
      let (rest, are, there, units) = next_unit within unit end one chars all is in
      let here = front_next text count unit (units_of rest) counted (sym units ∙ same) in
      other here.0 here.1

  pub unit_left : at < length raw → (unit end : ℕ) → OneUnit unit end → count < length text → get_or text count 0 ≡ unit
      → IsLeft raw text end (count + 1)
  unit_left within unit end one below here chars all is =
      let (rest, are, there, units) = next_unit within unit end one chars all is in
      let front : take (count + 1) text ≡ take count text ++ unit ∷ [] = take_more text count 0 below
      ∙ ap (λ (u : ℕ). take count text ++ u ∷ []) here in (
        rest,
        are,
        there,
        units ∙ sym (append_assoc (take count text) (unit ∷ []) (units_of rest))
            ∙ ap (λ (t : List ℕ). t ++ units_of rest) (sym front),
      )

  none_left : (rest : List Char) → AreChars rest → chars_text rest ≡ [] → rest ≡ []
  none_left [] all none = refl
  none_left (char ∷ more) all none = absurd (omega
      (arith, char_long char all.0, ap length none, length-append (char_text char) (chars_text more)))

  pub all_said : length raw ≤ at → (chars : List Char) → AreChars chars → raw ≡ chars_text chars
      → (count ≡ length text) ↔ (units_of chars ≡ text)
  all_said past chars all is = grind (arith, none_left, drop_all, append-nil, take_all, length-take-le)

-- what is not so is answered by false
pub never_so : (P : Type 0) → (P → ⊥) → (IsTrue false) ↔ P
never_so P other = (λ never. let wrong : false ≡ true = never in cc, λ p. absurd (other p))
