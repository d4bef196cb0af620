-- A text has one value.
use Rattle.std.proofs.Common.{◌≡◌, ◌≢◌, ℕ, zero, suc, ◌+◌, ◌<◌, ◌≤◌, ◌⊎◌, inl, inr, Bool, true, false, List, [], ◌∷◌}
use Rattle.std.proofs.Common.{◌++◌, length, refl, sym, ◌∙◌, ap, subst, arith, append_assoc}
use Rattle.std.specs.List.{AllByRecursion}
use Rattle.jtext.specs.Characters.{hexadecimal, Fits, Form, classes, Char, unescaped, escaped, coded, IsEscape}
use Rattle.jtext.specs.Characters.{IsChar, AreChars, char_text, chars_text}
use Rattle.jtext.specs.Numbers.{IsDigit, IsMinus, IsInt, IsFraction, IsMark, IsSign, IsExponent, IsNumber}
use Rattle.jtext.specs.Values.{Json, Elements, Members, null, truth, numeral, quoted, array, object, no_element}
use Rattle.jtext.specs.Values.{element, no_member, member, quoted_text, spelling, elements_text, elements_behind}
use Rattle.jtext.specs.Values.{members_text, members_behind, IsBlank, AreBlank, IsArrayBlank, IsObjectBlank, IsValue}
use Rattle.jtext.specs.Values.{AreElements, AreMembers}
use Rattle.jtext.specs.Texts.{Whole, mark_text, IsWhole}
use Rattle.jtext.specs.Places.{whole_start}
use Rattle.plain_laws.proofs.Lists.{same_rest}
use Rattle.jtext.proofs.CodeReads.UnitLaws.{one_byte, two_bytes, three_bytes, four_bytes}

-- the text does not go on with a byte of the class
abbrev pub StopsAt : (ℕ → Type 0) → List ℕ → Type 0
StopsAt P [] = Unit {0}
StopsAt P (byte ∷ bytes) = ¬ P byte

-- a text is cut in one way into a longest first part of bytes of a class and a rest
one_cut : (P : ℕ → Type 0) (a b x y : List ℕ) → AllByRecursion P a → AllByRecursion P b → StopsAt P x → StopsAt P y
    → a ++ x ≡ b ++ y → (a ≡ b) × (x ≡ y)
one_cut P [] [] x y fa fb sx sy same = (refl, same)
one_cut P [] (c ∷ b) (d ∷ x) y fa fb sx sy same = let head : c ≡ d = cc in absurd (sx (subst P head fb.0))
one_cut P (c ∷ a) [] x (d ∷ y) fa fb sx sy same = let head : c ≡ d = cc in absurd (sy (subst P head fa.0))
one_cut P (c ∷ a) (d ∷ b) x y fa fb sx sy same = grind (arith, (one_cut P a b x y fa.1 fb.1 sx sy))
one_cut _ _ _ x y fa fb sx sy same = cc

-- the bytes of a code point that is by itself: how many they are is known by the first
abbrev IsPoint : List ℕ → Type 0
IsPoint [] = ⊥
IsPoint (a ∷ []) = (a < 128) × (a ≢ 92) × (a ≢ 34)
IsPoint (a ∷ b ∷ []) = (0xC2 ≤ a) × (a < 0xE0)
IsPoint (a ∷ b ∷ c ∷ []) = (0xE0 ≤ a) × (a < 0xF0)
IsPoint (a ∷ b ∷ c ∷ d ∷ []) = 0xF0 ≤ a
IsPoint (a ∷ b ∷ c ∷ d ∷ e ∷ bytes) = ⊥

form_point : (form : Form) (bytes : List ℕ) → Fits (classes form) bytes → IsPoint bytes
form_point Form.low bytes fits = grind (arith, one_byte)
form_point Form.middle bytes fits = grind (arith, one_byte)
form_point Form.high bytes fits = grind (arith, one_byte)
form_point Form.two bytes fits = grind (arith, two_bytes)
form_point Form.four_first bytes fits = grind (arith, four_bytes)
form_point Form.four bytes fits = grind (arith, four_bytes)
form_point Form.four_last bytes fits = grind (arith, four_bytes)
form_point form bytes fits = grind (arith, three_bytes)

point_cut : (x y r s : List ℕ) → IsPoint x → IsPoint y → x ++ r ≡ y ++ s → (x ≡ y) × (r ≡ s)
point_cut (a ∷ []) (k ∷ []) r s p q same = (cc, cc)
point_cut (a ∷ []) (k ∷ l ∷ []) r s p q same = let e : a ≡ k = cc in absurd (omega (arith, p.0, q.0, e))
point_cut (a ∷ []) (k ∷ l ∷ m ∷ []) r s p q same = let e : a ≡ k = cc in absurd (omega (arith, p.0, q.0, e))
point_cut (a ∷ []) (k ∷ l ∷ m ∷ n ∷ []) r s p q same = let e : a ≡ k = cc in absurd (omega (arith, p.0, q, e))
point_cut (a ∷ b ∷ []) (k ∷ []) r s p q same = let e : a ≡ k = cc in absurd (omega (arith, p.0, q.0, e))
point_cut (a ∷ b ∷ []) (k ∷ l ∷ []) r s p q same = (cc, cc)
point_cut (a ∷ b ∷ []) (k ∷ l ∷ m ∷ []) r s p q same = let e : a ≡ k = cc in absurd (omega (arith, p.1, q.0, e))
point_cut (a ∷ b ∷ []) (k ∷ l ∷ m ∷ n ∷ []) r s p q same = let e : a ≡ k = cc in absurd (omega (arith, p.1, q, e))
point_cut (a ∷ b ∷ c ∷ []) (k ∷ []) r s p q same = let e : a ≡ k = cc in absurd (omega (arith, p.0, q.0, e))
point_cut (a ∷ b ∷ c ∷ []) (k ∷ l ∷ []) r s p q same = let e : a ≡ k = cc in absurd (omega (arith, p.0, q.1, e))
point_cut (a ∷ b ∷ c ∷ []) (k ∷ l ∷ m ∷ []) r s p q same = (cc, cc)
point_cut (a ∷ b ∷ c ∷ []) (k ∷ l ∷ m ∷ n ∷ []) r s p q same = let e : a ≡ k = cc in absurd (omega (arith, p.1, q, e))
point_cut (a ∷ b ∷ c ∷ d ∷ []) (k ∷ []) r s p q same = let e : a ≡ k = cc in absurd (omega (arith, p, q.0, e))
point_cut (a ∷ b ∷ c ∷ d ∷ []) (k ∷ l ∷ []) r s p q same = let e : a ≡ k = cc in absurd (omega (arith, p, q.1, e))
point_cut (a ∷ b ∷ c ∷ d ∷ []) (k ∷ l ∷ m ∷ []) r s p q same = let e : a ≡ k = cc in absurd (omega (arith, p, q.1, e))
point_cut (a ∷ b ∷ c ∷ d ∷ []) (k ∷ l ∷ m ∷ n ∷ []) r s p q same = (cc, cc)
point_cut [] y r s p q same = absurd p
point_cut (a ∷ b ∷ c ∷ d ∷ e ∷ x) y r s p q same = absurd p
point_cut x y r s p q same = absurd q

-- a code point begins with no reverse solidus and no quotation mark
point_first : (x r t : List ℕ) (byte : ℕ) → IsPoint x → x ++ r ≡ byte ∷ t → (byte ≢ 92) × (byte ≢ 34)
point_first (a ∷ []) r t byte p same = let e : a ≡ byte = cc in (subst (λ b. b ≢ 92) e p.1, subst (λ b. b ≢ 34) e p.2)
point_first (a ∷ b ∷ []) r t byte p same = let e : a ≡ byte =
    cc in ((λ f. omega (arith, p.0, e, f)), (λ f. omega (arith, p.0, e, f)))
point_first (a ∷ b ∷ c ∷ []) r t byte p same = let e : a ≡ byte =
    cc in ((λ f. omega (arith, p.0, e, f)), (λ f. omega (arith, p.0, e, f)))
point_first (a ∷ b ∷ c ∷ d ∷ []) r t byte p same = let e : a ≡ byte =
    cc in ((λ f. omega (arith, p, e, f)), (λ f. omega (arith, p, e, f)))
point_first x r t byte p same = absurd p

no_u : (byte : ℕ) → IsEscape byte → byte ≡ 117 → ⊥
no_u byte (inl is) e = omega (arith, is, e)
no_u byte (inr (inl is)) e = omega (arith, is, e)
no_u byte (inr (inr (inl is))) e = omega (arith, is, e)
no_u byte (inr (inr (inr (inl is)))) e = omega (arith, is, e)
no_u byte (inr (inr (inr (inr (inl is))))) e = omega (arith, is, e)
no_u byte (inr (inr (inr (inr (inr (inl is)))))) e = omega (arith, is, e)
no_u byte (inr (inr (inr (inr (inr (inr (inl is))))))) e = omega (arith, is, e)
no_u byte (inr (inr (inr (inr (inr (inr (inr is))))))) e = omega (arith, is, e)

four_cut : (x y r s : List ℕ) → Fits (hexadecimal ∷ hexadecimal ∷ hexadecimal ∷ hexadecimal ∷ []) x
    → Fits (hexadecimal ∷ hexadecimal ∷ hexadecimal ∷ hexadecimal ∷ []) y → x ++ r ≡ y ++ s → (x ≡ y) × (r ≡ s)
four_cut x y r s p q same = grind (arith, four_bytes)

char_cut : (c d : Char) (r s : List ℕ) → IsChar c → IsChar d → char_text c ++ r ≡ char_text d ++ s → (c ≡ d) × (r ≡ s)
char_cut (unescaped x) (unescaped y) r s (form, fits) (other, also) same =
    let cut = point_cut x y r s (form_point form x fits) (form_point other y also) same in (ap unescaped cut.0, cut.1)
char_cut (unescaped x) (escaped byte) r s (form, fits) q same =
    absurd ((point_first x r _ 92 (form_point form x fits) same).0 refl)
char_cut (unescaped x) (coded digits) r s (form, fits) q same =
    absurd ((point_first x r _ 92 (form_point form x fits) same).0 refl)
char_cut (escaped byte) (unescaped y) r s p (form, fits) same =
    absurd ((point_first y s _ 92 (form_point form y fits) (sym same)).0 refl)
char_cut (escaped byte) (escaped other) r s p q same = let e : byte ≡ other = cc in (ap escaped e, cc)
char_cut (escaped byte) (coded digits) r s p q same = let e : byte ≡ 117 = cc in absurd (no_u byte p e)
char_cut (coded digits) (unescaped y) r s p (form, fits) same =
    absurd ((point_first y s _ 92 (form_point form y fits) (sym same)).0 refl)
char_cut (coded digits) (escaped byte) r s p q same = let e : byte ≡ 117 = cc in absurd (no_u byte q e)
char_cut (coded digits) (coded others) r s p q same = grind (arith, four_cut)

-- no character begins with a quotation mark
char_quote : (c : Char) (r t : List ℕ) → IsChar c → char_text c ++ r ≡ 34 ∷ t → ⊥
char_quote (unescaped x) r t (form, fits) same = (point_first x r t 34 (form_point form x fits) same).1 refl
char_quote c r t p same = let e : ◌≡◌ {A = ℕ} 92 34 = cc in omega (arith, e)

chars_cut : (cs ds : List Char) (r s : List ℕ) → AreChars cs → AreChars ds
    → chars_text cs ++ 34 ∷ r ≡ chars_text ds ++ 34 ∷ s → (cs ≡ ds) × (r ≡ s)
chars_cut [] [] r s p q same = (refl, cc)
chars_cut [] (d ∷ ds) r s p q same = absurd
    (char_quote d (chars_text ds ++ 34 ∷ s) r q.0 (sym (same ∙ append_assoc (char_text d) (chars_text ds) (34 ∷ s))))
chars_cut (c ∷ cs) [] r s p q same = absurd
    (char_quote c (chars_text cs ++ 34 ∷ r) s p.0 (sym (append_assoc (char_text c) (chars_text cs) (34 ∷ r)) ∙ same))
chars_cut (c ∷ cs) (d ∷ ds) r s p q same = grind (arith, append_assoc, char_cut, (chars_cut cs ds r s p.1 q.1))

-- the bytes of numbers
abbrev pub IsNumeric : ℕ → Type 0
IsNumeric byte = (byte ≡ 43) ⊎ (((45 ≤ byte) × (byte ≤ 57)) ⊎ IsMark byte)

abbrev AreNumeric : List ℕ → Type 0
AreNumeric text = AllByRecursion IsNumeric text

numeric_append : (a b : List ℕ) → AreNumeric a → AreNumeric b → AreNumeric (a ++ b)
numeric_append [] b x y = y
numeric_append (byte ∷ a) b x y = (x.0, numeric_append a b x.1 y)

digits_numeric : (text : List ℕ) → AllByRecursion IsDigit text → AreNumeric text
digits_numeric [] is = tt
digits_numeric (byte ∷ text) is = (inr (inl (omega (arith, is.0.0), is.0.1)), digits_numeric text is.1)

minus_numeric : (text : List ℕ) → IsMinus text → AreNumeric text
minus_numeric text (inl is) = rw is tt
minus_numeric text (inr is) = rw is (inr (inl (omega arith, omega arith)), tt)

int_numeric : (text : List ℕ) → IsInt text → AreNumeric text
int_numeric [] is = tt
int_numeric (digit ∷ digits) (inl (zero_digit, none)) = rw (zero_digit, none) (inr (inl (omega arith, omega arith)), tt)
int_numeric (digit ∷ digits) (inr (low, high, more)) =
    (inr (inl (omega (arith, low), high)), digits_numeric digits more)

fraction_numeric : (text : List ℕ) → IsFraction text → AreNumeric text
fraction_numeric text (inl is) = rw is tt
fraction_numeric text (inr (digits, are, is)) =
    rw is (inr (inl (omega arith, omega arith)), digits_numeric digits are.0)

sign_numeric : (text : List ℕ) → IsSign text → AreNumeric text
sign_numeric text (inl is) = rw is tt
sign_numeric text (inr (inl is)) = rw is (inl refl, tt)
sign_numeric text (inr (inr is)) = rw is (inr (inl (omega arith, omega arith)), tt)

exponent_numeric : (text : List ℕ) → IsExponent text → AreNumeric text
exponent_numeric text (inl is) = rw is tt
exponent_numeric text (inr (mark, sign, digits, is_mark, is_sign, are, is)) =
    rw is (inr (inr is_mark), numeric_append sign digits (sign_numeric sign is_sign) (digits_numeric digits are.0))

number_numeric : (text : List ℕ) → IsNumber text → AreNumeric text
number_numeric text is =
    rw is.all
    (numeric_append is.minus (is.whole ++ (is.fraction ++ is.exponent)) (minus_numeric is.minus is.minus_is)
    (numeric_append is.whole (is.fraction ++ is.exponent) (int_numeric is.whole is.whole_is)
    (numeric_append is.fraction is.exponent (fraction_numeric is.fraction is.fraction_is)
    (exponent_numeric is.exponent is.exponent_is))))

-- a number begins with a minus sign or a digit
abbrev BeginsNumber : List ℕ → Type 0
BeginsNumber [] = ⊥
BeginsNumber (byte ∷ rest) = (45 ≤ byte) × (byte ≤ 57)

int_begins : (text more : List ℕ) → IsInt text → BeginsNumber (text ++ more)
int_begins [] more is = absurd is
int_begins (digit ∷ digits) more (inl (zero_digit, none)) = (omega (arith, zero_digit), omega (arith, zero_digit))
int_begins (digit ∷ digits) more (inr (low, high, are)) = (omega (arith, low), high)

minus_begins : (minus whole more : List ℕ) → IsMinus minus → IsInt whole → BeginsNumber (minus ++ (whole ++ more))
minus_begins minus whole more (inl is) int = rw is (int_begins whole more int)
minus_begins minus whole more (inr is) int = rw is (omega arith, omega arith)

number_begins : (text : List ℕ) → IsNumber text → BeginsNumber text
number_begins text is = rw is.all (minus_begins is.minus is.whole (is.fraction ++ is.exponent) is.minus_is is.whole_is)

number_first : (text r t : List ℕ) (byte : ℕ) → IsNumber text → text ++ r ≡ byte ∷ t → (45 ≤ byte) × (byte ≤ 57)
number_first [] r t byte is same = absurd (number_begins [] is)
number_first (b ∷ text) r t byte is same = let e : b ≡ byte =
    cc in subst (λ k. (45 ≤ k) × (k ≤ 57)) e (number_begins (b ∷ text) is)

-- a value begins with no white space and no bracket that closes
abbrev Begins : List ℕ → Type 0
Begins [] = ⊥
Begins (byte ∷ rest) = (33 ≤ byte) × (byte ≢ 93) × (byte < 128)

number_start : (text r : List ℕ) → BeginsNumber text → Begins (text ++ r)
number_start [] r is = absurd is
number_start (byte ∷ text) r is = (omega (arith, is.0), (λ e. omega (arith, is.1, e)), omega (arith, is.1))

value_begins : (value : Json) (depth : ℕ) (r : List ℕ) → IsValue depth value → Begins (spelling value ++ r)
value_begins (truth true) depth r is = (omega arith, (λ e. omega (arith, e)), omega arith)
value_begins (numeral text) depth r is = number_start text r (number_begins text is)
value_begins _ depth r is = (omega arith, (λ e. omega (arith, e)), omega arith)

low_blank : (byte : ℕ) → IsBlank byte → byte < 33
low_blank byte (inl is) = omega (arith, is)
low_blank byte (inr (inl is)) = omega (arith, is)
low_blank byte (inr (inr (inl is))) = omega (arith, is)
low_blank byte (inr (inr (inr is))) = omega (arith, is)

begun_stops : (text : List ℕ) → Begins text → StopsAt IsBlank text
begun_stops [] is = tt
begun_stops (byte ∷ text) is = λ blank. let low = low_blank byte blank in omega (arith, is.0, low)

no_numeric : (byte : ℕ) → IsNumeric byte → (43 ≤ byte) × (byte ≢ 44) × (byte ≢ 93) × (byte ≢ 125)
no_numeric byte (inl is) = grind (arith)
no_numeric byte (inr (inl is)) = grind (arith)
no_numeric byte (inr (inr (inl is))) = grind (arith)
no_numeric byte (inr (inr (inr is))) = grind (arith)

-- white space ends a number, or what comes after it does
blank_stops : (blank rest : List ℕ) → AreBlank blank → StopsAt IsNumeric rest → StopsAt IsNumeric (blank ++ rest)
blank_stops [] rest is stops = stops
blank_stops (byte ∷ blank) rest is stops = λ numeric. let low = low_blank byte is.0 in let high =
    (no_numeric byte numeric).0 in omega (arith, low, high)

-- a text that ends a value and the white space after it: a comma or a bracket that closes
abbrev Ends : List ℕ → Type 0
Ends [] = ⊥
Ends (byte ∷ rest) = (byte ≡ 44) ⊎ ((byte ≡ 93) ⊎ (byte ≡ 125))

ends_number : (text : List ℕ) → Ends text → StopsAt IsNumeric text
ends_number [] is = tt
ends_number (byte ∷ text) (inl is) = λ numeric. (no_numeric byte numeric).1 is
ends_number (byte ∷ text) (inr (inl is)) = λ numeric. (no_numeric byte numeric).2 is
ends_number (byte ∷ text) (inr (inr is)) = λ numeric. (no_numeric byte numeric).3 is

ends_blank : (text : List ℕ) → Ends text → StopsAt IsBlank text
ends_blank [] is = tt
ends_blank (byte ∷ text) (inl is) = λ blank. let low = low_blank byte blank in omega (arith, low, is)
ends_blank (byte ∷ text) (inr (inl is)) = λ blank. let low = low_blank byte blank in omega (arith, low, is)
ends_blank (byte ∷ text) (inr (inr is)) = λ blank. let low = low_blank byte blank in omega (arith, low, is)

behind_ends : (elements : Elements) (r : List ℕ) → Ends (elements_behind elements ++ 93 ∷ r)
behind_ends no_element r = inr (inl refl)
behind_ends (element before value after rest) r = inl refl

members_end : (members : Members) (r : List ℕ) → Ends (members_behind members ++ 125 ∷ r)
members_end no_member r = inr (inr refl)
members_end (member before key behind ahead value after rest) r = inl refl

blank_cut : (a b x y : List ℕ) → AreBlank a → AreBlank b → StopsAt IsBlank x → StopsAt IsBlank y → a ++ x ≡ b ++ y
    → (a ≡ b) × (x ≡ y)
blank_cut a b x y = one_cut IsBlank a b x y

other_byte : (byte : ℕ) (text : List ℕ) → 33 ≤ byte → StopsAt IsBlank (byte ∷ text)
other_byte byte text high = λ blank. let low = low_blank byte blank in omega (arith, high, low)

-- two values in front of texts that end them are the same
abbrev IsOne : Json → Json → Type 0
IsOne v w = (r s : List ℕ) → StopsAt IsNumeric r → StopsAt IsNumeric s → spelling v ++ r ≡ spelling w ++ s
    → (v ≡ w) × (r ≡ s)

record AreParts (a b : List ℕ) (v w : Json) (c d x y : List ℕ) : Type 0 where
  before : a ≡ b
  value : v ≡ w
  after : c ≡ d
  rest : x ≡ y

-- white space, a value, white space, and what ends the value
valued : (v w : Json) (m n : ℕ) (a b c d x y : List ℕ) → IsValue m v → IsValue n w → AreBlank a → AreBlank b
    → AreBlank c → AreBlank d → Ends x → Ends y → IsOne v w
    → a ++ (spelling v ++ (c ++ x)) ≡ b ++ (spelling w ++ (d ++ y)) → AreParts a b v w c d x y
valued v w m n a b c d x y vs ws ba bb cs ds xs ys one same =
    let front = blank_cut a b (spelling v ++ (c ++ x)) (spelling w ++ (d ++ y)) ba bb
    (begun_stops _ (value_begins v m (c ++ x) vs)) (begun_stops _ (value_begins w n (d ++ y) ws)) same in
    let values = one (c ++ x) (d ++ y) (blank_stops c x cs (ends_number x xs)) (blank_stops d y ds (ends_number y ys))
    front.1 in
    let back = blank_cut c d x y cs ds (ends_blank x xs) (ends_blank y ys) values.1 in
    record { before = front.0; value = values.0; after = back.0; rest = back.1 }

four_texts : (a b c d t : List ℕ) → (a ++ (b ++ (c ++ d))) ++ t ≡ a ++ (b ++ (c ++ (d ++ t)))
four_texts a b c d t = append_assoc a (b ++ (c ++ d)) t
    ∙ ap (λ z. a ++ z) (append_assoc b (c ++ d) t ∙ ap (λ z. b ++ z) (append_assoc c d t))

same_element : (a b : List ℕ) (v w : Json) (c d : List ℕ) (es fs : Elements) (x y : List ℕ) → AreParts a b v w c d x y
    → es ≡ fs → element a v c es ≡ element b w d fs
same_element a b v w c d es fs x y parts rest = grind (arith)

-- the key of a member and the colon after it
record AreKeys (a b : List ℕ) (k l : List Char) (c d x y : List ℕ) : Type 0 where
  before : a ≡ b
  key : k ≡ l
  behind : c ≡ d
  rest : x ≡ y

key_text : (k : List Char) (z : List ℕ) → quoted_text k ++ z ≡ 34 ∷ (chars_text k ++ 34 ∷ z)
key_text k z = ap (λ t. 34 ∷ t) (append_assoc (chars_text k) (34 ∷ []) z)

keyed : (a b c d x y : List ℕ) (k l : List Char) → AreBlank a → AreBlank b → AreChars k → AreChars l → AreBlank c
    → AreBlank d
    → a ++ (quoted_text k ++ (c ++ 58 ∷ x)) ≡ b ++ (quoted_text l ++ (d ++ 58 ∷ y)) → AreKeys a b k l c d x y
keyed a b c d x y k l ba bb ks ls cs ds same =
    let texts : a ++ (34 ∷ (chars_text k ++ 34 ∷ (c ++ 58 ∷ x))) ≡ b ++ (34 ∷ (chars_text l ++ 34 ∷ (d ++ 58 ∷ y))) =
    sym (ap (λ z. a ++ z) (key_text k (c ++ 58 ∷ x))) ∙ (same ∙ ap (λ z. b ++ z) (key_text l (d ++ 58 ∷ y))) in
    let front = blank_cut a b (34 ∷ (chars_text k ++ 34 ∷ (c ++ 58 ∷ x))) (34 ∷ (chars_text l ++ 34 ∷ (d ++ 58 ∷ y))) ba
    bb (other_byte 34 (chars_text k ++ 34 ∷ (c ++ 58 ∷ x)) (omega arith))
    (other_byte 34 (chars_text l ++ 34 ∷ (d ++ 58 ∷ y)) (omega arith)) texts in
    let behind_quote : chars_text k ++ 34 ∷ (c ++ 58 ∷ x) ≡ chars_text l ++ 34 ∷ (d ++ 58 ∷ y) =
    tail_of _ _ _ _ front.1 in
    let keys = chars_cut k l (c ++ 58 ∷ x) (d ++ 58 ∷ y) ks ls behind_quote in
    let back = blank_cut c d (58 ∷ x) (58 ∷ y) cs ds (other_byte 58 x (omega arith)) (other_byte 58 y (omega arith))
    keys.1 in
    record { before = front.0; key = keys.0; behind = back.0; rest = tail_of _ _ _ _ back.1 }
  where
    tail_of : (p q : ℕ) (x y : List ℕ) → p ∷ x ≡ q ∷ y → x ≡ y
    tail_of p q x y e = cc

seven_texts : (a q c d v e m t : List ℕ) → (a ++ (q ++ (c ++ 58 ∷ (d ++ (v ++ (e ++ m)))))) ++ t ≡ a
    ++ (q ++ (c ++ 58 ∷ (d ++ (v ++ (e ++ (m ++ t))))))
seven_texts a q c d v e m t = grind (arith, append_assoc, four_texts)

same_member : (a b : List ℕ) (k l : List Char) (c d e f : List ℕ) (v w : Json) (g h : List ℕ) (ms ns : Members)
    (p q x y : List ℕ) → AreKeys a b k l c d p q → AreParts e f v w g h x y → ms ≡ ns
    → member a k c e v g ms ≡ member b l d f w h ns
same_member a b k l c d e f v w g h ms ns p q x y keys parts rest = grind (arith)

-- brackets round elements, and what comes after them
bracketed : (blank text r : List ℕ) (close : ℕ) → (blank ++ (text ++ close ∷ [])) ++ r ≡ blank ++ (text ++ close ∷ r)
bracketed blank text r close = append_assoc blank (text ++ close ∷ []) r
    ∙ ap (λ z. blank ++ z) (append_assoc text (close ∷ []) r)

-- white space and a bracket that closes are not white space and a value
no_closed : (a c r x : List ℕ) → AreBlank a → AreBlank c → Begins x → a ++ 93 ∷ r ≡ c ++ x → ⊥
no_closed a c r [] ba cs begins same = absurd begins
no_closed a c r (byte ∷ x) ba cs begins same =
    let cut = blank_cut a c (93 ∷ r) (byte ∷ x) ba cs (other_byte 93 r (omega arith)) (other_byte byte x begins.0)
    same in
    let rest : 93 ∷ r ≡ byte ∷ x = cut.1 in
    let e : 93 ≡ byte = cc in begins.1 (sym e)

-- nor white space and a key
no_key : (a c r k z : List ℕ) → AreBlank a → AreBlank c → a ++ 125 ∷ r ≡ c ++ ((34 ∷ k) ++ z) → ⊥
no_key a c r k z ba cs same =
    let cut = blank_cut a c (125 ∷ r) (34 ∷ (k ++ z)) ba cs (other_byte 125 r (omega arith))
    (other_byte 34 (k ++ z) (omega arith)) same in
    let rest : 125 ∷ r ≡ 34 ∷ (k ++ z) = cut.1 in
    let e : ◌≡◌ {A = ℕ} 125 34 = cc in omega (arith, e)

mutual
  value_one : (v w : Json) (m n : ℕ) → IsValue m v → IsValue n w → IsOne v w
  value_one null (truth true) m n p q r s rs ss same = let e : ◌≡◌ {A = ℕ} 110 116 = cc in absurd (omega (arith, e))
  value_one null (truth false) m n p q r s rs ss same = let e : ◌≡◌ {A = ℕ} 110 102 = cc in absurd (omega (arith, e))
  value_one null (numeral y) m n p q r s rs ss same = let in_range =
      number_first y s _ 110 q (sym same) in absurd (omega (arith, in_range.0, in_range.1))
  value_one null (quoted y) m n p q r s rs ss same = let e : ◌≡◌ {A = ℕ} 110 34 = cc in absurd (omega (arith, e))
  value_one null (array y fs) m n p q r s rs ss same = let e : ◌≡◌ {A = ℕ} 110 91 = cc in absurd (omega (arith, e))
  value_one null (object y ns) m n p q r s rs ss same = let e : ◌≡◌ {A = ℕ} 110 123 = cc in absurd (omega (arith, e))
  value_one (truth true) null m n p q r s rs ss same = let e : ◌≡◌ {A = ℕ} 116 110 = cc in absurd (omega (arith, e))
  value_one (truth true) (truth false) m n p q r s rs ss same = let e : ◌≡◌ {A = ℕ} 116 102 =
      cc in absurd (omega (arith, e))
  value_one (truth true) (numeral y) m n p q r s rs ss same = let in_range =
      number_first y s _ 116 q (sym same) in absurd (omega (arith, in_range.0, in_range.1))
  value_one (truth true) (quoted y) m n p q r s rs ss same = let e : ◌≡◌ {A = ℕ} 116 34 =
      cc in absurd (omega (arith, e))
  value_one (truth true) (array y fs) m n p q r s rs ss same = let e : ◌≡◌ {A = ℕ} 116 91 =
      cc in absurd (omega (arith, e))
  value_one (truth true) (object y ns) m n p q r s rs ss same = let e : ◌≡◌ {A = ℕ} 116 123 =
      cc in absurd (omega (arith, e))
  value_one (truth false) null m n p q r s rs ss same = let e : ◌≡◌ {A = ℕ} 102 110 = cc in absurd (omega (arith, e))
  value_one (truth false) (truth true) m n p q r s rs ss same = let e : ◌≡◌ {A = ℕ} 102 116 =
      cc in absurd (omega (arith, e))
  value_one (truth false) (numeral y) m n p q r s rs ss same = let in_range =
      number_first y s _ 102 q (sym same) in absurd (omega (arith, in_range.0, in_range.1))
  value_one (truth false) (quoted y) m n p q r s rs ss same = let e : ◌≡◌ {A = ℕ} 102 34 =
      cc in absurd (omega (arith, e))
  value_one (truth false) (array y fs) m n p q r s rs ss same = let e : ◌≡◌ {A = ℕ} 102 91 =
      cc in absurd (omega (arith, e))
  value_one (truth false) (object y ns) m n p q r s rs ss same = let e : ◌≡◌ {A = ℕ} 102 123 =
      cc in absurd (omega (arith, e))
  value_one (numeral x) null m n p q r s rs ss same = let in_range =
      number_first x r _ 110 p same in absurd (omega (arith, in_range.0, in_range.1))
  value_one (numeral x) (truth true) m n p q r s rs ss same = let in_range =
      number_first x r _ 116 p same in absurd (omega (arith, in_range.0, in_range.1))
  value_one (numeral x) (truth false) m n p q r s rs ss same = let in_range =
      number_first x r _ 102 p same in absurd (omega (arith, in_range.0, in_range.1))
  value_one (numeral x) (numeral y) m n p q r s rs ss same = let cut =
      one_cut IsNumeric x y r s (number_numeric x p) (number_numeric y q) rs ss same in (ap numeral cut.0, cut.1)
  value_one (numeral x) (quoted y) m n p q r s rs ss same = let in_range =
      number_first x r _ 34 p same in absurd (omega (arith, in_range.0, in_range.1))
  value_one (numeral x) (array y fs) m n p q r s rs ss same = let in_range =
      number_first x r _ 91 p same in absurd (omega (arith, in_range.0, in_range.1))
  value_one (numeral x) (object y ns) m n p q r s rs ss same = let in_range =
      number_first x r _ 123 p same in absurd (omega (arith, in_range.0, in_range.1))
  value_one (quoted x) null m n p q r s rs ss same = let e : ◌≡◌ {A = ℕ} 34 110 = cc in absurd (omega (arith, e))
  value_one (quoted x) (truth true) m n p q r s rs ss same = let e : ◌≡◌ {A = ℕ} 34 116 =
      cc in absurd (omega (arith, e))
  value_one (quoted x) (truth false) m n p q r s rs ss same = let e : ◌≡◌ {A = ℕ} 34 102 =
      cc in absurd (omega (arith, e))
  value_one (quoted x) (numeral y) m n p q r s rs ss same = let in_range =
      number_first y s _ 34 q (sym same) in absurd (omega (arith, in_range.0, in_range.1))
  value_one (quoted x) (quoted y) m n p q r s rs ss same =
      let texts : 34 ∷ (chars_text x ++ 34 ∷ r) ≡ 34 ∷ (chars_text y ++ 34 ∷ s) = sym (key_text x r)
      ∙ (same ∙ key_text y s) in
      let rest : chars_text x ++ 34 ∷ r ≡ chars_text y ++ 34 ∷ s = cc in
      let cut = chars_cut x y r s p q rest in (ap quoted cut.0, cut.1)
  value_one (quoted x) (array y fs) m n p q r s rs ss same = let e : ◌≡◌ {A = ℕ} 34 91 = cc in absurd (omega (arith, e))
  value_one (quoted x) (object y ns) m n p q r s rs ss same = let e : ◌≡◌ {A = ℕ} 34 123 =
      cc in absurd (omega (arith, e))
  value_one (array x es) null m n p q r s rs ss same = let e : ◌≡◌ {A = ℕ} 91 110 = cc in absurd (omega (arith, e))
  value_one (array x es) (truth true) m n p q r s rs ss same = let e : ◌≡◌ {A = ℕ} 91 116 =
      cc in absurd (omega (arith, e))
  value_one (array x es) (truth false) m n p q r s rs ss same = let e : ◌≡◌ {A = ℕ} 91 102 =
      cc in absurd (omega (arith, e))
  value_one (array x es) (numeral y) m n p q r s rs ss same = let in_range =
      number_first y s _ 91 q (sym same) in absurd (omega (arith, in_range.0, in_range.1))
  value_one (array x es) (quoted y) m n p q r s rs ss same = let e : ◌≡◌ {A = ℕ} 91 34 = cc in absurd (omega (arith, e))
  value_one (array x es) (array y fs) zero n p q r s rs ss same = absurd p
  value_one (array x es) (array y fs) (suc m) zero p q r s rs ss same = absurd q
  value_one (array x es) (array y fs) (suc m) (suc n) p q r s rs ss same =
      let rest : (x ++ (elements_text es ++ 93 ∷ [])) ++ r ≡ (y ++ (elements_text fs ++ 93 ∷ [])) ++ s = cc in
      let (blank, all, behind) = elements_one es fs m n x y r s p.0 q.0 p.1 q.1
      (sym (bracketed x (elements_text es) r 93) ∙ (rest ∙ bracketed y (elements_text fs) s 93)) in
      (ap (λ z. array z es) blank ∙ ap (λ z. array y z) all, behind)
  value_one (array x es) (object y ns) m n p q r s rs ss same = let e : ◌≡◌ {A = ℕ} 91 123 =
      cc in absurd (omega (arith, e))
  value_one (object x ms) null m n p q r s rs ss same = let e : ◌≡◌ {A = ℕ} 123 110 = cc in absurd (omega (arith, e))
  value_one (object x ms) (truth true) m n p q r s rs ss same = let e : ◌≡◌ {A = ℕ} 123 116 =
      cc in absurd (omega (arith, e))
  value_one (object x ms) (truth false) m n p q r s rs ss same = let e : ◌≡◌ {A = ℕ} 123 102 =
      cc in absurd (omega (arith, e))
  value_one (object x ms) (numeral y) m n p q r s rs ss same = let in_range =
      number_first y s _ 123 q (sym same) in absurd (omega (arith, in_range.0, in_range.1))
  value_one (object x ms) (quoted y) m n p q r s rs ss same = let e : ◌≡◌ {A = ℕ} 123 34 =
      cc in absurd (omega (arith, e))
  value_one (object x ms) (array y fs) m n p q r s rs ss same = let e : ◌≡◌ {A = ℕ} 123 91 =
      cc in absurd (omega (arith, e))
  value_one (object x ms) (object y ns) zero n p q r s rs ss same = absurd p
  value_one (object x ms) (object y ns) (suc m) zero p q r s rs ss same = absurd q
  value_one (object x ms) (object y ns) (suc m) (suc n) p q r s rs ss same =
      let rest : (x ++ (members_text ms ++ 125 ∷ [])) ++ r ≡ (y ++ (members_text ns ++ 125 ∷ [])) ++ s = cc in
      let (blank, all, behind) = members_one ms ns m n x y r s p.0 q.0 p.1 q.1
      (sym (bracketed x (members_text ms) r 125) ∙ (rest ∙ bracketed y (members_text ns) s 125)) in
      (ap (λ z. object z ms) blank ∙ ap (λ z. object y z) all, behind)
  value_one v w m n p q r s rs ss same = (refl, cc)

  elements_one : (es fs : Elements) (m n : ℕ) (a b r s : List ℕ) → IsArrayBlank a es → IsArrayBlank b fs
      → AreElements m es → AreElements n fs
      → a ++ (elements_text es ++ 93 ∷ r) ≡ b ++ (elements_text fs ++ 93 ∷ s) → (a ≡ b) × (es ≡ fs) × (r ≡ s)
  elements_one no_element no_element m n a b r s ba bb p q same =
      let cut = blank_cut a b (93 ∷ r) (93 ∷ s) ba bb (other_byte 93 r (omega arith)) (other_byte 93 s (omega arith))
      same in (cut.0, refl, same_rest 93 93 r s cut.1)
  elements_one no_element (element d w h fs) m n a b r s ba bb p q same =
      absurd (no_closed a d r (spelling w ++ (h ++ (elements_behind fs ++ 93 ∷ s))) ba q.0 (value_begins w n _ q.1)
      (same ∙ (ap (λ z. z ++ (elements_text (element d w h fs) ++ 93 ∷ s)) bb
      ∙ four_texts d (spelling w) h (elements_behind fs) (93 ∷ s))))
  elements_one (element c v g es) no_element m n a b r s ba bb p q same =
      absurd (no_closed b c s (spelling v ++ (g ++ (elements_behind es ++ 93 ∷ r))) bb p.0 (value_begins v m _ p.1)
      (sym same ∙ (ap (λ z. z ++ (elements_text (element c v g es) ++ 93 ∷ r)) ba
      ∙ four_texts c (spelling v) g (elements_behind es) (93 ∷ r))))
  elements_one (element c v g es) (element d w h fs) m n a b r s ba bb p q same =
      let texts : c ++ (spelling v ++ (g ++ (elements_behind es ++ 93 ∷ r))) ≡ d
      ++ (spelling w ++ (h ++ (elements_behind fs ++ 93 ∷ s))) =
      sym (ap (λ z. z ++ (elements_text (element c v g es) ++ 93 ∷ r)) ba
      ∙ four_texts c (spelling v) g (elements_behind es) (93 ∷ r))
      ∙ (same ∙ (ap (λ z. z ++ (elements_text (element d w h fs) ++ 93 ∷ s)) bb
      ∙ four_texts d (spelling w) h (elements_behind fs) (93 ∷ s))) in
      let parts = valued v w m n c d g h _ _ p.1 q.1 p.0 q.0 p.2 q.2 (behind_ends es r) (behind_ends fs s)
      (value_one v w m n p.1 q.1) texts in
      let more = behind_one es fs m n r s p.3 q.3 parts.rest in
      (ba ∙ sym bb, same_element c d v w g h es fs _ _ parts more.0, more.1)

  behind_one : (es fs : Elements) (m n : ℕ) (r s : List ℕ) → AreElements m es → AreElements n fs
      → elements_behind es ++ 93 ∷ r ≡ elements_behind fs ++ 93 ∷ s → (es ≡ fs) × (r ≡ s)
  behind_one no_element no_element m n r s p q same = (refl, same_rest 93 93 r s same)
  behind_one no_element (element d w h fs) m n r s p q same = let e : ◌≡◌ {A = ℕ} 93 44 =
      cc in absurd (omega (arith, e))
  behind_one (element c v g es) no_element m n r s p q same = let e : ◌≡◌ {A = ℕ} 44 93 =
      cc in absurd (omega (arith, e))
  behind_one (element c v g es) (element d w h fs) m n r s p q same =
      let texts : c ++ (spelling v ++ (g ++ (elements_behind es ++ 93 ∷ r))) ≡ d
      ++ (spelling w ++ (h ++ (elements_behind fs ++ 93 ∷ s))) =
      sym (four_texts c (spelling v) g (elements_behind es) (93 ∷ r))
      ∙ (same_rest 44 44 _ _ same ∙ four_texts d (spelling w) h (elements_behind fs) (93 ∷ s)) in
      let parts = valued v w m n c d g h _ _ p.1 q.1 p.0 q.0 p.2 q.2 (behind_ends es r) (behind_ends fs s)
      (value_one v w m n p.1 q.1) texts in
      let more = behind_one es fs m n r s p.3 q.3 parts.rest in
      (same_element c d v w g h es fs _ _ parts more.0, more.1)

  members_one : (ms ns : Members) (m n : ℕ) (a b r s : List ℕ) → IsObjectBlank a ms → IsObjectBlank b ns
      → AreMembers m ms → AreMembers n ns
      → a ++ (members_text ms ++ 125 ∷ r) ≡ b ++ (members_text ns ++ 125 ∷ s) → (a ≡ b) × (ms ≡ ns) × (r ≡ s)
  members_one no_member no_member m n a b r s ba bb p q same =
      let cut = blank_cut a b (125 ∷ r) (125 ∷ s) ba bb (other_byte 125 r (omega arith))
      (other_byte 125 s (omega arith)) same in (cut.0, refl, same_rest 125 125 r s cut.1)
  members_one no_member (member d l e f w h ns) m n a b r s ba bb p q same =
      absurd (no_key a d r (chars_text l ++ 34 ∷ [])
      (e ++ 58 ∷ (f ++ (spelling w ++ (h ++ (members_behind ns ++ 125 ∷ s))))) ba q.0
      (same ∙ (ap (λ z. z ++ (members_text (member d l e f w h ns) ++ 125 ∷ s)) bb
      ∙ seven_texts d (quoted_text l) e f (spelling w) h (members_behind ns) (125 ∷ s))))
  members_one (member c k e f v g ms) no_member m n a b r s ba bb p q same =
      absurd (no_key b c s (chars_text k ++ 34 ∷ [])
      (e ++ 58 ∷ (f ++ (spelling v ++ (g ++ (members_behind ms ++ 125 ∷ r))))) bb p.0
      (sym same ∙ (ap (λ z. z ++ (members_text (member c k e f v g ms) ++ 125 ∷ r)) ba
      ∙ seven_texts c (quoted_text k) e f (spelling v) g (members_behind ms) (125 ∷ r))))
  members_one (member c k i j v g ms) (member d l e f w h ns) m n a b r s ba bb p q same =
      let texts = sym (ap (λ z. z ++ (members_text (member c k i j v g ms) ++ 125 ∷ r)) ba
      ∙ seven_texts c (quoted_text k) i j (spelling v) g (members_behind ms) (125 ∷ r))
      ∙ (same ∙ (ap (λ z. z ++ (members_text (member d l e f w h ns) ++ 125 ∷ s)) bb
      ∙ seven_texts d (quoted_text l) e f (spelling w) h (members_behind ns) (125 ∷ s))) in
      let keys = keyed c d i e (j ++ (spelling v ++ (g ++ (members_behind ms ++ 125 ∷ r))))
      (f ++ (spelling w ++ (h ++ (members_behind ns ++ 125 ∷ s)))) k l p.0 q.0 p.1 q.1 p.2 q.2 texts in
      let parts = valued v w m n j f g h _ _ p.4 q.4 p.3 q.3 p.5 q.5 (members_end ms r) (members_end ns s)
      (value_one v w m n p.4 q.4) keys.rest in
      let more = others_one ms ns m n r s p.6 q.6 parts.rest in
      (ba ∙ sym bb, same_member c d k l i e j f v w g h ms ns _ _ _ _ keys parts more.0, more.1)

  others_one : (ms ns : Members) (m n : ℕ) (r s : List ℕ) → AreMembers m ms → AreMembers n ns
      → members_behind ms ++ 125 ∷ r ≡ members_behind ns ++ 125 ∷ s → (ms ≡ ns) × (r ≡ s)
  others_one no_member no_member m n r s p q same = (refl, same_rest 125 125 r s same)
  others_one no_member (member d l e f w h ns) m n r s p q same = let e : ◌≡◌ {A = ℕ} 125 44 =
      cc in absurd (omega (arith, e))
  others_one (member c k i j v g ms) no_member m n r s p q same = let e : ◌≡◌ {A = ℕ} 44 125 =
      cc in absurd (omega (arith, e))
  others_one (member c k i j v g ms) (member d l e f w h ns) m n r s p q same =
      let texts = sym (seven_texts c (quoted_text k) i j (spelling v) g (members_behind ms) (125 ∷ r))
      ∙ (same_rest 44 44 _ _ same ∙ seven_texts d (quoted_text l) e f (spelling w) h (members_behind ns)
      (125 ∷ s)) in
      let keys = keyed c d i e (j ++ (spelling v ++ (g ++ (members_behind ms ++ 125 ∷ r))))
      (f ++ (spelling w ++ (h ++ (members_behind ns ++ 125 ∷ s)))) k l p.0 q.0 p.1 q.1 p.2 q.2 texts in
      let parts = valued v w m n j f g h _ _ p.4 q.4 p.3 q.3 p.5 q.5 (members_end ms r) (members_end ns s)
      (value_one v w m n p.4 q.4) keys.rest in
      let more = others_one ms ns m n r s p.6 q.6 parts.rest in
      (same_member c d k l i e j f v w g h ms ns _ _ _ _ keys parts more.0, more.1)

-- white space alone ends a number
all_blank : (text : List ℕ) → AreBlank text → StopsAt IsNumeric text
all_blank [] is = tt
all_blank (byte ∷ text) is = λ numeric. let low = low_blank byte is.0 in let high =
    (no_numeric byte numeric).0 in omega (arith, low, high)

-- no text without a mark begins as the mark does
no_mark : (before rest tail : List ℕ) → AreBlank before → Begins rest → 0xEF ∷ tail ≡ before ++ rest → ⊥
no_mark [] [] tail blank begins same = absurd begins
no_mark [] (byte ∷ rest) tail blank begins same = let e : 0xEF ≡ byte = cc in omega (arith, begins.2, e)
no_mark (byte ∷ before) rest tail blank begins same = let e : 0xEF ≡ byte = cc in let low =
    low_blank byte blank.0 in omega (arith, low, e)

unmarked : (v w : Json) (m n : ℕ) (a b c d : List ℕ) → IsValue m v → IsValue n w → AreBlank a → AreBlank b → AreBlank c
    → AreBlank d → a ++ (spelling v ++ c) ≡ b ++ (spelling w ++ d) → (v ≡ w) × (a ≡ b)
unmarked v w m n a b c d vs ws ba bb cs ds same =
    let front = blank_cut a b (spelling v ++ c) (spelling w ++ d) ba bb (begun_stops _ (value_begins v m c vs))
    (begun_stops _ (value_begins w n d ws)) same in
    ((value_one v w m n vs ws c d (all_blank c cs) (all_blank d ds) front.1).0, front.0)

marked : (p q : Bool) (v w : Json) (m n : ℕ) (a b c d : List ℕ) → IsValue m v → IsValue n w → AreBlank a → AreBlank b
    → AreBlank c → AreBlank d
    → mark_text p ++ (a ++ (spelling v ++ c)) ≡ mark_text q ++ (b ++ (spelling w ++ d))
    → (v ≡ w) × (length (mark_text p) + length a ≡ length (mark_text q) + length b)
marked true true v w m n a b c d vs ws ba bb cs ds same =
    let rest : a ++ (spelling v ++ c) ≡ b ++ (spelling w ++ d) = cc in
    let both = unmarked v w m n a b c d vs ws ba bb cs ds rest in (both.0, ap (λ (t : List ℕ). 3 + length t) both.1)
marked true false v w m n a b c d vs ws ba bb cs ds same =
    absurd (no_mark b (spelling w ++ d) _ bb (value_begins w n d ws) same)
marked false true v w m n a b c d vs ws ba bb cs ds same =
    absurd (no_mark a (spelling v ++ c) _ ba (value_begins v m c vs) (sym same))
marked false false v w m n a b c d vs ws ba bb cs ds same =
    let both = unmarked v w m n a b c d vs ws ba bb cs ds same in (both.0, ap (λ (t : List ℕ). 0 + length t) both.1)

-- a text has one value and one place of it, whatever its depth
pub one_place : (m n : ℕ) (bytes : List ℕ) (whole other : Whole) → IsWhole m whole bytes → IsWhole n other bytes
    → (whole.value ≡ other.value) × (whole_start whole ≡ whole_start other)
one_place m n bytes whole other x y =
    marked whole.marked other.marked whole.value other.value m n whole.before other.before whole.after other.after
    x.value y.value x.before y.before x.after y.after (sym x.all ∙ y.all)

pub one_value : (m n : ℕ) (bytes : List ℕ) (whole other : Whole) → IsWhole m whole bytes → IsWhole n other bytes
    → whole.value ≡ other.value
one_value m n bytes whole other x y = (one_place m n bytes whole other x y).0
