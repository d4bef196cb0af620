-- Lines of lists at the start of a text, number by number.
use Rattle.std.proofs.Common.{◌≡◌, ◌≢◌, ℕ, zero, suc, ◌+◌, ◌<◌, ◌≤◌, Bool, true, false, List, [], ◌∷◌, ◌++◌, length}
use Rattle.std.proofs.Common.{refl, sym, ◌∙◌, ap, ap₂, subst, append_assoc, arith}
use Rattle.std.specs.Fmt.{decimal}
use Rattle.std.specs.List.{AllByRecursion}
use Rattle.std.proofs.lemmas.List.{length-append, append-nil, append_cancel_left}
use Rattle.std.proofs.lemmas.Grind.{flat_map-append}
use Rattle.plain_laws.proofs.Lists.{all_append}
use Rattle.cert_check.specs.Certificates.{head_text, line_text, lines_text, IsList, IsCertificate}
use Rattle.cert_check.specs.Lines.{IsLine, BeginsWithLine, HasNoLine, AreLines, IsBadBehind, IsBadLine, HasCount}
use Rattle.cert_check.specs.InsideNumbers.{IsEnded}
use Rattle.cert_check.proofs.Digits.{IsOneEnd, one_end}

-- what comes after a number: nothing more of the line, or the line that the other numbers make
abbrev pub GoesOn : Bool → List ℕ → List ℕ → Type 0
GoesOn true behind rest = behind ≡ rest
GoesOn false behind rest = BeginsWithLine behind rest

-- ---- a number at the front
pub number_before : (text : List ℕ) (n : ℕ) (last : Bool) (behind rest : List ℕ) → IsEnded text n last behind
    → GoesOn last behind rest → BeginsWithLine text rest
number_before text n true behind rest h e = (
  n ∷ [],
  record {
    list = record { some = omega arith; below = (h.small, tt) };
    spelled = h.spelled ∙ ap (λ (xs : List ℕ). decimal n ++ 10 ∷ xs) e ∙ sym (append_assoc (decimal n) (10 ∷ []) rest);
  },
)
number_before text n false behind rest h ([], line) = grind arith
number_before text n false behind rest h (m ∷ ns, line) = (
  n ∷ m ∷ ns,
  record {
    list = record { some = omega arith; below = (h.small, let list = line.list in list.below) };
    spelled = grind (arith, append_assoc);
  },
)

-- how a line begins
pub record LineFront (text rest : List ℕ) : Type 0 where
  pub number : ℕ
  pub last : Bool
  pub behind : List ℕ
  pub ended : IsEnded text number last behind
  pub goes_on : GoesOn last behind rest

pub line_front : (text rest : List ℕ) → BeginsWithLine text rest → LineFront text rest
line_front text rest ([], line) = grind arith
line_front text rest (n ∷ [], line) = grind (arith, append_assoc)
line_front text rest (n ∷ m ∷ ns, line) = record {
  number = n;
  last = false;
  behind = line_text (m ∷ ns) ++ rest;
  ended = grind (arith, append_assoc);
  goes_on = (
    m ∷ ns,
    record {
      list = record { some = omega arith; below = (let list = line.list in list.below.1) };
      spelled = refl;
    },
  );
}

-- the first number of a line is the one that the text begins with
pub line_behind : (text : List ℕ) (n : ℕ) (last : Bool) (behind rest : List ℕ) → IsEnded text n last behind
    → BeginsWithLine text rest → GoesOn last behind rest
line_behind text n last behind rest h line = go (line_front text rest line)
  where
    go : LineFront text rest → GoesOn last behind rest
    go f =
        let one = one_end text f.number n f.last last f.behind behind f.ended h in
        subst (λ (xs : List ℕ). GoesOn last xs rest) one.behind
        (subst (λ (b : Bool). GoesOn b f.behind rest) one.ends f.goes_on)

-- ---- on the way through a line: its line is the rest's
pub record IsOnLine (text rest : List ℕ) : Type 0 where
  pub to : (more : List ℕ) → BeginsWithLine rest more → BeginsWithLine text more
  pub from : (more : List ℕ) → BeginsWithLine text more → BeginsWithLine rest more

pub on_more : (text rest : List ℕ) (n : ℕ) (last : Bool) (behind : List ℕ) → IsOnLine text rest → last ≡ false
    → IsEnded rest n last behind → IsOnLine text behind
on_more text rest n last behind on e h =
    grind (arith, number_before rest n false behind, line_behind rest n false behind)

pub on_last : (text rest : List ℕ) (n : ℕ) (last : Bool) (behind : List ℕ) → IsOnLine text rest → last ≡ true
    → IsEnded rest n last behind → BeginsWithLine text behind
on_last text rest n last behind on e h = on.to behind
    (number_before rest n true behind behind (subst (λ (b : Bool). IsEnded rest n b behind) e h) refl)

pub on_none : (text rest : List ℕ) → IsOnLine text rest
    → ((n : ℕ) (last : Bool) (more : List ℕ) → IsEnded rest n last more → ⊥) → HasNoLine text
on_none text rest on none more line = grind (arith, line_front rest more (on.from more line))

-- a number is not nothing
pub shorter : (text : List ℕ) (n : ℕ) (last : Bool) (behind : List ℕ) → IsEnded text n last behind
    → length behind < length text
shorter text n last behind h = grind (arith, length-append)

pub line_shorter : (text rest : List ℕ) → BeginsWithLine text rest → length rest < length text
line_shorter text rest line = go (line_front text rest line)
  where
    tail : (last : Bool) (behind : List ℕ) → length behind < length text → GoesOn last behind rest
        → length rest < length text
    tail true behind h e = subst (λ (xs : List ℕ). length xs < length text) e h
    tail false behind h (ns, line) = below (length (line_text ns)) (length rest) (length behind) (length text)
        (ap (λ (xs : List ℕ). length xs) line.spelled ∙ length-append (line_text ns) rest) h
      where
        below : (a b c d : ℕ) → c ≡ a + b → c < d → b < d
        below a b c d e h = omega arith

    go : LineFront text rest → length rest < length text
    go f = tail f.last f.behind (shorter text f.number f.last f.behind f.ended) f.goes_on

-- ---- line by line
pub record AreLinesSoFar (text rest : List ℕ) (count : ℕ) : Type 0 where
  pub lists : List (List ℕ)
  pub are_lists : AllByRecursion IsList lists
  pub counted : length lists ≡ count
  pub spelled : text ≡ lines_text lists ++ rest
  pub few : count + length rest ≤ length text

pub lines_start : (text rest : List ℕ) → rest ≡ text → AreLinesSoFar text rest 0
lines_start text rest e = subst (λ (xs : List ℕ). AreLinesSoFar text xs 0) (sym e)
    (record { lists = []; are_lists = tt; counted = refl; spelled = refl; few = omega arith })

pub lines_more : (text rest behind : List ℕ) (count : ℕ) → AreLinesSoFar text rest count → BeginsWithLine rest behind
    → AreLinesSoFar text behind (count + 1)
lines_more text rest behind count far line =
    grind (
      arith,
      all_append IsList far.lists (line.0 ∷ []) far.are_lists,
      length-append far.lists (line.0 ∷ []),
      append_assoc,
      line_shorter rest behind line,
      flat_map-append,
      append-nil,
    )

pub lines_end : (text rest : List ℕ) (count : ℕ) → AreLinesSoFar text rest count → rest ≡ [] → AreLines text count
lines_end text rest count far e = grind (arith, append-nil)

pub lines_bad : (text rest : List ℕ) (count : ℕ) → AreLinesSoFar text rest count → rest ≢ [] → HasNoLine rest
    → IsBadBehind text count
lines_bad text rest count far some bad = grind arith

-- ---- with the first line
pub count_of : (bytes text : List ℕ) (count : ℕ) → bytes ≡ head_text ++ text → AreLines text count
    → HasCount bytes count
count_of bytes text count e lines =
    (lines.0, lines.1, record { are_lists = lines.2; spelled = e ∙ ap (λ (xs : List ℕ). head_text ++ xs) lines.3 })

pub bad_line : (bytes text : List ℕ) (count line : ℕ) → bytes ≡ head_text ++ text → IsBadBehind text count
    → line ≡ count + 2 → IsBadLine bytes line
bad_line bytes text count line e bad is = subst (IsBadLine bytes) (sym (is ∙ two count)) (text, e, bad)
  where
    two : (n : ℕ) → n + 2 ≡ suc (suc n)
    two n = omega arith

-- ---- one reading
ends : List ℕ → Bool
ends [] = true
ends (n ∷ ns) = false

tail_text : List ℕ → List ℕ → List ℕ
tail_text [] rest = rest
tail_text (n ∷ ns) rest = line_text (n ∷ ns) ++ rest

first_ended : (text : List ℕ) (n : ℕ) (ns rest : List ℕ) → IsLine text (n ∷ ns) rest
    → IsEnded text n (ends ns) (tail_text ns rest)
unfolding ends tail_text
first_ended text n [] rest line = record {
  small = (let list = line.list in list.below.0);
  spelled = line.spelled
      ∙ append_assoc (decimal n) (10 ∷ []) rest;
}
first_ended text n (m ∷ ns) rest line =
    record {
      small = (let list = line.list in list.below.0);
      spelled = line.spelled
          ∙ append_assoc (decimal n) (32 ∷ line_text (m ∷ ns)) rest;
    }

none_listed : IsList [] → ⊥
none_listed list = grind arith

other_numbers : (n m : ℕ) (ns : List ℕ) → IsList (n ∷ m ∷ ns) → IsList (m ∷ ns)
other_numbers n m ns list = record { some = omega arith; below = list.below.1 }

-- a text begins with one line
pub record IsOneLine (ns ms rest more : List ℕ) : Type 0 where
  pub numbers : ns ≡ ms
  pub behind : rest ≡ more

pub one_line : (text ns ms rest more : List ℕ) → IsLine text ns rest → IsLine text ms more → IsOneLine ns ms rest more
unfolding ends tail_text
one_line text [] ms rest more h k = absurd (none_listed h.list)
one_line text (n ∷ ns) [] rest more h k = absurd (none_listed k.list)
one_line text (n ∷ ns) (m ∷ ms) rest more h k =
    go ns ms (λ (t js : List ℕ) (a : IsLine t ns rest) (b : IsLine t js more). one_line t ns js rest more a b) h.list
    k.list
    (one_end text n m (ends ns) (ends ms) (tail_text ns rest) (tail_text ms more) (first_ended text n ns rest h)
    (first_ended text m ms more k))
  where
    go : (ns ms : List ℕ) → ((t js : List ℕ) → IsLine t ns rest → IsLine t js more → IsOneLine ns js rest more)
        → IsList (n ∷ ns) → IsList (m ∷ ms)
        → IsOneEnd n m (ends ns) (ends ms) (tail_text ns rest) (tail_text ms more)
        → IsOneLine (n ∷ ns) (m ∷ ms) rest more
    go [] [] others a b same = record { numbers = ap (λ (k : ℕ). k ∷ []) same.number; behind = same.behind }
    go (i ∷ ns) (j ∷ ms) others a b same =
        let later = others (line_text (i ∷ ns) ++ rest) (j ∷ ms)
        (record { list = other_numbers n i ns a; spelled = refl })
        (record { list = other_numbers m j ms b; spelled = same.behind }) in
        record { numbers = ap₂ (λ (k : ℕ) (ks : List ℕ). k ∷ ks) same.number later.numbers; behind = later.behind }
    go ns ms others a b same = absurd (let e = same.ends in cc)

-- the lines of lists are not nothing
pub not_nothing : (numbers rest : List ℕ) → IsList numbers → [] ≡ line_text numbers ++ rest → ⊥
not_nothing numbers rest list e = none (length rest)
    (line_shorter [] rest (numbers, record { list = list; spelled = e }))
  where
    none : (k : ℕ) → k < length {A = ℕ} [] → ⊥
    none k h = absurd (omega arith)

pub one_certificate : (lists others : List (List ℕ)) → AllByRecursion IsList lists → AllByRecursion IsList others
    → lines_text lists ≡ lines_text others → lists ≡ others
one_certificate [] [] h k e = refl
one_certificate [] (other ∷ others) h k e = absurd (not_nothing other (lines_text others) k.0 e)
one_certificate (list ∷ lists) [] h k e = absurd (not_nothing list (lines_text lists) h.0 (sym e))
one_certificate (list ∷ lists) (other ∷ others) h k e =
    let first = one_line (line_text list ++ lines_text lists) list other (lines_text lists) (lines_text others)
    (record { list = h.0; spelled = refl }) (record { list = k.0; spelled = e }) in
    grind (arith, one_certificate lists others h.1 k.1 first.behind)

-- ---- a certificate has no bad line
no_bad_behind : (lists before : List (List ℕ)) (rest : List ℕ) → AllByRecursion IsList lists
    → AllByRecursion IsList before → lines_text lists ≡ lines_text before ++ rest → rest ≢ [] → HasNoLine rest → ⊥
no_bad_behind [] [] rest h k e some bad = some (sym e)
no_bad_behind (list ∷ lists) [] rest h k e some bad =
    bad (lines_text lists) (list, record { list = h.0; spelled = sym e })
no_bad_behind [] (first ∷ before) rest h k e some bad =
    not_nothing first (lines_text before ++ rest) k.0 (e ∙ append_assoc (line_text first) (lines_text before) rest)
no_bad_behind (list ∷ lists) (first ∷ before) rest h k e some bad =
    let same = one_line (line_text list ++ lines_text lists) list first (lines_text lists) (lines_text before ++ rest)
    (record { list = h.0; spelled = refl })
    (record { list = k.0; spelled = e ∙ append_assoc (line_text first) (lines_text before) rest }) in
    no_bad_behind lists before rest h.1 k.1 same.behind some bad

pub no_bad_line : (bytes : List ℕ) (lists : List (List ℕ)) (line : ℕ) → IsCertificate bytes lists → IsBadLine bytes line
    → ⊥
no_bad_line bytes lists zero cert bad = bad
no_bad_line bytes lists (suc zero) cert bad = bad (lines_text lists) cert.spelled
no_bad_line bytes lists (suc (suc count)) cert (text, is, bad) = grind (arith, append_cancel_left, no_bad_behind)
