-- The numbers of a line as they are read, and the lines that are left.
use Rattle.std.proofs.Common.{◌≡◌, ℕ, suc, ◌+◌, ◌*◌, ◌<◌, ◌≤◌, Bool, true, false, List, [], ◌∷◌, ◌++◌, length}
use Rattle.std.proofs.Common.{append_assoc, refl, sym, ◌∙◌, ap, subst, arith}
use Rattle.std.specs.Prelude.{◌^◌}
use Rattle.std.specs.List.{AllByRecursion}
use Rattle.std.specs.Fmt.{decimal}
use Rattle.std.proofs.lemmas.List.{length-append}
use Rattle.std.proofs.lemmas.Fmt.{decimal_nonempty}
use Rattle.cert_check.specs.Certificates.{line_text, lines_text, IsList}
use Rattle.cert_check.specs.Lines.{IsLine, BeginsWithLine}
use Rattle.cert_check.specs.InsideNumbers.{IsEnded}
use Rattle.cert_check.specs.InsideSheetLists.{HasLines}
use Rattle.cert_check.proofs.LineLaws.{IsOnLine, on_more, not_nothing, one_line}

-- ---- a number before a line, and a line of one number
none_some : 0 < length {A = ℕ} [] → ⊥
none_some h = absurd (omega arith)

number_line : (text : List ℕ) (n : ℕ) (behind ns rest : List ℕ) → IsEnded text n false behind → IsLine behind ns rest
    → IsLine text (n ∷ ns) rest
number_line text n behind ns rest ended line = grind (arith, none_some, append_assoc)

last_line : (text : List ℕ) (n : ℕ) (behind : List ℕ) → IsEnded text n true behind → IsLine text (n ∷ []) behind
last_line text n behind ended = grind (arith, append_assoc)

-- ---- the numbers so far
pub record IsReadTo (text rest numbers : List ℕ) : Type 0 where
  pub on : IsOnLine text rest
  pub read : (ns more : List ℕ) → IsLine rest ns more → IsLine text (numbers ++ ns) more

pub read_more : (text rest numbers numbers' : List ℕ) (n : ℕ) (last : Bool) (behind : List ℕ)
    → IsReadTo text rest numbers → last ≡ false → IsEnded rest n last behind → numbers' ≡ numbers ++ n ∷ []
    → IsReadTo text behind numbers'
read_more text rest numbers numbers' n last behind so_far e ended is = record {
  on = on_more text rest n last behind so_far.on e ended;
  read = λ ns more line.
      subst (λ (xs : List ℕ). IsLine text (xs ++ ns) more) (sym is)
      (subst (λ (xs : List ℕ). IsLine text xs more) (sym (append_assoc numbers (n ∷ []) ns))
      (so_far.read (n ∷ ns) more (number_line rest n behind ns more
      (subst (λ (b : Bool). IsEnded rest n b behind) e ended) line)));
}

pub read_last : (text rest numbers numbers' : List ℕ) (n : ℕ) (last : Bool) (behind : List ℕ)
    → IsReadTo text rest numbers → last ≡ true → IsEnded rest n last behind → numbers' ≡ numbers ++ n ∷ []
    → IsLine text numbers' behind
read_last text rest numbers numbers' n last behind so_far e ended is =
    subst (λ (xs : List ℕ). IsLine text xs behind) (sym is)
    (so_far.read (n ∷ []) behind (last_line rest n behind (subst (λ (b : Bool). IsEnded rest n b behind) e ended)))

-- ---- each number has a digit and a byte that ends it
wide : (n : ℕ) → n < 2 ^ 32 → n < 2 ^ 64
wide n h = omega arith

one_long : (k d : ℕ) → k ≡ d + 1 → 0 < d → 2 * 1 ≤ k
one_long k d e h = omega arith

long : (ns : List ℕ) → AllByRecursion (λ n. n < 2 ^ 32) ns → 2 * length ns ≤ length (line_text ns)
long [] h = omega arith
long (n ∷ []) h = one_long (length (decimal n ++ 10 ∷ [])) (length (decimal n)) (length-append (decimal n) (10 ∷ []))
    (decimal_nonempty n (wide n h.0))
long (n ∷ m ∷ ns) h = grind (arith, length-append, decimal_nonempty, wide, long (m ∷ ns) h.1)

pub line_long : (text numbers rest : List ℕ) → IsLine text numbers rest → 2 * length numbers + length rest ≤ length text
line_long text numbers rest line = grind (arith, length-append, long)

-- ---- the lines that are left
pub record LinesLeft (all lists : List (List ℕ)) (rest : List ℕ) : Type 0 where
  pub others : List (List ℕ)
  pub are : all ≡ lists ++ others
  pub are_lists : AllByRecursion IsList others
  pub spelled : rest ≡ lines_text others

pub lines_left : (all lists : List (List ℕ)) (rest : List ℕ) → AllByRecursion IsList all → AllByRecursion IsList lists
    → lines_text all ≡ lines_text lists ++ rest → LinesLeft all lists rest
lines_left all [] rest h k e = record { others = all; are = refl; are_lists = h; spelled = sym e }
lines_left [] (first ∷ lists) rest h k e = grind (arith, not_nothing, append_assoc)
lines_left (list ∷ all) (first ∷ lists) rest h k e =
    let same = one_line (line_text list ++ lines_text all) list first (lines_text all) (lines_text lists ++ rest)
    (record { list = h.0; spelled = refl })
    (record { list = k.0; spelled = e ∙ append_assoc (line_text first) (lines_text lists) rest }) in
    grind (arith, lines_left all lists rest h.1 k.1 same.behind)

pub still_lines : (text rest : List ℕ) (lists : List (List ℕ)) (j n : ℕ) → HasLines text n
    → text ≡ lines_text lists ++ rest → AllByRecursion IsList lists → length lists ≡ j → j < n
    → (more : List ℕ) × BeginsWithLine rest more
still_lines text rest lists j n has e are count h = go left.others left.are left.are_lists left.spelled
  where
    left : LinesLeft has.lists lists rest
    left = lines_left has.lists lists rest has.are_lists are (sym has.spelled ∙ e)

    none : (k l : ℕ) → k ≡ l + 0 → l ≡ j → n ≤ k → ⊥
    none k l e f g = absurd (omega arith)

    go : (others : List (List ℕ)) → has.lists ≡ lists ++ others → AllByRecursion IsList others
        → rest ≡ lines_text others → (more : List ℕ) × BeginsWithLine rest more
    go [] is lists_are spelled = absurd (none (length has.lists) (length lists)
        (ap (λ (ls : List (List ℕ)). length ls) is ∙ length-append lists []) count has.enough)
    go (list ∷ others) is lists_are spelled =
        (lines_text others, (list, record { list = lists_are.0; spelled = spelled }))

pub still_enough : (text rest : List ℕ) (lists : List (List ℕ)) (m n : ℕ) → HasLines text n
    → text ≡ lines_text lists ++ rest → AllByRecursion IsList lists → length lists + m ≤ n → HasLines rest m
still_enough text rest lists m n has e are h = record {
  lists = left.others;
  are_lists = left.are_lists;
  spelled = left.spelled;
  enough = grind (arith, rest_of, length-append);
}
  where
    left : LinesLeft has.lists lists rest
    left = lines_left has.lists lists rest has.are_lists are (sym has.spelled ∙ e)

    rest_of : (k l o : ℕ) → k ≡ l + o → n ≤ k → l + m ≤ n → m ≤ o
    rest_of k l o e f g = omega arith
