-- Lines as parts of a text: a text of lines is cut in one way.
use Rattle.std.proofs.Common.{◌≡◌, ℕ, List, [], ◌∷◌, ◌++◌, refl, sym, ◌∙◌, ap, arith, append_assoc, append-nil}
use Rattle.std.specs.List.{AllByRecursion}
use Rattle.report_text.specs.declared.lines.TheConstants.{LINE_FEED}
use Rattle.report_text.specs.Beginnings.{IsLine}
use Rattle.report_text.specs.Reports.{IsPrintable}
use Rattle.report_text.specs.ReportText.{text_of_lines}
use Rattle.report_text.proofs.LongerTexts.{text_of_lines-append}

-- bytes from 32 on are no line feeds
pub line_of_printable : (line : List ℕ) → IsPrintable line → IsLine line
line_of_printable [] printable = tt
line_of_printable (byte ∷ line) printable =
    let low = printable.0 in
    (λ is. let ten : byte ≡ 10 = is in omega (arith, low, ten), line_of_printable line printable.1)

-- two lines with their line feeds at the start of one text are one
pub record AreOneLine (a b x y : List ℕ) : Type 0 where
  pub line : a ≡ b
  pub behind : x ≡ y

pub one_line : (a b x y : List ℕ) → IsLine a → IsLine b → a ++ LINE_FEED ∷ x ≡ b ++ LINE_FEED ∷ y → AreOneLine a b x y
one_line [] [] x y is_a is_b same = record { line = refl; behind = cc }
one_line [] (c ∷ b) x y is_a is_b same = let head : c ≡ LINE_FEED = cc in absurd (is_b.0 head)
one_line (c ∷ a) [] x y is_a is_b same = let head : c ≡ LINE_FEED = cc in absurd (is_a.0 head)
one_line (c ∷ a) (d ∷ b) x y is_a is_b same =
    let head : c ≡ d = cc in
    let rest : a ++ LINE_FEED ∷ x ≡ b ++ LINE_FEED ∷ y = cc in
    let inner = one_line a b x y is_a.1 is_b.1 rest in
    record { line = cons_same head inner.line; behind = inner.behind }
  where
    cons_same : {c d : ℕ} {a b : List ℕ} → c ≡ d → a ≡ b → c ∷ a ≡ d ∷ b
    cons_same h t = cc

-- a line has no line feed in it
pub no_feed : (line front behind : List ℕ) → IsLine line → line ≡ front ++ LINE_FEED ∷ behind → ⊥
no_feed [] [] behind is same = cc
no_feed [] (c ∷ front) behind is same = cc
no_feed (b ∷ line) [] behind is same = let head : b ≡ LINE_FEED = cc in is.0 head
no_feed (b ∷ line) (c ∷ front) behind is same = let rest : line ≡ front ++ LINE_FEED ∷ behind =
    cc in no_feed line front behind is.1 rest

-- a text of lines whose front is a text of lines has these lines at its front
pub record AreFront (all front : List (List ℕ)) (rest : List ℕ) : Type 0 where
  pub more : List (List ℕ)
  pub whole : all ≡ front ++ more
  pub behind : rest ≡ text_of_lines more

pub front_lines : (all front : List (List ℕ)) (rest : List ℕ) → AllByRecursion IsLine all → AllByRecursion IsLine front
    → text_of_lines all ≡ text_of_lines front ++ rest → AreFront all front rest
front_lines all [] rest are_all are_front same = record { more = all; whole = refl; behind = sym same }
front_lines [] (line ∷ front) rest are_all are_front same =
    absurd (nothing line (text_of_lines front ++ rest)
    (same ∙ (append_assoc (line ++ LINE_FEED ∷ []) (text_of_lines front) rest
    ∙ append_assoc line (LINE_FEED ∷ []) (text_of_lines front ++ rest))))
  where
    nothing : (line behind : List ℕ) → [] ≡ line ++ LINE_FEED ∷ behind → ⊥
    nothing [] behind is = cc
    nothing (b ∷ line) behind is = cc
front_lines (first ∷ all) (line ∷ front) rest are_all are_front same =
    let left : (first ++ LINE_FEED ∷ []) ++ text_of_lines all ≡ first ++ LINE_FEED ∷ text_of_lines all =
    append_assoc first (LINE_FEED ∷ []) (text_of_lines all) in
    let right : ((line ++ LINE_FEED ∷ []) ++ text_of_lines front) ++ rest ≡ line ++ LINE_FEED
    ∷ (text_of_lines front ++ rest)
    = append_assoc (line ++ LINE_FEED ∷ []) (text_of_lines front) rest
    ∙ append_assoc line (LINE_FEED ∷ []) (text_of_lines front ++ rest) in
    let one = one_line first line (text_of_lines all) (text_of_lines front ++ rest) are_all.0 are_front.0
    (sym left ∙ (same ∙ right)) in
    let inner = front_lines all front rest are_all.1 are_front.1 one.behind in
    record { more = inner.more; whole = cons_same one.line inner.whole; behind = inner.behind }
  where
    cons_same : {c d : List ℕ} {a b : List (List ℕ)} → c ≡ d → a ≡ b → c ∷ a ≡ d ∷ b
    cons_same h t = cc

-- one more line after some
pub more_lines : (lines : List (List ℕ)) (line : List ℕ) → AllByRecursion IsLine lines → IsLine line
    → AllByRecursion IsLine (lines ++ line ∷ [])
more_lines [] line are is = (is, tt)
more_lines (first ∷ lines) line are is = (are.0, more_lines lines line are.1 is)

pub text_of_more : (lines : List (List ℕ)) (line : List ℕ)
    → text_of_lines (lines ++ line ∷ []) ≡ text_of_lines lines ++ (line ++ LINE_FEED ∷ [])
text_of_more lines line = text_of_lines-append lines (line ∷ [])
    ∙ ap (λ t. text_of_lines lines ++ t) (append-nil (line ++ LINE_FEED ∷ []))
