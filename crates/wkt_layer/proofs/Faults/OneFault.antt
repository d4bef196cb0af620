-- A text that is no layer has one first fault.
use Rattle.std.proofs.Common.{◌≡◌, inl, inr, ℕ, ◌+◌, Bool, List, [], ◌∷◌, ◌++◌, length, take, drop, Result}
use Rattle.std.proofs.Common.{Err, refl, sym, ◌∙◌, ap, subst, arith}
use Rattle.text_places.proofs.Fronts.{first_fault_unique}
use Rattle.mm_decimal.specs.declared.numerals.MmRead.{MmRead}
use Rattle.mm_decimal.specs.declared.numerals.NumFault.{NumFault}
use Rattle.sheet_base.specs.declared.faults.LayerFault.{LayerFault}
use Rattle.sheet_base.specs.declared.faults.LayerFault.TheVariants as faults
use Rattle.wkt_layer.specs.Tokens.{Number, Token, opening, comma, number, Placed, tokens_of}
use Rattle.std.specs.Prelude.{Option, Some, None}
use Rattle.wkt_layer.specs.Numbers.{Point}
use Rattle.wkt_layer.specs.Geometries.{third_tokens}
use Rattle.wkt_layer.specs.Lines.{IsLine, tokens_in}
use Rattle.wkt_layer.specs.Faults.{joined_points, EndsInPoints, Row, kind, height, deep, unread, inexact, ring, rank}
use Rattle.wkt_layer.specs.Faults.{Speaks, Decides, IsAnswer, IsTokenFault, IsFaultBehind, IsLineFault}
use Rattle.wkt_layer.specs.Layers.{geometry_lines, IsFirstLineFault, IsWktRefusedBy}
use Rattle.wkt_layer.proofs.SheetLaws.OneSheet.{line_apart}
use Rattle.plain_laws.proofs.Order.{trichotomy}

-- ---- the row that decides
row_of_rank : (row other : Row) → rank row ≡ rank other → row ≡ other
row_of_rank kind kind e = refl
row_of_rank height height e = refl
row_of_rank deep deep e = refl
row_of_rank unread unread e = refl
row_of_rank inexact inexact e = refl
row_of_rank ring ring e = refl
row_of_rank row other e = absurd (omega (arith, e))

row_one : (exact : Bool) (front : List Placed) (token : Token) (row other : Row) → Decides exact front token row
    → Decides exact front token other → row ≡ other
row_one exact front token row other x y = grind (arith, trichotomy, row_of_rank)

-- ---- the bracket that is open last
abbrev HasNone : List Token → Type 0
HasNone [] = Unit {0}
HasNone (token ∷ tokens) = (token ≡ opening → ⊥) × HasNone tokens

none_after : (z : Option Number) (tokens : List Token) → HasNone tokens → HasNone (third_tokens z ++ tokens)
none_after None tokens none = none
none_after (Some z) tokens none = ((λ e. cc), none)

none_third : (z : Option Number) → HasNone (third_tokens z)
none_third None = tt
none_third (Some z) = ((λ e. cc), tt)

none_joined : (first : Point) (more : List Point) → HasNone (joined_points first more)
none_joined first [] = ((λ e. cc), ((λ e. cc), none_third first.z))
none_joined first (next ∷ more) =
    ((λ e. cc), ((λ e. cc), none_after first.z (comma ∷ joined_points next more) ((λ e. cc), none_joined next more)))

none_bracket : (before points : List Placed) (at : ℕ)
    → HasNone (tokens_in (before ++ record { start = at; token = opening } ∷ points)) → ⊥
none_bracket [] points at none = none.0 refl
none_bracket (one ∷ before) points at none = none_bracket before points at none.1

bracket_one : (before others points rest : List Placed) (at also : ℕ) → HasNone (tokens_in points)
    → HasNone (tokens_in rest)
    → before ++ record { start = at; token = opening } ∷ points ≡ others ++ record { start = also; token = opening }
    ∷ rest → at ≡ also
bracket_one [] [] points rest at also x y same = grind (arith)
bracket_one (one ∷ before) (other ∷ others) points rest at also x y same =
    grind (arith, (bracket_one before others points rest at also x y))
bracket_one before others points rest at also x y same = grind (arith, none_bracket)

opened_one : (front : List Placed) (at also : ℕ) → EndsInPoints front at → EndsInPoints front also → at ≡ also
opened_one front at also (before, points, first, more, is, are) (others, rest, one, next, too, were) =
    grind (arith, bracket_one, none_joined)

-- ---- the fault of a token
-- what a row says of a token that it decides on
abbrev Says : List Placed → Placed → Row → LayerFault → Type 0
Says front next kind fault = fault ≡ faults.Kind next.start
Says front next height fault = fault ≡ faults.Height next.start
Says front next deep fault = fault ≡ faults.Deep next.start
Says front next unread fault = (answer : NumFault) × IsAnswer next.token answer
    × (fault ≡ faults.Number next.start answer)
Says front next inexact fault = fault ≡ faults.Inexact next.start
Says front next ring fault = (at : ℕ) × EndsInPoints front at × (fault ≡ faults.Ring at)

data IsNamed (exact : Bool) (front : List Placed) (next : Placed) (fault : LayerFault) : Type 0 where
  by_row : (row : Row) → Decides exact front next.token row → Says front next row fault → IsNamed exact front next fault
  by_none : ((row : Row) → Speaks exact front next.token row → ⊥) → fault ≡ faults.Bad next.start
      → IsNamed exact front next fault

named : (exact : Bool) (front : List Placed) (next : Placed) (fault : LayerFault) → IsTokenFault exact front next fault
    → IsNamed exact front next fault
named exact front next (faults.Kind at) (is, decides) = by_row kind decides (ap faults.Kind is)
named exact front next (faults.Height at) (is, decides) = by_row height decides (ap faults.Height is)
named exact front next (faults.Deep at) (is, decides) = by_row deep decides (ap faults.Deep is)
named exact front next (faults.Number at fault) (is, decides, answer) =
    by_row unread decides (fault, answer, ap (λ n. faults.Number n fault) is)
named exact front next (faults.Inexact at) (is, decides) = by_row inexact decides (ap faults.Inexact is)
named exact front next (faults.Ring at) (decides, ends) = by_row ring decides (at, ends, refl)
named exact front next (faults.Bad at) (is, none) = by_none none (ap faults.Bad is)
named exact front next fault is = absurd is

answer_one : (token : Token) (fault other : NumFault) → IsAnswer token fault → IsAnswer token other → fault ≡ other
answer_one (number n) fault other is too = let e : ◌≡◌ {A = Result MmRead NumFault} (Err fault) (Err other) = sym is
    ∙ too in cc
answer_one token fault other is too = absurd is

says_one : (front : List Placed) (next : Placed) (row : Row) (fault other : LayerFault) → Says front next row fault
    → Says front next row other → fault ≡ other
says_one front next unread fault other (answer, of_token, is) (also, of_it, too) = is
    ∙ (ap (λ a. faults.Number next.start a) (answer_one next.token answer also of_token of_it) ∙ sym too)
says_one front next ring fault other (at, ends, is) (also, ends_too, too) = is
    ∙ (ap faults.Ring (opened_one front at also ends ends_too) ∙ sym too)
says_one front next row fault other is too = is ∙ sym too

named_one : (exact : Bool) (front : List Placed) (next : Placed) (fault other : LayerFault)
    → IsNamed exact front next fault → IsNamed exact front next other → fault ≡ other
named_one exact front next fault other (by_row row x is) (by_row also y too) = grind (arith, says_one, row_one)
named_one exact front next fault other (by_row row x is) (by_none none too) = absurd (none row x.speaks)
named_one exact front next fault other (by_none none is) (by_row row y too) = absurd (none row y.speaks)
named_one exact front next fault other (by_none none is) (by_none none_too too) = is ∙ sym too

behind_one : (exact : Bool) (front rest : List Placed) (end : ℕ) (fault other : LayerFault)
    → IsFaultBehind exact front rest end fault → IsFaultBehind exact front rest end other → fault ≡ other
behind_one exact front [] end fault other is too = is ∙ sym too
behind_one exact front (next ∷ more) end fault other is too =
    named_one exact front next fault other (named exact front next fault is) (named exact front next other too)

-- ---- the fault of a line, and of lines
line_one : (exact : Bool) (line : List Placed) (end : ℕ) (fault other : LayerFault) → IsLineFault exact line end fault
    → IsLineFault exact line end other → fault ≡ other
line_one exact [] end fault other is too = absurd is
line_one exact (first ∷ more) end fault other is too =
    let same : is.at ≡ too.at = first_fault_unique (IsLine exact) (tokens_in (first ∷ more)) is.at too.at is.first
    too.first in
    behind_one exact (take too.at (first ∷ more)) (drop too.at (first ∷ more)) end fault other
    (subst (λ (at : ℕ). IsFaultBehind exact (take at (first ∷ more)) (drop at (first ∷ more)) end fault) same is.named)
    too.named

lines_one : (exact : Bool) (at : ℕ) (lines : List (List ℕ)) (fault other : LayerFault)
    → IsFirstLineFault exact at lines fault → IsFirstLineFault exact at lines other → fault ≡ other
lines_one exact at [] fault other is too = absurd is
lines_one exact at (line ∷ lines) fault other (inl is) (inl too) =
    line_one exact (tokens_of at line) (at + length line) fault other is too
lines_one exact at (line ∷ lines) fault other (inl is) (inr (here, reads, too)) =
    absurd (line_apart exact (tokens_of at line) (at + length line) here fault reads is)
lines_one exact at (line ∷ lines) fault other (inr (here, reads, is)) (inl too) =
    absurd (line_apart exact (tokens_of at line) (at + length line) here other reads too)
lines_one exact at (line ∷ lines) fault other (inr (here, reads, is)) (inr (there, reads_too, too)) =
    lines_one exact (at + length line + 1) lines fault other is too

pub fault_one : (exact : Bool) (bytes : List ℕ) (fault other : LayerFault) → IsWktRefusedBy exact bytes fault
    → IsWktRefusedBy exact bytes other → fault ≡ other
fault_one exact bytes fault other is too = lines_one exact 0 (geometry_lines bytes) fault other is too
