-- The pairs of a new run, one after the other.
use Rattle.std.proofs.Common.{◌≡◌, ℕ, suc, ◌+◌, ◌<◌, List, [], ◌∷◌, ◌++◌, length, refl, ap, arith, take, get_or, ◌∙◌}
use Rattle.std.proofs.lemmas.List.{take_more, length-take-le}
use Rattle.tin_base.specs.declared.pieces.Change.{Change}
use Rattle.ledger_core.specs.declared.pairs.PairRow.{PairRow}
use Rattle.ledger_core.specs.declared.pairs.Verdict.TheVariants.{Undecided}
use Rattle.ledger_core.specs.Kept.{undecided_from}

undecided-append : (run place : ℕ) (changes : List Change) (change : Change)
    → undecided_from run place (changes ++ change ∷ [])
    ≡ undecided_from run place changes
    ++ record { run = run; place = place + length changes; change = change; verdict = Undecided } ∷ []
undecided-append run place [] change =
    ap (λ at. record { run = run; place = at; change = change; verdict = Undecided } ∷ []) (omega arith)
undecided-append run place (first ∷ changes) change =
    let row : ℕ → PairRow = λ at. record { run = run; place = at; change = change; verdict = Undecided } in
    let later : place + 1 + length changes ≡ place + length (first ∷ changes) = omega arith in
    ap (λ rows. record { run = run; place = place; change = first; verdict = Undecided } ∷ rows)
    (undecided-append run (place + 1) changes change
    ∙ ap (λ at. undecided_from run (place + 1) changes ++ row at ∷ []) later)

-- the pairs of this many changes, and one more
pub undecided-more : (run : ℕ) (changes : List Change) (at : ℕ) (change : Change) → at < length changes
    → undecided_from run 0 (take (at + 1) changes)
    ≡ undecided_from run 0 (take at changes)
    ++ record { run = run; place = at; change = get_or changes at change; verdict = Undecided } ∷ []
undecided-more run changes at change within =
    let next = get_or changes at change in
    let row : ℕ → PairRow = λ n. record { run = run; place = n; change = next; verdict = Undecided } in
    let front-size = length-take-le at changes (omega (arith, within)) in
    let size : 0 + length (take at changes) ≡ at = omega (arith, front-size) in
    ap (undecided_from run 0) (take_more changes at change within) ∙ undecided-append run 0 (take at changes) next
    ∙ ap (λ n. undecided_from run 0 (take at changes) ++ row n ∷ []) size

pub length-undecided : (run place : ℕ) (changes : List Change) → length (undecided_from run place changes) ≡ length changes
length-undecided run place [] = refl
length-undecided run place (change ∷ changes) = ap suc (length-undecided run (place + 1) changes)
