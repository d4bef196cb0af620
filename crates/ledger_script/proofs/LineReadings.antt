-- Lines of each kind: what is written is read, and what is read is written so.
use Rattle.std.proofs.Common.{◌≡◌, ℕ, ◌<◌, ◌^◌, ◌==◌, true, false, Bool, cond, List, [], ◌∷◌, ◌++◌, length, codes, Some, None, refl, sym, ◌∙◌, ap, arith, subst, get_or, Err}
use Rattle.std.specs.Str.{bytes_eq}
use Rattle.std.specs.Cmp.Lexicographic.{same_text}
use Rattle.std.proofs.lemmas.Bool.{eqb-true}
use Rattle.std.proofs.lemmas.List.{append-nil, nil_from_length}
use Rattle.text_fields.specs.Fields.{short_field, field, after_word, ◌>>=◌}
use Rattle.text_places.specs.Digits.{Stops}
use Rattle.text_fields.proofs.StepChains.{bound, let_through, some_is}
use Rattle.text_fields.proofs.Words.{after_again}
use Rattle.text_fields.proofs.FieldLaws.{short_again, short_takes}
use Rattle.ledger_core.specs.declared.pairs.Mark.{Mark}
use Rattle.ledger_core.specs.declared.pairs.Mark.TheVariants.{Kept, Mended}
use Rattle.ledger_script.specs.declared.script_lines.ScriptLine.{ScriptLine}
use Rattle.ledger_script.specs.declared.script_lines.ScriptLine.TheVariants as asks
use Rattle.std.proofs.Common.{IsErrOf}
use Rattle.ledger_script.specs.declared.script_lines.LineFault.{LineFault}
use Rattle.ledger_script.specs.declared.script_lines.LineFault.TheVariants.{Bad, NoMemory}
use Rattle.ledger_script.specs.ScriptText.{Reads, IsLineText, line_text, mark_word, spaced_text}
use Rattle.ledger_script.specs.InsideLineKinds.{mark_of, decision_of, run_of, Spells}

mark-again : (mark : Mark) → mark_of (mark_word mark) ≡ Some mark
mark-again Kept = refl
mark-again Mended = refl

mark-takes : (text : List ℕ) (mark : Mark) → mark_of text ≡ Some mark → text ≡ mark_word mark
mark-takes text mark is = by-kept (bytes_eq text (codes " kept")) refl is
  where
    by-mended : (t : Bool) → bytes_eq text (codes " mended") ≡ t → cond t (Some Mended) None ≡ Some mark
        → text ≡ mark_word mark
    by-mended true same is =
        let which : Mended ≡ mark = cc in
        same_text text (codes " mended") (sym same) ∙ ap mark_word which
    by-mended false same is = cc

    by-kept : (t : Bool) → bytes_eq text (codes " kept") ≡ t
        → cond t (Some Kept) (cond (bytes_eq text (codes " mended")) (Some Mended) None) ≡ Some mark
        → text ≡ mark_word mark
    by-kept true same is =
        let which : Kept ≡ mark = cc in
        same_text text (codes " kept") (sym same) ∙ ap mark_word which
    by-kept false same is = by-mended (bytes_eq text (codes " mended")) refl is

decision-again : (run place : ℕ) (mark : Mark) → run < 2 ^ 32 → place < 2 ^ 32
    → decision_of (line_text (asks.Decide run place mark)) ≡ Some (run, place, mark)
unfolding decision_of
decision-again run place mark small near =
    rw (
      short_again (codes "decide ") (field (codes " ") place ++ mark_word mark) run small refl,
      short_again (codes " ") (mark_word mark) place near (stops mark),
      mark-again mark,
    ) refl
  where
    stops : (mark : Mark) → Stops (mark_word mark)
    stops Kept = refl
    stops Mended = refl

pub decision-takes : (line : List ℕ) (run place : ℕ) (mark : Mark) → decision_of line ≡ Some (run, place, mark)
    → IsLineText line (asks.Decide run place mark)
unfolding decision_of
decision-takes line run place mark is =
    let first = bound (short_field (codes "decide ") line)
    (λ r. short_field (codes " ") r.1 >>= λ p. mark_of p.1 >>= λ m. Some (r.0, p.0, m)) (run, place, mark) is in
    let second = bound (short_field (codes " ") first.found.1)
    (λ p. mark_of p.1 >>= λ m. Some (first.found.0, p.0, m)) (run, place, mark) first.goes_on in
    let third = bound (mark_of second.found.1) (λ m. Some (first.found.0, second.found.0, m)) (run, place, mark)
    second.goes_on in
    let made : ℕ × ℕ × Mark = (first.found.0, second.found.0, third.found) in
    let taken-run = short_takes (codes "decide ") line first.found first.is in
    let taken-place = short_takes (codes " ") first.found.1 second.found second.is in
    let word = mark-takes second.found.1 third.found third.is in
    subst (λ (all : ℕ × ℕ × Mark). IsLineText line (asks.Decide all.0 all.1 all.2))
    (some_is made (run, place, mark) third.goes_on) (
      (taken-run.small, taken-place.small),
      taken-run.parts ∙ ap (λ rest. field (codes "decide ") first.found.0 ++ rest)
          (taken-place.parts ∙ ap (λ rest. field (codes " ") second.found.0 ++ rest) word),
    )

run-again : (word : List ℕ) (run : ℕ) → run < 2 ^ 32 → run_of word (field word run) ≡ Some run
unfolding run_of
run-again word run small =
    let read : short_field word (field word run) ≡ Some (run, []) =
    ap (short_field word) (sym (append-nil (field word run))) ∙ short_again word [] run small tt in
    rw read refl

pub record TakesRun (word line : List ℕ) (run : ℕ) : Type 0 where
  pub small : run < 2 ^ 32
  pub whole : line ≡ field word run

pub run-takes : (word line : List ℕ) (run : ℕ) → run_of word line ≡ Some run → TakesRun word line run
unfolding run_of
run-takes word line run is =
    let read = bound (short_field word line) (λ found. cond (length found.1 == 0) (Some found.0) None) run is in
    let end = let_through (length read.found.1 == 0) read.found.0 run read.goes_on in
    let nothing : read.found.1 ≡ [] = nil_from_length read.found.1 (eqb-true _ _ end.passes) in
    let taken = short_takes word line read.found read.is in
    record {
      small = subst (λ n. n < 2 ^ 32) end.same taken.small;
      whole = taken.parts ∙ ap (λ rest. field word read.found.0 ++ rest) nothing ∙ append-nil _
          ∙ ap (field word) end.same;
    }

-- ---- lines of no form

-- a line that begins with the word of an entry is no other line
entry-alone : (names : List ℕ) (line : ScriptLine) → IsLineText (codes "enter " ++ names) line
    → (all : List (List ℕ)) × Spells names all
entry-alone names (asks.Enter report layers) is =
    let behind : names ≡ spaced_text (report ∷ layers) =
    some_is names (spaced_text (report ∷ layers)) (sym (after_again (codes "enter ") names)
    ∙ ap (after_word (codes "enter ")) is.1 ∙ after_again (codes "enter ") (spaced_text (report ∷ layers))) in
    (report ∷ layers, record { some = omega arith; held = is.0; whole = behind })
entry-alone names (asks.Decide run place mark) is =
    absurd (let same : 101 ≡ 100 = ap (λ (t : List ℕ). get_or t 0 0) is.1 in omega (arith, same))
entry-alone names (asks.List run) is =
    absurd (let same : 101 ≡ 108 = ap (λ (t : List ℕ). get_or t 0 0) is.1 in omega (arith, same))
entry-alone names (asks.Clear run) is =
    absurd (let same : 101 ≡ 99 = ap (λ (t : List ℕ). get_or t 0 0) is.1 in omega (arith, same))

-- a line that is read as none of the kinds has no form
pub no-line : (bytes : List ℕ) → after_word (codes "enter ") bytes ≡ None → decision_of bytes ≡ None
    → run_of (codes "list ") bytes ≡ None → run_of (codes "clear ") bytes ≡ None
    → (line : ScriptLine) → IsLineText bytes line → ⊥
no-line bytes entry decision list clear (asks.Enter report layers) is =
    none-some-here (spaced_text (report ∷ layers)) (sym entry ∙ ap (after_word (codes "enter ")) is.1
    ∙ after_again (codes "enter ") (spaced_text (report ∷ layers)))
  where
    none-some-here : (x : List ℕ) → None ≡ Some x → ⊥
    none-some-here x same = cc
no-line bytes entry decision list clear (asks.Decide run place mark) is =
    none-some-here (run, place, mark) (sym decision ∙ ap decision_of is.1
    ∙ decision-again run place mark is.0.0 is.0.1)
  where
    none-some-here : (x : ℕ × ℕ × Mark) → None ≡ Some x → ⊥
    none-some-here x same = cc
no-line bytes entry decision list clear (asks.List run) is =
    none-some-here run (sym list ∙ ap (run_of (codes "list ")) is.1 ∙ run-again (codes "list ") run is.0)
  where
    none-some-here : (x : ℕ) → None ≡ Some x → ⊥
    none-some-here x same = cc
no-line bytes entry decision list clear (asks.Clear run) is =
    none-some-here run (sym clear ∙ ap (run_of (codes "clear ")) is.1 ∙ run-again (codes "clear ") run is.0)
  where
    none-some-here : (x : ℕ) → None ≡ Some x → ⊥
    none-some-here x same = cc

-- where the names are refused, the line has no form
pub entry-fails : {T : Type 0} (names : List ℕ) (fault : LineFault)
    → (IsErrOf {T = T} (Err fault) Bad → (all : List (List ℕ)) → Spells names all → ⊥)
    → Reads (codes "enter " ++ names) (Err fault)
entry-fails names Bad never = λ line is. let found = entry-alone names line is in never refl found.0 found.1
entry-fails names NoMemory never = tt
