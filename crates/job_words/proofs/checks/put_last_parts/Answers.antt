-- Answers to the goals of `put_last_parts` in src/checks.rt.
use Rattle.std.proofs.Common.{◌≡◌, ◌<◌, inr, ap, sym, ◌∙◌, subst, List, ℕ, length, map, option_map, true, false, ◌+◌}
use Rattle.std.specs.List.{list_any}
use Rattle.std.specs.Str.{bytes_eq}
use Rattle.job_words.specs.declared.faults.WordsFault.TheVariants.{SameName}
use Rattle.job_words.specs.Names.{part_behind_slashes}
use Rattle.job_words.proofs.Again.{Scanned, among-behind, behind, next-text, part-at, parts-length, put-behind}
use Rattle.job_words.proofs.Again.{text-again}
use Rattle.job_words.proofs.TestValues.{not-false, not-true}
use Rattle.job_words.proofs.checks.put_last_parts.Goals as goal

pub returns-then-not-is_new : goal.returns-then-not-is_new
returns-then-not-is_new c =
    let number = c.loop-number.number in
    let part = c.last_part-part.result.now in
    let keys = c.loop-number.parts.keys in
    let parts = map part_behind_slashes (behind c.args.layers.now) in
    let within : number < length parts = rw (parts-length c.args.layers.now) c.loop-number-test.true in
    let is = c.last_part-part.ensures ∙ sym (part-at c.args.layers.now number _ part c.loop-number-test.true) in
    let known : list_any (λ other. bytes_eq part other.now) keys ≡ true =
    not-false _ (sym c.if-not-is_new.true ∙ c.in_ok-is_new.ensures.added) in
    inr (ap (option_map SameName) (text-again (behind keys) parts number part c.loop-number.invariant within is
    (sym (among-behind part keys) ∙ known)))

pub loop-number-preserved : goal.loop-number-preserved
loop-number-preserved c =
    let number = c.loop-number.number in
    let part = c.last_part-part.result.now in
    let keys = c.loop-number.parts.keys in
    let parts = map part_behind_slashes (behind c.args.layers.now) in
    let within : number < length parts = rw (parts-length c.args.layers.now) c.loop-number-test.true in
    let is = c.last_part-part.ensures ∙ sym (part-at c.args.layers.now number _ part c.loop-number-test.true) in
    let new : list_any (λ other. bytes_eq part other.now) keys ≡ false =
    not-true _ (sym c.if-not-is_new.false ∙ c.in_ok-is_new.ensures.added) in
    let scanned = next-text (behind keys) parts number part c.loop-number.invariant within is
    (sym (among-behind part keys) ∙ new) in
    let now = ap behind c.in_ok-is_new.ensures.keys ∙ put-behind keys c.last_part-part.result new in
    subst (λ (seen : List (List ℕ)). Scanned seen parts (number + 1)) (sym now) scanned
