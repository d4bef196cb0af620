-- Answers to the goals of `entries_of` in src/guesses.rt.
use Rattle.std.proofs.Common.{◌≡◌, ◌+◌, ◌*◌, ◌<◌, List, [], ◌∷◌, ◌++◌, All, ap, length, ◌∙◌, subst, sym, arith}
use Rattle.std.proofs.lemmas.List.Elements.{All-push}
use Rattle.std.proofs.lemmas.List.{length-append}
use Rattle.number_groups.specs.declared.groups.Entry.{Entry}
use Rattle.carry_map.specs.declared.guesses.TheConstants.{CELLS, SIDE}
use Rattle.carry_map.proofs.guesses.entries_of.Goals as goal

pub loop-number-preserved : goal.loop-number-preserved
loop-number-preserved c =
    let entry : Entry = record { key = c.stripe-row.result * SIDE + c.stripe-column.result; number = c.loop-number.number } in
    let more : c.push.new.self.items ≡ c.loop-number.entries.items ++ entry ∷ [] = c.in_ok-push.ensures.items in
    let within : entry.key < CELLS = omega (arith, c.stripe-row.ensures, c.stripe-column.ensures) in (
      subst (λ (entries : List Entry). All (λ (e : Entry). e.key < CELLS) entries) (sym more)
          (All-push (λ (e : Entry). e.key < CELLS) c.loop-number.entries.items entry c.loop-number.invariant.0 within),
      ap (λ (entries : List Entry). length entries) more
          ∙ length-append c.loop-number.entries.items (entry ∷ [])
          ∙ ap (λ n. n + 1) c.loop-number.invariant.1,
    )
