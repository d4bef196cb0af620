-- Answers to the goals of `add_once` in src/entries.rt.
use Rattle.std.proofs.Common.{◌≡◌, ℕ, List, false, nat_eq, sym, subst, ap, ◌∙◌}
use Rattle.std.specs.List.{list_any}
use Rattle.cell_grid.specs.InsideEntries.{DoesKeep}
use Rattle.cell_grid.proofs.Enters.{miss}
use Rattle.cell_grid.proofs.Keeps.{keeps_new}
use Rattle.cell_grid.proofs.entries.add_once.Goals as goal

pub returns-in_ok-push : goal.returns-in_ok-push
returns-in_ok-push c =
    let none : list_any (λ y. nat_eq y c.args.place) c.args.places.now.items ≡ false =
    sym (c.if-not-contains.ensures.value ∙ ap (λ (l : List ℕ). list_any (λ y. nat_eq y c.args.place) l)
    c.deref.ensures.value) in
    subst (λ (l : List ℕ). DoesKeep c.args.place c.args.places.now.items l) (sym c.in_ok-push.ensures.items)
    (keeps_new c.args.place c.args.places.now.items (miss c.args.place c.args.places.now.items none))
