-- What is collected of the items of a list that are left.
use Rattle.std.proofs.Common.{◌≡◌, List, [], ◌∷◌, ◌++◌, ◌∙◌, ap, sym, subst, drop, arith}
use Rattle.std.specs.Iterator.{Yields, DrainsIf}
use Rattle.std.specs.Vec.Iter.{into_iter_items, into_iter_steps}
use Rattle.std.specs.Option.{option_to_list}
use Rattle.std.specs.declared.option.Option.{Option}
use Rattle.std.specs.declared.option.Option.TheVariants.{Some, None}
use Rattle.std.specs.declared.vec.IntoIter.{IntoIter}
use Rattle.std.proofs.lemmas.List.{nil_from_length}

-- where a call answers nothing, no item is left
none_left : {X Z : Type 0} (rest end : IntoIter X Z) → into_iter_steps rest None end → [] ≡ into_iter_items rest
none_left rest end step = sym (nil_from_length (into_iter_items rest) (omega (arith, rest.rest.ok.0, step.0)))

-- what calls gave up to the one that answers nothing are the items that were left
all_left : {X Z : Type 0} (rest : IntoIter X Z) (xs : List X) (last end : IntoIter X Z)
    → Yields into_iter_steps rest xs last → into_iter_steps last None end → xs ≡ into_iter_items rest
all_left rest [] last end same step = subst (λ it. [] ≡ into_iter_items it) (sym same) (none_left last end step)
all_left rest (x ∷ xs) last end calls step =
    ap (λ ys. x ∷ ys) (all_left calls.0 xs last end calls.2 step) ∙ sym calls.1.0

-- what is collected after one call are the items after the first
pub behind_first : {X Z : Type 0} (all rest : IntoIter X Z) (first : Option X) (xs : List X)
    → into_iter_steps all first rest → into_iter_items all ≡ option_to_list first ++ into_iter_items rest
    → DrainsIf into_iter_steps (Unit {0}) rest xs → xs ≡ drop 1 (into_iter_items all)
behind_first all rest (Some x) xs step parts drains =
    let end = drains.2 tt in all_left rest xs drains.0 end.0 drains.1 end.1 ∙ ap (drop 1) (sym parts)
behind_first all rest None xs step parts drains =
    let end = drains.2 tt in
    all_left rest xs drains.0 end.0 drains.1 end.1 ∙ sym parts ∙ sym (none_left all rest step)
    ∙ ap (drop 1) (none_left all rest step)
