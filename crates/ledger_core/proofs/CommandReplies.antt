-- What single commands answer over what is kept.
use Rattle.std.proofs.Common.{◌≡◌, ℕ, ◌+◌, Bool, true, false, cond, List, [], ◌∷◌, ◌++◌, Option, None, Some, Ok, refl, sym, ap, ◌∙◌, IfSome}
use Rattle.std.proofs.lemmas.List.{append_assoc, append-nil}
use Rattle.ledger_core.specs.declared.pairs.PairRow.{PairRow}
use Rattle.ledger_core.specs.declared.commands.Command.TheVariants as commands
use Rattle.ledger_core.specs.declared.commands.Reply.TheVariants.{Cleared, Waiting}
use Rattle.ledger_core.specs.Kept.{Kept, next_open, open_pairs, AreInOrder}
use Rattle.ledger_core.specs.Replies.{Answers, reply_of, kept_after, is_accepted, has_run}
use Rattle.ledger_core.proofs.OpenPairs.{clear-none, clear-some, open-step, none-passes}

same-kept : (t : Bool) (all : Kept) → cond t all all ≡ all
same-kept true all = refl
same-kept false all = refl

-- every pair is decided
pub clear-empty : (before between now : Option Kept) (run : ℕ) → IfSome before (λ all. true ≡ has_run all run)
    → between ≡ before → IfSome between (λ all. None ≡ next_open all.pairs run 0) → now ≡ between
    → IfSome before (λ all. Answers all (reply_of all (commands.Clear run)) (kept_after all (commands.Clear run)) now
    (Ok Cleared))
clear-empty None between now run there same none still = tt
clear-empty (Some all) between now run there same none still =
    let found : None ≡ next_open all.pairs run 0 = rw same at none in
    let reply : reply_of all (commands.Clear run) ≡ Cleared =
    rw (sym there) (clear-none run all.pairs (sym found)) in
    (sym reply, still ∙ same ∙ ap Some (sym (same-kept (is_accepted (reply_of all (commands.Clear run))) all)))

-- a pair is undecided
pub clear-waiting : (before between now : Option Kept) (run : ℕ) (row : PairRow)
    → IfSome before (λ all. true ≡ has_run all run)
    → between ≡ before → IfSome between (λ all. Some row ≡ next_open all.pairs run 0) → now ≡ between
    → IfSome before (λ all. Answers all (reply_of all (commands.Clear run)) (kept_after all (commands.Clear run)) now
    (Ok (Waiting row.place)))
clear-waiting None between now run row there same first still = tt
clear-waiting (Some all) between now run row there same first still =
    let found : Some row ≡ next_open all.pairs run 0 = rw same at first in
    let reply : reply_of all (commands.Clear run) ≡ Waiting row.place =
    rw (sym there) (clear-some run all.pairs row (sym found)) in
    (sym reply, still ∙ same ∙ ap Some (sym (same-kept (is_accepted (reply_of all (commands.Clear run))) all)))

-- one more undecided pair
pub found-more : (before between : Option Kept) (run from : ℕ) (row : PairRow) (rows more : List PairRow)
    → between ≡ before
    → IfSome before (λ all. AreInOrder all.pairs → rows ++ open_pairs all.pairs run from ≡ open_pairs all.pairs run 0)
    → IfSome between (λ all. Some row ≡ next_open all.pairs run from)
    → more ≡ rows ++ row ∷ []
    → IfSome before (λ all. AreInOrder all.pairs
    → more ++ open_pairs all.pairs run (row.place + 1) ≡ open_pairs all.pairs run 0)
found-more None between run from row rows more same so-far first added = tt
found-more (Some all) between run from row rows more same so-far first added = λ ordered.
    let found : Some row ≡ next_open all.pairs run from = rw same at first in
    ap (λ front. front ++ open_pairs all.pairs run (row.place + 1)) added
    ∙ append_assoc rows (row ∷ []) (open_pairs all.pairs run (row.place + 1))
    ∙ ap (λ rest. rows ++ rest) (sym (open-step run from 0 all.pairs row (ordered run) (sym found)))
    ∙ so-far ordered

-- no more undecided pair
pub found-all : (before between : Option Kept) (run from : ℕ) (rows : List PairRow) → between ≡ before
    → IfSome before (λ all. AreInOrder all.pairs → rows ++ open_pairs all.pairs run from ≡ open_pairs all.pairs run 0)
    → IfSome between (λ all. None ≡ next_open all.pairs run from)
    → IfSome before (λ all. AreInOrder all.pairs → rows ≡ open_pairs all.pairs run 0)
found-all None between run from rows same so-far none = tt
found-all (Some all) between run from rows same so-far none = λ ordered.
    let found : None ≡ next_open all.pairs run from = rw same at none in
    let end = none-passes _ all.pairs (sym found) in
    sym (ap (λ rest. rows ++ rest) end ∙ append-nil rows) ∙ so-far ordered
