-- Answers to the goals of `run_to_end` in src/run_ends.rt.
use Rattle.std.proofs.Common.{ℕ, List, map, sym, subst, IfSome, refl}
use Rattle.std.specs.Prelude.{string_bytes}
use Rattle.shelf_io.specs.Count.{Rose}
use Rattle.ledger_core.specs.declared.commands.Command.{Command}
use Rattle.ledger_runs.specs.Outcome.{IsPrepared}
use Rattle.ledger_runs.proofs.RunEnds.{done-told, stop-told, refused-told, words-refusal}
use Rattle.ledger_runs.specs.HandedOut.{AreReplies}
use Rattle.ledger_runs.specs.HandedOut.{AreGiven, run_counts}
use Rattle.ledger_runs.proofs.LimitLines.{limit-told, stop-passed, replies-told}
use Rattle.ledger_runs.proofs.MissingFiles.{read-told}
use Rattle.ledger_runs.proofs.HandedOut.{hands-refused, hands-stopped, hands-none}
use Rattle.ledger_runs.proofs.run_ends.run_to_end.Goals as goal

pub returns-in-Ok-obey_commands-clause-ends : goal.returns-in-Ok-obey_commands-clause-ends
returns-in-Ok-obey_commands-clause-ends g c =
    let words = map string_bytes c.args.words.now in
    let files = g.S.Shelf.files c.args.shelf.now in
    let prepared : IfSome files (λ f. IsPrepared words f c.as_slice.result.now) =
    subst (λ (commands : List Command). IfSome files (λ f. IsPrepared words f commands)) (sym c.as_slice.ensures.value)
    c.in-Ok.ensures.ok in
    done-told files words _ _ _ (g.K.Keeper.kept c.args.keeper.now) (g.K.Keeper.kept c.obey_commands.new.keeper)
    c.as_slice.result.now c.in-Ok-obey_commands.text.items c.as_slice-in-Ok-obey_commands.result.now c.say.result
    (g.P.Press.made c.say.new.press) prepared c.in-Ok-obey_commands.ensures.obeyed
    c.as_slice-in-Ok-obey_commands.ensures.value c.say.ensures.status c.say.ensures.whole c.say.ensures.front
    c.say.ensures.rose

pub returns-in-Ok-obey_commands-clause-no_names : goal.returns-in-Ok-obey_commands-clause-no_names
returns-in-Ok-obey_commands-clause-no_names g c none = absurd (none c.in-Ok.ensures.named.0 c.in-Ok.ensures.named.1)

pub returns-in-Ok-clause-ends : goal.returns-in-Ok-clause-ends
returns-in-Ok-clause-ends g c =
    let words = map string_bytes c.args.words.now in
    let files = g.S.Shelf.files c.args.shelf.now in
    let prepared : IfSome files (λ f. IsPrepared words f c.as_slice.result.now) =
    subst (λ (commands : List Command). IfSome files (λ f. IsPrepared words f commands)) (sym c.as_slice.ensures.value)
    c.in-Ok.ensures.ok in
    stop-told files words _ _ _ (g.K.Keeper.kept c.args.keeper.now) (g.K.Keeper.kept c.obey_commands.new.keeper)
    c.as_slice.result.now c.in-Err-obey_commands.stop c.refuse.result (g.P.Press.made c.refuse.new.press) prepared
    c.in-Err-obey_commands.ensures.obeyed c.in-Err-obey_commands.ensures.faults.failed c.refuse.ensures.status
    c.refuse.ensures.whole c.refuse.ensures.front c.refuse.ensures.rose

pub returns-in-Ok-clause-no_names : goal.returns-in-Ok-clause-no_names
returns-in-Ok-clause-no_names g c none = absurd (none c.in-Ok.ensures.named.0 c.in-Ok.ensures.named.1)

pub returns-clause-ends : goal.returns-clause-ends
returns-clause-ends g c =
    refused-told (g.S.Shelf.files c.args.shelf.now) (map string_bytes c.args.words.now) (g.S.Shelf.faults c.args.shelf.now)
    (g.S.Shelf.faults c.prepare.new.shelf) _ _ (g.K.Keeper.kept c.args.keeper.now) c.in-Err.refusal c.refuse-in-Err.result
    (g.P.Press.made c.refuse-in-Err.new.press) c.in-Err.ensures.err c.refuse-in-Err.ensures.status
    c.refuse-in-Err.ensures.whole c.refuse-in-Err.ensures.front c.refuse-in-Err.ensures.rose

pub returns-clause-words : goal.returns-clause-words
returns-clause-words g c is =
    c.in-Err.ensures.words.0 (words-refusal c.in-Err.refusal c.refuse-in-Err.result c.refuse-in-Err.ensures.status is)

pub returns-in-Ok-obey_commands-clause-limit : goal.returns-in-Ok-obey_commands-clause-limit
returns-in-Ok-obey_commands-clause-limit g c =
    let said = c.as_slice-in-Ok-obey_commands.result.now in
    let are : AreReplies said = subst (λ (text : List ℕ). AreReplies text)
    (sym c.as_slice-in-Ok-obey_commands.ensures.value) c.in-Ok-obey_commands.ensures.form in
    replies-told said (g.S.Shelf.given c.args.shelf.now) (g.S.Shelf.given c.prepare.new.shelf) c.say.result
    (g.P.Press.made c.say.new.press) are c.say.ensures.status c.say.ensures.whole c.say.ensures.front

pub returns-in-Ok-clause-limit : goal.returns-in-Ok-clause-limit
returns-in-Ok-clause-limit g c =
    let refusal = c.in-Err-obey_commands.stop in
    let before = g.S.Shelf.given c.args.shelf.now in
    let now = g.S.Shelf.given c.prepare.new.shelf in
    limit-told refusal before now c.refuse.result (g.P.Press.made c.refuse.new.press)
    (stop-passed refusal before now c.in-Err-obey_commands.ensures.faults.kind) c.refuse.ensures.status
    c.refuse.ensures.whole c.refuse.ensures.front

pub returns-clause-limit : goal.returns-clause-limit
returns-clause-limit g c =
    limit-told c.in-Err.refusal (g.S.Shelf.given c.args.shelf.now) (g.S.Shelf.given c.prepare.new.shelf)
    c.refuse-in-Err.result (g.P.Press.made c.refuse-in-Err.new.press) c.in-Err.ensures.passed
    c.refuse-in-Err.ensures.status c.refuse-in-Err.ensures.whole c.refuse-in-Err.ensures.front

pub returns-clause-read : goal.returns-clause-read
returns-clause-read g c =
    read-told (g.S.Shelf.files c.args.shelf.now)
    (Rose (g.S.Shelf.faults c.args.shelf.now) (g.S.Shelf.faults c.prepare.new.shelf)) (map string_bytes c.args.words.now)
    c.in-Err.refusal c.refuse-in-Err.result (g.P.Press.made c.refuse-in-Err.new.press) c.in-Err.ensures.err
    c.in-Err.ensures.faults.read c.refuse-in-Err.ensures.status c.refuse-in-Err.ensures.whole

pub returns-in-Ok-obey_commands-clause-handed : goal.returns-in-Ok-obey_commands-clause-handed
returns-in-Ok-obey_commands-clause-handed g c =
    let words = map string_bytes c.args.words.now in
    let files = g.S.Shelf.files c.args.shelf.now in
    let commands = c.as_slice.result.now in
    let said = c.as_slice-in-Ok-obey_commands.result.now in
    let prepared : IfSome files (λ f. IsPrepared words f commands) =
    subst (λ (all : List Command). IfSome files (λ f. IsPrepared words f all)) (sym c.as_slice.ensures.value)
    c.in-Ok.ensures.ok in
    let given : AreGiven words files commands =
    record { script = c.in-Ok.ensures.named.0; names = c.in-Ok.ensures.named.1; prepared = prepared } in
    let are : AreReplies said = subst (λ (text : List ℕ). AreReplies text)
    (sym c.as_slice-in-Ok-obey_commands.ensures.value) c.in-Ok-obey_commands.ensures.form in
    hands-none words files
    (run_counts (g.S.Shelf.faults c.args.shelf.now) (g.S.Shelf.faults c.prepare.new.shelf)
    (g.S.Shelf.given c.args.shelf.now) (g.S.Shelf.given c.prepare.new.shelf) (g.K.Keeper.faults c.args.keeper.now)
    (g.K.Keeper.faults c.obey_commands.new.keeper)) (g.K.Keeper.kept c.args.keeper.now)
    (g.K.Keeper.kept c.obey_commands.new.keeper) commands c.in-Ok-obey_commands.text.items said c.say.result
    (g.P.Press.made c.say.new.press) given are c.in-Ok-obey_commands.ensures.obeyed
    c.as_slice-in-Ok-obey_commands.ensures.value c.in-Ok.ensures.faults.same c.in-Ok-obey_commands.ensures.faults.same
    c.say.ensures.status c.say.ensures.whole c.say.ensures.front

pub returns-in-Ok-clause-handed : goal.returns-in-Ok-clause-handed
returns-in-Ok-clause-handed g c =
    let words = map string_bytes c.args.words.now in
    let files = g.S.Shelf.files c.args.shelf.now in
    let commands = c.as_slice.result.now in
    let prepared : IfSome files (λ f. IsPrepared words f commands) =
    subst (λ (all : List Command). IfSome files (λ f. IsPrepared words f all)) (sym c.as_slice.ensures.value)
    c.in-Ok.ensures.ok in
    let given : AreGiven words files commands =
    record { script = c.in-Ok.ensures.named.0; names = c.in-Ok.ensures.named.1; prepared = prepared } in
    hands-stopped words files
    (run_counts (g.S.Shelf.faults c.args.shelf.now) (g.S.Shelf.faults c.prepare.new.shelf)
    (g.S.Shelf.given c.args.shelf.now) (g.S.Shelf.given c.prepare.new.shelf) (g.K.Keeper.faults c.args.keeper.now)
    (g.K.Keeper.faults c.obey_commands.new.keeper)) (g.K.Keeper.kept c.args.keeper.now)
    (g.K.Keeper.kept c.obey_commands.new.keeper) commands c.in-Err-obey_commands.stop c.refuse.result
    (g.P.Press.made c.refuse.new.press) given c.in-Err-obey_commands.ensures.stop c.in-Err-obey_commands.ensures.obeyed
    c.in-Ok.ensures.faults.same c.refuse.ensures.status c.refuse.ensures.whole c.refuse.ensures.front

pub returns-clause-handed : goal.returns-clause-handed
returns-clause-handed g c =
    hands-refused (map string_bytes c.args.words.now) (g.S.Shelf.files c.args.shelf.now)
    (run_counts (g.S.Shelf.faults c.args.shelf.now) (g.S.Shelf.faults c.prepare.new.shelf)
    (g.S.Shelf.given c.args.shelf.now) (g.S.Shelf.given c.prepare.new.shelf) (g.K.Keeper.faults c.args.keeper.now)
    (g.K.Keeper.faults c.args.keeper.now)) (g.K.Keeper.kept c.args.keeper.now) (g.K.Keeper.kept c.args.keeper.now)
    c.in-Err.refusal c.refuse-in-Err.result (g.P.Press.made c.refuse-in-Err.new.press) c.in-Err.ensures.err
    c.in-Err.ensures.faults.read c.in-Err.ensures.words c.in-Err.ensures.passed c.in-Err.ensures.faults.no_keeper refl refl
    c.refuse-in-Err.ensures.status c.refuse-in-Err.ensures.whole c.refuse-in-Err.ensures.front
