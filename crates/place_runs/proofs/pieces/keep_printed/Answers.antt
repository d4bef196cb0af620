-- Answers to the goals of `keep_printed` in src/pieces.rt.
use Rattle.std.proofs.Common.{rules, sym, ◌∙◌}
use Rattle.std.proofs.lemmas.Fn.{filter_same}
use Rattle.place_runs.specs.InsidePieces.{is_printed}
use Rattle.place_runs.proofs.PrintedMaps.ChangePieces.{printed_are}
use Rattle.place_runs.proofs.pieces.keep_printed.Goals as goal

pub returns : goal.returns
returns c =
    filter_same _ (is_printed c.args.view.now) _ (λ x b f' k. search rules) _ _ c.retain.ensures.filtered
    ∙ sym (printed_are c.args.view.now c.args.changes.now.items)
