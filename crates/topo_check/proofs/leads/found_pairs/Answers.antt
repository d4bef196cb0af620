-- Answers to the goals of `found_pairs` in src/leads.rt.
use Rattle.std.proofs.Common.{List, sym, subst, ◌∙◌}
use Rattle.tin_base.specs.declared.pieces.Piece.{Piece}
use Rattle.topo_check.specs.Changes.{AreAllComparable}
use Rattle.topo_check.proofs.OfKinds.{leads_comparable}
use Rattle.topo_check.proofs.leads.found_pairs.Goals as goal

pub changed_pairs-requires-clause-comparable : goal.changed_pairs-requires-clause-comparable
changed_pairs-requires-clause-comparable c =
    subst (λ (ps : List Piece). AreAllComparable c.args.tin.now ps)
    (sym (c.deref.ensures.value ∙ c.in_ok-leads.ensures))
    (leads_comparable c.args.tin.now c.args.pieces.now c.args.firsts.now c.requires.firsts c.requires.comparable)
