-- Answers to the goals of `read_line` in src/lines.rt.
use Rattle.std.proofs.Common.{[], sym, ◌∙◌, subst, append-nil}
use Rattle.wkt_layer.specs.InsidePasses.{Held}
use Rattle.wkt_layer.proofs.CodeReads.TokenReads.{blank_line}
use Rattle.wkt_layer.proofs.lines.read_line.Goals as goal

pub returns-then-are_blank-clause-reads : goal.returns-then-are_blank-clause-reads
returns-then-are_blank-clause-reads c = λ before held none. (
  [],
  blank_line c.args.exact c.args.base c.args.line.now (sym c.are_blank.ensures ∙ c.if-are_blank.true),
  subst (λ done. Held c.args.pass.now done []) (sym (append-nil before)) held,
  none,
)
