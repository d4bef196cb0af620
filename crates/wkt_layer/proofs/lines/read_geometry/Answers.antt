-- Answers to the goals of `read_geometry` in src/lines.rt.
use Rattle.std.proofs.Common.{◌≡◌, ◌≤◌, ◌+◌, ◌++◌, [], length, sym, ◌∙◌, subst, append-nil, arith, true, false}
use Rattle.wkt_layer.specs.InsideStates.{start}
use Rattle.wkt_layer.specs.InsidePasses.{Held, HasRoom}
use Rattle.wkt_layer.proofs.CodeReads.TokenReads.{reached_start, reached_end, reached_open, black_tokens}
use Rattle.wkt_layer.proofs.CodeReads.CodeSteps.{last_points}
use Rattle.wkt_layer.proofs.lines.read_geometry.Goals as goal

pub loop-at-init : goal.loop-at-init
loop-at-init c = record {
  within = omega arith;
  room = let e : c.args.base ≡ c.args.base + 0 = omega arith in subst (HasRoom c.args.pass.now) e c.requires.room;
  begins = tt;
  reached = λ before held none. (
    [],
    start,
    record {
      stack = none;
      held = subst (λ done. Held c.args.pass.now done []) (sym (append-nil before)) held;
      shows =
          tt;
    },
    reached_start c.args.exact c.args.base c.args.line.now c.args.pass.now.opened,
  );
}

pub returns-then-is_end-clause-reads : goal.returns-then-is_end-clause-reads
returns-then-is_end-clause-reads c = λ before held none.
    let (front, s, stands, r) = c.loop-at.invariant.reached before held none in
    let end = (c.is_end.ensures before s stands).0 c.if-is_end.true in
    let over : length c.args.line.now ≤ c.loop-at.at = omega arith in (
      s.paths,
      reached_end c.args.exact c.args.base c.args.line.now c.loop-at.at front s c.loop-at.pass.opened over
          (black_tokens c.args.base c.args.line.now c.requires.some) r end,
      subst (Held c.loop-at.pass (before ++ s.paths)) (last_points s.spot end.last) stands.held,
      stands.stack ∙ end.closed,
    )

pub returns-else-is_end-clause-reads : goal.returns-else-is_end-clause-reads
returns-else-is_end-clause-reads c = λ before held none memory.
    let (front, s, stands, r) = c.loop-at.invariant.reached before held none in
    let over : length c.args.line.now ≤ c.loop-at.at = omega arith in
    reached_open c.args.exact c.args.base c.args.line.now c.loop-at.at front s c.loop-at.pass.opened over
    (black_tokens c.args.base c.args.line.now c.requires.some) r
    (λ end. let yes = (c.is_end.ensures before s stands).1 end in let never : false ≡ true = sym c.if-is_end.false
    ∙ yes in cc)
