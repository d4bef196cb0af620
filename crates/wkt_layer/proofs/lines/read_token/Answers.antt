-- Answers to the goals of `read_token` in src/lines.rt.
use Rattle.std.proofs.Common.{◌≡◌, ◌+◌, ◌-◌, take, drop, length, sym, ap, subst, arith}
use Rattle.sheet_base.proofs.HandedOn.{passed_on}
use Rattle.wkt_layer.specs.InsidePasses.{Reads}
use Rattle.wkt_layer.proofs.CodeReads.TokenReads.{token_reads, token_fails}
use Rattle.wkt_layer.proofs.lines.read_token.Goals as goal
use Rattle.plain_laws.proofs.Lists.{take_rest}

pub returns-clause-reads : goal.returns-clause-reads
returns-clause-reads c = λ before front s stands r.
    let line = c.args.line.now in
    let size = c.first_token-sign.result.1 in
    let same : c.args.at + c.first_token-sign.result.1 - c.args.at ≡ c.first_token-sign.result.1 = omega arith in
    token_reads c.args.exact c.args.base c.args.line.now c.args.at c.first_token-sign.result.0
    c.first_token-sign.result.1
    (take (length c.args.line.now - c.args.at) (drop c.args.at c.args.line.now))
    (take (c.args.at + c.first_token-sign.result.1 - c.args.at) (drop c.args.at c.args.line.now))
    before c.args.pass.now c.step.new.pass c.in_ok-next.next
    (take_rest c.args.line.now c.args.at) (ap (λ n. take n (drop c.args.at c.args.line.now)) same) c.requires.within
    c.requires.black c.first_token-sign.ensures.some c.first_token-sign.ensures.token
    front s (c.in_ok-next.ensures.leads before s stands) r

pub returns-in_err-next-clause-reads : goal.returns-in_err-next-clause-reads
returns-in_err-next-clause-reads c = λ before front s stands r.
    let same : c.args.at + c.first_token-sign.result.1 - c.args.at ≡ c.first_token-sign.result.1 = omega arith in
    subst (λ answer. Reads c.args.exact c.args.base c.args.line.now before answer c.step.new.pass)
    (sym (passed_on c.in_err-next.field-0.0 c.from_residual.result c.from_residual.ensures.1)) (λ memory.
    token_fails c.args.exact c.args.base c.args.line.now c.args.at c.first_token-sign.result.0
    c.first_token-sign.result.1
    (take (length c.args.line.now - c.args.at) (drop c.args.at c.args.line.now))
    (take (c.args.at + c.first_token-sign.result.1 - c.args.at) (drop c.args.at c.args.line.now))
    before c.args.pass.now c.step.new.pass c.in_err-next.field-0.0
    (take_rest c.args.line.now c.args.at) (ap (λ n. take n (drop c.args.at c.args.line.now)) same) c.requires.within
    c.requires.black c.first_token-sign.ensures.some c.first_token-sign.ensures.token
    front s (c.in_err-next.ensures.leads before s stands) r memory)
