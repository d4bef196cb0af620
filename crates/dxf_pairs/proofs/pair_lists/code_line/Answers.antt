-- Answers to the goals of `code_line` in src/pair_lists.rt.
use Rattle.std.proofs.Common.{◌≡◌, ◌+◌, ◌-◌, FitsSigned, w32, rules, arith, sym, ◌∙◌, ap, take, drop, ℕ}
use Rattle.std.proofs.lemmas.Int.{to_z-of_z}
use Rattle.std.proofs.lemmas.List.{take_rest}
use Rattle.dxf_pairs.specs.Codes.{code_of, number_of}
use Rattle.dxf_pairs.specs.Lines.{between}
use Rattle.dxf_pairs.proofs.pair_lists.code_line.Goals as goal

pub returns-in-Some-clause-code : goal.returns-in-Some-clause-code
returns-in-Some-clause-code c =
    let fits : FitsSigned w32 c.in-Some.plain.code = search rules in
    let code = rw (take_rest c.args.bytes.now c.args.start) at c.in-Some.ensures.code in
    let size : c.args.start + c.in-Some.plain.end - c.args.start ≡ c.in-Some.plain.end = omega arith in
    simp to_z-of_z (sym (ap (λ (n : ℕ). code_of (take n (drop c.args.start c.args.bytes.now))) size ∙ code))

pub returns-clause-code : goal.returns-clause-code
returns-clause-code c =
    let before = c.value_in_line-before.result.0 in
    let text = between c.args.start c.line_from-line.result.end c.args.bytes.now in
    let size : before + c.value_in_line-before.result.1 - before ≡ c.value_in_line-before.result.1 = omega arith in
    c.code_in.ensures
    ∙ ap number_of (ap (λ (n : ℕ). take n (drop before text)) size ∙ c.value_in_line-before.ensures.value)
