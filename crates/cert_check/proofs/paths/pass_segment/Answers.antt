-- Answers to the goals of `pass_segment` in src/paths.rt.
use Rattle.std.proofs.Common.{List, ℕ, length, Bor, refl, ap, arith}
use Rattle.cert_check.specs.Lines.{IsLine}
use Rattle.cert_check.specs.RightLists.{IsRightList}
use Rattle.cert_check.specs.InsideSheetLists.{HasNoLineWithin}
use Rattle.cert_check.proofs.FewNumbers.{wrong_within}
use Rattle.cert_check.proofs.LineNumbers.{line_long}
use Rattle.cert_check.proofs.ListPasses.{refused}
use Rattle.cert_check.proofs.PathLists.{wrong_line}
use Rattle.cert_check.proofs.paths.pass_segment.Goals as goal
use Rattle.plain_laws.proofs.Options.{some_told, none_told}

pub returns-in_default-clause-cause : goal.returns-in_default-clause-cause
returns-in_default-clause-cause c = (
  refl,
  refl,
  wrong_within c.args.tin.now c.args.way.a c.args.way.b c.args.gathered.now.rest.now c.triangle_count-most.result
      (c.requires.line).0 (c.requires.line).1.0 c.triangle_count-most.ensures (c.requires.line).1.1
      (none_told (HasNoLineWithin c.args.gathered.now.rest.now c.triangle_count-most.result) c.in_ok-rest.field-0
      c.in_default.is c.in_ok-rest.ensures.none),
)

pub returns-then-not-is_right-clause-cause : goal.returns-then-not-is_right-clause-cause
returns-then-not-is_right-clause-cause c = (
  refl,
  refl,
  wrong_line c.args.tin.now c.args.way.a c.args.way.b c.args.gathered.now.rest.now c.read_line.new.numbers.items
      c.deref.result.now c.in-Some.rest.now
      (some_told (λ (rest : Bor (List ℕ)). IsLine c.args.gathered.now.rest.now c.read_line.new.numbers.items rest.now)
      c.in_ok-rest.field-0 c.in-Some.rest c.in-Some.is c.in_ok-rest.ensures.some) c.deref.ensures.value
      (refused c.is_right.result (IsRightList c.args.tin.now c.args.way.a c.args.way.b c.deref.result.now)
      c.if-not-is_right.true c.is_right.ensures),
)

pub push_run-requires-clause-few : goal.push_run-requires-clause-few
push_run-requires-clause-few c =
    let line = some_told (λ (rest : Bor (List ℕ)). IsLine c.args.gathered.now.rest.now c.read_line.new.numbers.items
    rest.now) c.in_ok-rest.field-0 c.in-Some.rest c.in-Some.is c.in_ok-rest.ensures.some in
    let long = line_long c.args.gathered.now.rest.now c.read_line.new.numbers.items c.in-Some.rest.now line in
    let same = ap (λ (ns : List ℕ). length ns) c.deref-2.ensures.value in
    let each = c.requires.each in
    let few = c.requires.few in
    omega (arith, long, same, each, few)

pub returns-clause-few : goal.returns-clause-few
returns-clause-few c =
    let line = some_told (λ (rest : Bor (List ℕ)). IsLine c.args.gathered.now.rest.now c.read_line.new.numbers.items
    rest.now) c.in_ok-rest.field-0 c.in-Some.rest c.in-Some.is c.in_ok-rest.ensures.some in
    let long = line_long c.args.gathered.now.rest.now c.read_line.new.numbers.items c.in-Some.rest.now line in
    let list = line.list in
    let some = list.some in
    let same = ap (λ (ns : List ℕ). length ns) c.deref-2.ensures.value in
    let count = c.in_ok-triangle.ensures.count in
    omega (arith, long, some, same, count)
