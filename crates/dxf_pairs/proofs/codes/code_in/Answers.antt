-- Answers to the goals of `code_in` in src/codes.rt.
use Rattle.std.proofs.Common.{◌≤◌, FitsSigned, w32, arith, subst, sym}
use Rattle.std.specs.Prelude.{unsigned_abs}
use Rattle.std.proofs.lemmas.Int.{to_z-of_z}
use Rattle.dxf_pairs.proofs.Between.{no_number, code_utf8, code_fits, read_code}
use Rattle.dxf_pairs.specs.declared.codes.TheConstants.{MOST_CODE}
use Rattle.dxf_pairs.proofs.codes.code_in.Goals as goal

pub returns-in_default : goal.returns-in_default
returns-in_default c = no_number c.args.text.now
    (λ digits. c.in_default.ensures.cases.0 (code_utf8 c.args.text.now digits))

pub returns-in_default-parse : goal.returns-in_default-parse
returns-in_default-parse c =
    let same = c.in-Ok.ensures.cases.0 in no_number c.args.text.now (λ digits. c.in_default-parse.ensures.value.0
    (rw same (digits.numeral, code_fits c.args.text.now digits)))

pub returns : goal.returns
returns c =
    let read = rw c.in-Ok.ensures.cases.0 at c.in-Ok-parse.ensures.value.0 in
    let fits : FitsSigned w32 c.in-Ok-parse.code = subst (FitsSigned w32) (sym read.1) read.0.1 in
    let small : unsigned_abs c.in-Ok-parse.code ≤ MOST_CODE =
    omega (arith, simp to_z-of_z at c.unsigned_abs.ensures.value) in
    simp to_z-of_z (read_code c.args.text.now c.in-Ok-parse.code read.0.0 read.1 small)
