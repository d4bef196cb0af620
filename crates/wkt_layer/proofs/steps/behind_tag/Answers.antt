-- Answers to the goals of `behind_tag` in src/steps.rt.
use Rattle.std.proofs.Common.{◌≡◌, Some, refl, sym, subst}
use Rattle.wkt_layer.specs.InsideStates.{state, content, enter_step, tagged_step}
use Rattle.wkt_layer.specs.InsidePasses.{Goes, token_for}
use Rattle.wkt_layer.proofs.CodeReads.CodeSteps.{tagged_mark, tagged_enters, opened_empty, same_word}
use Rattle.wkt_layer.proofs.steps.behind_tag.Goals as goal

pub returns-in-Z-clause-goes : goal.returns-in-Z-clause-goes
returns-in-Z-clause-goes c = λ before paths text held. (
  state (content c.content.result) c.args.pass.now.stack paths,
  subst (λ inner. tagged_step c.args.kind c.args.pass.now.stack paths
      (token_for c.args.token.start text c.args.token.sign) ≡ Some (state (content inner) c.args.pass.now.stack paths))
      (sym c.content.ensures)
      (tagged_mark c.args.kind c.args.pass.now.stack paths c.args.token.start text c.args.token.sign c.in-Word.word
      c.in-Word.is c.in-Z.is),
  record { stack = refl; held = held; shows = refl },
  opened_empty c.args.token.start c.args.pass.now.opened text c.args.token.sign c.in-Word.word c.in-Word.is,
)

pub returns-in_default-word-clause-goes : goal.returns-in_default-word-clause-goes
returns-in_default-word-clause-goes c = λ before paths text held.
    let t = token_for c.args.token.start text c.args.token.sign in
    subst (λ to. Goes to t c.args.token.start before c.args.pass.now c.enter.result c.enter.new.pass)
    (tagged_enters c.args.kind c.args.pass.now.stack paths c.args.token.start text c.args.token.sign
    (λ w is mark. c.in_default-word.not-Z (same_word c.args.token.sign c.in-Word.word w c.in-Word.is is mark)))
    (subst (λ inner. Goes (enter_step inner c.args.pass.now.stack paths t) t c.args.token.start before c.args.pass.now
    c.enter.result c.enter.new.pass) c.content-in_default-word.ensures
    (c.enter.ensures.goes before paths text held))

pub returns-in_default-clause-goes : goal.returns-in_default-clause-goes
returns-in_default-clause-goes c = λ before paths text held.
    let t = token_for c.args.token.start text c.args.token.sign in
    subst (λ to. Goes to t c.args.token.start before c.args.pass.now c.enter-in_default.result
    c.enter-in_default.new.pass)
    (tagged_enters c.args.kind c.args.pass.now.stack paths c.args.token.start text c.args.token.sign
    (λ w is mark. c.in_default.not-Word w is))
    (subst (λ inner. Goes (enter_step inner c.args.pass.now.stack paths t) t c.args.token.start before c.args.pass.now
    c.enter-in_default.result c.enter-in_default.new.pass) c.content-in_default.ensures
    (c.enter-in_default.ensures.goes before paths text held))
