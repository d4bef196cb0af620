-- Answers to the goals of `type_named` in src/objects.rt.
use Rattle.std.proofs.Common.{refl, sym, ◌∙◌}
use Rattle.gj_layer.proofs.objects.type_named.Goals as goal

pub returns-then-tells : goal.returns-then-tells
returns-then-tells c start chars h = rw (sym (c.tells.ensures start chars h) ∙ c.if-tells.true) refl

pub returns-then-tells-2 : goal.returns-then-tells-2
returns-then-tells-2 c start chars h = rw (
  sym (c.tells.ensures start chars h) ∙ c.if-tells.false,
  sym (c.tells-else-tells.ensures start chars h) ∙ c.if-tells-2.true,
) refl

pub returns-then-tells-3 : goal.returns-then-tells-3
returns-then-tells-3 c start chars h = rw (
  sym (c.tells.ensures start chars h) ∙ c.if-tells.false,
  sym (c.tells-else-tells.ensures start chars h) ∙ c.if-tells-2.false,
  sym (c.tells-else-tells-2.ensures start chars h) ∙ c.if-tells-3.true,
) refl

pub returns-then-tells-4 : goal.returns-then-tells-4
returns-then-tells-4 c start chars h = rw (
  sym (c.tells.ensures start chars h) ∙ c.if-tells.false,
  sym (c.tells-else-tells.ensures start chars h) ∙ c.if-tells-2.false,
  sym (c.tells-else-tells-2.ensures start chars h) ∙ c.if-tells-3.false,
  sym (c.tells-else-tells-3.ensures start chars h) ∙ c.if-tells-4.true,
) refl

pub returns-then-tells-5 : goal.returns-then-tells-5
returns-then-tells-5 c start chars h = rw (
  sym (c.tells.ensures start chars h) ∙ c.if-tells.false,
  sym (c.tells-else-tells.ensures start chars h) ∙ c.if-tells-2.false,
  sym (c.tells-else-tells-2.ensures start chars h) ∙ c.if-tells-3.false,
  sym (c.tells-else-tells-3.ensures start chars h) ∙ c.if-tells-4.false,
  sym (c.tells-else-tells-4.ensures start chars h) ∙ c.if-tells-5.true,
) refl

pub returns-then-tells-6 : goal.returns-then-tells-6
returns-then-tells-6 c start chars h = rw (
  sym (c.tells.ensures start chars h) ∙ c.if-tells.false,
  sym (c.tells-else-tells.ensures start chars h) ∙ c.if-tells-2.false,
  sym (c.tells-else-tells-2.ensures start chars h) ∙ c.if-tells-3.false,
  sym (c.tells-else-tells-3.ensures start chars h) ∙ c.if-tells-4.false,
  sym (c.tells-else-tells-4.ensures start chars h) ∙ c.if-tells-5.false,
  sym (c.tells-else-tells-5.ensures start chars h) ∙ c.if-tells-6.true,
) refl

pub returns-then-tells-7 : goal.returns-then-tells-7
returns-then-tells-7 c start chars h = rw (
  sym (c.tells.ensures start chars h) ∙ c.if-tells.false,
  sym (c.tells-else-tells.ensures start chars h) ∙ c.if-tells-2.false,
  sym (c.tells-else-tells-2.ensures start chars h) ∙ c.if-tells-3.false,
  sym (c.tells-else-tells-3.ensures start chars h) ∙ c.if-tells-4.false,
  sym (c.tells-else-tells-4.ensures start chars h) ∙ c.if-tells-5.false,
  sym (c.tells-else-tells-5.ensures start chars h) ∙ c.if-tells-6.false,
  sym (c.tells-else-tells-6.ensures start chars h) ∙ c.if-tells-7.true,
) refl

pub returns-then-tells-8 : goal.returns-then-tells-8
returns-then-tells-8 c start chars h = rw (
  sym (c.tells.ensures start chars h) ∙ c.if-tells.false,
  sym (c.tells-else-tells.ensures start chars h) ∙ c.if-tells-2.false,
  sym (c.tells-else-tells-2.ensures start chars h) ∙ c.if-tells-3.false,
  sym (c.tells-else-tells-3.ensures start chars h) ∙ c.if-tells-4.false,
  sym (c.tells-else-tells-4.ensures start chars h) ∙ c.if-tells-5.false,
  sym (c.tells-else-tells-5.ensures start chars h) ∙ c.if-tells-6.false,
  sym (c.tells-else-tells-6.ensures start chars h) ∙ c.if-tells-7.false,
  sym (c.tells-else-tells-7.ensures start chars h) ∙ c.if-tells-8.true,
) refl

pub returns-then-tells-9 : goal.returns-then-tells-9
returns-then-tells-9 c start chars h = rw (
  sym (c.tells.ensures start chars h) ∙ c.if-tells.false,
  sym (c.tells-else-tells.ensures start chars h) ∙ c.if-tells-2.false,
  sym (c.tells-else-tells-2.ensures start chars h) ∙ c.if-tells-3.false,
  sym (c.tells-else-tells-3.ensures start chars h) ∙ c.if-tells-4.false,
  sym (c.tells-else-tells-4.ensures start chars h) ∙ c.if-tells-5.false,
  sym (c.tells-else-tells-5.ensures start chars h) ∙ c.if-tells-6.false,
  sym (c.tells-else-tells-6.ensures start chars h) ∙ c.if-tells-7.false,
  sym (c.tells-else-tells-7.ensures start chars h) ∙ c.if-tells-8.false,
  sym (c.tells-else-tells-8.ensures start chars h) ∙ c.if-tells-9.true,
) refl

pub returns-else-tells-9 : goal.returns-else-tells-9
returns-else-tells-9 c start chars h = rw (
  sym (c.tells.ensures start chars h) ∙ c.if-tells.false,
  sym (c.tells-else-tells.ensures start chars h) ∙ c.if-tells-2.false,
  sym (c.tells-else-tells-2.ensures start chars h) ∙ c.if-tells-3.false,
  sym (c.tells-else-tells-3.ensures start chars h) ∙ c.if-tells-4.false,
  sym (c.tells-else-tells-4.ensures start chars h) ∙ c.if-tells-5.false,
  sym (c.tells-else-tells-5.ensures start chars h) ∙ c.if-tells-6.false,
  sym (c.tells-else-tells-6.ensures start chars h) ∙ c.if-tells-7.false,
  sym (c.tells-else-tells-7.ensures start chars h) ∙ c.if-tells-8.false,
  sym (c.tells-else-tells-8.ensures start chars h) ∙ c.if-tells-9.false,
) refl
