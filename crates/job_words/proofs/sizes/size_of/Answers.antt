-- Answers to the goals of `size_of` in src/sizes.rt.
use Rattle.std.proofs.Common.{sym, ◌∙◌}
use Rattle.job_words.proofs.SizesRead.{size-unread}
use Rattle.job_words.proofs.sizes.size_of.Goals as goal

pub returns-in-Err : goal.returns-in-Err
returns-in-Err c = sym (size-unread c.args.word.now c.in-Err.ensures.value.0
    (sym c.is_plain.ensures ∙ c.if-not-is_plain.false))
