-- Answers to the goals of `joined_kind` in src/word_uses.rt.
use Rattle.std.proofs.Common.{arith, ◌∙◌, List, ℕ, ap, ap₂, sym, codes, ◌++◌}
use Rattle.run_notes.specs.WordUses.{has_equals}
use Rattle.run_notes.proofs.WordCuts.{front-lacks, joined, unknown-cut, unknown-whole}
use Rattle.run_notes.proofs.word_uses.joined_kind.Goals as goal

pub returns-then-takes_value : goal.returns-then-takes_value
returns-then-takes_value c =
    let (front, behind, within) = c.in-Some.ensures.byte (omega arith) (λ w o h. h) in (
      joined c.args.word.now within ∙ ap₂ (λ (x y : List ℕ). x ++ codes "=" ++ y) (sym front) (sym behind),
      ap has_equals front ∙ front-lacks c.args.word.now,
      cc,
    )

pub returns-else-takes_value : goal.returns-else-takes_value
returns-else-takes_value c =
    let (front, behind, within) = c.in-Some.ensures.byte (omega arith) (λ w o h. h) in
    unknown-cut _ c.args.word.now c.in-Some.name.now c.requires.begins c.requires.not_end c.requires.no_flag
    c.requires.no_value front cc

pub returns-in-None : goal.returns-in-None
returns-in-None c =
    unknown-whole _ c.args.word.now c.requires.begins c.requires.not_end c.requires.no_flag c.requires.no_value
    (c.in-None.ensures.byte (omega arith) (λ w o h. h))
