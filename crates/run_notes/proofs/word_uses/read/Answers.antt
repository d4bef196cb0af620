-- Answers to the goals of `read` in src/word_uses.rt.
use Rattle.std.proofs.Common.{◌≡◌, ◌∙◌, ◌||◌, ◌∷◌, List, ap, sym, map, subst, string_bytes}
use Rattle.run_notes.specs.WordUses.{is_end, MayFollow}
use Rattle.run_notes.specs.InsideWordFlaws.{form_in, use_in, uses_in}
use Rattle.run_notes.specs.declared.word_uses.Use.{Use}
use Rattle.run_notes.proofs.UseLists.{read-more}
use Rattle.run_notes.proofs.word_uses.read.Goals as goal
use Rattle.run_notes.proofs.word_uses.read.Goals.{then-is_ended, else-is_ended}

pub loop-word-preserved : goal.loop-word-preserved
loop-word-preserved c =
    let ended : c.if-is_ended.is_ended ≡ (c.loop-word.is_ended || is_end (use_in c.in-Ok.next)) =
    elim c.if-is_ended.branch [
      | then-is_ended w ↦ let h = ap (λ b. b || is_end (use_in c.in-Ok.next)) w.if-is_ended.true in cc
      | else-is_ended w ↦ let h = ap (λ b. b || is_end (use_in c.in-Ok.next)) w.if-is_ended.false in cc
    ] in
    let may = subst (λ (us : List Use). MayFollow (form_in c.args.form.now) (uses_in us) (use_in c.in-Ok.next))
    c.deref.ensures.value c.in-Ok.ensures.0 in
    let rest = ap (map string_bytes) c.in-Some.ensures.cases.0
    ∙ ap (λ t. t ∷ map string_bytes c.in-Some.behind.now) (sym c.as_str.ensures.value) ∙ c.in-Ok.ensures.1 in
    rw (ended, c.in_ok-push-in-Ok.ensures.items)
    (read-more (form_in c.args.form.now) (map string_bytes c.args.words.now) c.loop-word.uses.items c.loop-word.is_ended
    (map string_bytes c.loop-word.rest.now) (map string_bytes c.in-Ok.left.now) c.in-Ok.next c.loop-word.invariant
    may rest)
