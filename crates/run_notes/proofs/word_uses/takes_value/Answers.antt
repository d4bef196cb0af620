-- Answers to the goals of `takes_value` in src/word_uses.rt.
use Rattle.std.proofs.Common.{◌≡◌, ◌∙◌, ◌||◌, Bool, true, false, Bor, List, ℕ}
use Rattle.std.specs.Str.{bytes_eq}
use Rattle.clap.proofs.WalkLemmas.{list_any-map}
use Rattle.run_notes.proofs.word_uses.takes_value.Goals as goal

-- one of two is found, or else the answer is the other
one_found : (found one other : Bool) → found ≡ true → found ≡ one → found ≡ (one || other)
one_found found true other is same = is
one_found found false other is same = cc

other_found : (found also one other : Bool) → found ≡ false → found ≡ one → also ≡ other → also ≡ (one || other)
other_found found also true other is same next = cc
other_found found also false other is same next = next

pub returns-then-has_name : goal.returns-then-has_name
returns-then-has_name c =
    one_found c.has_name.result _ _ (cc) (c.has_name.ensures
    ∙ list_any-map (λ (option : List ℕ × List ℕ). bytes_eq option.0 c.args.name.now)
    (λ (option : Bor (List ℕ) × Bor (List ℕ)). (option.0.now, option.1.now)) c.args.form.now.valued.now)

pub returns-else-has_name : goal.returns-else-has_name
returns-else-has_name c =
    other_found c.has_name.result c.is_among.result _ _ (cc) (c.has_name.ensures
    ∙ list_any-map (λ (option : List ℕ × List ℕ). bytes_eq option.0 c.args.name.now)
    (λ (option : Bor (List ℕ) × Bor (List ℕ)). (option.0.now, option.1.now)) c.args.form.now.valued.now)
    (c.is_among.ensures ∙ list_any-map (λ (option : List ℕ). bytes_eq option c.args.name.now)
    (λ (option : Bor (List ℕ)). option.now) c.args.form.now.optional.now)
