-- Answers to the goals of `member_in` in src/places.rt.
use Rattle.std.proofs.Common.{ℕ, List, Some, Bor, codes, ap, sym, ◌∙◌, option_map}
use Rattle.clap.specs.Matches.{found_of}
use Rattle.clap.proofs.WalkLemmas.{first_value-rows}
use Rattle.job_words.proofs.places.member_in.Goals as goal

pub returns-in_ok-of-in-Some : goal.returns-in_ok-of-in-Some
returns-in_ok-of-in-Some c =
    ap Some c.in_ok-of-in-Some.ensures
    ∙ (sym (ap (option_map (λ (text : Bor (List ℕ)). text.now)) c.in-Some.is) ∙ c.get_str.ensures
    ∙ first_value-rows (found_of c.args.matches.now) (codes "name"))

pub returns-in-None : goal.returns-in-None
returns-in-None c =
    sym (ap (option_map (λ (text : Bor (List ℕ)). text.now)) c.in-None.is) ∙ c.get_str.ensures
    ∙ first_value-rows (found_of c.args.matches.now) (codes "name")
