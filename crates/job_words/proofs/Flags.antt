-- What the getters of matches read, by the rows of the matches.
use Rattle.std.proofs.Common.{◌≡◌, Bool, true, false, Option, Some, None, refl, sym, codes, unwrap_or, option_map, Bor}
use Rattle.std.specs.Option.{option_map_or}
use Rattle.std.specs.Str.{bytes_eq}
use Rattle.std.specs.Str.Parse.{ParsesBool, false_text, true_text}
use Rattle.clap.specs.Matches.{ReadsOne}
use Rattle.clap.specs.Walk.{Text}
use Rattle.job_words.proofs.TestValues.{texts-differ}

-- a text that may be missing, read through its reference
pub text-or : (text : Option (Bor Text)) (other : Bor Text)
    → (unwrap_or text other).now ≡ unwrap_or (option_map (λ t. t.now) text) other.now
text-or None other = refl
text-or (Some text) other = refl

-- a flag that is read as a truth value is set where its text is that of `true`
pub flag-read : (E : Type 0) (text : Option Text) (read : Option Bool) → (text ≡ None → read ≡ None)
    → ((t : Text) → text ≡ Some t → ReadsOne {E = E} ParsesBool t read)
    → unwrap_or read false ≡ option_map_or (bytes_eq (codes "true")) text false
flag-read E None read none some = rw (none refl) refl
flag-read E (Some t) (Some true) none some = let is : t ≡ true_text = some t refl in
    rw is refl
flag-read E (Some t) (Some false) none some = let is : t ≡ false_text = some t refl in
    rw is refl
flag-read E (Some t) None none some = sym (texts-differ (codes "true") t (λ same. (some t refl).1.0 (sym same)))
