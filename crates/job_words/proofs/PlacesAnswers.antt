-- What the matches of the words of `tinplaces` ask for.
use Rattle.std.proofs.Common.{◌≡◌, ◌⊎◌, inl, inr, List, Option, Some, None, Ok, Err, Bool, refl, sym, ap, ◌∙◌}
use Rattle.std.proofs.Common.{codes}
use Rattle.clap.specs.Walk.{Row, Text, first_of}
use Rattle.sheet_base.specs.declared.flags.How.{How}
use Rattle.job_words.specs.declared.places.PlacesJob.{PlacesJob}
use Rattle.job_words.specs.declared.faults.WordsFault.{WordsFault}
use Rattle.job_words.specs.declared.faults.WordsFault.TheVariants.{NoMemory}
use Rattle.job_words.specs.Readings.{is_set, text_in, texts_in}
use Rattle.job_words.specs.Faults.{IsAnswer}
use Rattle.job_words.specs.Jobs.{how_in, unless}
use Rattle.job_words.specs.PlacesJobs.{places_answer_in, places_fault, places_in}

-- names that are those of the matches
pub record AreNamed (rows : List Row) (tin_name : Text) (layer_names : List Text) : Type 0 where
  pub tin : tin_name ≡ text_in (codes "tin") rows
  pub layers : layer_names ≡ texts_in (codes "layer") rows

same-fault : (rows : List Row) (tin : Text) (layers : List Text) → AreNamed rows tin layers
    → places_answer_in rows ≡ unless (places_fault tin layers) (places_in rows)
same-fault rows tin layers named = rw (named.tin, named.layers) refl

-- a fault of the names, or memory ran out
pub places-refused : (rows : List Row) (tin : Text) (layers : List Text) (fault : WordsFault)
    → AreNamed rows tin layers → (fault ≡ NoMemory) ⊎ (places_fault tin layers ≡ Some fault)
    → IsAnswer (places_answer_in rows) (Err fault)
places-refused rows tin layers fault named is = elim is [
  | inl memory ↦ inl (ap (λ f. Err f) memory)
  | inr own ↦ inr (sym (same-fault rows tin layers named ∙ ap (λ f. unless f (places_in rows)) own))
]

-- names without a fault
pub places-taken : (rows : List Row) (tin : Text) (layers : List Text) (wanted : PlacesJob) → AreNamed rows tin layers
    → places_fault tin layers ≡ None → wanted ≡ places_in rows → IsAnswer (places_answer_in rows) (Ok wanted)
places-taken rows tin layers wanted named none is =
    inr (ap (λ w. Ok w) is ∙ sym (same-fault rows tin layers named ∙ ap (λ f. unless f (places_in rows)) none))

-- the flags of what is asked for
pub record HasFlags (rows : List Row) (how : How) (inverse sides lines across : Bool) : Type 0 where
  pub how_is : how ≡ how_in rows
  pub inverse_is : inverse ≡ is_set (codes "inverse") rows
  pub sides_is : sides ≡ is_set (codes "sides") rows
  pub lines_is : lines ≡ is_set (codes "lines") rows
  pub across_is : across ≡ is_set (codes "across") rows

-- what is read of the matches
pub same-places : (rows : List Row) (how : How) (inverse sides lines across : Bool) (member : Option Text) (tin : Text)
    (layers : List Text) → AreNamed rows tin layers → HasFlags rows how inverse sides lines across
    → member ≡ first_of (codes "name") rows
    → ◌≡◌ {A = PlacesJob} (record {
      tin = tin;
      how = how;
      inverse = inverse;
      sides = sides;
      lines = lines;
      across = across;
      member = member;
      layers = layers;
    }) (places_in rows)
same-places rows how inverse sides lines across member tin layers named flags is = λ i. record {
  tin = named.tin i;
  how = flags.how_is i;
  inverse = flags.inverse_is i;
  sides = flags.sides_is i;
  lines = flags.lines_is i;
  across = flags.across_is i;
  member = is i;
  layers = named.layers i;
}
