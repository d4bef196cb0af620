-- The answers to some words that are written out.
use Rattle.std.proofs.Common.{List, [], ◌∷◌, true, false, refl, codes, None, Some}
use Rattle.clap.proofs.OnLiterals.{clap_on_literals}
use Rattle.clap.specs.Walk.{Text}
use Rattle.job_words.specs.declared.jobs.Job.TheVariants.{Migrate, Check}
use Rattle.job_words.specs.declared.faults.WordsFault.TheVariants.{NoMode, Parse, Size, Suffix, SameName}
use Rattle.job_words.specs.Jobs.{IsJobOf, IsWordsFault}
use Rattle.job_words.specs.PlacesJobs.{IsPlacesFault, IsPlacesJobOf}

-- `migrate --tin t --out o`, and these layers
abbrev migrating : List Text → List Text
migrating layers = codes "migrate" ∷ codes "--tin" ∷ codes "t" ∷ codes "--out" ∷ codes "o" ∷ layers

no-words : IsWordsFault [] NoMode
no-words = refl

no-format : IsWordsFault (migrating (codes "a.tif" ∷ [])) (Suffix 0)
unfolding clap_on_literals
no-format = refl

one-part : IsWordsFault (migrating (codes "a/x.wkt" ∷ codes "b/x.wkt" ∷ [])) (SameName 1)
unfolding clap_on_literals
one-part = refl

no-size : IsWordsFault (codes "make" ∷ codes "0" ∷ []) Size
unfolding clap_on_literals
no-size = refl

twice : IsWordsFault (codes "check" ∷ codes "--tin" ∷ codes "t" ∷ codes "--tin=t" ∷ []) Parse
unfolding clap_on_literals
twice = refl

a-check : IsJobOf (codes "check" ∷ codes "--tin" ∷ codes "s.json" ∷ [])
    (Check (codes "s.json") (record { exact = false; drop_other = false; inside_only = false }))
unfolding clap_on_literals
a-check = refl

options-between : IsJobOf (codes "migrate" ∷ codes "--tin=t.json" ∷ codes "a.WKT" ∷ codes "--exact" ∷ codes "b.json"
    ∷ codes "--out" ∷ codes "o" ∷ [])
    (Migrate (codes "t.json") (codes "o") (record { exact = true; drop_other = false; inside_only = false }) false false false
    (codes "a.WKT" ∷ codes "b.json" ∷ []))
unfolding clap_on_literals
options-between = refl

with-sides : IsJobOf (migrating (codes "--sides" ∷ codes "a.wkt" ∷ []))
    (Migrate (codes "t") (codes "o") (record { exact = false; drop_other = false; inside_only = false }) false false true
    (codes "a.wkt" ∷ []))
unfolding clap_on_literals
with-sides = refl

one-part-of-places : IsPlacesJobOf (codes "--tin" ∷ codes "t" ∷ codes "a/x.wkt" ∷ codes "b/x.wkt" ∷ [])
    (record {
      tin = codes "t";
      how = record { exact = false; drop_other = false; inside_only = false };
      inverse = false;
      sides = false;
      lines = false;
      across = false;
      member = None;
      layers = codes "a/x.wkt" ∷ codes "b/x.wkt" ∷ [];
    })
unfolding clap_on_literals
one-part-of-places = refl

member-of-places : IsPlacesJobOf (codes "a.wkt" ∷ codes "--name=" ∷ codes "--across" ∷ codes "--tin" ∷ codes "t" ∷ [])
    (record {
      tin = codes "t";
      how = record { exact = false; drop_other = false; inside_only = false };
      inverse = false;
      sides = false;
      lines = false;
      across = true;
      member = Some [];
      layers = codes "a.wkt" ∷ [];
    })
unfolding clap_on_literals
member-of-places = refl

no-member : IsPlacesFault (codes "--tin" ∷ codes "t" ∷ codes "a.wkt" ∷ codes "--name" ∷ []) Parse
unfolding clap_on_literals
no-member = refl

two-members : IsPlacesFault (codes "--tin" ∷ codes "t" ∷ codes "a.wkt" ∷ codes "--name" ∷ codes "a" ∷ codes "--name=b" ∷ [])
    Parse
unfolding clap_on_literals
two-members = refl
