-- The names of layers that may be carried have no control character.
use Rattle.std.proofs.Common.{ℕ, List, [], ◌∷◌}
use Rattle.std.specs.List.{AllByRecursion}
use Rattle.job_words.specs.JobFields.{IsName}
use Rattle.report_text.specs.Reports.{IsPrintable}

pub printable_names : (names : List (List ℕ)) → AllByRecursion IsName names → AllByRecursion IsPrintable names
printable_names [] all = tt
printable_names (name ∷ names) (own, all) = (own.printable, printable_names names all)
