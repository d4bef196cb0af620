-- Where a path is written, among the paths of all layers.
use Rattle.std.specs.Prelude.{ℕ, List, [], get_or, None}
use Rattle.change_places.specs.Words.{PathText}

-- where no path is written
abbrev pub no_words : PathText
no_words = record { at = None; feature = None; id = None; name = None }

-- where the path of the second number is written, which is one of the layer of the first number
abbrev pub words_at : List (List PathText) → ℕ → ℕ → PathText
words_at places layer path = get_or (get_or places layer []) path no_words
