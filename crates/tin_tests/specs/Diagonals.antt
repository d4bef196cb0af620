-- The sheet of the layers of a format for tests: one line, and no edit.
use Rattle.std.specs.Prelude.{pos, [], ◌∷◌, None}
use Rattle.sheet_base.specs.declared.paths.PathKind.TheVariants.{Line}
use Rattle.sheet_base.specs.Sheets.{Contents}

abbrev pub diagonal : Contents
diagonal = record {
  paths = record { kind = Line; first = 0; past = 2 } ∷ [];
  points = record { x = pos 10000; y = pos 0 } ∷ record { x = pos 0; y = pos 10000 } ∷ [];
  heights = None ∷ None ∷ [];
  edits = [];
  inexact = 5;
  dropped = 7;
}
