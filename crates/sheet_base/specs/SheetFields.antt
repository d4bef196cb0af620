-- What contracts see of a sheet's type, and what it keeps.
use Rattle.sheet_base.specs.declared.sheets.Sheet.TheInside.{Inside}
use Rattle.sheet_base.specs.Sheets.{Contents, IsSheet}

abbrev pub view_of : Inside → Contents
view_of sheet = record {
  paths = sheet.paths;
  points = sheet.points;
  heights = sheet.heights;
  edits = sheet.edits;
  inexact =
      sheet.inexact;
  dropped = sheet.dropped;
}

-- what is true of each value of the type
abbrev pub HasInvariant : Inside → Type 0
HasInvariant sheet = IsSheet (view_of sheet)
