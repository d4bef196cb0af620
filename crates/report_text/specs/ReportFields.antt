-- What contracts see of a report's type, and what it keeps.
use Rattle.report_text.specs.declared.reports.Report.TheInside.{Inside}
use Rattle.report_text.specs.Reports.{ReportContents, IsReport}

abbrev pub view_of : Inside → ReportContents
view_of report = record {
  corners = report.corners;
  triangles = report.triangles;
  inexact = report.inexact;
  name = report.name;
  layers = report.layers;
  changes = report.changes;
  sides = report.sides;
}

-- what is true of each value of the type
abbrev pub HasInvariant : Inside → Type 0
HasInvariant report = IsReport (view_of report)
