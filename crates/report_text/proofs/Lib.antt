-- The files of lemmas of report_text.
mod LongerTexts
mod Names
mod LineTexts
mod LineLaws
mod LayerLaws
mod ChangeLaws
mod SideLaws
mod PrintableLines
mod LineSpellings
mod LineRuns
mod LineRecognition
mod ReadPrefixes
mod OneReport
mod Outcomes
mod WorkedExamples
