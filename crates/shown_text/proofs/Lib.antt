-- The files of lemmas of shown_text.
mod ShownTexts
mod ShownSteps
