-- The files of lemmas of remarks.
mod ShownBytes
mod PutTexts
