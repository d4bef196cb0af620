-- The files of lemmas of check_mode.
mod CheckRefusals
mod CheckEndExists
