-- The files of lemmas of file_digests.
mod Pieces
