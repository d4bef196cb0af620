-- The files of lemmas of verified_migrations.
mod PieceCertificates
mod SentLayers
mod SourcesAlone
