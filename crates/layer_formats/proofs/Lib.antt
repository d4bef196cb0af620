-- The files of lemmas of layer_formats.
mod LayerTextLaws
