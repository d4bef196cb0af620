-- The files of definitions of layer_formats, and those of lower crates that its clauses cite.
pub use Rattle.sheet_base.specs.ImageFits
pub use Rattle.sheet_base.specs.Outcomes
pub use Rattle.sheet_base.specs.Sheets
pub use Rattle.wkt_layer.specs.Layers
pub use Rattle.wkt_layer.specs.Texts
pub use Rattle.gj_layer.specs.Layers as GjLayerLayers
pub use Rattle.gj_layer.specs.Texts as GjLayerTexts
pub use Rattle.dxf_copies.specs.Rendering
pub use Rattle.dxf_layer.specs.Drawings
pub use Rattle.dxf_layer.specs.ReadBack
pub use Rattle.layer_features.specs.Features
pub use Rattle.layer_features.specs.JsonFeatures
pub use Rattle.layer_features.specs.DrawingFeatures
pub use Rattle.job_words.specs.Formats
pub use Rattle.job_words.specs.JobFields
pub mod LayerTexts
pub mod LayerOutcomes
pub mod LayerFeatures
