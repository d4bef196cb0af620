-- The maker's texts for one cell, computed.
use Rattle.std.proofs.Common.{◌≡◌, refl, codes}
use Rattle.std.specs.Fmt.{digits}
use Rattle.migrate_mode.specs.MakerTexts.{tin_text, layer_text, tin_front, tin_between, tin_end, vertex_row, triangle_row}
use Rattle.migrate_mode.specs.MakerTexts.{target_x_of, target_y_of, layer_line}

one_cell_tin : tin_text 1
    ≡ codes
    "{\"file_type\":\"triangulation_file\",\"format_version\":\"1.1\",\"transformed_components\":[\"horizontal\"],\"vertices_columns\":[\"source_x\",\"source_y\",\"target_x\",\"target_y\"],\"triangles_columns\":[\"idx_vertex1\",\"idx_vertex2\",\"idx_vertex3\"],\"vertices\":[[0,0,1000.000,2000.000],[10,0,1010.007,2000.011],[0,10,1000.013,2010.005],[10,10,1010.020,2010.016]],\"triangles\":[[0,1,3],[0,3,2]]}"
unfolding tin_front tin_between tin_end vertex_row triangle_row target_x_of target_y_of digits
one_cell_tin = refl

one_cell_layer : layer_text 1 ≡ codes "LINESTRING (0 2.5, 10 7.5)\n"
unfolding layer_line digits
one_cell_layer = refl
