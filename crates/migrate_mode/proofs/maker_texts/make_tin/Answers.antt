-- Answers to the goals of `make_tin` in src/maker_texts.rt.
use Rattle.std.proofs.Common.{◌≡◌, ◌∷◌, [], ◌++◌, ◌-◌, take, length, ap, ◌∙◌, rules}
use Rattle.std.specs.List.{join_with_byte}
use Rattle.migrate_mode.specs.MakerTexts.{tin_front, tin_between, tin_end, vertex_rows, triangle_rows}
use Rattle.migrate_mode.proofs.MakerRows.{ended_rows-join, vertices_some, triangles_some, tin_parts}
use Rattle.migrate_mode.specs.declared.maker_texts.TheConstants.{COMMA}
use Rattle.migrate_mode.proofs.maker_texts.make_tin.Goals as goal

pub returns-clause-text : goal.returns-clause-text
returns-clause-text c =
    let vertices : c.put_vertices.new.out.items ≡ c.put_front.new.out.items
    ++ (join_with_byte COMMA (vertex_rows c.args.n) ++ COMMA ∷ []) =
    c.in_ok-put_vertices.ensures.text ∙ ap (λ t. c.put_front.new.out.items ++ t)
    (ended_rows-join (vertex_rows c.args.n) (vertices_some c.args.n)) in
    let triangles : c.put_triangles.new.out.items ≡ c.put_between.new.out.items
    ++ (join_with_byte COMMA (triangle_rows c.args.n) ++ COMMA ∷ []) =
    c.in_ok-put_triangles.ensures.text ∙ ap (λ t. c.put_between.new.out.items ++ t)
    (ended_rows-join (triangle_rows c.args.n) (triangles_some c.args.n c.requires.some)) in
    let first_comma : c.pop.new.self.items ≡ take (length c.put_vertices.new.out.items - 1)
    c.put_vertices.new.out.items = search rules in
    let second_comma : c.pop-2.new.self.items
    ≡ take (length c.put_triangles.new.out.items - 1) c.put_triangles.new.out.items = search rules in
    tin_parts tin_front (join_with_byte COMMA (vertex_rows c.args.n)) tin_between
    (join_with_byte COMMA (triangle_rows c.args.n)) tin_end _ _ _ _ _ _ _ _
    c.in_ok-out.ensures.items c.in_ok-put_front.ensures.text vertices first_comma c.in_ok-put_between.ensures.text
    triangles second_comma c.in_ok-put_end.ensures.text
