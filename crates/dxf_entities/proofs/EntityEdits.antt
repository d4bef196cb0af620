-- The edits of an entity lie in order and apart, kind by kind.
use Rattle.std.proofs.Common.{◌≡◌, ℕ, ◌+◌, ◌≤◌, ◌<◌, ℤ, pos, List, [], ◌∷◌, Bool, true, false, cond, refl, ap, sym, ◌∙◌}
use Rattle.std.proofs.Common.{subst, arith, inl, inr, Result, Ok, Err, Option, None, Some, unsigned_abs, ◌++◌, length}
use Rattle.std.proofs.Common.{map}
use Rattle.std.proofs.lemmas.Int.{ints}
use Rattle.std.specs.Prelude.{◌⊎◌, ⊤, ◌||◌}
use Rattle.std.proofs.lemmas.Bool.Decides.{Decides-int_eq}
use Rattle.std.proofs.lemmas.Bool.{and_parts}
use Rattle.mm_decimal.specs.declared.limits.TheConstants.{LIMIT}
use Rattle.mm_decimal.proofs.MeasuredAnswers.{read_within}
use Rattle.sheet_base.specs.declared.edits.Edit.{Edit}
use Rattle.sheet_base.specs.declared.edits.What.{What}
use Rattle.sheet_base.specs.declared.edits.What.TheVariants as edits
use Rattle.sheet_base.specs.declared.faults.LayerFault.{LayerFault}
use Rattle.sheet_base.specs.declared.faults.LayerFault.TheVariants.{Count, Attribs}
use Rattle.sheet_base.specs.Faults.{and_then}
use Rattle.sheet_base.specs.declared.edits.What.TheVariants.{X, Y, Tally}
use Rattle.sheet_base.specs.declared.paths.PathKind.{PathKind}
use Rattle.sheet_base.specs.declared.paths.PathKind.TheVariants.{Dot, Line, Loop}
use Rattle.dxf_pairs.specs.declared.pairs.Pair.{Pair}
use Rattle.dxf_entities.specs.declared.fields.Read.{Read}
use Rattle.dxf_entities.specs.declared.drawing.VertexFields.{VertexFields}
use Rattle.dxf_entities.specs.Entities.{is_coded, Entity, entity_end}
use Rattle.dxf_entities.specs.Fields.{coordinate_of, field_at, entity_fields, zero_at, not_zero}
use Rattle.dxf_entities.specs.Shapes.{value_edit, Shape, spot_edits, point_of}
use Rattle.dxf_entities.specs.Polylines.{is_group_code, first_fault, past_group, vertex_of, begins_vertex}
use Rattle.dxf_entities.specs.Polylines.{is_number_pair, vertices_in, vertex_edits, kind_by, kind_of, kind_with}
use Rattle.dxf_entities.specs.Polylines.{count_of, light_shape, light_shapes}
use Rattle.dxf_entities.specs.declared.drawing.Rise.{Rise}
use Rattle.dxf_entities.specs.declared.drawing.PointFields.{PointFields}
use Rattle.dxf_entities.specs.declared.points.LineFields.{LineFields}
use Rattle.dxf_entities.specs.Handles.{handle}
use Rattle.dxf_entities.specs.Points.{spot_at, both_heights, unless_level, rise_of, line_ends, dot_of, dots_of}
use Rattle.dxf_entities.specs.Points.{point_shapes, insert_shapes, second_spot, text_shapes, line_of, line_shapes}
use Rattle.dxf_entities.proofs.WholeShapes.{IsApart, StandApart, wider, no_edits, both_apart, IsRiseWithin}
use Rattle.dxf_entities.proofs.WholeShapes.{IsApartFromAll, AreApart, AreWithin, IsWholeBy, IsClear, within_clear}
use Rattle.dxf_entities.proofs.WholeShapes.{AreGood, all_good, one_good}
use Rattle.dxf_entities.proofs.Members.{went, Follow, by_past, IsIn, Lies, lies, coordinate_is, some_there, one_before}
use Rattle.dxf_entities.proofs.Members.{IsField, wanted_is, spot_fields}

-- ---- the edits of vertices in fields are in order of the fields, and apart from that of their number
-- what is read of one vertex
pub record IsVertex (bytes : List ℕ) (x y : Pair) (pairs : List Pair) (vertex : VertexFields) : Type 0 where
  pub east : vertex.spot.x.pair ≡ x
  pub north : vertex.spot.y.pair ≡ y
  pub past : past_group bytes y.end pairs ≡ Ok vertex.past

pub vertex_is : (bytes : List ℕ) (exact : Bool) (x y : Pair) (pairs : List Pair) (vertex : VertexFields)
    → vertex_of bytes exact x y pairs ≡ Ok vertex → IsVertex bytes x y pairs vertex
vertex_is bytes exact x y pairs vertex is = grind (arith, went, coordinate_is)

-- each of the edits is apart from this one after them
abbrev pub AreOff : List Edit → Edit → Type 0
AreOff [] last = ⊤
AreOff (edit ∷ edits) last = IsApart edit last × AreOff edits last

-- a field 90, which comes before the fields or among them
pub record IsTally (from : ℕ) (fields : List Pair) (tally : Pair) : Type 0 where
  pub code : tally.code ≡ pos 90
  pub start : tally.start < tally.value
  pub value : tally.value ≤ tally.value_end
  pub inside : tally.value_end ≤ tally.end
  pub place : (tally.end ≤ from) ⊎ IsIn tally fields

-- the fields begin with a group that ends here
pub record EndsGroup (bytes : List ℕ) (begin : ℕ) (fields : List Pair) (past : ℕ) (vertices : List VertexFields)
    (upto : ℕ) : Type 0 where
  pub below : begin ≤ upto
  pub inside : upto ≤ past
  pub apart : (n : ℕ) → StandApart upto (vertex_edits n vertices) past
  pub before : (tally : Pair) → IsIn tally fields → tally.code ≡ pos 90 → upto ≤ tally.start

pub record AreOrdered (bytes : List ℕ) (fields : List Pair) (from past : ℕ) (vertices : List VertexFields) : Type 0 where
  pub apart : (n : ℕ) → StandApart from (vertex_edits n vertices) past
  pub off : (what : What) (tally : Pair) → IsTally from fields tally → (n : ℕ)
      → AreOff (vertex_edits n vertices) (value_edit what tally)
  pub group : (begin upto : ℕ) → past_group bytes begin fields ≡ Ok upto → begin ≤ from
      → EndsGroup bytes begin fields past vertices upto

none_ordered : (bytes : List ℕ) (from past : ℕ) → from ≤ past → AreOrdered bytes [] from past []
none_ordered bytes from past order = grind (arith, no_edits)

pub no_fault : (fault : Option LayerFault) (rest : Result ℕ LayerFault) (upto : ℕ) → first_fault fault rest ≡ Ok upto
    → rest ≡ Ok upto
no_fault None rest upto is = is
no_fault (Some fault) rest upto is = absurd (cc)

not_90 : (pair : Pair) → is_group_code pair ≡ true → pair.code ≡ pos 90 → ⊥
not_90 pair group is = let no : is_group_code pair ≡ false = rw is refl in cc

not_10 : (pair : Pair) → is_group_code pair ≡ true → pair.code ≡ pos 10 → ⊥
not_10 pair group is = let no : is_group_code pair ≡ false = rw is refl in cc

-- the same field 90 before other fields
moved : (low from : ℕ) (fields more : List Pair) (tally : Pair) → IsTally from fields tally
    → (tally.end ≤ low) ⊎ IsIn tally more → IsTally low more tally
moved low from fields more tally is place =
    record { code = is.code; start = is.start; value = is.value; inside = is.inside; place = place }

-- a field of another code is passed over
skipped : (bytes : List ℕ) (pair : Pair) (fields : List Pair) (from past : ℕ) (vertices : List VertexFields)
    → Follow from (pair ∷ fields) past → AreOrdered bytes fields pair.end past vertices
    → AreOrdered bytes (pair ∷ fields) from past vertices
skipped bytes pair fields from past vertices follow rest =
    let forth : from ≤ pair.end = omega (arith, follow.0, follow.1, follow.2, follow.3) in
    record {
      apart = λ n. wider pair.end past from past _ (rest.apart n) forth (omega arith);
      off = λ what tally is n. rest.off what tally (still is.place is) n;
      group = λ begin upto is below. by_test (is_group_code pair) refl is below;
    } where
      still : {tally : Pair} → (tally.end ≤ from) ⊎ IsIn tally (pair ∷ fields) → IsTally from (pair ∷ fields) tally
          → IsTally pair.end fields tally
      still (inl before) is = moved _ _ _ _ _ is (inl (omega (arith, follow.0, follow.1, follow.2, follow.3)))
      still (inr (inl same)) is = moved _ _ _ _ _ is (inl (omega (arith, ap (λ (p : Pair). p.end) same)))
      still (inr (inr is_in)) is = moved _ _ _ _ _ is (inr is_in)

      by_test : {begin upto : ℕ} (grouped : Bool) → is_group_code pair ≡ grouped
          → past_group bytes begin (pair ∷ fields) ≡ Ok upto → begin ≤ from
          → EndsGroup bytes begin (pair ∷ fields) past vertices upto
      by_test {begin} {upto} true grouped is below =
          let goes : past_group bytes pair.end fields ≡ Ok upto = no_fault _ _ upto (rw grouped at is) in
          let here = rest.group pair.end upto goes (omega arith) in grind (arith, not_90)
      by_test {begin} {upto} false out is below = grind (arith, by_past, wider, lies)

other_code : (a b : ℤ) (p q : Pair) → p ≡ q → p.code ≡ a → q.code ≡ b → (a ≡ b → ⊥) → ⊥
other_code a b p q same first second other = other (sym first ∙ (ap (λ (r : Pair). r.code) same ∙ second))

single : (what : What) (pair : Pair) (from past : ℕ) → Lies from pair past
    → StandApart from (value_edit what pair ∷ []) past
single what pair from past at = grind arith

-- a vertex in two fields, and those after it
one_ordered : (bytes : List ℕ) (x y : Pair) (pairs : List Pair) (from past : ℕ) (vertex : VertexFields)
    (vertices : List VertexFields) → Follow from (x ∷ y ∷ pairs) past → x.code ≡ pos 10 → y.code ≡ pos 20
    → IsVertex bytes x y pairs vertex → AreOrdered bytes pairs y.end past vertices
    → AreOrdered bytes (x ∷ y ∷ pairs) from past (vertex ∷ vertices)
one_ordered bytes x y pairs from past vertex vertices follow ten twenty is rest = record {
  apart = all_apart;
  off = λ what tally tallied n. off_all what tally n tallied tallied.place;
  group = λ begin upto begun below. by_test begin upto (is_group_code x) refl begun below;
} where
  here : EndsGroup bytes y.end pairs past vertices vertex.past
  here = rest.group y.end vertex.past is.past (omega arith)

  p : Lies from x x.end
  p = record { begins = follow.0; code = follow.1; value = follow.2; inside = follow.3; ends = omega arith }

  q : Lies x.end y y.end
  q = record { begins = follow.4.0; code = follow.4.1; value = follow.4.2; inside = follow.4.3; ends = omega arith }

  all_apart : (n : ℕ) → StandApart from (vertex_edits n (vertex ∷ vertices)) past
  all_apart n =
      let own = here in
      let a = p in
      let b = q in
      let first = subst (λ p. StandApart from (value_edit (edits.X n) p ∷ []) x.end) (sym is.east)
      (single _ x from x.end a) in
      let second = subst (λ p. StandApart x.end (value_edit (edits.Y n) p ∷ []) y.end) (sym is.north)
      (single _ y x.end y.end b) in
      let third : StandApart y.end (record { start = vertex.past; end = vertex.past; what = edits.Vertices n } ∷ [])
      vertex.past =
      record { within = (own.below, omega arith, omega arith, tt); apart = (tt, tt) } in
      let behind = both_apart y.end _ past _ _ own.below own.inside third (own.apart (n + 1)) in
      let later = both_apart x.end y.end past _ _ (omega arith) (omega arith) second behind in
      both_apart from x.end past _ _ (omega arith) (omega arith) first later

  off_all : (what : What) (tally : Pair) (n : ℕ) → IsTally from (x ∷ y ∷ pairs) tally
      → (tally.end ≤ from) ⊎ IsIn tally (x ∷ y ∷ pairs)
      → AreOff (vertex_edits n (vertex ∷ vertices)) (value_edit what tally)
  off_all what tally n tallied (inl before) = grind (arith, here, p, q, moved)
  off_all what tally n tallied (inr (inl same)) =
      absurd (other_code _ _ tally x same tallied.code ten (λ e. absurd (omega (arith, ints))))
  off_all what tally n tallied (inr (inr (inl same))) =
      absurd (other_code _ _ tally y same tallied.code twenty (λ e. absurd (omega (arith, ints))))
  off_all what tally n tallied (inr (inr (inr is_in))) = grind (arith, here, p, q, lies, moved)

  by_test : (begin upto : ℕ) (grouped : Bool) → is_group_code x ≡ grouped
      → past_group bytes begin (x ∷ y ∷ pairs) ≡ Ok upto → begin ≤ from
      → EndsGroup bytes begin (x ∷ y ∷ pairs) past (vertex ∷ vertices) upto
  by_test begin upto true grouped begun below = absurd (not_10 x grouped ten)
  by_test begin upto false out begun below = grind (arith, by_past, wider, all_apart, lies)

-- vertices that were read
pub ordered : (bytes : List ℕ) (exact : Bool) (fields : List Pair) (from past : ℕ) (vertices : List VertexFields)
    → Follow from fields past → vertices_in bytes exact fields ≡ Ok vertices
    → AreOrdered bytes fields from past vertices
ordered bytes exact [] from past vertices follow is = grind (arith, none_ordered)
ordered bytes exact (pair ∷ []) from past vertices follow is = by_test (is_number_pair pair) is where
  by_test : (number : Bool) → cond number (Err (Count pair.line)) (Ok []) ≡ Ok vertices
      → AreOrdered bytes (pair ∷ []) from past vertices
  by_test true made = absurd (cc)
  by_test false made = grind (arith, skipped, none_ordered)
ordered bytes exact (x ∷ y ∷ pairs) from past vertices follow is =
    by_tests (begins_vertex x y) (is_number_pair x) refl is
    (λ vs vs_is. ordered bytes exact pairs y.end past vs follow.4.4 vs_is)
    (λ vs_is. ordered bytes exact (y ∷ pairs) x.end past vertices follow.4 vs_is) where
      by_tests : (begins number : Bool) → begins_vertex x y ≡ begins
          → cond begins (and_then (λ (vertex : VertexFields). and_then (λ (more : List VertexFields). Ok (vertex ∷ more))
          (vertices_in bytes exact pairs)) (vertex_of bytes exact x y pairs))
          (cond number (Err (Count x.line)) (vertices_in bytes exact (y ∷ pairs))) ≡ Ok vertices
          → ((vs : List VertexFields) → vertices_in bytes exact pairs ≡ Ok vs → AreOrdered bytes pairs y.end past vs)
          → (vertices_in bytes exact (y ∷ pairs) ≡ Ok vertices → AreOrdered bytes (y ∷ pairs) x.end past vertices)
          → AreOrdered bytes (x ∷ y ∷ pairs) from past vertices
      by_tests true number begins made behind later =
          let first = went _ (vertex_of bytes exact x y pairs) vertices made in
          let second = went _ (vertices_in bytes exact pairs) vertices first.gives in
          let whole : first.value ∷ second.value ≡ vertices = cc in
          let codes = and_parts (is_coded (pos 10) x) (is_coded (pos 20) y) begins in
          subst (λ vs. AreOrdered bytes (x ∷ y ∷ pairs) from past vs) whole (one_ordered bytes x y pairs from past _ _
          follow ((Decides-int_eq x.code (pos 10)).0 codes.0) ((Decides-int_eq y.code (pos 20)).0 codes.1) (vertex_is
          bytes exact x y pairs _ first.is) (behind second.value second.is))
      by_tests false true begins made behind later = absurd (cc)
      by_tests false false begins made behind later = skipped bytes x _ from past vertices follow (later made)

-- ---- the heights of a line's two ends: which fields they are read of, and that they are within reach
coordinate_within : (bytes : List ℕ) (exact : Bool) (pair : Pair) (read : Read)
    → coordinate_of bytes exact pair ≡ Ok read → unsigned_abs read.mm ≤ LIMIT
coordinate_within bytes exact pair read is = grind (arith, unsigned_abs, read_within)

-- both heights are there, and are read
pub record AreBoth (bytes : List ℕ) (exact : Bool) (first second : Option Pair) (rise : Rise) : Type 0 where
  pub low : Pair
  pub high : Pair
  pub low_is : first ≡ Some low
  pub high_is : second ≡ Some high
  pub begin_is : coordinate_of bytes exact low ≡ Ok rise.begin
  pub end_is : coordinate_of bytes exact high ≡ Ok rise.end

both_found : (bytes : List ℕ) (exact : Bool) (entity : Entity) (first second : Option Pair) (rise : Rise)
    → both_heights bytes exact entity first second ≡ Ok rise → AreBoth bytes exact first second rise
both_found bytes exact entity first second rise is = grind (arith, went, some_there)

-- the two fields of heights, looked up
pub record HasHeights (bytes : List ℕ) (exact : Bool) (entity : Entity) (rise : Option Rise) : Type 0 where
  pub first : Option Pair
  pub first_is : field_at (pos 30) entity ≡ Ok first
  pub second : Option Pair
  pub second_is : field_at (pos 31) entity ≡ Ok second
  pub by : unless_level bytes exact entity first second ≡ Ok rise

pub has_heights : (bytes : List ℕ) (exact : Bool) (entity : Entity) (rise : Option Rise)
    → rise_of bytes exact entity ≡ Ok rise → HasHeights bytes exact entity rise
has_heights bytes exact entity rise is = grind (arith, went)

-- those that are carried were read of their fields
pub both_carried : (bytes : List ℕ) (exact : Bool) (entity : Entity) (first second : Option Pair) (rise : Rise)
    → unless_level bytes exact entity first second ≡ Ok (Some rise) → AreBoth bytes exact first second rise
both_carried bytes exact entity first second rise is = grind (arith, went, both_found)

rise_within : (bytes : List ℕ) (exact : Bool) (entity : Entity) (rise : Option Rise)
    → rise_of bytes exact entity ≡ Ok rise → IsRiseWithin rise
rise_within bytes exact entity None is = tt
rise_within bytes exact entity (Some rise) is = grind (arith, has_heights, both_carried, coordinate_within)

-- the parts of a line that is read
pub record HasLine (bytes : List ℕ) (exact : Bool) (seed : Option Pair) (entity : Entity) (ends : LineFields) : Type 0
  where
    pub own : handle seed entity ≡ Ok tt
    pub begin_is : spot_at bytes exact (pos 10) (pos 20) entity ≡ Ok ends.begin
    pub end_is : spot_at bytes exact (pos 11) (pos 21) entity ≡ Ok ends.end
    pub rise_is : rise_of bytes exact entity ≡ Ok ends.rise

pub line_parts : (bytes : List ℕ) (exact : Bool) (seed : Option Pair) (entity : Entity) (ends : LineFields)
    → line_ends bytes exact seed entity ≡ Ok ends → HasLine bytes exact seed entity ends
line_parts bytes exact seed entity ends is =
    let own = went _ (handle seed entity) ends is in
    let begin = went _ (spot_at bytes exact (pos 10) (pos 20) entity) ends own.gives in
    let end = went _ (spot_at bytes exact (pos 11) (pos 21) entity) ends begin.gives in
    let rise = went _ (rise_of bytes exact entity) ends end.gives in
    let made : LineFields = record { begin = begin.value; end = end.value; rise = rise.value } in
    let same : made ≡ ends = cc in grind arith

-- ---- what is read of an entity of each kind is whole, and its edits lie in the entity, apart from each other
-- two choices, both of which have a property
pub either : {A : Type 0} (P : A → Type 0) (test : Bool) (one other : A) → P one → P other → P (cond test one other)
either {A} P true one other first second = first
either {A} P false one other first second = second

-- the fields of an entity follow each other, between its head and its end
pub record IsLaid (entity : Entity) : Type 0 where
  pub forth : entity.head.start ≤ entity.head.end
  pub order : entity.head.start ≤ entity_end entity
  pub fields : Follow entity.head.end (entity_fields entity) (entity_end entity)

apart_values : (from past : ℕ) (fields : List Pair) → Follow from fields past → (w v : What) (a b : Pair) (x y : ℤ)
    → IsField x a fields → IsField y b fields → (x ≡ y → ⊥) → IsApart (value_edit w a) (value_edit v b)
apart_values from past fields follow w v a b x y a_is b_is other = grind (arith, lies, one_before, Lies, IsApart)

-- a point's two values
pub record HasSpot (x y : ℤ) (spot : PointFields) (fields : List Pair) : Type 0 where
  pub east : IsField x spot.x.pair fields
  pub north : IsField y spot.y.pair fields

has_spot : (bytes : List ℕ) (exact : Bool) (x y : ℤ) (entity : Entity) (spot : PointFields)
    → spot_at bytes exact x y entity ≡ Ok spot → HasSpot x y spot (entity_fields entity)
has_spot bytes exact x y entity spot is = let found =
    spot_fields bytes exact x y entity spot is in record { east = found.east; north = found.north }

spot_within : (n : ℕ) (x y : ℤ) (spot : PointFields) (from past : ℕ) (fields : List Pair) → Follow from fields past
    → HasSpot x y spot fields → AreWithin from (spot_edits n spot) past
spot_within n x y spot from past fields follow has = grind (arith, lies)

dot_apart : (n : ℕ) (spot : PointFields) (from past : ℕ) (fields : List Pair) → Follow from fields past
    → HasSpot (pos 10) (pos 20) spot fields → StandApart from (spot_edits n spot) past
dot_apart n spot from past fields follow has = record {
  within = spot_within n (pos 10) (pos 20) spot from past fields follow has;
  apart = ((apart_values from past fields follow (X n) (Y n) _ _ _ _ has.east has.north (λ e. cc), tt), (tt, tt));
}

two_within : (n m : ℕ) (a b : PointFields) (from past : ℕ) (fields : List Pair) → Follow from fields past
    → HasSpot (pos 10) (pos 20) a fields → HasSpot (pos 11) (pos 21) b fields
    → AreWithin from (spot_edits n a ++ (spot_edits m b ++ [])) past
two_within n m a b from past fields follow first second =
    let p = spot_within n _ _ a from past fields follow first in
    let q = spot_within m _ _ b from past fields follow second in grind arith

two_apart : (n m : ℕ) (a b : PointFields) (from past : ℕ) (fields : List Pair) → Follow from fields past
    → HasSpot (pos 10) (pos 20) a fields → HasSpot (pos 11) (pos 21) b fields
    → StandApart from (spot_edits n a ++ (spot_edits m b ++ [])) past
two_apart n m a b from past fields follow first second =
    let off = apart_values from past fields follow in
    let xy = off (X n) (Y n) _ _ _ _ first.east first.north (λ e. cc) in
    let xx = off (X n) (X m) _ _ _ _ first.east second.east (λ e. cc) in
    let across = off (X n) (Y m) _ _ _ _ first.east second.north (λ e. cc) in
    let yx = off (Y n) (X m) _ _ _ _ first.north second.east (λ e. cc) in
    let yy = off (Y n) (Y m) _ _ _ _ first.north second.north (λ e. cc) in
    let other = off (X m) (Y m) _ _ _ _ second.east second.north (λ e. cc) in
    record {
      within = two_within n m a b from past fields follow first second;
      apart = ((xy, (xx, (across, tt))), ((yx, (yy, tt)), ((other, tt), (tt, tt))));
    }

-- what is read of an entity is good in the entity
abbrev pub IsGood : ℕ → ℕ → Entity → Result (List Shape) LayerFault → Type 0
IsGood low high entity read = (shapes : List Shape) → read ≡ Ok shapes
    → AreGood low high entity.head.start shapes (entity_end entity)

one_dot : (low high : ℕ) (entity : Entity) (spot : PointFields) → IsLaid entity
    → IsClear low high entity.head.start (entity_end entity) → HasSpot (pos 10) (pos 20) spot (entity_fields entity)
    → AreGood low high entity.head.start (dot_of spot ∷ []) (entity_end entity)
one_dot low high entity spot laid clear has =
    let at = entity.head.start in
    let past = entity_end entity in
    let edits : (path first : ℕ) → StandApart at (spot_edits first spot) past =
    λ path first. wider entity.head.end past at past (spot_edits first spot)
    (dot_apart first spot entity.head.end past (entity_fields entity) laid.fields has) laid.forth (omega arith) in
    one_good low high at past (dot_of spot) laid.order refl tt edits
    (λ path first. within_clear low high at past (spot_edits first spot) clear (edits path first).within)

pub point_good : (low high : ℕ) (bytes : List ℕ) (exact : Bool) (entity : Entity) → IsLaid entity
    → IsClear low high entity.head.start (entity_end entity) → IsGood low high entity (point_shapes bytes exact entity)
point_good low high bytes exact entity laid clear shapes is =
    let found = went _ (spot_at bytes exact (pos 10) (pos 20) entity) shapes is in
    let made : dot_of found.value ∷ [] ≡ shapes = cc in
    subst (λ ss. AreGood low high entity.head.start ss (entity_end entity)) made (one_dot low high entity found.value
    laid clear (has_spot bytes exact _ _ entity _ found.is))

pub insert_good : (low high : ℕ) (bytes : List ℕ) (exact : Bool) (entity : Entity) → IsLaid entity
    → IsClear low high entity.head.start (entity_end entity) → IsGood low high entity (insert_shapes bytes exact entity)
insert_good low high bytes exact entity laid clear shapes is =
    let found = went _ (zero_at bytes Attribs (pos 66) entity) shapes is in
    point_good low high bytes exact entity laid clear shapes found.gives

second_has : (bytes : List ℕ) (exact : Bool) (entity : Entity) (spot : PointFields)
    → second_spot bytes exact entity ≡ Ok (Some spot) → HasSpot (pos 11) (pos 21) spot (entity_fields entity)
second_has bytes exact entity spot is =
    let across = went _ (field_at (pos 72) entity) _ is in
    let along = went _ (field_at (pos 73) entity) _ across.gives in
    by_test (not_zero bytes across.value || not_zero bytes along.value) along.gives where
      by_test : (just : Bool) → cond just (and_then (λ (s : PointFields). Ok (Some s))
          (spot_at bytes exact (pos 11) (pos 21) entity)) (Ok None) ≡ Ok (Some spot)
          → HasSpot (pos 11) (pos 21) spot (entity_fields entity)
      by_test true made =
          let found = went _ (spot_at bytes exact (pos 11) (pos 21) entity) _ made in
          let same : found.value ≡ spot = cc in
          has_spot bytes exact (pos 11) (pos 21) entity spot (found.is ∙ ap Ok same)
      by_test false made = absurd (cc)

pub text_good : (low high : ℕ) (bytes : List ℕ) (exact : Bool) (entity : Entity) → IsLaid entity
    → IsClear low high entity.head.start (entity_end entity) → IsGood low high entity (text_shapes bytes exact entity)
text_good low high bytes exact entity laid clear shapes is =
    let first = went _ (spot_at bytes exact (pos 10) (pos 20) entity) shapes is in
    let second = went _ (second_spot bytes exact entity) shapes first.gives in
    let made : dot_of first.value ∷ dots_of second.value ≡ shapes = cc in
    subst (λ ss. AreGood low high entity.head.start ss (entity_end entity)) made (by_second first.value (has_spot bytes
    exact _ _ entity _ first.is) second.value second.is) where
      by_second : (spot : PointFields) → HasSpot (pos 10) (pos 20) spot (entity_fields entity) → (second : Option PointFields)
          → second_spot bytes exact entity ≡ Ok second
          → AreGood low high entity.head.start (dot_of spot ∷ dots_of second) (entity_end entity)
      by_second spot has None second_is = one_dot low high entity spot laid clear has
      by_second spot has (Some other) second_is =
          all_good low high _ _ _ laid.order clear (refl, (refl, tt)) (tt, (tt, tt)) (λ path n. wider _ _ _ _ _
          (two_apart n _ spot other _ _ _ laid.fields has (second_has bytes exact entity other second_is)) laid.forth
          (omega arith))

-- an edit of the whole entity
pub whole_edit : (what : What) (entity : Entity) → IsLaid entity
    → StandApart entity.head.start (record { start = entity.head.start; end = entity_end entity; what = what } ∷ [])
    (entity_end entity)
whole_edit what entity laid = record { within = (omega arith, laid.order, omega arith, tt); apart = (tt, tt) }

pub line_good : (low high : ℕ) (bytes : List ℕ) (exact : Bool) (seed : Option Pair) (entity : Entity) → IsLaid entity
    → IsClear low high entity.head.start (entity_end entity)
    → IsGood low high entity (line_shapes bytes exact seed entity)
line_good low high bytes exact seed entity laid clear shapes is =
    let found = went _ (line_ends bytes exact seed entity) shapes is in
    let ends = found.value in
    let made : line_of entity ends.begin ends.end ends.rise ∷ [] ≡ shapes = cc in
    let parts = line_parts bytes exact seed entity ends found.is in
    grind (arith, AreGood, one_good, rise_within, whole_edit)

-- a line or a loop has any number of points from one on
abbrev pub IsLong : PathKind → Type 0
IsLong Dot = ⊥
IsLong Line = ⊤
IsLong Loop = ⊤

long_by : (bytes : List ℕ) (pair : Option Pair) (kind : PathKind) → kind_by bytes pair ≡ Ok kind → IsLong kind
long_by bytes None kind is = let same : Line ≡ kind = cc in subst IsLong same tt
long_by bytes (Some pair) kind is = grind arith

pub long_kind : (bytes : List ℕ) (entity : Entity) (kind : PathKind) → kind_of bytes entity ≡ Ok kind → IsLong kind
long_kind bytes entity kind is = let found =
    went _ (field_at (pos 70) entity) kind is in long_by bytes _ kind found.gives

some_whole : (kind : PathKind) (count : ℕ) → IsLong kind → 0 < count → IsWholeBy (Some kind) count
some_whole Dot count long some = absurd long
some_whole Line count long some = some
some_whole Loop count long some = some

pub vertices_whole : (kind : PathKind) (vertices : List VertexFields) → IsLong kind
    → IsWholeBy (kind_with kind vertices) (length (map (λ (vertex : VertexFields). point_of vertex.spot) vertices))
vertices_whole kind [] long = refl
vertices_whole kind (vertex ∷ vertices) long = some_whole kind _ long (omega arith)

off_from : (edit : Edit) (edits : List Edit) → IsApartFromAll edit [] → AreOff edits edit → (all : AreApart edits)
    → AreApart (edits ++ edit ∷ [])
off_from edit [] none off all = (tt, tt)
off_from edit (first ∷ edits) none off all = (more first edits all.0 off.0, off_from edit edits none off.1 all.1) where
  more : (e : Edit) (es : List Edit) → IsApartFromAll e es → IsApart e edit → IsApartFromAll e (es ++ edit ∷ [])
  more e [] rest last = (last, tt)
  more e (f ∷ es) rest last = (rest.0, more e es rest.1 last)

within_last : (low high : ℕ) (edits : List Edit) (edit : Edit) → AreWithin low edits high → low ≤ edit.start
    → edit.start ≤ edit.end → edit.end ≤ high → AreWithin low (edits ++ edit ∷ []) high
within_last low high [] edit all begins order ends = (begins, order, ends, tt)
within_last low high (first ∷ edits) edit all begins order ends =
    (all.0, all.1, all.2, within_last low high edits edit all.3 begins order ends)

count_pair : (bytes : List ℕ) (number : ℕ) (entity : Entity) (pair : Pair) → count_of bytes number entity ≡ Ok pair
    → IsField (pos 90) pair (entity_fields entity)
count_pair bytes number entity pair is = grind (arith, went, wanted_is, IsField)

pub light_good : (low high : ℕ) (bytes : List ℕ) (exact : Bool) (entity : Entity) → IsLaid entity
    → IsClear low high entity.head.start (entity_end entity) → IsGood low high entity (light_shapes bytes exact entity)
light_good low high bytes exact entity laid clear shapes is =
    let kind = went (λ (kind : PathKind). and_then
    (λ (vs : List VertexFields). and_then (λ (count : Pair). Ok (light_shape kind vs count ∷ []))
    (count_of bytes (length vs) entity)) (vertices_in bytes exact (entity_fields entity))) (kind_of bytes entity) shapes
    is in
    let vertices = went (λ (vs : List VertexFields). and_then (λ (count : Pair). Ok (light_shape kind.value vs count ∷ []))
    (count_of bytes (length vs) entity)) (vertices_in bytes exact (entity_fields entity)) shapes kind.gives in
    let count = went (λ (count : Pair). Ok (light_shape kind.value vertices.value count ∷ []))
    (count_of bytes (length vertices.value) entity) shapes vertices.gives in
    let made : light_shape kind.value vertices.value count.value ∷ [] ≡ shapes = cc in
    let from = entity.head.end in
    let past = entity_end entity in
    let order = ordered bytes exact (entity_fields entity) from past vertices.value laid.fields vertices.is in
    let tally = count_pair bytes (length vertices.value) entity count.value count.is in
    let at = lies from count.value (entity_fields entity) past laid.fields tally.is_in in
    let edits : (path first : ℕ) → StandApart entity.head.start
    (vertex_edits first vertices.value ++ value_edit (Tally first (first + length vertices.value)) count.value ∷ [])
    past = λ path first.
    let own = order.apart first in wider from past entity.head.start past _ (record {
      within = within_last from past (vertex_edits first vertices.value)
          (value_edit (Tally first (first + length vertices.value)) count.value) own.within
          (omega (arith, at.begins, at.code)) at.value (omega (arith, at.inside, at.ends));
      apart = off_from (value_edit (Tally first (first + length vertices.value)) count.value)
          (vertex_edits first vertices.value) tt
          (order.off (Tally first (first + length vertices.value)) count.value
          (record {
            code = tally.coded;
            start = at.code;
            value = at.value;
            inside = at.inside;
            place = inr tally.is_in;
          }) first) own.apart;
    }) laid.forth (omega arith) in subst (λ ss. AreGood low high entity.head.start ss past) made
    (one_good low high entity.head.start past (light_shape kind.value vertices.value count.value) laid.order
    (vertices_whole kind.value vertices.value (long_kind bytes entity kind.value kind.is)) tt edits
    (λ path first. within_clear low high entity.head.start past
    (vertex_edits first vertices.value ++ value_edit (Tally first (first + length vertices.value)) count.value ∷ [])
    clear (edits path first).within))
