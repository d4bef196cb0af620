-- Columns by the places of their names.
use Rattle.std.proofs.Common.{◌≡◌, ℕ, ◌+◌, ◌<◌, List, [], ◌∷◌, length, true, refl, ap, ◌∙◌, arith}
use Rattle.std.proofs.Common.{zero-add}
use Rattle.std.specs.Prelude.{codes, Option, IfOk, IfSome}
use Rattle.std.specs.List.{list_all, AllByRecursion}
use Rattle.jtext.specs.Values.{Json}
use Rattle.tin_file.specs.Keys.{is_text}
use Rattle.tin_file.specs.Headings.{places_of, place_of, vertex_columns_at, vertex_columns_in}
use Rattle.tin_file.specs.Headings.{triangle_columns_at, triangle_columns_in}
use Rattle.tin_file.specs.RowContents.{AreVertexColumns, AreTriangleColumns}

pub place_so : (all : List Json) (text literal : List ℕ) (place : Option ℕ) → place ≡ place_of text all → text ≡ literal
    → place ≡ place_of literal all
place_so all text literal place is same = is ∙ ap (λ t. place_of t all) same

-- each place is one of the values'
abbrev AllBelow : ℕ → List ℕ → Type 0
AllBelow n places = AllByRecursion (λ p. p < n) places

all_below : (name : List ℕ) (place : ℕ) (values : List Json)
    → AllBelow (place + length values) (places_of name place values)
all_below name place [] = tt
all_below name place (value ∷ values) = grind (arith, all_below name (place + 1) values)

pub place_below : (name : List ℕ) (values : List Json) → IfSome (place_of name values) (λ p. p < length values)
place_below name values = grind (arith, zero-add, all_below)

module _ (all : List Json) (count : ℕ) (many : count ≡ length all) where
  vertex_inside : (a b c d : Option ℕ) → IfSome a (λ p. p < count) → IfSome b (λ p. p < count)
      → IfSome c (λ p. p < count) → IfSome d (λ p. p < count)
      → IfOk (vertex_columns_at count a b c d) AreVertexColumns
  vertex_inside a b c d h i j k = grind arith

  triangle_inside : (a b c : Option ℕ) → IfSome a (λ p. p < count) → IfSome b (λ p. p < count)
      → IfSome c (λ p. p < count)
      → IfOk (triangle_columns_at count a b c) AreTriangleColumns
  triangle_inside a b c h i j = grind arith

  below : (name : List ℕ) (place : Option ℕ) → place ≡ place_of name all → IfSome place (λ p. p < count)
  below name place is = rw (is, many) (place_below name all)

  pub vertex_columns_inside : (a : Option ℕ) → a ≡ place_of (codes "source_x") all → (b : Option ℕ)
      → b ≡ place_of (codes "source_y") all
      → (c : Option ℕ) → c ≡ place_of (codes "target_x") all → (d : Option ℕ) → d ≡ place_of (codes "target_y") all
      → IfOk (vertex_columns_at count a b c d) AreVertexColumns
  vertex_columns_inside a h b i c j d k = grind (arith, vertex_inside, below)

  pub triangle_columns_inside : (a : Option ℕ) → a ≡ place_of (codes "idx_vertex1") all → (b : Option ℕ)
      → b ≡ place_of (codes "idx_vertex2") all
      → (c : Option ℕ) → c ≡ place_of (codes "idx_vertex3") all
      → IfOk (triangle_columns_at count a b c) AreTriangleColumns
  triangle_columns_inside a h b i c j = grind (arith, triangle_inside, below)

  module _ (texts : list_all is_text all ≡ true) where
    pub vertex_columns_so : (a : Option ℕ) → a ≡ place_of (codes "source_x") all → (b : Option ℕ)
        → b ≡ place_of (codes "source_y") all
        → (c : Option ℕ) → c ≡ place_of (codes "target_x") all → (d : Option ℕ) → d ≡ place_of (codes "target_y") all
        → vertex_columns_at count a b c d ≡ vertex_columns_in all
    vertex_columns_so a h b i c j d k = rw (texts, h, i, j, k, many) refl

    pub triangle_columns_so : (a : Option ℕ) → a ≡ place_of (codes "idx_vertex1") all → (b : Option ℕ)
        → b ≡ place_of (codes "idx_vertex2") all
        → (c : Option ℕ) → c ≡ place_of (codes "idx_vertex3") all
        → triangle_columns_at count a b c ≡ triangle_columns_in all
    triangle_columns_so a h b i c j = rw (texts, h, i, j, many) refl
