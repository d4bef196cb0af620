-- Columns of rows with a vertical component, by the places of their names.
use Rattle.std.proofs.Common.{◌≡◌, ℕ, ◌<◌, List, length, Bool, true, refl, arith}
use Rattle.std.specs.Prelude.{codes, Option, IfOk, IfSome}
use Rattle.std.specs.List.{list_all, list_any}
use Rattle.jtext.specs.Values.{Json}
use Rattle.tin_file.specs.Keys.{says, is_text}
use Rattle.tin_file.specs.Headings.{place_of}
use Rattle.tin_file.specs.TallHeadings.{target_columns_at, target_columns_in, offset_columns_at, offset_columns_in}
use Rattle.tin_file.specs.TallHeadings.{tall_columns_at, tall_columns_in}
use Rattle.tin_file.specs.InsideTallRows.{AreTallColumns, IsTargetBelow, IsOffsetBelow}
use Rattle.tin_file.specs.declared.tall_columns.TargetColumns.{TargetColumns}
use Rattle.tin_file.specs.declared.tall_columns.OffsetColumns.{OffsetColumns}
use Rattle.tin_file.proofs.FileRows.NamedPlaces.{place_below}

pub offset_columns_so : (all : List Json) (named : Bool) → named ≡ list_any (λ value. says value (codes "offset_z")) all
    → (z : Option ℕ) → z ≡ place_of (codes "offset_z") all → (a : Option ℕ) → a ≡ place_of (codes "source_z") all
    → (b : Option ℕ) → b ≡ place_of (codes "target_z") all
    → offset_columns_at named z a b ≡ offset_columns_in all
offset_columns_so all named h z i a j b k = rw (h, i, j, k) refl

target_below : (count : ℕ) (wanted : Bool) (x y : Option ℕ) → IfSome x (λ p. p < count) → IfSome y (λ p. p < count)
    → IfSome (target_columns_at wanted x y) (IsTargetBelow count)
target_below count wanted x y h i = grind arith

offset_below : (count : ℕ) (named : Bool) (z a b : Option ℕ) → IfSome z (λ p. p < count) → IfSome a (λ p. p < count)
    → IfSome b (λ p. p < count)
    → IfSome (offset_columns_at named z a b) (IsOffsetBelow count)
offset_below count named z a b h i j = grind arith

tall_below : (count : ℕ) (a b : Option ℕ) (t : Option TargetColumns) (o : Option OffsetColumns)
    → IfSome a (λ p. p < count) → IfSome b (λ p. p < count) → IfSome t (IsTargetBelow count)
    → IfSome o (IsOffsetBelow count)
    → IfOk (tall_columns_at count a b t o) AreTallColumns
tall_below count a b t o h i j k = grind arith

module _ (all : List Json) (count : ℕ) (many : count ≡ length all) (wanted : Bool) where
  pub tall_columns_inside : (a : Option ℕ) → a ≡ place_of (codes "source_x") all → (b : Option ℕ)
      → b ≡ place_of (codes "source_y") all → (t : Option TargetColumns) → t ≡ target_columns_in wanted all
      → (o : Option OffsetColumns) → o ≡ offset_columns_in all → IfOk (tall_columns_at count a b t o) AreTallColumns
  tall_columns_inside a h b i t j o k =
      rw (h, i, j, k, many) (tall_below (length all) _ _ _ _ (place_below (codes "source_x") all)
      (place_below (codes "source_y") all)
      (target_below (length all) wanted _ _ (place_below (codes "target_x") all) (place_below (codes "target_y") all))
      (offset_below (length all) _ _ _ _ (place_below (codes "offset_z") all) (place_below (codes "source_z") all)
      (place_below (codes "target_z") all)))

  pub tall_columns_so : list_all is_text all ≡ true → (a : Option ℕ) → a ≡ place_of (codes "source_x") all
      → (b : Option ℕ) → b ≡ place_of (codes "source_y") all → (t : Option TargetColumns)
      → t ≡ target_columns_in wanted all → (o : Option OffsetColumns) → o ≡ offset_columns_in all
      → tall_columns_at count a b t o ≡ tall_columns_in wanted all
  tall_columns_so texts a h b i t j o k = rw (texts, h, i, j, k, many) refl
