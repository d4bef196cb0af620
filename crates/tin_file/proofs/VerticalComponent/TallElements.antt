-- The elements of a row with a vertical component.
use Rattle.std.proofs.Common.{◌≡◌, ℕ, List, length, false, refl, sym, ap, arith}
use Rattle.std.specs.Prelude.{Result, Err}
use Rattle.std.proofs.lemmas.Bool.{eqb-true, eq-eqb}
use Rattle.jtext.specs.Values.{Json}
use Rattle.mm_decimal.specs.declared.numerals.MmRead.{MmRead}
use Rattle.sheet_base.specs.declared.flags.How.{How}
use Rattle.tin_file.specs.Keys.{is_array}
use Rattle.tin_file.specs.Vertices.{number_at, vertex_from}
use Rattle.tin_file.specs.TallVertices.{still_vertex_from, corner_in, own_offset, height_offset, offset_in}
use Rattle.tin_file.specs.TallVertices.{tall_from, tall_in, tall_of}
use Rattle.tin_file.specs.declared.tall_columns.TargetColumns.TheVariants as targets
use Rattle.tin_file.specs.declared.tall_columns.OffsetColumns.{OffsetColumns}
use Rattle.tin_file.specs.declared.tall_columns.OffsetColumns.TheVariants as offsets
use Rattle.tin_file.specs.declared.tall_columns.TallColumns.{TallColumns}
use Rattle.tin_file.specs.declared.faults.Rows.TheVariants as lists
use Rattle.tin_file.specs.declared.faults.TinFault.{TinFault}
use Rattle.tin_file.specs.declared.faults.TinFault.TheVariants.{Row}

module _ (how : How) (columns : TallColumns) (row : ℕ) (all : List Json) where
  pub own_corner_so : (x y : ℕ) → columns.target ≡ targets.Own x y → (a b c d : Result MmRead TinFault)
      → a ≡ number_at how row all columns.source_x → b ≡ number_at how row all columns.source_y
      → c ≡ number_at how row all x → d ≡ number_at how row all y → vertex_from a b c d ≡ corner_in how columns row all
  own_corner_so x y t a b c d h i j k = grind arith

  pub still_corner_so : columns.target ≡ targets.OfSource → (a b : Result MmRead TinFault)
      → a ≡ number_at how row all columns.source_x → b ≡ number_at how row all columns.source_y
      → still_vertex_from a b ≡ corner_in how columns row all
  still_corner_so t a b h i = grind arith

  pub tall_in_so : length all ≡ columns.count
      → tall_from (corner_in how columns row all) (offset_in how columns.offset row all) ≡ tall_in how columns row all
  tall_in_so many = rw (eq-eqb (length all) columns.count many) refl

  pub not_tall_in_so : (length all ≡ columns.count → ⊥) → Err (Row lists.Vertices row) ≡ tall_in how columns row all
  not_tall_in_so other = grind (arith, eqb-true)

module _ (how : How) (columns : OffsetColumns) (row : ℕ) (all : List Json) where
  pub own_offset_so : (z : ℕ) → columns ≡ offsets.Offset z → (a : Result MmRead TinFault)
      → a ≡ number_at how row all z → own_offset a ≡ offset_in how columns row all
  own_offset_so z t a h = rw h (ap (λ c. offset_in how c row all) (sym t))

  pub height_offset_so : (s t : ℕ) → columns ≡ offsets.Heights s t → (a b : Result MmRead TinFault)
      → a ≡ number_at how row all s → b ≡ number_at how row all t → height_offset a b ≡ offset_in how columns row all
  height_offset_so s t is a b h i = rw (h, i) (ap (λ c. offset_in how c row all) (sym is))

pub no_tall_row : (how : How) (columns : TallColumns) (row : ℕ) (value : Json) → false ≡ is_array value
    → Err (Row lists.Vertices row) ≡ tall_of how columns row value
no_tall_row how columns row value h = grind arith
