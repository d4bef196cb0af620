-- Sides with keys. Only private functions speak of it.
use Rattle.std.specs.Prelude.{◌≡◌, ℕ, ◌<◌, List, length, slice_index_or, All}
use Rattle.number_groups.specs.declared.groups.Entry.{Entry}

-- what a number stands for that is no entry's
abbrev pub no_entry : Entry
no_entry = record { key = 0; number = 0 }

-- there are n entries with keys below a bound, and each has its own number
pub record AreNumbered (keys n : ℕ) (entries : List Entry) : Type 0 where
  pub count : length entries ≡ n
  pub below : All (λ entry. entry.key < keys) entries
  pub numbers : (k : ℕ) → k < n → (slice_index_or entries k no_entry).number ≡ k
