-- A shelf in memory, as contracts see it.
use Rattle.std.specs.Prelude.{◌+◌, ℕ, List, [], drop, Option, None, slice_get, option_map, option_and_then}
use Rattle.shelf_io.specs.Files.{Files, number_of}
use Rattle.shelf_io.specs.Count.{count_after}

pub record MemoryShelf : Type 0 where
  -- each file's name and bytes
  pub files : Files
  -- how many bytes a read gives at most
  pub most : ℕ
  -- the numbers of the calls that fail
  pub fail : List ℕ
  -- the number of the file at hand, and the place in it
  pub at_hand : Option ℕ
  pub place : ℕ
  pub calls : ℕ
  pub faults : ℕ
  pub given : ℕ

abbrev pub empty_shelf : ℕ → MemoryShelf
empty_shelf most = record {
  files = [];
  most = most;
  fail = [];
  at_hand = None;
  place = 0;
  calls = 0;
  faults =
      0;
  given = 0;
}

-- what is left of a file from a place on, by the file's number
abbrev pub rest_from : Files → Option ℕ → ℕ → Option (List ℕ)
rest_from files at_hand place =
    option_and_then (λ number. option_map (λ file. drop place file.1) (slice_get files number)) at_hand

-- what is left of the file at hand
abbrev pub rest_at_hand : MemoryShelf → Option (List ℕ)
rest_at_hand s = rest_from s.files s.at_hand s.place

-- after a call that failed: one more call and one more fault, and no file at hand
abbrev pub after_fault : MemoryShelf → MemoryShelf
after_fault s = record s { at_hand = None; place = 0; calls = count_after s.calls 1; faults = count_after s.faults 1 }

-- after a file was looked up: it is at hand from its front, where there is one of this name
abbrev pub after_begin : MemoryShelf → List ℕ → MemoryShelf
after_begin s name = record s { at_hand = number_of s.files name; place = 0; calls = count_after s.calls 1 }

-- after this many bytes were taken
abbrev pub after_read : MemoryShelf → ℕ → MemoryShelf
after_read s count = record s { place = s.place + count; calls = count_after s.calls 1; given = count_after s.given count }
