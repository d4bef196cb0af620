-- A press in memory, as contracts see it.
use Rattle.std.specs.Prelude.{ℕ, Bool, true, false, List, []}
use Rattle.shelf_io.specs.Files.{Files}
use Rattle.shelf_io.specs.Count.{count_after}
use Rattle.shelf_io.specs.Made.{with_file, with_bytes}

pub record MemoryPress : Type 0 where
  -- each file's name and bytes, in the order in which they were begun
  pub made : Files
  -- how many bytes a write takes at most
  pub most : ℕ
  -- the numbers of the calls that fail
  pub fail : List ℕ
  pub at_hand : Bool
  -- whether the last call failed
  pub broken : Bool
  pub calls : ℕ
  pub faults : ℕ

abbrev pub empty_press : ℕ → MemoryPress
empty_press most = record { made = []; most = most; fail = []; at_hand = false; broken = false; calls = 0; faults = 0 }

-- after a call that failed: one more call and one more fault
abbrev pub after_fault : MemoryPress → MemoryPress
after_fault p = record p { broken = true; calls = count_after p.calls 1; faults = count_after p.faults 1 }

-- after an empty file of this name was begun
abbrev pub after_begin : MemoryPress → List ℕ → MemoryPress
after_begin p name = record p {
  made = with_file name p.made;
  at_hand = true;
  broken = false;
  calls =
      count_after p.calls 1;
}

-- after these bytes were written at the end of the file at hand
abbrev pub after_write : MemoryPress → List ℕ → MemoryPress
after_write p bytes = record p { made = with_bytes bytes p.made; broken = false; calls = count_after p.calls 1 }

-- after the file at hand was ended
abbrev pub after_end : MemoryPress → MemoryPress
after_end p = record p { at_hand = false; broken = false; calls = count_after p.calls 1 }

-- after the end of the file at hand failed
abbrev pub after_end_fault : MemoryPress → MemoryPress
after_end_fault p = record (after_fault p) { at_hand = false }
