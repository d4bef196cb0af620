-- What is known of the number of bytes that a shelf handed out.
use Rattle.std.proofs.Common.{ℕ, ◌+◌, ◌≤◌, arith}
use Rattle.shelf_io.specs.Count.{count_after}
use Rattle.runs.specs.declared.loads.TheConstants.{MOST_BYTES, MOST_VERIFIED}

-- what was handed out before counts, too
pub passed_since : (start given more after : ℕ) → start ≤ given → count_after given more ≤ after
    → count_after start more ≤ after
passed_since start given more after before past = omega (arith, before, past)

-- more than the greater number is more than the smaller
passed_fewer : (start few many after : ℕ) → few ≤ many → count_after start (many + 1) ≤ after
    → count_after start (few + 1) ≤ after
passed_fewer start few many after less past = omega (arith, less, past)

-- more bytes than a written layer or a certificate may have are more than a triangulation or layers may
pub passed_bytes : (start after : ℕ) → count_after start (MOST_VERIFIED + 1) ≤ after
    → count_after start (MOST_BYTES + 1) ≤ after
passed_bytes start after past =
    let less : MOST_BYTES ≤ MOST_VERIFIED = omega arith in
    passed_fewer start MOST_BYTES MOST_VERIFIED after less past
