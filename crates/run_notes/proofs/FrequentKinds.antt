-- The most frequent of counted texts, put together one by one.
use Rattle.std.proofs.Common.{◌≡◌, ◌≢◌, ◌+◌, ◌<◌, zero, suc, ℕ, Bool, true, false, cond, List, [], ◌∷◌, ◌++◌, take}
use Rattle.std.proofs.Common.{length, get_or, map, Some, None, refl, sym, true≢false, ◌∙◌, ap, arith, slice_get}
use Rattle.std.specs.Prelude.{insert, nat_le, nat_lt}
use Rattle.std.specs.List.{prefix_len}
use Rattle.std.proofs.lemmas.Bool.Decides.{nat_tests}
use Rattle.std.proofs.lemmas.List.{take-map, take_more}
use Rattle.std.specs.Borrow.{Bor}
use Rattle.run_notes.specs.InsideCounts.{counts_in}
use Rattle.remarks.specs.declared.file_lines.KindCount.{KindCount}
use Rattle.run_notes.specs.LeftOutKinds.{by_count, kind_and_count, placed_last, placed_first}

-- a text with its count
abbrev Counted : Type 0
Counted = List ℕ × ℕ

-- of two numbers either the first is less or the second is not more, and not both
less-or-not : (a b : ℕ) (less not_more : Bool) → nat_lt a b ≡ less → nat_le b a ≡ not_more → less ≢ not_more
less-or-not a b true true p q = absurd (grind (arith, nat_tests, p, q))
less-or-not a b false false p q = absurd (grind (arith, nat_tests, p, q))
less-or-not a b true false p q = λ e. true≢false e
less-or-not a b false true p q = λ e. true≢false (sym e)

-- what is put before equal ones and what is put after them can be put in either order
placed-both : (first last : Counted) (counts : List Counted)
    → placed_first first (placed_last last counts) ≡ placed_last last (placed_first first counts)
placed-both first last [] = by-tests (nat_lt first.1 last.1) (nat_le last.1 first.1) refl refl
  where
    by-tests : (less not_more : Bool) → nat_lt first.1 last.1 ≡ less → nat_le last.1 first.1 ≡ not_more
        → cond less (last ∷ first ∷ []) (first ∷ last ∷ []) ≡ cond not_more (first ∷ last ∷ []) (last ∷ first ∷ [])
    by-tests true false p q = refl
    by-tests false true p q = refl
    by-tests true true p q = absurd (less-or-not first.1 last.1 true true p q refl)
    by-tests false false p q = absurd (less-or-not first.1 last.1 false false p q refl)
placed-both first last (other ∷ counts) = by-tests (placed-both first last counts) (nat_le last.1 other.1)
    (nat_lt first.1 other.1) (nat_lt first.1 last.1) (nat_le last.1 first.1) refl refl refl refl
  where
    by-tests : placed_first first (placed_last last counts) ≡ placed_last last (placed_first first counts)
        → (a b c d : Bool) → nat_le last.1 other.1 ≡ a → nat_lt first.1 other.1 ≡ b → nat_lt first.1 last.1 ≡ c
        → nat_le last.1 first.1 ≡ d
        → placed_first first (placed_last last (other ∷ counts)) ≡ placed_last last (placed_first first (other ∷ counts))
    by-tests rest true true c d pa pb pc pd = rw (pa, pb, pa) (ap (λ more. other ∷ more) rest)
    by-tests rest true false c true pa pb pc pd = rw (pa, pb, pd, pa) refl
    by-tests rest true false c false pa pb pc pd = absurd (grind (arith, nat_tests, pa, pb, pd))
    by-tests rest false true true d pa pb pc pd = rw (pa, pb, pc, pa) refl
    by-tests rest false true false d pa pb pc pd = absurd (grind (arith, nat_tests, pa, pb, pc))
    by-tests rest false false true false pa pb pc pd = rw (pa, pb, pc, pd) refl
    by-tests rest false false false true pa pb pc pd = rw (pa, pb, pc, pd, pa) refl
    by-tests rest false false true true pa pb pc pd = absurd (less-or-not first.1 last.1 true true pc pd refl)
    by-tests rest false false false false pa pb pc pd = absurd (less-or-not first.1 last.1 false false pc pd refl)

-- one more count
by_count-push : (counts : List Counted) (last : Counted) → by_count (counts ++ last ∷ []) ≡ placed_last last (by_count counts)
by_count-push [] last = refl
by_count-push (first ∷ counts) last =
    ap (λ more. placed_first first more) (by_count-push counts last) ∙ placed-both first last (by_count counts)

-- what is taken of one more is the same
take-short : (n : ℕ) (counts : List Counted) → take n (take (suc n) counts) ≡ take n counts
take-short zero counts = refl
take-short (suc n) [] = refl
take-short (suc n) (counted ∷ counts) = ap (λ more. counted ∷ more) (take-short n counts)

take-behind : (n : ℕ) (counted : Counted) (counts : List Counted)
    → take n (counted ∷ take n counts) ≡ take n (counted ∷ counts)
take-behind zero counted counts = refl
take-behind (suc n) counted counts = ap (λ more. counted ∷ more) (take-short n counts)

-- the first `n` are the same where only the first `n` are looked at
placed-take : (n : ℕ) (last : Counted) (counts : List Counted)
    → take n (placed_last last (take n counts)) ≡ take n (placed_last last counts)
placed-take zero last counts = refl
placed-take (suc n) last [] = refl
placed-take (suc n) last (other ∷ counts) =
    by-test (placed-take n last counts) (take-behind n other counts) (nat_le last.1 other.1)
  where
    by-test : take n (placed_last last (take n counts)) ≡ take n (placed_last last counts)
        → take n (other ∷ take n counts) ≡ take n (other ∷ counts) → (b : Bool)
        → take (suc n) (cond b (other ∷ placed_last last (take n counts)) (last ∷ other ∷ take n counts))
        ≡ take (suc n) (cond b (other ∷ placed_last last counts) (last ∷ other ∷ counts))
    by-test rest all true = ap (λ more. other ∷ more) rest
    by-test rest all false = ap (λ more. last ∷ more) all

-- what is put one place later, where one more is before it
insert-next : (first : KindCount) (kinds : List KindCount) (kind : KindCount) (place next : ℕ) → next ≡ suc place
    → insert (first ∷ kinds) next kind ≡ first ∷ insert kinds place kind
insert-next first kinds kind place next is = rw is refl

-- where a kind is put in a list of kinds
placed-at : (name : List ℕ) (count : ℕ) (kind : KindCount) (kinds : List KindCount)
    → kind_and_count kind ≡ (name, count)
    → map kind_and_count (insert kinds (prefix_len (λ (other : KindCount). nat_le count other.count) kinds) kind)
    ≡ placed_last (name, count) (map kind_and_count kinds)
placed-at name count kind [] is = ap (λ counted. counted ∷ []) is
placed-at name count kind (other ∷ kinds) is =
    by-test (placed-at name count kind kinds is) (nat_le count other.count) refl
  where
    by-test : map kind_and_count (insert kinds (prefix_len (λ (o : KindCount). nat_le count o.count) kinds) kind)
        ≡ placed_last (name, count) (map kind_and_count kinds) → (b : Bool) → nat_le count other.count ≡ b
        → map kind_and_count (insert (other ∷ kinds) (prefix_len (λ (o : KindCount). nat_le count o.count) (other ∷ kinds)) kind)
        ≡ placed_last (name, count) (map kind_and_count (other ∷ kinds))
    by-test rest true p = rw (
      p,
      insert-next other kinds kind (prefix_len (λ (o : KindCount). nat_le count o.count) kinds)
          (1 + prefix_len (λ (o : KindCount). nat_le count o.count) kinds) (omega arith),
    ) (ap (λ more. kind_and_count other ∷ more) rest)
    by-test rest false p = rw p (ap (λ counted. counted ∷ kind_and_count other ∷ map kind_and_count kinds) is)

-- where a kind is put in a list that keeps only its first `n` kinds
pub placed-put : (n at : ℕ) (name : List ℕ) (count : ℕ) (kind : KindCount) (kinds seen put kept : List KindCount)
    → seen ≡ kinds → at ≡ prefix_len (λ (other : KindCount). nat_le count other.count) seen
    → kind_and_count kind ≡ (name, count) → put ≡ insert kinds at kind → kept ≡ take n put
    → map kind_and_count kept ≡ take n (placed_last (name, count) (map kind_and_count kinds))
placed-put n at name count kind kinds seen put kept seen_is at_is kind_is put_is kept_is = rw (
  kept_is,
  put_is,
  at_is,
  seen_is,
  ← take-map kind_and_count n (insert kinds (prefix_len (λ (other : KindCount). nat_le count other.count) kinds) kind),
) (ap (λ all. take n all) (placed-at name count kind kinds kind_is))

-- a text of a map with its count
abbrev counted_in : Bor (List ℕ) × ℕ → Counted
counted_in entry = (entry.0.now, entry.1)

-- what a map has at a place is counted there
pub entry-count : (entries : List (Bor (List ℕ) × ℕ)) (i : ℕ) (entry : Bor (List ℕ) × ℕ) (d : Counted)
    → Some entry ≡ slice_get entries i
    → (i < length (counts_in entries)) × (counted_in entry ≡ get_or (counts_in entries) i d)
entry-count [] i entry d is = cc
entry-count (first ∷ entries) zero entry d is = (omega arith, same is)
  where
    same : Some entry ≡ Some first → counted_in entry ≡ counted_in first
    same e = cc
entry-count (first ∷ entries) (suc i) entry d is =
    let rest = entry-count entries i entry d is in
    (omega (arith, rest.0), rest.1)

-- no place below the length has nothing
pub no-entry : {X : Type 0} (entries : List X) (i : ℕ) → None ≡ slice_get entries i → i < length entries → ⊥
no-entry [] i is within = omega arith
no-entry (first ∷ entries) zero is within = cc
no-entry (first ∷ entries) (suc i) is within = no-entry entries i is (omega arith)

-- the most frequent of one count more
pub frequent-more : (n i : ℕ) (counts before : List Counted) (counted d : Counted) → i < length counts
    → counted ≡ get_or counts i d → before ≡ take n (by_count (take i counts))
    → take n (placed_last counted before) ≡ take n (by_count (take (i + 1) counts))
frequent-more n i counts before counted d within is so_far = rw (
  so_far,
  placed-take n counted (by_count (take i counts)),
  take_more counts i d within,
  ← is,
  by_count-push (take i counts) counted,
) refl
