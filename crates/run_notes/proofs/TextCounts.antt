-- Texts that are counted one by one.
use Rattle.std.proofs.Common.{◌≡◌, ◌+◌, ◌-◌, ◌<◌, ◌^◌, ℕ, Bool, true, false, not, cond, List, [], ◌∷◌}
use Rattle.std.proofs.Common.{◌++◌, length, Some, None, refl, sym, ◌∙◌, ap, arith}
use Rattle.std.specs.Borrow.{Bor}
use Rattle.std.specs.List.{AllByRecursion, filter}
use Rattle.std.specs.Map.{lookup}
use Rattle.std.specs.Prelude.{count_by}
use Rattle.std.specs.Str.{bytes_eq}
use Rattle.std.proofs.Common.{lit<}
use Rattle.std.proofs.lemmas.List.Sums.{count_by-le-length, sum_by_push}
use Rattle.std.proofs.lemmas.Slice.Eq.{bytes_eq-Decides}
use Rattle.indexmap.specs.IndexMap.{insert_entry}
use Rattle.run_notes.specs.InsideCounts.{count_of, counts_in, one_more, HaveRoom}
use Rattle.run_notes.specs.LeftOutKinds.{with_counts}

-- a text with its count
abbrev Counted : Type 0
Counted = List ℕ × ℕ

-- the counts of other texts than this one
abbrev others : List ℕ → List Counted → List Counted
others text counts = filter (λ (other : Counted). not (bytes_eq text other.0)) counts

-- a text that is equal to one is equal to what is equal to that one
same-text : (first text other : List ℕ) → bytes_eq first text ≡ true → bytes_eq other text ≡ true
    → bytes_eq first other ≡ true
same-text first text other is also =
    (bytes_eq-Decides first other).1 ((bytes_eq-Decides first text).0 is ∙ sym ((bytes_eq-Decides other text).0 also))

other-text : (first text other : List ℕ) → bytes_eq first text ≡ false → bytes_eq other text ≡ true
    → bytes_eq first other ≡ false
other-text first text other is also =
    ap (λ t. bytes_eq first t) ((bytes_eq-Decides other text).0 also) ∙ is

-- one more of a text changes nothing of the counts of others
others-same : (first text : List ℕ) → bytes_eq first text ≡ true → (counts : List Counted)
    → others first (one_more text counts) ≡ others first counts
others-same first text is [] = rw is refl
others-same first text is (counted ∷ more) = by-test (others-same first text is more) (bytes_eq counted.0 text) refl
  where
    by-test : others first (one_more text more) ≡ others first more → (test : Bool) → bytes_eq counted.0 text ≡ test
        → others first (cond test ((counted.0, counted.1 + 1) ∷ more) (counted ∷ one_more text more))
        ≡ others first (counted ∷ more)
    by-test rest_same true same = rw (same-text first text counted.0 is same) refl
    by-test rest_same false differs =
        ap (λ rest. cond (not (bytes_eq first counted.0)) (counted ∷ rest) rest) rest_same

-- one more of another text
others-more : (first text : List ℕ) → bytes_eq first text ≡ false → (counts : List Counted)
    → others first (one_more text counts) ≡ one_more text (others first counts)
others-more first text is [] = rw is refl
others-more first text is (counted ∷ more) =
    by-test (others-more first text is more) (bytes_eq counted.0 text) refl (bytes_eq first counted.0) refl
  where
    by-test : others first (one_more text more) ≡ one_more text (others first more) → (test : Bool)
        → bytes_eq counted.0 text ≡ test → (left : Bool) → bytes_eq first counted.0 ≡ left
        → others first (cond test ((counted.0, counted.1 + 1) ∷ more) (counted ∷ one_more text more))
        ≡ one_more text (others first (counted ∷ more))
    by-test rest_more true same left is_left = rw (other-text first text counted.0 is same, same) refl
    by-test rest_more false differs true is_left = rw is_left rest_more
    by-test rest_more false differs false is_left = rw (is_left, differs) (ap (λ rest. counted ∷ rest) rest_more)

-- texts with one more after them
pub with_counts-push : (texts : List (List ℕ)) (text : List ℕ)
    → with_counts (texts ++ text ∷ []) ≡ one_more text (with_counts texts)
with_counts-push [] text = rw ((bytes_eq-Decides text text).1 refl) refl
with_counts-push (first ∷ texts) text = by-test (with_counts-push texts text) (bytes_eq first text) refl
  where
    count : count_by (bytes_eq first) (first ∷ texts ++ text ∷ [])
        ≡ count_by (bytes_eq first) (first ∷ texts) + cond (bytes_eq first text) 1 0
    count = sum_by_push (λ t. cond (bytes_eq first t) 1 0) (first ∷ texts) text

    by-test : with_counts (texts ++ text ∷ []) ≡ one_more text (with_counts texts) → (test : Bool)
        → bytes_eq first text ≡ test
        → with_counts (first ∷ texts ++ text ∷ []) ≡ cond test (
        (first, count_by (bytes_eq first) (first ∷ texts) + 1) ∷ others first (with_counts texts)
        ) ((first, count_by (bytes_eq first) (first ∷ texts)) ∷ one_more text (others first (with_counts texts)))
    by-test rest true same = rw (count, same, rest, others-same first text same (with_counts texts)) refl
    by-test rest false differs = rw (
      count,
      differs,
      rest,
      others-more first text differs (with_counts texts),
    ) (ap (λ n. (first, n) ∷ one_more text (others first (with_counts texts))) (omega arith))

-- what holds of all counts holds of those of others
all-others : (P : Counted → Type 0) (first : List ℕ) (counts : List Counted) → AllByRecursion P counts
    → AllByRecursion P (others first counts)
all-others P first [] all = tt
all-others P first (counted ∷ more) all = by-test (all-others P first more all.1) (not (bytes_eq first counted.0))
  where
    by-test : AllByRecursion P (others first more) → (test : Bool) → AllByRecursion P (cond test (counted ∷ others first more) (others first more))
    by-test rest true = (all.0, rest)
    by-test rest false = rest

-- no count is more than there are texts
pub counts-below : (most : ℕ) (texts : List (List ℕ)) → length texts < most
    → AllByRecursion (λ (counted : Counted). counted.1 < most) (with_counts texts)
counts-below most [] few = tt
counts-below most (first ∷ texts) few = (
  omega (arith, count_by-le-length (bytes_eq first) (first ∷ texts)),
  all-others (λ counted. counted.1 < most) first (with_counts texts) (counts-below most texts (omega arith)),
)

-- two texts are compared in either order
same-test : (one other : List ℕ) → bytes_eq one other ≡ bytes_eq other one
same-test one other = by-tests (bytes_eq one other) (bytes_eq other one) refl refl
  where
    by-tests : (here there : Bool) → bytes_eq one other ≡ here → bytes_eq other one ≡ there
        → bytes_eq one other ≡ bytes_eq other one
    by-tests true there p q = p ∙ sym ((bytes_eq-Decides other one).1 (sym ((bytes_eq-Decides one other).0 p)))
    by-tests false true p q = (bytes_eq-Decides one other).1 (sym ((bytes_eq-Decides other one).0 q)) ∙ sym q
    by-tests false false p q = p ∙ sym q

-- the entries of a map from texts
abbrev Entries : Type 0
Entries = List (Bor (List ℕ) × ℕ)

-- a key is this text
abbrev is_key : List ℕ → Bor (List ℕ) → Bool
is_key name key = bytes_eq name key.now

-- what a map has for a text is its count, and where it has nothing that is 0
pub count-found : (name : List ℕ) (entries : Entries) (count : ℕ) → Some count ≡ lookup (is_key name) entries
    → count ≡ count_of name (counts_in entries)
count-found name [] count is = cc
count-found name (entry ∷ entries) count is = by-test (count-found name entries count) (bytes_eq name entry.0.now) refl is
  where
    by-test : (Some count ≡ lookup (is_key name) entries → count ≡ count_of name (counts_in entries)) → (b : Bool)
        → bytes_eq name entry.0.now ≡ b → Some count ≡ cond b (Some entry.1) (lookup (is_key name) entries)
        → count ≡ count_of name (counts_in (entry ∷ entries))
    by-test rest true p found = rw (same-test entry.0.now name, p) cc
    by-test rest false p found = rw (same-test entry.0.now name, p) (rest found)

pub count-none : (name : List ℕ) (entries : Entries) → None ≡ lookup (is_key name) entries
    → 0 ≡ count_of name (counts_in entries)
count-none name [] is = refl
count-none name (entry ∷ entries) is = by-test (count-none name entries) (bytes_eq name entry.0.now) refl is
  where
    by-test : (None ≡ lookup (is_key name) entries → 0 ≡ count_of name (counts_in entries)) → (b : Bool)
        → bytes_eq name entry.0.now ≡ b → None ≡ cond b (Some entry.1) (lookup (is_key name) entries)
        → 0 ≡ count_of name (counts_in (entry ∷ entries))
    by-test rest true p found = cc
    by-test rest false p found = rw (same-test entry.0.now name, p) (rest found)

-- a count can be one higher
pub room-at : (name : List ℕ) (counts : List Counted) → HaveRoom counts → count_of name counts < 2 ^ 64 - 1
room-at name [] room = lit< tt
room-at name (counted ∷ counts) room = by-test (room-at name counts room.1) (bytes_eq counted.0 name)
  where
    by-test : count_of name counts < 2 ^ 64 - 1 → (b : Bool) → cond b counted.1 (count_of name counts) < 2 ^ 64 - 1
    by-test rest true = room.0
    by-test rest false = rest

-- a map where the count of a text is put one higher
pub counted-more : (name : Bor (List ℕ)) (entries : Entries)
    → counts_in (insert_entry (λ (one other : Bor (List ℕ)). bytes_eq one.now other.now) entries name
    (count_of name.now (counts_in entries) + 1)) ≡ one_more name.now (counts_in entries)
counted-more name [] = refl
counted-more name (entry ∷ entries) = by-test (counted-more name entries) (bytes_eq name.now entry.0.now) refl
  where
    by-test : counts_in (insert_entry (λ (one other : Bor (List ℕ)). bytes_eq one.now other.now) entries name
        (count_of name.now (counts_in entries) + 1)) ≡ one_more name.now (counts_in entries) → (b : Bool)
        → bytes_eq name.now entry.0.now ≡ b
        → counts_in (insert_entry (λ (one other : Bor (List ℕ)). bytes_eq one.now other.now) (entry ∷ entries) name
        (count_of name.now (counts_in (entry ∷ entries)) + 1)) ≡ one_more name.now (counts_in (entry ∷ entries))
    by-test rest true p = rw (same-test entry.0.now name.now, p) refl
    by-test rest false p = rw (same-test entry.0.now name.now, p) (ap (λ more. (entry.0.now, entry.1) ∷ more) rest)
