-- Sides taken key by key: none is left out.
use Rattle.std.proofs.Common.{◌≡◌, ◌⊎◌, inl, inr, ℕ, zero, suc, ◌+◌, ◌<◌, ◌≤◌, List, [], ◌∷◌, ◌++◌, length, map, get_or}
use Rattle.std.proofs.Common.{refl, sym, ◌∙◌, subst, arith, Bool, true, false, cond, nat_eq}
use Rattle.std.proofs.lemmas.List.{get_or_default}
use Rattle.std.proofs.lemmas.List.Elements.{Contains-append_left, Contains-append_right, All-nil, All-cons, All-head, All-tail}
use Rattle.std.proofs.lemmas.List.Elements.{All-weaker, All-append, All-map, All-contains, All-get_or, All-from_get_or}
use Rattle.std.specs.Prelude.{All, Contains}
use Rattle.number_groups.specs.declared.groups.Entry.{Entry}
use Rattle.number_groups.specs.Groups.{numbers_under}
use Rattle.number_groups.proofs.Counts.{numbers_here}
use Rattle.tin_base.specs.Triangulation.{Triangulation}
use Rattle.tin_check.specs.declared.borders.BorderSide.{BorderSide}
use Rattle.tin_check.specs.InsideBorders.{AreSides, HasMore, IsSideIn, no_side, side_at}
use Rattle.tin_check.specs.InsideSideOrders.{AreNumbered, no_entry}

-- ---- the numbers under a key
later_has : (b : Bool) (n : ℕ) (ns : List ℕ) (m : ℕ) → Contains ns m → Contains (cond b (n ∷ ns) ns) m
later_has true n ns m h = Contains-append_right (n ∷ []) ns m h
later_has false n ns m h = h

-- the number of an entry is under its key
is_under : (entries : List Entry) (k : ℕ) → k < length entries
    → Contains (numbers_under (get_or entries k no_entry).key entries) (get_or entries k no_entry).number
is_under [] k h = absurd (omega arith)
is_under (e ∷ es) zero h = subst (λ (ns : List ℕ). Contains ns e.number) (sym (numbers_here e es)) (0, omega arith, refl)
is_under (e ∷ es) (suc k) h =
    let key = (get_or es k no_entry).key in
    later_has (nat_eq e.key key) e.number (numbers_under key es) (get_or es k no_entry).number
    (is_under es k (omega arith))

both_small : (bound : ℕ) (b : Bool) (n : ℕ) (ns : List ℕ) → n < bound → All (λ m. m < bound) ns
    → All (λ m. m < bound) (cond b (n ∷ ns) ns)
both_small bound true n ns h all = All-cons (λ m. m < bound) n ns h all
both_small bound false n ns h all = all

-- numbers under a key are numbers of entries
are_small : (bound key : ℕ) (entries : List Entry) → All (λ (e : Entry). e.number < bound) entries
    → All (λ n. n < bound) (numbers_under key entries)
are_small bound key [] all = All-nil (λ n. n < bound)
are_small bound key (e ∷ es) all =
    both_small bound (nat_eq e.key key) e.number (numbers_under key es)
    (All-head (λ (e : Entry). e.number < bound) e es all)
    (are_small bound key es (All-tail (λ (e : Entry). e.number < bound) e es all))

pub numbered_small : (keys n key : ℕ) (entries : List Entry) → AreNumbered keys n entries
    → All (λ m. m < n) (numbers_under key entries)
numbered_small keys n key entries are =
    are_small n key entries (All-from_get_or (λ (e : Entry). e.number < n) entries no_entry
    (λ i h. let within : i < n = omega (arith, are.count) in subst (λ (m : ℕ). m < n) (sym (are.numbers i within)) within))

-- ---- the sides that are taken
-- they are sides, and those whose keys are below a bound are among them
pub record AreTaken (tin : Triangulation) (sides : List BorderSide) (entries : List Entry) (bound : ℕ)
    (ordered : List BorderSide) : Type 0 where
  pub are : AreSides tin ordered
  pub all : (k : ℕ) → k < length sides → (get_or entries k no_entry).key < bound → Contains ordered (side_at sides k)

mapped : (sides : List BorderSide) (ns : List ℕ) (n : ℕ) → Contains ns n → Contains (map (side_at sides) ns) (side_at sides n)
mapped sides ns n h =
    All-contains (λ m. Contains (map (side_at sides) ns) (side_at sides m)) ns n
    (itself ns) h
  where
    itself : (ms : List ℕ) → All (λ m. Contains (map (side_at sides) ms) (side_at sides m)) ms
    itself [] = All-nil (λ m. Contains (map (side_at sides) []) (side_at sides m))
    itself (m ∷ ms) = All-cons (λ k. Contains (map (side_at sides) (m ∷ ms)) (side_at sides k)) m ms (0, omega arith, refl)
        (All-weaker (λ k. Contains (map (side_at sides) ms) (side_at sides k))
        (λ k. Contains (map (side_at sides) (m ∷ ms)) (side_at sides k))
        (λ k is. Contains-append_right (side_at sides m ∷ []) (map (side_at sides) ms) (side_at sides k) is) ms (itself ms))

pub more_taken : (tin : Triangulation) (sides : List BorderSide) (keys key : ℕ) (entries : List Entry)
    (ordered later : List BorderSide) → AreSides tin sides → AreNumbered keys (length sides) entries
    → AreTaken tin sides entries key ordered
    → later ≡ ordered ++ map (side_at sides) (numbers_under key entries) → AreTaken tin sides entries (key + 1) later
more_taken tin sides keys key entries ordered later in_range are before is =
    subst (λ (them : List BorderSide). AreTaken tin sides entries (key + 1) them) (sym is) (record {
      are = All-append (λ (side : BorderSide). IsSideIn tin side) ordered (map (side_at sides) ns) before.are
          (All-map (λ (side : BorderSide). IsSideIn tin side) (side_at sides) ns
          (All-weaker (λ n. n < length sides) (λ n. IsSideIn tin (side_at sides n)) (λ n h. in_range n no_side h) ns
          (numbered_small keys (length sides) key entries are)));
      all = all;
    })
  where
    ns : List ℕ
    ns = numbers_under key entries

    all : (k : ℕ) → k < length sides → (get_or entries k no_entry).key < key + 1
        → Contains (ordered ++ map (side_at sides) ns) (side_at sides k)
    all k hk h = go (last_or (get_or entries k no_entry).key key h)
      where
        last_or : (m n : ℕ) → m < n + 1 → (m < n) ⊎ (m ≡ n)
        last_or m n h = grind arith

        go : ((get_or entries k no_entry).key < key) ⊎ ((get_or entries k no_entry).key ≡ key)
            → Contains (ordered ++ map (side_at sides) ns) (side_at sides k)
        go (inl less) = Contains-append_left ordered (map (side_at sides) ns) (side_at sides k) (before.all k hk less)
        go (inr same) = Contains-append_right ordered (map (side_at sides) ns) (side_at sides k)
            (mapped sides ns k (subst (λ (n : ℕ). Contains ns n) (are.numbers k hk)
            (subst (λ (m : ℕ). Contains (numbers_under m entries) (get_or entries k no_entry).number) same
            (is_under entries k (omega (arith, are.count))))))

pub all_taken : (tin : Triangulation) (sides : List BorderSide) (keys bound : ℕ) (entries : List Entry)
    (ordered : List BorderSide) → keys ≤ bound → AreNumbered keys (length sides) entries
    → AreTaken tin sides entries bound ordered → HasMore sides ordered
all_taken tin sides keys bound entries ordered past are taken side (k, hk, is) =
    subst (λ (s : BorderSide). Contains ordered s) (get_or_default sides k no_side side hk ∙ is)
    (taken.all k hk (let h : (get_or entries k no_entry).key < keys =
    All-get_or (λ (e : Entry). e.key < keys) entries k no_entry (omega (arith, are.count)) are.below in omega arith))
