-- Kinds of pieces: a kind has copies of one piece. Only private functions speak of them.
use Rattle.std.specs.Prelude.{◌≡◌, ◌⊎◌, ◌≢◌, ◌↔◌, ℕ, ◌+◌, ◌<◌, ◌≤◌, List, [], ◌∷◌, length, slice_index_or, Contains}
use Rattle.std.specs.Prelude.{None, nat_eq}
use Rattle.std.specs.List.{IsDistinct}
use Rattle.number_groups.specs.declared.groups.Entry.{Entry}
use Rattle.plane_base.specs.declared.shapes.Pt.{Pt}
use Rattle.tin_base.specs.declared.pieces.Piece.{Piece}
use Rattle.tin_base.specs.declared.relations.Rel.{Rel}
use Rattle.tin_base.specs.Triangulation.{Triangulation}
use Rattle.topo_check.specs.declared.comparisons.ChangedPair.{ChangedPair}
use Rattle.topo_check.specs.Changes.{piece_at, HadRelation, HasRelation, IsChangeOf}
use Rattle.topo_check.specs.InsidePairs.{IsUnchanged, AreDifferentPairs}

-- each relation that the other has or had with a piece, this one has or had too
pub record IsCopy (tin : Triangulation) (p q : Piece) : Type 0 where
  pub had : (was : Rel) (r : Piece) → HadRelation tin was q r → HadRelation tin was p r
  pub has : (now : Rel) (r : Piece) → HasRelation now q r → HasRelation now p r

-- the segment from a to b is that from c to d, in its direction or turned
abbrev pub IsAsOrTurned : Pt → Pt → Pt → Pt → Type 0
IsAsOrTurned a b c d = ((a ≡ c) × (b ≡ d)) ⊎ ((a ≡ d) × (b ≡ c))

pub record AreSameOrTurned (p q : Piece) : Type 0 where
  pub triangle : p.tri ≡ q.tri
  pub exact : IsAsOrTurned p.a p.b q.a q.b
  pub rounded : IsAsOrTurned p.ia p.ib q.ia q.ib

-- a copy of the other one, whose copies do not change to each other
pub record IsSteadyCopy (tin : Triangulation) (p q : Piece) : Type 0 where
  pub copy : IsCopy tin p q
  pub steady : IsChangeOf tin q q None

-- a number of a list
abbrev pub at : List ℕ → ℕ → ℕ
at ns i = slice_index_or ns i 0

-- the first piece of each kind, and the kind of each of the first `count` pieces
pub record AreKindsOf (tin : Triangulation) (pieces : List Piece) (count : ℕ) (firsts kinds : List ℕ) : Type 0 where
  pub same : length kinds ≡ count
  pub few : length firsts ≤ count
  pub in_range : (k : ℕ) → k < length firsts → at firsts k < count
  pub ascending : (k m : ℕ) → k < m → m < length firsts → at firsts k < at firsts m
  pub kind : (i : ℕ) → i < count → at kinds i < length firsts
  pub copy : (i : ℕ) → i < count → IsCopy tin (piece_at pieces i) (piece_at pieces (at firsts (at kinds i)))
  pub own : (i j : ℕ) → i < j → j < count → at kinds i ≡ at kinds j → IsUnchanged tin pieces i j

-- the numbers from n on, each under one of these kinds
abbrev pub numbered_entries : ℕ → List ℕ → List Entry
numbered_entries n [] = []
numbered_entries n (kind ∷ kinds) = record { key = kind; number = n } ∷ numbered_entries (n + 1) kinds

-- the pieces of a kind
abbrev pub members_at : List (List ℕ) → ℕ → List ℕ
members_at members kind = slice_index_or members kind []

-- the pieces of each kind, each once
pub record AreMembersOf (kinds : List ℕ) (count : ℕ) (members : List (List ℕ)) : Type 0 where
  pub same : length members ≡ count
  pub exact : (k i : ℕ) → k < count → Contains (members_at members k) i ↔ ((i < length kinds) × (at kinds i ≡ k))
  pub once : (k : ℕ) → k < count → IsDistinct nat_eq (members_at members k)

-- lists of numbers below a number, in which no number is twice
pub record AreSortsOf (count : ℕ) (members : List (List ℕ)) : Type 0 where
  pub once : (k : ℕ) → k < length members → IsDistinct nat_eq (members_at members k)
  pub within : (k i : ℕ) → k < length members → Contains (members_at members k) i → i < count
  pub apart : (k m i j : ℕ) → k < length members → m < length members → k < m → Contains (members_at members k) i
      → Contains (members_at members m) j → j ≢ i

-- different pairs of kinds, the earlier first
pub record ArePairsOfKinds (count : ℕ) (found : List ChangedPair) : Type 0 where
  pub earlier : (pair : ChangedPair) → Contains found pair → pair.first < pair.second
  pub within : (pair : ChangedPair) → Contains found pair → pair.second < count
  pub different : AreDifferentPairs found

-- the one piece is of the first sort and the other of the second
abbrev pub IsPairAcross : (ℕ → Type 0) → (ℕ → Type 0) → ℕ → ℕ → Type 0
IsPairAcross IsFirst IsSecond i j = (IsFirst i × IsSecond j) ⊎ (IsFirst j × IsSecond i)

-- the two pieces are of the two kinds
abbrev pub IsPairOfKinds : List (List ℕ) → ChangedPair → ℕ → ℕ → Type 0
IsPairOfKinds members pair i j = IsPairAcross (Contains (members_at members pair.first))
    (Contains (members_at members pair.second)) i j

abbrev pub IsFoundOf : List (List ℕ) → List ChangedPair → ℕ → ℕ → Type 0
IsFoundOf members found i j = (pair : ChangedPair) × Contains found pair × IsPairOfKinds members pair i j

-- the pair of the first pieces of two kinds
abbrev pub of_firsts : List ℕ → ChangedPair → ChangedPair
of_firsts firsts pair = record {
  first = at firsts pair.first;
  second = at firsts pair.second;
  was = pair.was;
  now =
      pair.now;
}
