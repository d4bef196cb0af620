-- Pieces have a list of changes: each two pieces have a change or none, and the changed pairs are gone through in their
-- order.
use Rattle.std.proofs.Common.{◌≡◌, ◌≢◌, ◌⊎◌, inl, inr, ⊎_elim, ℕ, zero, suc, ◌<◌, ◌≤◌}
use Rattle.std.proofs.Common.{List, [], ◌∷◌, ◌++◌, length, map, get_or, Contains}
use Rattle.std.proofs.Common.{refl, sym, subst, arith}
use Rattle.std.proofs.lemmas.Bool.{cases_lt, false_from_ne_true}
use Rattle.std.proofs.lemmas.List.{get_or_default, length-map}
use Rattle.std.proofs.lemmas.List.Elements.{Contains-push, Contains-push_cases, Contains-append_left}
use Rattle.std.proofs.lemmas.List.Quantifiers.{all_pairs_push}
use Rattle.plain_laws.proofs.Order.{trichotomy}
use Rattle.plane_base.specs.Plane.{Same, whole}
use Rattle.plane_base.proofs.MixLaws.Mixes.{same_refl}
use Rattle.tin_base.specs.declared.pieces.Piece.{Piece}
use Rattle.tin_base.specs.declared.pieces.Change.{Change}
use Rattle.tin_base.specs.declared.relations.Rel.{Rel}
use Rattle.tin_base.specs.declared.relations.Rel.TheVariants.{Apart, Touching, Crossing, Overlapping}
use Rattle.tin_base.specs.Triangulation.{Triangulation}
use Rattle.tin_base.specs.Segments.{Spot, Part, spot_at}
use Rattle.tin_base.specs.Pieces.{IsPieceOf, IsPieceInside, first_point, last_point}
use Rattle.tin_base.proofs.SegmentSpots.Spots.{one, same_of_spots}
use Rattle.tin_base.proofs.SegmentSpots.Ends.{same_of}
use Rattle.meet_rel.proofs.Ways.{AreDifferent}
use Rattle.meet_rel.proofs.ClipEnds.{same_or_different, different_not, has_ends}
use Rattle.topo_check.specs.declared.comparisons.ChangedPair.{ChangedPair}
use Rattle.topo_check.specs.Changes.{HadRelation, HasRelation, AreAllInside, piece_at, no_piece, Numbers, DoPrecede}
use Rattle.topo_check.specs.Changes.{AreChanges, HasMoreThan}
use Rattle.topo_check.specs.InsidePairs.{numbers_of, change_of, IsChanged, IsUnchanged, AreAscending}
use Rattle.topo_check.specs.InsidePairs.{HasPair}
use Rattle.topo_check.specs.InsidePairs.{AreDifferentPairs, AreCollected}
use Rattle.topo_check.specs.Laws.{ChangesExist}
use Rattle.topo_check.proofs.InOrder.{numbers}
use Rattle.topo_check.proofs.Collects.{same_numbers}
use Rattle.topo_check.proofs.PairOrder.{all_listed, too_many}
use Rattle.topo_check.proofs.SegmentRelations.{each_relation, relation_moved}

-- ---- the relation that two pieces had
-- two parts of one piece have their ends at the same places
record HaveSamePlaces (piece : Piece) (s t : Part) : Type 0 where
  first : Same (first_point piece s) (first_point piece t)
  last : Same (last_point piece s) (last_point piece t)

same_places : (tin : Triangulation) (piece : Piece) (s t : Part) → IsPieceOf tin piece s → IsPieceOf tin piece t
    → HaveSamePlaces piece s t
same_places tin piece s t hs ht = go (same_or_different piece.a piece.b)
  where
    at : (x y : Spot) → x ≡ y → Same (spot_at piece.a piece.b x) (spot_at piece.a piece.b y)
    at x y e = subst (λ (z : Spot). Same (spot_at piece.a piece.b x) (spot_at piece.a piece.b z)) e
        (same_refl (spot_at piece.a piece.b x))

    go : (piece.a ≡ piece.b) ⊎ AreDifferent piece.a piece.b → HaveSamePlaces piece s t
    go (inl e) = grind (arith, at)
    go (inr d) =
        let p = hs.of_segment (different_not piece.a piece.b d) in
        let q = ht.of_segment (different_not piece.a piece.b d) in record {
          first = same_of_spots piece.a piece.b s.first t.first
              (same_of s.first t.first (p.none_before t.first q.has_first) (q.none_before s.first p.has_first));
          last = same_of_spots piece.a piece.b s.last t.last
              (same_of s.last t.last (q.none_after s.last p.has_last) (p.none_after t.last q.has_last));
        }

had_some : (tin : Triangulation) (p q : Piece) → IsPieceInside tin p → IsPieceInside tin q
    → (was : Rel) × HadRelation tin was p q
had_some tin p q hp hq =
    let (s, is_s) = hp.is_piece in
    let (t, is_t) = hq.is_piece in
    let e = has_ends tin p s is_s in
    let f = has_ends tin q t is_t in
    let (was, has) = each_relation (first_point p s) (last_point p s) (first_point q t) (last_point q t)
    e.first_positive e.last_positive f.first_positive f.last_positive in (
      was,
      λ u v is_u is_v.
          let i = has_ends tin p u is_u in
          let j = has_ends tin q v is_v in
          let k = same_places tin p s u is_s is_u in
          let l = same_places tin q t v is_t is_v in
          relation_moved (first_point p s) (last_point p s) (first_point q t) (last_point q t)
          (first_point p u) (last_point p u) (first_point q v) (last_point q v) e.first_positive e.last_positive
          f.first_positive f.last_positive i.first_positive i.last_positive j.first_positive j.last_positive
          k.first k.last l.first l.last was has,
    )

has_some : (p q : Piece) → (now : Rel) × HasRelation now p q
has_some p q = each_relation (whole p.ia) (whole p.ib) (whole q.ia) (whole q.ib) one one one one

-- ---- a change or none
rel_or : (a b : Rel) → (a ≡ b) ⊎ (a ≢ b)
rel_or Apart Apart = inl refl
rel_or Touching Touching = inl refl
rel_or Crossing Crossing = inl refl
rel_or Overlapping Overlapping = inl refl
rel_or a b = inr (λ e. cc)

-- the changed pair of two numbers
record IsChangedAt (tin : Triangulation) (pieces : List Piece) (i j : ℕ) : Type 0 where
  pair : ChangedPair
  first : pair.first ≡ i
  second : pair.second ≡ j
  changed : IsChanged tin pieces pair

changed_or : (tin : Triangulation) (pieces : List Piece) → AreAllInside tin pieces → (i j : ℕ) → i < j
    → j < length pieces → IsChangedAt tin pieces i j ⊎ IsUnchanged tin pieces i j
changed_or tin pieces inside i j less within =
    let p = piece_at pieces i in
    let q = piece_at pieces j in
    let (was, had) = had_some tin p q (inside i no_piece (omega arith)) (inside j no_piece within) in
    let (now, has) = has_some p q in
    elim (rel_or was now) [
      | inl same ↦ inr (was, had, subst (λ (r : Rel). HasRelation r p q) (sym same) has)
      | inr differ ↦ inl (record {
        pair = record { first = i; second = j; was = was; now = now };
        first = refl;
        second = refl;
        changed = record { earlier = less; in_range = within; had = had; has = has; differ = differ };
      })
    ]

-- ---- pairs in their order
-- the changed pairs before the pair of i and j, in their order
record AreListedBefore (tin : Triangulation) (pieces : List Piece) (i j : ℕ) (xs : List ChangedPair) : Type 0 where
  each : (c : ChangedPair) → Contains xs c → IsChanged tin pieces c
  ascending : AreAscending xs
  before : (c : ChangedPair) → Contains xs c → DoPrecede (numbers_of c) (numbers i j)
  all : (a b : ℕ) → a < b → b < length pieces → DoPrecede (numbers a b) (numbers i j)
      → HasPair xs a b ⊎ IsUnchanged tin pieces a b

abbrev IsSomeListed : Triangulation → List Piece → ℕ → ℕ → Type 0
IsSomeListed tin pieces i j = (xs : List ChangedPair) × AreListedBefore tin pieces i j xs

later_pair : (m : Numbers) (i j : ℕ) → DoPrecede m (numbers i j) → DoPrecede m (numbers i (suc j))
later_pair m i j (inl h) = inl h
later_pair m i j (inr h) = inr (h.0, omega (arith, h.1))

-- before the next pair there is one more
last_or : (a b i j : ℕ) → DoPrecede (numbers a b) (numbers i (suc j))
    → DoPrecede (numbers a b) (numbers i j) ⊎ ((a ≡ i) × (b ≡ j))
last_or a b i j (inl h) = inl (inl h)
last_or a b i j (inr h) = grind (arith, trichotomy, numbers)

module _ (tin : Triangulation) (pieces : List Piece) (inside : AreAllInside tin pieces) where
  -- the pair of i and j has not changed, or is not a pair
  passed : (i j : ℕ) (xs : List ChangedPair) → (i < j → j < length pieces → IsUnchanged tin pieces i j)
      → AreListedBefore tin pieces i j xs → AreListedBefore tin pieces i (suc j) xs
  passed i j xs same l = record {
    each = l.each;
    ascending = l.ascending;
    before = λ c h. later_pair (numbers_of c) i j (l.before c h);
    all = λ a b less within h.
        ⊎_elim (λ earlier. l.all a b less within earlier)
        (λ here. inr (subst (λ (m : ℕ). IsUnchanged tin pieces m b) (sym here.0)
        (subst (λ (n : ℕ). IsUnchanged tin pieces i n) (sym here.1)
        (same (subst (λ (m : ℕ). m < j) here.0 (subst (λ (n : ℕ). a < n) here.1 less))
        (subst (λ (n : ℕ). n < length pieces) here.1 within)))))
        (last_or a b i j h);
  }

  listed : (i j : ℕ) (xs : List ChangedPair) (c : ChangedPair) → c.first ≡ i → c.second ≡ j
      → IsChanged tin pieces c → AreListedBefore tin pieces i j xs
      → AreListedBefore tin pieces i (suc j) (xs ++ c ∷ [])
  listed i j xs c first second changed l = record {
    each = λ d h. ⊎_elim (λ earlier. l.each d earlier)
        (λ same. subst (λ (e : ChangedPair). IsChanged tin pieces e) same changed) (Contains-push_cases xs c d h);
    ascending = all_pairs_push (λ (d e : ChangedPair). DoPrecede (numbers_of d) (numbers_of e)) xs c l.ascending
        (λ k d h. at_last (get_or xs k d)
        (l.before (get_or xs k d) (k, h, get_or_default xs k (get_or xs k d) d h)));
    before = λ d h. ⊎_elim (λ earlier. later_pair (numbers_of d) i j (l.before d earlier))
        (λ same. subst (λ (e : ChangedPair). DoPrecede (numbers_of e) (numbers i (suc j))) same
        (inr (first, omega (arith, second)))) (Contains-push_cases xs c d h);
    all = λ a b less within h.
        ⊎_elim
        (λ earlier. ⊎_elim (λ has. inl (has.0, Contains-append_left xs (c ∷ []) has.0 has.1, has.2, has.3))
        (λ same. inr same) (l.all a b less within earlier))
        (λ here. inl (
          c,
          Contains-push xs c,
          subst (λ (m : ℕ). c.first ≡ m) (sym here.0) first,
          subst (λ (n : ℕ). c.second ≡ n) (sym here.1) second,
        ))
        (last_or a b i j h);
  }
    where
      at_last : (d : ChangedPair) → DoPrecede (numbers_of d) (numbers i j) → DoPrecede (numbers_of d) (numbers_of c)
      at_last d h = subst (λ (m : ℕ). DoPrecede (numbers_of d) (numbers m c.second)) (sym first)
          (subst (λ (n : ℕ). DoPrecede (numbers_of d) (numbers i n)) (sym second) h)

  one_pair : (i j : ℕ) → j < length pieces → IsSomeListed tin pieces i j → IsSomeListed tin pieces i (suc j)
  one_pair i j within (xs, l) = go (trichotomy i j)
    where
      go : (i < j) ⊎ ((i ≡ j) ⊎ (j < i)) → IsSomeListed tin pieces i (suc j)
      go (inr (inl same)) = (xs, passed i j xs (λ less _. absurd (omega (arith, less, same))) l)
      go (inr (inr past)) = (xs, passed i j xs (λ less _. absurd (omega (arith, less, past))) l)
      go (inl less) = elim (changed_or tin pieces inside i j less within) [
        | inl c ↦ (xs ++ c.pair ∷ [], listed i j xs c.pair c.first c.second c.changed l)
        | inr same ↦ (xs, passed i j xs (λ _ _. same) l)
      ]

  -- the pairs of i with the pieces below n
  row : (i n : ℕ) → n ≤ length pieces → IsSomeListed tin pieces i 0 → IsSomeListed tin pieces i n
  row i zero few l = l
  row i (suc n) few l = one_pair i n (omega arith) (row i n (omega arith) l)

  row_done : (i : ℕ) → IsSomeListed tin pieces i (length pieces) → IsSomeListed tin pieces (suc i) 0
  row_done i (xs, l) = (
    xs,
    record {
      each = l.each;
      ascending = l.ascending;
      before = λ c h. ⊎_elim (λ less. inl (omega (arith, less))) (λ same. inl (omega (arith, same.0)))
          (l.before c h);
      all = λ a b less within h. l.all a b less within (down a b within h);
    },
  )
    where
      down : (a b : ℕ) → b < length pieces → DoPrecede (numbers a b) (numbers (suc i) 0)
          → DoPrecede (numbers a b) (numbers i (length pieces))
      down a b within (inr h) = absurd (omega (arith, h.1))
      down a b within (inl h) = go (trichotomy a i)
        where
          go : (a < i) ⊎ ((a ≡ i) ⊎ (i < a)) → DoPrecede (numbers a b) (numbers i (length pieces))
          go (inl k) = inl k
          go (inr (inl k)) = inr (k, within)
          go (inr (inr k)) = absurd (omega (arith, h, k))

  rows : (n : ℕ) → IsSomeListed tin pieces n 0
  rows zero = grind (arith, numbers)
  rows (suc n) = row_done n (row n (length pieces) (omega arith) (rows n))

  different : (xs : List ChangedPair) → AreAscending xs → AreDifferentPairs xs
  different xs up i j d less within = grind (arith, get_or, false_from_ne_true, same_numbers)

  collected : (most : ℕ) (xs : List ChangedPair) → AreListedBefore tin pieces (length pieces) 0 xs
      → AreCollected tin pieces most xs
  collected most xs l = record {
    each = l.each;
    different = different xs l.ascending;
    all = λ few i j less within. l.all i j less within (inl (omega (arith, less, within)));
  }

  list_of : (most : ℕ)
      → (changes : List Change) × AreChanges tin pieces changes
      × ((length changes ≤ most) ⊎ HasMoreThan tin pieces most)
  list_of most =
      let (xs, l) = rows (length pieces) in
      let size = length-map xs (change_of pieces) in (
        map (change_of pieces) xs,
        all_listed tin pieces (length xs) xs (map (change_of pieces) xs) (collected (length xs) xs l) l.ascending
            (omega arith) refl,
        ⊎_elim (λ more. inr (too_many tin pieces most xs (collected most xs l) l.ascending more))
            (λ few. inl (omega (arith, few, size)))
            (cases_lt most (length xs)),
      )

pub changes_exist : ChangesExist
changes_exist tin pieces most inside = list_of tin pieces inside most
