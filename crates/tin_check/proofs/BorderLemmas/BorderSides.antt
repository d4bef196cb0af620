-- Sides that are joined by rows of mates are a matching, and those that are not are listed.
use Rattle.std.proofs.Common.{below_more, ◌≡◌, ◌≢◌, ◌⊎◌, inl, inr, ℕ, ◌+◌, ◌<◌, ◌≤◌, ℤ, pos, ◌<ℤ◌, List, [], ◌∷◌, length}
use Rattle.std.proofs.Common.{get_or, map, Option, Some, None, refl, sym, ap, ◌∙◌, subst, arith}
use Rattle.std.proofs.lemmas.Bool.Decides.{eqb_tells}
use Rattle.std.proofs.lemmas.Int.{ints}
use Rattle.plain_laws.proofs.Order.{trichotomy}
use Rattle.plane_base.specs.Plane.{Point, turn_of}
use Rattle.plane_base.proofs.MixLaws.Turns.{turn_twice, turn_cycle}
use Rattle.tin_base.specs.declared.frames.Frame.TheVariants.{Source}
use Rattle.tin_base.specs.Triangulation.{Triangulation, place, corner_at, numbers_of}
use Rattle.tin_base.specs.Soundness.{turn_of_three}
use Rattle.border_law.specs.Borders.{IsFrom, HasSide, Mates}
use Rattle.tin_check.specs.declared.borders.BorderSide.{BorderSide}
use Rattle.tin_check.specs.InsideProgress.{ArePositive}
use Rattle.tin_check.specs.InsideBorders.{entry_at, IsAtPlace, PointsTo, IsJoined, side_of, IsListed, AreAllListed}
use Rattle.tin_check.specs.InsideBorders.{AreListed, HasMore, AreSides, IsBorderOf}

-- ---- along the triangles
more_listed : (tin : Triangulation) (mates : List (List ℕ)) (sides more : List BorderSide) (t i j : ℕ)
    → HasMore sides more → IsListed tin mates sides t i j → IsListed tin mates more t i j
more_listed tin mates sides more t i j h (inl joined) = inl joined
more_listed tin mates sides more t i j h (inr listed) = inr (h (side_of t i j) listed)

all_more : (tin : Triangulation) (mates : List (List ℕ)) (sides more : List BorderSide) (t : ℕ)
    → HasMore sides more → AreAllListed tin mates sides t → AreAllListed tin mates more t
all_more tin mates sides more t h all = (
  more_listed tin mates sides more t (entry_at tin.triangles t 0) (entry_at tin.triangles t 1) h all.0,
  more_listed tin mates sides more t (entry_at tin.triangles t 1) (entry_at tin.triangles t 2) h all.1,
  more_listed tin mates sides more t (entry_at tin.triangles t 2) (entry_at tin.triangles t 0) h all.2,
)

-- the sides of one more triangle, as they were read
pub next_listed : (tin : Triangulation) (mates rows : List (List ℕ)) (t : ℕ) (sides first second third : List BorderSide)
    → rows ≡ tin.triangles → AreListed tin mates t sides → HasMore sides first → HasMore first second
    → HasMore second third
    → IsListed tin mates first t (entry_at rows t 0) (entry_at rows t 1)
    → IsListed tin mates second t (entry_at rows t 1) (entry_at rows t 2)
    → IsListed tin mates third t (entry_at rows t 2) (entry_at rows t 0)
    → AreListed tin mates (t + 1) third
next_listed tin mates rows t sides first second third e before h k l a b c =
    below_more (λ u. AreAllListed tin mates third u) t (λ u less. all_more tin mates sides third u later (before u less))
    (subst (λ (ns : List (List ℕ)). IsListed tin mates third t (entry_at ns t 0) (entry_at ns t 1)
    × IsListed tin mates third t (entry_at ns t 1) (entry_at ns t 2)
    × IsListed tin mates third t (entry_at ns t 2) (entry_at ns t 0)) e (
      more_listed tin mates second third t (entry_at rows t 0) (entry_at rows t 1) l
          (more_listed tin mates first second t (entry_at rows t 0) (entry_at rows t 1) k a),
      more_listed tin mates second third t (entry_at rows t 1) (entry_at rows t 2) l b,
      c,
    ))
  where
    later : HasMore sides third
    later side is = l side (k side (h side is))

pub all_listed : (tin : Triangulation) (mates : List (List ℕ)) (n : ℕ) (sides : List BorderSide)
    → length tin.triangles ≤ n → AreListed tin mates n sides → AreListed tin mates (length tin.triangles) sides
all_listed tin mates n sides past all t h = all t (omega arith)

-- ---- the corners of a triangle of positive turn differ
record AreThree (ns : List ℕ) (a b c : ℕ) : Type 0 where
  is : ns ≡ a ∷ b ∷ c ∷ []
  first : a ≢ b
  second : b ≢ c
  third : c ≢ a

not_zero : (z : ℤ) → pos 0 <ℤ z → z ≡ pos 0 → ⊥
not_zero z h e = absurd (omega (arith, ints))

turn_same : (p q r : Point) → (p ≡ q) ⊎ ((q ≡ r) ⊎ (r ≡ p)) → turn_of p q r ≡ pos 0
turn_same p q r (inl e) = subst (λ (x : Point). turn_of p x r ≡ pos 0) e (turn_twice p r)
turn_same p q r (inr (inl e)) =
    subst (λ (x : Point). turn_of p q x ≡ pos 0) e (turn_cycle p q q ∙ turn_twice q p)
turn_same p q r (inr (inr e)) =
    subst (λ (x : Point). turn_of x q r ≡ pos 0) e (turn_cycle r q r ∙ turn_cycle q r r ∙ turn_twice r q)

-- a row of three numbers
record Triple (ns : List ℕ) : Type 0 where
  a : ℕ
  b : ℕ
  c : ℕ
  three : AreThree ns a b c

triple_of : (at : ℕ → Point) (ns : List ℕ) → pos 0 <ℤ turn_of_three (map at ns) → Triple ns
triple_of at [] d = absurd (not_zero (pos 0) d refl)
triple_of at (i ∷ []) d = absurd (not_zero (pos 0) d refl)
triple_of at (i ∷ j ∷ []) d = absurd (not_zero (pos 0) d refl)
triple_of at (i ∷ j ∷ k ∷ l ∷ ns) d = absurd (not_zero (pos 0) d refl)
triple_of at (i ∷ j ∷ k ∷ []) d = record {
  a = i;
  b = j;
  c = k;
  three = record {
    is = refl;
    first = λ e. flat (inl (ap at e));
    second = λ e. flat (inr (inl (ap at e)));
    third = λ e. flat (inr (inr (ap at e)));
  };
}
  where
    flat : (at i ≡ at j) ⊎ ((at j ≡ at k) ⊎ (at k ≡ at i)) → ⊥
    flat same = not_zero (turn_of (at i) (at j) (at k)) d (turn_same (at i) (at j) (at k) same)

row_at : (tin : Triangulation) (t : ℕ) → ArePositive tin (length tin.triangles) → t < length tin.triangles
    → Triple (numbers_of tin t)
row_at tin t positive h = triple_of (λ k. place Source (corner_at tin k)) (numbers_of tin t) (positive Source t h)

-- ---- the mate of a side
-- a fact holds or does not
abbrev Answer : Type 0 → Type 0
Answer P = P ⊎ (P → ⊥)

same_or : (m n : ℕ) → Answer (m ≡ n)
same_or m n = elim (eqb_tells m n) [
  | inl e ↦ inl e.1
  | inr e ↦ inr e.1
]

both_or : {P Q : Type 0} → Answer P → Answer Q → Answer (P × Q)
both_or (inl p) (inl q) = inl (p, q)
both_or (inl p) (inr n) = inr (λ h. n h.1)
both_or (inr n) q = inr (λ h. n h.0)

three_or : {P Q R : Type 0} → Answer P → Answer Q → Answer R → Answer (P × Q × R)
three_or (inl p) (inl q) (inl r) = inl (p, q, r)
three_or (inr n) q r = inr (λ h. n h.0)
three_or (inl p) (inr n) r = inr (λ h. n h.1)
three_or (inl p) (inl q) (inr n) = inr (λ h. n h.2)

either_or : {P Q : Type 0} → Answer P → Answer Q → Answer (P ⊎ Q)
either_or (inl p) q = inl (inl p)
either_or (inr n) (inl q) = inl (inr q)
either_or (inr n) (inr m) = inr (λ h. elim h [
  | inl p ↦ n p
  | inr q ↦ m q
])

below_or : (m n : ℕ) → Answer (m < n)
below_or m n = elim (trichotomy m n) [
  | inl less ↦ inl less
  | inr more ↦ inr (λ h. elim more [
    | inl same ↦ absurd (omega arith)
    | inr later ↦ absurd (omega arith)
  ])
]

place_or : (tin : Triangulation) (mates : List (List ℕ)) (t i j u a b : ℕ)
    → Answer (IsAtPlace tin mates t i j u a b)
place_or tin mates t i j u a b = three_or (same_or i (entry_at tin.triangles t a))
    (same_or j (entry_at tin.triangles t b)) (same_or u (entry_at mates t a))

points_or : (tin : Triangulation) (mates : List (List ℕ)) (t i j u : ℕ) → Answer (PointsTo tin mates t i j u)
points_or tin mates t i j u = either_or (place_or tin mates t i j u 0 1)
    (either_or (place_or tin mates t i j u 1 2) (place_or tin mates t i j u 2 0))

joined_or : (tin : Triangulation) (mates : List (List ℕ)) (t i j u : ℕ) → Answer (IsJoined tin mates t i j u)
joined_or tin mates t i j u =
    elim (both_or (below_or u (length tin.triangles)) (both_or (points_or tin mates t i j u)
    (points_or tin mates u j i t))) [
      | inl h ↦ inl (record { below = h.0; there = h.1.0; back = h.1.1 })
      | inr n ↦ inr (λ j. n (j.below, (j.there, j.back)))
    ]

-- the first of three that is joined
pick : (P : ℕ → Type 0) (k l m : ℕ) → Answer (P k) → Answer (P l) → Answer (P m) → Option ℕ
pick P k l m (inl p) q r = Some k
pick P k l m (inr n) (inl q) r = Some l
pick P k l m (inr n) (inr o) (inl r) = Some m
pick P k l m (inr n) (inr o) (inr x) = None

some_same : (k l : ℕ) → Some k ≡ Some l → k ≡ l
some_same k l e = cc

none_some : (k : ℕ) → None ≡ Some k → ⊥
none_some k e = cc

pick_told : (P : ℕ → Type 0) (k l m u : ℕ) (p : Answer (P k)) (q : Answer (P l)) (r : Answer (P m))
    → pick P k l m p q r ≡ Some u → P u
unfolding pick
pick_told P k l m u (inl p) q r e = subst P (some_same k u e) p
pick_told P k l m u (inr n) (inl q) r e = subst P (some_same l u e) q
pick_told P k l m u (inr n) (inr o) (inl r) e = subst P (some_same m u e) r
pick_told P k l m u (inr n) (inr o) (inr x) e = absurd (none_some u e)

pick_one : (P : ℕ → Type 0) (k l m u : ℕ) (p : Answer (P k)) (q : Answer (P l)) (r : Answer (P m)) → P u
    → ((v : ℕ) → P v → v ≡ u) → (u ≡ k) ⊎ ((u ≡ l) ⊎ (u ≡ m)) → pick P k l m p q r ≡ Some u
unfolding pick
pick_one P k l m u (inl p) q r is once at = ap (λ (v : ℕ). Some v) (once k p)
pick_one P k l m u (inr n) (inl q) r is once at = ap (λ (v : ℕ). Some v) (once l q)
pick_one P k l m u (inr n) (inr o) (inl r) is once at = ap (λ (v : ℕ). Some v) (once m r)
pick_one P k l m u (inr n) (inr o) (inr x) is once (inl e) = absurd (n (subst P e is))
pick_one P k l m u (inr n) (inr o) (inr x) is once (inr (inl e)) = absurd (o (subst P e is))
pick_one P k l m u (inr n) (inr o) (inr x) is once (inr (inr e)) = absurd (x (subst P e is))

mate_of : Triangulation → List (List ℕ) → Mates
mate_of tin mates t i j =
    pick (λ u. IsJoined tin mates t i j u) (entry_at mates t 0) (entry_at mates t 1) (entry_at mates t 2)
    (joined_or tin mates t i j (entry_at mates t 0)) (joined_or tin mates t i j (entry_at mates t 1))
    (joined_or tin mates t i j (entry_at mates t 2))

mate_told : (tin : Triangulation) (mates : List (List ℕ)) (t i j u : ℕ) → mate_of tin mates t i j ≡ Some u
    → IsJoined tin mates t i j u
unfolding mate_of
mate_told tin mates t i j u e =
    pick_told (λ v. IsJoined tin mates t i j v) (entry_at mates t 0) (entry_at mates t 1) (entry_at mates t 2) u
    (joined_or tin mates t i j (entry_at mates t 0)) (joined_or tin mates t i j (entry_at mates t 1))
    (joined_or tin mates t i j (entry_at mates t 2)) e

-- a side has one mate
once_at : (tin : Triangulation) (mates : List (List ℕ)) (t i j u v : ℕ) → Triple (numbers_of tin t)
    → PointsTo tin mates t i j u → PointsTo tin mates t i j v → v ≡ u
once_at tin mates t i j u v row p q = go p q
  where
    at_first : entry_at tin.triangles t 0 ≡ row.a
    at_first = ap (λ (ns : List ℕ). get_or ns 0 0) row.three.is

    at_second : entry_at tin.triangles t 1 ≡ row.b
    at_second = ap (λ (ns : List ℕ). get_or ns 1 0) row.three.is

    at_third : entry_at tin.triangles t 2 ≡ row.c
    at_third = ap (λ (ns : List ℕ). get_or ns 2 0) row.three.is

    go : PointsTo tin mates t i j u → PointsTo tin mates t i j v → v ≡ u
    go (inl x) (inl y) = y.2 ∙ sym x.2
    go (inr (inl x)) (inr (inl y)) = y.2 ∙ sym x.2
    go (inr (inr x)) (inr (inr y)) = y.2 ∙ sym x.2
    go (inl x) (inr (inl y)) = absurd (row.three.first (sym at_first ∙ sym x.0 ∙ y.0 ∙ at_second))
    go (inr (inl x)) (inl y) = absurd (row.three.first (sym at_first ∙ sym y.0 ∙ x.0 ∙ at_second))
    go (inr (inl x)) (inr (inr y)) = absurd (row.three.second (sym at_second ∙ sym x.0 ∙ y.0 ∙ at_third))
    go (inr (inr x)) (inr (inl y)) = absurd (row.three.second (sym at_second ∙ sym y.0 ∙ x.0 ∙ at_third))
    go (inl x) (inr (inr y)) = absurd (row.three.third (sym at_third ∙ sym y.0 ∙ x.0 ∙ at_first))
    go (inr (inr x)) (inl y) = absurd (row.three.third (sym at_third ∙ sym x.0 ∙ y.0 ∙ at_first))

at_one : (tin : Triangulation) (mates : List (List ℕ)) (t i j u : ℕ) → PointsTo tin mates t i j u
    → (u ≡ entry_at mates t 0) ⊎ ((u ≡ entry_at mates t 1) ⊎ (u ≡ entry_at mates t 2))
at_one tin mates t i j u (inl x) = inl x.2
at_one tin mates t i j u (inr (inl x)) = inr (inl x.2)
at_one tin mates t i j u (inr (inr x)) = inr (inr x.2)

mate_is : (tin : Triangulation) (mates : List (List ℕ)) (t i j u : ℕ) → Triple (numbers_of tin t)
    → IsJoined tin mates t i j u → mate_of tin mates t i j ≡ Some u
unfolding mate_of
mate_is tin mates t i j u row joined =
    pick_one (λ v. IsJoined tin mates t i j v) (entry_at mates t 0) (entry_at mates t 1) (entry_at mates t 2) u
    (joined_or tin mates t i j (entry_at mates t 0)) (joined_or tin mates t i j (entry_at mates t 1))
    (joined_or tin mates t i j (entry_at mates t 2)) joined
    (λ v other. once_at tin mates t i j u v row joined.there other.there) (at_one tin mates t i j u joined.there)

-- ---- sides by their places
side_at : (tin : Triangulation) (mates : List (List ℕ)) (t i j u : ℕ) → Triple (numbers_of tin t)
    → PointsTo tin mates t i j u → HasSide (numbers_of tin t) i j
side_at tin mates t i j u row points = go row.three.is points
  where
    in_three : (a b c : ℕ) → ((i ≡ a) × (j ≡ b)) ⊎ (((i ≡ b) × (j ≡ c)) ⊎ ((i ≡ c) × (j ≡ a)))
        → HasSide (a ∷ b ∷ c ∷ []) i j
    in_three a b c (inl s) = (c, inl cc)
    in_three a b c (inr (inl s)) = (a, inr (inl cc))
    in_three a b c (inr (inr s)) = (b, inr (inr cc))

    at : (ns : List ℕ) (a b c : ℕ) → ns ≡ a ∷ b ∷ c ∷ []
        → ((i ≡ get_or ns 0 0) × (j ≡ get_or ns 1 0)) ⊎ (((i ≡ get_or ns 1 0) × (j ≡ get_or ns 2 0))
        ⊎ ((i ≡ get_or ns 2 0) × (j ≡ get_or ns 0 0))) → HasSide ns i j
    at ns a b c e s = subst (λ (ms : List ℕ). HasSide ms i j) (sym e) (in_three a b c
        (subst (λ (ms : List ℕ). ((i ≡ get_or ms 0 0) × (j ≡ get_or ms 1 0))
        ⊎ (((i ≡ get_or ms 1 0) × (j ≡ get_or ms 2 0)) ⊎ ((i ≡ get_or ms 2 0) × (j ≡ get_or ms 0 0)))) e s))

    go : numbers_of tin t ≡ row.a ∷ row.b ∷ row.c ∷ [] → PointsTo tin mates t i j u → HasSide (numbers_of tin t) i j
    go e (inl x) = at (numbers_of tin t) row.a row.b row.c e (inl (x.0, x.1))
    go e (inr (inl x)) = at (numbers_of tin t) row.a row.b row.c e (inr (inl (x.0, x.1)))
    go e (inr (inr x)) = at (numbers_of tin t) row.a row.b row.c e (inr (inr (x.0, x.1)))

-- each side is at one of the places
place_of : (ns : List ℕ) (i j k : ℕ) → IsFrom ns i j k
    → ((get_or ns 0 0 ≡ i) × (get_or ns 1 0 ≡ j)) ⊎ (((get_or ns 1 0 ≡ i) × (get_or ns 2 0 ≡ j))
    ⊎ ((get_or ns 2 0 ≡ i) × (get_or ns 0 0 ≡ j)))
place_of ns i j k (inl e) = inl (ap (λ (ms : List ℕ). get_or ms 0 0) e, ap (λ (ms : List ℕ). get_or ms 1 0) e)
place_of ns i j k (inr (inl e)) =
    inr (inl (ap (λ (ms : List ℕ). get_or ms 1 0) e, ap (λ (ms : List ℕ). get_or ms 2 0) e))
place_of ns i j k (inr (inr e)) =
    inr (inr (ap (λ (ms : List ℕ). get_or ms 2 0) e, ap (λ (ms : List ℕ). get_or ms 0 0) e))

listed_at : (tin : Triangulation) (mates : List (List ℕ)) (sides : List BorderSide) (t i j : ℕ)
    → AreAllListed tin mates sides t → HasSide (numbers_of tin t) i j → IsListed tin mates sides t i j
listed_at tin mates sides t i j all (k, from) = go (place_of (numbers_of tin t) i j k from)
  where
    moved : {a b : ℕ} → a ≡ i → b ≡ j → IsListed tin mates sides t a b → IsListed tin mates sides t i j
    moved {a} {b} e f l = subst (λ (m : ℕ). IsListed tin mates sides t i m) f
        (subst (λ (m : ℕ). IsListed tin mates sides t m b) e l)

    go : ((get_or (numbers_of tin t) 0 0 ≡ i) × (get_or (numbers_of tin t) 1 0 ≡ j))
        ⊎ (((get_or (numbers_of tin t) 1 0 ≡ i) × (get_or (numbers_of tin t) 2 0 ≡ j))
        ⊎ ((get_or (numbers_of tin t) 2 0 ≡ i) × (get_or (numbers_of tin t) 0 0 ≡ j)))
        → IsListed tin mates sides t i j
    go (inl s) = moved s.0 s.1 all.0
    go (inr (inl s)) = moved s.0 s.1 all.1
    go (inr (inr s)) = moved s.0 s.1 all.2

-- ---- the list has the border of a matching
pub border_is : (tin : Triangulation) (mates : List (List ℕ)) (sides : List BorderSide)
    → ArePositive tin (length tin.triangles) → AreListed tin mates (length tin.triangles) sides → AreSides tin sides
    → IsBorderOf tin sides
border_is tin mates sides positive listed in_range = record {
  mate = mate_of tin mates;
  matching = record {
    opposite = λ t u i j side is.
        let joined = mate_told tin mates t i j u is in
        (joined.below, side_at tin mates u j i t (row_at tin u positive joined.below) joined.back);
    back = λ t u i j side is.
        let joined = mate_told tin mates t i j u is in
        mate_is tin mates u j i t (row_at tin u positive joined.below)
        (record { below = side.0; there = joined.back; back = joined.there });
  };
  has = λ t i j border. elim (listed_at tin mates sides t i j (listed t border.0.0) border.0.1) [
    | inl joined ↦ absurd (none_some joined.0
        (sym border.1 ∙ mate_is tin mates t i j joined.0 (row_at tin t positive border.0.0) joined.1))
    | inr is ↦ is
  ];
  in_range = in_range;
}
