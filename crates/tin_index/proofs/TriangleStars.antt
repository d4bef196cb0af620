-- The triangles of each corner, as the lists of them grow.
use Rattle.std.proofs.Math.Numerals.{add-one}
use Rattle.std.proofs.Common.{◌≡◌, ◌≢◌, ◌⊎◌, ⊎_elim, ℕ, zero, suc, ◌+◌, ◌<◌, ◌≤◌, Bool, true, false}
use Rattle.std.proofs.Common.{◌==◌, cond, List, [], ◌∷◌, ◌++◌, length, get_or, All, Contains, lit<, refl, sym, ap}
use Rattle.std.proofs.Common.{◌∙◌, subst, arith}
use Rattle.std.proofs.lemmas.Bool.{cases_lt}
use Rattle.std.proofs.lemmas.Bool.Decides.{eqb_tells}
use Rattle.std.proofs.lemmas.List.{length_push, append-nil}
use Rattle.std.proofs.lemmas.List.Elements.{Contains-push, Contains-push_cases, Contains-append_left}
use Rattle.std.proofs.lemmas.List.Elements.{All-push}
use Rattle.std.specs.List.Sorted.{IsStrictlyIncreasing}
use Rattle.number_groups.specs.declared.groups.Entry.{Entry}
use Rattle.number_groups.specs.Groups.{numbers_under}
use Rattle.tin_base.specs.Triangulation.{Triangulation, numbers_of}
use Rattle.tin_base.specs.Soundness.{has, IsSound}
use Rattle.tin_base.specs.Limits.{IsWithinLimits}
use Rattle.tin_index.proofs.Corners.{three_read, read_differ}
use Rattle.tin_index.specs.Sides.{HasCorner, IsStar}
use Rattle.tin_index.specs.Stars.{one_if, star_to, AreEntriesTo}
use Rattle.plain_laws.proofs.Lists.{increasing_push}

-- ---- ascending numbers and one more

-- ---- what the list of a corner has
none_in : (k : ℕ) → Contains [] k → ⊥
none_in k c = absurd (let h = c.1 in omega (arith, h))

star_has : (tin : Triangulation) (corner n k : ℕ) → Contains (star_to tin corner n) k
    → (k < n) × HasCorner tin k corner
unfolding star_to
star_has tin corner zero k c = absurd (none_in k c)
star_has tin corner (suc n) k c = go (star_has tin corner n k) (has (numbers_of tin n) corner) refl c
  where
    up : (k < n) × HasCorner tin k corner → (k < suc n) × HasCorner tin k corner
    up h = (let l = h.0 in omega (arith, l), h.1)

    here : has (numbers_of tin n) corner ≡ true → n ≡ k → (k < suc n) × HasCorner tin k corner
    here e same = (omega arith, subst (λ (m : ℕ). HasCorner tin m corner) same e)

    go : (Contains (star_to tin corner n) k → (k < n) × HasCorner tin k corner) → (b : Bool)
        → has (numbers_of tin n) corner ≡ b → Contains (star_to tin corner n ++ one_if b n) k
        → (k < suc n) × HasCorner tin k corner
    go rest true e d = ⊎_elim (λ old. up (rest old)) (λ new. here e new)
        (Contains-push_cases (star_to tin corner n) n k d)
    go rest false e d = up (rest (subst (λ (xs : List ℕ). Contains xs k) (append-nil (star_to tin corner n)) d))

star_all : (tin : Triangulation) (corner n k : ℕ) → k < n → HasCorner tin k corner
    → Contains (star_to tin corner n) k
unfolding star_to
star_all tin corner zero k h has_it = absurd (omega arith)
star_all tin corner (suc n) k h has_it = ⊎_elim (λ l. old (star_all tin corner n k l has_it)) new (cases_lt k n)
  where
    old : Contains (star_to tin corner n) k → Contains
        (star_to tin corner n ++ one_if (has (numbers_of tin n) corner) n) k
    old c = Contains-append_left (star_to tin corner n) (one_if (has (numbers_of tin n) corner) n) k c

    new : n ≤ k → Contains (star_to tin corner n ++ one_if (has (numbers_of tin n) corner) n) k
    new l =
        let e : k ≡ n = omega arith in
        let here : has (numbers_of tin n) corner ≡ true =
        subst (λ (m : ℕ). has (numbers_of tin m) corner ≡ true) e has_it in
        subst (λ (b : Bool). Contains (star_to tin corner n ++ one_if b n) k) (sym here)
        (subst (λ (m : ℕ). Contains (star_to tin corner n ++ n ∷ []) m) (sym e)
        (Contains-push (star_to tin corner n) n))

star_ascends : (tin : Triangulation) (corner n : ℕ) → IsStrictlyIncreasing (star_to tin corner n)
unfolding star_to
star_ascends tin corner zero = λ k h. absurd (omega arith)
star_ascends tin corner (suc n) = go (star_ascends tin corner n) (has (numbers_of tin n) corner)
  where
    go : IsStrictlyIncreasing (star_to tin corner n) → (b : Bool)
        → IsStrictlyIncreasing (star_to tin corner n ++ one_if b n)
    go rest true = increasing_push (star_to tin corner n) n rest (λ k c. (star_has tin corner n k c).0)
    go rest false = subst (λ (xs : List ℕ). IsStrictlyIncreasing xs) (sym (append-nil (star_to tin corner n))) rest

pub star_is : (tin : Triangulation) (corner : ℕ) (numbers : List ℕ)
    → numbers ≡ star_to tin corner (length tin.triangles) → IsStar tin corner numbers
star_is tin corner numbers e =
    subst (λ (xs : List ℕ). IsStar tin corner xs) (sym e)
    (record {
      ascending = star_ascends tin corner (length tin.triangles);
      exact = λ t. (
        λ c. star_has tin corner (length tin.triangles) t c,
        λ h. star_all tin corner (length tin.triangles)
            t h.0 h.1,
      );
    })

-- of three different numbers one at most is the corner
one_of_three : (i j k t corner : ℕ) (xs : List ℕ) → i ≢ j → i ≢ k → j ≢ k
    → ((xs ++ one_if (i == corner) t) ++ one_if (j == corner) t) ++ one_if (k == corner) t ≡ xs
    ++ one_if (has (i ∷ j ∷ k ∷ []) corner) t
one_of_three i j k t corner xs ij ik jk = grind (arith, eqb_tells, append-nil)

-- ---- entries
abbrev entry : ℕ → ℕ → Entry
entry key number = record { key = key; number = number }

cond_push : (b c : Bool) (m n : ℕ) (xs : List ℕ)
    → cond b (m ∷ xs ++ one_if c n) (xs ++ one_if c n) ≡ cond b (m ∷ xs) xs ++ one_if c n
cond_push true c m n xs = refl
cond_push false c m n xs = refl

numbers_push : (key : ℕ) (xs : List Entry) (e : Entry)
    → numbers_under key (xs ++ e ∷ []) ≡ numbers_under key xs ++ one_if (e.key == key) e.number
numbers_push key [] e = grind arith
numbers_push key (x ∷ xs) e = grind (arith, cond_push, (numbers_push key xs e))

keys_push : (tin : Triangulation) (xs : List Entry) (e : Entry) → All (λ x. x.key < length tin.corners) xs
    → e.key < length tin.corners → All (λ x. x.key < length tin.corners) (xs ++ e ∷ [])
keys_push tin xs e all h = All-push (λ x. x.key < length tin.corners) xs e all h

pub no_entries : (tin : Triangulation) (entries : List Entry) → entries ≡ [] → AreEntriesTo tin 0 entries
unfolding star_to
no_entries tin entries e = subst (λ (es : List Entry). AreEntriesTo tin 0 es) (sym e)
    (record { count = refl; keys = λ k d h. absurd (omega arith); each = λ corner. refl })

entries_more : (tin : Triangulation) (t i j k : ℕ) (xs ys zs ws : List Entry) → numbers_of tin t ≡ i ∷ j ∷ k ∷ []
    → i ≢ j → i ≢ k → j ≢ k → i < length tin.corners → j < length tin.corners → k < length tin.corners
    → AreEntriesTo tin t xs → ys ≡ xs ++ record { key = i; number = t } ∷ []
    → zs ≡ ys ++ record { key = j; number = t } ∷ [] → ws ≡ zs ++ record { key = k; number = t } ∷ []
    → AreEntriesTo tin (t + 1) ws
unfolding star_to
entries_more tin t i j k xs ys zs ws ns ij ik jk hi hj hk old e f g =
    let ei : Entry = record { key = i; number = t } in
    let ej : Entry = record { key = j; number = t } in
    let ek : Entry = record { key = k; number = t } in
    let long = old.count in
    let ys_long : length ys ≡ length xs + 1 = ap length e ∙ length_push xs ei in
    let zs_long : length zs ≡ length ys + 1 = ap length f ∙ length_push ys ej in
    let ws_long : length ws ≡ length zs + 1 = ap length g ∙ length_push zs ek in
    let ys_keys = subst (λ (es : List Entry). All (λ x. x.key < length tin.corners) es) (sym e)
    (keys_push tin xs ei old.keys hi) in
    let zs_keys = subst (λ (es : List Entry). All (λ x. x.key < length tin.corners) es) (sym f)
    (keys_push tin ys ej ys_keys hj) in
    record {
      count = omega arith;
      keys = subst (λ (es : List Entry). All (λ x. x.key < length tin.corners) es) (sym g)
          (keys_push tin zs ek zs_keys hk);
      each = λ corner.
          let first : numbers_under corner ys ≡ star_to tin corner t ++ one_if (i == corner) t =
          ap (numbers_under corner) e ∙ numbers_push corner xs ei
          ∙ ap (λ (l : List ℕ). l ++ one_if (i == corner) t) (old.each corner) in
          let second : numbers_under corner zs ≡ numbers_under corner ys ++ one_if (j == corner) t =
          ap (numbers_under corner) f ∙ numbers_push corner ys ej in
          let third : numbers_under corner ws ≡ numbers_under corner zs ++ one_if (k == corner) t =
          ap (numbers_under corner) g ∙ numbers_push corner zs ek in
          third ∙ ap (λ (l : List ℕ). l ++ one_if (k == corner) t)
          (second ∙ ap (λ (l : List ℕ). l ++ one_if (j == corner) t) first)
          ∙ one_of_three i j k t corner (star_to tin corner t) ij ik jk
          ∙ ap (λ (ms : List ℕ). star_to tin corner t ++ one_if (has ms corner) t) (sym ns) ∙ one_more corner;
    }
  where
    one_more : (corner : ℕ) → star_to tin corner t ++ one_if (has (numbers_of tin t) corner) t
        ≡ star_to tin corner (t + 1)
    one_more corner = rw add-one refl

-- ---- as they are read
pub entries_more_read : (tin : Triangulation) (t : ℕ) (rows : List (List ℕ)) (xs ys zs ws : List Entry)
    → IsWithinLimits tin → IsSound tin → rows ≡ tin.triangles → t < length rows → AreEntriesTo tin t xs
    → ys ≡ xs ++ record { key = get_or (get_or rows t []) 0 0; number = t } ∷ []
    → zs ≡ ys ++ record { key = get_or (get_or rows t []) 1 0; number = t } ∷ []
    → ws ≡ zs ++ record { key = get_or (get_or rows t []) 2 0; number = t } ∷ []
    → AreEntriesTo tin (t + 1) ws
entries_more_read tin t rows xs ys zs ws limits sound same h old e f g =
    let ht : t < length tin.triangles = subst (λ (rs : List (List ℕ)). t < length rs) same h in
    let three : length (numbers_of tin t) ≡ 3 = limits.three t ht in
    entries_more tin t (get_or (numbers_of tin t) 0 0) (get_or (numbers_of tin t) 1 0) (get_or (numbers_of tin t) 2 0)
    xs ys zs ws (three_read tin t limits sound ht)
    (read_differ tin t 0 1 limits sound ht (lit< tt) (lit< tt) (omega arith))
    (read_differ tin t 0 2 limits sound ht (lit< tt) (lit< tt) (omega arith))
    (read_differ tin t 1 2 limits sound ht (lit< tt) (lit< tt) (omega arith))
    (limits.in_range t ht 0 0 (omega arith)) (limits.in_range t ht 1 0 (omega arith))
    (limits.in_range t ht 2 0 (omega arith)) old
    (subst (λ (rs : List (List ℕ)). ys ≡ xs ++ entry (get_or (get_or rs t []) 0 0) t ∷ []) same e)
    (subst (λ (rs : List (List ℕ)). zs ≡ ys ++ entry (get_or (get_or rs t []) 1 0) t ∷ []) same f)
    (subst (λ (rs : List (List ℕ)). ws ≡ zs ++ entry (get_or (get_or rs t []) 2 0) t ∷ []) same g)

-- ---- the groups of all entries
