-- Boxes that are entered one after another.
use Rattle.std.proofs.Common.{◌≡◌, ◌⊎◌, ℕ, ◌+◌, ◌<◌, Bool, true, false, cond, ◌||◌, List, [], ◌∷◌, ◌++◌, length, map}
use Rattle.std.proofs.Common.{get_or, Contains, nat_eq, inl, inr, ⊎_elim, refl, sym, ap, ◌∙◌, subst, arith}
use Rattle.std.specs.List.{IsDistinct, list_any}
use Rattle.std.specs.List.Sorted.{IsStrictlyIncreasing}
use Rattle.std.proofs.lemmas.Bool.{cases_lt, cases_eq, cases_Bool, false_from_ne_true, false≢true}
use borrow.Author.Tests.{eqb-true}
use Rattle.std.proofs.Common.{eq-eqb}
use Rattle.std.proofs.lemmas.List.{length-append, length-map}
use Rattle.std.proofs.lemmas.List.{get_or_default, append-nil}
use Rattle.std.proofs.lemmas.List.Elements.{All-append, All-map, Contains-push, Contains-push_cases}
use Rattle.std.proofs.lemmas.List.Elements.{Contains-append_left, Contains-get_or, All-from_recursion}
use Rattle.std.proofs.lemmas.List.Folds.{list_any_none, list_any_at, Any-from_list_any}
use Rattle.plane_base.specs.declared.shapes.Rect.{Rect}
use Rattle.number_groups.specs.declared.groups.Entry.{Entry}
use Rattle.number_groups.specs.Groups.{numbers_under}
use Rattle.plane_base.specs.Boxes.{HasPoint}
use Rattle.cell_grid.specs.Boxes.{box_at}
use Rattle.cell_grid.specs.InsideSizes.{level_of}
use Rattle.cell_grid.specs.Cells.{cell_of, IsPlaceOf, IsOnLevel}
use Rattle.cell_grid.specs.LevelLists.{AreLaid}
use Rattle.cell_grid.specs.InsideEntries.{entry_of, ArePlacesOf, AreEntered}
use Rattle.cell_grid.specs.declared.levels.Level.{Level}
use Rattle.plain_laws.proofs.Lists.{increasing_push}

-- ---- numbers of entries after others
cond_append : (b : Bool) (n : ℕ) (xs ys : List ℕ) → cond b (n ∷ (xs ++ ys)) (xs ++ ys) ≡ cond b (n ∷ xs) xs ++ ys
cond_append true n xs ys = refl
cond_append false n xs ys = refl

numbers_append : (key : ℕ) (xs ys : List Entry)
    → numbers_under key (xs ++ ys) ≡ numbers_under key xs ++ numbers_under key ys
numbers_append key [] ys = refl
numbers_append key (e ∷ xs) ys =
    ap (λ (l : List ℕ). cond (nat_eq e.key key) (e.number ∷ l) l) (numbers_append key xs ys)
    ∙ cond_append (nat_eq e.key key) e.number (numbers_under key xs) (numbers_under key ys)

-- a number under places, each once
one_step : (b t : Bool) (n : ℕ) (rest : List ℕ) → rest ≡ cond t (n ∷ []) [] → (b ≡ true → t ≡ false)
    → cond b (n ∷ rest) rest ≡ cond (b || t) (n ∷ []) []
one_step true t n rest e none = ap (λ (l : List ℕ). n ∷ l) (e ∙ ap (λ (x : Bool). cond x (n ∷ []) []) (none refl))
one_step false t n rest e none = e

abbrev hits : ℕ → List ℕ → Bool
hits key places = list_any (λ place. nat_eq place key) places

entered_is : (key number : ℕ) (places : List ℕ) → IsDistinct nat_eq places
    → numbers_under key (map (entry_of number) places) ≡ cond (hits key places) (number ∷ []) []
unfolding IsDistinct
entered_is key number [] once = refl
entered_is key number (place ∷ places) once =
    one_step (nat_eq place key) (hits key places) number (numbers_under key (map (entry_of number) places))
    (entered_is key number places once.1)
    (λ same.
    let e = eqb-true place key same in
    list_any_none (λ other. nat_eq other key) places
    (λ k d h. false_from_ne_true (nat_eq (get_or places k d) key)
    (λ again. let other = eqb-true (get_or places k d) key again in
    let apart = All-from_recursion (λ y. nat_eq place y ≡ false) places once.0 k d h in
    false≢true (sym apart ∙ eq-eqb place (get_or places k d) (e ∙ sym other)))))

hit : (key : ℕ) (places : List ℕ) → hits key places ≡ true → Contains places key
hit key places told =
    let any = Any-from_list_any (λ place. nat_eq place key) places told in
    (any.0, any.2, get_or_default places any.0 key any.1 any.2 ∙ any.3 ∙ eqb-true any.1 key any.4)

pub miss : (key : ℕ) (places : List ℕ) → hits key places ≡ false → Contains places key → ⊥
miss key places untold c =
    let told = list_any_at (λ place. nat_eq place key) places c.0 key c.1 (eq-eqb (get_or places c.0 key) key c.2) in
    false≢true (sym untold ∙ told)

-- what a number under places makes of the numbers of a key
abbrev pub Enters : ℕ → List ℕ → ℕ → List ℕ → List ℕ → Type 0
Enters key places number before now = (Contains places key × (now ≡ before ++ number ∷ []))
    ⊎ ((Contains places key → ⊥) × (now ≡ before))

enters : (key number : ℕ) (places : List ℕ) (before : List Entry) → IsDistinct nat_eq places
    → Enters key places number (numbers_under key before) (numbers_under key (before ++ map (entry_of number) places))
enters key number places before once =
    let e = numbers_append key before (map (entry_of number) places)
    ∙ ap (λ (l : List ℕ). numbers_under key before ++ l) (entered_is key number places once) in
    ⊎_elim
    (λ told. inl (hit key places told, e ∙ ap (λ (x : Bool). numbers_under key before ++ cond x (number ∷ []) []) told))
    (λ untold. inr (
      miss key places untold,
      e
          ∙ ap (λ (x : Bool). numbers_under key before ++ cond x (number ∷ []) []) untold
          ∙ append-nil (numbers_under key before),
    ))
    (cases_Bool (hits key places))

keep : (key : ℕ) (places : List ℕ) (number : ℕ) (xs ys : List ℕ) (k : ℕ) → Enters key places number xs ys
    → Contains xs k → Contains ys k
keep key places number xs ys k (inl e) c =
    subst (λ (l : List ℕ). Contains l k) (sym e.1) (Contains-append_left xs (number ∷ []) k c)
keep key places number xs ys k (inr e) c = subst (λ (l : List ℕ). Contains l k) (sym e.1) c

which : (key : ℕ) (places : List ℕ) (number : ℕ) (xs ys : List ℕ) (k : ℕ) → Enters key places number xs ys
    → Contains ys k → Contains xs k ⊎ ((number ≡ k) × Contains places key)
which key places number xs ys k (inl e) c =
    ⊎_elim (λ before. inl before) (λ same. inr (same, e.0))
    (Contains-push_cases xs number k (subst (λ (l : List ℕ). Contains l k) e.1 c))
which key places number xs ys k (inr e) c = inl (subst (λ (l : List ℕ). Contains l k) e.1 c)

here : (key : ℕ) (places : List ℕ) (number : ℕ) (xs ys : List ℕ) → Enters key places number xs ys → Contains places key
    → Contains ys number
here key places number xs ys (inl e) c = subst (λ (l : List ℕ). Contains l number) (sym e.1) (Contains-push xs number)
here key places number xs ys (inr e) c = absurd (e.0 c)

ascending_more : (key : ℕ) (places : List ℕ) (number : ℕ) (xs ys : List ℕ) → Enters key places number xs ys
    → IsStrictlyIncreasing xs → ((k : ℕ) → Contains xs k → k < number) → IsStrictlyIncreasing ys
ascending_more key places number xs ys (inl e) up below =
    subst (λ (l : List ℕ). IsStrictlyIncreasing l) (sym e.1) (increasing_push xs number up below)
ascending_more key places number xs ys (inr e) up below = subst (λ (l : List ℕ). IsStrictlyIncreasing l) (sym e.1) up

-- ---- a place is of one level
same_level : (levels : List Level) (i j place : ℕ) (d : Level) → AreLaid levels → i < length levels
    → j < length levels → IsPlaceOf (get_or levels i d) place → IsPlaceOf (get_or levels j d) place → i ≡ j
same_level levels i j place d laid a b p q =
    ⊎_elim
    (λ less. absurd (omega (arith, laid.apart i j d less b, p.1, q.0)))
    (λ more. ⊎_elim
    (λ less. absurd (omega (arith, laid.apart j i d less a, q.1, p.0)))
    (λ most. omega arith)
    (cases_lt j i))
    (cases_lt i j)

-- ---- a box more
pub entered_more : (boxes : List Rect) (done l : ℕ) (levels : List Level) (level : Level) (places : List ℕ)
    (old : List Entry) → AreEntered boxes done levels old → AreLaid levels
    → done < length boxes → l ≡ level_of (box_at boxes done) → l < length levels → level ≡ get_or levels l level
    → ArePlacesOf level (box_at boxes done) places
    → AreEntered boxes (done + 1) levels (old ++ map (entry_of done) places)
entered_more boxes done l levels level places old is laid inside of_it within at its =
    let each = λ (place : ℕ). enters place done places old its.once in
    record {
      few = omega (
        arith,
        length-append old (map (entry_of done) places),
        length-map places (entry_of done),
        is.few,
        its.few,
      );
      ascending = λ place. ascending_more place places done (numbers_under place old)
          (numbers_under place (old ++ map (entry_of done) places)) (each place) (is.ascending place) (is.earlier place);
      earlier = λ place k c. ⊎_elim (λ before. let b = is.earlier place k before in omega arith)
          (λ same. omega (arith, same.0))
          (which place places done (numbers_under place old) (numbers_under place (old ++ map (entry_of done) places)) k
          (each place) c);
      of_level = λ place k m d low on c. ⊎_elim
          (λ before. is.of_level place k m d low on before)
          (λ same.
          let its_place : IsPlaceOf (get_or levels l d) place =
          subst (λ (v : Level). IsPlaceOf v place) (at ∙ get_or_default levels l level d within)
          (its.of_level place same.1) in
          let e : l ≡ m = same_level levels l m place d laid within low its_place on in
          subst (λ (n : ℕ). IsOnLevel boxes m n) same.0 (inside, sym of_it ∙ e))
          (which place places done (numbers_under place old) (numbers_under place (old ++ map (entry_of done) places)) k
          (each place) c);
      held = λ k m d p low lt on has. ⊎_elim
          (λ same.
          let place = cell_of (get_or levels m d) p in
          let e : l ≡ m = of_it ∙ ap (λ (n : ℕ). level_of (box_at boxes n)) (sym same) ∙ on.1 in
          let read : level ≡ get_or levels m d = at ∙ get_or_default levels l level d within
          ∙ ap (λ (n : ℕ). get_or levels n d) e in
          let among : Contains places place = subst (λ (v : Level). Contains places (cell_of v p)) read
          (its.all p (subst (λ (n : ℕ). HasPoint (box_at boxes n) p) same has)) in
          subst (λ (n : ℕ). Contains (numbers_under place (old ++ map (entry_of done) places)) n) (sym same)
          (here place places done (numbers_under place old) (numbers_under place (old ++ map (entry_of done) places))
          (each place) among))
          (λ other.
          let place = cell_of (get_or levels m d) p in
          keep place places done (numbers_under place old) (numbers_under place (old ++ map (entry_of done) places)) k
          (each place) (is.held k m d p low (omega arith) on has))
          (cases_eq k done);
      within = λ end all. All-append (λ (entry : Entry). entry.key < end) old (map (entry_of done) places)
          (is.within end all)
          (All-map (λ (entry : Entry). entry.key < end) (entry_of done) places
          (λ k d h.
          let top = its.of_level (get_or places k d) (Contains-get_or places k d h) in
          let low = subst (λ (v : Level). v.base + v.mask < end) (sym at) (all l level within) in
          omega arith));
    }
