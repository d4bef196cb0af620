-- The fault of a token that the pass refuses is the one of the table.
use Rattle.std.proofs.Common.{◌≡◌, ℕ, ◌<◌, ◌⊎◌, inl, inr, Bool, true, false, List, [], ◌∷◌, ◌++◌, refl, sym, ap, ◌∙◌}
use Rattle.std.proofs.Common.{subst, arith}
use Rattle.std.specs.Prelude.{Option, Some, None, if◌then◌else◌}
use Rattle.std.proofs.lemmas.Option.{same_Some}
use Rattle.mm_decimal.specs.AnswerValues.{millimetres_of}
use Rattle.wkt_layer.specs.Tokens.{Number, Token, opening, closing, comma, word, number, stray}
use Rattle.wkt_layer.specs.Numbers.{Point}
use Rattle.wkt_layer.specs.Paths.{Path}
use Rattle.wkt_layer.specs.InsideStates.{Spot, item, tagged, content, first, second, third, whole, bare_second}
use Rattle.wkt_layer.specs.InsideStates.{bare_third}
use Rattle.wkt_layer.specs.InsideStates.{bare_whole, behind, State}
use Rattle.wkt_layer.specs.InsideStates.{state, innermost, content_of, is_raised, point_with, second_leads, bare_leads}
use Rattle.wkt_layer.specs.InsideStates.{bare_second_leads, step, step_at, enter_step, number_step, item_step}
use Rattle.wkt_layer.specs.InsideStates.{behind_step}
use Rattle.wkt_layer.specs.declared.words.GeometryKind.{GeometryKind}
use Rattle.wkt_layer.specs.declared.words.GeometryKind.TheVariants as kinds
use Rattle.wkt_layer.specs.declared.words.LineWord.{LineWord}
use Rattle.wkt_layer.specs.declared.words.LineWord.TheVariants.{Tag, Empty, Z, Height, Other}
use Rattle.wkt_layer.specs.declared.places.Content.{Content}
use Rattle.wkt_layer.specs.declared.places.Content.TheVariants.{Points, Items}
use Rattle.wkt_layer.specs.declared.places.Listing.{Listing}
use Rattle.wkt_layer.specs.declared.places.Listing.TheVariants as listings
use Rattle.wkt_layer.specs.declared.places.ItemGroup.{ItemGroup}
use Rattle.wkt_layer.specs.declared.places.ItemGroup.TheVariants as groups
use Rattle.std.specs.Prelude.{option_and_then, Result, Ok, Err}
use Rattle.std.proofs.lemmas.Bool.{and_parts}
use Rattle.text_places.specs.Machine.{run}
use Rattle.text_places.proofs.Runs.{run-append, run_next}
use Rattle.mm_decimal.specs.declared.numerals.MmRead.{MmRead}
use Rattle.mm_decimal.specs.declared.numerals.NumFault.{NumFault}
use Rattle.sheet_base.specs.declared.faults.LayerFault.TheVariants as faults
use Rattle.wkt_layer.specs.Tokens.{Placed}
use Rattle.wkt_layer.specs.Lines.{tokens_in}
use Rattle.wkt_layer.specs.Faults.{IsGeometryPlace, EndsInTag, EndsInNumber, IsNumberPlace, EndsInPoint}
use Rattle.wkt_layer.specs.Faults.{Row, kind}
use Rattle.wkt_layer.specs.Faults.{height, deep, unread, inexact, ring, rank, SpeaksKind, SpeaksRing, Speaks, IsUnread}
use Rattle.wkt_layer.specs.Faults.{IsInexact, IsTokenFault}
use Rattle.wkt_layer.specs.InsideStates.{start, is_geometries, is_geometry_spot, word_fault, other_fault, answer_fault}
use Rattle.wkt_layer.specs.InsideStates.{number_fault, closing_fault, fault_of}
use Rattle.wkt_layer.proofs.Grammar.LinePasses.{viable, not_viable}
use Rattle.wkt_layer.proofs.Faults.StatesBefore.{ComesFrom, step_from, IsBehindTag, tag_leads_behind, IsBehindNumber, IsInList}
use Rattle.wkt_layer.proofs.Faults.StatesBefore.{number_leads_behind, step_in_list}
use Rattle.wkt_layer.proofs.Grammar.Completions.{zero_number, zero_fits}
use Rattle.wkt_layer.proofs.Faults.InBrackets.{in_points}
use Rattle.wkt_layer.specs.InsideReach.{IsIn}

snoc : (xs : List Token) → (xs ≡ []) ⊎ ((before : List Token) × (last : Token) × (xs ≡ before ++ last ∷ []))
snoc [] = inl refl
snoc (x ∷ xs) = elim (snoc xs) [
  | inl none ↦ inr ([], x, ap (λ ys. x ∷ ys) none)
  | inr (before, last, same) ↦ inr (x ∷ before, last, ap (λ ys. x ∷ ys) same)
]

-- the last step of a run
abbrev Came : Bool → State → List Token → Token → Type 0
Came exact s before t = (from : State) × (run (step exact) start before ≡ Some from) × (step exact from t ≡ Some s)

one_step : (exact : Bool) (from s : State) (t : Token)
    → option_and_then (λ next. run (step exact) next []) (step exact from t) ≡ Some s → step exact from t ≡ Some s
one_step exact from s t e = grind (arith)

run_last : (exact : Bool) (before : List Token) (t : Token) (s : State)
    → run (step exact) start (before ++ t ∷ []) ≡ Some s → Came exact s before t
run_last exact before t s runs = grind (arith, run-append, one_step)

came : (exact : Bool) (front : List Token) (s : State) → run (step exact) start front ≡ Some s
    → (s ≡ start) ⊎ ((before : List Token) × (t : Token) × (front ≡ before ++ t ∷ []) × Came exact s before t)
came exact front s runs = elim (snoc front) [
  | inl none ↦ inl (sym (same_Some start s (ap (run (step exact) start) (sym none) ∙ runs)))
  | inr (before, t, same) ↦ inr (
    before,
    t,
    same,
    run_last exact before t s
        (ap (run (step exact) start) (sym same) ∙ runs),
  )
]

-- after a tag
tagged_ends : (exact : Bool) (front : List Token) (s : State) (which : GeometryKind) → run (step exact) start front ≡ Some s
    → s.spot ≡ tagged which → EndsInTag front
tagged_ends exact front s which runs at_tag = grind (arith, came, ComesFrom, step_from)

ends_tagged : (exact : Bool) (front : List Token) (s : State) → run (step exact) start front ≡ Some s → EndsInTag front
    → IsBehindTag s.spot
ends_tagged exact front s runs (before, which, split) = grind (arith, run_last, tag_leads_behind)

-- after a number
ends_number : (exact : Bool) (front : List Token) (s : State) → run (step exact) start front ≡ Some s
    → EndsInNumber front → IsBehindNumber s.spot
ends_number exact front s runs (before, n, split) = grind (arith, run_last, number_leads_behind)

whole_ends : (exact : Bool) (front : List Token) (s : State) (listing : Listing) (read : List Point)
    → run (step exact) start front ≡ Some s → s.spot ≡ whole listing read → EndsInNumber front
whole_ends exact front s listing read runs at_whole = grind (arith, came, ComesFrom, step_from)

bare_whole_ends : (exact : Bool) (front : List Token) (s : State) → run (step exact) start front ≡ Some s
    → s.spot ≡ bare_whole → EndsInNumber front
bare_whole_ends exact front s runs at_whole = grind (arith, came, ComesFrom, step_from)

-- a point without brackets is in a list
runs_in_list : (exact : Bool) (s last : State) (tokens : List Token) → IsInList s.spot s.stack
    → run (step exact) s tokens ≡ Some last → IsInList last.spot last.stack
runs_in_list exact s last [] is runs = subst (λ (x : State). IsInList x.spot x.stack) (same_Some s last runs) is
runs_in_list exact s last (t ∷ ts) is runs =
    let step_runs : option_and_then (λ next. run (step exact) next ts) (step exact s t) ≡ Some last = runs in
    at_step (step exact s t) refl step_runs (λ next inside h. runs_in_list exact next last ts inside h)
  where
    at_step : (to : Option State) → step exact s t ≡ to
        → option_and_then (λ next. run (step exact) next ts) to ≡ Some last
        → ((next : State) → IsInList next.spot next.stack → run (step exact) next ts ≡ Some last
        → IsInList last.spot last.stack) → IsInList last.spot last.stack
    at_step None e h on = cc
    at_step (Some next) e h on = on next (step_in_list exact s.spot s.stack s.paths t next e is) h

bare_open : (exact : Bool) (front : List Token) (stack : List ItemGroup) (paths : List Path)
    → run (step exact) start front ≡ Some (state bare_whole stack paths) → stack ≡ [] → ⊥
bare_open exact front stack paths runs = runs_in_list exact start (state bare_whole stack paths) front tt runs

-- Where a number may be.
number_place : (exact : Bool) (front : List Token) (s next : State) → run (step exact) start front ≡ Some s
    → step exact s (number zero_number) ≡ Some next → IsNumberPlace exact front
number_place exact front s next runs steps = (
  zero_number,
  zero_fits exact,
  viable exact (front ++ number zero_number ∷ []) next
      (run_next (step exact) start s front (number zero_number) runs ∙ steps),
)

no_number_place : (exact : Bool) (front : List Token) (s : State) → run (step exact) start front ≡ Some s
    → ((n : Number) → step exact s (number n) ≡ None) → IsNumberPlace exact front → ⊥
no_number_place exact front s runs refused (n, fits, viable_front) =
    not_viable exact (front ++ number n ∷ []) (run_next (step exact) start s front (number n) runs ∙ refused n)
    viable_front

whole_refuses : (exact : Bool) (listing : Listing) (read : List Point) (stack : List ItemGroup) (paths : List Path)
    (n : Number) → step_at exact (whole listing read) stack paths (number n) ≡ None
whole_refuses exact (listings.Dot raised) read stack paths n = refl
whole_refuses exact listing read stack paths n = refl

bare_refuses : (exact : Bool) (stack : List ItemGroup) (paths : List Path) (n : Number)
    → step_at exact bare_whole stack paths (number n) ≡ None
bare_refuses exact [] paths n = refl
bare_refuses exact (group ∷ outer) paths n = refl

-- what is not after a whole point
abbrev IsNoWhole : Spot → Type 0
IsNoWhole (whole listing read) = ⊥
IsNoWhole bare_whole = ⊥
IsNoWhole spot = Unit {0}

fits_steps : (exact : Bool) (make : Number → State)
    → number_step exact make (number zero_number) ≡ Some (make zero_number)
fits_steps exact make = rw (zero_fits exact) refl

-- after a number that is not a point's last one another number may be
no_point : (exact : Bool) (front : List Token) (spot : Spot) (stack : List ItemGroup) (paths : List Path)
    → run (step exact) start front ≡ Some (state spot stack paths) → IsNoWhole spot → EndsInPoint exact front → ⊥
no_point exact front (first listing read) stack paths runs is (ends, none) =
    ends_number exact front (state (first listing read) stack paths) runs ends
no_point exact front (second listing read x) stack paths runs is (ends, none) =
    let make : Number → State = λ y. state (second_leads (is_raised listing) listing read x y) stack paths in
    none (number_place exact front (state (second listing read x) stack paths) (make zero_number) runs
    (fits_steps exact make))
no_point exact front (third listing read x y) stack paths runs is (ends, none) =
    let make : Number → State = λ z. state (whole listing (read ++ point_with x y (Some z) ∷ [])) stack paths in
    none (number_place exact front (state (third listing read x y) stack paths) (make zero_number) runs
    (fits_steps exact make))
no_point exact front (whole listing read) stack paths runs is ends = is
no_point exact front (bare_second raised x) stack paths runs is (ends, none) =
    let make : Number → State = λ y. bare_second_leads raised stack paths x y in
    none (number_place exact front (state (bare_second raised x) stack paths) (make zero_number) runs
    (fits_steps exact make))
no_point exact front (bare_third x y) stack paths runs is (ends, none) =
    let make : Number → State = λ z. bare_leads stack paths (point_with x y (Some z)) in
    none (number_place exact front (state (bare_third x y) stack paths) (make zero_number) runs
    (fits_steps exact make))
no_point exact front bare_whole stack paths runs is ends = is
no_point exact front spot stack paths runs is (ends, none) =
    ends_number exact front (state spot stack paths) runs ends

whole_point : (exact : Bool) (front : List Token) (listing : Listing) (read : List Point) (stack : List ItemGroup)
    (paths : List Path) → run (step exact) start front ≡ Some (state (whole listing read) stack paths)
    → EndsInPoint exact front
whole_point exact front listing read stack paths runs = (
  whole_ends exact front (state (whole listing read) stack paths) listing read runs refl,
  no_number_place exact front (state (whole listing read) stack paths) runs
      (λ n. whole_refuses exact listing read stack paths n),
)

bare_point : (exact : Bool) (front : List Token) (stack : List ItemGroup) (paths : List Path)
    → run (step exact) start front ≡ Some (state bare_whole stack paths) → EndsInPoint exact front
bare_point exact front stack paths runs = grind (arith, bare_whole_ends, no_number_place, bare_refuses)

-- Where a geometry may be.
abbrev point_tag : Token
point_tag = word (Tag kinds.Point)

tag_taken : (exact : Bool) (spot : Spot) (stack : List ItemGroup) (paths : List Path) → is_geometry_spot spot stack ≡ true
    → (next : State) × (step_at exact spot stack paths point_tag ≡ Some next)
tag_taken exact item stack paths is = at (innermost stack) is
  where
    at : (group : ItemGroup) → is_geometries group ≡ true
        → (next : State) × (item_step exact group stack paths point_tag ≡ Some next)
    at groups.Geometries e = (state (tagged kinds.Point) stack paths, refl)
    at group e = cc
tag_taken exact (tagged which) stack paths is = cc
tag_taken exact spot stack paths is = cc

content_refuses : (inner : Content) (stack : List ItemGroup) (paths : List Path)
    → enter_step inner stack paths point_tag ≡ None
content_refuses (Points listing) stack paths = refl
content_refuses (Items group) stack paths = refl

tag_refused : (exact : Bool) (spot : Spot) (stack : List ItemGroup) (paths : List Path)
    → is_geometry_spot spot stack ≡ false → step_at exact spot stack paths point_tag ≡ None
tag_refused exact item stack paths is = grind (arith)
tag_refused exact (tagged which) stack paths is = content_refuses (content_of which false) stack paths
tag_refused exact (content inner) stack paths is = content_refuses inner stack paths
tag_refused exact (whole (listings.Dot raised) points) stack paths is = refl
tag_refused exact bare_whole [] paths is = refl
tag_refused exact behind [] paths is = refl
tag_refused exact spot stack paths is = refl

geometry_place : (exact : Bool) (front : List Token) (s : State) → run (step exact) start front ≡ Some s
    → is_geometry_spot s.spot s.stack ≡ true → IsGeometryPlace exact front
geometry_place exact front s runs is =
    let (next, steps) = tag_taken exact s.spot s.stack s.paths is in
    viable exact (front ++ point_tag ∷ []) next (run_next (step exact) start s front point_tag runs ∙ steps)

no_geometry_place : (exact : Bool) (front : List Token) (s : State) → run (step exact) start front ≡ Some s
    → is_geometry_spot s.spot s.stack ≡ false → IsGeometryPlace exact front → ⊥
no_geometry_place exact front s runs is place =
    not_viable exact (front ++ point_tag ∷ [])
    (run_next (step exact) start s front point_tag runs ∙ tag_refused exact s.spot s.stack s.paths is) place

-- where a geometry may be, only a collection's tag can be refused
deep_tag : (exact : Bool) (spot : Spot) (stack : List ItemGroup) (paths : List Path) (which : GeometryKind)
    → is_geometry_spot spot stack ≡ true → step_at exact spot stack paths (word (Tag which)) ≡ None
    → which ≡ kinds.Collection
deep_tag exact item stack paths which is refused = grind (arith)
deep_tag exact spot stack paths which is refused = cc

abbrev placed : ℕ → Token → Placed
placed at token = record { start = at; token = token }

none_opening : (exact : Bool) (front : List Placed) (row : Row) → Speaks exact front opening row → ⊥
none_opening exact front kind h = h
none_opening exact front row h = h

none_comma : (exact : Bool) (front : List Placed) (row : Row) → Speaks exact front comma row → ⊥
none_comma exact front kind h = h
none_comma exact front row h = h

none_stray : (exact : Bool) (front : List Placed) (row : Row) → Speaks exact front stray row → ⊥
none_stray exact front kind h = h
none_stray exact front row h = h

-- A closing bracket.
none_closing : (exact : Bool) (front : List Placed) → (SpeaksRing exact front closing → ⊥) → (row : Row)
    → Speaks exact front closing row → ⊥
none_closing exact front no_ring ring h = no_ring h
none_closing exact front no_ring row h = h

first_ring : (exact : Bool) (front : List Placed) (other : Row) → rank other < rank ring
    → Speaks exact front closing other → ⊥
first_ring exact front ring below h = absurd (omega (arith, below))
first_ring exact front other below h = h

bare_closes : (stack : List ItemGroup) (paths : List Path) → behind_step stack paths closing ≡ None → stack ≡ []
bare_closes [] paths e = refl
bare_closes (group ∷ outer) paths e = cc

-- it is no ring's where no whole point comes before it
bad_closing : (exact : Bool) (front : List Placed) (at : ℕ) (spot : Spot) (stack : List ItemGroup) (paths : List Path)
    → run (step exact) start (tokens_in front) ≡ Some (state spot stack paths) → IsNoWhole spot
    → IsTokenFault exact front (placed at closing) (faults.Bad at)
bad_closing exact front at spot stack paths runs is =
    (refl, none_closing exact front (λ h. no_point exact (tokens_in front) spot stack paths runs is h.2))

named_closing : (exact : Bool) (front : List Placed) (at opened : ℕ) (spot : Spot) (stack : List ItemGroup)
    (paths : List Path) → run (step exact) start (tokens_in front) ≡ Some (state spot stack paths)
    → step_at exact spot stack paths closing ≡ None → IsIn front opened spot
    → IsTokenFault exact front (placed at closing) (closing_fault spot at opened)
named_closing exact front at opened (whole listing read) stack paths runs refused inside =
    grind (arith, in_points, whole_point, first_ring)
named_closing exact front at opened bare_whole stack paths runs refused inside =
    absurd (bare_open exact (tokens_in front) stack paths runs (bare_closes stack paths refused))
named_closing exact front at opened item stack paths runs refused inside =
    bad_closing exact front at item stack paths runs tt
named_closing exact front at opened (tagged which) stack paths runs refused inside =
    bad_closing exact front at (tagged which) stack paths runs tt
named_closing exact front at opened (content inner) stack paths runs refused inside =
    bad_closing exact front at (content inner) stack paths runs tt
named_closing exact front at opened (first listing points) stack paths runs refused inside =
    bad_closing exact front at (first listing points) stack paths runs tt
named_closing exact front at opened (second listing points x) stack paths runs refused inside =
    bad_closing exact front at (second listing points x) stack paths runs tt
named_closing exact front at opened (third listing points x y) stack paths runs refused inside =
    bad_closing exact front at (third listing points x y) stack paths runs tt
named_closing exact front at opened (bare_second raised x) stack paths runs refused inside =
    bad_closing exact front at (bare_second raised x) stack paths runs tt
named_closing exact front at opened (bare_third x y) stack paths runs refused inside =
    bad_closing exact front at (bare_third x y) stack paths runs tt
named_closing exact front at opened behind stack paths runs refused inside =
    bad_closing exact front at behind stack paths runs tt

-- Tags.
none_tag : (exact : Bool) (front : List Placed) (which : GeometryKind) → (IsGeometryPlace exact (tokens_in front) → ⊥)
    → (row : Row) → Speaks exact front (word (Tag which)) row → ⊥
none_tag exact front kinds.Point no_place deep h = h
none_tag exact front kinds.LineString no_place deep h = h
none_tag exact front kinds.Polygon no_place deep h = h
none_tag exact front kinds.MultiPoint no_place deep h = h
none_tag exact front kinds.MultiLineString no_place deep h = h
none_tag exact front kinds.MultiPolygon no_place deep h = h
none_tag exact front kinds.Collection no_place deep h = no_place h
none_tag exact front which no_place row h = h

first_deep : (exact : Bool) (front : List Placed) (other : Row) → rank other < rank deep
    → Speaks exact front (word (Tag kinds.Collection)) other → ⊥
first_deep exact front kind below h = h
first_deep exact front height below h = h
first_deep exact front other below h = absurd (omega (arith, below))

-- a test, and what it says
data Tested (b : Bool) : Type 0 where
  yes : b ≡ true → Tested b
  no : b ≡ false → Tested b

tested : (b : Bool) → Tested b
tested true = yes refl
tested false = no refl

named_tag : (exact : Bool) (front : List Placed) (at : ℕ) (s : State) (which : GeometryKind)
    → run (step exact) start (tokens_in front) ≡ Some s → step exact s (word (Tag which)) ≡ None
    → IsTokenFault exact front (placed at (word (Tag which)))
    (if is_geometry_spot s.spot s.stack then faults.Deep at else faults.Bad at)
named_tag exact front at s which runs refused =
    grind (arith, tested, deep_tag, geometry_place, first_deep, none_tag, no_geometry_place)

-- Other words.
abbrev IsNoTag : LineWord → Type 0
IsNoTag (Tag which) = ⊥
IsNoTag w = Unit {0}

abbrev TagBefore : List Token → LineWord → Type 0
TagBefore front Height = EndsInTag front
TagBefore front w = ⊥

none_word : (exact : Bool) (front : List Placed) (w : LineWord) → IsNoTag w → (IsGeometryPlace exact (tokens_in front) → ⊥)
    → (TagBefore (tokens_in front) w → ⊥)
    → (row : Row) → Speaks exact front (word w) row → ⊥
none_word exact front (Tag which) is no_place no_tag row h = is
none_word exact front Empty is no_place no_tag kind h = no_place h
none_word exact front Z is no_place no_tag kind h = no_place h
none_word exact front Height is no_place no_tag kind h = no_place h
none_word exact front Height is no_place no_tag height h = no_tag h
none_word exact front Other is no_place no_tag kind h = no_place h
none_word exact front w is no_place no_tag row h = h

first_kind : (exact : Bool) (front : List Placed) (token : Token) (other : Row) → rank other < rank kind
    → Speaks exact front token other → ⊥
first_kind exact front token other below h = absurd (omega (arith, below))

speaks_kind : (exact : Bool) (front : List Placed) (w : LineWord) → IsNoTag w → IsGeometryPlace exact (tokens_in front)
    → SpeaksKind exact (tokens_in front) (word w)
speaks_kind exact front (Tag which) is place = absurd is
speaks_kind exact front w is place = place

first_height_word : (exact : Bool) (front : List Placed) → (IsGeometryPlace exact (tokens_in front) → ⊥) → (other : Row)
    → rank other < rank height → Speaks exact front (word Height) other → ⊥
first_height_word exact front no_place kind below h = no_place h
first_height_word exact front no_place other below h = absurd (omega (arith, below))

-- M or ZM that is not directly after a tag
bad_height : (exact : Bool) (front : List Placed) (at : ℕ) (spot : Spot) (stack : List ItemGroup) (paths : List Path)
    → run (step exact) start (tokens_in front) ≡ Some (state spot stack paths) → is_geometry_spot spot stack ≡ false
    → (IsBehindTag spot → ⊥) → IsTokenFault exact front (placed at (word Height)) (faults.Bad at)
bad_height exact front at spot stack paths runs here unlike = (
  refl,
  none_word exact front Height tt (no_geometry_place exact (tokens_in front) (state spot stack paths) runs here)
      (λ h. unlike (ends_tagged exact (tokens_in front) (state spot stack paths) runs h)),
)

named_other : (exact : Bool) (front : List Placed) (at : ℕ) (w : LineWord) (spot : Spot) (stack : List ItemGroup)
    (paths : List Path) → IsNoTag w
    → run (step exact) start (tokens_in front) ≡ Some (state spot stack paths) → is_geometry_spot spot stack ≡ false
    → IsTokenFault exact front (placed at (word w)) (other_fault w spot at)
named_other exact front at (Tag which) spot stack paths is runs here = absurd is
named_other exact front at Empty spot stack paths is runs here = (
  refl,
  none_word exact front Empty tt (no_geometry_place exact (tokens_in front) (state spot stack paths) runs here)
      (λ h. h),
)
named_other exact front at Z spot stack paths is runs here = (
  refl,
  none_word exact front Z tt (no_geometry_place exact (tokens_in front) (state spot stack paths) runs here) (λ h. h),
)
named_other exact front at Other spot stack paths is runs here = (
  refl,
  none_word exact front Other tt (no_geometry_place exact (tokens_in front) (state spot stack paths) runs here)
      (λ h. h),
)
named_other exact front at Height (tagged which) stack paths is runs here = (
  refl,
  record {
    speaks = tagged_ends exact (tokens_in front) (state (tagged which) stack paths) which runs refl;
    first = first_height_word exact front (no_geometry_place exact (tokens_in front) (state (tagged which) stack paths)
        runs here);
  },
)
named_other exact front at w spot stack paths is runs here =
    bad_height exact front at spot stack paths runs here (λ h. h)

named_no_tag : (exact : Bool) (front : List Placed) (at : ℕ) (w : LineWord) (spot : Spot) (stack : List ItemGroup)
    (paths : List Path) → IsNoTag w
    → run (step exact) start (tokens_in front) ≡ Some (state spot stack paths)
    → IsTokenFault exact front (placed at (word w))
    (if is_geometry_spot spot stack then faults.Kind at else other_fault w spot at)
named_no_tag exact front at w spot stack paths is runs = elim (tested (is_geometry_spot spot stack)) [
  | yes here ↦
      rw here (
        refl,
        record {
          speaks = speaks_kind exact front w is
              (geometry_place exact (tokens_in front) (state spot stack paths) runs here);
          first =
              first_kind exact front (word w);
        },
      )
  | no here ↦ rw here (named_other exact front at w spot stack paths is runs here)
]

named_word : (exact : Bool) (front : List Placed) (at : ℕ) (w : LineWord) (s : State)
    → run (step exact) start (tokens_in front) ≡ Some s → step exact s (word w) ≡ None
    → IsTokenFault exact front (placed at (word w)) (word_fault s.spot s.stack w at)
named_word exact front at (Tag which) s runs refused = named_tag exact front at s which runs refused
named_word exact front at w s runs refused = named_no_tag exact front at w s.spot s.stack s.paths tt runs

-- Numbers.
none_number : (exact : Bool) (front : List Placed) (n : Number) → (EndsInPoint exact (tokens_in front) → ⊥)
    → (IsUnread (millimetres_of n.text) → ⊥)
    → ((exact ≡ true) × IsInexact (millimetres_of n.text) → ⊥) → (row : Row) → Speaks exact front (number n) row → ⊥
none_number exact front n no_point read fits height h = no_point h
none_number exact front n no_point read fits unread h = read h
none_number exact front n no_point read fits inexact h = fits h
none_number exact front n no_point _ fits row h = h

first_height : (exact : Bool) (front : List Placed) (n : Number) (other : Row) → rank other < rank height
    → Speaks exact front (number n) other → ⊥
first_height exact front n kind below h = h
first_height exact front n other below h = absurd (omega (arith, below))

first_unread : (exact : Bool) (front : List Placed) (n : Number) → (EndsInPoint exact (tokens_in front) → ⊥)
    → (other : Row)
    → rank other < rank unread → Speaks exact front (number n) other → ⊥
first_unread exact front n no_point kind below h = h
first_unread exact front n no_point height below h = no_point h
first_unread exact front n no_point deep below h = h
first_unread exact front n no_point other below h = absurd (omega (arith, below))

first_inexact : (exact : Bool) (front : List Placed) (n : Number) → (EndsInPoint exact (tokens_in front) → ⊥)
    → (IsUnread (millimetres_of n.text) → ⊥)
    → (other : Row) → rank other < rank inexact → Speaks exact front (number n) other → ⊥
first_inexact exact front n no_point read height below h = no_point h
first_inexact exact front n no_point read unread below h = read h
first_inexact exact front n no_point read inexact below h = absurd (omega (arith, below))
first_inexact exact front n no_point read ring below h = absurd (omega (arith, below))
first_inexact exact front n no_point _ other below h = h

named_answer : (exact : Bool) (front : List Placed) (at : ℕ) (n : Number) (answer : Result MmRead NumFault)
    → millimetres_of n.text ≡ answer → (EndsInPoint exact (tokens_in front) → ⊥)
    → IsTokenFault exact front (placed at (number n)) (answer_fault exact answer at)
named_answer exact front at n (Err fault) is no_point =
    (refl, record { speaks = (fault, is); first = first_unread exact front n no_point }, is)
named_answer exact front at n (Ok read) is no_point =
    grind (arith, tested, and_parts, first_inexact, no_point, none_number)

-- a number after one that is not a point's last
named_wanted : (exact : Bool) (front : List Placed) (at : ℕ) (n : Number) (spot : Spot) (stack : List ItemGroup)
    (paths : List Path) → run (step exact) start (tokens_in front) ≡ Some (state spot stack paths) → IsNoWhole spot
    → IsTokenFault exact front (placed at (number n)) (answer_fault exact (millimetres_of n.text) at)
named_wanted exact front at n spot stack paths runs is = grind (arith, named_answer, no_point)

named_number : (exact : Bool) (front : List Placed) (at : ℕ) (n : Number) (spot : Spot) (stack : List ItemGroup)
    (paths : List Path) → run (step exact) start (tokens_in front) ≡ Some (state spot stack paths)
    → IsTokenFault exact front (placed at (number n)) (number_fault exact spot (millimetres_of n.text) at)
named_number exact front at n (whole listing read) stack paths runs = grind (arith, whole_point, first_height)
named_number exact front at n bare_whole stack paths runs =
    (refl, record { speaks = bare_point exact (tokens_in front) stack paths runs; first = first_height exact front n })
named_number exact front at n spot stack paths runs = named_wanted exact front at n spot stack paths runs tt

-- a token that is refused has this fault
pub named : (exact : Bool) (front : List Placed) (at opened : ℕ) (t : Token) (s : State)
    → run (step exact) start (tokens_in front) ≡ Some s → step exact s t ≡ None → IsIn front opened s.spot
    → IsTokenFault exact front (record { start = at; token = t }) (fault_of exact s.spot s.stack t at opened)
named exact front at opened opening s runs refused inside = (refl, none_opening exact front)
named exact front at opened closing s runs refused inside =
    named_closing exact front at opened s.spot s.stack s.paths runs refused inside
named exact front at opened comma s runs refused inside = (refl, none_comma exact front)
named exact front at opened (word w) s runs refused inside = named_word exact front at w s runs refused
named exact front at opened (number n) s runs refused inside = named_number exact front at n s.spot s.stack s.paths runs
named exact front at opened stray s runs refused inside = (refl, none_stray exact front)
