-- The pass over the tokens of a line reads the line's geometry, and refuses each other line at its first fault.
use Rattle.std.proofs.Common.{◌≡◌, ℕ, ◌+◌, ◌<◌, Bool, true, false, List, [], ◌∷◌, ◌++◌, length, refl, sym, ap, ◌∙◌}
use Rattle.std.proofs.Common.{subst, append-nil, take, arith}
use Rattle.std.specs.Prelude.{Option, Some, None, if◌then◌else◌}
use Rattle.std.proofs.lemmas.Option.{same_Some}
use Rattle.wkt_layer.specs.Tokens.{Number, Token, opening, closing, comma, word, number}
use Rattle.wkt_layer.specs.Numbers.{Point, IsNumber}
use Rattle.wkt_layer.specs.Geometries.{Member, dot, bare, Geometry, point}
use Rattle.wkt_layer.specs.Geometries.{Geometries, no_geometry, geometry}
use Rattle.wkt_layer.specs.Geometries.{content_tokens, points_tokens, member_tokens, lists_tokens, geometry_tokens}
use Rattle.wkt_layer.specs.Geometries.{geometries_tokens, ArePoints, IsGeometry}
use Rattle.wkt_layer.specs.Paths.{Path, geometry_paths}
use Rattle.wkt_layer.specs.InsideStates.{Spot, item, tagged, content, first, second, third, whole, bare_second}
use Rattle.wkt_layer.specs.InsideStates.{bare_third}
use Rattle.wkt_layer.specs.InsideStates.{bare_whole, behind, State}
use Rattle.wkt_layer.specs.InsideStates.{state, innermost, point_with, content_of, is_raised, may_nest}
use Rattle.wkt_layer.specs.InsideStates.{second_leads}
use Rattle.wkt_layer.specs.InsideStates.{bare_leads, bare_second_leads, step, step_at, enter_step, tag_step}
use Rattle.wkt_layer.specs.InsideStates.{tagged_step}
use Rattle.wkt_layer.specs.InsideStates.{number_step, item_step}
use Rattle.wkt_layer.specs.InsideStates.{whole_step, behind_step}
use Rattle.wkt_layer.proofs.Grammar.Rests.{ItemOf, ItemsOf, item_tokens, more_tokens, items_tokens, Closes, ClosesPoints, Rests}
use Rattle.wkt_layer.proofs.Grammar.Rests.{Enters, Follows}
use Rattle.wkt_layer.specs.declared.limits.TheConstants.{DEEPEST}
use Rattle.wkt_layer.specs.declared.words.GeometryKind.{GeometryKind}
use Rattle.wkt_layer.specs.declared.words.LineWord.TheVariants.{Tag, Empty, Z}
use Rattle.wkt_layer.specs.declared.places.Content.{Content}
use Rattle.wkt_layer.specs.declared.places.Content.TheVariants.{Points, Items}
use Rattle.wkt_layer.specs.declared.places.Listing.{Listing}
use Rattle.wkt_layer.specs.declared.places.Listing.TheVariants as listings
use Rattle.wkt_layer.specs.declared.places.ItemGroup.{ItemGroup}
use Rattle.wkt_layer.specs.declared.places.ItemGroup.TheVariants as groups
use Rattle.std.specs.Prelude.{option_and_then}
use Rattle.text_places.specs.Places.{IsFirstFault}
use Rattle.text_places.specs.Machine.{run}
use Rattle.text_places.proofs.Machines.{refused_at, unfinished, begins_none}
use Rattle.wkt_layer.specs.Lines.{IsLine, IsViable}
use Rattle.wkt_layer.specs.InsideStates.{start, IsLast, IsEnd}
use Rattle.wkt_layer.proofs.Grammar.GrammarTokens.{token_leads}
use Rattle.wkt_layer.proofs.Grammar.AllowedTokens.{number_taken, token_before}
use Rattle.wkt_layer.proofs.Grammar.Completions.{AreRead, are_push, third_is, third_none, can_follow}

-- a contents has a token at least
points_begin : (points : List Point) (rest : List Token) → [] ≡ points_tokens points ++ rest → ⊥
points_begin [] rest e = cc
points_begin (p ∷ more) rest e = cc

lists_begin : (lists : List (List Point)) (rest : List Token) → [] ≡ lists_tokens lists ++ rest → ⊥
lists_begin [] rest e = cc
lists_begin (p ∷ more) rest e = cc

members_begin : (members : List Member) (rest : List Token) → [] ≡ content_tokens member_tokens members ++ rest → ⊥
members_begin [] rest e = cc
members_begin (p ∷ more) rest e = cc

polygons_begin : (polygons : List (List (List Point))) (rest : List Token)
    → [] ≡ content_tokens lists_tokens polygons ++ rest → ⊥
polygons_begin [] rest e = cc
polygons_begin (p ∷ more) rest e = cc

geometries_begin : (geometries : Geometries) (rest : List Token) → [] ≡ geometries_tokens geometries ++ rest → ⊥
geometries_begin no_geometry rest e = cc
geometries_begin (geometry one more) rest e = cc

geometry_begins : (one : Geometry) (rest : List Token) → [] ≡ geometry_tokens one ++ rest → ⊥
geometry_begins (point raised points) rest e = cc
geometry_begins one rest e = cc

item_begins : (group : ItemGroup) (one : ItemOf group) (rest : List Token) → [] ≡ item_tokens group one ++ rest → ⊥
item_begins (groups.Dots raised) (dot points) rest e = points_begin points rest e
item_begins (groups.Dots raised) (bare p) rest e = cc
item_begins (groups.Polygons raised) one rest e = lists_begin one rest e
item_begins groups.Geometries one rest e = geometry_begins one rest e
item_begins group one rest e = points_begin one rest e

items_begin : (group : ItemGroup) (items : ItemsOf group) (rest : List Token) → [] ≡ items_tokens group items ++ rest → ⊥
items_begin (groups.Dots raised) items rest e = members_begin items rest e
items_begin (groups.Polygons raised) items rest e = polygons_begin items rest e
items_begin groups.Geometries items rest e = geometries_begin items rest e
items_begin group items rest e = lists_begin items rest e

more_begin : (group : ItemGroup) (more : ItemsOf group) (rest : List Token) → [] ≡ more_tokens group more ++ rest → ⊥
more_begin (groups.Rings raised) [] rest e = cc
more_begin (groups.Dots raised) [] rest e = cc
more_begin (groups.Lists raised) [] rest e = cc
more_begin (groups.Polygons raised) [] rest e = cc
more_begin groups.Geometries no_geometry rest e = cc
more_begin group more rest e = cc

-- where nothing follows, the line may end
abbrev Ends : Spot → List ItemGroup → List Path → Type 0
Ends spot stack later = IsLast spot × (stack ≡ []) × (later ≡ [])

closes_ends : (exact : Bool) (stack : List ItemGroup) (later : List Path) → Closes exact stack [] later
    → (stack ≡ []) × (later ≡ [])
closes_ends exact [] later closes = (refl, closes.1)
closes_ends exact (group ∷ outer) later (more, rest, close, are, same, closes, all) =
    absurd (more_begin group more rest same)

points_end : (exact : Bool) (listing : Listing) (read : List Point) (stack : List ItemGroup) (later : List Path)
    → ClosesPoints exact listing read stack [] later → ⊥
points_end exact listing read stack later ([], rest, close, are, on, same, closes, all) = cc
points_end exact listing read stack later (p ∷ more, rest, close, are, on, same, closes, all) = cc

enters_end : (exact : Bool) (inner : Content) (stack : List ItemGroup) (later : List Path)
    → Enters exact inner stack [] later
    → ⊥
enters_end exact (Points listing) stack later (points, rest, close, is, same, closes, all) =
    points_begin points rest same
enters_end exact (Items group) stack later (items, rest, close, is, same, closes, all) =
    items_begin group items rest same

rests_end : (exact : Bool) (spot : Spot) (stack : List ItemGroup) (later : List Path) → Rests exact spot stack [] later
    → Ends spot stack later
rests_end exact item stack later (one, rest, close, is, same, closes, all) =
    absurd (item_begins (innermost stack) one rest same)
rests_end exact (tagged kind) stack later (true, rest, same, enters) = cc
rests_end exact (tagged kind) stack later (false, rest, same, enters) = grind (arith, enters_end, Enters)
rests_end exact (content inner) stack later enters = absurd (enters_end exact inner stack later enters)
rests_end exact (first listing read) stack later (p, rest, is, same, closes) = cc
rests_end exact (second listing read x) stack later (y, z, rest, is, is_z, same, closes) = cc
rests_end exact (third listing read x y) stack later (z, rest, is, same, closes) = cc
rests_end exact (whole listing read) stack later closes = absurd (points_end exact listing read stack later closes)
rests_end exact (bare_second raised x) stack later (y, z, rest, close, is, is_z, same, closes, all) = cc
rests_end exact (bare_third x y) stack later (z, rest, close, is, same, closes, all) = cc
rests_end exact spot stack later closes = let h = closes_ends exact stack later closes in (tt, h.0, h.1)

end_rests : (exact : Bool) (spot : Spot) (stack : List ItemGroup) → IsLast spot → stack ≡ [] → Rests exact spot stack [] []
end_rests exact bare_whole stack last closed = subst (λ s. Closes exact s [] []) (sym closed) (refl, refl)
end_rests exact behind stack last closed = subst (λ s. Closes exact s [] []) (sym closed) (refl, refl)
end_rests exact (tagged kind) stack last closed = absurd last
end_rests exact (first listing read) stack last closed = absurd last
end_rests exact (second listing read x) stack last closed = absurd last
end_rests exact (third listing read x y) stack last closed = absurd last
end_rests exact (whole listing read) stack last closed = absurd last
end_rests exact spot stack last closed = absurd last

-- the pass takes all that follows, to an end
abbrev RunsOut : Bool → State → List Token → List Path → Type 0
RunsOut exact s tokens all = (last : State) × (run (step exact) s tokens ≡ Some last) × IsEnd last × (last.paths ≡ all)

runs_out : (exact : Bool) (s : State) (tokens : List Token) (all : List Path) → Follows exact s tokens all
    → RunsOut exact s tokens all
runs_out exact s [] all (later, rests, same) = grind (arith, rests_end, append-nil)
runs_out exact s (t ∷ ts) all (later, rests, same) =
    let (next, steps, follows) = token_leads exact s.spot s.stack s.paths t ts later rests in
    let (last, runs, end, paths) = runs_out exact next ts (s.paths ++ later) follows in
    (last, rw steps runs, end, paths ∙ sym same)

-- what follows a state follows the one before the tokens that lead to it, after them
runs_before : (exact : Bool) (s last : State) (front rest : List Token) (all : List Path)
    → run (step exact) s front ≡ Some last → Follows exact last rest all → Follows exact s (front ++ rest) all
runs_before exact s last [] rest all runs follows =
    subst (λ x. Follows exact x rest all) (sym (same_Some s last runs)) follows
runs_before exact s last (t ∷ ts) rest all runs follows =
    let step_runs : option_and_then (λ next. run (step exact) next ts) (step exact s t) ≡ Some last = runs in
    at_step (step exact s t) refl step_runs (λ next h. runs_before exact next last ts rest all h follows)
  where
    at_step : (to : Option State) → step exact s t ≡ to
        → option_and_then (λ next. run (step exact) next ts) to ≡ Some last
        → ((next : State) → run (step exact) next ts ≡ Some last → Follows exact next (ts ++ rest) all)
        → Follows exact s (t ∷ (ts ++ rest)) all
    at_step None e h on = cc
    at_step (Some next) e h on = token_before exact s.spot s.stack s.paths t next (ts ++ rest) all e (on next h)

-- a geometry's tokens follow the start
start_follows : (exact : Bool) (one : Geometry) → IsGeometry exact DEEPEST one
    → Follows exact start (geometry_tokens one) (geometry_paths one)
start_follows exact one is = grind (arith, append-nil)

follows_start : (exact : Bool) (tokens : List Token) (all : List Path) → Follows exact start tokens all
    → (one : Geometry) × IsGeometry exact DEEPEST one × (tokens ≡ geometry_tokens one) × (all ≡ geometry_paths one)
follows_start exact tokens all (later, (one, rest, close, is, same, (no_rest, no_paths), paths), all_are) =
    grind (arith, append-nil)

-- a geometry's tokens lead to its paths
pub line_paths : (exact : Bool) (one : Geometry) → IsGeometry exact DEEPEST one
    → (last : State) × (run (step exact) start (geometry_tokens one) ≡ Some last) × (last.paths ≡ geometry_paths one)
line_paths exact one is =
    let (last, runs, end, paths) = runs_out exact start (geometry_tokens one) (geometry_paths one)
    (start_follows exact one is) in
    (last, runs, paths)

-- a line is read to its end
line_read : (exact : Bool) (tokens : List Token) → IsLine exact tokens
    → (last : State) × (run (step exact) start tokens ≡ Some last) × IsEnd last
line_read exact tokens (one, is, same) =
    let (last, runs, end, paths) = runs_out exact start (geometry_tokens one) (geometry_paths one)
    (start_follows exact one is) in
    (last, ap (run (step exact) start) same ∙ runs, end)

-- what is read to an end is a line, of these paths
pub read_line : (exact : Bool) (tokens : List Token) (last : State) → run (step exact) start tokens ≡ Some last
    → IsEnd last
    → (one : Geometry) × IsGeometry exact DEEPEST one × (tokens ≡ geometry_tokens one)
    × (last.paths ≡ geometry_paths one)
read_line exact tokens last runs end =
    let follows : Follows exact last [] last.paths =
    ([], end_rests exact last.spot last.stack end.last end.closed, sym (append-nil last.paths)) in
    let (one, is, same, paths) = follows_start exact (tokens ++ []) last.paths
    (runs_before exact start last tokens [] last.paths runs follows) in
    (one, is, sym (append-nil tokens) ∙ same, paths)

-- What was read fits, after each token.
abbrev Read : Bool → State → Type 0
Read exact s = AreRead exact s.spot

leads_read : (exact : Bool) (to next : State) → Some to ≡ Some next → Read exact to → Read exact next
leads_read exact to next e are = subst (λ (s : State). Read exact s) (same_Some to next e) are

if_read : (exact : Bool) (b : Bool) (to next : State) → (if b then Some to else None) ≡ Some next → Read exact to
    → Read exact next
if_read exact true to next e are = leads_read exact to next e are
if_read exact false to next e are = cc

enter_read : (exact : Bool) (inner : Content) (stack : List ItemGroup) (paths : List Path) (t : Token) (next : State)
    → enter_step inner stack paths t ≡ Some next → Read exact next
enter_read exact (Points listing) stack paths opening next e =
    leads_read exact (state (first listing []) stack paths) next e tt
enter_read exact (Items group) stack paths opening next e =
    leads_read exact (state item (group ∷ stack) paths) next e tt
enter_read exact (Points listing) stack paths (word Empty) next e =
    leads_read exact (state behind stack paths) next e tt
enter_read exact (Items group) stack paths (word Empty) next e = leads_read exact (state behind stack paths) next e tt
enter_read exact (Points listing) stack paths (word (Tag kind)) next e = cc
enter_read exact (Items group) stack paths (word (Tag kind)) next e = cc
enter_read exact inner stack paths t next e = cc

tag_read : (exact : Bool) (stack : List ItemGroup) (paths : List Path) (t : Token) (next : State)
    → tag_step stack paths t ≡ Some next → Read exact next
tag_read exact stack paths (word (Tag kind)) next e =
    if_read exact (may_nest kind stack) (state (tagged kind) stack paths) next e tt
tag_read exact stack paths t next e = cc

tagged_read : (exact : Bool) (kind : GeometryKind) (stack : List ItemGroup) (paths : List Path) (t : Token) (next : State)
    → tagged_step kind stack paths t ≡ Some next → Read exact next
tagged_read exact kind stack paths (word Z) next e =
    leads_read exact (state (content (content_of kind true)) stack paths) next e tt
tagged_read exact other stack paths t next e = enter_read exact (content_of other false) stack paths t next e

-- a number was read
fit_read : (exact : Bool) (make : Number → State) (t : Token) (next : State)
    → ((n : Number) → IsNumber exact n → Read exact (make n)) → number_step exact make t ≡ Some next → Read exact next
fit_read exact make t next are e = grind (arith, number_taken)

item_read : (exact : Bool) (group : ItemGroup) (stack : List ItemGroup) (paths : List Path) (t : Token) (next : State)
    → item_step exact group stack paths t ≡ Some next → Read exact next
item_read exact (groups.Rings raised) stack paths t next e =
    enter_read exact (Points (listings.Ring raised)) stack paths t next e
item_read exact (groups.Lists raised) stack paths t next e =
    enter_read exact (Points (listings.List raised)) stack paths t next e
item_read exact (groups.Polygons raised) stack paths t next e =
    enter_read exact (Items (groups.Rings raised)) stack paths t next e
item_read exact groups.Geometries stack paths t next e = tag_read exact stack paths t next e
item_read exact (groups.Dots raised) stack paths (number n) next e =
    fit_read exact (λ x. state (bare_second raised x) stack paths) (number n) next (λ m fits. fits) e
item_read exact (groups.Dots raised) stack paths t next e =
    enter_read exact (Points (listings.Dot raised)) stack paths t next e

whole_read : (exact : Bool) (listing : Listing) (points : List Point) (stack : List ItemGroup) (paths : List Path)
    (t : Token) (next : State) → ArePoints exact (is_raised listing) points
    → whole_step listing points stack paths t ≡ Some next → Read exact next
whole_read exact (listings.List raised) points stack paths comma next are e =
    leads_read exact (state (first (listings.List raised) points) stack paths) next e are
whole_read exact (listings.Ring raised) points stack paths comma next are e =
    leads_read exact (state (first (listings.Ring raised) points) stack paths) next e are
whole_read exact (listings.Dot raised) points stack paths closing next are e = grind (arith, if_read)
whole_read exact (listings.List raised) points stack paths closing next are e = grind (arith, if_read)
whole_read exact (listings.Ring raised) points stack paths closing next are e = grind (arith, if_read)
whole_read exact listing points stack paths t next are e = cc

behind_read : (exact : Bool) (stack : List ItemGroup) (paths : List Path) (t : Token) (next : State)
    → behind_step stack paths t ≡ Some next → Read exact next
behind_read exact (group ∷ outer) paths comma next e = leads_read exact (state item (group ∷ outer) paths) next e tt
behind_read exact (group ∷ outer) paths closing next e = leads_read exact (state behind outer paths) next e tt
behind_read exact stack paths t next e = cc

-- the second number of a point was read
second_read : (exact : Bool) (listing : Listing) (points : List Point) (x y : Number) (raised : Bool)
    (stack : List ItemGroup) (paths : List Path) → is_raised listing ≡ raised → ArePoints exact (is_raised listing) points
    → IsNumber exact x → IsNumber exact y
    → Read exact (state (second_leads raised listing points x y) stack paths)
second_read exact listing points x y true stack paths is are one two = (are, one, two, is)
second_read exact listing points x y false stack paths is are one two = grind (arith, are_push, third_none)

bare_second_read : (exact raised : Bool) (x y : Number) (stack : List ItemGroup) (paths : List Path) → IsNumber exact x
    → IsNumber exact y → Read exact (bare_second_leads raised stack paths x y)
bare_second_read exact true x y stack paths one two = (one, two)
bare_second_read exact false x y stack paths one two = tt

read_step : (exact : Bool) (spot : Spot) (stack : List ItemGroup) (paths : List Path) (t : Token) (next : State)
    → AreRead exact spot → step_at exact spot stack paths t ≡ Some next → Read exact next
read_step exact item stack paths t next are e = item_read exact (innermost stack) stack paths t next e
read_step exact (tagged kind) stack paths t next are e = tagged_read exact kind stack paths t next e
read_step exact (content inner) stack paths t next are e = enter_read exact inner stack paths t next e
read_step exact (first listing points) stack paths t next are e =
    fit_read exact (λ x. state (second listing points x) stack paths) t next (λ n fits. (are, fits)) e
read_step exact (second listing points x) stack paths t next are e =
    fit_read exact (λ y. state (second_leads (is_raised listing) listing points x y) stack paths) t next
    (λ n fits. second_read exact listing points x n (is_raised listing) stack paths refl are.0 are.1 fits) e
read_step exact (third listing points x y) stack paths t next are e = grind (arith, fit_read, are_push, third_is)
read_step exact (whole listing points) stack paths t next are e =
    whole_read exact listing points stack paths t next are e
read_step exact (bare_second raised x) stack paths t next are e = grind (arith, fit_read, bare_second_read)
read_step exact (bare_third x y) stack paths t next are e =
    fit_read exact (λ z. bare_leads stack paths (point_with x y (Some z))) t next (λ n fits. tt) e
read_step exact spot stack paths t next are e = behind_read exact stack paths t next e

runs_read : (exact : Bool) (s last : State) (tokens : List Token) → AreRead exact s.spot
    → run (step exact) s tokens ≡ Some last → Read exact last
runs_read exact s last [] are runs = leads_read exact s last runs are
runs_read exact s last (t ∷ ts) are runs =
    let step_runs : option_and_then (λ next. run (step exact) next ts) (step exact s t) ≡ Some last = runs in
    at_step (step exact s t) refl step_runs (λ next fits h. runs_read exact next last ts fits h)
  where
    at_step : (to : Option State) → step exact s t ≡ to
        → option_and_then (λ next. run (step exact) next ts) to ≡ Some last
        → ((next : State) → Read exact next → run (step exact) next ts ≡ Some last → Read exact last) → Read exact last
    at_step None e h on = cc
    at_step (Some next) e h on = on next (read_step exact s.spot s.stack s.paths t next are e) h

-- what was read begins a line
pub viable : (exact : Bool) (front : List Token) (s : State) → run (step exact) start front ≡ Some s
    → IsViable exact front
viable exact front s runs =
    let (rest, later, rests) = can_follow exact s.spot s.stack (runs_read exact start s front tt runs) in
    let (one, is, same, paths) = follows_start exact (front ++ rest) (s.paths ++ later)
    (runs_before exact start s front rest (s.paths ++ later) runs (later, rests, refl)) in
    (rest, (one, is, same))

-- what is refused begins none
pub not_viable : (exact : Bool) (front : List Token) → run (step exact) start front ≡ None → IsViable exact front → ⊥
not_viable exact front refused viable_front =
    begins_none (IsLine exact) (step exact) start IsEnd (line_read exact) front refused viable_front

-- the first fault is at a token that is refused
pub fault_at_token : (exact : Bool) (tokens : List Token) (at : ℕ) (s : State) → at < length tokens
    → run (step exact) start (take at tokens) ≡ Some s
    → run (step exact) start (take (at + 1) tokens) ≡ None → IsFirstFault (IsLine exact) tokens at
fault_at_token exact tokens at s within runs refused =
    refused_at (IsLine exact) (step exact) start IsEnd (line_read exact) tokens at within
    (viable exact (take at tokens) s runs) refused

-- the first fault comes after all tokens, where the line may not end
pub fault_at_end : (exact : Bool) (tokens : List Token) (s : State) → run (step exact) start tokens ≡ Some s
    → (IsEnd s → ⊥) → IsFirstFault (IsLine exact) tokens (length tokens)
fault_at_end exact tokens s runs open_still =
    unfinished (IsLine exact) (step exact) start IsEnd (line_read exact) tokens s runs open_still
    (viable exact tokens s runs)
