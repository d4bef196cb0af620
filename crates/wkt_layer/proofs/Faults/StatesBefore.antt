-- What the state of the pass says of the tokens before it.
use Rattle.std.proofs.Common.{◌≡◌, Bool, true, false, List, [], ◌∷◌, refl, subst, arith}
use Rattle.std.specs.Prelude.{Some, None, if◌then◌else◌}
use Rattle.std.proofs.lemmas.Option.{same_Some}
use Rattle.mm_decimal.specs.AnswerValues.{millimetres_of}
use Rattle.wkt_layer.specs.Tokens.{Number, Token, opening, closing, comma, word, number}
use Rattle.wkt_layer.specs.Numbers.{Point, does_fit}
use Rattle.wkt_layer.specs.Paths.{Path}
use Rattle.wkt_layer.specs.InsideStates.{Spot, item, tagged, content, first, second, third, whole, bare_second}
use Rattle.wkt_layer.specs.InsideStates.{bare_third}
use Rattle.wkt_layer.specs.InsideStates.{bare_whole, behind, State}
use Rattle.wkt_layer.specs.InsideStates.{state, innermost, point_with, content_of, may_nest}
use Rattle.wkt_layer.specs.InsideStates.{second_leads}
use Rattle.wkt_layer.specs.InsideStates.{bare_leads, bare_second_leads, step_at, enter_step, tag_step, tagged_step}
use Rattle.wkt_layer.specs.InsideStates.{number_step}
use Rattle.wkt_layer.specs.InsideStates.{item_step, whole_step, behind_step}
use Rattle.wkt_layer.specs.declared.words.GeometryKind.{GeometryKind}
use Rattle.wkt_layer.specs.declared.words.LineWord.TheVariants.{Tag, Empty, Z}
use Rattle.wkt_layer.specs.declared.places.Content.{Content}
use Rattle.wkt_layer.specs.declared.places.Content.TheVariants.{Points, Items}
use Rattle.wkt_layer.specs.declared.places.Listing.{Listing}
use Rattle.wkt_layer.specs.declared.places.Listing.TheVariants as listings
use Rattle.wkt_layer.specs.declared.places.ItemGroup.{ItemGroup}
use Rattle.wkt_layer.specs.declared.places.ItemGroup.TheVariants as groups

-- a tag leads to what comes after it, and a number to what comes after one
abbrev pub IsBehindTag : Spot → Type 0
IsBehindTag (tagged kind) = Unit {0}
IsBehindTag spot = ⊥

abbrev pub IsBehindNumber : Spot → Type 0
IsBehindNumber (second listing read x) = Unit {0}
IsBehindNumber (third listing read x y) = Unit {0}
IsBehindNumber (whole listing read) = Unit {0}
IsBehindNumber (bare_second raised x) = Unit {0}
IsBehindNumber (bare_third x y) = Unit {0}
IsBehindNumber bare_whole = Unit {0}
IsBehindNumber spot = ⊥

-- a point without brackets is in a list
abbrev pub IsInList : Spot → List ItemGroup → Type 0
IsInList (bare_second raised x) stack = stack ≡ [] → ⊥
IsInList (bare_third x y) stack = stack ≡ [] → ⊥
IsInList bare_whole stack = stack ≡ [] → ⊥
IsInList spot stack = Unit {0}

-- what the token before a spot is
abbrev pub ComesFrom : Spot → Token → Type 0
ComesFrom (tagged kind) token = token ≡ word (Tag kind)
ComesFrom (second listing read x) token = token ≡ number x
ComesFrom (third listing read x y) token = token ≡ number y
ComesFrom (whole listing read) token = (z : Number) × (token ≡ number z)
ComesFrom (bare_second raised x) token = token ≡ number x
ComesFrom (bare_third x y) token = token ≡ number y
ComesFrom bare_whole token = (z : Number) × (token ≡ number z)
ComesFrom spot token = Unit {0}

abbrev From : Token → State → Type 0
From token s = ComesFrom s.spot token

leads_from : (token : Token) (to next : State) → Some to ≡ Some next → From token to → From token next
leads_from token to next e from = subst (From token) (same_Some to next e) from

if_from : (token : Token) (b : Bool) (to next : State) → (if b then Some to else None) ≡ Some next → From token to
    → From token next
if_from token true to next e from = leads_from token to next e from
if_from token false to next e from = cc

enter_from : (inner : Content) (stack : List ItemGroup) (paths : List Path) (t : Token) (next : State)
    → enter_step inner stack paths t ≡ Some next → From t next
enter_from (Points listing) stack paths opening next e =
    leads_from opening (state (first listing []) stack paths) next e tt
enter_from (Points listing) stack paths (word Empty) next e =
    leads_from (word Empty) (state behind stack paths) next e tt
enter_from (Points listing) stack paths (word (Tag kind)) next e = cc
enter_from (Items group) stack paths opening next e = leads_from opening (state item (group ∷ stack) paths) next e tt
enter_from (Items group) stack paths (word Empty) next e = leads_from (word Empty) (state behind stack paths) next e tt
enter_from (Items group) stack paths (word (Tag kind)) next e = cc
enter_from inner stack paths t next e = cc

tag_from : (stack : List ItemGroup) (paths : List Path) (t : Token) (next : State) → tag_step stack paths t ≡ Some next
    → From t next
tag_from stack paths (word (Tag kind)) next e =
    if_from (word (Tag kind)) (may_nest kind stack) (state (tagged kind) stack paths) next e refl
tag_from stack paths t next e = cc

tagged_from : (kind : GeometryKind) (stack : List ItemGroup) (paths : List Path) (t : Token) (next : State)
    → tagged_step kind stack paths t ≡ Some next → From t next
tagged_from kind stack paths (word Z) next e =
    leads_from (word Z) (state (content (content_of kind true)) stack paths) next e tt
tagged_from other stack paths t next e = enter_from (content_of other false) stack paths t next e

item_from : (exact : Bool) (group : ItemGroup) (stack : List ItemGroup) (paths : List Path) (t : Token) (next : State)
    → item_step exact group stack paths t ≡ Some next → From t next
item_from exact (groups.Rings raised) stack paths t next e =
    enter_from (Points (listings.Ring raised)) stack paths t next e
item_from exact (groups.Lists raised) stack paths t next e =
    enter_from (Points (listings.List raised)) stack paths t next e
item_from exact (groups.Polygons raised) stack paths t next e =
    enter_from (Items (groups.Rings raised)) stack paths t next e
item_from exact groups.Geometries stack paths t next e = tag_from stack paths t next e
item_from exact (groups.Dots raised) stack paths (number n) next e =
    if_from (number n) (does_fit exact (millimetres_of n.text)) (state (bare_second raised n) stack paths) next e refl
item_from exact (groups.Dots raised) stack paths t next e =
    enter_from (Points (listings.Dot raised)) stack paths t next e

whole_from : (listing : Listing) (points : List Point) (stack : List ItemGroup) (paths : List Path) (t : Token)
    (next : State)
    → whole_step listing points stack paths t ≡ Some next → From t next
whole_from (listings.Dot raised) points stack paths closing next e = grind (arith, if_from)
whole_from (listings.List raised) points stack paths closing next e = grind (arith, if_from)
whole_from (listings.List raised) points stack paths comma next e =
    leads_from comma (state (first (listings.List raised) points) stack paths) next e tt
whole_from (listings.Ring raised) points stack paths closing next e = grind (arith, if_from)
whole_from (listings.Ring raised) points stack paths comma next e =
    leads_from comma (state (first (listings.Ring raised) points) stack paths) next e tt
whole_from listing points stack paths t next e = cc

behind_from : (stack : List ItemGroup) (paths : List Path) (t : Token) (next : State)
    → behind_step stack paths t ≡ Some next → From t next
behind_from (group ∷ outer) paths comma next e = leads_from comma (state item (group ∷ outer) paths) next e tt
behind_from (group ∷ outer) paths closing next e = leads_from closing (state behind outer paths) next e tt
behind_from stack paths t next e = cc

number_from : (exact : Bool) (make : Number → State) (t : Token) (next : State)
    → ((n : Number) → From (number n) (make n)) → number_step exact make t ≡ Some next → From t next
number_from exact make (number n) next from e =
    if_from (number n) (does_fit exact (millimetres_of n.text)) (make n) next e (from n)
number_from exact make _ next from e = cc

second_from : (listing : Listing) (points : List Point) (x y : Number) (raised : Bool) (stack : List ItemGroup)
    (paths : List Path) → From (number y) (state (second_leads raised listing points x y) stack paths)
second_from listing points x y true stack paths = refl
second_from listing points x y false stack paths = (y, refl)

bare_second_from : (raised : Bool) (x y : Number) (stack : List ItemGroup) (paths : List Path)
    → From (number y) (bare_second_leads raised stack paths x y)
bare_second_from true x y stack paths = refl
bare_second_from false x y stack paths = (y, refl)

-- each spot comes from its tokens
pub step_from : (exact : Bool) (spot : Spot) (stack : List ItemGroup) (paths : List Path) (t : Token) (next : State)
    → step_at exact spot stack paths t ≡ Some next → From t next
step_from exact item stack paths t next e = item_from exact (innermost stack) stack paths t next e
step_from exact (tagged kind) stack paths t next e = tagged_from kind stack paths t next e
step_from exact (content inner) stack paths t next e = enter_from inner stack paths t next e
step_from exact (first listing points) stack paths t next e =
    number_from exact (λ x. state (second listing points x) stack paths) t next (λ n. refl) e
step_from exact (second listing points x) stack paths t next e = grind (arith, number_from, second_from)
step_from exact (third listing points x y) stack paths t next e = grind (arith, number_from)
step_from exact (whole listing points) stack paths t next e = whole_from listing points stack paths t next e
step_from exact (bare_second raised x) stack paths t next e = grind (arith, number_from, bare_second_from)
step_from exact (bare_third x y) stack paths t next e =
    number_from exact (λ z. bare_leads stack paths (point_with x y (Some z))) t next (λ n. (n, refl)) e
step_from exact spot stack paths t next e = behind_from stack paths t next e

-- ---- a tag leads after it
if_tagged : (b : Bool) (to next : State) → (if b then Some to else None) ≡ Some next → IsBehindTag to.spot
    → IsBehindTag next.spot
if_tagged true to next e is = subst (λ (s : State). IsBehindTag s.spot) (same_Some to next e) is
if_tagged false to next e is = cc

enter_tagged : (inner : Content) (stack : List ItemGroup) (paths : List Path) (kind : GeometryKind) (next : State)
    → enter_step inner stack paths (word (Tag kind)) ≡ Some next → IsBehindTag next.spot
enter_tagged (Points listing) stack paths kind next e = cc
enter_tagged (Items group) stack paths kind next e = cc

item_tagged : (exact : Bool) (group : ItemGroup) (stack : List ItemGroup) (paths : List Path) (kind : GeometryKind) (next : State)
    → item_step exact group stack paths (word (Tag kind)) ≡ Some next → IsBehindTag next.spot
item_tagged exact (groups.Rings raised) stack paths kind next e = cc
item_tagged exact (groups.Lists raised) stack paths kind next e = cc
item_tagged exact (groups.Polygons raised) stack paths kind next e = cc
item_tagged exact (groups.Dots raised) stack paths kind next e = cc
item_tagged exact groups.Geometries stack paths kind next e =
    if_tagged (may_nest kind stack) (state (tagged kind) stack paths) next e tt

whole_tagged : (listing : Listing) (points : List Point) (stack : List ItemGroup) (paths : List Path) (kind : GeometryKind)
    (next : State)
    → whole_step listing points stack paths (word (Tag kind)) ≡ Some next → IsBehindTag next.spot
whole_tagged (listings.Dot raised) points stack paths kind next e = cc
whole_tagged listing points stack paths kind next e = cc

behind_tagged : (stack : List ItemGroup) (paths : List Path) (kind : GeometryKind) (next : State)
    → behind_step stack paths (word (Tag kind)) ≡ Some next → IsBehindTag next.spot
behind_tagged [] paths kind next e = cc
behind_tagged (group ∷ outer) paths kind next e = cc

pub tag_leads_behind : (exact : Bool) (spot : Spot) (stack : List ItemGroup) (paths : List Path) (kind : GeometryKind)
    (next : State)
    → step_at exact spot stack paths (word (Tag kind)) ≡ Some next → IsBehindTag next.spot
tag_leads_behind exact item stack paths kind next e = item_tagged exact (innermost stack) stack paths kind next e
tag_leads_behind exact (tagged other) stack paths kind next e =
    enter_tagged (content_of other false) stack paths kind next e
tag_leads_behind exact (content inner) stack paths kind next e = enter_tagged inner stack paths kind next e
tag_leads_behind exact (first listing points) stack paths kind next e = cc
tag_leads_behind exact (second listing points x) stack paths kind next e = cc
tag_leads_behind exact (third listing points x y) stack paths kind next e = cc
tag_leads_behind exact (whole listing points) stack paths kind next e =
    whole_tagged listing points stack paths kind next e
tag_leads_behind exact (bare_second raised x) stack paths kind next e = cc
tag_leads_behind exact (bare_third x y) stack paths kind next e = cc
tag_leads_behind exact spot stack paths kind next e = behind_tagged stack paths kind next e

-- ---- a number leads after it, and a point without brackets is in a list
abbrev pub IsNumbered : Spot → List ItemGroup → State → Type 0
IsNumbered spot stack s = IsBehindNumber s.spot × (IsInList spot stack → IsInList s.spot s.stack)

leads_numbered : (spot : Spot) (stack : List ItemGroup) (to next : State) → Some to ≡ Some next → IsNumbered spot stack to
    → IsNumbered spot stack next
leads_numbered spot stack to next e is = subst (IsNumbered spot stack) (same_Some to next e) is

fit_numbered : (exact : Bool) (spot : Spot) (stack : List ItemGroup) (make : Number → State) (n : Number) (next : State)
    → number_step exact make (number n) ≡ Some next → IsNumbered spot stack (make n) → IsNumbered spot stack next
fit_numbered exact spot stack make n next e is = grind (arith, leads_numbered)

item_numbered : (exact : Bool) (group : ItemGroup) (outer : List ItemGroup) (paths : List Path) (n : Number) (next : State)
    → item_step exact group (group ∷ outer) paths (number n) ≡ Some next → IsNumbered item (group ∷ outer) next
item_numbered exact (groups.Dots raised) outer paths n next e = grind (arith, fit_numbered)
item_numbered exact group outer paths n next e = cc

enter_numbered : (spot : Spot) (inner : Content) (stack outer : List ItemGroup) (paths : List Path) (n : Number)
    (next : State) → enter_step inner stack paths (number n) ≡ Some next → IsNumbered spot outer next
enter_numbered spot (Points listing) stack outer paths n next e = cc
enter_numbered spot (Items group) stack outer paths n next e = cc

whole_numbered : (spot : Spot) (listing : Listing) (points : List Point) (stack outer : List ItemGroup)
    (paths : List Path) (n : Number) (next : State)
    → whole_step listing points stack paths (number n) ≡ Some next → IsNumbered spot outer next
whole_numbered spot (listings.Dot raised) points stack outer paths n next e = cc
whole_numbered spot listing points stack outer paths n next e = cc

behind_numbered : (spot : Spot) (stack outer : List ItemGroup) (paths : List Path) (n : Number) (next : State)
    → behind_step stack paths (number n) ≡ Some next → IsNumbered spot outer next
behind_numbered spot [] outer paths n next e = cc
behind_numbered spot (group ∷ stack) outer paths n next e = cc

second_numbered : (listing : Listing) (points : List Point) (x y : Number) (raised : Bool) (stack : List ItemGroup)
    (paths : List Path)
    → IsNumbered (second listing points x) stack (state (second_leads raised listing points x y) stack paths)
second_numbered listing points x y true stack paths = (tt, λ _. tt)
second_numbered listing points x y false stack paths = (tt, λ _. tt)

bare_second_numbered : (raised : Bool) (x y : Number) (stack : List ItemGroup) (paths : List Path)
    → IsNumbered (bare_second raised x) stack (bare_second_leads raised stack paths x y)
bare_second_numbered true x y stack paths = (tt, λ some. some)
bare_second_numbered false x y stack paths = (tt, λ some. some)

pub number_leads_behind : (exact : Bool) (spot : Spot) (stack : List ItemGroup) (paths : List Path) (n : Number)
    (next : State)
    → step_at exact spot stack paths (number n) ≡ Some next → IsNumbered spot stack next
number_leads_behind exact item [] paths n next e = cc
number_leads_behind exact item (group ∷ outer) paths n next e = item_numbered exact group outer paths n next e
number_leads_behind exact (tagged kind) stack paths n next e =
    enter_numbered (tagged kind) (content_of kind false) stack stack paths n next e
number_leads_behind exact (content inner) stack paths n next e =
    enter_numbered (content inner) inner stack stack paths n next e
number_leads_behind exact (first listing points) stack paths n next e = grind (arith, fit_numbered)
number_leads_behind exact (second listing points x) stack paths n next e = grind (arith, fit_numbered, second_numbered)
number_leads_behind exact (third listing points x y) stack paths n next e = grind (arith, fit_numbered)
number_leads_behind exact (whole listing points) stack paths n next e =
    whole_numbered (whole listing points) listing points stack stack paths n next e
number_leads_behind exact (bare_second raised x) stack paths n next e =
    grind (arith, fit_numbered, bare_second_numbered)
number_leads_behind exact (bare_third x y) stack paths n next e = grind (arith, fit_numbered)
number_leads_behind exact spot stack paths n next e = behind_numbered spot stack stack paths n next e

-- a token that is no number leads to no point without brackets
comes_in_list : (spot : Spot) (stack : List ItemGroup) (t : Token) → ComesFrom spot t
    → ((n : Number) → t ≡ number n → IsInList spot stack) → IsInList spot stack
comes_in_list (bare_second raised x) stack t from by_number = by_number x from
comes_in_list (bare_third x y) stack t from by_number = by_number y from
comes_in_list bare_whole stack t from by_number = by_number from.0 from.1
comes_in_list (tagged kind) stack t from by_number = tt
comes_in_list spot stack t from by_number = tt

pub step_in_list : (exact : Bool) (spot : Spot) (stack : List ItemGroup) (paths : List Path) (t : Token) (next : State)
    → step_at exact spot stack paths t ≡ Some next → IsInList spot stack → IsInList next.spot next.stack
step_in_list exact spot stack paths t next e is = grind (arith, comes_in_list, step_from, number_leads_behind)
