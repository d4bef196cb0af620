-- The tokens since the bracket in which the points are that are read.
use Rattle.std.proofs.Common.{◌≡◌, ℕ, Bool, true, false, List, [], ◌∷◌, ◌++◌, refl, sym, ap, ◌∙◌, subst, arith}
use Rattle.std.proofs.Common.{append_assoc}
use Rattle.std.specs.Prelude.{Some, None, if◌then◌else◌}
use Rattle.std.proofs.lemmas.Option.{same_Some}
use Rattle.mm_decimal.specs.AnswerValues.{millimetres_of}
use Rattle.wkt_layer.specs.Tokens.{Number, Token, opening, closing, comma, word, number}
use Rattle.wkt_layer.specs.Numbers.{Point, does_fit}
use Rattle.wkt_layer.specs.Geometries.{point_tokens}
use Rattle.wkt_layer.specs.Paths.{Path}
use Rattle.wkt_layer.specs.InsideStates.{Spot, item, tagged, content, first, second, third, whole, bare_second}
use Rattle.wkt_layer.specs.InsideStates.{bare_third}
use Rattle.wkt_layer.specs.InsideStates.{behind, State}
use Rattle.wkt_layer.specs.InsideStates.{state, innermost, point_with, content_of, is_raised, may_nest}
use Rattle.wkt_layer.specs.InsideStates.{second_leads}
use Rattle.wkt_layer.specs.InsideStates.{bare_leads, bare_second_leads, step_at, enter_step, tag_step, tagged_step}
use Rattle.wkt_layer.specs.InsideStates.{number_step}
use Rattle.wkt_layer.specs.InsideStates.{item_step, whole_step, behind_step}
use Rattle.wkt_layer.specs.declared.words.GeometryKind.{GeometryKind}
use Rattle.wkt_layer.specs.declared.words.LineWord.TheVariants.{Tag, Empty, Z}
use Rattle.wkt_layer.specs.declared.places.Content.{Content}
use Rattle.wkt_layer.specs.declared.places.Content.TheVariants.{Points, Items}
use Rattle.wkt_layer.specs.declared.places.Listing.{Listing}
use Rattle.wkt_layer.specs.declared.places.Listing.TheVariants as listings
use Rattle.wkt_layer.specs.declared.places.ItemGroup.{ItemGroup}
use Rattle.wkt_layer.specs.declared.places.ItemGroup.TheVariants as groups
use Rattle.std.proofs.lemmas.List.{map-append}
use Rattle.wkt_layer.specs.Tokens.{Placed}
use Rattle.wkt_layer.specs.InsideReach.{read_tokens, EndsIn, IsIn}
use Rattle.wkt_layer.specs.Faults.{joined_points, EndsInPoints}
use Rattle.wkt_layer.specs.InsideStates.{opened_by}

abbrev placed : ℕ → Token → Placed
placed at token = record { start = at; token = token }

-- one token more
ends_next : (front : List Placed) (opened at : ℕ) (t : Token) (tokens : List Token) → EndsIn front opened tokens
    → EndsIn (front ++ placed at t ∷ []) opened (tokens ++ t ∷ [])
ends_next front opened at t tokens (before, points, split, are) = (
  before,
  points ++ placed at t ∷ [],
  ap (λ x. x ++ placed at t ∷ []) split ∙ append_assoc before (placed opened opening ∷ points) (placed at t ∷ []),
  map-append (λ (p : Placed). p.token) points (placed at t ∷ []) ∙ ap (λ x. x ++ t ∷ []) are,
)

joined_push : (one : Point) (more : List Point) (p : Point)
    → (joined_points one more ++ comma ∷ []) ++ point_tokens p ≡ joined_points one (more ++ p ∷ [])
joined_push one [] p = append_assoc (point_tokens one) (comma ∷ []) (point_tokens p)
joined_push one (next ∷ more) p = grind (arith, append_assoc, (joined_push next more p))

-- a point's last number makes it whole
whole_next : (front : List Placed) (opened at : ℕ) (listing : Listing) (read : List Point) (p : Point) (n : Number)
    (numbers : List Token) → numbers ++ number n ∷ [] ≡ point_tokens p
    → EndsIn front opened (read_tokens read ++ numbers)
    → IsIn (front ++ placed at (number n) ∷ []) opened (whole listing (read ++ p ∷ []))
whole_next front opened at listing [] p n numbers are ends = (
  p,
  [],
  refl,
  subst (EndsIn (front ++ placed at (number n) ∷ []) opened) are (ends_next front opened at (number n) numbers ends),
)
whole_next front opened at listing (one ∷ more) p n numbers are ends =
    let now : EndsIn (front ++ placed at (number n) ∷ []) opened
    ((read_tokens (one ∷ more) ++ numbers) ++ number n ∷ []) =
    ends_next front opened at (number n) (read_tokens (one ∷ more) ++ numbers) ends in (
      one,
      more ++ p ∷ [],
      refl,
      subst (EndsIn (front ++ placed at (number n) ∷ []) opened)
          (append_assoc (read_tokens (one ∷ more)) numbers (number n ∷ [])
          ∙ ap (λ x. read_tokens (one ∷ more) ++ x) are ∙ joined_push one more p) now,
    )

-- the second number of a point; a third one follows or none
second_next : (front : List Placed) (opened at : ℕ) (listing : Listing) (read : List Point) (x y : Number)
    (raised : Bool)
    → EndsIn front opened (read_tokens read ++ number x ∷ [])
    → IsIn (front ++ placed at (number y) ∷ []) opened (second_leads raised listing read x y)
second_next front opened at listing read x y false ends =
    whole_next front opened at listing read (point_with x y None) y (number x ∷ []) refl ends
second_next front opened at listing read x y true ends =
    subst (EndsIn (front ++ placed at (number y) ∷ []) opened)
    (append_assoc (read_tokens read) (number x ∷ []) (number y ∷ []))
    (ends_next front opened at (number y) (read_tokens read ++ number x ∷ []) ends)

abbrev In : List Placed → ℕ → State → Type 0
In front opened s = IsIn front opened s.spot

leads_in : (front : List Placed) (opened : ℕ) (to next : State) → Some to ≡ Some next → In front opened to
    → In front opened next
leads_in front opened to next e is = subst (In front opened) (same_Some to next e) is

if_in : (front : List Placed) (opened : ℕ) (b : Bool) (to next : State) → (if b then Some to else None) ≡ Some next
    → In front opened to → In front opened next
if_in front opened true to next e is = leads_in front opened to next e is
if_in front opened false to next e is = cc

enter_in : (front : List Placed) (opened at : ℕ) (inner : Content) (stack : List ItemGroup) (paths : List Path) (t : Token)
    (next : State) → enter_step inner stack paths t ≡ Some next
    → In (front ++ placed at t ∷ []) (opened_by t at opened) next
enter_in front opened at (Points listing) stack paths opening next e =
    leads_in (front ++ placed at opening ∷ []) at (state (first listing []) stack paths) next e (front, [], refl, refl)
enter_in front opened at (Points listing) stack paths (word Empty) next e =
    leads_in (front ++ placed at (word Empty) ∷ []) opened (state behind stack paths) next e tt
enter_in front opened at (Points listing) stack paths (word (Tag kind)) next e = cc
enter_in front opened at (Items group) stack paths opening next e =
    leads_in (front ++ placed at opening ∷ []) at (state item (group ∷ stack) paths) next e tt
enter_in front opened at (Items group) stack paths (word Empty) next e =
    leads_in (front ++ placed at (word Empty) ∷ []) opened (state behind stack paths) next e tt
enter_in front opened at (Items group) stack paths (word (Tag kind)) next e = cc
enter_in front opened at inner stack paths t next e = cc

tag_in : (front : List Placed) (opened : ℕ) (stack : List ItemGroup) (paths : List Path) (t : Token) (next : State)
    → tag_step stack paths t ≡ Some next → In front opened next
tag_in front opened stack paths (word (Tag kind)) next e =
    if_in front opened (may_nest kind stack) (state (tagged kind) stack paths) next e tt
tag_in front opened stack paths t next e = cc

tagged_in : (front : List Placed) (opened at : ℕ) (kind : GeometryKind) (stack : List ItemGroup) (paths : List Path) (t : Token)
    (next : State) → tagged_step kind stack paths t ≡ Some next
    → In (front ++ placed at t ∷ []) (opened_by t at opened) next
tagged_in front opened at kind stack paths (word Z) next e =
    leads_in (front ++ placed at (word Z) ∷ []) opened (state (content (content_of kind true)) stack paths) next e tt
tagged_in front opened at other stack paths t next e =
    enter_in front opened at (content_of other false) stack paths t next e

item_in : (exact : Bool) (front : List Placed) (opened at : ℕ) (group : ItemGroup) (stack : List ItemGroup) (paths : List Path)
    (t : Token) (next : State)
    → item_step exact group stack paths t ≡ Some next → In (front ++ placed at t ∷ []) (opened_by t at opened) next
item_in exact front opened at (groups.Rings raised) stack paths t next e =
    enter_in front opened at (Points (listings.Ring raised)) stack paths t next e
item_in exact front opened at (groups.Lists raised) stack paths t next e =
    enter_in front opened at (Points (listings.List raised)) stack paths t next e
item_in exact front opened at (groups.Polygons raised) stack paths t next e =
    enter_in front opened at (Items (groups.Rings raised)) stack paths t next e
item_in exact front opened at groups.Geometries stack paths t next e =
    tag_in (front ++ placed at t ∷ []) (opened_by t at opened) stack paths t next e
item_in exact front opened at (groups.Dots raised) stack paths (number n) next e = grind (arith, if_in)
item_in exact front opened at (groups.Dots raised) stack paths t next e =
    enter_in front opened at (Points (listings.Dot raised)) stack paths t next e

-- a comma after a whole point
comma_next : (front : List Placed) (opened at : ℕ) (listing : Listing) (read : List Point)
    → IsIn front opened (whole listing read) → EndsIn (front ++ placed at comma ∷ []) opened (read_tokens read)
comma_next front opened at listing read (one, more, same, ends) =
    subst (λ x. EndsIn (front ++ placed at comma ∷ []) opened (read_tokens x)) (sym same)
    (ends_next front opened at comma (joined_points one more) ends)

whole_in : (front : List Placed) (opened at : ℕ) (listing : Listing) (read : List Point) (stack : List ItemGroup)
    (paths : List Path) (t : Token) (next : State) → IsIn front opened (whole listing read)
    → whole_step listing read stack paths t ≡ Some next → In (front ++ placed at t ∷ []) (opened_by t at opened) next
whole_in front opened at (listings.Dot raised) read stack paths closing next is e = grind (arith, if_in)
whole_in front opened at (listings.List raised) read stack paths closing next is e = grind (arith, if_in)
whole_in front opened at (listings.List raised) read stack paths comma next is e =
    leads_in (front ++ placed at comma ∷ []) opened (state (first (listings.List raised) read) stack paths) next e
    (comma_next front opened at (listings.List raised) read is)
whole_in front opened at (listings.Ring raised) read stack paths closing next is e = grind (arith, if_in)
whole_in front opened at (listings.Ring raised) read stack paths comma next is e =
    leads_in (front ++ placed at comma ∷ []) opened (state (first (listings.Ring raised) read) stack paths) next e
    (comma_next front opened at (listings.Ring raised) read is)
whole_in front opened at listing _ stack paths t next is e = cc

behind_in : (front : List Placed) (opened : ℕ) (stack : List ItemGroup) (paths : List Path) (t : Token) (next : State)
    → behind_step stack paths t ≡ Some next → In front opened next
behind_in front opened (group ∷ outer) paths comma next e =
    leads_in front opened (state item (group ∷ outer) paths) next e tt
behind_in front opened (group ∷ outer) paths closing next e = leads_in front opened (state behind outer paths) next e tt
behind_in front opened stack paths t next e = cc

number_in : (exact : Bool) (front : List Placed) (opened at : ℕ) (make : Number → State) (t : Token) (next : State)
    → ((n : Number) → In (front ++ placed at (number n) ∷ []) opened (make n)) → number_step exact make t ≡ Some next
    → In (front ++ placed at t ∷ []) (opened_by t at opened) next
number_in exact front opened at make (number n) next is e =
    if_in (front ++ placed at (number n) ∷ []) opened (does_fit exact (millimetres_of n.text)) (make n) next e (is n)
number_in exact front opened at make _ next is e = cc

-- each token keeps it
bare_in : (front : List Placed) (opened : ℕ) (raised : Bool) (stack : List ItemGroup) (paths : List Path) (x y : Number)
    → In front opened (bare_second_leads raised stack paths x y)
bare_in front opened true stack paths x y = tt
bare_in front opened false stack paths x y = tt

pub step_in : (exact : Bool) (front : List Placed) (opened at : ℕ) (spot : Spot) (stack : List ItemGroup)
    (paths : List Path) (t : Token) (next : State) → IsIn front opened spot
    → step_at exact spot stack paths t ≡ Some next
    → IsIn (front ++ record { start = at; token = t } ∷ []) (opened_by t at opened) next.spot
step_in exact front opened at item stack paths t next is e =
    item_in exact front opened at (innermost stack) stack paths t next e
step_in exact front opened at (tagged kind) stack paths t next is e =
    tagged_in front opened at kind stack paths t next e
step_in exact front opened at (content inner) stack paths t next is e =
    enter_in front opened at inner stack paths t next e
step_in exact front opened at (first listing read) stack paths t next is e =
    number_in exact front opened at (λ x. state (second listing read x) stack paths) t next
    (λ n. ends_next front opened at (number n) (read_tokens read) is) e
step_in exact front opened at (second listing read x) stack paths t next is e =
    number_in exact front opened at (λ y. state (second_leads (is_raised listing) listing read x y) stack paths) t next
    (λ n. second_next front opened at listing read x n (is_raised listing) is) e
step_in exact front opened at (third listing read x y) stack paths t next is e =
    number_in exact front opened at (λ z. state (whole listing (read ++ point_with x y (Some z) ∷ [])) stack paths) t
    next
    (λ n. whole_next front opened at listing read (point_with x y (Some n)) n (number x ∷ number y ∷ []) refl is) e
step_in exact front opened at (whole listing read) stack paths t next is e =
    whole_in front opened at listing read stack paths t next is e
step_in exact front opened at (bare_second raised x) stack paths t next is e = grind (arith, number_in, bare_in)
step_in exact front opened at (bare_third x y) stack paths t next is e =
    number_in exact front opened at (λ z. bare_leads stack paths (point_with x y (Some z))) t next (λ n. tt) e
step_in exact front opened at spot stack paths t next is e =
    behind_in (front ++ placed at t ∷ []) (opened_by t at opened) stack paths t next e

pub in_points : (front : List Placed) (opened : ℕ) (listing : Listing) (read : List Point)
    → IsIn front opened (whole listing read) → EndsInPoints front opened
in_points front opened listing read (one, more, same, (before, points, split, are)) =
    (before, points, one, more, split, are)
