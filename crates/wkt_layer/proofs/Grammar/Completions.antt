-- From each state that the pass reaches some tokens lead to the end of a line.
use Rattle.std.proofs.Common.{◌≡◌, ℕ, ◌+◌, Bool, true, false, List, [], ◌∷◌, ◌++◌, length, refl, sym, ap, ◌∙◌}
use Rattle.std.proofs.Common.{append_assoc, arith, length-append}
use Rattle.std.specs.Prelude.{Option, Some, None}
use Rattle.mm_decimal.specs.AnswerValues.{millimetres_of}
use Rattle.sheet_base.specs.declared.paths.PathKind.TheVariants.{Dot}
use Rattle.wkt_layer.specs.Tokens.{Number, Token, word, number}
use Rattle.wkt_layer.specs.Numbers.{Point, IsNumber, IsThird, IsPoint, position_of}
use Rattle.wkt_layer.specs.Geometries.{dot, point, third_tokens, point_tokens, behind_item, ArePoints}
use Rattle.wkt_layer.specs.Paths.{Path, path_of}
use Rattle.wkt_layer.specs.InsideStates.{Spot, item, tagged, content, first, second, third, whole, bare_second}
use Rattle.wkt_layer.specs.InsideStates.{bare_third}
use Rattle.wkt_layer.specs.InsideStates.{innermost, point_with, kind_of, content_of, is_raised}
use Rattle.wkt_layer.proofs.Grammar.Rests.{room, ItemOf, item_tokens, more_tokens, items_tokens, IsItem, item_paths}
use Rattle.wkt_layer.proofs.Grammar.Rests.{items_paths, no_items, GoOn, Closes, ClosesPoints, Enters, Rests}
use Rattle.wkt_layer.specs.declared.words.LineWord.TheVariants.{Empty}
use Rattle.wkt_layer.specs.declared.places.Content.{Content}
use Rattle.wkt_layer.specs.declared.places.Content.TheVariants.{Points, Items}
use Rattle.wkt_layer.specs.declared.places.Listing.{Listing}
use Rattle.wkt_layer.specs.declared.places.Listing.TheVariants as listings
use Rattle.wkt_layer.specs.declared.places.ItemGroup.{ItemGroup}
use Rattle.wkt_layer.specs.declared.places.ItemGroup.TheVariants as groups
use Rattle.wkt_layer.specs.Geometries.{last_behind}
use Rattle.wkt_layer.proofs.Grammar.Items.{are_none, no_points}
use Rattle.wkt_layer.proofs.Grammar.Rings.{ring_closes_by}
use Rattle.wkt_layer.proofs.CodeReads.SheetSoFar.{last_push}

-- the points and the numbers that were read fit
abbrev pub AreRead : Bool → Spot → Type 0
AreRead exact (first listing read) = ArePoints exact (is_raised listing) read
AreRead exact (second listing read x) = ArePoints exact (is_raised listing) read × IsNumber exact x
AreRead exact (third listing read x y) = ArePoints exact (is_raised listing) read × IsNumber exact x
    × IsNumber exact y × (is_raised listing ≡ true)
AreRead exact (whole listing read) = ArePoints exact (is_raised listing) read
AreRead exact (bare_second raised x) = IsNumber exact x
AreRead exact (bare_third x y) = IsNumber exact x × IsNumber exact y
AreRead exact spot = Unit {0}

-- the number 0
abbrev pub zero_number : Number
zero_number = record { start = 0; text = 48 ∷ [] }

pub zero_fits : (exact : Bool) → IsNumber exact zero_number
unfolding millimetres_of
zero_fits true = refl
zero_fits false = refl

-- a third number where one is wanted
abbrev pub zero_third : Bool → Option Number
zero_third false = None
zero_third true = Some zero_number

third_fits : (exact raised : Bool) → IsThird exact raised (zero_third raised)
third_fits exact false = tt
third_fits exact true = zero_fits exact

abbrev zero_point : Bool → Point
zero_point raised = point_with zero_number zero_number (zero_third raised)

zero_is : (exact raised : Bool) → IsPoint exact raised (zero_point raised)
zero_is exact raised = (zero_fits exact, zero_fits exact, third_fits exact raised)

-- some tokens close what is open
abbrev CanClose : Bool → List ItemGroup → Type 0
CanClose exact stack = (tokens : List Token) × (paths : List Path) × Closes exact stack tokens paths

can_close : (exact : Bool) (stack : List ItemGroup) → CanClose exact stack
can_close exact [] = ([], [], (refl, refl))
can_close exact (group ∷ outer) =
    let (rest, later, closes) = can_close exact outer in (
      more_tokens group (no_items group) ++ rest,
      items_paths group (no_items group) ++ later,
      (no_items group, rest, later, are_none exact (room (group ∷ outer)) group, refl, closes, refl),
    )

-- points that close a path
abbrev CanGoOn : Bool → Listing → List Point → Type 0
CanGoOn exact listing read = (more : List Point) × ArePoints exact (is_raised listing) more × GoOn listing read more

length_four : (p : Point) (points : List Point) → length (points ++ (p ∷ p ∷ p ∷ p ∷ [])) ≡ length points + 4
length_four p points = simp length-append refl

ring_closes : (exact raised : Bool) (p : Point) (read : List Point) → IsPoint exact raised p
    → CanGoOn exact (listings.Ring raised) (p ∷ read)
ring_closes exact raised p read is = (
  p ∷ p ∷ p ∷ p ∷ [],
  (is, (is, (is, (is, tt)))),
  ring_closes_by p (read ++ p ∷ p ∷ p ∷ p ∷ []) (omega (arith, length_four p read))
      (ap position_of (ap (last_behind p) (sym (append_assoc read (p ∷ p ∷ p ∷ []) (p ∷ [])))
      ∙ last_push p (read ++ p ∷ p ∷ p ∷ []) p)),
)

can_go_on : (exact : Bool) (listing : Listing) (read : List Point) → ArePoints exact (is_raised listing) read
    → CanGoOn exact listing read
can_go_on exact (listings.Dot raised) read are = ([], tt, refl)
can_go_on exact (listings.List raised) read are = ([], tt, tt)
can_go_on exact (listings.Ring raised) [] are = ([], tt, tt)
can_go_on exact (listings.Ring raised) (p ∷ read) are = ring_closes exact raised p read are.0

can_close_points : (exact : Bool) (listing : Listing) (read : List Point) (stack : List ItemGroup)
    → ArePoints exact (is_raised listing) read
    → (tokens : List Token) × (paths : List Path) × ClosesPoints exact listing read stack tokens paths
can_close_points exact listing read stack are =
    let (more, are_more, on) = can_go_on exact listing read are in
    let (rest, later, closes) = can_close exact stack in (
      behind_item point_tokens more ++ rest,
      path_of (kind_of listing) (read ++ more)
          ++ later,
      (more, rest, later, are_more, on, refl, closes, refl),
    )

pub are_push : (exact raised : Bool) (read : List Point) (p : Point) → ArePoints exact raised read
    → IsPoint exact raised p → ArePoints exact raised (read ++ p ∷ [])
are_push exact raised [] p are is = (is, tt)
are_push exact raised (q ∷ read) p are is = (are.0, are_push exact raised read p are.1 is)

-- the third number of a point that wants one
pub third_is : (exact raised : Bool) (z : Number) → raised ≡ true → IsNumber exact z → IsThird exact raised (Some z)
third_is exact true z is fits = fits
third_is exact false z is fits = cc

pub third_none : (exact raised : Bool) → raised ≡ false → IsThird exact raised None
third_none exact false is = tt
third_none exact true is = cc

-- a whole item
abbrev CanBe : Bool → ℕ → ItemGroup → Type 0
CanBe exact depth group = (one : ItemOf group) × IsItem exact depth group one

can_be : (exact : Bool) (depth : ℕ) (group : ItemGroup) → CanBe exact depth group
can_be exact depth (groups.Rings raised) = ([], (tt, tt))
can_be exact depth (groups.Dots raised) = (dot [], (tt, omega arith))
can_be exact depth groups.Geometries = (point false [], (tt, omega arith))
can_be exact depth group = ([], tt)

abbrev CanFollow : Bool → Spot → List ItemGroup → Type 0
CanFollow exact spot stack = (tokens : List Token) × (paths : List Path) × Rests exact spot stack tokens paths

can_enter : (exact : Bool) (inner : Content) (stack : List ItemGroup)
    → (tokens : List Token) × (paths : List Path) × Enters exact inner stack tokens paths
can_enter exact (Points listing) stack =
    let (rest, later, closes) = can_close exact stack in
    (word Empty ∷ rest, later, ([], rest, later, no_points exact listing, refl, closes, refl))
can_enter exact (Items group) stack =
    let (rest, later, closes) = can_close exact stack in (
      items_tokens group (no_items group) ++ rest,
      items_paths group (no_items group) ++ later,
      (no_items group, rest, later, are_none exact (room (group ∷ stack)) group, refl, closes, refl),
    )

pub can_follow : (exact : Bool) (spot : Spot) (stack : List ItemGroup) → AreRead exact spot → CanFollow exact spot stack
can_follow exact item stack are =
    let (one, is) = can_be exact (room stack) (innermost stack) in
    let (rest, later, closes) = can_close exact stack in (
      item_tokens (innermost stack) one ++ rest,
      item_paths (innermost stack) one
          ++ later,
      (one, rest, later, is, refl, closes, refl),
    )
can_follow exact (tagged kind) stack are =
    let (tokens, paths, enters) = can_enter exact (content_of kind false) stack in
    (tokens, paths, (false, tokens, refl, enters))
can_follow exact (content inner) stack are = can_enter exact inner stack
can_follow exact (first listing read) stack are =
    let (rest, paths, closes) = can_close_points exact listing (read ++ zero_point (is_raised listing) ∷ []) stack
    (are_push exact (is_raised listing) read (zero_point (is_raised listing)) are
    (zero_is exact (is_raised listing))) in (
      point_tokens (zero_point (is_raised listing)) ++ rest,
      paths,
      (zero_point (is_raised listing), rest, zero_is exact (is_raised listing), refl, closes),
    )
can_follow exact (second listing read x) stack are =
    let (rest, paths, closes) = can_close_points exact listing
    (read ++ point_with x zero_number (zero_third (is_raised listing)) ∷ []) stack
    (are_push exact (is_raised listing) read (point_with x zero_number (zero_third (is_raised listing))) are.0
    (are.1, zero_fits exact, third_fits exact (is_raised listing))) in (
      number zero_number ∷ (third_tokens (zero_third (is_raised listing)) ++ rest),
      paths,
      (
        zero_number,
        zero_third (is_raised listing),
        rest,
        zero_fits exact,
        third_fits exact (is_raised listing),
        refl,
        closes,
      ),
    )
can_follow exact (third listing read x y) stack are =
    let (rest, paths, closes) = can_close_points exact listing (read ++ point_with x y (Some zero_number) ∷ []) stack
    (are_push exact (is_raised listing) read (point_with x y (Some zero_number)) are.0
    (are.1, are.2, third_is exact (is_raised listing) zero_number are.3 (zero_fits exact))) in
    (number zero_number ∷ rest, paths, (zero_number, rest, zero_fits exact, refl, closes))
can_follow exact (whole listing read) stack are = can_close_points exact listing read stack are
can_follow exact (bare_second raised x) stack are =
    let (rest, later, closes) = can_close exact stack in (
      number zero_number ∷ (third_tokens (zero_third raised) ++ rest),
      path_of Dot (point_with x zero_number (zero_third raised) ∷ []) ++ later,
      (
        zero_number,
        zero_third raised,
        rest,
        later,
        zero_fits exact,
        third_fits exact raised,
        refl,
        closes,
        refl,
      ),
    )
can_follow exact (bare_third x y) stack are =
    let (rest, later, closes) = can_close exact stack in (
      number zero_number ∷ rest,
      path_of Dot (point_with x y (Some zero_number) ∷ []) ++ later,
      (zero_number, rest, later, zero_fits exact, refl, closes, refl),
    )
can_follow exact spot stack are = can_close exact stack
