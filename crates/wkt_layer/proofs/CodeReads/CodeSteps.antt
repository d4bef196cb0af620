-- The code goes where the pass goes.
use Rattle.std.proofs.Common.{◌≡◌, ℕ, Bool, true, false, List, [], ◌∷◌, ◌++◌, refl, sym, ◌∙◌, subst}
use Rattle.std.specs.Prelude.{Some, None, Ok, if◌then◌else◌}
use Rattle.mm_decimal.specs.AnswerValues.{millimetres_of}
use Rattle.mm_decimal.specs.declared.numerals.MmRead.{MmRead}
use Rattle.wkt_layer.specs.Tokens.{Number, Token, opening, closing, word}
use Rattle.wkt_layer.specs.Numbers.{Point}
use Rattle.wkt_layer.specs.Paths.{Path, path_of}
use Rattle.wkt_layer.specs.InsideStates.{Spot, item, tagged, content, first, second, third, bare_second}
use Rattle.wkt_layer.specs.InsideStates.{bare_third}
use Rattle.wkt_layer.specs.InsideStates.{bare_whole, behind, State}
use Rattle.wkt_layer.specs.InsideStates.{state, content_of, enter_step, tag_step, tagged_step, item_step, number_step}
use Rattle.wkt_layer.specs.InsideStates.{whole_step, behind_step}
use Rattle.wkt_layer.specs.InsideStates.{may_end, kind_of, opened_by, IsLast}
use Rattle.wkt_layer.specs.InsidePasses.{token_for, Shows, AreSome, IsFit, IsUnfit, points_at}
use Rattle.wkt_layer.specs.declared.places.Content.{Content}
use Rattle.wkt_layer.specs.declared.places.Content.TheVariants.{Points, Items}
use Rattle.wkt_layer.specs.declared.places.Listing.{Listing}
use Rattle.wkt_layer.specs.declared.places.Listing.TheVariants as listings
use Rattle.wkt_layer.specs.declared.places.ItemGroup.{ItemGroup}
use Rattle.wkt_layer.specs.declared.places.ItemGroup.TheVariants as groups
use Rattle.wkt_layer.specs.declared.places.TokenPlace.TheVariants as places
use Rattle.wkt_layer.specs.declared.words.LineWord.{LineWord}
use Rattle.wkt_layer.specs.declared.words.GeometryKind.{GeometryKind}
use Rattle.wkt_layer.specs.declared.words.LineWord.TheVariants.{Empty, Z}
use Rattle.wkt_layer.specs.declared.tokens.TokenKind.{TokenKind}
use Rattle.wkt_layer.specs.declared.tokens.TokenKind.TheVariants as signs

empty_enters : (inner : Content) (stack : List ItemGroup) (paths : List Path)
    → enter_step inner stack paths (word Empty) ≡ Some (state behind stack paths)
empty_enters (Points listing) stack paths = refl
empty_enters (Items group) stack paths = refl

pub enter_empty : (inner : Content) (stack : List ItemGroup) (paths : List Path) (at : ℕ) (text : List ℕ) (sign : TokenKind)
    (w : LineWord) → sign ≡ signs.Word w → w ≡ Empty
    → enter_step inner stack paths (token_for at text sign) ≡ Some (state behind stack paths)
enter_empty inner stack paths at text sign w is empty = rw (is, empty) (empty_enters inner stack paths)

pub opened_empty : (at before : ℕ) (text : List ℕ) (sign : TokenKind) (w : LineWord) → sign ≡ signs.Word w
    → before ≡ opened_by (token_for at text sign) at before
opened_empty at before text sign w is = rw is refl

pub enter_listing : (inner : Content) (listing : Listing) (stack : List ItemGroup) (paths : List Path) (at : ℕ)
    (text : List ℕ) (sign : TokenKind) → sign ≡ signs.Opening → inner ≡ Points listing
    → enter_step inner stack paths (token_for at text sign) ≡ Some (state (first listing []) stack paths)
enter_listing inner listing stack paths at text sign is points = rw (is, points) refl

pub enter_group : (inner : Content) (group : ItemGroup) (stack : List ItemGroup) (paths : List Path) (at : ℕ) (text : List ℕ)
    (sign : TokenKind) → sign ≡ signs.Opening → inner ≡ Items group
    → enter_step inner stack paths (token_for at text sign) ≡ Some (state item (group ∷ stack) paths)
enter_group inner group stack paths at text sign is items = rw (is, items) refl

pub opened_here : (at before : ℕ) (text : List ℕ) (sign : TokenKind) → sign ≡ signs.Opening
    → at ≡ opened_by (token_for at text sign) at before
opened_here at before text sign is = rw is refl

pub at_second : (listing : Listing) (read : MmRead) (start : ℕ) (spot : Spot)
    → Shows (places.Second listing read start) spot → (P : Spot → Type 0)
    → ((points : List Point) (x : Number) → millimetres_of x.text ≡ Ok read → start ≡ x.start → P (second listing points x))
    → P spot
at_second listing read start (tagged kind) shows P there = absurd shows
at_second listing read start (second other points x) shows P there =
    subst (λ y. P (second y points x)) shows.0 (there points x shows.1 shows.2)
at_second listing _ start spot shows P there = absurd shows

pub at_third : (listing : Listing) (read next : MmRead) (start : ℕ) (spot : Spot)
    → Shows (places.Third listing read next start) spot → (P : Spot → Type 0)
    → ((points : List Point) (x y : Number) → millimetres_of x.text ≡ Ok read → millimetres_of y.text ≡ Ok next → start ≡ x.start
    → P (third listing points x y)) → P spot
at_third listing read next start (tagged kind) shows P there = absurd shows
at_third listing read next start (third other points x y) shows P there =
    subst (λ l. P (third l points x y)) shows.0 (there points x y shows.1 shows.2 shows.3)
at_third listing _ next start spot shows P there = absurd shows

pub at_bare_second : (raised : Bool) (read : MmRead) (start : ℕ) (spot : Spot)
    → Shows (places.BareSecond raised read start) spot → (P : Spot → Type 0)
    → ((x : Number) → millimetres_of x.text ≡ Ok read → start ≡ x.start → P (bare_second raised x)) → P spot
at_bare_second raised read start (tagged kind) shows P there = absurd shows
at_bare_second raised read start (bare_second other x) shows P there =
    subst (λ r. P (bare_second r x)) shows.0 (there x shows.1 shows.2)
at_bare_second raised _ start spot shows P there = absurd shows

pub at_bare_third : (read next : MmRead) (start : ℕ) (spot : Spot)
    → Shows (places.BareThird read next start) spot → (P : Spot → Type 0)
    → ((x y : Number) → millimetres_of x.text ≡ Ok read → millimetres_of y.text ≡ Ok next → start ≡ x.start
    → P (bare_third x y)) → P spot
at_bare_third read next start (tagged kind) shows P there = absurd shows
at_bare_third read next start (bare_third x y) shows P there = there x y shows.0 shows.1 shows.2
at_bare_third _ next start spot shows P there = absurd shows

-- after a tag what is no Z is as after the content of a geometry without heights
pub tagged_enters : (kind : GeometryKind) (stack : List ItemGroup) (paths : List Path) (at : ℕ) (text : List ℕ) (sign : TokenKind)
    → ((w : LineWord) → sign ≡ signs.Word w → w ≡ Z → ⊥)
    → enter_step (content_of kind false) stack paths (token_for at text sign)
    ≡ tagged_step kind stack paths (token_for at text sign)
tagged_enters kind stack paths at text (signs.Word Z) unlike = absurd (unlike Z refl refl)
tagged_enters _ stack paths at text sign unlike = refl

pub same_word : (sign : TokenKind) (w other : LineWord) → sign ≡ signs.Word w → sign ≡ signs.Word other → other ≡ Z → w ≡ Z
same_word sign w other is too mark = let e : signs.Word w ≡ signs.Word other = sym is ∙ too in
    let f : w ≡ other = cc in f ∙ mark

pub tagged_mark : (kind : GeometryKind) (stack : List ItemGroup) (paths : List Path) (at : ℕ) (text : List ℕ) (sign : TokenKind)
    (w : LineWord) → sign ≡ signs.Word w → w ≡ Z
    → tagged_step kind stack paths (token_for at text sign)
    ≡ Some (state (content (content_of kind true)) stack paths)
tagged_mark kind stack paths at text sign w is is_mark = rw (is, is_mark) refl

-- a tag is no bracket
pub opened_tag : (stack : List ItemGroup) (paths : List Path) (t : Token) (s : State) (at before : ℕ)
    → tag_step stack paths t ≡ Some s → before ≡ opened_by t at before
opened_tag stack paths opening s at before e = cc
opened_tag stack paths t s at before e = refl

-- among dots a token that is no number that fits is as in front of a dot
pub dots_enter : (exact raised : Bool) (stack : List ItemGroup) (paths : List Path) (at : ℕ) (text : List ℕ) (sign : TokenKind)
    → IsUnfit exact sign text
    → enter_step (Points (listings.Dot raised)) stack paths (token_for at text sign)
    ≡ item_step exact (groups.Dots raised) stack paths (token_for at text sign)
dots_enter exact raised stack paths at text signs.Number unfit = rw (unfit refl) refl
dots_enter exact raised stack paths at text sign unfit = refl

-- a number that fits leads on
pub number_goes : (exact : Bool) (make : Number → State) (at : ℕ) (text : List ℕ) (sign : TokenKind) (read : MmRead)
    → IsFit exact sign text read
    → number_step exact make (token_for at text sign) ≡ Some (make (record { start = at; text = text }))
number_goes exact make at text sign read fit = rw (fit.is, fit.fits) refl

pub opened_number : (exact : Bool) (at before : ℕ) (text : List ℕ) (sign : TokenKind) (read : MmRead)
    → IsFit exact sign text read → before ≡ opened_by (token_for at text sign) at before
opened_number exact at before text sign read fit = rw (fit.is) refl

pub dot_number : (exact raised : Bool) (stack : List ItemGroup) (paths : List Path) (at : ℕ) (text : List ℕ) (sign : TokenKind)
    (read : MmRead) → IsFit exact sign text read
    → item_step exact (groups.Dots raised) stack paths (token_for at text sign)
    ≡ Some (state (bare_second raised (record { start = at; text = text })) stack paths)
dot_number exact raised stack paths at text sign read fit = rw (fit.is, fit.fits) refl

-- after points and items
pub comma_goes : (listing : Listing) (points : List Point) (stack : List ItemGroup) (paths : List Path) (at : ℕ)
    (text : List ℕ) (sign : TokenKind) → sign ≡ signs.Comma
    → ((raised : Bool) → listing ≡ listings.Dot raised → ⊥)
    → whole_step listing points stack paths (token_for at text sign) ≡ Some (state (first listing points) stack paths)
comma_goes (listings.Dot raised) points stack paths at text sign is no_dot = absurd (no_dot raised refl)
comma_goes listing points stack paths at text sign is no_dot = rw is refl

pub opened_comma : (at before : ℕ) (text : List ℕ) (sign : TokenKind) → sign ≡ signs.Comma
    → before ≡ opened_by (token_for at text sign) at before
opened_comma at before text sign is = rw is refl

pub opened_closing : (at before : ℕ) (text : List ℕ) (sign : TokenKind) → sign ≡ signs.Closing
    → before ≡ opened_by (token_for at text sign) at before
opened_closing at before text sign is = rw is refl

whole_closes : (listing : Listing) (points : List Point) (stack : List ItemGroup) (paths : List Path)
    → whole_step listing points stack paths closing
    ≡ (if may_end listing points then Some (state behind stack (paths ++ path_of (kind_of listing) points)) else None)
whole_closes (listings.Dot raised) points stack paths = refl
whole_closes listing points stack paths = refl

pub closing_goes : (listing : Listing) (points : List Point) (stack : List ItemGroup) (paths : List Path) (at : ℕ)
    (text : List ℕ) (sign : TokenKind) → sign ≡ signs.Closing
    → may_end listing points ≡ true → whole_step listing points stack paths (token_for at text sign)
    ≡ Some (state behind stack (paths ++ path_of (kind_of listing) points))
closing_goes listing points stack paths at text sign is may =
    rw (is) (whole_closes listing points stack paths ∙ (rw may refl))

pub item_goes : (group : ItemGroup) (outer stack : List ItemGroup) (paths : List Path) (at : ℕ) (text : List ℕ) (sign : TokenKind)
    → sign ≡ signs.Comma → stack ≡ group ∷ outer
    → behind_step stack paths (token_for at text sign) ≡ Some (state item stack paths)
item_goes group outer stack paths at text sign is some = rw (is, some) refl

pub close_goes : (group : ItemGroup) (outer stack : List ItemGroup) (paths : List Path) (at : ℕ) (text : List ℕ) (sign : TokenKind)
    → sign ≡ signs.Closing → stack ≡ group ∷ outer
    → behind_step stack paths (token_for at text sign) ≡ Some (state behind outer paths)
close_goes group outer stack paths at text sign is some = rw (is, some) refl

pub some_push : (points : List Point) (p : Point) → AreSome (points ++ p ∷ [])
some_push [] p = tt
some_push (one ∷ points) p = tt

-- a line that may end has no points that wait
pub last_points : (spot : Spot) → IsLast spot → points_at spot ≡ []
last_points bare_whole last = refl
last_points behind last = refl
last_points (tagged kind) last = absurd last
last_points spot last = absurd last
