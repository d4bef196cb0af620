-- Each token that the grammar allows is taken by the pass, and what comes after it follows the state that it leads
-- to.
use Rattle.std.proofs.Common.{◌≡◌, ℕ, zero, suc, ◌<◌, inl, inr, Bool, List, [], ◌∷◌, ◌++◌, length, refl, sym, ap, ◌∙◌}
use Rattle.std.proofs.Common.{subst, append_assoc, append-nil, arith, true, false}
use Rattle.std.specs.Prelude.{Option, Some, None}
use Rattle.sheet_base.specs.declared.paths.PathKind.TheVariants.{Dot}
use Rattle.wkt_layer.specs.Tokens.{Number, Token, opening, closing, comma, word, number}
use Rattle.wkt_layer.specs.Numbers.{Point, IsNumber, IsThird}
use Rattle.wkt_layer.specs.Geometries.{dot, bare, Geometry, point, line_string, polygon, multi_point, multi_line_string}
use Rattle.wkt_layer.specs.Geometries.{multi_polygon, collection, Geometries, point_tokens, behind_item, content_tokens}
use Rattle.wkt_layer.specs.Geometries.{third_tokens, mark}
use Rattle.wkt_layer.specs.Geometries.{points_tokens, member_tokens, lists_tokens, geometry_tokens, geometries_tokens}
use Rattle.wkt_layer.specs.Geometries.{IsClosed, IsGeometry, AreGeometries}
use Rattle.wkt_layer.specs.Paths.{Path, path_of, geometry_paths, geometries_paths}
use Rattle.wkt_layer.specs.InsideStates.{Spot, item, tagged, content, first, second, third, whole, bare_second}
use Rattle.wkt_layer.specs.InsideStates.{bare_third}
use Rattle.wkt_layer.specs.InsideStates.{behind, State}
use Rattle.wkt_layer.specs.InsideStates.{state, innermost, point_with, kind_of, content_of, is_raised, may_nest}
use Rattle.wkt_layer.specs.InsideStates.{second_leads}
use Rattle.wkt_layer.specs.InsideStates.{bare_leads, bare_second_leads, step_at, enter_step, tag_step, tagged_step}
use Rattle.wkt_layer.specs.InsideStates.{number_step}
use Rattle.wkt_layer.specs.InsideStates.{item_step, whole_step, behind_step}
use Rattle.wkt_layer.proofs.Grammar.Rests.{room, ItemOf, ItemsOf, item_tokens, more_tokens, items_tokens, IsItem, AreItems}
use Rattle.wkt_layer.proofs.Grammar.Rests.{item_paths, items_paths, GoOn, Closes, ClosesPoints, Enters, Rests, Follows}
use Rattle.wkt_layer.specs.declared.limits.TheConstants.{DEEPEST}
use Rattle.wkt_layer.specs.declared.words.GeometryKind.{GeometryKind}
use Rattle.wkt_layer.specs.declared.words.GeometryKind.TheVariants as kinds
use Rattle.wkt_layer.specs.declared.words.LineWord.TheVariants.{Tag, Empty, Z}
use Rattle.wkt_layer.specs.declared.places.Content.{Content}
use Rattle.wkt_layer.specs.declared.places.Content.TheVariants.{Points, Items}
use Rattle.wkt_layer.specs.declared.places.Listing.{Listing}
use Rattle.wkt_layer.specs.declared.places.Listing.TheVariants as listings
use Rattle.wkt_layer.specs.declared.places.ItemGroup.{ItemGroup}
use Rattle.wkt_layer.specs.declared.places.ItemGroup.TheVariants as groups
use Rattle.std.proofs.lemmas.Bool.{lt-ltb}
use Rattle.wkt_layer.proofs.Grammar.Items.{split_items, tokens_none, tokens_some, more_none, more_some, paths_none, paths_some}
use Rattle.wkt_layer.proofs.Grammar.Items.{are_parts, points_parts, on_next}
use Rattle.wkt_layer.proofs.Grammar.Rings.{closed_is}

-- the pass goes on, and the tokens follow the state that it leads to
abbrev pub Leads : Bool → Option State → List Token → List Path → Type 0
Leads exact to tokens all = (next : State) × (to ≡ Some next) × Follows exact next tokens all

head : {A : Type 0} (x y : A) (xs ys : List A) → x ∷ xs ≡ y ∷ ys → x ≡ y
head x y xs ys e = cc

tail : {A : Type 0} (x y : A) (xs ys : List A) → x ∷ xs ≡ y ∷ ys → xs ≡ ys
tail x y xs ys e = cc

-- a number that fits
number_leads : (exact : Bool) (make : Number → State) (n : Number) (t : Token) (ts : List Token) (all : List Path)
    → t ≡ number n → IsNumber exact n → Follows exact (make n) ts all → Leads exact (number_step exact make t) ts all
number_leads exact make n t ts all is fits follows = rw (is, fits) (make n, refl, follows)

-- EMPTY or the opening bracket of points
enter_points : (exact : Bool) (listing : Listing) (stack : List ItemGroup) (paths : List Path) (t : Token) (ts : List Token)
    (later : List Path)
    → Enters exact (Points listing) stack (t ∷ ts) later
    → Leads exact (enter_step (Points listing) stack paths t) ts (paths ++ later)
enter_points exact listing stack paths t ts later ([], rest, close, is, same, closes, all) =
    rw (head t (word Empty) ts rest same) (
      state behind stack paths,
      refl,
      (
        close,
        subst (λ tokens. Closes exact stack tokens close) (sym (tail t (word Empty) ts rest same)) closes,
        ap
            (λ more. paths ++ more) all,
      ),
    )
enter_points exact listing stack paths t ts later (p ∷ more, rest, close, is, same, closes, all) =
    let parts = points_parts exact listing p more is in
    let all_tokens : t ∷ ts ≡ opening ∷ (point_tokens p ++ (behind_item point_tokens more ++ rest)) =
    same ∙ ap (λ x. opening ∷ x) (append_assoc (point_tokens p) (behind_item point_tokens more) rest) in
    let tokens : ts ≡ point_tokens p ++ (behind_item point_tokens more ++ rest) =
    tail t opening ts (point_tokens p ++ (behind_item point_tokens more ++ rest)) all_tokens in
    rw (head t opening ts (point_tokens p ++ (behind_item point_tokens more ++ rest)) all_tokens) (
      state (first listing []) stack paths,
      refl,
      (
        later,
        (
          p,
          behind_item point_tokens more
              ++ rest,
          parts.0,
          tokens,
          (more, rest, close, parts.1, parts.2, refl, closes, all),
        ),
        refl,
      ),
    )

-- items that are not read yet, in the list of a group
items_follow : (exact : Bool) (group : ItemGroup) (stack : List ItemGroup) (paths : List Path) (one : ItemOf group)
    (more : ItemsOf group) (ts rest : List Token) (later close : List Path)
    → IsItem exact (room (group ∷ stack)) group one → AreItems exact (room (group ∷ stack)) group more
    → ts ≡ (item_tokens group one ++ more_tokens group more) ++ rest
    → Closes exact stack rest close → later ≡ (item_paths group one ++ items_paths group more) ++ close
    → Follows exact (state item (group ∷ stack) paths) ts (paths ++ later)
items_follow exact group stack paths one more ts rest later close is are same closes all =
    grind (arith, more_tokens, items_paths, append_assoc, item_tokens, item_paths)

-- EMPTY or the opening bracket of items
enter_items : (exact : Bool) (group : ItemGroup) (stack : List ItemGroup) (paths : List Path) (t : Token) (ts : List Token)
    (later : List Path)
    → Enters exact (Items group) stack (t ∷ ts) later
    → Leads exact (enter_step (Items group) stack paths t) ts (paths ++ later)
enter_items exact group stack paths t ts later (items, rest, close, are, same, closes, all) =
    elim (split_items group items) [
      | inl none ↦
          let tokens : t ∷ ts ≡ word Empty ∷ rest = same ∙ ap (λ x. items_tokens group x ++ rest) none
          ∙ ap (λ x. x ++ rest) (tokens_none group) in
          let kept : later ≡ close = all ∙ ap (λ x. items_paths group x ++ close) none
          ∙ ap (λ x. x ++ close) (paths_none group) in
          rw (head t (word Empty) ts rest tokens) (
            state behind stack paths,
            refl,
            (
              close,
              subst (λ x. Closes exact stack x close) (sym (tail t (word Empty) ts rest tokens)) closes,
              ap
                  (λ x. paths ++ x) kept,
            ),
          )
      | inr (one, more, some) ↦
          let tokens : t ∷ ts ≡ opening ∷ ((item_tokens group one ++ more_tokens group more) ++ rest) =
          same ∙ ap (λ x. items_tokens group x ++ rest) some ∙ ap (λ x. x ++ rest) (tokens_some group one more) in
          let kept : later ≡ (item_paths group one ++ items_paths group more) ++ close =
          all ∙ ap (λ x. items_paths group x ++ close) some ∙ ap (λ x. x ++ close) (paths_some group one more) in
          let parts = are_parts exact (room (group ∷ stack)) group one more
          (subst (λ x. AreItems exact (room (group ∷ stack)) group x) some are) in
          rw (head t opening ts ((item_tokens group one ++ more_tokens group more) ++ rest) tokens) (
            state item (group ∷ stack) paths,
            refl,
            items_follow exact group stack paths one more ts rest later close parts.0 parts.1
                (tail t opening ts ((item_tokens group one ++ more_tokens group more) ++ rest) tokens) closes kept,
          )
    ]

enter_leads : (exact : Bool) (inner : Content) (stack : List ItemGroup) (paths : List Path) (t : Token) (ts : List Token)
    (later : List Path)
    → Enters exact inner stack (t ∷ ts) later → Leads exact (enter_step inner stack paths t) ts (paths ++ later)
enter_leads exact (Points listing) stack paths t ts later enters =
    enter_points exact listing stack paths t ts later enters
enter_leads exact (Items group) stack paths t ts later enters = enter_items exact group stack paths t ts later enters

-- what is not Z enters the content of a geometry without heights
enters_flat : (kind : GeometryKind) (stack : List ItemGroup) (paths : List Path) (t : Token) → (t ≡ word Z → ⊥)
    → tagged_step kind stack paths t ≡ enter_step (content_of kind false) stack paths t
enters_flat kind stack paths (word Z) unlike = absurd (unlike refl)
enters_flat _ stack paths t unlike = refl

-- no content begins with Z
no_content_points : (exact : Bool) (listing : Listing) (stack : List ItemGroup) (ts : List Token) (later : List Path)
    → Enters exact (Points listing) stack (word Z ∷ ts) later → ⊥
no_content_points exact listing stack ts later ([], rest, close, is, same, closes, all) = cc
no_content_points exact listing stack ts later (p ∷ more, rest, close, is, same, closes, all) = cc

no_content_items : (exact : Bool) (group : ItemGroup) (stack : List ItemGroup) (ts : List Token) (later : List Path)
    → Enters exact (Items group) stack (word Z ∷ ts) later → ⊥
no_content_items exact group stack ts later (items, rest, close, are, same, closes, all) =
    elim (split_items group items) [
      | inl none ↦
          let tokens : word Z ∷ ts ≡ word Empty ∷ rest = same ∙ ap (λ x. items_tokens group x ++ rest) none
          ∙ ap (λ x. x ++ rest) (tokens_none group) in cc
      | inr (one, more, some) ↦
          let tokens : word Z ∷ ts ≡ opening ∷ ((item_tokens group one ++ more_tokens group more) ++ rest) =
          same ∙ ap (λ x. items_tokens group x ++ rest) some ∙ ap (λ x. x ++ rest) (tokens_some group one more) in cc
    ]

no_content : (exact : Bool) (inner : Content) (stack : List ItemGroup) (ts : List Token) (later : List Path)
    → Enters exact inner stack (word Z ∷ ts) later → ⊥
no_content exact (Points listing) stack ts later enters = no_content_points exact listing stack ts later enters
no_content exact (Items group) stack ts later enters = no_content_items exact group stack ts later enters

-- Z, or a content
tagged_leads : (exact : Bool) (kind : GeometryKind) (stack : List ItemGroup) (paths : List Path) (t : Token) (ts : List Token)
    (later : List Path)
    → Rests exact (tagged kind) stack (t ∷ ts) later
    → Leads exact (tagged_step kind stack paths t) ts (paths ++ later)
tagged_leads exact kind stack paths t ts later (true, rest, same, enters) =
    rw (head t (word Z) ts rest same) (
      state (content (content_of kind true)) stack paths,
      refl,
      (
        later,
        subst (λ x. Enters exact (content_of kind true) stack x later) (sym (tail t (word Z) ts rest same)) enters,
        refl,
      ),
    )
tagged_leads exact kind stack paths t ts later (false, rest, same, enters) =
    let here : Enters exact (content_of kind false) stack (t ∷ ts) later =
    subst (λ x. Enters exact (content_of kind false) stack x later) (sym same) enters in
    rw (enters_flat kind stack paths t (λ is. no_content exact (content_of kind false) stack ts later
    (subst (λ x. Enters exact (content_of kind false) stack (x ∷ ts) later) is here)))
    (enter_leads exact (content_of kind false) stack paths t ts later here)

-- a tag, and after it Z or its content
tag_leads : (exact : Bool) (kind : GeometryKind) (raised : Bool) (stack : List ItemGroup) (paths : List Path) (t : Token)
    (ts rest : List Token) (later : List Path)
    → may_nest kind stack ≡ true
    → t ∷ ts ≡ word (Tag kind) ∷ (mark raised ++ rest) → Enters exact (content_of kind raised) stack rest later
    → Leads exact (tag_step stack paths t) ts (paths ++ later)
tag_leads exact kind raised stack paths t ts rest later may same enters =
    rw (head t (word (Tag kind)) ts (mark raised ++ rest) same, may) (
      state (tagged kind) stack paths,
      refl,
      (later, (raised, rest, tail t (word (Tag kind)) ts (mark raised ++ rest) same, enters), refl),
    )

-- the mark and the content of a geometry before the rest
mark_rest : (t : Token) (ts : List Token) (tag : Token) (raised : Bool) (inner rest : List Token)
    → t ∷ ts ≡ (tag ∷ (mark raised ++ inner)) ++ rest → t ∷ ts ≡ tag ∷ (mark raised ++ (inner ++ rest))
mark_rest t ts tag raised inner rest same = same ∙ ap (λ x. tag ∷ x) (append_assoc (mark raised) inner rest)

-- a collection fits where one more may nest
collection_leads : (exact raised : Bool) (stack : List ItemGroup) (paths : List Path) (t : Token) (ts rest : List Token)
    (later close : List Path) (inside : Geometries) (depth : ℕ) → depth ≡ room stack
    → IsGeometry exact depth (collection raised inside)
    → t ∷ ts ≡ word (Tag kinds.Collection) ∷ (mark raised ++ (geometries_tokens inside ++ rest))
    → Closes exact stack rest close
    → later ≡ geometries_paths inside ++ close → Leads exact (tag_step stack paths t) ts (paths ++ later)
collection_leads exact raised stack paths t ts rest later close inside zero deep is same closes all = absurd is
collection_leads exact raised stack paths t ts rest later close inside (suc depth) deep is same closes all =
    let less : length stack < DEEPEST = omega (arith, deep) in
    let left : depth ≡ room (groups.Geometries ∷ stack) = omega (arith, deep) in
    tag_leads exact kinds.Collection raised stack paths t ts (geometries_tokens inside ++ rest) later
    (lt-ltb (length stack) DEEPEST less) same
    (inside, rest, close, subst (λ d. AreGeometries exact d inside) left is, refl, closes, all)

-- a geometry
geometry_leads : (exact : Bool) (one : Geometry) (stack : List ItemGroup) (paths : List Path) (t : Token)
    (ts rest : List Token) (later close : List Path)
    → IsGeometry exact (room stack) one → t ∷ ts ≡ geometry_tokens one ++ rest → Closes exact stack rest close
    → later ≡ geometry_paths one ++ close
    → Leads exact (tag_step stack paths t) ts (paths ++ later)
geometry_leads exact (point raised points) stack paths t ts rest later close is same closes all =
    tag_leads exact kinds.Point raised stack paths t ts (points_tokens points ++ rest) later refl
    (mark_rest t ts (word (Tag kinds.Point)) raised (points_tokens points) rest same)
    (points, rest, close, is, refl, closes, all)
geometry_leads exact (line_string raised points) stack paths t ts rest later close is same closes all =
    tag_leads exact kinds.LineString raised stack paths t ts (points_tokens points ++ rest) later refl
    (mark_rest t ts (word (Tag kinds.LineString)) raised (points_tokens points) rest same)
    (points, rest, close, is, refl, closes, all)
geometry_leads exact (polygon raised rings) stack paths t ts rest later close is same closes all =
    tag_leads exact kinds.Polygon raised stack paths t ts (lists_tokens rings ++ rest) later refl
    (mark_rest t ts (word (Tag kinds.Polygon)) raised (lists_tokens rings) rest same)
    (rings, rest, close, is, refl, closes, all)
geometry_leads exact (multi_point raised members) stack paths t ts rest later close is same closes all =
    tag_leads exact kinds.MultiPoint raised stack paths t ts (content_tokens member_tokens members ++ rest) later refl
    (mark_rest t ts (word (Tag kinds.MultiPoint)) raised (content_tokens member_tokens members) rest same)
    (members, rest, close, is, refl, closes, all)
geometry_leads exact (multi_line_string raised lists) stack paths t ts rest later close is same closes all =
    tag_leads exact kinds.MultiLineString raised stack paths t ts (lists_tokens lists ++ rest) later refl
    (mark_rest t ts (word (Tag kinds.MultiLineString)) raised (lists_tokens lists) rest same)
    (lists, rest, close, is, refl, closes, all)
geometry_leads exact (multi_polygon raised polygons) stack paths t ts rest later close is same closes all =
    tag_leads exact kinds.MultiPolygon raised stack paths t ts (content_tokens lists_tokens polygons ++ rest) later refl
    (mark_rest t ts (word (Tag kinds.MultiPolygon)) raised (content_tokens lists_tokens polygons) rest same)
    (polygons, rest, close, is, refl, closes, all)
geometry_leads exact (collection raised inside) stack paths t ts rest later close is same closes all =
    collection_leads exact raised stack paths t ts rest later close inside (room stack) refl is
    (mark_rest t ts (word (Tag kinds.Collection)) raised (geometries_tokens inside) rest same) closes all

-- among dots a token that enters a dot is no number
dot_leads : (exact raised : Bool) (stack : List ItemGroup) (paths : List Path) (t : Token) (ts : List Token)
    (all : List Path)
    → Leads exact (enter_step (Points (listings.Dot raised)) stack paths t) ts all
    → Leads exact (item_step exact (groups.Dots raised) stack paths t) ts all
dot_leads exact raised stack paths (number n) ts all (next, steps, follows) = cc
dot_leads exact raised stack paths t ts all leads = leads

item_leads : (exact : Bool) (group : ItemGroup) (one : ItemOf group) (stack : List ItemGroup) (paths : List Path) (t : Token)
    (ts rest : List Token) (later close : List Path)
    → IsItem exact (room stack) group one → t ∷ ts ≡ item_tokens group one ++ rest → Closes exact stack rest close
    → later ≡ item_paths group one ++ close
    → Leads exact (item_step exact group stack paths t) ts (paths ++ later)
item_leads exact (groups.Rings raised) one stack paths t ts rest later close is same closes all =
    enter_points exact (listings.Ring raised) stack paths t ts later (one, rest, close, is, same, closes, all)
item_leads exact (groups.Lists raised) one stack paths t ts rest later close is same closes all =
    enter_points exact (listings.List raised) stack paths t ts later (one, rest, close, is, same, closes, all)
item_leads exact (groups.Polygons raised) one stack paths t ts rest later close is same closes all =
    enter_items exact (groups.Rings raised) stack paths t ts later (one, rest, close, is, same, closes, all)
item_leads exact groups.Geometries one stack paths t ts rest later close is same closes all =
    geometry_leads exact one stack paths t ts rest later close is same closes all
item_leads exact (groups.Dots raised) (dot points) stack paths t ts rest later close is same closes all =
    dot_leads exact raised stack paths t ts (paths ++ later)
    (enter_points exact (listings.Dot raised) stack paths t ts later (points, rest, close, is, same, closes, all))
item_leads exact (groups.Dots raised) (bare p) stack paths t ts rest later close is same closes all =
    rw (head t (number p.x) ts (number p.y ∷ (third_tokens p.z ++ rest)) same, is.0) (
      state (bare_second raised p.x) stack paths,
      refl,
      (
        later,
        (
          p.y,
          p.z,
          rest,
          close,
          is.1,
          is.2,
          tail t (number p.x) ts (number p.y ∷ (third_tokens p.z ++ rest)) same,
          closes,
          all,
        ),
        refl,
      ),
    )

behind_leads : (exact : Bool) (stack : List ItemGroup) (paths : List Path) (t : Token) (ts : List Token) (later : List Path)
    → Closes exact stack (t ∷ ts) later → Leads exact (behind_step stack paths t) ts (paths ++ later)
behind_leads exact [] paths t ts later (same, all) = cc
behind_leads exact (group ∷ outer) paths t ts later (items, rest, close, are, same, closes, all) =
    elim (split_items group items) [
      | inl none ↦
          let tokens : t ∷ ts ≡ closing ∷ rest = same ∙ ap (λ x. more_tokens group x ++ rest) none
          ∙ ap (λ x. x ++ rest) (more_none group) in
          let kept : later ≡ close = all ∙ ap (λ x. items_paths group x ++ close) none
          ∙ ap (λ x. x ++ close) (paths_none group) in
          rw (head t closing ts rest tokens) (
            state behind outer paths,
            refl,
            (
              close,
              subst (λ x. Closes exact outer x close) (sym (tail t closing ts rest tokens)) closes,
              ap
                  (λ x. paths ++ x) kept,
            ),
          )
      | inr (one, more, some) ↦
          let tokens : t ∷ ts ≡ comma ∷ ((item_tokens group one ++ more_tokens group more) ++ rest) =
          same ∙ ap (λ x. more_tokens group x ++ rest) some ∙ ap (λ x. x ++ rest) (more_some group one more) in
          let kept : later ≡ (item_paths group one ++ items_paths group more) ++ close =
          all ∙ ap (λ x. items_paths group x ++ close) some ∙ ap (λ x. x ++ close) (paths_some group one more) in
          let parts = are_parts exact (room (group ∷ outer)) group one more
          (subst (λ x. AreItems exact (room (group ∷ outer)) group x) some are) in
          rw (head t comma ts ((item_tokens group one ++ more_tokens group more) ++ rest) tokens) (
            state item (group ∷ outer) paths,
            refl,
            items_follow exact group outer paths one more ts rest later close parts.0 parts.1
                (tail t comma ts ((item_tokens group one ++ more_tokens group more) ++ rest) tokens) closes kept,
          )
    ]

-- the brackets of points close
points_close : (exact : Bool) (listing : Listing) (read : List Point) (stack : List ItemGroup) (paths : List Path)
    (ts rest : List Token) (later close : List Path)
    → GoOn listing read [] → ts ≡ rest → Closes exact stack rest close
    → later ≡ path_of (kind_of listing) (read ++ []) ++ close
    → Leads exact (whole_step listing read stack paths closing) ts (paths ++ later)
points_close exact listing read stack paths ts rest later close on same closes all =
    let kept : paths ++ later ≡ (paths ++ path_of (kind_of listing) read) ++ close =
    ap (λ x. paths ++ x) (all ∙ ap (λ x. path_of (kind_of listing) x ++ close) (append-nil read))
    ∙ sym (append_assoc paths (path_of (kind_of listing) read) close) in
    let ends : whole_step listing read stack paths closing
    ≡ Some (state behind stack (paths ++ path_of (kind_of listing) read)) = may listing read stack paths on in (
      state behind stack (paths ++ path_of (kind_of listing) read),
      ends,
      (close, subst (λ x. Closes exact stack x close) (sym same) closes, kept),
    )
  where
    may : (listing : Listing) (read : List Point) (stack : List ItemGroup) (paths : List Path) → GoOn listing read []
        → whole_step listing read stack paths closing
        ≡ Some (state behind stack (paths ++ path_of (kind_of listing) read))
    may (listings.Dot raised) read stack paths on = refl
    may (listings.List raised) read stack paths on = refl
    may (listings.Ring raised) read stack paths on = rw (closed_is read (subst IsClosed (append-nil read) on)) refl

points_next : (listing : Listing) (read : List Point) (p : Point) (more : List Point) (stack : List ItemGroup)
    (paths : List Path) → GoOn listing read (p ∷ more)
    → whole_step listing read stack paths comma ≡ Some (state (first listing read) stack paths)
points_next (listings.Dot raised) read p more stack paths on = cc
points_next listing read p more stack paths on = refl

whole_leads : (exact : Bool) (listing : Listing) (read : List Point) (stack : List ItemGroup) (paths : List Path)
    (t : Token) (ts : List Token) (later : List Path)
    → ClosesPoints exact listing read stack (t ∷ ts) later
    → Leads exact (whole_step listing read stack paths t) ts (paths ++ later)
whole_leads exact listing read stack paths t ts later ([], rest, close, are, on, same, closes, all) =
    rw (head t closing ts rest same) (points_close exact listing read stack paths ts rest later close on
    (tail t closing ts rest same) closes all)
whole_leads exact listing read stack paths t ts later (p ∷ more, rest, close, are, on, same, closes, all) =
    let tokens : t ∷ ts ≡ comma ∷ (point_tokens p ++ (behind_item point_tokens more ++ rest)) =
    same ∙ ap (λ x. comma ∷ x) (append_assoc (point_tokens p) (behind_item point_tokens more) rest) in
    rw (
      head t comma ts (point_tokens p ++ (behind_item point_tokens more ++ rest)) tokens,
      points_next listing read p
          more stack paths on,
    ) (
      state (first listing read) stack paths,
      refl,
      (
        later,
        (
          p,
          behind_item point_tokens more ++ rest,
          are.0,
          tail t comma ts (point_tokens p ++ (behind_item point_tokens more ++ rest)) tokens,
          (
            more,
            rest,
            close,
            are.1,
            on_next listing read p more on,
            refl,
            closes,
            all
                ∙ ap (λ x. path_of (kind_of listing) x ++ close) (sym (append_assoc read (p ∷ []) more)),
          ),
        ),
        refl,
      ),
    )

-- what follows the second number of a point
second_follows : (exact : Bool) (listing : Listing) (read : List Point) (x y : Number) (z : Option Number)
    (raised : Bool) (stack : List ItemGroup) (paths : List Path) (ts rest : List Token) (later : List Path)
    → IsThird exact raised z → ts ≡ third_tokens z ++ rest
    → ClosesPoints exact listing (read ++ point_with x y z ∷ []) stack rest later
    → Follows exact (state (second_leads raised listing read x y) stack paths) ts (paths ++ later)
second_follows exact listing read x y None true stack paths ts rest later is same closes = absurd is
second_follows exact listing read x y (Some z) false stack paths ts rest later is same closes = absurd is
second_follows exact listing read x y None false stack paths ts rest later is same closes = grind (arith, ClosesPoints)
second_follows exact listing read x y (Some z) true stack paths ts rest later is same closes =
    (later, (z, rest, is, same, closes), refl)

-- what follows the last number of a point without brackets
bare_follows : (exact : Bool) (p : Point) (stack : List ItemGroup) (paths : List Path) (ts rest : List Token)
    (later close : List Path)
    → ts ≡ rest → Closes exact stack rest close → later ≡ path_of Dot (p ∷ []) ++ close
    → Follows exact (bare_leads stack paths p) ts (paths ++ later)
bare_follows exact p stack paths ts rest later close same closes all = grind (arith, Closes, append_assoc)

bare_second_follows : (exact raised : Bool) (x y : Number) (z : Option Number) (stack : List ItemGroup) (paths : List Path)
    (ts rest : List Token) (later close : List Path)
    → IsThird exact raised z → ts ≡ third_tokens z ++ rest → Closes exact stack rest close
    → later ≡ path_of Dot (point_with x y z ∷ []) ++ close
    → Follows exact (bare_second_leads raised stack paths x y) ts (paths ++ later)
bare_second_follows exact true x y None stack paths ts rest later close is same closes all = absurd is
bare_second_follows exact false x y (Some z) stack paths ts rest later close is same closes all = absurd is
bare_second_follows exact false x y None stack paths ts rest later close is same closes all =
    bare_follows exact (point_with x y None) stack paths ts rest later close same closes all
bare_second_follows exact true x y (Some z) stack paths ts rest later close is same closes all =
    (later, (z, rest, close, is, same, closes, all), refl)

-- each token that may follow a state is taken
pub token_leads : (exact : Bool) (spot : Spot) (stack : List ItemGroup) (paths : List Path) (t : Token) (ts : List Token)
    (later : List Path)
    → Rests exact spot stack (t ∷ ts) later → Leads exact (step_at exact spot stack paths t) ts (paths ++ later)
token_leads exact item stack paths t ts later (one, rest, close, is, same, closes, all) =
    item_leads exact (innermost stack) one stack paths t ts rest later close is same closes all
token_leads exact (tagged kind) stack paths t ts later rests = tagged_leads exact kind stack paths t ts later rests
token_leads exact (content inner) stack paths t ts later enters = enter_leads exact inner stack paths t ts later enters
token_leads exact (first listing read) stack paths t ts later (p, rest, is, same, closes) =
    number_leads exact (λ x. state (second listing read x) stack paths) p.x t ts (paths ++ later)
    (head t (number p.x) ts (number p.y ∷ (third_tokens p.z ++ rest)) same) is.0 (
      later,
      (
        p.y,
        p.z,
        rest,
        is.1,
        is.2,
        tail t (number p.x) ts (number p.y ∷ (third_tokens p.z ++ rest)) same,
        closes,
      ),
      refl,
    )
token_leads exact (second listing read x) stack paths t ts later (y, z, rest, is, is_third, same, closes) =
    number_leads exact (λ y. state (second_leads (is_raised listing) listing read x y) stack paths) y t ts
    (paths ++ later) (head t (number y) ts (third_tokens z ++ rest) same) is
    (second_follows exact listing read x y z (is_raised listing) stack paths ts rest later is_third
    (tail t (number y) ts (third_tokens z ++ rest) same) closes)
token_leads exact (third listing read x y) stack paths t ts later (z, rest, is, same, closes) =
    number_leads exact (λ z. state (whole listing (read ++ point_with x y (Some z) ∷ [])) stack paths) z t ts
    (paths ++ later) (head t (number z) ts rest same) is (
      later,
      subst (λ tokens. ClosesPoints exact listing (read ++ point_with x y (Some z) ∷ []) stack tokens later)
          (sym (tail t (number z) ts rest same)) closes,
      refl,
    )
token_leads exact (whole listing read) stack paths t ts later closes =
    whole_leads exact listing read stack paths t ts later closes
token_leads exact (bare_second raised x) stack paths t ts later (y, z, rest, close, is, is_third, same, closes, all) =
    number_leads exact (λ y. bare_second_leads raised stack paths x y) y t ts (paths ++ later)
    (head t (number y) ts (third_tokens z ++ rest) same) is
    (bare_second_follows exact raised x y z stack paths ts rest later close is_third
    (tail t (number y) ts (third_tokens z ++ rest) same) closes all)
token_leads exact (bare_third x y) stack paths t ts later (z, rest, close, is, same, closes, all) =
    number_leads exact (λ z. bare_leads stack paths (point_with x y (Some z))) z t ts (paths ++ later)
    (head t (number z) ts rest same) is
    (bare_follows exact (point_with x y (Some z)) stack paths ts rest later close (tail t (number z) ts rest same)
    closes all)
token_leads exact spot stack paths t ts later closes = behind_leads exact stack paths t ts later closes
