-- A token that the pass takes is one that the grammar allows: what follows the state after it follows the state
-- before, after the token.
use Rattle.std.proofs.Common.{◌≡◌, suc, ◌<◌, Bool, true, false, List, [], ◌∷◌, ◌++◌, length, refl, sym, ap, ◌∙◌, subst}
use Rattle.std.proofs.Common.{append_assoc, append-nil, arith}
use Rattle.std.specs.Prelude.{Some, None, if◌then◌else◌}
use Rattle.std.proofs.lemmas.Option.{same_Some}
use Rattle.mm_decimal.specs.AnswerValues.{millimetres_of}
use Rattle.sheet_base.specs.declared.paths.PathKind.TheVariants.{Dot}
use Rattle.wkt_layer.specs.Tokens.{Number, Token, opening, closing, comma, word, number}
use Rattle.wkt_layer.specs.Numbers.{Point, IsNumber, does_fit}
use Rattle.wkt_layer.specs.Geometries.{dot, bare, point, line_string, polygon, multi_point, multi_line_string}
use Rattle.wkt_layer.specs.Geometries.{multi_polygon, collection, point_tokens, behind_item, mark}
use Rattle.wkt_layer.specs.Geometries.{IsClosed, IsGeometry}
use Rattle.wkt_layer.specs.Paths.{Path, path_of}
use Rattle.wkt_layer.specs.InsideStates.{Spot, item, tagged, content, first, second, third, whole, bare_second}
use Rattle.wkt_layer.specs.InsideStates.{bare_third}
use Rattle.wkt_layer.specs.InsideStates.{behind, State}
use Rattle.wkt_layer.specs.InsideStates.{state, innermost, point_with, kind_of, content_of, is_raised, may_nest}
use Rattle.wkt_layer.specs.InsideStates.{second_leads}
use Rattle.wkt_layer.specs.InsideStates.{bare_leads, bare_second_leads, step_at, enter_step, tag_step, tagged_step}
use Rattle.wkt_layer.specs.InsideStates.{number_step}
use Rattle.wkt_layer.specs.InsideStates.{item_step, whole_step, behind_step, may_end}
use Rattle.wkt_layer.proofs.Grammar.Rests.{room, ItemOf, item_tokens, more_tokens, IsItem, item_paths, items_paths, no_items}
use Rattle.wkt_layer.proofs.Grammar.Rests.{one_more, GoOn, Closes, ClosesPoints, Enters, Follows}
use Rattle.wkt_layer.specs.declared.limits.TheConstants.{DEEPEST}
use Rattle.wkt_layer.specs.declared.words.GeometryKind.{GeometryKind}
use Rattle.wkt_layer.specs.declared.words.GeometryKind.TheVariants as kinds
use Rattle.wkt_layer.specs.declared.words.LineWord.TheVariants.{Tag, Empty, Z}
use Rattle.wkt_layer.specs.declared.places.Content.{Content}
use Rattle.wkt_layer.specs.declared.places.Content.TheVariants.{Points, Items}
use Rattle.wkt_layer.specs.declared.places.Listing.{Listing}
use Rattle.wkt_layer.specs.declared.places.Listing.TheVariants as listings
use Rattle.wkt_layer.specs.declared.places.ItemGroup.{ItemGroup}
use Rattle.wkt_layer.specs.declared.places.ItemGroup.TheVariants as groups
use Rattle.std.proofs.lemmas.Bool.{ltb-true}
use Rattle.wkt_layer.proofs.Grammar.Items.{tokens_none, tokens_some, more_none, more_some, paths_none, paths_some, are_none}
use Rattle.wkt_layer.proofs.Grammar.Items.{are_some, points_whole, no_points, on_before}
use Rattle.wkt_layer.proofs.Grammar.Rings.{is_closed_is}
use Rattle.wkt_layer.proofs.Grammar.Completions.{third_is, third_none}

-- the tokens with this one in front follow the state
abbrev pub Before : Bool → Spot → List ItemGroup → List Path → Token → List Token → List Path → Type 0
Before exact spot stack paths t ts all = Follows exact (state spot stack paths) (t ∷ ts) all

if_some : {A : Type 0} (b : Bool) (one next : A) → (if b then Some one else None) ≡ Some next
    → (b ≡ true) × (next ≡ one)
if_some true one next e = (refl, sym (same_Some one next e))
if_some false one next e = cc

-- a number that was taken
pub number_taken : (exact : Bool) (make : Number → State) (t : Token) (next : State)
    → number_step exact make t ≡ Some next
    → (n : Number) × (t ≡ number n) × IsNumber exact n × (next ≡ make n)
number_taken exact make (number n) next e = grind (arith, if_some)
number_taken exact make _ next e = cc

-- EMPTY
empty_before : (exact : Bool) (inner : Content) (stack : List ItemGroup) (paths : List Path) (ts : List Token)
    (all : List Path)
    → Follows exact (state behind stack paths) ts all
    → (later : List Path) × Enters exact inner stack (word Empty ∷ ts) later × (all ≡ paths ++ later)
empty_before exact (Points listing) stack paths ts all (close, closes, same) =
    (close, ([], ts, close, no_points exact listing, refl, closes, refl), same)
empty_before exact (Items group) stack paths ts all (close, closes, same) = (
  close,
  (
    no_items group,
    ts,
    close,
    are_none exact (room (group ∷ stack)) group,
    ap (λ x. x ++ ts) (sym (tokens_none group)),
    closes,
    ap (λ x. x ++ close) (sym (paths_none group)),
  ),
  same,
)

-- an opening bracket
opening_before : (exact : Bool) (inner : Content) (stack : List ItemGroup) (paths : List Path) (next : State)
    (ts : List Token) (all : List Path)
    → enter_step inner stack paths opening ≡ Some next → Follows exact next ts all
    → (later : List Path) × Enters exact inner stack (opening ∷ ts) later × (all ≡ paths ++ later)
opening_before exact (Points listing) stack paths next ts all e follows =
    let here = subst (λ s. Follows exact s ts all) (sym (same_Some (state (first listing []) stack paths) next e))
    follows in
    let (later, (p, tokens, is, same, (more, rest, close, are, on, tokens_are, closes, paths_are)), all_are) = here in (
      later,
      (
        p ∷ more,
        rest,
        close,
        points_whole exact listing p more is are on,
        ap (λ x. opening ∷ x) (same ∙ ap (λ x. point_tokens p ++ x) tokens_are
            ∙ sym (append_assoc (point_tokens p) (behind_item point_tokens more) rest)),
        closes,
        paths_are,
      ),
      all_are,
    )
opening_before exact (Items group) stack paths next ts all e follows =
    let here = subst (λ s. Follows exact s ts all) (sym (same_Some (state item (group ∷ stack) paths) next e))
    follows in
    let (
      later,
      (
        one,
        tokens,
        rest_paths,
        is,
        same,
        (more, rest, close, are, tokens_are, closes, more_paths),
        paths_are,
      ),
      all_are,
    ) = here in (
      later,
      (
        one_more group one more,
        rest,
        close,
        are_some exact (room (group ∷ stack)) group one more is are,
        ap (λ x. opening ∷ x) (same ∙ ap (λ x. item_tokens group one ++ x) tokens_are
            ∙ sym (append_assoc (item_tokens group one) (more_tokens group more) rest))
            ∙ ap (λ x. x ++ rest) (sym (tokens_some group one more)),
        closes,
        paths_are ∙ ap (λ x. item_paths group one ++ x) more_paths
            ∙ sym (append_assoc (item_paths group one) (items_paths group more) close)
            ∙ ap (λ x. x ++ close) (sym (paths_some group one more)),
      ),
      all_are,
    )

enter_before : (exact : Bool) (inner : Content) (stack : List ItemGroup) (paths : List Path) (t : Token) (next : State)
    (ts : List Token) (all : List Path)
    → enter_step inner stack paths t ≡ Some next → Follows exact next ts all
    → (later : List Path) × Enters exact inner stack (t ∷ ts) later × (all ≡ paths ++ later)
enter_before exact inner stack paths opening next ts all e follows =
    opening_before exact inner stack paths next ts all e follows
enter_before exact (Points listing) stack paths (word Empty) next ts all e follows =
    empty_before exact (Points listing) stack paths ts all
    (subst (λ s. Follows exact s ts all) (sym (same_Some (state behind stack paths) next e)) follows)
enter_before exact (Items group) stack paths (word Empty) next ts all e follows =
    empty_before exact (Items group) stack paths ts all
    (subst (λ s. Follows exact s ts all) (sym (same_Some (state behind stack paths) next e)) follows)
enter_before exact (Points listing) stack paths (word (Tag kind)) next ts all e follows = cc
enter_before exact (Items group) stack paths (word (Tag kind)) next ts all e follows = cc
enter_before exact inner stack paths t next ts all e follows = cc

-- one item of a group begins so
abbrev Begun : Bool → ItemGroup → List ItemGroup → List Path → List Token → List Path → Type 0
Begun exact group stack paths tokens all =
    (later : List Path)
    × ((one : ItemOf group) × (rest : List Token) × (close : List Path)
    × IsItem exact (room stack) group one × (tokens ≡ item_tokens group one ++ rest) × Closes exact stack rest close
    × (later ≡ item_paths group one ++ close))
    × (all ≡ paths ++ later)

-- a geometry's tag, mark and content, and what comes after it
abbrev Made : Bool → GeometryKind → Bool → List ItemGroup → List Token → List Path → Type 0
Made exact kind raised stack rest later =
    (one : ItemOf groups.Geometries) × (after : List Token) × (close : List Path)
    × IsItem exact (room stack) groups.Geometries one
    × (word (Tag kind) ∷ (mark raised ++ rest) ≡ item_tokens groups.Geometries one ++ after)
    × Closes exact stack after close × (later ≡ item_paths groups.Geometries one ++ close)

mark_content : (kind : GeometryKind) (raised : Bool) (inner rest after : List Token) → rest ≡ inner ++ after
    → word (Tag kind) ∷ (mark raised ++ rest) ≡ (word (Tag kind) ∷ (mark raised ++ inner)) ++ after
mark_content kind raised inner rest after same = ap (λ x. word (Tag kind) ∷ (mark raised ++ x)) same
    ∙ ap (λ x. word (Tag kind) ∷ x) (sym (append_assoc (mark raised) inner after))

made : (exact : Bool) (kind : GeometryKind) (raised : Bool) (stack : List ItemGroup) (rest : List Token) (later : List Path)
    → may_nest kind stack ≡ true → Enters exact (content_of kind raised) stack rest later
    → Made exact kind raised stack rest later
made exact kinds.Point raised stack rest later may (points, after, close, is, same, closes, paths_are) =
    (point raised points, after, close, is, mark_content kinds.Point raised _ rest after same, closes, paths_are)
made exact kinds.LineString raised stack rest later may (points, after, close, is, same, closes, paths_are) = (
  line_string raised points,
  after,
  close,
  is,
  mark_content kinds.LineString raised _ rest after same,
  closes,
  paths_are,
)
made exact kinds.Polygon raised stack rest later may (items, after, close, is, same, closes, paths_are) =
    (polygon raised items, after, close, is, mark_content kinds.Polygon raised _ rest after same, closes, paths_are)
made exact kinds.MultiPoint raised stack rest later may (items, after, close, is, same, closes, paths_are) = (
  multi_point raised items,
  after,
  close,
  is,
  mark_content kinds.MultiPoint raised _ rest after same,
  closes,
  paths_are,
)
made exact kinds.MultiLineString raised stack rest later may (items, after, close, is, same, closes, paths_are) = (
  multi_line_string raised items,
  after,
  close,
  is,
  mark_content kinds.MultiLineString raised _ rest after same,
  closes,
  paths_are,
)
made exact kinds.MultiPolygon raised stack rest later may (items, after, close, is, same, closes, paths_are) = (
  multi_polygon raised items,
  after,
  close,
  is,
  mark_content kinds.MultiPolygon raised _ rest after same,
  closes,
  paths_are,
)
made exact kinds.Collection raised stack rest later may (items, after, close, is, same, closes, paths_are) =
    let less : length stack < DEEPEST = ltb-true (length stack) DEEPEST may in
    let left : suc (room (groups.Geometries ∷ stack)) ≡ room stack = omega arith in (
      collection raised items,
      after,
      close,
      subst (λ d. IsGeometry exact d (collection raised items)) left is,
      mark_content kinds.Collection raised _ rest after same,
      closes,
      paths_are,
    )

-- a tag
tag_before : (exact : Bool) (stack : List ItemGroup) (paths : List Path) (t : Token) (next : State) (ts : List Token)
    (all : List Path)
    → tag_step stack paths t ≡ Some next → Follows exact next ts all
    → Begun exact groups.Geometries stack paths (t ∷ ts) all
tag_before exact stack paths (word (Tag kind)) next ts all e follows = grind (arith, if_some, Follows, made)
tag_before exact stack paths t next ts all e follows = cc

-- Z, or a content
flat_before : (exact : Bool) (kind : GeometryKind) (stack : List ItemGroup) (paths : List Path) (t : Token) (next : State)
    (ts : List Token) (all : List Path)
    → enter_step (content_of kind false) stack paths t ≡ Some next → Follows exact next ts all
    → Before exact (tagged kind) stack paths t ts all
flat_before exact kind stack paths t next ts all e follows =
    let (later, enters, same) = enter_before exact (content_of kind false) stack paths t next ts all e follows in
    (later, (false, t ∷ ts, refl, enters), same)

tagged_before : (exact : Bool) (kind : GeometryKind) (stack : List ItemGroup) (paths : List Path) (t : Token) (next : State)
    (ts : List Token) (all : List Path)
    → tagged_step kind stack paths t ≡ Some next → Follows exact next ts all
    → Before exact (tagged kind) stack paths t ts all
tagged_before exact kind stack paths (word Z) next ts all e follows = grind (arith, Follows, same_Some)
tagged_before exact other stack paths t next ts all e follows =
    flat_before exact other stack paths t next ts all e follows

-- a dot of a multipoint
dot_before : (exact raised : Bool) (stack : List ItemGroup) (paths : List Path) (t : Token) (next : State) (ts : List Token)
    (all : List Path)
    → enter_step (Points (listings.Dot raised)) stack paths t ≡ Some next → Follows exact next ts all
    → Begun exact (groups.Dots raised) stack paths (t ∷ ts) all
dot_before exact raised stack paths t next ts all e follows =
    let (later, (points, rest, close, is, same, closes, paths_are), all_are) =
    enter_before exact (Points (listings.Dot raised)) stack paths t next ts all e follows in
    (later, (dot points, rest, close, is, same, closes, paths_are), all_are)

bare_before : (exact raised : Bool) (stack : List ItemGroup) (paths : List Path) (n : Number) (next : State)
    (ts : List Token) (all : List Path)
    → number_step exact (λ x. state (bare_second raised x) stack paths) (number n) ≡ Some next
    → Follows exact next ts all
    → Begun exact (groups.Dots raised) stack paths (number n ∷ ts) all
bare_before exact raised stack paths n next ts all e follows =
    let taken = if_some (does_fit exact (millimetres_of n.text)) (state (bare_second raised n) stack paths) next e in
    let (later, (y, z, rest, close, is, is_third, same, closes, paths_are), all_are) =
    subst (λ s. Follows exact s ts all) taken.1 follows in (
      later,
      (
        bare (point_with n y z),
        rest,
        close,
        (taken.0, is, is_third),
        ap (λ x. number n ∷ x) same,
        closes,
        paths_are,
      ),
      all_are,
    )

item_before : (exact : Bool) (group : ItemGroup) (stack : List ItemGroup) (paths : List Path) (t : Token) (next : State)
    (ts : List Token) (all : List Path)
    → item_step exact group stack paths t ≡ Some next → Follows exact next ts all
    → Begun exact group stack paths (t ∷ ts) all
item_before exact (groups.Rings raised) stack paths t next ts all e follows =
    enter_before exact (Points (listings.Ring raised)) stack paths t next ts all e follows
item_before exact (groups.Lists raised) stack paths t next ts all e follows =
    enter_before exact (Points (listings.List raised)) stack paths t next ts all e follows
item_before exact (groups.Polygons raised) stack paths t next ts all e follows =
    enter_before exact (Items (groups.Rings raised)) stack paths t next ts all e follows
item_before exact groups.Geometries stack paths t next ts all e follows =
    tag_before exact stack paths t next ts all e follows
item_before exact (groups.Dots raised) stack paths (number n) next ts all e follows =
    bare_before exact raised stack paths n next ts all e follows
item_before exact (groups.Dots raised) stack paths t next ts all e follows =
    dot_before exact raised stack paths t next ts all e follows

-- after an item
comma_before : (exact : Bool) (group : ItemGroup) (outer : List ItemGroup) (paths : List Path) (ts : List Token)
    (all : List Path)
    → Follows exact (state item (group ∷ outer) paths) ts all
    → (later : List Path) × Closes exact (group ∷ outer) (comma ∷ ts) later × (all ≡ paths ++ later)
comma_before exact group outer paths ts all (
  later,
  (one, tokens, rest_paths, is, same, (more, rest, close, are, tokens_are, closes, more_paths), paths_are),
  all_are,
) = (
  later,
  (
    one_more group one more,
    rest,
    close,
    are_some exact (room (group ∷ outer)) group one more is are,
    ap (λ x. comma ∷ x) (same ∙ ap (λ x. item_tokens group one ++ x) tokens_are
        ∙ sym (append_assoc (item_tokens group one) (more_tokens group more) rest))
        ∙ ap (λ x. x ++ rest) (sym (more_some group one more)),
    closes,
    paths_are ∙ ap (λ x. item_paths group one ++ x) more_paths
        ∙ sym (append_assoc (item_paths group one) (items_paths group more) close)
        ∙ ap (λ x. x ++ close) (sym (paths_some group one more)),
  ),
  all_are,
)

closing_before : (exact : Bool) (group : ItemGroup) (outer : List ItemGroup) (paths : List Path) (ts : List Token)
    (all : List Path)
    → Follows exact (state behind outer paths) ts all
    → (later : List Path) × Closes exact (group ∷ outer) (closing ∷ ts) later × (all ≡ paths ++ later)
closing_before exact group outer paths ts all (close, closes, same) = (
  close,
  (
    no_items group,
    ts,
    close,
    are_none exact (room (group ∷ outer)) group,
    ap (λ x. x ++ ts) (sym (more_none group)),
    closes,
    ap (λ x. x ++ close) (sym (paths_none group)),
  ),
  same,
)

behind_before : (exact : Bool) (stack : List ItemGroup) (paths : List Path) (t : Token) (next : State) (ts : List Token)
    (all : List Path)
    → behind_step stack paths t ≡ Some next → Follows exact next ts all
    → (later : List Path) × Closes exact stack (t ∷ ts) later × (all ≡ paths ++ later)
behind_before exact (group ∷ outer) paths comma next ts all e follows =
    comma_before exact group outer paths ts all
    (subst (λ s. Follows exact s ts all) (sym (same_Some (state item (group ∷ outer) paths) next e)) follows)
behind_before exact (group ∷ outer) paths closing next ts all e follows =
    closing_before exact group outer paths ts all
    (subst (λ s. Follows exact s ts all) (sym (same_Some (state behind outer paths) next e)) follows)
behind_before exact stack paths t next ts all e follows = cc

-- after a point in brackets
next_before : (exact : Bool) (listing : Listing) (read : List Point) (stack : List ItemGroup) (paths : List Path)
    (ts : List Token) (all : List Path) → ((raised : Bool) → listing ≡ listings.Dot raised → ⊥)
    → Follows exact (state (first listing read) stack paths) ts all
    → (later : List Path) × ClosesPoints exact listing read stack (comma ∷ ts) later × (all ≡ paths ++ later)
next_before exact listing read stack paths ts all no_dot
    (later, (p, tokens, is, same, (more, rest, close, are, on, tokens_are, closes, paths_are)), all_are) = (
      later,
      (
        p ∷ more,
        rest,
        close,
        (is, are),
        on_before listing read p more no_dot on,
        ap (λ x. comma ∷ x) (same ∙ ap (λ x. point_tokens p ++ x) tokens_are
            ∙ sym (append_assoc (point_tokens p) (behind_item point_tokens more) rest)),
        closes,
        paths_are ∙ ap (λ x. path_of (kind_of listing) x ++ close) (append_assoc read (p ∷ []) more),
      ),
      all_are,
    )

may_on : (listing : Listing) (read : List Point) → may_end listing read ≡ true → GoOn listing read []
may_on (listings.Dot raised) read may = refl
may_on (listings.List raised) read may = tt
may_on (listings.Ring raised) read may = subst IsClosed (sym (append-nil read)) (is_closed_is read may)

end_before : (exact : Bool) (listing : Listing) (read : List Point) (stack : List ItemGroup) (paths : List Path)
    (next : State) (ts : List Token) (all : List Path)
    → (if may_end listing read then Some (state behind stack (paths ++ path_of (kind_of listing) read)) else None)
    ≡ Some next → Follows exact next ts all
    → (later : List Path) × ClosesPoints exact listing read stack (closing ∷ ts) later × (all ≡ paths ++ later)
end_before exact listing read stack paths next ts all e follows =
    let taken = if_some (may_end listing read) (state behind stack (paths ++ path_of (kind_of listing) read)) next e in
    let (close, closes, same) = subst (λ s. Follows exact s ts all) taken.1 follows in (
      path_of (kind_of listing) read ++ close,
      (
        [],
        ts,
        close,
        tt,
        may_on listing read taken.0,
        refl,
        closes,
        ap (λ x. path_of (kind_of listing) x ++ close)
            (sym (append-nil read)),
      ),
      same ∙ append_assoc paths (path_of (kind_of listing) read) close,
    )

whole_before : (exact : Bool) (listing : Listing) (read : List Point) (stack : List ItemGroup) (paths : List Path)
    (t : Token) (next : State) (ts : List Token) (all : List Path)
    → whole_step listing read stack paths t ≡ Some next → Follows exact next ts all
    → (later : List Path) × ClosesPoints exact listing read stack (t ∷ ts) later × (all ≡ paths ++ later)
whole_before exact (listings.Dot raised) read stack paths closing next ts all e follows =
    end_before exact (listings.Dot raised) read stack paths next ts all e follows
whole_before exact (listings.List raised) read stack paths closing next ts all e follows =
    end_before exact (listings.List raised) read stack paths next ts all e follows
whole_before exact (listings.Ring raised) read stack paths closing next ts all e follows =
    end_before exact (listings.Ring raised) read stack paths next ts all e follows
whole_before exact (listings.List raised) read stack paths comma next ts all e follows =
    next_before exact (listings.List raised) read stack paths ts all (λ other e. cc)
    (subst (λ s. Follows exact s ts all) (sym
    (same_Some (state (first (listings.List raised) read) stack paths) next e))
    follows)
whole_before exact (listings.Ring raised) read stack paths comma next ts all e follows =
    next_before exact (listings.Ring raised) read stack paths ts all (λ other e. cc)
    (subst (λ s. Follows exact s ts all) (sym
    (same_Some (state (first (listings.Ring raised) read) stack paths) next e))
    follows)
whole_before exact listing _ stack paths t next ts all e follows = cc

-- numbers
first_before : (exact : Bool) (listing : Listing) (read : List Point) (n : Number) (stack : List ItemGroup)
    (paths : List Path) (ts : List Token) (all : List Path) → IsNumber exact n
    → Follows exact (state (second listing read n) stack paths) ts all
    → Before exact (first listing read) stack paths (number n) ts all
first_before exact listing read n stack paths ts all fits (later, (y, z, rest, is_y, is_z, same, closes), all_are) =
    grind (arith)

second_before : (exact : Bool) (listing : Listing) (read : List Point) (x n : Number) (raised : Bool)
    (stack : List ItemGroup) (paths : List Path) (ts : List Token) (all : List Path) → is_raised listing ≡ raised
    → IsNumber exact n
    → Follows exact (state (second_leads raised listing read x n) stack paths) ts all
    → Before exact (second listing read x) stack paths (number n) ts all
second_before exact listing read x n true stack paths ts all is fits (later, (z, rest, is_z, same, closes), all_are) =
    grind (arith, third_is)
second_before exact listing read x n false stack paths ts all is fits (later, closes, all_are) =
    (later, (n, None, ts, fits, third_none exact (is_raised listing) is, refl, closes), all_are)

third_before : (exact : Bool) (listing : Listing) (read : List Point) (x y n : Number) (stack : List ItemGroup)
    (paths : List Path) (ts : List Token) (all : List Path) → IsNumber exact n
    → Follows exact (state (whole listing (read ++ point_with x y (Some n) ∷ [])) stack paths) ts all
    → Before exact (third listing read x y) stack paths (number n) ts all
third_before exact listing read x y n stack paths ts all fits (later, closes, all_are) =
    (later, (n, ts, fits, refl, closes), all_are)

bare_second_before : (exact raised : Bool) (x n : Number) (stack : List ItemGroup) (paths : List Path) (ts : List Token)
    (all : List Path) → IsNumber exact n
    → Follows exact (bare_second_leads raised stack paths x n) ts all
    → Before exact (bare_second raised x) stack paths (number n) ts all
bare_second_before exact true x n stack paths ts all fits
    (later, (z, rest, close, is_z, same, closes, paths_are), all_are) =
    (later, (n, Some z, rest, close, fits, is_z, ap (λ y. number n ∷ y) same, closes, paths_are), all_are)
bare_second_before exact false x n stack paths ts all fits (close, closes, all_are) = grind (arith, append_assoc)

bare_third_before : (exact : Bool) (x y n : Number) (stack : List ItemGroup) (paths : List Path) (ts : List Token)
    (all : List Path) → IsNumber exact n
    → Follows exact (bare_leads stack paths (point_with x y (Some n))) ts all
    → Before exact (bare_third x y) stack paths (number n) ts all
bare_third_before exact x y n stack paths ts all fits (close, closes, all_are) = grind (arith, append_assoc)

-- a token that was taken comes before what follows
pub token_before : (exact : Bool) (spot : Spot) (stack : List ItemGroup) (paths : List Path) (t : Token) (next : State)
    (ts : List Token) (all : List Path)
    → step_at exact spot stack paths t ≡ Some next → Follows exact next ts all → Before exact spot stack paths t ts all
token_before exact item stack paths t next ts all e follows =
    item_before exact (innermost stack) stack paths t next ts all e follows
token_before exact (tagged kind) stack paths t next ts all e follows =
    tagged_before exact kind stack paths t next ts all e follows
token_before exact (content inner) stack paths t next ts all e follows =
    enter_before exact inner stack paths t next ts all e follows
token_before exact (first listing read) stack paths t next ts all e follows =
    let (n, is, fits, make) = number_taken exact (λ x. state (second listing read x) stack paths) t next e in
    subst (λ (token : Token). Before exact (first listing read) stack paths token ts all) (sym is)
    (first_before exact listing read n stack paths ts all fits (subst (λ s. Follows exact s ts all) make follows))
token_before exact (second listing read x) stack paths t next ts all e follows =
    let (n, is, fits, make) = number_taken exact
    (λ y. state (second_leads (is_raised listing) listing read x y) stack paths) t next e in
    subst (λ (token : Token). Before exact (second listing read x) stack paths token ts all) (sym is)
    (second_before exact listing read x n (is_raised listing) stack paths ts all refl fits
    (subst (λ s. Follows exact s ts all) make follows))
token_before exact (third listing read x y) stack paths t next ts all e follows =
    let (n, is, fits, make) = number_taken exact
    (λ z. state (whole listing (read ++ point_with x y (Some z) ∷ [])) stack paths) t next e in
    subst (λ (token : Token). Before exact (third listing read x y) stack paths token ts all) (sym is)
    (third_before exact listing read x y n stack paths ts all fits (subst (λ s. Follows exact s ts all) make follows))
token_before exact (whole listing read) stack paths t next ts all e follows =
    whole_before exact listing read stack paths t next ts all e follows
token_before exact (bare_second raised x) stack paths t next ts all e follows =
    let (n, is, fits, make) = number_taken exact (λ y. bare_second_leads raised stack paths x y) t next e in
    subst (λ (token : Token). Before exact (bare_second raised x) stack paths token ts all) (sym is)
    (bare_second_before exact raised x n stack paths ts all fits (subst (λ s. Follows exact s ts all) make follows))
token_before exact (bare_third x y) stack paths t next ts all e follows =
    let (n, is, fits, make) = number_taken exact (λ z. bare_leads stack paths (point_with x y (Some z))) t next e in
    subst (λ (token : Token). Before exact (bare_third x y) stack paths token ts all) (sym is)
    (bare_third_before exact x y n stack paths ts all fits (subst (λ s. Follows exact s ts all) make follows))
token_before exact spot stack paths t next ts all e follows = behind_before exact stack paths t next ts all e follows
