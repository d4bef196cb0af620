-- How a geometry turns into the one that is written.
use Rattle.std.proofs.Common.{◌≡◌, ℕ, zero, suc, ◌+◌, Bool, true, false, List, [], ◌∷◌, ◌++◌, length, refl, ap, ◌∙◌}
use Rattle.std.proofs.Common.{append_assoc}
use Rattle.std.specs.Prelude.{flat_map}
use Rattle.std.specs.List.{AllByRecursion}
use Rattle.sheet_base.specs.PointHeights.{Position}
use Rattle.sheet_base.specs.declared.edits.Edit.{Edit}
use Rattle.sheet_base.specs.declared.paths.PathKind.TheVariants.{Dot, Line, Loop}
use Rattle.sheet_base.proofs.DrawnPaths.{suit_parts}
use Rattle.wkt_layer.specs.Tokens.{Token, opening, closing, comma, word}
use Rattle.wkt_layer.specs.Geometries.{Geometry, point, line_string, polygon, multi_point, multi_line_string}
use Rattle.wkt_layer.specs.Geometries.{multi_polygon, collection, Geometries, no_geometry, geometry, point_tokens}
use Rattle.wkt_layer.specs.Geometries.{behind_item, content_tokens, points_tokens, member_tokens, lists_tokens}
use Rattle.wkt_layer.specs.Geometries.{geometry_tokens, geometries_tokens, behind_geometry, ArePoints, IsDot, IsRing}
use Rattle.wkt_layer.specs.Geometries.{mark, IsMember, IsGeometry, AreGeometries}
use Rattle.wkt_layer.specs.Paths.{Path, path_of, member_path, geometry_paths, geometries_paths}
use Rattle.wkt_layer.specs.declared.words.GeometryKind.{GeometryKind}
use Rattle.wkt_layer.specs.declared.words.GeometryKind.TheVariants as kinds
use Rattle.wkt_layer.specs.declared.words.LineWord.TheVariants.{Tag, Empty, Z}
use Rattle.wkt_layer.proofs.WrittenLayers.TokenCuts.{lexed, Clear, MayFollow, FirstTokenCut, kept_cut, clear_opening, clear_closing}
use Rattle.wkt_layer.proofs.WrittenLayers.TokenCuts.{clear_comma, clear_word}
use Rattle.wkt_layer.proofs.WrittenLayers.Turns.{drawn, AllSuit, Turned, EachTurns, single, tagged, led, after_empty, content_turned}
use Rattle.wkt_layer.proofs.WrittenLayers.PointTurns.{DoesSay, points_turned, member_turned}
use Rattle.wkt_layer.proofs.WrittenLayers.Turns.{any_closing}

-- what comes after a tag goes on no word
content_clear : {A : Type 0} (tokens : A → List Token) (items : List A) (at : ℕ) (bytes : List ℕ) (kind : GeometryKind)
    (others : List Token) → MayFollow (word (Tag kind)) bytes
    → lexed at bytes ≡ content_tokens tokens items ++ others → Clear bytes
content_clear tokens [] at bytes kind others may e = clear_word at bytes Empty others may e
content_clear tokens (item ∷ items) at bytes kind others may e =
    clear_opening at bytes ((tokens item ++ behind_item tokens items) ++ others) e

-- no word goes on in the bytes of such a part
abbrev IsClearPart : {A : Type 0} → (A → List Token) → Type 0
IsClearPart {A} tokens = (a : A) (at : ℕ) (bytes : List ℕ) (kind : GeometryKind) (others : List Token)
    → MayFollow (word (Tag kind)) bytes → lexed at bytes ≡ tokens a ++ others → Clear bytes

-- this part turns
abbrev DoesTurn : {A : Type 0} → (A → List Token) → (A → List Path) → (A → Type 0) → (Edit → List ℕ)
    → (ℕ → List Position) → A → Type 0
DoesTurn tokens paths IsGood text images a = (nth at : ℕ) (bytes : List ℕ) (others : List Token)
    → AllSuit images nth (paths a) → lexed at bytes ≡ tokens a ++ others
    → Turned tokens paths IsGood text images a nth at bytes others

-- a content after Z, or without it, turns as it does alone
marked_turned : {A : Type 0} (raised : Bool) (tokens : A → List Token) (paths : A → List Path) (IsGood : A → Type 0)
    (text : Edit → List ℕ) (images : ℕ → List Position) (a : A) → DoesTurn tokens paths IsGood text images a
    → IsClearPart tokens → DoesTurn (λ x. mark raised ++ tokens x) paths IsGood text images a
marked_turned false tokens paths IsGood text images a turn clear nth at bytes others suit e =
    turn nth at bytes others suit e
marked_turned true tokens paths IsGood text images a turn clear nth at bytes others suit e =
    go (kept_cut at bytes (word Z) (tokens a ++ others) tt e)
  where
    go : FirstTokenCut at bytes (word Z) (tokens a ++ others)
        → Turned (λ x. word Z ∷ tokens x) paths IsGood text images a nth at bytes others
    go k = tagged tokens paths IsGood (λ x. word Z ∷ tokens x) paths IsGood text images (λ x. x) Z (λ x. refl)
        (λ x. refl) (λ x good. good) a nth at bytes others k
        (clear a (at + length k.piece) k.rest kinds.Point others k.follows k.left)
        (turn nth (at + length k.piece) k.rest others suit k.left)

marked_clear : {A : Type 0} (raised : Bool) (tokens : A → List Token) → IsClearPart tokens
    → IsClearPart (λ x. mark raised ++ tokens x)
marked_clear false tokens clear a at bytes kind others may e = clear a at bytes kind others may e
marked_clear true tokens clear a at bytes kind others may e = clear_word at bytes Z (tokens a ++ others) may e

-- a geometry of one kind, whose content turns
of_kind : {A : Type 0} (raised : Bool) (tokens : A → List Token) (paths : A → List Path) (IsGood : A → Type 0)
    (exact : Bool) (depth : ℕ) (text : Edit → List ℕ) (images : ℕ → List Position) (kind : GeometryKind) (make : A → Geometry)
    → ((a : A) → geometry_tokens (make a) ≡ word (Tag kind) ∷ (mark raised ++ tokens a))
    → ((a : A) → geometry_paths (make a) ≡ paths a)
    → ((a : A) → IsGood a → IsGeometry exact depth (make a))
    → IsClearPart tokens
    → (a : A) → DoesTurn tokens paths IsGood text images a
    → (nth at : ℕ) (bytes : List ℕ) (others : List Token) → AllSuit images nth (paths a)
    → lexed at bytes ≡ word (Tag kind) ∷ ((mark raised ++ tokens a) ++ others)
    → Turned geometry_tokens geometry_paths (IsGeometry exact depth) text images (make a) nth at bytes others
of_kind raised tokens paths IsGood exact depth text images kind make tokens_are paths_are good clear a turn nth at
    bytes others suit e =
    go (kept_cut at bytes (word (Tag kind)) ((mark raised ++ tokens a) ++ others) tt e)
  where
    go : FirstTokenCut at bytes (word (Tag kind)) ((mark raised ++ tokens a) ++ others)
        → Turned geometry_tokens geometry_paths (IsGeometry exact depth) text images (make a) nth at bytes others
    go k = tagged (λ x. mark raised ++ tokens x) paths IsGood geometry_tokens geometry_paths (IsGeometry exact depth)
        text images make (Tag kind) tokens_are paths_are good a nth at bytes others k
        (marked_clear raised tokens clear a (at + length k.piece) k.rest kind others k.follows k.left)
        (marked_turned raised tokens paths IsGood text images a turn clear nth (at + length k.piece) k.rest others
        suit k.left)

any_opening : (bytes : List ℕ) → MayFollow opening bytes
any_opening bytes = tt

any_comma : (bytes : List ℕ) → MayFollow comma bytes
any_comma bytes = tt

behind_clear : (more : Geometries) (at : ℕ) (bytes : List ℕ) (others : List Token)
    → lexed at bytes ≡ behind_geometry more ++ others → Clear bytes
behind_clear no_geometry at bytes others e = clear_closing at bytes others e
behind_clear (geometry next more) at bytes others e =
    clear_comma at bytes ((geometry_tokens next ++ behind_geometry more) ++ others) e

geometries_clear : (all : Geometries) (at : ℕ) (bytes : List ℕ) (kind : GeometryKind) (others : List Token)
    → MayFollow (word (Tag kind)) bytes → lexed at bytes ≡ geometries_tokens all ++ others → Clear bytes
geometries_clear no_geometry at bytes kind others may e = clear_word at bytes Empty others may e
geometries_clear (geometry first more) at bytes kind others may e =
    clear_opening at bytes ((geometry_tokens first ++ behind_geometry more) ++ others) e

module _ (exact : Bool) (text : Edit → List ℕ) (images : ℕ → List Position) (says : DoesSay text images) where
  mutual
    pub geometry_turned : (depth : ℕ) → EachTurns geometry_tokens geometry_paths (IsGeometry exact depth) text images
    geometry_turned depth (point raised points) good nth at bytes others suit e =
        of_kind raised points_tokens (path_of Dot) (IsDot exact raised) exact depth text images kinds.Point
        (point raised)
        (λ a. refl) (λ a. refl) (λ a is. is)
        (λ a place xs kind ts may f. content_clear point_tokens a place xs kind ts may f) points
        (λ n place xs ts suits f. points_turned exact raised Dot text images says points good n place xs ts suits f)
        nth at bytes others suit e
    geometry_turned depth (line_string raised points) good nth at bytes others suit e =
        of_kind raised points_tokens (path_of Line) (ArePoints exact raised) exact depth text images kinds.LineString
        (line_string raised)
        (λ a. refl) (λ a. refl) (λ a is. is)
        (λ a place xs kind ts may f. content_clear point_tokens a place xs kind ts may f) points
        (λ n place xs ts suits f. points_turned exact raised Line text images says points good n place xs ts suits f)
        nth at bytes others suit e
    geometry_turned depth (polygon raised rings) good nth at bytes others suit e =
        of_kind raised lists_tokens (flat_map (path_of Loop)) (AllByRecursion (IsRing exact raised)) exact depth text
        images kinds.Polygon (polygon raised)
        (λ a. refl) (λ a. refl) (λ a is. is)
        (λ a place xs kind ts may f. content_clear points_tokens a place xs kind ts may f) rings
        (λ n place xs ts suits f. content_turned points_tokens (path_of Loop) (IsRing exact raised) text images
        (points_turned exact raised Loop text images says) rings good n place xs ts suits f)
        nth at bytes others suit e
    geometry_turned depth (multi_point raised members) good nth at bytes others suit e =
        of_kind raised (content_tokens member_tokens) (flat_map member_path) (AllByRecursion (IsMember exact raised))
        exact depth text images kinds.MultiPoint (multi_point raised)
        (λ a. refl) (λ a. refl) (λ a is. is)
        (λ a place xs kind ts may f. content_clear member_tokens a place xs kind ts may f) members
        (λ n place xs ts suits f. content_turned member_tokens member_path (IsMember exact raised) text images
        (member_turned exact raised text images says) members good n place xs ts suits f)
        nth at bytes others suit e
    geometry_turned depth (multi_line_string raised lists) good nth at bytes others suit e =
        of_kind raised lists_tokens (flat_map (path_of Line)) (AllByRecursion (ArePoints exact raised)) exact depth text
        images kinds.MultiLineString (multi_line_string raised)
        (λ a. refl) (λ a. refl) (λ a is. is)
        (λ a place xs kind ts may f. content_clear points_tokens a place xs kind ts may f) lists
        (λ n place xs ts suits f. content_turned points_tokens (path_of Line) (ArePoints exact raised) text images
        (points_turned exact raised Line text images says) lists good n place xs ts suits f)
        nth at bytes others suit e
    geometry_turned depth (multi_polygon raised polygons) good nth at bytes others suit e =
        of_kind raised (content_tokens lists_tokens) (flat_map (flat_map (path_of Loop)))
        (AllByRecursion (AllByRecursion (IsRing exact raised))) exact depth text images kinds.MultiPolygon
        (multi_polygon raised)
        (λ a. refl) (λ a. refl) (λ a is. is)
        (λ a place xs kind ts may f. content_clear lists_tokens a place xs kind ts may f) polygons
        (λ n place xs ts suits f. content_turned lists_tokens (flat_map (path_of Loop))
        (AllByRecursion (IsRing exact raised)) text images
        (content_turned points_tokens (path_of Loop) (IsRing exact raised) text images
        (points_turned exact raised Loop text images says)) polygons good n place xs ts suits f)
        nth at bytes others suit e
    geometry_turned zero (collection raised all) good nth at bytes others suit e = absurd good
    geometry_turned (suc depth) (collection raised all) good nth at bytes others suit e =
        of_kind raised geometries_tokens geometries_paths (AreGeometries exact depth) exact (suc depth) text images
        kinds.Collection (collection raised) (λ a. refl) (λ a. refl) (λ a is. is) geometries_clear all
        (λ n place xs ts suits f. geometries_turned depth all good n place xs ts suits f)
        nth at bytes others suit e

    geometries_turned : (depth : ℕ) → EachTurns geometries_tokens geometries_paths (AreGeometries exact depth) text
        images
    geometries_turned depth no_geometry good nth at bytes others suit e =
        single geometries_tokens geometries_paths (AreGeometries exact depth) text images no_geometry (word Empty) refl
        refl tt (after_empty Empty) nth at bytes others (kept_cut at bytes (word Empty) others tt e)
    geometries_turned depth (geometry first more) good nth at bytes others suit e =
        let k = kept_cut at bytes opening (geometry_tokens first ++ (behind_geometry more ++ others)) tt
        (e ∙ ap (λ ts. opening ∷ ts) (append_assoc (geometry_tokens first) (behind_geometry more) others)) in
        let suits = suit_parts drawn images nth (geometry_paths first) (geometries_paths more) suit in
        let a = geometry_turned depth first good.0 nth (at + length k.piece) k.rest (behind_geometry more ++ others)
        suits.0 k.left in
        led geometry_tokens geometry_paths (IsGeometry exact depth) behind_geometry geometries_paths
        (AreGeometries exact depth) geometries_tokens geometries_paths (AreGeometries exact depth) text images
        geometry opening
        (λ x xs. refl) (λ x xs. refl) (λ x xs one all. (one, all)) any_opening first more nth at bytes others k a
        (behind_clear more (at + length k.piece + length a.taken) a.rest others a.left)
        (behind_turned depth more good.1 (nth + length (geometry_paths first)) (at + length k.piece + length a.taken)
        a.rest others suits.1 a.left)

    behind_turned : (depth : ℕ) → EachTurns behind_geometry geometries_paths (AreGeometries exact depth) text images
    behind_turned depth no_geometry good nth at bytes others suit e =
        single behind_geometry geometries_paths (AreGeometries exact depth) text images no_geometry closing refl refl tt
        any_closing nth at bytes others (kept_cut at bytes closing others tt e)
    behind_turned depth (geometry first more) good nth at bytes others suit e =
        let k = kept_cut at bytes comma (geometry_tokens first ++ (behind_geometry more ++ others)) tt
        (e ∙ ap (λ ts. comma ∷ ts) (append_assoc (geometry_tokens first) (behind_geometry more) others)) in
        let suits = suit_parts drawn images nth (geometry_paths first) (geometries_paths more) suit in
        let a = geometry_turned depth first good.0 nth (at + length k.piece) k.rest (behind_geometry more ++ others)
        suits.0 k.left in
        led geometry_tokens geometry_paths (IsGeometry exact depth) behind_geometry geometries_paths
        (AreGeometries exact depth) behind_geometry geometries_paths (AreGeometries exact depth) text images
        geometry comma
        (λ x xs. refl) (λ x xs. refl) (λ x xs one all. (one, all)) any_comma first more nth at bytes others k a
        (behind_clear more (at + length k.piece + length a.taken) a.rest others a.left)
        (behind_turned depth more good.1 (nth + length (geometry_paths first)) (at + length k.piece + length a.taken)
        a.rest others suits.1 a.left)
