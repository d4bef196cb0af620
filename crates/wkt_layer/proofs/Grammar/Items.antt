-- Items of any kind: one, and more of them. The laws stand for each kind by computing.
use Rattle.std.proofs.Common.{◌≡◌, ℕ, ◌⊎◌, inl, inr, Bool, List, [], ◌∷◌, ◌++◌, refl, append_assoc, arith, lit≤}
use Rattle.wkt_layer.specs.Tokens.{opening, closing, comma, word}
use Rattle.wkt_layer.specs.Numbers.{Point, IsPoint}
use Rattle.wkt_layer.specs.Geometries.{geometry, ArePoints}
use Rattle.wkt_layer.proofs.Grammar.Rests.{ItemOf, ItemsOf, item_tokens, more_tokens, items_tokens, IsItem, AreItems}
use Rattle.wkt_layer.proofs.Grammar.Rests.{item_paths, items_paths, no_items, one_more, GoOn, IsContentOfPoints}
use Rattle.wkt_layer.specs.InsideStates.{is_raised}
use Rattle.wkt_layer.specs.declared.words.LineWord.TheVariants.{Empty}
use Rattle.wkt_layer.specs.declared.places.Listing.{Listing}
use Rattle.wkt_layer.specs.declared.places.Listing.TheVariants as listings
use Rattle.wkt_layer.specs.declared.places.ItemGroup.{ItemGroup}
use Rattle.wkt_layer.specs.declared.places.ItemGroup.TheVariants as groups

-- the first of items, unless there is none
pub split_items : (group : ItemGroup) (items : ItemsOf group)
    → (items ≡ no_items group) ⊎ ((one : ItemOf group) × (more : ItemsOf group) × (items ≡ one_more group one more))
split_items (groups.Rings raised) (one ∷ more) = inr (one, more, refl)
split_items (groups.Dots raised) (one ∷ more) = inr (one, more, refl)
split_items (groups.Lists raised) (one ∷ more) = inr (one, more, refl)
split_items (groups.Polygons raised) (one ∷ more) = inr (one, more, refl)
split_items groups.Geometries (geometry one more) = inr (one, more, refl)
split_items group items = inl refl

pub tokens_none : (group : ItemGroup) → items_tokens group (no_items group) ≡ word Empty ∷ []
tokens_none (groups.Rings raised) = refl
tokens_none group = refl

pub tokens_some : (group : ItemGroup) (one : ItemOf group) (more : ItemsOf group)
    → items_tokens group (one_more group one more) ≡ opening ∷ (item_tokens group one ++ more_tokens group more)
tokens_some (groups.Rings raised) one more = refl
tokens_some group one more = refl

pub more_none : (group : ItemGroup) → more_tokens group (no_items group) ≡ closing ∷ []
more_none (groups.Rings raised) = refl
more_none group = refl

pub more_some : (group : ItemGroup) (one : ItemOf group) (more : ItemsOf group)
    → more_tokens group (one_more group one more) ≡ comma ∷ (item_tokens group one ++ more_tokens group more)
more_some (groups.Rings raised) one more = refl
more_some group one more = refl

pub paths_none : (group : ItemGroup) → items_paths group (no_items group) ≡ []
paths_none (groups.Rings raised) = refl
paths_none group = refl

pub paths_some : (group : ItemGroup) (one : ItemOf group) (more : ItemsOf group)
    → items_paths group (one_more group one more) ≡ item_paths group one ++ items_paths group more
paths_some (groups.Rings raised) one more = refl
paths_some group one more = refl

pub are_none : (exact : Bool) (depth : ℕ) (group : ItemGroup) → AreItems exact depth group (no_items group)
are_none exact depth (groups.Rings raised) = tt
are_none exact depth group = tt

pub are_parts : (exact : Bool) (depth : ℕ) (group : ItemGroup) (one : ItemOf group) (more : ItemsOf group)
    → AreItems exact depth group (one_more group one more)
    → IsItem exact depth group one × AreItems exact depth group more
are_parts exact depth (groups.Rings raised) one more are = (are.0, are.1)
are_parts exact depth group one more are = (are.0, are.1)

pub are_some : (exact : Bool) (depth : ℕ) (group : ItemGroup) (one : ItemOf group) (more : ItemsOf group)
    → IsItem exact depth group one → AreItems exact depth group more
    → AreItems exact depth group (one_more group one more)
are_some exact depth (groups.Rings raised) one more is are = (is, are)
are_some exact depth group one more is are = (is, are)

-- the points of a content: the first, and those after it
pub points_parts : (exact : Bool) (listing : Listing) (p : Point) (more : List Point)
    → IsContentOfPoints exact listing (p ∷ more)
    → IsPoint exact (is_raised listing) p × ArePoints exact (is_raised listing) more × GoOn listing (p ∷ []) more
points_parts exact (listings.Dot raised) p [] is = (is.0.0, is.0.1, refl)
points_parts exact (listings.Dot raised) p (q ∷ more) is = absurd (omega (arith, is.1))
points_parts exact (listings.List raised) p more is = (is.0, is.1, tt)
points_parts exact (listings.Ring raised) p more is = (is.0.0, is.0.1, is.1)

pub points_whole : (exact : Bool) (listing : Listing) (p : Point) (more : List Point)
    → IsPoint exact (is_raised listing) p → ArePoints exact (is_raised listing) more → GoOn listing (p ∷ []) more
    → IsContentOfPoints exact listing (p ∷ more)
points_whole exact (listings.Dot raised) p [] is are on = ((is, are), lit≤ tt)
points_whole exact (listings.Dot raised) p (q ∷ more) is are on = cc
points_whole exact (listings.List raised) p more is are on = (is, are)
points_whole exact (listings.Ring raised) p more is are on = ((is, are), on)

pub no_points : (exact : Bool) (listing : Listing) → IsContentOfPoints exact listing []
no_points exact (listings.Dot raised) = (tt, omega arith)
no_points exact (listings.List raised) = tt
no_points exact (listings.Ring raised) = (tt, tt)

-- points go on in two steps
pub on_next : (listing : Listing) (read : List Point) (p : Point) (more : List Point) → GoOn listing read (p ∷ more)
    → GoOn listing (read ++ p ∷ []) more
on_next (listings.Dot raised) read p more on = cc
on_next (listings.List raised) read p more on = tt
on_next (listings.Ring raised) read p more on = rw (append_assoc read (p ∷ []) more) on

pub on_before : (listing : Listing) (read : List Point) (p : Point) (more : List Point)
    → ((raised : Bool) → listing ≡ listings.Dot raised → ⊥)
    → GoOn listing (read ++ p ∷ []) more → GoOn listing read (p ∷ more)
on_before (listings.Dot raised) read p more no_dot on = absurd (no_dot raised refl)
on_before (listings.List raised) read p more no_dot on = tt
on_before (listings.Ring raised) read p more no_dot on = rw (append_assoc read (p ∷ []) more) at on
