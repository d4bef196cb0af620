-- Twice the area of a ring, by turns of its first point.
use Rattle.std.proofs.Common.{◌≡◌, ℕ, ◌+◌, ◌<◌, ℤ, pos, neg_ℤ, ◌+ℤ◌, ◌-ℤ◌, List, [], ◌∷◌, length, get_or, drop}
use Rattle.std.specs.Prelude.{Some, slice_get}
use Rattle.std.proofs.lemmas.List.{drop_more}
use Rattle.integer_ring.proofs.Ring.{Expr, num, neg, ◌⊕◌, ◌⊖◌, ◌⊗◌}
use Rattle.integer_ring.proofs.Claims.{solve, follows, ◌≐◌, ◌because◌, ◌⇒◌, eqn, ◌⊞◌}
use Rattle.plane_base.specs.declared.shapes.Pt.{Pt}
use Rattle.plane_base.specs.Plane.{whole, turn_of}
use Rattle.ring_side.specs.Rings.{chain, last_of, segments_of}
use Rattle.ring_side.specs.Sides.{sweep, sweeps}
use Rattle.ring_side.specs.InsideSides.{turns}
use Rattle.std.proofs.Common.{arith}

-- the sweep of the way from one point to another
abbrev between : Pt → Pt → ℤ
between a b = sweep (record { from = a; to = b })

abbrev one : Expr
one = num (pos 1)

abbrev zero_e : Expr
zero_e = num (pos 0)

-- the turn of a point and a segment, by three sweeps
one_turn : (o a b : Pt) → turn_of (whole o) (whole a) (whole b) ≡ between a b +ℤ (between o a -ℤ between o b)
one_turn o a b = solve 6 (λ ox oy ax ay bx by.
    ox ⊗ (ay ⊗ one ⊖ by ⊗ one) ⊖ oy ⊗ (ax ⊗ one ⊖ bx ⊗ one) ⊕ one ⊗ (ax ⊗ by ⊖ bx ⊗ ay)
    ≐ (zero_e ⊗ (ay ⊗ one ⊖ by ⊗ one) ⊖ zero_e ⊗ (ax ⊗ one ⊖ bx ⊗ one) ⊕ one ⊗ (ax ⊗ by ⊖ bx ⊗ ay))
    ⊕ ((zero_e ⊗ (oy ⊗ one ⊖ ay ⊗ one) ⊖ zero_e ⊗ (ox ⊗ one ⊖ ax ⊗ one) ⊕ one ⊗ (ox ⊗ ay ⊖ ax ⊗ oy))
    ⊖ (zero_e ⊗ (oy ⊗ one ⊖ by ⊗ one) ⊖ zero_e ⊗ (ox ⊗ one ⊖ bx ⊗ one) ⊕ one ⊗ (ox ⊗ by ⊖ bx ⊗ oy)))) tt o.x o.y a.x a.y b.x b.y

none_left : (u : ℤ) → pos 0 ≡ pos 0 +ℤ (u -ℤ u)
none_left = solve 1 (λ u. num (pos 0) ≐ num (pos 0) ⊕ (u ⊖ u)) tt

one_more : (ab oa ob oc rest t ts : ℤ) → t ≡ ab +ℤ (oa -ℤ ob) → ts ≡ rest +ℤ (ob -ℤ oc)
    → t +ℤ ts ≡ ab +ℤ rest +ℤ (oa -ℤ oc)
one_more = follows 7 (λ ab oa ob oc rest t ts. t ≐ ab ⊕ (oa ⊖ ob) ⇒ ts ≐ rest ⊕ (ob ⊖ oc)
    ⇒ t ⊕ ts ≐ ab ⊕ rest ⊕ (oa ⊖ oc) because eqn 0 (num (pos 1)) ⊞ eqn 1 (num (pos 1))) tt

moved : (here rest sum more t all : ℤ) → sum +ℤ (here +ℤ rest) ≡ all → more ≡ sum +ℤ t → t ≡ here → more +ℤ rest ≡ all
moved = follows 6 (λ here rest sum more t all. sum ⊕ (here ⊕ rest) ≐ all ⇒ more ≐ sum ⊕ t ⇒ t ≐ here
    ⇒ more ⊕ rest ≐ all because eqn 0 one ⊞ eqn 1 one ⊞ eqn 2 one) tt

-- the turns of a point along a way, by the sweeps and the two ends
along_way : (o a : Pt) (ps : List Pt) → turns o (chain a ps) ≡ sweeps (chain a ps) +ℤ (between o a -ℤ between o (last_of a ps))
along_way o a [] = none_left (between o a)
along_way o a (b ∷ ps) =
    one_more (between a b) (between o a) (between o b) (between o (last_of b ps)) (sweeps (chain b ps))
    (turn_of (whole o) (whole a) (whole b)) (turns o (chain b ps)) (one_turn o a b) (along_way o b ps)

back : (a b : Pt) → between b a ≡ neg_ℤ (between a b)
back a b = solve 4 (λ ax ay bx by.
    zero_e ⊗ (by ⊗ one ⊖ ay ⊗ one) ⊖ zero_e ⊗ (bx ⊗ one ⊖ ax ⊗ one) ⊕ one ⊗ (bx ⊗ ay ⊖ ax ⊗ by)
    ≐ neg (zero_e ⊗ (ay ⊗ one ⊖ by ⊗ one) ⊖ zero_e ⊗ (ax ⊗ one ⊖ bx ⊗ one) ⊕ one ⊗ (ax ⊗ by ⊖ bx ⊗ ay))) tt a.x a.y b.x b.y

own : (a : Pt) → between a a ≡ pos 0
own a = solve 2 (λ ax ay.
    zero_e ⊗ (ay ⊗ one ⊖ ay ⊗ one) ⊖ zero_e ⊗ (ax ⊗ one ⊖ ax ⊗ one) ⊕ one ⊗ (ax ⊗ ay ⊖ ax ⊗ ay) ≐ num (pos 0)) tt a.x a.y

closed : (oo ol lo rest t ts : ℤ) → t ≡ oo +ℤ (oo -ℤ oo) → lo ≡ neg_ℤ ol → ts ≡ rest +ℤ (oo -ℤ ol) → oo ≡ pos 0
    → t +ℤ ts ≡ lo +ℤ rest
closed = follows 6 (λ oo ol lo rest t ts. t ≐ oo ⊕ (oo ⊖ oo) ⇒ lo ≐ neg ol ⇒ ts ≐ rest ⊕ (oo ⊖ ol) ⇒ oo ≐ num (pos 0)
    ⇒ t ⊕ ts ≐ lo ⊕ rest because eqn 0 one ⊞ eqn 1 (neg one) ⊞ eqn 2 one ⊞ eqn 3 (num (pos 2))) tt

-- the turns of the first point along the ring are its sweeps
turns_of_ring : (first : Pt) (rest : List Pt) → turns first (chain first (first ∷ rest)) ≡ sweeps (segments_of (first ∷ rest))
turns_of_ring first rest =
    closed (between first first) (between first (last_of first rest)) (between (last_of first rest) first)
    (sweeps (chain first rest)) (turn_of (whole first) (whole first) (whole first)) (turns first (chain first rest))
    (one_turn first first first) (back first (last_of first rest)) (along_way first first rest) (own first)

-- the turns that are left after one more point
pub turns_step : (first from : Pt) (ps : List Pt) (i : ℕ) (d : Pt) (sum more t all : ℤ) → i < length ps
    → sum +ℤ turns first (chain from (drop i ps)) ≡ all → more ≡ sum +ℤ t
    → t ≡ turn_of (whole first) (whole from) (whole (get_or ps i d))
    → more +ℤ turns first (chain (get_or ps i d) (drop (i + 1) ps)) ≡ all
turns_step first from ps i d sum more t all within before e f =
    let g = rw (drop_more ps i d within) at before in
    moved (turn_of (whole first) (whole from) (whole (get_or ps i d))) (turns first (chain (get_or ps i d) (drop (i + 1) ps)))
    sum more t all g e f

-- those of the first point of a ring are its sweeps
pub turns_from_first : (ring : List Pt) (first : Pt) → slice_get ring 0 ≡ Some first
    → turns first (chain first ring) ≡ sweeps (segments_of ring)
turns_from_first [] first e = cc
turns_from_first (a ∷ rest) first e = grind (arith, turns_of_ring)
