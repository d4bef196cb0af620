-- Corners that are marked by their numbers.
use Rattle.std.proofs.Common.{◌≡◌, ◌⊎◌, ◌↔◌, inl, inr, ℕ, suc, ◌<◌, ◌≤◌, Bool, true, false, ◌||◌, IsTrue, eqb, cond}
use Rattle.std.proofs.Common.{List, [], ◌∷◌, ◌++◌, length, map, get_or, ap, ap₂, sym, ◌∙◌, subst, refl, arith}
use Rattle.std.proofs.lemmas.Bool.{eqb-true}
use Rattle.std.proofs.lemmas.List.{length-map}
use Rattle.plane_base.specs.Plane.{Point, IsMix, whole, corners_of}
use Rattle.plane_base.specs.declared.shapes.Pt.{Pt}
use Rattle.plane_base.specs.declared.shapes.Tri.{Tri}
use Rattle.tin_base.specs.declared.frames.Frame.{Frame}
use Rattle.tin_base.specs.Triangulation.{Triangulation, place, corner_at, numbers_of, places}
use Rattle.tin_base.specs.Soundness.{has, common, DoFit}
use Rattle.tin_base.specs.Limits.{IsWithinLimits}
use Rattle.tin_base.proofs.TriangleLemmas.TriangleCorners.{near_points}
use Rattle.tin_check.specs.CommonPoints.{MeetOnlyIn}
use Rattle.tin_check.specs.Marks.{points_of, marked_of, IsAmong, HaveSamePoints, AreNearTris}
use Rattle.tin_base.proofs.TriangleLemmas.Members.{has_head}

-- ---- the places of the marked corners are those of the common numbers
pub marked-places : (tin : Triangulation) (frame : Frame) (ns us : List ℕ) (ps : List Pt)
    → map whole ps ≡ places tin frame ns → map whole (marked_of (map (has us) ns) ps) ≡ places tin frame (common ns us)
marked-places tin frame [] us [] e = refl
marked-places tin frame [] us (p ∷ ps) e = cc
marked-places tin frame (n ∷ ns) us [] e = cc
marked-places tin frame (n ∷ ns) us (p ∷ ps) e =
    let here : whole p ≡ place frame (corner_at tin n) = cc in
    let rest : map whole ps ≡ places tin frame ns = cc in
    go (has us n) here (marked-places tin frame ns us ps rest)
  where
    go : (b : Bool) → whole p ≡ place frame (corner_at tin n)
        → map whole (marked_of (map (has us) ns) ps) ≡ places tin frame (common ns us)
        → map whole (cond b (p ∷ marked_of (map (has us) ns) ps) (marked_of (map (has us) ns) ps))
        ≡ places tin frame (cond b (n ∷ common ns us) (common ns us))
    go true here rest = ap₂ (λ q qs. q ∷ qs) here rest
    go false here rest = rest

marked-length : (tin : Triangulation) (frame : Frame) (ns us : List ℕ) (ps : List Pt)
    → map whole ps ≡ places tin frame ns → length (marked_of (map (has us) ns) ps) ≡ length (common ns us)
marked-length tin frame ns us ps e =
    sym (length-map (marked_of (map (has us) ns) ps) whole)
    ∙ ap (λ (qs : List Point). length qs) (marked-places tin frame ns us ps e)
    ∙ length-map (common ns us) (λ n. place frame (corner_at tin n))

-- ---- a marked corner is where a common number says, and the other way
record IsAt (tin : Triangulation) (frame : Frame) (ns us : List ℕ) (p : Pt) : Type 0 where
  number : ℕ
  in_first : has ns number ≡ true
  in_second : has us number ≡ true
  stands : whole p ≡ place frame (corner_at tin number)

same_point : (p q : Pt) → whole p ≡ whole q → p ≡ q
same_point p q e = ap (λ (r : Point). pt r) e
  where
    pt : Point → Pt
    pt r = record { x = r.x; y = r.y }

later : (n : ℕ) (ns us : List ℕ) (tin : Triangulation) (frame : Frame) (p : Pt) → IsAt tin frame ns us p
    → IsAt tin frame (n ∷ ns) us p
later n ns us tin frame p a = record {
  number = a.number;
  in_first =
      or_right (eqb n a.number) (has ns a.number) a.in_first;
  in_second = a.in_second;
  stands = a.stands;
}
  where
    or_right : (a b : Bool) → b ≡ true → (a || b) ≡ true
    or_right true b e = refl
    or_right false b e = e

at_of_marked : (tin : Triangulation) (frame : Frame) (ns us : List ℕ) (ps : List Pt) (p : Pt)
    → map whole ps ≡ places tin frame ns → IsAmong (marked_of (map (has us) ns) ps) p → IsAt tin frame ns us p
at_of_marked tin frame [] us ps p e h = absurd h
at_of_marked tin frame (n ∷ ns) us [] p e h = absurd h
at_of_marked tin frame (n ∷ ns) us (q ∷ ps) p e h =
    let here : whole q ≡ place frame (corner_at tin n) = cc in
    let rest : map whole ps ≡ places tin frame ns = cc in
    go (has us n) refl here (λ k. at_of_marked tin frame ns us ps p rest k) h
  where
    go : (b : Bool) → has us n ≡ b → whole q ≡ place frame (corner_at tin n)
        → (IsAmong (marked_of (map (has us) ns) ps) p → IsAt tin frame ns us p)
        → IsAmong (cond b (q ∷ marked_of (map (has us) ns) ps) (marked_of (map (has us) ns) ps)) p
        → IsAt tin frame (n ∷ ns) us p
    go true f here more (inl k) = record {
      number = n;
      in_first = has_head n ns;
      in_second = f;
      stands =
          ap (λ (r : Pt). whole r) k ∙ here;
    }
    go true f here more (inr k) = later n ns us tin frame p (more k)
    go false f here more k = later n ns us tin frame p (more k)

marked_of_at : (tin : Triangulation) (frame : Frame) (ns us : List ℕ) (ps : List Pt) (p : Pt) (k : ℕ)
    → map whole ps ≡ places tin frame ns → has ns k ≡ true → has us k ≡ true → whole p ≡ place frame (corner_at tin k)
    → IsAmong (marked_of (map (has us) ns) ps) p
marked_of_at tin frame [] us ps p k e f g h = absurd (cc)
marked_of_at tin frame (n ∷ ns) us [] p k e f g h = absurd (cc)
marked_of_at tin frame (n ∷ ns) us (q ∷ ps) p k e f g h =
    let here : whole q ≡ place frame (corner_at tin n) = cc in
    let rest : map whole ps ≡ places tin frame ns = cc in
    go (eqb n k) refl (has us n) refl here (λ more. marked_of_at tin frame ns us ps p k rest more g h)
  where
    go : (same : Bool) → eqb n k ≡ same → (b : Bool) → has us n ≡ b → whole q ≡ place frame (corner_at tin n)
        → (has ns k ≡ true → IsAmong (marked_of (map (has us) ns) ps) p)
        → IsAmong (cond b (q ∷ marked_of (map (has us) ns) ps) (marked_of (map (has us) ns) ps)) p
    go true i true j here more = inl (same_point p q
        (h ∙ ap (λ (m : ℕ). place frame (corner_at tin m)) (sym (eqb-true n k i)) ∙ sym here))
    go true i false j here more = absurd (no_both (sym j ∙ ap (λ (m : ℕ). has us m) (eqb-true n k i) ∙ g))
      where
        no_both : false ≡ true → ⊥
        no_both x = cc
    go false i true j here more = inr (more (subst (λ (b : Bool). (b || has ns k) ≡ true) i f))
    go false i false j here more = more (subst (λ (b : Bool). (b || has ns k) ≡ true) i f)

pub same_marked : (tin : Triangulation) (frame : Frame) (ns us : List ℕ) (ps qs : List Pt)
    → map whole ps ≡ places tin frame ns → map whole qs ≡ places tin frame us
    → HaveSamePoints (marked_of (map (has us) ns) ps) (marked_of (map (has ns) us) qs)
same_marked tin frame ns us ps qs e f p = (
  λ h. let a = at_of_marked tin frame ns us ps p e h in marked_of_at tin frame us ns qs p a.number f a.in_second
      a.in_first a.stands,
  λ h. let a = at_of_marked tin frame us ns qs p f h in marked_of_at tin frame ns us ps p a.number e a.in_second
      a.in_first a.stands,
)

-- ---- the corners of two triangles are near each other
pub record IsCorner (tin : Triangulation) (frame : Frame) (p : Pt) : Type 0 where
  pub number : ℕ
  pub in_range : number < length tin.corners
  pub stands : whole p ≡ place frame (corner_at tin number)

pub corner_of : (tin : Triangulation) (frame : Frame) (ns : List ℕ) (ps : List Pt) (p : Pt)
    → ((i : ℕ) → i < length ns → get_or ns i 0 < length tin.corners) → map whole ps ≡ places tin frame ns → IsAmong ps p
    → IsCorner tin frame p
corner_of tin frame ns [] p all e h = absurd h
corner_of tin frame [] (q ∷ ps) p all e h = absurd (cc)
corner_of tin frame (n ∷ ns) (q ∷ ps) p all e (inl h) =
    let here : whole q ≡ place frame (corner_at tin n) =
    cc in record { number = n; in_range = all 0 (omega arith); stands = ap (λ (r : Pt). whole r) h ∙ here }
corner_of tin frame (n ∷ ns) (q ∷ ps) p all e (inr h) =
    let rest : map whole ps ≡ places tin frame ns =
    cc in corner_of tin frame ns ps p (λ i k. all (suc i) (omega arith)) rest h

pub all_near : (tin : Triangulation) (frame : Frame) (t u : ℕ) (r s : Tri) → IsWithinLimits tin
    → t < length tin.triangles → u < length tin.triangles → corners_of r ≡ places tin frame (numbers_of tin t)
    → corners_of s ≡ places tin frame (numbers_of tin u) → AreNearTris r s
all_near tin frame t u r s limits ht hu e f p q h k =
    let a = any p (split (points_of r) (points_of s) p h) in
    let b = any q (split (points_of r) (points_of s) q k) in
    near_points tin frame a.number b.number p q limits a.in_range b.in_range a.stands b.stands
  where
    split : (ps qs : List Pt) (p : Pt) → IsAmong (ps ++ qs) p → IsAmong ps p ⊎ IsAmong qs p
    split [] qs p h = inr h
    split (q ∷ ps) qs p (inl h) = inl (inl h)
    split (q ∷ ps) qs p (inr h) = more (split ps qs p h)
      where
        more : IsAmong ps p ⊎ IsAmong qs p → ((p ≡ q) ⊎ IsAmong ps p) ⊎ IsAmong qs p
        more (inl k) = inl (inr k)
        more (inr k) = inr k

    any : (p : Pt) → IsAmong (points_of r) p ⊎ IsAmong (points_of s) p → IsCorner tin frame p
    any p (inl h) = corner_of tin frame (numbers_of tin t) (points_of r) p (λ i k. limits.in_range t ht i 0 k) e h
    any p (inr h) = corner_of tin frame (numbers_of tin u) (points_of s) p (λ i k. limits.in_range u hu i 0 k) f h

-- ---- the answer, in the words of the triangulation
pub told : (tin : Triangulation) (frame : Frame) (t u : ℕ) (r s : Tri) (found : Bool)
    → corners_of r ≡ places tin frame (numbers_of tin t) → corners_of s ≡ places tin frame (numbers_of tin u)
    → IsTrue found ↔ ((length (marked_of (map (has (numbers_of tin u)) (numbers_of tin t)) (points_of r)) ≤ 2)
    × MeetOnlyIn (corners_of r) (corners_of s) (map whole
    (marked_of (map (has (numbers_of tin u)) (numbers_of tin t)) (points_of r))))
    → IsTrue found ↔ DoFit tin frame t u
told tin frame t u r s found e f i = (λ h. there (i.0 h), λ h. i.1 (back h))
  where
    ms : List Pt
    ms = marked_of (map (has (numbers_of tin u)) (numbers_of tin t)) (points_of r)

    there : (length (marked_of (map (has (numbers_of tin u)) (numbers_of tin t)) (points_of r)) ≤ 2)
        × MeetOnlyIn (corners_of r) (corners_of s) (map whole
        (marked_of (map (has (numbers_of tin u)) (numbers_of tin t)) (points_of r))) → DoFit tin frame t u
    there h =
        record {
          two_common = subst (λ (n : ℕ). n ≤ 2) (marked-length tin frame (numbers_of tin t) (numbers_of tin u)
              (points_of r) e) h.0;
          meet = λ p hp in_t in_u.
              subst (λ (ps : List Point). IsMix p ps)
              (marked-places tin frame (numbers_of tin t) (numbers_of tin u) (points_of r) e)
              (h.1 p hp (subst (λ (ps : List Point). IsMix p ps) (sym e) in_t)
              (subst (λ (ps : List Point). IsMix p ps) (sym f) in_u));
        }

    back : DoFit tin frame t u → (length (marked_of (map (has (numbers_of tin u)) (numbers_of tin t)) (points_of r))
        ≤ 2) × MeetOnlyIn (corners_of r) (corners_of s)
        (map whole (marked_of (map (has (numbers_of tin u)) (numbers_of tin t)) (points_of r)))
    back h = (
      subst (λ (n : ℕ). n ≤ 2) (sym (marked-length tin frame (numbers_of tin t) (numbers_of tin u) (points_of r) e))
          h.two_common,
      λ p hp in_t in_u.
          subst (λ (ps : List Point). IsMix p ps)
          (sym (marked-places tin frame (numbers_of tin t) (numbers_of tin u) (points_of r) e))
          (h.meet p hp (subst (λ (ps : List Point). IsMix p ps) e in_t)
          (subst (λ (ps : List Point). IsMix p ps) f in_u)),
    )

-- ---- the same, for marks and rows as they were read
pub marks_read : (tin : Triangulation) (rows : List (List ℕ)) (t u : ℕ) (found : List Bool) → rows ≡ tin.triangles
    → found ≡ map (has (get_or rows u [])) (get_or rows t []) → found ≡ map (has (numbers_of tin u)) (numbers_of tin t)
marks_read tin rows t u found e f = f ∙ ap (λ (xs : List (List ℕ)). map (has (get_or xs u [])) (get_or xs t [])) e

pub same_read : (tin : Triangulation) (frame : Frame) (t u : ℕ) (r s : Tri) (of_t of_u : List Bool)
    → of_t ≡ map (has (numbers_of tin u)) (numbers_of tin t) → of_u ≡ map (has (numbers_of tin t)) (numbers_of tin u)
    → corners_of r ≡ places tin frame (numbers_of tin t) → corners_of s ≡ places tin frame (numbers_of tin u)
    → HaveSamePoints (marked_of of_t (points_of r)) (marked_of of_u (points_of s))
same_read tin frame t u r s of_t of_u e f is_r is_s =
    subst (λ (ms : List Bool). HaveSamePoints (marked_of ms (points_of r)) (marked_of of_u (points_of s))) (sym e)
    (subst (λ (ms : List Bool). HaveSamePoints
    (marked_of (map (has (numbers_of tin u)) (numbers_of tin t)) (points_of r)) (marked_of ms (points_of s)))
    (sym f)
    (same_marked tin frame (numbers_of tin t) (numbers_of tin u) (points_of r) (points_of s) is_r is_s))

pub told_read : (tin : Triangulation) (frame : Frame) (t u : ℕ) (r s : Tri) (of_t : List Bool) (found : Bool)
    → of_t ≡ map (has (numbers_of tin u)) (numbers_of tin t) → corners_of r ≡ places tin frame (numbers_of tin t)
    → corners_of s ≡ places tin frame (numbers_of tin u)
    → IsTrue found ↔ ((length (marked_of of_t (points_of r)) ≤ 2)
    × MeetOnlyIn (corners_of r) (corners_of s) (map whole (marked_of of_t (points_of r))))
    → IsTrue found ↔ DoFit tin frame t u
told_read tin frame t u r s of_t found e is_r is_s i =
    told tin frame t u r s found is_r is_s
    (subst (λ (ms : List Bool). IsTrue found ↔ ((length (marked_of ms (points_of r)) ≤ 2)
    × MeetOnlyIn (corners_of r) (corners_of s) (map whole (marked_of ms (points_of r))))) e i)
