-- Positions that are read one by one.
use Rattle.std.proofs.Common.{◌≡◌, ℕ, ◌+◌, ◌<◌, ◌≤◌, List, [], ◌∷◌, ◌++◌, map, refl, sym, ap, ◌∙◌, subst, arith}
use Rattle.std.proofs.Common.{append_assoc, append-nil, Bool, true, false}
use Rattle.std.specs.Prelude.{Some, slice_get, Result, Ok, Err, if◌then◌else◌}
use Rattle.std.proofs.lemmas.List.{map-append}
use Rattle.std.proofs.lemmas.List.Sums.{sum_by_push}
use Rattle.jtext.specs.Values.{Json, Elements, no_element, element}
use Rattle.jtext.specs.Nodes.{node_count, element_start, next_place}
use Rattle.jtext.specs.Places.{HasNodesAt}
use Rattle.jtext.specs.declared.document.Node.{Node}
use Rattle.jtext.proofs.CallerLemmas.NodePlaces.{node_count_positive}
use Rattle.plane_base.specs.declared.shapes.Pt.{Pt}
use Rattle.sheet_base.specs.PointHeights.{Height, Position, points_of, heights_of}
use Rattle.sheet_base.specs.declared.faults.LayerFault.{LayerFault}
use Rattle.gj_layer.specs.declared.positions.PositionRead.{PositionRead}
use Rattle.gj_layer.specs.declared.positions.PositionRun.{PositionRun}
use Rattle.sheet_base.specs.Faults.{and_then}
use Rattle.gj_layer.specs.Positions.{position, positions, in_front, point_of, height_of}
use Rattle.gj_layer.specs.Positions.{position_of, lost_of}
use Rattle.gj_layer.specs.Paths.{end_of}
use Rattle.gj_layer.specs.InsideNodes.{AreLeft, AreFrom, IsRun}
use Rattle.gj_layer.proofs.Members.There.{first_is, left_count}

-- what was passed, with what is read of the rest
abbrev pub behind_these : List PositionRead → List PositionRead → Result (List PositionRead) LayerFault
behind_these done more = Ok (done ++ more)

-- none was passed where the walk begins, and some after that place
abbrev pub HasBegun : List PositionRead → ℕ → ℕ → Type 0
HasBegun [] first at = at ≡ first
HasBegun (one ∷ more) first at = first < at

-- these positions were passed, and the rest is from here on
pub record IsWalked (nodes : List Node) (bytes : List ℕ) (exact : Bool) (all : Result (List PositionRead) LayerFault)
    (first at end : ℕ) (old now : List Pt) (low high : List Height) (run : PositionRun) : Type 0 where
  pub place : ℕ
  pub rest : Elements
  pub done : List PositionRead
  pub left : AreLeft nodes bytes at end place rest
  pub so_far : all ≡ and_then (behind_these done) (positions exact place rest)
  pub run_is : IsRun old now low high run done
  pub begun : HasBegun done first at

ok_same : (r : Result (List PositionRead) LayerFault) → r ≡ and_then (behind_these []) r
ok_same (Ok all) = refl
ok_same (Err fault) = refl

one_behind : (done : List PositionRead) (one : PositionRead) (r : Result (List PositionRead) LayerFault)
    → and_then (behind_these done) (and_then (in_front one) r) ≡ and_then (behind_these (done ++ one ∷ [])) r
one_behind done one (Ok more) = ap Ok (sym (append_assoc done (one ∷ []) more))
one_behind done one (Err fault) = refl

end_of_more : (one : PositionRead) (more : List PositionRead) (last : PositionRead)
    → end_of one (more ++ last ∷ []) ≡ last.end
end_of_more one [] last = refl
end_of_more one (next ∷ more) last = end_of_more next more last

from_more : (done : List PositionRead) (last : PositionRead) (start end : ℕ) (now_start : ℕ) (is_first : Bool)
    (first at : ℕ)
    → AreFrom done start end → HasBegun done first at
    → (is_first ≡ true → at ≡ first) → (at ≡ first → is_first ≡ true)
    → now_start ≡ (if is_first then last.start else start)
    → AreFrom (done ++ last ∷ []) now_start last.end
from_more [] last start end now_start is_first first at are begun first_so only is =
    (is ∙ ap (λ b. if b then last.start else start) (only begun), refl)
from_more (one ∷ more) last start end now_start true first at are begun first_so only is =
    absurd (omega (arith, begun, first_so refl))
from_more (one ∷ more) last start end now_start false first at are begun first_so only is =
    (is ∙ are.0, sym (end_of_more one more last))

begun_more : (done : List PositionRead) (last : PositionRead) (first at next : ℕ) → HasBegun done first at → at < next
    → HasBegun (done ++ last ∷ []) first next
begun_more [] last first at next begun on = omega (arith, begun, on)
begun_more (one ∷ more) last first at next begun on = omega (arith, begun, on)

module _ (nodes : List Node) (bytes : List ℕ) (exact : Bool) where
  pub walk_begins : (end place : ℕ) (elements : Elements) (first : ℕ) (points : List Pt) (heights : List Height)
      (run : PositionRun)
      → run.lost ≡ 0 → AreLeft nodes bytes first end place elements
      → IsWalked nodes bytes exact (positions exact place elements) first first end points points heights heights run
  walk_begins end place elements first points heights run none left = grind (arith, ok_same, append-nil)

  module _ (all : Result (List PositionRead) LayerFault) (first at end : ℕ) (old now : List Pt) (low high : List Height)
      (run : PositionRun) (w : IsWalked nodes bytes exact all first at end old now low high run) (more : at < end) where
    -- the value that comes next, with what it is read as
    pub record IsNext (r : Result PositionRead LayerFault) : Type 0 where
      pub fault : (f : LayerFault) → r ≡ Err f → all ≡ Err f
      pub onward : (one : PositionRead) (node : Node) (longer : PositionRun) (is_first : Bool) → r ≡ Ok one
          → slice_get nodes at ≡ Some node
          → (is_first ≡ true → at ≡ first) → (at ≡ first → is_first ≡ true)
          → longer.start ≡ (if is_first then one.start else run.start) → longer.end ≡ one.end
          → longer.lost ≡ run.lost + lost_of one
          → IsWalked nodes bytes exact all first node.next end old (now ++ point_of one ∷ []) low
          (high ++ height_of one ∷ []) longer

    pub next_is : (r : Result PositionRead LayerFault)
        → ((s : ℕ) (v : Json) → HasNodesAt nodes bytes at s v → r ≡ position exact s v) → IsNext r
    next_is r reads = next w.place w.rest w.left w.so_far
      where
        next : (place : ℕ) (rest : Elements) → AreLeft nodes bytes at end place rest
            → all ≡ and_then (behind_these w.done) (positions exact place rest) → IsNext r
        next place no_element left so_far = absurd (omega (arith, left, more))
        next place (element before v after rest) left so_far =
            let start = element_start place before in
            let tail = positions exact (next_place start v after) rest in
            let here : all ≡ and_then (behind_these w.done) (and_then (λ one. and_then (in_front one) tail) r) =
            so_far ∙ ap (λ q. and_then (behind_these w.done) (and_then (λ one. and_then (in_front one) tail) q))
            (sym (reads start v left.0)) in
            record {
              fault = λ f is. here ∙ ap (λ q. and_then (behind_these w.done)
                  (and_then (λ one. and_then (in_front one) tail) q)) is;
              onward = λ one node longer is_first is got first_so only starts ends lost.
                  let next = ap (λ (n : Node). n.next) (first_is nodes bytes at start v node left.0 got) in
                  record {
                    place = next_place start v after;
                    rest = rest;
                    done = w.done ++ one ∷ [];
                    left = subst (λ n. AreLeft nodes bytes n end (next_place start v after) rest) (sym next) left.1;
                    so_far = here ∙ ap (λ q. and_then (behind_these w.done)
                        (and_then (λ one. and_then (in_front one) tail) q)) is ∙ one_behind w.done one tail;
                    run_is = record {
                      points_are = ap (λ ps. ps ++ point_of one ∷ []) w.run_is.points_are
                          ∙ append_assoc old (points_of (map position_of w.done)) (point_of one ∷ [])
                          ∙ ap (λ ps. old ++ ps) (sym (map-append (λ (p : Position). p.point) (map position_of w.done)
                          (position_of one ∷ [])) ∙ ap points_of (sym (map-append position_of w.done (one ∷ []))));
                      heights_are = ap (λ hs. hs ++ height_of one ∷ []) w.run_is.heights_are
                          ∙ append_assoc low (heights_of (map position_of w.done)) (height_of one ∷ [])
                          ∙ ap (λ hs. low ++ hs) (sym (map-append (λ (p : Position). p.height) (map position_of w.done)
                          (position_of one ∷ [])) ∙ ap heights_of (sym (map-append position_of w.done (one ∷ []))));
                      lost = lost ∙ ap (λ n. n + lost_of one) w.run_is.lost ∙ sym (sum_by_push lost_of w.done one);
                      ends = subst (AreFrom (w.done ++ one ∷ []) longer.start) (sym ends)
                          (from_more w.done one run.start run.end longer.start is_first first at w.run_is.ends w.begun
                          first_so only starts);
                    };
                    begun = begun_more w.done one first at node.next w.begun
                        (omega (arith, next, node_count_positive v));
                  };
            }

    pub walk_within : (node : Node) → slice_get nodes at ≡ Some node → node.next ≤ end
    walk_within node got = within w.place w.rest w.left
      where
        within : (place : ℕ) (rest : Elements) → AreLeft nodes bytes at end place rest → node.next ≤ end
        within place no_element left = absurd (omega (arith, left, more))
        within place (element before v after rest) left =
            let next = ap (λ (n : Node). n.next) (first_is nodes bytes at (element_start place before) v node left.0
            got) in
            let count = left_count nodes bytes (at + node_count v) end (next_place (element_start place before) v after)
            rest left.1 in omega (arith, next, count)

  pub walk_ends : (all : Result (List PositionRead) LayerFault) (first at end : ℕ) (old now : List Pt)
      (low high : List Height) (run : PositionRun) → IsWalked nodes bytes exact all first at end old now low high run → end ≤ at
      → (done : List PositionRead) × (all ≡ Ok done) × IsRun old now low high run done
  walk_ends all first at end old now low high run w here = ends w.place w.rest w.left w.so_far
    where
      ends : (place : ℕ) (rest : Elements) → AreLeft nodes bytes at end place rest
          → all ≡ and_then (behind_these w.done) (positions exact place rest)
          → (done : List PositionRead) × (all ≡ Ok done) × IsRun old now low high run done
      ends place no_element left so_far = (w.done, so_far ∙ ap Ok (append-nil w.done), w.run_is)
      ends place (element before v after rest) left so_far = grind (arith, left_count, node_count_positive)
