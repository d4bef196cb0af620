-- The walk over values that are open, one value or one end further.
use Rattle.std.proofs.Common.{◌≡◌, ℕ, ◌+◌, ◌-◌, ◌<◌, ◌≤◌, List, [], ◌∷◌, length, refl, sym, ap, ◌∙◌, subst, arith}
use Rattle.std.proofs.Common.{append_assoc, length-append, Bool}
use Rattle.std.specs.Prelude.{Option, Some, None, Result, Ok, Err, slice_get}
use Rattle.jtext.specs.Values.{Json, Elements, no_element, element}
use Rattle.jtext.specs.Nodes.{node_count, element_start, next_place}
use Rattle.jtext.specs.Places.{HasNodesAt}
use Rattle.jtext.specs.declared.document.Node.{Node}
use Rattle.jtext.proofs.CallerLemmas.NodePlaces.{node_count_positive, ends_within}
use Rattle.sheet_base.specs.declared.faults.LayerFault.{LayerFault}
use Rattle.sheet_base.specs.declared.faults.LayerFault.TheVariants as faults
use Rattle.gj_layer.specs.declared.frames.OpenFrame.{OpenFrame}
use Rattle.gj_layer.specs.declared.frames.Ending.{Ending}
use Rattle.gj_layer.specs.declared.pass.PathsRead.{PathsRead}
use Rattle.sheet_base.specs.Faults.{and_then}
use Rattle.gj_layer.specs.Paths.{Part, nothing, joint_part}
use Rattle.gj_layer.specs.Documents.{reading, readings}
use Rattle.gj_layer.specs.InsideNodes.{AreLeft, Holds, HasRoom, Grows}
use Rattle.gj_layer.specs.InsideFrames.{Own, Open, part_with_own, part_of_level, whole_of, with_more, outcome, held_by, IsBare}
use Rattle.gj_layer.specs.InsideFrames.{IsEndingOf, IsEnding, IsFrameWithin, GrowsBy, AreOuter, Going, Goes, Opens}
use Rattle.gj_layer.specs.InsideFrames.{Takes}
use Rattle.gj_layer.proofs.Members.There.{first_is, left_count}
use Rattle.gj_layer.proofs.OpenObjects.OpenValues.{joined_nothing}

joined_assoc : (a b c : Part) → joint_part (joint_part a b) c ≡ joint_part a (joint_part b c)
joined_assoc a b c = grind (arith, append_assoc)

outcome_fault : (exact : Bool) (outer : List Open) (fault : LayerFault)
    → outcome exact outer (Err fault) ≡ Err fault
outcome_fault exact [] fault = refl
outcome_fault exact (level ∷ outer) fault = outcome_fault exact outer fault

module _ (exact : Bool) (level : Open) (place : ℕ) (before : List ℕ) (value : Json) (after : List ℕ) (rest : Elements)
  where
    abbrev start : ℕ
    start = element_start place before

    -- the level without its next value
    abbrev pub passed : Open
    passed = record level { place = next_place start value after; rest = rest }

    one_more : (one : Part) (r : Result Part LayerFault)
        → and_then (part_of_level level) (and_then (λ others. Ok (joint_part one others)) r)
        ≡ and_then (part_of_level (with_more passed one)) r
    one_more one (Err fault) = refl
    one_more one (Ok others) = ap (λ part. Ok (part_with_own level.own level.number part))
        (sym (joined_assoc level.done one others))

    next_so : (r : Result Part LayerFault)
        → and_then (part_of_level level) (and_then (λ one. and_then (λ others. Ok (joint_part one others))
        (readings exact level.form (level.next + length one.paths) (next_place start value after) rest)) r)
        ≡ and_then (λ here. whole_of exact (with_more passed here)) r
    next_so (Err fault) = refl
    next_so (Ok one) = one_more one (readings exact level.form (level.next + length one.paths)
        (next_place start value after) rest)

    -- what a level is read as goes by what its next value is
    whole_next : whole_of exact (record level { place = place; rest = element before value after rest })
        ≡ and_then (λ here. whole_of exact (with_more passed here)) (reading exact level.form level.next start value)
    whole_next = next_so (reading exact level.form level.next start value)

no_element_apart : {P : Type 0} (before : List ℕ) (value : Json) (after : List ℕ) (rest : Elements)
    → element before value after rest ≡ no_element → P
no_element_apart before value after rest is = cc

module _ (exact : Bool) (nodes : List Node) (bytes : List ℕ) (frame : OpenFrame) (frames : List OpenFrame)
    (wanted : Result Part LayerFault) (within : frame.at < frame.end) where
  -- the next value of the innermost frame, and what is wanted by what it is read as
  pub record HasNext (pass : PathsRead) : Type 0 where
    pub part : Part
    pub start : ℕ
    pub value : Json
    pub stands : HasNodesAt nodes bytes frame.at start value
    pub held : Holds pass part
    pub inside : frame.at + node_count value ≤ frame.end
    pub read : (new : PathsRead) (node : Node) (more : Part) → slice_get nodes frame.at ≡ Some node
        → reading exact frame.form (length part.paths) start value ≡ Ok more → Holds new (joint_part part more)
        → Going exact nodes bytes (record { form = frame.form; at = node.next; end = frame.end; ending = frame.ending }
        ∷ frames) new wanted
    pub opened : (new : PathsRead) (node : Node) (inner : OpenFrame) → slice_get nodes frame.at ≡ Some node
        → Opens nodes bytes exact part (Ok inner) (reading exact frame.form (length part.paths) start value)
        → Holds new part
        → Going exact nodes bytes (inner ∷ record {
          form = frame.form;
          at = node.next;
          end = frame.end;
          ending =
              frame.ending;
        } ∷ frames) new wanted
    pub refused : (fault : LayerFault) → reading exact frame.form (length part.paths) start value ≡ Err fault
        → wanted ≡ Err fault

  pub next_there : (pass : PathsRead) → Going exact nodes bytes (frame ∷ frames) pass wanted → HasNext pass
  next_there pass (level, outer, is, are, held, whole) = by level.place level.rest is.left refl refl
    where
      by : (place : ℕ) (rest : Elements) → AreLeft nodes bytes frame.at frame.end place rest → level.place ≡ place
          → level.rest ≡ rest → HasNext pass
      by place no_element left place_is rest_is = absurd (omega (arith, left, within))
      by place (element before value after rest) left place_is rest_is =
          let start = element_start place before in
          let part = held_by (level ∷ outer) in
          let below = passed exact level place before value after rest in
          let count = length-append (held_by outer).paths level.done.paths in
          let number : level.next ≡ length part.paths = omega (arith, is.next_is, is.number_is, count) in
          let item = reading exact frame.form (length part.paths) start value in
          let item_is : reading exact level.form level.next start value ≡ item =
          ap (λ f. reading exact f level.next start value) (sym is.form_is)
          ∙ ap (λ n. reading exact frame.form n start value) number in
          let same : whole_of exact level ≡ whole_of exact
          (record level { place = place; rest = element before value after rest }) =
          ap (λ p. whole_of exact (record level { place = p })) place_is
          ∙ ap (λ r. whole_of exact (record level { place = place; rest = r })) rest_is in
          let on : wanted ≡ outcome exact (below ∷ outer) item =
          whole ∙ ap (outcome exact outer) (same ∙ whole_next exact level place before value after rest)
          ∙ ap (outcome exact (below ∷ outer)) item_is in
          let not_bare = λ (b : IsBare level.own). no_element_apart {P = ⊥} before value after rest
          (sym rest_is ∙ (is.bare b).0) in
          let next = λ (node : Node) (got : slice_get nodes frame.at ≡ Some node). ap (λ (n : Node). n.next)
          (first_is nodes bytes frame.at start value node left.0 got) in
          let later = λ (node : Node) (got : slice_get nodes frame.at ≡ Some node).
          subst (λ n. AreLeft nodes bytes n frame.end (next_place start value after) rest) (sym (next node got))
          left.1 in
          let counted = left_count nodes bytes (frame.at + node_count value) frame.end (next_place start value after)
          rest left.1 in
          record {
            part = part;
            start = start;
            value = value;
            stands = left.0;
            held = held;
            inside = omega (arith, counted);
            read = λ new node more got read holds.
                let long = length-append level.done.paths more.paths in (
                  with_more below more,
                  outer,
                  record {
                    form_is = is.form_is;
                    left = later node got;
                    ending_is = is.ending_is;
                    number_is = is.number_is;
                    next_is = omega (arith, is.next_is, long);
                    bare = λ b. absurd (not_bare b);
                  },
                  are,
                  subst (Holds new) (joined_assoc (held_by outer) level.done more) holds,
                  on ∙ ap (outcome exact (below ∷ outer)) read,
                );
            opened = λ new node inner got opens holds.
                let (innermost, inner_is, none, whole_inner) = opens in (
                  innermost,
                  below ∷ outer,
                  inner_is,
                  (
                    record {
                      form_is = is.form_is;
                      left = later node got;
                      ending_is = is.ending_is;
                      number_is = is.number_is;
                      next_is = is.next_is;
                      bare = λ b. absurd (not_bare b);
                    },
                    not_bare,
                    are,
                  ),
                  subst (Holds new) (sym (ap (joint_part part) none ∙ joined_nothing part)) holds,
                  on ∙ ap (outcome exact (below ∷ outer)) whole_inner,
                );
            refused = λ fault read. on ∙ ap (outcome exact (below ∷ outer)) read
                ∙ outcome_fault exact (below ∷ outer) fault;
          }

module _ (exact : Bool) (nodes : List Node) (bytes : List ℕ) (frame : OpenFrame) (wanted : Result Part LayerFault)
    (behind : frame.end ≤ frame.at) where
  -- the innermost frame has ended
  pub record HasEnded (frames : List OpenFrame) (pass : PathsRead) : Type 0 where
    pub own : Option Own
    pub before : Part
    pub done : Part
    pub ending_is : IsEnding frame.ending own (length before.paths) before
    pub bare : IsBare own → done ≡ nothing
    pub held : Holds pass (joint_part before done)
    pub onward : (new : PathsRead) → Holds new (joint_part before (part_with_own own (length before.paths) done))
        → Going exact nodes bytes frames new wanted

  go_out : (frames : List OpenFrame) (outer : List Open) (new : PathsRead) (here : Part) → AreOuter nodes bytes frames outer
      → wanted ≡ outcome exact outer (Ok here) → Holds new (joint_part (held_by outer) here)
      → Going exact nodes bytes frames new wanted
  go_out [] [] new here are on holds = (here, on, holds)
  go_out (next ∷ frames) (level ∷ outer) new here are on holds = grind (arith, length-append, joined_assoc)
  go_out frames outer new here are on holds = absurd are

  pub end_there : (frames : List OpenFrame) (pass : PathsRead) → Going exact nodes bytes (frame ∷ frames) pass wanted
      → HasEnded frames pass
  end_there frames pass (level, outer, is, are, held, whole) = by level.place level.rest is.left refl
    where
      by : (place : ℕ) (rest : Elements) → AreLeft nodes bytes frame.at frame.end place rest → level.rest ≡ rest
          → HasEnded frames pass
      by place no_element left rest_is = grind (arith, joined_nothing, go_out)
      by place (element before value after rest) left rest_is = grind (arith, left_count, node_count_positive)

pub room_less : (pass : PathsRead) (size less : ℕ) → HasRoom pass size → less ≤ size → HasRoom pass less
room_less pass size less room le = grind (arith)

pub room_grows : (old new : PathsRead) (more size whole : ℕ) → HasRoom old whole → Grows old new more → more + size ≤ whole
    → HasRoom new size
room_grows old new more size whole room grows le = grind (arith)

pub goes_fault : (exact : Bool) (nodes : List Node) (bytes : List ℕ) (frames : List OpenFrame) (pass : PathsRead)
    (r : Result (Unit {0}) LayerFault) (wanted : Result Part LayerFault) (fault : LayerFault) → r ≡ Err fault
    → ((fault ≡ faults.NoMemory → ⊥) → wanted ≡ Err fault) → Goes exact nodes bytes frames pass r wanted
goes_fault exact nodes bytes frames pass r wanted fault is same =
    subst (λ q. Goes exact nodes bytes frames pass q wanted) (sym is) same

pub within_nodes : (nodes : List Node) (bytes : List ℕ) (number start : ℕ) (value : Json)
    → HasNodesAt nodes bytes number start value → number < length nodes
within_nodes nodes bytes number start value h = let ends =
    ends_within nodes bytes number start value h in omega (arith, ends.1, node_count_positive value)

-- where the node after the value is
pub node_behind : (nodes : List Node) (bytes : List ℕ) (number start : ℕ) (value : Json) (node : Node)
    → HasNodesAt nodes bytes number start value → slice_get nodes number ≡ Some node
    → node.next ≡ number + node_count value
node_behind nodes bytes number start value node h got =
    ap (λ (n : Node). n.next) (first_is nodes bytes number start value node h got)

-- what is true of the value that was read, or of the frame that was opened
pub taken_none : (nodes : List Node) (bytes : List ℕ) (exact : Bool) (part : Part) (new : PathsRead) (found : Option OpenFrame)
    (wanted : Result Part LayerFault) → found ≡ None → Takes nodes bytes exact part new (Ok found) wanted
    → (more : Part) × (wanted ≡ Ok more) × Holds new (joint_part part more)
taken_none nodes bytes exact part new None wanted is takes = takes
taken_none nodes bytes exact part new (Some frame) wanted is takes = cc

pub taken_some : (nodes : List Node) (bytes : List ℕ) (exact : Bool) (part : Part) (new : PathsRead) (found : Option OpenFrame)
    (frame : OpenFrame) (wanted : Result Part LayerFault) → found ≡ Some frame
    → Takes nodes bytes exact part new (Ok found) wanted
    → Opens nodes bytes exact part (Ok frame) wanted × Holds new part
taken_some nodes bytes exact part new None frame wanted is takes = cc
taken_some nodes bytes exact part new (Some other) frame wanted is takes = let same : other ≡ frame =
    cc in subst (λ f. Opens nodes bytes exact part (Ok f) wanted × Holds new part) same takes

pub grows_some : (nodes : List Node) (value : ℕ) (old new : PathsRead) (found : Option OpenFrame) (frame : OpenFrame)
    → found ≡ Some frame → GrowsBy nodes value old new found → Grows old new 0
grows_some nodes value old new None frame is grows = cc
grows_some nodes value old new (Some other) frame is grows = grows

pub grows_none : (nodes : List Node) (value : ℕ) (old new : PathsRead) (found : Option OpenFrame) (node : Node) → found ≡ None
    → slice_get nodes value ≡ Some node → GrowsBy nodes value old new found
    → Grows old new (node.next - value)
grows_none nodes value old new None node is got grows = grows node got
grows_none nodes value old new (Some other) node is got grows = cc

pub within_some : (nodes : List Node) (value : ℕ) (found : Option OpenFrame) (frame : OpenFrame) (node : Node)
    → found ≡ Some frame → slice_get nodes value ≡ Some node → IsFrameWithin nodes value found
    → (frame.end - frame.at) + value < node.next
within_some nodes value None frame node is got within = cc
within_some nodes value (Some other) frame node is got within = let same : other ≡ frame =
    cc in subst (λ (f : OpenFrame). (f.end - f.at) + value < node.next) same (within node got)

pub ending_some : (found : Option Ending) (ending : Ending) (own : Option Own) (number : ℕ) (before : Part)
    → found ≡ Some ending → IsEnding found own number before
    → (one : Own) × (own ≡ Some one) × IsEndingOf ending one number before
ending_some (Some other) ending (Some one) number before is ends = let same : other ≡ ending =
    cc in (one, refl, subst (λ e. IsEndingOf e one number before) same ends)
ending_some (Some other) ending None number before is ends = absurd ends
ending_some None ending own number before is ends = cc

pub ending_none : (found : Option Ending) (own : Option Own) (number : ℕ) (before : Part) → found ≡ None
    → IsEnding found own number before → own ≡ None
ending_none None None number before is ends = refl
ending_none None (Some one) number before is ends = absurd ends
ending_none (Some other) own number before is ends = cc

-- edits of an object begin where those before it end
pub edits_within : (pass : PathsRead) (before done : Part) → Holds pass (joint_part before done)
    → length before.edits ≤ length pass.edits.items
edits_within pass before done held = omega (arith, ap length held.edits, length-append before.edits done.edits)
