-- Each text is a layer, or has a first fault.
use Rattle.std.proofs.Common.{◌≡◌, ◌≢◌, ◌⊎◌, inl, inr, ℕ, ◌+◌, Bool, List, [], ◌∷◌, ◌++◌, length, refl, sym, ap, ◌∙◌}
use Rattle.std.proofs.Common.{append_assoc, append-nil}
use Rattle.std.specs.Prelude.{Option, Some, None}
use Rattle.std.proofs.lemmas.List.{map-append}
use Rattle.text_places.specs.Machine.{run}
use Rattle.text_places.proofs.Runs.{run_next}
use Rattle.sheet_base.specs.declared.faults.LayerFault.{LayerFault}
use Rattle.sheet_base.specs.Outcomes.{HasOutcome}
use Rattle.wkt_layer.specs.Tokens.{Placed, tokens_of}
use Rattle.wkt_layer.specs.Paths.{Path, sheet_of}
use Rattle.wkt_layer.specs.Lines.{IsLineOf, tokens_in}
use Rattle.wkt_layer.specs.Faults.{IsLineFault}
use Rattle.wkt_layer.specs.Layers.{geometry_lines, AreLinesOf, IsFirstLineFault, IsWktReadAs, IsWktRefusedBy}
use Rattle.wkt_layer.specs.InsideReach.{IsIn}
use Rattle.wkt_layer.specs.InsideStates.{Spot, tagged}
use Rattle.wkt_layer.specs.InsideStates.{bare_whole, behind, State}
use Rattle.wkt_layer.specs.InsideStates.{state, start, step, IsEnd, fault_of, opened_by}
use Rattle.wkt_layer.specs.declared.places.ItemGroup.{ItemGroup}
use Rattle.wkt_layer.proofs.Faults.InBrackets.{step_in}
use Rattle.wkt_layer.proofs.CodeReads.TokenReads.{refused_token, line_of, open_line}

-- ---- a line
abbrev HasLineOutcome : Bool → List Placed → ℕ → Type 0
HasLineOutcome exact line end = ((paths : List Path) × IsLineOf exact line paths)
    ⊎ ((fault : LayerFault) × IsLineFault exact line end fault)

-- whether a line may end in a state
end_or_open : (spot : Spot) (stack : List ItemGroup) (paths : List Path)
    → IsEnd (state spot stack paths) ⊎ (IsEnd (state spot stack paths) → ⊥)
end_or_open bare_whole [] paths = inl (record { last = tt; closed = refl })
end_or_open bare_whole (group ∷ stack) paths = inr (λ end. let e = end.closed in cc)
end_or_open behind [] paths = inl (record { last = tt; closed = refl })
end_or_open behind (group ∷ stack) paths = inr (λ end. let e = end.closed in cc)
end_or_open (tagged kind) stack paths = inr (λ end. end.last)
end_or_open spot stack paths = inr (λ end. end.last)

ended : (exact : Bool) (line : List Placed) (end : ℕ) (s : State) → line ≢ []
    → run (step exact) start (tokens_in line) ≡ Some s → HasLineOutcome exact line end
ended exact line end s some ran = elim (end_or_open s.spot s.stack s.paths) [
  | inl last ↦ inl (s.paths, line_of exact line s some ran last)
  | inr open_still ↦ inr (_, open_line exact line end s some ran open_still)
]

-- the tokens so far lead to a state, and the next one leads on or is refused
goes_on : (exact : Bool) (line front more : List Placed) (next : Placed) (s : State) (opened end : ℕ)
    → line ≡ front ++ next ∷ more → run (step exact) start (tokens_in front) ≡ Some s → IsIn front opened s.spot
    → ((to : State) → run (step exact) start (tokens_in (front ++ next ∷ [])) ≡ Some to
    → IsIn (front ++ next ∷ []) (opened_by next.token next.start opened) to.spot → HasLineOutcome exact line end)
    → HasLineOutcome exact line end
goes_on exact line front more next s opened end split ran inside on = at (step exact s next.token) refl
  where
    at : (to : Option State) → step exact s next.token ≡ to → HasLineOutcome exact line end
    at None refused = inr (
      fault_of exact s.spot s.stack next.token next.start opened,
      refused_token exact line front
          more next s opened end split ran refused inside,
    )
    at (Some to) steps =
        on to (ap (run (step exact) start) (map-append (λ (p : Placed). p.token) front (next ∷ []))
        ∙ run_next (step exact) start s (tokens_in front) next.token ran ∙ steps)
        (step_in exact front opened next.start s.spot s.stack s.paths next.token to inside steps)

reads_or_fails : (exact : Bool) (line front rest : List Placed) (s : State) (opened end : ℕ) → line ≢ []
    → line ≡ front ++ rest → run (step exact) start (tokens_in front) ≡ Some s → IsIn front opened s.spot
    → HasLineOutcome exact line end
reads_or_fails exact line front [] s opened end some split ran inside =
    ended exact line end s some (ap (λ ts. run (step exact) start (tokens_in ts)) (split ∙ append-nil front) ∙ ran)
reads_or_fails exact line front (next ∷ more) s opened end some split ran inside =
    goes_on exact line front more next s opened end split ran inside
    (λ to leads within. reads_or_fails exact line (front ++ next ∷ []) more to (opened_by next.token next.start opened)
    end some (split ∙ sym (append_assoc front (next ∷ []) more)) leads within)

line_outcome : (exact : Bool) (line : List Placed) (end : ℕ) → HasLineOutcome exact line end
line_outcome exact [] end = inl ([], refl)
line_outcome exact (one ∷ more) end = reads_or_fails exact (one ∷ more) [] (one ∷ more) start 0 end
    (λ none. let e : one ∷ more ≡ [] = none in cc) refl refl tt

-- ---- a text
lines_outcome : (exact : Bool) (at : ℕ) (lines : List (List ℕ))
    → ((paths : List Path) × AreLinesOf exact at lines paths)
    ⊎ ((fault : LayerFault) × IsFirstLineFault exact at lines fault)
lines_outcome exact at [] = inl ([], refl)
lines_outcome exact at (line ∷ lines) = elim (line_outcome exact (tokens_of at line) (at + length line)) [
  | inl (here, is) ↦ elim (lines_outcome exact (at + length line + 1) lines) [
    | inl (others, are) ↦ inl (here ++ others, (here, others, is, are, refl))
    | inr (fault, refused) ↦ inr (fault, inr (here, is, refused))
  ]
  | inr (fault, is) ↦ inr (fault, inl is)
]

pub outcome_exists : (exact : Bool) (bytes : List ℕ) → HasOutcome (IsWktReadAs exact bytes) (IsWktRefusedBy exact bytes)
outcome_exists exact bytes = elim (lines_outcome exact 0 (geometry_lines bytes)) [
  | inl (paths, are) ↦ inl (sheet_of paths, (paths, are, refl))
  | inr (fault, refused) ↦ inr (fault, refused)
]
