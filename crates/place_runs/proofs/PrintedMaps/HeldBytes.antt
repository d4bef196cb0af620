-- What is written of the bytes that were held, and what is still held.
use Rattle.std.proofs.Common.{◌≡◌, ℕ, ◌+◌, List, [], ◌∷◌, ◌++◌, length, take, codes, Option, None, Some, IfSome, inl, inr}
use Rattle.std.proofs.Common.{refl, sym, ◌∙◌, ap, subst, arith, append_assoc, length-append}
use Rattle.std.proofs.Math.Seq.{take-append-add}
use Rattle.std.proofs.lemmas.List.{take-append-le}
use Rattle.shelf_io.specs.Files.{Files}
use Rattle.shelf_io.specs.Made.{Appends, AppendsFront, Becomes, PrintsFront, with_whole}
use Rattle.shelf_io.proofs.Made.{Appends-nothing, Appends-more}
use Rattle.publication.specs.Fronts.{IsFrontOf}
use Rattle.place_runs.specs.InsideMaps.{Moves}
use Rattle.place_runs.proofs.PrintedMaps.MoreEntries.{Begins}

pub moves_none : (files : Option Files) (held : List ℕ) → Moves files files held held
moves_none files held = ([], Appends-nothing files, refl)

pub moves_more : (before between now : Option Files) (held rest last : List ℕ) → Moves before between held rest
    → Moves between now rest last → Moves before now held last
moves_more before between now held rest last (one, appends, is) (two, also, are) = (
  one ++ two,
  Appends-more before between now one two appends also,
  is ∙ (ap (λ (text : List ℕ). one ++ text) are ∙ sym (append_assoc one two last)),
)

-- a part that is added is held
pub moves_add : (before now : Option Files) (held rest part next all : List ℕ) → Moves before now held rest
    → next ≡ rest ++ part → all ≡ held ++ part → Moves before now all next
moves_add before now held rest part next all (one, appends, is) added longer = grind (arith, append_assoc)

pub moves_end : (before between now : Option Files) (held rest : List ℕ) → Moves before between held rest
    → Appends between now rest → Appends before now held
moves_end before between now held rest (one, appends, is) last =
    subst (λ (text : List ℕ). Appends before now text) (sym is) (Appends-more before between now one rest appends last)

pub moves_front : (before between now : Option Files) (held rest : List ℕ) → Moves before between held rest
    → AppendsFront between now rest → AppendsFront before now held
moves_front before between now held rest (one, appends, is) (count, within, last) =
    let long : length held ≡ length one + length rest = ap length is ∙ length-append one rest in
    let front : take (length one + count) held ≡ one ++ take count rest =
    ap (take (length one + count)) is ∙ take-append-add one rest count in (
      length one + count,
      omega (arith, long, within),
      subst (λ (text : List ℕ). Appends before now text) (sym front)
          (Appends-more before between now one (take count rest) appends last),
    )

-- a first part of a text is one of a longer text
pub front_longer : (before now : Option Files) (held all : List ℕ) → Begins held all → AppendsFront before now held
    → AppendsFront before now all
front_longer before now held all (rest, is) (count, within, appends) =
    let long : length all ≡ length held + length rest = ap length is ∙ length-append held rest in
    let same : take count all ≡ take count held = ap (take count) is ∙ take-append-le count held rest within in (
      count,
      omega (arith, long, within),
      subst (λ (text : List ℕ). Appends before now text) (sym same) appends,
    )

-- ---- on standard output, where nothing was made before
pub whole_said : (before now : Option Files) (said : List ℕ) → IfSome before (λ made. made ≡ [])
    → Becomes (with_whole (codes "-") said) before now → IfSome now (λ made. made ≡ (codes "-", said) ∷ [])
whole_said before None said none is = tt
whole_said None (Some now) said none is = absurd is
whole_said (Some before) (Some now) said none is =
    is ∙ ap (λ (files : Files). files ++ (codes "-", said) ∷ []) none

pub front_said : (before now : Option Files) (said : List ℕ) → IfSome before (λ made. made ≡ [])
    → PrintsFront before now (codes "-") said → IfSome now (λ made. IsFrontOf made ((codes "-", said) ∷ []))
front_said before None said none is = tt
front_said None (Some now) said none (inl is) = absurd is
front_said None (Some now) said none (inr (count, is)) = absurd is
front_said (Some before) (Some now) said none (inl is) =
    subst (λ (files : Files). IsFrontOf files ((codes "-", said) ∷ [])) (sym (is ∙ none)) tt
front_said (Some before) (Some now) said none (inr (count, is)) = grind (arith)
