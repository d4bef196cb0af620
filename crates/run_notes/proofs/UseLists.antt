-- Uses of words, one more at the end of those that were found.
use Rattle.std.proofs.Common.{◌≡◌, Bool, true, false, List, [], ◌∷◌, ◌++◌, map, ap, ap₂, sym, ◌∙◌, refl, subst}
use Rattle.std.proofs.Common.{append_assoc, Bor, inl, inr, codes, Result, Ok, Err}
use Rattle.std.specs.Prelude.{◌||◌, String, string_bytes, count_by}
use Rattle.std.proofs.lemmas.Grind.{flat_map-append}
use Rattle.std.proofs.lemmas.List.{append-nil, map-append}
use Rattle.std.proofs.lemmas.List.Folds.{list_any-append, fold-map}
use Rattle.clap.specs.Walk.{Text}
use Rattle.run_notes.specs.WordForms.{Form}
use Rattle.run_notes.specs.WordUses.{Use, words_in, words_of_uses, is_end, has_end, MayFollow, Follow, AreUses}
use Rattle.run_notes.specs.WordUses.{is_flag, is_used, has_equals, takes_value}
use Rattle.run_notes.specs.WordFlaws.{Names, IsFlawHere}
use Rattle.run_notes.specs.InsideWordFlaws.{use_in, uses_in, GoesOn, UsesOnce}
use Rattle.remarks.specs.declared.flaw_lines.WordFlaw.{WordFlaw}
use Rattle.run_notes.specs.declared.word_uses.Use.TheVariants as code
use Rattle.run_notes.specs.declared.word_uses.Use.{Use as CodeUse}

-- one more use after others
follow-more : (form : Form) (before uses : List Use) (next : Use) → Follow form before uses
    → MayFollow form (before ++ uses) next → Follow form before (uses ++ next ∷ [])
follow-more form before [] next follow may =
    (subst (λ (b : List Use). MayFollow form b next) (append-nil before) may, tt)
follow-more form before (one ∷ uses) next (here, follow) may = (
  here,
  follow-more form (before ++ one ∷ []) uses next follow
      (subst (λ (b : List Use). MayFollow form b next) (sym (append_assoc before (one ∷ []) uses)) may),
)

-- the words of one more use
spelled-more : (uses : List Use) (next : Use) → words_of_uses (uses ++ next ∷ []) ≡ words_of_uses uses ++ words_in next
spelled-more uses next = flat_map-append words_in uses (next ∷ [])
    ∙ ap (λ t. words_of_uses uses ++ t) (append-nil (words_in next))

or-false : (b : Bool) → (b || false) ≡ b
or-false true = refl
or-false false = refl

-- whether a `--` is there with one more use
end-more : (uses : List Use) (next : Use) → has_end (uses ++ next ∷ []) ≡ (has_end uses || is_end next)
end-more uses next = list_any-append is_end uses (next ∷ []) ∙ ap (λ b. has_end uses || b) (or-false (is_end next))

-- the words up to the rest are these uses of the form, and it is known whether one of them is `--`
pub record IsReadTo (form : Form) (words : List Text) (uses : List CodeUse) (ended : Bool) (rest : List Text) : Type 0
  where
    pub are : AreUses form (uses_in uses)
    pub words_are : words ≡ words_of_uses (uses_in uses) ++ rest
    pub ended_is : ended ≡ has_end (uses_in uses)

-- one use more is read
pub read-more : (form : Form) (words : List Text) (uses : List CodeUse) (ended : Bool) (rest left : List Text)
    (next : CodeUse)
    → IsReadTo form words uses ended rest → MayFollow form (uses_in uses) (use_in next)
    → rest ≡ words_in (use_in next) ++ left
    → IsReadTo form words (uses ++ next ∷ []) (ended || is_end (use_in next)) left
read-more form words uses ended rest left next read may rest_is =
    let all : uses_in (uses ++ next ∷ []) ≡ uses_in uses ++ use_in next ∷ [] = map-append use_in uses (next ∷ []) in
    record {
      are = subst (λ (us : List Use). AreUses form us) (sym all)
          (follow-more form [] (uses_in uses) (use_in next) read.are may);
      words_are = read.words_are ∙ ap (λ t. words_of_uses (uses_in uses) ++ t) rest_is
          ∙ sym (append_assoc (words_of_uses (uses_in uses)) (words_in (use_in next)) left)
          ∙ ap (λ t. t ++ left) (sym (spelled-more (uses_in uses) (use_in next))
          ∙ ap words_of_uses (sym all));
      ended_is = ap (λ b. b || is_end (use_in next)) read.ended_is ∙ sym (end-more (uses_in uses) (use_in next))
          ∙ ap has_end (sym all);
    }

-- a count through a function
pub count_by-map : {X Y : Type 0} (p : Y → Bool) (f : X → Y) (xs : List X)
    → count_by (λ x. p (f x)) xs ≡ count_by p (map f xs)
count_by-map p f xs = sym (fold-map _ f 0 xs)

-- an option without a value is used, or is there already
pub flag-goes-on : {Y : Type 0} (form : Form) (before : List Use) (word : Bor Text) (behind : List (String Y))
    (next : Result (CodeUse × Bor (List (String Y))) (WordFlaw × Bor Text)) → has_end before ≡ false
    → is_flag form word.now ≡ true → UsesOnce before word.now (code.Flag word) behind next
    → GoesOn form before (word.now ∷ map string_bytes behind) next
flag-goes-on {Y = Y} form before word behind (Ok (one, left)) no_end flag (one_is, left_is, new) =
    subst (λ (u : CodeUse). MayFollow form before (use_in u)
    × (word.now ∷ map string_bytes behind ≡ words_in (use_in u) ++ map string_bytes left.now)) (sym one_is)
    ((no_end, flag, new), ap (λ (l : List (String Y)). word.now ∷ map string_bytes l) (sym left_is))
flag-goes-on form before word behind (Err (flaw, told)) no_end flag (flaw_is, told_is, used) =
    subst (λ (f : WordFlaw). IsFlawHere form before (word.now ∷ map string_bytes behind) f told.now) (sym flaw_is) (
      no_end,
      (word.now, map string_bytes behind, refl, inl (sym told_is, ap (is_flag form) told_is ∙ flag)),
      ap (λ (t : Text). is_used t before) told_is ∙ used,
    )

-- an option with its value in one word is used, or is there already
pub word-goes-on : {Y : Type 0} (form : Form) (before : List Use) (word : Text) (name value : Bor Text)
    (behind : List (String Y)) (next : Result (CodeUse × Bor (List (String Y))) (WordFlaw × Bor Text))
    → has_end before ≡ false → word ≡ name.now ++ codes "=" ++ value.now → has_equals name.now ≡ false
    → takes_value form name.now ≡ true → UsesOnce before name.now (code.InOneWord name value) behind next
    → GoesOn form before (word ∷ map string_bytes behind) next
word-goes-on {Y = Y} form before word name value behind (Ok (one, left)) no_end is lacks takes (one_is, left_is, new) =
    subst (λ (u : CodeUse). MayFollow form before (use_in u)
    × (word ∷ map string_bytes behind ≡ words_in (use_in u) ++ map string_bytes left.now)) (sym one_is)
    ((no_end, takes, lacks, new), ap₂ (λ (t : Text) (l : List (String Y)). t ∷ map string_bytes l) is (sym left_is))
word-goes-on form before word name value behind (Err (flaw, told)) no_end is lacks takes (flaw_is, told_is, used) =
    subst (λ (f : WordFlaw). IsFlawHere form before (word ∷ map string_bytes behind) f told.now) (sym flaw_is) (
      no_end,
      (
        word,
        map string_bytes behind,
        refl,
        subst (λ (t : Text). Names form word t) (sym told_is)
            (inr (inr (value.now, is, lacks, takes))),
      ),
      ap (λ (t : Text). is_used t before) told_is ∙ used,
    )
