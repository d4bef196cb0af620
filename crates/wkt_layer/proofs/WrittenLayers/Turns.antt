-- How a part of a line turns into the part that is written, and is read again: its points are replaced by images, and
-- all other tokens stay.
use Rattle.std.proofs.Common.{◌≡◌, ℕ, suc, ◌+◌, List, [], ◌∷◌, ◌++◌, length, refl, sym, ap, ◌∙◌, subst, append_assoc}
use Rattle.std.proofs.Common.{arith, length-append}
use Rattle.std.specs.Prelude.{map, flat_map, sum_by}
use Rattle.std.specs.List.{AllByRecursion}
use Rattle.std.proofs.lemmas.List.{map-append}
use Rattle.std.proofs.lemmas.List.Sums.{sum_by-append}
use Rattle.sheet_base.specs.PointHeights.{Position}
use Rattle.sheet_base.specs.declared.edits.Edit.{Edit}
use Rattle.sheet_base.proofs.Swaps.{Swapped, kept_swapped, both_swapped}
use Rattle.sheet_base.proofs.DrawnPaths.{Drawn, suit_parts, redrawn_append}
use Rattle.sheet_base.proofs.DrawnPaths as sheets
use Rattle.wkt_layer.specs.Tokens.{Token, opening, closing, comma, word}
use Rattle.wkt_layer.specs.Geometries.{behind_item, content_tokens}
use Rattle.wkt_layer.specs.Numbers.{position_of}
use Rattle.wkt_layer.specs.Paths.{Path, kept_of, lost_on, edits_from}
use Rattle.wkt_layer.specs.declared.words.LineWord.{LineWord}
use Rattle.wkt_layer.specs.declared.words.LineWord.TheVariants.{Empty}
use Rattle.wkt_layer.proofs.WrittenLayers.TokenCuts.{lexed, Clear, MayFollow, FirstTokenCut, kept_cut, clear_closing, clear_comma}

-- what a sheet keeps of a path
abbrev pub drawn : Path → Drawn
drawn path = record { kind = path.kind; positions = map position_of (kept_of path.kind path.first path.more) }

-- the same paths with images in place of their points, and images that may take that place
abbrev pub redrawn : (ℕ → List Position) → ℕ → List Path → List Drawn
redrawn images number paths = sheets.redrawn images number (map drawn paths)

abbrev pub AllSuit : (ℕ → List Position) → ℕ → List Path → Type 0
AllSuit images number paths = sheets.AllSuit images number (map drawn paths)

pub edits_append : (number : ℕ) (paths more : List Path)
    → edits_from number (paths ++ more) ≡ edits_from number paths ++ edits_from (number + length paths) more
edits_append number [] more = let e : number ≡ number + 0 = omega arith in ap (λ n. edits_from n more) e
edits_append number (path ∷ paths) more = grind (arith, (edits_append (number + 1) paths more))

-- ---- parts of a line
-- the tokens begin with those of a part of these paths
pub record IsRead {A : Type 0} (tokens : A → List Token) (paths : A → List Path) (IsGood : A → Type 0)
    (are : List Drawn) (all others : List Token) : Type 0 where
  pub part : A
  pub is : all ≡ tokens part ++ others
  pub good : IsGood part
  pub drawn_are : map drawn (paths part) ≡ are
  pub exact : sum_by lost_on (paths part) ≡ 0

-- The bytes from this place on begin with a part of a line, whose first path has this number. The texts of its edits in
-- place of their spans make it a part of the same kind with the images in place of its points, wherever it is read
-- before bytes in which no token goes on.
pub record Turned {A : Type 0} (tokens : A → List Token) (paths : A → List Path) (IsGood : A → Type 0)
    (text : Edit → List ℕ) (images : ℕ → List Position)
    (part : A) (number at : ℕ) (bytes : List ℕ) (others : List Token) : Type 0 where
  pub taken : List ℕ
  pub rest : List ℕ
  pub now : List ℕ
  pub split : bytes ≡ taken ++ rest
  pub left : lexed (at + length taken) rest ≡ others
  pub swap : Swapped text at taken (edits_from number (paths part)) now
  pub heads : Clear bytes → (behind : List ℕ) → Clear (now ++ behind)
  pub reads : (from : ℕ) (behind : List ℕ) → Clear behind
      → IsRead tokens paths IsGood (redrawn images number (paths part)) (lexed from (now ++ behind))
      (lexed (from + length now) behind)

-- a part that is one token
pub single : {A : Type 0} (tokens : A → List Token) (paths : A → List Path) (IsGood : A → Type 0) (text : Edit → List ℕ)
    (images : ℕ → List Position)
    (part : A) (t : Token) → tokens part ≡ t ∷ [] → paths part ≡ [] → IsGood part
    → ((bytes : List ℕ) → Clear bytes → MayFollow t bytes)
    → (number at : ℕ) (bytes : List ℕ) (others : List Token) → FirstTokenCut at bytes t others
    → Turned tokens paths IsGood text images part number at bytes others
single tokens paths IsGood text images part t tokens_are none good may number at bytes others k =
    grind (arith, Swapped, kept_swapped, lexed)

-- a word, and a part after it
pub tagged : {A B : Type 0} (tokens : A → List Token) (paths : A → List Path) (IsGood : A → Type 0)
    (tokens_b : B → List Token) (paths_b : B → List Path) (IsGoodB : B → Type 0)
    (text : Edit → List ℕ) (images : ℕ → List Position) (make : A → B) (w : LineWord)
    → ((a : A) → tokens_b (make a) ≡ word w ∷ tokens a) → ((a : A) → paths_b (make a) ≡ paths a)
    → ((a : A) → IsGood a → IsGoodB (make a))
    → (part : A) (number at : ℕ) (bytes : List ℕ) (others : List Token)
    (k : FirstTokenCut at bytes (word w) (tokens part ++ others)) → Clear k.rest
    → Turned tokens paths IsGood text images part number (at + length k.piece) k.rest others
    → Turned tokens_b paths_b IsGoodB text images (make part) number at bytes others
tagged tokens paths IsGood tokens_b paths_b IsGoodB text images make w tokens_are paths_are good part number at bytes
    others k clear turned =
    let size : (from : ℕ) (xs : List ℕ) → from + length k.piece + length xs ≡ from + length (k.piece ++ xs) =
    λ from xs. let e = length-append k.piece xs in omega (arith, e) in
    record {
      taken = k.piece ++ turned.taken;
      rest = turned.rest;
      now = k.piece ++ turned.now;
      split = k.split ∙ ap (λ xs. k.piece ++ xs) turned.split ∙ sym (append_assoc k.piece turned.taken turned.rest);
      left = ap (λ n. lexed n turned.rest) (sym (size at turned.taken)) ∙ turned.left;
      swap = subst (λ ps. Swapped text at (k.piece ++ turned.taken) (edits_from number ps) (k.piece ++ turned.now))
          (sym (paths_are part))
          (both_swapped text at k.piece turned.taken [] (edits_from number (paths part)) k.piece turned.now
          (kept_swapped text at k.piece) turned.swap);
      heads = λ before behind. subst Clear (sym (append_assoc k.piece turned.now behind))
          (k.heads before (turned.now ++ behind));
      reads = λ from behind after. go from behind (turned.reads (from + length k.piece) behind after);
    }
  where
    go : (from : ℕ) (behind : List ℕ) → IsRead tokens paths IsGood (redrawn images number (paths part))
        (lexed (from + length k.piece) (turned.now ++ behind))
        (lexed (from + length k.piece + length turned.now) behind)
        → IsRead tokens_b paths_b IsGoodB (redrawn images number (paths_b (make part)))
        (lexed from ((k.piece ++ turned.now) ++ behind)) (lexed (from + length (k.piece ++ turned.now)) behind)
    go from behind r = grind (arith, length-append, lexed, append_assoc)

-- a sign, a part after it, and another one after that
pub led : {A B C : Type 0} (tokens_a : A → List Token) (paths_a : A → List Path) (IsGoodA : A → Type 0)
    (tokens_b : B → List Token) (paths_b : B → List Path) (IsGoodB : B → Type 0)
    (tokens : C → List Token) (paths : C → List Path) (IsGood : C → Type 0) (text : Edit → List ℕ)
    (images : ℕ → List Position) (make : A → B → C) (lead : Token)
    → ((a : A) (b : B) → tokens (make a b) ≡ lead ∷ (tokens_a a ++ tokens_b b))
    → ((a : A) (b : B) → paths (make a b) ≡ paths_a a ++ paths_b b)
    → ((a : A) (b : B) → IsGoodA a → IsGoodB b → IsGood (make a b))
    → ((bytes : List ℕ) → MayFollow lead bytes)
    → (first : A) (second : B) (number at : ℕ) (bytes : List ℕ) (others : List Token)
    (k : FirstTokenCut at bytes lead (tokens_a first ++ (tokens_b second ++ others)))
    → (a : Turned tokens_a paths_a IsGoodA text images first number (at + length k.piece) k.rest
    (tokens_b second ++ others)) → Clear a.rest
    → Turned tokens_b paths_b IsGoodB text images second (number + length (paths_a first))
    (at + length k.piece + length a.taken) a.rest others
    → Turned tokens paths IsGood text images (make first second) number at bytes others
led tokens_a paths_a IsGoodA tokens_b paths_b IsGoodB tokens paths IsGood text images make lead tokens_are paths_are
    good may first second number at bytes others k a clear b =
    let taken = k.piece ++ (a.taken ++ b.taken) in
    let now = k.piece ++ (a.now ++ b.now) in
    let size : at + length k.piece + length a.taken + length b.taken ≡ at + length taken = let e =
    length-append k.piece (a.taken ++ b.taken) in let f = length-append a.taken b.taken in omega (arith, e, f) in
    record {
      taken = taken;
      rest = b.rest;
      now = now;
      split = k.split ∙ ap (λ xs. k.piece ++ xs)
          (a.split ∙ ap (λ xs. a.taken ++ xs) b.split ∙ sym (append_assoc a.taken b.taken b.rest))
          ∙ sym (append_assoc k.piece (a.taken ++ b.taken) b.rest);
      left = ap (λ n. lexed n b.rest) (sym size) ∙ b.left;
      swap = subst (λ es. Swapped text at taken es now)
          (sym (ap (edits_from number) (paths_are first second) ∙ edits_append number (paths_a first) (paths_b second)))
          (both_swapped text at k.piece (a.taken ++ b.taken) []
          (edits_from number (paths_a first) ++ edits_from (number + length (paths_a first)) (paths_b second))
          k.piece (a.now ++ b.now) (kept_swapped text at k.piece)
          (both_swapped text (at + length k.piece) a.taken b.taken (edits_from number (paths_a first))
          (edits_from (number + length (paths_a first)) (paths_b second)) a.now b.now a.swap b.swap));
      heads = λ before behind. subst Clear (sym (append_assoc k.piece (a.now ++ b.now) behind))
          (k.heads before ((a.now ++ b.now) ++ behind));
      reads = λ from behind after.
          go from behind (a.reads (from + length k.piece) (b.now ++ behind) (b.heads clear behind))
          (b.reads (from + length k.piece + length a.now) behind after);
    }
  where
    go : (from : ℕ) (behind : List ℕ)
        → IsRead tokens_a paths_a IsGoodA (redrawn images number (paths_a first))
        (lexed (from + length k.piece) (a.now ++ (b.now ++ behind)))
        (lexed (from + length k.piece + length a.now) (b.now ++ behind))
        → IsRead tokens_b paths_b IsGoodB (redrawn images (number + length (paths_a first)) (paths_b second))
        (lexed (from + length k.piece + length a.now) (b.now ++ behind))
        (lexed (from + length k.piece + length a.now + length b.now) behind)
        → IsRead tokens paths IsGood (redrawn images number (paths (make first second)))
        (lexed from ((k.piece ++ (a.now ++ b.now)) ++ behind))
        (lexed (from + length (k.piece ++ (a.now ++ b.now))) behind)
    go from behind r s =
        let now = k.piece ++ (a.now ++ b.now) in
        let size : from + length k.piece + length a.now + length b.now ≡ from + length now = let e =
        length-append k.piece (a.now ++ b.now) in let f = length-append a.now b.now in omega (arith, e, f) in
        let end = lexed (from + length now) behind in
        record {
          part = make r.part s.part;
          is = ap (lexed from) (append_assoc k.piece (a.now ++ b.now) behind
              ∙ ap (λ xs. k.piece ++ xs) (append_assoc a.now b.now behind))
              ∙ k.keeps from (a.now ++ (b.now ++ behind)) (may (a.now ++ (b.now ++ behind)))
              ∙ ap (λ ts. lead ∷ ts) (r.is ∙ ap (λ ts. tokens_a r.part ++ ts)
              (s.is ∙ ap (λ n. tokens_b s.part ++ lexed n behind) size)
              ∙ sym (append_assoc (tokens_a r.part) (tokens_b s.part) end))
              ∙ ap (λ ts. ts ++ end) (sym (tokens_are r.part s.part));
          good = good r.part s.part r.good s.good;
          drawn_are = ap (map drawn) (paths_are r.part s.part) ∙ map-append drawn (paths_a r.part) (paths_b s.part)
              ∙ ap (λ ds. ds ++ map drawn (paths_b s.part)) r.drawn_are
              ∙ ap (λ ds. redrawn images number (paths_a first) ++ ds) s.drawn_are
              ∙ sym (ap (redrawn images number) (paths_are first second)
              ∙ redrawn_append drawn images number (paths_a first) (paths_b second));
          exact = ap (sum_by lost_on) (paths_are r.part s.part)
              ∙ sum_by-append lost_on (paths_a r.part) (paths_b s.part) ∙ omega (arith, r.exact, s.exact);
        }

-- ---- items in brackets
-- each good part turns
abbrev pub EachTurns : {A : Type 0} → (A → List Token) → (A → List Path) → (A → Type 0) → (Edit → List ℕ)
    → (ℕ → List Position) → Type 0
EachTurns {A} tokens paths IsGood text images =
    (part : A) → IsGood part → (number at : ℕ) (bytes : List ℕ) (others : List Token)
    → AllSuit images number (paths part) → lexed at bytes ≡ tokens part ++ others
    → Turned tokens paths IsGood text images part number at bytes others

any_opening : (bytes : List ℕ) → MayFollow opening bytes
any_opening bytes = tt

any_comma : (bytes : List ℕ) → MayFollow comma bytes
any_comma bytes = tt

pub any_closing : (bytes : List ℕ) → Clear bytes → MayFollow closing bytes
any_closing bytes clear = tt

pub after_empty : (w : LineWord) (bytes : List ℕ) → Clear bytes → MayFollow (word w) bytes
after_empty w bytes clear = clear.letters

clear_behind : {A : Type 0} (tokens : A → List Token) (items : List A) (at : ℕ) (bytes : List ℕ) (others : List Token)
    → lexed at bytes ≡ behind_item tokens items ++ others → Clear bytes
clear_behind tokens [] at bytes others e = clear_closing at bytes others e
clear_behind tokens (next ∷ more) at bytes others e =
    clear_comma at bytes ((tokens next ++ behind_item tokens more) ++ others) e

behind_turned : {A : Type 0} (tokens : A → List Token) (paths : A → List Path) (IsGood : A → Type 0)
    (text : Edit → List ℕ) (images : ℕ → List Position) → EachTurns tokens paths IsGood text images
    → EachTurns (behind_item tokens) (flat_map paths) (AllByRecursion IsGood) text images
behind_turned tokens paths IsGood text images each [] good number at bytes others suit e =
    single (behind_item tokens) (flat_map paths) (AllByRecursion IsGood) text images [] closing refl refl tt any_closing
    number at bytes others (kept_cut at bytes closing others tt e)
behind_turned tokens paths IsGood text images each (item ∷ items) good number at bytes others suit e =
    on (kept_cut at bytes comma (tokens item ++ (behind_item tokens items ++ others)) tt
    (e ∙ ap (λ ts. comma ∷ ts) (append_assoc (tokens item) (behind_item tokens items) others)))
    (suit_parts drawn images number (paths item) (flat_map paths items) suit)
    (λ n place xs within f. behind_turned tokens paths IsGood text images each items good.1 n place xs others within f)
  where
    on : FirstTokenCut at bytes comma (tokens item ++ (behind_item tokens items ++ others))
        → AllSuit images number (paths item) × AllSuit images (number + length (paths item)) (flat_map paths items)
        → ((n place : ℕ) (xs : List ℕ) → AllSuit images n (flat_map paths items)
        → lexed place xs ≡ behind_item tokens items ++ others
        → Turned (behind_item tokens) (flat_map paths) (AllByRecursion IsGood) text images items n place xs others)
        → Turned (behind_item tokens) (flat_map paths) (AllByRecursion IsGood) text images (item ∷ items) number at
        bytes others
    on k suits later =
        let a = each item good.0 number (at + length k.piece) k.rest (behind_item tokens items ++ others) suits.0
        k.left in
        led tokens paths IsGood (behind_item tokens) (flat_map paths) (AllByRecursion IsGood) (behind_item tokens)
        (flat_map paths) (AllByRecursion IsGood) text images (λ x xs. x ∷ xs) comma
        (λ x xs. refl) (λ x xs. refl) (λ x xs one more. (one, more)) any_comma item items number at bytes others k a
        (clear_behind tokens items (at + length k.piece + length a.taken) a.rest others a.left)
        (later (number + length (paths item)) (at + length k.piece + length a.taken) a.rest suits.1 a.left)

pub content_turned : {A : Type 0} (tokens : A → List Token) (paths : A → List Path) (IsGood : A → Type 0)
    (text : Edit → List ℕ) (images : ℕ → List Position) → EachTurns tokens paths IsGood text images
    → EachTurns (content_tokens tokens) (flat_map paths) (AllByRecursion IsGood) text images
content_turned tokens paths IsGood text images each [] good number at bytes others suit e =
    single (content_tokens tokens) (flat_map paths) (AllByRecursion IsGood) text images [] (word Empty) refl refl tt
    (after_empty Empty) number at bytes others (kept_cut at bytes (word Empty) others tt e)
content_turned tokens paths IsGood text images each (item ∷ items) good number at bytes others suit e =
    on (kept_cut at bytes opening (tokens item ++ (behind_item tokens items ++ others)) tt
    (e ∙ ap (λ ts. opening ∷ ts) (append_assoc (tokens item) (behind_item tokens items) others)))
    (suit_parts drawn images number (paths item) (flat_map paths items) suit)
  where
    on : FirstTokenCut at bytes opening (tokens item ++ (behind_item tokens items ++ others))
        → AllSuit images number (paths item) × AllSuit images (number + length (paths item)) (flat_map paths items)
        → Turned (content_tokens tokens) (flat_map paths) (AllByRecursion IsGood) text images (item ∷ items) number at
        bytes others
    on k suits =
        let a = each item good.0 number (at + length k.piece) k.rest (behind_item tokens items ++ others) suits.0
        k.left in
        led tokens paths IsGood (behind_item tokens) (flat_map paths) (AllByRecursion IsGood) (content_tokens tokens)
        (flat_map paths) (AllByRecursion IsGood) text images (λ x xs. x ∷ xs) opening
        (λ x xs. refl) (λ x xs. refl) (λ x xs one more. (one, more)) any_opening item items number at bytes others k a
        (clear_behind tokens items (at + length k.piece + length a.taken) a.rest others a.left)
        (behind_turned tokens paths IsGood text images each items good.1 (number + length (paths item))
        (at + length k.piece + length a.taken) a.rest others suits.1 a.left)
