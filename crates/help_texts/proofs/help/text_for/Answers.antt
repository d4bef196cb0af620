-- The answers that `text_for` of src/help.rt needs.
use Rattle.std.proofs.Common.{◌≡◌, ◌≤◌, List, [], ◌∷◌, map, string_bytes, drop, length, get_or, inl, refl, arith}
use Rattle.help_texts.proofs.help.text_for.Goals as goal

first-word : {X Y : Type 0} (f : X → Y) (words : List X) (word : X) → word ≡ get_or words 0 word → 1 ≤ length words
    → map f words ≡ f word ∷ map f (drop 1 words)
first-word f [] word e some = absurd (omega arith)
first-word f (one ∷ rest) word e some = cc

pub returns-in-Some : goal.returns-in-Some
returns-in-Some c = inl (
  c.in-Some.help,
  (
    c.as_str.result.now,
    map string_bytes (drop 1 c.args.words.now),
    rw c.as_str.ensures.value (first-word string_bytes c.args.words.now c.mode-item.result c.mode-item.is c.in-len1-up.len_at_least),
    (c.in-Some.ensures.long c.in-Some.help).0 refl,
  ),
  c.text.ensures,
)
