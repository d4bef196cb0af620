-- Elements of a list that are changed one after another, and the numbers of a face.
use Rattle.std.proofs.Common.{◌≡◌, ◌<◌, ◌∙◌, ℕ, suc, zero, ◌+◌, List, [], ◌∷◌, ◌++◌, length, map, take, drop, get_or}
use Rattle.std.proofs.Common.{set, sym, ap, arith, append_assoc}
use Rattle.std.proofs.Math.Seq.{set-append_seam, get_or-append_seam}
use Rattle.std.proofs.lemmas.List.{length-map, length-take, drop_more, map_more}
use Rattle.tin_base.specs.declared.corners.Corner.{Corner}
use Rattle.tin_file.specs.RowContents.{IsFaceOf, AreFacesOf}

module _ {A : Type 0} (f : A → A) where
  length_front : (xs : List A) (i : ℕ) → i < length xs → length (map f (take i xs)) ≡ i
  length_front xs i h = omega (arith, length-map (take i xs) f, length-take i xs)

  -- the elements so far, and the rest as it was
  abbrev pub so_far : List A → ℕ → List A
  so_far xs i = map f (take i xs) ++ drop i xs

  pub read_so_far : (xs : List A) (i : ℕ) (d : A) → i < length xs → get_or (so_far xs i) i d ≡ get_or xs i d
  read_so_far xs i d h =
      ap (λ (ys : List A). get_or (map f (take i xs) ++ ys) i d) (drop_more xs i d h)
      ∙ ap (λ (k : ℕ). get_or (map f (take i xs) ++ get_or xs i d ∷ drop (i + 1) xs) k d) (sym (length_front xs i h))
      ∙ get_or-append_seam (map f (take i xs)) (get_or xs i d) (drop (i + 1) xs) d

  pub one_changed : (xs : List A) (i : ℕ) (d v : A) → i < length xs → v ≡ f (get_or xs i d)
      → set (so_far xs i) i v ≡ so_far xs (i + 1)
  one_changed xs i d v h e =
      let front = map f (take i xs) in
      let x = get_or xs i d in
      ap (λ (ys : List A). set (front ++ ys) i v) (drop_more xs i d h)
      ∙ ap (λ (k : ℕ). set (front ++ x ∷ drop (i + 1) xs) k v) (sym (length_front xs i h))
      ∙ set-append_seam front x (drop (i + 1) xs) v
      ∙ ap (λ (y : A). front ++ y ∷ drop (i + 1) xs) e
      ∙ sym (append_assoc front (f x ∷ []) (drop (i + 1) xs))
      ∙ ap (λ (ys : List A). ys ++ drop (i + 1) xs) (sym (map_more f xs i d h))

-- the numbers of a face
pub record IsThree (corners : List Corner) (face : List ℕ) : Type 0 where
  pub first : get_or face 0 0 < length corners
  pub second : get_or face 1 0 < length corners
  pub third : get_or face 2 0 < length corners
  pub all : get_or face 0 0 ∷ get_or face 1 0 ∷ get_or face 2 0 ∷ [] ≡ face

three_of : (corners : List Corner) (face : List ℕ) → IsFaceOf corners face → IsThree corners face
three_of corners face h = grind arith

pub face_at : (corners : List Corner) (faces : List (List ℕ)) (i : ℕ) → AreFacesOf corners faces → i < length faces
    → IsThree corners (get_or faces i [])
face_at corners [] i h within = absurd (omega (arith, within))
face_at corners (face ∷ faces) zero h within = three_of corners face h.0
face_at corners (face ∷ faces) (suc i) h within = face_at corners faces i h.1 (omega (arith, within))
