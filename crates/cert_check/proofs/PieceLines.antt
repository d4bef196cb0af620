-- The certificate of pieces, piece by piece.
use Rattle.std.proofs.Common.{◌≡◌, ℕ, Bool, true, false, cond, List, [], ◌∷◌, ◌++◌, refl, arith}
use Rattle.std.proofs.Common.{append_assoc}
use Rattle.std.specs.Fmt.{decimal}
use Rattle.tin_base.specs.declared.pieces.Piece.{Piece}
use Rattle.cert_check.specs.Certificates.{head_text, separator, lines_text}
use Rattle.cert_check.specs.PieceLists.{ends_before, onto_first, lists_of}

-- some pieces have a first list with a first number
record HasFirst (lists : List (List ℕ)) : Type 0 where
  pub number : ℕ
  pub numbers : List ℕ
  pub more : List (List ℕ)
  pub are : lists ≡ (number ∷ numbers) ∷ more

has_first : (piece : Piece) (pieces : List Piece) → HasFirst (lists_of (piece ∷ pieces))
has_first piece pieces = go (ends_before pieces) (lists_of pieces)
  where
    go : (ends : Bool) (lists : List (List ℕ))
        → HasFirst (cond ends ((piece.tri ∷ []) ∷ lists) (onto_first piece.tri lists))
    go true lists = record { number = piece.tri; numbers = []; more = lists; are = refl }
    go false [] = record { number = piece.tri; numbers = []; more = []; are = refl }
    go false (list ∷ lists) = record { number = piece.tri; numbers = list; more = lists; are = refl }

-- ---- what is written so far, and the lines of the other pieces
pub record IsWritten (out : List ℕ) (pieces rest : List Piece) : Type 0 where
  pub whole : out ++ lines_text (lists_of rest) ≡ head_text ++ lines_text (lists_of pieces)

pub written_more : (out new : List ℕ) (pieces rest behind : List Piece) (piece : Piece) → IsWritten out pieces rest
    → rest ≡ piece ∷ behind
    → new ≡ out ++ (decimal piece.tri ++ separator (ends_before behind) ∷ []) → IsWritten new pieces behind
written_more out new pieces rest behind piece far e is = grind (arith, append_assoc)
