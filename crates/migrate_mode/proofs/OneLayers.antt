-- The layers of a run are carried in one way, or one of them is the first that is refused, for one reason.
use Rattle.std.proofs.Common.{◌≡◌, ◌⊎◌, inl, inr, ℕ, ◌+◌, List, [], ◌∷◌, ◌++◌, length, drop, None, Some, refl}
use Rattle.std.proofs.Common.{sym, ◌∙◌, ap, ap₂, subst, arith}
use Rattle.std.proofs.lemmas.Option.{none-some, same_Some}
use Rattle.shelf_io.specs.Files.{Files, bytes_of}
use Rattle.carry_map.specs.declared.layers.Carried.{Carried}
use Rattle.sheet_base.specs.declared.faults.LayerFault.{LayerFault}
use Rattle.sheet_base.specs.declared.flags.How.{How}
use Rattle.tin_base.specs.declared.pieces.Piece.{Piece}
use Rattle.tin_base.specs.Triangulation.{Triangulation}
use Rattle.tin_base.specs.Soundness.{IsSound}
use Rattle.job_words.specs.declared.formats.Format.{Format}
use Rattle.job_words.specs.Formats.{format_by_name}
use Rattle.runs.specs.declared.refusal.Refusal.{Refusal}
use Rattle.runs.specs.declared.refusal.Refusal.TheVariants.{LayerUnread, LayersLong, Layer, Outside, TooManyPieces}
use Rattle.layer_formats.specs.LayerOutcomes.{LayerTextsAreOne, LacksLayerText}
use Rattle.migrate_mode.specs.LayerOutcomes.{IsCarried, IsOutside, HasTooMany}
use Rattle.migrate_mode.specs.LayerRuns.{setting_of, Done, IsLayerFile, IsLongLayer, IsNextCarried, AreCarried}
use Rattle.migrate_mode.specs.LayerRuns.{IsNextRefused, IsRefusedLayer}
use Rattle.migrate_mode.proofs.OneOutcome.{lacks_outside, lacks_many, lacks_carried, outside_one, outside_many}
use Rattle.migrate_mode.proofs.OneOutcome.{outside_carried, many_carried, carried_one, carried_pieces_one}

-- ---- the file of a layer
format_one : (name : List ℕ) (format also : Format) → format_by_name name ≡ Some format
    → format_by_name name ≡ Some also
    → format ≡ also
format_one name format also is too = same_Some format also (sym is ∙ too)

module _ (texts : LayerTextsAreOne) (files : Files) (how : How) (tin : Triangulation) (sound : IsSound tin) where
  file_one : (name : List ℕ) (used : ℕ) (f g : Format) (a b : List ℕ) → IsLayerFile (Some files) name used f a
      → IsLayerFile (Some files) name used g b → (f ≡ g) × (a ≡ b)
  file_one name used f g a b x y = (format_one name f g x.suffix y.suffix, same_Some a b (sym x.found ∙ y.found))

  none_file : (name : List ℕ) (used : ℕ) (f : Format) (a : List ℕ) → bytes_of files name ≡ None
      → IsLayerFile (Some files) name used f a → ⊥
  none_file name used f a none x = none-some a (sym none ∙ x.found)

  none_long : (name : List ℕ) (used : ℕ) → bytes_of files name ≡ None → IsLongLayer (Some files) name used → ⊥
  none_long name used none (bytes, found, many) = none-some bytes (sym none ∙ found)

  long_file : (name : List ℕ) (used : ℕ) (f : Format) (a : List ℕ) → IsLongLayer (Some files) name used
      → IsLayerFile (Some files) name used f a → ⊥
  long_file name used f a (bytes, found, many) x = grind (arith, same_Some)

  -- ---- a layer that is not carried
  data IsTextEnd (number : ℕ) (before : ℕ) (format : Format) (bytes : List ℕ) (refusal : Refusal) : Type 0 where
    faulty_end : (why : LayerFault) → refusal ≡ Layer number why → LacksLayerText how format bytes why
        → IsTextEnd number before format bytes refusal
    outside_end : (path segment : ℕ) → refusal ≡ Outside number path segment
        → IsOutside how tin format bytes number before path segment → IsTextEnd number before format bytes refusal
    many_end : refusal ≡ TooManyPieces → HasTooMany how tin format bytes number before
        → IsTextEnd number before format bytes refusal

  data IsNextEnd (number used before : ℕ) (name : List ℕ) (refusal : Refusal) : Type 0 where
    unread_end : refusal ≡ LayerUnread number → bytes_of files name ≡ None → IsNextEnd number used before name refusal
    long_end : refusal ≡ LayersLong → IsLongLayer (Some files) name used → IsNextEnd number used before name refusal
    read_end : (format : Format) (bytes : List ℕ) → IsLayerFile (Some files) name used format bytes
        → IsTextEnd number before format bytes refusal → IsNextEnd number used before name refusal

  next_end : (number used before : ℕ) (name : List ℕ) (refusal : Refusal)
      → IsNextRefused (setting_of (Some files) how tin) number used before name refusal
      → IsNextEnd number used before name refusal
  next_end number used before name (LayerUnread layer) (is, lacks) = unread_end (ap LayerUnread is) lacks
  next_end number used before name LayersLong long = long_end refl long
  next_end number used before name (Layer layer why) (is, format, bytes, file, lacks) =
      read_end format bytes file (faulty_end why (ap (λ n. Layer n why) is) lacks)
  next_end number used before name (Outside layer path segment) (is, format, bytes, file, outside) =
      read_end format bytes file (outside_end path segment (ap (λ n. Outside n path segment) is) outside)
  next_end number used before name TooManyPieces (format, bytes, file, many) =
      read_end format bytes file (many_end refl many)
  next_end number used before name refusal is = absurd is

  same_outside : (number path segment way count : ℕ) → (path ≡ way) × (segment ≡ count)
      → Outside number path segment ≡ Outside number way count
  same_outside number path segment way count same = ap (λ k. Outside number k segment) same.0
      ∙ ap (λ k. Outside number way k) same.1

  text_end_one : (number before : ℕ) (format : Format) (bytes : List ℕ) (a b : Refusal)
      → IsTextEnd number before format bytes a → IsTextEnd number before format bytes b → a ≡ b
  text_end_one number before format bytes a b (faulty_end why is x) (faulty_end other also y) = is
      ∙ (ap (λ f. Layer number f) ((texts how format bytes).one_fault why other x y) ∙ sym also)
  text_end_one number before format bytes a b (faulty_end why is x) (outside_end path segment also y) =
      absurd (lacks_outside texts how tin format bytes number [] why path segment before x y)
  text_end_one number before format bytes a b (faulty_end why is x) (many_end also y) =
      absurd (lacks_many texts how tin format bytes number [] why before x y)
  text_end_one number before format bytes a b (outside_end path segment is x) (faulty_end why also y) =
      absurd (lacks_outside texts how tin format bytes number [] why path segment before y x)
  text_end_one number before format bytes a b (outside_end path segment is x) (outside_end way count also y) =
      is ∙ (same_outside number path segment way count
      (outside_one texts how tin format bytes number before path segment way count x y) ∙ sym also)
  text_end_one number before format bytes a b (outside_end path segment is x) (many_end also y) =
      absurd (outside_many texts how tin format bytes number before path segment x y)
  text_end_one number before format bytes a b (many_end is x) (faulty_end why also y) =
      absurd (lacks_many texts how tin format bytes number [] why before y x)
  text_end_one number before format bytes a b (many_end is x) (outside_end path segment also y) =
      absurd (outside_many texts how tin format bytes number before path segment y x)
  text_end_one number before format bytes a b (many_end is x) (many_end also y) = is ∙ sym also

  next_end_one : (number used before : ℕ) (name : List ℕ) (a b : Refusal) → IsNextEnd number used before name a
      → IsNextEnd number used before name b → a ≡ b
  next_end_one number used before name a b (unread_end is x) (unread_end also y) = is ∙ sym also
  next_end_one number used before name a b (unread_end is x) (long_end also y) = absurd (none_long name used x y)
  next_end_one number used before name a b (unread_end is x) (read_end g bytes y end) =
      absurd (none_file name used g bytes x y)
  next_end_one number used before name a b (long_end is x) (unread_end also y) = absurd (none_long name used y x)
  next_end_one number used before name a b (long_end is x) (long_end also y) = is ∙ sym also
  next_end_one number used before name a b (long_end is x) (read_end g bytes y end) =
      absurd (long_file name used g bytes x y)
  next_end_one number used before name a b (read_end f bytes x end) (unread_end also y) =
      absurd (none_file name used f bytes y x)
  next_end_one number used before name a b (read_end f bytes x end) (long_end also y) =
      absurd (long_file name used f bytes y x)
  next_end_one number used before name a b (read_end f bytes x end) (read_end g other y also) =
      let same = file_one name used f g bytes other x y in
      text_end_one number before g other a b (subst (λ (t : List ℕ). IsTextEnd number before g t a) same.1
      (subst (λ (h : Format). IsTextEnd number before h bytes a) same.0 end)) also

  -- ---- a layer that is carried
  text_end_carried : (number : ℕ) (before : List Piece) (format : Format) (bytes : List ℕ) (after : List Piece)
      (carried : Carried) (a : Refusal) → IsTextEnd number (length before) format bytes a
      → IsCarried how tin format bytes number before after carried → ⊥
  text_end_carried number before format bytes after carried a (faulty_end why is x) y =
      lacks_carried texts how tin format bytes number before why after carried x y
  text_end_carried number before format bytes after carried a (outside_end path segment is x) y =
      outside_carried texts how tin format bytes number (length before) path segment before after carried x y
  text_end_carried number before format bytes after carried a (many_end is x) y =
      many_carried texts how tin format bytes number before after carried x y

  next_end_carried : (number used : ℕ) (before : List Piece) (name bytes : List ℕ) (after : List Piece) (done : Done)
      (a : Refusal) → IsNextEnd number used (length before) name a
      → IsNextCarried (setting_of (Some files) how tin) number used before name bytes after done → ⊥
  next_end_carried number used before name bytes after done a (unread_end is x) y =
      none_file name used done.format bytes x y.file
  next_end_carried number used before name bytes after done a (long_end is x) y =
      long_file name used done.format bytes x y.file
  next_end_carried number used before name bytes after done a (read_end f text x end) y =
      let same = file_one name used f done.format text bytes x y.file in
      text_end_carried number before done.format bytes after done.carried a
      (subst (λ (t : List ℕ). IsTextEnd number (length before) done.format t a) same.1
      (subst (λ (h : Format). IsTextEnd number (length before) h text a) same.0 end)) y.carried

  record AreSame (a b : List ℕ) (ps qs : List Piece) (d e : Done) : Type 0 where
    bytes : a ≡ b
    pieces : ps ≡ qs
    done : d ≡ e

  same_done : (d e : Done) → d.name ≡ e.name → d.format ≡ e.format → d.carried ≡ e.carried → d.pieces ≡ e.pieces → d ≡ e
  same_done d e name format carried pieces = grind (arith)

  next_one : (number used : ℕ) (before : List Piece) (name a b : List ℕ) (ps qs : List Piece) (d e : Done)
      → IsNextCarried (setting_of (Some files) how tin) number used before name a ps d
      → IsNextCarried (setting_of (Some files) how tin) number used before name b qs e → AreSame a b ps qs d e
  next_one number used before name a b ps qs d e x y =
      let same = file_one name used d.format e.format a b x.file y.file in
      let of_x : IsCarried how tin e.format b number before ps d.carried =
      subst (λ (t : List ℕ). IsCarried how tin e.format t number before ps d.carried) same.1
      (subst (λ (f : Format). IsCarried how tin f a number before ps d.carried) same.0 x.carried) in
      let pieces = carried_pieces_one texts how tin e.format b number before ps qs d.carried e.carried sound of_x
      y.carried in
      record {
        bytes = same.1;
        pieces = pieces;
        done =
            same_done d e (x.named ∙ sym y.named) same.0
            (carried_one texts how tin e.format b number before ps qs d.carried e.carried sound of_x y.carried)
            (x.own ∙ (ap (λ (rs : List Piece). drop (length before) rs) pieces ∙ sym y.own));
      }

  -- ---- all layers
  pub record AreOneRun (ps qs : List Piece) (ds es : List Done) : Type 0 where
    pub pieces : ps ≡ qs
    pub done : ds ≡ es

  pub run_one : (number used : ℕ) (before : List Piece) (names : List (List ℕ)) (ps qs : List Piece) (ds es : List Done)
      (t u : ℕ) → AreCarried (setting_of (Some files) how tin) number used before names ps ds t
      → AreCarried (setting_of (Some files) how tin) number used before names qs es u → AreOneRun ps qs ds es
  run_one number used before [] ps qs ds es t u (same, none, sum) (same', none', sum') =
      record { pieces = same ∙ sym same'; done = none ∙ sym none' }
  run_one number used before (name ∷ names) ps qs ds es t u (a, pieces, first, rest, next, are, others)
      (b, pieces', first', rest', next', are', others') =
      let one = next_one number used before name a b pieces pieces' first first' next next' in
      let moved : AreCarried (setting_of (Some files) how tin) (number + 1) (used + length b) pieces' names ps rest t =
      subst (λ (t' : List ℕ). AreCarried (setting_of (Some files) how tin) (number + 1) (used + length t') pieces' names
      ps rest t) one.bytes
      (subst (λ (qs' : List Piece). AreCarried (setting_of (Some files) how tin) (number + 1) (used + length a) qs'
      names ps rest t) one.pieces others) in
      let back = run_one (number + 1) (used + length b) pieces' names ps qs rest rest' t u moved others' in
      record {
        pieces = back.pieces;
        done = are
            ∙ (ap₂ (λ (d : Done) (r : List Done). d ∷ r) one.done back.done ∙ sym are');
      }

  -- the first layer that is refused, from the first one on
  abbrev IsRefusedFrom : ℕ → ℕ → List Piece → List (List ℕ) → Refusal → Type 0
  IsRefusedFrom number used before [] refusal = ⊥
  IsRefusedFrom number used before (name ∷ names) refusal =
      IsNextEnd number used (length before) name refusal
      ⊎ ((bytes : List ℕ) × (after : List Piece) × (done : Done)
      × IsNextCarried (setting_of (Some files) how tin) number used before name bytes after done
      × IsRefusedFrom (number + 1) (used + length bytes) after names refusal)

  refused_from : (number used : ℕ) (before : List Piece) (front : List (List ℕ)) (name : List ℕ) (back : List (List ℕ))
      (pieces : List Piece) (done : List Done) (total place : ℕ) (refusal : Refusal)
      → AreCarried (setting_of (Some files) how tin) number used before front pieces done total
      → place ≡ number + length front → IsNextEnd place total (length pieces) name refusal
      → IsRefusedFrom number used before (front ++ name ∷ back) refusal
  refused_from number used before [] name back pieces done total place refusal (same, none, sum) at is =
      let here : place ≡ number = omega (arith, at) in
      inl
      (subst (λ (ps : List Piece). IsNextEnd number used (length ps) name refusal) same
      (subst (λ u. IsNextEnd number u (length pieces) name refusal) sum
      (subst (λ n. IsNextEnd n total (length pieces) name refusal) here is)))
  refused_from number used before (one ∷ front) name back pieces done total place refusal
      (bytes, after, first, rest, next, are, others) at is =
      inr (
        bytes,
        after,
        first,
        next,
        refused_from (number + 1) (used + length bytes) after front name back pieces rest
            total place refusal others (omega (arith, at)) is,
      )

  later_moved : (number used : ℕ) (names : List (List ℕ)) (a b : List ℕ) (ps qs : List Piece) (d e : Done)
      (refusal : Refusal) → AreSame a b ps qs d e → IsRefusedFrom (number + 1) (used + length a) ps names refusal
      → IsRefusedFrom (number + 1) (used + length b) qs names refusal
  later_moved number used names a b ps qs d e refusal same is = grind (arith)

  refused_one : (number used : ℕ) (before : List Piece) (names : List (List ℕ)) (a b : Refusal)
      → IsRefusedFrom number used before names a → IsRefusedFrom number used before names b → a ≡ b
  refused_one number used before [] a b x y = absurd x
  refused_one number used before (name ∷ names) a b (inl x) (inl y) =
      next_end_one number used (length before) name a b x y
  refused_one number used before (name ∷ names) a b (inl x) (inr (bytes, after, done, y, more)) =
      absurd (next_end_carried number used before name bytes after done a x y)
  refused_one number used before (name ∷ names) a b (inr (bytes, after, done, x, more)) (inl y) =
      absurd (next_end_carried number used before name bytes after done b y x)
  refused_one number used before (name ∷ names) a b (inr (bytes, after, done, x, more))
      (inr (bytes', after', done', y, more')) =
      let same = next_one number used before name bytes bytes' after after' done done' x y in
      refused_one (number + 1) (used + length bytes') after' names a b
      (later_moved number used names bytes bytes' after after' done done' a same more) more'

  refused_or_carried : (number used : ℕ) (before : List Piece) (names : List (List ℕ)) (a : Refusal)
      (pieces : List Piece) (ds : List Done) (total : ℕ) → IsRefusedFrom number used before names a
      → AreCarried (setting_of (Some files) how tin) number used before names pieces ds total → ⊥
  refused_or_carried number used before [] a pieces ds total x y = x
  refused_or_carried number used before (name ∷ names) a pieces ds total (inl x)
      (bytes, after, first, rest, next, are, others) =
      next_end_carried number used before name bytes after first a x next
  refused_or_carried number used before (name ∷ names) a pieces ds total (inr (bytes', after', done, x, more))
      (bytes, after, first, rest, next, are, others) =
      let same = next_one number used before name bytes' bytes after' after done first x next in
      refused_or_carried (number + 1) (used + length bytes) after names a pieces rest total
      (later_moved number used names bytes' bytes after' after done first a same more) others

  from_first : (names : List (List ℕ)) (a : Refusal) → IsRefusedLayer (setting_of (Some files) how tin) names a
      → IsRefusedFrom 0 0 [] names a
  from_first names a is =
      let r = is.reached in
      subst (λ (ks : List (List ℕ)). IsRefusedFrom 0 0 [] ks a) (sym r.stands)
      (refused_from 0 0 [] r.front is.name r.back r.pieces r.done r.used is.number a r.carried
      (omega (arith, r.number_is)) (next_end is.number r.used (length r.pieces) is.name a is.refused))

  pub refused_layer_one : (names : List (List ℕ)) (a b : Refusal)
      → IsRefusedLayer (setting_of (Some files) how tin) names a
      → IsRefusedLayer (setting_of (Some files) how tin) names b → a ≡ b
  refused_layer_one names a b x y = refused_one 0 0 [] names a b (from_first names a x) (from_first names b y)

  pub refused_layer_carried : (names : List (List ℕ)) (a : Refusal) (pieces : List Piece) (ds : List Done) (total : ℕ)
      → IsRefusedLayer (setting_of (Some files) how tin) names a
      → AreCarried (setting_of (Some files) how tin) 0 0 [] names pieces ds total → ⊥
  refused_layer_carried names a pieces ds total x y =
      refused_or_carried 0 0 [] names a pieces ds total (from_first names a x) y
