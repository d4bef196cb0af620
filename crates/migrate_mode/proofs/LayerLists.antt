-- The layers of a run, one after the other.
use Rattle.std.proofs.lemmas.Grind.{common_steps}
use Rattle.std.proofs.Common.{◌≡◌, ◌≢◌, ℕ, ◌+◌, Bool, true, false, List, [], ◌∷◌, ◌++◌, length, map, flat_map, codes}
use Rattle.std.proofs.Common.{lit<, refl, sym, ◌∙◌, ap, subst, append_assoc, arith}
use Rattle.std.proofs.lemmas.List.{map-append, append_cancel_right}
use Rattle.std.proofs.lemmas.List.Elements.{Contains-append_left, Contains-append_right}
use Rattle.std.specs.List.{AllByRecursion}
use Rattle.report_text.specs.Reports.{IsPrintable}
use Rattle.report_text.specs.declared.rows.LayerRow.{LayerRow}
use Rattle.tin_base.specs.declared.pieces.Piece.{Piece}
use Rattle.job_words.specs.Names.{part_behind_slashes}
use Rattle.job_words.specs.JobFields.{IsName, AreDistinct, HasFormat}
use Rattle.runs.specs.Output.{name_in}
use Rattle.migrate_mode.specs.Names.{cert_end, cert_name_in, names_in}
use Rattle.runs.specs.Output.{HasSlash, AreWritable}
use Rattle.migrate_mode.proofs.CertNames.{not_cert}
use Rattle.migrate_mode.specs.LayerRuns.{Setting, Done, IsNextCarried, AreCarried}
use Rattle.migrate_mode.specs.Migrations.{row_of, files_in, all_files_in}

-- ---- one more layer
module _ (setting : Setting) where
  moved : (number place used total : ℕ) (before pieces : List Piece) (name bytes : List ℕ) (after : List Piece)
      (first : Done) → place ≡ number → total ≡ used → pieces ≡ before
      → IsNextCarried setting place total pieces name bytes after first
      → IsNextCarried setting number used before name bytes after first
  moved number place used total before pieces name bytes after first at sum same is = grind (arith)

  pub one_more : (number used : ℕ) (before : List Piece) (names : List (List ℕ)) (pieces : List Piece)
      (done : List Done) (total : ℕ) (name bytes : List ℕ) (after : List Piece) (first : Done) (place : ℕ)
      (all : List Done) (count : ℕ)
      → AreCarried setting number used before names pieces done total → place ≡ number + length names
      → IsNextCarried setting place total pieces name bytes after first
      → all ≡ done ++ first ∷ [] → count ≡ total + length bytes
      → AreCarried setting number used before (names ++ name ∷ []) after all count
  one_more number used before [] pieces done total name bytes after first place all count (same, none, sum) at is are
      counts = (
        bytes,
        after,
        first,
        [],
        moved number place used total before pieces name bytes after first (omega (arith, at)) sum same is,
        are ∙ ap (λ (d : List Done). d ++ first ∷ []) none,
        (refl, refl, counts ∙ ap (λ t. t + length bytes) sum),
      )
  one_more number used before (front ∷ names) pieces done total name bytes after first place all count
      (bytes', ps, f, rest, next, is_done, others) at is are counts = (
        bytes',
        ps,
        f,
        rest ++ first ∷ [],
        next,
        are ∙ ap (λ (d : List Done). d ++ first ∷ []) is_done,
        one_more (number + 1) (used + length bytes') ps names pieces rest total name bytes after first place
            (rest ++ first ∷ []) count others (omega (arith, at)) is refl counts,
      )

  -- ---- the names
  pub names_done : (number used : ℕ) (before : List Piece) (names : List (List ℕ)) (pieces : List Piece)
      (done : List Done) (total : ℕ) → AreCarried setting number used before names pieces done total
      → map (λ (d : Done). d.name) done ≡ names
  names_done number used before [] pieces done total (same, none, sum) =
      ap (λ (ds : List Done). map (λ (d : Done). d.name) ds) none
  names_done number used before (name ∷ names) pieces done total (bytes, ps, first, rest, next, is, others) =
      grind (arith, (names_done (number + 1) (used + length bytes) ps names pieces rest total others))

-- the rows and the files of layers have their names
pub row-names : (done : List Done) → map (λ (row : LayerRow). row.name) (map row_of done)
    ≡ map (λ (d : Done). d.name) done
row-names [] = refl
row-names (first ∷ done) = ap (λ (ns : List (List ℕ)). first.name ∷ ns) (row-names done)

names-here : (cert : Bool) (folder : List ℕ) (first : Done)
    → map (λ (file : List ℕ × List ℕ). file.0) (files_in cert folder first) ≡ names_in cert folder first.name
names-here false folder first = refl
names-here true folder first = refl

pub file-names : (cert : Bool) (folder : List ℕ) (done : List Done)
    → map (λ (file : List ℕ × List ℕ). file.0) (all_files_in cert folder done)
    ≡ flat_map (names_in cert folder) (map (λ (d : Done). d.name) done)
file-names cert folder [] = refl
file-names cert folder (first ∷ done) = grind (arith, map-append, names-here, (file-names cert folder done))

-- the rows of layers whose names may be taken
printable_in : (done : List Done) → AllByRecursion IsName (map (λ (d : Done). d.name) done)
    → AllByRecursion (λ row. IsPrintable row.name) (map row_of done)
printable_in [] named = tt
printable_in (first ∷ done) named = (let name = named.0 in name.printable, printable_in done named.1)

pub rows_printable : (done : List Done) (names : List (List ℕ)) → map (λ (d : Done). d.name) done ≡ names
    → AllByRecursion IsName names → AllByRecursion (λ row. IsPrintable row.name) (map row_of done)
rows_printable done names are named = printable_in done
    (subst (λ (ns : List (List ℕ)). AllByRecursion IsName ns) (sym are) named)

-- ---- the files
slash_in : (folder layer : List ℕ) → HasSlash (name_in folder layer)
slash_in folder layer = Contains-append_left (folder ++ codes "/") (part_behind_slashes layer) 47
    (Contains-append_right folder (codes "/") 47 (0, lit< tt, refl))

same_behind : (folder x y : List ℕ) → folder ++ codes "/" ++ x ≡ folder ++ codes "/" ++ y → x ≡ y
same_behind [] x y same = cc
same_behind (byte ∷ folder) x y same = let rest : folder ++ codes "/" ++ x ≡ folder ++ codes "/" ++ y =
    cc in same_behind folder x y rest

cert_behind : (folder layer x : List ℕ) → cert_name_in folder layer ≡ folder ++ codes "/" ++ x
    → part_behind_slashes layer ++ cert_end ≡ x
cert_behind folder layer x same = same_behind folder (part_behind_slashes layer ++ cert_end) x
    (sym (append_assoc (folder ++ codes "/") (part_behind_slashes layer) cert_end) ∙ same)

-- no two files have the same name
others_differ : (cert : Bool) (folder name : List ℕ) (done : List Done) → HasFormat name
    → AllByRecursion HasFormat (map (λ (d : Done). d.name) done)
    → AllByRecursion (λ other. other ≢ part_behind_slashes name)
    (map part_behind_slashes (map (λ (d : Done). d.name) done))
    → AllByRecursion (λ other. other.0 ≢ name_in folder name) (all_files_in cert folder done)
others_differ cert folder name [] has formats differ = tt
others_differ false folder name (first ∷ done) has formats differ =
    grind (arith, common_steps, same_behind, (others_differ false folder name done has formats.1 differ.1))
others_differ true folder name (first ∷ done) has formats differ = (
  λ same. differ.0 (same_behind folder (part_behind_slashes first.name) (part_behind_slashes name) same),
  (
    λ same. not_cert name first.name has (sym (cert_behind folder first.name (part_behind_slashes name) same)),
    others_differ true
        folder name done has formats.1 differ.1,
  ),
)

-- nor is a certificate's file that of another layer, or of its certificate
certs_differ : (folder name : List ℕ) (done : List Done) → AllByRecursion HasFormat (map (λ (d : Done). d.name) done)
    → AllByRecursion (λ other. other ≢ part_behind_slashes name)
    (map part_behind_slashes (map (λ (d : Done). d.name) done))
    → AllByRecursion (λ other. other.0 ≢ cert_name_in folder name) (all_files_in true folder done)
certs_differ folder name [] formats differ = tt
certs_differ folder name (first ∷ done) formats differ = (
  λ same. not_cert first.name name formats.0
      (sym (cert_behind folder name (part_behind_slashes first.name) (sym same))),
  (
    λ same. differ.0 (append_cancel_right (part_behind_slashes first.name) (part_behind_slashes name) cert_end
        (cert_behind folder first.name (part_behind_slashes name ++ cert_end)
        (same ∙ append_assoc (folder ++ codes "/") (part_behind_slashes name) cert_end))),
    certs_differ folder name done formats.1 differ.1,
  ),
)

-- a certificate's file is not its own layer's
own_cert : (folder name : List ℕ) → cert_name_in folder name ≢ name_in folder name
own_cert folder name same = let e : part_behind_slashes name ++ cert_end ≡ part_behind_slashes name =
    cert_behind folder name (part_behind_slashes name) same in longer (part_behind_slashes name) e
  where
    longer : (xs : List ℕ) → xs ++ cert_end ≡ xs → ⊥
    longer [] e = cc
    longer (x ∷ xs) e = longer xs cc

cert_slash : (folder layer : List ℕ) → HasSlash (cert_name_in folder layer)
cert_slash folder layer = Contains-append_left (name_in folder layer) cert_end 47 (slash_in folder layer)

writable_in : (cert : Bool) (folder : List ℕ) (done : List Done)
    → AllByRecursion HasFormat (map (λ (d : Done). d.name) done)
    → AreDistinct (map part_behind_slashes (map (λ (d : Done). d.name) done))
    → AreWritable (all_files_in cert folder done)
writable_in cert folder [] formats distinct = tt
writable_in false folder (first ∷ done) formats distinct = (
  slash_in folder first.name,
  others_differ false folder first.name done formats.0 formats.1 distinct.0,
  writable_in
      false folder done formats.1 distinct.1,
)
writable_in true folder (first ∷ done) formats distinct = (
  slash_in folder first.name,
  (own_cert folder first.name, others_differ true folder first.name done formats.0 formats.1 distinct.0),
  (
    cert_slash folder first.name,
    certs_differ folder first.name done formats.1 distinct.0,
    writable_in true folder done
        formats.1 distinct.1,
  ),
)

pub files_writable : (cert : Bool) (folder : List ℕ) (done : List Done) (names : List (List ℕ))
    → map (λ (d : Done). d.name) done ≡ names → AreDistinct (map part_behind_slashes names)
    → AllByRecursion HasFormat names
    → AreWritable (all_files_in cert folder done)
files_writable cert folder done names are distinct formats = grind (arith, writable_in)
