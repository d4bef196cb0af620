-- The name of a certificate is that of no layer.
use Rattle.std.proofs.Common.{◌≡◌, ℕ, ◌+◌, ◌-◌, ◌≤◌, true, false, None, List, ◌++◌, length, map, take}
use Rattle.std.proofs.Common.{drop, get_or, codes, refl, sym, ◌∙◌, ap, subst, append_assoc, arith}
use Rattle.std.proofs.lemmas.List.{length-append, length-drop, length-map, get_or-drop, get_or-append-add}
use Rattle.std.proofs.lemmas.List.{take-append-drop}
use Rattle.std.proofs.Math.ListN.{get_or-map}
use Rattle.std.proofs.lemmas.Slice.Eq.{bytes_eq-Decides}
use Rattle.std.specs.Char.{to_ascii_lowercase}
use Rattle.std.specs.Prelude.{Option, is_some, not, ◌==◌}
use Rattle.std.specs.List.{suffix_len}
use Rattle.job_words.specs.declared.formats.Format.{Format}
use Rattle.job_words.specs.Formats.{ends_in, format_by_name}
use Rattle.job_words.specs.JobFields.{HasFormat}
use Rattle.job_words.specs.Names.{part_behind_slashes}
use Rattle.job_words.proofs.TestValues.{fails}
use Rattle.migrate_mode.specs.Names.{cert_end}

-- a byte of an ending, in any letter case
ending_byte : (x ending : List ℕ) (k i : ℕ) → map to_ascii_lowercase (drop k x) ≡ map to_ascii_lowercase ending
    → to_ascii_lowercase (get_or x (k + i) 0) ≡ to_ascii_lowercase (get_or ending i 0)
ending_byte x ending k i same =
    ap to_ascii_lowercase (sym (get_or-drop k x i 0)) ∙ (sym (get_or-map to_ascii_lowercase (drop k x) i 0)
    ∙ (ap (λ (t : List ℕ). get_or t i 0) same ∙ get_or-map to_ascii_lowercase ending i 0))

sizes : (x ending : List ℕ) (k : ℕ) → k ≡ length x - length ending
    → map to_ascii_lowercase (drop k x) ≡ map to_ascii_lowercase ending → length ending ≤ length x
sizes x ending k is same = grind (arith, length-map, length-drop)

-- an ending with another byte, in any letter case, than the end of a certificate's name has as far from its end
ends_not : (name ending : List ℕ) (i j : ℕ) → length ending + j ≡ 5 + i
    → (to_ascii_lowercase (get_or cert_end j 0) ≡ to_ascii_lowercase (get_or ending i 0) → ⊥)
    → ends_in ending (name ++ cert_end) ≡ false
ends_not name ending i j far other = fails (ends_in ending (name ++ cert_end)) no
  where
    no : ends_in ending (name ++ cert_end) ≡ true → ⊥
    no is =
        let x = name ++ cert_end in
        let k = length x - length ending in
        let same : map to_ascii_lowercase (drop k x) ≡ map to_ascii_lowercase ending =
        (bytes_eq-Decides (map to_ascii_lowercase (drop k x)) (map to_ascii_lowercase ending)).0 is in
        let long = sizes x ending k refl same in
        let size : length x ≡ length name + 5 = length-append name cert_end in
        let place : k + i ≡ length name + j = omega (arith, far, long, size) in
        other (ap to_ascii_lowercase (sym (get_or-append-add name cert_end j 0))
        ∙ (ap (λ n. to_ascii_lowercase (get_or x n 0)) (sym place) ∙ ending_byte x ending k i same))

cert_without_format : (name : List ℕ) → format_by_name (name ++ cert_end) ≡ None
cert_without_format name =
    rw (
      ends_not name (codes ".wkt") 2 3 refl (λ e. omega (arith, e)),
      ends_not name (codes ".geojson") 7 4 refl (λ e. omega (arith, e)),
      ends_not name (codes ".json") 4 4 refl (λ e. omega (arith, e)),
      ends_not name (codes ".dxf") 3 4 refl (λ e. omega (arith, e)),
    ) refl

-- so no layer's last part is the name of a certificate
pub not_cert : (name other : List ℕ) → HasFormat name → part_behind_slashes name ≡ part_behind_slashes other ++ cert_end
    → ⊥
not_cert name other has same =
    let n = length name - suffix_len (λ byte. not (byte == 47)) name in
    let is : name ≡ (take n name ++ part_behind_slashes other) ++ cert_end =
    sym (take-append-drop n name) ∙ (ap (λ (t : List ℕ). take n name ++ t) same
    ∙ sym (append_assoc (take n name) (part_behind_slashes other) cert_end)) in
    let none : format_by_name name ≡ None = ap format_by_name is
    ∙ cert_without_format (take n name ++ part_behind_slashes other) in
    let e = subst (λ (f : Option Format). is_some f ≡ true) none has in cc
