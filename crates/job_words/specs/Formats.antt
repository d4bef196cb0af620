-- The format of a layer, by the end of its name.
use Rattle.std.specs.Prelude.{◌-◌, ◌||◌, ℕ, Bool, List, length, drop, Option, Some, None, codes, if◌then◌else◌}
use Rattle.std.specs.Str.{str_eq_ignore_ascii_case}
use Rattle.job_words.specs.declared.formats.Format.{Format}
use Rattle.job_words.specs.declared.formats.Format.TheVariants.{Wkt, GeoJson, Drawing}

-- the last bytes of the name are this ending, in any letter case
abbrev pub ends_in : List ℕ → List ℕ → Bool
ends_in ending name = str_eq_ignore_ascii_case (drop (length name - length ending) name) ending

-- the format that the name's ending stands for
abbrev pub format_by_name : List ℕ → Option Format
format_by_name name =
    if ends_in (codes ".wkt") name then Some Wkt
    else if ends_in (codes ".geojson") name || ends_in (codes ".json") name then Some GeoJson
    else if ends_in (codes ".dxf") name then Some Drawing
    else None
