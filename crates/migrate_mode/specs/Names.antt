-- Names of the files that are written, as bytes.
use Rattle.std.specs.Prelude.{◌++◌, ℕ, Bool, true, false, List, [], ◌∷◌, codes}
use Rattle.runs.specs.Output.{name_in}

-- what the name of a certificate has after that of its layer's file
abbrev pub cert_end : List ℕ
cert_end = codes ".cert"

-- the name of the file into which the certificate of a layer is written
abbrev pub cert_name_in : List ℕ → List ℕ → List ℕ
cert_name_in folder layer = name_in folder layer ++ cert_end

-- the names of a layer's files: that of the layer and, with certificates, that of its certificate
abbrev pub names_in : Bool → List ℕ → List ℕ → List (List ℕ)
names_in false folder layer = name_in folder layer ∷ []
names_in true folder layer = name_in folder layer ∷ cert_name_in folder layer ∷ []
