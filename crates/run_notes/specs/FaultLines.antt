-- What standard error says of all faults of a triangulation.
use Rattle.std.specs.Prelude.{ℕ, List, codes}

-- which command prints them
abbrev pub all_faults_line_of : List ℕ
all_faults_line_of = codes "tinmove: all its faults, as a map: tinplaces --tin FILE --faults\n"

-- that there are more than are printed
abbrev pub many_faults_lines_of : List ℕ
many_faults_lines_of = codes "tinmove: more than 1,048,576 faults\ntinmove: 'tinmove check' names the first\n"
