-- Two triangles.
use Rattle.remarks.proofs.remark_lines.put_within.Goals as goal

pub returns-in-TrianglePair : goal.returns-in-TrianglePair
returns-in-TrianglePair c = rw c.in-TrianglePair.is c.put_numbers.ensures
