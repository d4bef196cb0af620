-- Worked rows, by computing.
use Rattle.std.proofs.Common.{◌≡◌, [], ◌∷◌, true, false, refl, pos}
use Rattle.std.specs.Prelude.{codes, Err, None, Ok, Some}
use Rattle.sheet_base.specs.declared.flags.How.{How}
use Rattle.sheet_base.specs.declared.faults.LayerFault.TheVariants as faults
use Rattle.sheet_base.specs.declared.edits.What.TheVariants as edits
use Rattle.sheet_base.specs.declared.paths.PathKind.TheVariants as paths
use Rattle.mm_decimal.specs.AnswerValues.{millimetres_of}
use Rattle.dxf_layer.specs.Drawings.{drawing_sheet}

abbrev plain : How
plain = record { exact = false; drop_other = false; inside_only = false }

abbrev dropping : How
dropping = record { exact = false; drop_other = true; inside_only = false }

-- LWPOLYLINE, 90 2, 70 0, 10 0, 20 0, 42 1, 10 1, 20 1
row0 : drawing_sheet plain
    (codes "0\nSECTION\n2\nENTITIES\n0\nLWPOLYLINE\n90\n2\n70\n0\n10\n0\n20\n0\n42\n1\n10\n1\n20\n1\n0\nENDSEC\n0\nEOF")
    ≡ Err (faults.Bulge 15)
unfolding millimetres_of
row0 = refl

-- LWPOLYLINE, 90 3, 10 0, 20 0, 10 1, 20 1
row1 : drawing_sheet plain
    (codes "0\nSECTION\n2\nENTITIES\n0\nLWPOLYLINE\n90\n3\n10\n0\n20\n0\n10\n1\n20\n1\n0\nENDSEC\n0\nEOF")
    ≡ Err (faults.Count 7)
unfolding millimetres_of
row1 = refl

-- LWPOLYLINE, 90 0, 70 2
row2 : drawing_sheet plain (codes "0\nSECTION\n2\nENTITIES\n0\nLWPOLYLINE\n90\n0\n70\n2\n0\nENDSEC\n0\nEOF")
    ≡ Err (faults.Flags 9)
unfolding millimetres_of
row2 = refl

-- LINE, 10 0, 20 0, 30 0, 11 1, 21 1, 31 2
row3 : drawing_sheet plain
    (codes "0\nSECTION\n2\nENTITIES\n0\nLINE\n10\n0\n20\n0\n30\n0\n11\n1\n21\n1\n31\n2\n0\nENDSEC\n0\nEOF")
    ≡ Ok (record {
      paths = record { kind = paths.Line; first = 0; past = 2 } ∷ [];
      points = record { x = pos 0; y = pos 0 } ∷ record { x = pos 1000; y = pos 1000 } ∷ [];
      heights = Some (pos 0) ∷ Some (pos 2000) ∷ [];
      edits = record { start = 21; end = 58; what = edits.Lines 0 } ∷ [];
      inexact = 0;
      dropped = 0;
    })
unfolding millimetres_of
row3 = refl

-- LINE, 5 1A, 10 0, 20 0, 11 1, 21 1
row4 : drawing_sheet plain
    (codes "0\nSECTION\n2\nENTITIES\n0\nLINE\n5\n1A\n10\n0\n20\n0\n11\n1\n21\n1\n0\nENDSEC\n0\nEOF")
    ≡ Err (faults.Seed 7)
unfolding millimetres_of
row4 = refl

-- LINE, 10 0, 20 0, 11 1
row5 : drawing_sheet plain (codes "0\nSECTION\n2\nENTITIES\n0\nLINE\n10\n0\n20\n0\n11\n1\n0\nENDSEC\n0\nEOF")
    ≡ Err (faults.Count 5)
unfolding millimetres_of
row5 = refl

-- POINT, 10 0, 20 0, 230 -1
row6 : drawing_sheet plain (codes "0\nSECTION\n2\nENTITIES\n0\nPOINT\n10\n0\n20\n0\n230\n-1\n0\nENDSEC\n0\nEOF")
    ≡ Err (faults.Extrusion 5)
unfolding millimetres_of
row6 = refl

-- INSERT, 2 B, 66 1, 10 0, 20 0
row7 : drawing_sheet plain (codes "0\nSECTION\n2\nENTITIES\n0\nINSERT\n2\nB\n66\n1\n10\n0\n20\n0\n0\nENDSEC\n0\nEOF")
    ≡ Err (faults.Attribs 9)
unfolding millimetres_of
row7 = refl

-- LWPOLYLINE, 90 1, 10 0, 20 0, 40 1
row8 : drawing_sheet plain
    (codes "0\nSECTION\n2\nENTITIES\n0\nLWPOLYLINE\n90\n1\n10\n0\n20\n0\n40\n1\n0\nENDSEC\n0\nEOF")
    ≡ Err (faults.Width 13)
unfolding millimetres_of
row8 = refl

-- a line that is split, and one on paper
line : drawing_sheet plain (codes
    "0\nSECTION\n2\nHEADER\n9\n$HANDSEED\n5\n2F\n0\nENDSEC\n0\nSECTION\n2\nTABLES\n0\nENDSEC\n0\nSECTION\n2\nBLOCKS\n0\nENDSEC\n0\nSECTION\n2\nENTITIES\n0\nLINE\n5\n2E\n8\nPARCEL\n10\n10.0\n20\n0.0\n30\n0.0\n11\n0.0\n21\n10.0\n31\n0.0\n0\nLINE\n67\n1\n8\nSHEET\n10\n-500.0\n20\n0.0\n11\n-400.0\n21\n0.0\n0\nENDSEC\n0\nEOF") ≡ Ok (record { paths = record { kind = paths.Line; first = 0; past = 2 } ∷ []; points = record { x = pos 10000; y = pos 0 } ∷ record { x = pos 0; y = pos 10000 } ∷ []; heights = None ∷ None ∷ []; edits = record { start = 33; end = 35; what = edits.NextHandle } ∷ record { start = 122; end = 187; what = edits.Lines 0 } ∷ []; inexact = 0; dropped = 0 })
unfolding millimetres_of
line = refl

-- an arc before the end of the section
arc : drawing_sheet plain (codes
    "0\nSECTION\n2\nHEADER\n9\n$HANDSEED\n5\n2F\n0\nENDSEC\n0\nSECTION\n2\nTABLES\n0\nENDSEC\n0\nSECTION\n2\nBLOCKS\n0\nENDSEC\n0\nSECTION\n2\nENTITIES\n0\nLINE\n5\n2E\n8\nPARCEL\n10\n10.0\n20\n0.0\n30\n0.0\n11\n0.0\n21\n10.0\n31\n0.0\n0\nLINE\n67\n1\n8\nSHEET\n10\n-500.0\n20\n0.0\n11\n-400.0\n21\n0.0\n0\nARC\n10\n5.0\n20\n5.0\n40\n1.0\n0\nENDSEC\n0\nEOF") ≡ Err (faults.Entity 59)
unfolding millimetres_of
arc = refl

dropped : drawing_sheet dropping (codes
    "0\nSECTION\n2\nHEADER\n9\n$HANDSEED\n5\n2F\n0\nENDSEC\n0\nSECTION\n2\nTABLES\n0\nENDSEC\n0\nSECTION\n2\nBLOCKS\n0\nENDSEC\n0\nSECTION\n2\nENTITIES\n0\nLINE\n5\n2E\n8\nPARCEL\n10\n10.0\n20\n0.0\n30\n0.0\n11\n0.0\n21\n10.0\n31\n0.0\n0\nLINE\n67\n1\n8\nSHEET\n10\n-500.0\n20\n0.0\n11\n-400.0\n21\n0.0\n0\nARC\n10\n5.0\n20\n5.0\n40\n1.0\n0\nENDSEC\n0\nEOF") ≡ Ok (record { paths = record { kind = paths.Line; first = 0; past = 2 } ∷ []; points = record { x = pos 10000; y = pos 0 } ∷ record { x = pos 0; y = pos 10000 } ∷ []; heights = None ∷ None ∷ []; edits = record { start = 33; end = 35; what = edits.NextHandle } ∷ record { start = 122; end = 187; what = edits.Lines 0 } ∷ record { start = 241; end = 268; what = edits.Drop } ∷ []; inexact = 0; dropped = 1 })
unfolding millimetres_of
dropped = refl

-- a closed polyline of two vertices
polyline : drawing_sheet plain
    (codes "0\nSECTION\n2\nENTITIES\n0\nLWPOLYLINE\n90\n2\n70\n1\n10\n10\n20\n0\n10\n0\n20\n10\n0\nENDSEC\n0\nEOF")
    ≡ Ok (record {
      paths = record { kind = paths.Loop; first = 0; past = 2 } ∷ [];
      points = record { x = pos 10000; y = pos 0 } ∷ record { x = pos 0; y = pos 10000 } ∷ [];
      heights = None ∷ None ∷ [];
      edits =
          record { start = 37; end = 38; what = edits.Tally 0 2 } ∷ record { start = 47; end = 49; what = edits.X 0 }
          ∷ record { start = 53; end = 54; what = edits.Y 0 } ∷ record { start = 55; end = 55; what = edits.Vertices 0 }
          ∷ record { start = 58; end = 59; what = edits.X 1 } ∷ record { start = 63; end = 65; what = edits.Y 1 }
          ∷ record { start = 66; end = 66; what = edits.Vertices 1 } ∷ [];
      inexact = 0;
      dropped = 0;
    })
unfolding millimetres_of
polyline = refl

-- a closed polyline with vertices of their own, and a text with two points
entities : drawing_sheet plain (codes
    "0\nSECTION\n2\nENTITIES\n0\nPOLYLINE\n70\n1\n10\n0\n0\nVERTEX\n10\n1\n20\n2\n0\nVERTEX\n10\n3.0005\n20\n4\n0\nSEQEND\n0\nTEXT\n11\n7\n21\n8\n20\n6\n10\n5\n72\n1\n0\nENDSEC\n0\nEOF") ≡ Ok (record { paths = record { kind = paths.Loop; first = 0; past = 2 } ∷ record { kind = paths.Dot; first = 2; past = 3 } ∷ record { kind = paths.Dot; first = 3; past = 4 } ∷ []; points = record { x = pos 1000; y = pos 2000 } ∷ record { x = pos 3001; y = pos 4000 } ∷ record { x = pos 5000; y = pos 6000 } ∷ record { x = pos 7000; y = pos 8000 } ∷ []; heights = None ∷ None ∷ None ∷ None ∷ []; edits = record { start = 42; end = 61; what = edits.Vertex 0 } ∷ record { start = 61; end = 85; what = edits.Vertex 1 } ∷ record { start = 104; end = 105; what = edits.X 3 } ∷ record { start = 109; end = 110; what = edits.Y 3 } ∷ record { start = 114; end = 115; what = edits.Y 2 } ∷ record { start = 119; end = 120; what = edits.X 2 } ∷ []; inexact = 1; dropped = 0 })
unfolding millimetres_of
entities = refl
