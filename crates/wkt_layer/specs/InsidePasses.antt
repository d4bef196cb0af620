-- What the code has read, as a state of the pass. Only private functions speak of it.
use Rattle.std.specs.Prelude.{◌≡◌, ℕ, ◌+◌, ◌*◌, ◌≤◌, Bool, true, false, List, [], ◌∷◌, ◌++◌, length, take, map}
use Rattle.std.specs.Prelude.{flat_map, sum_by, Option, Some, None, Result, Ok, Err, ⊤}
use Rattle.std.specs.Borrow.{Bor}
use Rattle.std.specs.declared.alloc.AllocError.{AllocError}
use Rattle.mm_decimal.specs.AnswerValues.{millimetres_of}
use Rattle.mm_decimal.specs.declared.numerals.MmRead.{MmRead}
use Rattle.std.specs.List.{AllByRecursion}
use Rattle.sheet_base.specs.declared.paths.PathKind.{PathKind}
use Rattle.sheet_base.specs.declared.paths.PathKind.TheVariants.{Dot, Line, Loop}
use Rattle.sheet_base.specs.declared.faults.LayerFault.{LayerFault}
use Rattle.sheet_base.specs.declared.faults.LayerFault.TheVariants as faults
use Rattle.wkt_layer.specs.Tokens.{Number, Token, opening, closing, comma, word, number, stray, token_length, token_of}
use Rattle.wkt_layer.specs.Tokens.{tokens_of, Placed}
use Rattle.wkt_layer.specs.InsideReach.{Reached}
use Rattle.wkt_layer.specs.Lines.{IsLineOf}
use Rattle.wkt_layer.specs.Faults.{IsLineFault}
use Rattle.wkt_layer.specs.Layers.{geometry_lines, AreLinesOf, IsFirstLineFault}
use Rattle.wkt_layer.specs.Numbers.{Point, does_fit, past_of, place_of, height_of, lost_of, lost_in}
use Rattle.sheet_base.specs.PointHeights.{Height}
use Rattle.wkt_layer.specs.Geometries.{last_behind}
use Rattle.wkt_layer.specs.Paths.{Path, kept_points, kept_heights, lost_on, rows_from, edits_from}
use Rattle.wkt_layer.specs.InsideStates.{Spot, item, tagged, content, first, second, third, whole, bare_second}
use Rattle.wkt_layer.specs.InsideStates.{bare_third}
use Rattle.wkt_layer.specs.InsideStates.{bare_whole, behind, State}
use Rattle.wkt_layer.specs.InsideStates.{step, fault_of, opened_by}
use Rattle.wkt_layer.specs.declared.pass.LinesRead.{LinesRead}
use Rattle.wkt_layer.specs.declared.places.TokenPlace.{TokenPlace}
use Rattle.wkt_layer.specs.declared.places.TokenPlace.TheVariants as places
use Rattle.wkt_layer.specs.declared.tokens.TokenKind.{TokenKind}
use Rattle.wkt_layer.specs.declared.tokens.TokenKind.TheVariants as signs

-- the token of this kind that begins here with this text
abbrev pub token_for : ℕ → List ℕ → TokenKind → Token
token_for at text signs.Opening = opening
token_for at text signs.Closing = closing
token_for at text signs.Comma = comma
token_for at text (signs.Word w) = word w
token_for at text signs.Number = number (record { start = at; text = text })
token_for at text signs.Stray = stray

-- the first token of bytes, whose first one is no blank
abbrev pub IsFirstToken : List ℕ → TokenKind → ℕ → Type 0
IsFirstToken [] sign size = ⊥
IsFirstToken (byte ∷ bytes) sign size =
    (size ≡ token_length byte bytes) × ((at : ℕ)
    → token_of at byte (take size (byte ∷ bytes)) ≡ token_for at (take size (byte ∷ bytes)) sign)

-- the number fits, and this was read; or the token is no number that fits
pub record IsFit (exact : Bool) (sign : TokenKind) (text : List ℕ) (read : MmRead) : Type 0 where
  pub is : sign ≡ signs.Number
  pub reads : millimetres_of text ≡ Ok read
  pub fits : does_fit exact (millimetres_of text) ≡ true

abbrev pub IsUnfit : Bool → TokenKind → List ℕ → Type 0
IsUnfit exact sign text = sign ≡ signs.Number → does_fit exact (millimetres_of text) ≡ false

abbrev pub AreSome : List Point → Type 0
AreSome [] = ⊥
AreSome (one ∷ more) = Unit {0}

-- the code's place is this spot
abbrev pub Shows : TokenPlace → Spot → Type 0
Shows places.Item item = Unit {0}
Shows (places.Tagged kind) (tagged other) = kind ≡ other
Shows (places.Content inner) (content other) = inner ≡ other
Shows (places.First listing) (first other points) = listing ≡ other
Shows (places.Second listing read at) (second other points x) =
    (listing ≡ other) × (millimetres_of x.text ≡ Ok read) × (at ≡ x.start)
Shows (places.Third listing read next at) (third other points x y) =
    (listing ≡ other) × (millimetres_of x.text ≡ Ok read) × (millimetres_of y.text ≡ Ok next) × (at ≡ x.start)
Shows (places.Whole listing) (whole other points) = (listing ≡ other) × AreSome points
Shows (places.BareSecond raised read at) (bare_second other x) =
    (raised ≡ other) × (millimetres_of x.text ≡ Ok read) × (at ≡ x.start)
Shows (places.BareThird read next at) (bare_third x y) =
    (millimetres_of x.text ≡ Ok read) × (millimetres_of y.text ≡ Ok next) × (at ≡ x.start)
Shows places.BareWhole bare_whole = Unit {0}
Shows places.Behind behind = Unit {0}
Shows place spot = ⊥

-- the points that were read of a path that is not whole yet
abbrev pub points_at : Spot → List Point
points_at (first listing points) = points
points_at (second listing points x) = points
points_at (third listing points x y) = points
points_at (whole listing points) = points
points_at spot = []

-- from the first byte of the points' first number to the last byte of their last one
abbrev pub AreFrom : List Point → ℕ → ℕ → Type 0
AreFrom [] start end = Unit {0}
AreFrom (one ∷ more) start end = (start ≡ one.x.start) × (end ≡ past_of (last_behind one more))

-- what was read of a point's third number, where it has one
abbrev pub IsThirdRead : Option Number → Option MmRead → Type 0
IsThirdRead None None = Unit {0}
IsThirdRead (Some z) (Some read) = millimetres_of z.text ≡ Ok read
IsThirdRead wanted read = ⊥

-- the height of it, and 1 where it lost digits
abbrev pub height_read : Option MmRead → Height
height_read None = None
height_read (Some read) = Some read.mm

abbrev pub lost_read : Option MmRead → ℕ
lost_read None = 0
lost_read (Some read) = lost_in (Ok read)

-- the sheet so far has these paths, and after them these points
pub record Held (pass : LinesRead) (done : List Path) (now : List Point) : Type 0 where
  pub paths : pass.paths.items ≡ rows_from 0 done
  pub points : pass.points.items ≡ flat_map kept_points done ++ map place_of now
  pub heights : pass.heights ≡ flat_map kept_heights done ++ map height_of now
  pub edits : pass.edits.items ≡ edits_from 0 done
  pub inexact : pass.inexact ≡ sum_by lost_on done + sum_by lost_of now
  pub first : pass.first ≡ length (flat_map kept_points done)
  pub ends : AreFrom now pass.start pass.end

-- the code is at this state of a line, after the paths of the lines before
pub record IsAtState (pass : LinesRead) (place : TokenPlace) (before : List Path) (s : State) : Type 0 where
  pub stack : pass.stack ≡ s.stack
  pub held : Held pass (before ++ s.paths) (points_at s.spot)
  pub shows : Shows place s.spot

-- The code goes where the pass goes, or refuses the token, as the pass does, and keeps what it needs to name the fault.
abbrev pub Goes : Option State → Token → ℕ → List Path → LinesRead → Result (Option TokenPlace) AllocError → LinesRead → Type 0
Goes to token at before old (Ok (Some place)) new =
    (next : State) × (to ≡ Some next) × IsAtState new place before next × (new.opened ≡ opened_by token at old.opened)
Goes to token at before old (Ok None) new = (to ≡ None) × (new.stack ≡ old.stack) × (new.opened ≡ old.opened)
Goes to token at before old (Err fault) new = ⊤

-- where the code goes, and the fault of a token that it refuses
abbrev pub Leads : Bool → State → Token → ℕ → List Path → LinesRead → Result TokenPlace LayerFault → LinesRead → Type 0
Leads exact s token at before old (Ok place) new =
    (next : State) × (step exact s token ≡ Some next) × IsAtState new place before next
    × (new.opened ≡ opened_by token at old.opened)
Leads exact s token at before old (Err fault) new = (fault ≡ faults.NoMemory → ⊥)
    → (step exact s token ≡ None) × (fault ≡ fault_of exact s.spot s.stack token at old.opened)

-- the lists are no longer than the text before this place
pub record HasRoom (pass : LinesRead) (at : ℕ) : Type 0 where
  pub points : length pass.points.items ≤ at
  pub paths : length pass.paths.items ≤ at
  pub first : pass.first ≤ at
  pub start : pass.start ≤ at
  pub end : pass.end ≤ at
  pub inexact : pass.inexact ≤ 3 * at
  pub inside : pass.first ≤ length pass.points.items
  pub heights : length pass.heights ≤ at

-- a number that was read begins before this place
abbrev pub BeginsBefore : TokenPlace → ℕ → Type 0
BeginsBefore (places.Second listing read start) at = start ≤ at
BeginsBefore (places.Third listing read next start) at = start ≤ at
BeginsBefore (places.BareSecond raised read start) at = start ≤ at
BeginsBefore (places.BareThird read next start) at = start ≤ at
BeginsBefore place at = ⊤

abbrev pub LeavesRoom : Result (Option TokenPlace) AllocError → LinesRead → ℕ → Type 0
LeavesRoom (Ok (Some place)) pass at = HasRoom pass at × BeginsBefore place at
LeavesRoom (Ok None) pass at = ⊤
LeavesRoom (Err fault) pass at = ⊤

-- only the open lists and the last bracket changed
pub record SameSheet (old new : LinesRead) : Type 0 where
  pub paths : new.paths ≡ old.paths
  pub points : new.points ≡ old.points
  pub heights : new.heights ≡ old.heights
  pub edits : new.edits ≡ old.edits
  pub inexact : new.inexact ≡ old.inexact
  pub first : new.first ≡ old.first
  pub start : new.start ≡ old.start
  pub end : new.end ≡ old.end

-- the lines that come after a line feed, where there is one
abbrev pub lines_behind : Option (Bor (List ℕ)) → List (List ℕ)
lines_behind None = []
lines_behind (Some rest) = geometry_lines rest.now

-- A token of a line was read, or is the line's fault.
abbrev pub Reads : Bool → ℕ → List ℕ → List Path → Result (TokenPlace × ℕ) LayerFault → LinesRead → Type 0
Reads exact base line before (Ok next) new =
    (front : List Placed) × (s : State) × IsAtState new next.0 before s
    × Reached exact base line next.1 front s new.opened
Reads exact base line before (Err fault) new = (fault ≡ faults.NoMemory → ⊥)
    → IsLineFault exact (tokens_of base line) (base + length line) fault

-- A line that begins at this place was read after these paths, or is refused.
abbrev pub ReadsLine : Bool → ℕ → List ℕ → List Path → Result (Unit {0}) LayerFault → LinesRead → Type 0
ReadsLine exact at line before (Ok done) new =
    (here : List Path) × IsLineOf exact (tokens_of at line) here × Held new (before ++ here) [] × (new.stack ≡ [])
ReadsLine exact at line before (Err fault) new = (fault ≡ faults.NoMemory → ⊥)
    → IsLineFault exact (tokens_of at line) (at + length line) fault

abbrev pub IsWholeOf : PathKind → List Point → Type 0
IsWholeOf Dot more = more ≡ []
IsWholeOf Line more = Unit {0}
IsWholeOf Loop more = AreSome more

-- a dot has one point, and a loop a closing point
abbrev pub IsWhole : Path → Type 0
IsWhole path = IsWholeOf path.kind path.more

abbrev pub AreWhole : List Path → Type 0
AreWhole paths = AllByRecursion IsWhole paths

-- how the text of a line goes on: all that is read of the rest is read of the whole after the paths so far, and a
-- fault of the rest is one of the whole
pub record GoesOn (exact : Bool) (all : List (List ℕ)) (base : ℕ) (rest : List (List ℕ)) (done : List Path) : Type 0
  where
    pub onward : (others : List Path) → AreLinesOf exact base rest others → AreLinesOf exact 0 all (done ++ others)
    pub faults : (fault : LayerFault) → IsFirstLineFault exact base rest fault → IsFirstLineFault exact 0 all fault
    pub whole : AreWhole done

-- the rest of a text begins at this place, where there is one
abbrev pub RestsAt : Option (Bor (List ℕ)) → ℕ → ℕ → Type 0
RestsAt None base size = ⊤
RestsAt (Some rest) base size = base + length rest.now ≡ size

-- the numbers follow one another, between these places
abbrev pub Ascend : ℕ → List Number → ℕ → Type 0
Ascend from [] past = from ≤ past
Ascend from (n ∷ numbers) past = (from ≤ n.start) × Ascend (n.start + length n.text) numbers past

abbrev pub third_numbers : Option Number → List Number
third_numbers None = []
third_numbers (Some z) = z ∷ []

abbrev pub point_numbers : Point → List Number
point_numbers p = p.x ∷ p.y ∷ third_numbers p.z

abbrev pub path_numbers : Path → List Number
path_numbers path = flat_map point_numbers (path.first ∷ path.more)
