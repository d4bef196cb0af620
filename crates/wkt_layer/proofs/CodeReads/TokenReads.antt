-- Reading the tokens of a line, and the lines of a text.
use Rattle.std.proofs.Common.{◌≡◌, ◌≢◌, ℕ, zero, suc, ◌+◌, ◌-◌, ◌<◌, ◌≤◌, Bool, true, false, List, [], ◌∷◌, ◌++◌}
use Rattle.std.proofs.Common.{length, take, drop, get_or, refl, sym, ap, ◌∙◌, subst, append_assoc, append-nil, arith}
use Rattle.std.proofs.Common.{add-one, length-append}
use Rattle.std.proofs.lemmas.Bool.{and_parts}
use Rattle.std.specs.Prelude.{◌&&◌, Some, None, Ok, Err}
use Rattle.std.specs.List.{list_all}
use Rattle.std.proofs.lemmas.List.{map-append, drop_all}
use Rattle.std.proofs.Math.Seq.{drop-cons}
use Rattle.text_places.specs.Machine.{run}
use Rattle.text_places.proofs.Runs.{run_next}
use Rattle.sheet_base.specs.declared.faults.LayerFault.{LayerFault}
use Rattle.sheet_base.specs.declared.faults.LayerFault.TheVariants as faults
use Rattle.sheet_base.proofs.ListParts.{drop_twice, drop_front}
use Rattle.text_places.specs.Blanks.{is_blank_byte}
use Rattle.wkt_layer.specs.Tokens.{Token, Placed, token_of, token_length, tokens_behind, tokens_of}
use Rattle.wkt_layer.specs.Lines.{IsLineOf, tokens_in}
use Rattle.wkt_layer.specs.Faults.{IsFaultOf, IsLineFault, IsFaultBehind}
use Rattle.wkt_layer.specs.Paths.{Path}
use Rattle.wkt_layer.specs.InsideStates.{State, start, step, IsEnd, fault_of, opened_by}
use Rattle.wkt_layer.specs.InsidePasses.{token_for, IsFirstToken, Leads, IsAtState}
use Rattle.wkt_layer.specs.declared.pass.LinesRead.{LinesRead}
use Rattle.wkt_layer.specs.declared.tokens.TokenKind.{TokenKind}
use Rattle.wkt_layer.specs.declared.places.TokenPlace.{TokenPlace}
use Rattle.wkt_layer.proofs.Grammar.LinePasses.{read_line, fault_at_token, fault_at_end}
use Rattle.wkt_layer.proofs.Faults.InBrackets.{step_in}
use Rattle.wkt_layer.specs.InsideReach.{IsIn, Reached}
use Rattle.wkt_layer.proofs.Faults.TokenFaults.{named}
use Rattle.plain_laws.proofs.Lists.{take_front}

-- bytes of a token that are passed over
pub passed : (count at : ℕ) (bytes : List ℕ) → tokens_behind count at bytes ≡ tokens_of (at + count) (drop count bytes)
passed zero at (byte ∷ bytes) = let e : at ≡ at + 0 = omega arith in ap (λ n. tokens_of n (byte ∷ bytes)) e
passed (suc count) at (byte ∷ bytes) = let e : at + 1 + count ≡ at + suc count =
    omega arith in passed count (at + 1) bytes ∙ ap (λ n. tokens_of n (drop count bytes)) e
passed count at bytes = refl

-- a blank
pub blank_first : (at byte : ℕ) (bytes : List ℕ) → is_blank_byte byte ≡ true
    → tokens_of at (byte ∷ bytes) ≡ tokens_of (at + 1) bytes
blank_first at byte bytes is = rw is refl

-- a token
pub black_first : (at byte : ℕ) (bytes : List ℕ) → is_blank_byte byte ≡ false
    → tokens_of at (byte ∷ bytes) ≡ record {
      start = at;
      token =
          token_of at byte (take (token_length byte bytes) (byte ∷ bytes));
    }
    ∷ tokens_behind (token_length byte bytes - 1) (at + 1) bytes
black_first at byte bytes is = rw is refl

token_first_at : (at byte : ℕ) (more : List ℕ) (sign : TokenKind) (size : ℕ) → is_blank_byte byte ≡ false → 0 < size
    → IsFirstToken (byte ∷ more) sign size
    → tokens_of at (byte ∷ more) ≡ record { start = at; token = token_for at (take size (byte ∷ more)) sign }
    ∷ tokens_of (at + size) (drop size (byte ∷ more))
token_first_at at byte more sign zero black some first = absurd (omega (arith, some))
token_first_at at byte more sign (suc k) black some first = grind (arith, black_first, passed)

token_first : (at : ℕ) (bytes : List ℕ) (byte : ℕ) (more : List ℕ) (sign : TokenKind) (size : ℕ) → bytes ≡ byte ∷ more
    → is_blank_byte byte ≡ false → 0 < size → IsFirstToken bytes sign size
    → tokens_of at bytes ≡ record { start = at; token = token_for at (take size bytes) sign }
    ∷ tokens_of (at + size) (drop size bytes)
token_first at bytes byte more sign size split black some first = grind (arith, token_first_at)

left_at : (line : List ℕ) (at : ℕ) → at < length line → drop at line ≡ get_or line at 0 ∷ drop (at + 1) line
left_at line at within = rw add-one (drop-cons line at 0 within)

at_token : (base at : ℕ) (line : List ℕ) (sign : TokenKind) (size : ℕ) → at < length line
    → is_blank_byte (get_or line at 0) ≡ false → 0 < size → IsFirstToken (drop at line) sign size
    → tokens_of (base + at) (drop at line) ≡ record {
      start = base + at;
      token =
          token_for (base + at) (take size (drop at line)) sign;
    } ∷ tokens_of (base + (at + size)) (drop (at + size) line)
at_token base at line sign size within black some first =
    let e : base + at + size ≡ base + (at + size) = omega arith in
    token_first (base + at) (drop at line) (get_or line at 0) (drop (at + 1) line) sign size (left_at line at within)
    black some first
    ∙ ap (λ ts. let p : Placed = record {
      start = base + at;
      token =
          token_for (base + at) (take size (drop at line)) sign;
    } in p ∷ ts)
    (ap (λ n. tokens_of n (drop size (drop at line))) e ∙ ap (tokens_of (base + (at + size))) (drop_twice at size line))

pub reached_start : (exact : Bool) (base : ℕ) (line : List ℕ) (opened : ℕ) → Reached exact base line 0 [] start opened
reached_start exact base line opened = grind (arith)

reached_token : (exact : Bool) (base : ℕ) (line : List ℕ) (at : ℕ) (front : List Placed) (s next : State)
    (opened : ℕ) (sign : TokenKind) (size : ℕ)
    → at < length line → is_blank_byte (get_or line at 0) ≡ false → 0 < size → IsFirstToken (drop at line) sign size
    → step exact s (token_for (base + at) (take size (drop at line)) sign) ≡ Some next
    → Reached exact base line at front s opened
    → Reached exact base line (at + size) (front
    ++ record { start = base + at; token = token_for (base + at) (take size (drop at line)) sign } ∷ []) next
    (opened_by (token_for (base + at) (take size (drop at line)) sign) (base + at) opened)
reached_token exact base line at front s next opened sign size within black some first steps r =
    let t : Token = token_for (base + at) (take size (drop at line)) sign in
    let one : Placed = record { start = base + at; token = token_for (base + at) (take size (drop at line)) sign } in
    record {
      lexed = r.lexed ∙ ap (λ ts. front ++ ts) (at_token base at line sign size within black some first)
          ∙ sym (append_assoc front (record {
            start = base + at;
            token =
                token_for (base + at) (take size (drop at line)) sign;
          } ∷ [])
          (tokens_of (base + (at + size)) (drop (at + size) line)));
      ran = ap (run (step exact) start) (map-append (λ (p : Placed). p.token) front
          (record { start = base + at; token = token_for (base + at) (take size (drop at line)) sign } ∷ []))
          ∙ run_next (step exact) start s (tokens_in front) (token_for (base + at) (take size (drop at line)) sign)
          r.ran ∙ steps;
      inside = step_in exact front opened (base + at) s.spot s.stack s.paths
          (token_for (base + at) (take size (drop at line)) sign) next r.inside steps;
    }

some_fault : (exact : Bool) (line : List Placed) (end : ℕ) (fault : LayerFault) → line ≢ []
    → IsFaultOf exact line end fault → IsLineFault exact line end fault
some_fault exact [] end fault some is = absurd (some refl)
some_fault exact (one ∷ more) end fault some is = is

tokens_length : (front : List Placed) → length (tokens_in front) ≡ length front
tokens_length [] = refl
tokens_length (one ∷ more) = let e = tokens_length more in ap suc e

take_one : {A : Type 0} (front : List A) (x : A) (back : List A)
    → take (length front + 1) (front ++ x ∷ back) ≡ front ++ x ∷ []
take_one [] x back = refl
take_one (y ∷ front) x back = rw add-one (ap (λ xs. y ∷ xs) (let e = take_one front x back in rw add-one at e))

not_empty : (front : List Placed) (next : Placed) (more : List Placed) → front ++ next ∷ more ≡ [] → ⊥
not_empty [] next more e = cc
not_empty (one ∷ front) next more e = cc

-- a token that is refused is the line's fault
pub refused_token : (exact : Bool) (line front more : List Placed) (next : Placed) (s : State) (opened end : ℕ)
    → line ≡ front ++ next ∷ more → run (step exact) start (tokens_in front) ≡ Some s
    → step exact s next.token ≡ None → IsIn front opened s.spot
    → IsLineFault exact line end (fault_of exact s.spot s.stack next.token next.start opened)
refused_token exact line front more next s opened end split ran refused inside =
    let tokens : tokens_in line ≡ tokens_in front ++ next.token ∷ tokens_in more = ap tokens_in split
    ∙ map-append (λ (p : Placed). p.token) front (next ∷ more) in
    let before : take (length (tokens_in front)) (tokens_in line) ≡ tokens_in front =
    ap (take (length (tokens_in front))) tokens ∙ take_front (tokens_in front) (next.token ∷ tokens_in more) in
    let with_one : take (length (tokens_in front) + 1) (tokens_in line) ≡ tokens_in front ++ next.token ∷ [] =
    ap (take (length (tokens_in front) + 1)) tokens ∙ take_one (tokens_in front) next.token (tokens_in more) in
    let within : length (tokens_in front) < length (tokens_in line) = let e = ap length tokens in let f =
    length-append (tokens_in front) (next.token ∷ tokens_in more) in omega (arith, e, f) in
    let fault = fault_at_token exact (tokens_in line) (length (tokens_in front)) s within
    (ap (run (step exact) start) before ∙ ran)
    (ap (run (step exact) start) with_one ∙ run_next (step exact) start s (tokens_in front) next.token ran ∙ refused) in
    let ahead : take (length (tokens_in front)) line ≡ front = ap (λ n. take n line) (tokens_length front)
    ∙ ap (take (length front)) split ∙ take_front front (next ∷ more) in
    let behind : drop (length (tokens_in front)) line ≡ next ∷ more = ap (λ n. drop n line) (tokens_length front)
    ∙ ap (drop (length front)) split ∙ drop_front front (next ∷ more) in
    let name : IsFaultBehind exact front (next ∷ more) end
    (fault_of exact s.spot s.stack next.token next.start opened) =
    named exact front next.start opened next.token s ran refused inside in
    some_fault exact line end (fault_of exact s.spot s.stack next.token next.start opened)
    (λ none. not_empty front next more (sym split ∙ none))
    (record {
      at = length (tokens_in front);
      first = fault;
      named = subst (λ f. IsFaultBehind exact f (drop (length (tokens_in front)) line) end
          (fault_of exact s.spot s.stack next.token next.start opened)) (sym ahead)
          (subst (λ b. IsFaultBehind exact front b end (fault_of exact s.spot s.stack next.token next.start opened))
          (sym behind) name);
    })

reached_fault : (exact : Bool) (base : ℕ) (line : List ℕ) (at : ℕ) (front : List Placed) (s : State) (opened : ℕ)
    (sign : TokenKind) (size : ℕ)
    → at < length line → is_blank_byte (get_or line at 0) ≡ false → 0 < size → IsFirstToken (drop at line) sign size
    → step exact s (token_for (base + at) (take size (drop at line)) sign) ≡ None
    → Reached exact base line at front s opened
    → IsLineFault exact (tokens_of base line) (base + length line)
    (fault_of exact s.spot s.stack (token_for (base + at) (take size (drop at line)) sign) (base + at) opened)
reached_fault exact base line at front s opened sign size within black some first refused r =
    refused_token exact (tokens_of base line) front (tokens_of (base + (at + size)) (drop (at + size) line))
    (record { start = base + at; token = token_for (base + at) (take size (drop at line)) sign }) s opened
    (base + length line)
    (r.lexed ∙ ap (λ ts. front ++ ts) (at_token base at line sign size within black some first)) r.ran refused r.inside

-- all tokens are read
all_read : (exact : Bool) (base : ℕ) (line : List ℕ) (at : ℕ) (front : List Placed) (s : State) (opened : ℕ)
    → length line ≤ at → Reached exact base line at front s opened → tokens_of base line ≡ front
all_read exact base line at front s opened end r = r.lexed
    ∙ ap (λ bytes. front ++ tokens_of (base + at) bytes) (drop_all at line end) ∙ append-nil front

pub line_of : (exact : Bool) (line : List Placed) (s : State) → line ≢ []
    → run (step exact) start (tokens_in line) ≡ Some s → IsEnd s → IsLineOf exact line s.paths
line_of exact [] s some ran end = absurd (some refl)
line_of exact (one ∷ more) s some ran end = read_line exact (tokens_in (one ∷ more)) s ran end

pub reached_end : (exact : Bool) (base : ℕ) (line : List ℕ) (at : ℕ) (front : List Placed) (s : State) (opened : ℕ)
    → length line ≤ at → tokens_of base line ≢ []
    → Reached exact base line at front s opened → IsEnd s → IsLineOf exact (tokens_of base line) s.paths
reached_end exact base line at front s opened end some r last =
    line_of exact (tokens_of base line) s some
    (ap (λ ts. run (step exact) start (tokens_in ts)) (all_read exact base line at front s opened end r) ∙ r.ran)
    last

-- a line that may not end after its tokens
pub open_line : (exact : Bool) (line : List Placed) (end : ℕ) (s : State) → line ≢ []
    → run (step exact) start (tokens_in line) ≡ Some s → (IsEnd s → ⊥) → IsLineFault exact line end (faults.Bad end)
open_line exact line end s some ran open_still =
    let size : length line ≤ length (tokens_in line) = let e = tokens_length line in omega (arith, e) in
    some_fault exact line end (faults.Bad end) some
    (record {
      at = length (tokens_in line);
      first = fault_at_end exact (tokens_in line) s ran open_still;
      named = subst (λ b. IsFaultBehind exact (take (length (tokens_in line)) line) b end (faults.Bad end))
          (sym (drop_all (length (tokens_in line)) line size)) refl;
    })

pub reached_open : (exact : Bool) (base : ℕ) (line : List ℕ) (at : ℕ) (front : List Placed) (s : State) (opened : ℕ)
    → length line ≤ at → tokens_of base line ≢ []
    → Reached exact base line at front s opened → (IsEnd s → ⊥)
    → IsLineFault exact (tokens_of base line) (base + length line) (faults.Bad (base + length line))
reached_open exact base line at front s opened end some r open_still =
    open_line exact (tokens_of base line) (base + length line) s some
    (ap (λ ts. run (step exact) start (tokens_in ts)) (all_read exact base line at front s opened end r) ∙ r.ran)
    open_still

-- blanks alone
pub blank_tokens : (at : ℕ) (line : List ℕ) → list_all is_blank_byte line ≡ true → tokens_of at line ≡ []
blank_tokens at [] all = refl
blank_tokens at (byte ∷ bytes) all = grind (arith, and_parts, blank_first, (blank_tokens (at + 1) bytes))

pub black_tokens : (at : ℕ) (line : List ℕ) → list_all is_blank_byte line ≡ false → tokens_of at line ≡ [] → ⊥
black_tokens at [] all none = cc
black_tokens at (byte ∷ bytes) all none = by_test (is_blank_byte byte) refl all
    (λ rest more. black_tokens (at + 1) bytes rest more)
  where
    by_test : (b : Bool) → is_blank_byte byte ≡ b → (b && list_all is_blank_byte bytes) ≡ false
        → (list_all is_blank_byte bytes ≡ false → tokens_of (at + 1) bytes ≡ [] → ⊥) → ⊥
    by_test true is others on = on others (sym (blank_first at byte bytes is) ∙ none)
    by_test false is others on = let e = sym (black_first at byte bytes is) ∙ none in cc

-- a token was read
pub token_reads : (exact : Bool) (base : ℕ) (line : List ℕ) (at : ℕ) (sign : TokenKind) (size : ℕ) (piece text : List ℕ)
    (before : List Path) (old new : LinesRead) (next : TokenPlace)
    → piece ≡ drop at line → text ≡ take size (drop at line) → at < length line
    → is_blank_byte (get_or line at 0) ≡ false
    → 0 < size → IsFirstToken piece sign size
    → (front : List Placed) (s : State) → Leads exact s (token_for (base + at) text sign) (base + at) before old
    (Ok next) new → Reached exact base line at front s old.opened
    → (ahead : List Placed) × (to : State) × IsAtState new next before to
    × Reached exact base line (at + size) ahead to new.opened
token_reads exact base line at sign size piece text before old new next is_piece is_text within black some first front s
    leads r =
    let (to, steps, stands, opened) = subst (λ (t : List ℕ). Leads exact s (token_for (base + at) t sign) (base + at)
    before old (Ok next) new) is_text leads in
    let here : IsFirstToken (drop at line) sign size =
    subst (λ (p : List ℕ). IsFirstToken p sign size) is_piece first in (
      front ++ record { start = base + at; token = token_for (base + at) (take size (drop at line)) sign } ∷ [],
      to,
      stands,
      subst (Reached exact base line (at + size)
          (front ++ record { start = base + at; token = token_for (base + at) (take size (drop at line)) sign } ∷ [])
          to) (sym opened)
          (reached_token exact base line at front s to old.opened sign size within black some here steps r),
    )

-- a token is refused
pub token_fails : (exact : Bool) (base : ℕ) (line : List ℕ) (at : ℕ) (sign : TokenKind) (size : ℕ) (piece text : List ℕ)
    (before : List Path) (old new : LinesRead) (fault : LayerFault)
    → piece ≡ drop at line → text ≡ take size (drop at line) → at < length line
    → is_blank_byte (get_or line at 0) ≡ false
    → 0 < size → IsFirstToken piece sign size
    → (front : List Placed) (s : State) → Leads exact s (token_for (base + at) text sign) (base + at) before old
    (Err fault) new → Reached exact base line at front s old.opened
    → (fault ≡ faults.NoMemory → ⊥) → IsLineFault exact (tokens_of base line) (base + length line) fault
token_fails exact base line at sign size piece text before old new fault is_piece is_text within black some first front
    s leads r memory =
    let (refused, name) = subst (λ (t : List ℕ). Leads exact s (token_for (base + at) t sign) (base + at) before old
    (Err fault) new) is_text leads memory in
    let here : IsFirstToken (drop at line) sign size =
    subst (λ (p : List ℕ). IsFirstToken p sign size) is_piece first in
    subst (IsLineFault exact (tokens_of base line) (base + length line)) (sym name)
    (reached_fault exact base line at front s old.opened sign size within black some here refused r)

pub blank_line : (exact : Bool) (at : ℕ) (line : List ℕ) → list_all is_blank_byte line ≡ true
    → IsLineOf exact (tokens_of at line) []
blank_line exact at line blank = subst (λ (ts : List Placed). IsLineOf exact ts []) (sym (blank_tokens at line blank))
    refl
