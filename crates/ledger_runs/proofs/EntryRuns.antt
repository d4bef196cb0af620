-- The layers of a line and the lines of a script, one after the other.
use Rattle.std.proofs.Common.{◌≡◌, inl, inr, ℕ, zero, suc, ◌+◌, ◌<◌, ◌≤◌, List, [], ◌∷◌, ◌++◌, length, drop, get_or, Option, None, Some, IfSome}
use Rattle.std.proofs.Common.{refl, ap, sym, ◌∙◌, subst, arith}
use Rattle.std.proofs.lemmas.List.{append_assoc, append-nil, length-append}
use Rattle.sha2.specs.declared.Sha256.{Sha256}
use Rattle.sha2.specs.Hashers.{Holds256}
use Rattle.sha2.specs.Sha256.{sha256}
use Rattle.shelf_io.specs.Count.{Rose}
use Rattle.shelf_io.specs.Files.{Files}
use Rattle.file_digests.specs.Digests.{IsDigestOf}
use Rattle.ledger_core.specs.declared.commands.Command.{Command}
use Rattle.ledger_core.specs.declared.pairs.Seal.{Seal}
use Rattle.ledger_runs.specs.declared.commands.TheConstants.{MOST_REPORTS, MOST_LAYER}
use Rattle.ledger_runs.specs.declared.scripts.AskedLine.{AskedLine}
use Rattle.ledger_runs.specs.declared.refusals.LedgerRefusal.{LedgerRefusal}
use Rattle.ledger_runs.specs.Ends.{IsUnread}
use Rattle.ledger_runs.specs.Entries.{AreDigests, IsSealOf, IsLayerRefused, IsCommand, AreCommands, IsRefusedAt}
use Rattle.ledger_runs.specs.InsideEntries.{DigestFails, CommandFails, CommandsFail}

-- the rest from a place on begins with the item there
pub drop-here : {X : Type 0} (xs : List X) (at : ℕ) (other : X) → at < length xs
    → drop at xs ≡ get_or xs at other ∷ drop (at + 1) xs
drop-here [] at other within = absurd (omega (arith, within))
drop-here (x ∷ xs) zero other within = refl
drop-here (x ∷ xs) (suc at) other within =
    let next : suc (at + 1) ≡ suc at + 1 = omega arith in
    drop-here xs at other (omega (arith, within)) ∙ ap (λ n. get_or xs at other ∷ drop n (x ∷ xs)) next

drop-end : {X : Type 0} (xs : List X) (at : ℕ) → length xs ≤ at → drop at xs ≡ []
drop-end [] zero past = refl
drop-end [] (suc at) past = refl
drop-end (x ∷ xs) zero past = absurd (omega (arith, past))
drop-end (x ∷ xs) (suc at) past = drop-end xs at (omega (arith, past))

-- ---- layers

-- what the hasher holds and the digests of the layers from a place on are the digests of the report and of all layers
abbrev pub DigestsEnd : List ℕ → List (List ℕ) → ℕ → List ℕ → Files → Type 0
DigestsEnd report layers at message files =
    (more : List ℕ) → AreDigests files (drop at layers) more
    → (digests : List ℕ) × AreDigests files layers digests × (message ++ more ≡ sha256 report ++ digests)

-- the first layer that is refused from a place on is the first of all
abbrev pub LayersEnd : ℕ → List (List ℕ) → ℕ → ℕ → Files → Type 0
LayersEnd before layers at line files =
    (now : ℕ) (refusal : LedgerRefusal) → IsLayerRefused (IsUnread files (Rose before now)) files line (drop at layers) refusal
    → IsLayerRefused (IsUnread files (Rose before now)) files line layers refusal

pub record AreDigested (files : Option Files) (before line : ℕ) (report : List ℕ) (layers : List (List ℕ)) (at : ℕ)
    (hasher : Sha256) : Type 0 where
  pub message : List ℕ
  pub holds : Holds256 hasher message
  pub digests : IfSome files (DigestsEnd report layers at message)
  pub refused : IfSome files (LayersEnd before layers at line)

pub digested-more : (files : Option Files) (before line : ℕ) (report : List ℕ) (layers : List (List ℕ)) (at : ℕ)
    (hasher next : Sha256) (layer digest : List ℕ) → AreDigested files before line report layers at hasher
    → drop at layers ≡ layer ∷ drop (at + 1) layers → IfSome files (IsDigestOf layer MOST_LAYER digest)
    → ((message : List ℕ) → Holds256 hasher message → Holds256 next (message ++ digest))
    → AreDigested files before line report layers (at + 1) next
digested-more files before line report layers at hasher next layer digest done here is feeds = record {
  message = done.message ++ digest;
  holds = feeds done.message done.holds;
  digests = by-told files is done.digests;
  refused = by-told-2 files is done.refused;
}
  where
    by-told : (told : Option Files) → IfSome told (IsDigestOf layer MOST_LAYER digest)
        → IfSome told (DigestsEnd report layers at done.message)
        → IfSome told (DigestsEnd report layers (at + 1) (done.message ++ digest))
    by-told None is ends = tt
    by-told (Some all) is ends = λ more are.
        let found = ends (digest ++ more) (subst (λ (ls : List (List ℕ)). AreDigests all ls (digest ++ more)) (sym here)
        (digest, more, refl, is, are)) in
        (found.0, found.1, append_assoc done.message digest more ∙ found.2)

    by-told-2 : (told : Option Files) → IfSome told (IsDigestOf layer MOST_LAYER digest)
        → IfSome told (LayersEnd before layers at line) → IfSome told (LayersEnd before layers (at + 1) line)
    by-told-2 None is ends = tt
    by-told-2 (Some all) is ends = λ now refusal wrong.
        ends now refusal (subst (λ (ls : List (List ℕ)). IsLayerRefused (IsUnread all (Rose before now)) all line ls refusal)
        (sym here) (inr (inr (digest, is, wrong))))

-- all layers were digested
pub sealed : (files : Option Files) (before line : ℕ) (report : List ℕ) (layers : List (List ℕ)) (at : ℕ)
    (hasher : Sha256) (seal : Seal) → AreDigested files before line report layers at hasher → length layers ≤ at
    → ((message : List ℕ) → Holds256 hasher message → seal.bytes ≡ sha256 message)
    → IfSome files (λ all. IsSealOf all report layers seal)
sealed files before line report layers at hasher seal done past is =
    by-told files done.digests
  where
    by-told : (told : Option Files) → IfSome told (DigestsEnd report layers at done.message)
        → IfSome told (λ all. IsSealOf all report layers seal)
    by-told None ends = tt
    by-told (Some all) ends =
        let found = ends [] (subst (λ (ls : List (List ℕ)). AreDigests all ls []) (sym (drop-end layers at past)) refl) in (
          found.0,
          found.1,
          is done.message done.holds ∙ ap sha256 (sym (append-nil done.message) ∙ found.2),
        )

-- one is not digested
pub layer-refused : (files : Option Files) (before now line : ℕ) (report : List ℕ) (layers : List (List ℕ)) (at : ℕ)
    (hasher : Sha256) (layer : List ℕ) (refusal : LedgerRefusal) → AreDigested files before line report layers at hasher
    → drop at layers ≡ layer ∷ drop (at + 1) layers
    → IfSome files (λ all. DigestFails (IsUnread all (Rose before now)) all line layer refusal)
    → IfSome files (λ all. IsLayerRefused (IsUnread all (Rose before now)) all line layers refusal)
layer-refused files before now line report layers at hasher layer refusal done here fails =
    by-told files fails done.refused
  where
    by-fail : (all : Files) → DigestFails (IsUnread all (Rose before now)) all line layer refusal
        → IsLayerRefused (IsUnread all (Rose before now)) all line (layer ∷ drop (at + 1) layers) refusal
    by-fail all (inl unread) = inl unread
    by-fail all (inr long) = inr (inl long)

    by-told : (told : Option Files) → IfSome told (λ all. DigestFails (IsUnread all (Rose before now)) all line layer refusal)
        → IfSome told (LayersEnd before layers at line)
        → IfSome told (λ all. IsLayerRefused (IsUnread all (Rose before now)) all line layers refusal)
    by-told None fails ends = tt
    by-told (Some all) fails ends =
        ends now refusal (subst (λ (ls : List (List ℕ)). IsLayerRefused (IsUnread all (Rose before now)) all line ls refusal)
        (sym here) (by-fail all fails))

-- ---- lines

abbrev pub CommandsEnd : List AskedLine → ℕ → ℕ → List Command → Files → Type 0
CommandsEnd asked at left commands files =
    (more : List Command) → AreCommands files left (drop at asked) more → AreCommands files MOST_REPORTS asked (commands ++ more)

abbrev pub LinesEnd : ℕ → List AskedLine → ℕ → ℕ → Files → Type 0
LinesEnd before asked at left files =
    (now : ℕ) (refusal : LedgerRefusal) → IsRefusedAt (IsUnread files (Rose before now)) files left (drop at asked) refusal
    → IsRefusedAt (IsUnread files (Rose before now)) files MOST_REPORTS asked refusal

-- this many lines were read into commands
pub record AreCommandsRead (files : Option Files) (before : ℕ) (asked : List AskedLine) (at left : ℕ)
    (commands : List Command) : Type 0 where
  pub room : left ≤ MOST_REPORTS
  pub size : length commands ≡ at
  pub are : IfSome files (CommandsEnd asked at left commands)
  pub refused : IfSome files (LinesEnd before asked at left)

pub lines-more : (files : Option Files) (before : ℕ) (asked : List AskedLine) (at left behind : ℕ)
    (commands all : List Command) (line : AskedLine) (command : Command) → AreCommandsRead files before asked at left commands
    → drop at asked ≡ line ∷ drop (at + 1) asked → behind ≤ left
    → IfSome files (λ told. IsCommand told left line.asks command behind)
    → all ≡ commands ++ command ∷ []
    → AreCommandsRead files before asked (at + 1) behind all
lines-more files before asked at left behind commands all line command done here fewer is added = record {
  room = omega (arith, done.room, fewer);
  size = ap (λ (cs : List Command). length cs) added ∙ length-append commands (command ∷ [])
      ∙ ap (λ n. n + 1) done.size;
  are = by-told files is done.are;
  refused = by-told-2 files is done.refused;
}
  where
    by-told : (told : Option Files) → IfSome told (λ f. IsCommand f left line.asks command behind)
        → IfSome told (CommandsEnd asked at left commands) → IfSome told (CommandsEnd asked (at + 1) behind all)
    by-told None is ends = tt
    by-told (Some f) is ends = λ more are.
        subst (λ (cs : List Command). AreCommands f MOST_REPORTS asked cs)
        (sym (ap (λ (cs : List Command). cs ++ more) added ∙ append_assoc commands (command ∷ []) more))
        (ends (command ∷ more) (subst (λ (ls : List AskedLine). AreCommands f left ls (command ∷ more)) (sym here)
        (command, behind, more, refl, is, are)))

    by-told-2 : (told : Option Files) → IfSome told (λ f. IsCommand f left line.asks command behind)
        → IfSome told (LinesEnd before asked at left) → IfSome told (LinesEnd before asked (at + 1) behind)
    by-told-2 None is ends = tt
    by-told-2 (Some f) is ends = λ now refusal wrong.
        ends now refusal (subst (λ (ls : List AskedLine). IsRefusedAt (IsUnread f (Rose before now)) f left ls refusal) (sym here)
        (inr (command, behind, is, wrong)))

pub lines-all : (files : Option Files) (before : ℕ) (asked : List AskedLine) (at left : ℕ) (commands : List Command)
    → AreCommandsRead files before asked at left commands → length asked ≤ at
    → IfSome files (λ told. AreCommands told MOST_REPORTS asked commands)
lines-all None before asked at left commands done past = tt
lines-all (Some f) before asked at left commands done past =
    subst (λ (cs : List Command). AreCommands f MOST_REPORTS asked cs) (append-nil commands)
    (done.are [] (subst (λ (ls : List AskedLine). AreCommands f left ls []) (sym (drop-end asked at past)) refl))

pub line-refused : (files : Option Files) (before now : ℕ) (asked : List AskedLine) (at left : ℕ) (commands : List Command)
    (line : AskedLine) (refusal : LedgerRefusal) → AreCommandsRead files before asked at left commands
    → drop at asked ≡ line ∷ drop (at + 1) asked
    → IfSome files (λ told. CommandFails (IsUnread told (Rose before now)) told left line refusal)
    → IfSome files (λ told. CommandsFail (IsUnread told (Rose before now)) told MOST_REPORTS asked refusal)
line-refused None before now asked at left commands line refusal done here fails = tt
line-refused (Some f) before now asked at left commands line refusal done here fails = by-fail fails
  where
    by-fail : CommandFails (IsUnread f (Rose before now)) f left line refusal
        → CommandsFail (IsUnread f (Rose before now)) f MOST_REPORTS asked refusal
    by-fail (inl early) = inl early
    by-fail (inr wrong) = inr (done.refused now refusal
        (subst (λ (ls : List AskedLine). IsRefusedAt (IsUnread f (Rose before now)) f left ls refusal) (sym here) (inl wrong)))

-- what is said of the shelf as it is now is said of it as it was
pub as-before : (P : Option Files → ℕ → Type 0) (files now-files : Option Files) (before now-before : ℕ)
    → now-files ≡ files → now-before ≡ before → P now-files now-before → P files before
as-before P files now-files before now-before same alike is =
    subst (λ (told : Option Files). P told before) same (subst (P now-files) alike is)
