-- Answers to the goals of `run_to_end` in src/run_ends.rt.
use Rattle.std.proofs.Common.{[], inl, inr, map, string_bytes, codes, ◌∷◌, refl}
use Rattle.runs.specs.declared.refusal.Refusal.TheVariants.{Words}
use Rattle.runs.specs.Status.{end_of}
use Rattle.runs.specs.Refusals.{status_of, line_file}
use Rattle.runs.proofs.RefusalLines.{never-write}
use Rattle.runs.proofs.RunEnds.{never-write-end, told, told_always, done_end}
use Rattle.publication.proofs.LimitFronts.{limit_apart}
use Rattle.publication.proofs.RunEnds.{ends_so, words_causes, plain_causes, end_understood, end_unread}
use Rattle.place_runs.specs.Ends.{Makes}
use Rattle.place_runs.proofs.Outcomes.RunEnds.{makes_refusal, makes_places, makes_no_job, asks_or_lacks, request_causes}
use Rattle.place_runs.proofs.Outcomes.RunEnds.{json_told, refusal_handed, refused_told, done_told}
use Rattle.place_runs.proofs.PrintedMaps.TextLimits.{text_apart}
use Rattle.place_runs.proofs.run_ends.run_to_end.Goals as goal

-- ---- words that are not understood
pub returns-in-Err-clause-ends : goal.returns-in-Err-clause-ends
returns-in-Err-clause-ends g c =
    let e = c.refused_end.ensures in
    let fault = c.in-Err.fault in
    told_always (g.S.Shelf.files c.args.shelf.now) (λ files.
    ends_so (Makes (map string_bytes c.args.words.now) files _) _ (line_file (Words fault)) (status_of (Words fault))
    c.refused_end.result.status (g.P.Press.made c.refused_end.new.press) (never-write (Words fault))
    (makes_no_job (map string_bytes c.args.words.now) files _ fault c.in-Err.ensures.refused) e.written e.press.rose)

pub returns-in-Err-clause-causes : goal.returns-in-Err-clause-causes
returns-in-Err-clause-causes g c =
    words_causes _ _ _ c.refused_end.result.status _ c.in-Err.fault
    (λ other. (c.in-Err.fault, c.in-Err.ensures.refused other)) c.refused_end.ensures.written

pub returns-in-Err-clause-handed : goal.returns-in-Err-clause-handed
returns-in-Err-clause-handed g c =
    let e = c.refused_end.ensures in
    refusal_handed (map string_bytes c.args.words.now) (g.S.Shelf.files c.args.shelf.now) _ (Words c.in-Err.fault)
    c.refused_end.result.status (g.P.Press.made c.refused_end.new.press) _ _ e.written e.refusal e.rows
    (inl (c.in-Err.fault, refl, c.in-Err.ensures.refused))

-- ---- changes that are printed
pub say_map-status-requires-clause-other : goal.say_map-status-requires-clause-other
say_map-status-requires-clause-other g c = rw c.end.ensures (never-write-end c.in-Ok-prepare_places.prepared.changed)

pub say_map-status-requires-clause-room : goal.say_map-status-requires-clause-room
say_map-status-requires-clause-room g c = rw c.items-names.ensures c.in-Ok-prepare_places.ensures.room

pub returns-in-Ok-prepare_places-clause-ends : goal.returns-in-Ok-prepare_places-clause-ends
returns-in-Ok-prepare_places-clause-ends g c =
    let e = c.say_map-status.ensures in
    let changed = c.in-Ok-prepare_places.prepared.changed in
    let (said, text) = c.in-Ok-prepare_places.ensures.some in
    let request = c.in-Ok.request in
    told (g.S.Shelf.files c.args.shelf.now) (λ files is.
    ends_so (Makes (map string_bytes c.args.words.now) files _) _ ((codes "-", said) ∷ []) (end_of changed)
    c.say_map-status.result (g.P.Press.made c.say_map-status.new.press) (never-write-end changed)
    (makes_places (map string_bytes c.args.words.now) files _ request (end_of changed)
    ((codes "-", said) ∷ []) c.in-Ok.ensures.asks is)
    ((rw (c.items-names.ensures, c.end.ensures) at e.written) said text) e.press.rose)
    (done_told (g.S.Shelf.files c.args.shelf.now) request.view request.migration (end_of changed) _
    (c.in-Ok-prepare_places.ensures.ok said text))

pub returns-in-Ok-prepare_places-clause-causes : goal.returns-in-Ok-prepare_places-clause-causes
returns-in-Ok-prepare_places-clause-causes g c =
    let changed = c.in-Ok-prepare_places.prepared.changed in
    let (said, text) = c.in-Ok-prepare_places.ensures.some in
    let written = (rw (c.items-names.ensures, c.end.ensures) at c.say_map-status.ensures.written) said text in
    let request = c.in-Ok.request in
    plain_causes _ _ _ c.say_map-status.result _ (end_of changed) (end_understood changed) (end_unread changed)
    (asks_or_lacks (map string_bytes c.args.words.now) request c.in-Ok.ensures.asks) written.status
    (limit_apart said (end_of changed) c.say_map-status.result (g.P.Press.made c.say_map-status.new.press) _
    (never-write-end changed)
    (text_apart request.view request.migration.layers said (c.in-Ok-prepare_places.ensures.form said text)) written)

pub returns-in-Ok-prepare_places-clause-handed : goal.returns-in-Ok-prepare_places-clause-handed
returns-in-Ok-prepare_places-clause-handed g c =
    let changed = c.in-Ok-prepare_places.prepared.changed in
    let (said, text) = c.in-Ok-prepare_places.ensures.some in
    let written = (rw (c.items-names.ensures, c.end.ensures) at c.say_map-status.ensures.written) said text in
    let request = c.in-Ok.request in
    let made = g.P.Press.made c.say_map-status.new.press in
    record {
      refusal = tt;
      done = record {
        request = request;
        asks = c.in-Ok.ensures.asks;
        said = said;
        wanted = end_of changed;
        places = c.in-Ok-prepare_places.ensures.ok said text;
        written = written;
      };
      status_is = done_end changed c.say_map-status.result written.status;
      json = λ other. json_told request.view request.migration.layers said made
          (c.in-Ok-prepare_places.ensures.form said text) (written.all other);
      rows_are = (request, c.in-Ok.ensures.asks, c.in-Ok-prepare_places.ensures.rows);
      no_rows = tt;
    }

-- ---- a migration that is refused
pub returns-clause-ends : goal.returns-clause-ends
returns-clause-ends g c =
    let e = c.refused_end-in-Err-prepare_places.ensures in
    let refusal = c.in-Err-prepare_places.refusal in
    told (g.S.Shelf.files c.args.shelf.now) (λ files is.
    ends_so (Makes (map string_bytes c.args.words.now) files _) _ (line_file refusal) (status_of refusal)
    c.refused_end-in-Err-prepare_places.result.status (g.P.Press.made c.refused_end-in-Err-prepare_places.new.press)
    (never-write refusal)
    (makes_refusal (map string_bytes c.args.words.now) files _ c.in-Ok.request refusal c.in-Ok.ensures.asks is)
    e.written e.press.rose)
    (refused_told (g.S.Shelf.files c.args.shelf.now) c.in-Ok.request.migration _ refusal
    c.in-Err-prepare_places.ensures.refused)

pub returns-clause-causes : goal.returns-clause-causes
returns-clause-causes g c =
    request_causes (map string_bytes c.args.words.now) (g.S.Shelf.files c.args.shelf.now) _ c.in-Ok.request
    c.in-Err-prepare_places.refusal c.refused_end-in-Err-prepare_places.result.status
    (g.P.Press.made c.refused_end-in-Err-prepare_places.new.press) c.in-Ok.ensures.asks
    c.in-Err-prepare_places.ensures.causes c.refused_end-in-Err-prepare_places.ensures.written

pub returns-clause-handed : goal.returns-clause-handed
returns-clause-handed g c =
    let e = c.refused_end-in-Err-prepare_places.ensures in
    refusal_handed (map string_bytes c.args.words.now) (g.S.Shelf.files c.args.shelf.now) _
    c.in-Err-prepare_places.refusal c.refused_end-in-Err-prepare_places.result.status
    (g.P.Press.made c.refused_end-in-Err-prepare_places.new.press) _ _ e.written e.refusal e.rows
    (inr (
      c.in-Ok.request,
      c.in-Ok.ensures.asks,
      record {
        refused = c.in-Err-prepare_places.ensures.refused;
        counted = c.in-Err-prepare_places.ensures.causes;
      },
    ))
