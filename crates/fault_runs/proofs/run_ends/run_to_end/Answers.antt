-- Answers to the goals of `run_to_end` in src/run_ends.rt.
use Rattle.std.proofs.Common.{inl, inr, map, string_bytes, codes, [], ◌∷◌, refl}
use Rattle.runs.specs.declared.refusal.Refusal.TheVariants.{Words, NoMemory}
use Rattle.runs.specs.declared.status.Status.TheVariants.{Limit}
use Rattle.runs.specs.Status.{end_of}
use Rattle.runs.specs.Causes.{no_room}
use Rattle.runs.proofs.RefusalLines.{never-write}
use Rattle.runs.proofs.RunEnds.{never-write-end, told, told_always, done_end}
use Rattle.publication.proofs.LimitFronts.{limit_apart}
use Rattle.publication.proofs.RunEnds.{ends_so, handed_out, words_causes, plain_causes, end_understood, end_unread}
use Rattle.fault_runs.specs.declared.refusals.FaultRefusal.TheVariants.{Run, TooManyFaults}
use Rattle.fault_runs.specs.Ends.{Makes}
use Rattle.fault_runs.specs.Refusals.{status_of, line_of, line_file}
use Rattle.fault_runs.proofs.RunEnds.{makes_no_job, makes_unread_told, makes_many, makes_no_room, makes_said, read_told}
use Rattle.fault_runs.proofs.RunEnds.{may_refuse, memory_causes, asks_or_lacks, wanted_causes, json_told}
use Rattle.fault_runs.proofs.TextLimits.{many_apart, text_apart}
use Rattle.fault_runs.proofs.run_ends.run_to_end.Goals as goal

-- ---- words that are not understood
pub returns-in-Err-clause-ends : goal.returns-in-Err-clause-ends
returns-in-Err-clause-ends g c =
    let fault = c.in-Err.fault in
    told_always (g.S.Shelf.files c.args.shelf.now) (λ files.
    ends_so (Makes (map string_bytes c.args.words.now) files _) _ (line_file (Run (Words fault)))
    (status_of (Run (Words fault))) c.refuse.result (g.P.Press.made c.refuse.new.press) (never-write (Words fault))
    (makes_no_job (map string_bytes c.args.words.now) files _ fault c.in-Err.ensures.refused)
    c.refuse.ensures.written c.refuse.ensures.press.rose)

pub returns-in-Err-clause-causes : goal.returns-in-Err-clause-causes
returns-in-Err-clause-causes g c =
    words_causes _ _ _ c.refuse.result _ c.in-Err.fault (λ other. (c.in-Err.fault, c.in-Err.ensures.refused other))
    c.refuse.ensures.written

pub returns-in-Err-clause-handed : goal.returns-in-Err-clause-handed
returns-in-Err-clause-handed g c =
    let fault = c.in-Err.fault in
    record {
      refusal = handed_out _ (line_file (Run (Words fault))) (status_of (Run (Words fault))) c.refuse.result
          (g.P.Press.made c.refuse.new.press) (never-write (Words fault)) c.refuse.ensures.written
          (inl (fault, refl, c.in-Err.ensures.refused));
      no_sound = refl;
      done = tt;
      status_is = tt;
      json = tt;
    }

-- ---- a file that gives no triangulation
pub returns-in-Err-load_read-clause-ends : goal.returns-in-Err-load_read-clause-ends
returns-in-Err-load_read-clause-ends g c =
    let e = c.refuse-in-Err-load_read.ensures in
    let refusal = c.in-Err-load_read.refusal in
    told (g.S.Shelf.files c.args.shelf.now) (λ files makes.
    ends_so (Makes (map string_bytes c.args.words.now) files _) _ (line_file (Run refusal)) (status_of (Run refusal))
    c.refuse-in-Err-load_read.result (g.P.Press.made c.refuse-in-Err-load_read.new.press) (never-write refusal) makes
    e.written e.press.rose)
    (makes_unread_told (map string_bytes c.args.words.now) (g.S.Shelf.files c.args.shelf.now) _ _ c.in-Ok.wanted
    refusal c.in-Ok.ensures.asks (rw c.text.ensures at c.in-Err-load_read.ensures.refused)
    c.in-Err-load_read.ensures.not_checked)

pub returns-in-Err-load_read-clause-causes : goal.returns-in-Err-load_read-clause-causes
returns-in-Err-load_read-clause-causes g c =
    wanted_causes (map string_bytes c.args.words.now) (g.S.Shelf.files c.args.shelf.now) _ c.in-Ok.wanted
    c.in-Err-load_read.refusal c.refuse-in-Err-load_read.result
    (g.P.Press.made c.refuse-in-Err-load_read.new.press) c.in-Ok.ensures.asks
    (rw c.text.ensures at c.in-Err-load_read.ensures.causes) c.refuse-in-Err-load_read.ensures.written

pub returns-in-Err-load_read-clause-handed : goal.returns-in-Err-load_read-clause-handed
returns-in-Err-load_read-clause-handed g c =
    let refusal = c.in-Err-load_read.refusal in
    let files = g.S.Shelf.files c.args.shelf.now in
    record {
      refusal = handed_out _ (line_file (Run refusal)) (status_of (Run refusal)) c.refuse-in-Err-load_read.result
          (g.P.Press.made c.refuse-in-Err-load_read.new.press) (never-write refusal)
          c.refuse-in-Err-load_read.ensures.written
          (inr (
            c.in-Ok.wanted,
            c.in-Ok.ensures.asks,
            record {
              refused = may_refuse files c.in-Ok.wanted _ _ refusal
                  (rw c.text.ensures at c.in-Err-load_read.ensures.refused) c.in-Err-load_read.ensures.not_checked;
              counted = rw c.text.ensures at c.in-Err-load_read.ensures.causes;
            },
          ));
      no_sound = refl;
      done = tt;
      status_is = tt;
      json = tt;
    }

-- ---- faults that are listed
pub say-requires-clause-other : goal.say-requires-clause-other
say-requires-clause-other g c = rw c.end.ensures (never-write-end c.in-Ok-prepare_faults.said.some)

pub returns-in-Ok-prepare_faults-clause-ends : goal.returns-in-Ok-prepare_faults-clause-ends
returns-in-Ok-prepare_faults-clause-ends g c =
    let e = c.say.ensures in
    let said = c.in-Ok-prepare_faults.said in
    told (g.S.Shelf.files c.args.shelf.now) (λ files is.
    ends_so (Makes (map string_bytes c.args.words.now) files _) _ ((codes "-", said.text) ∷ []) (end_of said.some)
    c.say.result (g.P.Press.made c.say.new.press) (never-write-end said.some)
    (makes_said (map string_bytes c.args.words.now) files _ c.in-Ok.wanted c.in-Ok-load_read.tin said.text said.some
    c.in-Ok.ensures.asks is c.in-Ok-prepare_faults.ensures.ok)
    (rw (c.items.ensures, c.end.ensures) at e.written) e.press.rose)
    (read_told (g.S.Shelf.files c.args.shelf.now) c.in-Ok.wanted c.in-Ok-load_read.tin
    (rw c.text.ensures at c.in-Ok-load_read.ensures.ok))

pub returns-in-Ok-prepare_faults-clause-causes : goal.returns-in-Ok-prepare_faults-clause-causes
returns-in-Ok-prepare_faults-clause-causes g c =
    let said = c.in-Ok-prepare_faults.said in
    let written = rw (c.items.ensures, c.end.ensures) at c.say.ensures.written in
    plain_causes _ _ _ c.say.result _ (end_of said.some) (end_understood said.some) (end_unread said.some)
    (asks_or_lacks (map string_bytes c.args.words.now) c.in-Ok.wanted c.in-Ok.ensures.asks) written.status
    (limit_apart said.text (end_of said.some) c.say.result (g.P.Press.made c.say.new.press) _
    (never-write-end said.some)
    (text_apart c.in-Ok.wanted.lines said.text c.in-Ok-prepare_faults.ensures.form) written)

pub returns-in-Ok-prepare_faults-clause-handed : goal.returns-in-Ok-prepare_faults-clause-handed
returns-in-Ok-prepare_faults-clause-handed g c =
    let said = c.in-Ok-prepare_faults.said in
    let written = rw (c.items.ensures, c.end.ensures) at c.say.ensures.written in
    record {
      refusal = tt;
      no_sound = tt;
      done = record {
        wanted = c.in-Ok.wanted;
        asks = c.in-Ok.ensures.asks;
        tin = c.in-Ok-load_read.tin;
        read = rw c.text.ensures at c.in-Ok-load_read.ensures.ok;
        said = said.text;
        some = said.some;
        is_said = c.in-Ok-prepare_faults.ensures.ok;
        is_sound = c.sound_of.ensures;
        written = written;
      };
      status_is = done_end said.some c.say.result written.status;
      json = λ other. json_told c.in-Ok.wanted.lines said.text (g.P.Press.made c.say.new.press)
          c.in-Ok-prepare_faults.ensures.form (written.all other);
    }

-- ---- too many faults
pub returns-in-Err-TooMany-clause-ends : goal.returns-in-Err-TooMany-clause-ends
returns-in-Err-TooMany-clause-ends g c =
    let e = c.refuse-in-Err-TooMany.ensures in
    told (g.S.Shelf.files c.args.shelf.now) (λ files is.
    ends_so (Makes (map string_bytes c.args.words.now) files _) _ (line_file TooManyFaults) Limit
    c.refuse-in-Err-TooMany.result (g.P.Press.made c.refuse-in-Err-TooMany.new.press) (λ no. cc)
    (makes_many (map string_bytes c.args.words.now) files _ c.in-Ok.wanted c.in-Ok.ensures.asks (record {
      tin = c.in-Ok-load_read.tin;
      read = is;
      more = c.in-Err-TooMany.ensures.too_many c.in-Err-TooMany.field-0-is;
    }))
    e.written e.press.rose)
    (read_told (g.S.Shelf.files c.args.shelf.now) c.in-Ok.wanted c.in-Ok-load_read.tin
    (rw c.text.ensures at c.in-Ok-load_read.ensures.ok))

pub returns-in-Err-TooMany-clause-causes : goal.returns-in-Err-TooMany-clause-causes
returns-in-Err-TooMany-clause-causes g c =
    let written = c.refuse-in-Err-TooMany.ensures.written in
    plain_causes _ _ _ c.refuse-in-Err-TooMany.result _ Limit (λ no. cc) (λ no. cc)
    (asks_or_lacks (map string_bytes c.args.words.now) c.in-Ok.wanted c.in-Ok.ensures.asks) written.status
    (limit_apart (line_of TooManyFaults) Limit c.refuse-in-Err-TooMany.result
    (g.P.Press.made c.refuse-in-Err-TooMany.new.press) _ (λ no. cc) many_apart written)

pub returns-in-Err-TooMany-clause-handed : goal.returns-in-Err-TooMany-clause-handed
returns-in-Err-TooMany-clause-handed g c =
    record {
      refusal = handed_out _ (line_file TooManyFaults) Limit c.refuse-in-Err-TooMany.result
          (g.P.Press.made c.refuse-in-Err-TooMany.new.press) (λ no. cc) c.refuse-in-Err-TooMany.ensures.written
          (inr (
            c.in-Ok.wanted,
            c.in-Ok.ensures.asks,
            record {
              refused = record {
                tin = c.in-Ok-load_read.tin;
                read = rw c.text.ensures at c.in-Ok-load_read.ensures.ok;
                more = c.in-Err-TooMany.ensures.too_many c.in-Err-TooMany.field-0-is;
              };
              counted = tt;
            },
          ));
      no_sound = refl;
      done = tt;
      status_is = tt;
      json = tt;
    }

-- ---- memory ran out
pub returns-clause-ends : goal.returns-clause-ends
returns-clause-ends g c =
    let e = c.refuse-in-Err-NoMemory.ensures in
    told_always (g.S.Shelf.files c.args.shelf.now) (λ files.
    ends_so (Makes (map string_bytes c.args.words.now) files _) _ (line_file (Run NoMemory)) (status_of (Run NoMemory))
    c.refuse-in-Err-NoMemory.result (g.P.Press.made c.refuse-in-Err-NoMemory.new.press) (never-write NoMemory)
    (makes_no_room (map string_bytes c.args.words.now) files _) e.written e.press.rose)

pub returns-clause-causes : goal.returns-clause-causes
returns-clause-causes g c =
    wanted_causes (map string_bytes c.args.words.now) (g.S.Shelf.files c.args.shelf.now) _ c.in-Ok.wanted NoMemory
    c.refuse-in-Err-NoMemory.result (g.P.Press.made c.refuse-in-Err-NoMemory.new.press) c.in-Ok.ensures.asks
    (memory_causes _ _) c.refuse-in-Err-NoMemory.ensures.written

pub returns-clause-handed : goal.returns-clause-handed
returns-clause-handed g c =
    record {
      refusal = handed_out _ (line_file (Run NoMemory)) (status_of (Run NoMemory)) c.refuse-in-Err-NoMemory.result
          (g.P.Press.made c.refuse-in-Err-NoMemory.new.press) (never-write NoMemory)
          c.refuse-in-Err-NoMemory.ensures.written
          (inr (
            c.in-Ok.wanted,
            c.in-Ok.ensures.asks,
            record { refused = no_room refl; counted = memory_causes _ _ },
          ));
      no_sound = refl;
      done = tt;
      status_is = tt;
      json = tt;
    }
