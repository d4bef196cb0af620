-- Answers to the goals of `places_of_run` in src/places.rt.
use Rattle.std.proofs.Common.{◌<◌, ◌^◌, length, vec_capacity, rules}
use Rattle.place_runs.specs.InsideMaps.{HasSides}
use Rattle.place_runs.proofs.PrintedMaps.ChangePieces.{all_near}
use Rattle.place_runs.proofs.PrintedMaps.MapParts.{has_text}
use Rattle.place_runs.proofs.PrintedMaps.MapTexts.{sides_of_map, json_of_map}
use Rattle.place_runs.proofs.places.places_of_run.Goals as goal

pub room_for-requires : goal.room_for-requires
room_for-requires c =
    sides_of_map _ c.args.tin.now c.args.placed.run _ _ _ c.in_ok-drawn.ensures.ok
    (all_near c.args.tin.now c.args.placed.run.pieces.items c.requires.comparable) c.requires.one

pub returns-clause-some : goal.returns-clause-some
returns-clause-some c =
    has_text c.args.names.now _ (vec_capacity c.in_ok-room.room) c.in_ok-room.ensures.room

pub returns-clause-form : goal.returns-clause-form
returns-clause-form c said text =
    let on = c.in_ok-drawn.drawn.map in
    let is = c.in_ok-drawn.ensures.ok in
    let sides : HasSides on = sides_of_map _ c.args.tin.now c.args.placed.run _ _ _ is
    (all_near c.args.tin.now c.args.placed.run.pieces.items c.requires.comparable) c.requires.one in
    let few : length on.changes.items < 2 ^ 64 = search rules in
    json_of_map _ c.args.tin.now c.args.placed.run _ on _ is c.args.names.now (vec_capacity c.in_ok-room.room)
    sides.one c.in_ok-room.ensures.room few c.requires.copied c.requires.printable
    (rw (c.deref.ensures.value, c.deref-2.ensures.value) at c.changes_are_json.ensures) said text

pub returns-clause-sides : goal.returns-clause-sides
returns-clause-sides c =
    sides_of_map _ c.args.tin.now c.args.placed.run _ _ _ c.in_ok-drawn.ensures.ok
    (all_near c.args.tin.now c.args.placed.run.pieces.items c.requires.comparable) c.requires.one
