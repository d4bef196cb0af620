-- Answers to the goals of `say_map` in src/output.rt.
use Rattle.std.proofs.Common.{inl, inr, refl}
use Rattle.place_runs.proofs.PrintedMaps.HeldBytes.{whole_said, front_said}
use Rattle.place_runs.proofs.output.say_map.Goals as goal

pub returns-in-Ok-clause-written : goal.returns-in-Ok-clause-written
returns-in-Ok-clause-written g c said text = record {
  status = inl refl;
  all = λ other.
      whole_said (g.P.Press.made c.args.press.now) (g.P.Press.made c.print_map.new.press) said c.requires.empty
      (c.in-Ok.ensures.ok said text);
  front = λ write. absurd (c.requires.other write);
}

pub returns-clause-written : goal.returns-clause-written
returns-clause-written g c said text = record {
  status = inr refl;
  all = λ other. absurd (other refl);
  front = λ write.
      front_said (g.P.Press.made c.args.press.now) (g.P.Press.made c.print_map.new.press) said c.requires.empty
      (c.in-Err.ensures.err said text);
}
