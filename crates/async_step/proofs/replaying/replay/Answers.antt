use Rattle.fixed_worth.proofs.Common.{List, get_or, refl, sym, subst, take_more, slice_get-get_or}
use Rattle.machine_law.specs.declared.events.Event.{Event}
use Rattle.machine_law.specs.declared.events.Kind.TheVariants.{ReadExcess}
use Rattle.machine_law.specs.Prelude.{opening, Run}
use Rattle.machine_law.proofs.Runs.{run_more}
use Rattle.async_step.specs.Views.{state_of}
use Rattle.async_step.proofs.replaying.replay.Goals as goal

pub returns-in-Err : goal.returns-in-Err
returns-in-Err g c =
    let d : Event = record { block = 0; kind = ReadExcess } in
    record {
      before = c.loop-i.i;
      counted = refl;
      state = state_of c.loop-i.state;
      run = c.loop-i.invariant.run;
      event = get_or c.args.events.now c.loop-i.i d;
      present = slice_get-get_or c.args.events.now c.loop-i.i d c.loop-i-test.true;
      stands = c.in-Err.ensures.made.stands;
    }

pub loop-i-preserved : goal.loop-i-preserved
loop-i-preserved g c =
    let d : Event = record { block = 0; kind = ReadExcess } in
    record {
      run = subst (λ (xs : List Event). Run c.args.net.now (opening c.args.net.now) xs (state_of c.step.new.self))
          (sym (take_more c.args.events.now c.loop-i.i d c.loop-i-test.true))
          (run_more _ _ _ _ _ _ c.loop-i.invariant.run c.in-Ok-step.ensures.made.step);
      over = c.in-Ok-step.ensures.state;
    }
