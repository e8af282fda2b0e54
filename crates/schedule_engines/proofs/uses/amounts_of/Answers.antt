use Rattle.std.proofs.Common.{◌/◌, ◌%◌, ◌<◌, ◌*◌, slice_index, arith}
use Rattle.schedule_engines.specs.Uses.{IsUse, use_in}
use Rattle.schedule_engines.proofs.UsesRead.{first_wrong, is_use}
use Rattle.schedule_engines.proofs.uses.amounts_of.Goals as goal

pub returns-in-None-clause-are : goal.returns-in-None-clause-are
returns-in-None-clause-are c =
    let m = c.args.model.now in
    let n = c.args.n in
    let i = c.loop-i.i in
    let inside : i < c.args.resources * n = omega arith in (
      c.requires.same,
      first_wrong IsUse (use_in m) c.args.resources n i inside c.in-None.ensures
          (λ k l. is_use (slice_index c.loop-i.uses.items k) (use_in m (k / n) (k % n)) (c.loop-i.invariant.each k l)),
    )
