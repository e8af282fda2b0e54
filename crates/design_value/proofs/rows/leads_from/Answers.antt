use Rattle.fixed_worth.proofs.Common.{◌∙◌, sym, arith}
use Rattle.design_value.proofs.rows.leads_from.Goals as goal

pub bounds-marks-p : goal.bounds-marks-p
bounds-marks-p g c =
    let i = c.len-blocks.ensures.all in
    let t = i.sound c.args.b c.in-Some.p c.loop-way.way c.requires.block
    (record {
      inside = omega (arith, c.loop-way-test.true, c.ways-way-end.ensures);
      there = sym c.way.ensures
          ∙ c.in-Some.is;
    }) in
    omega (arith, (i.known c.args.b c.in-Some.p t).1, c.requires.all)
