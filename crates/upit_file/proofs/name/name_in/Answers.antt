use Rattle.std.proofs.Common.{◌+◌, length, arith, ap, ◌∙◌}
use Rattle.fixed_worth.specs.Text.{WordRun}
use Rattle.upit_file.specs.Header.{last_end}
use Rattle.upit_file.proofs.Names.{name_bounds}
use Rattle.upit_file.proofs.name.name_in.Goals as goal

pub split_at-requires : goal.split_at-requires
split_at-requires c =
    let r : WordRun = record { text = c.in-Some-next.first.text.now; place = c.in-Some-next.first.place } in
    (name_bounds _ _ _ _ _ _ _ _ c.new-fields.ensures.fields c.in-Some.ensures.steps c.in-Some-next.ensures.steps
    c.in-None.ensures.steps.0
    (c.loop-field.invariant ∙ ap (last_end (r.place + length r.text))
    c.into_iter-field-iterator.ensures.into_iter_gives)).1

pub split_at-requires-2 : goal.split_at-requires-2
split_at-requires-2 c =
    let r : WordRun = record { text = c.in-Some-next.first.text.now; place = c.in-Some-next.first.place } in
    omega (
      arith,
      (name_bounds _ _ _ _ _ _ _ _ c.new-fields.ensures.fields c.in-Some.ensures.steps
          c.in-Some-next.ensures.steps c.in-None.ensures.steps.0
          (c.loop-field.invariant ∙ ap (last_end (r.place + length r.text))
          c.into_iter-field-iterator.ensures.into_iter_gives)).0,
      c.split_at.ensures.front_len,
    )
