use Rattle.fixed_worth.proofs.Common.{rules, ◌≡◌, ◌∙◌, ℕ, List, ◌++◌, length, ap, arith, length-append}
use Rattle.std.proofs.lemmas.Result.{err_from_is_err_and}
use Rattle.periods_file.specs.Periods.{periods_view}
use Rattle.schedule_engines.proofs.WayUsesRead.{no_memory, part_size, parts_with}
use Rattle.schedule_engines.proofs.way_uses.way_uses_in.Goals as goal

pub returns-in_err-more-clause-read : goal.returns-in_err-more-clause-read
returns-in_err-more-clause-read c =
    let p = err_from_is_err_and c.from_residual-in_err-more.result c.from_residual-in_err-more.ensures.1 in
    rw (p.1, p.2) (
      c.loop-way.way,
      λ k l. (let x = c.loop-way.invariant.each k l in (x.part, x.lags, x.read)),
      c.in_err-more.ensures.read,
    )

pub returns-in_err-append-clause-read : goal.returns-in_err-append-clause-read
returns-in_err-append-clause-read c =
    let p = err_from_is_err_and c.from_residual-in_err-append.result c.from_residual-in_err-append.ensures.1 in
    rw (p.1, p.2) (no_memory c.args.n c.args.ways (periods_view c.args.periods.now) c.args.text.now)

pub loop-way-preserved : goal.loop-way-preserved
loop-way-preserved c =
    let said = periods_view c.args.periods.now in
    let way = c.loop-way.way in
    let xs = c.loop-way.amounts.items in
    let ys = c.in_ok-more.more.amounts.items in
    let all = c.append.new.all.items in
    let read = c.in_ok-more.ensures.read in
    let shown : c.as_slice-in-loop-way.result.now ≡ ys = search rules in
    let pushed : all ≡ xs ++ ys = c.in_ok-append.ensures ∙ ap (λ (zs : List ℕ). xs ++ zs) shown in
    let part = part_size c.args.n c.args.ways said c.args.text.now way ys c.in_ok-more.more.waits read in
    record {
      some = omega (arith, c.loop-way.invariant.some);
      size = omega (arith, ap length pushed, length-append xs ys, c.loop-way.invariant.size, part);
      each = parts_with c.args.n c.args.ways said c.args.text.now xs ys all c.in_ok-more.more.waits way
          c.loop-way.invariant.size pushed c.loop-way.invariant.each read;
    }

pub returns-clause-read : goal.returns-clause-read
returns-clause-read c = record {
  parts = c.parts_of-way-end.result;
  some = c.parts_of-way-end.ensures.some;
  all = λ r l e. search rules;
  each = λ k l. c.loop-way.invariant.each k (omega (arith, l));
  first = c.in_ok-amounts.field-0.amounts.items;
  waiting = c.in_ok-amounts.ensures.read;
}
