use Rattle.fixed_worth.proofs.Common.{◌≡◌, ◌<◌, length, drop, sym, subst, rules, arith, vec_capacity, take-append_seam}
use Rattle.closure_net.specs.Prelude.{holds_of, IsBest}
use Rattle.shells.specs.Series.{SeriesView, mine_at, IsAboveAll, IsPushed, IsHeldSeries}
use Rattle.shells.proofs.Pushes.{push_keeps}
use Rattle.shells.proofs.shell_series.Series.put.Goals as goal

pub invariant_of-self : goal.invariant_of-self
invariant_of-self c =
    let new = c.give_shells.new.shells in
    let size : c.self.inside.shells.len ≡ length new = search
    (rules, c.give_shells.ensures.size, c.as_mut_slice.ensures.value, c.as_mut_slice.ensures.len) in
    let old : SeriesView = record {
      pairs = c.self.inside.rests.pairs;
      prices = c.self.inside.prices;
      factors = c.self.inside.factors.items;
      shells = c.self.inside.shells.items;
    } in
    let next : SeriesView = record {
      pairs = c.self.inside.rests.pairs;
      prices = c.self.inside.prices;
      factors = c.push_reserved.new.self.items;
      shells = new;
    } in
    let above : IsAboveAll old.factors c.args.k = subst (λ (v : SeriesView). IsAboveAll v.factors c.args.k)
    (sym c.self.view_is) c.requires.above in
    let best : IsBest (mine_at old.pairs old.prices c.args.k) (holds_of c.args.pit.now) = subst
    (λ (v : SeriesView). IsBest (mine_at v.pairs v.prices c.args.k) (holds_of c.args.pit.now))
    (sym c.self.view_is) c.requires.best in
    let room : length old.factors < 64 = subst (λ (v : SeriesView). length v.factors < 64) (sym c.self.view_is)
    c.requires.room in
    let pushed : IsPushed old next c.args.k (holds_of c.args.pit.now) = record {
      pairs = search rules;
      prices = search rules;
      factors = c.push_reserved.ensures.items;
      size = search (rules, c.give_shells.ensures.size, c.as_mut_slice.ensures.value);
      shells = search (rules, c.give_shells.ensures.each, c.as_mut_slice.ensures.value);
    } in
    let held : IsHeldSeries next (vec_capacity c.push_reserved.new.self) c.self.inside.rests.blocks = record {
      series = push_keeps old next c.args.k (holds_of c.args.pit.now) c.self.invariant.series above room best pushed;
      reserved = omega (arith, c.self.invariant.reserved, c.push_reserved.ensures.capacity);
      sized = c.self.invariant.sized;
    } in
    rw (size, take-append_seam new (drop (length new) c.self.inside.shells.items)) held
