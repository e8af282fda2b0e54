use Rattle.std.proofs.Common.{rules, ◌≡◌, ◌∙◌, true, ap, sym, arith}
use Rattle.machine_law.specs.Operations.{is_idle}
use Rattle.word_steps.specs.Prelude.{IsHalf}
use Rattle.word_runner.specs.Prelude.{Own, WordsView}
use Rattle.word_runner.proofs.FreeSeats.{free_is}
use Rattle.word_runner.proofs.Begins.{joins}
use Rattle.word_runner.proofs.settling.join.Goals as goal

pub join_seat-requires : goal.join_seat-requires
join_seat-requires c =
    let l = c.left.inside in
    let r = c.right.inside in
    let hl = c.requires.0 in
    let hr = c.requires.1 in
    let w = c.words.invariant.words in
    let of = sym (ap (λ (z : WordsView). z.shared.table_id) c.words.view_is) in
    let free_left : is_idle c.args.left.operation ≡ true = search rules in
    let free_right : is_idle c.args.right.operation ≡ true = search rules in
    let left : IsHalf 0 l.place.me.0 = record {
      live = ap (λ (z : Own). z.place.me.0.live) c.left.view_is ∙ hl.2.live;
      number = ap (λ (z : Own). z.place.me.0.number) c.left.view_is ∙ hl.2.number_is;
      workers = ap (λ (z : Own). z.place.me.0.workers) c.left.view_is ∙ hl.2.workers_are;
      free = c.left.invariant.operation_is ∙ ap (λ (z : Own). z.operation) c.left.view_is ∙ free_is _ free_left;
    } in
    let right : IsHalf 1 r.place.me.0 = record {
      live = ap (λ (z : Own). z.place.me.0.live) c.right.view_is ∙ hr.2.live;
      number = ap (λ (z : Own). z.place.me.0.number) c.right.view_is ∙ hr.2.number_is;
      workers = ap (λ (z : Own). z.place.me.0.workers) c.right.view_is ∙ hr.2.workers_are;
      free = c.right.invariant.operation_is ∙ ap (λ (z : Own). z.operation) c.right.view_is ∙ free_is _ free_right;
    } in (
      ap (λ (z : Own). z.place.table_id) c.left.view_is ∙ hl.0.table ∙ of,
      ap (λ (z : Own). z.place.table_id) c.right.view_is ∙ hr.0.table ∙ of,
      c.right.invariant.free,
      omega (arith, w),
      joins c.words.inside.table.shared.key l.place.id r.place.id l.place.me.0 r.place.me.0 left right,
    )
