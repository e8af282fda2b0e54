use Rattle.std.proofs.Common.{◌∙◌, ap, sym, arith}
use Rattle.word_steps.specs.Prelude.{IsSole}
use Rattle.word_runner.specs.Prelude.{Own, WordsView}
use Rattle.word_runner.proofs.Begins.{splits}
use Rattle.word_runner.proofs.opening.split.Goals as goal

pub split_seat-other-requires : goal.split_seat-other-requires
split_seat-other-requires c =
    let m = c.seat.inside in
    let f = c.requires in
    let h = f.serving in
    let same = c.seat.view_is in
    let of = c.words.view_is in
    let w = c.words.invariant.words in
    let sole : IsSole m.place.me.0 = record {
      none = ap (λ (z : Own). z.place.me.0.made) same ∙ f.none;
      live = ap (λ (z : Own). z.place.me.0.live) same ∙ h.worker.live;
      number = ap (λ (z : Own). z.place.me.0.number) same ∙ h.worker.number_is;
      workers = ap (λ (z : Own). z.place.me.0.workers) same ∙ h.worker.workers_are;
      free = c.seat.invariant.operation_is ∙ ap (λ (z : Own). z.operation) same ∙ f.free;
    } in (
      ap (λ (z : Own). z.place.table_id) same ∙ h.seat.table
          ∙ sym (ap (λ (z : WordsView). z.shared.table_id) of),
      omega (arith, w),
      splits c.words.inside.table.shared.key
          m.place.id m.place.me.0 sole,
    )
