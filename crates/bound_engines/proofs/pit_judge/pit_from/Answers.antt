use Rattle.std.proofs.Common.{◌≡◌, ◌∙◌, ℕ, ap, sym, subst}
use Rattle.prec_file.specs.Rests.{RestsView}
use Rattle.check_engines.specs.Prelude.{IsHeader, StandsAfter}
use Rattle.mine_inputs.specs.Prelude.{AreRead, IsMineRead, MineTexts, nanos_at}
use Rattle.mine_inputs.proofs.MineDevices.{under}
use Rattle.mine_inputs.proofs.MinesRead.{read_as}
use Rattle.bound_engines.specs.Prelude.{IsPitTold}
use Rattle.bound_engines.proofs.pit_judge.pit_from.Goals as goal

pub returns-in-Ok-check_pit-clause-told : goal.returns-in-Ok-check_pit-clause-told
returns-in-Ok-check_pit-clause-told g c =
    let w = c.args.mine.worths in
    let rests = c.args.mine.predecessors in
    let h = c.in-Ok.header in
    let remaining = g.C.Read.remaining in
    let held = c.of_list-held.result in
    let same : held ≡ rests = c.of_list-held.ensures in
    let size : rests.blocks ≡ c.len.result = sym (c.len.ensures.is ∙ ap (λ (r : RestsView). r.blocks) same) in
    under (remaining c.args.stream.now.lines.from)
    (λ text. (texts : MineTexts) (r : RestsView) → r.blocks ≡ c.len.result → IsMineRead texts h.factor w r
    → IsHeader texts text c.len.result h.group × StandsAfter remaining text c.header_from.new.stream.lines)
    (λ text. (texts : MineTexts) → IsMineRead texts h.factor w rests
    → IsPitTold texts rests.blocks text c.in-Ok-check_pit.told)
    c.in-Ok.ensures.read
    (λ text reads texts read.
    let k = reads texts rests size read in
    let R : RestsView → Type 0 = λ r. AreRead texts c.as_slice.result.now r in
    let are : AreRead texts c.as_slice.result.now held = subst R (sym same)
    (read_as texts (nanos_at w h.factor) c.as_slice.result.now rests
    (c.as_slice.ensures.value ∙ c.in-Ok-nanos_at.ensures) read.0) in
    let N : ℕ → Type 0 = λ n. IsHeader texts text n h.group in
    let T : RestsView → Type 0 = λ r. IsPitTold texts r.blocks text c.in-Ok-check_pit.told in
    subst T same (c.in-Ok-check_pit.ensures.told texts text are (subst N c.len.ensures.is k.0) k.1))
