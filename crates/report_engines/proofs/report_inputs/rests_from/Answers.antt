use Rattle.fixed_worth.proofs.Common.{◌≡◌, ℕ, ◌+◌, sym, subst, arith, IfSome, MatchResult}
use Rattle.shells.specs.Prices.{priced_count}
use Rattle.blocks_file.specs.Denotes.{narrowed}
use Rattle.mine_inputs.specs.Prelude.{PrecedenceBy, by_text, column_after, rests_said, SlopesRead, ArePairsBy}
use Rattle.mine_inputs.specs.Prelude.{PairsSaidFail}
use Rattle.shell_engines.specs.Devices.{precedence_in}
use Rattle.report_engines.specs.ReportParts.{ReadsRests, RestsReadFail}
use Rattle.report_engines.proofs.Readings.{sized, text_read}
use Rattle.report_engines.proofs.SmallSums.{priced_size}
use Rattle.report_engines.proofs.report_inputs.rests_from.Goals as goal

pub returns-in-Some-clause-read : goal.returns-in-Some-clause-read
returns-in-Some-clause-read g c =
    let read = c.args.read.now in
    let P : ℕ → PrecedenceBy
    → Type 0 = λ n p. MatchResult c.held_from.result
    (ReadsRests p c.args.settings.now read.priced_by read.model n)
    (RestsReadFail p c.args.settings.now read.priced_by read.model n) in
    let o = g.D.Read.remaining c.in-Some.prec in
    subst (λ d. IfSome (precedence_in d g.D.Read.remaining) (P (priced_count read.prices))) (sym c.in-Some.is)
    (text_read o (P (priced_count read.prices))
    (subst (λ n. IfSome o (λ t. P n (by_text t))) c.len-n.ensures.is c.held_from.ensures.read))

pub returns-in-None-clause-read : goal.returns-in-None-clause-read
returns-in-None-clause-read g c =
    let read = c.args.read.now in
    let said = c.args.settings.now in
    let n = priced_count read.prices in
    let P : PrecedenceBy → Type 0 = λ p. MatchResult c.held_by_slopes.result
    (ReadsRests p said read.priced_by read.model n) (RestsReadFail p said read.priced_by read.model n) in
    let F : ℕ → Type 0 = λ i. MatchResult c.held_by_slopes.result
    (λ rests. (rests.blocks ≡ read.model.blocks)
    × SlopesRead said (narrowed (column_after (i + 1) said.region) read.model)
    × ArePairsBy (rests_said said (narrowed (column_after (i + 1) said.region) read.model)) rests.pairs)
    (PairsSaidFail said (narrowed (column_after (i + 1) said.region) read.model)) in
    subst (λ d. IfSome (precedence_in d g.D.Read.remaining) P) (sym c.in-None.is)
    (subst F c.place_beside-others.ensures c.held_by_slopes.ensures.pairs)

pub returns-in-None-clause-size : goal.returns-in-None-clause-size
returns-in-None-clause-size g c =
    let read = c.args.read.now in
    let said = c.args.settings.now in
    let m = narrowed (column_after (c.place_beside-others.result + 1) said.region) read.model in
    sized c.held_by_slopes.result (λ rests. rests.blocks) (λ rests. SlopesRead said m)
    (λ rests. ArePairsBy (rests_said said m) rests.pairs) (PairsSaidFail said m) read.model.blocks
    (priced_count read.prices)
    (priced_size read.priced_by read.model read.prices read.priced) c.held_by_slopes.ensures.pairs

pub overflow_add-others : goal.overflow_add-others
overflow_add-others g c = omega (
  arith,
  c.args.read.now.priced.columns,
  c.columns-columns.ensures.value,
  c.columns-columns.ensures.bound,
  c.place_beside-others.ensures,
)
