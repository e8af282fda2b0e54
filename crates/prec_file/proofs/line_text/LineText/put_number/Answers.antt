use Rattle.fixed_worth.proofs.Common.{List, ℕ, ◌++◌, ap, ◌∙◌, arith, decimal}
use Rattle.prec_file.proofs.LineDigits.{put_begins, put_before, all_put, few_more}
use Rattle.prec_file.proofs.line_text.LineText.put_number.Goals as goal

pub loop-left-init : goal.loop-left-init
loop-left-init c = put_begins c.args.n c.self.inside.start c.args.self.now c.self.inside.bytes
    (omega arith) c.self.told c.self.invariant c.self.view_is c.requires

pub loop-left-preserved : goal.loop-left-preserved
loop-left-preserved c = put_before _ _ _ _ _ c.loop-left.invariant c.loop-left-test.true

pub returns-clause-digits : goal.returns-clause-digits
returns-clause-digits c = all_put _ _ _ _ _ c.loop-left.invariant c.loop-left-test.false
    ∙ ap (λ (t : List ℕ). decimal c.args.n ++ t) c.self.view_is

pub returns-clause-few : goal.returns-clause-few
returns-clause-few c =
    few_more c.args.n c.args.self.now _ (omega arith) (all_put _ _ _ _ _ c.loop-left.invariant c.loop-left-test.false
    ∙ ap (λ (t : List ℕ). decimal c.args.n ++ t) c.self.view_is)
