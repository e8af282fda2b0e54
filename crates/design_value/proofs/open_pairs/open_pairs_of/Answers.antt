use Rattle.fixed_worth.proofs.Common.{◌∙◌, ℕ, List, IfOk, length, ap, subst, arith}
use Rattle.prec_file.specs.Rests.{RestsView, has_pair}
use Rattle.places.specs.Prelude.{lent}
use Rattle.design_value.specs.Prelude.{AreOpen, marked_in}
use Rattle.design_value.proofs.BlockPairs.{same_list}
use Rattle.design_value.proofs.open_pairs.open_pairs_of.Goals as goal

pub open_among-requires-clause-few : goal.open_among-requires-clause-few
open_among-requires-clause-few c =
    let v = lent c.as_ref-held.result in
    let e = same_list v c.args.predecessors.now c.len-ways.ensures.all c.len-pairs.ensures.all
    (λ b p. c.blocks-blocks.ensures.same b p
    ∙ ap (λ (r : RestsView). has_pair r.pairs b p) c.as_ref-held.ensures) in
    omega (arith, ap (λ (ps : List (ℕ × ℕ)). length ps) e, c.len-pairs.ensures.all.few)

pub returns : goal.returns
returns c =
    let v = lent c.as_ref-held.result in
    let e = same_list v c.args.predecessors.now c.len-ways.ensures.all c.len-pairs.ensures.all
    (λ b p. c.blocks-blocks.ensures.same b p
    ∙ ap (λ (r : RestsView). has_pair r.pairs b p) c.as_ref-held.ensures) in
    subst (λ (ps : List (ℕ × ℕ)). IfOk c.open_among.result
    (λ leading. AreOpen (marked_in c.args.marks.now) ps leading.count leading.first.items)) e c.open_among.ensures
