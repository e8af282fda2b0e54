use Rattle.fixed_worth.proofs.Common.{rules, ◌≡◌, ◌∙◌, ◌+◌, ◌*◌, ℕ, List, [], ◌∷◌, ◌++◌, length, slice_index, sym, ap}
use Rattle.fixed_worth.proofs.Common.{arith}
use Rattle.std.proofs.lemmas.List.FromFn.{map-range_with_len_more}
use Rattle.schedule_engines.proofs.WayUsesRead.{columns_count}
use Rattle.schedule_engines.proofs.way_uses.columns_by.Goals as goal

pub loop-r-preserved : goal.loop-r-preserved
loop-r-preserved c =
    let f : ℕ → ℕ = λ k. slice_index c.args.resources.now (k * c.args.width + c.args.way) in
    let r = c.loop-r.r in
    let pushed : c.push_column.new.columns.items ≡ c.loop-r.columns.items ++ f r ∷ [] = search rules in
    pushed ∙ ap (λ (xs : List ℕ). xs ++ f r ∷ []) c.loop-r.invariant
    ∙ sym (map-range_with_len_more f 0 r r (omega arith))

pub returns-clause-size : goal.returns-clause-size
returns-clause-size c = ap length c.loop-r.invariant
    ∙ columns_count c.args.resources.now c.args.width c.loop-r.r c.args.way ∙ omega arith
