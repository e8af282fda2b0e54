use Rattle.std.proofs.Common.{◌≡◌, ◌++◌, ◌∷◌, [], ◌∙◌, ℕ, ℤ, map, refl, sym, arith, rules, to_z, of_z}
use Rattle.std.specs.Int.{w128}
use Rattle.std.specs.List.{range_with_len}
use Rattle.std.proofs.lemmas.List.FromFn.{map-range_with_len_more}
use Rattle.report_engines.specs.ReportParts.{tonnes_going}
use Rattle.report_engines.proofs.way_rows.tonnes_that_go.Goals as goal

pub loop-b-preserved : goal.loop-b-preserved
loop-b-preserved c =
    let f : ℕ → ℤ = tonnes_going c.args.model.now c.args.column c.args.ways.now c.args.way in
    let b = c.loop-b.b in
    let t = to_z w128 (of_z w128 c.tonnes_of.result) in
    let is : t ≡ f b = search (rules, c.tonnes_of.ensures) in
    let one : c.loop-b.tonnes.items ++ t ∷ [] ≡ map f (range_with_len 0 b) ++ f b ∷ [] = rw (c.loop-b.invariant, is)
    refl in
    c.in_ok-push.ensures.items ∙ one ∙ sym (map-range_with_len_more f 0 b b (omega arith))
