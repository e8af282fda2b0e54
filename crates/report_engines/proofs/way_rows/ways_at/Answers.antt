use Rattle.std.proofs.Common.{◌≡◌, ◌++◌, ◌∷◌, [], ◌∙◌, ℕ, Option, map, refl, sym, arith}
use Rattle.std.specs.List.{range_with_len}
use Rattle.std.proofs.lemmas.List.FromFn.{map-range_with_len_more}
use Rattle.shells.specs.Prices.{way_at}
use Rattle.report_engines.proofs.way_rows.ways_at.Goals as goal

pub loop-b-preserved : goal.loop-b-preserved
loop-b-preserved c =
    let f : ℕ → Option ℕ = way_at c.args.prices.now c.args.factor in
    let b = c.loop-b.b in
    let one : c.loop-b.ways.items ++ c.way_of.result ∷ [] ≡ map f (range_with_len 0 b) ++ f b ∷ [] = rw
    (c.loop-b.invariant, c.way_of.ensures) refl in
    c.in_ok-push.ensures.items ∙ one ∙ sym (map-range_with_len_more f 0 b b (omega arith))
