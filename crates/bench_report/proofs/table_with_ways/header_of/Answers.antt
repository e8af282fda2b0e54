use Rattle.std.proofs.Common.{◌≡◌, ◌+◌, ◌∙◌, ◌++◌, ap, rules, codes, decimal}
use Rattle.bench_report.proofs.WayLines.{names_more}
use Rattle.bench_report.proofs.table_with_ways.header_of.Goals as goal

pub loop-i-preserved : goal.loop-i-preserved
loop-i-preserved c =
    let name : c.as_bytes.result.now ≡ codes ",tonnes" ++ decimal (c.loop-i.i + 1) = search
    (rules, c.as_bytes.ensures.value, c.in_ok-name.ensures.ok) in
    names_more (codes "z,shell,blocks,tonnes,worth") c.loop-i.i c.loop-i.text.items _ c.loop-i.invariant
    (c.in_ok-extend_from_slice.ensures.items ∙ ap (λ xs. c.loop-i.text.items ++ xs) name)
