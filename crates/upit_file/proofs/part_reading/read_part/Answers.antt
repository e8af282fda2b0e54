use Rattle.fixed_worth.proofs.Common.{◌≡◌, ◌+◌, ◌<◌, arith, common_steps}
use Rattle.upit_file.proofs.PartProgress.{part_begun, part_passes, part_further, part_ended}
use Rattle.upit_file.proofs.part_reading.read_part.Goals as goal

pub loop-next-init : goal.loop-next-init
loop-next-init c = part_begun c.args.n c.args.from c.args.text.now c.new-values.result.items c.new-lines.result
    c.requires c.new-values.ensures.items c.new-lines.ensures.lines

pub loop-next-preserved-in-Skipped : goal.loop-next-preserved-in-Skipped
loop-next-preserved-in-Skipped c =
    let q = rw c.in-Some.is at c.in-Ok.ensures in
    let r = rw c.in-Skipped.is at c.in-Ok-read_record.ensures in
    part_passes c.args.n c.args.from c.args.text.now c.in-Some.line.now c.loop-next.values.items c.loop-next.lines
    c.next_line.new.self c.loop-next.invariant q.1 q.0 r.0 r.1

pub returns-in-End : goal.returns-in-End
returns-in-End c =
    let q = rw c.in-Some.is at c.in-Ok.ensures in
    let r = rw c.in-End.is at c.in-Ok-read_record.ensures in
    part_ended c.args.n c.args.from c.args.text.now c.in-Some.line.now c.loop-next.values.items c.loop-next.lines
    c.next_line.new.self c.loop-next.invariant q.1 q.0 r

pub loop-next-preserved : goal.loop-next-preserved
loop-next-preserved c =
    let q = rw c.in-Some.is at c.in-Ok.ensures in
    let r = rw c.in-Value.is at c.in-Ok-read_record.ensures in
    let block = c.in-Value.block in
    let place = c.in_ok-place-in-Value.place in
    let few : block < c.args.n = omega (arith, c.if-block-n.false) in
    let put : block ≡ c.args.from + place = grind (arith, common_steps) in
    let added = c.in_ok-add_value-in-Value.ensures in
    part_further c.args.n c.args.from c.number.result place block c.in-Value.value c.args.text.now c.in-Some.line.now
    c.loop-next.values.items c.add_value.new.values.items c.loop-next.lines c.next_line.new.self
    c.loop-next.invariant q.1 q.0 r.1 r.0 r.2 r.3 r.4 few put added.0 added.1
