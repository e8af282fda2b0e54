use Rattle.fixed_worth.proofs.Common.{◌++◌, take, arith, length-append, length-take, Consumes-trans}
use Rattle.counted_devices.proofs.whole_input.read_whole.Goals as goal

-- what the reader gave before, and by this read
pub returns-then-taken-limit-clause-too_long : goal.returns-then-taken-limit-clause-too_long
returns-then-taken-limit-clause-too_long g c =
    let before = c.loop-text.text.items in
    let piece = take c.in_ok-taken.taken c.read_once.new.buf in
    let took = rw c.in_ok-taken.ensures.ok_part at c.read_once.ensures.took in
    let bytes = rw c.in_ok-taken.ensures.ok_part at c.read_once.ensures.bytes in
    let size = length-append before piece in
    let more = length-take c.in_ok-taken.taken c.read_once.new.buf in
    λ _. (
      before ++ piece,
      omega (arith, size, more, took, c.if-taken-limit.true, c.len.ensures),
      Consumes-trans _ _ _
          _ _ c.loop-text.invariant.0 bytes,
    )

pub returns-in_err-map_err-clause-memory : goal.returns-in_err-map_err-clause-memory
returns-in_err-map_err-clause-memory g c =
    let before = c.loop-text.text.items in
    let piece = take c.in_ok-taken.taken c.read_once.new.buf in
    let took = rw c.in_ok-taken.ensures.ok_part at c.read_once.ensures.took in
    let bytes = rw c.in_ok-taken.ensures.ok_part at c.read_once.ensures.bytes in
    let size = length-append before piece in
    let more = length-take c.in_ok-taken.taken c.read_once.new.buf in
    λ _. (
      before ++ piece,
      omega (arith, size, more, took, c.if-taken-limit.false, c.len.ensures),
      Consumes-trans _ _
          _ _ _ c.loop-text.invariant.0 bytes,
    )
