use Rattle.std.proofs.Common.{◌≡◌, map, drop}
use Rattle.certificate_file.specs.Written.{pit_at, body_text}
use Rattle.certificate_file.proofs.Puts.{Put}
use Rattle.certificate_file.proofs.writing.put_pit.Given as goal

-- the lines of the blocks that are left are left to put
abbrev pub invariant-loop-block : goal.invariant-loop-block
invariant-loop-block g l = record {
  put : Put (g.W.Write.contents l.fn.out) (g.W.Write.contents l.out) l.fn.page l.page
      (body_text (map pit_at (drop l.block-index l.blocks))) (body_text (map pit_at l.fn.pit));
  kept : g.W.CountedWrite.failed l.out ≡ g.W.CountedWrite.failed l.fn.out;
}
