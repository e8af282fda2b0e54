use Rattle.std.proofs.Common.{◌≡◌, ℕ, ◌<◌, drop}
use Rattle.ordered_group.specs.Sums.{amount_at}
use Rattle.certificate_file.specs.Prelude.{Writable, line_at, amount_lines, body_text}
use Rattle.certificate_file.proofs.Puts.{Put}
use Rattle.certificate_file.proofs.writing.put_amounts.Given as goal

-- the lines of the amounts that are left are left to put
abbrev pub invariant-loop-k : goal.invariant-loop-k
invariant-loop-k g l = record {
  put : Put (g.W.Write.contents l.fn.out) (g.W.Write.contents l.out) l.fn.page l.page
      (body_text (amount_lines (line_at l.kind l.rests.pairs) l.k (drop l.k l.amounts)))
      (body_text (amount_lines (line_at l.kind l.rests.pairs) 0 l.amounts));
  writable : (j : ℕ) → j < l.k → Writable g.G.OrderedGroup.counts (amount_at l.amounts j);
  kept : g.W.CountedWrite.failed l.out ≡ g.W.CountedWrite.failed l.fn.out;
}
