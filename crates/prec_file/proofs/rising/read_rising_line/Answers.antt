use Rattle.fixed_worth.proofs.Common.{ℕ, ◌≤◌, List, All, length, false, refl, ◌<◌, ap, sym, subst, ◌∙◌, arith}
use Rattle.fixed_worth.proofs.Common.{err_from_is_err_and, common_steps}
use Rattle.fixed_worth.specs.Text.{fields_of}
use Rattle.prec_file.specs.Rests.{RowsView}
use Rattle.prec_file.proofs.History.{told}
use Rattle.prec_file.proofs.RowReading.{predecessors_known, line_read}
use Rattle.prec_file.proofs.rising.read_rising_line.Goals as goal

pub returns-in_err-record : goal.returns-in_err-record
returns-in_err-record c = grind (arith, common_steps, err_from_is_err_and, told)

pub push_row-requires-clause-known : goal.push_row-requires-clause-known
push_row-requires-clause-known c =
    let q = rw c.in-Some.is at c.in_ok-record.ensures in
    subst (λ (x : ℕ). All (λ p. p < x) c.deref.result.now)
    (sym c.requires.blocks ∙ sym (ap (λ (v : RowsView). v.blocks) c.in-Ok.ensures))
    (subst (λ (xs : List ℕ). All (λ p. p < c.args.n) xs) (sym (c.deref.ensures.value ∙ q.1))
    (predecessors_known _ _ _ _ _ _ q.0))

pub push_row-requires-clause-few : goal.push_row-requires-clause-few
push_row-requires-clause-few c =
    let q = rw c.in-Some.is at c.in_ok-record.ensures in
    let few = (c.in_ok-counted.ensures c.args.n (fields_of c.args.text.now) (λ b. false) q.0 refl).1 in
    let same = ap (λ (v : RowsView). length v.pairs) c.in-Ok.ensures in
    let row = ap length (c.deref.ensures.value ∙ q.1) in
    omega (arith, few, same, row, q.0.found, c.requires.kept)

pub returns : goal.returns
returns c = λ rises.
    let q = rw c.in-Some.is at c.in_ok-record.ensures in
    let fs = fields_of c.args.text.now in
    let few = (c.in_ok-counted.ensures c.args.n fs (λ b. false) q.0 refl).1 in
    let beyond : c.args.to.now.rows.next ≤ c.in-Some.record.block = omega
    (arith, c.next.ensures, c.if-record-next.false) in
    let a = c.in-Ok-push_row.ensures in (
      line_read c.args.n c.args.line c.in-Some.record.block c.in-Some.record.count c.in-Some.record.found
          c.args.to.now.listed fs c.deref.result.now c.args.to.now.rows c.skip_to.new.self c.push_row.new.self a.0 q.0
          (c.deref.ensures.value ∙ q.1) beyond c.in-Ok.ensures a.1
          (λ had new. (c.in_ok-counted.ensures c.args.n fs had q.0 (new c.in-Some.record.block beyond)).0) few
          c.requires.kept,
      q.2,
    )
