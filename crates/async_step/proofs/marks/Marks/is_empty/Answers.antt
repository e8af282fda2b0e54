use Rattle.fixed_worth.proofs.Common.{◌↔◌, subst, length, IsTrue, nat_eq, eq-eqb, eqb-true}
use Rattle.async_step.specs.Marks.{NoneWithin}
use Rattle.async_step.proofs.Gaps.{empty_tells}
use Rattle.async_step.proofs.marks.Marks.is_empty.Goals as goal

pub returns : goal.returns
returns c =
    let m = c.self.inside in
    let e = empty_tells m.marks.items m.held c.self.invariant.held in
    subst (λ xs. IsTrue (nat_eq m.held 0) ↔ NoneWithin xs 0 (length xs)) c.self.view_is
    (λ t. e.0 (eqb-true m.held 0 t), λ n. eq-eqb m.held 0 (e.1 n))
