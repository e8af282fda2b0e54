use Rattle.std.proofs.Common.{rules, ◌≡◌, ◌∙◌, sym, FitsSigned, w64, unsigned_abs, ℕ, ◌+◌, ◌*◌, ◌/◌, ◌%◌, ◌<◌, ℤ, []}
use Rattle.std.proofs.Common.{◌∷◌, length, ap, subst, arith}
use Rattle.fixed_worth.proofs.Common.{All-push, length-append, to_z-of_z}
use Rattle.std.proofs.lemmas.Nat.{div_below, mod_below}
use Rattle.prec_file.specs.Rests.{IsKnown}
use Rattle.schedules.proofs.Layers.{some_blocks}
use Rattle.schedule_engines.specs.Uses.{IsBlock, use_in}
use Rattle.schedule_engines.proofs.UsesRead.{first_wrong, has_waits, wait_listed, waits_known}
use Rattle.schedule_engines.proofs.uses.waits_of.Goals as goal

pub overflow_add-first : goal.overflow_add-first
overflow_add-first c =
    let row = div_below c.loop-i.i c.args.n c.args.count (some_blocks c.args.n c.args.count c.loop-i.i (omega arith))
    (omega arith) in
    omega (arith, row, c.requires.beyond, c.requires.few)

pub loop-i-preserved : goal.loop-i-preserved
loop-i-preserved c =
    let i = c.loop-i.i in
    let n = c.args.n in
    let xs = c.loop-i.pairs.items in
    let ys = c.push_wait.new.pairs.items in
    let at : ℕ → ℕ → ℤ = λ k b. use_in c.args.model.now (c.args.first + k) b in
    let inside : i < c.args.count * n = omega arith in
    let column : i % n < n = mod_below i n (some_blocks n c.args.count i inside) in
    let here : c.get-number.result ≡ at (i / n) (i % n) = search rules in
    let pushed = c.in_ok-push_wait-in-Some.ensures in
    let a = c.in-Some.ensures in
    let fits : FitsSigned w64 c.get-number.result = search rules in
    let whole = to_z-of_z w64 c.get-number.result fits in
    record {
      size = omega (arith, ap length pushed, length-append xs ((i % n, c.in-Some.a) ∷ []), c.loop-i.invariant.size);
      listed = wait_listed n i c.in-Some.a at c.get-number.result xs ys pushed c.loop-i.invariant.listed here
          (a.2 ∙ ap (λ (w : ℤ). unsigned_abs w / 1000000) whole);
      all = rw pushed (All-push (IsKnown n) xs (i % n, c.in-Some.a) c.loop-i.invariant.all (column, a.0));
      known = waits_known n i c.in-Some.a at c.get-number.result here a.0 (sym whole ∙ a.1) c.loop-i.invariant.known;
    }

pub returns-clause-are : goal.returns-clause-are
returns-clause-are c =
    let m = c.args.model.now in
    let n = c.args.n in
    let end : c.loop-i.i ≡ c.args.count * n = omega arith in
    let size : c.in_ok-into_predecessors.field-0.blocks ≡ n = search rules in
    has_waits m c.args.first c.args.count n c.loop-i.i c.loop-i.pairs.items c.in_ok-into_predecessors.field-0
    c.requires.same end c.loop-i.invariant.listed c.loop-i.invariant.known size (search rules)

pub returns-in-None-clause-are : goal.returns-in-None-clause-are
returns-in-None-clause-are c =
    let m = c.args.model.now in
    let n = c.args.n in
    let i = c.loop-i.i in
    let at : ℕ → ℕ → ℤ = λ k b. use_in m (c.args.first + k) b in
    let inside : i < c.args.count * n = omega arith in
    let here : c.get-number.result ≡ at (i / n) (i % n) = search rules in
    let fits : FitsSigned w64 c.get-number.result = search rules in
    let whole = to_z-of_z w64 c.get-number.result fits in
    first_wrong (IsBlock n) at c.args.count n i inside
    (λ x. c.in-None.ensures (subst (λ (z : ℤ). IsBlock n z) (sym here ∙ sym whole) x)) c.loop-i.invariant.known
