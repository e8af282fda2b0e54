-- What a block will have once all that is on its way has arrived, after each step: a push moves it, and nothing else
-- does.
use Rattle.fixed_worth.proofs.Common.{◌≡◌, ℕ, ◌<◌, ◌==◌, Bool, length, refl, arith, ints, common_steps}
use Rattle.ordered_group.specs.Prelude.{Amount, zero_amount, plus, minus, where_so}
use Rattle.ordered_group.proofs.Totals.{where_so-zero, where_so-plus, where_so-minus}
use Rattle.closure_net.specs.Network.{NetView}
use Rattle.closure_net.specs.declared.port.Port.{Port}
use Rattle.closure_net.specs.declared.port.PortKind.{PortKind}
use Rattle.closure_net.specs.declared.port.PortKind.TheVariants.{Sink, Forward, Backward}
use Rattle.machine_law.specs.declared.operations.Best.{Best}
use Rattle.machine_law.specs.declared.operations.Operation.{Operation}
use Rattle.machine_law.specs.declared.operations.Operation.TheVariants.{Idle, PushDue, TakeDue, GiveDue, RaiseDue}
use Rattle.machine_law.specs.Prelude.{State, with_value_at, with_operation, after_push_by, after_take, after_give}
use Rattle.machine_law.specs.Prelude.{after_give_by, after_raise, amount_owed, on_way, sum_on_way, amount_landing}
use Rattle.machine_law.specs.Prelude.{supply}
use Rattle.machine_law.proofs.Numbers.{Same, same}
use Rattle.machine_law.proofs.Points.{where-with_value_at}
use Rattle.machine_law.proofs.Sums.{sum_on_way-with_value_at}

-- an operation that has pushed nothing yet
abbrev pub IsAtRest : Operation Amount → Type 0
IsAtRest (TakeDue d p) = ⊥
IsAtRest (GiveDue d p) = ⊥
IsAtRest _ = Unit {0}

pub rest_owed : (o : Operation Amount) → IsAtRest o → amount_owed o ≡ zero_amount
rest_owed o h = grind (arith, common_steps)

pub rest_on_way : (o : Operation Amount) (f : Port → Amount → Amount) → IsAtRest o → on_way f o ≡ zero_amount
rest_on_way o f h = grind (arith, common_steps)

where_nothing : (t : Bool) (a : Amount) → a ≡ zero_amount → where_so t a ≡ zero_amount
where_nothing t a e = rw e (where_so-zero t)

-- the supply of x by these excesses and operations
abbrev on_hand : NetView → (ℕ → Amount) → (ℕ → Operation Amount) → ℕ → Amount
on_hand net excess operation x = minus (plus (excess x) (sum_on_way net (amount_landing x) operation))
    (amount_owed (operation x))

module _ (net : NetView) (s : State) (b : ℕ) (l : b < length net.worths) where
  -- what is on its way to one end, where nothing was and nothing is of this operation
  pub way_rest : (old new : Operation Amount) (f : Port → Amount → Amount) → s.operation b ≡ old → IsAtRest old
      → IsAtRest new → Same (sum_on_way net f (with_value_at s.operation b new)) (sum_on_way net f s.operation)
  way_rest old new f e r n = grind (
    arith,
    common_steps,
    (sum_on_way-with_value_at net f s.operation b old new l e),
    (same (rest_on_way old f r)),
    (same (rest_on_way new f n)),
    (rest_on_way old f r),
    (rest_on_way new f n),
  )

  module _ (x : ℕ) where
    hand_rest : (old new : Operation Amount) → s.operation b ≡ old → IsAtRest old → IsAtRest new
        → Same (on_hand net s.excess (with_value_at s.operation b new) x) (on_hand net s.excess s.operation x)
    hand_rest old new e r n = grind (
      arith,
      common_steps,
      (way_rest old new (amount_landing x) e r n),
      (where-with_value_at amount_owed s.operation b old new x e),
      (same (where_nothing (b == x) (amount_owed old) (rest_owed old r))),
      (same (where_nothing (b == x) (amount_owed new) (rest_owed new n))),
      (where_nothing (b == x) (amount_owed old) (rest_owed old r)),
      (rest_owed old r),
      (where_nothing (b == x) (amount_owed new) (rest_owed new n)),
      (rest_owed new n),
    )

    hand_pushed : (have : Amount) (best : Best Amount) (d : Amount) (p : Port) → s.operation b ≡ PushDue have best
        → Same (on_hand net s.excess (with_value_at s.operation b (TakeDue d p)) x)
        (minus (plus (on_hand net s.excess s.operation x) (amount_landing x p d)) (where_so (b == x) d))
    hand_pushed have best d p e =
        let c = sum_on_way-with_value_at net (amount_landing x) s.operation b (PushDue have best) (TakeDue d p) l e in
        let o = where-with_value_at amount_owed s.operation b (PushDue have best) (TakeDue d p) x e in
        let none = same (where_so-zero (b == x)) in
        record { w = omega (arith, ints, c, o, none); c = omega (arith, ints, c, o, none) }

    hand_given : (d : Amount) (p : Port) → s.operation b ≡ GiveDue d p
        → Same (plus (on_hand net s.excess (with_value_at s.operation b Idle) x) (amount_landing x p d))
        (on_hand net s.excess s.operation x)
    hand_given d p e =
        let c = sum_on_way-with_value_at net (amount_landing x) s.operation b (GiveDue d p) Idle l e in
        let o = where-with_value_at amount_owed s.operation b (GiveDue d p) Idle x e in
        record { w = omega (arith, ints, c, o); c = omega (arith, ints, c, o) }

    -- ---- the steps
    pub supply_rest : (old new : Operation Amount) → s.operation b ≡ old → IsAtRest old → IsAtRest new
        → Same (supply net (with_operation s b new) x) (supply net s x)
    supply_rest old new e r n = hand_rest old new e r n

    pub supply_raised : (have : Amount) (best : Best Amount) → s.operation b ≡ RaiseDue have best
        → Same (supply net (after_raise s b best) x) (supply net s x)
    supply_raised have best e = hand_rest (RaiseDue have best) Idle e tt tt

    pub supply_pushed : (have : Amount) (best : Best Amount) (d : Amount) (p : Port) (kind : PortKind)
        → s.operation b ≡ PushDue have best
        → Same (supply net (after_push_by s b d p kind) x)
        (minus (plus (supply net s x) (amount_landing x p d)) (where_so (b == x) d))
    supply_pushed have best d p Sink e = hand_pushed have best d p e
    supply_pushed have best d p _ e = hand_pushed have best d p e

    pub supply_taken : (d : Amount) (p : Port) → s.operation b ≡ TakeDue d p
        → Same (supply net (after_take s b d p) x) (supply net s x)
    supply_taken d p e =
        let c = sum_on_way-with_value_at net (amount_landing x) s.operation b (TakeDue d p) (GiveDue d p) l e in
        let o = where-with_value_at amount_owed s.operation b (TakeDue d p) (GiveDue d p) x e in
        let i = where-with_value_at (λ a. a) s.excess b (s.excess b) (minus (s.excess b) d) x refl in
        let m = same (where_so-minus (b == x) (s.excess b) d) in
        let none = same (where_so-zero (b == x)) in
        record { w = omega (arith, ints, c, o, i, m, none); c = omega (arith, ints, c, o, i, m, none) }

    given_into : (d : Amount) (other slot : ℕ) (p : Port) → s.operation b ≡ GiveDue d p
        → amount_landing x p d ≡ where_so (other == x) d
        → Same (on_hand net (with_value_at s.excess other (plus (s.excess other) d))
        (with_value_at s.operation b Idle) x) (on_hand net s.excess s.operation x)
    given_into d other slot p e q =
        let h = hand_given d p e in
        let i = where-with_value_at (λ a. a) s.excess other (s.excess other) (plus (s.excess other) d) x refl in
        let m = same (where_so-plus (other == x) (s.excess other) d) in
        let v = same q in
        record { w = omega (arith, ints, h, i, m, v); c = omega (arith, ints, h, i, m, v) }

    given_out : (d : Amount) (p : Port) → s.operation b ≡ GiveDue d p → amount_landing x p d ≡ zero_amount
        → Same (on_hand net s.excess (with_value_at s.operation b Idle) x) (on_hand net s.excess s.operation x)
    given_out d p e q =
        let h = hand_given d p e in
        let v = same q in
        record { w = omega (arith, ints, h, v); c = omega (arith, ints, h, v) }

    supply_given_by : (d : Amount) (kind : PortKind) (other slot : ℕ)
        → (let p : Port = record { kind = kind; other = other; slot = slot } in s.operation b ≡ GiveDue d p
        → Same (supply net (after_give_by s b d p kind) x) (supply net s x))
    supply_given_by d Forward other slot e = given_into d other slot _ e refl
    supply_given_by d Backward other slot e = given_into d other slot _ e refl
    supply_given_by d _ other slot e = given_out d _ e refl

    pub supply_given : (d : Amount) (p : Port) → s.operation b ≡ GiveDue d p
        → Same (supply net (after_give s b d p) x) (supply net s x)
    supply_given d p e = supply_given_by d p.kind p.other p.slot e
