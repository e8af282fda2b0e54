-- What holds on one side of a result, where it holds whatever the result is; and what one was before another error took
-- its own's place.
use Rattle.fixed_worth.proofs.Common.{◌≡◌, Result, Ok, arith, MatchResult, IsErrAnd, OnOk, OnErr, common_steps}

pub ok_before : {T D E : Type 0} (Q : D → E → Type 0) (r : Result T D) (s : Result T E) (x : T) → s ≡ Ok x
    → MatchResult r (λ y. s ≡ Ok y) (λ d. IsErrAnd s (Q d)) → r ≡ Ok x
ok_before Q r s x is h = grind (arith, common_steps)

pub on_ok : {X Y P : Type 0} (r : Result X Y) → P → OnOk r P
on_ok r h = grind (arith, common_steps)

pub on_err : {X Y P : Type 0} (r : Result X Y) → P → OnErr r P
on_err r h = grind (arith, common_steps)
