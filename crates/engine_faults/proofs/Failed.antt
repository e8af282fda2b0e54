-- The counts of failures of an engine's devices, at each of its exits.
use Rattle.std.proofs.Common.{◌≡◌, ℕ, ◌+◌, Result, Ok, Err, IsErrOf, IsErrAnd, ap, ◌∙◌, arith}
use Rattle.engine_faults.specs.declared.engine_fault.EngineFault.{EngineFault}
use Rattle.engine_faults.specs.declared.engine_fault.EngineFault.TheVariants as engine

-- a call's fault is that of the answer that hands it on
handed : {V : Type 0} (r : Result V EngineFault) (f e : EngineFault) → IsErrAnd r (λ y. y ≡ f) → IsErrOf r e → f ≡ e
handed (Ok v) f e h k = absurd h
handed (Err y) f e h k = cc

answered : {V : Type 0} (r : Result V EngineFault) (f e : EngineFault) → IsErrAnd r (λ y. y ≡ f) → f ≡ e → IsErrOf r e
answered (Ok v) f e h k = absurd h
answered (Err y) f e h k = ap Err (h ∙ k)

-- what a call says where a device fails, and where none does, for the answer that hands its fault on
pub raised : {T V P : Type 0} (r : Result V EngineFault) (f : EngineFault) → IsErrAnd r (λ y. y ≡ f)
    → (IsErrOf {T = T} {E = EngineFault} (Err f) engine.Device → P) → IsErrOf r engine.Device → P
raised r f h k d = k (ap Err (handed r f engine.Device h d))

pub stayed : {T V P : Type 0} (r : Result V EngineFault) (f : EngineFault) → IsErrAnd r (λ y. y ≡ f)
    → (¬ IsErrOf {T = T} {E = EngineFault} (Err f) engine.Device → P) → ¬ IsErrOf r engine.Device → P
stayed r f h k n = k (λ d. n (answered r f engine.Device h cc))

-- of a call that went well
pub went : {T P : Type 0} (v : T) → (¬ IsErrOf {T = T} {E = EngineFault} (Ok v) engine.Device → P) → P
went v k = k (λ d. cc)

-- no device fails where all goes well
pub well : {V : Type 0} (v : V) → ¬ IsErrOf {T = V} {E = EngineFault} (Ok v) engine.Device
well v d = cc

-- one device more failed than before
pub first_of_two : (a b a' b' : ℕ) → a' ≡ a + 1 → b' ≡ b → a' + b' ≡ a + b + 1
first_of_two a b a' b' p q = omega arith

pub second_of_two : (a b a' b' : ℕ) → a' ≡ a → b' ≡ b + 1 → a' + b' ≡ a + b + 1
second_of_two a b a' b' p q = omega arith
