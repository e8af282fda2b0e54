-- From the header of a certificate and what stands after it to what is judged, where the device tells its bytes.
use Rattle.std.proofs.Common.{◌≡◌, ◌≢◌, ℕ, ℤ, ◌≤◌, List, Option, Some, None, Result, Ok, Err, sym, ap, ◌∙◌, subst}
use Rattle.std.proofs.Common.{arith, IfSome}
use Rattle.fixed_worth.specs.declared.limits.TheConstants.{MOST_FACTOR}
use Rattle.prec_file.specs.Rests.{RestsView}
use Rattle.ordered_group.specs.declared.groups.Group.{Group}
use Rattle.certificate_file.specs.declared.cert_fault.CertFault.{CertFault}
use Rattle.certificate_file.specs.declared.header.Header.{Header}
use Rattle.certificate_file.specs.declared.header.Price.{Price}
use Rattle.certificate_file.specs.declared.header.Price.TheVariants.{Objective}
use Rattle.certificate_file.specs.Prelude.{header_of, pieces_of, IsPrice}
use Rattle.check_pit.specs.StreamView.{LineView}
use Rattle.engine_faults.specs.declared.engine_fault.EngineFault.{EngineFault}
use Rattle.engine_faults.specs.declared.engine_fault.EngineFault.TheVariants as engine
use Rattle.engine_faults.specs.declared.engine_fault.CertificateProblem.TheVariants as problem
use Rattle.mine_inputs.specs.declared.worths.Worths.{Worths}
use Rattle.check_engines.specs.Prelude.{Fails, StandsAfter, factor_in, factor_named, IsHeader}
use Rattle.mine_inputs.specs.Prelude.{DenoteMine, MineTexts, AreRead, IsMineRead, factor_at, nanos_at, price_at}
use Rattle.mine_inputs.proofs.MinesRead.{read_as}
use Rattle.check_engines.proofs.Answered.{JudgedBy}
use Rattle.check_engines.proofs.HeaderPrices.{header_price}

-- a header was read of the text, and these lines stand after it
abbrev pub HasHeader : {R : Type 0} → (R → Option (List ℕ)) → LineView R → Header → List ℕ → Type 0
HasHeader remaining s h c = (header_of (pieces_of c) ≡ Ok h) × StandsAfter remaining c s

-- the factor of a price is at most 10,000
factor_low : (price : Price) → IsPrice price → factor_at price ≤ MOST_FACTOR
factor_low Objective h = omega arith
factor_low price h = h

-- the header isn't one for a mine of so many blocks
pub header_unjudged : (t : Option (List ℕ)) (worths : Worths) (rests : RestsView) (n : ℕ) (e : EngineFault)
    → rests.blocks ≡ n → IfSome t (λ c. (texts : MineTexts) → DenoteMine texts n → Fails texts c e)
    → IfSome t (λ c. (texts : MineTexts) → IsMineRead texts (factor_in c) worths rests → Fails texts c e)
header_unjudged None worths rests n e same k = tt
header_unjudged (Some c) worths rests n e same k = λ texts read. k texts (subst (DenoteMine texts) same read.0.mine)

pub price_unjudged : {R : Type 0} (remaining : R → Option (List ℕ)) (s : LineView R) (t : Option (List ℕ))
    (worths : Worths) (rests : RestsView) (h : Header) → h.blocks ≡ rests.blocks
    → ((k : ℕ) → k ≤ MOST_FACTOR → h.price ≢ price_at worths k) → IfSome t (HasHeader remaining s h)
    → IfSome t (JudgedBy worths rests (Err (engine.Certificate problem.WrongPrice)))
price_unjudged remaining s None worths rests h size none k = tt
price_unjudged remaining s (Some c) worths rests h size none k = λ texts read.
    let named : factor_in c ≡ factor_at h.price = ap factor_named k.0 in
    let low : factor_in c ≤ MOST_FACTOR = rw named (factor_low h.price (header_price (pieces_of c) h k.0)) in
    (rests.blocks, read.0.mine, (h, k.0, size, λ e. none (factor_in c) low (e ∙ sym read.1)))

-- what a header says
abbrev ok_header : ℕ → Price → Group → Result Header CertFault
ok_header blocks price group = Ok (record { blocks = blocks; price = price; group = group })

-- the mine is read at the price of the header
pub priced : {R : Type 0} (remaining : R → Option (List ℕ)) (s : LineView R) (t : Option (List ℕ)) (worths : Worths)
    (rests : RestsView) (h : Header) (factor : ℕ) (nanos : List ℤ) → h.blocks ≡ rests.blocks
    → h.price ≡ price_at worths factor → factor ≡ factor_at h.price → nanos ≡ nanos_at worths factor
    → IfSome t (HasHeader remaining s h)
    → IfSome t (λ c. (texts : MineTexts) → IsMineRead texts (factor_in c) worths rests → AreRead texts nanos rests
    × IsHeader texts c rests.blocks h.group × StandsAfter remaining c s)
priced remaining s None worths rests h factor nanos size price at is k = tt
priced remaining s (Some c) worths rests h factor nanos size price at is k = λ texts read.
    let known = subst (λ (n : ℕ). IsMineRead texts n worths rests) (ap factor_named k.0 ∙ sym at) read in (
      read_as texts (nanos_at worths factor) nanos rests is known.0,
      k.0
          ∙ ap (λ (n : ℕ). ok_header n h.price h.group) size ∙ ap (λ (p : Price). ok_header rests.blocks p h.group)
          (price ∙ known.1),
      k.1,
    )
