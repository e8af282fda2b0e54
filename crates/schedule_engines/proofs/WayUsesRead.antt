-- What blocks use by each way, part after part, and what a block uses by its own.
use Rattle.fixed_worth.proofs.Common.{◌≡◌, ◌⊎◌, ℕ, ◌+◌, ◌*◌, ◌<◌, pos, Bool, true, false, cond, nat_lt, List, ◌++◌}
use Rattle.fixed_worth.proofs.Common.{length, get_or, slice_index, refl, sym, ap, subst, ◌∙◌, arith, get_or_append_left}
use Rattle.fixed_worth.proofs.Common.{get_or-append-add, get_or-map-range_with_len, length-map-range_with_len, ltb-true}
use Rattle.fixed_worth.proofs.Common.{ne_eqb, inl, inr, cases_lt, Option, IfSome}
use Rattle.prec_file.specs.Rests.{RestsView}
use Rattle.periods_file.specs.Prelude.{PeriodsView, width_of}
use Rattle.mine_inputs.specs.Prelude.{IsTooLong, cell}
use Rattle.engine_faults.specs.declared.engine_fault.EngineFault.TheVariants as engine
use Rattle.engine_faults.specs.declared.engine_fault.Problem.TheVariants as problem
use Rattle.mine_inputs.proofs.MineDevices.{under}
use Rattle.schedule_engines.specs.declared.plan_fault.PlanFault.{PlanFault}
use Rattle.schedule_engines.specs.declared.plan_fault.PlanFault.TheVariants as plan
use Rattle.schedule_engines.specs.Prelude.{UsesFail, WayUsesFail, ReadsPart, ReadsUses, ReadsWayUses, amount_by}
use Rattle.schedule_engines.specs.Prelude.{columns_by, columns_of, is_shared, use_of_way}
use Rattle.schedule_engines.proofs.UsesRead.{in_rows}

pub columns_at : (resources : List ℕ) (width count way r : ℕ) → r < count
    → slice_index (columns_by resources width count way) r ≡ slice_index resources (r * width + way)
columns_at resources width count way r l = get_or-map-range_with_len (λ k. slice_index resources (k * width + way)) 0
    count r r 0 l (omega arith)

pub columns_count : (resources : List ℕ) (width count way : ℕ) → length (columns_by resources width count way) ≡ count
columns_count resources width count way = length-map-range_with_len (λ k. slice_index resources (k * width + way)) 0
    count

some_ways : (way ways : ℕ) → way < ways → width_of ways ≡ ways
some_ways way ways l = ap (λ (t : Bool). cond t 1 ways) (ne_eqb ways 0 (λ e. omega (arith, l, e)))

module _ (n ways : ℕ) (p : PeriodsView) (text : List ℕ) where
  pub part_size : (way : ℕ) (ys : List ℕ) (lags : RestsView)
      → ReadsUses n (columns_of ways p way) p.waits text ys lags → length ys ≡ length p.shared * n
  part_size way ys lags r = r.size
      ∙ ap (λ (k : ℕ). k * n) (columns_count p.resources (width_of ways) (length p.shared) way)

  -- a part before stays
  pub part_kept : (xs ys : List ℕ) (k way : ℕ) → length xs ≡ way * (length p.shared * n) → k < way
      → ReadsPart n ways p text xs k → ReadsPart n ways p text (xs ++ ys) k
  part_kept xs ys k way size l r = record {
    part = r.part;
    lags = r.lags;
    read = r.read;
    at = λ i m.
        let inside = in_rows k i (length p.shared * n) way l m in
        get_or_append_left xs ys 0 (k * (length p.shared * n) + i) (omega (arith, inside, size)) ∙ r.at i m;
  }

  -- one more stands after them
  pub part_more : (xs ys : List ℕ) (lags : RestsView) (way : ℕ) → length xs ≡ way * (length p.shared * n)
      → ReadsUses n (columns_of ways p way) p.waits text ys lags → ReadsPart n ways p text (xs ++ ys) way
  part_more xs ys lags way size r = record {
    part = ys;
    lags = lags;
    read = r;
    at = λ i m. ap (λ (k : ℕ). get_or (xs ++ ys) (k + i) 0) (sym size) ∙ get_or-append-add xs ys i 0;
  }

  -- all of them
  pub parts_with : (xs ys all : List ℕ) (lags : RestsView) (way : ℕ) → length xs ≡ way * (length p.shared * n)
      → all ≡ xs ++ ys → ((k : ℕ) → k < way → ReadsPart n ways p text xs k)
      → ReadsUses n (columns_of ways p way) p.waits text ys lags
      → (k : ℕ) → k < way + 1 → ReadsPart n ways p text all k
  parts_with xs ys all lags way size e before r k l = subst (λ (zs : List ℕ). ReadsPart n ways p text zs k) (sym e)
      (elim (cases_lt k way) [
        | inl less ↦ part_kept xs ys k way size less (before k less)
        | inr past ↦ let same : way ≡ k = omega (arith, l, past) in subst
            (λ (j : ℕ). ReadsPart n ways p text (xs ++ ys) j) same (part_more xs ys lags way size r)
      ])

  module _ (uses : List ℕ) (lags : RestsView) (read : ReadsWayUses n ways p text uses lags) where
    -- a number of a part is that of its column
    in_part : (r way b : ℕ) → way < read.parts → r < length p.shared → b < n
        → pos (slice_index uses (way * (length p.shared * n) + (r * n + b))) ≡ cell text
        (slice_index p.resources (r * width_of ways + way)) b
    in_part r way b here known l =
        let part = read.each way here in
        let count = columns_count p.resources (width_of ways) (length p.shared) way in
        let inside = in_rows r b n (length p.shared) known l in
        ap (λ (k : ℕ). pos k) (part.at (r * n + b) inside)
        ∙ part.read.each r b (omega (arith, known, count)) l
        ∙ ap (λ (c : ℕ). cell text c b) (columns_at p.resources (width_of ways) (length p.shared) way r known)

    amount_as : (r way b : ℕ) (shared named : Bool) → is_shared p r ≡ shared → nat_lt way ways ≡ named
        → r < length p.shared → b < n
        → pos (cond shared (slice_index uses (r * n + b))
        (cond named (slice_index uses (way * (length p.shared * n) + (r * n + b))) 0))
        ≡ cond shared (cell text (slice_index p.resources (r * width_of ways)) b)
        (cond named (cell text (slice_index p.resources (r * width_of ways + way)) b) (pos 0))
    amount_as r way b true named e f known l =
        let first : r * n + b ≡ 0 * (length p.shared * n) + (r * n + b) = omega arith in
        let column : r * width_of ways + 0 ≡ r * width_of ways = omega arith in
        ap (λ (k : ℕ). pos (slice_index uses k)) first ∙ in_part r 0 b read.some known l
        ∙ ap (λ (k : ℕ). cell text (slice_index p.resources k) b) column
    amount_as r way b false true e f known l =
        let low = ltb-true way ways f in
        let many : read.parts ≡ ways = read.all r known e ∙ some_ways way ways low in
        in_part r way b (omega (arith, low, many)) known l
    amount_as r way b false false e f known l = refl

    pub amount_same : (r way b : ℕ) → r < length p.shared → b < n
        → pos (amount_by uses p.shared ways n r way b) ≡ use_of_way ways p text r way b
    amount_same r way b known l = amount_as r way b (is_shared p r) (nat_lt way ways) refl refl known l

-- the text isn't read
module _ (n ways : ℕ) (p : PeriodsView) where
  at_first : (text : List ℕ) (e : PlanFault) → UsesFail n (columns_of ways p 0) p.waits text e
      → WayUsesFail n ways p text e
  at_first text e h = (0, λ k l. absurd (omega (arith, l)), h)

  unread : (text : List ℕ) (e long : PlanFault) → long ≡ plan.Engine (engine.Blocks problem.InputTooLong)
      → (e ≡ plan.Engine engine.Memory) ⊎ ((e ≡ plan.Engine engine.Device) ⊎ ((e ≡ long) × IsTooLong text))
      → WayUsesFail n ways p text e
  unread text e long is h = elim h [
    | inl m ↦ subst (λ (x : PlanFault). WayUsesFail n ways p text x) (sym m)
        (at_first text (plan.Engine engine.Memory) tt)
    | inr r ↦ elim r [
      | inl d ↦ subst (λ (x : PlanFault). WayUsesFail n ways p text x) (sym d)
          (at_first text (plan.Engine engine.Device) tt)
      | inr t ↦ subst (λ (x : PlanFault). WayUsesFail n ways p text x) (sym (t.0 ∙ is))
          (at_first text (plan.Engine (engine.Blocks problem.InputTooLong)) t.1)
    ]
  ]

  pub text_unread : (o : Option (List ℕ)) (e long : PlanFault) → long ≡ plan.Engine (engine.Blocks problem.InputTooLong)
      → IfSome o (λ text. (e ≡ plan.Engine engine.Memory)
      ⊎ ((e ≡ plan.Engine engine.Device) ⊎ ((e ≡ long) × IsTooLong text)))
      → IfSome o (λ text. WayUsesFail n ways p text e)
  text_unread o e long is h = under o (λ text. (e ≡ plan.Engine engine.Memory)
      ⊎ ((e ≡ plan.Engine engine.Device) ⊎ ((e ≡ long) × IsTooLong text))) (λ text. WayUsesFail n ways p text e) h
      (λ text f. unread text e long is f)

  pub no_memory : (text : List ℕ) → WayUsesFail n ways p text (plan.Engine engine.Memory)
  no_memory text = at_first text (plan.Engine engine.Memory) tt
