-- What counts tell of stretches without a mark.
use Rattle.fixed_worth.proofs.Common.{◌≡◌, ◌↔◌, ℕ, zero, suc, ◌+◌, ◌/◌, ◌%◌, ◌<◌, ◌≤◌, Bool, false, List, length}
use Rattle.fixed_worth.proofs.Common.{get_or, replicate, sym, refl, ◌∙◌, arith, lt-div-mul-add, div-lt_iff_lt-mul}
use Rattle.fixed_worth.proofs.Common.{div-add-mod', get_or_default, length-replicate, common_steps}
use Rattle.fixed_worth.specs.declared.limits.TheConstants.{MOST_BLOCKS}
use Rattle.ordered_group.specs.Sets.{count_in}
use Rattle.async_step.specs.declared.marks.TheConstants.{SMALL, MIDDLE, LARGE}
use Rattle.async_step.specs.Marks.{mark_at, run_count, IsCounted, IsMarks, NoneWithin}
use Rattle.async_step.proofs.Counts.{run_none}

-- a run that counts none, from its first block on
pub gap_none : (marks : List Bool) (width : ℕ) (counts : List ℕ) (at x : ℕ) → IsCounted marks width counts
    → at ≤ length marks → at % width ≡ 0 → x ≡ get_or counts (at / width) x → x ≡ 0 → NoneWithin marks at (at + width)
gap_none marks width counts at x h l m e z = grind (arith, common_steps, div-add-mod', get_or_default, run_none)

-- where no mark is set, nothing is counted
none_counted : (e : ℕ → Bool) (n : ℕ) → ((j : ℕ) → j < n → e j ≡ false) → count_in e n ≡ 0
none_counted e zero h = refl
none_counted e (suc n) h = rw (h n (omega arith)) (omega (arith, none_counted e n (λ j l. h j (omega arith))))

pub run_empty : (marks : List Bool) (from width : ℕ) → ((b : ℕ) → mark_at marks b ≡ false)
    → run_count marks from width ≡ 0
unfolding run_count
run_empty marks from width h = none_counted (λ j. mark_at marks (from + j)) width (λ j l. h (from + j))

pub all_empty : (marks : List Bool) → NoneWithin marks 0 (length marks) → run_count marks 0 (length marks) ≡ 0
unfolding run_count
all_empty marks h = none_counted (λ j. mark_at marks (0 + j)) (length marks)
    (λ j l. h (0 + j) (omega arith) (omega arith))

pub empty_tells : (marks : List Bool) (count : ℕ) → count ≡ run_count marks 0 (length marks)
    → (count ≡ 0) ↔ NoneWithin marks 0 (length marks)
empty_tells marks count e = (
  λ z b p q. run_none marks 0 (length marks) (sym e ∙ z) b p (omega arith),
  λ h. e
      ∙ all_empty marks h,
)

-- the marks of an empty set
none_at : (n b : ℕ) → mark_at (replicate n false) b ≡ false
none_at (suc n) (suc b) = none_at n b
none_at _ _ = refl

zeros_at : (n i : ℕ) → get_or (replicate {A = ℕ} n 0) i 0 ≡ 0
zeros_at (suc n) (suc i) = zeros_at n i
zeros_at _ _ = refl

counted_none : (n width : ℕ) → 0 < width → IsCounted (replicate n false) width (replicate {A = ℕ} (n / width + 1) 0)
counted_none n width w = grind
    (arith, common_steps, lt-div-mul-add, length-replicate, div-lt_iff_lt-mul, zeros_at, run_empty, replicate, none_at)

pub marks_none : (n : ℕ) (marks : List Bool) (smalls middles larges : List ℕ) → n ≤ MOST_BLOCKS
    → marks ≡ replicate n false → smalls ≡ replicate (n / SMALL + 1) 0 → middles ≡ replicate (n / MIDDLE + 1) 0
    → larges ≡ replicate (n / LARGE + 1) 0 → IsMarks marks smalls middles larges 0
marks_none n marks smalls middles larges h e p q r = grind
    (arith, common_steps, length-replicate, counted_none, run_empty, replicate, none_at)
