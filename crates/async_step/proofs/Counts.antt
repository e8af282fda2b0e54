-- How a count follows its marks.
use Rattle.fixed_worth.proofs.Common.{◌≡◌, ℕ, zero, suc, ◌+◌, ◌-◌, ◌*◌, ◌/◌, ◌<◌, ◌≤◌, Bool, true, false, cond, inl}
use Rattle.fixed_worth.proofs.Common.{inr, List, length, get_or, set, sym, refl, ap, subst, ◌∙◌, arith, length-set}
use Rattle.fixed_worth.proofs.Common.{get_or-set_same, get_or-set_other, div-mul-le_self, lt-div-mul-add}
use Rattle.fixed_worth.proofs.Common.{div-eq_of_lt-le, cases_eq, get_or_default, common_steps}
use mathlib.Core.Bool.{beq}
use Rattle.ordered_group.specs.Sets.{count_in}
use Rattle.ordered_group.proofs.BlockSets.{count_in-same, count_in-most}
use Rattle.prec_file.proofs.Starts.{read_at}
use Rattle.async_step.specs.declared.marks.TheConstants.{SMALL, MIDDLE, LARGE}
use Rattle.async_step.specs.Marks.{mark_at, run_count, IsCounted, IsMarks, count_after_shift, CanShift}

-- one more number passes
one_more : (e f : ℕ → Bool) (k n : ℕ) → k < n → e k ≡ false → f k ≡ true → ((j : ℕ) → (j ≡ k → ⊥) → f j ≡ e j)
    → count_in f n ≡ count_in e n + 1
one_more e f k zero h p q s = absurd (omega arith)
one_more e f k (suc n) h p q s =
    elim (cases_eq n k) [
      | inl i ↦
          let a : f n ≡ true = ap f i ∙ q in
          let b : e n ≡ false = ap e i ∙ p in
          let c = count_in-same f e n (λ j l. s j (λ x. omega (arith, x, i, l))) in
          rw (a, b) (omega (arith, c))
      | inr d ↦
          let c = one_more e f k n (omega (arith, h, d)) p q s in
          rw (s n d) (omega (arith, c))
    ]

-- none passes
last_is_none : (t : Bool) (n : ℕ) → n + cond t 1 0 ≡ 0 → t ≡ false
last_is_none true n h = absurd (omega arith)
last_is_none false n h = refl

none_passes : (e : ℕ → Bool) (n : ℕ) → count_in e n ≡ 0 → (j : ℕ) → j < n → e j ≡ false
none_passes e zero h j l = absurd (omega arith)
none_passes e (suc n) h j l =
    elim (cases_eq j n) [
      | inl i ↦ ap e i ∙ last_is_none (e n) (count_in e n) h
      | inr d ↦ none_passes e n (omega (arith, h)) j (omega (arith, l, d))
    ]

-- a run has no more marks than blocks
pub run_most : (marks : List Bool) (from width : ℕ) → run_count marks from width ≤ width
unfolding run_count
run_most marks from width = count_in-most (λ j. mark_at marks (from + j)) width

-- none of a run that counts none is marked
pub run_none : (marks : List Bool) (from width : ℕ) → run_count marks from width ≡ 0 → (b : ℕ) → from ≤ b
    → b < from + width → mark_at marks b ≡ false
unfolding run_count
run_none marks from width h b p q =
    let k : from + (b - from) ≡ b = omega arith in
    ap (mark_at marks) (sym k) ∙ none_passes (λ j. mark_at marks (from + j)) width h (b - from) (omega arith)

-- a run with a mark counts some
pub run_some : (marks : List Bool) (from width b : ℕ) → from ≤ b → b < from + width → mark_at marks b ≡ true
    → 0 < run_count marks from width
run_some marks from width b p q t = grind (arith, common_steps, cases_eq, run_none)

-- a run with none of another's marks changed
run_same : (old new : List Bool) (from width : ℕ)
    → ((b : ℕ) → from ≤ b → b < from + width → mark_at new b ≡ mark_at old b)
    → run_count new from width ≡ run_count old from width
unfolding run_count
run_same old new from width h = count_in-same (λ j. mark_at new (from + j)) (λ j. mark_at old (from + j)) width
    (λ j l. h (from + j) (omega arith) (omega arith))

-- and with one more
run_more : (old new : List Bool) (from width b : ℕ) → from ≤ b → b < from + width → mark_at old b ≡ false
    → mark_at new b ≡ true → ((c : ℕ) → (c ≡ b → ⊥) → mark_at new c ≡ mark_at old c)
    → run_count new from width ≡ run_count old from width + 1
unfolding run_count
run_more old new from width b p q f t s =
    let k : from + (b - from) ≡ b = omega arith in
    one_more (λ j. mark_at old (from + j)) (λ j. mark_at new (from + j)) (b - from) width (omega arith)
    (ap (mark_at old) k ∙ f) (ap (mark_at new) k ∙ t) (λ j d. s (from + j) (λ x. d (omega (arith, x))))

-- the mark of a block is put in or taken out
opposite : (v t : Bool) → (t ≡ v → ⊥) → (v ≡ true → t ≡ false) × (v ≡ false → t ≡ true)
opposite true false d = (λ e. refl, λ e. absurd cc)
opposite false true d = (λ e. absurd cc, λ e. refl)
opposite _ _ d = absurd (d refl)

module _ (marks : List Bool) (b : ℕ) (inside : b < length marks) where
  here : (v : Bool) → mark_at (set marks b v) b ≡ v
  here v = get_or-set_same marks b v false inside

  there : (v : Bool) (c : ℕ) → (c ≡ b → ⊥) → mark_at (set marks b v) c ≡ mark_at marks c
  there v c d = get_or-set_other marks b c v false d

  pub run_shifted : (v : Bool) (from width : ℕ) → (mark_at marks b ≡ v → ⊥) → from ≤ b → b < from + width
      → count_after_shift v (run_count marks from width) ≡ run_count (set marks b v) from width
  run_shifted true from width d p q = sym
      (run_more marks (set marks b true) from width b p q ((opposite true (mark_at marks b) d).0 refl) (here true)
      (there true))
  run_shifted false from width d p q =
      let m = run_more (set marks b false) marks from width b p q (here false)
      ((opposite false (mark_at marks b) d).1 refl) (λ c n. sym (there false c n)) in
      omega (arith, m)

  pub run_can_shift : (v : Bool) (from width : ℕ) → (mark_at marks b ≡ v → ⊥) → from ≤ b → b < from + width
      → width < 1000000000 → CanShift v (run_count marks from width)
  run_can_shift true from width d p q w = omega (arith, run_most marks from width)
  run_can_shift false from width d p q w = run_some marks from width b p q ((opposite false (mark_at marks b) d).1 refl)

  -- the run of the block
  run_of : (width : ℕ) → 0 < width → (b / width * width ≤ b) × (b < b / width * width + width)
  run_of width w = (div-mul-le_self b width, lt-div-mul-add w)

  pub counted_can_shift : (v : Bool) (width : ℕ) (counts : List ℕ) → IsCounted marks width counts → 0 < width
      → width < 1000000000 → (mark_at marks b ≡ v → ⊥) → CanShift v (get_or counts (b / width) 0)
  counted_can_shift v width counts h w few d =
      let r = run_of width w in
      subst (CanShift v) (sym (h.at (b / width) (h.covers b (omega arith))))
      (run_can_shift v (b / width * width) width d r.0 r.1 few)

  pub counted_shifted : (v : Bool) (width : ℕ) (counts : List ℕ) → IsCounted marks width counts → 0 < width
      → (mark_at marks b ≡ v → ⊥)
      → IsCounted (set marks b v) width (set counts (b / width) (count_after_shift v (get_or counts (b / width) 0)))
  counted_shifted v width counts h w d =
      let x = count_after_shift v (get_or counts (b / width) 0) in
      let k = h.covers b (omega arith) in
      record {
        covers = λ c l. (let m : c ≤ length marks = omega (arith, length-set marks b v) in omega
            (arith, h.covers c m, length-set counts (b / width) x));
        at = λ i l. elim (cases_eq i (b / width)) [
          | inl e ↦
              let r = run_of width w in
              let P : ℕ → Type 0 = λ j. get_or (set counts (b / width) x) j 0 ≡ run_count (set marks b v)
              (j * width) width in
              subst P (sym e) (get_or-set_same counts (b / width) x 0 k
              ∙ (ap (count_after_shift v) (h.at (b / width) k) ∙ run_shifted v (b / width * width) width d r.0 r.1))
          | inr n ↦
              get_or-set_other counts (b / width) i x 0 n ∙ (h.at i (omega (arith, length-set counts (b / width) x)) ∙
              sym (run_same marks (set marks b v) (i * width) width
              (λ c p q. there v c (λ e. n
              (sym (div-eq_of_lt-le width (subst (λ y. i * width ≤ y) e p)
              (subst (λ y. y < (i + 1) * width) e (grind arith))))))))
        ];
      }

-- ---- the marks with one block's mark changed, by what was read

-- a mark that was read, and differs
read_off : (marks : List Bool) (b : ℕ) (t v : Bool) → b < length marks → t ≡ get_or marks b t → (t ≡ v → ⊥)
    → mark_at marks b ≡ v → ⊥
read_off marks b t v h e d q = d (e ∙ (sym (get_or_default marks b false t h) ∙ q))

pub level_can_shift : (marks : List Bool) (b : ℕ) (t v : Bool) (width : ℕ) (counts : List ℕ) (x : ℕ)
    → b < length marks → t ≡ get_or marks b t → (t ≡ v → ⊥) → 0 < width → width < 1000000000
    → IsCounted marks width counts → x ≡ get_or counts (b / width) x → CanShift v x
level_can_shift marks b t v width counts x l e d w few h r =
    let k = h.covers b (omega arith) in
    subst (CanShift v) (read_at counts (b / width) x k r)
    (counted_can_shift marks b l v width counts h w few (read_off marks b t v l e d))

level_shifted : (marks : List Bool) (b : ℕ) (t v : Bool) (width : ℕ) (counts : List ℕ) (x y : ℕ) → b < length marks
    → t ≡ get_or marks b t → (t ≡ v → ⊥) → 0 < width → IsCounted marks width counts → x ≡ get_or counts (b / width) x
    → y ≡ count_after_shift v x → IsCounted (set marks b v) width (set counts (b / width) y)
level_shifted marks b t v width counts x y l e d w h r q =
    let k = h.covers b (omega arith) in
    subst (λ z. IsCounted (set marks b v) width (set counts (b / width) z))
    (ap (count_after_shift v) (read_at counts (b / width) x k r) ∙ sym q)
    (counted_shifted marks b l v width counts h w (read_off marks b t v l e d))

pub all_can_shift : (marks : List Bool) (b : ℕ) (t v : Bool) (count : ℕ) → b < length marks → t ≡ get_or marks b t
    → (t ≡ v → ⊥) → length marks < 1000000000 → count ≡ run_count marks 0 (length marks) → CanShift v count
all_can_shift marks b t v count l e d few h = subst (CanShift v) (sym h)
    (run_can_shift marks b l v 0 (length marks) (read_off marks b t v l e d) (omega arith) (omega arith) few)

pub marks_set : (marks : List Bool) (smalls middles larges : List ℕ) (count b : ℕ) (t v : Bool)
    (x y z x' y' z' held : ℕ) → IsMarks marks smalls middles larges count → b < length marks → t ≡ get_or marks b t
    → (t ≡ v → ⊥)
    → x ≡ get_or smalls (b / SMALL) x → x' ≡ count_after_shift v x → y ≡ get_or middles (b / MIDDLE) y
    → y' ≡ count_after_shift v y → z ≡ get_or larges (b / LARGE) z → z' ≡ count_after_shift v z
    → held ≡ count_after_shift v count
    → IsMarks (set marks b v) (set smalls (b / SMALL) x') (set middles (b / MIDDLE) y') (set larges (b / LARGE) z') held
marks_set marks smalls middles larges count b t v x y z x' y' z' held h l e d rx qx ry qy rz qz q =
    let n = length-set marks b v in
    record {
      few = omega (arith, n, h.few);
      small = level_shifted marks b t v SMALL smalls x x' l e d (omega arith) h.small rx qx;
      middle = level_shifted marks b t v MIDDLE middles y y' l e d (omega arith) h.middle ry qy;
      large = level_shifted marks b t v LARGE larges z z' l e d (omega arith) h.large rz qz;
      held = q ∙ (ap (count_after_shift v) h.held
          ∙ (run_shifted marks b l v 0 (length marks) (read_off marks b t v l e d) (omega arith) (omega arith)
          ∙ ap (run_count (set marks b v) 0) (sym n)));
    }

-- two marks that the code finds to differ
pub differ : (t v : Bool) → beq t v ≡ false → t ≡ v → ⊥
differ true true h e = absurd cc
differ _ _ h e = absurd cc
