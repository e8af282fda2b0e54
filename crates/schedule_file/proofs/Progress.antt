-- Reading line after line.
use Rattle.fixed_worth.proofs.Common.{◌≡◌, ℕ, ◌+◌, ◌<◌, ◌≤◌, Bool, true, false, List, ◌∷◌, length, set, Some, None}
use Rattle.fixed_worth.proofs.Common.{refl, arith, cond, ◌==◌, Option, option_map, sym, ap, ◌∙◌, inl, inr, option_or}
use Rattle.fixed_worth.proofs.Common.{fun_ext, cases_eq, eq-eqb, ne_eqb, get_or-set_same, get_or-set_other}
use Rattle.fixed_worth.proofs.Common.{common_steps}
use Rattle.fixed_worth.proofs.NextLine.{next_is}
use Rattle.fixed_worth.specs.Prelude.{Left, fields_of, numbered_lines}
use Rattle.fixed_worth.specs.declared.limits.TheConstants.{LINE_BYTES}
use Rattle.schedule_file.specs.declared.entry.Entry.{Entry}
use Rattle.schedule_file.specs.declared.schedule_fault.ScheduleFault.{ScheduleFault}
use Rattle.schedule_file.specs.declared.schedule_fault.ScheduleFault.TheVariants.{NoMemory}
use Rattle.schedule_file.specs.Records.{entries_after, entries_of, entry_fault, entry_of, record_fault, line_fault}
use Rattle.schedule_file.specs.Records.{first_fault, fault_of, no_entry, with_entry, with_fields, with_lines, by_list}
use Rattle.schedule_file.specs.Records.{set_entry, UnlessMemory, number_of, is_skipped, block_word, period_word}
use Rattle.schedule_file.specs.Records.{way_word}

-- ---- one entry

set_is_with : (periods b : ℕ) (e : Entry) (xs : List Entry) → b < length xs
    → by_list periods (set xs b e) ≡ (λ k. cond (k == b) e (by_list periods xs k))
set_is_with periods b t xs l = fun_ext (λ k. elim (cases_eq k b) [
  | inl e ↦ rw (e, eq-eqb b b refl) (get_or-set_same xs b t (no_entry periods) l)
  | inr d ↦ rw (ne_eqb k b d) (get_or-set_other xs b k t (no_entry periods) d)
])

known : (n periods ways : ℕ) (before : ℕ → Entry) (line : ℕ) (block period : List ℕ) (way : Option (List ℕ))
    → entry_fault n periods ways before line (Some block) (Some period) way ≡ None → number_of block < n
known n periods ways before line block period way e = grind (arith, common_steps)

entry : (n periods ways line : ℕ) (xs : List Entry) (o p q : Option (List ℕ)) → length xs ≡ n
    → entry_fault n periods ways (by_list periods xs) line o p q ≡ None
    → by_list periods (set_entry xs o p q) ≡ with_entry (by_list periods xs) o p q
entry n periods ways line xs (Some block) (Some period) way size e =
    let l = known n periods ways (by_list periods xs) line block period way e in
    set_is_with periods (number_of block) (entry_of (number_of period) (option_map number_of way)) xs
    (omega (arith, l, size))
entry n periods ways line xs (Some block) None way size e = refl
entry n periods ways line xs None p way size e = refl

record_by : (n periods ways line : ℕ) (xs : List Entry) (s : Bool) (o p q : Option (List ℕ)) → length xs ≡ n
    → cond s None (entry_fault n periods ways (by_list periods xs) line o p q) ≡ None
    → by_list periods (cond s xs (set_entry xs o p q)) ≡ cond s (by_list periods xs)
    (with_entry (by_list periods xs) o p q)
record_by n periods ways line xs true o p q size e = refl
record_by n periods ways line xs false o p q size e = entry n periods ways line xs o p q size e

pub noted : (n periods ways line : ℕ) (xs : List Entry) (fields : List (List ℕ)) → length xs ≡ n
    → record_fault n periods ways (by_list periods xs) line fields ≡ None
    → by_list periods (entries_after ways fields xs) ≡ with_fields ways (by_list periods xs) fields
noted n periods ways line xs fields size e = record_by n periods ways line xs (is_skipped fields)
    (block_word ways fields) (period_word ways fields) (way_word fields) size e

-- ---- line after line

-- What has been read, and what is left.
pub record ReadSoFar (n periods ways : ℕ) (text : List ℕ) (xs : List Entry) (left : Left) : Type 0 where
  pub fault : first_fault n periods ways (by_list periods xs) (numbered_lines left.number left.lines)
      ≡ fault_of n periods ways text
  pub whole : with_lines ways (by_list periods xs) (numbered_lines left.number left.lines) ≡ entries_of periods ways
      text

pub unless : (e : ScheduleFault) {Q : Type 0} → Q → UnlessMemory e Q
unless NoMemory h = tt
unless e h = h

-- the fault of a short line is that of its record
short_fault : (n periods ways : ℕ) (before : ℕ → Entry) (k : ℕ) (line : List ℕ) → length line ≤ LINE_BYTES
    → line_fault n periods ways before (record { number = k; text = line }) ≡ record_fault n periods ways before k
    (fields_of line)
short_fault n periods ways before k line h = grind (arith, common_steps)

module _ (n periods ways k : ℕ) (text : List ℕ) (xs : List Entry) (left next : Left) (line : List ℕ)
    (g : ReadSoFar n periods ways text xs left) (same : k ≡ next.number)
    (cut : left.lines ≡ line ∷ next.lines) (after : next.number ≡ left.number + 1) (short : length line ≤ LINE_BYTES)
  where
    next_fault : option_or (record_fault n periods ways (by_list periods xs) k (fields_of line))
        (first_fault n periods ways (with_fields ways (by_list periods xs) (fields_of line))
        (numbered_lines next.number next.lines)) ≡ fault_of n periods ways text
    next_fault =
        let B = by_list periods xs in
        ap (λ (m : ℕ). option_or (record_fault n periods ways B m (fields_of line))
        (first_fault n periods ways (with_fields ways B (fields_of line)) (numbered_lines next.number next.lines)))
        same
        ∙ ap (λ (o : Option ScheduleFault). option_or o
        (first_fault n periods ways (with_fields ways B (fields_of line)) (numbered_lines next.number next.lines)))
        (sym (short_fault n periods ways B next.number line short))
        ∙ ap (first_fault n periods ways B)
        (sym (next_is left next next.number line
        (record { lines = cut; number = after; same = refl; small = short }))) ∙ g.fault

    pub step_on : (more : List Entry) → length xs ≡ n
        → record_fault n periods ways (by_list periods xs) k (fields_of line) ≡ None
        → more ≡ entries_after ways (fields_of line) xs → ReadSoFar n periods ways text more next
    step_on more size none is =
        let B = by_list periods xs in
        let to : by_list periods more ≡ with_fields ways B (fields_of line) = ap (by_list periods) is
        ∙ noted n periods ways k xs (fields_of line) size none in
        let rest = numbered_lines next.number next.lines in
        record {
          fault =
              ap (λ (f : ℕ → Entry). first_fault n periods ways f rest) to
              ∙ ap (λ (o : Option ScheduleFault). option_or o
              (first_fault n periods ways (with_fields ways B (fields_of line)) rest)) (sym none) ∙ next_fault;
          whole =
              ap (λ (f : ℕ → Entry). with_lines ways f rest) to
              ∙ ap (with_lines ways B)
              (sym (next_is left next next.number line
              (record { lines = cut; number = after; same = refl; small = short }))) ∙ g.whole;
        }

    pub step_wrong : (x : ScheduleFault) → record_fault n periods ways (by_list periods xs) k (fields_of line) ≡ Some x
        → fault_of n periods ways text ≡ Some x
    step_wrong x wrong =
        let B = by_list periods xs in
        sym next_fault ∙ ap (λ (o : Option ScheduleFault). option_or o
        (first_fault n periods ways (with_fields ways B (fields_of line)) (numbered_lines next.number next.lines)))
        wrong
