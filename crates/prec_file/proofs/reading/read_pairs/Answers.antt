use Rattle.fixed_worth.proofs.Common.{List, Bool, length, ap, sym, subst, ◌∙◌, ◌≡◌, ℕ, ◌<◌, true, false, not, [], ◌∷◌}
use Rattle.fixed_worth.proofs.Common.{◌++◌, None, refl, arith, err_from_is_err_and, ◌||◌, nat_le, nat_lt, All, list_all}
use Rattle.fixed_worth.proofs.Common.{list_any, nat_tests, All-nil, All-cons, All-map, All-weaker, All-append}
use Rattle.prec_file.proofs.Shapes.{unless_told}
use Rattle.prec_file.proofs.Progress.{ReadSoFar, step_on, step_wrong}
use Rattle.fixed_worth.proofs.Lent.{written_back}
use Rattle.fixed_worth.specs.Prelude.{fields_of, reads, is_skipped, block_of}
use Rattle.prec_file.proofs.reading.read_pairs.Goals as goal
use Rattle.prec_file.specs.declared.prec_fault.PrecFault.TheVariants.{Text, Number, UnknownBlock}
use Rattle.prec_file.specs.Prelude.{predecessors_of, pairs_in, shape_fault, history_fault, record_fault, IsKnown}
use Rattle.prec_file.proofs.History.{third, shape_block, or_none, none_after}

-- The pairs of a record without fault are of known blocks.
or_parts : (a b : Bool) → (a || b) ≡ false → (a ≡ false) × (b ≡ false)
or_parts true b h = absurd cc
or_parts false b h = (refl, h)

none_large : (n : ℕ) (ps : List ℕ) → list_any (nat_le n) ps ≡ false → All (λ p. p < n) ps
none_large n [] h = All-nil (λ p. p < n)
none_large n (p ∷ ps) h =
    let q = or_parts (nat_le n p) (list_any (nat_le n) ps) h in
    All-cons (λ p. p < n) p ps (grind (arith, nat_tests)) (none_large n ps q.1)

known_pairs : (n : ℕ) (had : ℕ → Bool) (k line : ℕ) (fs : List (List ℕ)) → record_fault n had k line fs ≡ None
    → (s : Bool) → is_skipped fs ≡ s → All (IsKnown n) (pairs_in fs)
unfolding shape_fault
known_pairs n had k line fs h true s = rw s (All-nil (IsKnown n))
known_pairs n had k line fs h false s =
    let f = or_none (shape_fault n line fs) (history_fault had k line fs) (none_after (is_skipped fs) _ h s) in
    let q = or_parts (nat_le n (block_of fs)) (list_any (nat_le n) (predecessors_of fs))
    (third (nat_lt (length fs) 2) (not (list_all reads fs)) _ (Text line) (Number line) (UnknownBlock line) f) in
    let b : block_of fs < n = shape_block n line fs f in
    rw s (All-map (IsKnown n) (λ p. (block_of fs, p)) (predecessors_of fs)
    (All-weaker (λ p. p < n) (λ p. IsKnown n (block_of fs, p)) (λ p l. (b, l)) (predecessors_of fs)
    (none_large n (predecessors_of fs) q.1)))

more_known : (n : ℕ) (had : ℕ → Bool) (k line : ℕ) (fs : List (List ℕ)) (ps qs : List (ℕ × ℕ))
    → record_fault n had k line fs ≡ None → All (IsKnown n) ps → qs ≡ ps ++ pairs_in fs → All (IsKnown n) qs
more_known n had k line fs ps qs h a e =
    let P : List (ℕ × ℕ) → Type 0 = λ xs. All (IsKnown n) xs in
    subst P (sym e) (All-append (IsKnown n) ps (pairs_in fs) a (known_pairs n had k line fs h (is_skipped fs) refl))

pub loop-line-preserved : goal.loop-line-preserved
loop-line-preserved c =
    let q = rw c.in-Ok-Some.field-0-is at c.in-Ok-Some.ensures in
    let r = c.in_ok-read_line-in-Ok-Some.ensures in
    let lent = c.as_mut_slice.ensures.value in
    let same = c.read_line.auto.seen ∙ ap length lent in
    let back = written_back c.read_line.new.seen c.loop-line.seen.items c.loop-line.seen.len same
    c.loop-line.seen.ok.0 in
    let g = subst (λ (xs : List Bool). ReadSoFar c.args.n c.args.text.now xs c.loop-line.pairs.items
    c.loop-line.lines) (sym lent) c.loop-line.invariant.going in
    record {
      going = subst (λ (xs : List Bool). ReadSoFar c.args.n c.args.text.now xs c.read_line.new.pairs.items
          c.next_line.new.self) (sym back)
          (step_on c.args.n c.number-number.result c.args.text.now c.as_mut_slice.result.now c.read_line.new.seen
          c.loop-line.pairs.items c.read_line.new.pairs.items c.loop-line.lines c.next_line.new.self
          c.in-Ok-Some.line.now
          g (ap length lent ∙ c.loop-line.invariant.all) c.number-number.ensures.value q.1 q.2 q.0 r.0 r.1 r.3);
      all = ap length back ∙ same ∙ c.loop-line.invariant.all;
      room = r.2;
      free = r.4;
      known = more_known c.args.n _ (length c.loop-line.pairs.items) c.number-number.result
          (fields_of c.in-Ok-Some.line.now) c.loop-line.pairs.items c.read_line.new.pairs.items r.0
          c.loop-line.invariant.known r.1;
    }

pub returns-in_err-read_line-in-Ok-Some : goal.returns-in_err-read_line-in-Ok-Some
returns-in_err-read_line-in-Ok-Some c =
    let q = rw c.in-Ok-Some.field-0-is at c.in-Ok-Some.ensures in
    let lent = c.as_mut_slice.ensures.value in
    let g = subst (λ (xs : List Bool). ReadSoFar c.args.n c.args.text.now xs c.loop-line.pairs.items
    c.loop-line.lines) (sym lent) c.loop-line.invariant.going in
    let fault = c.in_err-read_line-in-Ok-Some.field-0.0 in
    let p = err_from_is_err_and c.from_residual-in_err-read_line-in-Ok-Some.result
    c.from_residual-in_err-read_line-in-Ok-Some.ensures.1 in
    rw (p.1, p.2) (unless_told fault _
    (λ w. step_wrong c.args.n c.number-number.result c.args.text.now c.as_mut_slice.result.now
    c.loop-line.pairs.items c.loop-line.lines c.next_line.new.self c.in-Ok-Some.line.now fault
    g c.number-number.ensures.value q.1 q.2 q.0 w) c.in_err-read_line-in-Ok-Some.ensures)
