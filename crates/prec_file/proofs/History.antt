-- What is wrong with a record, given the records before it.
use Rattle.fixed_worth.proofs.Common.{◌≡◌, ℕ, ◌+◌, ◌<◌, ◌≤◌, ◌≢◌, Bool, true, false, cond, not, List, length, Option}
use Rattle.fixed_worth.proofs.Common.{Some, None, refl, ap, arith, nat_le, nat_lt, list_all, list_any, length-map}
use Rattle.fixed_worth.proofs.Common.{option_or, common_steps}
use Rattle.prec_file.specs.declared.limits.TheConstants.{MOST_PAIRS}
use Rattle.prec_file.specs.declared.prec_fault.PrecFault.{PrecFault}
use Rattle.prec_file.specs.declared.prec_fault.PrecFault.TheVariants.{Text, Number, UnknownBlock, Repeated, WrongCount}
use Rattle.prec_file.specs.declared.prec_fault.PrecFault.TheVariants.{TooMany, NoMemory}
use Rattle.fixed_worth.specs.Prelude.{reads, is_skipped, block_of}
use Rattle.prec_file.specs.Prelude.{predecessor_count_of, predecessors_of, pairs_in, shape_fault, history_fault}
use Rattle.prec_file.specs.Prelude.{record_fault, TellsFault}
use Rattle.prec_file.proofs.Shapes.{known}

-- A record with no fault of its own has a known block.
pub third : (a b c : Bool) (x y z : PrecFault) → cond a (Some x) (cond b (Some y) (cond c (Some z) None)) ≡ None
    → c ≡ false
third a b c x y z h = grind (arith, common_steps)

pub shape_block : (n line : ℕ) (fs : List (List ℕ)) → shape_fault n line fs ≡ None → block_of fs < n
unfolding shape_fault
shape_block n line fs h = known n (block_of fs) (list_any (nat_le n) (predecessors_of fs))
    (third (nat_lt (length fs) 2) (not (list_all reads fs)) _ (Text line) (Number line) (UnknownBlock line) h)

pub history_same : (g h : ℕ → Bool) (k line : ℕ) (fs : List (List ℕ)) → g (block_of fs) ≡ h (block_of fs)
    → history_fault g k line fs ≡ history_fault h k line fs
unfolding history_fault
history_same g h k line fs e = rw e refl

pub record_same : (n : ℕ) (g h : ℕ → Bool) (k line : ℕ) (fs : List (List ℕ)) → ((b : ℕ) → b < n → g b ≡ h b)
    → record_fault n g k line fs ≡ record_fault n h k line fs
record_same n g h k line fs e = ap (cond (is_skipped fs) None) (grind (arith, common_steps, history_same, shape_block))

pub or_none : {F : Type 0} (a b : Option F) → option_or a b ≡ None → a ≡ None
or_none a b h = grind (arith, common_steps)

pub none_after : (s : Bool) (o : Option PrecFault) → cond s None o ≡ None → s ≡ false → o ≡ None
none_after s o h f = grind (arith, common_steps)

pub record_block : (n : ℕ) (had : ℕ → Bool) (k line : ℕ) (fs : List (List ℕ)) → record_fault n had k line fs ≡ None
    → is_skipped fs ≡ false → block_of fs < n
record_block n had k line fs h s = shape_block n line fs
    (or_none (shape_fault n line fs) (history_fault had k line fs) (none_after (is_skipped fs) _ h s))

-- Want of memory is no fault of a record.
never : (a b c : Bool) (line : ℕ)
    → cond a (Some (Text line)) (cond b (Some (Number line)) (cond c (Some (UnknownBlock line)) None)) ≡ Some NoMemory
    → ⊥
never a b c line h = grind (arith, common_steps)

not_memory : (n line : ℕ) (fs : List (List ℕ)) → shape_fault n line fs ≡ Some NoMemory → ⊥
unfolding shape_fault
not_memory n line fs h = never _ _ _ line h

-- The fault of a record by itself is told as it is.
pub told : (n : ℕ) (had : ℕ → Bool) (k line : ℕ) (fs : List (List ℕ)) (e : PrecFault) → is_skipped fs ≡ false
    → shape_fault n line fs ≡ Some e → TellsFault e (record_fault n had k line fs)
told n had k line fs e s f = grind (arith, common_steps, not_memory)

-- The faults that stand on the records before.
pub repeated : (n : ℕ) (had : ℕ → Bool) (k line b : ℕ) (fs : List (List ℕ)) → is_skipped fs ≡ false
    → shape_fault n line fs ≡ None → b ≡ block_of fs → had b ≡ true
    → record_fault n had k line fs ≡ Some (Repeated line)
unfolding history_fault
repeated n had k line b fs s f e h = grind (arith, common_steps)

pub wrong_count : (n : ℕ) (had : ℕ → Bool) (k line b count found : ℕ) (fs : List (List ℕ)) → is_skipped fs ≡ false
    → shape_fault n line fs ≡ None → b ≡ block_of fs → had b ≡ false
    → count ≡ predecessor_count_of fs → found ≡ length (predecessors_of fs) → count ≢ found
    → record_fault n had k line fs ≡ Some (WrongCount line)
unfolding history_fault
wrong_count n had k line b count found fs s f e h p q ne = grind (arith, common_steps)

pub too_many : (n : ℕ) (had : ℕ → Bool) (k line b count found : ℕ) (fs : List (List ℕ)) → is_skipped fs ≡ false
    → shape_fault n line fs ≡ None → b ≡ block_of fs → had b ≡ false
    → count ≡ predecessor_count_of fs → found ≡ length (predecessors_of fs) → count ≡ found → MOST_PAIRS < k + found
    → record_fault n had k line fs ≡ Some (TooMany line)
unfolding history_fault
too_many n had k line b count found fs s f e h p q same large = grind (arith, common_steps)

pub no_fault : (n : ℕ) (had : ℕ → Bool) (k line b count found : ℕ) (fs : List (List ℕ)) → is_skipped fs ≡ false
    → shape_fault n line fs ≡ None → b ≡ block_of fs → had b ≡ false
    → count ≡ predecessor_count_of fs → found ≡ length (predecessors_of fs) → count ≡ found → k + found ≤ MOST_PAIRS
    → record_fault n had k line fs ≡ None
unfolding history_fault
no_fault n had k line b count found fs s f e h p q same few = grind (arith, common_steps)

pub pairs_length : (fs : List (List ℕ)) → is_skipped fs ≡ false → length (pairs_in fs) ≡ length (predecessors_of fs)
pairs_length fs s = rw s (length-map (predecessors_of fs) (λ p. (block_of fs, p)))
