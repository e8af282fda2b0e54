-- A text of blocks without a fault has none where fewer of the columns are chosen.
use Rattle.fixed_worth.proofs.Common.{◌≡◌, ℕ, Bool, true, false, cond, not, ◌||◌, ◌&&◌, nat_lt, List, [], ◌∷◌, ◌++◌}
use Rattle.fixed_worth.proofs.Common.{length, refl, Option, Some, None, option_or, list_any}
use Rattle.fixed_worth.specs.Prelude.{fields_of, Line, is_skipped, block_of, lines_in}
use Rattle.blocks_file.specs.declared.blocks_fault.BlocksFault.{BlocksFault}
use Rattle.blocks_file.specs.declared.blocks_fault.BlocksFault.TheVariants.{Number, NoColumn}
use Rattle.blocks_file.specs.Records.{head_reads, is_bad, are_there, blocks_shape_fault, blocks_block_fault}
use Rattle.blocks_file.specs.Records.{blocks_record_fault, has_place_record, first_blocks_fault, early_fault}
use Rattle.blocks_file.specs.Records.{record_count_of, blocks_fault_of}
use Rattle.upit_file.proofs.Names.{none_parts}

-- columns are as good as others, of which they are some: none of them is bad, and all are there, where so it is of the
-- others
pub record AreSomeOf (fewer chosen : List ℕ) : Type 0 where
  pub good : (columns : List (List ℕ)) → list_any (is_bad columns) chosen ≡ false
      → list_any (is_bad columns) fewer ≡ false
  pub there : (count : ℕ) → are_there chosen count ≡ true → are_there fewer count ≡ true

none_of : {X : Type 0} → (a b : Option X) → a ≡ None → b ≡ None → option_or a b ≡ None
none_of None b h k = k
none_of (Some x) b h k = absurd cc

shape_step : (line : ℕ) (heads bad there bad' there' : Bool) → (bad ≡ false → bad' ≡ false)
    → (there ≡ true → there' ≡ true)
    → cond (not heads || bad) (Some (Number line)) (cond (not there) (Some (NoColumn line)) None) ≡ None
    → cond (not heads || bad') (Some (Number line)) (cond (not there') (Some (NoColumn line)) None) ≡ None
shape_step line true false true bad' there' f g h = rw (f refl, g refl) refl
shape_step line heads bad there bad' there' f g h = absurd cc

record_step : (skipped : Bool) (a b c : Option BlocksFault) → (a ≡ None → b ≡ None)
    → cond skipped None (option_or a c) ≡ None → cond skipped None (option_or b c) ≡ None
record_step true a b c f h = refl
record_step false a b c f h = let p = none_parts a c h in none_of b c (f p.0) p.1

module _ (fewer chosen : List ℕ) (some : AreSomeOf fewer chosen) where
  shape_unfaulted : (line : ℕ) (fields : List (List ℕ)) → blocks_shape_fault line chosen fields ≡ None
      → blocks_shape_fault line fewer fields ≡ None
  shape_unfaulted line [] h = h
  shape_unfaulted line (block ∷ []) h = h
  shape_unfaulted line (block ∷ x ∷ []) h = h
  shape_unfaulted line (block ∷ x ∷ y ∷ []) h = h
  shape_unfaulted line (block ∷ x ∷ y ∷ z ∷ columns) h = shape_step line (head_reads block x y z)
      (list_any (is_bad columns) chosen) (are_there chosen (length columns)) (list_any (is_bad columns) fewer)
      (are_there fewer (length columns)) (some.good columns) (some.there (length columns)) h

  record_unfaulted : (n : ℕ) (had : ℕ → Bool) (line : ℕ) (fields : List (List ℕ))
      → blocks_record_fault n chosen had line fields ≡ None → blocks_record_fault n fewer had line fields ≡ None
  record_unfaulted n had line fields h = record_step (is_skipped fields) (blocks_shape_fault line chosen fields)
      (blocks_shape_fault line fewer fields) (blocks_block_fault n had line (block_of fields))
      (shape_unfaulted line fields) h

  lines_unfaulted : (n : ℕ) (before lines : List Line) → first_blocks_fault n chosen before lines ≡ None
      → first_blocks_fault n fewer before lines ≡ None
  lines_unfaulted n before [] h = refl
  lines_unfaulted n before (l ∷ lines) h =
      let p = none_parts (blocks_record_fault n chosen (has_place_record before) l.number (fields_of l.text))
      (first_blocks_fault n chosen (before ++ l ∷ []) lines) h in
      none_of _ _ (record_unfaulted n (has_place_record before) l.number (fields_of l.text) p.0)
      (lines_unfaulted n (before ++ l ∷ []) lines p.1)

  pub unfaulted : (text : List ℕ) → blocks_fault_of chosen text ≡ None → blocks_fault_of fewer text ≡ None
  unfaulted text h =
      let p = none_parts (early_fault (lines_in text))
      (first_blocks_fault (record_count_of text) chosen [] (lines_in text)) h in
      none_of _ _ p.0 (lines_unfaulted (record_count_of text) [] (lines_in text) p.1)

-- ---- the first of some columns

any_step : (s a b : Bool) → (a ≡ false → b ≡ false) → (s || a) ≡ false → (s || b) ≡ false
any_step true a b f h = h
any_step false a b f h = f h

all_step : (s a b : Bool) → (a ≡ true → b ≡ true) → (s && a) ≡ true → (s && b) ≡ true
all_step true a b f h = f h
all_step false a b f h = h

none_in_front : (f : ℕ → Bool) (xs ys : List ℕ) → list_any f (xs ++ ys) ≡ false → list_any f xs ≡ false
none_in_front f [] ys h = refl
none_in_front f (x ∷ xs) ys h = any_step (f x) (list_any f (xs ++ ys)) (list_any f xs) (none_in_front f xs ys) h

front_there : (count : ℕ) (xs ys : List ℕ) → are_there (xs ++ ys) count ≡ true → are_there xs count ≡ true
front_there count [] ys h = refl
front_there count (x ∷ xs) ys h = all_step (nat_lt x count) (are_there (xs ++ ys) count) (are_there xs count)
    (front_there count xs ys) h

pub front_of : (xs ys : List ℕ) → AreSomeOf xs (xs ++ ys)
front_of xs ys = record {
  good = λ columns h. none_in_front (is_bad columns) xs ys h;
  there = λ count h. front_there
      count xs ys h;
}

-- ---- all but one of some columns

any_tail : (s a : Bool) → (s || a) ≡ false → a ≡ false
any_tail true a h = absurd cc
any_tail false a h = h

all_tail : (s a : Bool) → (s && a) ≡ true → a ≡ true
all_tail true a h = h
all_tail false a h = absurd cc

none_without : (f : ℕ → Bool) (xs : List ℕ) (y : ℕ) (zs : List ℕ) → list_any f (xs ++ (y ∷ zs)) ≡ false
    → list_any f (xs ++ zs) ≡ false
none_without f [] y zs h = any_tail (f y) (list_any f zs) h
none_without f (x ∷ xs) y zs h = any_step (f x) (list_any f (xs ++ (y ∷ zs))) (list_any f (xs ++ zs))
    (none_without f xs y zs) h

there_without : (count : ℕ) (xs : List ℕ) (y : ℕ) (zs : List ℕ) → are_there (xs ++ (y ∷ zs)) count ≡ true
    → are_there (xs ++ zs) count ≡ true
there_without count [] y zs h = all_tail (nat_lt y count) (are_there zs count) h
there_without count (x ∷ xs) y zs h = all_step (nat_lt x count) (are_there (xs ++ (y ∷ zs)) count)
    (are_there (xs ++ zs) count) (there_without count xs y zs) h

pub all_but : (xs : List ℕ) (y : ℕ) (zs : List ℕ) → AreSomeOf (xs ++ zs) (xs ++ (y ∷ zs))
all_but xs y zs = record
    { good = λ columns h. none_without (is_bad columns) xs y zs h; there = λ count h. there_without count xs y zs h }
