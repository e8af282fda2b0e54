-- What is wrong with a record by itself.
use Rattle.fixed_worth.proofs.Common.{◌≡◌, ℕ, suc, ◌<◌, ◌≤◌, Bool, true, false, ltb, List, [], ◌∷◌, length, map, take}
use Rattle.fixed_worth.proofs.Common.{drop, Option, Some, None, Result, Ok, Err, refl, sym, ap, arith, ◌||◌, nat_le}
use Rattle.fixed_worth.proofs.Common.{is_ok, list_all, list_any, result_unwrap_or, nat_tests, length-map, common_steps}
use Rattle.fixed_worth.specs.Prelude.{WordRun, whole_of, first_whole, reads, number_of, is_remark, is_skipped}
use Rattle.fixed_worth.specs.declared.numerals.NumberFault.{NumberFault}
use Rattle.prec_file.specs.declared.prec_fault.PrecFault.{PrecFault}
use Rattle.prec_file.specs.declared.prec_fault.PrecFault.TheVariants.{Text, Number, UnknownBlock}
use Rattle.fixed_worth.proofs.FirstNumbers.{first_is, no_field, number_no_remark}
use Rattle.prec_file.specs.Prelude.{pairs_in, shape_fault, UnlessMemory, TellsFault}

-- what is known of a fault that was told
pub unless_told : (e : PrecFault) (o : Option PrecFault) {Q : Type 0} → (o ≡ Some e → Q) → TellsFault e o
    → UnlessMemory e Q
unless_told e o f h = grind (arith, common_steps)

pub reads_ok : (f : List ℕ) (v : ℕ) → Ok v ≡ whole_of f → (reads f ≡ true) × (number_of f ≡ v)
reads_ok f v e = (ap is_ok (sym e), ap (λ r. result_unwrap_or r 0) (sym e))

pub reads_err : (f : List ℕ) (d : NumberFault) → Err d ≡ whole_of f → reads f ≡ false
reads_err f d e = ap is_ok (sym e)

-- the texts of fields
abbrev pub texts : List WordRun → List (List ℕ)
texts rs = map (λ r. r.text) rs

two : (k : ℕ) → ltb (suc (suc k)) 2 ≡ false
two k = grind (arith, nat_tests)

abbrev pub Wrong : ℕ → ℕ → List (List ℕ) → PrecFault → Type 0
Wrong n line fs e = (is_skipped fs ≡ false) × (shape_fault n line fs ≡ Some e)

pub too_few : (n line : ℕ) (fs : List (List ℕ)) (f : List ℕ) → fs ≡ f ∷ [] → is_remark f ≡ false
    → Wrong n line fs (Text line)
unfolding shape_fault
too_few n line fs f e m = rw e (m, refl)

pub bad_first : (n line : ℕ) (fs : List (List ℕ)) (f g : List ℕ) (gs : List (List ℕ)) → fs ≡ f ∷ g ∷ gs
    → is_remark f ≡ false → reads f ≡ false → Wrong n line fs (Number line)
unfolding shape_fault
bad_first n line fs f g gs e m r = rw e (m, rw (two (length gs), r) refl)

pub bad_second : (n line : ℕ) (fs : List (List ℕ)) (f g : List ℕ) (gs : List (List ℕ)) → fs ≡ f ∷ g ∷ gs
    → is_remark f ≡ false → reads f ≡ true → reads g ≡ false → Wrong n line fs (Number line)
unfolding shape_fault
bad_second n line fs f g gs e m r s = rw e (m, rw (two (length gs), r, s) refl)

pub bad_rest : (n line : ℕ) (fs : List (List ℕ)) (f g : List ℕ) (gs : List (List ℕ)) → fs ≡ f ∷ g ∷ gs
    → is_remark f ≡ false → reads f ≡ true → reads g ≡ true → list_all reads gs ≡ false → Wrong n line fs (Number line)
unfolding shape_fault
bad_rest n line fs f g gs e m r s t = rw e (m, rw (two (length gs), r, s, t) refl)

pub unknown : (n line v : ℕ) (fs : List (List ℕ)) (f g : List ℕ) (gs : List (List ℕ)) → fs ≡ f ∷ g ∷ gs
    → is_remark f ≡ false → reads f ≡ true → number_of f ≡ v → reads g ≡ true → list_all reads gs ≡ true
    → (nat_le n v || list_any (nat_le n) (map number_of gs)) ≡ true → Wrong n line fs (UnknownBlock line)
unfolding shape_fault
unknown n line v fs f g gs e m r k s t u = grind (arith, common_steps)

pub sound : (n line v : ℕ) (fs : List (List ℕ)) (f g : List ℕ) (gs : List (List ℕ)) → fs ≡ f ∷ g ∷ gs
    → is_remark f ≡ false → reads f ≡ true → number_of f ≡ v → reads g ≡ true → list_all reads gs ≡ true
    → (nat_le n v || list_any (nat_le n) (map number_of gs)) ≡ false → (is_skipped fs ≡ false)
    × (shape_fault n line fs ≡ None)
unfolding shape_fault
sound n line v fs f g gs e m r k s t u = grind (arith, common_steps)

pub known : (n v : ℕ) (b : Bool) → (nat_le n v || b) ≡ false → v < n
known n v b h = grind (arith, nat_tests)

pub texts_length : (rs : List WordRun) → length (map number_of (map (λ r. r.text) rs)) ≡ length rs
texts_length rs = simp length-map

pub pairs_at : (v : ℕ) (fs : List (List ℕ)) (f g : List ℕ) (gs : List (List ℕ)) → fs ≡ f ∷ g ∷ gs
    → is_remark f ≡ false → number_of f ≡ v → pairs_in fs ≡ map (λ p. (v, p)) (map number_of gs)
pairs_at v fs f g gs e m k = rw (e, m) (ap (λ (w : ℕ). map (λ p. (w, p)) (map number_of gs)) k)

-- The fields of a line of which two were read as numbers, or one and no second one was there.
pub one_read : (rs ss : List WordRun) (v : ℕ) → Some (Ok v) ≡ first_whole rs → ss ≡ drop 1 rs → None ≡ first_whole ss
    → (f : List ℕ) × (texts rs ≡ f ∷ []) × (reads f ≡ true)
one_read rs ss v a left b = grind (arith, common_steps, first_is, no_field, texts, reads_ok)

pub record TwoRead (rs ts : List WordRun) (v : ℕ) (read : Result ℕ NumberFault) : Type 0 where
  pub block : List ℕ
  pub count : List ℕ
  pub fields : texts rs ≡ block ∷ count ∷ texts ts
  pub good : reads block ≡ true
  pub value : number_of block ≡ v
  pub second : read ≡ whole_of count
  pub plain : is_remark block ≡ false
  pub fewer : length ts ≤ length rs

pub two_read : (rs ss ts : List WordRun) (v : ℕ) (read : Result ℕ NumberFault) → Some (Ok v) ≡ first_whole rs
    → ss ≡ drop 1 rs → Some read ≡ first_whole ss → ts ≡ drop 1 ss → TwoRead rs ts v read
two_read rs ss ts v read a left b beyond = grind (arith, common_steps, first_is, reads_ok, texts, number_no_remark)

unread : (f : List ℕ) (fs gs : List (List ℕ)) → fs ≡ f ∷ gs → list_all reads (take 1 fs) ≡ false → (t : Bool)
    → reads f ≡ t → reads f ≡ false
unread f fs gs e h t r = grind (arith, common_steps)

-- What is wrong with a line whose first field is no number.
pub unread_alone : (line : ℕ) (fs : List (List ℕ)) (f : List ℕ) → fs ≡ f ∷ [] → is_remark f ≡ false
    → (is_skipped fs ≡ false) × ((n : ℕ) → shape_fault n line fs ≡ Some (Text line))
unread_alone line fs f e m = ((too_few 0 line fs f e m).0, λ n. (too_few n line fs f e m).1)

pub unread_first : (line : ℕ) (fs : List (List ℕ)) (f g : List ℕ) (gs : List (List ℕ)) → fs ≡ f ∷ g ∷ gs
    → is_remark f ≡ false → list_all reads (take 1 fs) ≡ false → (is_skipped fs ≡ false)
    × ((n : ℕ) → shape_fault n line fs ≡ Some (Number line))
unread_first line fs f g gs e m h =
    let r = unread f fs (g ∷ gs) e h (reads f) refl in
    ((bad_first 0 line fs f g gs e m r).0, λ n. (bad_first n line fs f g gs e m r).1)
