-- The weights that a text of periods says don't rise.
use Rattle.fixed_worth.proofs.Common.{◌≡◌, ℕ, zero, suc, ◌<◌, ◌≤◌, Bool, true, false, cond, ◌&&◌, nat_le, List, [], ◌∷◌}
use Rattle.fixed_worth.proofs.Common.{length, get_or, slice_index, Option, Some, None, Result, Ok, Err, refl, sym, ap}
use Rattle.fixed_worth.proofs.Common.{subst, arith, and_parts}
use Rattle.std.proofs.lemmas.Bool.{leb-true}
use Rattle.toml.specs.Data.{Data, Members, get_member}
use Rattle.periods_file.specs.declared.keys.PeriodKey.{PeriodKey}
use Rattle.periods_file.specs.declared.keys.PeriodKey.TheVariants.{Weights, Resources, Capacities, Multipliers, Waits}
use Rattle.periods_file.specs.declared.keys.PeriodKey.TheVariants.{Lag}
use Rattle.periods_file.specs.declared.periods_fault.PeriodsFault.{PeriodsFault}
use Rattle.periods_file.specs.declared.periods_fault.PeriodsFault.TheVariants.{UnknownKey}
use Rattle.toml_values.specs.Prelude.{then_with}
use Rattle.periods_file.specs.Prelude.{PeriodsView, all_known, are_falling, are_weights, columns_of, if_holds}
use Rattle.periods_file.specs.Prelude.{is_above_first, key_name, lag_of, numbers_of, or_bad, or_given, or_none}
use Rattle.periods_file.specs.Prelude.{resources_of, rows_of, said_at, shared_of, value_said, values_in, weights_of}
use Rattle.schedules.specs.Prelude.{AreFalling}
use Rattle.schedule_engines.specs.Prelude.{ReadsPeriodsBy}

-- ---- numbers none of which is above the one before it

falling_tail : (n : ℕ) (ns : List ℕ) → are_falling (n ∷ ns) ≡ true → (is_above_first n ns ≡ true)
    × (are_falling ns ≡ true)
unfolding are_falling
falling_tail n ns h = and_parts (is_above_first n ns) (are_falling ns) h

-- the first is at least each of them
first_most : (ns : List ℕ) (n t : ℕ) → are_falling (n ∷ ns) ≡ true → t < length ns → get_or ns t 0 ≤ n
first_most [] n t h l = absurd (omega (arith, l))
first_most (m ∷ ms) n zero h l = leb-true m n (falling_tail n (m ∷ ms) h).0
first_most (m ∷ ms) n (suc t) h l =
    let x = falling_tail n (m ∷ ms) h in
    let first = leb-true m n x.0 in
    let k : t < length ms = omega (arith, l) in
    let rest = first_most ms m t x.1 k in
    omega (arith, first, rest)

falls : (ns : List ℕ) (s t : ℕ) → are_falling ns ≡ true → s ≤ t → t < length ns → get_or ns t 0 ≤ get_or ns s 0
falls [] s t h l k = absurd (omega (arith, k))
falls (n ∷ ns) zero zero h l k = omega arith
falls (n ∷ ns) zero (suc t) h l k = first_most ns n t h (omega (arith, k))
falls (n ∷ ns) (suc s) zero h l k = absurd (omega (arith, l))
falls (n ∷ ns) (suc s) (suc t) h l k = falls ns s t (falling_tail n ns h).1 (omega (arith, l)) (omega (arith, k))

-- ---- what a text says

abbrev ok_of : {A : Type 0} → A → Result A PeriodsFault → A
ok_of d (Ok x) = x
ok_of d (Err e) = d

-- a chain says something only where its first step does
with_ok : {A B : Type 0} (r : Result A PeriodsFault) (next : A → Result B PeriodsFault) (y : B)
    → then_with r next ≡ Ok y → (x : A) × (r ≡ Ok x) × (next x ≡ Ok y)
with_ok (Ok x) next y h = (x, refl, h)
with_ok (Err e) next y h = absurd cc

abbrev some_of : {A : Type 0} → A → Option A → A
some_of d (Some x) = x
some_of d None = d

if_some : {V : Type 0} (b : Bool) (vs w : List V) → cond b (Some vs) None ≡ Some w → (b ≡ true) × (vs ≡ w)
if_some true vs w h = (refl, ap (some_of vs) h)
if_some false vs w h = absurd cc

held_by : {V : Type 0} (test : List V → Bool) (o : Option (List V)) (w : List V) → if_holds test o ≡ Some w
    → test w ≡ true
held_by test (Some vs) w h = let x = if_some (test vs) vs w h in subst (λ xs. test xs ≡ true) x.1 x.0
held_by test None w h = absurd cc

good : (key : PeriodKey) (o : Option (List ℕ)) (w : List ℕ) → or_bad key o ≡ Ok w → o ≡ Some w
good key (Some v) w h = ap Some (ap (ok_of v) h)
good key None w h = absurd cc

said : (key : PeriodKey) (reads : Data → Option (List ℕ)) (o : Option Data) (w : List ℕ)
    → value_said key reads o ≡ Ok w → (d : Data) × (reads d ≡ Some w)
said key reads None w h = absurd cc
said key reads (Some d) w h = (d, good key (reads d) w h)

module _ (ways : ℕ) (ms : Members) where
  abbrev last : List ℕ → List Bool → List ℕ → List ℕ → Option (List ℕ) → List ℕ → ℕ → Result PeriodsView PeriodsFault
  last w f r c m s l = Ok (record
      { weights = w; resources = r; shared = f; capacities = c; multipliers = m; waits = s; lag = l })

  abbrev fifth : List ℕ → List Bool → List ℕ → List ℕ → Option (List ℕ) → List ℕ → Result PeriodsView PeriodsFault
  fifth w f r c m s = then_with (or_given 1 (said_at Lag lag_of ms)) (last w f r c m s)

  abbrev fourth : List ℕ → List Bool → List ℕ → List ℕ → Option (List ℕ) → Result PeriodsView PeriodsFault
  fourth w f r c m = then_with (or_given [] (said_at Waits columns_of ms)) (fifth w f r c m)

  abbrev third : List ℕ → List Bool → List ℕ → List ℕ → Result PeriodsView PeriodsFault
  third w f r c = then_with (or_none (said_at Multipliers (rows_of 1000000000000000 (length f) (length w)) ms))
      (fourth w f r c)

  abbrev second : List ℕ → List Bool → List ℕ → Result PeriodsView PeriodsFault
  second w f r = then_with (said_at Capacities (rows_of 1000000000000 (length f) (length w)) ms) (third w f r)

  abbrev columns : List ℕ → List Bool → Result PeriodsView PeriodsFault
  columns w f = then_with (said_at Resources (resources_of ways (length f)) ms) (second w f)

  abbrev first : List ℕ → Result PeriodsView PeriodsFault
  first w = then_with (said_at Resources shared_of ms) (columns w)

  in_last : (p : PeriodsView) (w : List ℕ) (f : List Bool) (r c : List ℕ) (m : Option (List ℕ)) (s : List ℕ) (l : ℕ)
      → last w f r c m s l ≡ Ok p → p.weights ≡ w
  in_last p w f r c m s l h = sym (ap (λ (q : PeriodsView). q.weights) (ap (ok_of p) h))

  in_fifth : (p : PeriodsView) (w : List ℕ) (f : List Bool) (r c : List ℕ) (m : Option (List ℕ)) (s : List ℕ)
      → fifth w f r c m s ≡ Ok p → p.weights ≡ w
  in_fifth p w f r c m s h = let x = with_ok (or_given 1 (said_at Lag lag_of ms)) (last w f r c m s) p h in in_last p
      w f r c m s x.0 x.2

  in_fourth : (p : PeriodsView) (w : List ℕ) (f : List Bool) (r c : List ℕ) (m : Option (List ℕ))
      → fourth w f r c m ≡ Ok p → p.weights ≡ w
  in_fourth p w f r c m h = let x = with_ok (or_given [] (said_at Waits columns_of ms)) (fifth w f r c m) p h in
      in_fifth p w f r c m x.0 x.2

  in_third : (p : PeriodsView) (w : List ℕ) (f : List Bool) (r c : List ℕ) → third w f r c ≡ Ok p → p.weights ≡ w
  in_third p w f r c h = let x = with_ok
      (or_none (said_at Multipliers (rows_of 1000000000000000 (length f) (length w)) ms)) (fourth w f r c) p h in
      in_fourth p w f r c x.0 x.2

  in_second : (p : PeriodsView) (w : List ℕ) (f : List Bool) (r : List ℕ) → second w f r ≡ Ok p → p.weights ≡ w
  in_second p w f r h = let x = with_ok (said_at Capacities (rows_of 1000000000000 (length f) (length w)) ms)
      (third w f r) p h in in_third p w f r x.0 x.2

  in_columns : (p : PeriodsView) (w : List ℕ) (f : List Bool) → columns w f ≡ Ok p → p.weights ≡ w
  in_columns p w f h = let x = with_ok (said_at Resources (resources_of ways (length f)) ms) (second w f) p h in
      in_second p w f x.0 x.2

  in_first : (p : PeriodsView) (w : List ℕ) → first w ≡ Ok p → p.weights ≡ w
  in_first p w h = let x = with_ok (said_at Resources shared_of ms) (columns w) p h in in_columns p w x.0 x.2

  weights_said : (p : PeriodsView) → values_in ways ms ≡ Ok p → are_falling p.weights ≡ true
  weights_said p h =
      let x = with_ok (said_at Weights weights_of ms) first p h in
      let read = said Weights weights_of (get_member (key_name Weights) ms) x.0 x.1 in
      let all = held_by are_weights (numbers_of 1000000 read.0) x.0 read.1 in
      let ok = (and_parts (nat_le 1 (length x.0) && nat_le (length x.0) 1000) (are_falling x.0) all).1 in
      subst (λ ws. are_falling ws ≡ true) (sym (in_first p x.0 x.2)) ok

known_ok : (b : Bool) (r : Result PeriodsView PeriodsFault) (p : PeriodsView) → cond b r (Err UnknownKey) ≡ Ok p
    → r ≡ Ok p
known_ok true r p h = h
known_ok false r p h = absurd cc

pub are_falling_weights : (ways : ℕ) (text : List ℕ) (p : PeriodsView) → ReadsPeriodsBy ways text p
    → AreFalling (length p.weights) (slice_index p.weights)
are_falling_weights ways text p r =
    let says = r.1 in
    let known = weights_said ways says.0 p (known_ok (all_known says.0) (values_in ways says.0) p says.2) in
    record { falls = λ s t l k. falls p.weights s t known l k }
