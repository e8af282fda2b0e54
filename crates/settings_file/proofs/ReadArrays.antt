-- Arrays of values, read one after another.
use Rattle.fixed_worth.proofs.Common.{◌≡◌, ◌≢◌, ℕ, ◌<◌, ◌+◌, List, [], ◌∷◌, ◌++◌, length, drop, get_or, Option, Some}
use Rattle.fixed_worth.proofs.Common.{None, refl, ap, ◌∙◌, sym, append_assoc, arith, ◌≤◌, ◌&&◌, true, false, nat_lt}
use Rattle.fixed_worth.proofs.Common.{slice_get, same_Some, lt-ltb, le-ltb, append-nil}
use Rattle.toml.specs.Data.{Data}
use Rattle.toml.specs.View.{view, items_view}
use Rattle.toml.specs.declared.value.Value.{Value}
use Rattle.toml.proofs.Views.{items_view-drop}
use Rattle.settings_file.specs.Prelude.{put_first, all_read, offset_of_items, is_below_first, are_ascending}

-- what follows those already read
abbrev pub after : {V : Type 0} → List V → Option (List V) → Option (List V)
after xs (Some ys) = Some (xs ++ ys)
after xs None = None

module _ {V : Type 0} where
  after_one : (xs : List V) (v : V) (o : Option (List V)) → after xs (put_first (Some v) o) ≡ after (xs ++ v ∷ []) o
  after_one xs v (Some ys) = ap Some (sym (append_assoc xs (v ∷ []) ys))
  after_one xs v None = refl

  module _ (reads : Data → Option V) where
    -- the items from a place on
    pub all_read-drop : (vs : List Value) (i : ℕ) (d : Value) → i < length vs
        → all_read reads (items_view (drop i vs)) ≡ put_first (reads (view (get_or vs i d)))
        (all_read reads (items_view (drop (i + 1) vs)))
    unfolding all_read
    all_read-drop vs i d h = ap (all_read reads) (items_view-drop vs i d h)

    -- one more is read
    pub read-next : (vs : List Value) (xs : List V) (i : ℕ) (d : Value) (v : V) → i < length vs
        → reads (view (get_or vs i d)) ≡ Some v
        → all_read reads (items_view vs) ≡ after xs (all_read reads (items_view (drop i vs)))
        → all_read reads (items_view vs) ≡ after (xs ++ v ∷ []) (all_read reads (items_view (drop (i + 1) vs)))
    read-next vs xs i d v h e all = all
        ∙ ap (after xs) (all_read-drop vs i d h
        ∙ ap (λ o. put_first o (all_read reads (items_view (drop (i + 1) vs)))) e) ∙ after_one xs v _

    -- one doesn't read
    pub read-bad : (vs : List Value) (xs : List V) (i : ℕ) (d : Value) → i < length vs
        → reads (view (get_or vs i d)) ≡ None
        → all_read reads (items_view vs) ≡ after xs (all_read reads (items_view (drop i vs)))
        → all_read reads (items_view vs) ≡ None
    read-bad vs xs i d h e all = all
        ∙ ap (after xs) (all_read-drop vs i d h
        ∙ ap (λ o. put_first o (all_read reads (items_view (drop (i + 1) vs)))) e)

    -- all are read
    pub read-end : (vs : List Value) (xs : List V) (i : ℕ) → drop i vs ≡ []
        → all_read reads (items_view vs) ≡ after xs (all_read reads (items_view (drop i vs)))
        → all_read reads (items_view vs) ≡ Some xs
    unfolding all_read
    read-end vs xs i e all = all ∙ ap (λ l. after xs (all_read reads (items_view l))) e ∙ ap Some (append-nil xs)

-- three values or none
pub not-three : (vs : List Value) → length vs ≢ 3 → offset_of_items (Some (items_view vs)) ≡ None
not-three (a ∷ b ∷ c ∷ []) h = absurd (h refl)
not-three _ h = refl

pub below_first-Some : (a s : ℕ) (ns : List ℕ) → Some s ≡ slice_get ns 0 → is_below_first a ns ≡ nat_lt a s
below_first-Some a s [] h = absurd cc
below_first-Some a s (b ∷ ns) h = ap (nat_lt a) (sym (same_Some _ _ h))

pub below_first-None : (a : ℕ) (ns : List ℕ) → None ≡ slice_get ns 0 → is_below_first a ns ≡ true
below_first-None a [] h = refl
below_first-None a (b ∷ ns) h = absurd cc

pub ascending-cons : (a : ℕ) (ns rest : List ℕ) → rest ≡ a ∷ ns
    → are_ascending rest ≡ (is_below_first a ns && are_ascending ns)
unfolding are_ascending
ascending-cons a ns rest e = ap are_ascending e

pub not-ascending : (a s : ℕ) (ns rest : List ℕ) → rest ≡ a ∷ ns → Some s ≡ slice_get ns 0 → s ≤ a
    → are_ascending rest ≡ false
not-ascending a s ns rest e h le = ascending-cons a ns rest e
    ∙ ap (λ b. b && are_ascending ns) (below_first-Some a s ns h ∙ le-ltb a s le)

pub still-ascending : (a s : ℕ) (ns rest : List ℕ) → rest ≡ a ∷ ns → Some s ≡ slice_get ns 0 → a < s
    → are_ascending rest ≡ are_ascending ns
still-ascending a s ns rest e h lt = ascending-cons a ns rest e
    ∙ ap (λ b. b && are_ascending ns) (below_first-Some a s ns h ∙ lt-ltb a s lt)

pub last-ascending : (a : ℕ) (ns rest : List ℕ) → rest ≡ a ∷ ns → None ≡ slice_get ns 0
    → are_ascending rest ≡ are_ascending ns
last-ascending a ns rest e h = ascending-cons a ns rest e ∙ ap (λ b. b && are_ascending ns) (below_first-None a ns h)

pub none-ascending : (rest : List ℕ) → length rest ≡ 0 → are_ascending rest ≡ true
unfolding are_ascending
none-ascending [] e = refl
none-ascending (a ∷ ns) e = absurd (omega (arith, e))
