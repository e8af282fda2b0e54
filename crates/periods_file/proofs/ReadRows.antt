-- Arrays of values, read row after row.
use Rattle.fixed_worth.proofs.Common.{◌≡◌, ℕ, ◌<◌, ◌+◌, List, [], ◌∷◌, ◌++◌, length, drop, get_or, Option, Some, None}
use Rattle.fixed_worth.proofs.Common.{refl, ap, ◌∙◌, sym, append_assoc, arith, ◌≤◌, ◌&&◌, true, false, nat_le}
use Rattle.fixed_worth.proofs.Common.{slice_get, same_Some, le-leb, lt-leb, append-nil}
use Rattle.toml.specs.Data.{Data}
use Rattle.toml.specs.View.{view, items_view}
use Rattle.toml.specs.declared.value.Value.{Value}
use Rattle.toml.proofs.Views.{items_view-drop}
use Rattle.periods_file.specs.Prelude.{put_before, all_rows, is_above_first, are_falling}

-- what follows those already read
abbrev pub after : {V : Type 0} → List V → Option (List V) → Option (List V)
after xs (Some ys) = Some (xs ++ ys)
after xs None = None

module _ {V : Type 0} where
  after_row : (xs vs : List V) (o : Option (List V)) → after xs (put_before (Some vs) o) ≡ after (xs ++ vs) o
  after_row xs vs (Some ys) = ap Some (sym (append_assoc xs vs ys))
  after_row xs vs None = refl

  module _ (reads : Data → Option (List V)) where
    -- the items from a place on
    all_rows-drop : (vs : List Value) (i : ℕ) (d : Value) → i < length vs
        → all_rows reads (items_view (drop i vs)) ≡ put_before (reads (view (get_or vs i d)))
        (all_rows reads (items_view (drop (i + 1) vs)))
    unfolding all_rows
    all_rows-drop vs i d h = ap (all_rows reads) (items_view-drop vs i d h)

    -- one more row is read
    pub row-next : (vs : List Value) (xs : List V) (i : ℕ) (d : Value) (row : List V) → i < length vs
        → reads (view (get_or vs i d)) ≡ Some row
        → all_rows reads (items_view vs) ≡ after xs (all_rows reads (items_view (drop i vs)))
        → all_rows reads (items_view vs) ≡ after (xs ++ row) (all_rows reads (items_view (drop (i + 1) vs)))
    row-next vs xs i d row h e all = all
        ∙ ap (after xs) (all_rows-drop vs i d h
        ∙ ap (λ o. put_before o (all_rows reads (items_view (drop (i + 1) vs)))) e) ∙ after_row xs row _

    -- one doesn't read
    pub row-bad : (vs : List Value) (xs : List V) (i : ℕ) (d : Value) → i < length vs
        → reads (view (get_or vs i d)) ≡ None
        → all_rows reads (items_view vs) ≡ after xs (all_rows reads (items_view (drop i vs)))
        → all_rows reads (items_view vs) ≡ None
    row-bad vs xs i d h e all = all
        ∙ ap (after xs) (all_rows-drop vs i d h
        ∙ ap (λ o. put_before o (all_rows reads (items_view (drop (i + 1) vs)))) e)

    -- all are read
    pub row-end : (vs : List Value) (xs : List V) (i : ℕ) → drop i vs ≡ []
        → all_rows reads (items_view vs) ≡ after xs (all_rows reads (items_view (drop i vs)))
        → all_rows reads (items_view vs) ≡ Some xs
    unfolding all_rows
    row-end vs xs i e all = all ∙ ap (λ l. after xs (all_rows reads (items_view l))) e ∙ ap Some (append-nil xs)

above_first-Some : (a s : ℕ) (ns : List ℕ) → Some s ≡ slice_get ns 0 → is_above_first a ns ≡ nat_le s a
above_first-Some a s [] h = absurd cc
above_first-Some a s (b ∷ ns) h = ap (λ (k : ℕ). nat_le k a) (sym (same_Some _ _ h))

above_first-None : (a : ℕ) (ns : List ℕ) → None ≡ slice_get ns 0 → is_above_first a ns ≡ true
above_first-None a [] h = refl
above_first-None a (b ∷ ns) h = absurd cc

falling-cons : (a : ℕ) (ns rest : List ℕ) → rest ≡ a ∷ ns → are_falling rest ≡ (is_above_first a ns && are_falling ns)
unfolding are_falling
falling-cons a ns rest e = ap are_falling e

pub not-falling : (a s : ℕ) (ns rest : List ℕ) → rest ≡ a ∷ ns → Some s ≡ slice_get ns 0 → a < s
    → are_falling rest ≡ false
not-falling a s ns rest e h lt = falling-cons a ns rest e
    ∙ ap (λ b. b && are_falling ns) (above_first-Some a s ns h ∙ lt-leb s a lt)

pub still-falling : (a s : ℕ) (ns rest : List ℕ) → rest ≡ a ∷ ns → Some s ≡ slice_get ns 0 → s ≤ a
    → are_falling rest ≡ are_falling ns
still-falling a s ns rest e h le = falling-cons a ns rest e
    ∙ ap (λ b. b && are_falling ns) (above_first-Some a s ns h ∙ le-leb s a le)

pub last-falling : (a : ℕ) (ns rest : List ℕ) → rest ≡ a ∷ ns → None ≡ slice_get ns 0
    → are_falling rest ≡ are_falling ns
last-falling a ns rest e h = falling-cons a ns rest e ∙ ap (λ b. b && are_falling ns) (above_first-None a ns h)

pub none-falling : (rest : List ℕ) → length rest ≡ 0 → are_falling rest ≡ true
unfolding are_falling
none-falling [] e = refl
none-falling (a ∷ ns) e = absurd (omega (arith, e))
