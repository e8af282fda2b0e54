-- The values of blocks that stand one block after another.
use Rattle.fixed_worth.proofs.Common.{◌≡◌, ℕ, ℤ, pos, ◌+◌, ◌*◌, ◌<◌, ◌≤◌, List, [], ◌∷◌, ◌++◌, length, map, get_or}
use Rattle.fixed_worth.proofs.Common.{refl, sym, ap, ◌∙◌, subst, arith, range_with_len, map-range_with_len_more}
use Rattle.fixed_worth.proofs.Common.{ext_get_or, get_or-map-range_with_len, length-map-range_with_len, common_steps}
use Rattle.blocks_file.specs.declared.place.Place.{Place}
use Rattle.blocks_file.specs.Denotes.{BlocksView, IsModel, IsSmallColumn, columns_from}

pub blocks_apart : (b c w : ℕ) → b < c → b * w + w ≤ c * w
blocks_apart b c w h = grind (arith, common_steps)

pub slot_below : (n w b i : ℕ) → b < n → i < w → b * w + i < n * w
slot_below n w b i h l = omega (arith, blocks_apart b n w h)

pub columns_length : (w n : ℕ) (values : List ℤ) → length (columns_from w n values) ≡ w
columns_length w n values = length-map-range_with_len
    (λ i. map (λ b. get_or values (b * w + i) (pos 0)) (range_with_len 0 n)) 0 w

pub column_is : (w n i : ℕ) (values : List ℤ) → i < w
    → get_or (columns_from w n values) i [] ≡ map (λ b. get_or values (b * w + i) (pos 0)) (range_with_len 0 n)
column_is w n i values h = get_or-map-range_with_len
    (λ i. map (λ b. get_or values (b * w + i) (pos 0)) (range_with_len 0 n)) 0 w i i [] h (omega arith)

pub column_length : (w n i : ℕ) (values : List ℤ) → i < w → length (get_or (columns_from w n values) i []) ≡ n
column_length w n i values h = ap length (column_is w n i values h)
    ∙ length-map-range_with_len (λ b. get_or values (b * w + i) (pos 0)) 0 n

-- What a column has for a block is the value in its place.
pub column_at : (w n i b : ℕ) (values : List ℤ) → i < w → b < n
    → get_or (get_or (columns_from w n values) i []) b (pos 0) ≡ get_or values (b * w + i) (pos 0)
column_at w n i b values h l = ap (λ (xs : List ℤ). get_or xs b (pos 0)) (column_is w n i values h)
    ∙ get_or-map-range_with_len (λ b. get_or values (b * w + i) (pos 0)) 0 n b b (pos 0) l (omega arith)

pub columns_small : (n w : ℕ) (places : List Place) (values : List ℤ) (m : BlocksView)
    → record { blocks = n; places = places; columns = columns_from w n values } ≡ m → IsModel n w places values
    → (i : ℕ) → i < w → IsSmallColumn m i
columns_small n w places values m is model i h = subst (λ (x : BlocksView). IsSmallColumn x i) is
    (λ b l. rw (column_at w n i b values h l) (model.small b i l h))

-- ---- one column alone

-- a column as it is gathered, with one value more
pub gathered : (f : ℕ → ℤ) (b : ℕ) (xs ys : List ℤ) (y : ℤ) → xs ≡ map f (range_with_len 0 b) → ys ≡ xs ++ y ∷ []
    → y ≡ f b → ys ≡ map f (range_with_len 0 (b + 1))
gathered f b xs ys y so is e = is ∙ ap (λ l. l ++ y ∷ []) so ∙ ap (λ v. map f (range_with_len 0 b) ++ v ∷ []) e
    ∙ sym (map-range_with_len_more f 0 b b (omega arith))

-- the numbers that a list reads at are itself
pub read_again : (xs : List ℤ) (n : ℕ) (f : ℕ → ℤ) → length xs ≡ n → ((b : ℕ) → b < n → f b ≡ get_or xs b (pos 0))
    → map f (range_with_len 0 n) ≡ xs
read_again xs n f e reads =
    let size = length-map-range_with_len f 0 n in
    ext_get_or (pos 0) (map f (range_with_len 0 n)) xs (size ∙ sym e) (λ k l.
    let below : k < n = omega (arith, l, size) in
    get_or-map-range_with_len f 0 n k k (pos 0) below (omega arith) ∙ reads k below)

-- a column that was gathered is the column
pub column_gathered : (w n i : ℕ) (values v : List ℤ) → i < w
    → v ≡ map (λ b. get_or (get_or (columns_from w n values) i []) b (pos 0)) (range_with_len 0 n)
    → v ≡ get_or (columns_from w n values) i []
column_gathered w n i values v h is = is ∙ read_again (get_or (columns_from w n values) i []) n
    (λ b. get_or (get_or (columns_from w n values) i []) b (pos 0)) (column_length w n i values h) (λ b l. refl)

-- the columns of values of which each block has one
pub one_column : (n : ℕ) (v : List ℤ) → length v ≡ n → columns_from 1 n v ≡ v ∷ []
one_column n v e = ap (λ (xs : List ℤ). xs ∷ [])
    (read_again v n (λ b. get_or v (b * 1 + 0) (pos 0)) e (λ b l. ap (λ (k : ℕ). get_or v k (pos 0)) (omega arith)))
