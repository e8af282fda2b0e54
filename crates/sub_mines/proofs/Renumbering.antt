-- The best pit of a mine whose blocks have numbers of their own.
use Rattle.fixed_worth.proofs.Common.{◌≡◌, ◌≢◌, ℕ, zero, suc, ◌+◌, ◌<◌, ℤ, pos, ◌+ℤ◌, Bool, true, false, cond, not}
use Rattle.fixed_worth.proofs.Common.{◌&&◌, ◌||◌, IsTrue, inl, inr, sym, refl, ap, ◌∙◌, arith, ints, cases_lt}
use Rattle.fixed_worth.proofs.Common.{cases_Bool, or_left, common_steps}
use Rattle.ordered_group.specs.Sets.{worth_in, count_in}
use Rattle.ordered_group.proofs.BlockSets.{worth_in-same, count_in-same, count_in-within}
use Rattle.closure_net.specs.Mine.{Mine, IsPit, worth_of, block_count_of, IsBest, RestsWithin}
use Rattle.closure_net.proofs.BestPits.{best_from_fewest}
use Rattle.ordered_group.proofs.Totals.{within_first}
use Rattle.sub_mines.specs.Prelude.{union_of, intersection_of, difference_of, part, IsListed, IsRenumbered, IsImage}
use Rattle.sub_mines.proofs.Parts.{fewest_of, not_beside, count_cuts}

-- ---- sums over a list of numbers

-- the list without n, where n isn't in the set
listed_else : (set : ℕ → Bool) (n m : ℕ) (at : ℕ → ℕ) → set n ≡ false → IsListed set (suc n) m at → IsListed set n m at
listed_else set n m at out h = grind (arith, common_steps)

-- n is the last of the list, where it is in the set
record EndsWith (set : ℕ → Bool) (n m : ℕ) (at : ℕ → ℕ) : Type 0 where
  pub before : ℕ
  pub size : m ≡ suc before
  pub last : at before ≡ n
  pub listed : IsListed set n before at

listed_here : (set : ℕ → Bool) (n m : ℕ) (at : ℕ → ℕ) → set n ≡ true → IsListed set (suc n) m at → EndsWith set n m at
listed_here set n zero at held h = absurd (let x = h.all n (omega arith) held in omega (arith, x.1))
listed_here set n (suc m) at held h =
    let x = h.all n (omega arith) held in
    let low = h.below m (omega arith) in
    let is_last : x.0 ≡ m = elim (cases_lt x.0 m) [
      | inl l ↦ absurd (omega (arith, h.rising x.0 m l (omega arith), x.2, low))
      | inr k ↦ omega (arith, k, x.1)
    ] in
    let end : at m ≡ n = ap at (sym is_last) ∙ x.2 in
    record {
      before = m;
      size = refl;
      last = end;
      listed = record {
        below = λ i l. omega (arith, h.rising i m l (omega arith), end);
        held = λ i l. h.held i (omega (arith, l));
        rising = λ i j l k. h.rising i j l (omega (arith, k));
        all = λ b l t.
            let y = h.all b (omega (arith, l)) t in
            let differ : y.0 ≢ m = λ e. let same : at y.0 ≡ at m = ap at e in omega (arith, same, end, y.2, l) in
            (y.0, omega (arith, y.1, differ), y.2);
      };
    }

pub worth_listed : (set e : ℕ → Bool) (v : ℕ → ℤ) (at : ℕ → ℕ) (n m : ℕ) → IsListed set n m at
    → worth_in (λ b. cond (set b) (v b) (pos 0)) e n ≡ worth_in (λ i. v (at i)) (λ i. e (at i)) m
worth_listed set e v at zero zero h = refl
worth_listed set e v at zero (suc m) h = absurd (let l = h.below m (omega arith) in omega (arith, l))
worth_listed set e v at (suc n) m h =
    elim (cases_Bool (set n)) [
      | inl held ↦
          let x = listed_here set n m at held h in
          let more = worth_listed set e v at n x.before x.listed in
          rw x.size (grind (arith, common_steps, ints, more))
      | inr out ↦
          let more = worth_listed set e v at n m (listed_else set n m at out h) in
          grind (arith, ints, more, common_steps)
    ]

abbrev number : Bool → ℕ
number t = cond t 1 0

count_else : (s t : Bool) → t ≡ false → number (s && t) ≡ 0
count_else s t h = grind (arith, common_steps)

-- and how many they are
pub count_listed : (set e : ℕ → Bool) (at : ℕ → ℕ) (n m : ℕ) → IsListed set n m at
    → count_in (intersection_of e set) n ≡ count_in (λ i. e (at i)) m
count_listed set e at zero zero h = refl
count_listed set e at zero (suc m) h = absurd (let l = h.below m (omega arith) in omega (arith, l))
count_listed set e at (suc n) m h =
    elim (cases_Bool (set n)) [
      | inl held ↦
          let x = listed_here set n m at held h in
          let more = count_listed set e at n x.before x.listed in
          let same : number (e (at x.before)) ≡ number (e n) = ap (λ k. number (e k)) x.last in
          rw x.size (grind (arith, more, same, common_steps, (e n), (set n)))
      | inr out ↦
          let more = count_listed set e at n m (listed_else set n m at out h) in
          omega (arith, more, count_else (e n) (set n) out)
    ]

worth_in-worths : (v w : ℕ → ℤ) (e : ℕ → Bool) (n : ℕ) → ((b : ℕ) → b < n → v b ≡ w b) → worth_in v e n ≡ worth_in w e n
worth_in-worths v w e zero h = refl
worth_in-worths v w e (suc n) h = rw (worth_in-worths v w e n (λ b l. h b (omega (arith, l))), h n (omega arith)) refl

-- ---- pits there and here

module _ (mine small : Mine) (set : ℕ → Bool) (at : ℕ → ℕ) (own : RestsWithin mine)
    (listed : IsListed set mine.blocks small.blocks at) (is : IsRenumbered mine small at) where
  pulled_is_pit : (d : ℕ → Bool) → IsPit (part mine set) d → IsPit small (λ i. d (at i))
  pulled_is_pit d h i j r t = grind (arith, common_steps)

  pulled_worth : (d : ℕ → Bool) → worth_of (part mine set) d ≡ worth_of small (λ i. d (at i))
  pulled_worth d =
      worth_listed set d mine.worth at mine.blocks small.blocks listed
      ∙ sym (worth_in-worths small.worth (λ i. mine.worth (at i)) (λ i. d (at i)) small.blocks is.worth)

  image_is_pit : (s t : ℕ → Bool) → IsImage mine.blocks small.blocks at s t → IsPit small s → IsPit (part mine set) t
  image_is_pit s t im h b p r held = grind (arith, common_steps)

  -- the image of a set, in numbers
  image_worth : (s t : ℕ → Bool) → IsImage mine.blocks small.blocks at s t
      → worth_of (part mine set) t ≡ worth_of small s
  image_worth s t im = pulled_worth t ∙ worth_in-same small.worth (λ i. t (at i)) s small.blocks im.same

  pub image_within : (s t : ℕ → Bool) → IsImage mine.blocks small.blocks at s t → (b : ℕ) → b < mine.blocks
      → IsTrue (t b) → IsTrue (set b)
  image_within s t im b l e = let x = im.only b l e in ap set (sym x.2) ∙ listed.held x.0 x.1

  pub image_count : (s t : ℕ → Bool) → IsImage mine.blocks small.blocks at s t
      → count_in t mine.blocks ≡ count_in s small.blocks
  image_count s t im =
      count_in-same t (intersection_of t set) mine.blocks (λ b l. own_in (t b) (set b) (image_within s t im b l))
      ∙ count_listed set t at mine.blocks small.blocks listed
      ∙ count_in-same (λ i. t (at i)) s small.blocks im.same
    where
      own_in : (x y : Bool) → (x ≡ true → y ≡ true) → x ≡ (x && y)
      own_in true y h = sym (h refl)
      own_in false y h = refl

  pub best_image : (s t : ℕ → Bool) → IsImage mine.blocks small.blocks at s t → IsBest small s
      → IsBest (part mine set) t
  best_image s t im h =
      let n = mine.blocks in
      let m = small.blocks in
      let own_worth = image_worth s t im in
      let own_count = image_count s t im in
      best_from_fewest (part mine set) t (image_is_pit s t im h.is_pit)
      (λ d p. omega (arith, ints, own_worth, pulled_worth d, h.most (λ i. d (at i)) (pulled_is_pit d p)))
      (λ d p same.
      let level : worth_of small (λ i. d (at i)) ≡ worth_of small s = sym (pulled_worth d) ∙ same ∙ own_worth in
      let few = fewest_of small s (λ i. d (at i)) h (pulled_is_pit d p) level in
      let less = (count_in-within (intersection_of d set) d n (λ b l. within_first d set b)).0 in
      omega (arith, few, less, own_count, count_listed set d at n m listed))

-- ---- with another set

outside : (low high : ℕ → Bool) (b : ℕ) → difference_of high low b ≡ true → low b ≡ false
outside low high b h = not_beside (high b) (low b) h

alone_term : (x y : Bool) → (y ≡ true → x ≡ false) → ((x || y) && not x) ≡ y
alone_term x y h = grind (arith, common_steps)

cut_term : (x y z : Bool) (v : ℤ) → (y ≡ true → (z && not x) ≡ true)
    → cond (x || y) v (pos 0) ≡ cond x v (pos 0) +ℤ cond y (cond (z && not x) v (pos 0)) (pos 0)
cut_term x y z v h = grind (arith, common_steps)

joined_worth : (v : ℕ → ℤ) (low high t : ℕ → Bool) (n : ℕ)
    → ((b : ℕ) → b < n → t b ≡ true → difference_of high low b ≡ true)
    → worth_in v (union_of low t) n ≡ worth_in v low n +ℤ worth_in
    (λ b. cond (difference_of high low b) (v b) (pos 0)) t n
joined_worth v low high t zero h = omega (arith, ints)
joined_worth v low high t (suc n) h = omega (
  arith,
  ints,
  joined_worth v low high t n (λ b l. h b (omega (arith, l))),
  cut_term (low n) (t n) (high n) (v n)
      (h n (omega arith)),
)

pub row_by_small : (mine small : Mine) (low high : ℕ → Bool) (at : ℕ → ℕ) (s t : ℕ → Bool) → RestsWithin mine
    → IsListed (difference_of high low) mine.blocks small.blocks at → IsRenumbered mine small at
    → IsImage mine.blocks small.blocks at s t
    → (worth_of mine (union_of low t) ≡ worth_of mine low +ℤ worth_of small s)
    × (block_count_of mine (union_of low t) ≡ block_count_of mine low + block_count_of small s)
row_by_small mine small low high at s t own listed is im =
    let n = mine.blocks in
    let set = difference_of high low in
    let within = image_within mine small set at own listed is s t im in
    let apart : (b : ℕ) → b < n → ((low b || t b) && not (low b)) ≡ t b = λ b l. alone_term (low b) (t b)
    (λ e. outside low high b (within b l e)) in
    let count = count_cuts low (union_of low t) n (λ b l e. or_left (low b) (t b) e) in
    let alone : count_in (difference_of (union_of low t) low) n ≡ count_in t n = count_in-same
    (difference_of (union_of low t) low) t n apart in (
      joined_worth mine.worth low high t n within
          ∙ ap (λ z. worth_of mine low +ℤ z) (image_worth mine small set at own listed is s t im),
      omega (arith, count, alone, image_count mine small set at own listed is s t im),
    )
