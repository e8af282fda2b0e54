-- Lines in order are determined by what they say.
use Rattle.fixed_worth.proofs.Common.{◌≡◌, ℕ, ◌<◌, Bool, true, false, cond, ◌⊎◌, inl, inr, List, [], ◌∷◌, Option, Some}
use Rattle.fixed_worth.proofs.Common.{refl, sym, ap, ◌∙◌, subst, arith, IsTotalOrder, nat_cmp, ordering_then, is_lt}
use Rattle.fixed_worth.proofs.Common.{Ordering, Less, nat_cmp_total, on_total, then_total, common_steps}
use Rattle.ordered_group.specs.Amount.{Amount, zero_amount, is_zero}
use Rattle.certificate_file.specs.declared.body_lines.LineKind.TheVariants.{Pit}
use Rattle.certificate_file.specs.declared.body_lines.BodyLine.{BodyLine}
use Rattle.certificate_file.specs.Prelude.{rank, is_end, is_of_model, amount_of, given_amount, is_rest}
use Rattle.certificate_file.proofs.Going.{carries}
use Rattle.certificate_file.proofs.Order.{InOrder, Good}

-- The order of lines.
abbrev pub line_cmp : BodyLine → BodyLine → Ordering
line_cmp a b = ordering_then (nat_cmp (rank a.kind) (rank b.kind))
    (ordering_then (nat_cmp a.block b.block) (nat_cmp a.other b.other))

total : IsTotalOrder line_cmp
total = then_total (on_total (λ (l : BodyLine). rank l.kind) nat_cmp_total)
    (then_total (on_total (λ (l : BodyLine). l.block) nat_cmp_total)
    (on_total (λ (l : BodyLine). l.other) nat_cmp_total))

lt_less : (o : Ordering) → is_lt o ≡ true → o ≡ Less
lt_less o h = grind (arith, common_steps)

abbrev pub Above : BodyLine → BodyLine → Type 0
Above a b = line_cmp a b ≡ Less

-- A line among lines.
abbrev pub Has : BodyLine → List BodyLine → Type 0
Has l [] = ⊥
Has l (m ∷ ms) = (m ≡ l) ⊎ Has l ms

pub has_good : (P : BodyLine → Type 0) (previous : Option BodyLine) (ls : List BodyLine) → InOrder P previous ls
    → (l : BodyLine) → Has l ls → P l
has_good P previous [] o l h = absurd h
has_good P previous (m ∷ ms) o l h = elim h [ inl e ↦ subst P e o.1 | inr i ↦ has_good P (Some m) ms o.2 l i ]

pub all_above : (P : BodyLine → Type 0) (l : BodyLine) (ms : List BodyLine) → InOrder P (Some l) ms → (m : BodyLine)
    → Has m ms → Above l m
all_above P l [] o m h = absurd h
all_above P l (k ∷ ks) o m h =
    let first = lt_less (line_cmp l k) o.0 in
    elim h [
      | inl e ↦ subst (λ (x : BodyLine). Above l x) e first
      | inr i ↦ total.trans l k m first
          (all_above P k ks o.2 m i)
    ]

-- Two lists in order with the same lines are one.
head_same : (P : BodyLine → Type 0) (l m : BodyLine) (ls ms : List BodyLine) → InOrder P (Some l) ls
    → InOrder P (Some m) ms → Has l (m ∷ ms) → Has m (l ∷ ls) → l ≡ m
head_same P l m ls ms o q h i = grind (arith, common_steps, all_above, total)

tail_same : (P : BodyLine → Type 0) (l m : BodyLine) (ls ms : List BodyLine) → InOrder P (Some l) ls → l ≡ m
    → ((x : BodyLine) → Has x (l ∷ ls) → Has x (m ∷ ms)) → (x : BodyLine) → Has x ls → Has x ms
tail_same P l m ls ms o e f x h = grind (arith, common_steps, Above, all_above, total)

pub same_lines : (P : BodyLine → Type 0) (p q : Option BodyLine) (ls ms : List BodyLine) → InOrder P p ls
    → InOrder P q ms → ((x : BodyLine) → Has x ls → Has x ms) → ((x : BodyLine) → Has x ms → Has x ls) → ls ≡ ms
same_lines P p q [] [] o r f g = refl
same_lines P p q [] (m ∷ ms) o r f g = absurd (g m (inl refl))
same_lines P p q (l ∷ ls) [] o r f g = absurd (f l (inl refl))
same_lines P p q (l ∷ ls) (m ∷ ms) o r f g =
    let e = head_same P l m ls ms o.2 r.2 (f l (inl refl)) (g m (inl refl)) in
    let ih = same_lines P (Some l) (Some m) ls ms o.2 r.2 (tail_same P l m ls ms o.2 e f)
    (tail_same P m l ms ls r.2 (sym e) g) in
    ap (λ (x : BodyLine). x ∷ ls) e ∙ ap (λ (xs : List BodyLine). m ∷ xs) ih

-- What a line of a certificate is made of: a block of n, zeros where its kind has no number, and else an amount other
-- than zero.
pub record Proper (n : ℕ) (has : ℕ → ℕ → Bool) (l : BodyLine) : Type 0 where
  pub block : l.block < n
  pub last : is_end l.kind ≡ false
  pub other : is_rest l.kind ≡ false → l.other ≡ 0
  pub none : l.kind ≡ Pit → amount_of l ≡ zero_amount
  pub some : carries l.kind ≡ true → is_zero (amount_of l) ≡ false
  pub pair : is_of_model has l.kind l ≡ true

pub good_is_proper : (counts : Bool) (n : ℕ) (has : ℕ → ℕ → Bool) (l : BodyLine) → Good counts n has l → Proper n has l
good_is_proper counts n has l g = grind (arith, common_steps)

-- What the lines give is what one of them gives, or what there was before.
pub record Found (gives : BodyLine → Bool) (a : Amount) (ls : List BodyLine) : Type 0 where
  pub line : BodyLine
  pub held : Has line ls
  pub so : gives line ≡ true
  pub amount : amount_of line ≡ a

found_at : (gives : BodyLine → Bool) (x : Amount) (m : BodyLine) (ms : List BodyLine) (t : Bool) → gives m ≡ t
    → ((y : Amount) → (given_amount gives y ms ≡ y) ⊎ Found gives (given_amount gives y ms) ms)
    → (given_amount gives (cond t (amount_of m) x) ms ≡ x)
    ⊎ Found gives (given_amount gives (cond t (amount_of m) x) ms) (m ∷ ms)
found_at gives x m ms t e ih = grind (arith, common_steps)

pub found : (gives : BodyLine → Bool) (ls : List BodyLine) (x : Amount) → (given_amount gives x ls ≡ x)
    ⊎ Found gives (given_amount gives x ls) ls
found gives [] x = inl refl
found gives (m ∷ ms) x = found_at gives x m ms (gives m) refl (λ y. found gives ms y)

-- Only one line in order gives: two that give are of one kind, block and predecessor.
abbrev pub Tells : (BodyLine → Type 0) → (BodyLine → Bool) → Type 0
Tells P gives = (a b : BodyLine) → P a → P b → gives a ≡ true → gives b ≡ true → Above a b → ⊥

pub none_gives : (gives : BodyLine → Bool) (ms : List BodyLine) (x : Amount)
    → ((m : BodyLine) → Has m ms → gives m ≡ true → ⊥) → given_amount gives x ms ≡ x
none_gives gives ms x f = elim (found gives ms x) [ inl e ↦ e | inr y ↦ absurd (f y.line y.held y.so) ]

pub given_by : (P : BodyLine → Type 0) (gives : BodyLine → Bool) (previous : Option BodyLine) (ls : List BodyLine)
    (x : Amount) (l : BodyLine) → Tells P gives → InOrder P previous ls → Has l ls → gives l ≡ true
    → given_amount gives x ls ≡ amount_of l
given_by P gives previous [] x l t o h g = absurd h
given_by P gives previous (m ∷ ms) x l t o h g = elim h [
  | inl e ↦
      let gm : gives m ≡ true = ap gives e ∙ g in
      ap (λ (b : Bool). given_amount gives (cond b (amount_of m) x) ms) gm
      ∙ none_gives gives ms (amount_of m)
      (λ k i j. t m k o.1 (has_good P (Some m) ms o.2 k i) gm j (all_above P m ms o.2 k i)) ∙ ap amount_of e
  | inr i ↦ given_by P gives (Some m) ms (cond (gives m) (amount_of m) x) l t o.2 i g
]
