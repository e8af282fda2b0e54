-- What is summed line by line is what is summed over the flow and the pit that lines in order say.
use Rattle.fixed_worth.proofs.Common.{◌≡◌, ℕ, get_or, ◌<◌, Bool, true, false, cond, eqb, ltb, inl, inr, List, [], ◌∷◌}
use Rattle.fixed_worth.proofs.Common.{length, Option, Some, refl, sym, ap, ◌∙◌, arith, ◌&&◌, ints, eqb-true, eq-eqb}
use Rattle.fixed_worth.proofs.Common.{common_steps}
use Rattle.ordered_group.specs.Prelude.{Amount, zero_amount, plus, minus, Amount_eq, total, where_so}
use Rattle.ordered_group.proofs.Totals.{plus-zero_left, where_so-zero, where_so-plus, total-same, total-plus}
use Rattle.ordered_group.proofs.Totals.{total-zero, total-none, total-one}
use Rattle.prec_file.specs.Prelude.{IsRising, has_pair}
use Rattle.prec_file.proofs.Pairs.{is_pair, tells_pair, pair_told}
use Rattle.certificate_file.specs.declared.body_lines.LineKind.{LineKind}
use Rattle.certificate_file.specs.declared.body_lines.LineKind.TheVariants.{Source, Rest}
use Rattle.certificate_file.specs.declared.body_lines.BodyLine.{BodyLine}
use Rattle.certificate_file.specs.Prelude.{is_of_model, amount_of, given_amount, gives_source, gives_rest, gives_sink}
use Rattle.certificate_file.specs.Prelude.{is_source, is_rest, is_sink}
use Rattle.check_pit.specs.LineSums.{brings_by, balance_of, source_by, source_sum}
use Rattle.certificate_file.proofs.Additions.{one_place}
use Rattle.certificate_file.proofs.Order.{InOrder}
use Rattle.certificate_file.proofs.LineOrder.{Has, has_good, all_above, Tells, none_gives}
use Rattle.certificate_file.proofs.SameLines.{pair_place}

-- the amounts of the lines that give
abbrev pub sum_giving : (BodyLine → Bool) → List BodyLine → Amount
sum_giving gives [] = zero_amount
sum_giving gives (l ∷ ls) = plus (where_so (gives l) (amount_of l)) (sum_giving gives ls)

given_on : (P : BodyLine → Type 0) (gives : BodyLine → Bool) (m : BodyLine) (ms : List BodyLine) (t : Bool)
    → gives m ≡ t → Tells P gives → P m → InOrder P (Some m) ms
    → sum_giving gives ms ≡ given_amount gives zero_amount ms
    → plus (where_so t (amount_of m)) (sum_giving gives ms) ≡ given_amount gives (cond t (amount_of m) zero_amount) ms
given_on P gives m ms true e t p o ih =
    let none : (x : Amount) → given_amount gives x ms ≡ x = λ x. none_gives gives ms x
    (λ k i j. t m k p (has_good P (Some m) ms o k i) e j (all_above P m ms o k i)) in
    let rest : sum_giving gives ms ≡ zero_amount = ih ∙ none zero_amount in
    let w = ap (λ (x : Amount). x.w) rest in
    let c = ap (λ (x : Amount). x.c) rest in
    Amount_eq _ _ (omega (arith, ints, w)) (omega (arith, ints, c)) ∙ sym (none (amount_of m))
given_on P gives m ms false e t p o ih = plus-zero_left (sum_giving gives ms) ∙ ih

-- of lines in order one at most gives, and its amount is the sum
pub sum_giving_in_order : (P : BodyLine → Type 0) (gives : BodyLine → Bool) (previous : Option BodyLine)
    (ls : List BodyLine) → Tells P gives → InOrder P previous ls
    → sum_giving gives ls ≡ given_amount gives zero_amount ls
sum_giving_in_order P gives previous [] t o = refl
sum_giving_in_order P gives previous (m ∷ ms) t o = given_on P gives m ms (gives m) refl t o.1 o.2
    (sum_giving_in_order P gives (Some m) ms t o.2)

-- A sum over blocks or pairs, of sums over lines, is a sum over lines.
pub exchanged : (gives : ℕ → BodyLine → Bool) (e : ℕ → Bool) (at : BodyLine → Amount) (m : ℕ) (ls : List BodyLine)
    → ((l : BodyLine) → Has l ls → total (λ k. where_so (e k) (where_so (gives k l) (amount_of l))) m ≡ at l)
    → (sum : List BodyLine → Amount) → sum [] ≡ zero_amount
    → ((l : BodyLine) (ks : List BodyLine) → sum (l ∷ ks) ≡ plus (at l) (sum ks))
    → total (λ k. where_so (e k) (sum_giving (gives k) ls)) m ≡ sum ls
exchanged gives e at m [] f sum none more = grind (arith, common_steps, (total-zero m))
exchanged gives e at m (l ∷ ls) f sum none more =
    let split = total-same (λ k. where_so (e k) (plus (where_so (gives k l) (amount_of l)) (sum_giving (gives k) ls)))
    (λ k. plus (where_so (e k) (where_so (gives k l) (amount_of l))) (where_so (e k) (sum_giving (gives k) ls))) m
    (λ k h. where_so-plus (e k) (where_so (gives k l) (amount_of l)) (sum_giving (gives k) ls)) in
    let ih = exchanged gives e at m ls (λ k h. f k (inr h)) sum none more in
    split ∙ total-plus (λ k. where_so (e k) (where_so (gives k l) (amount_of l)))
    (λ k. where_so (e k) (sum_giving (gives k) ls)) m
    ∙ ap (λ (x : Amount). plus x (total (λ k. where_so (e k) (sum_giving (gives k) ls)) m)) (f l (inl refl))
    ∙ ap (plus (at l)) ih
    ∙ sym (more l ls)

-- What one line gives, summed over all blocks: at its own block alone.
source_line : (kind : LineKind) (c n : ℕ) (x : Amount) → c < n
    → total (λ b. where_so true (where_so (is_source kind && (eqb c b)) x)) n ≡ source_by kind x
source_line Source c n x h = total-one (λ b. true) c x n h
source_line _ c n x h = total-zero n

-- what the SOURCE lines give, summed over the blocks
pub sources_of_lines : (n : ℕ) (ls : List BodyLine) → ((l : BodyLine) → Has l ls → l.block < n)
    → total (λ b. sum_giving (gives_source b) ls) n ≡ source_sum ls
sources_of_lines n ls f = exchanged gives_source (λ b. true) (λ l. source_by l.kind (amount_of l)) n ls
    (λ l h. source_line l.kind l.block n (amount_of l) (f l h)) source_sum refl (λ l ks. refl)

-- a pair that stands at j is told from the others by its place
told_by_place : (b p : ℕ) (ps : List (ℕ × ℕ)) (j k : ℕ) → IsRising ps → j < length ps → get_or ps j (0, 0) ≡ (b, p)
    → k < length ps → (t u : Bool) → eqb j k ≡ t → is_pair b p (get_or ps k (0, 0)) ≡ u
    → is_pair b p (get_or ps k (0, 0)) ≡ eqb j k
told_by_place b p ps j k r h e l true false v w =
    let same : j ≡ k = eqb-true j k v in
    let here : is_pair b p (get_or ps k (0, 0)) ≡ true = tells_pair b p (get_or ps k (0, 0))
    (ap (λ (i : ℕ). get_or ps i (0, 0)) (sym same) ∙ e) in
    absurd (let z : true ≡ false = sym here ∙ w in cc)
told_by_place b p ps j k r h e l false true v w = grind (
  arith,
  common_steps,
  (one_place ps j k (b, p) r h l e (pair_told b p (get_or ps k (0, 0)) w) (ltb j k)
      (ltb k j) refl refl),
  (pair_told b p (get_or ps k (0, 0)) w),
  (eq-eqb j k (one_place ps j k (b, p) r h l e (pair_told b p (get_or ps k (0, 0)) w) (ltb j k) (ltb k j) refl refl)),
)
told_by_place b p ps j k r h e l t u v w = w ∙ sym v

-- an amount of a line at one end of its pair, where that is a REST line
abbrev pub end_by : LineKind → ℕ → ℕ → Amount → Amount
end_by Rest c b x = where_so (eqb c b) x
end_by _ c b x = zero_amount

abbrev pub end_sum : (BodyLine → ℕ) → ℕ → List BodyLine → Amount
end_sum end b [] = zero_amount
end_sum end b (l ∷ ls) = plus (end_by l.kind (end l) b (amount_of l)) (end_sum end b ls)

none_at_ends : (end : ℕ × ℕ → ℕ) (b : ℕ) (ps : List (ℕ × ℕ)) (m : ℕ)
    → total (λ k. where_so (eqb (end (get_or ps k (0, 0))) b) zero_amount) m ≡ zero_amount
none_at_ends end b ps m = total-none _ m (λ k h. where_so-zero (eqb (end (get_or ps k (0, 0))) b))

-- what one line carries, summed over the pairs with an end at b: over its own pair alone
rest_line : (kind : LineKind) (end : ℕ × ℕ → ℕ) (b c p : ℕ) (ps : List (ℕ × ℕ)) (line : BodyLine) (x : Amount)
    → IsRising ps → line.block ≡ c → line.other ≡ p → is_of_model (has_pair ps) kind line ≡ true
    → total (λ k. where_so (eqb (end (get_or ps k (0, 0))) b)
    (where_so (is_rest kind && is_pair c p (get_or ps k (0, 0))) x)) (length ps) ≡ end_by kind (end (c, p)) b x
rest_line Rest end b c p ps line x r e f h =
    let j = pair_place c p ps (ap (λ (i : ℕ). has_pair ps i p) (sym e) ∙ ap (has_pair ps line.block) (sym f) ∙ h) in
    total-same _ (λ k. where_so (eqb (end (get_or ps k (0, 0))) b) (where_so (eqb j.0 k) x)) (length ps)
    (λ k l. ap (λ (t : Bool). where_so (eqb (end (get_or ps k (0, 0))) b) (where_so t x))
    (told_by_place c p ps j.0 k r j.1 j.2 l (eqb j.0 k) (is_pair c p (get_or ps k (0, 0))) refl refl))
    ∙ total-one (λ k. eqb (end (get_or ps k (0, 0))) b) j.0 x (length ps) j.1
    ∙ ap (λ (q : ℕ × ℕ). where_so (eqb (end q) b) x) j.2
rest_line _ end b c p ps line x r e f h = none_at_ends end b ps (length ps)

-- what the REST lines carry, summed over the pairs with an end at b
pub ends_of_lines : (end : ℕ × ℕ → ℕ) (b : ℕ) (ps : List (ℕ × ℕ)) (ls : List BodyLine) → IsRising ps
    → ((l : BodyLine) → Has l ls → is_of_model (has_pair ps) l.kind l ≡ true)
    → total (λ k. where_so (eqb (end (get_or ps k (0, 0))) b) (sum_giving (gives_rest (get_or ps k (0, 0))) ls))
    (length ps) ≡ end_sum (λ l. end (l.block, l.other)) b ls
ends_of_lines end b ps ls r f =
    exchanged (λ k. gives_rest (get_or ps k (0, 0))) (λ k. eqb (end (get_or ps k (0, 0))) b)
    (λ l. end_by l.kind (end (l.block, l.other)) b (amount_of l)) (length ps) ls
    (λ l h. rest_line l.kind end b l.block l.other ps l (amount_of l) r refl refl (f l h))
    (end_sum (λ l. end (l.block, l.other)) b) refl (λ l ks. refl)

-- the balance of one line
one_balance : (kind : LineKind) (l : BodyLine) (b : ℕ) → brings_by kind l b
    ≡ minus (plus (where_so (is_source kind && (eqb l.block b)) (amount_of l)) (end_by kind l.other b (amount_of l)))
    (plus (where_so (is_sink kind && (eqb l.block b)) (amount_of l)) (end_by kind l.block b (amount_of l)))
one_balance kind l b = grind (arith, common_steps)

joined : (p s i t o s' i' t' o' q : Amount) → p ≡ minus (plus s i) (plus t o) → q ≡ minus (plus s' i') (plus t' o')
    → plus p q ≡ minus (plus (plus s s') (plus i i')) (plus (plus t t') (plus o o'))
joined p s i t o s' i' t' o' q e f =
    let ew = ap (λ (x : Amount). x.w) e in
    let ec = ap (λ (x : Amount). x.c) e in
    let fw = ap (λ (x : Amount). x.w) f in
    let fc = ap (λ (x : Amount). x.c) f in
    Amount_eq _ _ (omega (arith, ints, ew, fw)) (omega (arith, ints, ec, fc))

-- the balance of b by lines: what SOURCE lines and REST lines bring, less what SINK lines and REST lines take
pub balance_is : (ls : List BodyLine) (b : ℕ)
    → balance_of ls b ≡ minus (plus (sum_giving (gives_source b) ls) (end_sum (λ l. l.other) b ls))
    (plus (sum_giving (gives_sink b) ls) (end_sum (λ l. l.block) b ls))
balance_is [] b = refl
balance_is (l ∷ ls) b = grind
    (arith, common_steps, joined, eqb, end_by, sum_giving, end_sum, one_balance, (balance_is ls b))
