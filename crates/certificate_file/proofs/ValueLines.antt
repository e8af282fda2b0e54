-- The lines of a value stand in order, and say the value.
use Rattle.fixed_worth.proofs.Common.{◌≡◌, ◌≢◌, ℕ, zero, suc, ◌+◌, ◌<◌, ◌≤◌, Bool, true, false, cond, eqb, ltb, List}
use Rattle.fixed_worth.proofs.Common.{[], ◌∷◌, ◌++◌, length, map, get_or, Option, Some, None, refl, sym, ap, ◌∙◌, subst}
use Rattle.fixed_worth.proofs.Common.{arith, append-nil, eq-eqb, ne_eqb, ◌&&◌, All, nat_cmp_is, nat_cmp, ordering_then}
use Rattle.fixed_worth.proofs.Common.{is_lt, Ordering, Less, Equal, common_steps}
use Rattle.ordered_group.specs.Prelude.{Amount, zero_amount, is_zero, amount_at}
use Rattle.prec_file.proofs.Pairs.{tells_pair, pair_told}
use Rattle.prec_file.specs.Prelude.{IsRising, IsKnown, has_pair}
use Rattle.closure_net.specs.Network.{FlowView, IsAscending}
use Rattle.closure_net.proofs.Ascending.{tail_ascends}
use Rattle.certificate_file.specs.declared.body_lines.LineKind.{LineKind}
use Rattle.certificate_file.specs.declared.body_lines.LineKind.TheVariants.{Pit, Source, Rest, Sink}
use Rattle.certificate_file.specs.declared.body_lines.BodyLine.{BodyLine}
use Rattle.certificate_file.specs.Prelude.{rank, is_end, may_follow, is_of_model, Covers, DenotesFlow, pit_of}
use Rattle.certificate_file.specs.Prelude.{block_if_pit, amount_of, given_amount, gives_source, gives_rest, gives_sink}
use Rattle.certificate_file.specs.Prelude.{pit_at, line_of_block, pair_at, amount_lines, flow_lines, value_lines}
use Rattle.certificate_file.proofs.Additions.{present, one_place}
use Rattle.certificate_file.proofs.Order.{InOrder}
use Rattle.certificate_file.proofs.LineOrder.{Proper}

-- What is read before has at most this rank.
abbrev pub UpTo : ℕ → Option BodyLine → Type 0
UpTo r None = Unit {0}
UpTo r (Some l) = rank l.kind ≤ r

wider : (r s : ℕ) (p : Option BodyLine) → r ≤ s → UpTo r p → UpTo s p
wider r s p h u = grind (arith, common_steps)

lower_first : (a b : ℕ) (o : Ordering) → a < b → is_lt (ordering_then (nat_cmp a b) o) ≡ true
lower_first a b o h = let e : Less ≡ nat_cmp a b = nat_cmp_is a b Less h in ap
    (λ (x : Ordering). is_lt (ordering_then x o)) (sym e)

same_first : (a : ℕ) (o : Ordering) → is_lt o ≡ true → is_lt (ordering_then (nat_cmp a a) o) ≡ true
same_first a o h = let e : Equal ≡ nat_cmp a a = nat_cmp_is a a Equal refl in ap
    (λ (x : Ordering). is_lt (ordering_then x o)) (sym e) ∙ h

pub higher : (r : ℕ) (p : Option BodyLine) (l : BodyLine) → UpTo r p → r < rank l.kind → may_follow p l ≡ true
higher r p l u h = grind (arith, common_steps)

block_step : (k : LineKind) (a b : ℕ) (x y : Amount) → a < b
    → may_follow (Some (line_of_block k a x)) (line_of_block k b y) ≡ true
block_step k a b x y h = same_first (rank k) (ordering_then (nat_cmp a b) (nat_cmp 0 0))
    (lower_first a b (nat_cmp 0 0) h)

-- PIT lines before others.
abbrev FirstFollows : Option BodyLine → List ℕ → Type 0
FirstFollows p [] = Unit {0}
FirstFollows p (b ∷ bs) = may_follow p (pit_at b) ≡ true

next_follows : (b : ℕ) (bs : List ℕ) → IsAscending (b ∷ bs) → FirstFollows (Some (pit_at b)) bs
next_follows b [] h = tt
next_follows b (c ∷ cs) h = same_first 0 (ordering_then (nat_cmp b c) (nat_cmp 0 0))
    (lower_first b c (nat_cmp 0 0) (h 0 1 (omega arith) (omega arith)))

pits : (P : BodyLine → Type 0) (bs : List ℕ) (p : Option BodyLine) (rest : List BodyLine) → IsAscending bs
    → FirstFollows p bs → ((i : ℕ) → i < length bs → P (pit_at (get_or bs i 0))) → UpTo 0 p
    → ((q : Option BodyLine) → UpTo 0 q → InOrder P q rest) → InOrder P p (map pit_at bs ++ rest)
pits P [] p rest a f e u c = c p u
pits P (b ∷ bs) p rest a f e u c = (
  f,
  e 0 (omega arith),
  pits P bs (Some (pit_at b)) rest (tail_ascends b bs a) (next_follows b bs a)
      (λ i h. e (suc i) (omega arith)) (omega arith) c,
)

-- Lines of amounts before others.
abbrev pub Each : (BodyLine → Type 0) → (ℕ → Amount → BodyLine) → ℕ → List Amount → Type 0
Each P line k [] = Unit {0}
Each P line k (x ∷ xs) = (is_zero x ≡ false → P (line k x)) × Each P line (k + 1) xs

record Rises (line : ℕ → Amount → BodyLine) (top r : ℕ) : Type 0 where
  step : (i j : ℕ) (x y : Amount) → i < j → j < top → may_follow (Some (line i x)) (line j y) ≡ true
  rank_is : (i : ℕ) (x : Amount) → rank (line i x).kind ≤ r

amounts : (P : BodyLine → Type 0) (line : ℕ → Amount → BodyLine) (top r : ℕ) → Rises line top r
    → (xs : List Amount) (k : ℕ) (p : Option BodyLine) (rest : List BodyLine) → k + length xs ≤ top
    → ((j : ℕ) (x : Amount) → k ≤ j → j < top → may_follow p (line j x) ≡ true) → Each P line k xs → UpTo r p
    → ((q : Option BodyLine) → UpTo r q → InOrder P q rest) → InOrder P p (amount_lines line k xs ++ rest)
amounts P line top r s [] k p rest l f e u c = c p u
amounts P line top r s (x ∷ xs) k p rest l f e u c = grind (
  arith,
  common_steps,
  (amounts P line top r s xs (k + 1) p rest (omega arith) (λ j y g h. f j y (omega arith) h)
      e.1 u c),
  (amounts P line top r s xs (k + 1) (Some (line k x)) rest (omega arith)
      (λ j y g h. s.step k j x y (omega arith) h) e.1 (s.rank_is k x) c),
)

-- The lines of a value, where P holds of each.
pub record EachLine (P : BodyLine → Type 0) (pairs : List (ℕ × ℕ)) (blocks : List ℕ) (flow : FlowView) : Type 0 where
  pub pit : (i : ℕ) → i < length blocks → P (pit_at (get_or blocks i 0))
  pub source : Each P (line_of_block Source) 0 flow.source
  pub rest : Each P (pair_at pairs) 0 flow.rest
  pub sink : Each P (line_of_block Sink) 0 flow.sink

pub value_in_order : (P : BodyLine → Type 0) (n : ℕ) (pairs : List (ℕ × ℕ)) (pit : List ℕ) (flow : FlowView)
    → IsAscending pit → IsRising pairs → Covers n (length pairs) flow → EachLine P pairs pit flow
    → InOrder P None (value_lines pairs pit flow)
value_in_order P n pairs pit flow a r c e =
    let sources : Rises (line_of_block Source) n 1 = record
    { step = λ i j x y h l. block_step Source i j x y h; rank_is = λ i x. omega arith } in
    let rests : Rises (pair_at pairs) (length pairs) 2 = record
    { step = λ i j x y h l. grind (arith, common_steps); rank_is = λ i x. omega arith } in
    let sinks : Rises (line_of_block Sink) n 3 = record
    { step = λ i j x y h l. block_step Sink i j x y h; rank_is = λ i x. omega arith } in
    let last : (q : Option BodyLine) → UpTo 2 q → InOrder P q (amount_lines (line_of_block Sink) 0 flow.sink) = λ q u.
    subst (InOrder P q) (append-nil (amount_lines (line_of_block Sink) 0 flow.sink))
    (amounts P (line_of_block Sink) n 3 sinks flow.sink 0 q [] (omega (arith, c.sinks))
    (λ j x g h. higher 2 q (line_of_block Sink j x) u (omega arith)) e.sink (wider 2 3 q (omega arith) u)
    (λ p v. tt)) in
    let middle : (q : Option BodyLine) → UpTo 1 q
    → InOrder P q (amount_lines (pair_at pairs) 0 flow.rest ++ amount_lines (line_of_block Sink) 0 flow.sink) =
    λ q u.
    amounts P (pair_at pairs) (length pairs) 2 rests flow.rest 0 q (amount_lines (line_of_block Sink) 0 flow.sink)
    (omega (arith, c.rests)) (λ j x g h. higher 1 q (pair_at pairs j x) u (omega arith)) e.rest
    (wider 1 2 q (omega arith) u) last in
    let first : (q : Option BodyLine) → UpTo 0 q → InOrder P q (flow_lines pairs flow) = λ q u.
    amounts P (line_of_block Source) n 1 sources flow.source 0 q
    (amount_lines (pair_at pairs) 0 flow.rest ++ amount_lines (line_of_block Sink) 0 flow.sink)
    (omega (arith, c.sources)) (λ j x g h. higher 0 q (line_of_block Source j x) u (omega arith)) e.source
    (wider 0 1 q (omega arith) u) middle in
    pits P pit None (flow_lines pairs flow) a (grind (arith, common_steps)) e.pit tt first

-- What lines give, part by part.
given_amount-append : (gives : BodyLine → Bool) (x : Amount) (ls ms : List BodyLine)
    → given_amount gives x (ls ++ ms) ≡ given_amount gives (given_amount gives x ls) ms
given_amount-append gives x [] ms = refl
given_amount-append gives x (l ∷ ls) ms = given_amount-append gives (cond (gives l) (amount_of l) x) ls ms

pits_give_nothing : (gives : BodyLine → Bool) (x : Amount) (bs : List ℕ) → ((b : ℕ) → gives (pit_at b) ≡ false)
    → given_amount gives x (map pit_at bs) ≡ x
pits_give_nothing gives x [] f = refl
pits_give_nothing gives x (b ∷ bs) f = ap
    (λ (t : Bool). given_amount gives (cond t (amount_of (pit_at b)) x) (map pit_at bs)) (f b)
    ∙ pits_give_nothing gives x bs f

amounts_give_nothing : (gives : BodyLine → Bool) (line : ℕ → Amount → BodyLine) (top : ℕ) (xs : List Amount) (k : ℕ)
    (y : Amount) → k + length xs ≤ top → ((j : ℕ) (x : Amount) → k ≤ j → j < top → gives (line j x) ≡ false)
    → given_amount gives y (amount_lines line k xs) ≡ y
amounts_give_nothing gives line top [] k y l f = refl
amounts_give_nothing gives line top (x ∷ xs) k y l f = grind (
  arith,
  common_steps,
  (amounts_give_nothing gives line top xs (k + 1) y (omega arith)
      (λ j a g h. f j a (omega arith) h)),
)

own_given : (x : Amount) (t u : Bool) (a : Amount) → is_zero x ≡ t → u ≡ true → a ≡ x
    → cond t zero_amount (cond u a zero_amount) ≡ x
own_given x t u a e f g = grind (arith, common_steps)

-- The amount at a place is given by the line for that place, and by no other.
pub record Owns (gives : BodyLine → Bool) (line : ℕ → Amount → BodyLine) (top i : ℕ) : Type 0 where
  pub mine : (x : Amount) → gives (line i x) ≡ true
  pub others : (j : ℕ) (x : Amount) → j ≢ i → j < top → gives (line j x) ≡ false
  pub same : (j : ℕ) (x : Amount) → amount_of (line j x) ≡ x

amount_given : (gives : BodyLine → Bool) (line : ℕ → Amount → BodyLine) (top i : ℕ) → Owns gives line top i
    → (xs : List Amount) (k j : ℕ) → k + length xs ≤ top → i ≡ k + j → j < length xs
    → given_amount gives zero_amount (amount_lines line k xs) ≡ get_or xs j zero_amount
amount_given gives line top i o [] k j l e h = absurd (omega arith)
amount_given gives line top i o (x ∷ xs) k zero l e h =
    let here : i ≡ k = omega arith in
    let so : gives (line k x) ≡ true = subst (λ (m : ℕ). gives (line m x) ≡ true) here (o.mine x) in
    grind (arith, common_steps)
    ∙ ap (λ (a : Amount). given_amount gives a (amount_lines line (k + 1) xs))
    (own_given x (is_zero x) (gives (line k x)) (amount_of (line k x)) refl so (o.same k x))
    ∙ amounts_give_nothing gives line top xs (k + 1) x (omega arith) (λ m y g f. o.others m y (λ s. omega (arith, s)) f)
amount_given gives line top i o (x ∷ xs) k (suc j) l e h = grind
    (arith, common_steps, (amount_given gives line top i o xs (k + 1) j (omega arith) (omega arith) (omega arith)))

-- The blocks of the pit.
pub joins : (k : LineKind) (b : ℕ) (xs ys : List ℕ) → block_if_pit k b (xs ++ ys) ≡ block_if_pit k b xs ++ ys
joins k b xs ys = grind (arith, common_steps)

pub pit_append : (ls ms : List BodyLine) → pit_of (ls ++ ms) ≡ pit_of ls ++ pit_of ms
pit_append [] ms = refl
pit_append (l ∷ ls) ms = ap (block_if_pit l.kind l.block) (pit_append ls ms)
    ∙ joins l.kind l.block (pit_of ls) (pit_of ms)

pit_of_pits : (bs : List ℕ) → pit_of (map pit_at bs) ≡ bs
pit_of_pits [] = refl
pit_of_pits (b ∷ bs) = ap (λ (xs : List ℕ). b ∷ xs) (pit_of_pits bs)

no_pit : (line : ℕ → Amount → BodyLine)
    → ((k : ℕ) (x : Amount) (bs : List ℕ) → block_if_pit (line k x).kind (line k x).block bs ≡ bs)
    → (k : ℕ) (xs : List Amount) → pit_of (amount_lines line k xs) ≡ []
no_pit line f k [] = refl
no_pit line f k (x ∷ xs) = (grind (arith, common_steps)) ∙ no_pit line f (k + 1) xs

four_parts : (gives : BodyLine → Bool) (hs ls ms ns : List BodyLine)
    → given_amount gives zero_amount (hs ++ (ls ++ (ms ++ ns))) ≡ given_amount gives
    (given_amount gives (given_amount gives (given_amount gives zero_amount hs) ls) ms) ns
four_parts gives hs ls ms ns = given_amount-append gives zero_amount hs (ls ++ (ms ++ ns))
    ∙ given_amount-append gives (given_amount gives zero_amount hs) ls (ms ++ ns)
    ∙ given_amount-append gives (given_amount gives (given_amount gives zero_amount hs) ls) ms ns

owns_source : (n b : ℕ) → Owns (gives_source b) (line_of_block Source) n b
owns_source n b = record { mine = λ x. eq-eqb b b refl; others = λ j x h l. ne_eqb j b h; same = λ j x. refl }

owns_sink : (n b : ℕ) → Owns (gives_sink b) (line_of_block Sink) n b
owns_sink n b = record { mine = λ x. eq-eqb b b refl; others = λ j x h l. ne_eqb j b h; same = λ j x. refl }

other_pair : (ps : List (ℕ × ℕ)) (i j : ℕ) → IsRising ps → i < length ps → j < length ps → j ≢ i → (t : Bool)
    → (eqb (get_or ps i (0, 0)).0 (get_or ps j (0, 0)).0 && eqb (get_or ps i (0, 0)).1 (get_or ps j (0, 0)).1) ≡ t
    → t ≡ false
other_pair ps i j r h l ne false e = refl
other_pair ps i j r h l ne true e = absurd
    (ne (one_place ps j i (get_or ps j (0, 0)) r l h refl
    (pair_told (get_or ps j (0, 0)).0 (get_or ps j (0, 0)).1 (get_or ps i (0, 0)) e) (ltb j i) (ltb i j) refl refl))

owns_pair : (pairs : List (ℕ × ℕ)) (i : ℕ) → IsRising pairs → i < length pairs
    → Owns (gives_rest (get_or pairs i (0, 0))) (pair_at pairs) (length pairs) i
owns_pair pairs i r h = record {
  mine = λ x. let q = get_or pairs i (0, 0) in tells_pair q.0 q.1 q refl;
  others = λ j x ne l. other_pair pairs i j r h l ne _ refl;
  same = λ j x. refl;
}

pub value_says : (n : ℕ) (pairs : List (ℕ × ℕ)) (pit : List ℕ) (flow : FlowView) → IsRising pairs
    → Covers n (length pairs) flow → DenotesFlow n pairs (value_lines pairs pit flow) pit flow
value_says n pairs pit flow r c =
    let s = amount_lines (line_of_block Source) 0 flow.source in
    let m = amount_lines (pair_at pairs) 0 flow.rest in
    let t = amount_lines (line_of_block Sink) 0 flow.sink in
    record {
      pit = grind (arith, common_steps, pit_append, no_pit, append-nil, pit_of_pits);
      covers = c;
      source = λ b h.
          let g = gives_source b in
          let one : given_amount g zero_amount (map pit_at pit) ≡ zero_amount = pits_give_nothing g zero_amount pit
          (λ a. refl) in
          let two : given_amount g zero_amount s ≡ amount_at flow.source b = amount_given g (line_of_block Source) n b
          (owns_source n b) flow.source 0 b (omega (arith, c.sources)) (omega arith) (omega (arith, c.sources)) in
          let three : (y : Amount) → given_amount g y m ≡ y = λ y. amounts_give_nothing g (pair_at pairs)
          (length pairs) flow.rest 0 y (omega (arith, c.rests)) (λ j x k l. refl) in
          let last : (y : Amount) → given_amount g y t ≡ y = λ y. amounts_give_nothing g (line_of_block Sink) n
          flow.sink 0 y (omega (arith, c.sinks)) (λ j x k l. refl) in
          sym (four_parts g (map pit_at pit) s m t
          ∙ ap (λ (y : Amount). given_amount g (given_amount g (given_amount g y s) m) t) one
          ∙ ap (λ (y : Amount). given_amount g (given_amount g y m) t) two
          ∙ ap (λ (y : Amount). given_amount g y t) (three (amount_at flow.source b))
          ∙ last (amount_at flow.source b));
      rest = λ i h.
          let g = gives_rest (get_or pairs i (0, 0)) in
          let one : given_amount g zero_amount (map pit_at pit) ≡ zero_amount = pits_give_nothing g zero_amount pit
          (λ a. refl) in
          let two : given_amount g zero_amount s ≡ zero_amount = amounts_give_nothing g (line_of_block Source) n
          flow.source 0 zero_amount (omega (arith, c.sources)) (λ j x k l. refl) in
          let three : given_amount g zero_amount m ≡ amount_at flow.rest i = amount_given g (pair_at pairs)
          (length pairs) i (owns_pair pairs i r h) flow.rest 0 i (omega (arith, c.rests)) (omega arith)
          (omega (arith, c.rests)) in
          let last : (y : Amount) → given_amount g y t ≡ y = λ y. amounts_give_nothing g (line_of_block Sink) n
          flow.sink 0 y (omega (arith, c.sinks)) (λ j x k l. refl) in
          sym (four_parts g (map pit_at pit) s m t
          ∙ ap (λ (y : Amount). given_amount g (given_amount g (given_amount g y s) m) t) one
          ∙ ap (λ (y : Amount). given_amount g (given_amount g y m) t) two
          ∙ ap (λ (y : Amount). given_amount g y t) three ∙ last (amount_at flow.rest i));
      sink = λ b h.
          let g = gives_sink b in
          let one : given_amount g zero_amount (map pit_at pit) ≡ zero_amount = pits_give_nothing g zero_amount pit
          (λ a. refl) in
          let two : given_amount g zero_amount s ≡ zero_amount = amounts_give_nothing g (line_of_block Source) n
          flow.source 0 zero_amount (omega (arith, c.sources)) (λ j x k l. refl) in
          let three : given_amount g zero_amount m ≡ zero_amount = amounts_give_nothing g (pair_at pairs)
          (length pairs) flow.rest 0 zero_amount (omega (arith, c.rests)) (λ j x k l. refl) in
          let last : given_amount g zero_amount t ≡ amount_at flow.sink b = amount_given g (line_of_block Sink) n b
          (owns_sink n b) flow.sink 0 b (omega (arith, c.sinks)) (omega arith) (omega (arith, c.sinks)) in
          sym (four_parts g (map pit_at pit) s m t
          ∙ ap (λ (y : Amount). given_amount g (given_amount g (given_amount g y s) m) t) one
          ∙ ap (λ (y : Amount). given_amount g (given_amount g y m) t) two
          ∙ ap (λ (y : Amount). given_amount g y t) three ∙ last);
    }

-- P holds of each line of amounts, where it does of each place and amount of a kind.
pub each_all : (P : BodyLine → Type 0) (Q : Amount → Type 0) (line : ℕ → Amount → BodyLine) (top : ℕ)
    → ((k : ℕ) (x : Amount) → k < top → Q x → is_zero x ≡ false → P (line k x)) → (xs : List Amount) (k : ℕ)
    → k + length xs ≤ top → ((j : ℕ) → j < length xs → Q (get_or xs j zero_amount)) → Each P line k xs
each_all P Q line top f [] k l q = tt
each_all P Q line top f (x ∷ xs) k l q = (
  f k x (omega arith) (q 0 (omega arith)),
  each_all P Q line top f xs (k + 1) (omega arith)
      (λ j h. q (suc j) (omega arith)),
)

abbrev Any : Amount → Type 0
Any x = Unit {0}

proper_at : (n : ℕ) (has : ℕ → ℕ → Bool) (k b : ℕ) (x : Amount) (kind : LineKind) → b < n → is_zero x ≡ false
    → is_end kind ≡ false → (kind ≡ Pit → ⊥) → is_of_model has kind (line_of_block kind b x) ≡ true
    → Proper n has (line_of_block kind b x)
proper_at n has k b x kind h z e p m = record
    { block = h; last = e; other = λ _. refl; none = λ q. absurd (p q); some = λ _. z; pair = m }

-- The lines of a value are proper.
pub value_proper : (n : ℕ) (pairs : List (ℕ × ℕ)) (pit : List ℕ) (flow : FlowView) → All (λ b. b < n) pit
    → All (IsKnown n) pairs → Covers n (length pairs) flow → EachLine (Proper n (has_pair pairs)) pairs pit flow
value_proper n pairs pit flow known pairs_known c =
    let has : ℕ → ℕ → Bool = has_pair pairs in
    record {
      pit = λ i h. record {
        block = known i 0 h;
        last = refl;
        other = λ _. refl;
        none = λ _. refl;
        some = λ q. absurd
            (let z : false ≡ true = q in cc);
        pair = refl;
      };
      source = each_all (Proper n has) Any (line_of_block Source) n
          (λ k x h q z. proper_at n has k k x Source h z refl (λ e. cc) refl) flow.source 0 (omega (arith, c.sources))
          (λ j h. tt);
      rest = each_all (Proper n has) Any (pair_at pairs) (length pairs) (λ k x h q z. record {
        block = (pairs_known k (0, 0) h).0;
        last = refl;
        other = λ f. absurd (let y : true ≡ false = f in cc);
        none = λ e. absurd (let y : Rest ≡ Pit = e in cc);
        some = λ _. z;
        pair = present (get_or pairs k (0, 0)).0 (get_or pairs k (0, 0)).1 pairs k h refl;
      }) flow.rest 0 (omega (arith, c.rests)) (λ j h. tt);
      sink = each_all (Proper n has) Any (line_of_block Sink) n
          (λ k x h q z. proper_at n has k k x Sink h z refl (λ e. cc) refl) flow.sink 0 (omega (arith, c.sinks))
          (λ j h. tt);
    }

pub each_both : (P Q : BodyLine → Type 0) (line : ℕ → Amount → BodyLine) (k : ℕ) (xs : List Amount) → Each P line k xs
    → Each Q line k xs → Each (λ l. P l × Q l) line k xs
each_both P Q line k [] e f = tt
each_both P Q line k (x ∷ xs) e f = (λ z. (e.0 z, f.0 z), each_both P Q line (k + 1) xs e.1 f.1)
