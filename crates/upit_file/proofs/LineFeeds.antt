-- Lines in a row, and the lines of blocks.
use Rattle.fixed_worth.proofs.Common.{◌≡◌, ℕ, ℤ, pos, suc, ◌+◌, ◌<◌, List, [], ◌∷◌, ◌++◌, length, get_or, take, drop}
use Rattle.fixed_worth.proofs.Common.{refl, sym, ap, ◌∙◌, arith, append_assoc, add-one, Option, subst, take-suc}
use Rattle.fixed_worth.proofs.Common.{take-append-drop, length-take-le, common_steps}
use Rattle.fixed_worth.specs.Prelude.{with_line_feeds}
use Rattle.counted_devices.specs.Prelude.{SentOrHeld, ReceivedPrefix}
use Rattle.fixed_worth.proofs.Joined.{with_line_feeds-append}
use Rattle.counted_devices.proofs.Pieces.{held_both, prefix_in_first, prefix_in_second}
use Rattle.upit_file.specs.Writing.{record_line, record_lines}

pub record_lines-append : (b : ℕ) (xs ys : List ℤ) → record_lines b (xs ++ ys) ≡ record_lines b xs ++ record_lines
    (b + length xs) ys
record_lines-append b [] ys = let e : b + 0 ≡ b = omega arith in rw e refl
record_lines-append b (x ∷ xs) ys =
    let e : b + 1 + length xs ≡ b + suc (length xs) = omega arith in
    ap (λ l. record_line b x ∷ l) (record_lines-append (b + 1) xs ys
    ∙ ap (λ k. record_lines (b + 1) xs ++ record_lines k ys) e)

pub one_more : (vs : List ℤ) (i : ℕ) → i < length vs
    → record_lines 0 (take i vs) ++ (record_line i (get_or vs i (pos 0)) ∷ []) ≡ record_lines 0 (take (i + 1) vs)
one_more vs i h = grind (arith, common_steps, pos, add-one, take-suc, length-take-le, record_lines-append)

-- The lines of the blocks from the ith on.
abbrev pub lines_after : List ℤ → ℕ → List (List ℕ)
lines_after vs i = record_lines (0 + length (take i vs)) (drop i vs)

pub parts : (vs : List ℤ) (i : ℕ) → record_lines 0 (take i vs) ++ lines_after vs i ≡ record_lines 0 vs
parts vs i = sym (record_lines-append 0 (take i vs) (drop i vs)) ∙ ap (record_lines 0) (take-append-drop i vs)

-- ---- lines that are put one after another

pub held_lines : (a b c : Option (List ℕ)) (h h1 h2 : List ℕ) (xs ys : List (List ℕ))
    → SentOrHeld a b h1 (h ++ with_line_feeds xs) → SentOrHeld b c h2 (h1 ++ with_line_feeds ys)
    → SentOrHeld a c h2 (h ++ with_line_feeds (xs ++ ys))
held_lines a b c h h1 h2 xs ys p q =
    subst (λ (t : List ℕ). SentOrHeld a c h2 (h ++ t)) (sym (with_line_feeds-append xs ys))
    (held_both a b c h h1 h2 (with_line_feeds xs) (with_line_feeds ys) p q)

pub prefix_lines : (a b c : Option (List ℕ)) (h h1 : List ℕ) (xs ys : List (List ℕ))
    → SentOrHeld a b h1 (h ++ with_line_feeds xs) → ReceivedPrefix b c (h1 ++ with_line_feeds ys)
    → ReceivedPrefix a c (h ++ with_line_feeds (xs ++ ys))
prefix_lines a b c h h1 xs ys p q = grind (
  arith,
  common_steps,
  (with_line_feeds-append xs ys),
  (prefix_in_second a b c h h1 (with_line_feeds xs) (with_line_feeds ys) p q),
)

pub prefix_before : (a b : Option (List ℕ)) (h : List ℕ) (xs ys : List (List ℕ))
    → ReceivedPrefix a b (h ++ with_line_feeds xs) → ReceivedPrefix a b (h ++ with_line_feeds (xs ++ ys))
prefix_before a b h xs ys p = subst (λ (t : List ℕ). ReceivedPrefix a b (h ++ t)) (sym (with_line_feeds-append xs ys))
    (prefix_in_first a b h (with_line_feeds xs) (with_line_feeds ys) p)

-- One more line of a block is put, or a prefix of it.
pub held_record : (a b c : Option (List ℕ)) (h h1 h2 : List ℕ) (vs : List ℤ) (i : ℕ) (line : List ℕ) → i < length vs
    → line ≡ record_line i (get_or vs i (pos 0)) → SentOrHeld a b h1 (h ++ with_line_feeds (record_lines 0 (take i vs)))
    → SentOrHeld b c h2 (h1 ++ with_line_feeds (line ∷ []))
    → SentOrHeld a c h2 (h ++ with_line_feeds (record_lines 0 (take (i + 1) vs)))
held_record a b c h h1 h2 vs i line j e p q = grind
    (arith, common_steps, (one_more vs i j), (held_lines a b c h h1 h2 (record_lines 0 (take i vs)) (line ∷ []) p q))

pub prefix_record : (a b c : Option (List ℕ)) (h h1 : List ℕ) (vs : List ℤ) (i : ℕ) (line : List ℕ) → i < length vs
    → line ≡ record_line i (get_or vs i (pos 0)) → SentOrHeld a b h1 (h ++ with_line_feeds (record_lines 0 (take i vs)))
    → ReceivedPrefix b c (h1 ++ with_line_feeds (line ∷ []))
    → ReceivedPrefix a c (h ++ with_line_feeds (record_lines 0 vs))
prefix_record a b c h h1 vs i line j e p q =
    let more : ReceivedPrefix a c (h ++ with_line_feeds (record_lines 0 (take (i + 1) vs))) =
    subst (λ (ls : List (List ℕ)). ReceivedPrefix a c (h ++ with_line_feeds ls))
    (ap (λ (l : List ℕ). record_lines 0 (take i vs) ++ (l ∷ [])) e ∙ one_more vs i j)
    (prefix_lines a b c h h1 (record_lines 0 (take i vs)) (line ∷ []) p q) in
    subst (λ (ls : List (List ℕ)). ReceivedPrefix a c (h ++ with_line_feeds ls)) (parts vs (i + 1))
    (prefix_before a c h (record_lines 0 (take (i + 1) vs)) (lines_after vs (i + 1)) more)

-- ---- three groups of lines

pub two_groups : (a b c : Option (List ℕ)) (h1 h2 : List ℕ) (xs ys : List (List ℕ))
    → SentOrHeld a b h1 (with_line_feeds xs) → SentOrHeld b c h2 (h1 ++ with_line_feeds ys)
    → SentOrHeld a c h2 (with_line_feeds (xs ++ ys))
two_groups a b c h1 h2 xs ys p q = held_lines a b c [] h1 h2 xs ys p q

regrouped : (xs ys zs : List (List ℕ)) → with_line_feeds ((xs ++ ys) ++ zs) ≡ with_line_feeds (xs ++ (ys ++ zs))
regrouped xs ys zs = ap with_line_feeds (append_assoc xs ys zs)

pub prefix_one : (a b : Option (List ℕ)) (xs ys zs : List (List ℕ)) → ReceivedPrefix a b (with_line_feeds xs)
    → ReceivedPrefix a b (with_line_feeds (xs ++ (ys ++ zs)))
prefix_one a b xs ys zs p = prefix_before a b [] xs (ys ++ zs) p

pub prefix_two : (a b c : Option (List ℕ)) (h1 : List ℕ) (xs ys zs : List (List ℕ))
    → SentOrHeld a b h1 (with_line_feeds xs) → ReceivedPrefix b c (h1 ++ with_line_feeds ys)
    → ReceivedPrefix a c (with_line_feeds (xs ++ (ys ++ zs)))
prefix_two a b c h1 xs ys zs p q = subst (ReceivedPrefix a c) (regrouped xs ys zs)
    (prefix_before a c [] (xs ++ ys) zs (prefix_lines a b c [] h1 xs ys p q))

pub prefix_three : (a b c : Option (List ℕ)) (h1 : List ℕ) (xs ys zs : List (List ℕ))
    → SentOrHeld a b h1 (with_line_feeds (xs ++ ys)) → ReceivedPrefix b c (h1 ++ with_line_feeds zs)
    → ReceivedPrefix a c (with_line_feeds (xs ++ (ys ++ zs)))
prefix_three a b c h1 xs ys zs p q = subst (ReceivedPrefix a c) (regrouped xs ys zs)
    (prefix_lines a b c [] h1 (xs ++ ys) zs p q)

pub all_groups : (a b c : Option (List ℕ)) (h1 h2 : List ℕ) (xs ys zs : List (List ℕ))
    → SentOrHeld a b h1 (with_line_feeds (xs ++ ys)) → SentOrHeld b c h2 (h1 ++ with_line_feeds zs)
    → SentOrHeld a c h2 (with_line_feeds (xs ++ (ys ++ zs)))
all_groups a b c h1 h2 xs ys zs p q = subst (SentOrHeld a c h2) (regrouped xs ys zs)
    (held_lines a b c [] h1 h2 (xs ++ ys) zs p q)
