-- A text that is put line after line.
use Rattle.fixed_worth.proofs.Common.{◌≡◌, ℕ, ◌+◌, ◌<◌, true, false, List, [], ◌∷◌, ◌++◌, length, map, get_or, drop}
use Rattle.fixed_worth.proofs.Common.{Option, refl, sym, ap, ◌∙◌, subst, append_assoc, append-nil, arith, Appends}
use Rattle.fixed_worth.proofs.Common.{common_steps}
use Rattle.counted_devices.specs.Device.{ReceivedPrefix, SentOrHeld}
use Rattle.counted_devices.proofs.Pieces.{all_held, held_more, held_more_prefix, prefix_of_first, held_both, held_sent}
use Rattle.counted_devices.proofs.Pieces.{held_prefix, prefix_in_first, prefix_in_second}
use Rattle.ordered_group.specs.Amount.{Amount, zero_amount, is_zero}
use Rattle.closure_net.specs.Network.{FlowView}
use Rattle.certificate_file.specs.declared.body_lines.LineKind.TheVariants.{Source, Rest, Sink}
use Rattle.certificate_file.specs.declared.body_lines.LineKind.{LineKind}
use Rattle.certificate_file.specs.declared.body_lines.BodyLine.{BodyLine}
use Rattle.certificate_file.specs.Written.{spaced_words, line_words, body_text, amount_lines, pit_at, line_at}
use Rattle.certificate_file.specs.Written.{flow_lines}

-- Of all that is to be put, after what was held at first, this is left.
pub record Put (a b : Option (List ℕ)) (first now left all : List ℕ) : Type 0 where
  pub done : List ℕ
  pub held : SentOrHeld a b now (first ++ done)
  pub whole : done ++ left ≡ all

pub put_begins : (a : Option (List ℕ)) (first all : List ℕ) → Put a a first first all all
put_begins a first all = record {
  done = [];
  held = subst (SentOrHeld a a first) (sym (append-nil first))
      (all_held a first);
  whole = refl;
}

pub put_more : (a b c : Option (List ℕ)) (first now next piece left all : List ℕ)
    → Put a b first now (piece ++ left) all → SentOrHeld b c next (now ++ piece) → Put a c first next left all
put_more a b c first now next piece left all p h = grind (
  arith,
  common_steps,
  (append_assoc first p.done piece),
  (held_more a b c now next (first ++ p.done) piece p.held h),
  (append_assoc p.done piece left),
)

pub put_failed : (a b c : Option (List ℕ)) (first now piece left all : List ℕ) → Put a b first now (piece ++ left) all
    → ReceivedPrefix b c (now ++ piece) → ReceivedPrefix a c (first ++ all)
put_failed a b c first now piece left all p h = grind (
  arith,
  common_steps,
  (held_more_prefix a b c now (first ++ p.done) piece p.held h),
  (prefix_of_first a c ((first ++ p.done) ++ piece) left
      (held_more_prefix a b c now (first ++ p.done) piece p.held h)),
  (append_assoc (first ++ p.done) piece left),
  (append_assoc first p.done (piece ++ left)),
)

pub one_written : (line : ℕ → Amount → BodyLine) (k : ℕ) (xs : List Amount) (x : Amount) → k < length xs
    → get_or xs k zero_amount ≡ x → is_zero x ≡ false
    → body_text (amount_lines line k (drop k xs)) ≡ (spaced_words (line_words (line k x)) ++ (10 ∷ [])) ++ body_text
    (amount_lines line (k + 1) (drop (k + 1) xs))
one_written line k xs x h e z = grind (arith, common_steps)

pub line_put : (line : ℕ → Amount → BodyLine) (xs : List Amount) (k : ℕ) (x : Amount) (l : BodyLine)
    (a b c : Option (List ℕ)) (first now next all : List ℕ) → k < length xs → get_or xs k zero_amount ≡ x
    → is_zero x ≡ false → l ≡ line k x
    → Put a b first now (body_text (amount_lines line k (drop k xs))) all
    → SentOrHeld b c next (now ++ (spaced_words (line_words l) ++ (10 ∷ [])))
    → Put a c first next (body_text (amount_lines line (k + 1) (drop (k + 1) xs))) all
line_put line xs k x l a b c first now next all h e z same p s =
    put_more a b c first now next (spaced_words (line_words (line k x)) ++ (10 ∷ []))
    (body_text (amount_lines line (k + 1) (drop (k + 1) xs))) all
    (subst (λ (t : List ℕ). Put a b first now t all) (one_written line k xs x h e z) p)
    (subst (λ (m : BodyLine). SentOrHeld b c next (now ++ (spaced_words (line_words m) ++ (10 ∷ [])))) same s)

pub line_failed : (line : ℕ → Amount → BodyLine) (xs : List Amount) (k : ℕ) (x : Amount) (l : BodyLine)
    (a b c : Option (List ℕ)) (first now all : List ℕ) → k < length xs → get_or xs k zero_amount ≡ x
    → is_zero x ≡ false → l ≡ line k x
    → Put a b first now (body_text (amount_lines line k (drop k xs))) all
    → ReceivedPrefix b c (now ++ (spaced_words (line_words l) ++ (10 ∷ []))) → ReceivedPrefix a c (first ++ all)
line_failed line xs k x l a b c first now all h e z same p s =
    put_failed a b c first now (spaced_words (line_words (line k x)) ++ (10 ∷ []))
    (body_text (amount_lines line (k + 1) (drop (k + 1) xs))) all
    (subst (λ (t : List ℕ). Put a b first now t all) (one_written line k xs x h e z) p)
    (subst (λ (m : BodyLine). ReceivedPrefix b c (now ++ (spaced_words (line_words m) ++ (10 ∷ [])))) same s)

pub line_skipped : (line : ℕ → Amount → BodyLine) (xs : List Amount) (k : ℕ) (x : Amount) (a b : Option (List ℕ))
    (first now all : List ℕ) → k < length xs → get_or xs k zero_amount ≡ x → is_zero x ≡ true
    → Put a b first now (body_text (amount_lines line k (drop k xs))) all
    → Put a b first now (body_text (amount_lines line (k + 1) (drop (k + 1) xs))) all
line_skipped line xs k x a b first now all h e z p = subst (λ (t : List ℕ). Put a b first now t all)
    (grind (arith, common_steps)) p

-- The steps of the loop over the blocks of the pit.
block_written : (bs : List ℕ) (k : ℕ) → k < length bs
    → body_text (map pit_at (drop k bs)) ≡ (spaced_words (line_words (pit_at (get_or bs k 0))) ++ (10 ∷ []))
    ++ body_text (map pit_at (drop (k + 1) bs))
block_written bs k h = grind (arith, common_steps)

pub block_put : (bs : List ℕ) (k : ℕ) (a b c : Option (List ℕ)) (first now next all : List ℕ) → k < length bs
    → Put a b first now (body_text (map pit_at (drop k bs))) all
    → SentOrHeld b c next (now ++ (spaced_words (line_words (pit_at (get_or bs k 0))) ++ (10 ∷ [])))
    → Put a c first next (body_text (map pit_at (drop (k + 1) bs))) all
block_put bs k a b c first now next all h p s =
    put_more a b c first now next (spaced_words (line_words (pit_at (get_or bs k 0))) ++ (10 ∷ []))
    (body_text (map pit_at (drop (k + 1) bs))) all
    (subst (λ (t : List ℕ). Put a b first now t all) (block_written bs k h) p) s

pub block_failed : (bs : List ℕ) (k : ℕ) (a b c : Option (List ℕ)) (first now all : List ℕ) → k < length bs
    → Put a b first now (body_text (map pit_at (drop k bs))) all
    → ReceivedPrefix b c (now ++ (spaced_words (line_words (pit_at (get_or bs k 0))) ++ (10 ∷ [])))
    → ReceivedPrefix a c (first ++ all)
block_failed bs k a b c first now all h p s =
    put_failed a b c first now (spaced_words (line_words (pit_at (get_or bs k 0))) ++ (10 ∷ []))
    (body_text (map pit_at (drop (k + 1) bs))) all
    (subst (λ (t : List ℕ). Put a b first now t all) (block_written bs k h) p) s

-- Three texts, put one after the other.
pub three_held : (a b c d : Option (List ℕ)) (p q r s x y z all : List ℕ) → x ++ (y ++ z) ≡ all
    → SentOrHeld a b q (p ++ x) → SentOrHeld b c r (q ++ y) → SentOrHeld c d s (r ++ z) → SentOrHeld a d s (p ++ all)
three_held a b c d p q r s x y z all e h i j = grind (arith, common_steps, append_assoc, held_both)

pub first_failed : (a b : Option (List ℕ)) (p x y z all : List ℕ) → x ++ (y ++ z) ≡ all → ReceivedPrefix a b (p ++ x)
    → ReceivedPrefix a b (p ++ all)
first_failed a b p x y z all e h = subst (λ (t : List ℕ). ReceivedPrefix a b (p ++ t)) e
    (prefix_in_first a b p x (y ++ z) h)

pub second_failed : (a b c : Option (List ℕ)) (p q x y z all : List ℕ) → x ++ (y ++ z) ≡ all
    → SentOrHeld a b q (p ++ x) → ReceivedPrefix b c (q ++ y) → ReceivedPrefix a c (p ++ all)
second_failed a b c p q x y z all e h i = grind (
  arith,
  common_steps,
  (append_assoc x y z),
  (prefix_in_first a c p (x ++ y) z (prefix_in_second a b c p q x y h i)),
  (prefix_in_second a b c p q x y h i),
)

pub third_failed : (a b c d : Option (List ℕ)) (p q r x y z all : List ℕ) → x ++ (y ++ z) ≡ all
    → SentOrHeld a b q (p ++ x) → SentOrHeld b c r (q ++ y) → ReceivedPrefix c d (r ++ z)
    → ReceivedPrefix a d (p ++ all)
third_failed a b c d p q r x y z all e h i j = grind (
  arith,
  common_steps,
  (append_assoc x y z),
  (prefix_in_second a c d p r (x ++ y) z (held_both a b c p q r x y h i) j),
  (held_both a b c p q r x y h i),
)

-- The text of lines that stand after others.
pub body_append : (ls ms : List BodyLine) → body_text (ls ++ ms) ≡ body_text ls ++ body_text ms
body_append [] ms = refl
body_append (l ∷ ls) ms = ap (λ (t : List ℕ). spaced_words (line_words l) ++ (10 ∷ t)) (body_append ls ms)
    ∙ sym (append_assoc (spaced_words (line_words l)) (10 ∷ body_text ls) (body_text ms))

pub body_parts : (ls ms : List BodyLine) (end : List ℕ) → body_text ls ++ (body_text ms ++ end) ≡ body_text (ls ++ ms)
    ++ end
body_parts ls ms end = sym (append_assoc (body_text ls) (body_text ms) end)
    ∙ ap (λ (t : List ℕ). t ++ end) (sym (body_append ls ms))

-- The text of the lines of a kind, of which a flow has three.
abbrev pub kind_text : LineKind → List (ℕ × ℕ) → List Amount → List ℕ
kind_text kind pairs xs = body_text (amount_lines (line_at kind pairs) 0 xs)

flow_is : (pairs : List (ℕ × ℕ)) (flow : FlowView) (xs ys zs : List Amount) → xs ≡ flow.source → ys ≡ flow.rest
    → zs ≡ flow.sink → kind_text Source pairs xs ++ (kind_text Rest pairs ys ++ kind_text Sink pairs zs) ≡ body_text
    (flow_lines pairs flow)
flow_is pairs flow xs ys zs e f g = grind (arith, common_steps, kind_text, body_append)

pub flow_first_failed : (pairs : List (ℕ × ℕ)) (flow : FlowView) (xs : List Amount) (a b : Option (List ℕ))
    (p : List ℕ) → xs ≡ flow.source → ReceivedPrefix a b (p ++ kind_text Source pairs xs)
    → ReceivedPrefix a b (p ++ body_text (flow_lines pairs flow))
flow_first_failed pairs flow xs a b p e h = first_failed a b p (kind_text Source pairs xs)
    (kind_text Rest pairs flow.rest) (kind_text Sink pairs flow.sink) _
    (flow_is pairs flow xs flow.rest flow.sink e refl refl) h

pub flow_second_failed : (pairs : List (ℕ × ℕ)) (flow : FlowView) (xs ys : List Amount) (a b c : Option (List ℕ))
    (p q : List ℕ) → xs ≡ flow.source → ys ≡ flow.rest → SentOrHeld a b q (p ++ kind_text Source pairs xs)
    → ReceivedPrefix b c (q ++ kind_text Rest pairs ys) → ReceivedPrefix a c (p ++ body_text (flow_lines pairs flow))
flow_second_failed pairs flow xs ys a b c p q e f h i = second_failed a b c p q (kind_text Source pairs xs)
    (kind_text Rest pairs ys) (kind_text Sink pairs flow.sink) _ (flow_is pairs flow xs ys flow.sink e f refl) h i

pub flow_third_failed : (pairs : List (ℕ × ℕ)) (flow : FlowView) (xs ys zs : List Amount) (a b c d : Option (List ℕ))
    (p q r : List ℕ) → xs ≡ flow.source → ys ≡ flow.rest → zs ≡ flow.sink
    → SentOrHeld a b q (p ++ kind_text Source pairs xs) → SentOrHeld b c r (q ++ kind_text Rest pairs ys)
    → ReceivedPrefix c d (r ++ kind_text Sink pairs zs)
    → ReceivedPrefix a d (p ++ body_text (flow_lines pairs flow))
flow_third_failed pairs flow xs ys zs a b c d p q r e f g h i j = third_failed a b c d p q r
    (kind_text Source pairs xs) (kind_text Rest pairs ys) (kind_text Sink pairs zs) _
    (flow_is pairs flow xs ys zs e f g) h i j

pub flow_held : (pairs : List (ℕ × ℕ)) (flow : FlowView) (xs ys zs : List Amount) (a b c d : Option (List ℕ))
    (p q r s : List ℕ) → xs ≡ flow.source → ys ≡ flow.rest → zs ≡ flow.sink
    → SentOrHeld a b q (p ++ kind_text Source pairs xs) → SentOrHeld b c r (q ++ kind_text Rest pairs ys)
    → SentOrHeld c d s (r ++ kind_text Sink pairs zs) → SentOrHeld a d s (p ++ body_text (flow_lines pairs flow))
flow_held pairs flow xs ys zs a b c d p q r s e f g h i j = three_held a b c d p q r s (kind_text Source pairs xs)
    (kind_text Rest pairs ys) (kind_text Sink pairs zs) _ (flow_is pairs flow xs ys zs e f g) h i j

-- A header before the rest.
pub both_sent : (a b c d : Option (List ℕ)) (p q x y : List ℕ) → SentOrHeld a b p ([] ++ x)
    → SentOrHeld b c q (p ++ y) → Appends c d q → Appends a d (x ++ y)
both_sent a b c d p q x y h i j = held_sent a c d q (x ++ y) (held_both a b c [] p q x y h i) j

pub last_failed : (a b c d : Option (List ℕ)) (p q x y : List ℕ) → SentOrHeld a b p ([] ++ x)
    → SentOrHeld b c q (p ++ y) → ReceivedPrefix c d q → ReceivedPrefix a d (x ++ y)
last_failed a b c d p q x y h i j = held_prefix a c d q (x ++ y) (held_both a b c [] p q x y h i) j
