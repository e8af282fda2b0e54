-- A text that is sent in pieces: what the writer received of each makes up what it received of all.
use Rattle.fixed_worth.proofs.Common.{◌≡◌, ℕ, ◌+◌, ◌≤◌, List, [], ◌++◌, length, take, drop, Option, refl, sym, subst}
use Rattle.fixed_worth.proofs.Common.{append_assoc, append-nil, length-append, arith, take-append-add, take-add}
use Rattle.fixed_worth.proofs.Common.{take-append-le, take_all, Appends-trans, Appends-nil, Appends-kept, Appends}
use Rattle.fixed_worth.proofs.Common.{Keeps, common_steps}
use Rattle.counted_devices.specs.Device.{ReceivedPrefix, SentOrHeld}

-- ---- all of a piece, or a prefix of it

-- a prefix of the first piece is a prefix of both together
pub prefix_of_first : (a b : Option (List ℕ)) (xs ys : List ℕ) → ReceivedPrefix a b xs → ReceivedPrefix a b (xs ++ ys)
prefix_of_first a b xs ys (k, most, sent) = grind
    (arith, common_steps, (length-append xs ys), (take-append-le k xs ys most))

-- a prefix of a text's front is a prefix of the text
pub prefix_of_part : (a b : Option (List ℕ)) (front rest text : List ℕ) → front ++ rest ≡ text
    → ReceivedPrefix a b front → ReceivedPrefix a b text
prefix_of_part a b front rest text whole part = subst (ReceivedPrefix a b) whole (prefix_of_first a b front rest part)

-- all of the first piece, and a prefix of the second, is a prefix of both together
pub prefix_of_second : (a b c : Option (List ℕ)) (xs ys : List ℕ) → Appends a b xs → ReceivedPrefix b c ys
    → ReceivedPrefix a c (xs ++ ys)
prefix_of_second a b c xs ys first (k, most, second) = (
  length xs + k,
  omega (arith, length-append xs ys),
  subst (Appends a c) (sym (take-append-add xs ys k)) (Appends-trans a b c xs (take k ys) first second),
)

-- ---- a text that is sent from its front on

-- one more write
pub sent_more : (a b c : Option (List ℕ)) (done taken : ℕ) (text rest : List ℕ)
    → Appends a b (take done text) → rest ≡ drop done text → Appends b c (take taken rest)
    → Appends a c (take (done + taken) text)
sent_more a b c done taken text rest front here next = grind (arith, common_steps, take-add)

-- all that there is
pub sent_all : (a b : Option (List ℕ)) (done : ℕ) (text : List ℕ) → length text ≤ done → Appends a b (take done text)
    → Appends a b text
sent_all a b done text end = subst (Appends a b) (take_all done text end)

-- a write failed
pub sent_part : (a b c : Option (List ℕ)) (done : ℕ) (text : List ℕ) → done ≤ length text
    → Appends a b (take done text) → Keeps b c → ReceivedPrefix a c text
sent_part a b c done text most front same = (done, most, Appends-kept a b c (take done text) front same)

-- ---- a text of which a part is held back

-- at the beginning nothing is sent, and what is held is the text
pub all_held : (a : Option (List ℕ)) (held : List ℕ) → SentOrHeld a a held held
all_held a held = record { sent = []; received = Appends-nil a; whole = refl }

-- what was held is sent, and a further piece with it: nothing is held
pub none_held : (a b c : Option (List ℕ)) (held piece : List ℕ) → Appends a b held → Appends b c piece
    → SentOrHeld a c [] (held ++ piece)
none_held a b c held piece first second = grind (arith, common_steps, (append-nil (held ++ piece)))

-- one more piece, of which a part may be held
pub held_more : (a b c : Option (List ℕ)) (held rest text piece : List ℕ)
    → SentOrHeld a b held text → SentOrHeld b c rest (held ++ piece) → SentOrHeld a c rest (text ++ piece)
held_more a b c held rest text piece so more = grind (arith, common_steps, Appends-trans)

-- where what is held is sent, the whole text is
pub held_sent : (a b c : Option (List ℕ)) (held text : List ℕ) → SentOrHeld a b held text → Appends b c held
    → Appends a c text
held_sent a b c held text so last = subst (Appends a c) so.whole (Appends-trans a b c so.sent held so.received last)

-- where a prefix of what is held is sent, a prefix of the whole text is
pub held_prefix : (a b c : Option (List ℕ)) (held text : List ℕ) → SentOrHeld a b held text → ReceivedPrefix b c held
    → ReceivedPrefix a c text
held_prefix a b c held text so last = grind
    (arith, common_steps, (prefix_of_second a b c so.sent held so.received last))

-- where a prefix of what is held and a further piece is sent, a prefix of the text and that piece is
pub held_more_prefix : (a b c : Option (List ℕ)) (held text piece : List ℕ)
    → SentOrHeld a b held text → ReceivedPrefix b c (held ++ piece) → ReceivedPrefix a c (text ++ piece)
held_more_prefix a b c held text piece so last = grind (
  arith,
  common_steps,
  (append_assoc so.sent held piece),
  (prefix_of_second a b c so.sent (held ++ piece) so.received last),
)

-- ---- two pieces that are put one after the other

-- both are sent or held
pub held_both : (a b c : Option (List ℕ)) (before between after xs ys : List ℕ)
    → SentOrHeld a b between (before ++ xs) → SentOrHeld b c after (between ++ ys)
    → SentOrHeld a c after (before ++ (xs ++ ys))
held_both a b c before between after xs ys first second = grind (arith, common_steps, append_assoc, held_more)

-- a write failed in the first
pub prefix_in_first : (a b : Option (List ℕ)) (before xs ys : List ℕ) → ReceivedPrefix a b (before ++ xs)
    → ReceivedPrefix a b (before ++ (xs ++ ys))
prefix_in_first a b before xs ys = prefix_of_part a b (before ++ xs) ys (before ++ (xs ++ ys))
    (append_assoc before xs ys)

-- a write failed in the second
pub prefix_in_second : (a b c : Option (List ℕ)) (before between xs ys : List ℕ)
    → SentOrHeld a b between (before ++ xs) → ReceivedPrefix b c (between ++ ys)
    → ReceivedPrefix a c (before ++ (xs ++ ys))
prefix_in_second a b c before between xs ys first second = grind
    (arith, common_steps, (append_assoc before xs ys), (held_more_prefix a b c between (before ++ xs) ys first second))
