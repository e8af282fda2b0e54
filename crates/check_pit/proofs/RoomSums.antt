-- The sums of a room, with one line more.
use Rattle.fixed_worth.proofs.Common.{◌≡◌, ℕ, set, ◌+◌, ◌<◌, Bool, false, eqb, List, [], ◌∷◌, ◌++◌, length, map, refl}
use Rattle.fixed_worth.proofs.Common.{sym, ap, ◌∙◌, arith, append-nil, Option, ints, length-set, map-set, is_some}
use Rattle.fixed_worth.proofs.Common.{common_steps}
use Rattle.ordered_group.specs.Prelude.{Amount, zero_amount, plus, minus, Amount_eq, where_so, amount_at}
use Rattle.ordered_group.proofs.Totals.{plus-zero_left, plus-zero_right, plus-assoc}
use Rattle.ordered_group.proofs.Steps.{fits_same}
use Rattle.closure_net.specs.Network.{NetView}
use Rattle.check_pit.specs.declared.pit_fault.PitFault.{PitFault}
use Rattle.certificate_file.specs.declared.body_lines.LineKind.TheVariants.{Rest, Sink, End}
use Rattle.certificate_file.specs.declared.body_lines.BodyLine.{BodyLine}
use Rattle.certificate_file.specs.Certificate.{block_if_pit, pit_of, amount_of}
use Rattle.check_pit.specs.Prelude.{brings_by, balance_of, source_by, source_sum, worth_of_blocks, residual_after}
use Rattle.check_pit.specs.Prelude.{SomeLineSumOverflows, blocks_of_pit, RoomView, AreSumsOf, WithLine}
use Rattle.check_pit.specs.Prelude.{SumOverflowsWith, RefusedWhere, PutsLine, RefusesLine, with_balance}
use Rattle.certificate_file.proofs.ValueLines.{joins}

-- ---- the sums over some lines, and over one more

pub balance_more : (ls : List BodyLine) (l : BodyLine) (b : ℕ) → balance_of (ls ++ l ∷ []) b ≡ plus (balance_of ls b)
    (brings_by l.kind l b)
balance_more [] l b = plus-zero_right (brings_by l.kind l b) ∙ sym (plus-zero_left (brings_by l.kind l b))
balance_more (m ∷ ms) l b = ap (plus (brings_by m.kind m b)) (balance_more ms l b)
    ∙ sym (plus-assoc (brings_by m.kind m b) (balance_of ms b) (brings_by l.kind l b))

pub sources_more : (ls : List BodyLine) (l : BodyLine)
    → source_sum (ls ++ l ∷ []) ≡ plus (source_sum ls) (source_by l.kind (amount_of l))
sources_more [] l = plus-zero_right (source_by l.kind (amount_of l))
    ∙ sym (plus-zero_left (source_by l.kind (amount_of l)))
sources_more (m ∷ ms) l = ap (plus (source_by m.kind (amount_of m))) (sources_more ms l)
    ∙ sym (plus-assoc (source_by m.kind (amount_of m)) (source_sum ms) (source_by l.kind (amount_of l)))

taken_twice : (t x y : Amount) → minus t (plus x y) ≡ minus (minus t x) y
taken_twice t x y = Amount_eq _ _ (omega (arith, ints)) (omega (arith, ints))

pub left_more : (ws : List Amount) (ls : List BodyLine) (l : BodyLine)
    → residual_after ws (ls ++ l ∷ []) ≡ minus (residual_after ws ls) (source_by l.kind (amount_of l))
left_more ws ls l = grind (arith, common_steps, sources_more, taken_twice)

pub pit_more : (ls : List BodyLine) (l : BodyLine) → pit_of (ls ++ l ∷ []) ≡ pit_of ls ++ block_if_pit l.kind l.block []
pit_more [] l = refl
pit_more (m ∷ ms) l = ap (block_if_pit m.kind m.block) (pit_more ms l)
    ∙ joins m.kind m.block (pit_of ms) (block_if_pit l.kind l.block [])

pub worth_more : (ws : List Amount) (bs cs : List ℕ) → worth_of_blocks ws (bs ++ cs) ≡ plus (worth_of_blocks ws bs)
    (worth_of_blocks ws cs)
worth_more ws [] cs = sym (plus-zero_left (worth_of_blocks ws cs))
worth_more ws (b ∷ bs) cs = ap (plus (amount_at ws b)) (worth_more ws bs cs)
    ∙ sym (plus-assoc (amount_at ws b) (worth_of_blocks ws bs) (worth_of_blocks ws cs))

worth_with : (ws : List Amount) (ls : List BodyLine) (l : BodyLine)
    → worth_of_blocks ws (pit_of (ls ++ l ∷ [])) ≡ plus (worth_of_blocks ws (pit_of ls))
    (worth_of_blocks ws (block_if_pit l.kind l.block []))
worth_with ws ls l = ap (worth_of_blocks ws) (pit_more ls l)
    ∙ worth_more ws (pit_of ls) (block_if_pit l.kind l.block [])

-- ---- a line that is put, and one that is refused, after the lines whose sums the room has

pub puts_line : (net : NetView) (l : BodyLine) (before later : RoomView) → WithLine net l before later
    → PutsLine net l before later
puts_line net l before later w = grind (arith, common_steps, balance_more, pit_more, worth_with, left_more)

overflows : (net : NetView) (ls : List BodyLine) (l : BodyLine) (room : RoomView) → AreSumsOf net ls room
    → SumOverflowsWith net room l → SomeLineSumOverflows net (ls ++ l ∷ [])
overflows net ls l room s h = grind (arith, common_steps, fits_same, balance_more, worth_with, left_more)

refused_more : (net : NetView) (l : BodyLine) (P Q : Type 0) → (P → Q) → (e : PitFault) → RefusedWhere net l P e
    → RefusedWhere net l Q e
refused_more net l P Q f e h = grind (arith, common_steps)

pub refuses_line : (net : NetView) (l : BodyLine) (room : RoomView) (e : PitFault)
    → RefusedWhere net l (SumOverflowsWith net room l) e → RefusesLine net l room e
refuses_line net l room e h = λ ls s. refused_more net l (SumOverflowsWith net room l)
    (SomeLineSumOverflows net (ls ++ l ∷ [])) (overflows net ls l room s) e h

-- ---- one balance changed

added_at : (xs : List Amount) (b k : ℕ) (x : Amount) (t : Bool) → b < length xs → eqb b k ≡ t
    → amount_at (set xs b (plus (amount_at xs b) x)) k ≡ plus (amount_at xs k) (where_so t x)
added_at xs b k x t h e = grind (arith, common_steps)

taken_at : (xs : List Amount) (b k : ℕ) (x : Amount) (t : Bool) → b < length xs → eqb b k ≡ t
    → amount_at (set xs b (minus (amount_at xs b) x)) k ≡ plus (amount_at xs k) (minus zero_amount (where_so t x))
taken_at xs b k x t h e = grind (arith, common_steps)

moved : (y u v : Amount) → plus (plus y (minus zero_amount u)) v ≡ plus y (minus v u)
moved y u v = Amount_eq _ _ (omega (arith, ints)) (omega (arith, ints))

-- ---- what lines of each kind bring

pub with_sink : (net : NetView) (l : BodyLine) (before later : RoomView) (x : Amount) → l.kind ≡ Sink
    → l.block < length before.balances → x ≡ amount_of l
    → later ≡ with_balance l.block (minus (amount_at before.balances l.block) x) before → WithLine net l before later
with_sink net l before later x is h e w = grind (arith, common_steps)

pub with_rest : (net : NetView) (l : BodyLine) (before mid later : RoomView) (x : Amount) → l.kind ≡ Rest
    → l.block < length before.balances → l.other < length before.balances → x ≡ amount_of l
    → mid ≡ with_balance l.block (minus (amount_at before.balances l.block) x) before
    → later ≡ with_balance l.other (plus (amount_at mid.balances l.other) x) mid → WithLine net l before later
with_rest net l before mid later x is h i e m w = grind
    (arith, common_steps, length-set, added_at, eqb, taken_at, moved, append-nil, plus-zero_right)

-- ---- the list of a pit that is not made yet

pub blocks_open : (bs : List ℕ) (p : Option (List ℕ)) → is_some p ≡ false → blocks_of_pit bs p ≡ bs
blocks_open bs p h = grind (arith, common_steps)

-- ---- fields of a room changed in place

pub balance_set : {X : Type 0} (f : X → Amount) (xs : List X) (bs : List ℕ) (s : ℕ) (p : Bool) (w r : Amount) (b : ℕ)
    (x : X) (y : Amount) (room : RoomView)
    → record { balances = map f xs; blocks = bs; space = s; is_pit = p; worth = w; left = r } ≡ room
    → f x ≡ y → record { balances = map f (set xs b x); blocks = bs; space = s; is_pit = p; worth = w; left = r }
    ≡ with_balance b y room
balance_set f xs bs s p w r b x y room is e = grind (arith, common_steps, map-set)

-- the last line brings nothing
pub with_end : (net : NetView) (l : BodyLine) (room : RoomView) → l.kind ≡ End → WithLine net l room room
with_end net l room is = grind (arith, common_steps)

-- balances that are made zero one after another
pub cleared_size : {X : Type 0} (xs : List X) (b : ℕ) (x : X) (n : ℕ) → length xs ≡ n → length (set xs b x) ≡ n
cleared_size xs b x n e = length-set xs b x ∙ e

pub cleared_more : {X : Type 0} (f : X → Amount) (xs : List X) (b : ℕ) (x : X) → b < length xs → f x ≡ zero_amount
    → ((k : ℕ) → k < b → amount_at (map f xs) k ≡ zero_amount) → (k : ℕ) → k < b + 1
    → amount_at (map f (set xs b x)) k ≡ zero_amount
cleared_more f xs b x h z i k l = grind (arith, common_steps, (map-set f xs b x))
