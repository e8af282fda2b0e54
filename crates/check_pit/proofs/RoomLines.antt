-- What comes of putting a line of each kind into a room.
use Rattle.fixed_worth.proofs.Common.{◌≡◌, ◌≢◌, ℕ, ◌<◌, eqb, length, refl, sym, subst, arith, Result, Ok, Err}
use Rattle.fixed_worth.proofs.Common.{MatchResult, get_or-set_other, IfOk, IfErr, length-append, get_or-append_seam}
use Rattle.fixed_worth.proofs.Common.{ints, eq-eqb, ne_eqb, common_steps}
use Rattle.ordered_group.specs.Prelude.{Amount, zero_amount, plus, minus, AtMost, FitsPair, Amount_eq, where_so}
use Rattle.ordered_group.specs.Prelude.{amount_at}
use Rattle.ordered_group.proofs.Steps.{fits_same}
use Rattle.ordered_group.proofs.Totals.{plus-zero_right}
use Rattle.closure_net.specs.Network.{NetView}
use Rattle.closure_net.proofs.Ascending.{apart_by_places}
use Rattle.check_pit.specs.declared.pit_fault.PitFault.{PitFault}
use Rattle.check_pit.specs.declared.pit_fault.PitFault.TheVariants.{TooLarge}
use Rattle.certificate_file.specs.declared.body_lines.LineKind.TheVariants.{Pit, Source, Rest, Sink}
use Rattle.certificate_file.specs.declared.body_lines.BodyLine.{BodyLine}
use Rattle.certificate_file.specs.Certificate.{amount_of}
use Rattle.check_pit.specs.Prelude.{keeps_by, RoomView, MayPut, WithLine, SumOverflowsWith, RefusedWhere, Puts}
use Rattle.check_pit.specs.Prelude.{PutsLine, RefusesLine, with_balance, with_left}
use Rattle.check_pit.proofs.RoomSums.{puts_line, refuses_line, with_sink}

-- ---- space for a block that stands after those before it

pub block_space : (net : NetView) (room : RoomView) (line : BodyLine) → line.kind ≡ Pit → MayPut net room line
    → length room.blocks < room.space
block_space net room line is may = grind (arith, common_steps, length-append, get_or-append_seam, apart_by_places)

-- ---- sums that don't fit

pub block_over : (net : NetView) (l : BodyLine) (room : RoomView) (x : Amount) → l.kind ≡ Pit
    → x ≡ amount_at net.worths l.block → ¬ (FitsPair (plus room.worth x))
    → RefusedWhere net l (SumOverflowsWith net room l) TooLarge
block_over net l room x is e n = grind (arith, common_steps, fits_same, plus-zero_right)

sink_here : (y x : Amount) (b : ℕ) → minus y x ≡ plus y (minus zero_amount (where_so (eqb b b) x))
sink_here y x b = let e = eq-eqb b b refl in rw e (Amount_eq _ _ (omega (arith, ints)) (omega (arith, ints)))

to_here : (y x : Amount) (b p : ℕ) → b ≢ p → plus y x ≡ plus y (minus (where_so (eqb p p) x) (where_so (eqb b p) x))
to_here y x b p d = let e = eq-eqb p p refl in let f = ne_eqb b p d in rw (e, f)
    (Amount_eq _ _ (omega (arith, ints)) (omega (arith, ints)))

pub to_over : (net : NetView) (l : BodyLine) (room mid : RoomView) (x : Amount) → l.kind ≡ Rest → l.block ≢ l.other
    → l.other < length net.worths → x ≡ amount_of l → AtMost zero_amount (amount_of l)
    → mid ≡ with_balance l.block (minus (amount_at room.balances l.block) x) room
    → ¬ (FitsPair (plus (amount_at mid.balances l.other) x))
    → RefusedWhere net l (SumOverflowsWith net room l) TooLarge
to_over net l room mid x is d h e k m n = grind (arith, common_steps, get_or-set_other, fits_same, to_here)

-- ---- what the last step of a line comes to

pub source_put : {U : Type 0} (net : NetView) (l : BodyLine) (before mid later : RoomView) (x : Amount)
    (r : Result U PitFault) → l.kind ≡ Source → l.block < length before.balances → x ≡ amount_of l
    → keeps_by Source net.worths l
    → mid ≡ with_balance l.block (plus (amount_at before.balances l.block) x) before
    → MatchResult r (λ _. later ≡ with_left (minus mid.left x) mid) (λ e. (e ≡ TooLarge) × (later ≡ mid)
    × ¬ (FitsPair (minus mid.left x)))
    → Puts Source net l before later r
source_put net l before mid later x r is h e k m w = grind (arith, common_steps)

pub sink_put : {U : Type 0} (net : NetView) (l : BodyLine) (before later : RoomView) (x : Amount)
    (r : Result U PitFault) → l.kind ≡ Sink → l.block < length net.worths → length before.balances ≡ length net.worths
    → x ≡ amount_of l → keeps_by Sink net.worths l
    → MatchResult r (λ _. later ≡ with_balance l.block (minus (amount_at before.balances l.block) x) before)
    (λ e. (e ≡ TooLarge) × (later ≡ before) × ¬ (FitsPair (minus (amount_at before.balances l.block) x)))
    → Puts Sink net l before later r
sink_put net l before later x (Ok u) is h s e k w = (with_sink net l before later x is (omega (arith, h, s)) e w, k)
sink_put net l before later x (Err d) is h s e k w = subst
    (λ (f : PitFault). RefusedWhere net l (SumOverflowsWith net before l) f) (sym w.0)
    (grind (arith, common_steps, fits_same, sink_here))

-- ---- a line after those whose sums the room has

pub puts_ok : {U : Type 0} (K : Type 0) (net : NetView) (l : BodyLine) (before later : RoomView)
    (r : Result U PitFault) → MatchResult r (λ _. WithLine net l before later × K)
    (λ e. RefusedWhere net l (SumOverflowsWith net before l) e) → IfOk r (λ _. PutsLine net l before later)
puts_ok K net l before later (Ok u) h = puts_line net l before later h.0
puts_ok K net l before later (Err e) h = tt

pub puts_err : {U : Type 0} (K : Type 0) (net : NetView) (l : BodyLine) (before later : RoomView)
    (r : Result U PitFault) → MatchResult r (λ _. WithLine net l before later × K)
    (λ e. RefusedWhere net l (SumOverflowsWith net before l) e) → IfErr r (λ e. RefusesLine net l before e)
puts_err K net l before later (Ok u) h = tt
puts_err K net l before later (Err e) h = refuses_line net l before e h
