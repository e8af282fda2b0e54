-- Where the arrivals sum to what is given in all, the words have a greatest flow.
use Rattle.fixed_worth.proofs.Common.{◌≡◌, ℕ, pos, ◌-ℤ◌, ◌≤ℤ◌, ◌+◌, ◌%◌, ◌<◌, List, [], ◌∷◌, zero, suc, get_or, refl}
use Rattle.fixed_worth.proofs.Common.{ap, ap₂, sym, ◌∙◌, subst, arith, ints}
use mathlib.Core.Option.{some, some-injective, some-ne-none}
use lib.ListN.{get_elem?}
use Rattle.atomic_table.specs.Table.{State, Seen, Final}
use Rattle.ordered_group.specs.Prelude.{Amount, AtMost, plus, minus, negative, amount_at}
use Rattle.closure_net.specs.Prelude.{NetView, FlowView, IsGreatestFlow}
use Rattle.machine_law.specs.States as law
use Rattle.machine_law.specs.Prelude.{IsQuiet, all_given, IsWhole, IsFlowOf}
use Rattle.machine_law.proofs.Law.{runs_keep_law}
use Rattle.ordered_group.proofs.Signs.{AtMost-minus}
use Rattle.ordered_group.specs.declared.scaled.Scaled.{Scaled}
use Rattle.word_runner.proofs.Uncut.{uncut_greatest}
use Rattle.machine_law.proofs.Numbers.{same, equal}
use Rattle.machine_law.proofs.Conserved.{runs_conserve}
use Rattle.machine_law.proofs.Quiet.{quiet_solves}
use Rattle.word_steps.specs.declared.view.View.{View}
use Rattle.word_steps.specs.Prelude.{units, count, room_at, IsRuled}
use Rattle.word_runner.specs.Prelude.{IsFlowOfWords, IsWorker, scaled_parts, AreRooms, IsRunOf, IsOpenRunOf, IsQuietEnd}
use Rattle.word_steps.proofs.Units.{units_same, by_one}

turned_round : (n s r : Amount) → minus n s ≡ r → s ≡ minus n r
turned_round n s r e = let h = same e in equal (record { w = omega (arith, ints, h); c = omega (arith, ints, h) })

-- no room at the sink is more than what may be given there
pub rooms_of : (net : NetView) (s : State (Unit {0}) View) → IsRuled net s → AreRooms net s.words
rooms_of net s r b l = subst (λ (a : Amount). AtMost a (negative (amount_at net.worths b))) (r.cells.room b l)
    (AtMost-minus (negative (amount_at net.worths b)) (r.machine.sink b)
    ((runs_keep_law net r.events r.machine r.run).amounts.sink b))

module _ (net : NetView) (s : State (Unit {0}) View) (r : IsRuled net s) (sum : ℕ) (all : all_given net ≡ units sum)
  where
    abbrev t : law.State
    t = r.machine

    whole : IsWhole net t
    whole = runs_conserve net r.events t r.is_net.rests.known r.run

    both : plus t.at_source t.at_sink ≡ units (get_or s.words 0 0 + get_or s.words 1 0)
    both = ap₂ plus r.cells.at_source r.cells.at_sink ∙ equal (record { w = omega (arith, ints); c = refl })

    quiet_then : get_or s.words 0 0 + get_or s.words 1 0 ≡ sum → IsQuiet net t
    quiet_then e = whole.arrived.0 (both ∙ ap units e ∙ sym all)

    module _ (id : ℕ) (v : View) (at : get_elem? s.views id ≡ some v) (w : IsWorker 0 1 v) where
      run_of : IsRunOf net v.made
      run_of = record {
        events = r.events;
        machine = t;
        run = r.run;
        at_blocks = λ b l. (r.made id v at).own b l
            (record { live = w.live; serves = ap (λ (k : ℕ). b % k) w.workers_are ∙ by_one b ∙ sym w.number_is });
      }

      pub ends : (flow : FlowView) → get_or s.words 0 0 + get_or s.words 1 0 ≡ sum → IsFlowOfWords net s.words flow
          → IsQuietEnd net v.made flow
      unfolding run_of
      ends flow e f =
          let of : IsFlowOf net t flow = record {
            fits = f.fits;
            source = λ b l. f.source b l ∙ sym (r.cells.source b l);
            rest = λ k l. f.rest k l ∙ sym (r.cells.flow k l);
            sink = λ b l. f.sink b l ∙ sym (turned_round _ _ _ (r.cells.room b l));
          } in
          let solved = quiet_solves net r.events t flow r.is_net.rests.known r.run (quiet_then e) of in
          record {
            quiet = record { run = run_of; quiet = quiet_then e; amounts = of };
            greatest = λ uncut is k. uncut_greatest uncut k.worths is.rests.known k.cuts flow
                (subst (λ (n : NetView). IsGreatestFlow n flow) k.is solved.greatest);
          }

      pub stays_open : ¬ (get_or s.words 0 0 + get_or s.words 1 0 ≡ sum) → IsOpenRunOf net v.made
      unfolding run_of
      stays_open ne = record { run = run_of; unquiet = λ q. ne (units_same _ _ (sym both ∙ whole.arrived.1 q ∙ all)) }

pub at_get : (l : List ℕ) (i a : ℕ) → get_elem? l i ≡ some a → get_or l i 0 ≡ a
at_get [] i a e = absurd (some-ne-none a (sym e))
at_get (x ∷ xs) zero a e = some-injective x a e
at_get (x ∷ xs) (suc i) a e = at_get xs i a e

-- a room that is read is within what the block may give the sink
module _ (net : NetView) (ws : List ℕ) (b from word : ℕ) (l : b < count net) (at : from ≡ room_at net 0)
    (read : get_elem? ws (from + b) ≡ some word) where
  room_is : get_or ws (room_at net b) 0 ≡ word
  room_is = ap (λ (i : ℕ). get_or ws i 0) (omega (arith, at)) ∙ at_get ws (from + b) word read

  pub room_within : (x : Scaled) → scaled_parts x ≡ negative (amount_at net.worths b) → AreRooms net ws
      → pos word ≤ℤ x.units
  room_within x e rooms = let r = (rooms b l).worths in let s = same e in let w = room_is in omega
      (arith, ints, r, s, w)

  pub given_is : (x y : Scaled) → scaled_parts x ≡ negative (amount_at net.worths b) → y.units ≡ x.units -ℤ pos word
      → scaled_parts y ≡ minus (negative (amount_at net.worths b)) (units (get_or ws (room_at net b) 0))
  given_is x y e d = equal
      (let s = same e in let w = room_is in record { w = omega (arith, ints, s, w, d); c = omega (arith, ints, s) })

-- ---- the same of words that are closed
module _ (net key : NetView) (id : ℕ) (v : View) (ws : List ℕ) (xs : List (Unit {0})) (is : key ≡ net)
    (f : Final (Seen (IsRuled key) id v) ws xs) where
  ruled : IsRuled net f.0
  ruled = subst (λ (n : NetView). IsRuled n f.0) is f.1.0

  pub rooms_closed : AreRooms net ws
  rooms_closed = subst (AreRooms net) f.2 (rooms_of net f.0 ruled)

  module _ (sum : ℕ) (all : all_given net ≡ units sum) (w : IsWorker 0 1 v) where
    pub ends_closed : (flow : FlowView) → get_or ws 0 0 + get_or ws 1 0 ≡ sum → IsFlowOfWords net ws flow
        → IsQuietEnd net v.made flow
    ends_closed flow e o = ends net f.0 ruled sum all id v f.1.1 w flow
        (ap (λ (l : List ℕ). get_or l 0 0 + get_or l 1 0) f.2 ∙ e)
        (subst (λ (l : List ℕ). IsFlowOfWords net l flow) (sym f.2) o)

    pub open_closed : ¬ (get_or ws 0 0 + get_or ws 1 0 ≡ sum) → IsOpenRunOf net v.made
    open_closed ne = stays_open net f.0 ruled sum all id v f.1.1 w
        (λ e. ne (ap (λ (l : List ℕ). get_or l 0 0 + get_or l 1 0) (sym f.2) ∙ e))
