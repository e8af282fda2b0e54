-- A load of an arrival keeps the rule, and tells a number below 2^63.
use Rattle.fixed_worth.proofs.Common.{◌≡◌, ℕ, List, [], ◌∷◌, ◌++◌, get_or, set, sym, refl, subst, arith, common_steps}
use mathlib.Core.Option.{none, some}
use lib.ListN.{get_elem?}
use lib.Seq.{set-get_or}
use Rattle.atomic_table.specs.Table.{State, step, keeps, Allows}
use Rattle.closure_net.specs.Network.{NetView}
use Rattle.machine_law.proofs.Conserved.{runs_conserve}
use Rattle.word_steps.specs.declared.view.View.{View}
use Rattle.word_steps.specs.Prelude.{IsRuled, Sees, IsSeatsOwn, IsMadeBy, Sat, LooksUp}
use Rattle.word_steps.proofs.SeatViews.{seats_set}
use Rattle.word_steps.proofs.Units.{fits_in}

-- a view that differs in what was loaded alone
loaded_more : (net : NetView) (s : State (Unit {0}) View) (id : ℕ) (v : View) (l : List (ℕ × ℕ)) → IsRuled net s
    → get_elem? s.views id ≡ some v
    → IsRuled net (record { words = s.words; homes = s.homes; views = set s.views id (record v { loaded = l }) })
loaded_more net s id v l r at =
    let mine = r.seats id v at in
    let made = r.made id v at in
    let same : (b : ℕ) → IsSeatsOwn (record v { loaded = l }) b
    → IsSeatsOwn v b = λ b o. record { live = o.live; serves = o.serves } in
    record {
      events = r.events;
      machine = r.machine;
      owner = r.owner;
      is_net = r.is_net;
      small = r.small;
      run = r.run;
      made = seats_set (λ j x. IsMadeBy net r.events x) s.views id (record v { loaded = l })
          (record {
            own = λ b m o. made.own b m (same b o);
            other = λ b m no. made.other b m
                (λ o. no (record { live = o.live; serves = o.serves }));
          }) (λ j x ne e. r.made j x e);
      cells = r.cells;
      seats = seats_set (λ j x. Sees net r.machine r.owner s.words j x) s.views id (record v { loaded = l })
          (record {
            owns = λ b m o. mine.owns b m (same b o);
            operation = λ b m o. mine.operation b m
                (same b o);
            label = λ b m o. mine.label b m (same b o);
            flow = λ k m o. mine.flow k m (same _ o);
          })
          (λ j x ne e. r.seats j x e);
    }

pub looks_up : (net : NetView) (slots id i : ℕ) (me : Sat)
    → Allows (IsRuled net) slots id me i (λ n. n) (LooksUp (step slots i 0 0 none) me)
looks_up net slots id i me s r _ at _ =
    let l = me.0.loaded ++ (i, get_or s.words i 0) ∷ [] in (
      record me.0 { loaded = l },
      keeps,
      tt,
      subst (λ (z : List ℕ). IsRuled net
          (record { words = z; homes = s.homes; views = set s.views id (record me.0 { loaded = l }) }))
          (sym (set-get_or s.words i 0)) (loaded_more net s id me.0 l r at),
      (refl, refl, λ m. grind (arith, common_steps, runs_conserve, fits_in)),
    )
