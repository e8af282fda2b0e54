-- One or two seats in a list.
use Rattle.std.proofs.Common.{◌≡◌, ℕ, List, [], ◌∷◌, length, ap, sym, ◌∙◌, subst}
use lib.ListN.{get_elem?}
use Rattle.word_runner.specs.Prelude.{Own, WordsView, IsServed, IsWorker, IsFirst, AreFirst, AreSeats}

pub served_one : (w : WordsView) (xs : List Own) (s : Own) → xs ≡ s ∷ [] → AreSeats w xs → IsServed w.shared 0 1 s
served_one w xs s e a =
    let n : 1 ≡ w.workers = ap (λ (l : List Own). length l) (sym e) ∙ a.size in
    subst (λ (k : ℕ). IsServed w.shared 0 k s) (sym n) (a.each 0 s (ap (λ (l : List Own). get_elem? l 0) e))

pub served_two : (w : WordsView) (xs : List Own) (s t : Own) → xs ≡ s ∷ t ∷ [] → AreSeats w xs
    → IsServed w.shared 0 2 s × IsServed w.shared 1 2 t
served_two w xs s t e a =
    let n : 2 ≡ w.workers = ap (λ (l : List Own). length l) (sym e) ∙ a.size in (
      subst (λ (k : ℕ). IsServed w.shared 0 k s) (sym n) (a.each 0 s (ap (λ (l : List Own). get_elem? l 0) e)),
      subst (λ (k : ℕ). IsServed w.shared 1 k t) (sym n) (a.each 1 t (ap (λ (l : List Own). get_elem? l 1) e)),
    )

pub first_seats : (w : WordsView) (n : ℕ) (seats : List Own) → w.workers ≡ n → AreFirst w n seats → AreSeats w seats
first_seats w n seats e a = record {
  size = a.size ∙ sym e;
  each = λ k s at. let f = (a.each k s at).serving in
      (f.seat, f.told, subst (λ (m : ℕ). IsWorker k m s.place.me.0) (sym e) f.worker);
}

pub first_two : (w : WordsView) (xs : List Own) (s t : Own) → xs ≡ s ∷ t ∷ [] → AreFirst w 2 xs → IsFirst w 0 2 s
    × IsFirst w 1 2 t
first_two w xs s t e a =
    (a.each 0 s (ap (λ (l : List Own). get_elem? l 0) e), a.each 1 t (ap (λ (l : List Own). get_elem? l 1) e))
