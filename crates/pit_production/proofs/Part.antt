-- What bounds the schedules of the blocks of a richest pit bounds all schedules.
use Rattle.fixed_worth.proofs.Common.{ℕ, ◌<◌, Bool, ◌&&◌, nat_lt, List, All, length, refl, arith, ints, and_parts}
use Rattle.fixed_worth.proofs.Common.{ltb-true, lt-ltb}
use Rattle.prec_file.proofs.Pairs.{rests_of_pair, pair_of_rests}
use Rattle.closure_net.specs.Prelude.{IsAscending, holds_of}
use Rattle.sub_mines.specs.Renumbered.{IsListed, number_in}
use Rattle.sub_mines.proofs.Kept.{listed}
use Rattle.schedules.specs.Prelude.{IsPartOf, Production, by_ways}
use Rattle.schedules.proofs.Part.{pit_is_enough}
use Rattle.pit_production.specs.Prelude.{ThePartBounds, TheTreatedPartBounds, part_of}

-- the part is one of the whole, by the places in the list
is_part : (plan : Production) (kept : List ℕ) → IsPartOf plan (part_of plan kept) (number_in kept)
is_part plan kept = record {
  periods = refl;
  resources = refl;
  own = record {
    own = λ i j t.
        let x = and_parts (nat_lt i (length kept) && nat_lt j (length kept))
        (plan.mine.rests (number_in kept i) (number_in kept j)) t in
        let y = and_parts (nat_lt i (length kept)) (nat_lt j (length kept)) x.0 in
        (ltb-true i (length kept) y.0, ltb-true j (length kept) y.1);
  };
  rests = λ i j l k. rw (lt-ltb i (length kept) l, lt-ltb j (length kept) k) refl;
  values = λ i t l k. refl;
  uses = λ r i l k. refl;
  capacities = λ r t l k. refl;
}

-- the blocks of the list are those of its set
is_listed : (n : ℕ) (kept : List ℕ) → IsAscending kept → All (λ b. b < n) kept
    → IsListed (holds_of kept) n (length kept) (number_in kept)
is_listed n kept rising below = listed (holds_of kept) n kept
    (record { ascending = rising; below = below; are = λ b l. refl })

pub part_bounds : ThePartBounds
part_bounds plan weight kept lag waits less bound weighted falling back rising below rich pairs holds = λ schedule
    feasible later.
    let at = number_in kept in
    let enough = pit_is_enough plan (part_of plan kept) weight (holds_of kept) at schedule weighted falling back rich
    (is_listed plan.mine.blocks kept rising below) (is_part plan kept) feasible in
    let most = holds (λ i. schedule (at i)) enough.0 (λ i j t l.
    let pair = pair_of_rests less i j t in
    let known = pairs.known i j pair in
    later (at i) (at j) (rests_of_pair waits (at i) (at j) ((pairs.same i j known.0 known.1).0 pair)) l) in
    let no_less = enough.1 in
    omega (arith, ints, most, no_less)

-- a place of a list has one of its numbers
pub in_list : (n : ℕ) (kept : List ℕ) → All (λ b. b < n) kept → (i : ℕ) → i < length kept → number_in kept i < n
in_list n kept below i l = below i 0 l

pub treated_part_bounds : TheTreatedPartBounds
treated_part_bounds treated weight kept lag waits less bound each falling rising below rich pairs holds = λ way known.
    part_bounds (by_ways treated way) weight kept lag waits less bound
    (record { values = λ b t l k. each.values b (way b) t l (known b l) k }) falling
    (record { uses = λ r b k l. each.uses r b (way b) k l (known b l) })
    rising below rich pairs (holds (λ i. way (number_in kept i))
    (λ i l. known (number_in kept i) (in_list treated.mine.blocks kept below i l)))
