-- No schedule that keeps its waits is worth more than the bound by the richest pit of the nodes with these waits,
-- whichever ways its blocks go.
use Rattle.fixed_worth.proofs.Common.{◌≡◌, ℕ, ◌+◌, ◌*◌, ◌/◌, ◌%◌, ◌<◌, ◌≤◌, ℤ, pos, ◌-ℤ◌, ◌≤ℤ◌, Bool, true, false, cond}
use Rattle.fixed_worth.proofs.Common.{◌&&◌, ◌==◌, nat_lt, IsTrue, List, [], ◌∷◌, list_any, refl, sym, ap, ◌∙◌, arith}
use Rattle.fixed_worth.proofs.Common.{ints, inl, inr, and_parts, and_from, or_cases, or_left, or_right, eq-eqb}
use Rattle.fixed_worth.proofs.Common.{eqb-true, ltb-true, le-leb}
use Rattle.std.proofs.lemmas.Bool.{leb-true}
use Rattle.std.proofs.lemmas.Nat.{div_below}
use Rattle.prec_file.specs.Rests.{has_pair}
use Rattle.closure_net.specs.Mine.{IsPit, worth_of}
use Rattle.schedules.specs.Prelude.{Production, KeepsPrecedence, Treated, by_ways, expanded, leaving, nodes_of, reduced}
use Rattle.schedules.proofs.Sums.{sum-same, worth_is_sum}
use Rattle.schedules.proofs.Layers.{nodes_are_pit, nodes_worth, some_blocks}
use Rattle.schedules.proofs.Duality.{all_charged, npv_parts}
use Rattle.schedules.proofs.Ways.{left_less}
use Rattle.expanded_mine.specs.Prelude.{TheTreatedPitBounds, TheWaitingPitBounds, is_early, leaving_mine, rests_by_wait}
use Rattle.expanded_mine.specs.Prelude.{treated_mine_of, withheld}

-- a block that has a pair has one with some block
some_pair : (b : ℕ) (ps : List (ℕ × ℕ)) → list_any (λ q. q.0 == b) ps ≡ true → (a : ℕ) × (has_pair ps b a ≡ true)
some_pair b [] h = absurd cc
some_pair b (q ∷ ps) h = elim (or_cases (q.0 == b) (list_any (λ p. p.0 == b) ps) h) [
  | inl e ↦ (
    q.1,
    or_left ((q.0 == b) && (q.1 == q.1)) (has_pair ps b q.1)
        (and_from (q.0 == b) (q.1 == q.1) e (eq-eqb q.1 q.1 refl)),
  )
  | inr e ↦ let x = some_pair b ps e in (x.0, or_right ((q.0 == b) && (q.1 == x.0)) (has_pair ps b x.0) x.1)
]

-- of a resource that isn't there nothing is charged
uncharged : (x y : ℤ) (t : Bool) → x -ℤ cond t y (pos 0) ≡ (x -ℤ pos 0) -ℤ cond t (y -ℤ pos 0) (pos 0)
uncharged x y true = omega (arith, ints)
uncharged x y false = omega (arith, ints)

-- what is withheld of no chosen node changes nothing
kept_worth : (t early : Bool) (x : ℤ) → (t ≡ true → early ≡ false)
    → cond t (x -ℤ withheld early) (pos 0) ≡ cond t x (pos 0)
kept_worth true early x h = rw (h refl) (omega (arith, ints))
kept_worth false early x h = refl

module _ (treated : Treated) (price : ℕ → ℕ → ℕ) (left : ℕ → ℕ → ℤ) (lag : ℕ) (waits : List (ℕ × ℕ)) (schedule : ℕ → ℕ)
    (later : (b a : ℕ) → IsTrue (has_pair waits b a) → schedule b < treated.periods → lag + schedule a ≤ schedule b)
  where
    -- what the mine of nodes is made of
    abbrev left_over : Production
    left_over = leaving treated left

    waiting_pit : KeepsPrecedence left_over schedule
        → IsPit (treated_mine_of treated left lag waits) (nodes_of left_over schedule)
    waiting_pit keeps i j r t =
        let n = treated.mine.blocks in
        elim (or_cases ((expanded left_over price).rests i j) (rests_by_wait n treated.periods lag waits i j) r) [
          | inl x ↦ nodes_are_pit left_over price schedule keeps i j x t
          | inr x ↦
              let y = and_parts (nat_lt i (treated.periods * n))
              (i / n == lag + j / n && has_pair waits (i % n) (j % n)) x in
              let z = and_parts (i / n == lag + j / n) (has_pair waits (i % n) (j % n)) y.1 in
              let known = ltb-true i (treated.periods * n) y.0 in
              let after = eqb-true (i / n) (lag + j / n) z.0 in
              let period = div_below i n treated.periods (some_blocks n treated.periods i known) known in
              let dug = leb-true (schedule (i % n)) (i / n) t in
              let before = later (i % n) (j % n) z.1 (omega (arith, dug, period)) in
              le-leb (schedule (j % n)) (j / n) (omega (arith, before, dug, after))
        ]

    -- no node of the schedule is early
    not_early : (i : ℕ) → i < treated.periods * treated.mine.blocks → nodes_of left_over schedule i ≡ true
        → is_early treated.mine.blocks lag waits i ≡ false
    not_early i l t = by_test (is_early treated.mine.blocks lag waits i) refl
      where
        by_test : (early : Bool) → is_early treated.mine.blocks lag waits i ≡ early → early ≡ false
        by_test false e = refl
        by_test true e =
            let n = treated.mine.blocks in
            let y = and_parts (nat_lt (i / n) lag) (list_any (λ q. q.0 == i % n) waits) e in
            let low = ltb-true (i / n) lag y.0 in
            let pair = some_pair (i % n) waits y.1 in
            let period = div_below i n treated.periods (some_blocks n treated.periods i l) l in
            let dug = leb-true (schedule (i % n)) (i / n) t in
            let before = later (i % n) pair.0 pair.1 (omega (arith, dug, period)) in
            absurd (omega (arith, low, dug, before))

    -- so they are worth what they are without waits
    same_worth : worth_of (treated_mine_of treated left lag waits) (nodes_of left_over schedule) ≡ worth_of
        (expanded left_over price) (nodes_of left_over schedule)
    same_worth =
        let nodes = nodes_of left_over schedule in
        let n = treated.mine.blocks in
        let m = treated.periods * n in
        let f : ℕ → ℤ = λ i. cond (nodes i) ((treated_mine_of treated left lag waits).worth i) (pos 0) in
        let g : ℕ → ℤ = λ i. cond (nodes i) ((expanded left_over price).worth i) (pos 0) in
        worth_is_sum (treated_mine_of treated left lag waits).worth nodes m
        ∙ sum-same f g m (λ i l. kept_worth (nodes i) (is_early n lag waits i)
        ((leaving_mine n treated.periods treated.mine.rests left).worth i) (not_early i l)
        ∙ ap (λ (z : ℤ). cond (nodes i) z (pos 0))
        (uncharged (left (i % n) (i / n)) (left (i % n) (i / n + 1)) (nat_lt (i / n + 1) treated.periods)))
        ∙ sym (worth_is_sum (expanded left_over price).worth nodes m)

pub the_treated_pit_bounds : TheTreatedPitBounds
the_treated_pit_bounds treated price left lag waits pit above rich way known schedule feasible later =
    let plan = by_ways treated way in
    let rest = leaving treated left in
    let keeps : KeepsPrecedence rest schedule = record { earlier = feasible.precedence.earlier } in
    let most = rich.most (nodes_of rest schedule) (waiting_pit treated price left lag waits schedule later keeps) in
    let same = same_worth treated price left lag waits schedule later in
    let told = nodes_worth rest price schedule in
    let parts = npv_parts plan price schedule in
    let bound = all_charged plan price schedule feasible in
    let less = left_less treated price left schedule way known above in
    omega (arith, ints, most, same, told, parts, bound, less)

-- ---- one way

-- a production whose blocks go one way
one_way : Production → Treated
one_way plan = record {
  mine = plan.mine;
  periods = plan.periods;
  ways = λ b. 1;
  value = λ b d t. plan.value b t;
  resources = plan.resources;
  uses = λ r b d. plan.uses r b;
  capacity = plan.capacity;
  lags = λ b a. false;
}

pub no_more : (x : ℤ) → x ≤ℤ x
no_more x = omega (arith, ints)

pub the_waiting_pit_bounds : TheWaitingPitBounds
unfolding one_way
the_waiting_pit_bounds plan price lag waits pit rich =
    the_treated_pit_bounds (one_way plan) price (reduced plan price) lag waits pit
    (record { ways = λ b d t l k m. no_more (reduced plan price b t) }) rich (λ b. 0) (λ b l. omega arith)
