-- The pairs of nodes in periods are those of the expanded mine.
use Rattle.fixed_worth.proofs.Common.{◌≡◌, ℕ, ◌+◌, ◌*◌, ◌/◌, ◌%◌, Bool, ◌&&◌, ◌||◌, ◌==◌, nat_lt, refl, sym, ap, subst}
use Rattle.fixed_worth.proofs.Common.{◌∙◌}
use Rattle.prec_file.specs.Rests.{RestsView}
use Rattle.places.specs.Prelude.{IsPrecedence, NodesView, gridded, implied, in_time, pairs_held, rests_in_time, shown}
use Rattle.places.specs.Prelude.{timed}
use Rattle.places.specs.declared.holders.Held.{Held}
use Rattle.places.specs.declared.holders.Held.TheVariants as held
use Rattle.places.proofs.ImpliedPairs.{implied_is, same_test}
use Rattle.expanded_mine.specs.Prelude.{AreNodePairs, node_rests, rests_by_wait}

-- the nodes of these blocks
abbrev pub nodes : Held → (periods lag : ℕ) → RestsView → NodesView
nodes base periods lag waits = record { base = base; periods = periods; waits = waits; lag = lag }

-- as many blocks are shown as the pairs are of
pub same_size : (base : Held) → (shown base).blocks ≡ (pairs_held base).blocks
same_size (held.Listed list) = refl
same_size (held.Placed grid) = refl

-- a node rests on another where it does in the expanded mine
node_test : (base : Held) (periods lag : ℕ) (waits : RestsView) → IsPrecedence (shown base) → (i j : ℕ)
    → rests_in_time (timed (nodes base periods lag waits)) i j ≡ node_rests (pairs_held base).blocks periods lag
    waits.pairs (pairs_held base).pairs i j
node_test (held.Listed list) periods lag waits is i j = refl
node_test (held.Placed grid) periods lag waits is i j =
    let n = (gridded grid).blocks in
    ap (λ (x : Bool). (nat_lt j (periods * n) && ((i / n == j / n && x) || j == i + n)) || rests_by_wait n periods lag
    waits.pairs i j) (same_test (gridded grid) is (i % n) (j % n))

pub pairs_are : (base : Held) (periods lag : ℕ) (waits : RestsView) → IsPrecedence (shown base)
    → IsPrecedence (in_time (timed (nodes base periods lag waits)))
    → AreNodePairs (pairs_held base).blocks periods lag waits.pairs (pairs_held base).pairs
    (implied (in_time (timed (nodes base periods lag waits)))).pairs
pairs_are base periods lag waits is all =
    let v = in_time (timed (nodes base periods lag waits)) in
    let listed = implied_is v all in
    record {
      same = λ i j. (
        λ c. sym (node_test base periods lag waits is i j)
            ∙ listed.only i j c,
        λ t. listed.held i j (node_test base periods lag waits is i j ∙ t),
      );
    }

-- the same of the pairs that are held
pub held_are : (base : Held) (periods lag : ℕ) (waits : RestsView) (made : NodesView) (pairs : RestsView)
    → IsPrecedence (shown base) → made ≡ nodes base periods lag waits → IsPrecedence (in_time (timed made))
    → pairs ≡ implied (in_time (timed made))
    → (pairs.blocks ≡ periods * (pairs_held base).blocks)
    × AreNodePairs (pairs_held base).blocks periods lag waits.pairs (pairs_held base).pairs pairs.pairs
held_are base periods lag waits made pairs is of all listed =
    let P : NodesView → Type 0 = λ v. IsPrecedence (in_time (timed v)) in
    let same : pairs ≡ implied (in_time (timed (nodes base periods lag waits))) = listed
    ∙ ap (λ (v : NodesView). implied (in_time (timed v))) of in
    let Q : RestsView → Type 0 = λ r. (r.blocks ≡ periods * (pairs_held base).blocks)
    × AreNodePairs (pairs_held base).blocks periods lag waits.pairs (pairs_held base).pairs r.pairs in
    subst Q (sym same) (
      ap (λ (k : ℕ). periods * k) (same_size base),
      pairs_are base periods lag waits is
          (subst P of all),
    )
