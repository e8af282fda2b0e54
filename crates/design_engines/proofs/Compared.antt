-- A design beside a pit that is proved: the gap, and how the comparison is told.
use Rattle.fixed_worth.proofs.Common.{◌≡◌, ℕ, ℤ, pos, ◌-ℤ◌, ◌≤ℤ◌, Bool, List, subst, arith, Option, Err, inl, inr}
use Rattle.fixed_worth.proofs.Common.{FitsSigned, w128, ints}
use Rattle.ordered_group.specs.declared.groups.Group.{Group}
use Rattle.ordered_group.specs.declared.groups.Group.TheVariants.{Worth}
use Rattle.closure_net.specs.Prelude.{holds_of, Mine, IsPit, worth_of}
use Rattle.design_file.specs.Records.{design_of}
use Rattle.engine_faults.specs.declared.engine_fault.EngineFault.{EngineFault}
use Rattle.engine_faults.specs.declared.engine_fault.EngineFault.TheVariants as engine
use Rattle.check_engines.specs.Prelude.{LineFails, CertificateAccepted, IsProvedPit}
use Rattle.mine_inputs.specs.Mines.{MineTexts, mine_of}
use Rattle.check_engines.proofs.Answered.{keeps_self}
use Rattle.check_engines.proofs.Unread.{one_size}
use Rattle.design_engines.specs.declared.value_fault.DesignProblem.TheVariants as problem
use Rattle.design_engines.specs.declared.value_fault.ValueFault.TheVariants as value
use Rattle.design_engines.specs.Prelude.{IsDrawn, IsComparedDesign, ComparedView, IsComparison, compared_design_text}
use Rattle.design_engines.specs.Prelude.{ComparesDesign, DesignView, IsValued}

-- ---- the gap

-- no pit is worth more than one that is proved
richest : (name : Group) (mine : Mine) (e : ℕ → Bool) → IsProvedPit name mine e → (other : ℕ → Bool)
    → IsPit mine other → worth_of mine other ≤ℤ worth_of mine e
richest Worth mine e h = h.most
richest name mine e h = h.most

not_less : (gap best design worth told : ℤ) → gap ≡ best -ℤ told → worth ≡ best → told ≡ design → design ≤ℤ worth
    → pos 0 ≤ℤ gap
not_less gap best design worth told g w t le = omega (arith, ints, g, w, t, le)

pub compared : (texts : MineTexts) (design c : List ℕ) (v : DesignView) (name : Group) (count : ℕ) (worth gap : ℤ)
    → IsValued texts design v → CertificateAccepted texts c name count worth → gap ≡ worth -ℤ v.worth
    → IsComparedDesign texts design c v count worth gap
compared texts design c v name count worth gap valued best g =
    let same = one_size texts best.read.blocks valued.blocks best.read.mine.worths_read valued.mine.worths_read in
    let e = holds_of best.read.pit in
    let proved : IsProvedPit name (mine_of valued.blocks texts) e = subst
    (λ (n : ℕ). IsProvedPit name (mine_of n texts) e) same best.proved in
    let told : worth_of (mine_of valued.blocks texts) e ≡ worth = subst
    (λ (n : ℕ). worth_of (mine_of n texts) e ≡ worth) same best.worth in
    record {
      valued = valued;
      name = name;
      best = best;
      difference = g;
      same = same;
      least = λ pit. not_less gap worth (worth_of (mine_of valued.blocks texts) (design_of design))
          (worth_of (mine_of valued.blocks texts) e) v.worth g told valued.worth
          (richest name (mine_of valued.blocks texts) e proved (design_of design) pit);
    }

pub drawn_of : (texts : MineTexts) (design : List ℕ) (v : DesignView) → IsValued texts design v → IsDrawn texts design
drawn_of texts design v h = record { blocks = h.blocks; mine = h.mine; drawn = h.drawn }

-- ---- how it is told

-- the gap doesn't fit
pub gap_leaves : (texts : MineTexts) (design c : List ℕ) (v : DesignView) (name : Group) (count : ℕ) (worth : ℤ)
    (w : Option (List ℕ)) → IsValued texts design v → CertificateAccepted texts c name count worth
    → ¬ (FitsSigned w128 (worth -ℤ v.worth)) → ComparesDesign texts design c w w (Err (value.Design problem.TooLarge))
gap_leaves texts design c v name count worth w valued best leaves = (
  inr (record { v = v; valued = valued; name = name; count = count; worth = worth; best = best; leaves = leaves }),
  keeps_self w,
)

-- the lines could not be written
pub compared_failed : (texts : MineTexts) (design c : List ℕ) (x : ComparedView) (old new : Option (List ℕ))
    (e : EngineFault) → IsComparison texts design c x → LineFails old new (compared_design_text x) e
    → ComparesDesign texts design c old new (Err (value.Engine e))
compared_failed texts design c x old new engine.Memory h k = ((tt, inl tt), k)
compared_failed texts design c x old new engine.Device h k = ((tt, inl tt), inr (x, h, k))
compared_failed texts design c x old new e h k = absurd k
