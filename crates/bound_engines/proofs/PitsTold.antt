-- The pit that a certificate proves, and what its blocks have of what was read.
use Rattle.fixed_worth.proofs.Common.{◌≡◌, ℕ, ◌<◌, ℤ, Bool, List, All, length, sym, ap, subst, ◌∙◌, Option, Some, None}
use Rattle.fixed_worth.proofs.Common.{Result, Ok, Err, IfOk, IfSome}
use Rattle.ordered_group.specs.Prelude.{Amount}
use Rattle.ordered_group.specs.declared.groups.Group.{Group}
use Rattle.ordered_group.specs.declared.groups.Group.TheVariants.{Worth, Pair, Scaled}
use Rattle.prec_file.specs.Rests.{RestsView}
use Rattle.closure_net.specs.Prelude.{FlowView, IsAscending, IsGreatest, IsRichest, Mine, NetView, holds_of}
use Rattle.certificate_file.specs.declared.cert_fault.CertFault.{CertFault}
use Rattle.certificate_file.specs.declared.header.Header.{Header}
use Rattle.certificate_file.specs.declared.header.Price.{Price}
use Rattle.certificate_file.specs.Prelude.{header_of, pieces_of}
use Rattle.check_pit.specs.Prelude.{LineView, ProvesPit}
use Rattle.check_engines.specs.Prelude.{IsHeader, IsProvedPit, StandsAfter, factor_in}
use Rattle.check_engines.proofs.Judged.{HasRead, reads}
use Rattle.mine_inputs.specs.declared.worths.Worths.{Worths}
use Rattle.shells.specs.Prelude.{PricesView, plain_prices, price_of, treated_prices}
use Rattle.mine_inputs.specs.declared.worths.Worths.TheVariants.{Values, Prices}
use Rattle.mine_inputs.specs.Prelude.{AreWaysOf, IsMineRead, IsWithinLimit, MineTexts, factor_at, mine_of, nanos_at}
use Rattle.mine_inputs.specs.Prelude.{price_at, ways_of}
use Rattle.mine_inputs.proofs.MineDevices.{always, under}
use Rattle.mine_inputs.proofs.MinesRead.{read_as}
use Rattle.periods_file.specs.Periods.{PeriodsView, periods_view}
use Rattle.schedule_engines.specs.Prelude.{ReadsPeriodsBy, ReadsWayUses}
use Rattle.planned_mine.specs.declared.bound_inputs.BesideRead.{BesideRead}
use Rattle.planned_mine.specs.declared.bound_fault.BoundFault.{BoundFault}
use Rattle.bound_engines.specs.declared.bound_judge.BoundJudgement.{BoundJudgement}
use Rattle.bound_engines.specs.declared.part_judge.PartCase.{PartCase}
use Rattle.bound_engines.specs.declared.pit_check.PitTold.{PitTold}
use Rattle.bound_engines.specs.declared.pit_check.PitTold.TheVariants as pit
use Rattle.bound_engines.specs.declared.pit_judge.PitMine.{PitMine}
use Rattle.bound_engines.specs.declared.pit_part.Parted.{Parted}
use Rattle.bound_engines.specs.declared.pit_part.Parted.TheVariants as parted
use Rattle.planned_mine.specs.Prelude.{IsPartFigured}
use Rattle.bound_engines.specs.Prelude.{IsKeptBy, IsKeptIn, IsNoPit, IsPart, IsParted, IsPartedOf, IsPitMine, IsPitOf}
use Rattle.bound_engines.specs.Prelude.{IsPitTold, IsToldAt, IsToldFor, IsToldIn, IsToldOf}
use Rattle.bound_engines.proofs.Bounded.{told_of}
use Rattle.bound_engines.proofs.Within.{told_part}

-- ---- where no pit is proved

pub no_pit_told : (texts : MineTexts) (n : ℕ) (c : List ℕ) (t : PitTold) → IsNoPit t → IsPitTold texts n c t
no_pit_told texts n c (pit.Kept v) h = absurd h
no_pit_told texts n c (pit.Refused fault) h = tt

pub no_pit_kept : (n : ℕ) (t : PitTold) → IsNoPit t → IsKeptBy n t
no_pit_kept n (pit.Kept v) h = absurd h
no_pit_kept n (pit.Refused fault) h = tt

-- ---- the pit of a certificate

proved_richest : (name : Group) (mine : Mine) (e : ℕ → Bool) → IsProvedPit name mine e → IsRichest mine e
proved_richest Worth mine e h = h
proved_richest Pair mine e h = record { is_pit = h.is_pit; most = h.most }
proved_richest Scaled mine e h = record { is_pit = h.is_pit; most = h.most }

pub pit_read : (name : Group) (block : ℤ → ℕ → Amount) (counts : Bool) (texts : MineTexts) (c : List ℕ)
    (net : NetView) (pit : List ℕ) (flow : FlowView) → HasRead name block counts texts c net pit flow
    → IsWithinLimit c → ProvesPit net flow pit
    → (seen : NetView) → seen ≡ net → IsGreatest seen (holds_of pit) → (n : ℕ) → n ≡ length net.worths
    → (kept : List ℕ) → kept ≡ pit → IsPitOf texts n c kept
pit_read name block counts texts c net pit flow h within proves seen same greatest n size kept are =
    let G : NetView → Type 0 = λ k. IsGreatest k (holds_of pit) in
    let rich : IsRichest (mine_of (length net.worths) texts) (holds_of pit) = proved_richest name
    (mine_of (length net.worths) texts) (holds_of pit)
    (h.named.proves (mine_of (length net.worths) texts) net (holds_of pit) h.of_mine (subst G same greatest)) in
    let R : ℕ → Type 0 = λ m. IsRichest (mine_of m texts) (holds_of pit) in
    let K : List ℕ → Type 0 = λ l. IsRichest (mine_of n texts) (holds_of l) in
    record {
      within = within;
      read = reads name block counts texts c net pit flow h;
      blocks = sym size;
      pit = sym are;
      proves = proves;
      richest = subst K (sym are) (subst R (sym size) rich);
    }

-- ---- its header

abbrev ok_header : ℕ → Price → Group → Result Header CertFault
ok_header blocks price group = Ok (record { blocks = blocks; price = price; group = group })

pub header_told : {R : Type 0} (remaining : R → Option (List ℕ)) (later : LineView R) (o : Option (List ℕ))
    (worths : Worths) (n factor : ℕ) (h : Header) → h.blocks ≡ n → h.price ≡ price_at worths factor
    → IfSome o (λ c. (header_of (pieces_of c) ≡ Ok h) × StandsAfter remaining c later)
    → IfSome o (λ c. (texts : MineTexts) (rests : RestsView) → rests.blocks ≡ n → IsMineRead texts factor worths rests
    → IsHeader texts c n h.group × StandsAfter remaining c later)
header_told remaining later None worths n factor h size price k = tt
header_told remaining later (Some c) worths n factor h size price k = λ texts rests same read. (
  k.0 ∙ ap (λ (m : ℕ). ok_header m h.price h.group) size ∙ ap (λ (p : Price). ok_header n p h.group) (price ∙ read.1),
  k.1,
)

-- ---- its blocks

kept_are : (n : ℕ) (v : List ℕ) (t : PitTold) → IsKeptIn v t → IsKeptBy n t → IsAscending v × All (λ b. b < n) v
kept_are n v (pit.Kept w) e h = (subst IsAscending (sym e) h.0, subst (λ (l : List ℕ). All (λ b. b < n) l) (sym e) h.1)
kept_are n v (pit.Refused fault) e h = absurd e

pit_kept : (texts : MineTexts) (n : ℕ) (c v : List ℕ) (t : PitTold) → IsKeptIn v t → IsPitTold texts n c t
    → IsPitOf texts n c v
pit_kept texts n c v (pit.Kept w) e h = subst (IsPitOf texts n c) (sym e) h
pit_kept texts n c v (pit.Refused fault) e h = absurd e

pub parted_is : (o : Option (List ℕ)) (worths : Worths) (rests : RestsView) (beside : BesideRead) (q : PitMine)
    → IsPitMine worths rests q
    → IfSome o (λ c. (texts : MineTexts) → IsMineRead texts q.factor worths rests
    → IsPitTold texts rests.blocks c q.told)
    → (t : Parted) → IsPartedOf q beside t → IsParted o worths rests beside t
parted_is o worths rests beside q m h (parted.Part x whole) p =
    let v = p.3.kept in
    let known = kept_are rests.blocks v q.told p.3.are m.kept in
    let W : Worths → Type 0 = λ w. IsPartFigured v w q.factor q.held beside x.figured in
    let F : ℕ → Type 0 = λ k. IsPartFigured v worths k q.held beside x.figured in
    let R : RestsView → Type 0 = λ r. IsPartFigured v worths x.factor r beside x.figured in (
      p.0 ∙ m.same,
      record {
        kept = v;
        ascending = known.0;
        below = known.1;
        part = subst R m.held (subst F (sym p.1) (subst W m.same p.3.part));
        pit = under o (λ c. (texts : MineTexts) → IsMineRead texts q.factor worths rests
            → IsPitTold texts rests.blocks c q.told)
            (λ c. (texts : MineTexts) → IsMineRead texts x.factor worths rests → IsPitOf texts rests.blocks c v) h
            (λ c tells texts read. pit_kept texts rests.blocks c v q.told p.3.are
            (tells texts (subst (λ (k : ℕ). IsMineRead texts k worths rests) p.1 read)));
      },
      p.2 ∙ m.held,
    )
parted_is o worths rests beside q m h (parted.Refused fault) p = tt

-- ---- what is told of its nodes

-- prices of one table that are the same are of one factor
factor_priced : (table : PricesView) (f g : ℕ) → price_of table f ≡ price_of table g → f ≡ g
factor_priced (plain_prices revenue cost) f g h = ap factor_at h
factor_priced (treated_prices ways mining) f g h = ap factor_at h

ways_at_price : (texts : MineTexts) (worths : Worths) (n factor named : ℕ)
    → price_at worths factor ≡ price_at worths named → AreWaysOf texts named n worths → AreWaysOf texts factor n worths
ways_at_price texts (Values upit) n factor named t ways = record
    { size = ways.size; count = ways.count; each = ways.each; most = ways.most }
ways_at_price texts (Prices table) n factor named t ways = subst (λ (k : ℕ). AreWaysOf texts k n (Prices table))
    (sym (factor_priced table factor named t)) ways

-- the mine is read at the price of the pit, where it is at one at which blocks are worth the same
pub at_price : (texts : MineTexts) (worths : Worths) (rests : RestsView) (factor named : ℕ)
    → IsToldAt worths factor named → IsMineRead texts named worths rests → IsMineRead texts factor worths rests
at_price texts worths rests factor named t read = (
  read_as texts (nanos_at worths named) (nanos_at worths factor) rests t.0 read.0,
  t.1
      ∙ read.1,
  ways_at_price texts worths rests.blocks factor named t.1 read.2,
)

module _ (o : Option (List ℕ)) (worths : Worths) (rests : RestsView) (beside : BesideRead) (x : PartCase)
    (same : x.worths ≡ worths) (part : IsPart o worths rests beside x.factor x.figured) where
  abbrev pub said_in : PeriodsView
  said_in = periods_view beside.periods

  abbrev pub Told_in : BoundJudgement → List ℕ → List ℕ → Type 0
  Told_in t k c = (texts : MineTexts) (p u : List ℕ) → IsMineRead texts (factor_in c) worths rests
      → ReadsPeriodsBy (ways_of texts) p said_in
      → ReadsWayUses rests.blocks (ways_of texts) said_in u beside.uses.items beside.waits
      → IsToldFor texts p u (Some k) rests.blocks said_in beside.waits t

  pub told_in_pit : (nodes : Option (List ℕ)) (t : BoundJudgement) → IsToldIn x.figured t
      → IfSome nodes (λ c. IsToldAt x.worths x.factor (factor_in c)) → IfSome o (λ k. IfSome nodes (Told_in t k))
  told_in_pit nodes t over at =
      under o (λ k. (texts : MineTexts) → IsMineRead texts x.factor worths rests
      → IsPitOf texts rests.blocks k part.kept) (λ k. IfSome nodes (Told_in t k)) part.pit (λ k proves.
      under nodes (λ c. IsToldAt x.worths x.factor (factor_in c)) (Told_in t k) at (λ c price texts p u read pr ur.
      let agreed : IsToldAt worths x.factor (factor_in c) = subst (λ (w : Worths). IsToldAt w x.factor (factor_in c))
      same price in
      let here = at_price texts worths rests x.factor (factor_in c) agreed read in
      told_part texts p u worths x.factor rests beside here pr ur k part.kept part.ascending part.below
      (proves texts here) x.figured part.part t (over _ _ _ _ _ _ part.part.figured)))

  pub told_by_part : (nodes : Option (List ℕ)) (r : Result BoundJudgement BoundFault) → IfOk r (IsToldIn x.figured)
      → IfSome nodes (λ c. IfOk r (λ _. IsToldAt x.worths x.factor (factor_in c)))
      → IfSome o (λ k. IfSome nodes (λ c. (texts : MineTexts) (p u : List ℕ)
      → IsMineRead texts (factor_in c) worths rests → ReadsPeriodsBy (ways_of texts) p said_in
      → ReadsWayUses rests.blocks (ways_of texts) said_in u beside.uses.items beside.waits
      → IfOk r (IsToldOf texts p u (Some k))))
  told_by_part nodes (Ok t) over at =
      let Q : List ℕ → List ℕ → Type 0 = λ k c. (texts : MineTexts) (p u : List ℕ)
      → IsMineRead texts (factor_in c) worths rests → ReadsPeriodsBy (ways_of texts) p said_in
      → ReadsWayUses rests.blocks (ways_of texts) said_in u beside.uses.items beside.waits
      → IsToldOf texts p u (Some k) t in
      under o (λ k. IfSome nodes (Told_in t k)) (λ k. IfSome nodes (Q k)) (told_in_pit nodes t over at) (λ k h.
      under nodes (Told_in t k) (Q k) h (λ c tells texts p u read pr ur.
      told_of texts p u (Some k) rests.blocks said_in beside.waits t (tells texts p u read pr ur)))
  told_by_part nodes (Err e) over at =
      let Q : List ℕ → List ℕ → Type 0 = λ k c. (texts : MineTexts) (p u : List ℕ)
      → IsMineRead texts (factor_in c) worths rests → ReadsPeriodsBy (ways_of texts) p said_in
      → ReadsWayUses rests.blocks (ways_of texts) said_in u beside.uses.items beside.waits → Unit {0} in
      always o (λ k. IfSome nodes (Q k)) (λ k. always nodes (Q k) (λ c texts p u read pr ur. tt))
