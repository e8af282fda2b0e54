-- Mines of prices and pairs that were read are those of their texts.
use Rattle.fixed_worth.proofs.Common.{◌≡◌, ℕ, Bool, true, false, List, [], length, refl, sym, ◌∙◌, subst, IsTrue}
use Rattle.fixed_worth.proofs.Common.{Result, Ok, Err, MatchResult, ap, Contains}
use Rattle.ordered_group.specs.Block.{scaled_block}
use Rattle.prec_file.specs.Rests.{RestsView, has_pair}
use Rattle.closure_net.specs.Prelude.{NetView, Mine, IsBest, LiesWithin, IsNetOf, WorthsFaultStands}
use Rattle.closure_net.specs.declared.net.NetFault.{NetFault}
use Rattle.closure_net.specs.declared.net.NetFault.TheVariants as net_fault
use Rattle.shells.specs.Prelude.{PricesView, NoRevenueNegative, worth_at, worths_at, mine_at, BestPitsAreNested}
use Rattle.shells.proofs.Shells.{net_of_over}
use Rattle.option_words.specs.declared.effort.Effort.{Effort}
use Rattle.solve_engines.specs.declared.solvers.Unsolved.{Unsolved}
use Rattle.solve_engines.specs.declared.solvers.Unsolved.TheVariants.{NoThread, Stranger}
use Rattle.check_engines.specs.declared.judgement.Verdict.{Verdict}
use Rattle.check_engines.specs.declared.judgement.Verdict.TheVariants.{No}
use Rattle.engine_faults.specs.declared.engine_fault.EngineFault.{EngineFault}
use Rattle.engine_faults.specs.declared.engine_fault.EngineFault.TheVariants as engine
use Rattle.mine_inputs.specs.Prelude.{PrecedenceBy, texts_by, rests_of, worth_by_texts, mine_of}
use Rattle.mine_inputs.specs.Prelude.{DenoteMine, ArePairsBy, ArePricesRead}
use Rattle.engine_faults.specs.Prelude.{of_model}
use Rattle.check_engines.specs.Prelude.{NetFails, ModelFails}
use Rattle.check_engines.proofs.Nested.{none_negative}
use Rattle.solve_engines.specs.Prelude.{IsNetBy}
use Rattle.mine_inputs.proofs.Listed.{is_listed, where_listed}
use Rattle.mine_inputs.proofs.Priced.{worths_priced, worth_by_prices}
use Rattle.series_pits.specs.declared.shell_rows.ShellRow.{ShellRow}
use Rattle.shell_engines.specs.Prelude.{factors_said, IsSeriesRead, IsWant, TellsWhy, IsFaultOf, mine_at_factor}
use Rattle.shell_engines.specs.Prelude.{shell_group, AreNested, DenoteSeries, IsShellTable, IsNoTable, NoNetAt}
use Rattle.shell_engines.specs.Prelude.{ShellsFail}
use Rattle.series_pits.specs.Prelude.{AreRowsOf, shell_table_text, IsLineOf, IsNetAt, NotSolvedStands, NoSeriesStands}
use Rattle.series_pits.specs.declared.no_series.NoSeries.{NoSeries}
use Rattle.series_pits.specs.declared.no_series.NoSeries.TheVariants as none
use Rattle.shell_engines.specs.declared.series_outputs.Answer.{Answer}

-- what holds of each fault that a reason can make holds of the one that it makes
pub of_want : (F : EngineFault → Type 0) → F engine.Memory → F engine.Thread → F engine.Stranger
    → (why : Unsolved) (e : EngineFault) → IsWant why e → F e
of_want F m t s NoThread e is = subst F (sym is) t
of_want F m t s Stranger e is = subst F (sym is) s
of_want F m t s why e is = subst F (sym is) m

-- two tests that are true together are the same
same_test : (t u : Bool) → (IsTrue t → IsTrue u) → (IsTrue u → IsTrue t) → t ≡ u
same_test true u f g = sym (f refl)
same_test false true f g = g refl
same_test false false f g = refl

-- the pairs in order have those that the test has
rests_same : (rests : ℕ → ℕ → Bool) (pairs : List (ℕ × ℕ)) → ArePairsBy rests pairs → (b p : ℕ)
    → has_pair pairs b p ≡ rests b p
rests_same rests pairs a b p = same_test (has_pair pairs b p) (rests b p)
    (λ h. (a.same b p).0 (where_listed pairs b p h)) (λ h. is_listed pairs b p ((a.same b p).1 h))

module _ (s t : List ℕ) (p : PrecedenceBy) (table : PricesView) (rests : RestsView)
    (r : ArePricesRead s t p table rests) where
  pub mine_is : (k : ℕ) → mine_at rests.pairs table k ≡ mine_at_factor rests.blocks s t p k
  mine_is k =
      let earned : (b : ℕ) → worth_at table k b ≡ worth_by_texts (texts_by s t p k) b = λ b. ap
      (λ (v : PricesView). worth_at v k b) r.table ∙ sym (worth_by_prices s t p k b) in
      λ i. record {
        blocks = r.size i;
        rests = λ b q. rests_same (rests_of (texts_by s t p k)) rests.pairs
            (r.pairs k) b q i;
        worth = λ b. earned b i;
      }

  pub nested : BestPitsAreNested → AreNested (mine_at_factor rests.blocks s t p)
  nested law j k e c le low high =
      let B : (ℕ → Bool) → Mine → Type 0 = λ d m. IsBest m d in
      let W : Mine → Type 0 = λ m. LiesWithin m e c in
      let none : NoRevenueNegative table = subst NoRevenueNegative (sym r.table)
      (none_negative s t p j rests.blocks (r.mine j).worths_read) in
      subst W (mine_is j) (law (has_pair rests.pairs) table j k e c none le (subst (B e) (sym (mine_is j)) low)
      (subst (B c) (sym (mine_is k)) high))

  rows_of : (factors : List ℕ) (rows : List ShellRow) → AreRowsOf (mine_at rests.pairs table) factors rows
      → AreRowsOf (mine_at_factor rests.blocks s t p) factors rows
  rows_of factors rows h = subst (λ (m : ℕ → Mine). AreRowsOf m factors rows) (λ i k. mine_is k i) h

  net_by : (k : ℕ) (net : NetView) → IsNetAt scaled_block rests.pairs table k net
      → IsNetBy (texts_by s t p k) shell_group net
  net_by k net at =
      let size : rests.blocks ≡ length net.worths = sym (at.over.blocks ∙ r.size) in
      let D : ℕ → Type 0 = λ n. DenoteMine (texts_by s t p k) n in
      let N : Mine → Type 0 = λ m. IsNetOf scaled_block m net in
      record {
        mine = subst D size (r.mine k);
        is_net = at.is_net;
        of_mine = subst (λ n. N (mine_of n (texts_by s t p k))) size
            (subst N (mine_is k) (net_of_over scaled_block rests.pairs table k net at.over));
      }

  net_fails : (k : ℕ) (fault : NetFault) → WorthsFaultStands scaled_block rests.blocks (worths_at table k) fault
      → NetFails (texts_by s t p k) rests.blocks shell_group fault
  net_fails k fault f = record
      { worths = worths_at table k; are = (worths_priced s t p table rests k r).worths; stands = f }

module _ (s t : List ℕ) (p : PrecedenceBy) (table : PricesView) (rests : RestsView) (factors : List ℕ) (factor : ℕ)
    (read : IsSeriesRead s t p table rests factors factor) where
  pub is_table : BestPitsAreNested → (rows : List ShellRow) (text : List ℕ)
      → AreRowsOf (mine_at rests.pairs table) factors rows → text ≡ shell_table_text rows → IsShellTable s t p text
  is_table law rows text are spelled = record {
    size = rests.blocks;
    mine = read.mine.mine;
    keys = read.keys;
    rows = rows;
    rows_are = subst (λ (fs : List ℕ). AreRowsOf (mine_at_factor rests.blocks s t p) fs rows) read.factors_are
        (rows_of s t p table rests read.mine factors rows are);
    nested = nested s t p table rests read.mine law;
    spelled = spelled;
  }

  pub denoted : DenoteSeries s t p
  denoted = record { size = rests.blocks; mine = read.mine.mine; keys = read.keys }

  said : (k : ℕ) → Contains factors k → Contains (factors_said s) k
  said k c = subst (λ (fs : List ℕ). Contains fs k) read.factors_are c

  pub is_no_table : (effort : Effort) (k : ℕ) (why : Unsolved) (net : NetView) (text : List ℕ) → Contains factors k
      → IsNetAt scaled_block rests.pairs table k net → NotSolvedStands net effort why → IsLineOf k why text
      → IsNoTable s t p effort text
  is_no_table effort k why net text c at stands spelled = record {
    factor = k;
    said = said k c;
    net = net;
    by = net_by s t p table rests read.mine k net at;
    why = why;
    stands = stands;
    spelled = spelled;
  }

  -- an amount of the mine doesn't fit at a factor
  no_net : (k : ℕ) (fault : NetFault) → Contains factors k
      → ModelFails (texts_by s t p k) rests.blocks shell_group fault → NoNetAt s t p fault
  no_net k fault c m = record { factor = k; said = said k c; size = rests.blocks; mine = read.mine.mine k; stands = m }

  pub no_net_answer : (k : ℕ) (fault : NetFault) → Contains factors k
      × WorthsFaultStands scaled_block rests.blocks (worths_at table k) fault → ShellsFail s t p (of_model fault)
  no_net_answer k net_fault.WrongLength h = no_net k net_fault.WrongLength h.0
      (net_fails s t p table rests read.mine k net_fault.WrongLength h.1)
  no_net_answer k net_fault.TooLarge h = no_net k net_fault.TooLarge h.0
      (net_fails s t p table rests read.mine k net_fault.TooLarge h.1)
  no_net_answer k net_fault.NoMemory h = tt

  -- what is answered where there is no series, whatever such an answer and such a fault are said to mean
  module _ (effort : Effort) (A : Verdict → List ℕ → List ℕ → Type 0) (F : EngineFault → Type 0)
      (no : (text : List ℕ) → IsNoTable s t p effort text → A No [] text) (memory : F engine.Memory)
      (thread : F engine.Thread) (stranger : F engine.Stranger)
      (net : (fault : NetFault) → ShellsFail s t p (of_model fault) → F (of_model fault)) where
    without : (a : Answer) → (a.verdict ≡ No) × (a.table.items ≡ []) × IsNoTable s t p effort a.text.items
        → A a.verdict a.table.items a.text.items
    without a h = subst (λ (v : Verdict). A v a.table.items a.text.items) (sym h.0)
        (subst (λ (xs : List ℕ). A No xs a.text.items) (sym h.1) (no a.text.items h.2))

    pub no_series_answer : (x : NoSeries) (answer : Result Answer EngineFault)
        → NoSeriesStands scaled_block rests table factors effort x
        → MatchResult answer (λ a. (a.verdict ≡ No) × (a.table.items ≡ []) × TellsWhy x a.text.items) (IsFaultOf x)
        → MatchResult answer (λ a. A a.verdict a.table.items a.text.items) F
    no_series_answer (none.Unsolved k why) (Ok a) h m = without a
        (m.0, m.1, is_no_table effort k why h.1.0 a.text.items h.0 h.1.1 h.1.2 m.2)
    no_series_answer (none.Unsolved k why) (Err e) h m = of_want F memory thread stranger why e m
    no_series_answer (none.Model k fault) (Err e) h m = subst F (sym m) (net fault (no_net_answer k fault h))
    no_series_answer none.Memory (Err e) h m = subst F (sym m) memory
    no_series_answer x (Ok a) h m = absurd m.2
