-- From what is read of the inputs of a mine to the mine of its texts.
use Rattle.fixed_worth.proofs.Common.{◌≡◌, ℕ, ℤ, pos, List, refl, sym, ap, ◌∙◌, subst, arith, Option, Some, None}
use Rattle.fixed_worth.proofs.Common.{IfSome, length-map-range_with_len, get_or-map-range_with_len, common_steps}
use Rattle.prec_file.specs.Rests.{RestsView, ArePairsOf}
use Rattle.prec_file.specs.declared.prec_fault.PrecFault.{PrecFault}
use Rattle.engine_faults.specs.declared.engine_fault.Problem.{Problem}
use Rattle.mine_inputs.specs.declared.mines.WorthInputs.{WorthInputs}
use Rattle.mine_inputs.proofs.Listed.{by_listed}
use Rattle.prec_file.specs.Records as prec
use Rattle.upit_file.specs.Records as upit
use Rattle.settings_file.specs.Settings.{SettingsView, first_missing}
use Rattle.certificate_file.specs.declared.header.Price.{Price}
use Rattle.shells.specs.Prices.{PricesView, NoRevenueNegative, priced_count, price_of, way_count, worth_at}
use Rattle.shells.specs.Prices.{worth_by_way}
use Rattle.engine_faults.specs.declared.engine_fault.EngineFault.{EngineFault}
use Rattle.engine_faults.specs.declared.engine_fault.EngineFault.TheVariants as engine
use Rattle.mine_inputs.specs.declared.mines.MineInputs.{MineInputs}
use Rattle.mine_inputs.specs.declared.columns_of_prices.PriceColumns.{PriceColumns}
use Rattle.mine_inputs.specs.declared.worths.Worths.{Worths}
use Rattle.mine_inputs.specs.declared.worths.Worths.TheVariants.{Values, Prices}
use Rattle.mine_inputs.specs.Prelude.{AreWaysOf, most_way_at, MineFails, PrecFails, ReadsUpit, ReadsSettingsText}
use Rattle.mine_inputs.specs.Prelude.{SettingsReadFails, IsMissing, ReadsPrices, PricesReadFail, ReadsPrec}
use Rattle.mine_inputs.specs.Prelude.{PrecReadFails, PricedMineFails, ForWorths, ForTexts, MineTexts, mine_texts}
use Rattle.mine_inputs.specs.Prelude.{priced_texts, sloped_texts, valued_texts, rests_of, price_wanted, WorthsRead}
use Rattle.mine_inputs.specs.Prelude.{RestsRead, PrecedenceRead, PrecedenceFails, AreWorths, ArePairsBy, price_keys}
use Rattle.mine_inputs.specs.Prelude.{slope_keys, columns_said, table_by, table_of, AreRead, AreWorthsOf, IsMineRead}
use Rattle.mine_inputs.specs.Prelude.{blocks_valued, nanos_at, price_at}
use Rattle.settings_file.proofs.Known.{settings_are}
use Rattle.mine_inputs.proofs.MineDevices.{HasPrecedence, always, under, under2, all_texts, for_worths, for_texts}
use Rattle.mine_inputs.proofs.PricedAnswers.{settings_answer, missing_answer, prices_unsaid, prices_answer, prices_said}
use Rattle.mine_inputs.proofs.PricedAnswers.{priced}

-- ---- values

values_known : (u p : List ℕ) (factor : ℕ) (values : upit.UpitView) → ReadsUpit u values
    → AreWorthsOf (mine_texts u p) factor (Values values)
values_known u p factor values a =
    let are : AreWorths (mine_texts u p) (blocks_valued (Values values)) (nanos_at (Values values) factor) = grind
    (arith, common_steps) in
    let read : WorthsRead (mine_texts u p) (blocks_valued (Values values)) = grind (arith, common_steps) in
    record {
      read = read;
      are = are;
      price = refl;
      ways = record
          { size = refl; count = refl; each = λ way b l. are.each b l; most = λ b l. refl };
    }

pub values_read : (o : Option (List ℕ)) (p : List ℕ) (factor : ℕ) (values : upit.UpitView)
    → IfSome o (λ u. ReadsUpit u values) → IfSome o (λ u. AreWorthsOf (mine_texts u p) factor (Values values))
values_read o p factor values h = under o (λ u. ReadsUpit u values)
    (λ u. AreWorthsOf (mine_texts u p) factor (Values values)) h (λ u a. values_known u p factor values a)

-- ---- prices

priced_fails : (s b p : List ℕ) (k : ℕ) (e : EngineFault) → PricedMineFails s b p e → MineFails (priced_texts s b p k) e
priced_fails s b p k (engine.Settings q) h = h
priced_fails s b p k (engine.Blocks q) h = h
priced_fails s b p k (engine.Prices q) h = h
priced_fails s b p k (engine.Prec q) h = h
priced_fails s b p k engine.Memory h = h
priced_fails s b p k engine.Device h = h
priced_fails s b p k _ h = absurd h

module _ (o q : Option (List ℕ)) (p : List ℕ) (k : ℕ) where
  unread : (e : EngineFault) → IfSome o (λ s. IfSome q (λ b. PricedMineFails s b p e))
      → IfSome o (λ s. IfSome q (λ b. MineFails (priced_texts s b p k) e))
  unread e h = under2 o q (λ s b. PricedMineFails s b p e) (λ s b. MineFails (priced_texts s b p k) e) h
      (λ s b f. priced_fails s b p k e f)

  pub settings_unread : (e : EngineFault) → IfSome o (λ s. SettingsReadFails slope_keys s e)
      → IfSome o (λ s. IfSome q (λ b. MineFails (priced_texts s b p k) e))
  settings_unread e h = unread e (settings_answer o q (Some p) e h)

  module _ (said : SettingsView) (a : IfSome o (λ s. ReadsSettingsText slope_keys s said)) where
    pub key_missing : (e : EngineFault) → IsMissing (price_keys said) said e
        → IfSome o (λ s. IfSome q (λ b. MineFails (priced_texts s b p k) e))
    key_missing e m = unread e (missing_answer o q (Some p) said e a m)

    module _ (whole : first_missing (price_keys said) said ≡ None) (columns : PriceColumns)
        (is : columns ≡ columns_said said) where
      pub prices_unread : (e : EngineFault) → IfSome q (λ b. PricesReadFail columns b e)
          → IfSome o (λ s. IfSome q (λ b. MineFails (priced_texts s b p k) e))
      prices_unread e h = unread e (prices_answer o q (Some p) said e a whole (prices_unsaid q columns said e is h))

      table_known : (s b : List ℕ) (table : PricesView) → NoRevenueNegative table
          → ReadsSettingsText slope_keys s said → ReadsPrices (columns_said said) b table
          → AreWorthsOf (priced_texts s b p k) k (Prices table)
      table_known s b table positive r t =
          let known : table ≡ table_of s b = t.is
          ∙ ap (λ (v : SettingsView). table_by v b) (sym (settings_are s said r.1)) in
          record {
            read = priced s b said table (priced_count table) refl positive whole r t;
            are = record {
              size = length-map-range_with_len (worth_at table k) 0 (priced_count table);
              each = λ c h. get_or-map-range_with_len (worth_at table k) 0 (priced_count table) c c (pos 0) h
                  (omega arith) ∙ ap (λ (t : PricesView). worth_at t k c) known;
            };
            price = ap (λ (t : PricesView). price_of t k) known;
            ways = record {
              size = refl;
              count = ap way_count known;
              each = λ way c h. ap (λ (t : PricesView). worth_by_way t k way c) known;
              most = λ c h. ap (λ (t : PricesView). most_way_at t k c) known;
            };
          }

      pub prices_read : (table : PricesView) → NoRevenueNegative table → IfSome q (λ b. ReadsPrices columns b table)
          → IfSome o (λ s. IfSome q (λ b. AreWorthsOf (priced_texts s b p k) k (Prices table)))
      prices_read table positive h =
          under o (λ s. ReadsSettingsText slope_keys s said)
          (λ s. IfSome q (λ b. AreWorthsOf (priced_texts s b p k) k (Prices table))) a (λ s r.
          under q (λ b. ReadsPrices (columns_said said) b table)
          (λ b. AreWorthsOf (priced_texts s b p k) k (Prices table)) (prices_said q columns said table is h)
          (λ b t. table_known s b table positive r t))

-- ---- either kind, and the precedence

precedence_fails : (texts : MineTexts) (n : ℕ) (p : List ℕ) (q : Problem PrecFault) → HasPrecedence texts p
    → PrecFails n p q → PrecedenceFails texts n q
precedence_fails (mine_texts values precedence) n p q same h = subst (λ (x : List ℕ). PrecFails n x q) (sym same) h
precedence_fails (priced_texts settings blocks precedence factor) n p q same h = subst
    (λ (x : List ℕ). PrecFails n x q) (sym same) h
precedence_fails (sloped_texts settings blocks factor) n p q same h = absurd same
precedence_fails (valued_texts settings blocks values) n p q same h = absurd same

prec_fails : (texts : MineTexts) (n : ℕ) (p : List ℕ) (e : EngineFault) → HasPrecedence texts p → WorthsRead texts n
    → PrecReadFails n p e → MineFails texts e
prec_fails texts n p (engine.Prec q) same v h = (n, v, precedence_fails texts n p q same h)
prec_fails texts n p engine.Memory same v h = h
prec_fails texts n p engine.Device same v h = h
prec_fails texts n p _ same v h = absurd h

-- what was read of worths, said of a list that is theirs
pub read_as : (texts : MineTexts) (worths shown : List ℤ) (rests : RestsView) → shown ≡ worths
    → AreRead texts worths rests → AreRead texts shown rests
read_as texts worths shown rests e a = subst (λ (ws : List ℤ). AreRead texts ws rests) (sym e) a

precedence_read : (texts : MineTexts) (p : List ℕ) (n : ℕ) → HasPrecedence texts p → PrecedenceRead p n
    → RestsRead texts n
precedence_read (mine_texts values precedence) p n same h = subst (λ (x : List ℕ). PrecedenceRead x n) (sym same) h
precedence_read (priced_texts settings blocks precedence factor) p n same h = subst
    (λ (x : List ℕ). PrecedenceRead x n) (sym same) h
precedence_read (sloped_texts settings blocks factor) p n same h = absurd same
precedence_read (valued_texts settings blocks values) p n same h = absurd same

pairs_read : (texts : MineTexts) (p : List ℕ) (pairs : List (ℕ × ℕ)) → HasPrecedence texts p
    → ArePairsOf (prec.pairs_of_text p) pairs → ArePairsBy (rests_of texts) pairs
pairs_read (mine_texts values precedence) p pairs same h = by_listed (prec.pairs_of_text precedence) pairs
    (subst (λ (x : List ℕ). ArePairsOf (prec.pairs_of_text x) pairs) (sym same) h)
pairs_read (priced_texts settings blocks precedence factor) p pairs same h = by_listed (prec.pairs_of_text precedence)
    pairs (subst (λ (x : List ℕ). ArePairsOf (prec.pairs_of_text x) pairs) (sym same) h)
pairs_read (sloped_texts settings blocks factor) p pairs same h = absurd same
pairs_read (valued_texts settings blocks values) p pairs same h = absurd same

-- what is said of the worths that were read and of the pairs, where these are of as many blocks
pub mine_of_parts : (texts : MineTexts) (factor : ℕ) (worths : Worths) (rests : RestsView)
    → blocks_valued worths ≡ rests.blocks → AreWorthsOf texts factor worths → RestsRead texts rests.blocks
    → ArePairsBy (rests_of texts) rests.pairs → IsMineRead texts factor worths rests
mine_of_parts texts factor worths rests size a read pairs = (
  record {
    mine = record { worths_read = subst (WorthsRead texts) size a.read; rests_read = read };
    worths = subst (λ (n : ℕ). AreWorths texts n (nanos_at worths factor)) size a.are;
    pairs = pairs;
  },
  a.price,
  subst (λ (n : ℕ). AreWaysOf texts factor n worths) size a.ways,
)

mine_known : (texts : MineTexts) (p : List ℕ) (factor n : ℕ) (worths : Worths) (rests : RestsView)
    → HasPrecedence texts p → n ≡ blocks_valued worths → AreWorthsOf texts factor worths → ReadsPrec n p rests
    → IsMineRead texts factor worths rests
mine_known texts p factor n worths rests same e a b =
    let known : PrecedenceRead p rests.blocks = record
    { within = b.0; read = subst (λ (m : ℕ). prec.fault_of m p ≡ None) (sym b.2) b.1 } in
    mine_of_parts texts factor worths rests (sym e ∙ sym b.2) a (precedence_read texts p rests.blocks same known)
    (pairs_read texts p rests.pairs same b.3)

module _ {D : Type 0} (mine : MineInputs D) (remaining : D → Option (List ℕ)) (factor : ℕ) where
  pub memory_refused : ForTexts mine remaining factor (λ texts. MineFails texts engine.Memory)
  memory_refused = all_texts mine remaining factor (λ texts. MineFails texts engine.Memory) (λ texts. tt)

  -- at a factor
  pub mine_priced : (worths : Worths) (rests : RestsView) (nanos : List ℤ) (price : Price)
      → ForTexts mine remaining factor (λ texts. IsMineRead texts factor worths rests)
      → nanos ≡ nanos_at worths factor → price ≡ price_at worths factor
      → ForTexts mine remaining factor (λ texts. AreRead texts nanos rests × (price ≡ price_wanted texts))
  mine_priced worths rests nanos price h e f = for_texts mine remaining factor
      (λ texts. IsMineRead texts factor worths rests) (λ texts. AreRead texts nanos rests
      × (price ≡ price_wanted texts)) h (λ texts r.
      (read_as texts (nanos_at worths factor) nanos rests e r.0, f ∙ r.1))

-- a mine whose precedence is a text of its own
module _ {D : Type 0} (inputs : WorthInputs D) (from : D) (remaining : D → Option (List ℕ)) (factor : ℕ) where
  abbrev pub ForListed : (MineTexts → Type 0) → Type 0
  ForListed P = IfSome (remaining from) (λ p. ForWorths inputs remaining factor p P)

  -- what the blocks are worth wasn't read
  pub worths_unread : (e : EngineFault)
      → ((p : List ℕ) → ForWorths inputs remaining factor p (λ texts. MineFails texts e))
      → ForListed (λ texts. MineFails texts e)
  worths_unread e h = always (remaining from) (λ p. ForWorths inputs remaining factor p (λ texts. MineFails texts e)) h

  module _ (worths : Worths) (n : ℕ) (size : n ≡ blocks_valued worths)
      (known : (p : List ℕ) → ForWorths inputs remaining factor p (λ texts. AreWorthsOf texts factor worths)) where
    pub prec_unread : (e : EngineFault) → IfSome (remaining from) (λ p. PrecReadFails n p e)
        → ForListed (λ texts. MineFails texts e)
    prec_unread e h = under (remaining from) (λ p. PrecReadFails n p e)
        (λ p. ForWorths inputs remaining factor p (λ texts. MineFails texts e)) h (λ p f.
        for_worths inputs remaining factor p (λ texts. AreWorthsOf texts factor worths) (λ texts. MineFails texts e)
        (known p) (λ texts same a. prec_fails texts n p e same (subst (WorthsRead texts) (sym size) a.read) f))

    pub mine_read : (rests : RestsView) → IfSome (remaining from) (λ p. ReadsPrec n p rests)
        → ForListed (λ texts. IsMineRead texts factor worths rests)
    mine_read rests h = under (remaining from) (λ p. ReadsPrec n p rests)
        (λ p. ForWorths inputs remaining factor p (λ texts. IsMineRead texts factor worths rests)) h (λ p b.
        for_worths inputs remaining factor p (λ texts. AreWorthsOf texts factor worths)
        (λ texts. IsMineRead texts factor worths rests) (known p)
        (λ texts same a. mine_known texts p factor n worths rests same size a b))
