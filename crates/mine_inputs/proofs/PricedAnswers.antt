-- From the parts of the reading of a mine of prices to what was read, where the readers tell their bytes.
use Rattle.fixed_worth.proofs.Common.{◌≡◌, ℕ, List, sym, ap, ◌∙◌, subst, Option, Some, None, IfSome}
use Rattle.blocks_file.specs.Records as blocks
use Rattle.prec_file.specs.Rests.{RestsView}
use Rattle.settings_file.specs.declared.keys.Key.{Key}
use Rattle.settings_file.specs.declared.settings_fault.SettingsFault.TheVariants as settings_fault
use Rattle.settings_file.specs.Settings.{SettingsView, first_missing}
use Rattle.settings_file.proofs.Known.{settings_are, settings_read}
use Rattle.shells.specs.Prices.{PricesView, PricesFaultStands, NoRevenueNegative, priced_count}
use Rattle.engine_faults.specs.declared.engine_fault.EngineFault.{EngineFault}
use Rattle.engine_faults.specs.declared.engine_fault.EngineFault.TheVariants as engine
use Rattle.engine_faults.specs.declared.engine_fault.Problem.{Problem}
use Rattle.engine_faults.specs.declared.engine_fault.Problem.TheVariants as problem
use Rattle.settings_file.specs.declared.settings_fault.SettingsFault.{SettingsFault}
use Rattle.mine_inputs.specs.declared.columns_of_prices.PriceColumns.{PriceColumns}
use Rattle.mine_inputs.specs.Prelude.{BlocksFails, price_keys, slope_keys, columns_said, price_columns, first_unused}
use Rattle.mine_inputs.specs.Prelude.{table_by, table_of, KeysSaid, ColumnsKnown, PricesRead, SettingsFails}
use Rattle.mine_inputs.specs.Prelude.{ReadsSettingsText, SettingsReadFails, IsMissing, ReadsPrices, PricesReadFail}
use Rattle.mine_inputs.specs.Prelude.{ReadsPrec, PrecReadFails, PricedMineFails, ArePricesRead, by_text}
use Rattle.mine_inputs.proofs.Priced.{all_read, priced_at}

-- ---- readers that tell their bytes

pub under3 : {X : Type 0} (o q : Option (List ℕ)) (r : Option X) (P Q : List ℕ → List ℕ → X → Type 0)
    → IfSome o (λ s. IfSome q (λ b. IfSome r (λ p. P s b p))) → ((s b : List ℕ) (p : X) → P s b p → Q s b p)
    → IfSome o (λ s. IfSome q (λ b. IfSome r (λ p. Q s b p)))
under3 (Some s) (Some b) (Some p) P Q h f = f s b p h
under3 _ _ _ P Q h f = tt

pub anything : (o : Option (List ℕ)) → IfSome o (λ c. Unit {0})
anything None = tt
anything (Some c) = tt

-- ---- the texts of a mine of prices

-- what reading settings tells is a fault of settings that need some of the keys
pub settings_refused : (needed : SettingsView → List Key) (unused : List Key) (s : List ℕ) (q : Problem SettingsFault)
    → SettingsReadFails unused s (engine.Settings q) → SettingsFails needed unused s q
settings_refused needed unused s problem.InputTooLong h = h
settings_refused needed unused s (problem.Fault settings_fault.NotToml) h = h
settings_refused needed unused s (problem.Fault settings_fault.UnknownKey) h = h
settings_refused needed unused s (problem.Fault (settings_fault.BadValue key)) h = h
settings_refused needed unused s (problem.Fault (settings_fault.Unused key)) h = h
settings_refused needed unused s (problem.Fault (settings_fault.Missing key)) h = absurd
    (let z : None ≡ Some key = h.1.1 in cc)
settings_refused needed unused s (problem.Fault settings_fault.NoMemory) h = h

settings_fail : (s b p : List ℕ) (e : EngineFault) → SettingsReadFails slope_keys s e → PricedMineFails s b p e
settings_fail s b p (engine.Settings q) h = settings_refused price_keys slope_keys s q h
settings_fail s b p engine.Memory h = tt
settings_fail s b p engine.Device h = tt
settings_fail s b p _ h = absurd h

pub settings_answer : (o q r : Option (List ℕ)) (e : EngineFault) → IfSome o (λ s. SettingsReadFails slope_keys s e)
    → IfSome o (λ s. IfSome q (λ b. IfSome r (λ p. PricedMineFails s b p e)))
settings_answer (Some s) (Some b) (Some p) e h = settings_fail s b p e h
settings_answer _ _ _ e h = tt

-- of the keys that are needed this is the first that is missing
pub key_missing : (needed : SettingsView → List Key) (unused : List Key) (s : List ℕ) (said : SettingsView)
    (key : Key) → ReadsSettingsText unused s said → first_missing (needed said) said ≡ Some key
    → SettingsFails needed unused s (problem.Fault (settings_fault.Missing key))
key_missing needed unused s said key a m =
    let U : SettingsView → Type 0 = λ v. first_unused unused v ≡ None in
    let M : SettingsView → Type 0 = λ v. first_missing (needed v) v ≡ Some key in (
      a.0,
      (
        settings_read s said a.1,
        subst M (sym (settings_are s said a.1)) m,
        subst U
            (sym (settings_are s said a.1)) a.2,
      ),
    )

missing_at : (s b p : List ℕ) (said : SettingsView) (e : EngineFault) → ReadsSettingsText slope_keys s said
    → IsMissing (price_keys said) said e → PricedMineFails s b p e
missing_at s b p said e a m = subst (λ (f : EngineFault). PricedMineFails s b p f) (sym m.1)
    (key_missing price_keys slope_keys s said m.0 a m.2)

pub missing_answer : (o q r : Option (List ℕ)) (said : SettingsView) (e : EngineFault)
    → IfSome o (λ s. ReadsSettingsText slope_keys s said) → IsMissing (price_keys said) said e
    → IfSome o (λ s. IfSome q (λ b. IfSome r (λ p. PricedMineFails s b p e)))
missing_answer (Some s) (Some b) (Some p) said e h m = missing_at s b p said e h m
missing_answer _ _ _ said e h m = tt

-- none of the keys that are needed is missing
pub keys_said : (needed : SettingsView → List Key) (unused : List Key) (s : List ℕ) (said : SettingsView)
    → ReadsSettingsText unused s said → first_missing (needed said) said ≡ None → KeysSaid needed unused s
keys_said needed unused s said a whole =
    let U : SettingsView → Type 0 = λ v. first_unused unused v ≡ None in
    let M : SettingsView → Type 0 = λ v. first_missing (needed v) v ≡ None in
    record {
      within = a.0;
      read = settings_read s said a.1;
      used = subst U (sym (settings_are s said a.1)) a.2;
      said =
          subst M (sym (settings_are s said a.1)) whole;
    }

columns_known : (s : List ℕ) (said : SettingsView) → ReadsSettingsText slope_keys s said
    → first_missing (price_keys said) said ≡ None → ColumnsKnown s
columns_known s said a whole = keys_said price_keys slope_keys s said a whole

prices_fail_at : (s b p : List ℕ) (said : SettingsView) (e : EngineFault) → ReadsSettingsText slope_keys s said
    → first_missing (price_keys said) said ≡ None → PricesReadFail (columns_said said) b e → PricedMineFails s b p e
prices_fail_at s b p said (engine.Blocks q) a whole h = (
  columns_known s said a whole,
  subst (λ (v : SettingsView). BlocksFails (price_columns v) b q)
      (sym (settings_are s said a.1)) h,
)
prices_fail_at s b p said (engine.Prices f) a whole h =
    let known = sym (settings_are s said a.1) in
    let F : SettingsView → Type 0 = λ v. blocks.blocks_fault_of (price_columns v) b ≡ None in
    let S : SettingsView → Type 0 = λ v. PricesFaultStands (table_by v b) f in
    record {
      columns = columns_known s said a whole;
      within = h.0;
      read = subst F known h.1;
      stands = subst S known
          h.2;
    }
prices_fail_at s b p said engine.Memory a whole h = tt
prices_fail_at s b p said engine.Device a whole h = tt
prices_fail_at s b p said _ a whole h = absurd h

pub prices_answer : (o q r : Option (List ℕ)) (said : SettingsView) (e : EngineFault)
    → IfSome o (λ s. ReadsSettingsText slope_keys s said) → first_missing (price_keys said) said ≡ None
    → IfSome q (λ b. PricesReadFail (columns_said said) b e)
    → IfSome o (λ s. IfSome q (λ b. IfSome r (λ p. PricedMineFails s b p e)))
prices_answer (Some s) (Some b) (Some p) said e a whole h = prices_fail_at s b p said e a whole h
prices_answer _ _ _ said e a whole h = tt

-- what is said of the columns is said of those that settings name
pub prices_said : (q : Option (List ℕ)) (columns : PriceColumns) (said : SettingsView) (table : PricesView)
    → columns ≡ columns_said said → IfSome q (λ b. ReadsPrices columns b table)
    → IfSome q (λ b. ReadsPrices (columns_said said) b table)
prices_said q columns said table e h = subst (λ (cs : PriceColumns). IfSome q (λ b. ReadsPrices cs b table)) e h

pub prices_unsaid : (q : Option (List ℕ)) (columns : PriceColumns) (said : SettingsView) (e : EngineFault)
    → columns ≡ columns_said said → IfSome q (λ b. PricesReadFail columns b e)
    → IfSome q (λ b. PricesReadFail (columns_said said) b e)
prices_unsaid q columns said e same h = subst (λ (cs : PriceColumns). IfSome q (λ b. PricesReadFail cs b e)) same h

-- prices that were read are of the blocks of the text
pub priced : (s b : List ℕ) (said : SettingsView) (table : PricesView) (n : ℕ) → n ≡ priced_count table
    → NoRevenueNegative table → first_missing (price_keys said) said ≡ None → ReadsSettingsText slope_keys s said
    → ReadsPrices (columns_said said) b table → PricesRead s b n
priced s b said table n e positive whole a t =
    let known = sym (settings_are s said a.1) in
    let is : table ≡ table_of s b = t.is ∙ ap (λ (v : SettingsView). table_by v b) known in
    let C : SettingsView → Type 0 = λ v. blocks.blocks_fault_of (price_columns v) b ≡ None in
    let count = sym (priced_at (columns_said said) b) ∙ ap priced_count (sym t.is) ∙ sym e in
    record {
      columns = columns_known s said a whole;
      within = t.within;
      read = subst C known t.read;
      count = count;
      revenues = subst NoRevenueNegative is positive;
    }

prec_fails_at : (s b p : List ℕ) (said : SettingsView) (table : PricesView) (n : ℕ) (e : EngineFault)
    → n ≡ priced_count table → NoRevenueNegative table → first_missing (price_keys said) said ≡ None
    → ReadsSettingsText slope_keys s said → ReadsPrices (columns_said said) b table → PrecReadFails n p e
    → PricedMineFails s b p e
prec_fails_at s b p said table n (engine.Prec q) size positive whole a t h =
    (n, priced s b said table n size positive whole a t, h)
prec_fails_at s b p said table n engine.Memory size positive whole a t h = tt
prec_fails_at s b p said table n engine.Device size positive whole a t h = tt
prec_fails_at s b p said table n _ size positive whole a t h = absurd h

pub prec_answer : (o q r : Option (List ℕ)) (said : SettingsView) (table : PricesView) (n : ℕ) (e : EngineFault)
    → n ≡ priced_count table → NoRevenueNegative table → first_missing (price_keys said) said ≡ None
    → IfSome o (λ s. ReadsSettingsText slope_keys s said) → IfSome q (λ b. ReadsPrices (columns_said said) b table)
    → IfSome r (λ p. PrecReadFails n p e)
    → IfSome o (λ s. IfSome q (λ b. IfSome r (λ p. PricedMineFails s b p e)))
prec_answer (Some s) (Some b) (Some p) said table n e size positive whole a t h = prec_fails_at s b p said table n e
    size positive whole a t h
prec_answer _ _ _ said table n e size positive whole a t h = tt

pub mine_answer : (o q r : Option (List ℕ)) (said : SettingsView) (table : PricesView) (rests : RestsView) (n : ℕ)
    → n ≡ priced_count table → NoRevenueNegative table → first_missing (price_keys said) said ≡ None
    → IfSome o (λ s. ReadsSettingsText slope_keys s said) → IfSome q (λ b. ReadsPrices (columns_said said) b table)
    → IfSome r (λ p. ReadsPrec n p rests)
    → IfSome o (λ s. IfSome q (λ b. IfSome r (λ p. ArePricesRead s b (by_text p) table rests)))
mine_answer (Some s) (Some b) (Some p) said table rests n size positive whole a t h = all_read s b p said table rests
    n size positive whole a t h
mine_answer _ _ _ said table rests n size positive whole a t h = tt
