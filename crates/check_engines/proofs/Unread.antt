-- Where the texts are read, no fault of a text stands.
use Rattle.fixed_worth.proofs.Common.{◌≡◌, ℕ, ◌≤◌, ℤ, pos, ◌<ℤ◌, ◌≤ℤ◌, List, [], length, get_or, All, All-map, refl}
use Rattle.fixed_worth.proofs.Common.{arith, sym, ap, ◌∙◌, subst, Bool, true, false, cond, Option, Some, None, IfSome}
use Rattle.fixed_worth.proofs.Common.{Result, Ok, Err, inl, inr, nat_lt, option_or, nat_tests, ints, length-map}
use Rattle.fixed_worth.proofs.Common.{length-map-range_with_len, common_steps}
use Rattle.fixed_worth.specs.declared.limits.TheConstants.{MOST_BLOCKS}
use Rattle.std.specs.Prelude.{Any}
use Rattle.settings_file.specs.Settings.{SettingsView, settings_of, names_mill}
use Rattle.settings_file.specs.declared.ways.WayColumns.{WayColumns}
use Rattle.settings_file.proofs.FewWays.{AreFew, few_ways}
use Rattle.settings_file.specs.declared.keys.Key.{Key}
use Rattle.slope.specs.declared.region_fault.RegionFault.TheVariants as region
use Rattle.engine_faults.specs.declared.engine_fault.SlopeProblem.{SlopeProblem}
use Rattle.engine_faults.specs.declared.engine_fault.SlopeProblem.TheVariants as of
use Rattle.blocks_file.specs.Denotes.{BlocksView}
use Rattle.blocks_file.specs.Records as blocks
use Rattle.blocks_file.specs.declared.blocks_fault.BlocksFault.TheVariants as blocks_fault
use Rattle.ordered_group.specs.declared.groups.Group.{Group}
use Rattle.prec_file.specs.declared.prec_fault.PrecFault.{PrecFault}
use Rattle.prec_file.proofs.History.{or_none}
use Rattle.upit_file.specs.Records as upit
use Rattle.upit_file.specs.declared.upit_fault.UpitFault.{UpitFault}
use Rattle.closure_net.specs.Prelude.{NetView, IsNetOf}
use Rattle.closure_net.specs.declared.net.NetFault.{NetFault}
use Rattle.certificate_file.specs.declared.header.Header.{Header}
use Rattle.certificate_file.specs.Certificate.{cert_fault_of}
use Rattle.certificate_file.specs.declared.cert_fault.CertFault.{CertFault}
use Rattle.engine_faults.specs.declared.engine_fault.Problem.{Problem}
use Rattle.engine_faults.specs.declared.engine_fault.Problem.TheVariants as problem
use Rattle.blocks_file.specs.declared.blocks_fault.BlocksFault.{BlocksFault}
use Rattle.settings_file.specs.declared.settings_fault.SettingsFault.{SettingsFault}
use Rattle.settings_file.specs.declared.settings_fault.SettingsFault.TheVariants as settings_fault
use Rattle.settings_file.proofs.Known.{no_settings_fault}
use Rattle.shells.specs.Prices.{AreListed, HasNumbers, revenues_at}
use Rattle.shells.specs.declared.prices_fault.PricesFault.{PricesFault}
use Rattle.mine_inputs.specs.declared.columns_of_prices.PriceColumns.{PriceColumns}
use Rattle.mine_inputs.specs.declared.columns_of_prices.PriceColumns.TheVariants.{Plain, Treated}
use Rattle.shells.specs.declared.prices_fault.PricesFault.TheVariants as prices_fault
use Rattle.mine_inputs.specs.Prelude.{price_keys, slope_keys, sloped_keys, placing_keys, columns_by, columns_said, cell}
use Rattle.mine_inputs.specs.Prelude.{cells, table_at, way_cells, placed_in, prices_alone, prices_and_slopes, table_of}
use Rattle.mine_inputs.specs.Prelude.{KeysSaid, Wanted, PricesReadBy, PricesFailBy, SettingsFails, SlopesFail}
use Rattle.mine_inputs.specs.Prelude.{SlopesRead, MineTexts, mine_texts, priced_texts, sloped_texts, valued_texts}
use Rattle.mine_inputs.specs.Prelude.{ValuesRead, ValuesReadFor, WorthsRead, RestsRead, PrecedenceRead, mine_of}
use Rattle.mine_inputs.specs.Prelude.{DenoteMine, MineSlopesFail, PrecFails, PrecedenceFails, ValuesFail, ValuesFailFor}
use Rattle.mine_inputs.specs.Prelude.{SettingsFail, BlocksFail, TableFails}
use Rattle.check_engines.specs.Prelude.{block_by, counts_by, IsHeader, IsTooManyToList, Reads, ModelFails, HeaderFails}
use Rattle.check_engines.specs.Prelude.{BodyTextFails, PriceDiffers}
use Rattle.mine_inputs.proofs.Priced.{priced_at}
use Rattle.check_engines.proofs.Alone.{ok_same, nets_same}
use Rattle.check_engines.proofs.Fitting.{no_model_fails}

pub never : {F : Type 0} (o : Option F) (f : F) → o ≡ None → o ≡ Some f → ⊥
never o f e g = let h : None ≡ Some f = sym e ∙ g in cc

not_both : {A F : Type 0} (r : Result A F) (a : A) (f : F) → r ≡ Ok a → r ≡ Err f → ⊥
not_both r a f e g = let h : Ok a ≡ Err f = sym e ∙ g in cc

values_fault : (text : List ℕ) (n : ℕ) (fault : UpitFault) → ValuesRead text n
    → upit.upit_fault_of (upit.blocks_declared (upit.lines_in text)) text ≡ Some fault → ⊥
values_fault text n fault r h = grind (arith, common_steps)

values_stand_for : (text : List ℕ) (n : ℕ) (q : Problem UpitFault) → ValuesReadFor text n → ValuesFailFor n text q → ⊥
values_stand_for text n problem.InputTooLong r h = let within = r.within in omega (arith, within, h)
values_stand_for text n (problem.Fault f) r h = never _ _ r.read h.1

values_stand : (texts : MineTexts) (n : ℕ) (q : Problem UpitFault) → WorthsRead texts n → ValuesFail texts q → ⊥
values_stand (mine_texts u p) n problem.InputTooLong r h = let within = r.within in omega (arith, within, h)
values_stand (mine_texts u p) n (problem.Fault f) r h = values_fault u n f r h.1
values_stand (priced_texts s b p k) n q r h = h
values_stand (sloped_texts s b k) n q r h = h
values_stand (valued_texts s b v) n q r h = values_stand_for v n q r.1
    (subst (λ m. ValuesFailFor m v q) (sym h.1.count ∙ r.0.count) h.2)

-- what the settings name is one thing
columns_stand : (needed : SettingsView → List Key) (unused : List Key) (settings : List ℕ) (q : Problem SettingsFault)
    → KeysSaid needed unused settings → SettingsFails needed unused settings q → ⊥
columns_stand needed unused settings problem.InputTooLong c h = let within = c.within in omega (arith, within, h)
columns_stand needed unused settings (problem.Fault settings_fault.NotToml) c h = no_settings_fault settings _
    settings_fault.NotToml c.read (λ e. let z : settings_fault.NotToml ≡ settings_fault.NoMemory = e in cc) h.1
columns_stand needed unused settings (problem.Fault settings_fault.UnknownKey) c h = no_settings_fault settings _
    settings_fault.UnknownKey c.read (λ e. let z : settings_fault.UnknownKey ≡ settings_fault.NoMemory = e in cc) h.1
columns_stand needed unused settings (problem.Fault (settings_fault.BadValue key)) c h = no_settings_fault settings _
    (settings_fault.BadValue key) c.read
    (λ e. let z : (settings_fault.BadValue key) ≡ settings_fault.NoMemory = e in cc) h.1
columns_stand needed unused settings (problem.Fault (settings_fault.Unused key)) c h = never _ _ c.used h.1.1
columns_stand needed unused settings (problem.Fault (settings_fault.Missing key)) c h = never _ _ c.said h.1.1
columns_stand needed unused settings (problem.Fault settings_fault.NoMemory) c h = h.1

settings_stand : (texts : MineTexts) (n : ℕ) (q : Problem SettingsFault) → WorthsRead texts n → SettingsFail texts q → ⊥
settings_stand (mine_texts u p) n q r h = h
settings_stand (priced_texts s b p k) n q r h = columns_stand price_keys slope_keys s q r.columns h
settings_stand (sloped_texts s b k) n q r h = columns_stand sloped_keys [] s q r.columns h
settings_stand (valued_texts s b v) n q r h = columns_stand placing_keys [] s q r.0.keys h

pub settings_read : (texts : MineTexts) (certificate : List ℕ) (q : Problem SettingsFault) → Reads texts certificate
    → SettingsFail texts q → ⊥
settings_read texts certificate q r h = settings_stand texts r.blocks q r.mine.worths_read h

blocks_stand : (texts : MineTexts) (n : ℕ) (q : Problem BlocksFault) → WorthsRead texts n → BlocksFail texts q → ⊥
blocks_stand (mine_texts u p) n q r h = h
blocks_stand (priced_texts s b p k) n problem.InputTooLong r h = let within = r.within in omega (arith, within, h.1)
blocks_stand (priced_texts s b p k) n (problem.Fault f) r h = never _ _ r.read h.1.1
blocks_stand (sloped_texts s b k) n problem.InputTooLong r h = let within = r.within in omega (arith, within, h.1)
blocks_stand (sloped_texts s b k) n (problem.Fault f) r h = never _ _ r.read h.1.1
blocks_stand (valued_texts s b v) n problem.InputTooLong r h = let within = r.0.within in omega (arith, within, h.1)
blocks_stand (valued_texts s b v) n (problem.Fault f) r h = never _ _ r.0.read h.1.1

pub blocks_read : (texts : MineTexts) (certificate : List ℕ) (q : Problem BlocksFault) → Reads texts certificate
    → BlocksFail texts q → ⊥
blocks_read texts certificate q r h = blocks_stand texts r.blocks q r.mine.worths_read h

or_second : {F : Type 0} (a b : Option F) → option_or a b ≡ None → b ≡ None
or_second None b h = h
or_second (Some x) b h = absurd cc

few_records : (records : List ℕ) (t : Bool) → nat_lt MOST_BLOCKS (length records) ≡ t
    → cond t (Some (blocks_fault.TooMany (get_or records MOST_BLOCKS 0))) None ≡ None → length records ≤ MOST_BLOCKS
few_records records true e h = absurd cc
few_records records false e h = grind (arith, nat_tests)

-- a text without a fault has at most `MOST_BLOCKS` blocks
few_blocks : (text chosen : List ℕ) → blocks.blocks_fault_of chosen text ≡ None
    → blocks.record_count_of text ≤ MOST_BLOCKS
few_blocks text chosen h =
    let records = blocks.record_line_numbers (blocks.lines_in text) in
    few_records records (nat_lt MOST_BLOCKS (length records)) refl
    (or_second (blocks.long_fault (blocks.lines_in text)) (blocks.many_fault (blocks.lines_in text))
    (or_none _ _ h))

-- ways are neither none nor too many
abbrev AreFewWays : PriceColumns → Type 0
AreFewWays (Plain revenue cost) = Unit {0}
AreFewWays (Treated ways mining) = AreFew ways

few_ways_by : (o : Option (List WayColumns)) (mill : Bool) (said : SettingsView) → IfSome o AreFew
    → AreFewWays (columns_by o mill said)
few_ways_by (Some ways) mill said h = h
few_ways_by None true said h = (omega arith, omega arith)
few_ways_by None false said h = tt

-- the columns of a text of blocks have one length
are_listed : (columns : PriceColumns) (text : List ℕ) → AreFewWays columns → AreListed (table_at columns text)
are_listed (Plain revenue cost) text few = length-map-range_with_len (cell text cost) 0 (blocks.record_count_of text)
    ∙ sym (length-map-range_with_len (cell text revenue) 0 (blocks.record_count_of text))
are_listed (Treated ways mining) text few =
    let n = blocks.record_count_of text in
    let mined = length-map-range_with_len (cell text mining) 0 n in
    let count = length-map ways (way_cells text) in
    let some = few.0 in
    let most = few.1 in (
      omega (arith, count, some),
      omega (arith, count, most),
      All-map (HasNumbers (length (cells text mining))) (way_cells text) ways (λ i d l.
          let way = get_or ways i d in (
            length-map-range_with_len (cell text way.revenue) 0 n
                ∙ sym mined,
            length-map-range_with_len (cell text way.processing) 0 n ∙ sym mined,
          )),
    )

-- no revenue is negative where none is
not_negative : (rs : List ℤ) → Any (λ r. r <ℤ pos 0) rs → All (λ r. pos 0 ≤ℤ r) rs → ⊥
not_negative rs some all =
    let below = some.4 in
    let above : pos 0 ≤ℤ some.1 = subst (λ r. pos 0 ≤ℤ r) some.3 (all some.0 some.1 some.2) in
    omega (arith, ints, below, above)

table_stands : (w : Wanted) (settings text : List ℕ) (n : ℕ) (fault : PricesFault) → PricesReadBy w settings text n
    → PricesFailBy w settings text fault → ⊥
table_stands w settings text n prices_fault.WrongLength r h =
    let said = settings_of settings in
    let few = few_ways_by said.ways (names_mill said) said (few_ways settings r.columns.read) in
    elim h.stands [
      | inl unlisted ↦ unlisted (are_listed (columns_said said) text few)
      | inr many ↦ omega
          (arith, many, priced_at (columns_said said) text, few_blocks text (w.chosen said) r.read)
    ]
table_stands w settings text n (prices_fault.NegativeRevenue b) r h =
    let first = h.stands.2 in
    not_negative (revenues_at (table_of settings text) b) first.negative (r.revenues b first.block)

prices_stand : (texts : MineTexts) (n : ℕ) (fault : PricesFault) → WorthsRead texts n → TableFails texts fault → ⊥
prices_stand (mine_texts u p) n fault r h = h
prices_stand (priced_texts s b p k) n fault r h = table_stands prices_alone s b n fault r h
prices_stand (sloped_texts s b k) n fault r h = table_stands prices_and_slopes s b n fault r h
prices_stand (valued_texts s b v) n fault r h = h

pub prices_read : (texts : MineTexts) (certificate : List ℕ) (fault : PricesFault) → Reads texts certificate
    → TableFails texts fault → ⊥
prices_read texts certificate fault r h = prices_stand texts r.blocks fault r.mine.worths_read h

pub upit_read : (texts : MineTexts) (certificate : List ℕ) (q : Problem UpitFault) → Reads texts certificate
    → ValuesFail texts q → ⊥
upit_read texts certificate q r h = values_stand texts r.blocks q r.mine.worths_read h

-- the texts say it of one number of blocks
pub one_size : (texts : MineTexts) (n m : ℕ) → WorthsRead texts n → WorthsRead texts m → n ≡ m
one_size (mine_texts u p) n m a b = let e = sym a.declared ∙ b.declared in cc
one_size (priced_texts s b p k) n m a b' = sym a.count ∙ b'.count
one_size (sloped_texts s b k) n m a b' = sym a.count ∙ b'.count
one_size (valued_texts s b v) n m a b' = sym a.0.count ∙ b'.0.count

precedence_stands : (text : List ℕ) (n : ℕ) (q : Problem PrecFault) → PrecedenceRead text n → PrecFails n text q → ⊥
precedence_stands text n problem.InputTooLong r h = let within = r.within in omega (arith, within, h)
precedence_stands text n (problem.Fault f) r h = never _ _ r.read h.1

rests_stand : (texts : MineTexts) (n : ℕ) (q : Problem PrecFault) → RestsRead texts n → PrecedenceFails texts n q → ⊥
rests_stand (mine_texts u p) n q r h = precedence_stands p n q r h
rests_stand (priced_texts s b p k) n q r h = precedence_stands p n q r h
rests_stand (sloped_texts s b k) n q r h = h
rests_stand (valued_texts s b v) n q r h = h

pub prec_read : (texts : MineTexts) (certificate : List ℕ) (n : ℕ) (q : Problem PrecFault) → Reads texts certificate
    → WorthsRead texts n → PrecedenceFails texts n q → ⊥
prec_read texts certificate n q r v h = rests_stand texts n q
    (subst (RestsRead texts) (one_size texts r.blocks n r.mine.worths_read v) r.mine.rests_read) h

-- nothing is wrong with the slopes that were read; they may give more pairs than a list may have
slopes_right : (said : SettingsView) (m : BlocksView) (q : SlopeProblem) → SlopesRead said m → SlopesFail said m q
    → IsTooManyToList q
slopes_right said m (of.Pattern f) r h = h
slopes_right said m (of.Pairs f) r h = h
slopes_right said m (of.Regions (region.SamePlace b c)) r h = absurd (r.placed.apart b c h.earlier h.known h.same)
slopes_right said m (of.Regions (region.UnknownRegion b)) r h = let first = h.1 in absurd
    (first.outside (r.placed.regions b first.known))
slopes_right said m (of.Regions (region.NotUpward q i)) r h = let first = h.1 in absurd
    (first.first.2 (r.upward q first.known i (pos 0, pos 0, pos 0) first.first.0))
slopes_right said m (of.Regions (region.TooManyOffsets q)) r h = let wide = h.2 in let many = wide.many in omega
    (arith, many, r.few_offsets q wide.known)
slopes_right said m (of.Regions region.TooManyRegions) r h = let few = r.few_regions in omega (arith, few, h.3)
slopes_right said m (of.Regions region.TooMany) r h = tt
slopes_right said m (of.Regions region.NoMemory) r h = h

slopes_stand : (texts : MineTexts) (n : ℕ) (q : SlopeProblem) → RestsRead texts n → MineSlopesFail texts q
    → IsTooManyToList q
slopes_stand (mine_texts u p) n q r h = absurd h
slopes_stand (priced_texts s b p k) n q r h = absurd h
slopes_stand (sloped_texts s b k) n q r h = slopes_right (settings_of s) (placed_in (settings_of s) b) q r h
slopes_stand (valued_texts s b v) n q r h = slopes_right (settings_of s) (placed_in (settings_of s) b) q r h

pub slopes_read : (texts : MineTexts) (certificate : List ℕ) (q : SlopeProblem) → Reads texts certificate
    → MineSlopesFail texts q → IsTooManyToList q
slopes_read texts certificate q r h = slopes_stand texts r.blocks q r.mine.rests_read h

pub price_read : (texts : MineTexts) (certificate : List ℕ) (n : ℕ) → Reads texts certificate
    → PriceDiffers texts certificate n → ⊥
price_read texts certificate n r h = let e = ok_same _ _ _ h.1 r.header in h.3 (ap (λ (z : Header). z.price) e)

pub header_read : (texts : MineTexts) (certificate : List ℕ) (n : ℕ) (fault : CertFault) → Reads texts certificate
    → DenoteMine texts n → HeaderFails certificate n fault → ⊥
header_read texts certificate n fault r m (inl e) = not_both _ _ _ r.header e
header_read texts certificate n fault r m (inr h) = grind (arith, common_steps)

pub model_read : (texts : MineTexts) (certificate : List ℕ) (n : ℕ) (group : Group) (fault : NetFault)
    → Reads texts certificate → IsHeader texts certificate n group → ModelFails texts n group fault → ⊥
model_read texts certificate n group fault r h f =
    let e = ok_same _ _ _ r.header h in
    let blocks : r.blocks ≡ n = ap (λ (z : Header). z.blocks) e in
    let named : r.group ≡ group = ap (λ (z : Header). z.group) e in
    let M : ℕ → Type 0 = λ k. IsNetOf (block_by r.group) (mine_of k texts) r.net in
    let N : Group → Type 0 = λ g. IsNetOf (block_by g) (mine_of n texts) r.net in
    no_model_fails texts n group r.net r.is_net (subst N named (subst M blocks r.of_mine)) fault f

pub body_read : (texts : MineTexts) (certificate : List ℕ) (n : ℕ) (fault : CertFault) → Reads texts certificate
    → DenoteMine texts n → BodyTextFails texts certificate n fault → ⊥
body_read texts certificate n fault r m f =
    let h = ok_same _ _ _ r.header f.header in
    let blocks : r.blocks ≡ n = ap (λ (z : Header). z.blocks) h in
    let group : r.group ≡ f.group = ap (λ (z : Header). z.group) h in
    let M : ℕ → Type 0 = λ k. IsNetOf (block_by r.group) (mine_of k texts) r.net in
    let N : Group → Type 0 = λ g. IsNetOf (block_by g) (mine_of n texts) r.net in
    let net = nets_same (block_by f.group) n texts r.net f.net r.is_net f.is_net
    (subst N group (subst M blocks r.of_mine)) f.of_mine in
    let A : ℕ → Type 0 = λ k. cert_fault_of (counts_by r.group) r.group k r.net.pairs certificate ≡ None in
    let B : Group → Type 0 = λ g. cert_fault_of (counts_by g) g n r.net.pairs certificate ≡ None in
    let C : NetView → Type 0 = λ w. cert_fault_of (counts_by f.group) f.group n w.pairs certificate ≡ None in
    never _ _ (subst C net (subst B group (subst A blocks r.no_fault))) f.stands
