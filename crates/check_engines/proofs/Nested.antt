-- Accepted pits over one table of prices are nested.
use Rattle.fixed_worth.proofs.Common.{◌≡◌, ℕ, Bool, List, sym, ◌∙◌, subst}
use Rattle.closure_net.specs.Prelude.{holds_of, Mine, IsBest, LiesWithin}
use Rattle.settings_file.specs.Settings.{settings_of}
use Rattle.shells.specs.Prelude.{NoRevenueNegative, PricesView, priced_count, worth_at, mine_of_prices}
use Rattle.shells.proofs.Rising.{best_is_nested}
use Rattle.mine_inputs.proofs.Priced.{priced_at, worth_by_prices}
use Rattle.mine_inputs.specs.Prelude.{PrecedenceBy, by_slopes, by_text, columns_said, table_of, WorthsRead, texts_by}
use Rattle.mine_inputs.specs.Prelude.{rests_of, mine_of}
use Rattle.ordered_group.specs.declared.groups.Group.{Group}
use Rattle.ordered_group.specs.declared.groups.Group.TheVariants.{Worth}
use Rattle.check_engines.specs.Prelude.{IsProvedPit, TellsSizes, AcceptedAreNested}

-- the table is of the blocks that the mine has
table_size : (settings text : List ℕ) (p : PrecedenceBy) (k n : ℕ) → WorthsRead (texts_by settings text p k) n
    → n ≡ priced_count (table_of settings text)
table_size settings text (by_text precedence) k n r = sym (priced_at (columns_said (settings_of settings)) text
    ∙ r.count)
table_size settings text by_slopes k n r = sym (priced_at (columns_said (settings_of settings)) text ∙ r.count)

-- no revenue of the table is negative
pub none_negative : (settings text : List ℕ) (p : PrecedenceBy) (k n : ℕ) → WorthsRead (texts_by settings text p k) n
    → NoRevenueNegative (table_of settings text)
none_negative settings text (by_text precedence) k n r = r.revenues
none_negative settings text by_slopes k n r = r.revenues

-- the mine of texts is that of their table
mine_is : (settings text : List ℕ) (p : PrecedenceBy) (k n : ℕ) → n ≡ priced_count (table_of settings text)
    → mine_of n (texts_by settings text p k) ≡ mine_of_prices (rests_of (texts_by settings text p k))
    (table_of settings text) k
mine_is settings text p k n e = λ i. record
    { blocks = e i; rests = rests_of (texts_by settings text p k); worth = λ b. worth_by_prices settings text p k b i }

same_mine : (above above' : ℕ → ℕ → Bool) (table table' : PricesView) (k : ℕ) → ((b p : ℕ) → above b p ≡ above' b p)
    → table ≡ table' → mine_of_prices above' table' k ≡ mine_of_prices above table k
same_mine above above' table table' k e f = let g = sym f in λ i. record
    { blocks = priced_count (g i); rests = λ b p. sym (e b p) i; worth = worth_at (g i) k }

-- a pit that is proved in amounts that tell sizes is the best one
best_of : (name : Group) (mine : Mine) (e : ℕ → Bool) → TellsSizes name → IsProvedPit name mine e → IsBest mine e
best_of Worth mine e tells h = absurd tells
best_of name mine e tells h = h

pub accepted_are_nested : AcceptedAreNested
accepted_are_nested s t p s' t' p' lower higher j k count count' worth worth' name name' tells tells' one le low high =
    let table = table_of s t in
    let above = rests_of (texts_by s t p j) in
    let here = mine_is s t p j low.read.blocks (table_size s t p j low.read.blocks low.read.mine.worths_read) in
    let there = mine_is s' t' p' k high.read.blocks (table_size s' t' p' k high.read.blocks high.read.mine.worths_read)
    ∙ same_mine above (rests_of (texts_by s' t' p' k)) table (table_of s' t') k (one.rests j k) one.prices in
    let e = holds_of low.read.pit in
    let c = holds_of high.read.pit in
    let L : Mine → Type 0 = λ m. IsBest m e in
    let H : Mine → Type 0 = λ m. IsBest m c in
    let W : Mine → Type 0 = λ m. LiesWithin m e c in
    let best_low = best_of name _ e tells low.proved in
    let best_high = best_of name' _ c tells' high.proved in
    let known = none_negative s t p j low.read.blocks low.read.mine.worths_read in
    subst W (sym here) (best_is_nested above table j k e c known le (subst L here best_low) (subst H there best_high))
