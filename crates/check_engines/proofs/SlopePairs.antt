-- A mine by slopes is the mine by their pairs.
use Rattle.fixed_worth.proofs.Common.{◌≡◌, ℕ, ℤ, Bool, List, Ok, refl, sym, ap, subst}
use Rattle.ordered_group.specs.declared.groups.Group.{Group}
use Rattle.prec_file.specs.Prelude.{RestsView, pairs_of_text, prec_text}
use Rattle.prec_file.proofs.WrittenRecords.{reads_back}
use Rattle.settings_file.specs.Settings.{settings_of}
use Rattle.closure_net.specs.Prelude.{Mine, IsNetOf, block_count_of, holds_of, worth_of}
use Rattle.closure_net.proofs.Holding.{same_tests}
use Rattle.certificate_file.specs.declared.header.Price.{Price}
use Rattle.certificate_file.specs.Prelude.{header_of, pieces_of}
use Rattle.shells.specs.Prices.{PricesView, price_of, worth_at}
use Rattle.slope.proofs.Tested.{pairs_tested}
use Rattle.mine_inputs.specs.Prelude.{ArePairsBy, DenoteMine, MineTexts, mine_of, mine_texts, placed_in, price_wanted}
use Rattle.mine_inputs.specs.Prelude.{priced_texts, rests_by, rests_said, slopes_said, sloped_texts, up_said}
use Rattle.mine_inputs.specs.Prelude.{valued_texts, worth_by_texts}
use Rattle.mine_inputs.proofs.Listed.{by_listed}
use Rattle.check_engines.specs.Prelude.{AreSlopePairs, CertificateAccepted, IsProvedPit, SlopesAreTheirPairs}
use Rattle.check_engines.specs.Prelude.{ValuedSlopesAreTheirPairs, block_by}
use Rattle.check_engines.proofs.Unread.{one_size}

rests_agree : (x y : ℕ → ℕ → Bool) (pairs : List (ℕ × ℕ)) → ArePairsBy x pairs → ArePairsBy y pairs → (b p : ℕ)
    → x b p ≡ y b p
rests_agree x y pairs a c b p = same_tests (x b p) (y b p) (λ h. (c.same b p).0 ((a.same b p).1 h))
    (λ h. (a.same b p).0 ((c.same b p).1 h))

-- what is accepted over the texts of a mine is accepted over other texts of it
module _ (t u : MineTexts) (price : price_wanted t ≡ price_wanted u) (same : (i : ℕ) → mine_of i t ≡ mine_of i u)
    (n : ℕ) (here : DenoteMine t n) (there : DenoteMine u n) where
  moved : (c : List ℕ) (name : Group) (count : ℕ) (worth : ℤ) → CertificateAccepted t c name count worth
      → CertificateAccepted u c name count worth
  moved c name count worth a =
      let r = a.read in
      let size : n ≡ r.blocks = one_size t n r.blocks here.worths_read r.mine.worths_read in
      let e = holds_of r.pit in
      record {
        within = a.within;
        read = record {
          blocks = r.blocks;
          mine = subst (DenoteMine u) size there;
          group = r.group;
          header = subst (λ (p : Price). header_of (pieces_of c)
              ≡ Ok (record { blocks = r.blocks; price = p; group = r.group })) price r.header;
          net = r.net;
          is_net = r.is_net;
          of_mine = subst (λ (m : Mine). IsNetOf (block_by r.group) m r.net) (same r.blocks) r.of_mine;
          no_fault = r.no_fault;
          pit = r.pit;
          flow = r.flow;
          denotes = r.denotes;
          ascending = r.ascending;
          known = r.known;
        };
        group = a.group;
        proves = a.proves;
        proved = subst (λ (m : Mine). IsProvedPit name m e) (same r.blocks) a.proved;
        count = subst (λ (m : Mine). block_count_of m e ≡ count) (same r.blocks) a.count;
        worth = subst (λ (m : Mine). worth_of m e ≡ worth) (same r.blocks) a.worth;
      }

-- who rests on whom by slopes is who does by the file of their pairs
slopes_agree : (s b : List ℕ) (rests : RestsView) → AreSlopePairs s b rests → (x y : ℕ)
    → rests_said (settings_of s) (placed_in (settings_of s) b) x y ≡ rests_by (pairs_of_text (prec_text rests)) x y
slopes_agree s b rests are =
    let said = settings_of s in
    let m = placed_in said b in
    let listed = pairs_of_text (prec_text rests) in
    let by_slopes : ArePairsBy (rests_said said m) rests.pairs = record
    { rising = are.slopes.rising; same = pairs_tested (slopes_said said) m (up_said said) rests are.slopes } in
    let by_text : ArePairsBy (rests_by listed) rests.pairs = by_listed listed rests.pairs
    (reads_back rests are.is_rests are.few are.narrow).same in
    rests_agree (rests_said said m) (rests_by listed) rests.pairs by_slopes by_text

pub slopes_are_pairs : SlopesAreTheirPairs
slopes_are_pairs s s' b rests k n are table one other c name count worth =
    let agree = slopes_agree s b rests are in
    let same : (i : ℕ) → mine_of i (sloped_texts s b k) ≡ mine_of i (priced_texts s' b (prec_text rests) k) = λ i j.
    record { blocks = i; rests = λ x y. agree x y j; worth = worth_at (table j) k } in
    let price = ap (λ (p : PricesView). price_of p k) table in (
      moved (sloped_texts s b k) (priced_texts s' b (prec_text rests) k) price same n one other c name count worth,
      moved (priced_texts s' b (prec_text rests) k) (sloped_texts s b k) (sym price) (λ i. sym (same i)) n other one c
          name count worth,
    )

pub valued_slopes_are_pairs : ValuedSlopesAreTheirPairs
valued_slopes_are_pairs s b v rests n are one other c name count worth =
    let here = valued_texts s b v in
    let there = mine_texts v (prec_text rests) in
    let agree = slopes_agree s b rests are in
    let same : (i : ℕ) → mine_of i here ≡ mine_of i there = λ i j. record
    { blocks = i; rests = λ x y. agree x y j; worth = worth_by_texts there } in (
      moved here there refl same n one other c name count worth,
      moved there here refl (λ i. sym (same i)) n other one
          c name count worth,
    )
