-- A mine by slopes, and the same mine by the pairs that they give.
use Rattle.std.specs.Prelude.{◌≡◌, ◌↔◌, ◌≤◌, ℕ, ℤ, List, length}
use Rattle.ordered_group.specs.declared.groups.Group.{Group}
use Rattle.prec_file.specs.Prelude.{RestsView, IsRests, AreNarrow, prec_text}
use Rattle.prec_file.specs.declared.limits.TheConstants.{MOST_PAIRS}
use Rattle.settings_file.specs.Settings.{settings_of}
use Rattle.slope.specs.Prelude.{AreOwnSlopes, own_offsets}
use Rattle.slope_offsets.specs.declared.selection.Selection.TheVariants.{Every}
use Rattle.mine_inputs.specs.Prelude.{DenoteMine, mine_texts, placed_in, priced_texts, slopes_said, sloped_texts}
use Rattle.mine_inputs.specs.Prelude.{table_of, up_said, valued_texts}
use Rattle.check_engines.specs.Judgements.{CertificateAccepted}

-- The pairs that the slopes of settings give of the blocks of a text, where a precedence file may have them.
pub record AreSlopePairs (settings text : List ℕ) (rests : RestsView) : Type 0 where
  pub slopes : AreOwnSlopes (placed_in (settings_of settings) text)
      (own_offsets (slopes_said (settings_of settings)) (placed_in (settings_of settings) text))
      (up_said (settings_of settings)) Every rests
  pub is_rests : IsRests rests
  pub few : length rests.pairs ≤ MOST_PAIRS
  pub narrow : AreNarrow rests

-- Settings list slopes; others name the same prices, and stand beside the precedence file of all pairs that those
-- slopes give. Over both mines the same bytes are accepted as a certificate, with one count and one worth.
abbrev pub SlopesAreTheirPairs : Type 0
SlopesAreTheirPairs = (settings settings' blocks : List ℕ) (rests : RestsView) (factor n : ℕ)
    → AreSlopePairs settings blocks rests → table_of settings blocks ≡ table_of settings' blocks
    → DenoteMine (sloped_texts settings blocks factor) n
    → DenoteMine (priced_texts settings' blocks (prec_text rests) factor) n
    → (certificate : List ℕ) (name : Group) (count : ℕ) (worth : ℤ)
    → CertificateAccepted (sloped_texts settings blocks factor) certificate name count worth ↔ CertificateAccepted
    (priced_texts settings' blocks (prec_text rests) factor) certificate name count worth

-- The same of blocks with values: settings list slopes, and the values stand beside them and the blocks; or beside the
-- precedence file of all pairs that those slopes give, and nothing else.
abbrev pub ValuedSlopesAreTheirPairs : Type 0
ValuedSlopesAreTheirPairs = (settings blocks values : List ℕ) (rests : RestsView) (n : ℕ)
    → AreSlopePairs settings blocks rests
    → DenoteMine (valued_texts settings blocks values) n → DenoteMine (mine_texts values (prec_text rests)) n
    → (certificate : List ℕ) (name : Group) (count : ℕ) (worth : ℤ)
    → CertificateAccepted (valued_texts settings blocks values) certificate name count worth ↔ CertificateAccepted
    (mine_texts values (prec_text rests)) certificate name count worth
