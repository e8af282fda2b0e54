use Rattle.std.proofs.Common.{rules, refl, replicate, ◌≡◌, ◌∙◌, ℕ, List, [], length, ap, ap₂, sym, subst, arith}
use Rattle.atomic_table.specs.Table.{opening}
use Rattle.ordered_group.specs.Amount.{Amount, AtMost}
use Rattle.closure_net.specs.Network.{NetView}
use Rattle.word_steps.specs.Prelude.{units, count, width, start_words, first_view, IsRuled}
use Rattle.word_runner.specs.Prelude.{AreGains}
use Rattle.word_runner.proofs.Begins.{begins, widths}
use Rattle.word_runner.proofs.Cuts.{cut_gains}
use Rattle.word_steps.proofs.Units.{units_above}
use Rattle.word_runner.proofs.Told.{first_seat}
use Rattle.word_runner.proofs.opening.words_with.Goals as goal

-- the words that were made
first_words : (gain loss losses words made : List ℕ) (blocks pairs : ℕ) (net : NetView) → words ≡ made
    → made ≡ start_words gain losses blocks pairs → losses ≡ loss → blocks ≡ count net → pairs ≡ length net.pairs
    → words ≡ start_words gain loss (count net) (length net.pairs)
first_words gain loss losses words made blocks pairs net e f same n m = e ∙ f
    ∙ ap (λ y. start_words gain y blocks pairs) same ∙ ap₂ (start_words gain loss) n m

pub of_words-requires : goal.of_words-requires
of_words-requires c =
    let net = c.in_ok-cut.cut in
    let g : AreGains net c.args.gain.now c.args.total = cut_gains c.args.net.now net c.args.gain.now c.args.total
    c.in_ok-cut.ensures.0 c.requires.gains in
    let gain = c.args.gain.now in
    let loss = c.in_ok-loss.loss.items in
    let words = first_words gain loss c.deref.result.now c.deref-2.result.now _ c.len-blocks.result
    c.pairs-pairs.result net c.deref-2.ensures.value c.in_ok-words.ensures c.deref.ensures.value
    c.len-blocks.ensures (c.pairs-pairs.ensures ∙ ap (λ z. length z) c.rests.ensures.pairs) in
    subst (λ (w : List ℕ). IsRuled net (opening w [] (first_view net))) (sym words) (begins net gain loss (record {
      is_net = c.worths-cut.ensures.net;
      small = subst (λ (a : Amount). AtMost a (units 9223372036854775807)) (sym g.all)
          (let small = g.small in units_above c.args.total 9223372036854775807 (omega (arith, small)));
      gains = g.size;
      losses = c.in_ok-loss.ensures.size;
      positive = g.each;
      negative = c.in_ok-loss.ensures.each;
    }))

pub invariant_of-words : goal.invariant_of-words
invariant_of-words c =
    let net = c.in_ok-cut.cut in
    let g = c.requires.gains in
    let is = c.in_ok-cut.ensures.0 in
    let gain = c.args.gain.now in
    let loss = c.in_ok-loss.loss.items in
    let t = c.in_ok-table.ensures in
    let words = first_words gain loss c.deref.result.now c.deref-2.result.now _ c.len-blocks.result
    c.pairs-pairs.result net c.deref-2.ensures.value c.in_ok-words.ensures c.deref.ensures.value
    c.len-blocks.ensures (c.pairs-pairs.ensures ∙ ap (λ z. length z) c.rests.ensures.pairs) in
    let cut : AreGains net gain c.args.total = cut_gains c.args.net.now net gain c.args.total is g in
    record {
      key = t.5;
      words = t.0 ∙ ap (λ (l : List ℕ). length l) words
          ∙ widths gain loss (count net) (length net.pairs) cut.size c.in_ok-loss.ensures.size;
      slots = t.1;
      all = cut.all;
      small = g.small;
      some = c.requires.few.0;
      few = c.requires.few.1;
    }

pub returns : goal.returns
returns c =
    let net = c.in_ok-cut.cut in
    let g = c.requires.gains in
    let is = c.in_ok-cut.ensures.0 in
    let small = g.small in
    let gain = c.args.gain.now in
    let loss = c.in_ok-loss.loss.items in
    let t = c.in_ok-table.ensures in
    let words = first_words gain loss c.deref.result.now c.deref-2.result.now _ c.len-blocks.result
    c.pairs-pairs.result net c.deref-2.ensures.value c.in_ok-words.ensures c.deref.ensures.value
    c.len-blocks.ensures (c.pairs-pairs.ensures ∙ ap (λ z. length z) c.rests.ensures.pairs) in
    let cut : AreGains net gain c.args.total = cut_gains c.args.net.now net gain c.args.total is g in
    let labels : c.in_ok-labels.labels.items ≡ replicate c.len-blocks.result 0 = search rules in
    record {
      cut = is;
      within = c.in_ok-cut.ensures.1;
      workers_are = refl;
      small = subst (λ (a : Amount). AtMost a (units 9223372036854775807)) (sym g.all)
          (units_above c.args.total 9223372036854775807 (omega (arith, small)));
      first = first_seat _ _ t.2 (t.0 ∙ ap (λ (l : List ℕ). length l) words
          ∙ widths gain loss (count net) (length net.pairs) cut.size c.in_ok-loss.ensures.size ∙ ap width (sym t.5))
          (t.4 ∙ ap (λ n. (first_view n, [])) (sym t.5))
          (labels ∙ ap (λ k. replicate k 0) (c.len-blocks.ensures ∙ ap count (sym t.5))) refl refl refl;
    }
