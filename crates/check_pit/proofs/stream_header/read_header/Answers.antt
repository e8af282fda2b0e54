use Rattle.std.proofs.Common.{rules, None}
use Rattle.certificate_file.specs.Header.{version_in, blocks_in, price_in, group_in}
use Rattle.check_pit.proofs.StreamHeads.{Two, lacks_first, lacks_second, lacks_third, lacks_fourth, gives_header}
use Rattle.check_pit.proofs.stream_header.read_header.Goals as goal

pub returns-in_err-version-clause-header : goal.returns-in_err-version-clause-header
returns-in_err-version-clause-header g c = search
    (rules, lacks_first _ _ _ _ c.requires.first (c.in_err-version.ensures.line version_in (λ t r h. search rules)))

pub returns-in_err-blocks-clause-header : goal.returns-in_err-blocks-clause-header
returns-in_err-blocks-clause-header g c = search (
  rules,
  lacks_second _ _ _ _ _ _ c.requires.first
      (c.in_ok-version.ensures.line version_in (λ t r h. search rules))
      (c.in_err-blocks.ensures.line (blocks_in None) (λ t r h. search rules)),
)

pub returns-in_err-price-clause-header : goal.returns-in_err-price-clause-header
returns-in_err-price-clause-header g c =
    let v = c.in_ok-version.version in
    let two : Two g.R.Read.remaining c.args.lines.now c.take_line.new.lines c.take_line-2.new.lines v
    c.in_ok-blocks.blocks = record {
      zero = c.requires.first;
      first = c.in_ok-version.ensures.line version_in
          (λ t r h. search rules);
      second = c.in_ok-blocks.ensures.line (blocks_in None) (λ t r h. search rules);
    } in
    search (
      rules,
      lacks_third g.R.Read.remaining c.args.lines.now c.take_line.new.lines c.take_line-2.new.lines
          c.take_line-3.new.lines v c.in_ok-blocks.blocks c.in_err-price.field-0.0 two
          (c.in_err-price.ensures.line (price_in v) (λ t r h. search rules)),
    )

pub returns-in_err-group-clause-header : goal.returns-in_err-group-clause-header
returns-in_err-group-clause-header g c =
    let two : Two g.R.Read.remaining c.args.lines.now c.take_line.new.lines c.take_line-2.new.lines
    c.in_ok-version.version c.in_ok-blocks.blocks = record {
      zero = c.requires.first;
      first = c.in_ok-version.ensures.line version_in (λ t r h. search rules);
      second =
          c.in_ok-blocks.ensures.line (blocks_in None) (λ t r h. search rules);
    } in
    search (
      rules,
      lacks_fourth _ _ _ _ _ _ _ _ _ _ two
          (c.in_ok-price.ensures.line (price_in c.in_ok-version.version) (λ t r h. search rules))
          (c.in_err-group.ensures.line (group_in None) (λ t r h. search rules)),
    )

pub returns-clause-header : goal.returns-clause-header
returns-clause-header g c =
    let two : Two g.R.Read.remaining c.args.lines.now c.take_line.new.lines c.take_line-2.new.lines
    c.in_ok-version.version c.in_ok-blocks.blocks = record {
      zero = c.requires.first;
      first = c.in_ok-version.ensures.line version_in (λ t r h. search rules);
      second =
          c.in_ok-blocks.ensures.line (blocks_in None) (λ t r h. search rules);
    } in
    gives_header _ _ _ _ _ _ _ _ _ _ two
    (c.in_ok-price.ensures.line (price_in c.in_ok-version.version) (λ t r h. search rules))
    (c.in_ok-group.ensures.line (group_in None) (λ t r h. search rules))
