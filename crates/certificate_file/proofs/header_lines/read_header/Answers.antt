use Rattle.std.proofs.lemmas.Result.{err_from_is_err_and}
use Rattle.certificate_file.proofs.HeaderLines.{three_passed, header_made, header_unmade}
use Rattle.certificate_file.proofs.header_lines.read_header.Goals as goal

pub returns-in_err-group : goal.returns-in_err-group
returns-in_err-group c =
    let p = err_from_is_err_and c.from_residual-in_err-group.result c.from_residual-in_err-group.ensures.1 in
    let t = three_passed c.args.wanted c.args.pieces.now c.read_version.new.pieces c.read_blocks.new.pieces
    c.read_price.new.pieces c.in_ok-version.version c.in_ok-blocks.blocks c.in_ok-price.price c.requires
    c.in_ok-version.ensures c.in_ok-blocks.ensures c.in_ok-price.ensures in
    rw (p.1, p.2) (header_unmade c.args.wanted c.args.pieces.now c.read_price.new.pieces c.in_ok-version.version
    c.in_ok-blocks.blocks c.in_ok-price.price c.in_err-group.field-0.0 t c.in_err-group.ensures)

pub returns : goal.returns
returns c =
    let t = three_passed c.args.wanted c.args.pieces.now c.read_version.new.pieces c.read_blocks.new.pieces
    c.read_price.new.pieces c.in_ok-version.version c.in_ok-blocks.blocks c.in_ok-price.price c.requires
    c.in_ok-version.ensures c.in_ok-blocks.ensures c.in_ok-price.ensures in
    header_made c.args.wanted c.args.pieces.now c.read_price.new.pieces c.read_group.new.pieces
    c.in_ok-version.version c.in_ok-blocks.blocks c.in_ok-price.price c.in_ok-group.group t c.in_ok-group.ensures
