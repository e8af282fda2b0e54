use Rattle.fixed_worth.proofs.Common.{sym, subst, arith, length, ◌<◌, err_from_is_err_and}
use Rattle.check_pit.specs.declared.pit_fault.PitFault.{PitFault}
use Rattle.check_pit.specs.Rooms.{SumOverflowsWith, RefusedWhere}
use Rattle.check_pit.proofs.RoomSums.{with_rest}
use Rattle.check_pit.proofs.RoomLines.{to_over}
use Rattle.check_pit.proofs.room.Room.put_rest.Goals as goal

pub returns-in_err-add-clause-puts : goal.returns-in_err-add-clause-puts
returns-in_err-add-clause-puts g c =
    let parts = g.G.OrderedGroup.parts_of in
    let l = c.args.line.now in
    let signed = c.in_ok-amount.ensures in
    let mid = c.in_ok-take.ensures in
    let over = c.in_err-add.ensures in
    let refused = to_over c.args.net.now l c.args.self.now c.take.new.self (parts c.in_ok-amount.amount)
    c.requires.kind c.if-line.true (c.requires.may.other c.requires.kind) signed.0 signed.1 mid over.2 in
    let p = err_from_is_err_and c.from_residual-in_err-add.result c.from_residual-in_err-add.ensures.1 in
    rw (p.1, p.2) (subst (λ (f : PitFault). RefusedWhere c.args.net.now l
    (SumOverflowsWith c.args.net.now c.args.self.now l) f) (sym over.0) refused)

pub returns-in_ok-add-clause-puts : goal.returns-in_ok-add-clause-puts
returns-in_ok-add-clause-puts g c =
    let parts = g.G.OrderedGroup.parts_of in
    let l = c.args.line.now in
    let size = c.requires.may.fits.size in
    let block : l.block < length c.args.self.now.balances = omega (arith, c.requires.may.block, size) in
    let other : l.other < length c.args.self.now.balances = omega (arith, c.requires.may.other c.requires.kind, size) in
    let signed = c.in_ok-amount.ensures in
    let mid = c.in_ok-take.ensures in
    let all = c.in_ok-add.ensures in (
      with_rest c.args.net.now l c.args.self.now c.take.new.self c.add.new.self (parts c.in_ok-amount.amount)
          c.requires.kind block other signed.0 mid all,
      signed.1,
    )
