use Rattle.std.proofs.Common.{◌≡◌, ◌∙◌, ◌+◌, ℕ, ap, sym, subst, Some, None, if◌then◌else◌}
use Rattle.boards.specs.Prelude.{shown_state, blocks_of_board, IsAlone}
use Rattle.boards.proofs.Alone.{all_idle_alone, served_counts, still_alone, unserved_quiet}
use Rattle.boards.proofs.Ends.{ended}
use Rattle.boards.proofs.Records.{record_stays, record_served, record_ended}
use Rattle.boards.proofs.finishing.take_turns.Goals.{then-more, else-more}
use Rattle.boards.proofs.finishing.take_turns.Goals as goal

pub loop-made-init : goal.loop-made-init
loop-made-init g c = (
  record_stays c.args.board.now c.args.steps c.requires.within,
  all_idle_alone c.args.board.now.board c.requires.idle,
  sym c.count-made.ensures,
  c.len-blocks.ensures.made,
)

pub unreachable-requires : goal.unreachable-requires
unreachable-requires g c =
    let i = c.loop-made.invariant in
    c.in-Idle.ensures.turn.0.unquiet
    (unserved_quiet c.loop-made.board.board c.loop-made.own i.3.is_board i.1 c.in-Idle.ensures.turn.1)

pub loop-made-preserved : goal.loop-made-preserved
loop-made-preserved g c =
    let i = c.loop-made.invariant in
    let s = c.in-Stepped in
    let old = c.loop-made.board in
    let new = c.turn.new.self in
    let own : (if s.more then Some s.block else None) ≡ c.if-more.own =
    (elim c.if-more.branch [
      | then-more w ↦ ap (λ t. if t then Some s.block else None) w.if-more.true ∙ sym w.own-is
      | else-more w ↦ ap (λ t. if t then Some s.block else None) w.if-more.false ∙ sym w.own-is
    ]) in (
      record_served c.args.board.now old new c.loop-made.own c.loop-made.from c.args.steps s.block s.more
          s.ensures.made.is_board i.0 s.ensures.turn s.ensures.writes,
      subst (IsAlone (blocks_of_board new.board) (shown_state new.board)) own
          (still_alone old.board new.board c.loop-made.own c.loop-made.from c.args.steps s.block s.more i.1
          s.ensures.turn),
      served_counts old.board new.board s.block s.more s.ensures.turn.1 ∙ ap (λ (k : ℕ). k + 1) i.2,
      s.ensures.made,
    )

pub returns-in-Ended-clause-goes_on : goal.returns-in-Ended-clause-goes_on
returns-in-Ended-clause-goes_on g c =
    record_ended c.args.board.now c.loop-made.board c.turn.new.self c.loop-made.own c.loop-made.from c.args.steps
    c.in-Ended.end c.loop-made.invariant.0 c.in-Ended.ensures.turn c.in-Ended.ensures.writes

pub returns-in-Ended-clause-end : goal.returns-in-Ended-clause-end
returns-in-Ended-clause-end g c =
    ended c.args.board.now.board c.loop-made.board.board c.turn.new.self.board c.loop-made.own c.loop-made.from
    c.args.steps c.requires.counted c.loop-made.invariant.0.board c.in-Ended.ensures.made c.in-Ended.end
    c.in-Ended.ensures.turn
