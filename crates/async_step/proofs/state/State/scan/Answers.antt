use Rattle.fixed_worth.proofs.Common.{Bool, subst, arith, common_steps}
use Rattle.machine_law.proofs.PortLists.{port-at}
use Rattle.async_step.specs.Prelude.{state_of, IsScanAt}
use Rattle.async_step.proofs.Turns.{scan_within, scan_is, scan_reads, scan_looks}
use Rattle.async_step.proofs.state.State.scan.Goals as goal

pub port-port-requires-clause-inside : goal.port-port-requires-clause-inside
port-port-requires-clause-inside g c κs within = scan_within c.args.net.now c.args.self.now c.args.block c.args.place
    c.args.is_read c.requires.over c.requires.scan

pub read_label-requires-clause-port : goal.read_label-requires-clause-port
read_label-requires-clause-port g c κs within = port-at c.args.net.now c.args.block c.args.place c.port-port.result
    c.port-port.ensures

pub look-requires-clause-port : goal.look-requires-clause-port
look-requires-clause-port g c κs within = port-at c.args.net.now c.args.block c.args.place c.port-port.result
    c.port-port.ensures

pub read_label-requires-clause-scan : goal.read_label-requires-clause-scan
read_label-requires-clause-scan g c κs within = scan_is _ _ _ _ c.requires.scan
    (scan_within _ _ _ _ _ c.requires.over c.requires.scan)

pub look-requires-clause-scan : goal.look-requires-clause-scan
look-requires-clause-scan g c κs within = scan_is _ _ _ _ c.requires.scan
    (scan_within _ _ _ _ _ c.requires.over c.requires.scan)

pub returns-then-is_read : goal.returns-then-is_read
returns-then-is_read g c =
    scan_reads _ _ _ _ _ _ _ _ _
    (subst (λ (t : Bool). IsScanAt c.args.place t ((state_of c.args.self.now).operation c.args.block))
    c.if-is_read.true c.requires.scan)
    c.port-port.ensures c.read_label.ensures

pub returns-else-is_read : goal.returns-else-is_read
returns-else-is_read g c = grind (arith, common_steps, scan_looks)
