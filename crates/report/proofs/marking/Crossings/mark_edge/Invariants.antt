use Rattle.plane.specs.Models.{edge_of}
use Rattle.table.specs.Tables.{records_of}
use Rattle.report.proofs.Coming.{Crossed}
use Rattle.report.proofs.marking.Crossings.mark_edge.Given as goal

abbrev pub invariant-loop-other : goal.invariant-loop-other
invariant-loop-other l = Crossed l.self.radius.current l.index (edge_of l.edge) l.self.edges.now l.other-index (records_of l.initial.table) (records_of l.table) l.is_rounded
