use Rattle.std.proofs.Common.{arith}
use Rattle.diamond_graph.proofs.FaultLaw.{index_more}
use Rattle.diamond_graph.proofs.graph.index.Goals as goal

pub records-preserved : goal.records-preserved
records-preserved c =
    index_more c.args.records.now c.records.centres.keys c.insert.new.self.keys c.records.r-index _ c.key.result c.requires (omega (arith, c.records-test.true))
    c.records.invariant c.key.ensures c.in_ok-insert.ensures.keys
