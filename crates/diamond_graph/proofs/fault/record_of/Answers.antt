use Rattle.tetra_name.specs.Names.{point_of}
use Rattle.diamond_graph.proofs.FaultLaw.{record_found, record_missing}
use Rattle.diamond_graph.proofs.fault.record_of.Goals as goal

pub returns-in-Some : goal.returns-in-Some
returns-in-Some c =
    let e = c.in-Some.ensures.index in
    record_found c.args.records.now (point_of c.args.centre) c.in-Some.i _ c.requires.differ (rw (c.key.ensures, c.requires.keys) at e)

pub returns-in-None : goal.returns-in-None
returns-in-None c =
    let e = c.in-None.ensures.index in
    record_missing c.args.records.now (point_of c.args.centre) (rw (c.key.ensures, c.requires.keys) at e)
