-- The record that is replaced keeps its centre, so the index stays right.
use Rattle.std.proofs.Common.{◌≡◌, refl, ◌∙◌, sym, slice_get, Some}
use Rattle.diamond_graph.specs.declared.record.Record.{Record}
use Rattle.diamond_graph.specs.Graphs.{with_errors, IsRecord}
use Rattle.diamond_graph.proofs.FaultLaw.{asked_of, set_state, set_graph, set_centres}
use Rattle.diamond_graph.proofs.graph.Graph.set_record.Goals as goal
use Rattle.diamond_graph.proofs.graph.Graph.set_record.Goals.{After-index}

asked : (c : After-index) → (slice_get c.self.inside.records.items c.args.i ≡ Some c.index.result.now) × IsRecord c.self.inside.l (with_errors c.index.result.now c.args.own c.args.err c.args.cell)
asked c =
    asked_of (record { l = c.self.inside.l; records = c.self.inside.records.items; tests = c.self.inside.tests }) c.args.self.now c.args.i c.index.result.now
    (λ l r. IsRecord l (with_errors r c.args.own c.args.err c.args.cell)) c.self.view_is c.requires.place c.index.ensures c.requires.right

pub invariant_of-self : goal.invariant_of-self
invariant_of-self c =
    let a = asked (goal.at.invariant_of-self c).After-index in
    let q : Record = with_errors c.index.result.now c.args.own c.args.err c.args.cell in (
      set_graph c.self.inside.l c.self.inside.tests c.self.inside.tests c.self.inside.records.items c.args.i c.index.result.now q c.self.invariant.0 a.0 refl a.1,
      c.self.invariant.1 ∙ sym (set_centres c.self.inside.records.items c.args.i c.index.result.now q a.0 refl),
    )

pub returns : goal.returns
returns c =
    set_state (record { l = c.self.inside.l; records = c.self.inside.records.items; tests = c.self.inside.tests }) c.args.self.now c.args.i c.args.own c.args.err c.args.cell c.index.result.now
    c.self.view_is (asked (goal.at.returns c).After-index).0
