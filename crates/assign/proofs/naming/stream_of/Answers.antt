-- The stream was made, and its name set.
use Rattle.std.proofs.Common.{◌∙◌, sym}
use Rattle.assign.proofs.NameTables.{named_now}
use Rattle.assign.proofs.naming.stream_of.Goals as goal

pub returns-clause-stream : goal.returns-clause-stream
returns-clause-stream c =
    let m = c.in_ok-id.ensures in
    rw c.in_ok-set.ensures.ok
    (named_now c.args.leaf c.in_ok-id.id c.args.leaves.now c.args.streams.now c.make.new.self (sym c.stream.ensures ∙ c.in_default.is)
    (record { fresh = m.fresh; count = m.count; list = m.list; others = m.others; total = m.total; base = m.base; l = m.l; stands = m.stands }))
