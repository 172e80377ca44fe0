-- The stream of the triangle's root gets it, and the five other ones stay.
use Rattle.std.proofs.lemmas.Result.{on_ok_weaker}
use Rattle.split_pass.proofs.Rooting.{on_ok_both, sent_list, sent_live, sent_others}
use Rattle.split_pass.proofs.root.send.Goals as goal

pub returns-clause-lists : goal.returns-clause-lists
returns-clause-lists g c =
    let held = g.B.Blob.held in
    on_ok_both c.append.result
    (sent_list c.args.ids c.root_of-slot.result c.stream_at-id.result c.args.t c.args.streams.now c.append.new.self (held c.args.work.now) (held c.append.new.blob)
    c.requires.apart c.stream_at-id.ensures c.root_of-slot.ensures.slot) c.append.ensures.list c.append.ensures.others

pub returns-clause-live : goal.returns-clause-live
returns-clause-live g c =
    let held = g.B.Blob.held in
    on_ok_weaker c.append.result
    (sent_live c.args.ids c.stream_at-id.result c.args.streams.now c.append.new.self (held c.args.work.now) (held c.append.new.blob) c.requires.live c.append.ensures.live)
    c.append.ensures.others

pub returns-clause-others : goal.returns-clause-others
returns-clause-others g c =
    let held = g.B.Blob.held in
    on_ok_weaker c.append.result
    (sent_others c.args.ids c.root_of-slot.result c.stream_at-id.result c.args.streams.now c.append.new.self (held c.args.work.now) (held c.append.new.blob)
    c.stream_at-id.ensures) c.append.ensures.others
