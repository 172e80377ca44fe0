-- The streams were made without triangles, and then got those of the roots.
use Rattle.std.proofs.Common.{◌∙◌, arith}
use Rattle.tpz_base.specs.Roots.{root_part}
use Rattle.tri_stream.specs.Streams.{told_list}
use Rattle.tri_stream.proofs.Changes.{live_as_before, same_size, told_bytes}
use Rattle.split_pass.proofs.Moving.{filled}
use Rattle.split_pass.proofs.Rooting.{live_is_other, made_live}
use Rattle.split_pass.proofs.root.root_streams.Goals as goal

pub send_all-requires-clause-whole : goal.send_all-requires-clause-whole
send_all-requires-clause-whole g c =
    let m = c.in_ok-ids.ensures.made in
    let other = live_is_other c.in_ok-ids.ids c.args.streams.now c.args.whole m.fresh c.requires.whole in
    live_as_before c.args.streams.now c.make_roots.new.streams c.args.whole ((m.others (g.B.Blob.held c.args.work.now) c.requires.stands).counts c.args.whole other) c.requires.whole

pub send_all-requires-clause-other : goal.send_all-requires-clause-other
send_all-requires-clause-other g c =
    live_is_other c.in_ok-ids.ids c.args.streams.now c.args.whole c.in_ok-ids.ensures.made.fresh c.requires.whole

pub send_all-requires-clause-live : goal.send_all-requires-clause-live
send_all-requires-clause-live g c = made_live c.in_ok-ids.ids c.args.streams.now c.make_roots.new.streams c.in_ok-ids.ensures.made

pub send_all-requires-clause-size : goal.send_all-requires-clause-size
send_all-requires-clause-size g c =
    let m = c.in_ok-ids.ensures.made in
    let other = live_is_other c.in_ok-ids.ids c.args.streams.now c.args.whole m.fresh c.requires.whole in
    let same = same_size c.args.streams.now c.make_roots.new.streams c.args.whole ((m.others (g.B.Blob.held c.args.work.now) c.requires.stands).counts c.args.whole other) in
    omega (arith, same, c.requires.size)

pub returns-clause-lists : goal.returns-clause-lists
returns-clause-lists g c =
    let held = g.B.Blob.held in
    let m = c.in_ok-ids.ensures.made in
    let s0 = c.args.streams.now in
    let s1 = c.make_roots.new.streams in
    let whole = c.args.whole in
    let other = live_is_other c.in_ok-ids.ids s0 whole m.fresh c.requires.whole in
    λ M was k x is.
    let told = told_bytes s0 whole (held c.args.work.now) M was in
    let list_1 = (m.others (held c.args.work.now) c.requires.stands).lists whole other ∙ was in
    filled s1 x (held c.args.work.now) M (root_part M k) (told_list c.send_all.new.streams (held c.send_all.new.work) x)
    (λ bytes e. m.empty bytes (c.requires.stands bytes e) k x is) (c.in_ok-send_all.ensures.lists M list_1 k x is) told.0 told.1

pub returns-clause-adds : goal.returns-clause-adds
returns-clause-adds g c =
    let held = g.B.Blob.held in
    let m = c.in_ok-ids.ensures.made in
    let s = c.in_ok-send_all.ensures in
    let others = m.others (held c.args.work.now) c.requires.stands in
    record {
      fresh = m.fresh;
      apart = m.apart;
      live = s.live;
      others = record {
        counts = λ x ne. s.others.counts x ne ∙ others.counts x ne;
        lists = λ x ne. s.others.lists x ne ∙ others.lists x ne;
      };
    }

pub returns-clause-total : goal.returns-clause-total
returns-clause-total g c =
    let m = c.in_ok-ids.ensures.made in
    let other = live_is_other c.in_ok-ids.ids c.args.streams.now c.args.whole m.fresh c.requires.whole in
    let same = same_size c.args.streams.now c.make_roots.new.streams c.args.whole ((m.others (g.B.Blob.held c.args.work.now) c.requires.stands).counts c.args.whole other) in
    let sent = c.in_ok-send_all.ensures.total in
    let made = m.total in
    omega arith
