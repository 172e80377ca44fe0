-- Each triangle that is read goes to the stream of its root.
use Rattle.std.proofs.Common.{◌≡◌, ◌+◌, ◌∙◌, Some, None, arith, sym, ap}
use Rattle.std.proofs.lemmas.Grind.{common_steps}
use Rattle.std.specs.Prelude.{slice_get}
use Rattle.tpz_base.specs.Roots.{is_in_root}
use Rattle.tri_stream.specs.Streams.{told_list}
use Rattle.split_pass.proofs.Dividing.{all_gone, more_gone}
use Rattle.split_pass.proofs.root.send_all.Goals as goal

pub triangles-preserved : goal.triangles-preserved
triangles-preserved g c =
    let inv = c.triangles.invariant in
    let read = c.in_ok-t.ensures in
    let send = c.in_ok-send.ensures in
    let held = g.B.Blob.held in
    let old = told_list c.args.streams.now (held c.args.work.now) in
    let before = told_list c.triangles.streams (held c.triangles.work) in
    let during = told_list c.read.new.self (held c.read.new.blob) in
    let now = told_list c.send.new.streams (held c.send.new.work) in
    let whole = c.args.whole in
    let one : c.read.new.at.given ≡ c.triangles.at.given + 1 = grind (arith, common_steps) in
    let whole_list : before whole ≡ old whole = inv.others.lists whole c.requires.other in
    record {
      stream = read.stream ∙ inv.stream;
      given = grind (arith, common_steps);
      follows = send.cursors c.read.new.at read.cursor;
      lists = λ M was k x is.
          let here : slice_get M c.triangles.at.given ≡ Some c.in-Some.t = sym (read.next M (ap before inv.stream ∙ whole_list ∙ was)) ∙ c.in-Some.is in
          rw one (more_gone (is_in_root k) M c.triangles.at.given c.in-Some.t (old x) (during x) (now x) here
          (read.all.lists x ∙ inv.lists M was k x is) (send.lists k x is));
      live = send.live;
      others = record {
        counts = λ x ne. send.others.counts x ne ∙ read.all.counts x ∙ inv.others.counts x ne;
        lists = λ x ne. send.others.lists x ne ∙ read.all.lists x ∙ inv.others.lists x ne;
      };
      total = let a = send.total in let b = read.all.total in let d = inv.total in omega arith;
      stays = record {
        base = send.stays.base ∙ read.kept.base ∙ inv.stays.base;
        l = send.stays.l ∙ read.kept.l ∙ inv.stays.l;
        stands = send.stays.stands;
      };
      later = let a = c.send.ensures.later in let b = read.later in let d = inv.later in omega arith;
      telling = c.send.ensures.telling ∙ read.kept.front.same_telling ∙ inv.telling;
    }

pub returns-clause-lists : goal.returns-clause-lists
returns-clause-lists g c =
    let inv = c.triangles.invariant in
    let read = c.in_ok-t.ensures in
    let held = g.B.Blob.held in
    let old = told_list c.args.streams.now (held c.args.work.now) in
    let before = told_list c.triangles.streams (held c.triangles.work) in
    let now = told_list c.read.new.self (held c.read.new.blob) in
    λ M was k x is.
    let whole_list = inv.others.lists c.args.whole c.requires.other in
    let none : slice_get M c.triangles.at.given ≡ None = sym (read.next M (ap before inv.stream ∙ whole_list ∙ was)) ∙ c.in_default.is in
    all_gone (is_in_root k) M c.triangles.at.given (old x) (now x) none (read.all.lists x ∙ inv.lists M was k x is)
