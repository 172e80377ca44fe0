-- Each triangle that is read goes to its child.
use Rattle.std.proofs.Common.{◌≡◌, ◌+◌, ◌∙◌, Some, None, arith, sym, ap}
use Rattle.std.proofs.lemmas.Grind.{common_steps}
use Rattle.std.specs.Prelude.{not, slice_get}
use Rattle.std.specs.Option.{unwrap_or}
use Rattle.tpz_base.specs.declared.shape.Tri.{Tri}
use Rattle.assign.specs.Paths.{is_beyond}
use Rattle.tetra_name.specs.Names.{tetrahedron_of}
use Rattle.tri_stream.specs.Streams.{told_list}
use Rattle.split_pass.proofs.Dividing.{all_gone, more_gone}
use Rattle.split_pass.proofs.divide.send_all.Goals as goal

pub send-requires-clause-few : goal.send-requires-clause-few
send-requires-clause-few g c =
    let same = c.in_ok-t.ensures.all.total in
    let all = c.triangles.invariant.total in
    let given = c.triangles.invariant.given in
    let size = c.requires.size in
    let few = c.requires.few in
    omega arith

pub triangles-preserved : goal.triangles-preserved
triangles-preserved g c =
    let inv = c.triangles.invariant in
    let read = c.in_ok-t.ensures in
    let send = c.in_ok-send.ensures in
    let held = g.B.Blob.held in
    let old = told_list c.args.streams.now (held c.args.work.now) in
    let before = told_list c.triangles.streams (held c.triangles.work) in
    let during = told_list c.read.new.self (held c.read.new.blob) in
    let now = told_list c.send.new.streams (held c.send.new.work) in
    let h = c.args.halves in
    let one : c.read.new.at.given ≡ c.triangles.at.given + 1 = grind (arith, common_steps) in
    let plane = ap (λ p. tetrahedron_of p.l p.name) c.of-plane.ensures in
    let id_list : before c.args.id ≡ old c.args.id = inv.others.lists c.args.id c.requires.apart_first c.requires.apart_second in
    record {
      stream = read.stream ∙ inv.stream;
      given = grind (arith, common_steps);
      follows = send.cursors c.read.new.at read.cursor;
      first = λ T is M was.
          let here : slice_get M c.triangles.at.given ≡ Some c.in-Some.t = sym (read.next M (ap before inv.stream ∙ id_list ∙ was)) ∙ c.in-Some.is in
          rw one (more_gone (λ (t : Tri). not (is_beyond t T)) M c.triangles.at.given c.in-Some.t (old h.first) (during h.first) (now h.first) here
          (read.all.lists h.first ∙ inv.first T is M was) (send.first T (plane ∙ is)));
      second = λ T is M was.
          let here : slice_get M c.triangles.at.given ≡ Some c.in-Some.t = sym (read.next M (ap before inv.stream ∙ id_list ∙ was)) ∙ c.in-Some.is in
          rw one (more_gone (λ (t : Tri). is_beyond t T) M c.triangles.at.given c.in-Some.t (old h.second) (during h.second) (now h.second) here
          (read.all.lists h.second ∙ inv.second T is M was) (send.second T (plane ∙ is)));
      live_first = send.live_first;
      live_second = send.live_second;
      sizes =
          let a = ap (λ o. unwrap_or o 0) (read.all.counts h.first) in
          let b = ap (λ o. unwrap_or o 0) (read.all.counts h.second) in
          let s = send.sizes in
          let t = inv.sizes in
          omega arith;
      others = record {
        counts = λ x a b. send.others.counts x a b ∙ read.all.counts x ∙ inv.others.counts x a b;
        lists = λ x a b. send.others.lists x a b ∙ read.all.lists x ∙ inv.others.lists x a b;
      };
      total = let a = send.total in let b = read.all.total in let d = inv.total in omega arith;
      stays = record {
        base = send.stays.base ∙ read.kept.base ∙ inv.stays.base;
        l = send.stays.l ∙ read.kept.l ∙ inv.stays.l;
        stands = send.stays.stands;
      };
      later = let a = c.send.ensures.later in let b = read.later in let d = inv.later in omega arith;
      telling = c.send.ensures.telling ∙ read.kept.front.same_telling ∙ inv.telling;
    }

pub returns-clause-first : goal.returns-clause-first
returns-clause-first g c =
    let inv = c.triangles.invariant in
    let read = c.in_ok-t.ensures in
    let held = g.B.Blob.held in
    let old = told_list c.args.streams.now (held c.args.work.now) in
    let before = told_list c.triangles.streams (held c.triangles.work) in
    let now = told_list c.read.new.self (held c.read.new.blob) in
    let h = c.args.halves in
    λ T is M was.
    let id_list = inv.others.lists c.args.id c.requires.apart_first c.requires.apart_second in
    let none : slice_get M c.triangles.at.given ≡ None = sym (read.next M (ap before inv.stream ∙ id_list ∙ was)) ∙ c.in_default.is in
    all_gone (λ (t : Tri). not (is_beyond t T)) M c.triangles.at.given (old h.first) (now h.first) none (read.all.lists h.first ∙ inv.first T is M was)

pub returns-clause-second : goal.returns-clause-second
returns-clause-second g c =
    let inv = c.triangles.invariant in
    let read = c.in_ok-t.ensures in
    let held = g.B.Blob.held in
    let old = told_list c.args.streams.now (held c.args.work.now) in
    let before = told_list c.triangles.streams (held c.triangles.work) in
    let now = told_list c.read.new.self (held c.read.new.blob) in
    let h = c.args.halves in
    λ T is M was.
    let id_list = inv.others.lists c.args.id c.requires.apart_first c.requires.apart_second in
    let none : slice_get M c.triangles.at.given ≡ None = sym (read.next M (ap before inv.stream ∙ id_list ∙ was)) ∙ c.in_default.is in
    all_gone (λ (t : Tri). is_beyond t T) M c.triangles.at.given (old h.second) (now h.second) none (read.all.lists h.second ∙ inv.second T is M was)
