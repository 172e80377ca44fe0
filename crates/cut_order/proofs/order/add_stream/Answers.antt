-- Each triangle that is read is added.
use Rattle.std.proofs.Common.{◌≡◌, ◌+◌, ◌++◌, ◌∷◌, [], ◌∙◌, Some, None, arith, sym, ap, append_assoc}
use Rattle.std.proofs.lemmas.Grind.{common_steps}
use Rattle.std.specs.Prelude.{slice_get, take}
use Rattle.tpz_base.specs.Meshes.{Mesh}
use Rattle.tri_stream.specs.Streams.{told_list}
use Rattle.cut_export.specs.Numbering.{numbered_mesh}
use Rattle.cut_order.proofs.LeafOrder.{one_taken}
use Rattle.tri_stream.proofs.Changes.{all_taken}
use Rattle.cut_order.proofs.order.add_stream.Goals as goal

pub triangles-preserved : goal.triangles-preserved
triangles-preserved g c =
    let inv = c.triangles.invariant in
    let read = c.in_ok-t.ensures in
    let held = g.W.Blob.held in
    let before = told_list c.triangles.streams (held c.triangles.work) in
    let one : c.read.new.at.given ≡ c.triangles.at.given + 1 = grind (arith, common_steps) in
    record {
      stream = c.read.ensures.stream ∙ inv.stream;
      given = grind (arith, common_steps);
      follows = c.read.ensures.cursor;
      mesh = λ M was.
          let here : slice_get M c.triangles.at.given ≡ Some c.in-Some.t = sym (read.next M (ap before inv.stream ∙ inv.kept.lists c.args.id ∙ was)) ∙ c.in-Some.is in
          rw one (c.in_ok-add.ensures.mesh ∙ ap (λ (l : Mesh). l ++ c.in-Some.t ∷ []) (inv.mesh M was)
          ∙ append_assoc (numbered_mesh c.args.numbered.now) (take c.triangles.at.given M) (c.in-Some.t ∷ [])
          ∙ ap (λ (l : Mesh). numbered_mesh c.args.numbered.now ++ l) (sym (one_taken M c.triangles.at.given c.in-Some.t here)));
      numbering = c.in_ok-add.ensures.numbering;
      kept = record {
        counts = λ x. c.read.ensures.all.counts x ∙ inv.kept.counts x;
        lists = λ x. c.read.ensures.all.lists x ∙ inv.kept.lists x;
        stands = c.read.ensures.kept.stands;
      };
      later = let b = c.read.ensures.later in let d = inv.later in omega arith;
      telling = c.read.ensures.kept.front.same_telling ∙ inv.telling;
    }

pub returns-clause-mesh : goal.returns-clause-mesh
returns-clause-mesh g c =
    let inv = c.triangles.invariant in
    let read = c.in_ok-t.ensures in
    let before = told_list c.triangles.streams (g.W.Blob.held c.triangles.work) in
    λ M was.
    let none : slice_get M c.triangles.at.given ≡ None = sym (read.next M (ap before inv.stream ∙ inv.kept.lists c.args.id ∙ was)) ∙ c.in_default.is in
    inv.mesh M was ∙ ap (λ (l : Mesh). numbered_mesh c.args.numbered.now ++ l) (all_taken M c.triangles.at.given none)
