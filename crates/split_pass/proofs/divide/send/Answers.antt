-- The child that the triangle goes to gets it, and the other one stays.
use Rattle.std.proofs.Common.{◌≡◌, ◌∷◌, [], ◌∙◌, sym}
use Rattle.std.proofs.lemmas.Result.{on_ok_weaker}
use Rattle.tetra_name.specs.Names.{tetrahedron_of}
use Rattle.assign.specs.Paths.{side_of}
use Rattle.tri_stream.specs.Streams.{told_list}
use Rattle.split_pass.specs.Crowds.{first_part, second_part}
use Rattle.split_pass.proofs.Dividing.{at_some, beyond, first_has, first_lacks, not_beyond, nothing_more, second_has, second_lacks}
use Rattle.split_pass.proofs.divide.send.Goals as goal
use Rattle.split_pass.proofs.divide.send.Goals.{then-side-eq0, else-side-eq0}

pub returns-clause-first : goal.returns-clause-first
returns-clause-first g c =
    let t = c.args.t in
    let before = g.B.Blob.held c.args.work.now in
    let now = g.B.Blob.held c.append.new.blob in
    let old = told_list c.args.streams.now before c.args.halves.first in
    elim c.if-side-eq0.branch [
      | then-side-eq0 w ↦
          on_ok_weaker c.append.result
          (λ said. λ T is.
          let side = at_some (tetrahedron_of c.args.plane.now.l c.args.plane.now.name) (λ T. c.side.result ≡ side_of t T) T c.side.ensures.side is in
          let all = first_has t T (not_beyond t T c.side.result side w.if-side-eq0.true) in
          rw (all, ← w.id-is) said) c.append.ensures.list
      | else-side-eq0 w ↦
          on_ok_weaker c.append.result
          (λ said. λ T is.
          let side = at_some (tetrahedron_of c.args.plane.now.l c.args.plane.now.name) (λ T. c.side.result ≡ side_of t T) T c.side.ensures.side is in
          let none = first_lacks t T (beyond t T c.side.result side w.if-side-eq0.false) in
          said.lists c.args.halves.first (λ same. c.requires.apart (same ∙ w.id-is)) ∙ sym (nothing_more old (first_part T (t ∷ [])) none)) c.append.ensures.others
    ]

pub returns-clause-second : goal.returns-clause-second
returns-clause-second g c =
    let t = c.args.t in
    let before = g.B.Blob.held c.args.work.now in
    let now = g.B.Blob.held c.append.new.blob in
    let old = told_list c.args.streams.now before c.args.halves.second in
    elim c.if-side-eq0.branch [
      | then-side-eq0 w ↦
          on_ok_weaker c.append.result
          (λ said. λ T is.
          let side = at_some (tetrahedron_of c.args.plane.now.l c.args.plane.now.name) (λ T. c.side.result ≡ side_of t T) T c.side.ensures.side is in
          let none = second_lacks t T (not_beyond t T c.side.result side w.if-side-eq0.true) in
          said.lists c.args.halves.second (λ same. c.requires.apart (sym (same ∙ w.id-is))) ∙ sym (nothing_more old (second_part T (t ∷ [])) none))
          c.append.ensures.others
      | else-side-eq0 w ↦
          on_ok_weaker c.append.result
          (λ said. λ T is.
          let side = at_some (tetrahedron_of c.args.plane.now.l c.args.plane.now.name) (λ T. c.side.result ≡ side_of t T) T c.side.ensures.side is in
          let all = second_has t T (beyond t T c.side.result side w.if-side-eq0.false) in
          rw (all, ← w.id-is) said) c.append.ensures.list
    ]
