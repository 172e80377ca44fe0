use Rattle.std.proofs.Common.{refl, sym, ◌∙◌, subst}
use Rattle.tpz_base.specs.Cubes.{low_of}
use Rattle.ply_body.proofs.CubeRows.{frame_spots}
use Rattle.run_status.specs.Statuses.{IsRefused}
use Rattle.tri_stream.proofs.Changes.{untold_before}
use Rattle.mesh_stream.proofs.ReadLemmas.{same_status, accepted_by, all_read, refused_by, low_small, told_later}
use Rattle.mesh_stream.proofs.reading.read_mesh.Goals as goal

pub read_tris-requires-clause-frame : goal.read_tris-requires-clause-frame
read_tris-requires-clause-frame g c = c.in-Ok.ensures.opened.kept

pub read_tris-requires-clause-fresh : goal.read_tris-requires-clause-fresh
read_tris-requires-clause-fresh g c = let o = c.in-Ok.ensures.opened in (o.opened, o.given, o.dropped)

pub read_tris-requires-clause-points : goal.read_tris-requires-clause-points
read_tris-requires-clause-points g c = λ bytes told.
    let o = c.in-Ok.ensures.opened in
    (low_of o.rows, o.rows, frame_spots c.in-Ok.opened.frame o.rows o.framed, o.points bytes told)

pub returns-in-Err-read_tris-clause-refused : goal.returns-in-Err-read_tris-clause-refused
returns-in-Err-read_tris-clause-refused g c = λ status is refused bytes told.
    let same = same_status _ status _ is refl in
    refused_by c.args.digits _ _ _ bytes _ _ _ c.in-Ok.ensures.opened told c.in-Err-read_tris.status status
    (c.in-Err-read_tris.ensures.refused c.in-Err-read_tris.status refl (subst (λ s. IsRefused s) same refused)) same

pub returns-in-Err-read_tris-clause-damage : goal.returns-in-Err-read_tris-clause-damage
returns-in-Err-read_tris-clause-damage g c = λ status is offset damaged.
    untold_before _ _ c.open_input.ensures.telling
    (c.in-Err-read_tris.ensures.damage c.in-Err-read_tris.status refl offset (sym (same_status _ status _ is refl) ∙ damaged))

pub returns-clause-mesh : goal.returns-clause-mesh
returns-clause-mesh g c = λ bytes told held keeps rows faces means.
    let (later, kept) = told_later _ _ held c.open_input.ensures.telling keeps in
    let read = all_read c.args.digits _ _ _ _ bytes later _ _ _ _ _ rows faces c.in-Ok.ensures.opened told kept c.read_tris.ensures.held c.in-Ok-read_tris.ensures.tris means in
    record { l = read.l; digits = read.scaled; low = read.low; tris = read.whole; dropped = c.dropped.ensures ∙ read.lost }

pub returns-clause-small : goal.returns-clause-small
returns-clause-small g c = record {
  level = c.in-Ok.ensures.small.level;
  end = c.in-Ok.ensures.small.end;
  low = low_small c.in-Ok.opened.frame.low c.in-Ok.ensures.small.low;
  plain = c.in-Ok-read_tris.ensures.plain;
  few = c.in-Ok-read_tris.ensures.few;
}

pub returns-clause-accepted : goal.returns-clause-accepted
returns-clause-accepted g c = λ _ bytes told.
    let o = c.in-Ok.ensures.opened in
    let tris = c.in-Ok-read_tris.ensures.tris in
    (record { rows = o.rows; faces = tris.faces }, accepted_by c.args.digits _ _ _ bytes _ _ _ o told tris.faces tris.all)
