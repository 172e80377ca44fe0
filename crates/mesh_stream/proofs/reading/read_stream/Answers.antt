use Rattle.std.proofs.Common.{◌*◌, length, refl, sym, ◌∙◌, ap, subst, arith, Some}
use Rattle.tpz_base.specs.Cubes.{low_of}
use Rattle.ply_body.proofs.CubeRows.{frame_spots}
use Rattle.run_status.specs.Statuses.{IsRefused}
use Rattle.mesh_stream.proofs.Filling.{source_held, source_of}
use Rattle.tri_stream.proofs.Changes.{untold_before}
use Rattle.mesh_stream.proofs.ReadLemmas.{same_status, all_read, refused_by, low_small, some_same, told_later}
use Rattle.mesh_stream.proofs.reading.read_stream.Goals as goal

pub stream_tris-requires-clause-frame : goal.stream_tris-requires-clause-frame
stream_tris-requires-clause-frame g c = c.in-Ok.ensures.opened.kept

pub stream_tris-requires-clause-fresh : goal.stream_tris-requires-clause-fresh
stream_tris-requires-clause-fresh g c = let o = c.in-Ok.ensures.opened in (o.opened, o.given, o.dropped)

pub stream_tris-requires-clause-points : goal.stream_tris-requires-clause-points
stream_tris-requires-clause-points g c = λ bytes told.
    let o = c.in-Ok.ensures.opened in
    (low_of o.rows, o.rows, frame_spots c.in-Ok.opened.frame o.rows o.framed, o.points bytes told)

pub stream_tris-requires-clause-end : goal.stream_tris-requires-clause-end
stream_tris-requires-clause-end g c = let o = c.in-Ok.ensures.opened in o.framed.end ∙ ap (λ n. 12 * n) (sym o.framed.vertices)

pub returns-in-Err-stream_tris-clause-refused : goal.returns-in-Err-stream_tris-clause-refused
returns-in-Err-stream_tris-clause-refused g c = λ status is refused bytes told.
    let same = same_status _ status _ is refl in
    refused_by c.args.digits _ _ _ bytes _ _ _ c.in-Ok.ensures.opened told c.in-Err-stream_tris.status status
    (c.in-Err-stream_tris.ensures.refused c.in-Err-stream_tris.status refl (subst (λ s. IsRefused s) same refused)) same

pub returns-in-Err-stream_tris-clause-damage : goal.returns-in-Err-stream_tris-clause-damage
returns-in-Err-stream_tris-clause-damage g c = λ status is offset damaged.
    untold_before _ _ c.open_input.ensures.telling
    (c.in-Err-stream_tris.ensures.damage c.in-Err-stream_tris.status refl offset (sym (same_status _ status _ is refl) ∙ damaged))

pub stream_tris-requires-clause-stands : goal.stream_tris-requires-clause-stands
stream_tris-requires-clause-stands g c = λ bytes told. c.make.ensures.stands bytes (c.new-streams.ensures.stands bytes)

pub returns-clause-stream : goal.returns-clause-stream
returns-clause-stream g c = λ bytes told held keeps rows faces means.
    let t = c.in-Ok-stream_tris.ensures.tris in
    let (later, kept) = told_later _ _ held c.open_input.ensures.telling keeps in
    let (last, ends) = told_later _ _ later c.stream_tris.ensures.telling kept in
    let read = all_read c.args.digits _ _ _ _ bytes later _ _ _ _ _ rows faces c.in-Ok.ensures.opened told kept refl t.1 means in
    let source = source_of c.in_ok-whole.whole t.0 c.in-Ok.opened.frame.l c.new-streams.result c.make.new.self c.stream_tris.new.streams _ _
    c.new-streams.ensures.none (c.make.ensures.l ∙ c.new-streams.ensures.l) c.in_ok-whole.ensures.count c.in_ok-whole.ensures.list c.in_ok-whole.ensures.others
    c.new-streams.ensures.stands t.2 in
    record {
      l = read.l;
      digits = read.scaled;
      low = read.low;
      list = source.list last ends ∙ ap Some read.whole;
      tris = some_same (sym c.count.ensures.value ∙ source.count) ∙ ap length read.whole;
      dropped = c.dropped.ensures ∙ read.lost;
    }

pub returns-clause-small : goal.returns-clause-small
returns-clause-small g c =
    let t = c.in-Ok-stream_tris.ensures.tris in
    let frame = c.in-Ok.opened.frame in
    let source = source_of c.in_ok-whole.whole t.0 frame.l c.new-streams.result c.make.new.self c.stream_tris.new.streams _ _
    c.new-streams.ensures.none (c.make.ensures.l ∙ c.new-streams.ensures.l) c.in_ok-whole.ensures.count c.in_ok-whole.ensures.list c.in_ok-whole.ensures.others
    c.new-streams.ensures.stands t.2 in
    let tris = some_same (sym c.count.ensures.value ∙ source.count) in
    let more = t.2.total in
    let none = c.make.ensures.total ∙ c.new-streams.ensures.total in
    let level = c.in-Ok.ensures.small.level in
    let few = t.3 in
    let lost = c.dropped.ensures in
    record {
      level = level;
      l = source.level;
      low = low_small frame.low c.in-Ok.ensures.small.low;
      count = c.count.ensures.value;
      total = omega (arith, more, none, tris);
      only = source.only;
      stands = source.stands;
      few = omega (arith, few, tris, lost);
      digits = c.in-Ok.ensures.digits;
      held = source_held frame.l t.0 c.stream_tris.new.streams c.in_ok-whole.whole _ source.list t.4;
    }
