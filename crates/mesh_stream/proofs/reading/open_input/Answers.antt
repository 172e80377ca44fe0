use Rattle.std.specs.Option.{unwrap_or}
use Rattle.std.proofs.Common.{refl, sym, ◌∙◌, ap, subst, Err}
use Rattle.ply_body.specs.Inputs.{InHead, InBody}
use Rattle.run_status.specs.Statuses.{IsRefused}
use Rattle.mesh_stream.specs.Digits.{digits_by}
use Rattle.mesh_stream.proofs.ReadLemmas.{head_told, same_status, refusal_of_head, refusal_of_body, damage_of_body, input_by, opened_means}
use Rattle.mesh_stream.proofs.reading.open_input.Goals as goal

pub returns-in-Err-clause-refused : goal.returns-in-Err-clause-refused
returns-in-Err-clause-refused g c = λ status is refused bytes told.
    let f = c.in-Err.fault in
    let same = same_status _ status _ is c.status_of_head.ensures in
    let refusal = refusal_of_head f (subst (λ s. IsRefused s) same refused) in
    (InHead f, head_told c.args.digits bytes f (c.in-Err.ensures.refused f refl refusal bytes told), same)

pub returns-in-Err-load_points-clause-refused : goal.returns-in-Err-load_points-clause-refused
returns-in-Err-load_points-clause-refused g c = λ status is refused bytes told.
    let f = c.in-Err-load_points.fault in
    let same = same_status _ status _ is c.status_of_body.ensures in
    let refusal = refusal_of_body f (subst (λ s. IsRefused s) same refused) in (
      InBody f,
      input_by c.args.digits c.in-Ok.head _ _ _ _ bytes _ c.in-Ok.ensures.read (c.unwrap_or-digits.ensures ∙ ap (unwrap_or c.args.digits) c.default_digits.ensures) c.in_ok-faces.ensures told
          (c.in-Err-load_points.ensures.refused f refl refusal),
      same,
    )

pub returns-in-Err-load_points-clause-damage : goal.returns-in-Err-load_points-clause-damage
returns-in-Err-load_points-clause-damage g c = λ status is offset damaged.
    let same = same_status _ status _ is c.status_of_body.ensures in
    c.in-Err-load_points.ensures.damage offset (ap Err (damage_of_body c.in-Err-load_points.fault offset (sym same ∙ damaged)))

pub returns-in-Ok-load_points-clause-opened : goal.returns-in-Ok-load_points-clause-opened
returns-in-Ok-load_points-clause-opened g c =
    let read = c.in-Ok-load_points.ensures.rows in
    let scaled = c.unwrap_or-digits.ensures ∙ ap (unwrap_or c.args.digits) c.default_digits.ensures in
    record {
      rows = read.0;
      framed = read.1;
      points = read.3;
      kept = c.in-Ok-load_points.ensures.frame;
      opened = c.in-Ok-load_points.ensures.opened.0;
      given = c.in-Ok-load_points.ensures.opened.1;
      dropped = c.in-Ok-load_points.ensures.opened.2;
      digits = λ bytes told. scaled ∙ sym (ap (digits_by c.args.digits) (c.in-Ok.ensures.read.1.heading bytes told));
      means = λ bytes told. opened_means c.args.digits c.in-Ok.head _ _ _ _ bytes _ read.0 c.in-Ok.ensures.read scaled c.in_ok-faces.ensures told read.2;
    }
