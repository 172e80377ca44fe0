use Rattle.std.proofs.Common.{◌≡◌, ◌<◌, ◌*◌, ℕ, length, drop, take, get_or, refl, sym, ◌∙◌, ap, subst, arith}
use Rattle.std.specs.Prelude.{pos}
use Rattle.std.specs.declared.option.Option.{Option}
use Rattle.std.specs.declared.option.Option.TheVariants.{None, Some}
use Rattle.tpz_base.specs.Cubes.{less, Row}
use Rattle.tpz_base.specs.Texts.{Bytes}
use Rattle.ply_body.specs.Bodies.{row_at as row_by}
use Rattle.ply_body.specs.Spots.{IsNear}
use Rattle.ply_body.proofs.CubeRows.{point_at_is}
use Rattle.ply_body.proofs.SpotRows.{fits_at, row_at, where_ok}
use Rattle.ply_body.proofs.spots.PointBuffer.read_point.Goals as goal

no_row : Row
no_row = row_by (pos 0) (pos 0) (pos 0)

none_where : (told : Option Bytes) → ((bytes : Bytes) → told ≡ Some bytes → ⊥) → told ≡ None
none_where None never = refl
none_where (Some bytes) never = absurd (never bytes refl)

pub read_at-requires : goal.read_at-requires
read_at-requires g c = λ bytes told.
    let (low, rows, is, held) = c.requires.points bytes told in
    let below : c.args.number < length rows = omega (arith, is.vertices, c.requires.number) in
    let fits = fits_at rows c.args.number bytes below held in
    omega (arith, fits, c.from-offset.ensures)

pub returns-in-Some-clause-point : goal.returns-in-Some-clause-point
returns-in-Some-clause-point g c = λ bytes told low rows is held.
    let below : c.args.number < length rows = omega (arith, is.vertices, c.requires.number) in
    let at : 12 * c.from-offset.result ≡ 12 * c.args.number = omega (arith, c.from-offset.ensures) in
    let read = where_ok _ c.read_at.result (sym c.if-is_err.ensures.value) c.read_at.ensures.bytes bytes told
    ∙ ap (λ (n : ℕ). take 12 (drop n bytes)) at ∙ row_at rows c.args.number bytes no_row below held in
    let same = c.spot_from.ensures (get_or rows c.args.number no_row) (is.small c.args.number no_row below) read in
    c.in-Some.ensures.point.point low is.least ∙ ap (less low) same ∙ sym (point_at_is low rows c.args.number no_row below)

pub returns-in-None-clause-damage : goal.returns-in-None-clause-damage
returns-in-None-clause-damage g c = λ offset same. none_where _ (λ bytes told.
    let (low, rows, is, held) = c.requires.points bytes told in
    let below : c.args.number < length rows = omega (arith, is.vertices, c.requires.number) in
    let at : 12 * c.from-offset.result ≡ 12 * c.args.number = omega (arith, c.from-offset.ensures) in
    let read = where_ok _ c.read_at.result (sym c.if-is_err.ensures.value) c.read_at.ensures.bytes bytes told
    ∙ ap (λ (n : ℕ). take 12 (drop n bytes)) at ∙ row_at rows c.args.number bytes no_row below held in
    let spot = c.spot_from.ensures (get_or rows c.args.number no_row) (is.small c.args.number no_row below) read in
    c.in-None.ensures.none low is.least (subst (λ (r : Row). IsNear c.args.frame.now.l low r) (sym spot) (is.near c.args.number no_row below)) refl)
