-- A view, or a part.
use Rattle.std.proofs.Common.{rules, w64, ◌≡◌, ◌^◌, ℕ, ◌+◌, ◌≤◌, List, [], length, Bool, true, ap, refl, sym, ◌∙◌, subst, Option, Some, None}
use mir.Val.{SFits, of_z, to_z}
use Rattle.std.proofs.lemmas.Int.{to_z-of_z}
use Rattle.std.specs.Prelude.{ℤ, ◌&&◌, nat_lt, Contains}
use Rattle.std.proofs.lemmas.Bool.{and_parts}
use Rattle.tpz_io.specs.Writes.{Wrote}
use Rattle.script_text.specs.declared.line.Line.{Line}
use Rattle.script_text.specs.declared.line.Line.TheVariants.{Look}
use Rattle.script_text.specs.Commands.{is_in_bounds, is_near}
use Rattle.patch_file.specs.declared.shape.Params.{Params}
use Rattle.patch_file.proofs.AskingLaw.{asked_none}
use Rattle.command_replay.specs.Plays.{asks, shows, step, view_at}
use Rattle.cut_blocks.specs.WrongBlocks.{first_wrong}
use Rattle.command_replay.specs.Playing.{IsPlaying}
use Rattle.cut_blocks.specs.Shown.{stored_in}
use Rattle.mesh_output.proofs.Exports.{nothing}
use Rattle.cut_blocks.proofs.OpenLaw.{found_wrong, no_wrong}
use Rattle.cut_blocks.proofs.ShownLaw.{asked_refused_at}
use Rattle.command_replay.proofs.PlayLaw.{looked_is, on_err, on_err_map, on_ok, open_kept, part_is, written_is}
use Rattle.command_replay.proofs.replay.play_line.Goals as goal

bounds_of : (x y z : ℤ) (tol : ℕ) → is_in_bounds (Look x y z tol) ≡ true → (is_near y ≡ true) × (is_near z ≡ true)
bounds_of x y z tol h =
    let xyz = (and_parts (is_near x && is_near y && is_near z) (nat_lt tol (2 ^ 32)) h).0 in
    let xy = and_parts (is_near x && is_near y) (is_near z) xyz in
    ((and_parts (is_near x) (is_near y) xy.0).1, xy.1)

pub view_of-view-requires-clause-y : goal.view_of-view-requires-clause-y
view_of-view-requires-clause-y g c =
    let f : SFits w64 c.in-Look.y = search rules in
    let b = bounds_of c.in-Look.x c.in-Look.y c.in-Look.z c.in-Look.tol (subst (λ (l : Line). is_in_bounds l ≡ true) c.in-Look.is c.requires.bounds) in
    subst (λ z. is_near z ≡ true) (sym (to_z-of_z w64 c.in-Look.y f)) b.0

pub view_of-view-requires-clause-z : goal.view_of-view-requires-clause-z
view_of-view-requires-clause-z g c =
    let f : SFits w64 c.in-Look.z = search rules in
    let b = bounds_of c.in-Look.x c.in-Look.y c.in-Look.z c.in-Look.tol (subst (λ (l : Line). is_in_bounds l ≡ true) c.in-Look.is c.requires.bounds) in
    subst (λ z. is_near z ≡ true) (sym (to_z-of_z w64 c.in-Look.z f)) b.1

-- ---- a view

pub returns-in_err-look-in-Look-clause-ready : goal.returns-in_err-look-in-Look-clause-ready
returns-in_err-look-in-Look-clause-ready g c = record {
  reader_of = open_kept _ c.args.reader.now c.args.player.now.graph c.look.new.graph c.look.ensures.l c.look.ensures.records c.requires.ready.reader_of;
  params = c.requires.ready.params;
  base = c.requires.ready.base;
  set = c.look.ensures.set;
  saturated = c.look.ensures.saturated;
}

pub returns-in_err-look-in-Look-clause-err : goal.returns-in_err-look-in-Look-clause-err
returns-in_err-look-in-Look-clause-err g c = on_err _ c.from_residual.result (nothing _ _ _ _ refl refl)

pub returns-in_err-look-in-Look-clause-asked : goal.returns-in_err-look-in-Look-clause-asked
returns-in_err-look-in-Look-clause-asked g c = (
  0,
  asked_refused_at c.args.tries 0 0 _ c.from_residual.result _ _ _ _ _ _ c.from_residual.ensures zero_most (asked_none _ _ _ _),
  λ bs told p playing. ap (λ (l : Line). length (asks (stored_in c.args.reader.now bs) p l)) (sym c.in-Look.is),
)
  where
    zero_most : 0 ≤ 0
    zero_most = omega Rattle.std.proofs.Common.arith

pub returns-in_ok-look-in-Look-clause-ready : goal.returns-in_ok-look-in-Look-clause-ready
returns-in_ok-look-in-Look-clause-ready g c = record {
  reader_of = open_kept _ c.args.reader.now c.args.player.now.graph c.look.new.graph c.look.ensures.l c.look.ensures.records c.requires.ready.reader_of;
  params = c.requires.ready.params;
  base = c.requires.ready.base;
  set = c.look.ensures.set;
  saturated = c.look.ensures.saturated;
}

pub returns-in_ok-look-in-Look-clause-step : goal.returns-in_ok-look-in-Look-clause-step
returns-in_ok-look-in-Look-clause-step g c = λ bs told p playing.
    let fx : SFits w64 c.in-Look.x = search rules in
    let fy : SFits w64 c.in-Look.y = search rules in
    let fz : SFits w64 c.in-Look.z = search rules in
    let low = c.args.reader.now.params.low in
    let seen = c.view_of-view.ensures.view ∙ ap (λ (q : Params). view_at q.low (to_z w64 (of_z w64 c.in-Look.x)) (to_z w64 (of_z w64 c.in-Look.y)) (to_z w64 (of_z w64 c.in-Look.z)) c.in-Look.tol) c.params.ensures
    ∙ ap (λ a. view_at low a (to_z w64 (of_z w64 c.in-Look.y)) (to_z w64 (of_z w64 c.in-Look.z)) c.in-Look.tol) (to_z-of_z w64 c.in-Look.x fx)
    ∙ ap (λ a. view_at low c.in-Look.x a (to_z w64 (of_z w64 c.in-Look.z)) c.in-Look.tol) (to_z-of_z w64 c.in-Look.y fy)
    ∙ ap (λ a. view_at low c.in-Look.x c.in-Look.y a c.in-Look.tol) (to_z-of_z w64 c.in-Look.z fz) in
    subst (λ (l : Line). IsPlaying (stored_in c.args.reader.now bs) (step (stored_in c.args.reader.now bs) p (Some l)) (record { graph = c.look.new.graph; front = c.look.new.self; reads = c.args.player.now.reads; parts = c.args.player.now.parts })) (sym c.in-Look.is)
    (looked_is _ c.args.reader.now bs told c.args.player.now.graph c.requires.ready.reader_of p c.args.player.now c.look.new.self c.look.new.graph c.in-Look.x c.in-Look.y c.in-Look.z c.in-Look.tol
    c.view_of-view.result refl playing seen
    c.in_ok-look-in-Look.ensures.places c.in_ok-look-in-Look.ensures.tests)

pub returns-in_ok-look-in-Look-clause-wrote : goal.returns-in_ok-look-in-Look-clause-wrote
returns-in_ok-look-in-Look-clause-wrote g c = λ bs told p playing.
    subst (λ (l : Line). Wrote (shows (stored_in c.args.reader.now bs) p l) (g.O.Out.parts c.args.out.now) (g.O.Out.parts c.args.out.now) (g.O.Out.notes c.args.out.now) (g.O.Out.notes c.args.out.now))
    (sym c.in-Look.is) (nothing _ _ _ _ refl refl)

pub returns-in_ok-look-in-Look-clause-right : goal.returns-in_ok-look-in-Look-clause-right
returns-in_ok-look-in-Look-clause-right g c = λ bs told p playing.
    subst (λ (l : Line). first_wrong (stored_in c.args.reader.now bs).0 (asks (stored_in c.args.reader.now bs) p l) ≡ None) (sym c.in-Look.is) (no_wrong (stored_in c.args.reader.now bs).0)

pub returns-in_ok-look-in-Look-clause-asked : goal.returns-in_ok-look-in-Look-clause-asked
returns-in_ok-look-in-Look-clause-asked g c =
    (0, asked_none _ _ _ _, λ bs told p playing. ap (λ (l : Line). length (asks (stored_in c.args.reader.now bs) p l)) (sym c.in-Look.is))

-- ---- a part

pub returns-in-Write-clause-step : goal.returns-in-Write-clause-step
returns-in-Write-clause-step g c =
    on_ok _ _ c.write_cut.result (λ parts bs told p playing.
    subst (λ (l : Line). IsPlaying (stored_in c.args.reader.now bs) (step (stored_in c.args.reader.now bs) p (Some l)) c.write_cut.new.player) (sym c.in-Write.is)
    (written_is _ c.args.reader.now bs told c.args.player.now.graph c.requires.ready.reader_of p c.args.player.now c.write_cut.new.player playing c.write_cut.ensures.graph c.write_cut.ensures.front
    parts)) c.write_cut.ensures.parts

pub returns-in-Write-clause-wrote : goal.returns-in-Write-clause-wrote
returns-in-Write-clause-wrote g c =
    on_ok _ _ c.write_cut.result (λ part bs told p playing.
    subst (λ (l : Line). Wrote (shows (stored_in c.args.reader.now bs) p l) (g.O.Out.parts c.args.out.now) (g.O.Out.parts c.write_cut.new.out) (g.O.Out.notes c.args.out.now) (g.O.Out.notes c.write_cut.new.out))
    (sym c.in-Write.is)
    (part_is _ c.args.reader.now bs told c.args.player.now.graph c.requires.ready.reader_of p c.args.player.now _ _ _ _ refl playing (part bs told) c.write_cut.ensures.notes)) c.write_cut.ensures.part

pub returns-in-Write-clause-err : goal.returns-in-Write-clause-err
returns-in-Write-clause-err g c = on_err_map _ _ c.write_cut.result (λ same. nothing _ _ _ _ same c.write_cut.ensures.notes) c.write_cut.ensures.err

pub returns-in-Write-clause-right : goal.returns-in-Write-clause-right
returns-in-Write-clause-right g c =
    on_ok _ _ c.write_cut.result (λ right bs told p playing.
    subst (λ (l : Line). first_wrong (stored_in c.args.reader.now bs).0 (asks (stored_in c.args.reader.now bs) p l) ≡ None) (sym c.in-Write.is)
    (subst (λ xs. first_wrong (stored_in c.args.reader.now bs).0 xs ≡ None) playing.places (right bs told))) c.write_cut.ensures.right

pub returns-in-Write-clause-bad : goal.returns-in-Write-clause-bad
returns-in-Write-clause-bad g c = λ bad e.
    let r = c.write_cut.ensures.bad bad e in (
      r.0,
      r.1,
      r.2,
      λ bs told. found_wrong (stored_in c.args.reader.now bs).0 c.args.player.now.front r.0 r.1 (r.3 bs told),
      λ bs told p playing.
          subst (λ (l : Line). first_wrong (stored_in c.args.reader.now bs).0 (asks (stored_in c.args.reader.now bs) p l) ≡ Some (r.0, r.1)) (sym c.in-Write.is)
          (subst (λ xs. first_wrong (stored_in c.args.reader.now bs).0 xs ≡ Some (r.0, r.1)) playing.places (r.3 bs told)),
    )

pub returns-in-Write-clause-spent : goal.returns-in-Write-clause-spent
returns-in-Write-clause-spent g c = λ i e bs told p playing.
    subst (λ (l : Line). Contains (asks (stored_in c.args.reader.now bs) p l) i) (sym c.in-Write.is) (subst (λ xs. Contains xs i) playing.places (c.write_cut.ensures.spent i e))
