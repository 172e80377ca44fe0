use Rattle.std.proofs.Common.{◌≡◌, ◌∙◌, inr, ◌+◌, ◌∷◌, ◌++◌, [], refl, ap, Ok, Some}
use Rattle.ply_body.specs.declared.fault.BodyFault.TheVariants.{InputFault, WorkFault, WorkDamage}
use Rattle.ply_body.specs.declared.faces.Faces.TheInside.{Inside}
use Rattle.ply_body.specs.Reader.{reading_of}
use Rattle.ply_body.proofs.Opening.{failed_damage, failed_input, failed_refused, failed_work, ready_of, walked}
use Rattle.ply_body.proofs.faces.Faces.next_tri.Goals as goal

pub returns-in-Err-clause-few : goal.returns-in-Err-clause-few
returns-in-Err-clause-few g c =
    let ready = ready_of c.self.inside c.args.self.now c.args.frame.now c.self.view_is c.self.invariant c.requires.frame c.in_default.is in
    c.in-Err.ensures.few c.self.inside.given ready.counted

pub invariant_of-self-in-Err : goal.invariant_of-self-in-Err
invariant_of-self-in-Err g c =
    let it = c.self.invariant in
    let ready = ready_of c.self.inside c.args.self.now c.args.frame.now c.self.view_is it c.requires.frame c.in_default.is in
    let same = c.in-Err.ensures.elements in
    let same' = c.in-Err.ensures.vertices in
    record {
      digits_few = it.digits_few;
      small = rw same it.small;
      laid_out = rw same it.laid_out;
      vertices_are = rw (same, same') it.vertices_are;
      vertices_few = rw same' it.vertices_few;
      counts_few = c.in-Err.ensures.few c.self.inside.given ready.counted;
      fresh = λ _ none. absurd (cc);
      ready = λ _ _ none. absurd (cc);
    }

pub returns-in-Ok-Some-clause-tri : goal.returns-in-Ok-Some-clause-tri
returns-in-Ok-Some-clause-tri g c = λ t is.
    let e = c.in-Ok-Some.ensures in
    let same : c.in-Ok-Some.tri ≡ t = cc in
    let it = e.tri t (ap Ok (c.in-Ok-Some.field-0-is ∙ ap Some same)) in
    let r = c.self.inside in
    let r' : Inside = record { walk = c.next_whole.new.self; digits = r.digits; frame = r.frame; refusal = r.refusal; given = r.given + 1 } in (
      it.0,
      it.1,
      rw (← c.self.view_is) (record {
        faces = walked r r' _ _ (it.0 ++ it.1 ∷ []) e.elements e.vertices refl it.2;
        dropped = it.3;
        given = refl;
      }),
      it.4,
    )

pub returns-in-Err-clause-refused : goal.returns-in-Err-clause-refused
returns-in-Err-clause-refused g c = λ f is refusal.
    let same : c.in-Err.fault ≡ f = cc in
    let failed = rw same at c.in-Err.ensures.failed in
    inr (rw (← c.self.view_is) (failed_refused failed refusal (reading_of c.self.inside).setting refl))

pub returns-in-Err-clause-input : goal.returns-in-Err-clause-input
returns-in-Err-clause-input g c = λ is.
    let same : c.in-Err.fault ≡ InputFault = cc in
    let failed = rw same at c.in-Err.ensures.failed in
    inr (failed_input failed (reading_of c.self.inside).setting refl)

pub returns-in-Err-clause-work : goal.returns-in-Err-clause-work
returns-in-Err-clause-work g c = λ is.
    let same : c.in-Err.fault ≡ WorkFault = cc in
    let failed = rw same at c.in-Err.ensures.failed in
    inr (failed_work failed (reading_of c.self.inside).setting refl)

pub returns-in-Err-clause-damage : goal.returns-in-Err-clause-damage
returns-in-Err-clause-damage g c = λ offset is.
    let same : c.in-Err.fault ≡ WorkDamage offset = cc in
    let failed = rw same at c.in-Err.ensures.failed in
    inr (failed_damage failed (reading_of c.self.inside).setting refl)
