-- The write leaves the page in the blob, or nothing known in its range, which is held.
use Rattle.std.proofs.Common.{ap, subst, ◌∙◌}
use Rattle.std.proofs.lemmas.Result.{on_ok_weaker, on_err_weaker}
use Rattle.paged_blob.specs.Tables.{Table, HasPlaces}
use Rattle.paged_blob.proofs.Overs.{tore_at, went_at}
use Rattle.paged_blob.proofs.pages.Pages.hand_back.Goals as goal

pub returns-clause-over : goal.returns-clause-over
returns-clause-over g c =
    on_ok_weaker c.write_at.result
    (λ wrote. went_at c.args.self.now c.args.slot c.args.size c.begin_of-begin.result c.deref.result.now _ _ c.requires.slot
    (subst HasPlaces c.self.view_is c.self.invariant.0) c.requires.some c.requires.size c.begin_of-begin.ensures.begin
    (c.deref.ensures.value ∙ ap (λ (t : Table). t.room) c.self.view_is) c.requires.stands wrote)
    c.write_at.ensures.written

pub returns-clause-torn : goal.returns-clause-torn
returns-clause-torn g c =
    on_err_weaker c.write_at.result
    (λ torn. tore_at c.args.self.now c.args.slot c.args.size c.begin_of-begin.result c.deref.result.now _ _ c.requires.slot
    (subst HasPlaces c.self.view_is c.self.invariant.0) c.requires.some c.requires.size c.begin_of-begin.ensures.begin
    (c.deref.ensures.value ∙ ap (λ (t : Table). t.room) c.self.view_is) c.requires.stands torn)
    c.write_at.ensures.torn
