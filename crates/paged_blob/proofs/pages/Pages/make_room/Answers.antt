-- The page that is given up has no byte ahead.
use Rattle.paged_blob.proofs.Overs.{given_up}
use Rattle.paged_blob.proofs.pages.Pages.make_room.Goals as goal

pub returns-clause-over : goal.returns-clause-over
returns-clause-over g c =
    given_up c.args.self.now c.settle.new.self c.vacate.new.self c.reach.new.self c.args.slot _ _ c.requires.slot c.vacate.ensures.places
    c.in_ok-settle.ensures.clean c.vacate.ensures.table c.reach.ensures.table c.reach.ensures.same c.settle.ensures.over
