use Rattle.cut_export.proofs.NumberLemmas.{numbering_push}
use Rattle.cut_export.proofs.numbering.Numbered.add.Goals as goal

pub returns-clause-mesh : goal.returns-clause-mesh
returns-clause-mesh c =
    (numbering_push _ _ _ _ _ _ c.requires c.in_ok-a.ensures.keys c.in_ok-a.ensures.number c.in_ok-b.ensures.keys c.in_ok-b.ensures.number
    c.in_ok-c.ensures.keys c.in_ok-c.ensures.number c.in_ok-push.ensures.items).0

pub returns-clause-numbering : goal.returns-clause-numbering
returns-clause-numbering c =
    (numbering_push _ _ _ _ _ _ c.requires c.in_ok-a.ensures.keys c.in_ok-a.ensures.number c.in_ok-b.ensures.keys c.in_ok-b.ensures.number
    c.in_ok-c.ensures.keys c.in_ok-c.ensures.number c.in_ok-push.ensures.items).1
