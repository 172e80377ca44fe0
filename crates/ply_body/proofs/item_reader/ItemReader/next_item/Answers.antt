use Rattle.ply_body.proofs.item_reader.ItemReader.next_item.Goals as goal

pub returns-clause-refused : goal.returns-clause-refused
returns-clause-refused g c flaw is = rw (← c.self.view_is) (c.take_item.ensures.refused flaw is)
