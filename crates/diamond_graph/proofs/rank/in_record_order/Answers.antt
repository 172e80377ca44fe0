use Rattle.diamond_graph.proofs.RankLaw.{sorted_ranks}
use Rattle.diamond_graph.proofs.rank.in_record_order.Goals as goal

pub returns : goal.returns
returns c =
    sorted_ranks c.args.l c.args.points.now c.in_ok-ranked.ranked.items c.sort_unstable.new.self.items c.requires.differ c.in_ok-ranked.ensures
    c.sort_unstable.ensures.permutation c.sort_unstable.ensures.sorted
