-- What was read stands before what was there.
use Rattle.std.proofs.Common.{◌≡◌, length, take, drop, ap, ◌∙◌}
use Rattle.std.proofs.lemmas.List.{length-take-le, take_at}
use Rattle.std.proofs.lemmas.Result.{on_ok_weaker}
use Rattle.tri_stream.specs.Blocks.{Bytes}
use Rattle.tri_stream.proofs.buffer.fill.Goals as goal

pub returns-clause-bytes : goal.returns-clause-bytes
returns-clause-bytes g c =
    let n = c.args.len in
    let was : length (take n c.args.into.now) ≡ n = length-take-le n c.args.into.now c.requires.room in
    let front = take_at c.read_at.new.into (drop n c.args.into.now) n (c.read_at.auto.into ∙ was) in
    on_ok_weaker c.read_at.result (λ reads. λ x is. front ∙ reads x is ∙ ap (λ m. let y : Bytes = take m (drop c.args.at x) in y) was) c.read_at.ensures.bytes
