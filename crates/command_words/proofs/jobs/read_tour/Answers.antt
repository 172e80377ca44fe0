-- Words that aren't options of a tour.
use Rattle.std.proofs.Common.{sym, ap, Err}
use Rattle.command_words.proofs.JobRanges.{no_job}
use Rattle.command_words.specs.Words.{tour}
use Rattle.command_words.proofs.jobs.read_tour.Goals as goal

pub returns-in_err-matches-clause-usage : goal.returns-in_err-matches-clause-usage
returns-in_err-matches-clause-usage c = λ is.
    let fault = rw is at c.from_residual.ensures in
    no_job tour _ (λ gs e. c.in_err-matches.ensures.usage (ap Err (sym fault.1)) gs e)
