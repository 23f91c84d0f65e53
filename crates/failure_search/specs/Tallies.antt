-- What the answers of the search with the failure oracle mean.
--
--   counted_read_of r  how a window was read, and the failure arrows taken in it
--   failure_tally_of R what a search counts
--
-- 02, 'Failure oracle'.
use Rattle.std.specs.Prelude.{length}
use Rattle.search.specs.Answers.{failed_at}
use Rattle.failure.specs.FailureSteps.{FailureReading, FailureSweep}
use Rattle.failure_search.specs.declared.CountedRead.{CountedRead}
use Rattle.failure_search.specs.declared.FailureTally.{FailureTally}

abbrev pub counted_read_of : FailureReading → CountedRead
counted_read_of r = record { how = failed_at r.failed; failures = r.failures }

abbrev pub failure_tally_of : FailureSweep → FailureTally
failure_tally_of R = record { count = length R.starts; letters = R.letters; failures = R.failures }
