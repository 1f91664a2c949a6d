-- The running score at the host's boundary (02 [6]): what a feeding entry leaves in the lent state and answers, the number received being its count, and what
-- closing answers. What lent numbers mean, and that a refusal leaves the very numbers given, is said in crate md_lent.
-- Assumes nothing.
use Rattle.std.specs.Prelude.{ℕ, List}
use Rattle.md_running_meaning.specs.Feeding.{feed_line}
use Rattle.md_running_meaning.specs.Chunk.{feed_chunk}
use Rattle.md_running_meaning.specs.Closing.{close_line}
use Rattle.md_lent_meaning.specs.declared.HostRunning.{HostRunning}
use Rattle.md_lent_meaning.specs.declared.LentFed.{LentFed}
use Rattle.md_lent_meaning.specs.Lent.{running_of, fed_lent}
use Rattle.host.specs.declared.HostFed.{HostFed}
use Rattle.host.specs.declared.HostScore.{HostScore}
use Rattle.host.specs.Host.{host_counted, host_score}

unfoldable pub host_fed : LentFed → HostFed
host_fed f = record { state = f.state; answer = host_counted f.answer }

-- one character
unfoldable pub fed_host : HostRunning → ℕ → List ℕ → List ℕ → HostFed
fed_host h point classes pairs = host_fed (fed_lent h (feed_line (running_of h) point classes pairs))

-- a chunk
unfoldable pub chunk_host : HostRunning → List ℕ → List ℕ → List ℕ → HostFed
chunk_host h text classes pairs = host_fed (fed_lent h (feed_chunk (running_of h) text classes pairs))

-- the end
unfoldable pub closed_host : HostRunning → HostScore
closed_host h = host_score (close_line (running_of h))
