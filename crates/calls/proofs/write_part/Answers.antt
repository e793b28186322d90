-- `calls::write_part` meets its contract: what it counts is what the call came to.
-- Assumes nothing.
use mathlib.Core.Path.{refl}
use native.Mathlib.Omega.{arith}
use Rattle.calls.proofs.CallsLaws.{moved-within, sum_is}
use Rattle.calls.proofs.write_part.Goals as goal

pub overflow_add-sent : goal.overflow_add-sent
overflow_add-sent c =
    omega (arith, c.requires.counted, c.octets_moved.ensures, moved-within _ _ _ c.outcome_of-outcome.ensures)

pub returns : goal.returns
returns c =
    record {
      outcome = _;
      came = record { answer = _; is = c.outcome_of-outcome.ensures };
      sent = sum_is _ _ _ _ refl c.octets_moved.ensures;
      ended = c.write_ending.ensures;
    }
