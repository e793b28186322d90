-- `sender::send` meets its contract: each way is a law.
-- Assumes nothing.
use Rattle.sender.proofs.SenderLaws.{contentBy-laws}
use Rattle.sender.proofs.send.Goals as goal
use Rattle.sender.proofs.send.Goals.{in-Information, in-Event}

pub returns : goal.returns
returns c =
    elim c.match-heartbeat.branch [ in-Information w ↦ search contentBy-laws | in-Event w ↦ search contentBy-laws ]
