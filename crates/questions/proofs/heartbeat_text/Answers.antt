-- `questions::heartbeat_text` meets its contract: each way is a law.
-- Assumes nothing.
use Rattle.questions.proofs.Answering.{heartbeatText-laws}
use Rattle.questions.proofs.heartbeat_text.Goals as goal

pub returns-in-Information : goal.returns-in-Information
returns-in-Information c = search heartbeatText-laws

pub returns-in-Event : goal.returns-in-Event
returns-in-Event c = search heartbeatText-laws

pub returns-in-Nothing : goal.returns-in-Nothing
returns-in-Nothing c = search heartbeatText-laws

pub returns-in-Refused : goal.returns-in-Refused
returns-in-Refused c = search heartbeatText-laws
