-- `questions::lent_room` meets its contract: each way is a law.
-- Assumes nothing.
use Rattle.questions.proofs.Texts.{lentRoom-laws}
use Rattle.questions.proofs.lent_room.Goals as goal

pub returns-then-room-lt-FRAME_OCTETS : goal.returns-then-room-lt-FRAME_OCTETS
returns-then-room-lt-FRAME_OCTETS c = search lentRoom-laws

pub returns : goal.returns
returns c = search lentRoom-laws
