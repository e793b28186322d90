-- `frame::read_frame` meets its contract: flag and address are told where a code is.
-- Assumes nothing.
use mathlib.Core.Path.{◌≡◌, sym, ◌∙◌}
use Rattle.numbers.specs.Refusal.{accepted}
use Rattle.frame.specs.Read.{frame_number}
use Rattle.frame.proofs.ReadLaws.{frame_number-accepted, read_code_accepted}
use Rattle.frame.proofs.read_frame.Goals as goal

pub event_flag-event-requires : goal.event_flag-event-requires
event_flag-event-requires c =
    let accepts : frame_number c.args.frame.now ≡ accepted =
    read_code_accepted _ _ (sym c.read_code-read.ensures ∙ c.in-Code.is) in
    frame_number-accepted _ accepts

pub source_address-source-requires : goal.source_address-source-requires
source_address-source-requires c =
    let accepts : frame_number c.args.frame.now ≡ accepted =
    read_code_accepted _ _ (sym c.read_code-read.ensures ∙ c.in-Code.is) in
    frame_number-accepted _ accepts
