-- `questions::source_octets` meets its contract: the octets are in front.
-- Assumes nothing.
use mathlib.Core.Path.{sym, ◌∙◌}
use native.Mathlib.Omega.{arith}
use Rattle.digits.proofs.Values.{octets_of-length}
use Rattle.digits.proofs.Writing.{octets-filled}
use Rattle.questions.proofs.Texts.{source_fits}
use Rattle.questions.proofs.source_octets.Goals as goal

pub returns : goal.returns
returns c =
    let text = c.args.text.now in (
      c.write_octets.ensures ∙ octets-filled text 32 0 (omega (arith, source_fits text c.requires)),
      sym (octets_of-length text),
    )
