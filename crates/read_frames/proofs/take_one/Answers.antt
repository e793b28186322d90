-- `read_frames::take_one` meets its contract: an LF, and any other character.
-- Assumes nothing.
use mathlib.Core.Path.{refl}
use native.Mathlib.Omega.{arith}
use Rattle.replayer.proofs.Written.{put_same}
use Rattle.read_frames.proofs.Lines.{told_text_lem, one-within}
use Rattle.read_frames.proofs.take_one.Goals as goal

pub put_message-requires : goal.put_message-requires
put_message-requires c =
    let message = c in
    (message.held_message-message.ensures.0, message.requires.1)

pub returns-then-character-eq-LINE_FEED : goal.returns-then-character-eq-LINE_FEED
returns-then-character-eq-LINE_FEED c =
    let put = c in
    let message = put in
    let feed = message.if-character-eq-LINE_FEED.true in (
      one-within _ _ _ _ _ _ message.held_message-message.ensures.0 put.put_message.ensures,
      λ come holds. record {
        ended = λ _. (
          refl,
          put_same (told_text_lem come (message.held_message-message.ensures.2 come holds)) put.put_message.ensures,
        );
        kept = λ other. absurd (other feed);
        holds = λ other. absurd (other feed);
      },
    )

pub returns : goal.returns
returns c =
    let buffered = c in
    let other = buffered.if-character-eq-LINE_FEED.false in (
      omega arith,
      λ come holds. record {
        ended = λ feed. absurd (other feed);
        kept = λ _. (refl, refl);
        holds = λ _. buffered.hold.ensures come holds;
      },
    )
