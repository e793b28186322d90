-- `read_frames::tell_chunk` meets its contract: what was taken of the chunk is told.
-- Assumes nothing.
use mathlib.Core.Path.{refl, ◌∙◌}
use native.Mathlib.Omega.{arith}
use Rattle.read_frames.proofs.Lines.{told_start, told-next}
use Rattle.read_frames.proofs.tell_chunk.Goals as goal

pub loop-character-init : goal.loop-character-init
loop-character-init c = (
  c.requires.0,
  refl,
  omega arith,
  λ come holds. told_start come c.args.chunk.now _ _ _ holds,
)

pub loop-character-preserved : goal.loop-character-preserved
loop-character-preserved c =
    let inv = c.loop-character.invariant in
    let told = c.take_one-told in (
      told.auto.line ∙ inv.0,
      told.auto.out ∙ inv.1,
      omega (arith, inv.2, told.ensures.0),
      λ come holds.
          let before = inv.3 come holds in
          told-next _ _ c.loop-character-test.true come _ _ _ _ before told.result
          (omega (arith, inv.1, inv.2, c.loop-character-test.true, c.requires.1))
          (told.ensures.1 _ before.holds),
    )
