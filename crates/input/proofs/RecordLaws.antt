-- A kind is read back from the argument that sets it; a word counts as a code does. Assumes nothing.
use Prim.Native.Nat.{ℕ}
use mathlib.Core.Path.{◌≡◌, refl}
use Rattle.numbers.specs.declared.kind.InputKind.{InputKind}
use Rattle.numbers.specs.declared.kind.InputKind.TheVariants as N
use Rattle.numbers.specs.declared.quality.Quality.{Quality}
use Rattle.numbers.specs.Kind.{kind_argument, input_kind_of, kind_line_code, kind_word}
use Rattle.input.specs.declared.Heard.{Heard}
use Rattle.input.specs.Record.{heard_after}

pub kind_argument-back : (kind : InputKind) → kind ≡ input_kind_of (kind_argument kind)
unfolding input_kind_of
kind_argument-back N.Line = refl
kind_argument-back N.Ethernet = refl
kind_argument-back N.Words = refl

-- a word counts as a code does
pub heard_after-word : (heard : Heard) (number : ℕ) (said : Quality) (time : ℕ)
    → heard_after heard kind_word number said time ≡ heard_after heard kind_line_code number said time
unfolding heard_after
heard_after-word heard number said time = refl
