-- Document 02, L14: "Counts of L4 are left out of this": they may differ. Input 3 is off and has a fixed quality; in one
-- run its signal comes good at 50 and its wait of five minutes ends, in the other it stays failing. The hold-offs of all
-- fresh inputs end at 300 in both. Assumes nothing.
use Rattle.std.specs.Prelude.{◌≡◌}
use Rattle.numbers.specs.declared.profile.Profile.TheVariants as P
use Rattle.numbers.specs.From.{started, ◌following◌}
use Rattle.numbers.specs.Kind.{kind_signal, kind_fixed_quality, kind_tick}
use Rattle.events.specs.Cases.{plain}
use Rattle.events.specs.Sequence.{Sequence, count_after}
use Rattle.undertest.specs.UnderTest.{EqualButFor}

-- the two runs
abbrev pub good : Sequence
good = plain kind_signal 50 3 0 following plain kind_fixed_quality 0 3 1 following started P.OptionOne

abbrev pub failing : Sequence
failing = plain kind_signal 50 3 1 following plain kind_fixed_quality 0 3 1 following started P.OptionOne

pub record CountsDiffer : Type 0 where
  -- they differ in a report on that input alone
  pub runs : EqualButFor 3 good failing
  -- a tick at 300,100 serves 300 and 300,050, or 300 alone
  pub one : count_after (plain kind_tick 300100 0 0) good ≡ 2
  pub other : count_after (plain kind_tick 300100 0 0) failing ≡ 1
