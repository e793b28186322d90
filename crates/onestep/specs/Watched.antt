-- The watch of `quickstep` as lists of numbers: those of a state, a time before which nothing is due, and what was
-- answered last with how many due moments were served. Cited by `src/watch.rt` and `src/held.rt`. Assumes nothing.
use Rattle.std.specs.Prelude.{ℕ, List, get_or}
use Rattle.numbers.specs.declared.Answer.{Answer}
use Rattle.selector.specs.declared.Selector.{Selector}
use Rattle.inplace.specs.Lists.{rest, selector_at}
use Rattle.onestep.specs.declared.held.Held.{Held}
use Rattle.quickstep.specs.Watch.{Watch, watch_of}

-- an answer, by its six values in the order of an answer line
abbrev pub six_values : (ℕ → ℕ) → Answer
six_values told =
    record {
      number = told 0;
      selected = told 1;
      clockstate = told 2;
      clockquality = told 3;
      switchkind = told 4;
      switchinput = told 5;
    }

-- the answer that a list holds
abbrev pub answer_in : List ℕ → Answer
answer_in told = six_values (rest told 0)

-- the watch of a state that two lists hold; the count of due moments stands behind the answer
abbrev pub watch_held : Selector → List ℕ → List ℕ → Watch
watch_held state due told = watch_of state (get_or due 0 0) (answer_in told) (get_or told 6 0)

-- the watch that five lists hold
unfoldable pub watch_at : List ℕ → List ℕ → List ℕ → List ℕ → List ℕ → Watch
watch_at times small wider due told = watch_held (selector_at times small wider) due told

-- the watch that five arrays by value hold
abbrev pub watch_in : Held → Watch
watch_in held = watch_at held.times held.small held.wider held.due held.told
