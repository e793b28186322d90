-- What is right from when to when, while no event comes: what the code answers. Cited by `src/lib.rt`. Assumes nothing.
use Rattle.std.specs.Prelude.{ℕ, ◌+◌, ◌-◌, min}
use Rattle.selector.specs.declared.Selector.{Selector}
use Rattle.selector.specs.State.{ticked_once}
use Rattle.due.specs.Next.{next_due}

-- what is right from one millisecond to another, both included: what this state shows
pub record Span : Type 0 where
  pub state : Selector
  pub from : ℕ
  pub to : ℕ

-- the span that begins with a state: to before the next due moment, or up to `until`
abbrev pub span_of : Selector → ℕ → Span
span_of state until = record { state = state; from = state.time; to = min until (next_due state - 1) }

-- the state behind the end of its span: after the tick that is due there
abbrev pub state_behind : Selector → ℕ → Selector
state_behind state to = ticked_once state (min (to + 1) 18446744073709551615)

-- the span behind one that ends before `until`
abbrev pub next_span : Span → ℕ → Span
next_span span until = span_of (state_behind span.state span.to) until
