-- While nothing is due, what a state has shown since a time is all that its spans show. Assumes nothing.
use Prim.Native.Nat.{ℕ, ◌-◌, ◌≤◌, ◌<◌, min}
use mathlib.Core.Bool.{Bool, cond}
use mathlib.Core.List.{List, [], ◌∷◌}
use mathlib.Core.Path.{◌≡◌, refl, sym, ◌∙◌, ap}
use native.Mathlib.Omega.{arith}
use borrow.Author.Tests.{le-leb}
use Rattle.selector.specs.declared.Selector.{Selector}
use Rattle.due.specs.Next.{next_due}
use Rattle.lane.specs.declared.Lane.{Lane}
use Rattle.lanes.specs.declared.View.{View}
use Rattle.lanes.specs.Value.{value_of}
use Rattle.lanes.specs.Span.{Span, next_span}
use Rattle.verdictlines.specs.declared.Question.{Question}
use Rattle.verdictlines.specs.Told.{pushed, since_span, spans_since, over_spans, spans_told}
use Rattle.verdictlines.specs.Bench.{shown_by, right_at, QuickRight}
use Rattle.verdictlines.proofs.ToldLaws.{spans_left, left_step, left-all}

shown-value : (view : View) (state : Selector) (number : ℕ)
    → right_at view (shown_by view state) number ≡ value_of view state number
unfolding right_at value_of
shown-value view state number = refl

-- there is one span
one_span : (state : Selector) (since until : ℕ) → until < next_due state
    → spans_since state since until ≡ since_span state since until ∷ []
one_span state since until before =
    let reached : until ≤ min until (next_due state - 1) = omega arith in
    sym (left-all state since until) ∙
    left_step 48 (since_span state since until) until ∙
    ap (λ (test : Bool). since_span state since until ∷
    cond test [] (spans_left 48 (next_span (since_span state since until) until) until))
    (le-leb until (min until (next_due state - 1)) reached)

told-one : (question : Question) (number : ℕ) (span : Span) (lane : Lane) (room : List ℕ)
    → spans_told question number (span ∷ []) lane room ≡
    pushed question number lane room span.from span.to (value_of question.view span.state number)
unfolding over_spans
told-one question number span lane room = refl

-- THE QUICK WAY OF A SHOWN LINE tells a lane what all spans would.
pub quick-right : (question : Question) (number : ℕ) (state : Selector) (since until : ℕ) (lane : Lane) (room : List ℕ)
    → QuickRight question number state since until lane room
quick-right question number state since until lane room =
    record {
      told = λ before.
          let to : until ≡ min until (next_due state - 1) = omega arith in
          (λ j. pushed question number lane room since (to j) (shown-value question.view state number j)) ∙
          sym (told-one question number (since_span state since until) lane room) ∙
          sym (ap (λ (spans : List Span). spans_told question number spans lane room)
          (one_span state since until before));
    }
