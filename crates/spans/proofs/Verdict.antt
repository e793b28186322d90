-- A lane that is told the spans of the events is judged by the law: `specs/Verdict`. Assumes nothing.
use Prim.Native.Nat.{ℕ, ◌+◌, ◌≤◌}
use mathlib.Core.Logic.{◌↔◌}
use native.Mathlib.Omega.{arith}
use Rattle.events.specs.Given.{Sequence}
use Rattle.lane.specs.declared.Tolerance.{Tolerance}
use Rattle.lane.specs.Shown.{Tellings, Rightness, Wrong}
use Rattle.lane.specs.History.{Happenings, RightIn, tellings, stretches_after}
use Rattle.lane.specs.Exact.{InAny}
use Rattle.lane.proofs.Exact.{lane-exact}
use Rattle.lanes.specs.declared.View.{View}
use Rattle.spans.specs.Spans.{RightBy}
use Rattle.spans.specs.Verdict.{Told, JudgedByLaw}
use Rattle.spans.proofs.Spans.{right-exactly}

-- what is wrong up to the end rests on what is right up to EARLY behind it
wrong_as : (tolerance : Tolerance) (One Other : Rightness) (told : Tellings)
    → ((moment value : ℕ) → moment ≤ tolerance.end + tolerance.early → Other moment value → One moment value)
    → (time : ℕ) → time ≤ tolerance.end → Wrong tolerance One told time
    → Wrong tolerance Other told time
wrong_as tolerance One Other told same time end w = (
  w.0,
  w.1,
  λ g. let soon = g.2 in w.2 (g.0, g.1, g.2, same g.0 w.0 (omega arith) g.3),
)

-- NO WRONG CARD PASSES AND NO RIGHT ONE IS ACCUSED, by the events.
pub judged-by_law : (tolerance : Tolerance) (view : View) (lane : ℕ) (events : Sequence) (happenings : Happenings)
    → Told tolerance view lane events happenings
    → JudgedByLaw tolerance view lane events happenings
judged-by_law tolerance view lane events happenings told =
    let exact = lane-exact tolerance told.near happenings told.orderly told.whole in
    let right = right-exactly view lane events (tolerance.end + tolerance.early) told.below told.last in
    let to : (moment value : ℕ) → moment ≤ tolerance.end + tolerance.early → RightBy view lane events moment value
    → RightIn happenings moment value =
    λ moment value most r. (told.spans moment value most).1 ((right.exact moment value most).0 r) in
    let back : (moment value : ℕ) → moment ≤ tolerance.end + tolerance.early → RightIn happenings moment value
    → RightBy view lane events moment value =
    λ moment value most r. (right.exact moment value most).1 ((told.spans moment value most).0 r) in
    let wrong : (time : ℕ)
    → ((time ≤ tolerance.end) × Wrong tolerance (RightBy view lane events) (tellings happenings) time)
    ↔ InAny (stretches_after tolerance happenings) time =
    λ time. (
      λ w. (exact.wrong time).0 (
        w.0,
        wrong_as tolerance (RightBy view lane events) (RightIn happenings)
            (tellings happenings) back time w.0 w.1,
      ),
      λ i. let w = (exact.wrong time).1 i in (
        w.0,
        wrong_as tolerance (RightIn happenings) (RightBy view lane events)
            (tellings happenings) to time w.0 w.1,
      ),
    ) in
    record {
      wrong = wrong;
      passes = (
        λ none time end w. none time ((wrong time).0 (end, w)),
        λ within time i. let w = (wrong time).1 i in within time w.0 w.1,
      );
    }
