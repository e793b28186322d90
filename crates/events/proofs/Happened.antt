-- What the code keeps is what has happened, after any sequence of events. Assumes nothing.
use Prim.Native.Nat.{ℕ}
use mathlib.Core.List.{map}
use mathlib.Core.Path.{sym, ◌∙◌, subst}
use Rattle.switch.proofs.Selecting.{waslocked-right}
use Rattle.events.specs.Sequence.{Sequence}
use Rattle.events.specs.Past.{seen, recorded, made_in}
use Rattle.events.specs.Happened.{MadeAt, Happened}
use Rattle.events.proofs.Agrees.{sequence-agrees, sequence-number, recorded-profile}
use Rattle.events.proofs.Stated.{candidate-stated}

-- What has happened is what the code keeps, for every sequence of events.
pub happened : (sequence : Sequence) → Happened sequence
happened sequence =
    let agrees = sequence-agrees sequence in
    record {
      number = sequence-number sequence;
      ordered = agrees.ordered;
      time = agrees.time;
      profile = agrees.profile ∙ recorded-profile sequence;
      recorded_profile = recorded-profile sequence;
      switch = agrees.switch;
      selection = agrees.selection;
      waslocked = agrees.waslocked;
      made_at =
          subst (λ (time : ℕ). MadeAt (recorded sequence) time (made_in sequence)) (sym agrees.time) agrees.made_at;
      eligibility = candidate-stated (recorded sequence);
      was_locked_right = waslocked-right (map seen (made_in sequence));
    }
