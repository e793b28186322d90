-- The choice in one scan: the inputs are offered one by one, and of the one that leads its rank and priority are kept.
-- Cited by `src/lib.rt`; `leader-seeded` and `leader-offered`: so the choice of `Choice` is made. Assumes nothing.
use Rattle.std.specs.Prelude.{◌<◌, Bool, true, ◌&&◌, cond, List, ◌≡◌, ltb, get_or, Option, Some, None}
use Rattle.numbers.specs.declared.InputNumber.{InputNumber}
use Rattle.numbers.specs.Inputs.{input_count}
use Rattle.numbers.specs.Quality.{not_told}
use Rattle.choice.specs.declared.Candidate.{Candidate}
use Rattle.choice.specs.declared.Leader.{Leader}
use Rattle.choice.specs.Candidate.{nobody, is_eligible, is_better, eligible_among, better_among}
use Rattle.choice.specs.Choice.{choose}

-- a candidate leads
abbrev pub lead : InputNumber → Candidate → Leader
lead number candidate = record { selection = Some number; rank = candidate.rank; priority = candidate.priority }

-- nothing leads
abbrev pub no_leader : Leader
no_leader = record { selection = None; rank = record { 0 = 0 }; priority = record { 0 = 0 } }

-- the one selected just before leads at first, if it is eligible
unfoldable pub seed : Option InputNumber → Candidate → Leader
seed None candidate = no_leader
seed (Some earlier) candidate = cond (ltb earlier.0 input_count && is_eligible candidate) (lead earlier candidate) no_leader

-- a candidate of the leader's rank and priority
abbrev pub best_of : Leader → Candidate
best_of leader =
    record { quality = not_told; rank = leader.rank; priority = leader.priority; admitted = true; usable = true }

-- a candidate passes the one that leads: nothing does, or it is better
unfoldable pub is_passed : Option InputNumber → Candidate → Candidate → Bool
is_passed None candidate best = true
is_passed (Some leading) candidate best = is_better candidate best

-- an input is offered: a strictly better one takes over
unfoldable pub offer : Leader → InputNumber → Candidate → Leader
offer leader number candidate =
    cond (is_eligible candidate && is_passed leader.selection candidate (best_of leader)) (lead number candidate) leader

-- what is selected among candidates, with its rank and priority
unfoldable pub leader_among : List Candidate → Option InputNumber → Leader
leader_among candidates None = no_leader
leader_among candidates (Some number) = lead number (get_or candidates number.0 nobody)

-- the choice among candidates, with its rank and priority
abbrev pub chosen_among : List Candidate → Option InputNumber → Leader
chosen_among candidates before =
    leader_among candidates (choose (eligible_among candidates) (better_among candidates) before)

-- what a choice sees of an input, of the sixteen candidates
abbrev pub SeenAt : List Candidate → InputNumber → Candidate → Type 0
SeenAt candidates number candidate = number.0 < input_count → candidate ≡ get_or candidates number.0 nobody
