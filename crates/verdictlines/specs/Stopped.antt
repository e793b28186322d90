-- Whether writing goes on, and what a function that writes leaves of that. Cited by `src/stretch.rt`. Assumes nothing.
use Rattle.std.specs.Prelude.{ℕ, ◌≤◌, ◌≡◌}

-- all was taken so far
abbrev pub going : ℕ
going = 0

-- nobody reads any more; between the two stands that a write failed
abbrev pub closed : ℕ
closed = 2

-- one of these three
abbrev pub IsMark : ℕ → Type 0
IsMark mark = mark ≤ closed

-- where writing had stopped it stays as it was; otherwise it goes on, failed, or nobody reads
pub record StaysStopped (before after : ℕ) : Type 0 where
  pub stays : (before ≡ going → ⊥) → after ≡ before
  pub marked : before ≡ going → IsMark after
