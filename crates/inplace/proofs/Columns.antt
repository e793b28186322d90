-- One law for every field: numbers stored at the fields of one input change that input, by those fields, and nothing
-- else. Assumes nothing.
use Prim.Native.Nat.{ℕ, ◌+◌, ◌*◌, ◌<◌, ◌≤◌}
use mathlib.Core.Bool.{Bool, true, false, cond, ◌&&◌}
use mathlib.Core.List.{List, [], ◌∷◌}
use mathlib.Core.Path.{◌≡◌, refl, sym, ap, ◌∙◌, fun_ext}
use native.Mathlib.Omega.{arith}
use lib.Dec.{eqb, ltb}
use lib.ListN.{set, length, length-set}
use lib.Seq.{get_or-set_same, get_or-set_other}
use borrow.Author.Tests.{eqb-true, eqb-false, ltb-true}
use mir.Val.{bool_byte}
use Rattle.numbers.specs.Kind.{kind_argument}
use Rattle.input.proofs.RecordLaws.{kind_argument-back}
use Rattle.numbers.proofs.Truth.{by_bool, both_first, both-second}
use Rattle.run.specs.declared.Run.{Run}
use Rattle.input.specs.declared.Input.{Input}
use Rattle.input.specs.Record.{with_run}
use Rattle.selector.proofs.Ports.{but_at, set-ports, ports-same}
use Rattle.inplace.specs.Lists.{is_set, column, rest, input_in, input_at, selector_in, selector_at, with_input}

-- numbers stored at fields of one input, one after another, in a list
abbrev pub writes : List ℕ → ℕ → List (ℕ × ℕ) → List ℕ
writes list at [] = list
writes list at (pair ∷ pairs) = writes (set list (at + 16 * pair.0) pair.1) at pairs

-- a function with another value at one place
abbrev pub put : (ℕ → ℕ) → ℕ → ℕ → ℕ → ℕ
put fields field value other = cond (eqb other field) value (fields other)

-- the same, of the input's fields
abbrev pub puts : (ℕ → ℕ) → List (ℕ × ℕ) → ℕ → ℕ
puts fields [] = fields
puts fields (pair ∷ pairs) = puts (put fields pair.0 pair.1) pairs

-- each field is one of the first so many
abbrev pub all_below : ℕ → List (ℕ × ℕ) → Bool
all_below count [] = true
all_below count (pair ∷ pairs) = ltb pair.0 count && all_below count pairs

-- ---- one number

set_same : (list : List ℕ) (field at value : ℕ) → at + 16 * field < length list
    → column (set list (at + 16 * field) value) at ≡ put (column list at) field value
set_same list field at value h =
    fun_ext
    (λ other.
    by_bool (eqb other field)
    (λ e.
    let k : other ≡ field = eqb-true other field e in
    rw (e, k) (get_or-set_same list (at + 16 * field) value 0 h))
    (λ e.
    let k : other ≡ field → ⊥ = eqb-false other field e in
    rw e (get_or-set_other list (at + 16 * field) (at + 16 * other) value 0 (λ q. k (omega arith)))))

set_other : (list : List ℕ) (field at other value : ℕ) → at < 16 → other < 16 → (other ≡ at → ⊥)
    → column (set list (at + 16 * field) value) other ≡ column list other
set_other list field at other value h k differ =
    fun_ext
    (λ place.
    get_or-set_other list (at + 16 * field) (other + 16 * place) value 0 (λ q. differ (omega arith)))

set_rest : (list : List ℕ) (field at value from : ℕ) → at + 16 * field < from
    → rest (set list (at + 16 * field) value) from ≡ rest list from
set_rest list field at value from h =
    fun_ext (λ place. get_or-set_other list (at + 16 * field) (from + place) value 0 (λ q. omega arith))

-- ---- any numbers, at fields of one input

module _ (count at : ℕ) (small : at < 16) where
  pub writes-same : (pairs : List (ℕ × ℕ)) (list : List ℕ) → all_below count pairs ≡ true → 16 * count ≤ length list
      → column (writes list at pairs) at ≡ puts (column list at) pairs
  writes-same [] list below long = refl
  writes-same (pair ∷ pairs) list below long =
      let a : pair.0 < count = ltb-true _ _ (both_first (ltb pair.0 count) (all_below count pairs) below) in
      let b : all_below count pairs ≡ true = both-second (ltb pair.0 count) (all_below count pairs) below in
      let l : length (set list (at + 16 * pair.0) pair.1) ≡ length list = length-set list _ _ in
      writes-same pairs (set list (at + 16 * pair.0) pair.1) b (omega arith) ∙
      ap (λ (fields : ℕ → ℕ). puts fields pairs) (set_same list pair.0 at pair.1 (omega arith))

  pub writes-other : (pairs : List (ℕ × ℕ)) (list : List ℕ) (other : ℕ) → other < 16 → (other ≡ at → ⊥)
      → column (writes list at pairs) other ≡ column list other
  writes-other [] list other h differ = refl
  writes-other (pair ∷ pairs) list other h differ =
      writes-other pairs (set list (at + 16 * pair.0) pair.1) other h differ ∙
      set_other list pair.0 at other pair.1 small h differ

  pub writes-rest : (pairs : List (ℕ × ℕ)) (list : List ℕ) → all_below count pairs ≡ true
      → rest (writes list at pairs) (16 * count) ≡ rest list (16 * count)
  writes-rest [] list below = refl
  writes-rest (pair ∷ pairs) list below =
      let a : pair.0 < count = ltb-true _ _ (both_first (ltb pair.0 count) (all_below count pairs) below) in
      let b : all_below count pairs ≡ true = both-second (ltb pair.0 count) (all_below count pairs) below in
      writes-rest pairs (set list (at + 16 * pair.0) pair.1) b ∙
      set_rest list pair.0 at pair.1 (16 * count) (omega arith)

-- ---- the state

-- the input whose fields were stored
abbrev pub stored : List ℕ → List ℕ → List ℕ → ℕ → List (ℕ × ℕ) → List (ℕ × ℕ) → List (ℕ × ℕ) → Input
stored times small wider at ts ss ws =
    input_in (puts (column times at) ts) (puts (column small at) ss) (puts (column wider at) ws)

module _ (times small wider : List ℕ) (at : ℕ) (h : at < 16) (ts ss ws : List (ℕ × ℕ))
    (tb : all_below 2 ts ≡ true) (sb : all_below 14 ss ≡ true) (wb : all_below 2 ws ≡ true)
    (tsame : column (writes times at ts) at ≡ puts (column times at) ts)
    (ssame : column (writes small at ss) at ≡ puts (column small at) ss)
    (wsame : column (writes wider at ws) at ≡ puts (column wider at) ws) where
  each : (port : ℕ) → port < 16
      → input_at (writes times at ts) (writes small at ss) (writes wider at ws) port
      ≡ but_at (input_at times small wider) (stored times small wider at ts ss ws) at port
  unfolding input_at
  each port k =
      by_bool (eqb port at)
      (λ e.
      let q : port ≡ at = eqb-true port at e in
      rw (e, q)
      (λ j.
      input_in (tsame j) (ssame j) (wsame j)))
      (λ e.
      let differ : port ≡ at → ⊥ = eqb-false port at e in
      rw e
      (λ j.
      input_in (writes-other 2 at h ts times port k differ j) (writes-other 14 at h ss small port k differ j)
      (writes-other 2 at h ws wider port k differ j)))

  pub selector_stored : selector_at (writes times at ts) (writes small at ss) (writes wider at ws)
      ≡ with_input (selector_at times small wider) at (stored times small wider at ts ss ws)
  unfolding selector_at
  selector_stored = λ j.
      selector_in
      ((ports-same (input_at (writes times at ts) (writes small at ss) (writes wider at ws))
      (but_at (input_at times small wider) (stored times small wider at ts ss ws) at)
      each ∙
      sym (set-ports (input_at times small wider) (stored times small wider at ts ss ws) at h))
      j)
      (writes-rest 2 at h ts times tb j)
      (writes-rest 14 at h ss small sb j)
      (writes-rest 2 at h ws wider wb j)

-- a yes or no stored, read again
pub is_set_byte : (test : Bool) → is_set (bool_byte test) ≡ test
is_set_byte true = refl
is_set_byte false = refl

-- ---- what is stored together

pub run_stored : (times small wider : List ℕ) (at : ℕ) (run : Run) → at < 16
    → length times ≡ 33 → length small ≡ 232
    → selector_at (set times (at + 16) run.began)
    (set (set (set small (at + 64) run.good.0) (at + 80) (bool_byte run.failed)) (at + 96) (bool_byte run.up))
    wider
    ≡ with_input (selector_at times small wider) at (with_run (input_at times small wider at) run)
unfolding input_at
run_stored times small wider at run h long wide =
    let ts : List (ℕ × ℕ) = (1, run.began) ∷ [] in
    let ss : List (ℕ × ℕ) = (4, run.good.0) ∷ (5, bool_byte run.failed) ∷ (6, bool_byte run.up) ∷ [] in
    selector_stored times small wider at h ts ss [] refl refl refl
    (writes-same 2 at h ts times refl (omega arith))
    (writes-same 14 at h ss small refl (omega arith))
    refl ∙
    ap (λ (input : Input). with_input (selector_at times small wider) at input)
    (rw (is_set_byte run.failed, is_set_byte run.up))

-- the numbers of an input, beside that of its kind
abbrev pub times_of : Input → List (ℕ × ℕ)
times_of input = (0, input.heard.framed) ∷ (1, input.run.began) ∷ []

abbrev pub wider_of : Input → List (ℕ × ℕ)
wider_of input = (0, input.heard.last) ∷ (1, input.settings.holdoff) ∷ []

abbrev pub small_of : Input → ℕ → List (ℕ × ℕ)
small_of input kind =
    (0, input.heard.frame.0) ∷ (1, input.heard.linequality.0) ∷ (2, input.heard.reports) ∷
    (3, bool_byte input.heard.signal) ∷
    (4, input.run.good.0) ∷
    (5, bool_byte input.run.failed) ∷
    (6, bool_byte input.run.up) ∷
    (7, input.settings.wait) ∷
    (8, input.settings.priority.0) ∷
    (9, input.settings.fixed.0) ∷
    (10, input.settings.floor) ∷
    (11, kind) ∷
    (12, bool_byte input.settings.locked) ∷
    (13, bool_byte input.settings.sending) ∷
    []

pub input-stored : (times small wider : List ℕ) (at : ℕ) (input : Input) (kind : ℕ) → at < 16
    → length times ≡ 33 → length small ≡ 232 → length wider ≡ 33
    → kind ≡ kind_argument input.settings.kind
    → selector_at (writes times at (times_of input)) (writes small at (small_of input kind))
    (writes wider at (wider_of input))
    ≡ with_input (selector_at times small wider) at input
input-stored times small wider at input kind h long wide high k =
    selector_stored times small wider at h (times_of input) (small_of input kind) (wider_of input) refl refl refl
    (writes-same 2 at h (times_of input) times refl (omega arith))
    (writes-same 14 at h (small_of input kind) small refl (omega arith))
    (writes-same 2 at h (wider_of input) wider refl (omega arith)) ∙
    ap (λ (one : Input). with_input (selector_at times small wider) at one)
    (rw (
      is_set_byte input.heard.signal,
      is_set_byte input.run.failed,
      is_set_byte input.run.up,
      is_set_byte input.settings.locked,
      is_set_byte input.settings.sending,
      k,
      ← kind_argument-back input.settings.kind,
    ))
