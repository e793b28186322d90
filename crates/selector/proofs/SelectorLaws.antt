-- An element of a list, the selected candidate, and a turn of the loop over the ports. Assumes nothing.
use Prim.Native.Nat.{ℕ, zero, suc, ◌+◌, ◌/◌, ◌%◌, ◌≤◌, ◌<◌}
use mathlib.Core.Bool.{Bool, cond}
use mathlib.Core.List.{List, [], ◌∷◌}
use mathlib.Core.Path.{◌≡◌, refl, sym, ◌∙◌, ap}
use native.Mathlib.Omega.{arith}
use native.Mathlib.Numerals.{add-one}
use lib.Dec.{eqb}
use lib.ListN.{length, get_or, set}
use Rattle.numbers.specs.Profile.{is_marked, halved}
use Rattle.input.specs.declared.Input.{Input}
use Rattle.input.specs.Record.{fresh_input}
use Rattle.selector.proofs.Filled.{filled, filled-turn}
use Rattle.selector.proofs.Ports.{port-number}
use Rattle.selector.specs.Answer.{sign_for, ports}

-- ---- get_or

-- inside a list the default does not matter
pub get_d_any : {A : Type 0} (list : List A) (number : ℕ) (d other : A) → number < length list
    → get_or list number d ≡ get_or list number other
get_d_any [] number d other h = absurd (omega arith)
get_d_any (x ∷ list) zero d other h = refl
get_d_any (x ∷ list) (suc number) d other h = get_d_any list number d other (omega arith)

-- past it there is the default alone
pub get_d_past : {A : Type 0} (list : List A) (number : ℕ) (d : A) → length list ≤ number → get_or list number d ≡ d
get_d_past [] number d h = refl
get_d_past (x ∷ list) zero d h = absurd (omega arith)
get_d_past (x ∷ list) (suc number) d h = get_d_past list number d (omega arith)

module _ (inputs : List Input) (number : ℕ) where
  pub input_at_inside : (zeroed : Input) → number < 16 → length inputs ≡ 16
      → get_or inputs number zeroed ≡ get_or inputs number fresh_input
  input_at_inside zeroed h k = let m : number < length inputs = omega arith in get_d_any inputs number zeroed fresh_input m

  pub input_at_past : (found : Input) → 16 ≤ number → length inputs ≡ 16 → found ≡ fresh_input
      → found ≡ get_or inputs number fresh_input
  input_at_past found h k e =
      let m : length inputs ≤ number = omega arith in e ∙ sym (get_d_past inputs number fresh_input m)

-- ---- sign_for, for codes and for words

-- a turn of the loop over the ports
pub sign_for-turn : {Sign : Type 0} (rule : Bool → Bool → Bool → Sign → Sign) (inputs : List Input) (mode : Bool)
    (selected marks : ℕ) (sign first : Sign) (port rest : ℕ) (into now : List Sign)
    (chosen told : Sign) (zeroed : Input)
    → now ≡ filled (sign_for rule inputs mode selected marks sign first) port ports into
    → rest ≡ halved port marks
    → chosen ≡ cond (eqb (rest % 2) 1) first sign
    → told ≡ rule mode (get_or inputs port zeroed).settings.sending (eqb selected port) chosen
    → length inputs ≡ 16
    → length into ≡ 16 → port < 16
    → set now port told ≡ filled (sign_for rule inputs mode selected marks sign first) (port + 1) ports into
unfolding sign_for
sign_for-turn {Sign = Sign} rule inputs mode selected marks sign first port rest into now chosen told zeroed e r c o h k lt =
    let m : port < length inputs = omega arith in
    let same : chosen ≡ cond (is_marked marks port) first sign =
    c ∙ ap (λ (x : ℕ). cond (eqb (x % 2) 1) first sign) r in
    filled-turn (sign_for rule inputs mode selected marks sign first) 16 port ports into now 0 told e
    (rw (port-number port lt)
    (o ∙
    ap (λ (x : Sign). rule mode (get_or inputs port zeroed).settings.sending (eqb selected port) x) same ∙
    ap
    (λ (x : Input).
    rule mode x.settings.sending (eqb selected port) (cond (is_marked marks port) first sign))
    (get_d_any inputs port zeroed fresh_input m)))
    refl
    k
    lt

-- what is left of the marks, one port on
pub halved-turn : (port marks rest : ℕ) → rest ≡ halved port marks → rest / 2 ≡ halved (port + 1) marks
unfolding halved
halved-turn port marks rest e = rw (add-one port) (ap (λ (x : ℕ). x / 2) e)

pub halved_none : (marks : ℕ) → marks ≡ halved 0 marks
unfolding halved
halved_none marks = refl

pub ruleset halved-laws = (halved-turn, halved_none)
