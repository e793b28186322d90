-- `verdictlines::shown::read_port` meets its contract: each way is a law.
-- Assumes nothing.
use Rattle.verdictlines.proofs.ShownLaws.{shown-laws, port-other, port-none, port_uncoded, port-told}
use native.Mathlib.Omega.{arith}
use borrow.Author.Rules.{rules}
use Rattle.verdictlines.proofs.shown.read_port.Goals as goal

pub returns-then-line-ne-CODE_LINE : goal.returns-then-line-ne-CODE_LINE
returns-then-line-ne-CODE_LINE c = search shown-laws

pub returns-then-not-all_digits : goal.returns-then-not-all_digits
returns-then-not-all_digits c = port-other _ (omega arith) _ c.all_digits.ensures (c.if-not-all_digits.true)

pub returns-then-port-gt-LAST : goal.returns-then-port-gt-LAST
returns-then-port-gt-LAST c =
    let e = c in
    port-none _ (omega arith) _ e.all_digits.ensures e.if-not-all_digits.false
    _ _ _ c.time_in-time.ensures c.octet_in-port.ensures
    c.octet_in-code.ensures (search rules)

pub returns-then-code-gt-LAST : goal.returns-then-code-gt-LAST
returns-then-code-gt-LAST c =
    let e = c in
    port_uncoded _ (omega arith) _ e.all_digits.ensures e.if-not-all_digits.false
    _ _ _ c.time_in-time.ensures c.octet_in-port.ensures
    c.octet_in-code.ensures (search rules)

pub returns : goal.returns
returns c =
    let e = c in
    port-told _ (omega arith) _ e.all_digits.ensures e.if-not-all_digits.false
    _ _ _ c.time_in-time.ensures c.octet_in-port.ensures
    c.octet_in-code.ensures (search rules) (search rules)
