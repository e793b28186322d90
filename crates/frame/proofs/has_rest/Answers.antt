-- `frame::has_rest` meets its contract: nothing is left, or one octet, or two, or two and then one.
-- Assumes nothing.
use Prim.Native.Nat.{◌+◌}
use mathlib.Core.Path.{sym, ◌∙◌}
use native.Mathlib.Omega.{arith}
use borrow.Author.Tests.{eq-eqb, ne_eqb}
use Rattle.frame.proofs.Words.{low_first_one, has_rest-last, has_rest_several, has_rest-end}
use Rattle.frame.proofs.has_rest.Goals as goal

pub returns-in-0 : goal.returns-in-0
returns-in-0 c = let args = c.args in sym (has_rest-end args.row.now args.wanted.now args.place args.start (omega arith))

pub returns-in-1 : goal.returns-in-1
returns-in-1 c =
    let args = c.args in
    sym
    (has_rest-last args.row.now args.wanted.now c.type_inv.row c.type_inv.wanted
    args.place args.start 1 (omega arith) (omega arith)
    ∙ rw (low_first_one args.row.now args.place (omega arith), low_first_one args.wanted.now args.start (omega arith)))

pub returns-in-2 : goal.returns-in-2
returns-in-2 c =
    let args = c.args in
    rw (c.two_octets.ensures, c.two_octets-in-2.ensures)
    (sym
    (has_rest-last args.row.now args.wanted.now c.type_inv.row c.type_inv.wanted
    args.place args.start 2 (omega arith) (omega arith)))

pub returns-then-two_octets : goal.returns-then-two_octets
returns-then-two_octets c =
    let args = c.args in
    sym
    (has_rest_several args.row.now args.wanted.now c.type_inv.row c.type_inv.wanted
    args.place args.start 2 (omega arith) (omega arith)
    ∙ rw (
      ← c.two_octets-in_default.ensures,
      ← c.two_octets-in_default-2.ensures,
      eq-eqb _ _ c.if-two_octets.true,
      has_rest-last args.row.now args.wanted.now c.type_inv.row c.type_inv.wanted
          (args.place + 2) (args.start + 2) 1 (omega arith) (omega arith),
      low_first_one args.row.now (args.place + 2) (omega arith),
      low_first_one args.wanted.now (args.start + 2) (omega arith),
    ))

pub returns-else-two_octets : goal.returns-else-two_octets
returns-else-two_octets c =
    let args = c.args in
    sym
    (has_rest_several args.row.now args.wanted.now c.type_inv.row c.type_inv.wanted
    args.place args.start 2 (omega arith) (omega arith)
    ∙ rw (
      ← c.two_octets-in_default.ensures,
      ← c.two_octets-in_default-2.ensures,
      ne_eqb _ _ c.if-two_octets.false,
    ))
