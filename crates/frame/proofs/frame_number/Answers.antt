-- `frame::frame_number` meets its contract: a test of several parts says of each what its own test would say.
-- Assumes nothing.
use Prim.Native.Nat.{ℕ}
use mathlib.Core.Bool.{Bool, true, false, ◌&&◌}
use mathlib.Core.List.{List}
use mathlib.Core.Path.{◌≡◌, sym, ap, ◌∙◌}
use native.Mathlib.Omega.{arith}
use borrow.Author.Tests.{eq-eqb, ne_eqb, not-true, not-false}
use Rattle.frame.specs.Octets.{upper_half, destination, protocol, has_octets}
use Rattle.std.proofs.lemmas.Grind.{common_steps}
use Rattle.numbers.specs.Rows.{first_that_applies}
use Rattle.frame.specs.Read.{frame_number, right_length, right_destination, right_protocol, right_organisation, right_version}
use Rattle.frame.proofs.ReadLaws.{right_length-right, frame_number-organisation, frame_number-version, frame_number-tlv}
use Rattle.frame.proofs.Header.{protocol_and_organisation}
use Rattle.numbers.proofs.Truth.{both_first, both-second}
use Rattle.frame.proofs.frame_number.Goals as goal

-- ---- two parts together
second-false : (one other : Bool) → one ≡ true → (one && other) ≡ false → other ≡ false
second-false one other first both = rw first at both

-- ---- what is known of the frame where a test is passed
destination-found : (frame : List ℕ) (found : Bool) → found ≡ has_octets frame 1 destination → right_destination frame ≡ found
unfolding right_destination
destination-found frame found is = sym is

protocol-found : (frame : List ℕ) (found : Bool) → found ≡ has_octets frame 13 protocol → right_protocol frame ≡ found
unfolding right_protocol
protocol-found frame found is = sym is

rows_right : (frame : List ℕ) → (right_protocol frame && right_organisation frame) ≡ true
    → (right_protocol frame ≡ true) × (right_organisation frame ≡ true)
rows_right frame both =
    (both_first (right_protocol frame) (right_organisation frame) both, both-second (right_protocol frame) (right_organisation frame) both)

-- ---- the needs
pub returns-then-not-has_octets-2 : goal.returns-then-not-has_octets-2
returns-then-not-has_octets-2 c =
    let frame = c.args.frame.now in
    let both_found : c.has_octets-2.result ≡ (right_protocol frame && right_organisation frame) =
    c.has_octets-2.ensures ∙ protocol_and_organisation frame (omega arith) in
    let slow = protocol-found frame _ c.has_octets-then-not-has_octets-2.ensures ∙ not-false _ c.if-not-has_octets-3.false-raw in
    frame_number-organisation frame
    (right_length-right frame c.if-frame-lt-SHORTEST_FRAME.false c.if-frame-gt-LONGEST_FRAME.false)
    (destination-found frame _ c.has_octets.ensures ∙ not-false _ c.if-not-has_octets.false-raw) slow
    (second-false _ _ slow (sym both_found ∙ not-true _ c.if-not-has_octets-2.true-raw))

pub returns-then-octet-ne-VERSION : goal.returns-then-octet-ne-VERSION
unfolding right_version
returns-then-octet-ne-VERSION c =
    let frame = c.args.frame.now in
    let both_found : c.has_octets-2.result ≡ (right_protocol frame && right_organisation frame) =
    c.has_octets-2.ensures ∙ protocol_and_organisation frame (omega arith) in
    let both = rows_right frame (sym both_found ∙ not-false _ c.if-not-has_octets-2.false-raw) in
    frame_number-version frame
    (right_length-right frame c.if-frame-lt-SHORTEST_FRAME.false c.if-frame-gt-LONGEST_FRAME.false)
    (destination-found frame _ c.has_octets.ensures ∙ not-false _ c.if-not-has_octets.false-raw)
    both.0 both.1
    (ne_eqb _ _ (λ equal. c.if-octet-ne-VERSION.true (ap upper_half c.octet.ensures ∙ equal)))

pub returns-then-not-has_version_and_tlv : goal.returns-then-not-has_version_and_tlv
unfolding right_version
returns-then-not-has_version_and_tlv c =
    let frame = c.args.frame.now in
    let both_found : c.has_octets-2.result ≡ (right_protocol frame && right_organisation frame) =
    c.has_octets-2.ensures ∙ protocol_and_organisation frame (omega arith) in
    let both = rows_right frame (sym both_found ∙ not-false _ c.if-not-has_octets-2.false-raw) in
    let known = eq-eqb _ _ (ap upper_half (sym c.octet.ensures) ∙ c.if-octet-ne-VERSION.false) in
    frame_number-tlv frame
    (right_length-right frame c.if-frame-lt-SHORTEST_FRAME.false c.if-frame-gt-LONGEST_FRAME.false)
    (destination-found frame _ c.has_octets.ensures ∙ not-false _ c.if-not-has_octets.false-raw)
    both.0 both.1 known
    (second-false _ _ known (sym c.has_version_and_tlv.ensures ∙ not-true _ c.if-not-has_version_and_tlv.true-raw))

pub returns : goal.returns
unfolding frame_number first_that_applies right_length right_destination
returns c =
    let both = protocol_and_organisation c.args.frame.now (omega arith) in grind (arith, common_steps)
