-- A frame's header in wide comparisons: what octets 13 to 20 together and octets 21 to 27 together say of it.
-- Assumes nothing.
use Prim.Native.Nat.{ℕ, ◌*◌, ◌/◌, ◌%◌, ◌≤◌, ◌<◌}
use mathlib.Core.Bool.{Bool, true, false, ◌&&◌}
use mathlib.Core.List.{List, [], ◌∷◌, ◌++◌}
use mathlib.Core.Path.{◌≡◌, refl, subst, ◌∙◌}
use native.Mathlib.Nat.{mod-eq_of_lt}
use native.Mathlib.Omega.{arith}
use borrow.Author.Tests.{eq-eqb, ne_eqb, eqb-true, eqb-false}
use lib.Bits.{bit_and, and_zero_r, and_mask, and_high}
use lib.Dec.{eqb}
use lib.ListN.{length, get_or, take, drop, length-drop}
use lib.Seq.{drop-cons, drop-drop, take-take, length-take-le}
use Rattle.frame.specs.Octets.{protocol, organisation, version, half, same, has_octets}
use Rattle.frame.specs.Read.{right_protocol, right_organisation, right_version, right_tlv}
use Rattle.frame.proofs.Words.{low_first, low_first_at, low_first_same, masked, low_first_masked, Octets, octets-small, octets-masked, octets-drop, octets-take, same-split, drop-take}

-- the upper half of an octet, where it stands
upper-same : (value : ℕ) → value < 256 → eqb (value / 16 % 16 * 16) (half * version) ≡ eqb (value / half) version
upper-same value small =
    let below : value / 16 < 16 = omega arith in rw (mod-eq_of_lt below) (go (eqb (value / half) version) refl)
  where
    go : (test : Bool) → eqb (value / half) version ≡ test → eqb (value / 16 * 16) (half * version) ≡ test
    go true equal =
        let one = eqb-true (value / half) version equal in eq-eqb (value / 16 * 16) (half * version) (omega arith)
    go false differs =
        ne_eqb (value / 16 * 16) (half * version) (λ equal. eqb-false (value / half) version differs (omega arith))

-- of octets 21 to 28, the bits that are looked at
abbrev looked_at : List ℕ
looked_at = 0xf0 ∷ 0 ∷ 0 ∷ 0 ∷ 0xff ∷ 0xff ∷ 0xff ∷ 0 ∷ []

-- and what they have to be
abbrev sought_there : List ℕ
sought_there = half * version ∷ 0 ∷ 0 ∷ 0 ∷ 0x01 ∷ 0x00 ∷ 0x04 ∷ 0 ∷ []

-- eight octets of which four are looked at, the first in its upper half
four_looked_at : (a b c d e f g h : ℕ) → Octets (a ∷ b ∷ c ∷ d ∷ e ∷ f ∷ g ∷ h ∷ [])
    → eqb (bit_and (low_first (a ∷ b ∷ c ∷ d ∷ e ∷ f ∷ g ∷ h ∷ [])) (low_first looked_at)) (low_first sought_there)
    ≡ (eqb (a / half) version && (eqb e 0x01 && (eqb f 0x00 && (eqb g 0x04 && true))))
unfolding same
four_looked_at a b c d e f g h octets =
    let row = a ∷ b ∷ c ∷ d ∷ e ∷ f ∷ g ∷ h ∷ [] in
    rw (low_first_masked row looked_at refl octets (octets-small looked_at refl))
    (low_first_same (masked row looked_at) sought_there refl (octets-masked row looked_at octets)
    (octets-small sought_there refl)
    ∙ rw (
      and_high a 4 4,
      and_zero_r b,
      and_zero_r c,
      and_zero_r d,
      and_mask e 8,
      and_mask f 8,
      and_mask g 8,
      and_zero_r h,
      mod-eq_of_lt (octets 4).fits,
      mod-eq_of_lt (octets 5).fits,
      mod-eq_of_lt (octets 6).fits,
      upper-same a (octets 0).fits,
    ))

module _ (frame : List ℕ) (long : 28 ≤ length frame) where
  -- octets 13 to 20 in one row
  pub protocol_and_organisation :
      has_octets frame 13 (protocol ++ organisation) ≡ (right_protocol frame && right_organisation frame)
  unfolding right_protocol right_organisation
  protocol_and_organisation =
      let long : 3 ≤ length (take 8 (drop 12 frame)) =
      omega (arith, length-take-le 8 (drop 12 frame) (omega (arith, length-drop 12 frame))) in
      rw (drop-take 12 8 frame, drop-take 12 3 frame, drop-take 15 5 frame)
      (same-split 3 (take 8 (drop 12 frame)) (protocol ++ organisation) long (omega arith)
      ∙ rw (take-take 3 8 (drop 12 frame) (omega arith), drop-take 3 5 (drop 12 frame), drop-drop 3 12 frame))

  -- octets 21 to 28 in one number
  pub version_and_tlv : Octets frame
      → eqb (bit_and (low_first_at 8 frame 20) (low_first looked_at)) (low_first sought_there)
      ≡ (right_version frame && right_tlv frame)
  unfolding right_version right_tlv same
  version_and_tlv octets =
      let eight : take 8 (drop 20 frame)
      ≡ get_or frame 20 0 ∷ get_or frame 21 0 ∷ get_or frame 22 0 ∷ get_or frame 23 0
      ∷ get_or frame 24 0 ∷ get_or frame 25 0 ∷ get_or frame 26 0 ∷ get_or frame 27 0 ∷ [] =
      rw (
        drop-cons frame 20 0 (omega arith),
        drop-cons frame 21 0 (omega arith),
        drop-cons frame 22 0 (omega arith),
        drop-cons frame 23 0 (omega arith),
        drop-cons frame 24 0 (omega arith),
        drop-cons frame 25 0 (omega arith),
        drop-cons frame 26 0 (omega arith),
        drop-cons frame 27 0 (omega arith),
      ) in
      let three : take 3 (drop 24 frame) ≡ get_or frame 24 0 ∷ get_or frame 25 0 ∷ get_or frame 26 0 ∷ [] =
      rw (
        drop-cons frame 24 0 (omega arith),
        drop-cons frame 25 0 (omega arith),
        drop-cons frame 26 0 (omega arith),
      ) in
      let small : Octets (take 8 (drop 20 frame)) = octets-take 8 (drop 20 frame) (octets-drop 20 frame octets) in
      rw (drop-take 24 3 frame, eight, three) (four_looked_at _ _ _ _ _ _ _ _ (subst Octets eight small))
