-- What has come since a fresh start, one thing after the other. Document 02, L10: "A profile chosen once, at the fresh
-- start". Assumes nothing.
use Rattle.numbers.specs.declared.profile.Profile.{Profile}

infixr 20 ◌following◌
-- a fresh start of a profile, and what came after it, the latest first
pub data From (Thing : Type 0) : Type 0 where
  started : Profile → From Thing
  ◌following◌ : Thing → From Thing → From Thing

-- the profile of the start
abbrev pub profile_of : {Thing : Type 0} → From Thing → Profile
profile_of (started profile) = profile
profile_of (thing following earlier) = profile_of earlier
