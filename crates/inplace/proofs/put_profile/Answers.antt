-- `inplace::put_profile` meets its contract. Assumes nothing.
use Rattle.inplace.proofs.Once.{profile-stored}
use Rattle.inplace.proofs.put_profile.Goals as goal

pub returns : goal.returns
returns c = let args = c.args in
    profile-stored args.small.now args.wider.now args.profile c.option_of.result
    c.prov_place_of.result
    c.marks_of.result
    c.told-small
    c.told-wider
    c.option_of.ensures
    c.prov_place_of.ensures
    c.marks_of.ensures
