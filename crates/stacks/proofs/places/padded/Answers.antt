-- What is copied stands before what was there. Assumes nothing.
use Rattle.stacks.proofs.PlaceLaws.{padded_is}
use Rattle.stacks.proofs.places.padded.Goals as goal

pub returns : goal.returns
returns c = rw c.copy_from_slice.ensures.after (padded_is c.args.addresses.now c.requires)
